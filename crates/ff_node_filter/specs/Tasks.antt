-- The task of a filter, and where a filter's view meets the past of a machine.
use Rattle.std.specs.Prelude.{◌≡◌, ◌↔◌, ℕ, zero, suc, ◌<◌, Bool, true, false, List, [], ◌∷◌, length, Option, Some, None}
use Rattle.ff_stream.specs.declared.item.Lane.{Lane}
use Rattle.ff_stream.specs.Stream.{broken}
use Rattle.ff_stream.specs.Ports.{nothing, stream_at, AllBelow, AllUnbroken, IsClosed}
use Rattle.ff_net.specs.declared.fault.Fault.{Fault}
use Rattle.ff_net.specs.declared.fault.Fault.TheVariants.{TooLong}
use Rattle.ff_net.specs.Ways.{AreValid}
use Rattle.ff_net.specs.Pasts.{Task, Past, IsIn, no_events}
use Rattle.ff_net.specs.laws.Laws.{CauseStays, IsSilent}
use Rattle.ff_filter.specs.Joins.{Flow, Ports, silence, joined, all_joined, Grows, HidesBreaks}
use Rattle.ff_filter.specs.Views.{View}

-- the first n ports as a list
abbrev pub listed : ℕ → Ports → List Flow
listed zero g = []
listed (suc n) g = g 0 ∷ listed n (λ p. g (suc p))

-- a function of ports, on lists
abbrev pub ported : ℕ → (Ports → Ports) → List Flow → List Flow
ported n f ss = listed n (f (stream_at ss))

abbrev pub filter_task : ℕ → (Ports → Ports) → (List Flow → Option Fault) → Task
filter_task n f cause = record { means = ported n f; cause = cause; source = None; tells = no_events }

-- what the function of a filter has to be: monotone, calm, from valid streams to valid ones; and where it breaks though
-- no input is broken, the inputs have the cause TooLong, which stays
pub record IsLawful (ins outs : List Lane) (f : Ports → Ports) (cause : List Flow → Option Fault) : Type 0 where
  pub grows : Grows f
  pub hides : HidesBreaks f
  pub keeps : (ss : List Flow) → AreValid ins ss → AreValid outs (ported (length outs) f ss)
  pub cause_stays : CauseStays ins cause
  pub too_long : (ss : List Flow) (q : ℕ) → q < length outs → AreValid ins ss → AllUnbroken ss → (f (stream_at ss) q).mark ≡ broken → cause ss ≡ Some TooLong

-- where each input is closed, so is each output
abbrev pub ClosesAll : List Lane → List Lane → (Ports → Ports) → Type 0
ClosesAll ins outs f = (ss : Ports) → ((p : ℕ) → p < length ins → IsClosed (ss p)) → (q : ℕ) → q < length outs → IsClosed (f ss q)

-- the filter that is seen so can be where it is after this past: on each output that is wanted, what comes out, whatever
-- still comes in, is what was given and then the rest
pub record Stands (v : View) (hurt long : Bool) (past : Past) : Type 0 where
  pub f : Ports → Ports
  pub lawful : IsLawful v.ins v.outs f past.task.cause
  pub means_is : past.task.means ≡ ported (length v.outs) f
  pub plain : past.task.source ≡ None
  pub silent : IsSilent past
  pub settles : ClosesAll v.ins v.outs f
  pub valid : AreValid v.ins past.got
  pub goes : (ext : Ports) (q : ℕ) → q < length v.outs → v.stopped q ≡ false → f (all_joined (stream_at past.got) ext) q ≡ joined (stream_at past.gave q) (v.rest ext q)
  pub below : AllBelow past.gave (ported (length v.outs) f past.got)
  pub shut_is : (p : ℕ) → p < length v.ins → (v.shut p ≡ true) ↔ IsClosed (stream_at past.got p)
  pub ended_is : (q : ℕ) → q < length v.outs → (v.ended q ≡ true) ↔ IsClosed (stream_at past.gave q)
  pub stops : (q : ℕ) → q < length v.outs → (v.stopped q ≡ true) ↔ IsIn q past.stopped
  pub asked : (q : ℕ) → q < length v.outs → v.stopped q ≡ false → IsIn q past.asked → v.rest silence q ≡ nothing
  -- a break was fed
  pub hurt_is : (hurt ≡ false) ↔ AllUnbroken past.got
  -- a break was given before any was fed
  pub long_is : long ≡ true → past.task.cause past.got ≡ Some TooLong
  pub unbroken : long ≡ false → hurt ≡ false → AllUnbroken past.gave
