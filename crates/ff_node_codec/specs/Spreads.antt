-- A machine that makes a stream of one input, and gives it on each of its outputs.
use Rattle.std.specs.Prelude.{◌≡◌, ◌↔◌, ℕ, ◌<◌, ◌≤◌, ◌⊎◌, Bool, true, false, List, replicate, Option, None, Some}
use Rattle.ff_stream.specs.declared.item.Item.{Item}
use Rattle.ff_stream.specs.declared.item.Lane.{Lane}
use Rattle.ff_stream.specs.Stream.{still_open, broken, LiesBelow, opened}
use Rattle.ff_stream.specs.Items.{Leads}
use Rattle.ff_stream.specs.Lanes.{base_of, head_of, FitsLane, StartsAfter, IsValid}
use Rattle.ff_stream.specs.Ports.{nothing, stream_at, IsClosed, IsUnbroken}
use Rattle.ff_stream.specs.Times.{HasTime}
use Rattle.ff_filter.specs.Joins.{joined}
use Rattle.ff_node_codec.specs.laws.codecs.Made.{IsMadeOf}
use Rattle.ff_net.specs.declared.fault.Fault.{Fault}
use Rattle.ff_net.specs.Ways.{Flow}
use Rattle.ff_net.specs.Pasts.{Task, Past, IsIn, no_events}
use Rattle.ff_net.specs.laws.Laws.{IsSilent}
use Rattle.ff_node_codec.specs.Making.{Outcome, gives, passes, breaks, Making, fault_by}

-- each of n outputs has the stream that is made of the one input
abbrev pub spread : ℕ → Making → List Flow → List Flow
spread n f ss = replicate n (f.stream (stream_at ss 0))

-- the fault that the input makes: where it is damaged
abbrev pub damage_cause : Making → List Flow → Option Fault
damage_cause f ss = fault_by (f.damage (stream_at ss 0))

abbrev pub spread_task : ℕ → Making → Task
spread_task n f = record { means = spread n f; cause = damage_cause f; source = None; tells = no_events }

-- what an item of a lane may give: an item with its times that fits another; only an item without a time gives nothing
abbrev pub IsOutcomeOf : Lane → Item → Outcome → Type 0
IsOutcomeOf lane x (gives y) = IsMadeOf lane x y × HasTime x
IsOutcomeOf lane x passes = HasTime x → ⊥
IsOutcomeOf lane x (breaks offset) = Unit {0}

-- what fits one lane gives what fits another, with the same times
pub record Carries (lane_in lane_out : Lane) (f : Item → Outcome) : Type 0 where
  pub base : base_of lane_out ≡ base_of lane_in
  pub apart : (x y : Item) → StartsAfter (head_of lane_in) x y → StartsAfter (head_of lane_out) x y
  pub made : (x : Item) → FitsLane lane_in x → IsOutcomeOf lane_out x (f x)

-- What is made of the streams of one lane are streams of another, made as their items come. It breaks off by damage that stays, and
-- by nothing else while the input doesn't.
pub record Makes (lane_in lane_out : Lane) (f : Making) : Type 0 where
  pub below : (r s : Flow) → LiesBelow r s → LiesBelow (f.stream r) (f.stream s)
  pub calm : (s : Flow) → LiesBelow (opened (f.stream s)) (f.stream (opened s))
  pub closed : (s : Flow) → IsClosed s → IsClosed (f.stream s)
  pub valid : (s : Flow) → IsValid lane_in s → IsValid lane_out (f.stream s)
  pub unbroken : (s : Flow) → f.damage s ≡ None → IsUnbroken s → IsUnbroken (f.stream s)
  pub broken : (s : Flow) (offset : ℕ) → f.damage s ≡ Some offset → (f.stream s).mark ≡ broken
  pub stays : (r s : Flow) (offset : ℕ) → LiesBelow r s → f.damage r ≡ Some offset → f.damage s ≡ Some offset
  pub goes_on : (t u : Flow) → t.mark ≡ still_open → (f.stream t).mark ≡ still_open
      → (f.stream (joined t u) ≡ joined (f.stream t) (f.stream u)) × (f.damage (joined t u) ≡ f.damage u)

-- of an output: the items that were made and not yet given, and whether its receiver has finished
pub record Line : Type 0 where
  pub queue : List Item
  pub stopped : Bool

-- each of so many outputs was stopped
abbrev pub AllStopped : ℕ → (ℕ → Line) → Type 0
AllStopped n lines = (q : ℕ) → q < n → (lines q).stopped ≡ true

-- the input is spent where nothing more is made of it, or nothing more is wanted
abbrev pub is_spent_spread : ℕ → (ℕ → Line) → Bool → ℕ → Type 0
is_spent_spread n lines closed p = (p < 1) × ((closed ≡ true) ⊎ AllStopped n lines)

-- `lines` of n outputs were made and not yet given; `closed` says that nothing more is made, `found` what broke off here
pub record Spreads (lane_in lane_out : Lane) (f : Making) (n : ℕ) (lines : ℕ → Line) (closed : Bool) (found : Option ℕ)
    (past : Past) : Type 0 where
  pub makes : Makes lane_in lane_out f
  pub some : 1 ≤ n
  pub means : past.task.means ≡ spread n f
  pub silent : IsSilent past
  pub cause : (ss : List Flow) → past.task.cause ss ≡ damage_cause f ss
  pub plain : past.task.source ≡ None
  pub others : (p : ℕ) → 1 ≤ p → stream_at past.got p ≡ nothing
  pub valid : IsValid lane_in (stream_at past.got 0)
  pub closed_is : (closed ≡ true) ↔ IsClosed (f.stream (stream_at past.got 0))
  pub found_is : found ≡ f.damage (stream_at past.got 0)
  pub below : (q : ℕ) → q < n → LiesBelow (stream_at past.gave q) (f.stream (stream_at past.got 0))
  pub gave : (q : ℕ) → q < n → (lines q).stopped ≡ false → Leads (stream_at past.gave q) (lines q).queue (f.stream (stream_at past.got 0))
  pub beyond : (q : ℕ) → n ≤ q → stream_at past.gave q ≡ nothing
  pub stops : (q : ℕ) → q < n → ((lines q).stopped ≡ true) ↔ IsIn q past.stopped
