-- What a demuxer tells: that it has exited, once, when it gives nothing more.
use Rattle.std.specs.Prelude.{◌≡◌, ◌↔◌, ◌⊎◌, ℕ, Bool, true, false, cond, List, [], ◌∷◌, Option, IsSome, refl}
use Rattle.std.proofs.Common.{sym, subst, ap}
use mathlib.Core.List.{IsPrefix}
use Rattle.ff_stream.specs.laws.Order.{prefix_self}
use Rattle.ff_stream.specs.Ports.{stream_at, IsClosed}
use Rattle.ff_frame.specs.declared.event.Event.{Event}
use Rattle.ff_frame.specs.declared.event.Event.TheVariants.{Exited}
use Rattle.ff_net.specs.declared.fault.Fault.{Fault}
use Rattle.ff_net.specs.Pasts.{Past, Feed, IsIn}

-- whatever it was fed: that the source of this number has exited
abbrev pub exits : ℕ → List Feed → List Event
exits input feeds = Exited input ∷ []

-- whether it gives nothing more: a fault is there, or its only output was stopped or has closed
abbrev pub IsOver : Option Fault → Past → Type 0
IsOver fault past = IsSome fault ⊎ IsIn 0 past.stopped ⊎ IsClosed (stream_at past.gave 0)

-- whether its only output was stopped, and what it told of that
pub record Exits (input : ℕ) (stopped told : Bool) (tells : List Feed → List Event) (events : List Event) (stops : List ℕ) : Type 0 where
  pub tells_is : tells ≡ exits input
  pub events_are : events ≡ cond told (Exited input ∷ []) []
  pub stopped_is : stopped ≡ true ↔ IsIn 0 stops

told_front : (input : ℕ) (told : Bool) → IsPrefix (cond told (Exited input ∷ []) []) (Exited input ∷ [])
told_front input true = prefix_self (Exited input ∷ [])
told_front input false = (Exited input ∷ [], refl)

-- it told no more than that
pub exits_front : (input : ℕ) (stopped told : Bool) (past : Past) → Exits input stopped told past.task.tells past.told past.stopped
    → IsPrefix past.told (past.task.tells past.feeds)
exits_front input stopped told past x =
    let due : past.task.tells past.feeds ≡ Exited input ∷ [] = ap (λ (f : List Feed → List Event). f past.feeds) x.tells_is in
    subst (λ (es : List Event). IsPrefix past.told es) (sym due)
    (subst (λ (es : List Event). IsPrefix es (Exited input ∷ [])) (sym x.events_are) (told_front input told))
