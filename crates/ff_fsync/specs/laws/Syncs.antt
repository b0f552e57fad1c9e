-- The machine of framesync as the definitions see it.
use Rattle.std.specs.Prelude.{◌≡◌, ℕ, zero, suc, ◌<◌, ◌≤◌, ◌^◌, ◌⊎◌, Bool, true, false, ◌||◌, nat_lt, cond, Option, None, Some, List, [], ◌∷◌, map, length, refl}
use Rattle.ff_frame.specs.declared.head.StreamHead.{StreamHead}
use Rattle.ff_frame.specs.declared.video.VFrame.{VFrame}
use Rattle.ff_stream.specs.declared.item.Item.{Item}
use Rattle.ff_stream.specs.declared.item.Lane.{Lane}
use Rattle.ff_stream.specs.declared.item.Lane.TheVariants.{Frames}
use Rattle.ff_stream.specs.Stream.{Stream, is_open, is_broken}
use Rattle.ff_filter.specs.Joins.{Flow}
use Rattle.ff_filter.specs.Views.{View}
use Rattle.ff_fsync.specs.declared.framesync.Framesync.{Framesync}
use Rattle.ff_fsync.specs.declared.input.Input.{Input}
use Rattle.ff_fsync.specs.Ranges.{all_to, any_to}
use Rattle.ff_fsync.specs.Synced.{Timing, starts, begun, is_known, is_shown, all_ended}
use Rattle.ff_fsync.specs.Sides.{Side, side_at, standing, timing, Sound, sync_view}
use Rattle.ff_fsync.specs.laws.Inputs.{side_by, Trims, IsLed}

abbrev pub side_of : Input → Side
side_of i = side_by i.head i.queue.items i.after i.next

abbrev pub sides_of : List Input → List Side
sides_of is = map side_of is

pub sides_sound : (lane : Lane) (is : List Input) → Sound lane (sides_of is)
sides_sound lane [] p = refl
sides_sound lane (i ∷ is) zero = i.filled
sides_sound lane (i ∷ is) (suc p) = sides_sound lane is p

-- what came so far on so many inputs, and how it is timed
abbrev pub standing_of : StreamHead → List Input → ℕ → Flow
standing_of head is = standing (Frames head) (sides_of is)

abbrev pub timing_of : Bool → List Input → Timing Item
timing_of shortest is = timing shortest (sides_of is)

-- so many inputs have begun at this time, and before it something is shown at no time
pub record IsStart (head : StreamHead) (shortest : Bool) (is : List Input) (from lo n : ℕ) : Type 0 where
  pub late : from ≤ lo
  pub all : (p : ℕ) → p < n → begun (timing_of shortest is) (standing_of head is) lo p ≡ true
  pub none : (u : ℕ) → from ≤ u → u < lo → is_shown (timing_of shortest is) (standing_of head is) u ≡ false

-- nothing is shown from this time on
abbrev pub NoneFrom : StreamHead → Bool → List Input → ℕ → Type 0
NoneFrom head shortest is from = (u : ℕ) → from ≤ u → is_shown (timing_of shortest is) (standing_of head is) u ≡ false

-- the first time from lo on at which one of so many inputs starts a picture, if one does
pub record IsLeast (head : StreamHead) (shortest : Bool) (is : List Input) (lo n t : ℕ) : Type 0 where
  pub late : lo ≤ t
  pub near : t < 2 ^ 63
  pub some : (p : ℕ) × (p < n) × (starts (timing_of shortest is) (standing_of head is) t p ≡ true)
  pub none : (u : ℕ) → lo ≤ u → u < t → (p : ℕ) → p < n → starts (timing_of shortest is) (standing_of head is) u p ≡ false

abbrev pub LeastOf : StreamHead → Bool → List Input → ℕ → ℕ → Option ℕ → Type 0
LeastOf head shortest is lo n None = (u : ℕ) → lo ≤ u → (p : ℕ) → p < n → starts (timing_of shortest is) (standing_of head is) u p ≡ false
LeastOf head shortest is lo n (Some t) = IsLeast head shortest is lo n t

-- the next to be shown is at this time
pub record IsDue {A : Type 0} (k : Timing A) (from : ℕ) (ss : ℕ → Stream A) (t : ℕ) : Type 0 where
  pub late : from ≤ t
  pub shown : is_shown k ss t ≡ true
  pub first : (u : ℕ) → from ≤ u → u < t → is_shown k ss u ≡ false

-- the sooner of two times
abbrev pub sooner_of : Option ℕ → Option ℕ → Option ℕ
sooner_of None b = b
sooner_of (Some x) None = Some x
sooner_of (Some x) (Some y) = cond (nat_lt y x) (Some y) (Some x)

-- the same, or where so asked as if each open input had ended
abbrev pub ended_if : Bool → (ℕ → Flow) → ℕ → Flow
ended_if true ss = all_ended ss
ended_if false ss = ss

-- an input doesn't bind what is still to be shown at this time
abbrev pub is_free : StreamHead → Bool → List Input → ℕ → ℕ → Bool
is_free head shortest is t p = is_open (standing_of head is p).mark || is_known (timing_of shortest is) (standing_of head is) t p

-- so many inputs leave free just the times before this one
abbrev pub IsBound : StreamHead → Bool → List Input → ℕ → ℕ → Type 0
IsBound head shortest is n bound = (t : ℕ) → t < 18446744073709551615 → all_to n (is_free head shortest is t) ≡ nat_lt t bound

-- some input broke off
abbrev pub is_lost : StreamHead → List Input → Bool
is_lost head is = any_to (length is) (λ p. is_broken (standing_of head is p).mark)

-- each input stayed as it was, or all but the last picture by a time was let go
pub record AreTrimmed (head : StreamHead) (old new : List Input) (t : ℕ) : Type 0 where
  pub long : length (sides_of new) ≡ length (sides_of old)
  pub lanes : map (λ (s : Side). s.lane) (sides_of new) ≡ map (λ (s : Side). s.lane) (sides_of old)
  pub sides : (q : ℕ) → (side_at (Frames head) (sides_of new) q ≡ side_at (Frames head) (sides_of old) q) ⊎ Trims t (side_at (Frames head) (sides_of old) q) (side_at (Frames head) (sides_of new) q)

-- of so many inputs all but the last picture by a time was let go
pub record AreLed (head : StreamHead) (old new : List Input) (t n : ℕ) : Type 0 where
  pub long : length new ≡ length old
  pub lanes : map (λ (s : Side). s.lane) (sides_of new) ≡ map (λ (s : Side). s.lane) (sides_of old)
  pub done : (q : ℕ) → q < n → Trims t (side_at (Frames head) (sides_of old) q) (side_at (Frames head) (sides_of new) q)
  pub others : (q : ℕ) → n ≤ q → side_at (Frames head) (sides_of new) q ≡ side_at (Frames head) (sides_of old) q
  pub led : (q : ℕ) → q < n → IsLed (side_at (Frames head) (sides_of new) q).waits t

-- each of these inputs has a picture
abbrev pub AreBegun : List Side → Type 0
AreBegun ss = (lane : Lane) (p : ℕ) → p < length ss → 0 < length (side_at lane ss p).waits

-- how the machine is seen
abbrev pub seen : {S : Type 0} → (ℕ → List VFrame → VFrame) → Framesync S → View
seen shows m = sync_view shows m.shortest (Frames m.head) m.from (sides_of m.inputs.items) m.ended m.stopped

-- of so many inputs nothing waits; all others stayed as they were
pub record AreEmptied (head : StreamHead) (old new : List Input) (n : ℕ) : Type 0 where
  pub long : length new ≡ length old
  pub lanes : map (λ (s : Side). s.lane) (sides_of new) ≡ map (λ (s : Side). s.lane) (sides_of old)
  pub shut : (q : ℕ) → (side_at (Frames head) (sides_of new) q).after ≡ (side_at (Frames head) (sides_of old) q).after
  pub done : (q : ℕ) → q < n → (side_at (Frames head) (sides_of new) q).waits ≡ []

-- no picture waits
abbrev pub KeepsNothing : {S : Type 0} → Framesync S → Type 0
KeepsNothing m = (p : ℕ) → (side_at (Frames m.head) (sides_of m.inputs.items) p).waits ≡ []
