-- An input of framesync as the definitions see it.
use Rattle.std.specs.Prelude.{◌≡◌, ℕ, ◌≤◌, ◌<◌, ◌||◌, ◌&&◌, Bool, false, true, Option, None, Some, List, [], ◌∷◌, ◌++◌, map, nat_le, nat_eq}
use Rattle.ff_frame.specs.declared.video.VFrame.{VFrame}
use Rattle.ff_stream.specs.declared.item.Item.{Item}
use Rattle.ff_stream.specs.declared.item.Item.TheVariants.{Video}
use Rattle.ff_stream.specs.declared.item.Lane.TheVariants.{Frames}
use Rattle.ff_stream.specs.Times.{ticks}
use Rattle.ff_filter.specs.declared.after.After.{After}
use Rattle.ff_filter.specs.Shifts.{start_ticks}
use Rattle.ff_frame.specs.declared.head.StreamHead.{StreamHead}
use Rattle.ff_fsync.specs.Sides.{Side}
use Rattle.ff_fsync.specs.Synced.{some_of, last_of}
use Rattle.ff_stream.specs.Stream.{Mark, is_whole, is_open}

abbrev pub items_of : List VFrame → List Item
items_of fs = map Video fs

abbrev pub side_by : StreamHead → List VFrame → After → ℕ → Side
side_by head queue after next = record { lane = Frames head; waits = items_of queue; after = after; next = next }

-- an input of which nothing waits
abbrev pub emptied : Side → Side
emptied s = record { lane = s.lane; waits = []; after = s.after; next = 0 }

-- an item of these starts at this time; one starts at or before it; one at or after it
abbrev pub starts_at : List Item → ℕ → Bool
starts_at xs t = some_of (λ x. nat_eq (start_ticks x) t) xs

abbrev pub begun_by : List Item → ℕ → Bool
begun_by xs t = some_of (λ x. nat_le (start_ticks x) t) xs

abbrev pub reaches : List Item → ℕ → Bool
reaches xs t = some_of (λ x. nat_le t (start_ticks x)) xs

abbrev pub last_by : List Item → ℕ → List Item
last_by xs t = last_of (λ x. nat_le (start_ticks x) t) xs

-- of one input, all but the last picture by a time was let go
pub record Trims (t : ℕ) (s r : Side) : Type 0 where
  pub lane : r.lane ≡ s.lane
  pub after : r.after ≡ s.after
  pub next : r.next ≡ s.next
  pub gone : List Item
  pub first : Item
  pub others : List Item
  pub was : s.waits ≡ gone ++ first ∷ others
  pub now : r.waits ≡ first ∷ others
  pub by : start_ticks first ≤ t

-- the first of these that starts from this time on starts at t
pub record IsNextStart (xs : List Item) (lo t : ℕ) : Type 0 where
  pub late : lo ≤ t
  pub here : starts_at xs t ≡ true
  pub none : (u : ℕ) → lo ≤ u → u < t → starts_at xs u ≡ false

-- the second of these pictures starts by this time
abbrev pub second_by : List VFrame → ℕ → Bool
second_by [] t = false
second_by (f ∷ []) t = false
second_by (f ∷ g ∷ fs) t = nat_le (ticks g.pts) t

-- of the first pictures these are left, of which one starts by this time
pub record GoesTo (old new : List VFrame) (t : ℕ) : Type 0 where
  pub gone : List VFrame
  pub is : old ≡ gone ++ new
  pub begun : begun_by (items_of new) t ≡ true

-- the first of these pictures is the last by this time
pub record IsLastBy (fs : List VFrame) (t : ℕ) : Type 0 where
  pub frame : VFrame
  pub others : List VFrame
  pub is : fs ≡ frame ∷ others
  pub last : last_by (items_of fs) t ≡ Video frame ∷ []

-- when the first of these starts that starts from this time on, if one does
abbrev pub IsNextIn : List Item → ℕ → Option ℕ → Type 0
IsNextIn xs lo None = (u : ℕ) → lo ≤ u → starts_at xs u ≡ false
IsNextIn xs lo (Some t) = IsNextStart xs lo t

-- the mark says whole, or is open where that counts as whole
abbrev pub whole_if : Bool → Mark → Bool
whole_if ended m = is_whole m || (ended && is_open m)

-- these items with this picture in the place of the first
abbrev pub led_by : VFrame → List Item → List Item
led_by f [] = []
led_by f (x ∷ xs) = Video f ∷ xs

-- an input with this picture back in the place of its first
abbrev pub given_back : VFrame → Side → Side
given_back f s = record { lane = s.lane; waits = led_by f s.waits; after = s.after; next = s.next }

-- inputs, each with its picture back; those behind the pictures as they are
abbrev pub all_back : List VFrame → List Side → List Side
all_back [] ss = ss
all_back (f ∷ fs) [] = []
all_back (f ∷ fs) (s ∷ ss) = given_back f s ∷ all_back fs ss

-- the first of these items is a picture, the last by this time
pub record IsLed (xs : List Item) (t : ℕ) : Type 0 where
  pub frame : VFrame
  pub others : List Item
  pub is : xs ≡ Video frame ∷ others
  pub last : last_by xs t ≡ Video frame ∷ []
