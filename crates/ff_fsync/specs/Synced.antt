-- Framesync: n streams, one item of each at each time at which one of them starts an item.
use Rattle.std.specs.Prelude.{ℕ, zero, suc, ◌+◌, ◌-◌, max, Bool, true, false, ◌||◌, ◌&&◌, not, nat_lt, nat_le, nat_eq, List, [], ◌∷◌, length}
use Rattle.ff_stream.specs.Stream.{Mark, still_open, whole, broken, Stream, is_open, is_whole, is_broken}
use Rattle.ff_fsync.specs.Ranges.{all_to, any_to, list_to}
use Rattle.ff_fsync.specs.Events.{events}

abbrev pub is_empty : {A : Type 0} → List A → Bool
is_empty [] = true
is_empty (x ∷ xs) = false

-- f says so of some item, or of each
abbrev pub some_of : {A : Type 0} → (A → Bool) → List A → Bool
some_of f [] = false
some_of f (x ∷ xs) = f x || some_of f xs

abbrev pub each_of : {A : Type 0} → (A → Bool) → List A → Bool
each_of f [] = true
each_of f (x ∷ xs) = f x && each_of f xs

abbrev pub pick : {A : Type 0} → Bool → A → List A
pick true x = x ∷ []
pick false x = []

abbrev pub later_of : {A : Type 0} → List A → List A → List A
later_of [] found = found
later_of (x ∷ xs) found = x ∷ xs

-- the last item of which f says so, alone; none where there is none
abbrev pub last_of : {A : Type 0} → (A → Bool) → List A → List A
last_of f [] = []
last_of f (x ∷ xs) = later_of (last_of f xs) (pick (f x) x)

-- past each time of these items
abbrev pub past : {A : Type 0} → (A → ℕ) → List A → ℕ
past at [] = 0
past at (x ∷ xs) = max (suc (at x)) (past at xs)

-- an open stream ends
abbrev pub ended_mark : Mark → Mark
ended_mark still_open = whole
ended_mark whole = whole
ended_mark broken = broken

abbrev pub all_ended : {A : Type 0} → (ℕ → Stream A) → ℕ → Stream A
all_ended ss p = record { items = (ss p).items; mark = ended_mark (ss p).mark }

-- of an output: whether it is whole; else, where an input broke off, whether it goes on
abbrev pub mark_by : Bool → Bool → Bool → Mark
mark_by true lost on = whole
mark_by false true true = still_open
mark_by false true false = broken
mark_by false false on = still_open

abbrev pub past_to : {A : Type 0} → (ℕ → A → ℕ) → ℕ → (ℕ → Stream A) → ℕ
past_to at zero ss = 0
past_to at (suc n) ss = past_to at n ss + past (at n) (ss n).items

-- so many inputs, the time among them of an item of each, and whether the output ends where the first of them does
pub record Timing (A : Type 0) : Type 0 where
  pub inputs : ℕ
  pub at : ℕ → A → ℕ
  pub shortest : Bool

module _ {A : Type 0} (k : Timing A) where
  -- input p has an item at this time, one at or before it, one at or after it
  abbrev pub starts : (ℕ → Stream A) → ℕ → ℕ → Bool
  starts ss t p = some_of (λ x. nat_eq (k.at p x) t) (ss p).items

  abbrev pub begun : (ℕ → Stream A) → ℕ → ℕ → Bool
  begun ss t p = some_of (λ x. nat_le (k.at p x) t) (ss p).items

  abbrev pub reached : (ℕ → Stream A) → ℕ → ℕ → Bool
  reached ss t p = some_of (λ x. nat_le t (k.at p x)) (ss p).items

  -- which item of input p is the last by this time is known, and may be shown: it has one at or after the time; or it is
  -- whole, and the output doesn't end where it does
  abbrev pub is_known : (ℕ → Stream A) → ℕ → ℕ → Bool
  is_known ss t p = reached ss t p || (is_whole (ss p).mark && not k.shortest)

  abbrev pub is_ready : (ℕ → Stream A) → ℕ → ℕ → Bool
  is_ready ss t p = begun ss t p && is_known ss t p

  -- something is shown at this time: some input has an item then, and each is ready
  abbrev pub is_shown : (ℕ → Stream A) → ℕ → Bool
  is_shown ss t = any_to k.inputs (starts ss t) && all_to k.inputs (is_ready ss t)

  -- of each input the last item at or before this time
  abbrev pub pictures : (ℕ → Stream A) → ℕ → List A
  pictures ss t = list_to k.inputs (λ p. last_of (λ x. nat_le (k.at p x) t) (ss p).items)

  -- past the times of all items
  abbrev pub horizon : (ℕ → Stream A) → ℕ
  horizon ss = past_to k.at k.inputs ss

  -- input q has an item at or after each one of input p
  abbrev pub outlasts : (ℕ → Stream A) → ℕ → ℕ → Bool
  outlasts ss p q = each_of (λ x. reached ss (k.at p x) q) (ss p).items

  -- the output ends with input p, which is whole: it has no item, or the output ends where it does; and each other input
  -- is whole or has come as far
  abbrev pub ends_with : (ℕ → Stream A) → ℕ → Bool
  ends_with ss p = is_whole (ss p).mark && ((k.shortest || is_empty (ss p).items) && all_to k.inputs (λ q. is_whole (ss q).mark || outlasts ss p q))

  abbrev pub is_complete : (ℕ → Stream A) → Bool
  is_complete ss = all_to k.inputs (λ p. is_whole (ss p).mark) || any_to k.inputs (ends_with ss)

  -- input p is no hindrance to something further at this time: it is ready; or it is open, and begins by then or has no
  -- item yet
  abbrev pub allows : (ℕ → Stream A) → ℕ → ℕ → Bool
  allows ss t p = is_ready ss t p || (is_open (ss p).mark && (is_empty (ss p).items || begun ss t p))

  -- something further may be shown at this time: some open input hasn't reached it, and each input allows it
  abbrev pub may_come : (ℕ → Stream A) → ℕ → Bool
  may_come ss t = any_to k.inputs (λ p. is_open (ss p).mark && not (reached ss t p)) && all_to k.inputs (allows ss t)

  -- though an input broke off, the output may still become whole, or something further be shown
  abbrev pub goes_on : (ℕ → Stream A) → Bool
  goes_on ss = is_complete (all_ended ss) || nat_lt 0 (length (events (may_come ss) (λ t. t) 0 (horizon ss)))

  abbrev pub synced_mark : (ℕ → Stream A) → Mark
  synced_mark ss = mark_by (is_complete ss) (any_to k.inputs (λ p. is_broken (ss p).mark)) (goes_on ss)

  -- what is shown from this time on; `show t xs` is made of one item of each input
  abbrev pub synced_from : {B : Type 0} → (ℕ → List A → B) → ℕ → (ℕ → Stream A) → Stream B
  synced_from show from ss = record {
    items = events (is_shown ss) (λ t. show t (pictures ss t)) from (horizon ss - from);
    mark = synced_mark ss;
  }

  -- what is shown of these streams
  abbrev pub synced : {B : Type 0} → (ℕ → List A → B) → (ℕ → Stream A) → Stream B
  synced show ss = synced_from show 0 ss
