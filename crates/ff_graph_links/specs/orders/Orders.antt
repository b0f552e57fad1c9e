-- An order of things in which each comes behind those that feed it.
use Rattle.std.specs.Prelude.{◌≡◌, ℕ, zero, suc, ◌<◌, nat_lt, ◌&&◌, Bool, true, false, not, List, [], ◌∷◌, length, map, replicate, slice_index_or, slice_set, cond}
use Rattle.std.specs.Prelude.{Option, None, Some, if◌then◌else◌}
use Rattle.std.specs.declared.vec.Vec.{Vec}

-- each list of numbers
abbrev pub lists : {A : Type 0} → List (Vec ℕ A) → List (List ℕ)
lists vs = map (λ v. v.items) vs

-- the thing was taken
abbrev pub is_taken : List Bool → ℕ → Bool
is_taken taken k = slice_index_or taken k false

-- each of these was
abbrev pub are_taken : List Bool → List ℕ → Bool
are_taken taken [] = true
are_taken taken (j ∷ js) = is_taken taken j && are_taken taken js

abbrev pub all_taken : List Bool → Bool
all_taken [] = true
all_taken (b ∷ bs) = b && all_taken bs

-- how many weren't taken yet
abbrev pub left : List Bool → ℕ
left [] = 0
left (b ∷ bs) = cond b (left bs) (suc (left bs))

-- it wasn't taken yet, and those that feed it were
abbrev pub is_ready : List (List ℕ) → List Bool → ℕ → Bool
is_ready feeders taken k = not (is_taken taken k) && are_taken taken (slice_index_or feeders k [])

-- These can be taken one by one, each once and behind those that feed it, and then all were taken.
abbrev pub IsOrderFrom : List (List ℕ) → List Bool → List ℕ → Type 0
IsOrderFrom feeders taken [] = all_taken taken ≡ true
IsOrderFrom feeders taken (k ∷ ks) =
    (k < length taken) × (is_ready feeders taken k ≡ true) × IsOrderFrom feeders (slice_set taken k true) ks

-- and of those that can be taken next it is the lowest
abbrev pub IsLowestFrom : List (List ℕ) → List Bool → List ℕ → Type 0
IsLowestFrom feeders taken [] = all_taken taken ≡ true
IsLowestFrom feeders taken (k ∷ ks) =
    (k < length taken) × (is_ready feeders taken k ≡ true) × ((j : ℕ) → j < k → is_ready feeders taken j ≡ false)
    × IsLowestFrom feeders (slice_set taken k true) ks

-- the things whose feeders these are, in an order in which each comes behind its feeders
abbrev pub IsOrder : List (List ℕ) → List ℕ → Type 0
IsOrder feeders ks = IsOrderFrom feeders (replicate (length feeders) false) ks

-- the one that takes the lowest first
abbrev pub IsLowestOrder : List (List ℕ) → List ℕ → Type 0
IsLowestOrder feeders ks = IsLowestFrom feeders (replicate (length feeders) false) ks

-- ---- the order itself

-- the lowest that is ready, of so many things from number k on
abbrev pub first_ready : List (List ℕ) → List Bool → ℕ → ℕ → Option ℕ
first_ready feeders taken k zero = None
first_ready feeders taken k (suc n) = if is_ready feeders taken k then Some k else first_ready feeders taken (suc k) n

abbrev pub next_ready : List (List ℕ) → List Bool → Option ℕ
next_ready feeders taken = first_ready feeders taken 0 (length taken)

-- this one if there is one, and then again and again the lowest that is ready, in so many steps at most
abbrev pub order_on : List (List ℕ) → List Bool → ℕ → Option ℕ → List ℕ
order_on feeders taken steps None = []
order_on feeders taken zero (Some k) = []
order_on feeders taken (suc steps) (Some k) = k ∷ order_on feeders (slice_set taken k true) steps (next_ready feeders (slice_set taken k true))

abbrev pub order_from : List (List ℕ) → List Bool → ℕ → List ℕ
order_from feeders taken steps = order_on feeders taken steps (next_ready feeders taken)

-- each thing behind those that feed it, of those that are ready the lowest first, until none is ready
abbrev pub order_of : List (List ℕ) → List ℕ
order_of feeders = order_from feeders (replicate (length feeders) false) (length feeders)

-- not all were taken: things feed one another in a loop, or one is fed by what isn't there
abbrev pub loops : List (List ℕ) → Bool
loops feeders = nat_lt (length (order_of feeders)) (length feeders)
