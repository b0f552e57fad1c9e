-- A stream up to the last item before the first one that passes a limit.
use Rattle.std.specs.Prelude.{ℕ, ◌+◌, ◌*◌, ◌^◌, Bool, true, false, ◌||◌, cond, nat_lt, List, [], ◌∷◌}
use Rattle.ff_stream.specs.declared.item.Item.{Item}
use Rattle.ff_stream.specs.declared.item.Lane.{Lane}
use Rattle.ff_stream.specs.Stream.{Stream, broken}
use Rattle.ff_stream.specs.Lanes.{base_of}
use Rattle.ff_stream.specs.Times.{end_of, ticks}

-- one item passes a limit, where the first has this number
abbrev pub some_pass : {A : Type 0} → (ℕ → A → Bool) → ℕ → List A → Bool
some_pass passes n [] = false
some_pass passes n (x ∷ xs) = cond (passes n x) true (some_pass passes (n + 1) xs)

-- the items before the first that passes a limit
abbrev pub before_pass : {A : Type 0} → (ℕ → A → Bool) → ℕ → List A → List A
before_pass passes n [] = []
before_pass passes n (x ∷ xs) = cond (passes n x) [] (x ∷ before_pass passes (n + 1) xs)

-- broken before the first item that passes a limit, which goes by its number (from 0) and itself; else the stream
abbrev pub within : {A : Type 0} → (ℕ → A → Bool) → Stream A → Stream A
within passes s = record { items = before_pass passes 0 s.items; mark = cond (some_pass passes 0 s.items) broken s.mark }

-- the limits of every stream: no item number 2^40 (counted from 0), and none that ends past 1,000,000,000 seconds
abbrev pub passes_limits : Lane → ℕ → Item → Bool
passes_limits lane n x = nat_lt (2 ^ 40) (n + 1) || nat_lt (1000000000 * (base_of lane).den) (ticks (end_of x) * (base_of lane).num)
