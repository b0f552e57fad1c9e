-- Items by their numbers, in order.
use Rattle.std.specs.Prelude.{ℕ, zero, suc, ◌+◌, List, [], ◌∷◌}
use Rattle.ff_stream.specs.declared.item.Item.{Item}

-- the items of number n and on, so many
abbrev pub numbered : (ℕ → Item) → ℕ → ℕ → List Item
numbered item n zero = []
numbered item n (suc more) = item n ∷ numbered item (n + 1) more
