-- Which items of a stream others outlast, as exact times.
use Rattle.std.specs.Prelude.{◌≡◌, ◌≢◌, ℕ, ◌<◌, true, false, List}
use Rattle.std.specs.List.{AllByRecursion}
use Rattle.ff_time.specs.Fraction.{Fraction}
use Rattle.ff_stream.specs.declared.item.Item.{Item}
use Rattle.ff_filter.specs.Joins.{Ports}
use Rattle.ff_filter.specs.Shifts.{start_ticks}
use Rattle.ff_node_sync.specs.Shortened.{furthest, is_before}

-- of streams with these time bases
module _ (base : ℕ → Fraction) (ss : Ports) where
  -- an item of stream p starts before the latest end of stream q, which is 0 without items
  abbrev pub Outlasts : ℕ → Item → ℕ → Type 0
  Outlasts p x q = is_before (start_ticks x) (base p) (furthest 0 (ss q).items) (base q) ≡ true

  -- it starts there or later
  abbrev pub EndsBy : ℕ → Item → ℕ → Type 0
  EndsBy p x q = is_before (start_ticks x) (base p) (furthest 0 (ss q).items) (base q) ≡ false

  -- each other of the first n streams outlasts the start of each of these items of stream p
  abbrev pub AreOutlasted : ℕ → ℕ → List Item → Type 0
  AreOutlasted n p xs = AllByRecursion (λ x. (q : ℕ) → q < n → q ≢ p → Outlasts p x q) xs
