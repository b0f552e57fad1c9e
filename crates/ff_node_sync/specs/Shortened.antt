-- The streams of one output, each up to the end of the shortest.
use Rattle.std.specs.Prelude.{ℕ, zero, suc, ◌*◌, ◌==◌, max, Bool, cond, nat_lt, List, [], ◌∷◌}
use Rattle.ff_time.specs.Fraction.{Fraction}
use Rattle.ff_stream.specs.declared.item.Item.{Item}
use Rattle.ff_stream.specs.Stream.{Mark, still_open, whole, broken}
use Rattle.ff_stream.specs.Times.{end_of, ticks, end_ticks}
use Rattle.ff_filter.specs.Joins.{Flow, Ports}
use Rattle.ff_filter.specs.Shifts.{start_ticks}

-- the latest end of these items, at least e
abbrev pub furthest : ℕ → List Item → ℕ
furthest e [] = e
furthest e (x ∷ xs) = furthest (max e (end_ticks x)) xs

-- a ticks of one time base lie before b ticks of another, as exact times
abbrev pub is_before : ℕ → Fraction → ℕ → Fraction → Bool
is_before a ta b tb = nat_lt (a * (ta.num * tb.den)) (b * (tb.num * ta.den))

-- an item is kept; or it is held up by streams that stand so
pub data Fate : Type 0 where
  Kept : Fate
  Held : Mark → Fate

-- how streams stand, where some stand so and others so: whole where one is, else open while one is
abbrev pub held_by : Mark → Mark → Mark
held_by still_open still_open = still_open
held_by still_open whole = whole
held_by still_open broken = still_open
held_by whole n = whole
held_by broken n = n

-- kept is what none holds up
abbrev pub both : Fate → Fate → Fate
both Kept g = g
both (Held m) Kept = Held m
both (Held m) (Held n) = Held (held_by m n)

abbrev pub put_kept : Fate → Item → Flow → Flow
put_kept Kept x t = record { items = x ∷ t.items; mark = t.mark }
put_kept (Held m) x t = record { items = []; mark = m }

-- The items before the first that is held up; behind them the stream stands as those stand that hold it up. Where none is, it
-- stands as it stood.
abbrev pub kept_by : (Item → Fate) → List Item → Mark → Flow
kept_by fate [] m = record { items = []; mark = m }
kept_by fate (x ∷ xs) m = put_kept (fate x) x (kept_by fate xs m)

-- of each stream its time base, its latest end so far, and how it stands
module _ (base : ℕ → Fraction) (ends : ℕ → ℕ) (marks : ℕ → Mark) where
  -- an item of stream p is held up by each other stream that has none which ends after its start
  abbrev pub fate_by : ℕ → ℕ → Item → Fate
  fate_by p q x = cond (q == p) Kept (cond (is_before (start_ticks x) (base p) (ends q) (base q)) Kept (Held (marks q)))

  -- what the first n streams make of it
  abbrev pub fate_to : ℕ → ℕ → Item → Fate
  fate_to p zero x = Kept
  fate_to p (suc n) x = both (fate_to p n x) (fate_by p n x)

-- Stream p of n: of the items it has those before the first that is held up by another stream, one without an item that ends
-- after its start. A stream without items ends at 0.
abbrev pub shortened : ℕ → (ℕ → Fraction) → Ports → ℕ → Flow
shortened n base ss p = kept_by (fate_to base (λ q. furthest 0 (ss q).items) (λ q. (ss q).mark) p n) (ss p).items (ss p).mark
