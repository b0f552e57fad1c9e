-- How far streams have come: where they end so far, and whether more may come.
use Rattle.std.specs.Prelude.{ℕ, zero, suc, ◌+◌, ◌*◌, max, slice_index, List, [], ◌∷◌}
use Rattle.ff_stream.specs.declared.item.Item.{Item}
use Rattle.ff_stream.specs.Stream.{Mark, still_open, whole, broken}
use Rattle.ff_stream.specs.Times.{end_ticks}
use Rattle.ff_filter.specs.Joins.{Flow}

-- the end of the last item in ticks, 0 where there is none, and the mark
pub record Tail : Type 0 where
  pub end : ℕ
  pub mark : Mark

-- the end of the last of these items; e where there is none
abbrev pub last_end : ℕ → List Item → ℕ
last_end e [] = e
last_end e (x ∷ xs) = last_end (end_ticks x) xs

abbrev pub tail_of : Flow → Tail
tail_of s = record { end = last_end 0 s.items; mark = s.mark }

-- two streams together: broken where one is, and whole where both are
abbrev pub both : Mark → Mark → Mark
both broken n = broken
both whole n = n
both still_open broken = broken
both still_open whole = still_open
both still_open still_open = still_open

-- so many streams from port p on together
abbrev pub together : ℕ → ℕ → (ℕ → Tail) → Mark
together zero p tails = whole
together (suc w) p tails = both (together w p tails) (tails (p + w)).mark

-- The latest end of so many streams from port p on, in a unit of which a tick of each has as many as the list says.
abbrev pub latest : List ℕ → ℕ → ℕ → (ℕ → Tail) → ℕ
latest tick_list zero p tails = 0
latest tick_list (suc w) p tails = max (latest tick_list w p tails) ((tails (p + w)).end * slice_index tick_list w)
