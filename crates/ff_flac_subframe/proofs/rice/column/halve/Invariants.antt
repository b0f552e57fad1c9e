use Rattle.std.proofs.Common.{◌≡◌, ℕ, ◌≤◌, [], map, take, get_or, vec_len}
use lib.Lanes.{pair_sums}
use Rattle.ff_flac_subframe.specs.laws.rice.Columns.{items_of}
use Rattle.ff_flac_subframe.proofs.rice.column.halve.Given as goal

abbrev pub invariant-loop-i : goal.invariant-loop-i
invariant-loop-i l = record {
  len : vec_len l.columns ≡ vec_len l.initial.columns;
  is : take l.i (items_of l.columns.items) ≡ take l.i (map pair_sums (items_of l.initial.columns.items));
  rest : (j : ℕ) → l.i ≤ j → get_or (items_of l.columns.items) j [] ≡ get_or (items_of l.initial.columns.items) j [];
}
