use Rattle.std.proofs.Common.{◌≡◌, ◌+◌, ◌∷◌, length, take, get_or}
use Rattle.ff_flac_subframe.specs.rice.Rice.{pieces}
use Rattle.ff_flac_subframe.specs.laws.rice.Columns.{column}
use Rattle.ff_flac_subframe.proofs.rice.column.fill_by_16.Given as goal

abbrev pub invariant-loop-i : goal.invariant-loop-i
invariant-loop-i l = record {
  len : length l.costs ≡ length l.initial.costs;
  is : take (l.i + 1) l.costs ≡ get_or l.initial.costs 0 0 ∷ column l.k (pieces l.i 16 l.us);
}
