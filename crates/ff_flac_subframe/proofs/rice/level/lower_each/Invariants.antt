use Rattle.std.proofs.Common.{◌≡◌, ℕ, ◌≤◌, min, take, get_or, length}
use lib.Lanes.{zip2}
use Rattle.ff_flac_subframe.proofs.rice.level.lower_each.Given as goal

abbrev pub invariant-loop-i : goal.invariant-loop-i
invariant-loop-i l = record {
  len : length l.least ≡ length l.costs;
  is : take l.i l.least ≡ take l.i (zip2 min l.initial.least l.costs);
  rest : (j : ℕ) → l.i ≤ j → get_or l.least j 0 ≡ get_or l.initial.least j 0;
}
