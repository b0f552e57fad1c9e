use Rattle.std.proofs.Common.{◌*◌, ◌≤◌}
use Rattle.ff_flac_enc.specs.Totals.{counted}
use Rattle.ff_rows_calls.proofs.blocks.totals.Given as goal

abbrev pub invariant-loop-i : goal.invariant-loop-i
invariant-loop-i l = counted l.counter ≤ 65535 * l.i
