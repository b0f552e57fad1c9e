use Rattle.std.proofs.Common.{◌≡◌, ◌++◌, drop}
use Rattle.ff_flac_frame.proofs.linear.widened.Given as goal

abbrev pub invariant-loop-c : goal.invariant-loop-c
invariant-loop-c l = l.wide.items ++ drop l.c-index l.coefs ≡ l.coefs
