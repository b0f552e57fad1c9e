use Rattle.std.proofs.Common.{arith}
use Rattle.ff_flac_subframe.proofs.RiceLemmas.SpanLemmas.{high_reached, high_all}
use Rattle.ff_flac_subframe.proofs.rice.span.high_end.Goals as goal

pub returns-then-high-eq31-clause-is : goal.returns-then-high-eq31-clause-is
returns-then-high-eq31-clause-is c = high_all 31 c.args.len c.args.total (omega arith)

pub returns-then-total-scaled-clause-is : goal.returns-then-total-scaled-clause-is
returns-then-total-scaled-clause-is c = high_reached c.args.high c.args.len c.args.total (omega arith) (omega arith)

pub returns-else-scaled-total-clause-is : goal.returns-else-scaled-total-clause-is
returns-else-scaled-total-clause-is c = high_reached c.loop-high.high c.args.len c.args.total (omega arith) (omega arith)
