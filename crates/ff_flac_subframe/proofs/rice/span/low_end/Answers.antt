use Rattle.std.proofs.Common.{arith, refl}
use Rattle.ff_flac_subframe.proofs.RiceLemmas.SpanLemmas.{low_reached, low_none}
use Rattle.ff_flac_subframe.proofs.rice.span.low_end.Goals as goal

pub returns-then-low-eq0-clause-is : goal.returns-then-low-eq0-clause-is
returns-then-low-eq0-clause-is c = low_none 0 c.args.len c.args.total refl

pub returns-then-scaled-total-clause-is : goal.returns-then-scaled-total-clause-is
returns-then-scaled-total-clause-is c = low_reached c.args.low c.args.len c.args.total (omega arith) (omega arith)

pub returns-else-total-scaled-clause-is : goal.returns-else-total-scaled-clause-is
returns-else-total-scaled-clause-is c = low_reached c.loop-low.low c.args.len c.args.total (omega arith) (omega arith)
