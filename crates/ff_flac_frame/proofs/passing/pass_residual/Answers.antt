use Rattle.ff_flac_frame.proofs.ResidualLemmas.{order_le}
use Rattle.ff_flac_frame.proofs.passing.pass_residual.Goals as goal

pub overflow_sub-count : goal.overflow_sub-count
overflow_sub-count c = order_le c.args.block c.args.order c.in_ok-p.p c.in_ok-p.ensures.passed
