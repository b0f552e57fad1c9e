use Rattle.ff_flac_frame.proofs.FrameSound.{order_in}
use Rattle.ff_flac_frame.proofs.passing.pass_subframe.Goals as goal

pub pass_rest-requires-clause-order : goal.pass_rest-requires-clause-order
pass_rest-requires-clause-order c = order_in c.args.block c.in_ok-code.code c.in_ok-code.ensures.passed
