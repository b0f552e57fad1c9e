use Rattle.ff_fsync.specs.Pictures.{shown_keeps}
use Rattle.ff_fsync.proofs.laws.framesync_keeps_the_broken_rule.Goals as goal

pub returns : goal.returns
returns c = shown_keeps
