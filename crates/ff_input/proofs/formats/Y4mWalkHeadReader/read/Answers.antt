use Rattle.ff_input.proofs.LineShort.{line_short}
use Rattle.ff_input.proofs.formats.Y4mWalkHeadReader.read.Goals as goal

pub returns-clause-goes_on : goal.returns-clause-goes_on
returns-clause-goes_on c = λ h e. (line_short c.args.bytes.now (c.read_head.ensures.not_yet.0 e).1, tt)
