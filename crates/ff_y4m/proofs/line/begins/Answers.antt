use Rattle.std.proofs.Common.{arith}
use Rattle.ff_y4m.proofs.LineLaws.{all_begins}
use Rattle.ff_y4m.proofs.line.begins.Goals as goal

pub returns-then-bytes-word : goal.returns-then-bytes-word
returns-then-bytes-word c = all_begins c.args.word.now c.args.bytes.now c.bytes.i (omega (arith, c.bytes-test.false, c.min-count.ensures, c.if-bytes-word.true)) c.bytes.invariant
