use Rattle.std.proofs.Common.{arith}
use Rattle.ff_y4m.proofs.LineLaws.{at_feed, more_feed, no_feed}
use Rattle.ff_y4m.proofs.line.line_end.Goals as goal

pub returns-then-bytes-i-eq10-clause-value : goal.returns-then-bytes-i-eq10-clause-value
returns-then-bytes-i-eq10-clause-value c =
    at_feed c.args.room c.bytes.i c.args.bytes.now (omega (arith, c.bytes-test.true, c.min-count.ensures)) (omega (arith, c.bytes-test.true, c.min-count.ensures)) c.if-bytes-i-eq10.true c.bytes.invariant

pub bytes-preserved : goal.bytes-preserved
bytes-preserved c =
    more_feed c.args.room c.bytes.i c.args.bytes.now (omega (arith, c.bytes-test.true, c.min-count.ensures)) (omega (arith, c.bytes-test.true, c.min-count.ensures)) c.if-bytes-i-eq10.false c.bytes.invariant

pub returns-then-bytes-room-clause-value : goal.returns-then-bytes-room-clause-value
returns-then-bytes-room-clause-value c =
    no_feed c.args.room c.bytes.i c.args.bytes.now (omega (arith, c.bytes-test.false, c.min-count.ensures, c.if-bytes-room.true)) (omega (arith, c.bytes.auto.i-end, c.min-count.ensures, c.if-bytes-room.true)) c.bytes.invariant
