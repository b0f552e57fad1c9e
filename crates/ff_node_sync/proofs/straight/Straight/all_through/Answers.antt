use Rattle.std.proofs.Common.{sym, arith, length}
use Rattle.ff_node_sync.specs.Lines.{lines_of}
use Rattle.ff_node_sync.proofs.Moving.{long_lines}
use Rattle.ff_node_sync.proofs.Straightening.{through_fails}
use Rattle.ff_node_sync.proofs.straight.Straight.all_through.Goals as goal

pub returns-then-not-is_through : goal.returns-then-not-is_through
returns-then-not-is_through c =
    let v = c.args.self.now.sides in
    let long = long_lines v.items in
    sym (through_fails (lines_of v.items) (length (lines_of v.items)) c.streams.p c.is_through.result (omega (arith, long, c.streams-test.true, c.len-p-end.ensures, v.ok.0))
    c.is_through.ensures c.if-not-is_through.true)
