use Rattle.std.proofs.Common.{sym, arith, length}
use Rattle.ff_node_sync.specs.Lines.{lines_of}
use Rattle.ff_node_sync.proofs.Moving.{long_lines, done_fails}
use Rattle.ff_node_sync.proofs.shortest.Shortest.all_done.Goals as goal

pub returns-then-not-is_done : goal.returns-then-not-is_done
returns-then-not-is_done c =
    let v = c.args.self.now.sides in
    let long = long_lines v.items in
    sym (done_fails (lines_of v.items) (length (lines_of v.items)) c.streams.p c.is_done.result (omega (arith, long, c.streams-test.true, c.len-p-end.ensures, v.ok.0))
    c.is_done.ensures c.if-not-is_done.true)
