use Rattle.std.proofs.Common.{sym, arith, length}
use Rattle.ff_node_mux.proofs.MergeLemmas.Placing.{known_fails, known_more}
use Rattle.ff_node_mux.proofs.merge.interleave.Interleave.is_known.Goals as goal

pub returns-then-is_bare : goal.returns-then-is_bare
returns-then-is_bare c =
    let v = c.args.self.now.queues in
    sym (known_fails v.items (length v.items) c.streams.p c.index.result.now c.is_bare.result (omega (arith, c.streams-test.true, c.len-p-end.ensures, v.ok.0))
    (omega (arith, c.streams-test.true, c.len-p-end.ensures, v.ok.0)) c.index.ensures c.is_bare.ensures c.if-is_bare.true)

pub streams-preserved : goal.streams-preserved
streams-preserved c =
    let v = c.args.self.now.queues in
    known_more v.items c.streams.p c.index.result.now c.is_bare.result (omega (arith, c.streams-test.true, c.len-p-end.ensures, v.ok.0)) c.index.ensures
    c.is_bare.ensures c.if-is_bare.false c.streams.invariant
