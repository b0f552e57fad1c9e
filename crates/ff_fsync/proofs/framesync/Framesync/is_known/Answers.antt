use Rattle.std.proofs.Common.{◌∙◌, sym, arith}
use Rattle.ff_fsync.proofs.Finding.{known_more, known_fails}
use Rattle.ff_fsync.proofs.framesync.Framesync.is_known.Goals as goal

pub returns-then-not-is_known : goal.returns-then-not-is_known
returns-then-not-is_known g c =
    let s = c.args.self.now in
    known_fails s.head s.shortest s.inputs.items c.args.time c.inputs.p c.index.result.now (omega (arith, c.inputs-test.true, c.len-p-end.ensures, s.inputs.ok.0)) c.index.ensures (sym c.is_known.ensures ∙ c.if-not-is_known.true)

pub inputs-preserved : goal.inputs-preserved
inputs-preserved g c =
    let s = c.args.self.now in
    known_more s.head s.shortest s.inputs.items c.args.time c.inputs.p c.index.result.now c.inputs.invariant (omega (arith, c.inputs-test.true, c.len-p-end.ensures, s.inputs.ok.0)) c.index.ensures (sym c.is_known.ensures ∙ c.if-not-is_known.false)
