use Rattle.std.proofs.Common.{sym, arith, refl, subst, ◌+◌}
use Rattle.ff_fsync.specs.laws.Syncs.{IsStart}
use Rattle.ff_fsync.proofs.Finding.{start_none, start_more}
use Rattle.ff_fsync.proofs.framesync.Framesync.start.Goals as goal

pub returns-in-None-clause-none : goal.returns-in-None-clause-none
returns-in-None-clause-none g c e =
    let s = c.args.self.now in
    start_none s.head s.shortest s.inputs.items c.args.from c.inputs.p c.index.result.now (omega (arith, c.inputs-test.true, c.len-p-end.ensures, s.inputs.ok.0)) c.index.ensures (c.in-None.ensures.none refl)

pub inputs-preserved : goal.inputs-preserved
inputs-preserved g c =
    let s = c.args.self.now in
    subst (λ n. IsStart s.head s.shortest s.inputs.items c.args.from n (c.inputs.p + 1)) (sym c.later-lo.ensures)
    (start_more s.head s.shortest s.inputs.items c.args.from c.inputs.lo c.inputs.p c.in-Some.start c.index.result.now c.inputs.invariant (omega (arith, c.inputs-test.true, c.len-p-end.ensures, s.inputs.ok.0)) c.index.ensures c.in-Some.ensures.begun)
