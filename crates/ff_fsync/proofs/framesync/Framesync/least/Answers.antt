use Rattle.std.proofs.Common.{sym, arith, subst, ℕ, ◌+◌, Option}
use Rattle.ff_fsync.specs.laws.Syncs.{LeastOf}
use Rattle.ff_fsync.proofs.Finding.{least_more}
use Rattle.ff_fsync.proofs.framesync.Framesync.least.Goals as goal

pub inputs-preserved : goal.inputs-preserved
inputs-preserved g c =
    let s = c.args.self.now in
    subst (λ (o : Option ℕ). LeastOf s.head s.shortest s.inputs.items c.args.lo (c.inputs.p + 1) o) (sym c.sooner-least.ensures)
    (least_more s.head s.shortest s.inputs.items c.args.lo c.inputs.p c.index.result.now c.inputs.least c.start_from.result c.inputs.invariant (omega (arith, c.inputs-test.true, c.len-p-end.ensures, s.inputs.ok.0)) c.index.ensures c.start_from.ensures.next c.start_from.ensures.near)
