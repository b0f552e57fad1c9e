use Rattle.std.proofs.Common.{◌∙◌, ap, Ok, sym, subst}
use Rattle.ff_avi.specs.declared.cut.AviCut.{AviCut}
use Rattle.ff_avi.specs.laws.Cuts.{KeepsCut}
use Rattle.ff_avi.proofs.CutLaws.{then_tells, on_err}
use Rattle.ff_avi.proofs.cut.AviCut.pull.Goals as goal

pub returns-in_err-told-clause-err : goal.returns-in_err-told-clause-err
returns-in_err-told-clause-err c = on_err c.from_residual.result _
    (subst (λ (cut : AviCut). KeepsCut c.args.self.now cut) (sym c.in_err-told.ensures.err) c.units.invariant.keeps)

pub returns-in-Some-clause-ok : goal.returns-in-Some-clause-ok
returns-in-Some-clause-ok c = then_tells c.args.self.now _ c.advance.new.self c.in-Some.told.0 c.in-Some.told.1 c.units.invariant.keeps c.units.invariant.ended c.units.invariant.first
    (c.in_ok-told.ensures.tells c.in-Some.told.0 c.in-Some.told.1 (ap Ok c.in-Some.is))

pub units-preserved : goal.units-preserved
units-preserved c =
    let on = c.in_ok-told.ensures.on (ap Ok c.in_default.is) in record {
      keeps = λ head used fed n k. on.0 head used fed n (c.units.invariant.keeps head used fed n k);
      passed = on.1;
      ended = c.advance.ensures.ended ∙ c.units.invariant.ended;
      first = c.advance.ensures.first ∙ c.units.invariant.first;
    }
