use Rattle.std.proofs.Common.{◌∙◌}
use Rattle.ff_y4m.proofs.NumberLaws.{signed_back, signed_ok, signed_none}
use Rattle.ff_y4m.proofs.number.fraction.Goals as goal

pub returns-in-Ok : goal.returns-in-Ok
returns-in-Ok c = λ n d ex ey. signed_ok n d _ _ c.in-Ok.base (signed_back c.args.num c.ranges.num.sfits ∙ ex) (signed_back c.args.den c.ranges.den.sfits ∙ ey) c.in-Ok.ensures.ok c.in-Ok.ensures.base

pub returns-in-Err : goal.returns-in-Err
returns-in-Err c = λ n d ex ey. signed_none n d _ _ c.new.result _ (signed_back c.args.num c.ranges.num.sfits ∙ ex) (signed_back c.args.den c.ranges.den.sfits ∙ ey) c.in-Err.is c.new.ensures.not_positive c.new.ensures.too_big c.new.ensures.err
