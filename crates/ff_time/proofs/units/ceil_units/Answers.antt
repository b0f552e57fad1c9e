use Rattle.std.proofs.Common.{arith, ◌≡◌, ◌*◌, ◌<◌, ◌^◌, subst, sym}
use Rattle.std.proofs.lemmas.Int.{ints, to_z_pos}
use Rattle.std.proofs.lemmas.Grind.{common_steps}
use Rattle.std.specs.Int.{div_ceil, w64}
use Rattle.ff_time.specs.Rescale.{Reaches}
use Rattle.ff_time.proofs.Ceiling.{IsCeiling, IsCeiling-div_ceil, Reaches-ceiling, Reaches-least}
use Rattle.ff_time.proofs.units.ceil_units.Goals as goal

pub returns-clause-reaches : goal.returns-clause-reaches
returns-clause-reaches c =
    let a = c.args.us * c.args.tb.den in
    let b = c.args.tb.num * 1000000 in
    let value : c.div_ceil.result ≡ div_ceil a b = cc in
    let ceiling : IsCeiling a b c.div_ceil.result = subst (IsCeiling a b) (sym value) (IsCeiling-div_ceil a b (omega (arith, c.parts-num.ensures.base.num_positive))) in
    let small : c.div_ceil.result < 2 ^ 63 = grind (arith, common_steps) in
    subst (λ z. Reaches c.args.us c.args.tb z) (sym (to_z_pos w64 c.div_ceil.result small)) (Reaches-ceiling c.args.us c.args.tb c.div_ceil.result ceiling)

pub returns-clause-least : goal.returns-clause-least
returns-clause-least c = λ n r.
    let a = c.args.us * c.args.tb.den in
    let b = c.args.tb.num * 1000000 in
    let value : c.div_ceil.result ≡ div_ceil a b = cc in
    let ceiling : IsCeiling a b c.div_ceil.result = subst (IsCeiling a b) (sym value) (IsCeiling-div_ceil a b (omega (arith, c.parts-num.ensures.base.num_positive))) in
    let small : c.div_ceil.result < 2 ^ 63 = grind (arith, common_steps) in
    omega (arith, ints, Reaches-least c.args.us c.args.tb c.div_ceil.result n ceiling r)
