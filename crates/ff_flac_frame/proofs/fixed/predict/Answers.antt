use Rattle.std.proofs.Common.{◌≡◌, ℕ, sym, subst, to_z, of_z, arith}
use Rattle.std.specs.Int.{w64}
use Rattle.ff_flac_frame.specs.Prediction.{fixed}
use Rattle.ff_flac_frame.proofs.PredictionLemmas.{wide_same, bounded_same, small_same64}
use Rattle.ff_flac_frame.proofs.fixed.predict.Goals as goal

pub returns-clause-value : goal.returns-clause-value
returns-clause-value c =
    let four : c.args.order ≡ 4 = omega arith in
    let w = wide_same c.fourth.result c.fourth.ensures.bounded in
    let f = bounded_same c.fourth_front.result c.fourth_front.ensures.bounded in
    let sa = small_same64 c.args.last c.requires.small in
    let sb = small_same64 c.look_back-b.result c.look_back-b.ensures.small in
    let sc = small_same64 c.look_back-c.result c.look_back-c.ensures.small in
    let sd = small_same64 c.look_back-d.result c.look_back-d.ensures.small in
    let va = c.requires.last in
    let vb = c.look_back-b.ensures.value in
    let vc = c.look_back-c.ensures.value in
    let vd = c.look_back-d.ensures.value in
    let v = c.fourth.ensures.value in
    let u = c.fourth_front.ensures.value in
    subst (λ (o : ℕ). to_z w64 (of_z w64 c.fourth.result) ≡ fixed o c.args.xs.now) (sym four) (cc)
