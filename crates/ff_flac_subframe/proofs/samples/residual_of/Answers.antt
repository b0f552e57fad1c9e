use Rattle.std.proofs.Common.{◌≡◌, ℤ, pos, get_or, List, ap, ◌∙◌, arith}
use Rattle.std.specs.Prelude.{◌-ℤ◌, ◌+ℤ◌, ◌*ℤ◌}
use Rattle.ff_flac_subframe.specs.Subframe.{rest_of}
use Rattle.ff_flac_subframe.proofs.Predict.{small_same, bounded_same, wide_same, residual_0, residual_1, residual_2, residual_3, residual_4}
use Rattle.ff_flac_subframe.proofs.samples.residual_of.Goals as goal

pub returns-then-order-eq0-clause-value : goal.returns-then-order-eq0-clause-value
returns-then-order-eq0-clause-value c =
    let xs : List ℤ = c.args.xs.now in
    let v : ℤ = c.sample_at-v.result in
    let known : 0 ≡ c.args.order = omega (arith, c.if-order-eq0.true) in
    small_same v c.sample_at-v.ensures.small ∙ residual_0 xs c.args.i v c.sample_at-v.ensures.value ∙ ap (λ n. get_or (rest_of n xs) c.args.i (pos 0)) known

pub returns-then-order-eq1-clause-value : goal.returns-then-order-eq1-clause-value
returns-then-order-eq1-clause-value c =
    let xs : List ℤ = c.args.xs.now in
    let v : ℤ = c.sample_at-v.result in
    let x : ℤ = c.sample_at-x.result in
    let r : ℤ = c.first_step.result in
    let known : 1 ≡ c.args.order = omega (arith, c.if-order-eq1.true) in
    let sv = small_same v c.sample_at-v.ensures.small in
    let sx = small_same x c.sample_at-x.ensures.small in
    let given = c.first_step.ensures.value in
    let e : r ≡ x -ℤ v = cc in
    wide_same r c.first_step.ensures.wide
    ∙ residual_1 xs c.args.i v x r (omega (arith, c.requires.there, known)) c.sample_at-v.ensures.value c.sample_at-x.ensures.value e
    ∙ ap (λ n. get_or (rest_of n xs) c.args.i (pos 0)) known

pub returns-then-order-eq2-clause-value : goal.returns-then-order-eq2-clause-value
returns-then-order-eq2-clause-value c =
    let xs : List ℤ = c.args.xs.now in
    let v : ℤ = c.sample_at-v.result in
    let x : ℤ = c.sample_at-x.result in
    let y : ℤ = c.sample_at-y.result in
    let r : ℤ = c.second_step.result in
    let known : 2 ≡ c.args.order = omega (arith, c.if-order-eq2.true) in
    let sv = small_same v c.sample_at-v.ensures.small in
    let sx = small_same x c.sample_at-x.ensures.small in
    let sy = small_same y c.sample_at-y.ensures.small in
    let given = c.second_step.ensures.value in
    let e : r ≡ y -ℤ (pos 2 *ℤ x -ℤ v) = cc in
    wide_same r c.second_step.ensures.wide
    ∙ residual_2 xs c.args.i v x y r (omega (arith, c.requires.there, known)) c.sample_at-v.ensures.value c.sample_at-x.ensures.value c.sample_at-y.ensures.value e
    ∙ ap (λ n. get_or (rest_of n xs) c.args.i (pos 0)) known

pub returns-then-order-eq3-clause-value : goal.returns-then-order-eq3-clause-value
returns-then-order-eq3-clause-value c =
    let xs : List ℤ = c.args.xs.now in
    let v : ℤ = c.sample_at-v.result in
    let x : ℤ = c.sample_at-x.result in
    let y : ℤ = c.sample_at-y.result in
    let z : ℤ = c.sample_at-z.result in
    let m : ℤ = c.third_middle.result in
    let r : ℤ = c.third_step.result in
    let known : 3 ≡ c.args.order = omega (arith, c.if-order-eq3.true) in
    let sv = small_same v c.sample_at-v.ensures.small in
    let sx = small_same x c.sample_at-x.ensures.small in
    let sy = small_same y c.sample_at-y.ensures.small in
    let sz = small_same z c.sample_at-z.ensures.small in
    let sm = bounded_same m c.third_middle.ensures.bounded in
    let inner = c.third_middle.ensures.value in
    let given = c.third_step.ensures.value in
    let em : m ≡ pos 3 *ℤ (x -ℤ y) = cc in
    let e : r ≡ m +ℤ z -ℤ v = cc in
    wide_same r c.third_step.ensures.wide
    ∙ residual_3 xs c.args.i v x y z m r (omega (arith, c.requires.there, known)) c.sample_at-v.ensures.value c.sample_at-x.ensures.value c.sample_at-y.ensures.value
    c.sample_at-z.ensures.value em e
    ∙ ap (λ n. get_or (rest_of n xs) c.args.i (pos 0)) known

pub returns-clause-value : goal.returns-clause-value
returns-clause-value c =
    let xs : List ℤ = c.args.xs.now in
    let v : ℤ = c.sample_at-v.result in
    let x : ℤ = c.sample_at-x.result in
    let y : ℤ = c.sample_at-y.result in
    let z : ℤ = c.sample_at-z.result in
    let n : ℤ = c.sample_at-next.result in
    let m : ℤ = c.fourth_middle.result in
    let r : ℤ = c.fourth_step.result in
    let known : 4 ≡ c.args.order = omega (arith, c.requires.order, c.if-order-eq0.false, c.if-order-eq1.false, c.if-order-eq2.false, c.if-order-eq3.false) in
    let sv = small_same v c.sample_at-v.ensures.small in
    let sx = small_same x c.sample_at-x.ensures.small in
    let sy = small_same y c.sample_at-y.ensures.small in
    let sz = small_same z c.sample_at-z.ensures.small in
    let sn = small_same n c.sample_at-next.ensures.small in
    let sm = bounded_same m c.fourth_middle.ensures.bounded in
    let inner = c.fourth_middle.ensures.value in
    let given = c.fourth_step.ensures.value in
    let em : m ≡ pos 6 *ℤ y -ℤ pos 4 *ℤ (x +ℤ z) = cc in
    let e : r ≡ m +ℤ n +ℤ v = cc in
    wide_same r c.fourth_step.ensures.wide
    ∙ residual_4 xs c.args.i v x y z n m r (omega (arith, c.requires.there, known)) c.sample_at-v.ensures.value c.sample_at-x.ensures.value c.sample_at-y.ensures.value
    c.sample_at-z.ensures.value c.sample_at-next.ensures.value em e
    ∙ ap (λ k. get_or (rest_of k xs) c.args.i (pos 0)) known
