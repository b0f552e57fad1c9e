use Rattle.std.proofs.Common.{◌≡◌, ◌*◌, ◌^◌, ◌-◌, ◌<◌, arith, ap, ◌∙◌}
use Rattle.ff_time.proofs.Decimals.{millionths_few, millionths_many, millionths_below, place_small}
use Rattle.ff_time.proofs.reading.decimal.Goals as goal

pub returns-then-digits-lt6 : goal.returns-then-digits-lt6
returns-then-digits-lt6 c = λ k m small digit count so_far.
    let few : k < 6 = omega arith in
    let place : c.pow.result ≡ 10 ^ (5 - k) = c.pow.ensures ∙ ap (λ x. 10 ^ (5 - x)) (omega arith) in
    let part : c.from.result * c.pow.result ≡ c.args.digit * 10 ^ (5 - k) = cc in
    omega (arith, millionths_few k m c.args.digit few, millionths_below k m small, part, place_small k c.args.digit digit)

pub returns-else-digits-lt6 : goal.returns-else-digits-lt6
returns-else-digits-lt6 c = λ k m small digit count so_far.
    omega (arith, millionths_many k m c.args.digit (omega arith) digit)
