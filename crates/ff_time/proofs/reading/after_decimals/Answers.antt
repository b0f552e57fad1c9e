use Rattle.std.proofs.Common.{◌≡◌, ◌+◌, ◌*◌, ◌/◌, ◌<◌, arith}
use Rattle.std.proofs.lemmas.Grind.{common_steps}
use Rattle.ff_time.specs.Reading.{millionths_of, cap, value_at}
use Rattle.ff_time.proofs.Decimals.{value_at-capped}
use Rattle.ff_time.proofs.reading.after_decimals.Goals as goal

pub returns-in-S : goal.returns-in-S
returns-in-S c = λ w k m small digit whole count so_far.
    let worth : cap (cap w * 1000000 + millionths_of k m * 1000000 / 1000000) ≡ cap (value_at w k m 1000000) = value_at-capped w k m 1000000 1 (omega arith) (omega arith) (omega arith) in
    let value : c.micros.result ≡ cap (value_at w k m 1000000) = cc in
    let some : 0 < k = omega arith in
    grind (arith, common_steps)

pub returns-in-M : goal.returns-in-M
returns-in-M c = λ w k m small digit whole count so_far.
    let worth : cap (cap w * 1000 + millionths_of k m * 1000 / 1000000) ≡ cap (value_at w k m 1000) = value_at-capped w k m 1000 1000 (omega arith) (omega arith) (omega arith) in
    let value : c.micros-in-M.result ≡ cap (value_at w k m 1000) = cc in
    let some : 0 < k = omega arith in
    grind (arith, common_steps)

pub returns-in-U : goal.returns-in-U
returns-in-U c = λ w k m small digit whole count so_far.
    let worth : cap (cap w * 1 + millionths_of k m * 1 / 1000000) ≡ cap (value_at w k m 1) = value_at-capped w k m 1 1000000 (omega arith) (omega arith) (omega arith) in
    let value : c.micros-in-U.result ≡ cap (value_at w k m 1) = cc in
    let some : 0 < k = omega arith in
    grind (arith, common_steps)
