use Rattle.std.proofs.Common.{◌≡◌, ℕ, Bool, ◌+◌, ◌*◌, ◌/◌, ◌<◌, arith, min, option_map, Some, None, nat_lt, if◌then◌else◌, sym, ◌∙◌}
use Rattle.std.proofs.lemmas.Grind.{common_steps}
use Rattle.ff_time.specs.Reading.{Exact, first, second, third, decimals, scaled, done, shown, millionths_of, cap, value_at, value_of}
use Rattle.ff_time.specs.declared.reading.Reading.TheVariants.{Decimals}
use Rattle.ff_time.proofs.Decimals.{value_at-capped}
use Rattle.ff_time.proofs.reading.Reading.value.Goals as goal

value_some : (k v x : ℕ) → 0 < k → v ≡ cap x → Some v ≡ option_map cap (if nat_lt 0 k then Some x else None)
value_some k v x some e = grind (arith, common_steps)

value_here : (r : Exact) (whole : ℕ) (units : Bool) (digits millionths v : ℕ) → Decimals whole units digits millionths ≡ shown r → 0 < digits → v ≡ cap (whole * 1000000 + millionths * 1000000 / 1000000) → Some v ≡ option_map cap (value_of r)
value_here (first k n) whole units digits millionths v e some is = cc
value_here (second f minutes k n) whole units digits millionths v e some is = cc
value_here (third minutes k n) whole units digits millionths v e some is = cc
value_here (decimals w u k m) whole units digits millionths v e some is =
    let worth : cap (cap w * 1000000 + millionths_of k m * 1000000 / 1000000) ≡ cap (value_at w k m 1000000) = value_at-capped w k m 1000000 1 (omega arith) (omega arith) (omega arith) in
    let whole_is : whole ≡ cap w = cc in
    let digits_is : digits ≡ min 6 k = cc in
    let rest_is : millionths ≡ millionths_of k m = cc in
    value_some k v (value_at w k m 1000000) (omega arith) cc
value_here (scaled x) whole units digits millionths v e some is = cc
value_here (done x) whole units digits millionths v e some is = cc

pub returns-in-Decimals : goal.returns-in-Decimals
returns-in-Decimals c = λ r sound e.
    value_here r c.in-Decimals.whole c.in-Decimals.units c.in-Decimals.digits c.in-Decimals.millionths c.micros-in-Decimals.result (sym c.in-Decimals.is ∙ e) c.if-digits-gt0-4.true c.micros-in-Decimals.ensures
