use Rattle.std.proofs.Common.{◌≡◌, ℤ, pos, refl, ap, subst, ◌∙◌, arith, rules, to_z, of_z}
use Rattle.std.specs.Prelude.{Err, ◌<ℤ◌}
use Rattle.std.specs.Int.{w64}
use Rattle.std.specs.Int.RustNames.{FitsSigned, unsigned_abs}
use Rattle.std.proofs.lemmas.Int.{ints, to_z-of_z}
use Rattle.ff_time.specs.Fraction.{Fraction, IsBase}
use Rattle.ff_time.specs.Rescale.{IsRescaled}
use Rattle.ff_node_mux.specs.Telling.{microsecond}
use Rattle.ff_node_mux.proofs.TellSteps.{microsecond_is_base, micros_some, micros_large}
use Rattle.ff_node_mux.proofs.telling.micros.Goals as goal

pub unreachable-requires : goal.unreachable-requires
unreachable-requires c = c.in_default.not-Ok microsecond (c.new.ensures.kept microsecond microsecond_is_base refl refl)

pub returns-in-Ok-rescale : goal.returns-in-Ok-rescale
returns-in-Ok-rescale c =
    let time = c.args.time in
    let v = c.in-Ok-rescale.time in
    let kept = c.in-Ok.ensures.kept microsecond microsecond_is_base refl refl in
    let unit : c.in-Ok.microsecond ≡ microsecond = cc in
    let base : IsBase c.args.base = search rules in
    let some : pos 0 <ℤ time = omega (arith, ints, c.if-time-le0.false) in
    let near : IsRescaled time c.args.base microsecond v =
    subst (λ (t : ℤ). IsRescaled t c.args.base microsecond v) (to_z-of_z w64 time c.ranges.time)
    (subst (λ (to : Fraction). IsRescaled (to_z w64 (of_z w64 time)) c.args.base to v) unit c.in-Ok-rescale.ensures.ok) in
    let fits : FitsSigned w64 v = search rules in
    c.unsigned_abs.ensures.value ∙ ap unsigned_abs (to_z-of_z w64 v fits ∙ micros_some c.args.base time v base some near fits)

pub returns-in-Err : goal.returns-in-Err
returns-in-Err c =
    let time = c.args.time in
    let kept = c.in-Ok.ensures.kept microsecond microsecond_is_base refl refl in
    let unit : c.in-Ok.microsecond ≡ microsecond = cc in
    let base : IsBase c.args.base = search rules in
    let some : pos 0 <ℤ time = omega (arith, ints, c.if-time-le0.false) in
    let beyond = c.in-Err.ensures.overflow.0 (ap Err c.in-Err.ensures.err) in
    let near : IsRescaled time c.args.base microsecond beyond.0 =
    subst (λ (t : ℤ). IsRescaled t c.args.base microsecond beyond.0) (to_z-of_z w64 time c.ranges.time)
    (subst (λ (to : Fraction). IsRescaled (to_z w64 (of_z w64 time)) c.args.base to beyond.0) unit beyond.1) in
    micros_large c.args.base time beyond.0 base some near beyond.2
