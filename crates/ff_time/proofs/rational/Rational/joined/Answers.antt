use Rattle.std.proofs.Common.{◌≤◌, [], ◌∷◌, refl, arith}
use Rattle.std.proofs.lemmas.Nat.Gcd.{le_of_dvd}
use Rattle.std.proofs.lemmas.List.Elements.{All-head}
use Rattle.std.specs.Int.{◌∣◌}
use Rattle.ff_time.specs.Common.{IsCommonBase}
use Rattle.ff_time.proofs.CommonBases.{joined_is, common_is_base}
use Rattle.ff_time.proofs.Multiples.{exceed_from_lcm, exceed_not}
use Rattle.ff_time.proofs.rational.Rational.joined.Goals as goal

pub returns-then-den-gt1000000-clause-none : goal.returns-then-den-gt1000000-clause-none
returns-then-den-gt1000000-clause-none c =
    let both : IsCommonBase (c.args.self ∷ c.args.other ∷ []) (record { num = c.common-num.result; den = c.multiple-den.result }) =
    joined_is c.args.self c.args.other _ _ _ _ c.common-num.result c.multiple-den.result c.parts-num.ensures.num c.parts-other_num.ensures.num c.parts-num.ensures.den c.parts-other_num.ensures.den c.common-num.ensures c.multiple-den.ensures.least in
    (λ e. exceed_from_lcm (c.args.self.den ∷ c.args.other.den ∷ []) c.multiple-den.result both.den c.if-den-gt1000000.true, λ more. refl)

pub overflow_cast-result : goal.overflow_cast-result
overflow_cast-result c =
    let both : IsCommonBase (c.args.self ∷ c.args.other ∷ []) (record { num = c.common-num.result; den = c.multiple-den.result }) =
    joined_is c.args.self c.args.other _ _ _ _ c.common-num.result c.multiple-den.result c.parts-num.ensures.num c.parts-other_num.ensures.num c.parts-num.ensures.den c.parts-other_num.ensures.den c.common-num.ensures c.multiple-den.ensures.least in
    let le : c.common-num.result ≤ c.args.self.num = le_of_dvd c.parts-num.ensures.base.num_positive (All-head (λ x. c.common-num.result ∣ x) c.args.self.num (c.args.other.num ∷ []) both.num.divides) in
    omega (arith, le, c.parts-num.ensures.base.num_small)

pub invariant_of-result : goal.invariant_of-result
invariant_of-result c =
    let both : IsCommonBase (c.args.self ∷ c.args.other ∷ []) (record { num = c.common-num.result; den = c.multiple-den.result }) =
    joined_is c.args.self c.args.other _ _ _ _ c.common-num.result c.multiple-den.result c.parts-num.ensures.num c.parts-other_num.ensures.num c.parts-num.ensures.den c.parts-other_num.ensures.den c.common-num.ensures c.multiple-den.ensures.least in
    common_is_base c.args.self c.args.other (record { num = c.common-num.result; den = c.multiple-den.result }) c.parts-num.ensures.base c.parts-other_num.ensures.base c.multiple-den.ensures.positive (omega (arith, c.if-den-gt1000000.false)) both

pub returns-clause-some : goal.returns-clause-some
returns-clause-some c =
    let both : IsCommonBase (c.args.self ∷ c.args.other ∷ []) (record { num = c.common-num.result; den = c.multiple-den.result }) =
    joined_is c.args.self c.args.other _ _ _ _ c.common-num.result c.multiple-den.result c.parts-num.ensures.num c.parts-other_num.ensures.num c.parts-num.ensures.den c.parts-other_num.ensures.den c.common-num.ensures c.multiple-den.ensures.least in
    both

pub returns-clause-none : goal.returns-clause-none
returns-clause-none c =
    let both : IsCommonBase (c.args.self ∷ c.args.other ∷ []) (record { num = c.common-num.result; den = c.multiple-den.result }) =
    joined_is c.args.self c.args.other _ _ _ _ c.common-num.result c.multiple-den.result c.parts-num.ensures.num c.parts-other_num.ensures.num c.parts-num.ensures.den c.parts-other_num.ensures.den c.common-num.ensures c.multiple-den.ensures.least in
    (λ e. cc, λ more. absurd (exceed_not (c.args.self.den ∷ c.args.other.den ∷ []) c.multiple-den.result both.den c.multiple-den.ensures.positive (omega (arith, c.if-den-gt1000000.false)) more))
