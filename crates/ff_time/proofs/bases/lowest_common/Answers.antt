use Rattle.std.proofs.Common.{◌≡◌, ◌+◌, suc, [], ◌∷◌, refl, subst, sym, arith}
use Rattle.ff_time.specs.Fraction.{Fraction}
use Rattle.ff_time.specs.Common.{MultiplesExceed, IsCommonBase, dens}
use Rattle.ff_time.proofs.CommonBases.{Joins, joins_first, joins_more, joins_none, joins_all}
use Rattle.ff_time.proofs.Multiples.{exceed_not}
use Rattle.ff_time.proofs.bases.lowest_common.Goals as goal

pub bases-init : goal.bases-init
bases-init c = record {
  joins = subst (λ (b : Fraction). Joins b 0 c.args.bases.now) (sym c.index-bases-0.is) (joins_first c.index-bases-0.result c.args.bases.now c.requires.some);
  small = λ more. absurd (omega (arith, more));
}

pub returns-in_err-common-clause-none : goal.returns-in_err-common-clause-none
returns-in_err-common-clause-none c = (
  λ e. let none = c.in_err-common.ensures.none.0 refl in
      joins_none c.bases.common c.index-bases-i.result c.bases.i c.args.bases.now (omega (arith, c.bases-test.true))
      (subst (λ (b : Fraction). MultiplesExceed (c.bases.common.den ∷ b.den ∷ [])) c.index-bases-i.is none) c.bases.invariant.joins,
  λ more. c.from_residual.ensures,
)

pub bases-preserved : goal.bases-preserved
bases-preserved c = record {
  joins = subst (λ i. Joins c.in_ok-common.common i c.args.bases.now) (let e : suc c.bases.i ≡ c.bases.i + 1 = omega arith in e) (joins_more c.bases.common c.in_ok-common.common c.index-bases-i.result c.bases.i c.args.bases.now (omega (arith, c.bases-test.true))
      (subst (λ (b : Fraction). IsCommonBase (c.bases.common ∷ b ∷ []) c.in_ok-common.common) c.index-bases-i.is c.in_ok-common.ensures.some) c.bases.invariant.joins);
  small = λ more. c.in_ok-common.ensures.small;
}

pub returns-clause-some : goal.returns-clause-some
returns-clause-some c = joins_all c.bases.common c.bases.i c.args.bases.now (omega (arith, c.bases-test.false)) c.bases.invariant.joins

pub returns-clause-none : goal.returns-clause-none
returns-clause-none c =
    let all = joins_all c.bases.common c.bases.i c.args.bases.now (omega (arith, c.bases-test.false)) c.bases.invariant.joins in
    let small = c.bases.invariant.small (omega (arith, c.bases-test.false, c.requires.some)) in
    (λ e. cc, λ more. absurd (exceed_not (dens c.args.bases.now) c.bases.common.den all.den small.0 small.1 more))
