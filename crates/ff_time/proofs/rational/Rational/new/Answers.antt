use Rattle.std.proofs.Common.{rules}
use Rattle.ff_time.specs.Fraction.{Fraction, IsLowestOf}
use Rattle.ff_time.proofs.Lowest.{IsLowestOf-base, IsLowestOf-small}
use Rattle.ff_time.proofs.rational.Rational.new.Goals as goal

pub invariant_of-result : goal.invariant_of-result
invariant_of-result c =
    let f : Fraction = record { num = c.reduced-lowest.result.0; den = c.reduced-lowest.result.1 } in
    let lowest : IsLowestOf c.args.num c.args.den f = search rules in
    IsLowestOf-base c.args.num c.args.den f lowest c.if-lowest.false c.if-lowest-2.false

pub returns-clause-base : goal.returns-clause-base
returns-clause-base c =
    let f : Fraction = record { num = c.reduced-lowest.result.0; den = c.reduced-lowest.result.1 } in
    let lowest : IsLowestOf c.args.num c.args.den f = search rules in
    IsLowestOf-base c.args.num c.args.den f lowest c.if-lowest.false c.if-lowest-2.false

pub returns-clause-too_big : goal.returns-clause-too_big
returns-clause-too_big c =
    let f : Fraction = record { num = c.reduced-lowest.result.0; den = c.reduced-lowest.result.1 } in
    let lowest : IsLowestOf c.args.num c.args.den f = search rules in
    (λ e. cc, λ h. absurd (IsLowestOf-small c.args.num c.args.den f h.0 lowest h.1 c.if-lowest.false c.if-lowest-2.false h.2))
