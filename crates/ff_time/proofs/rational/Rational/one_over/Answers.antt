use Rattle.ff_time.specs.Fraction.{IsBase-unit}
use Rattle.ff_time.proofs.rational.Rational.one_over.Goals as goal

pub invariant_of-result : goal.invariant_of-result
invariant_of-result c = IsBase-unit c.args.rate c.requires.some c.requires.few
