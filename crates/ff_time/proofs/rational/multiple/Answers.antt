use Rattle.std.proofs.Math.Nat.{mul-pos}
use Rattle.ff_time.proofs.Lowest.{common_positive, quotient_positive}
use Rattle.ff_time.proofs.Multiples.{lcm_of_two}
use Rattle.ff_time.proofs.rational.multiple.Goals as goal

pub nonzero_div-result : goal.nonzero_div-result
nonzero_div-result c = common_positive c.args.n c.args.d c.common.result c.requires.n.0 c.common.ensures

pub returns-clause-least : goal.returns-clause-least
returns-clause-least c = lcm_of_two c.args.n c.args.d c.common.result (common_positive c.args.n c.args.d c.common.result c.requires.n.0 c.common.ensures) c.common.ensures

pub returns-clause-positive : goal.returns-clause-positive
returns-clause-positive c = mul-pos (quotient_positive c.args.n c.common.result c.requires.n.0 c.common.ensures.0) c.requires.d.0
