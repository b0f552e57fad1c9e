use Rattle.ff_time.proofs.Lowest.{common_positive, reduced_lem}
use Rattle.ff_time.proofs.rational.reduced.Goals as goal

pub nonzero_div-result : goal.nonzero_div-result
nonzero_div-result c = common_positive c.args.n c.args.d c.common-greatest.result c.requires.num c.common-greatest.ensures

pub nonzero_div-result-2 : goal.nonzero_div-result-2
nonzero_div-result-2 c = common_positive c.args.n c.args.d c.common-greatest.result c.requires.num c.common-greatest.ensures

pub returns : goal.returns
returns c = reduced_lem c.args.n c.args.d c.common-greatest.result c.common-greatest.ensures
