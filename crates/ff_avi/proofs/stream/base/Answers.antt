use Rattle.std.proofs.Common.{arith}
use Rattle.ff_avi.specs.laws.BaseLaws.{zero_scale, zero_rate, some_base, no_base_scale, no_base_rate}
use Rattle.ff_avi.proofs.stream.base.Goals as goal

pub returns-then-scale-eq0 : goal.returns-then-scale-eq0
returns-then-scale-eq0 c = zero_scale c.args.at c.args.scale c.args.rate (omega arith)

pub returns-then-rate-eq0 : goal.returns-then-rate-eq0
returns-then-rate-eq0 c = zero_rate c.args.at c.args.scale c.args.rate (omega arith) (omega arith)

pub returns-in-Some : goal.returns-in-Some
returns-in-Some c = some_base c.args.at c.args.scale c.args.rate _ (omega arith) (omega arith) c.in-Some.ensures

pub returns-in-None : goal.returns-in-None
returns-in-None c = no_base_scale c.args.at c.args.scale c.args.rate (omega arith) (omega arith) (omega arith) (omega arith) c.in-None.ensures (omega arith)

pub returns-in-None-2 : goal.returns-in-None-2
returns-in-None-2 c = no_base_rate c.args.at c.args.scale c.args.rate (omega arith) (omega arith) (omega arith) (omega arith) c.in-None.ensures (omega arith)
