use Rattle.std.proofs.Common.{arith}
use Rattle.std.proofs.lemmas.Int.{ints}
use Rattle.ff_time.proofs.Nearest.{IsNearest-size_neg, IsNearest-size_pos}
use Rattle.ff_time.proofs.rescaling.nearest.Goals as goal

pub returns-then-a-lt0 : goal.returns-then-a-lt0
returns-then-a-lt0 c =
    IsNearest-size_neg c.args.a _ c.args.scale c.args.unit c.from.result c.rounded-size.result (omega (arith, ints)) (omega (arith, ints)) c.rounded-size.ensures.near

pub returns-else-a-lt0 : goal.returns-else-a-lt0
returns-else-a-lt0 c =
    IsNearest-size_pos c.args.a _ c.args.scale c.args.unit c.from.result c.rounded-size.result (omega (arith, ints)) (omega (arith, ints)) c.rounded-size.ensures.near
