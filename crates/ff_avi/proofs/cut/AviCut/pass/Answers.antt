use Rattle.std.proofs.Common.{refl, arith}
use Rattle.ff_avi.proofs.CutLaws.{left_passed}
use Rattle.ff_avi.proofs.cut.AviCut.pass.Goals as goal

pub returns-then-self-eq0-clause-cuts : goal.returns-then-self-eq0-clause-cuts
returns-then-self-eq0-clause-cuts c = λ head used fed n k. c.pass_pad.ensures.cuts head used fed n
    (left_passed c.args.self.now _ c.min-over.result (omega arith) (omega arith)
    (record { of_lanes = refl; of_first = refl; of_from = refl; of_left = refl; of_pad = refl; of_known = refl; of_place = refl; of_bytes = c.skip.ensures.bytes }) head used fed n k)

pub returns-else-self-eq0-clause-cuts : goal.returns-else-self-eq0-clause-cuts
returns-else-self-eq0-clause-cuts c = left_passed c.args.self.now _ c.min-over.result (omega arith) (omega arith)
    (record { of_lanes = refl; of_first = refl; of_from = refl; of_left = refl; of_pad = refl; of_known = refl; of_place = refl; of_bytes = c.skip.ensures.bytes })
