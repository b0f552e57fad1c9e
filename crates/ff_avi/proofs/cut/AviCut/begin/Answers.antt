use Rattle.std.proofs.Common.{refl}
use Rattle.ff_avi.proofs.CutLaws.{unit_begun}
use Rattle.ff_avi.proofs.cut.AviCut.begin.Goals as goal

pub returns-clause-cuts : goal.returns-clause-cuts
returns-clause-cuts c = λ head used fed n k. c.pass.ensures.cuts head used fed n
    (unit_begun c.args.self.now _ c.args.rest c.args.pad c.args.next c.requires.passed.0 c.requires.passed.1 c.requires.passed.2 c.requires.turn
    (record { of_lanes = refl; of_first = refl; of_from = refl; of_left = refl; of_pad = refl; of_known = refl; of_place = refl; of_bytes = refl }) head used fed n k)
