use Rattle.std.proofs.Common.{refl, arith}
use Rattle.ff_avi.proofs.CutLaws.{pad_passed}
use Rattle.ff_avi.proofs.cut.AviCut.pass_pad.Goals as goal

pub returns-clause-cuts : goal.returns-clause-cuts
returns-clause-cuts c = pad_passed c.args.self.now _ c.min-over.result c.requires (omega arith) (omega arith)
    (record { of_lanes = refl; of_first = refl; of_from = refl; of_left = c.requires; of_pad = refl; of_known = refl; of_place = refl; of_bytes = c.skip.ensures.bytes })
