use Rattle.ff_y4m.proofs.FinishedLaws.{pictures_are_files}
use Rattle.ff_y4m.proofs.laws.finished_pictures_are_yuv4mpeg2.Goals as goal

pub returns : goal.returns
returns c = pictures_are_files
