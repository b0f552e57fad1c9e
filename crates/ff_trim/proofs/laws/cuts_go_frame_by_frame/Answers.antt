use Rattle.ff_trim.proofs.ByFrames.{by_frames}
use Rattle.ff_trim.proofs.laws.cuts_go_frame_by_frame.Goals as goal

pub returns : goal.returns
returns c head range s = by_frames head range s
