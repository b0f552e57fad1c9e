use Rattle.ff_y4m.proofs.FrameLaws.{read_frames}
use Rattle.ff_y4m.proofs.laws.written_frames_are_read_again.Goals as goal

pub returns : goal.returns
returns c = read_frames
