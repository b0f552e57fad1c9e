use Rattle.ff_planes.proofs.RoundLaws.{cropped_of_padded}
use Rattle.ff_planes.proofs.laws.a_crop_undoes_a_pad.Goals as goal

pub returns : goal.returns
returns c = cropped_of_padded
