use Rattle.ff_flac_enc.proofs.GatherLaws.{can_be_fed}
use Rattle.ff_flac_enc.proofs.blocks_laws.frames_of_a_valid_stream_can_be_fed.Goals as goal

pub returns : goal.returns
returns c = λ blocks fed n frame head mark cuts base valid. can_be_fed blocks fed n frame head mark cuts base valid
