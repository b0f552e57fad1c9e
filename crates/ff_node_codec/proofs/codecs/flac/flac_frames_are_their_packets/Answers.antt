use Rattle.ff_node_codec.specs.laws.codecs.FlacLaws.{sounds_are}
use Rattle.ff_node_codec.proofs.codecs.flac.flac_frames_are_their_packets.Goals as goal

pub returns : goal.returns
returns c = sounds_are
