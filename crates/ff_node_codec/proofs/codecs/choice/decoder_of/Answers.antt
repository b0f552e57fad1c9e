use Rattle.ff_node_codec.proofs.codecs.choice.decoder_of.Goals as goal

pub returns-in-Audio-clause-frame : goal.returns-in-Audio-clause-frame
returns-in-Audio-clause-frame c = rw c.in-Audio.is (rw c.in-Audio.is at c.sound_decoder_of.ensures.frame)
