use Rattle.ff_node_codec.specs.Decoding.{decoded_item}
use Rattle.ff_node_codec.proofs.dec.step.Goals as goal

pub returns-then-closes-clause-follows : goal.returns-then-closes-clause-follows
returns-then-closes-clause-follows g c = λ t. c.closing.ensures.follows (decoded_item (g.D.Decoder.made c.args.decoder.now))
