use Rattle.ff_node_codec.specs.Encoding.{encoded_item}
use Rattle.ff_node_codec.proofs.enc.step.Goals as goal

pub returns-then-closes-clause-follows : goal.returns-then-closes-clause-follows
returns-then-closes-clause-follows g c = λ t. c.closing.ensures.follows (encoded_item (g.E.Encoder.made c.args.encoder.now))
