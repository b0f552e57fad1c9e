use Rattle.ff_node_codec.specs.laws.CodingLaws.{ends_at_damage}
use Rattle.ff_node_codec.specs.Decoding.{decoded_item}
use Rattle.ff_node_codec.proofs.coding.decoding_ends_at_damage.Goals as goal

pub returns : goal.returns
returns c made packets later offset d b = ends_at_damage (decoded_item made) packets later offset d b
