use Rattle.std.proofs.Common.{◌∙◌, arith}
use Rattle.ff_planes.proofs.TurnLaws.{all_turned}
use Rattle.ff_planes.proofs.flips.turn_over.Goals as goal

pub returns : goal.returns
returns c = all_turned c.args.columns c.args.rows c.rows.row c.args.bytes.now c.rows.bytes c.requires (c.rows.auto.bytes ∙ c.requires) (omega arith) c.rows.invariant
