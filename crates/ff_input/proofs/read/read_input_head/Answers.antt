use Rattle.std.proofs.Common.{[], refl}
use Rattle.ff_input.proofs.read.read_input_head.Goals as goal

pub returns-clause-not_yet : goal.returns-clause-not_yet
returns-clause-not_yet c = (c.read.ensures.answers c.args.format ([], c.args.bytes.now, refl, c.new-walk.ensures)).not_yet

pub returns-clause-decided : goal.returns-clause-decided
returns-clause-decided c = (c.read.ensures.answers c.args.format ([], c.args.bytes.now, refl, c.new-walk.ensures)).decided

pub returns-clause-stays : goal.returns-clause-stays
returns-clause-stays c = (c.read.ensures.answers c.args.format ([], c.args.bytes.now, refl, c.new-walk.ensures)).stays

pub returns-clause-sound : goal.returns-clause-sound
returns-clause-sound c = (c.read.ensures.answers c.args.format ([], c.args.bytes.now, refl, c.new-walk.ensures)).sound
