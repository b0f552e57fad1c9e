use Rattle.std.proofs.Common.{rules}
use Rattle.ff_wav.proofs.FormLaws.{exact_riff, exact_rf64}
use Rattle.ff_wav.proofs.walk.BothForms+HeadWalk+RiffWave+HeadWalk+Rf64Wave.read.Goals as goal

pub returns-then-begins_rf64-clause-exact : goal.returns-then-begins_rf64-clause-exact
returns-then-begins_rf64-clause-exact c = exact_rf64 c.args.self.now c.args.whole c.args.bytes.now c.read.result (search rules) c.read.ensures.exact

pub returns-clause-exact : goal.returns-clause-exact
returns-clause-exact c = exact_riff c.args.self.now c.args.whole c.args.bytes.now c.read-2.result (search rules) c.read-2.ensures.exact
