use Rattle.std.proofs.Common.{refl}
use Rattle.ff_host.specs.laws.Begun.{still_in}
use Rattle.ff_host.proofs.begun.Begun.into_inner.Goals as goal

pub returns-clause-left : goal.returns-clause-left
returns-clause-left g c = (still_in c.args.self.bytes.items c.args.self.at, refl)
