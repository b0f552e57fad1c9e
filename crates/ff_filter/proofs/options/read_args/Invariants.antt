use Rattle.std.proofs.Common.{drop, false}
use Rattle.ff_filter.specs.Options.{AreRead}
use Rattle.ff_filter.proofs.options.read_args.Given as goal

abbrev pub invariant-each : goal.invariant-each
invariant-each g l = (r : _) → AreRead g.S.Settings.manual l.keyed l.place l.settings (drop l.place l.args) r → AreRead g.S.Settings.manual false 0 l.fn.settings l.args r
