use Rattle.std.proofs.Common.{◌≡◌, false, drop}
use Rattle.ff_joins.specs.Arguments.{last_from}
use Rattle.ff_joins.proofs.arguments.last_number.Given as goal

abbrev pub invariant-each : goal.invariant-each
invariant-each g l = last_from g.S.Settings.manual l.option l.least l.most l.otherwise l.keyed l.place l.number (drop l.place l.args) ≡ last_from g.S.Settings.manual l.option l.least l.most l.otherwise false 0 l.otherwise l.args
