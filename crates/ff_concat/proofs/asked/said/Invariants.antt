use Rattle.std.proofs.Common.{◌≡◌, ◌≤◌, false, Some, drop}
use Rattle.std.specs.Prelude.{IfSome}
use Rattle.ff_concat.specs.Arguments.{said_from}
use Rattle.ff_concat.proofs.asked.said.Given as goal

abbrev pub invariant-each : goal.invariant-each
invariant-each l = record {
  so_far : said_from l.option l.least l.most l.keyed l.place l.number (drop l.place l.args) ≡ said_from l.option l.least l.most false 0 (Some l.otherwise) l.args;
  within : IfSome l.number (λ n. (l.least ≤ n) × (n ≤ l.most));
}
