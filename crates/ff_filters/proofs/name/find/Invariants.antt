use Rattle.std.proofs.Common.{◌≡◌, drop}
use Rattle.ff_filters.specs.Names.{named_in, named_lines}
use Rattle.ff_filters.proofs.name.find.Given as goal

abbrev pub invariant-loop-own : goal.invariant-loop-own
invariant-loop-own l = named_in (named_lines (drop l.own-index l.list)) l.name ≡ named_in (named_lines l.list) l.name
