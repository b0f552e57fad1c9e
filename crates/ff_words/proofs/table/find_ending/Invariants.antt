use Rattle.std.proofs.Common.{◌≡◌, drop}
use Rattle.ff_words.specs.Table.{ending_in, formats}
use Rattle.ff_words.proofs.table.find_ending.Given as goal

abbrev pub invariant-loop-name : goal.invariant-loop-name
invariant-loop-name l = ending_in (formats (drop l._name-index l.list)) l.name ≡ ending_in (formats l.list) l.name
