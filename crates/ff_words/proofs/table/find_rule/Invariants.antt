use Rattle.std.proofs.Common.{◌≡◌, drop}
use Rattle.ff_words.specs.Table.{rule_in, lines}
use Rattle.ff_words.proofs.table.find_rule.Given as goal

abbrev pub invariant-loop-name : goal.invariant-loop-name
invariant-loop-name l = rule_in (lines (drop l.name-index l.list)) l.word ≡ rule_in (lines l.list) l.word
