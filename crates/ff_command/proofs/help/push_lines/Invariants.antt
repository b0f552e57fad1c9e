use Rattle.std.proofs.Common.{◌≡◌, ◌++◌, drop, vec_items}
use Rattle.ff_words.specs.Table.{names}
use Rattle.ff_command.specs.Help.{all_lines}
use Rattle.ff_command.proofs.help.push_lines.Given as goal

abbrev pub invariant-loop-text : goal.invariant-loop-text
invariant-loop-text l = vec_items l.out ++ all_lines (names (drop l.text-index l.list)) ≡ vec_items l.fn.out ++ all_lines (names l.list)
