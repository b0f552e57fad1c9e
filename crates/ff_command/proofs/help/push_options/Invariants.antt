use Rattle.std.proofs.Common.{◌≡◌, ◌++◌, drop, vec_items}
use Rattle.ff_words.specs.Table.{lines}
use Rattle.ff_command.specs.Help.{option_lines}
use Rattle.ff_command.proofs.help.push_options.Given as goal

abbrev pub invariant-loop-name : goal.invariant-loop-name
invariant-loop-name l = vec_items l.out ++ option_lines (lines (drop l.name-index l.list)) ≡ vec_items l.fn.out ++ option_lines (lines l.list)
