use Rattle.std.proofs.Common.{◌≡◌, ◌++◌, drop, vec_items}
use Rattle.ff_words.specs.Table.{formats}
use Rattle.ff_command.specs.Help.{format_lines}
use Rattle.ff_command.proofs.help.push_formats.Given as goal

abbrev pub invariant-loop-name : goal.invariant-loop-name
invariant-loop-name l = vec_items l.out ++ format_lines (formats (drop l.name-index l.list)) ≡ vec_items l.fn.out ++ format_lines (formats l.list)
