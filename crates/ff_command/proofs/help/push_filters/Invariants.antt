use Rattle.std.proofs.Common.{◌≡◌, ◌++◌, drop, vec_items}
use Rattle.ff_command.specs.Help.{filters, filter_lines}
use Rattle.ff_command.proofs.help.push_filters.Given as goal

abbrev pub invariant-loop-name : goal.invariant-loop-name
invariant-loop-name l = vec_items l.out ++ filter_lines l.sound (filters (drop l.name-index l.list)) ≡ vec_items l.fn.out ++ filter_lines l.sound (filters l.list)
