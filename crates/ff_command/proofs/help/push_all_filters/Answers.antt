use Rattle.ff_command.specs.Help.{filters_text}
use Rattle.ff_command.proofs.Joining.{four_parts}
use Rattle.ff_command.proofs.help.push_all_filters.Goals as goal

pub returns : goal.returns
unfolding filters_text
returns c =
    four_parts _ _ _ _ _ _ _ _ _ c.in_ok-push_line.ensures c.in_ok-push_filters.ensures c.in_ok-push_line-2.ensures c.in_ok-push_filters-2.ensures
