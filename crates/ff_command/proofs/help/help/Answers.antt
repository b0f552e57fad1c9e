use Rattle.ff_command.specs.Help.{help_text}
use Rattle.ff_command.proofs.Joining.{ten_parts}
use Rattle.ff_command.proofs.help.help.Goals as goal

pub returns : goal.returns
unfolding help_text
returns c =
    ten_parts _ _ _ _ _ _ _ _ _ _ _ _ _ _ _ _ _ _ _ _ _ c.new-out.ensures.items c.in_ok-push_lines.ensures c.in_ok-push_options.ensures c.in_ok-push_line.ensures c.in_ok-push_formats.ensures
    c.in_ok-push_line-2.ensures c.in_ok-push_codecs.ensures c.in_ok-push_line-3.ensures c.in_ok-push_codecs-2.ensures
    c.in_ok-push_all_filters.ensures c.in_ok-push_lines-2.ensures
