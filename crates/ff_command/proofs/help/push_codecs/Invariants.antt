use Rattle.std.proofs.Common.{◌≡◌, ◌++◌, drop, vec_items}
use Rattle.ff_command.specs.Help.{codec_lines}
use Rattle.ff_command.proofs.help.push_codecs.Given as goal

abbrev pub invariant-loop-codec : goal.invariant-loop-codec
invariant-loop-codec l = vec_items l.out ++ codec_lines (drop l.codec-index l.list) ≡ vec_items l.fn.out ++ codec_lines l.list
