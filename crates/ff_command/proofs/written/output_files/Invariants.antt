use Rattle.std.proofs.Common.{◌≡◌, ◌++◌, drop, map, vec_items}
use Rattle.std.specs.Prelude.{option_copied}
use Rattle.ff_words.specs.Words.{output_file}
use Rattle.ff_files.specs.Names.{files_of}
use Rattle.ff_command.specs.declared.written.Written.{Written}
use Rattle.ff_command.proofs.written.output_files.Given as goal

abbrev pub invariant-loop-output : goal.invariant-loop-output
invariant-loop-output l =
    files_of (λ (w : Written). option_copied w.file) (vec_items l.files) ++ map output_file (drop l.output-index l.outputs) ≡ map output_file l.outputs
