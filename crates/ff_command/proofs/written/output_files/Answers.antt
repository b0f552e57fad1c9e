use Rattle.std.proofs.Common.{◌≡◌, ◌∙◌, ap, vec_items, get_or}
use Rattle.std.specs.Prelude.{option_copied}
use Rattle.ff_words.specs.Words.{output_file}
use Rattle.ff_command.specs.declared.written.Written.{Written}
use Rattle.ff_command.proofs.Names.{next_name, all_names}
use Rattle.ff_command.proofs.written.output_files.Goals as goal

pub loop-output-preserved : goal.loop-output-preserved
loop-output-preserved c =
    let written : Written = c.written_output.result in
    let item = c.output-item.result in
    let own : option_copied written.file ≡ output_file (get_or c.args.outputs.now c.loop-output.output-index item) = c.written_output.ensures ∙ ap output_file c.output-item.is in
    next_name (λ (w : Written). option_copied w.file) output_file (vec_items c.loop-output.files) (vec_items c.push.new.self) written c.args.outputs.now c.loop-output.output-index item
    c.loop-output-test.true c.in_ok-push.ensures.items own c.loop-output.invariant

pub returns : goal.returns
returns c = all_names output_file _ c.args.outputs.now c.loop-output.output-index c.loop-output-test.false c.loop-output.invariant
