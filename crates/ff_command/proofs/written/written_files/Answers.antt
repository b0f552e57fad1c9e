use Rattle.std.proofs.Common.{◌≡◌, ◌∙◌, ap, sym, refl, ℕ, Some, List, Vec, Global}
use Rattle.std.specs.Prelude.{option_copied}
use Rattle.ff_words.specs.Words.{output_file}
use Rattle.ff_files.specs.Names.{files_of}
use Rattle.ff_command.specs.declared.written.Written.{Written}
use Rattle.ff_command.proofs.Names.{with_trace, without_trace}
use Rattle.ff_command.proofs.written.written_files.Goals as goal
use Rattle.ff_command.proofs.written.written_files.Goals.{in-Some+in_ok-push, in_default}

pub returns : goal.returns
returns c =
    let name = λ (w : Written). option_copied w.file in
    let outputs = files_of output_file c.args.job.now.outputs in
    let front : files_of name c.in_ok-files.files.items ≡ outputs = c.in_ok-files.ensures ∙ ap (files_of output_file) c.as_slice.ensures in
    elim c.match-job.branch [
      | in-Some+in_ok-push w ↦
          let last : Written = record { file = Some w.as_str.result } in
          with_trace name c.in_ok-files.files.items c.match-job.files.items last outputs c.args.job.now.trace w.as_str.result.now (ap (λ (v : Vec Written Global). v.items) w.files-is ∙ w.in_ok-push.ensures.items) refl (w.in-Some.is ∙ ap (λ (t : List ℕ). Some t) (sym w.as_str.ensures)) front
      | in_default w ↦ without_trace outputs (files_of name c.match-job.files.items) c.args.job.now.trace w.in_default.is (ap (λ (v : Vec Written Global). files_of name v.items) w.files-is ∙ front)
    ]
