use Rattle.std.proofs.Common.{◌≡◌, length, sym, ap, ◌∙◌, subst}
use Rattle.std.specs.Prelude.{option_copied}
use Rattle.ff_files.specs.Counts.{counted}
use Rattle.ff_files.specs.Names.{files_of, AreApart, KeepsAllBut}
use Rattle.ff_files.specs.Works.{HoldTrace, AreHeadsIn, told_bytes}
use Rattle.ff_files.specs.Outputs.{CreatesOutputs}
use Rattle.ff_files.specs.Ends.{end_of_output}
use Rattle.ff_files.proofs.Lists.{files_len}
use Rattle.ff_files.proofs.Creations.{creates_as}
use Rattle.ff_words.specs.Words.{written}
use Rattle.ff_command.specs.declared.written.Written.{Written}
use Rattle.ff_command.specs.Command.{over, IsReported, HoldsPrinted}
use Rattle.ff_command.specs.Histories.{LogHas}
use Rattle.ff_command.specs.Steps.{status_of}
use Rattle.ff_command.proofs.Ends.{ran, fine-end, over-same, held-printed}
use Rattle.ff_command.proofs.Names.{names-apart}
use Rattle.ff_command.proofs.Reports.{has_more, if_some_more}
use Rattle.ff_sched.specs.Printing.{printed}
use Rattle.ff_command.proofs.run.run_free.Goals as goal

pub over_files-end-requires-clause-apart : goal.over_files-end-requires-clause-apart
over_files-end-requires-clause-apart g c = λ lifetimes lives.
    subst AreApart (sym c.requires.named) (names-apart c.args.job.now c.requires.bounded.names)

pub returns-clause-ran : goal.returns-clause-ran
returns-clause-ran g c =
    let H = g.H.Host in
    let job = c.args.job.now in
    let ins = counted H.in_faults c.args.host.now c.over_files-end.new.host in
    let outs = counted H.out_faults c.args.host.now c.over_files-end.new.host in
    let names = files_of (λ (w : Written). option_copied w.file) c.args.files.now in
    let same : names ≡ written job = c.requires.named in
    let e = c.over_files-end.ensures in
    ran (g.P.Worker.means c.args.worker.now) job (H.files c.args.host.now) (H.files c.over_files-end.new.host) ins outs c.requires.free c.over_files-end.result.end c.status_of_end.result
    c.as_slice-inputs.result.now names (length c.as_slice-count.result.now) c.status_of_end.ensures c.as_slice-inputs.ensures same (ap length c.as_slice-count.ensures) (record {
      bytes = e.bytes;
      front = e.front;
      others = subst (λ n. KeepsAllBut (H.files c.args.host.now) (H.files c.over_files-end.new.host) names n) (sym (files_len (λ (w : Written). option_copied w.file) c.args.files.now)) e.others;
      untouched = e.untouched;
      ends = e.ends;
      in_counts = e.in_counts;
      out_counts = e.out_counts;
      refused = e.refused;
      no_plan = e.no_plan;
      complete = e.complete;
    })

pub returns-clause-logged : goal.returns-clause-logged
returns-clause-logged g c = λ fine.
    let H = g.H.Host in
    let job = c.args.job.now in
    let means = g.P.Worker.means c.args.worker.now in
    let before = H.files c.args.host.now in
    let after = H.files c.over_files-end.new.host in
    let ins = counted H.in_faults c.args.host.now c.over_files-end.new.host in
    let outs = counted H.out_faults c.args.host.now c.over_files-end.new.host in
    let names = files_of (λ (w : Written). option_copied w.file) c.args.files.now in
    let same : names ≡ written job = c.requires.named in
    let n = length c.as_slice-count.result.now in
    let P = g.P.Worker in
    let worker = c.args.worker.now in
    has_more _ (IsReported (over means job) (λ heads bytes log. LogHas (P.tells worker job heads bytes) (P.reads worker job heads bytes) log) before) c.over_files-end.result.log
    (λ log told.
    let both = over-same means job before after ins outs
    (λ cmd. AreHeadsIn cmd before told.0 × LogHas (P.tells worker job told.0 (told_bytes cmd before)) (P.reads worker job told.0 (told_bytes cmd before)) log) c.as_slice-inputs.result.now names n
    c.as_slice-inputs.ensures same (ap length c.as_slice-count.ensures) (told.1, told.2) in
    (told.0, both.0, both.1))
    (c.over_files-end.ensures.logged (fine-end means job before after ins outs c.over_files-end.result.end n (sym c.status_of_end.ensures ∙ fine)))

pub returns-clause-traced : goal.returns-clause-traced
returns-clause-traced g c = λ fine.
    let H = g.H.Host in
    let job = c.args.job.now in
    let means = g.P.Worker.means c.args.worker.now in
    let before = H.files c.args.host.now in
    let after = H.files c.over_files-end.new.host in
    let ins = counted H.in_faults c.args.host.now c.over_files-end.new.host in
    let outs = counted H.out_faults c.args.host.now c.over_files-end.new.host in
    let names = files_of (λ (w : Written). option_copied w.file) c.args.files.now in
    let same : names ≡ written job = c.requires.named in
    let n = length c.as_slice-count.result.now in
    if_some_more _ (λ log. HoldsPrinted job before after log.history) c.over_files-end.result.log
    (λ log held. held-printed means job before after ins outs log.history
    (over-same means job before after ins outs (λ cmd. HoldTrace cmd (printed log.history) before after) c.as_slice-inputs.result.now names n c.as_slice-inputs.ensures same (ap length c.as_slice-count.ensures) held))
    (c.over_files-end.ensures.traced (fine-end means job before after ins outs c.over_files-end.result.end n (sym c.status_of_end.ensures ∙ fine)))

pub returns-clause-created : goal.returns-clause-created
returns-clause-created g c =
    let H = g.H.Host in
    let job = c.args.job.now in
    let before = H.files c.args.host.now in
    let after = H.files c.over_files-end.new.host in
    let made = H.created c.over_files-end.new.host in
    let outs = counted H.out_faults c.args.host.now c.over_files-end.new.host in
    let names = files_of (λ (w : Written). option_copied w.file) c.args.files.now in
    let same : names ≡ written job = c.requires.named in
    let end = c.over_files-end.result.end in
    creates_as (written job) made (λ k why. end ≡ end_of_output k why) (λ k why. c.status_of_end.result ≡ status_of (length job.outputs) (end_of_output k why)) before after outs
    (λ k why e. c.status_of_end.ensures ∙ (ap (λ n. status_of n end) (ap length c.as_slice-count.ensures) ∙ ap (status_of (length job.outputs)) e))
    (subst (λ ns. CreatesOutputs made before after outs ns (λ k why. end ≡ end_of_output k why)) same c.over_files-end.ensures.created)
