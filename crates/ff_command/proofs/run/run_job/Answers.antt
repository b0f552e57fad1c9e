use Rattle.std.proofs.Common.{Ok, length, sym, ap, ◌∙◌, subst}
use Rattle.ff_command.specs.declared.report.Status.TheVariants as status
use Rattle.ff_command.specs.Steps.{written_file, Ran}
use Rattle.ff_command.proofs.Ends.{same_counts, ran-kept}
use Rattle.ff_command.proofs.run.run_job.Goals as goal

pub returns-in-Ok-Some-clause-ran : goal.returns-in-Ok-Some-clause-ran
returns-in-Ok-Some-clause-ran g c =
    let H = g.H.Host in
    let job = c.args.job.now in
    let means = g.P.Worker.means c.args.worker.now in
    let files = H.files c.args.host.now in
    let ins = H.in_faults c.args.host.now in
    let outs = H.out_faults c.args.host.now in
    let k = c.in-Ok-Some.number in
    let kept = c.first_kept.ensures.kept k (c.in-Ok-Some.is ∙ ap (λ x. Ok x) c.in-Ok-Some.field-0-is) in
    subst (λ answer. Ran means job files files (same_counts ins) (same_counts outs) answer)
    (sym (c.not_run-in-Ok-Some.ensures.0 ∙ (c.status_of_kept.ensures ∙ ap (λ n. status.Device (written_file n k)) (ap length c.as_slice.ensures))))
    (ran-kept means job files ins outs k kept.0 kept.1)
