use Rattle.std.proofs.Common.{◌≡◌, ◌⊎◌, List, [], ◌∷◌, ◌++◌, length, vec_len, sym, subst, arith}
use Rattle.ff_host.specs.Causes.{Rose}
use Rattle.ff_files.specs.declared.work.WorkEnd.TheVariants as work_end
use Rattle.ff_files.specs.laws.Runs.{GoesOn, IsRun}
use Rattle.ff_files.proofs.Tracing.{plain_run, traced_run}
use Rattle.ff_files.proofs.trace.run_with_trace.Goals as goal

pub returns : goal.returns
returns g c =
    let S = g.Src.Source in
    let K = g.Snk.Sink in
    let W = g.W.Work in
    let work = c.args.work.now in
    let heads = c.args.heads.now in
    let snks = c.args.snks.items in
    let snks' = c.run-end.result.snks.items in
    let ran = c.run-end.ensures in
    let wrote = c.write_log-end.ensures in
    let trace = c.args.trace in
    let trace' = c.write_log-end.new.trace in
    let tells = W.tells work heads in
    let number : c.len-number.result ≡ length snks = (let l = c.len-number.ensures in let ok = c.args.snks.ok.0 in omega (arith, l, ok)) in
    let goes : GoesOn W.printed K.holds K.name K.faults (length snks) c.run-end.result.log trace trace' c.run-end.result.end c.write_log-end.result = record {
      name = wrote.name;
      kept = wrote.kept;
      fine = wrote.fine;
      ended = λ f. subst (λ n. (c.write_log-end.result ≡ work_end.Fine) ⊎ (c.write_log-end.result ≡ work_end.NoMemory) ⊎ ((c.write_log-end.result ≡ work_end.Output n) × Rose (K.faults trace) (K.faults trace'))) number (wrote.ended f);
      sound = wrote.sound;
      unfailed = wrote.unfailed;
      gained = wrote.gained;
    } in
    subst (λ (xs : List g.row.Snk.Denot). IsRun (W.means work) S.left S.name S.faults K.holds K.name K.faults tells W.printed (length snks) heads c.args.srcs.items (snks ++ trace ∷ []) c.write_log-end.result c.run-end.result.log c.run-end.result.srcs.items xs) (sym c.with_last.ensures)
    (traced_run (W.means work) S.left S.name S.faults K.holds K.name K.faults tells W.printed heads c.args.srcs.items c.run-end.result.srcs.items snks snks' trace trace' c.run-end.result.end c.write_log-end.result c.run-end.result.log
    (plain_run (W.means work) S.left S.name S.faults K.holds K.name K.faults tells W.printed heads c.args.srcs.items snks c.run-end.result.end c.run-end.result.log c.run-end.result.srcs.items snks' ran) goes)
