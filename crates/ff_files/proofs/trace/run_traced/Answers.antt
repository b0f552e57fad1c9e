use Rattle.std.proofs.Common.{◌≡◌, List, [], ◌∷◌, ◌++◌, length, option_to_list, Option, Some, None, sym, ap, ◌∙◌, subst, append-nil}
use Rattle.ff_files.specs.laws.Runs.{IsRun}
use Rattle.ff_files.proofs.Tracing.{plain_run}
use Rattle.ff_files.proofs.trace.run_traced.Goals as goal

pub returns-in-None : goal.returns-in-None
returns-in-None g c =
    let S = g.Src.Source in
    let K = g.Snk.Sink in
    let W = g.W.Work in
    let work = c.args.work.now in
    let heads = c.args.heads.now in
    let ran = c.run.ensures in
    let front = c.take_trace.new.snks.items in
    let same : front ≡ c.args.snks.items = sym (c.in-None.ensures.all ∙ append-nil front) in
    subst (λ (xs : List g.row.Snk.Denot). IsRun (W.means work) S.left S.name S.faults K.holds K.name K.faults (W.tells work heads) W.printed c.args.count heads c.args.srcs.items xs c.run.result.end c.run.result.log c.run.result.srcs.items c.run.result.snks.items) same
    (subst (λ n. IsRun (W.means work) S.left S.name S.faults K.holds K.name K.faults (W.tells work heads) W.printed n heads c.args.srcs.items front c.run.result.end c.run.result.log c.run.result.srcs.items c.run.result.snks.items) c.in-None.ensures.left
    (plain_run (W.means work) S.left S.name S.faults K.holds K.name K.faults (W.tells work heads) W.printed heads c.args.srcs.items front c.run.result.end c.run.result.log c.run.result.srcs.items c.run.result.snks.items ran))
