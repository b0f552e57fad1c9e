use Rattle.std.proofs.Common.{◌≡◌, ℕ, ◌-◌, List, length, slice_get, slice_index_or, Some, sym, ap, ◌∙◌, subst}
use Rattle.std.proofs.lemmas.Option.{slice_get-get_or}
use Rattle.ff_trim.specs.declared.counted.OutputCut.{OutputCut}
use Rattle.ff_words.specs.declared.job.OutputJob.{OutputJob}
use Rattle.ff_stream.specs.declared.item.Lane.{Lane}
use Rattle.ff_plan.specs.declared.planned.PlanNode.{PlanNode}
use Rattle.ff_plan.specs.declared.planned.PlanNode.TheVariants as node
use Rattle.ff_stream.specs.edges.Ports.{lanes_into, lanes_out_of}
use Rattle.ff_run_plan.specs.Asked.{asked_of}
use Rattle.ff_run_plan.specs.Cuts.{cuts_out_of}
use Rattle.ff_run_plan.specs.Parts.{IsFitting, IsPart}
use Rattle.ff_plan.specs.Numbers.{streams_between}
use Rattle.ff_run_plan.specs.Tasks.{first_at, cuts_at}
use Rattle.ff_run_plan.proofs.Cutting.{as_many_cuts}
use Rattle.ff_run_plan.proofs.Making.{if_more}
use Rattle.ff_run_plan.proofs.Numbers.{same_some}
use Rattle.ff_run_plan.proofs.build.part_of.Goals as goal

pub part_at-requires-clause-fits : goal.part_at-requires-clause-fits
part_at-requires-clause-fits g c κs within =
    let is = g.K.Kinds.is in
    let x = slice_index_or c.args.nodes.now c.args.number (node.Demux 0) in
    let at : slice_get c.args.nodes.now c.args.number ≡ Some x = slice_get-get_or c.args.nodes.now c.args.number (node.Demux 0) c.requires.there in
    let ins : c.deref-2.result.now ≡ lanes_into c.args.edges.now c.args.number = c.deref-2.ensures.value ∙ c.in-Ok.ensures in
    let outs : c.deref-3.result.now ≡ lanes_out_of c.args.edges.now c.args.number = c.deref-3.ensures.value ∙ c.in-Ok-lanes_out_of.ensures in
    subst (λ (ls : List Lane). IsFitting is (asked_of c.args.job.now c.args.texts.now c.args.made.now c.args.nodes.now) c.args.heads.now ls c.deref-3.result.now x) (sym ins)
    (subst (λ (ls : List Lane). IsFitting is (asked_of c.args.job.now c.args.texts.now c.args.made.now c.args.nodes.now) c.args.heads.now (lanes_into c.args.edges.now c.args.number) ls x) (sym outs) (c.requires.fitting c.args.number x at))

pub part_at-requires-clause-as_many : goal.part_at-requires-clause-as_many
part_at-requires-clause-as_many g c κs within =
    let job = c.args.job.now in
    let nodes = c.args.nodes.now in
    let edges = c.args.edges.now in
    let k = c.args.number in
    let cuts : c.deref.result.now ≡ cuts_out_of job.outputs nodes edges k =
    c.deref.ensures.value ∙ (c.in-Ok-cuts_out_of.ensures ∙ ap (λ (os : List OutputJob). cuts_out_of os nodes edges k) c.as_slice-outputs.ensures) in
    let outs : c.deref-3.result.now ≡ lanes_out_of edges k = c.deref-3.ensures.value ∙ c.in-Ok-lanes_out_of.ensures in
    ap (λ (ts : List OutputCut). length ts) cuts ∙ (as_many_cuts job.outputs nodes edges k ∙ sym (ap (λ (ls : List Lane). length ls) outs))

pub part_at-requires-clause-source : goal.part_at-requires-clause-source
part_at-requires-clause-source g c κs within = λ i e.
    c.requires.source i (slice_get-get_or c.args.nodes.now c.args.number (node.Demux 0) c.requires.there ∙ ap (λ (n : PlanNode). Some n) e)

pub part_at-requires-clause-sink : goal.part_at-requires-clause-sink
part_at-requires-clause-sink g c κs within = λ o e.
    c.requires.sink o (slice_get-get_or c.args.nodes.now c.args.number (node.Demux 0) c.requires.there ∙ ap (λ (n : PlanNode). Some n) e)

pub returns-clause-srcs_kept : goal.returns-clause-srcs_kept
returns-clause-srcs_kept g c = λ w out. c.part_at.ensures.srcs_kept w (λ e. out (slice_get-get_or c.args.nodes.now c.args.number (node.Demux 0) c.requires.there ∙ ap (λ (n : PlanNode). Some n) e))

pub returns-clause-snks_kept : goal.returns-clause-snks_kept
returns-clause-snks_kept g c = λ w out. c.part_at.ensures.snks_kept w (λ e. out (slice_get-get_or c.args.nodes.now c.args.number (node.Demux 0) c.requires.there ∙ ap (λ (n : PlanNode). Some n) e))

pub returns-clause-made : goal.returns-clause-made
returns-clause-made g c =
    let is = g.K.Kinds.is in
    let S = g.Src.Source in
    let K = g.Snk.Sink in
    let view = g.M.Machine.view in
    let asked = (asked_of c.args.job.now c.args.texts.now c.args.made.now c.args.nodes.now) in
    let heads = c.args.heads.now in
    let k = c.args.number in
    let x = slice_index_or c.args.nodes.now k (node.Demux 0) in
    let at : slice_get c.args.nodes.now k ≡ Some x = slice_get-get_or c.args.nodes.now k (node.Demux 0) c.requires.there in
    let ins : c.deref-2.result.now ≡ lanes_into c.args.edges.now k = c.deref-2.ensures.value ∙ c.in-Ok.ensures in
    let first : c.streams_between-first.result ≡ first_at asked c.args.nodes.now c.args.edges.now k =
    c.streams_between-first.ensures ∙ (ap (λ (low : ℕ). streams_between low k c.args.edges.now) c.saturating_sub-muxes.ensures
    ∙ ap (λ (os : List OutputJob). streams_between (length c.args.nodes.now - length os) k c.args.edges.now) c.as_slice-outputs.ensures) in
    let outs : c.deref-3.result.now ≡ lanes_out_of c.args.edges.now k = c.deref-3.ensures.value ∙ c.in-Ok-lanes_out_of.ensures in
    let cuts : c.deref.result.now ≡ cuts_at asked c.args.nodes.now c.args.edges.now k =
    c.deref.ensures.value ∙ (c.in-Ok-cuts_out_of.ensures ∙ ap (λ (os : List OutputJob). cuts_out_of os c.args.nodes.now c.args.edges.now k) c.as_slice-outputs.ensures) in
    if_more _ _ c.part_at.result c.part_at.ensures.made (λ m made n there srcs snks src_aside snk_aside.
    let same : x ≡ n = same_some (slice_get c.args.nodes.now k) x n at there in
    let part = made srcs snks (λ i e. src_aside i (sym same ∙ e)) (λ o e. snk_aside o (sym same ∙ e)) in
    let IsMade = IsPart is S.left S.name S.faults K.holds K.name K.faults asked heads srcs snks in
    let number = first_at asked c.args.nodes.now c.args.edges.now k in
    let kept = cuts_at asked c.args.nodes.now c.args.edges.now k in
    subst (λ (z : PlanNode). IsMade number kept (lanes_into c.args.edges.now k) (lanes_out_of c.args.edges.now k) z (view m)) same
    (subst (λ (ls : List Lane). IsMade number kept ls (lanes_out_of c.args.edges.now k) x (view m)) ins
    (subst (λ (ls : List Lane). IsMade number kept c.deref-2.result.now ls x (view m)) outs
    (subst (λ (ts : List OutputCut). IsMade number ts c.deref-2.result.now c.deref-3.result.now x (view m)) cuts
    (subst (λ (n : ℕ). IsMade n c.deref.result.now c.deref-2.result.now c.deref-3.result.now x (view m)) first part)))))
