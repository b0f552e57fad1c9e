use Rattle.std.proofs.Common.{◌≡◌, ◌<◌, List, length, slice_get, sym, ap, ◌∙◌, subst, arith}
use Rattle.std.proofs.lemmas.List.{length-map}
use Rattle.std.proofs.lemmas.Option.{slice_get_within}
use Rattle.ff_words.specs.declared.job.OutputJob.{OutputJob}
use Rattle.ff_frame.specs.declared.head.StreamHead.{StreamHead}
use Rattle.ff_stream.specs.declared.item.Lane.{Lane}
use Rattle.ff_stream.specs.declared.item.Lane.TheVariants.{Frames}
use Rattle.ff_stream.specs.Lanes.{head_of}
use Rattle.ff_run_plan.specs.Asked.{asked_of}
use Rattle.ff_run_plan.specs.Tasks.{heads_on}
use Rattle.ff_run_plan.proofs.StreamNumbers.{coded_is, framed_is}
use Rattle.ff_plan.specs.declared.planned.PlanNode.{PlanNode}
use Rattle.ff_run_plan.specs.Parts.{FitsDemux, FitsGraph, FitsShortest, FitsMux, IsFitting, IsPart}
use Rattle.ff_run_plan.proofs.Making.{if_both, demux_part, graph_part, shortest_part, mux_part}
use Rattle.ff_run_plan.proofs.build.part_at.Goals as goal

pub demuxer_at-requires-clause-fits : goal.demuxer_at-requires-clause-fits
demuxer_at-requires-clause-fits g c κs within =
    let is = g.K.Kinds.is in
    let asked = asked_of c.args.job.now c.args.texts.now c.args.made.now c.args.nodes.now in
    let fits : FitsDemux is asked c.args.heads.now c.args.ins.now c.args.outs.now c.in-Demux.input =
    subst (λ (n : PlanNode). IsFitting is asked c.args.heads.now c.args.ins.now c.args.outs.now n) c.in-Demux.is c.requires.fits in
    (fits.head, fits.there, fits.sound, fits.used)

pub graph_at-requires-after_bounds : goal.graph_at-requires-after_bounds
graph_at-requires-after_bounds g c κs within =
    let is = g.K.Kinds.is in
    let fits : FitsGraph is (asked_of c.args.job.now c.args.texts.now c.args.made.now c.args.nodes.now) c.args.ins.now c.args.outs.now c.in-Graph.graph =
    subst (λ (n : PlanNode). IsFitting is (asked_of c.args.job.now c.args.texts.now c.args.made.now c.args.nodes.now) c.args.heads.now c.args.ins.now c.args.outs.now n) c.in-Graph.is c.requires.fits in
    let framed : c.deref.result.now ≡ fits.heads = c.deref.ensures.value ∙ (c.in-Ok.ensures ∙ framed_is c.args.ins.now fits.heads fits.ins_are) in
    let many : length c.args.cuts.now ≡ length fits.made = c.requires.as_many ∙ (ap (λ (ls : List Lane). length ls) fits.outs_are ∙ length-map fits.made (λ (h : StreamHead). Frames h)) in
    (fits.text, fits.there, fits.made, subst (λ (hs : List StreamHead). is.CanFilter fits.text hs fits.made) (sym framed) fits.can, many)

pub shortest_at-requires-clause-there : goal.shortest_at-requires-clause-there
shortest_at-requires-clause-there g c κs within =
    let is = g.K.Kinds.is in
    let fits : FitsShortest is (asked_of c.args.job.now c.args.texts.now c.args.made.now c.args.nodes.now) c.args.ins.now c.args.outs.now c.in-Shortest.output =
    subst (λ (n : PlanNode). IsFitting is (asked_of c.args.job.now c.args.texts.now c.args.made.now c.args.nodes.now) c.args.heads.now c.args.ins.now c.args.outs.now n) c.in-Shortest.is c.requires.fits in
    subst (λ (os : List OutputJob). c.in-Shortest.output < length os) (sym c.as_slice-in-Shortest.ensures) (slice_get_within c.args.job.now.outputs c.in-Shortest.output fits.out fits.there)

pub shortest_at-requires-clause-can : goal.shortest_at-requires-clause-can
shortest_at-requires-clause-can g c κs within =
    let is = g.K.Kinds.is in
    let fits : FitsShortest is (asked_of c.args.job.now c.args.texts.now c.args.made.now c.args.nodes.now) c.args.ins.now c.args.outs.now c.in-Shortest.output =
    subst (λ (n : PlanNode). IsFitting is (asked_of c.args.job.now c.args.texts.now c.args.made.now c.args.nodes.now) c.args.heads.now c.args.ins.now c.args.outs.now n) c.in-Shortest.is c.requires.fits in
    let framed : c.deref-in-Shortest.result.now ≡ fits.heads = c.deref-in-Shortest.ensures.value ∙ (c.in-Ok-heads_on.ensures ∙ framed_is c.args.ins.now fits.heads fits.ins_are) in
    subst (λ (hs : List StreamHead). is.CanJoin hs) (sym framed) fits.can

pub muxer_at-requires-clause-fits : goal.muxer_at-requires-clause-fits
muxer_at-requires-clause-fits g c κs within =
    let is = g.K.Kinds.is in
    let fits : FitsMux is (asked_of c.args.job.now c.args.texts.now c.args.made.now c.args.nodes.now) c.args.ins.now c.args.outs.now c.in-Mux.output =
    subst (λ (n : PlanNode). IsFitting is (asked_of c.args.job.now c.args.texts.now c.args.made.now c.args.nodes.now) c.args.heads.now c.args.ins.now c.args.outs.now n) c.in-Mux.is c.requires.fits in
    let coded : c.deref-in-Mux.result.now ≡ fits.coded = c.deref-in-Mux.ensures.value ∙ (c.in-Ok-heads_on-2.ensures ∙ coded_is c.args.ins.now fits.coded fits.ins_are) in
    (fits.out, ap (λ (os : List OutputJob). slice_get os c.in-Mux.output) c.as_slice-outputs.ensures ∙ fits.there, subst (λ (hs : List StreamHead). is.CanMux fits.out hs) (sym coded) fits.can)

pub muxer_at-requires-clause-numbers : goal.muxer_at-requires-clause-numbers
muxer_at-requires-clause-numbers g c κs within =
    let coded : c.deref-in-Mux.result.now ≡ heads_on c.args.ins.now = c.deref-in-Mux.ensures.value ∙ c.in-Ok-heads_on-2.ensures in
    let many : length c.deref-in-Mux.result.now ≡ length c.args.ins.now = ap (λ (hs : List StreamHead). length hs) coded ∙ length-map c.args.ins.now (λ (l : Lane). head_of l) in
    let few = c.requires.numbers c.in-Mux.output c.in-Mux.is in
    omega (arith, many, few)

pub returns-in-Demux-clause-made : goal.returns-in-Demux-clause-made
returns-in-Demux-clause-made g c =
    let is = g.K.Kinds.is in
    let S = g.Src.Source in
    let K = g.Snk.Sink in
    let i = c.in-Demux.input in
    let fits : FitsDemux is (asked_of c.args.job.now c.args.texts.now c.args.made.now c.args.nodes.now) c.args.heads.now c.args.ins.now c.args.outs.now i =
    subst (λ (n : PlanNode). IsFitting is (asked_of c.args.job.now c.args.texts.now c.args.made.now c.args.nodes.now) c.args.heads.now c.args.ins.now c.args.outs.now n) c.in-Demux.is c.requires.fits in
    if_both _ _ _ c.demuxer_at.result c.demuxer_at.ensures.made c.demuxer_at.ensures.starts (λ m new starts srcs snks src_aside snk_aside.
    let aside = src_aside i c.in-Demux.is in
    subst (λ (n : PlanNode). IsPart is S.left S.name S.faults K.holds K.name K.faults (asked_of c.args.job.now c.args.texts.now c.args.made.now c.args.nodes.now) c.args.heads.now srcs snks c.args.first c.args.cuts.now c.args.ins.now c.args.outs.now n (g.M.Machine.view m)) (sym c.in-Demux.is)
    (demux_part is S.left S.name S.faults K.holds K.name K.faults (asked_of c.args.job.now c.args.texts.now c.args.made.now c.args.nodes.now) c.args.heads.now srcs snks c.args.first c.args.cuts.now c.args.ins.now c.args.outs.now (g.M.Machine.view m) i fits aside.0 aside.1
    (new aside.0 aside.2 fits.head fits.there) (starts aside.0 aside.2)))

pub returns-in-Ok-clause-made : goal.returns-in-Ok-clause-made
returns-in-Ok-clause-made g c =
    let is = g.K.Kinds.is in
    let S = g.Src.Source in
    let K = g.Snk.Sink in
    let asked = asked_of c.args.job.now c.args.texts.now c.args.made.now c.args.nodes.now in
    let number = c.in-Graph.graph in
    let fits : FitsGraph is asked c.args.ins.now c.args.outs.now number =
    subst (λ (n : PlanNode). IsFitting is asked c.args.heads.now c.args.ins.now c.args.outs.now n) c.in-Graph.is c.requires.fits in
    if_both _ _ _ c.graph_at.result c.graph_at.ensures.new c.graph_at.ensures.starts (λ m new starts srcs snks src_aside snk_aside.
    subst (λ (n : PlanNode). IsPart is S.left S.name S.faults K.holds K.name K.faults asked c.args.heads.now srcs snks c.args.first c.args.cuts.now c.args.ins.now c.args.outs.now n (g.M.Machine.view m)) (sym c.in-Graph.is)
    (graph_part is S.left S.name S.faults K.holds K.name K.faults asked c.args.heads.now srcs snks c.args.first c.args.cuts.now c.args.ins.now c.args.outs.now (g.M.Machine.view m) number fits
    c.deref.result.now (c.deref.ensures.value ∙ c.in-Ok.ensures) new starts))

pub returns-in-Ok-heads_on-clause-made : goal.returns-in-Ok-heads_on-clause-made
returns-in-Ok-heads_on-clause-made g c =
    let is = g.K.Kinds.is in
    let S = g.Src.Source in
    let K = g.Snk.Sink in
    let asked = asked_of c.args.job.now c.args.texts.now c.args.made.now c.args.nodes.now in
    let o = c.in-Shortest.output in
    let fits : FitsShortest is asked c.args.ins.now c.args.outs.now o =
    subst (λ (n : PlanNode). IsFitting is asked c.args.heads.now c.args.ins.now c.args.outs.now n) c.in-Shortest.is c.requires.fits in
    if_both _ _ _ c.shortest_at.result c.shortest_at.ensures.new c.shortest_at.ensures.starts (λ m new starts srcs snks src_aside snk_aside.
    subst (λ (n : PlanNode). IsPart is S.left S.name S.faults K.holds K.name K.faults asked c.args.heads.now srcs snks c.args.first c.args.cuts.now c.args.ins.now c.args.outs.now n (g.M.Machine.view m)) (sym c.in-Shortest.is)
    (shortest_part is S.left S.name S.faults K.holds K.name K.faults asked c.args.heads.now srcs snks c.args.first c.args.cuts.now c.args.ins.now c.args.outs.now (g.M.Machine.view m) o fits
    c.deref-in-Shortest.result.now (c.deref-in-Shortest.ensures.value ∙ c.in-Ok-heads_on.ensures) new
    (λ out there. starts out (ap (λ (os : List OutputJob). slice_get os o) c.as_slice-in-Shortest.ensures ∙ there))))

pub returns-in-Ok-heads_on-2-clause-made : goal.returns-in-Ok-heads_on-2-clause-made
returns-in-Ok-heads_on-2-clause-made g c =
    let is = g.K.Kinds.is in
    let S = g.Src.Source in
    let K = g.Snk.Sink in
    let o = c.in-Mux.output in
    let fits : FitsMux is (asked_of c.args.job.now c.args.texts.now c.args.made.now c.args.nodes.now) c.args.ins.now c.args.outs.now o =
    subst (λ (n : PlanNode). IsFitting is (asked_of c.args.job.now c.args.texts.now c.args.made.now c.args.nodes.now) c.args.heads.now c.args.ins.now c.args.outs.now n) c.in-Mux.is c.requires.fits in
    let coded : c.deref-in-Mux.result.now ≡ fits.coded = c.deref-in-Mux.ensures.value ∙ (c.in-Ok-heads_on-2.ensures ∙ coded_is c.args.ins.now fits.coded fits.ins_are) in
    if_both _ _ _ c.muxer_at.result c.muxer_at.ensures.made c.muxer_at.ensures.starts (λ m new starts srcs snks src_aside snk_aside.
    let aside = snk_aside o c.in-Mux.is in
    subst (λ (n : PlanNode). IsPart is S.left S.name S.faults K.holds K.name K.faults (asked_of c.args.job.now c.args.texts.now c.args.made.now c.args.nodes.now) c.args.heads.now srcs snks c.args.first c.args.cuts.now c.args.ins.now c.args.outs.now n (g.M.Machine.view m)) (sym c.in-Mux.is)
    (mux_part is S.left S.name S.faults K.holds K.name K.faults (asked_of c.args.job.now c.args.texts.now c.args.made.now c.args.nodes.now) c.args.heads.now srcs snks c.args.first c.args.cuts.now c.args.ins.now c.args.outs.now (g.M.Machine.view m) o fits c.deref-in-Mux.result.now coded aside.0 aside.1
    (new aside.0 aside.2) (λ out there. starts aside.0 aside.2 out (ap (λ (os : List OutputJob). slice_get os o) c.as_slice-outputs.ensures ∙ there))))
