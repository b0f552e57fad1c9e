use Rattle.std.proofs.Common.{inl, inr, None, List, map, refl, sym, ap, ◌∙◌}
use Rattle.ff_stream.specs.declared.item.Lane.TheVariants.{Frames}
use Rattle.ff_frame.specs.declared.head.StreamHead.{StreamHead}
use Rattle.ff_graph.specs.composed.Cuts.{graph_outs, graph_task}
use Rattle.ff_net.specs.Pasts.{start}
use Rattle.ff_net.specs.laws.Views.{View}
use Rattle.ff_run_plan.specs.Kinds.{IsNew}
use Rattle.ff_run.specs.laws.build.Graphs.{are_heard, are_of_streams}
use Rattle.ff_run.specs.build.Parts.{told_graph}
use Rattle.ff_run.proofs.BuildLemmas.Leads.{shown_as, two_steps}
use Rattle.ff_run.proofs.build.parts.PartsKindsPart.graph.Goals as goal

pub returns-clause-new : goal.returns-clause-new
returns-clause-new g c = λ made can.
    let heads = c.args.heads.now in
    let shape = c.in-Ok-new.ensures.shape in
    let outs = graph_outs c.args.text.now heads in
    shown_as c.in-Some.graph.machine c.in-Ok-new.graph c.in-Some.ensures.same
    (λ (v : View). IsNew None (map (λ (h : StreamHead). Frames h) heads) (map (λ (h : StreamHead). Frames h) made) None 0 v)
    (record {
      source_is = shape.source ∙ c.in-Ok.ensures.source;
      in_lanes = shape.in_lanes ∙ c.in-Ok.ensures.ins;
      out_lanes = shape.out_lanes ∙ (c.in-Ok.ensures.outs ∙ (two_steps (λ o. o.head) (λ (h : StreamHead). Frames h) outs
          ∙ ap (λ (hs : List StreamHead). map (λ (h : StreamHead). Frames h) hs) (sym can.outs_are)));
      sound = c.in-Ok-new.ensures.fault ∙ c.in-Ok.ensures.sound;
      device_is = c.in-Ok-new.ensures.device ∙ c.in-Ok.ensures.device;
      failures_are = refl;
    })

pub returns-clause-starts : goal.returns-clause-starts
returns-clause-starts g c =
    let heads = c.args.heads.now in
    let text = c.args.text.now in
    let cuts = c.args.cuts.now in
    shown_as c.in-Some.graph.machine c.in-Ok-new.graph c.in-Some.ensures.same
    (λ (v : View). v.stands (start (told_graph c.args.number text heads cuts)))
    (c.in-Ok-new.ensures.stands (graph_task text heads cuts) refl (c.in-Ok.ensures.stands (are_of_streams heads c.requires.1.fit)))

pub unreachable-requires-in-None : goal.unreachable-requires-in-None
unreachable-requires-in-None g c =
    let shape = c.in-Ok-new.ensures.shape in
    let can = c.requires.1 in
    elim (c.in-None.ensures.none refl) as (λ _. ⊥) [
      | inl e ↦ c.in-Ok.ensures.has_ins can.filters (sym shape.in_lanes ∙ e)
      | inr e ↦ c.in-Ok.ensures.has_outs can.filters (are_heard c.args.heads.now can.fit) (sym shape.out_lanes ∙ e)
    ]
