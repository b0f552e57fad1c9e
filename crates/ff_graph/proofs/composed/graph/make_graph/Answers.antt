use Rattle.std.proofs.Common.{◌≡◌, List, length, map, Option, sym, ap, ◌∙◌, arith}
use Rattle.ff_frame.specs.declared.head.StreamHead.{StreamHead}
use Rattle.ff_stream.specs.declared.item.Lane.{Lane}
use Rattle.ff_stream.specs.declared.item.Lane.TheVariants.{Frames}
use Rattle.ff_filter.specs.Joins.{Ports}
use Rattle.ff_filters.specs.contracts.any.AnyFilterFilter.TheImpl.{ghosts}
use Rattle.ff_graph_links.specs.pads.Links.{pads_in}
use Rattle.ff_graph_dag.specs.laws.Graphs.{graph_view, spots}
use Rattle.ff_graph.specs.Configured.{OpenOut, configured}
use Rattle.ff_graph.specs.Meaning.{graph_means}
use Rattle.ff_graph.specs.laws.Pads.{made_by, output_of}
use Rattle.ff_graph.specs.declared.outputs.OpenOutput.{OpenOutput}
use Rattle.ff_graph.specs.composed.Cuts.{all_given, graph_cuts}
use Rattle.ff_graph.proofs.ComposedLemmas.Elements.{map_size}
use Rattle.ff_graph.proofs.ComposedLemmas.Ends.{text_pads}
use Rattle.ff_graph.proofs.ComposedLemmas.Whole.{drawn_so, ready_so, means_so, outs_there, text_limited, limited_so}
use Rattle.ff_graph.proofs.composed.graph.make_graph.Goals as goal

pub compose-requires-clause-drawing : goal.compose-requires-clause-drawing
compose-requires-clause-drawing c =
    let m = c.in_ok-made.made in
    let e = c.in_ok-made.ensures in
    drawn_so c.args.graph.now c.deref.result.now (made_by ghosts.view m.filters m.heads) (map output_of m.outs.items) (pads_in m.sources.items) m.order.items
    e.filters e.sources e.order e.made c.requires.clear e.unlooped

pub compose-requires-clause-ready : goal.compose-requires-clause-ready
compose-requires-clause-ready c =
    let m = c.in_ok-made.made in
    let e = c.in_ok-made.ensures in
    ready_so c.args.graph.now c.deref.result.now (made_by ghosts.view m.filters m.heads) (map output_of m.outs.items) (pads_in m.sources.items) m.order.items
    e.filters e.sources e.order e.made c.requires.clear e.unlooped

pub returns-clause-means : goal.returns-clause-means
returns-clause-means c ext q =
    let m = c.in_ok-made.made in
    let e = c.in_ok-made.ensures in
    let given : c.deref.result.now ≡ all_given c.args.heads.now = c.deref.ensures.value ∙ c.in_ok-given.ensures in
    c.in_ok-filter.ensures.means ext q
    ∙ ap (λ (f : Ports → Ports). f ext q)
    (means_so c.args.graph.now c.deref.result.now (made_by ghosts.view m.filters m.heads) (map output_of m.outs.items) (pads_in m.sources.items) m.order.items
    e.filters e.sources e.order e.made)
    ∙ ap (λ (hs : List (Option StreamHead)). graph_means c.args.graph.now hs ext q) given

pub returns-clause-limited : goal.returns-clause-limited
returns-clause-limited c t =
    let m = c.in_ok-made.made in
    let e = c.in_ok-made.ensures in
    let given : c.deref.result.now ≡ all_given c.args.heads.now = c.deref.ensures.value ∙ c.in_ok-given.ensures in
    let v = graph_view c.in_ok-filter.filter.graph.plan (spots ghosts.view c.in_ok-filter.filter.graph.places.items) in
    limited_so v.ins v.outs (map Frames c.args.heads.now) (map (λ (o : OpenOut). Frames o.head) (map output_of m.outs.items)) v.rest
    (graph_means c.args.graph.now (all_given c.args.heads.now)) (graph_cuts c.args.graph.now (all_given c.args.heads.now))
    c.in_ok-filter.ensures.ins c.in_ok-filter.ensures.outs (returns-clause-means c)
    (text_limited c.args.graph.now c.args.heads.now (map output_of m.outs.items) c.requires.clear e.unlooped
    (sym (ap (λ (hs : List (Option StreamHead)). configured c.args.graph.now hs) given) ∙ e.made) t)

pub returns-clause-heads : goal.returns-clause-heads
returns-clause-heads c =
    let m = c.in_ok-made.made in
    let e = c.in_ok-made.ensures in
    let given : c.deref.result.now ≡ all_given c.args.heads.now = c.deref.ensures.value ∙ c.in_ok-given.ensures in
    c.in_ok-outs.ensures ∙ ap (λ (os : List OpenOutput). map (λ (o : OpenOut). o.head) (map output_of os)) c.deref-2.ensures.value
    ∙ ap (λ (os : List OpenOut). map (λ (o : OpenOut). o.head) os) (outs_there c.args.graph.now c.args.heads.now (map output_of m.outs.items)
    (sym (ap (λ (hs : List (Option StreamHead)). configured c.args.graph.now hs) given) ∙ e.made))

pub returns-clause-some_ins : goal.returns-clause-some_ins
returns-clause-some_ins c some =
    let m = c.in_ok-made.made in
    let e = c.in_ok-made.ensures in
    let given : c.deref.result.now ≡ all_given c.args.heads.now = c.deref.ensures.value ∙ c.in_ok-given.ensures in
    let pads = text_pads c.args.graph.now c.args.heads.now (map output_of m.outs.items) c.requires.clear e.unlooped
    (sym (ap (λ (hs : List (Option StreamHead)). configured c.args.graph.now hs) given) ∙ e.made) some in
    let opens = pads.0 in
    let size : length (graph_view c.in_ok-filter.filter.graph.plan (spots ghosts.view c.in_ok-filter.filter.graph.places.items)).ins ≡ length c.args.heads.now =
    ap (λ (ls : List Lane). length ls) c.in_ok-filter.ensures.ins ∙ map_size (λ (h : StreamHead). Frames h) c.args.heads.now in
    omega (arith, opens, size, c.requires.counted)

pub returns-clause-some_outs : goal.returns-clause-some_outs
returns-clause-some_outs c some heard =
    let m = c.in_ok-made.made in
    let e = c.in_ok-made.ensures in
    let given : c.deref.result.now ≡ all_given c.args.heads.now = c.deref.ensures.value ∙ c.in_ok-given.ensures in
    let pads = text_pads c.args.graph.now c.args.heads.now (map output_of m.outs.items) c.requires.clear e.unlooped
    (sym (ap (λ (hs : List (Option StreamHead)). configured c.args.graph.now hs) given) ∙ e.made) some in
    let outs = pads.1 heard in
    let size : length (graph_view c.in_ok-filter.filter.graph.plan (spots ghosts.view c.in_ok-filter.filter.graph.places.items)).outs
    ≡ length (map output_of m.outs.items) =
    ap (λ (ls : List Lane). length ls) c.in_ok-filter.ensures.outs ∙ map_size (λ (o : OpenOut). Frames o.head) (map output_of m.outs.items) in
    omega (arith, outs, size)
