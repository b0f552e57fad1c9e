use Rattle.std.proofs.Common.{◌≡◌, ℕ, List, length, ap, ◌∙◌}
use Rattle.ff_stream.specs.declared.item.Lane.{Lane}
use Rattle.ff_stream.specs.declared.item.Lane.TheVariants.{Frames}
use Rattle.ff_filter.specs.Joins.{Ports}
use Rattle.ff_filters.specs.contracts.any.AnyFilterFilter.TheImpl.{ghosts}
use Rattle.ff_graph_dag.specs.laws.Graphs.{graph_view, spots}
use Rattle.ff_trim.specs.laws.Taps.{cut_view}
use Rattle.ff_trim.proofs.Limiting.{cutting_limited}
use Rattle.ff_graph.specs.Configured.{OpenOut}
use Rattle.ff_graph.specs.Meaning.{graph_means}
use Rattle.ff_graph.specs.composed.Cuts.{all_given, graph_cuts, graph_cut, graph_outs, out_heads}
use Rattle.ff_graph.proofs.ComposedLemmas.Elements.{map_size}
use Rattle.ff_graph.proofs.ComposedLemmas.Whole.{stands_so, framed_so, counted_so, cut_so}
use Rattle.ff_graph.proofs.composed.machine.graph_machine.Goals as goal

pub new-requires-clause-heads : goal.new-requires-clause-heads
new-requires-clause-heads c =
    framed_so c.deref.result.now (graph_outs c.args.graph.now c.args.heads.now) _ (c.deref.ensures.value ∙ c.in_ok-made.ensures.heads) c.in_ok-made.ensures.outs

pub new-requires-clause-each : goal.new-requires-clause-each
new-requires-clause-each c =
    counted_so c.deref.result.now (graph_outs c.args.graph.now c.args.heads.now) (length c.args.cuts.now) (c.deref.ensures.value ∙ c.in_ok-made.ensures.heads)
    c.requires.each

pub returns-clause-stands : goal.returns-clause-stands
returns-clause-stands c t =
    let g = c.args.graph.now in
    let heads = c.args.heads.now in
    let ks = c.args.cuts.now in
    let hs = c.deref.result.now in
    let old = graph_view c.in_ok-made.made.filter.graph.plan (spots ghosts.view c.in_ok-made.made.filter.graph.places.items) in
    let first = c.in_ok-cutting.cutting in
    let cut = cut_view (graph_view first.filter.graph.plan (spots ghosts.view first.filter.graph.places.items)) first.taps.items in
    let last = c.new-2.result.filter in
    let now = cut_view (graph_view last.filter.graph.plan (spots ghosts.view last.filter.graph.places.items)) last.taps.items in
    let cuts = graph_cuts g (all_given heads) in
    let outs = graph_outs g heads in
    let is = c.in_ok-cutting.ensures.new in
    let as_heads : hs ≡ out_heads g heads = c.deref.ensures.value ∙ c.in_ok-made.ensures.heads in
    let means : (ext : Ports) (q : ℕ) → cut.rest ext q ≡ graph_cut g heads ks ext q =
    λ ext q. is.rest ext q ∙ cut_so hs (out_heads g heads) ks old.rest (graph_means g (all_given heads)) as_heads c.in_ok-made.ensures.means ext q in
    let limited = cutting_limited hs ks old cut cuts (counted_so hs outs (length ks) as_heads c.requires.each)
    (framed_so hs outs old.outs as_heads c.in_ok-made.ensures.outs) is (c.in_ok-made.ensures.limited t) in
    stands_so now c.new-2.result.hurt c.new-2.result.long (length cut.outs) (length outs) cut.rest (graph_cut g heads ks) cuts
    (ap (λ (ls : List Lane). length ls) (is.outs ∙ c.in_ok-made.ensures.outs) ∙ map_size (λ (o : OpenOut). Frames o.head) outs)
    means (c.new-2.ensures.within_limits cuts limited)
