use Rattle.std.proofs.Common.{◌≡◌, ℕ, List, [], length, sym, ap, ◌∙◌, subst}
use Rattle.std.specs.Prelude.{Ok, IfOk, IfErr}
use Rattle.std.specs.declared.alloc.Global.{Global}
use Rattle.std.specs.declared.vec.Vec.{Vec}
use Rattle.ff_graph_links.specs.labels.Order.{graph_order}
use Rattle.ff_source.specs.declared.made.Made.{Made as SourceMade}
use Rattle.ff_words.specs.declared.maps.streams.Stream.{Stream}
use Rattle.ff_words.specs.maps.Choice.{lists}
use Rattle.ff_plan_layout.specs.Pads.{Made, Want, all_wants, make_all, make_from, wants_from}
use Rattle.ff_plan_layout.specs.laws.Refusals.{IsRefused}
use Rattle.ff_plan_layout.specs.Rules.{Planned}
use Rattle.ff_plan_layout.specs.Sources.{source_streams, sources_of}
use Rattle.ff_plan_layout.proofs.Bounds.{lists_length}
use Rattle.ff_plan_layout.proofs.making.make_all.Goals as goal

pub returns-clause-made : goal.returns-clause-made
returns-clause-made g c =
    let rules = g.F.Filtering.rules c.args.filtering.now in
    let heads = c.args.heads.now in
    let graphs = c.args.graphs.now in
    let order = c.as_slice-3.result.now in
    let streams_are : c.as_slice.result.now ≡ source_streams (length (lists heads)) (sources_of rules graphs) =
    c.as_slice.ensures.value
    ∙ (c.in_ok-streams.ensures ∙ (ap (λ (m : List SourceMade). source_streams (length heads) m) c.requires.sources ∙ ap (λ (n : ℕ). source_streams n (sources_of rules graphs)) (sym (lists_length heads)))) in
    let wants_are : c.as_slice-2.result.now ≡ all_wants rules (lists heads) graphs =
    c.as_slice-2.ensures.value ∙ (c.in_ok-wants.ensures.wants ∙ ap (λ (ss : List Stream). wants_from rules ss (lists heads) graphs [] graphs) streams_are) in
    let order_is : order ≡ graph_order graphs = c.as_slice-3.ensures.value ∙ c.in_ok-order.ensures in
    let same : make_from rules graphs c.as_slice-2.result.now [] order ≡ make_all rules (lists heads) graphs =
    ap (λ (w : List (List Want)). make_from rules graphs w [] order) wants_are ∙ ap (λ (o : List ℕ). make_from rules graphs (all_wants rules (lists heads) graphs) [] o) order_is in
    subst (λ (r : Planned (List Made)). IfOk c.make_in_order.result (λ (made : Vec Made Global). r ≡ Ok made.items)) same c.make_in_order.ensures.made

pub returns-clause-refused : goal.returns-clause-refused
returns-clause-refused g c =
    let rules = g.F.Filtering.rules c.args.filtering.now in
    let heads = c.args.heads.now in
    let graphs = c.args.graphs.now in
    let order = c.as_slice-3.result.now in
    let streams_are : c.as_slice.result.now ≡ source_streams (length (lists heads)) (sources_of rules graphs) =
    c.as_slice.ensures.value
    ∙ (c.in_ok-streams.ensures ∙ (ap (λ (m : List SourceMade). source_streams (length heads) m) c.requires.sources ∙ ap (λ (n : ℕ). source_streams n (sources_of rules graphs)) (sym (lists_length heads)))) in
    let wants_are : c.as_slice-2.result.now ≡ all_wants rules (lists heads) graphs =
    c.as_slice-2.ensures.value ∙ (c.in_ok-wants.ensures.wants ∙ ap (λ (ss : List Stream). wants_from rules ss (lists heads) graphs [] graphs) streams_are) in
    let order_is : order ≡ graph_order graphs = c.as_slice-3.ensures.value ∙ c.in_ok-order.ensures in
    let same : make_from rules graphs c.as_slice-2.result.now [] order ≡ make_all rules (lists heads) graphs =
    ap (λ (w : List (List Want)). make_from rules graphs w [] order) wants_are ∙ ap (λ (o : List ℕ). make_from rules graphs (all_wants rules (lists heads) graphs) [] o) order_is in
    subst (λ (r : Planned (List Made)). IfErr c.make_in_order.result (IsRefused r)) same c.make_in_order.ensures.refused
