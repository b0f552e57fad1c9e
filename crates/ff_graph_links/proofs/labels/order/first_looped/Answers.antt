use Rattle.std.proofs.Common.{ℕ, ◌||◌, false, length, sym, ◌∙◌}
use Rattle.std.specs.Prelude.{slice_index_or}
use Rattle.ff_graph_links.specs.labels.Order.{cell, comes_behind, first_on_loop}
use Rattle.ff_graph_links.specs.laws.labels.Tables.{marks}
use Rattle.ff_graph_links.proofs.LabelsLemmas.Tabled.{found_on, found_here}
use Rattle.ff_graph_links.proofs.labels.order.first_looped.Goals as goal

pub loop-graph-preserved : goal.loop-graph-preserved
loop-graph-preserved c =
    let feed = cell (marks c.args.rows.now) in
    let n = length c.args.rows.now in
    found_on (λ (g : ℕ). slice_index_or c.args.own.now g false || comes_behind feed n n g g) c.loop-graph.graph n (first_on_loop feed n c.args.own.now) c.loop-graph-test.true
    (sym c.in_ok-looped.ensures ∙ c.if-looped.false) c.loop-graph.invariant

pub returns-then-looped : goal.returns-then-looped
returns-then-looped c =
    let feed = cell (marks c.args.rows.now) in
    let n = length c.args.rows.now in
    found_here (λ (g : ℕ). slice_index_or c.args.own.now g false || comes_behind feed n n g g) c.loop-graph.graph n (first_on_loop feed n c.args.own.now) c.loop-graph-test.true
    (sym c.in_ok-looped.ensures ∙ c.if-looped.true) c.loop-graph.invariant
