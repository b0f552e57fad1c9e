use Rattle.std.proofs.Common.{◌≡◌, ℕ, List, IfOk, subst, arith}
use Rattle.ff_graph_links.proofs.LabelsLemmas.Tabled.{table_length, order_by_table}
use Rattle.ff_graph_links.proofs.labels.order.graphs_in_order.Goals as goal

pub order_of-requires : goal.order_of-requires
order_of-requires c =
    let long = table_length c.in_ok-rows.rows.items c.args.graphs.now c.in_ok-rows.ensures in
    let same = c.as_slice.ensures.len in
    let count = c.in_ok-rows.rows.ok.0 in
    let few = c.requires in
    omega (arith, long, same, count, few)

pub returns : goal.returns
returns c =
    let e = order_by_table c.as_slice.result.now c.in_ok-rows.rows.items c.args.graphs.now c.as_slice.ensures.value c.in_ok-rows.ensures in
    subst (λ (l : List ℕ). IfOk c.order_of.result (λ order. order.items ≡ l)) e c.order_of.ensures
