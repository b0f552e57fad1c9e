use Rattle.std.proofs.Common.{◌≡◌, ℕ, Option, IfOk, subst, arith}
use Rattle.ff_graph_links.proofs.LabelsLemmas.Tabled.{table_length, loop_by}
use Rattle.ff_graph_links.proofs.labels.order.graph_on_loop.Goals as goal

pub first_looped-requires : goal.first_looped-requires
first_looped-requires c =
    let long = table_length c.in_ok-rows.rows.items c.args.graphs.now c.in_ok-rows.ensures in
    let same = c.as_slice.ensures.len in
    let count = c.in_ok-rows.rows.ok.0 in
    let few = c.requires in
    omega (arith, long, same, count, few)

pub returns : goal.returns
returns c =
    let e = loop_by c.as_slice.result.now c.in_ok-rows.rows.items c.args.graphs.now c.args.own.now c.as_slice.ensures.value c.in_ok-rows.ensures in
    subst (λ (o : Option ℕ). IfOk c.first_looped.result (λ graph. graph ≡ o)) e c.first_looped.ensures
