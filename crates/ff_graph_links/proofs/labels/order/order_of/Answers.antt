use Rattle.std.proofs.Common.{◌≡◌, ◌<◌, ◌^◌, ℕ, All, List, length, ap, sym, ◌∙◌, subst}
use Rattle.std.specs.declared.alloc.Global.{Global}
use Rattle.std.specs.declared.vec.Vec.{Vec}
use Rattle.ff_graph_links.specs.orders.Orders.{lists, order_of}
use Rattle.ff_graph_links.specs.labels.Order.{cell, order_by}
use Rattle.ff_graph_links.specs.laws.labels.Tables.{marks}
use Rattle.ff_graph_links.proofs.LabelsLemmas.Orders.{stays_below}
use Rattle.ff_graph_links.proofs.labels.order.order_of.Goals as goal

pub numbers-requires : goal.numbers-requires
numbers-requires c =
    let feed = cell (marks c.args.rows.now) in
    let n = length c.args.rows.now in
    let things : c.as_slice-2.result.now ≡ order_by feed n =
    c.as_slice-2.ensures.value ∙ (c.in_ok-things.ensures ∙ ap order_of (ap (λ (l : List (Vec ℕ Global)). lists l) c.as_slice.ensures.value ∙ c.in_ok-feeders.ensures)) in
    subst (λ (l : List ℕ). All (λ (k : ℕ). k < 2 ^ 32) l) (sym things) (stays_below feed n (2 ^ 32) c.requires)
