use Rattle.std.proofs.Common.{◌≡◌, ℕ, List, true, false, length, ap, sym, subst, arith}
use Rattle.std.proofs.lemmas.Bool.Decides.{nat_tests}
use Rattle.ff_graph_links.specs.orders.Orders.{lists, loops, IsLowestOrder}
use Rattle.ff_graph_links.proofs.OrdersLemmas.Stuck.{lists_size}
use Rattle.ff_graph_links.proofs.OrdersLemmas.Lowest.{is_lowest, no_order}
use Rattle.ff_graph_links.proofs.orders.taking.order.Goals as goal

pub returns-then-len-feeders-clause-looped : goal.returns-then-len-feeders-clause-looped
returns-then-len-feeders-clause-looped c e ks h =
    let long = ap (λ (l : List ℕ). length l) c.in_ok-things.ensures in
    let size = lists_size c.args.feeders.now in
    let short = c.if-len-feeders.true in
    let count = c.len.ensures in
    let looped : loops (lists c.args.feeders.now) ≡ true = grind (arith, nat_tests) in
    no_order (lists c.args.feeders.now) looped ks h

pub returns-clause-lowest : goal.returns-clause-lowest
returns-clause-lowest c =
    let long = ap (λ (l : List ℕ). length l) c.in_ok-things.ensures in
    let size = lists_size c.args.feeders.now in
    let enough = c.if-len-feeders.false in
    let count = c.len.ensures in
    let whole : loops (lists c.args.feeders.now) ≡ false = grind (arith, nat_tests) in
    subst (λ (l : List ℕ). IsLowestOrder (lists c.args.feeders.now) l) (sym c.in_ok-things.ensures) (is_lowest (lists c.args.feeders.now) whole)
