use Rattle.std.proofs.Common.{List, subst, sym}
use Rattle.ff_net_threads.specs.declared.links.linked.Linked.{Linked}
use Rattle.ff_test_machines.specs.declared.plain.Plain.{Plain}
use Rattle.ff_test_machines.specs.Packets.{byte_lane}
use Rattle.ff_test_net.specs.net.Chains.{IsChain, chain_tasks}
use Rattle.ff_net_threads.specs.laws.links.Runs.{AllOf}
use Rattle.ff_test_machines.specs.Plains.{plain_view}
use Rattle.ff_test_net.proofs.NetLemmas.Chains.{chain_is, three_of}
use Rattle.ff_test_net.proofs.net.chain.chain.Goals as goal

pub returns-clause-chain : goal.returns-clause-chain
returns-clause-chain c = subst (λ (ls : List (Linked Plain)). IsChain (chain_tasks c.args.count c.args.limit) (byte_lane c.args.tb) ls) (sym c.in_ok-vec.ensures.items) (chain_is c.args.count c.args.limit (byte_lane c.args.tb) c.in_ok-source.source c.in_ok-relay.relay c.in_ok-sink.sink c.in_ok-first.first c.in_ok-third.third c.in_ok-first.second c.in_ok-third.fourth c.in_ok-source.ensures.new c.in_ok-relay.ensures.new c.in_ok-sink.ensures.new c.in_ok-first.ensures.one_link c.in_ok-third.ensures.one_link)

pub returns-clause-of : goal.returns-clause-of
returns-clause-of c =
    let cell = c.args.cell.now in
    subst (λ (ls : List (Linked Plain)). AllOf plain_view cell ls) (sym c.in_ok-vec.ensures.items)
    (three_of cell c.in_ok-source.source c.in_ok-relay.relay c.in_ok-sink.sink (c.in_ok-source.ensures.of cell c.in_ok-one.ensures.seat) (c.in_ok-relay.ensures.of cell c.in_ok-two.ensures.seat) (c.in_ok-sink.ensures.of cell c.in_ok-two.ensures.rest))
