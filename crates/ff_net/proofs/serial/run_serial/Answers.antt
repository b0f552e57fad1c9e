use Rattle.std.proofs.Common.{◌≡◌, ℕ, ◌<◌, length, slice_index_or, sym, subst, ◌∙◌}
use Rattle.std.proofs.lemmas.List.{get_or_default}
use Rattle.ff_net.specs.declared.node.Node.{Node}
use Rattle.ff_net.proofs.NetSteps.{are_of_set, fares_set, passes_set, are_shaped_set, net_stands_set, parts_kept}
use Rattle.ff_net.proofs.Moments.{fault_then, pass_then}
use Rattle.ff_net.proofs.Before.{meets_solution}
use Rattle.ff_net.proofs.Whole.{moment_of}
use Rattle.ff_net.specs.laws.Worlds.{lanes_of}
use Rattle.ff_net.proofs.serial.run_serial.Goals as goal

pub turn-turn-requires : goal.turn-turn-requires
turn-turn-requires g c =
    let k = slice_index_or c.args.order.now c.loop-k.k-index 0 in
    let there : k < length c.loop-k.nodes = subst (λ (n : ℕ). k < n) (sym c.loop-k.auto.nodes) (c.requires.order c.loop-k.k-index 0 c.loop-k-test.true) in
    record { shaped = c.loop-k.invariant.shaped.each k c.index-nodes-k.result there; cell = c.loop-k.invariant.of_cell k c.index-nodes-k.result there }

pub loop-k-preserved : goal.loop-k-preserved
loop-k-preserved g c =
    let k = slice_index_or c.args.order.now c.loop-k.k-index 0 in
    let nodes = c.loop-k.nodes in
    let there : k < length nodes = subst (λ (n : ℕ). k < n) (sym c.loop-k.auto.nodes) (c.requires.order c.loop-k.k-index 0 c.loop-k-test.true) in
    let old : Node g.row.M.Denot = slice_index_or nodes k c.index-nodes-k.result in
    let is : old ≡ slice_index_or nodes k old = get_or_default nodes k c.index-nodes-k.result old there in
    let view = g.M.Machine.view in
    let step = c.turn-turn.ensures.stepped in record {
      shaped = are_shaped_set view _ nodes c.loop-k.wires k old c.turn-turn.new.self c.turn-turn.new.wires there is c.loop-k.invariant.shaped step;
      of_cell = are_of_set view _ nodes c.loop-k.wires k old c.turn-turn.new.self c.turn-turn.new.wires there is c.loop-k.invariant.shaped step _ c.loop-k.invariant.of_cell;
      passes = λ j d lt. pass_then _ _ _ (c.loop-k.invariant.passes j d lt) (passes_set view _ nodes c.loop-k.wires k old c.turn-turn.new.self c.turn-turn.new.wires there is c.loop-k.invariant.shaped step j d);
      lanes = step.lanes_same ∙ c.loop-k.invariant.lanes;
      parts = λ tasks. parts_kept view _ nodes c.loop-k.wires k old c.turn-turn.new.self c.turn-turn.new.wires there is c.loop-k.invariant.shaped step tasks ∙ c.loop-k.invariant.parts tasks;
      fares = λ j d lt. fault_then _ _ _ (c.loop-k.invariant.fares j d lt) (fares_set view _ nodes c.loop-k.wires k old c.turn-turn.new.self c.turn-turn.new.wires there is c.loop-k.invariant.shaped step j d);
      stands = λ tasks net. net_stands_set view _ nodes c.loop-k.wires k old c.turn-turn.new.self c.turn-turn.new.wires there is c.loop-k.invariant.shaped step tasks (c.loop-k.invariant.stands tasks net);
    }

pub returns-clause-solved : goal.returns-clause-solved
returns-clause-solved g c tasks old up =
    let view = g.M.Machine.view in
    let net = c.loop-k.invariant.stands tasks old in
    (net, meets_solution view g.met.M.Machine.laws _ c.loop-k.nodes (lanes_of c.loop-k.wires) net.world tasks (moment_of view tasks c.loop-k.nodes c.loop-k.wires net c.loop-k.invariant.shaped) up c.loop-k.invariant.fares)
