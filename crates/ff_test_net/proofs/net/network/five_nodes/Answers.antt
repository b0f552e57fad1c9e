use Rattle.std.proofs.Common.{List, ap, length, subst, sym}
use Rattle.ff_net.specs.declared.node.Node.{Node}
use Rattle.ff_net.specs.laws.Serial.{AreOf}
use Rattle.ff_test_machines.specs.declared.plain.Plain.{Plain}
use Rattle.ff_test_machines.specs.Plains.{plain_view}
use Rattle.ff_test_machines.specs.Trials.{trial_lane}
use Rattle.ff_test_machines.proofs.Networks.{five_of, five_shaped}
use Rattle.ff_test_net.proofs.net.network.five_nodes.Goals as goal

pub returns-clause-count : goal.returns-clause-count
returns-clause-count c = ap (λ (ns : List (Node Plain)). length ns) c.in_ok-vec.ensures.items

pub returns-clause-shaped : goal.returns-clause-shaped
returns-clause-shaped c wires lanes =
    five_shaped c.in_ok-source.source c.in_ok-repeater.repeater c.in_ok-stopper.stopper c.in_ok-join.join c.in_ok-sink.sink wires (trial_lane c.args.tb) lanes
    c.in_ok-source.ensures.fits c.in_ok-repeater.ensures.fits c.in_ok-stopper.ensures.fits c.in_ok-join.ensures.fits c.in_ok-sink.ensures.fits _ c.in_ok-vec.ensures.items

pub returns-clause-of : goal.returns-clause-of
returns-clause-of c =
    let cell = c.args.cell.now in
    let seats = c.requires.seats in
    subst (λ (ns : List (Node Plain)). AreOf plain_view cell ns) (sym c.in_ok-vec.ensures.items)
    (five_of cell c.in_ok-source.source c.in_ok-repeater.repeater c.in_ok-stopper.stopper c.in_ok-join.join c.in_ok-sink.sink
    (c.in_ok-source.ensures.of cell seats.first) (c.in_ok-repeater.ensures.of cell seats.second) (c.in_ok-stopper.ensures.of cell seats.third) (c.in_ok-join.ensures.of cell seats.fourth) (c.in_ok-sink.ensures.of cell seats.fifth))
