use Rattle.std.proofs.Common.{List, sym, subst}
use Rattle.ff_test_machines.specs.declared.plain.Plain.{Plain}
use Rattle.ff_test_machines.specs.Packets.{byte_lane}
use Rattle.ff_test_net.specs.network.Five.{AreFive}
use Rattle.ff_test_net.proofs.NetworkLemmas.Fives.{five_of}
use Rattle.ff_test_net.proofs.network.five.machines.Goals as goal

pub returns : goal.returns
returns c = subst (λ (ms : List Plain). AreFive (byte_lane c.args.tb) ms) (sym c.in_ok-vec.ensures.items) (five_of (byte_lane c.args.tb) _ _ _ _ _ c.in_ok-source.ensures.ports c.in_ok-repeater.ensures.ports c.in_ok-stopper.ensures.ports c.join-join.ensures.ports c.in_ok-sink.ensures.ports
    c.in_ok-source.ensures.below c.in_ok-repeater.ensures.below c.in_ok-stopper.ensures.below c.join-join.ensures.below c.in_ok-sink.ensures.below)
