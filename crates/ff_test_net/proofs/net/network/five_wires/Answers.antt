use Rattle.std.proofs.Common.{◌≡◌, ◌∷◌, [], ◌∙◌}
use Rattle.ff_stream.specs.declared.item.Lane.{Lane}
use Rattle.ff_test_machines.specs.Trials.{trial_lane}
use Rattle.ff_test_net.proofs.net.network.five_wires.Goals as goal

pub returns : goal.returns
returns c =
    let l : Lane = trial_lane c.args.tb in
    let one = c.lane.ensures in
    let two = c.lane-2.ensures in
    let three = c.lane-3.ensures in
    let four = c.lane-4.ensures in
    let five = c.lane-5.ensures in
    let all : c.lane.result ∷ c.lane-2.result ∷ c.lane-3.result ∷ c.lane-4.result ∷ c.lane-5.result ∷ [] ≡ l ∷ l ∷ l ∷ l ∷ l ∷ [] = cc (one, two, three, four, five) in
    c.in_ok-wires.ensures.lanes ∙ (c.in_ok-lanes.ensures.items ∙ all)
