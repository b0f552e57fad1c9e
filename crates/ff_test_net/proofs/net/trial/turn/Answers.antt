use Rattle.std.proofs.Common.{◌∙◌, ap, length, List}
use Rattle.ff_stream.specs.declared.item.Lane.{Lane}
use Rattle.ff_test_net.proofs.net.trial.turn.Goals as goal

pub collect-requires-clause-lanes : goal.collect-requires-clause-lanes
collect-requires-clause-lanes g c = ap (λ (ls : List Lane). length ls) (c.run_serial.ensures.lanes ∙ c.offer-went.ensures) ∙ c.requires.lanes
