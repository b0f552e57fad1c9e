-- The lanes of machines that are tried.
use Rattle.std.specs.Prelude.{ℕ, List, [], ◌∷◌, length, replicate}
use Rattle.ff_time.specs.Fraction.{Fraction}
use Rattle.ff_frame.specs.declared.head.Codec.TheVariants.{PcmU8}
use Rattle.ff_frame.specs.declared.head.StreamHead.TheVariants.{Audio}
use Rattle.ff_stream.specs.declared.item.Item.{Item}
use Rattle.ff_stream.specs.declared.item.Lane.{Lane}
use Rattle.ff_stream.specs.declared.item.Lane.TheVariants.{Packets}
use Rattle.ff_test_machines.specs.declared.join.Join.{Join}
use Rattle.ff_test_machines.specs.declared.relay.Relay.{Relay}
use Rattle.ff_test_machines.specs.declared.source.Source.{Source}

-- packets of sound of 8,000 samples a second
abbrev pub trial_lane : Fraction → Lane
trial_lane tb = Packets (Audio tb 8000 8 1 PcmU8)

abbrev pub relay_ins : Relay → List Lane
relay_ins m = m.lane ∷ []

abbrev pub relay_outs : Relay → List Lane
relay_outs m = replicate (length m.outs.items) m.lane

-- what a relay was fed, up to where it ends
abbrev pub given_by : Relay → List Item
given_by m = m.given.items

abbrev pub source_outs : Source → List Lane
source_outs m = m.lane ∷ []

abbrev pub join_ins : Join → List Lane
join_ins m = m.lane ∷ m.lane ∷ []

abbrev pub join_outs : Join → List Lane
join_outs m = m.lane ∷ []

abbrev pub source_number : Source → ℕ
source_number m = m.number

-- how many packets a source gave
abbrev pub count_given : Source → ℕ
count_given m = m.next
