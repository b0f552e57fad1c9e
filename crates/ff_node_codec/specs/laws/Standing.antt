-- A machine with its outputs, and what it has behind it.
use Rattle.std.specs.Prelude.{◌≡◌, ℕ, length, Bool, true, false, List, [], Option, None, Some}
use Rattle.ff_stream.specs.declared.item.Lane.{Lane}
use Rattle.ff_stream.specs.Ports.{nothing}
use Rattle.ff_stream.specs.Stream.{whole_stream}
use Rattle.ff_net.specs.Ways.{Flow}
use Rattle.ff_net.specs.Pasts.{Task, Past, no_events}
use Rattle.ff_node_codec.specs.declared.spread.Spread.{Spread}
use Rattle.ff_node_codec.specs.laws.Lines.{line_at, AreSame}
use Rattle.ff_node_codec.specs.Making.{Making}
use Rattle.ff_node_codec.specs.Spreads.{spread, damage_cause, is_spent_spread, Spreads}

abbrev pub outputs_of : Spread → ℕ
outputs_of m = length m.outs.items

abbrev pub SpreadStands : Lane → Lane → Making → Spread → Past → Type 0
SpreadStands lane_in lane_out f m past = Spreads lane_in lane_out f (length m.outs.items) (line_at m.outs.items) m.closed m.damage past

abbrev pub spread_spent : Spread → ℕ → Type 0
spread_spent m p = is_spent_spread (length m.outs.items) (line_at m.outs.items) m.closed p

-- nothing that can be seen has changed
pub record IsSameSpread (old new : Spread) : Type 0 where
  pub outs : AreSame old.outs.items new.outs.items
  pub closed : new.closed ≡ old.closed
  pub damage : new.damage ≡ old.damage

-- what is there before anything comes: nothing, or all
abbrev pub at_first : Bool → Flow
at_first true = whole_stream []
at_first false = nothing

-- a task to make this of the input and give it on so many outputs
pub record IsSpreadTask (n : ℕ) (f : Making) (task : Task) : Type 0 where
  pub means : task.means ≡ spread n f
  pub cause : (ss : List Flow) → task.cause ss ≡ damage_cause f ss
  pub plain : task.source ≡ None
  pub silent : task.tells ≡ no_events

-- damage that was found stays
abbrev pub first_damage : Option ℕ → Option ℕ → Option ℕ
first_damage None later = later
first_damage (Some offset) later = Some offset

-- as many outputs as before, and what was found stays
pub record GoesOnSpread (old new : Spread) : Type 0 where
  pub count : length new.outs.items ≡ length old.outs.items
  pub stays : (offset : ℕ) → old.damage ≡ Some offset → new.damage ≡ Some offset
