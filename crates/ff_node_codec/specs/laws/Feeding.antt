-- What becomes of a machine that is fed an item.
use Rattle.std.specs.Prelude.{◌≡◌, ℕ, ◌<◌, false, List, [], ◌∷◌, Option, Some}
use Rattle.ff_stream.specs.declared.item.Item.{Item}
use Rattle.ff_stream.specs.declared.item.Lane.{Lane}
use Rattle.ff_stream.specs.Items.{Closes}
use Rattle.ff_stream.specs.Stream.{still_open}
use Rattle.ff_stream.specs.Ports.{stream_at}
use Rattle.ff_filter.specs.declared.after.After.{After}
use Rattle.ff_filter.specs.declared.after.After.TheVariants.{More}
use Rattle.ff_filter.specs.Joins.{one}
use Rattle.ff_filter.specs.Made.{made_of}
use Rattle.ff_net.specs.Pasts.{Past, fed}
use Rattle.ff_net.specs.Ways.{AreValid}
use Rattle.ff_node_codec.specs.declared.spread.Spread.{Spread}
use Rattle.ff_node_codec.specs.declared.step.Step.{Step}
use Rattle.ff_node_codec.specs.Making.{Making}
use Rattle.ff_node_codec.specs.laws.Standing.{SpreadStands}
use Rattle.ff_node_codec.specs.laws.Steps.{IsStepFor}

-- fed this item on this input, which hadn't closed, one that stood so stands so
abbrev pub StandsFed : List Lane → ℕ → Item → (Past → Type 0) → (Past → Type 0) → Type 0
StandsFed lanes port x before after =
    (past : Past) → before past → (stream_at past.got port).mark ≡ still_open → AreValid lanes (fed past port x).got → after (fed past port x)

-- whatever item is fed of which this is made
abbrev pub IsFedPut : Spread → Spread → Item → After → Option ℕ → Type 0
IsFedPut old new made after damage =
    (lane_in lane_out : Lane) (f : Making) (port : ℕ) (x : Item) → old.closed ≡ false → port < 1
    → made_of (Some made) after ≡ f.stream (one x) → damage ≡ f.damage (one x) → (Closes made → after ≡ More)
    → StandsFed (lane_in ∷ []) port x (SpreadStands lane_in lane_out f old) (SpreadStands lane_in lane_out f new)

-- whatever item is fed that this is the step for
abbrev pub IsFollowed : Spread → Spread → Step → Type 0
IsFollowed old new step = (lane_in lane_out : Lane) (f : Making) (port : ℕ) (x : Item) → old.closed ≡ false → port < 1 → IsStepFor f x step
    → StandsFed (lane_in ∷ []) port x (SpreadStands lane_in lane_out f old) (SpreadStands lane_in lane_out f new)
