-- What one item gives, what waits on an output, and how a machine that steps is seen.
use Rattle.std.specs.Prelude.{Bool, ◌||◌, cond, true, false, Option, Some, None, List, [], ◌∷◌}
use Rattle.ff_stream.specs.declared.item.Item.{Item}
use Rattle.ff_stream.specs.declared.item.Item.TheVariants.{Audio, Video, Packet, Trailer, End, Broken}
use Rattle.ff_stream.specs.declared.item.Lane.{Lane}
use Rattle.ff_stream.specs.Stream.{Mark, still_open, whole, broken}
use Rattle.ff_stream.specs.Ports.{nothing}
use Rattle.ff_filter.specs.declared.after.After.{After}
use Rattle.ff_filter.specs.declared.after.After.TheVariants.{More, Whole, Broke}
use Rattle.ff_filter.specs.Joins.{Flow, one, before_all}
use Rattle.ff_filter.specs.Views.{View}

-- what an item that closes its stream says of it
abbrev pub closing : Item → Option After
closing (Audio f) = None
closing (Video f) = None
closing (Packet p) = None
closing (Trailer t) = None
closing End = Some Whole
closing Broken = Some Broke

abbrev pub listed_option : Option Item → List Item
listed_option None = []
listed_option (Some x) = x ∷ []

abbrev pub mark_after : After → Mark
mark_after More = still_open
mark_after Whole = whole
mark_after Broke = broken

-- the item, and how the stream stands behind it
abbrev pub made_of : Option Item → After → Flow
made_of item after = before_all (listed_option item) (record { items = []; mark = mark_after after })

-- what still comes, unless the stream is over
abbrev pub behind : After → Flow → Flow
behind More t = t
behind Whole t = one End
behind Broke t = one Broken

abbrev pub is_over : After → Bool
is_over More = false
is_over Whole = true
is_over Broke = true

-- the items that wait, and then what comes behind them
abbrev pub waiting : List Item → After → Flow → Flow
waiting queue after t = before_all queue (behind after t)

-- the same of an output; nothing where its closing item was given
abbrev pub left : List Item → Bool → After → Flow → Flow
left queue ended after t = cond ended nothing (waiting queue after t)

-- A machine that steps: what it makes of what still comes stands behind the items that wait on its output.
abbrev pub stepper_view : Lane → Lane → (Flow → Flow) → List Item → Bool → Bool → After → Bool → View
stepper_view lane_in lane_out runs queue ended stopped after shut = record {
  ins = lane_in ∷ [];
  outs = lane_out ∷ [];
  rest = λ ext q. left queue ended after (runs (ext 0));
  shut = λ p. shut;
  ended = λ q. ended;
  stopped = λ q. stopped;
}

-- nothing more of its input can matter: the output is over, or isn't wanted
abbrev pub steps_spent : After → Bool → Bool → Bool
steps_spent after ended stopped = stopped || (ended || is_over after)
