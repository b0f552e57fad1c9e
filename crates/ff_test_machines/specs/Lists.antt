-- A machine that gives a list, an item for each ticket, and then the end.
use Rattle.std.specs.Prelude.{◌≡◌, ◌↔◌, ℕ, ◌+◌, ◌≤◌, ◌⊎◌, Bool, true, false, cond, List, [], ◌∷◌, length, take, Option, None, Some}
use Rattle.ff_stream.specs.declared.item.Item.{Item}
use Rattle.ff_stream.specs.declared.item.Lane.{Lane}
use Rattle.ff_stream.specs.Stream.{still_open, whole, whole_stream}
use Rattle.ff_stream.specs.Lanes.{IsValid}
use Rattle.ff_stream.specs.Ports.{nothing, stream_at}
use Rattle.ff_net.specs.declared.fault.Fault.{Fault}
use Rattle.ff_net.specs.declared.fault.Fault.TheVariants.{Device}
use Rattle.ff_net.specs.Ways.{Flow}
use Rattle.ff_frame.specs.declared.event.Event.{Event}
use Rattle.ff_frame.specs.declared.event.Event.TheVariants.{Exited}
use Rattle.ff_net.specs.Pasts.{Past, Feed, IsIn, units_of}
use Rattle.ff_test_machines.specs.Relays.{no_cause}

abbrev pub list_of : List Item → List Flow → List Flow
list_of items ss = whole_stream items ∷ []

-- some items, and the end or not
abbrev pub given_of : List Item → ℕ → Bool → Flow
given_of items next ended = record { items = take next items; mark = cond ended whole still_open }

abbrev pub as_count : Bool → ℕ
as_count false = 0
as_count true = 1

abbrev pub fault_if : Bool → Option Fault
fault_if false = None
fault_if true = Some Device

pub record Lists (lane : Lane) (items : List Item) (next : ℕ) (ended ticket failed : Bool) (past : Past) : Type 0 where
  pub means : past.task.means ≡ list_of items
  pub cause : past.task.cause ≡ no_cause
  pub source : past.task.source ≡ Some (units_of (whole_stream items))
  pub got : (p : ℕ) → stream_at past.got p ≡ nothing
  pub valid : IsValid lane (whole_stream items)
  pub gave : stream_at past.gave 0 ≡ given_of items next ended
  pub beyond : (q : ℕ) → 1 ≤ q → stream_at past.gave q ≡ nothing
  pub tickets : length past.allowed ≡ next + as_count ended + as_count ticket
  pub in_range : next ≤ length items
  pub at_end : ended ≡ true → next ≡ length items
  -- with a ticket it had nothing to give only at the end, or where its device had failed
  pub asked : ticket ≡ true → IsIn 0 past.asked → (ended ≡ true) ⊎ (failed ≡ true)

-- the one event of a source: that it has exited
abbrev pub exits : ℕ → List Feed → List Event
exits number feeds = Exited number ∷ []

-- it was told or not, and the one output was stopped or not
pub record Exits (number : ℕ) (stopped told : Bool) (tells : List Feed → List Event) (events : List Event) (stops : List ℕ) : Type 0 where
  pub tells_is : tells ≡ exits number
  pub events_are : events ≡ cond told (Exited number ∷ []) []
  pub stops_are : stopped ≡ true ↔ IsIn 0 stops
