-- What a machine is there for, and what it has behind it.
use Rattle.std.specs.Prelude.{◌≡◌, ℕ, ◌⊎◌, List, [], ◌∷◌, ◌++◌, length, take, nat_le, cond, Option, Some, None}
use Rattle.ff_stream.specs.declared.item.Item.{Item}
use Rattle.ff_frame.specs.declared.event.Ticket.{Ticket}
use Rattle.ff_stream.specs.Stream.{still_open}
use Rattle.ff_frame.specs.declared.event.Event.{Event}
use Rattle.ff_net.specs.declared.fault.Fault.{Fault}
use Rattle.ff_net.specs.Ways.{Flow, with_item_at}

-- an item, and the input that it was fed to
pub record Feed : Type 0 where
  pub port : ℕ
  pub item : Item

-- what a source gives: its streams as far as so many units, one for each ticket, and how many units there are
pub record Units : Type 0 where
  pub upto : ℕ → List Flow
  pub count : ℕ

-- what a machine is there for: the function of its streams, the fault that it makes of them itself, its units where it is a
-- source, and the events that it has to tell by what was fed
pub record Task : Type 0 where
  pub means : List Flow → List Flow
  pub cause : List Flow → Option Fault
  pub source : Option Units
  pub tells : List Feed → List Event

-- what it was fed, call by call and by input, and gave, which events it told, which tickets it was allowed, which outputs
-- were stopped, and which outputs had nothing to give since it was last fed, allowed a ticket or gave an item
pub record Past : Type 0 where
  pub task : Task
  pub feeds : List Feed
  pub told : List Event
  pub got : List Flow
  pub gave : List Flow
  pub allowed : List Ticket
  pub stopped : List ℕ
  pub asked : List ℕ

abbrev pub IsIn : ℕ → List ℕ → Type 0
IsIn w [] = ⊥
IsIn w (x ∷ xs) = (x ≡ w) ⊎ IsIn w xs

-- nothing was done yet
abbrev pub start : Task → Past
start task = record { task = task; feeds = []; told = []; got = []; gave = []; allowed = []; stopped = []; asked = [] }

abbrev pub fed : Past → ℕ → Item → Past
fed past p x = record past { got = with_item_at past.got p x; feeds = past.feeds ++ record { port = p; item = x } ∷ []; asked = [] }

abbrev pub gave_item : Past → ℕ → Item → Past
gave_item past p x = record past { gave = with_item_at past.gave p x; asked = [] }

-- an output had nothing to give
abbrev pub was_asked : Past → ℕ → Past
was_asked past p = record past { asked = p ∷ past.asked }

abbrev pub was_allowed : Past → Ticket → Past
was_allowed past t = record past { allowed = past.allowed ++ t ∷ []; asked = [] }

-- an event was told
abbrev pub was_told : Past → Event → Past
was_told past e = record past { told = past.told ++ e ∷ [] }

abbrev pub was_stopped : Past → ℕ → Past
was_stopped past p = record past { stopped = p ∷ past.stopped }

-- it has no event to tell, whatever was fed
abbrev pub no_events : List Feed → List Event
no_events feeds = []

-- the first n items, left open there; the stream itself where n is above its number of items
abbrev pub cut_to : ℕ → Flow → Flow
cut_to n s = record { items = take n s.items; mark = cond (nat_le n (length s.items)) still_open s.mark }

-- the units of one stream: an item, or its end
abbrev pub units_of : Flow → Units
units_of s = record { upto = λ n. cut_to n s ∷ []; count = length s.items }

-- how many units a machine has; none, where it is no source
abbrev pub count_of : Option Units → ℕ
count_of None = 0
count_of (Some units) = units.count

-- of a source its streams as far as so many units, of another machine all that it means
abbrev pub due_by : Option Units → ℕ → List Flow → List Flow
due_by None n ss = ss
due_by (Some units) n ss = units.upto n

-- what is to be given by now: of a source one unit for each ticket
abbrev pub due : Past → List Flow
due past = due_by past.task.source (length past.allowed) (past.task.means past.got)
