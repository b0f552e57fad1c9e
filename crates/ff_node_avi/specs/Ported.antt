-- A machine that gives closed streams at several ports: for each ticket one unit, in one order, or the end of all.
use Rattle.std.specs.Prelude.{◌≡◌, ◌≢◌, ℕ, zero, suc, ◌+◌, ◌<◌, ◌≤◌, ◌==◌, Bool, true, false, if◌then◌else◌, cond, nat_le, List, [], ◌∷◌, ◌++◌, take, length, Option, Some, None}
use Rattle.ff_frame.specs.declared.packet.Pkt.{Pkt}
use Rattle.ff_stream.specs.declared.item.Item.{Item}
use Rattle.ff_stream.specs.declared.item.Item.TheVariants.{Packet}
use Rattle.ff_stream.specs.Stream.{Mark, still_open}
use Rattle.ff_stream.specs.Ports.{nothing, stream_at, AllBelow}
use Rattle.ff_net.specs.declared.fault.Fault.{Fault}
use Rattle.ff_net.specs.Ways.{Flow}
use Rattle.ff_net.specs.Pasts.{Past, Units, IsIn}
use Rattle.ff_node_demux.specs.Sources.{count}

-- the items of a port, among units that each name the port of their item
abbrev pub items_at : ℕ → List (ℕ × Item) → List Item
items_at p [] = []
items_at p (u ∷ us) = if u.0 == p then u.1 ∷ items_at p us else items_at p us

-- a stream for each port below a number
abbrev pub flows : (ℕ → Flow) → ℕ → List Flow
flows f zero = []
flows f (suc n) = f zero ∷ flows (λ p. f (suc p)) n

-- all that a port gives
abbrev pub all_at : List (ℕ × Item) → Mark → ℕ → Flow
all_at us m p = record { items = items_at p us; mark = m }

-- what a port gives of the first n units; each port closes with the ticket behind the last unit
abbrev pub part_at : List (ℕ × Item) → Mark → ℕ → ℕ → Flow
part_at us m n p = record { items = items_at p (take n us); mark = cond (nat_le n (length us)) still_open m }

-- the function of such a source, and its units
abbrev pub all_of : List (ℕ × Item) → Mark → ℕ → List Flow → List Flow
all_of us m ports inputs = flows (all_at us m) ports

abbrev pub units_in : List (ℕ × Item) → Mark → ℕ → Units
units_in us m ports = record { upto = λ n. flows (part_at us m n) ports; count = length us }

-- what waits at a port, where a packet may wait at one
abbrev pub waits_at : Option (ℕ × Pkt) → ℕ → List Item
waits_at None p = []
waits_at (Some w) p = if w.0 == p then Packet w.1 ∷ [] else []

-- nothing is due at a port: nothing waits there, and there is no ticket, or the port has closed
pub record IsSettled (ended ticket : Bool) (waiting : Option (ℕ × Pkt)) (closed : ℕ → Bool) (p : ℕ) : Type 0 where
  pub none : waits_at waiting p ≡ []
  pub unticketed : ended ≡ false → ticket ≡ false
  pub shut : ended ≡ true → closed p ≡ true

-- what a port gave that goes on is what it has of the units so far, but for what waits
pub record HasGiven (us : List (ℕ × Item)) (m : Mark) (n : ℕ) (waiting : Option (ℕ × Pkt)) (closed : Bool) (p : ℕ) (gave : Flow) : Type 0 where
  pub items : gave.items ++ waits_at waiting p ≡ items_at p (take n us)
  pub mark : gave.mark ≡ cond closed m still_open

-- Of these units n were used, and the end or not; each took a ticket. At most one waits, at a port that goes on. A unit of a port
-- that was stopped is dropped.
pub record Gives (us : List (ℕ × Item)) (m : Mark) (ports n : ℕ) (ended ticket : Bool) (waiting : Option (ℕ × Pkt)) (going closed : ℕ → Bool) (fault : Option Fault) (past : Past) : Type 0 where
  pub means : past.task.means ≡ all_of us m ports
  pub source : past.task.source ≡ Some (units_in us m ports)
  pub fed_nothing : (p : ℕ) → stream_at past.got p ≡ nothing
  pub tickets : length past.allowed ≡ n + count ended + count ticket
  pub in_range : n ≤ length us
  pub at_end : ended ≡ true → n ≡ length us
  pub closes : m ≢ still_open
  pub stopped : (p : ℕ) → going p ≡ true → (p < ports) × (IsIn p past.stopped → ⊥)
  pub goes : (p : ℕ) → p < ports → (IsIn p past.stopped → ⊥) → going p ≡ true
  pub held : (w : ℕ × Pkt) → waiting ≡ Some w → (going w.0 ≡ true) × (ended ≡ false) × (ticket ≡ false)
  pub shut : (p : ℕ) → closed p ≡ true → ended ≡ true
  pub gave : (p : ℕ) → going p ≡ true → HasGiven us m n waiting (closed p) p (stream_at past.gave p)
  pub below : AllBelow past.gave (flows (part_at us m (n + count ended)) ports)
  pub idle : fault ≡ None → (p : ℕ) → going p ≡ true → IsIn p past.asked → IsSettled ended ticket waiting closed p
