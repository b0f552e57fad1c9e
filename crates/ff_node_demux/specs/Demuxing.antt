-- The part that gives an input's packets, as what it means.
use Rattle.std.specs.Prelude.{◌≡◌, ◌⊎◌, ℕ, ◌+◌, ◌-◌, ◌^◌, nat_lt, ◌||◌, Bool, true, false, if◌then◌else◌, List, [], ◌++◌, drop, map, length, Option, None, Some}
use Rattle.ff_stream.specs.declared.item.Item.{Item}
use Rattle.ff_stream.specs.declared.item.Item.TheVariants.{Audio, Video, Packet, Trailer, End, Broken}
use Rattle.ff_stream.specs.declared.item.Lane.{Lane}
use Rattle.ff_stream.specs.declared.item.Lane.TheVariants.{Packets}
use Rattle.ff_stream.specs.Stream.{Mark, whole, broken}
use Rattle.ff_stream.specs.Within.{some_pass, within, passes_limits}
use Rattle.ff_reader.specs.Cutters.{Cutter}
use Rattle.ff_net.specs.declared.fault.Fault.{Fault}
use Rattle.ff_net.specs.declared.fault.Fault.TheVariants.{Device, Damaged, TooLong}
use Rattle.ff_net.specs.laws.Laws.{IsOfInputs}
use Rattle.ff_net.specs.Pasts.{Past, Task, IsIn, units_of}
use Rattle.ff_net.specs.Ways.{Flow}
use Rattle.ff_node_demux.specs.Exiting.{exits}
use Rattle.ff_node_demux.specs.Sources.{Sources, only}

-- the offset past which no packet may end
abbrev pub last_byte : ℕ
last_byte = 2 ^ 40

-- a packet that ends past it
abbrev pub ends_beyond : Item → Bool
ends_beyond (Audio f) = false
ends_beyond (Video f) = false
ends_beyond (Packet p) = nat_lt last_byte (p.pos + length p.bytes)
ends_beyond (Trailer t) = false
ends_beyond End = false
ends_beyond Broken = false

-- the limits of a demuxer's stream: those of every stream, and the last byte
abbrev pub passes_in_demux : Lane → ℕ → Item → Bool
passes_in_demux lane n x = passes_limits lane n x || ends_beyond x

-- how a stream ends of which no further packet begins at this offset, or one that isn't whole
abbrev pub mark_at : Option ℕ → Mark
mark_at None = whole
mark_at (Some offset) = broken

abbrev pub damage_at : Option ℕ → Option Fault
damage_at None = None
damage_at (Some offset) = Some (Damaged offset)

module _ {H C : Type 0} (cutter : Cutter H C) where
  -- the packets of a whole input with this head, as items, and where they break off
  abbrev pub items_of : H → List ℕ → List Item
  items_of head file = map Packet (cutter.demuxed head (drop (cutter.start head) file))

  abbrev pub break_of : H → List ℕ → Option ℕ
  break_of head file = cutter.broken_at head (drop (cutter.start head) file)

  -- the stream of a whole input with this head, up to the limits
  unfoldable pub demux_of : H → List ℕ → Flow
  demux_of head file =
      within (passes_in_demux (Packets (cutter.stream_head head))) (record { items = items_of head file; mark = mark_at (break_of head file) })

  -- whether some packet passes a limit
  unfoldable pub is_too_long : H → List ℕ → Bool
  is_too_long head file = some_pass (passes_in_demux (Packets (cutter.stream_head head))) 0 (items_of head file)

  -- the fault of an input: its length, if a packet passes a limit, else the damage where its packets break off
  abbrev pub fault_in : H → List ℕ → Option Fault
  fault_in head file = if is_too_long head file then Some TooLong else damage_at (break_of head file)

  abbrev pub demux_cause : H → List ℕ → List Flow → Option Fault
  demux_cause head file inputs = fault_in head file

  -- what a demuxer of this input, the one of this number, is there for
  abbrev pub demux_task : ℕ → H → List ℕ → Task
  demux_task input head file = record { means = only (demux_of head file); cause = demux_cause head file; source = Some (units_of (demux_of head file)); tells = exits input }

-- Of an input with this head these bytes were read, and the rest is left: the state of a demuxer after a past.
pub record Demuxes {H C : Type 0} (cutter : Cutter H C) (left : Option (List ℕ)) (cut : C) (skip given : ℕ) (ticket ended : Bool) (fault : Option Fault) (past : Past) (head : H) (read rest : List ℕ) : Type 0 where
  pub told : left ≡ Some rest
  pub is_head : cutter.IsHead head
  pub of_head : cutter.head_of cut ≡ head
  pub sources : Sources (demux_of cutter head (read ++ rest)) given ended ticket past
  pub cause : past.task.cause ≡ demux_cause cutter head (read ++ rest)
  pub cuts : ended ≡ false → cutter.cuts cut head (drop (cutter.start head) read) given
  pub skipped : skip ≡ cutter.start head - length read
  pub all_read : cutter.has_ended cut ≡ true → rest ≡ []
  pub own : (f : Fault) → fault ≡ Some f → IsOfInputs f → fault_in cutter head (read ++ rest) ≡ Some f
  pub device : (f : Fault) → fault ≡ Some f → (f ≡ Device) ⊎ (ended ≡ true)
  pub sound : fault ≡ None → ended ≡ true → fault_in cutter head (read ++ rest) ≡ None
  pub idle : fault ≡ None → ended ≡ false → IsIn 0 past.asked → ticket ≡ false

module _ {H C : Type 0} (cutter : Cutter H C) where
  -- the source tells what it has left, and the state fits the past
  abbrev pub DemuxStands : Option (List ℕ) → C → ℕ → ℕ → Bool → Bool → Option Fault → Past → Type 0
  DemuxStands left cut skip given ticket ended fault past = (head : H) × (read rest : List ℕ)
      × Demuxes cutter left cut skip given ticket ended fault past head read rest
