-- What a demuxer of an AVI is there for: the packets of the streams in use, in the order of the file, each at its stream's port.
use Rattle.std.specs.Prelude.{◌≡◌, ◌⊎◌, ℕ, ◌+◌, ◌^◌, ◌==◌, nat_lt, Bool, true, false, cond, if◌then◌else◌, List, [], ◌∷◌, map, length, slice_get, Option, None, Some, IsSome}
use Rattle.ff_frame.specs.declared.packet.Pkt.{Pkt}
use Rattle.ff_frame.specs.declared.head.StreamHead.{StreamHead}
use Rattle.ff_frame.specs.declared.event.Event.{Event}
use Rattle.ff_frame.specs.declared.event.Event.TheVariants.{Exited}
use Rattle.ff_stream.specs.declared.item.Item.{Item}
use Rattle.ff_stream.specs.declared.item.Item.TheVariants.{Packet}
use Rattle.ff_stream.specs.declared.item.Lane.TheVariants.{Packets}
use Rattle.ff_stream.specs.Stream.{Mark, broken}
use Rattle.ff_stream.specs.Within.{some_pass, before_pass}
use Rattle.ff_net.specs.declared.fault.Fault.{Fault}
use Rattle.ff_net.specs.declared.fault.Fault.TheVariants.{Device, TooLong}
use Rattle.ff_net.specs.Pasts.{Past, Task, Feed}
use Rattle.ff_net.specs.Ways.{Flow}
use Rattle.ff_avi.specs.declared.head.AviHead.{AviHead}
use Rattle.ff_avi.specs.declared.cut.AviCut.{AviCut}
use Rattle.ff_avi.specs.Sound.{IsHead, streams_with}
use Rattle.ff_avi.specs.Chains.{Chain, packets_in, broken_at, units}
use Rattle.ff_node_demux.specs.Demuxing.{passes_in_demux, mark_at, damage_at}
use Rattle.ff_node_demux.specs.Exiting.{exits}
use Rattle.ff_node_avi.specs.declared.ports.AviPorts.{AviPorts}
use Rattle.ff_node_avi.specs.Ported.{all_of, units_in, Gives}
use Rattle.ff_node_avi.specs.Reading.{Lies, body}

-- ---- ports

-- the numbers of the streams in use: one, or both
abbrev pub AreUsed : AviHead → List ℕ → Type 0
AreUsed head used = (used ≡ 0 ∷ []) ⊎ (IsSome head.second × ((used ≡ 1 ∷ []) ⊎ (used ≡ 0 ∷ 1 ∷ [])))

-- the stream of a number, of a head that has it
abbrev pub stream_of : AviHead → ℕ → StreamHead
stream_of head number = if number == 0 then head.first else elim head.second [ None ↦ head.first | Some second ↦ second ]

-- the ports of the streams in use, in their order
abbrev pub ports_of : AviHead → List ℕ → AviPorts
ports_of head [] = record { number = 0; first = head.first; second = None }
ports_of head (a ∷ []) = record { number = a; first = stream_of head a; second = None }
ports_of head (a ∷ b ∷ more) = record { number = a; first = stream_of head a; second = Some (stream_of head b) }

abbrev pub heads_of : AviPorts → List StreamHead
heads_of ports = streams_with ports.first ports.second

abbrev pub number_of : AviPorts → ℕ
number_of ports = length (heads_of ports)

-- the port of a stream in use
abbrev pub port_of : AviPorts → ℕ → ℕ
port_of ports stream = if stream == ports.number then 0 else 1

-- ---- units

abbrev pub chain_of : AviHead → List ℕ → List ℕ → Chain
chain_of head used file = units head used (body head file)

abbrev pub placed : AviPorts → ℕ × Pkt → ℕ × Item
placed ports u = (port_of ports u.0, Packet u.1)

-- the units of a whole input with this head: packets of the streams in use, in the order of the file
abbrev pub all_units : AviHead → List ℕ → List ℕ → List (ℕ × Item)
all_units head used file = map (placed (ports_of head used)) (packets_in (chain_of head used file))

-- A unit of this number among all passes a limit of its port's stream. No more units than bytes end by the last byte.
abbrev pub passes_at : AviPorts → ℕ → ℕ × Item → Bool
passes_at ports n u = elim (slice_get (heads_of ports) u.0) [ None ↦ nat_lt (2 ^ 40) (n + 1) | Some head ↦ passes_in_demux (Packets head) n u.1 ]

-- the units up to the limits, and whether one passes a limit
unfoldable pub units_of_file : AviHead → List ℕ → List ℕ → List (ℕ × Item)
units_of_file head used file = before_pass (passes_at (ports_of head used)) 0 (all_units head used file)

unfoldable pub is_too_long : AviHead → List ℕ → List ℕ → Bool
is_too_long head used file = some_pass (passes_at (ports_of head used)) 0 (all_units head used file)

abbrev pub break_of : AviHead → List ℕ → List ℕ → Option ℕ
break_of head used file = broken_at (chain_of head used file)

-- how both streams end: broken before a unit that passes a limit, else as the chain does
abbrev pub mark_of : AviHead → List ℕ → List ℕ → Mark
mark_of head used file = cond (is_too_long head used file) broken (mark_at (break_of head used file))

abbrev pub fault_in : AviHead → List ℕ → List ℕ → Option Fault
fault_in head used file = cond (is_too_long head used file) (Some TooLong) (damage_at (break_of head used file))

abbrev pub avi_cause : AviHead → List ℕ → List ℕ → List Flow → Option Fault
avi_cause head used file inputs = fault_in head used file

-- what a demuxer of this input, the one of this number, is there for
abbrev pub avi_task : ℕ → AviHead → List ℕ → List ℕ → Task
avi_task input head used file = record {
  means = all_of (units_of_file head used file) (mark_of head used file) (number_of (ports_of head used));
  cause = avi_cause head used file;
  source = Some (units_in (units_of_file head used file) (mark_of head used file) (number_of (ports_of head used)));
  tells = exits input;
}

-- ---- a demuxer's state

-- what it told: that it has exited, or nothing yet
pub record Exits (input : ℕ) (told : Bool) (tells : List Feed → List Event) (events : List Event) : Type 0 where
  pub tells_is : tells ≡ exits input
  pub events_are : events ≡ cond told (Exited input ∷ []) []

-- Of this input these units were used: the state of a demuxer after a past.
pub record Demuxes (left : Option (List ℕ)) (cut : AviCut) (skip : ℕ) (ports : AviPorts) (given : ℕ) (ended ticket : Bool) (waiting : Option (ℕ × Pkt)) (going closed : ℕ → Bool) (fault : Option Fault) (past : Past) (head : AviHead) (used file : List ℕ) : Type 0 where
  pub is_head : IsHead head
  pub are_used : AreUsed head used
  pub ports_are : ports ≡ ports_of head used
  pub lies : ended ≡ false → Lies left cut skip head used file given
  pub gives : Gives (units_of_file head used file) (mark_of head used file) (number_of (ports_of head used)) given ended ticket waiting going closed fault past
  pub cause : past.task.cause ≡ avi_cause head used file
  pub faulty : (f : Fault) → fault ≡ Some f → ((f ≡ Device) × (ended ≡ false)) ⊎ ((fault_in head used file ≡ Some f) × (ended ≡ true))
  pub sound : fault ≡ None → ended ≡ true → fault_in head used file ≡ None

-- the source tells what it has left, and the state fits the past
abbrev pub DemuxStands : Option (List ℕ) → AviCut → ℕ → AviPorts → ℕ → Bool → Bool → Option (ℕ × Pkt) → (ℕ → Bool) → (ℕ → Bool) → Option Fault → Past → Type 0
DemuxStands left cut skip ports given ended ticket waiting going closed fault past = (head : AviHead) × (used file : List ℕ)
    × Demuxes left cut skip ports given ended ticket waiting going closed fault past head used file
