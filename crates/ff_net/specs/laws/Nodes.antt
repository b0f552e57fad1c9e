-- A machine on wires, and what it has behind it.
use Rattle.std.specs.Prelude.{◌≡◌, ℕ, ◌<◌, ◌≤◌, ◌⊎◌, Bool, true, false, List, [], ◌++◌, length, map, slice_index_or, Option, None, Some}
use mathlib.Core.List.{IsPrefix}
use Rattle.ff_stream.specs.declared.item.Item.{Item}
use Rattle.ff_stream.specs.declared.item.Lane.{Lane}
use Rattle.ff_stream.specs.Stream.{still_open, LiesBelow, opened}
use Rattle.ff_stream.specs.Items.{with_item}
use Rattle.ff_stream.specs.Ports.{nothing, stream_at, IsClosed}
use Rattle.ff_net.specs.declared.node.Node.{Node}
use Rattle.ff_net.specs.declared.ports.InPort.{InPort}
use Rattle.ff_net.specs.declared.ports.OutPort.{OutPort}
use Rattle.ff_net.specs.declared.wires.Wires.{Wires}
use Rattle.ff_net.specs.Ways.{Flow, lane_at}
use Rattle.ff_net.specs.Pasts.{Past, IsIn}
use Rattle.ff_net.specs.laws.Laws.{IsReading, NoMatter}
use Rattle.ff_net.specs.laws.Logs.{AreTicketsOf, GrantsFirst, hand_of, tickets_in, told_in}
use Rattle.ff_sched.specs.laws.Passing.{Passing, Scheduler}
use Rattle.ff_net.specs.laws.Ports.{in_at, out_at, in_wires, out_wires, AreDone}
use Rattle.ff_net.specs.laws.Worlds.{Wire, lanes_of}
use Rattle.ff_net.specs.laws.Views.{View}

-- what was sent, with the item that is held, is what the machine gave
abbrev pub HeldIs : Option Item → Flow → Flow → Type 0
HeldIs None sent gave = sent ≡ gave
HeldIs (Some x) sent gave = with_item sent x ≡ gave

-- an output: the wire has what the machine gave but for the item that is held, and without a fault never more
pub record OutStands (port : OutPort) (wire : Wire) (gave : Flow) (stopped sound : Type 0) : Type 0 where
  pub held : port.done ≡ false → HeldIs port.held wire.sent gave
  pub unclosed : port.done ≡ false → wire.sent.mark ≡ still_open
  pub opened_below : LiesBelow (opened wire.sent) gave
  pub exact : sound → LiesBelow wire.sent gave
  -- it is closed and given, or was told that its receiver has finished
  pub done : port.done ≡ true → IsClosed wire.sent ⊎ ((wire.finished ≡ true) × stopped)

-- the machine was fed what was taken, or all but the last item
abbrev pub FedAllButOne : Flow → Flow → Type 0
FedAllButOne got taken = (got ≡ taken) ⊎ ((got.mark ≡ still_open) × ((x : Item) × (with_item got x ≡ taken)))

-- an input: the machine was fed what was taken from the wire, where no item was refused, and it is finished with reason
pub record InStands (port : InPort) (wire : Wire) (got : Flow) (refused : Bool) (sound may : Type 0) : Type 0 where
  pub fed : FedAllButOne got wire.taken
  pub exact : refused ≡ false → got ≡ wire.taken
  pub flag : port.done ≡ wire.finished
  pub reason : port.done ≡ true → sound → IsClosed wire.taken ⊎ may

-- the machine of a node
abbrev pub machine_of : {M : Type 0} → Node M → M
machine_of node = node.machine

-- the pass of a node
abbrev pub pass_of : {M : Type 0} → Node M → Passing
pass_of node = node.pass

-- how many inputs a node has, and how many outputs
abbrev pub inputs_of : {M : Type 0} → Node M → ℕ
inputs_of node = length node.ins.items

abbrev pub outputs_of : {M : Type 0} → Node M → ℕ
outputs_of node = length node.outs.items

-- the wire of an input
abbrev pub in_wire_of : {M : Type 0} → Node M → ℕ → ℕ
in_wire_of node p = (in_at node.ins.items p).wire

-- an input was finished
abbrev pub HasFinished : {M : Type 0} → Node M → ℕ → Type 0
HasFinished node p = (in_at node.ins.items p).done ≡ true

-- the wire of an output
abbrev pub out_wire_of : {M : Type 0} → Node M → ℕ → ℕ
out_wire_of node q = (out_at node.outs.items q).wire

-- nothing more goes on an output
abbrev pub IsOver : {M : Type 0} → Node M → ℕ → Type 0
IsOver node q = (out_at node.outs.items q).done ≡ true

-- the node has no fault
abbrev pub IsSound : {M : Type 0} → (M → View) → Node M → Type 0
IsSound view node = (node.refused ≡ false) × ((view node.machine).fault ≡ None)

-- the node has outputs, and nothing more of this input matters, or nothing more goes on any
abbrev pub MayClose : {M : Type 0} → (M → View) → Node M → Past → ℕ → Type 0
MayClose view node past p = (0 < length node.outs.items) × (NoMatter (view node.machine).in_lanes (length node.outs.items) past p ⊎ AreDone node.outs.items)

-- the node's pass is of this cell, and its source, where it is one, is one of the cell's
pub record IsOf {M : Type 0} (view : M → View) (cell : Scheduler) (node : Node M) : Type 0 where
  pub pass : node.pass.cell ≡ cell
  pub source : (s : ℕ) → (view node.machine).source ≡ Some s → s < cell.routes.sources

-- What the log of the node's pass says of the past. Its grants are the tickets that the machine was allowed, and the one that the
-- node holds, each of the machine's own source. Its other events were told by the machine, and are all that it told where no
-- memory was refused; they stand behind the grants, since nothing is told while a source is reading. Where nothing was left to
-- tell, each event that is due was told
pub record LogStands {M : Type 0} (view : M → View) (node : Node M) (past : Past) : Type 0 where
  pub granted : tickets_in node.pass.log ≡ past.allowed ++ hand_of node.hand
  pub own : AreTicketsOf (view node.machine).source (tickets_in node.pass.log)
  pub told : IsPrefix (told_in node.pass.log) past.told
  pub all_told : node.refused ≡ false → told_in node.pass.log ≡ past.told
  pub in_order : GrantsFirst node.pass.log
  pub unread : IsReading (view node.machine) past → past.told ≡ []
  pub quiet : node.quiet ≡ true → (past.told ≡ past.task.tells past.feeds) ⊎ IsReading (view node.machine) past

-- the node can be where it is after this was sent and taken on its wires, and its machine after this past
pub record NodeStands {M : Type 0} (view : M → View) (node : Node M) (world : ℕ → Wire) (past : Past) : Type 0 where
  pub machine : (view node.machine).stands past
  pub ins : (p : ℕ) → p < length node.ins.items → InStands (in_at node.ins.items p) (world (in_at node.ins.items p).wire) (stream_at past.got p) node.refused (IsSound view node) (MayClose view node past p)
  pub outs : (p : ℕ) → p < length node.outs.items → OutStands (out_at node.outs.items p) (world (out_at node.outs.items p).wire) (stream_at past.gave p) (IsIn p past.stopped) (IsSound view node)
  pub beyond : (p : ℕ) → length node.ins.items ≤ p → stream_at past.got p ≡ nothing
  pub stopped : (p : ℕ) → IsIn p past.stopped → (out_at node.outs.items p).done ≡ true
  pub log : LogStands view node past

-- nothing has changed, wherever the ports lie
pub record IsSame {M : Type 0} (old new : Node M) : Type 0 where
  pub machine : new.machine ≡ old.machine
  pub ins : new.ins.items ≡ old.ins.items
  pub outs : new.outs.items ≡ old.outs.items
  pub refused : new.refused ≡ old.refused
  pub pass : new.pass ≡ old.pass
  pub hand : new.hand ≡ old.hand
  pub quiet : new.quiet ≡ old.quiet

abbrev pub in_wires_of : {M : Type 0} → Node M → List ℕ
in_wires_of node = in_wires node.ins.items

abbrev pub out_wires_of : {M : Type 0} → Node M → List ℕ
out_wires_of node = out_wires node.outs.items

-- no wire stands there twice
abbrev pub AreApart : List ℕ → Type 0
AreApart ws = (p q : ℕ) → p < length ws → q < length ws → slice_index_or ws p 0 ≡ slice_index_or ws q 0 → p ≡ q

-- the wires are there, have these lanes, and each stands there once
pub record HaveLanes (wires : List ℕ) (ports lanes : List Lane) : Type 0 where
  pub lanes_are : map (lane_at lanes) wires ≡ map Some ports
  pub apart : AreApart wires

-- a node's wires are there and have its ports' lanes, and no two of its inputs and no two of its outputs have one wire
pub record IsShaped {M : Type 0} (view : M → View) (node : Node M) (wires : Wires) : Type 0 where
  pub ins : HaveLanes (in_wires_of node) (view node.machine).in_lanes (lanes_of wires)
  pub outs : HaveLanes (out_wires_of node) (view node.machine).out_lanes (lanes_of wires)

-- each input was finished, each output is closed and given or was told that its receiver has finished, and nothing was left to
-- tell, or memory was refused
pub record IsDone {M : Type 0} (node : Node M) : Type 0 where
  pub ins : (p : ℕ) → p < length node.ins.items → (in_at node.ins.items p).done ≡ true
  pub outs : AreDone node.outs.items
  pub told : (node.quiet ≡ true) ⊎ (node.refused ≡ true)
