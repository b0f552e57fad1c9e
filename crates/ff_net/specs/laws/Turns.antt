-- What a turn of a node says.
use Rattle.std.specs.Prelude.{◌≡◌, ℕ, ◌<◌, ◌⊎◌, Bool, true, false, length, Some, is_some}
use Rattle.ff_net.specs.declared.node.Node.{Node}
use Rattle.ff_net.specs.declared.node.Turn.{Turn}
use Rattle.ff_net.specs.declared.node.Turn.TheVariants.{Moved, NotYet}
use Rattle.ff_net.specs.declared.wires.Wires.{Wires}
use Rattle.ff_net.specs.Pasts.{Past}
use Rattle.ff_net.specs.laws.Ports.{in_at, out_at, SomeHeld, NoneHeld}
use Rattle.ff_net.specs.laws.Worlds.{Wire, IsFull, IsEmpty}
use Rattle.ff_net.specs.laws.Nodes.{IsSound}
use Rattle.ff_net.specs.laws.Logs.{WasChoked, tickets_in}
use Rattle.ff_net.specs.laws.Steps.{HasMoved, IsDue, IsHeldBack}
use Rattle.ff_net.specs.laws.Views.{View}

-- where nothing moved, ports wait: with a fault each output that goes on for room; without one each that holds an item
-- for room, or, where none holds any and the node may take, each input that goes on for an item
pub data Waits {M : Type 0} (view : M → View) (may_take : Bool) (node : Node M) (wires : Wires) : Type 0 where
  with_fault : (IsSound view node → ⊥) → ((q : ℕ) → q < length node.outs.items → (out_at node.outs.items q).done ≡ false → IsFull wires (out_at node.outs.items q).wire) → Waits view may_take node wires
  with_items : IsSound view node → SomeHeld node.outs.items → ((q : ℕ) → q < length node.outs.items → (out_at node.outs.items q).done ≡ false → is_some (out_at node.outs.items q).held ≡ true → IsFull wires (out_at node.outs.items q).wire) → Waits view may_take node wires
  held_back : IsSound view node → NoneHeld node.outs.items → may_take ≡ false → Waits view may_take node wires
  for_items : IsSound view node → NoneHeld node.outs.items → ((p : ℕ) → p < length node.ins.items → (in_at node.ins.items p).done ≡ false → IsEmpty wires (in_at node.ins.items p).wire) → Waits view may_take node wires

-- an output holds an item, or the node has a fault
abbrev pub HasDue : {M : Type 0} → (M → View) → Node M → Type 0
HasDue view node = SomeHeld node.outs.items ⊎ (IsSound view node → ⊥)

-- some wire has no room or no item, or the node's source was refused a grant since
pub data IsRefused {M : Type 0} (view : M → View) (before node : Node M) (wires : Wires) : Type 0 where
  full : (q : ℕ) → q < length node.outs.items → IsFull wires (out_at node.outs.items q).wire → IsRefused view before node wires
  empty : (p : ℕ) → p < length node.ins.items → IsEmpty wires (in_at node.ins.items p).wire → IsRefused view before node wires
  choked : (s : ℕ) → (view node.machine).source ≡ Some s → WasChoked before.pass s node.pass → IsRefused view before node wires

-- every output with an item due has no room; where none has one and the node may take, every input that isn't finished has no
-- item; and where it may take, something was refused
pub record IsIdle {M : Type 0} (view : M → View) (may_take : Bool) (before node : Node M) (wires : Wires) (world : ℕ → Wire) (past : Past) : Type 0 where
  pub no_room : (q : ℕ) → IsDue view node world past q → IsFull wires (out_at node.outs.items q).wire
  pub no_item : may_take ≡ true → ((q : ℕ) → IsDue view node world past q → ⊥) → (p : ℕ) → p < length node.ins.items → (in_at node.ins.items p).done ≡ false → IsEmpty wires (in_at node.ins.items p).wire
  pub refused : may_take ≡ true → IsRefused view before node wires

-- of a turn with this answer: Moved comes only where something moved, was granted or was told, NotYet only where the node is idle,
-- and nothing was taken, granted or allowed where the node was held back
pub record Answers {M : Type 0} (view : M → View) (may_take : Bool) (turn : Turn) (before node : Node M) (wires : Wires) (old : ℕ → Wire) (past : Past) (new : ℕ → Wire) (since : Past) : Type 0 where
  pub moved : turn ≡ Moved → HasMoved before node old past new since
  pub not_yet : turn ≡ NotYet → IsIdle view may_take before node wires new since
  pub takes_nothing : IsHeldBack view may_take before old past → (w : ℕ) → (new w).taken ≡ (old w).taken
  pub allows_nothing : IsHeldBack view may_take before old past → since.allowed ≡ past.allowed
  pub grants_nothing : IsHeldBack view may_take before old past → tickets_in node.pass.log ≡ tickets_in before.pass.log
