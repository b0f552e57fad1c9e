-- What a node does, whatever it and its wires have behind them.
use Rattle.std.specs.Prelude.{◌≡◌, ◌≢◌, ℕ, ◌<◌, ◌⊎◌, Bool, true, false, List, length, None, Some}
use mathlib.Core.List.{IsPrefix}
use Rattle.ff_stream.specs.Stream.{LiesBelow}
use Rattle.ff_net.specs.declared.node.Node.{Node}
use Rattle.ff_net.specs.declared.wires.Wires.{Wires}
use Rattle.ff_net.specs.laws.Laws.{FaultStep}
use Rattle.ff_net.specs.laws.Logs.{PassStep, WasChoked, tickets_in}
use Rattle.ff_net.specs.Pasts.{Past, IsIn, due}
use Rattle.ff_net.specs.laws.Worlds.{Wire, Stand, lanes_of}
use Rattle.ff_net.specs.laws.Nodes.{NodeStands, IsSound, in_wires_of, out_wires_of}
use Rattle.ff_net.specs.laws.Ports.{out_at, NoneHeld}
use Rattle.ff_net.specs.laws.Views.{View}
use Rattle.ff_stream.specs.Ports.{stream_at}

-- from one moment to a later one: only a node's own wires change, what was done stays done, and nothing is taken from a
-- wire that was finished
pub record Course (ins outs : List ℕ) (old new : ℕ → Wire) (past since : Past) : Type 0 where
  pub sent : (w : ℕ) → (IsIn w outs → ⊥) → (new w).sent ≡ (old w).sent
  pub taken : (w : ℕ) → (IsIn w ins → ⊥) → (new w).taken ≡ (old w).taken
  pub finished : (w : ℕ) → (IsIn w ins → ⊥) → (new w).finished ≡ (old w).finished
  pub sent_grows : (w : ℕ) → LiesBelow (old w).sent (new w).sent
  pub taken_grows : (w : ℕ) → LiesBelow (old w).taken (new w).taken
  pub stays_finished : (w : ℕ) → (old w).finished ≡ true → (new w).finished ≡ true
  pub stays_taken : (w : ℕ) → (old w).finished ≡ true → (new w).taken ≡ (old w).taken
  pub task : since.task ≡ past.task
  pub allowed : IsPrefix past.allowed since.allowed
  pub stopped : (q : ℕ) → IsIn q past.stopped → IsIn q since.stopped

-- something moved: an item was taken or put, an input was finished, a ticket allowed, or an output told that its
-- receiver has finished
pub data Moves (old new : ℕ → Wire) (past since : Past) : Type 0 where
  took : (w : ℕ) → (new w).taken ≢ (old w).taken → Moves old new past since
  put : (w : ℕ) → (new w).sent ≢ (old w).sent → Moves old new past since
  finished : (w : ℕ) → (old w).finished ≡ false → (new w).finished ≡ true → Moves old new past since
  granted : since.allowed ≢ past.allowed → Moves old new past since
  told : (q : ℕ) → (IsIn q past.stopped → ⊥) → IsIn q since.stopped → Moves old new past since

-- something that can be behind the node and its wires now, and goes on from what was behind them
pub record Later {M : Type 0} (view : M → View) (how : (ℕ → Wire) → Past → (ℕ → Wire) → Past → Type 0) (ins outs : List ℕ) (node : Node M) (wires : Wires) (world : ℕ → Wire) (past : Past) : Type 0 where
  pub now : ℕ → Wire
  pub since : Past
  pub stand : Stand wires now
  pub fits : NodeStands view node now since
  pub course : Course ins outs world now past since
  pub so : how world past now since

-- the node keeps its wires and its pass, to which it may add, the wires and the machine their lanes, and a source its number; and
-- whatever was behind node and wires, something
-- that goes on from it so is behind them now
pub record Stepped {M : Type 0} (view : M → View) (how : (ℕ → Wire) → Past → (ℕ → Wire) → Past → Type 0) (node : Node M) (wires : Wires) (node' : Node M) (wires' : Wires) : Type 0 where
  pub ins_same : in_wires_of node' ≡ in_wires_of node
  pub outs_same : out_wires_of node' ≡ out_wires_of node
  pub in_lanes_same : (view node'.machine).in_lanes ≡ (view node.machine).in_lanes
  pub out_lanes_same : (view node'.machine).out_lanes ≡ (view node.machine).out_lanes
  pub source_same : (view node'.machine).source ≡ (view node.machine).source
  pub lanes_same : lanes_of wires' ≡ lanes_of wires
  pub fares : FaultStep (view node.machine) (view node'.machine)
  pub passes : PassStep node.pass node'.pass
  pub goes : (world : ℕ → Wire) (past : Past) → Stand wires world → NodeStands view node world past → Later view how (in_wires_of node) (out_wires_of node) node' wires' world past

-- something moved, or nothing was taken, where these hold, and no ticket was allowed
pub record Acts (moved quiet : Type 0) (old : ℕ → Wire) (past : Past) (new : ℕ → Wire) (since : Past) : Type 0 where
  pub moves : moved → Moves old new past since
  pub takes_nothing : quiet → (w : ℕ) → (new w).taken ≡ (old w).taken
  pub allows_nothing : since.allowed ≡ past.allowed

-- the machine of a node gave items to hold, and nothing moved; of the outputs that were seen, one that holds nothing has
-- all that is due, and where none holds anything, each was asked
pub record Readies {M : Type 0} (view : M → View) (seen : ℕ → Type 0) (held : Bool) (node : Node M) (old : ℕ → Wire) (past : Past) (new : ℕ → Wire) (since : Past) : Type 0 where
  pub sent : (w : ℕ) → (new w).sent ≡ (old w).sent
  pub taken : (w : ℕ) → (new w).taken ≡ (old w).taken
  pub finished : (w : ℕ) → (new w).finished ≡ (old w).finished
  pub got : since.got ≡ past.got
  pub allowed : since.allowed ≡ past.allowed
  pub stopped : since.stopped ≡ past.stopped
  pub none_due : IsSound view node → (q : ℕ) → seen q → (out_at node.outs.items q).done ≡ false → (out_at node.outs.items q).held ≡ None → (old (out_at node.outs.items q).wire).sent ≡ stream_at (due past) q
  pub asked : IsSound view node → held ≡ false → (q : ℕ) → seen q → (out_at node.outs.items q).done ≡ false → IsIn q since.asked
  pub asks_on : IsSound view node → held ≡ false → (q : ℕ) → IsIn q past.asked → IsIn q since.asked

-- an item is due on an output: nothing is where it is done; without a fault one is where not all was sent that is to be
-- given by now, and with one wherever it isn't done
pub record IsDue {M : Type 0} (view : M → View) (node : Node M) (world : ℕ → Wire) (past : Past) (q : ℕ) : Type 0 where
  pub there : q < length node.outs.items
  pub goes_on : (out_at node.outs.items q).done ≡ false
  pub unsent : IsSound view node → (world (out_at node.outs.items q).wire).sent ≢ stream_at (due past) q

-- the machine of a node gave items to hold, and nothing moved; where the answer is no, no item was due before
pub record Fills {M : Type 0} (view : M → View) (due : Bool) (before : Node M) (old : ℕ → Wire) (past : Past) (new : ℕ → Wire) (since : Past) : Type 0 where
  pub sent : (w : ℕ) → (new w).sent ≡ (old w).sent
  pub taken : (w : ℕ) → (new w).taken ≡ (old w).taken
  pub finished : (w : ℕ) → (new w).finished ≡ (old w).finished
  pub allowed : since.allowed ≡ past.allowed
  pub stopped : since.stopped ≡ past.stopped
  pub none_before : due ≡ false → (q : ℕ) → IsDue view before old past q → ⊥

-- something moved, or the log of the node's pass has grown: it was granted, or told an event
abbrev pub HasMoved : {M : Type 0} → Node M → Node M → (ℕ → Wire) → Past → (ℕ → Wire) → Past → Type 0
HasMoved before node old past new since = Moves old new past since ⊎ (length before.pass.log < length node.pass.log)

-- a grant was taken or a ticket allowed, or neither, and nothing else moved
pub record Grants {M : Type 0} (granted : Bool) (before node : Node M) (old : ℕ → Wire) (past : Past) (new : ℕ → Wire) (since : Past) : Type 0 where
  pub moves : granted ≡ true → HasMoved before node old past new since
  pub sent : (w : ℕ) → (new w).sent ≡ (old w).sent
  pub taken : (w : ℕ) → (new w).taken ≡ (old w).taken
  pub finished : (w : ℕ) → (new w).finished ≡ (old w).finished
  pub got : since.got ≡ past.got
  pub stopped : since.stopped ≡ past.stopped
  pub same : granted ≡ false → since ≡ past

-- events were told or none, and nothing moved
pub record Tells (old : ℕ → Wire) (past : Past) (new : ℕ → Wire) (since : Past) : Type 0 where
  pub sent : (w : ℕ) → (new w).sent ≡ (old w).sent
  pub taken : (w : ℕ) → (new w).taken ≡ (old w).taken
  pub finished : (w : ℕ) → (new w).finished ≡ (old w).finished
  pub got : since.got ≡ past.got
  pub allowed : since.allowed ≡ past.allowed
  pub stopped : since.stopped ≡ past.stopped

-- the node is no source, or its source was refused a grant between these moments
abbrev pub IsUngranted : {M : Type 0} → (M → View) → Node M → Node M → Type 0
IsUngranted view before node =
    ((view node.machine).source ≡ None)
    ⊎ ((s : ℕ) × ((view node.machine).source ≡ Some s) × WasChoked before.pass s node.pass)

-- of a node where nothing moved: an output that goes on and holds nothing has all that is due; and where no output holds
-- anything, but one goes on, and the node may take, it is no source, or was refused a grant
pub record Rests {M : Type 0} (view : M → View) (may_take : Bool) (before node : Node M) (world : ℕ → Wire) (past : Past) : Type 0 where
  pub none_due : IsSound view node → (q : ℕ) → q < length node.outs.items → (out_at node.outs.items q).done ≡ false → (out_at node.outs.items q).held ≡ None → (world (out_at node.outs.items q).wire).sent ≡ stream_at (due past) q
  pub ungranted : may_take ≡ true → IsSound view node → NoneHeld node.outs.items → (q : ℕ) → q < length node.outs.items → (out_at node.outs.items q).done ≡ false
      → IsUngranted view before node

-- the node may take nothing and be granted nothing: it was said so, or an item is due
abbrev pub IsHeldBack : {M : Type 0} → (M → View) → Bool → Node M → (ℕ → Wire) → Past → Type 0
IsHeldBack view may_take node world past = (may_take ≡ false) ⊎ ((q : ℕ) × IsDue view node world past q)

-- something moved or the node rests, and nothing was taken, granted or allowed where it was held back
pub record Turns {M : Type 0} (view : M → View) (may_take moved : Bool) (before node : Node M) (old : ℕ → Wire) (past : Past) (new : ℕ → Wire) (since : Past) : Type 0 where
  pub moves : moved ≡ true → HasMoved before node old past new since
  pub takes_nothing : IsHeldBack view may_take before old past → (w : ℕ) → (new w).taken ≡ (old w).taken
  pub allows_nothing : IsHeldBack view may_take before old past → since.allowed ≡ past.allowed
  pub grants_nothing : IsHeldBack view may_take before old past → tickets_in node.pass.log ≡ tickets_in before.pass.log
  pub rests : moved ≡ false → Rests view may_take before node new since

-- a source was granted one ticket more, or none where it was held back, and the machine of a node gave items to hold
pub record Prepares {M : Type 0} (view : M → View) (may_take granted held : Bool) (before node : Node M) (old : ℕ → Wire) (past : Past) (new : ℕ → Wire) (since : Past) : Type 0 where
  pub moves : granted ≡ true → HasMoved before node old past new since
  pub taken : (w : ℕ) → (new w).taken ≡ (old w).taken
  pub allows_nothing : IsHeldBack view may_take before old past → since.allowed ≡ past.allowed
  pub grants_nothing : IsHeldBack view may_take before old past → tickets_in node.pass.log ≡ tickets_in before.pass.log
  pub none_before : IsSound view node → held ≡ false → (q : ℕ) → IsDue view before old past q → ⊥
  pub rests : granted ≡ false → Rests view may_take before node new since
