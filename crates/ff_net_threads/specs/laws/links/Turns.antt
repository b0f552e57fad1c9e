-- What a turn of a node does at its links.
use Rattle.std.specs.Prelude.{◌≡◌, ◌≢◌, ◌^◌, ℕ, ◌<◌, ◌⊎◌, Bool, true, false, List, [], ◌∷◌, ◌++◌, length, slice_index_or, Some, None, is_some}
use Rattle.ff_stream.specs.declared.item.Item.{Item}
use Rattle.ff_stream.specs.Items.{Closes}
use Rattle.ff_link.specs.laws.Answers.{after_put, after_take, SawEmpty, SawFull}
use Rattle.ff_link.specs.laws.Views.{Receiving}
use Rattle.ff_link.specs.declared.answers.Put.TheVariants.{Full}
use Rattle.ff_link.specs.declared.answers.Take.TheVariants.{Empty}
use Rattle.ff_net.specs.laws.Nodes.{IsDone, pass_of}
use Rattle.ff_net.specs.laws.Steps.{Moves, Stepped}
use Rattle.ff_net.specs.laws.Turns.{HasDue, IsIdle}
use Rattle.ff_net.specs.laws.Worlds.{IsEmpty}
use Rattle.ff_net.specs.declared.node.Node.{Node}
use Rattle.ff_net.specs.declared.wires.Wires.{Wires}
use Rattle.ff_net.specs.laws.Views.{View}
use Rattle.ff_net_threads.specs.declared.links.ends.InEnd.{InEnd}
use Rattle.ff_net_threads.specs.declared.links.ends.OutEnd.{OutEnd}
use Rattle.ff_net_threads.specs.declared.links.linked.Linked.{Linked}
use Rattle.ff_net_threads.specs.laws.links.Ends.{taken_of, in_end_at}
use Rattle.ff_net_threads.specs.laws.links.Nodes.{node_of, wires_on, ins_of, outs_of}

-- the same items, or one more
abbrev pub HasOneMoreAtMost : List Item → List Item → Type 0
HasOneMoreAtMost old new = (new ≡ old) ⊎ ((x : Item) × (new ≡ old ++ x ∷ []))

-- at an end that takes at most one item more was taken; and once it has finished its link, it stays so and nothing more is
pub record TakesOneAtMost (old new : InEnd) : Type 0 where
  pub more : HasOneMoreAtMost (taken_of old) (taken_of new)
  pub ended : old.taking ≡ None → (new.taking ≡ None) × (taken_of new ≡ taken_of old)

-- an item was taken, the link was finished, or the item that was held was laid on the wire
pub data InMoves (old new : InEnd) : Type 0 where
  took : taken_of new ≢ taken_of old → InMoves old new
  ended : is_some old.taking ≡ true → new.taking ≡ None → InMoves old new
  laid : is_some old.held ≡ true → new.held ≡ None → InMoves old new

-- nothing moved at an end that takes
pub record InRests (old new : InEnd) : Type 0 where
  pub taken : taken_of new ≡ taken_of old
  pub going : is_some new.taking ≡ is_some old.taking
  pub held : new.held ≡ old.held

-- a look at the link found no item
abbrev pub FoundEmpty : InEnd → InEnd → Type 0
FoundEmpty old new = (r : Receiving) × (old.taking ≡ Some r) × (new.taking ≡ Some (after_take r Empty)) × SawEmpty r Empty

-- why an end took nothing: its link is finished, an item lies on its wire, or it holds nothing and its link was found empty
pub data CannotTake (wires : Wires) (old new : InEnd) : Type 0 where
  link_shut : new.taking ≡ None → CannotTake wires old new
  lying : (IsEmpty wires old.wire → ⊥) → CannotTake wires old new
  found_empty : new.held ≡ None → FoundEmpty old new → CannotTake wires old new

-- from one moment to a later one an end that takes takes nothing, and finishes its link or goes on
pub record Shuts (old new : InEnd) : Type 0 where
  pub wire : new.wire ≡ old.wire
  pub taken : taken_of new ≡ taken_of old
  pub held : new.held ≡ old.held
  pub ended : old.taking ≡ None → new.taking ≡ None

-- at an end that sends at most one item more was sent; and once it sent a closing item, or was told that the receiver has
-- finished, it is done, stays so and sends nothing more
pub record SendsOneAtMost (old new : OutEnd) : Type 0 where
  pub more : HasOneMoreAtMost old.sender.sent new.sender.sent
  pub closes : (x : Item) → Closes x → new.sender.sent ≡ old.sender.sent ++ x ∷ [] → new.done ≡ true
  pub ended : old.done ≡ true → (new.done ≡ true) × (new.sender.sent ≡ old.sender.sent)

-- an item was sent, the end was told that the receiver has finished, or it lifted an item from the wire to hold
pub data OutMoves (old new : OutEnd) : Type 0 where
  sent : new.sender.sent ≢ old.sender.sent → OutMoves old new
  ended : old.done ≡ false → new.done ≡ true → OutMoves old new
  lifted : old.held ≡ None → is_some new.held ≡ true → OutMoves old new

-- nothing moved at an end that sends
pub record OutRests (old new : OutEnd) : Type 0 where
  pub sent : new.sender.sent ≡ old.sender.sent
  pub done : new.done ≡ old.done
  pub held : new.held ≡ old.held

-- a look at the link found no room for the item that is held
abbrev pub FoundFull : OutEnd → OutEnd → Type 0
FoundFull old new = (x : Item) × (new.held ≡ Some x) × (new.sender ≡ after_put old.sender x (Full x)) × SawFull old.sender (Full x)

-- why an end sent nothing: it is done, has nothing to send, or holds an item and its link was found full; or it has sent all that a
-- link may carry
pub data CannotSend (wires : Wires) (old new : OutEnd) : Type 0 where
  over : new.done ≡ true → CannotSend wires old new
  nothing : new.held ≡ None → IsEmpty wires old.wire → CannotSend wires old new
  found_full : FoundFull old new → CannotSend wires old new
  spent : 2 ^ 40 < length new.sender.sent → CannotSend wires old new

-- an item lies between the node and its link: the end that sends holds it, or it lies on the wire
abbrev pub IsWaiting : Wires → OutEnd → Type 0
IsWaiting wires end = (end.done ≡ false) × ((is_some end.held ≡ true) ⊎ (IsEmpty wires end.wire → ⊥))

module _ {M : Type 0} (view : M → View) (old new : Linked M) where
  -- something moved: at an end, or at the node, which has become done, was granted or told something, or has moved whatever was
  -- behind it and its wires
  pub data HasMoved : Type 0 where
    at_input : (p : ℕ) → InMoves (in_end_at (ins_of old) p) (in_end_at (ins_of new) p) → HasMoved
    at_output : (q : ℕ) → ((d : OutEnd) → OutMoves (slice_index_or (outs_of old) q d) (slice_index_or (outs_of new) q d)) → HasMoved
    at_node : (wires : Wires) → Stepped view (λ a p b q. Moves a b p q) (node_of old) (wires_on old) (node_of new) wires → HasMoved
    at_end : (IsDone (node_of old) → ⊥) → IsDone (node_of new) → HasMoved
    at_pass : length (pass_of (node_of old)).log < length (pass_of (node_of new)).log → HasMoved

  -- why nothing was taken where no item waits at an output: one is due at the node, whose machine has given what it has, or no
  -- end could take
  pub data HasDrawnNone : Type 0 where
    due : (node : Node M) → Stepped view (λ a p b q. Unit {0}) (node_of old) (wires_on old) node (wires_on old) → HasDue view node → HasDrawnNone
    cannot : ((p : ℕ) → p < length (ins_of old) → CannotTake (wires_on old) (in_end_at (ins_of old) p) (in_end_at (ins_of new) p)) → HasDrawnNone

  -- nothing moved at any end: none could send, and none could take, or an item waits at an output; and the node, which may take
  -- only where none waits, is idle, whatever is behind it and its wires, or had been done
  pub record HasRested : Type 0 where
    pub ins : (p : ℕ) → InRests (in_end_at (ins_of old) p) (in_end_at (ins_of new) p)
    pub outs : (q : ℕ) (d : OutEnd) → OutRests (slice_index_or (outs_of old) q d) (slice_index_or (outs_of new) q d)
    pub unsent : (q : ℕ) (d : OutEnd) → q < length (outs_of old) → CannotSend (wires_on new) (slice_index_or (outs_of old) q d) (slice_index_or (outs_of new) q d)
    pub may_take : Bool
    pub waits : may_take ≡ false → (q : ℕ) × (q < length (outs_of old)) × ((d : OutEnd) → IsWaiting (wires_on old) (slice_index_or (outs_of old) q d))
    pub untaken : may_take ≡ true → HasDrawnNone
    pub node : Stepped view (λ a p b q. IsIdle view may_take (node_of old) (node_of new) (wires_on new) b q)
        (node_of old) (wires_on old) (node_of new) (wires_on new)
        ⊎ IsDone (node_of old)
