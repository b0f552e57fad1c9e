-- The outputs of a machine, as they are.
use Rattle.std.specs.Prelude.{◌≡◌, ℕ, zero, suc, ◌+◌, ◌≤◌, Bool, true, false, List, [], ◌∷◌, length, All, Option, None}
use Rattle.std.specs.VecDeque.{deque_len, deque_capacity}
use Rattle.ff_stream.specs.declared.item.Item.{Item}
use Rattle.ff_stream.specs.declared.item.Item.TheVariants.{End, Broken}
use Rattle.ff_filter.specs.declared.after.After.{After}
use Rattle.ff_filter.specs.declared.after.After.TheVariants.{More, Whole, Broke}
use Rattle.ff_node_codec.specs.declared.ready.Ready.{Ready}
use Rattle.ff_node_codec.specs.Spreads.{Line}

abbrev pub line_of : Ready → Line
line_of ready = record { queue = ready.queue.items; stopped = ready.stopped }

-- the output of this number; where there is none, nothing is wanted
abbrev pub line_at : List Ready → ℕ → Line
line_at [] q = record { queue = []; stopped = true }
line_at (r ∷ rs) zero = line_of r
line_at (r ∷ rs) (suc q) = line_at rs q

-- the item that is to be put on it next
abbrev pub next_at : List Ready → ℕ → Option Item
next_at [] q = None
next_at (r ∷ rs) zero = r.next
next_at (r ∷ rs) (suc q) = next_at rs q

-- there is room for an item more, and for one that closes the output behind it
abbrev pub HasRoom : Ready → Type 0
HasRoom ready = deque_len ready.queue + 2 ≤ deque_capacity ready.queue

-- what closes an output that is over
abbrev pub closing_items : After → List Item
closing_items More = []
closing_items Whole = End ∷ []
closing_items Broke = Broken ∷ []

-- what waits on an output before anything comes
abbrev pub first_items : Bool → List Item
first_items true = End ∷ []
first_items false = []

abbrev pub HaveRoom : List Ready → Type 0
HaveRoom outs = All HasRoom outs

-- nothing that can be seen has changed
pub record AreSame (old new : List Ready) : Type 0 where
  pub count : length new ≡ length old
  pub lines : (q : ℕ) → line_at new q ≡ line_at old q
