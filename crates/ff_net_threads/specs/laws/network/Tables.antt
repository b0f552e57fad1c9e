-- The ends of new links, by the numbers of the edges.
use Rattle.std.specs.Prelude.{◌≡◌, ℕ, ◌<◌, Bool, false, List, [], length, slice_index_or, Option, Some, None}
use Rattle.atomic_table.specs.Seated.{TableId}
use Rattle.ff_stream.specs.declared.item.Lane.{Lane}
use Rattle.ff_stream.specs.declared.edges.edge.Edge.{Edge}
use Rattle.ff_link.specs.laws.Views.{Link, Sending, Receiving, new_sender, new_receiver}
use Rattle.ff_net.specs.Pasts.{IsIn}
use Rattle.ff_net.specs.Ways.{lane_at}

-- the two ends of a new link
pub record AreEnds (claims : Bool) (size : ℕ) (lane : Lane) (s : Option Sending) (r : Option Receiving) : Type 0 where
  pub link : Link
  pub claims_are : link.claims ≡ claims
  pub sender : s ≡ Some (new_sender link lane size)
  pub receiver : r ≡ Some (new_receiver link lane size)

-- for each edge both ends of a link for its lane
pub record AreTables (claims : Bool) (size : ℕ) (edges : List Edge) (senders : List (Option Sending)) (receivers : List (Option Receiving)) : Type 0 where
  pub as_many_senders : length senders ≡ length edges
  pub as_many_receivers : length receivers ≡ length edges
  pub each : (w : ℕ) (d : Edge) (e : Option Sending) (f : Option Receiving) → w < length edges → AreEnds claims size (slice_index_or edges w d).lane (slice_index_or senders w e) (slice_index_or receivers w f)

-- what is known of new links: whether they claim, how many items each takes, and by number which it is, and for which lane
pub record NewLinks : Type 0 where
  pub claims : Bool
  pub size : ℕ
  pub link : ℕ → Link
  pub lanes : List Lane

abbrev pub no_table : TableId
no_table = record { words = 0; slots = 0; views_name = 0; atom = 0; block = 0; offset = 0; slot_names = [] }

-- the link of a sender, where one is there
abbrev pub link_of : Option Sending → Link
link_of None = record { down = no_table; up = no_table; claims = false }
link_of (Some s) = s.link

-- the links of a table of senders
abbrev pub links_in : List (Option Sending) → ℕ → Link
links_in senders w = link_of (slice_index_or senders w None)

-- the sender of the new link of this number stands at it
pub record HasNewSender (new : NewLinks) (senders : List (Option Sending)) (w : ℕ) : Type 0 where
  pub there : w < length senders
  pub lane : Lane
  pub lane_is : lane_at new.lanes w ≡ Some lane
  pub claims_are : (new.link w).claims ≡ new.claims
  pub is : (d : Option Sending) → slice_index_or senders w d ≡ Some (new_sender (new.link w) lane new.size)

-- its receiver does
pub record HasNewReceiver (new : NewLinks) (receivers : List (Option Receiving)) (w : ℕ) : Type 0 where
  pub there : w < length receivers
  pub lane : Lane
  pub lane_is : lane_at new.lanes w ≡ Some lane
  pub claims_are : (new.link w).claims ≡ new.claims
  pub is : (d : Option Receiving) → slice_index_or receivers w d ≡ Some (new_receiver (new.link w) lane new.size)

-- and so at each of these numbers
abbrev pub HaveNewSenders : NewLinks → List (Option Sending) → List ℕ → Type 0
HaveNewSenders new senders ws = (w : ℕ) → IsIn w ws → HasNewSender new senders w

abbrev pub HaveNewReceivers : NewLinks → List (Option Receiving) → List ℕ → Type 0
HaveNewReceivers new receivers ws = (w : ℕ) → IsIn w ws → HasNewReceiver new receivers w
