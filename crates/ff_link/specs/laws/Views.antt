-- What a contract sees of the ends of a link.
use Rattle.std.specs.Prelude.{◌+◌, ℕ, Bool, Option, None, List, [], min}
use Rattle.atomic_table.specs.Seated.{TableId}
use Rattle.ff_stream.specs.declared.item.Item.{Item}
use Rattle.ff_stream.specs.declared.item.Lane.{Lane}

-- a link is named by its two queues; and whether what is sent over it is claimed to be valid for its lane
pub record Link : Type 0 where
  pub down : TableId
  pub up : TableId
  pub claims : Bool

-- the end that sends: all that it sent, and the count that the receiver sent up, once it was found
pub record Sending : Type 0 where
  pub link : Link
  pub lane : Lane
  pub room : ℕ
  pub sent : List Item
  pub told : Option ℕ
  pub full_looks : ℕ
  pub up_looks : ℕ

-- the end that takes: all that it took
pub record Receiving : Type 0 where
  pub link : Link
  pub lane : Lane
  pub room : ℕ
  pub taken : List Item
  pub empty_looks : ℕ

-- a receiver that has finished: all that it took
pub record Ended : Type 0 where
  pub link : Link
  pub lane : Lane
  pub room : ℕ
  pub taken : List Item

-- the sender of a new link
abbrev pub new_sender : Link → Lane → ℕ → Sending
new_sender link lane room = record { link = link; lane = lane; room = room; sent = []; told = None; full_looks = 0; up_looks = 0 }

-- the receiver of a new link
abbrev pub new_receiver : Link → Lane → ℕ → Receiving
new_receiver link lane room = record { link = link; lane = lane; room = room; taken = []; empty_looks = 0 }

-- the receiver, after its last take
abbrev pub ended : Receiving → Ended
ended r = record { link = r.link; lane = r.lane; room = r.room; taken = r.taken }

-- a count of looks after one more, which stays at its last value
abbrev pub after_look : ℕ → ℕ
after_look n = min (n + 1) 18446744073709551615
