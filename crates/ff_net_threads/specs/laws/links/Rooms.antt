-- Room for settling links.
use Rattle.std.specs.Prelude.{◌≡◌, ℕ, ◌<◌, [], length, min, slice_index_or, Option, None, vec_capacity}
use Rattle.ff_link.specs.laws.Views.{Sending}
use Rattle.ff_net_threads.specs.declared.links.room.Room.{Room}

-- the machines and passes of so many nodes have room
abbrev pub most_nodes : {M : Type 0} → Room M → ℕ
most_nodes room = min (min (vec_capacity room.machines) (vec_capacity room.faults)) (vec_capacity room.passes)

-- and the links with numbers below this
abbrev pub links_of : {M : Type 0} → Room M → ℕ
links_of room = length room.table.items

-- nothing is in it yet
pub record IsUnused {M : Type 0} (room : Room M) : Type 0 where
  pub no_machine : room.machines.items ≡ []
  pub no_pass : room.passes.items ≡ []
  pub no_fault : room.faults.items ≡ []
  pub no_sender : (w : ℕ) (d : Option Sending) → w < length room.table.items → slice_index_or room.table.items w d ≡ None
