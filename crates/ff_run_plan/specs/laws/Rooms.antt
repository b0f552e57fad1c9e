-- Room for a run.
use Rattle.std.specs.Prelude.{◌≡◌, ℕ, ◌≤◌, [], vec_capacity}
use Rattle.std.specs.declared.alloc.Global.{Global}
use Rattle.std.specs.declared.vec.Vec.{Vec}
use Rattle.ff_run_plan.specs.declared.run.Room.{Room}

abbrev pub IsEmptyFor : {A : Type 0} → ℕ → Vec A Global → Type 0
IsEmptyFor count v = (v.items ≡ []) × (count ≤ vec_capacity v)

-- empty, with room for so many parts, sources and sinks
pub record HasRoom {P S K : Type 0} (parts srcs snks : ℕ) (room : Room P S K) : Type 0 where
  pub for_parts : IsEmptyFor parts room.parts
  pub for_src_places : IsEmptyFor srcs room.src_places
  pub for_snk_places : IsEmptyFor snks room.snk_places
  pub for_srcs : IsEmptyFor srcs room.srcs
  pub for_snks : IsEmptyFor snks room.snks
