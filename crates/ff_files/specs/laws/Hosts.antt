-- What the calls of a run do to the host that it is given.
use Rattle.std.specs.Prelude.{◌≡◌, ℕ, ◌<◌, ◌≤◌, min, List, length, slice_index_or, Option, IfSome}
use Rattle.ff_host.specs.Causes.{last_count}
use Rattle.ff_files.specs.Names.{Name, name_at}

-- a count that hasn't fallen, but to its last value
abbrev pub IsLater : ℕ → ℕ → Type 0
IsLater before now = min before last_count ≤ now

-- from one moment to a later one: no count of faults falls, and what may be closed still may
pub record Later {H : Type 0} (ins outs : H → List ℕ → ℕ) (opened created : H → List ℕ → Type 0) (old new : H) : Type 0 where
  pub ins_later : (name : List ℕ) → IsLater (ins old name) (ins new name)
  pub outs_later : (name : List ℕ) → IsLater (outs old name) (outs new name)
  pub still_opened : (name : List ℕ) → opened old name → opened new name
  pub still_created : (name : List ℕ) → created old name → created new name

-- the sources, or the sinks, of the first of these names, each under its own, and each that has one may be closed
pub record AreOpen {H E : Type 0} (may : H → List ℕ → Type 0) (named : E → Option (List ℕ)) (host : H) (names : List Name) (ends : List E) : Type 0 where
  pub few : length ends ≤ length names
  pub own : (k : ℕ) (d : E) → k < length ends → named (slice_index_or ends k d) ≡ name_at names k
  pub may_close : (k : ℕ) → k < length ends → IfSome (name_at names k) (may host)
