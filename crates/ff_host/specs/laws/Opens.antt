-- How many of the sources, or of the sinks, that a host opened were not given back.
use Rattle.std.specs.Prelude.{◌≡◌, ℕ, ◌+◌, Result, OnOk, OnErr}

-- opening makes it one more, and a refusal leaves it
pub record CountsOpening {T E : Type 0} (before now : ℕ) (result : Result T E) : Type 0 where
  pub ok : OnOk result (now ≡ before + 1)
  pub err : OnErr result (now ≡ before)
