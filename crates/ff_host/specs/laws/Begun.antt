-- A source of which some bytes were read already.
use Rattle.std.specs.Prelude.{ℕ, List, drop}

-- the bytes that were not given yet
abbrev pub still_in : List ℕ → ℕ → List ℕ
still_in bytes at = drop at bytes
