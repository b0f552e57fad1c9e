-- What a source with no input and one output can't be.
use Rattle.std.specs.Prelude.{◌≡◌, ℕ, ◌<◌, Bool, true, false, None, Some}
use Rattle.std.proofs.Common.{arith}

-- there is no input
pub no_input : {P : Type 0} (p : ℕ) → p < 0 → P
no_input p lt = absurd (omega arith)

-- it is a source
pub is_some_source : {P : Type 0} (n : ℕ) → Some n ≡ None → P
is_some_source n e = cc

-- it doesn't hold a ticket where it holds none
pub holds_none : (ticket : Bool) → ticket ≡ true → ticket ≡ false → ⊥
holds_none ticket t f = cc
