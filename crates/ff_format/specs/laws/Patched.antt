-- Bytes in the place of as many.
use Rattle.std.proofs.Common.{◌≡◌, ℕ, ◌+◌, List, [], ◌∷◌, ◌++◌, drop, length, refl, ap, arith}
use Rattle.ff_host.specs.Files.{patched}

pub behind : (xs ys : List ℕ) (n : ℕ) → n ≡ length xs → drop n (xs ++ ys) ≡ ys
behind [] ys n e = rw e refl
behind (x ∷ xs) ys n e = rw e (behind xs ys (length xs) refl)

-- at the beginning
pub at_front : (old new rest : List ℕ) → length new ≡ length old → patched (old ++ rest) 0 new ≡ new ++ rest
at_front old new rest e = ap (λ xs. new ++ xs) (behind old rest (0 + length new) (omega (arith, e)))
