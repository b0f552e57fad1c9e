-- Marks and small numbers in the bits of a word.
use Rattle.std.specs.Prelude.{ℕ, zero, suc, ◌+◌, ◌*◌, Bool, List, [], ◌∷◌, nat_eq}
use Rattle.std.specs.Int.{bit_at}

-- the k numbers from n on
abbrev pub upto : ℕ → ℕ → List ℕ
upto n zero = []
upto n (suc k) = n ∷ upto (suc n) k

abbrev pub mark_at : ℕ → ℕ → Bool
mark_at word k = nat_eq (bit_at word k) 1

-- the number in the four bits of this place
abbrev pub four_at : ℕ → ℕ → ℕ
four_at word g =
    bit_at word (4 * g) + 2 * bit_at word (4 * g + 1) + 4 * bit_at word (4 * g + 2) + 8 * bit_at word (4 * g + 3)
