-- What a letter says of its byte.
use Rattle.std.proofs.Common.{◌≡◌, ℕ, ◌-◌, ◌⊎◌, inl, inr, Bool, true, false, ◌&&◌, nat_le, ◌==◌, if◌then◌else◌, refl, arith}
use Rattle.std.proofs.lemmas.Bool.Decides.{nat_tests}
use Rattle.ff_time.specs.Duration.{IsDigit}
use Rattle.ff_time.specs.Reading.{letter_of}
use Rattle.ff_time.specs.declared.letter.Letter.{Letter}
use Rattle.ff_time.specs.declared.letter.Letter.TheVariants.{Digit, Colon, Point, S, M, U, Other}

abbrev pub IsLetter : ℕ → Letter → Type 0
IsLetter b (Digit d) = IsDigit b × (d ≡ b - 48)
IsLetter b Colon = b ≡ 58
IsLetter b Point = b ≡ 46
IsLetter b S = b ≡ 115
IsLetter b M = b ≡ 109
IsLetter b U = b ≡ 117
IsLetter b Other = ¬ IsDigit b

digit_true : (b : ℕ) → (nat_le 48 b && nat_le b 57) ≡ true → IsDigit b
digit_true b e = grind (arith, nat_tests)

digit_false : (b : ℕ) → (nat_le 48 b && nat_le b 57) ≡ false → ¬ IsDigit b
digit_false b e h = grind (arith, nat_tests)

equal_true : (b c : ℕ) → (b == c) ≡ true → b ≡ c
equal_true b c e = grind (arith, nat_tests)

by_tests : (b : ℕ) (d c p s m u : Bool) → (nat_le 48 b && nat_le b 57) ≡ d → (b == 58) ≡ c → (b == 46) ≡ p → (b == 115) ≡ s → (b == 109) ≡ m → (b == 117) ≡ u → IsLetter b (if d then Digit (b - 48) else (if c then Colon else (if p then Point else (if s then S else (if m then M else (if u then U else Other))))))
by_tests b true c p s m u d_is c_is p_is s_is m_is u_is = (digit_true b d_is, refl)
by_tests b false true p s m u d_is c_is p_is s_is m_is u_is = equal_true b 58 c_is
by_tests b false false true s m u d_is c_is p_is s_is m_is u_is = equal_true b 46 p_is
by_tests b false false false true m u d_is c_is p_is s_is m_is u_is = equal_true b 115 s_is
by_tests b false false false false true u d_is c_is p_is s_is m_is u_is = equal_true b 109 m_is
by_tests b false false false false false true d_is c_is p_is s_is m_is u_is = equal_true b 117 u_is
by_tests b false false false false false false d_is c_is p_is s_is m_is u_is = digit_false b d_is

pub IsLetter-letter_of : (b : ℕ) → IsLetter b (letter_of b)
IsLetter-letter_of b = by_tests b _ _ _ _ _ _ refl refl refl refl refl refl

digit_test : (b : ℕ) → IsDigit b → (nat_le 48 b && nat_le b 57) ≡ true
digit_test b h = grind (arith, nat_tests)

pub letter_of-digit : (b : ℕ) → IsDigit b → letter_of b ≡ Digit (b - 48)
letter_of-digit b h = rw (digit_test b h) refl

by_test : (b : ℕ) (d : Bool) → (nat_le 48 b && nat_le b 57) ≡ d → IsDigit b ⊎ ¬ IsDigit b
by_test b true e = inl (digit_true b e)
by_test b false e = inr (digit_false b e)

pub digit_or : (b : ℕ) → IsDigit b ⊎ ¬ IsDigit b
digit_or b = by_test b (nat_le 48 b && nat_le b 57) refl
