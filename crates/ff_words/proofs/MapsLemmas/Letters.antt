-- What a letter of a map says of its byte.
use Rattle.std.proofs.Common.{◌≡◌, ℕ, ◌-◌, Bool, true, false, ◌&&◌, nat_le, ◌==◌, if◌then◌else◌, refl, arith}
use Rattle.std.proofs.lemmas.Bool.Decides.{nat_tests}
use Rattle.ff_time.specs.Duration.{IsDigit}
use Rattle.ff_words.specs.maps.Reading.{letter_of}
use Rattle.ff_words.specs.declared.maps.letter.Letter.{Letter}
use Rattle.ff_words.specs.declared.maps.letter.Letter.TheVariants.{Digit, Colon, Question, A, V, Bracket, Other}

abbrev pub IsLetter : ℕ → Letter → Type 0
IsLetter b (Digit d) = IsDigit b × (d ≡ b - 48)
IsLetter b Colon = b ≡ 58
IsLetter b Question = b ≡ 63
IsLetter b A = b ≡ 97
IsLetter b V = b ≡ 118
IsLetter b Bracket = b ≡ 91
IsLetter b Other = Unit {0}

digit_true : (b : ℕ) → (nat_le 48 b && nat_le b 57) ≡ true → IsDigit b
digit_true b e = grind (arith, nat_tests)

equal_true : (b c : ℕ) → (b == c) ≡ true → b ≡ c
equal_true b c e = grind (arith, nat_tests)

by_tests : (b : ℕ) (d c q a v o : Bool) → (nat_le 48 b && nat_le b 57) ≡ d → (b == 58) ≡ c → (b == 63) ≡ q → (b == 97) ≡ a → (b == 118) ≡ v → (b == 91) ≡ o
    → IsLetter b (if d then Digit (b - 48) else (if c then Colon else (if q then Question else (if a then A else (if v then V else (if o then Bracket else Other))))))
by_tests b true c q a v o d_is c_is q_is a_is v_is o_is = (digit_true b d_is, refl)
by_tests b false true q a v o d_is c_is q_is a_is v_is o_is = equal_true b 58 c_is
by_tests b false false true a v o d_is c_is q_is a_is v_is o_is = equal_true b 63 q_is
by_tests b false false false true v o d_is c_is q_is a_is v_is o_is = equal_true b 97 a_is
by_tests b false false false false true o d_is c_is q_is a_is v_is o_is = equal_true b 118 v_is
by_tests b false false false false false true d_is c_is q_is a_is v_is o_is = equal_true b 91 o_is
by_tests b false false false false false false d_is c_is q_is a_is v_is o_is = tt

pub letter-is : (b : ℕ) → IsLetter b (letter_of b)
letter-is b = by_tests b _ _ _ _ _ _ refl refl refl refl refl refl

digit_test : (b : ℕ) → IsDigit b → (nat_le 48 b && nat_le b 57) ≡ true
digit_test b h = grind (arith, nat_tests)

pub letter-digit : (b : ℕ) → IsDigit b → letter_of b ≡ Digit (b - 48)
letter-digit b h = rw (digit_test b h) refl
