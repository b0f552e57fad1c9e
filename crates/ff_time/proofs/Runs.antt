-- Runs of digits at the front of a text, and what a byte leaves of them.
use Rattle.std.proofs.Common.{◌≡◌, ℕ, suc, ◌+◌, ◌-◌, ◌*◌, ◌^◌, List, [], ◌∷◌, ◌++◌, length, sym, subst, ap, ◌∙◌, refl, arith}
use Rattle.std.specs.List.{AllByRecursion}
use Rattle.std.proofs.Math.Nat.{add-mul, mul_assoc, mul_comm, pow-suc, zero-mul}
use Rattle.ff_time.specs.Duration.{IsDigit, number}

-- What goes on with k digits of a number that are worth n: more digits, and then what K says of the count, the number and the rest.
pub record Run (K : ℕ → ℕ → List ℕ → ℕ → Type 0) (k n : ℕ) (text : List ℕ) (value : ℕ) : Type 0 where
  pub more : List ℕ
  pub rest : List ℕ
  pub spelled : text ≡ more ++ rest
  pub digits : AllByRecursion IsDigit more
  pub then : K (k + length more) (n * 10 ^ length more + number more) rest value

-- K doesn't begin with a digit
abbrev pub Refuses : (ℕ → ℕ → List ℕ → ℕ → Type 0) → Type 0
Refuses K = (k n b : ℕ) (text : List ℕ) (value : ℕ) → IsDigit b → ¬ K k n (b ∷ text) value

at_same : (K : ℕ → ℕ → List ℕ → ℕ → Type 0) (k j n m : ℕ) (text : List ℕ) (value : ℕ) → k ≡ j → n ≡ m → K k n text value → K j m text value
at_same K k j n m text value p q h = subst (λ x. K x m text value) p (subst (λ x. K k x text value) q h)

pub Run-here : (K : ℕ → ℕ → List ℕ → ℕ → Type 0) (k n : ℕ) (text : List ℕ) (value : ℕ) → K k n text value → Run K k n text value
Run-here K k n text value h =
    record { more = []; rest = text; spelled = refl; digits = tt; then = at_same K k (k + 0) n (n * 10 ^ 0 + 0) text value (omega arith) (omega arith) h }

here_at : (K : ℕ → ℕ → List ℕ → ℕ → Type 0) (k n : ℕ) (text rest : List ℕ) (value : ℕ) → text ≡ rest → K (k + 0) (n * 10 ^ 0 + 0) rest value → K k n text value
here_at K k n text rest value e h = subst (λ t. K k n t value) (sym e) (at_same K (k + 0) k (n * 10 ^ 0 + 0) n rest value (omega arith) (omega arith) h)

end_at : (K : ℕ → ℕ → List ℕ → ℕ → Type 0) (k n value : ℕ) (more rest : List ℕ) → [] ≡ more ++ rest → K (k + length more) (n * 10 ^ length more + number more) rest value → K k n [] value
end_at K k n value [] rest e h = here_at K k n [] rest value e h
end_at K k n value (x ∷ more) rest e h = cc

-- the text ends
pub Run-end : (K : ℕ → ℕ → List ℕ → ℕ → Type 0) (k n value : ℕ) → Run K k n [] value → K k n [] value
Run-end K k n value h = end_at K k n value h.more h.rest h.spelled h.then

other_at : (K : ℕ → ℕ → List ℕ → ℕ → Type 0) (k n b : ℕ) (text : List ℕ) (value : ℕ) (more rest : List ℕ) → ¬ IsDigit b → b ∷ text ≡ more ++ rest → AllByRecursion IsDigit more → K (k + length more) (n * 10 ^ length more + number more) rest value → K k n (b ∷ text) value
other_at K k n b text value [] rest other e ds h = here_at K k n (b ∷ text) rest value e h
other_at K k n b text value (x ∷ more) rest other e ds h = let same : x ≡ b = cc in absurd (other (subst IsDigit same ds.0))

-- what follows is no digit
pub Run-other : (K : ℕ → ℕ → List ℕ → ℕ → Type 0) (k n b : ℕ) (text : List ℕ) (value : ℕ) → ¬ IsDigit b → Run K k n (b ∷ text) value → K k n (b ∷ text) value
Run-other K k n b text value other h = other_at K k n b text value h.more h.rest other h.spelled h.digits h.then

-- a digit in front of others
shifted : (n d p : ℕ) → n * (p * 10) + d * p ≡ (n * 10 + d) * p
shifted n d p = omega (arith, add-mul (n * 10) d p, mul_assoc n 10 p, ap (λ x. n * x) (mul_comm p 10))

number_on : (n d len : ℕ) (more : List ℕ) → n * 10 ^ suc len + (d * 10 ^ len + number more) ≡ (n * 10 + d) * 10 ^ len + number more
number_on n d len more = omega (arith, shifted n d (10 ^ len), ap (λ x. n * x) (pow-suc 10 len))

digit_at : (K : ℕ → ℕ → List ℕ → ℕ → Type 0) (k n b : ℕ) (text : List ℕ) (value : ℕ) (more rest : List ℕ) → Refuses K → IsDigit b → b ∷ text ≡ more ++ rest → AllByRecursion IsDigit more → K (k + length more) (n * 10 ^ length more + number more) rest value → Run K (k + 1) (n * 10 + (b - 48)) text value
digit_at K k n b text value [] rest refuses is e ds h = absurd (refuses k n b text value is (here_at K k n (b ∷ text) rest value e h))
digit_at K k n b text value (x ∷ more) rest refuses is e ds h =
    let same : x ≡ b = cc in
    let tail : text ≡ more ++ rest = cc in
    let count : k + suc (length more) ≡ k + 1 + length more = omega arith in
    let worth : n * 10 ^ suc (length more) + ((x - 48) * 10 ^ length more + number more) ≡ (n * 10 + (b - 48)) * 10 ^ length more + number more = number_on n (x - 48) (length more) more ∙ ap (λ y. (n * 10 + (y - 48)) * 10 ^ length more + number more) same in
    record { more = more; rest = rest; spelled = tail; digits = ds.1; then = at_same K (k + suc (length more)) (k + 1 + length more) _ _ rest value count worth h }

-- a digit follows
pub Run-digit : (K : ℕ → ℕ → List ℕ → ℕ → Type 0) (k n b : ℕ) (text : List ℕ) (value : ℕ) → Refuses K → IsDigit b → Run K k n (b ∷ text) value → Run K (k + 1) (n * 10 + (b - 48)) text value
Run-digit K k n b text value refuses is h = digit_at K k n b text value h.more h.rest refuses is h.spelled h.digits h.then

pub Run-digit_back : (K : ℕ → ℕ → List ℕ → ℕ → Type 0) (k n b : ℕ) (text : List ℕ) (value : ℕ) → IsDigit b → Run K (k + 1) (n * 10 + (b - 48)) text value → Run K k n (b ∷ text) value
Run-digit_back K k n b text value is h =
    let count : k + 1 + length h.more ≡ k + suc (length h.more) = omega arith in
    record { more = b ∷ h.more; rest = h.rest; spelled = ap (λ t. b ∷ t) h.spelled; digits = (is, h.digits); then = at_same K (k + 1 + length h.more) (k + suc (length h.more)) _ _ h.rest value count (sym (number_on n (b - 48) (length h.more) h.more)) h.then }

-- from the first digit on
pub Run-from_start : (K : ℕ → ℕ → List ℕ → ℕ → Type 0) (text more rest : List ℕ) (value : ℕ) → text ≡ more ++ rest → AllByRecursion IsDigit more → K (length more) (number more) rest value → Run K 0 0 text value
Run-from_start K text more rest value e ds h =
    record { more = more; rest = rest; spelled = e; digits = ds; then = at_same K (length more) (0 + length more) (number more) (0 * 10 ^ length more + number more) rest value (omega arith) (omega (arith, zero-mul (10 ^ length more))) h }

pub Run-started : (K : ℕ → ℕ → List ℕ → ℕ → Type 0) (text : List ℕ) (value : ℕ) (h : Run K 0 0 text value) → K (length h.more) (number h.more) h.rest value
Run-started K text value h =
    at_same K (0 + length h.more) (length h.more) (0 * 10 ^ length h.more + number h.more) (number h.more) h.rest value (omega arith) (omega (arith, zero-mul (10 ^ length h.more))) h.then
