-- Reading a byte, and the end of the text, against what may follow.
use Rattle.std.proofs.Common.{◌≡◌, ℕ, ◌+◌, ◌-◌, ◌*◌, ◌^◌, ◌<◌, ◌≤◌, inl, inr, Bool, true, false, ◌&&◌, Option, IsSomeAnd, nat_lt, nat_le, List, [], ◌∷◌, length, sym, subst, ap, ◌∙◌, refl, arith}
use Rattle.std.proofs.Math.Nat.{le-mul_of_pos_right, mul-one}
use Rattle.std.proofs.lemmas.Bool.Decides.{nat_tests}
use Rattle.ff_time.specs.Duration.{IsDigit, IsUnit, number}
use Rattle.ff_time.specs.Reading.{Exact, IsSound, first, second, third, decimals, scaled, done, value_at, if_some, letter_of, next_of, first_next, second_next, third_next, decimals_next, scaled_next}
use Rattle.ff_time.specs.declared.letter.Letter.{Letter}
use Rattle.ff_time.specs.declared.letter.Letter.TheVariants.{Digit, Colon, Point, S, M, U, Other}
use Rattle.ff_time.proofs.Decimals.{ten_positive}
use Rattle.ff_time.proofs.Letters.{IsLetter, IsLetter-letter_of, letter_of-digit, digit_or}
use Rattle.ff_time.proofs.Runs.{Run, Run-here, Run-other, Run-digit, Run-digit_back}
use Rattle.ff_time.proofs.Tails.{IsUnitOr, AfterDecimals, AfterThird, AfterSecond, may_be_minutes, AfterFirst, Rest}
use Rattle.ff_time.proofs.Derivative.{At, some_if, both_true, le_true, below_true, decimals_in, third_in, second_in, first_in, decimals_refuses, third_refuses, second_refuses, first_refuses}

-- a number only grows
grown : (n len more : ℕ) → n ≤ n * 10 ^ len + more
grown n len more = omega (arith, le-mul_of_pos_right n (ten_positive len))

two_digits : (k n len more : ℕ) → k + 1 + len ≤ 2 → n * 10 ^ len + more ≤ 59 → (nat_lt k 2 && nat_le n 59) ≡ true
two_digits k n len more short small =
    both_true (nat_lt k 2) (nat_le n 59) (below_true k 2 (omega (arith, short))) (le_true n 59 (omega (arith, grown n len more, small)))

-- with a digit, reading goes on as the letter says
digit_moved : (next : Letter → Option Exact) (b : ℕ) (text : List ℕ) (value : ℕ) → IsDigit b → IsSomeAnd (next (Digit (b - 48))) (λ s. Rest s text value) → At next b text value
digit_moved next b text value is h = subst (λ l. IsSomeAnd (next l) (λ s. Rest s text value)) (sym (letter_of-digit b is)) h

second_digit : (f k n b : ℕ) (minutes : Bool) (text : List ℕ) (value : ℕ) → Run (AfterSecond f minutes) (k + 1) (n * 10 + (b - 48)) text value → IsSomeAnd (second_next f minutes k n (Digit (b - 48))) (λ s. Rest s text value)
second_digit f k n b minutes text value h =
    some_if (nat_lt k 2 && nat_le (n * 10 + (b - 48)) 59) (second f minutes (k + 1) (n * 10 + (b - 48))) (λ s. Rest s text value) (two_digits k (n * 10 + (b - 48)) (length h.more) (number h.more) h.then.short h.then.small) h

third_digit : (minutes k n b : ℕ) (text : List ℕ) (value : ℕ) → Run (AfterThird minutes) (k + 1) (n * 10 + (b - 48)) text value → IsSomeAnd (third_next minutes k n (Digit (b - 48))) (λ s. Rest s text value)
third_digit minutes k n b text value h =
    some_if (nat_lt k 2 && nat_le (n * 10 + (b - 48)) 59) (third minutes (k + 1) (n * 10 + (b - 48))) (λ s. Rest s text value) (two_digits k (n * 10 + (b - 48)) (length h.more) (number h.more) h.then.short h.then.small) h

scaled_in : (v b : ℕ) (text : List ℕ) (value : ℕ) → (b ∷ text ≡ 115 ∷ []) × (value ≡ v) → At (scaled_next v) b text value
scaled_in v b text value h =
    let here : b ≡ 115 = cc (h.0) in
    let none : text ≡ [] = cc (h.0) in
    subst (λ x. At (scaled_next v) x text value) (sym here) (none, h.1)

-- what may follow on a byte is what may follow on the state that it leads to
pub Rest-next : (r : Exact) (b : ℕ) (text : List ℕ) (value : ℕ) → Rest r (b ∷ text) value → IsSomeAnd (next_of r (letter_of b)) (λ s. Rest s text value)
Rest-next (first k n) b text value h =
    elim (digit_or b) [
      | inl is ↦ digit_moved (first_next k n) b text value is (Run-digit AfterFirst k n b text value first_refuses is h)
      | inr other ↦ first_in k n b text value (Run-other AfterFirst k n b text value other h)
    ]
Rest-next (second f minutes k n) b text value h =
    elim (digit_or b) [
      | inl is ↦ digit_moved (second_next f minutes k n) b text value is (second_digit f k n b minutes text value (Run-digit (AfterSecond f minutes) k n b text value (second_refuses f minutes) is h))
      | inr other ↦ second_in f k n b minutes text value (Run-other (AfterSecond f minutes) k n b text value other h)
    ]
Rest-next (third minutes k n) b text value h =
    elim (digit_or b) [
      | inl is ↦ digit_moved (third_next minutes k n) b text value is (third_digit minutes k n b text value (Run-digit (AfterThird minutes) k n b text value (third_refuses minutes) is h))
      | inr other ↦ third_in minutes k n b text value (Run-other (AfterThird minutes) k n b text value other h)
    ]
Rest-next (decimals whole units k m) b text value h =
    elim (digit_or b) [
      | inl is ↦ digit_moved (decimals_next whole units k m) b text value is (Run-digit (AfterDecimals whole units) k m b text value (decimals_refuses whole units) is h)
      | inr other ↦ decimals_in whole k m b units text value (Run-other (AfterDecimals whole units) k m b text value other h)
    ]
Rest-next (scaled v) b text value h = scaled_in v b text value h
Rest-next (done v) b text value h = cc (h.0)

-- ---- and back

if_out : (c : Bool) (r : Exact) (P : Exact → Type 0) → IsSomeAnd (if_some c r) P → (c ≡ true) × P r
if_out true r P h = (refl, h)
if_out false r P h = absurd h

pub both_out : (a b : Bool) → (a && b) ≡ true → (a ≡ true) × (b ≡ true)
both_out true b e = (refl, e)
both_out false b e = (e, cc)

pub lt_out : (k n : ℕ) → nat_lt k n ≡ true → k < n
lt_out k n e = grind (arith, nat_tests)

pub le_out : (k n : ℕ) → nat_le k n ≡ true → k ≤ n
le_out k n e = grind (arith, nat_tests)

Ahead : Option Exact → List ℕ → ℕ → Type 0
Ahead o text value = IsSomeAnd o (λ s. Rest s text value)

run_at : (K : ℕ → ℕ → List ℕ → ℕ → Type 0) (k n b c : ℕ) (text : List ℕ) (value : ℕ) → b ≡ c → K k n (c ∷ text) value → Run K k n (b ∷ text) value
run_at K k n b c text value e h = Run-here K k n (b ∷ text) value (subst (λ x. K k n (x ∷ text) value) (sym e) h)

run_digit : (K : ℕ → ℕ → List ℕ → ℕ → Type 0) (k n b d : ℕ) (text : List ℕ) (value : ℕ) → IsDigit b → d ≡ b - 48 → Run K (k + 1) (n * 10 + d) text value → Run K k n (b ∷ text) value
run_digit K k n b d text value is e h = Run-digit_back K k n b text value is (subst (λ x. Run K (k + 1) (n * 10 + x) text value) e h)

with_s : (text : List ℕ) (b : ℕ) → text ≡ 115 ∷ [] → b ∷ text ≡ b ∷ 115 ∷ []
with_s text b e = ap (λ t. b ∷ t) e

with_none : (text : List ℕ) (b : ℕ) → text ≡ [] → b ∷ text ≡ b ∷ []
with_none text b e = ap (λ t. b ∷ t) e

first_back : (k n b : ℕ) (text : List ℕ) (value : ℕ) (l : Letter) → IsLetter b l → Ahead (first_next k n l) text value → Rest (first k n) (b ∷ text) value
unfolding Ahead
first_back k n b text value (Digit d) is h = run_digit AfterFirst k n b d text value is.0 is.1 h
first_back k n b text value Colon is h =
    let out : ((nat_lt 0 k && nat_le k 6) ≡ true) × Rest (second n (may_be_minutes k n) 0 0) text value = if_out (nat_lt 0 k && nat_le k 6) (second n (may_be_minutes k n) 0 0) (λ s. Rest s text value) h in
    let tests : (nat_lt 0 k ≡ true) × (nat_le k 6 ≡ true) = both_out (nat_lt 0 k) (nat_le k 6) out.0 in
    run_at AfterFirst k n b 58 text value is (record { some = lt_out 0 k tests.0; either = inr (record { short = le_out k 6 tests.1; rest = text; spelled = refl; run = out.1 }) })
first_back k n b text value Point is h =
    let out : (nat_lt 0 k ≡ true) × Rest (decimals n true 0 0) text value = if_out (nat_lt 0 k) (decimals n true 0 0) (λ s. Rest s text value) h in
    run_at AfterFirst k n b 46 text value is (record { some = lt_out 0 k out.0; either = inl (inr (record { rest = text; spelled = refl; run = out.1 })) })
first_back k n b text value S is h =
    let out : (nat_lt 0 k ≡ true) × Rest (done (n * 1000000)) text value = if_out (nat_lt 0 k) (done (n * 1000000)) (λ s. Rest s text value) h in
    run_at AfterFirst k n b 115 text value is (record { some = lt_out 0 k out.0; either = inl (inl (record { us = 1000000; unit = inr (inl (with_none text 115 out.1.0, refl)); value_is = out.1.1 })) })
first_back k n b text value M is h =
    let out : (nat_lt 0 k ≡ true) × Rest (scaled (n * 1000)) text value = if_out (nat_lt 0 k) (scaled (n * 1000)) (λ s. Rest s text value) h in
    run_at AfterFirst k n b 109 text value is (record { some = lt_out 0 k out.0; either = inl (inl (record { us = 1000; unit = inr (inr (inl (with_s text 109 out.1.0, refl))); value_is = out.1.1 })) })
first_back k n b text value U is h =
    let out : (nat_lt 0 k ≡ true) × Rest (scaled n) text value = if_out (nat_lt 0 k) (scaled n) (λ s. Rest s text value) h in
    run_at AfterFirst k n b 117 text value is (record { some = lt_out 0 k out.0; either = inl (inl (record { us = 1; unit = inr (inr (inr (with_s text 117 out.1.0, refl))); value_is = out.1.1 ∙ sym (mul-one n) })) })
first_back k n b text value Other is h = absurd h

second_back : (f k n b : ℕ) (minutes : Bool) (text : List ℕ) (value : ℕ) (l : Letter) → k ≤ 2 → n ≤ 59 → IsLetter b l → Ahead (second_next f minutes k n l) text value → Rest (second f minutes k n) (b ∷ text) value
unfolding Ahead
second_back f k n b minutes text value (Digit d) short small is h =
    let out : ((nat_lt k 2 && nat_le (n * 10 + d) 59) ≡ true) × Rest (second f minutes (k + 1) (n * 10 + d)) text value = if_out (nat_lt k 2 && nat_le (n * 10 + d) 59) (second f minutes (k + 1) (n * 10 + d)) (λ s. Rest s text value) h in
    run_digit (AfterSecond f minutes) k n b d text value is.0 is.1 out.1
second_back f k n b minutes text value Colon short small is h =
    let out : (nat_lt 0 k ≡ true) × Rest (third (60 * f + n) 0 0) text value = if_out (nat_lt 0 k) (third (60 * f + n) 0 0) (λ s. Rest s text value) h in
    run_at (AfterSecond f minutes) k n b 58 text value is (record { some = lt_out 0 k out.0; short = short; small = small; either = inr (record { rest = text; spelled = refl; run = out.1 }) })
second_back f k n b minutes text value Point short small is h =
    let out : ((nat_lt 0 k && minutes) ≡ true) × Rest (decimals (60 * f + n) false 0 0) text value = if_out (nat_lt 0 k && minutes) (decimals (60 * f + n) false 0 0) (λ s. Rest s text value) h in
    let tests : (nat_lt 0 k ≡ true) × (minutes ≡ true) = both_out (nat_lt 0 k) minutes out.0 in
    run_at (AfterSecond f minutes) k n b 46 text value is (record { some = lt_out 0 k tests.0; short = short; small = small; either = inl (tests.1, inr (record { rest = text; spelled = refl; run = out.1 })) })
second_back f k n b minutes text value S short small is h = absurd h
second_back f k n b minutes text value M short small is h = absurd h
second_back f k n b minutes text value U short small is h = absurd h
second_back f k n b minutes text value Other short small is h = absurd h

third_back : (minutes k n b : ℕ) (text : List ℕ) (value : ℕ) (l : Letter) → k ≤ 2 → n ≤ 59 → IsLetter b l → Ahead (third_next minutes k n l) text value → Rest (third minutes k n) (b ∷ text) value
unfolding Ahead
third_back minutes k n b text value (Digit d) short small is h =
    let out : ((nat_lt k 2 && nat_le (n * 10 + d) 59) ≡ true) × Rest (third minutes (k + 1) (n * 10 + d)) text value = if_out (nat_lt k 2 && nat_le (n * 10 + d) 59) (third minutes (k + 1) (n * 10 + d)) (λ s. Rest s text value) h in
    run_digit (AfterThird minutes) k n b d text value is.0 is.1 out.1
third_back minutes k n b text value Colon short small is h = absurd h
third_back minutes k n b text value Point short small is h =
    let out : (nat_lt 0 k ≡ true) × Rest (decimals (60 * minutes + n) false 0 0) text value = if_out (nat_lt 0 k) (decimals (60 * minutes + n) false 0 0) (λ s. Rest s text value) h in
    run_at (AfterThird minutes) k n b 46 text value is (record { some = lt_out 0 k out.0; short = short; small = small; whole = inr (record { rest = text; spelled = refl; run = out.1 }) })
third_back minutes k n b text value S short small is h = absurd h
third_back minutes k n b text value M short small is h = absurd h
third_back minutes k n b text value U short small is h = absurd h
third_back minutes k n b text value Other short small is h = absurd h

units_of : (units : Bool) (text : List ℕ) (us : ℕ) → units ≡ true → IsUnit text us → IsUnitOr units text us
units_of units text us on h = subst (λ u. IsUnitOr u text us) (sym on) h

decimals_back : (w k m b : ℕ) (units : Bool) (text : List ℕ) (value : ℕ) (l : Letter) → IsLetter b l → Ahead (decimals_next w units k m l) text value → Rest (decimals w units k m) (b ∷ text) value
unfolding Ahead
decimals_back w k m b units text value (Digit d) is h = run_digit (AfterDecimals w units) k m b d text value is.0 is.1 h
decimals_back w k m b units text value Colon is h = absurd h
decimals_back w k m b units text value Point is h = absurd h
decimals_back w k m b units text value S is h =
    let out : ((nat_lt 0 k && units) ≡ true) × Rest (done (value_at w k m 1000000)) text value = if_out (nat_lt 0 k && units) (done (value_at w k m 1000000)) (λ s. Rest s text value) h in
    let tests : (nat_lt 0 k ≡ true) × (units ≡ true) = both_out (nat_lt 0 k) units out.0 in
    run_at (AfterDecimals w units) k m b 115 text value is (record { some = lt_out 0 k tests.0; us = 1000000; unit = units_of units (115 ∷ text) 1000000 tests.1 (inr (inl (with_none text 115 out.1.0, refl))); value_is = out.1.1 })
decimals_back w k m b units text value M is h =
    let out : ((nat_lt 0 k && units) ≡ true) × Rest (scaled (value_at w k m 1000)) text value = if_out (nat_lt 0 k && units) (scaled (value_at w k m 1000)) (λ s. Rest s text value) h in
    let tests : (nat_lt 0 k ≡ true) × (units ≡ true) = both_out (nat_lt 0 k) units out.0 in
    run_at (AfterDecimals w units) k m b 109 text value is (record { some = lt_out 0 k tests.0; us = 1000; unit = units_of units (109 ∷ text) 1000 tests.1 (inr (inr (inl (with_s text 109 out.1.0, refl)))); value_is = out.1.1 })
decimals_back w k m b units text value U is h =
    let out : ((nat_lt 0 k && units) ≡ true) × Rest (scaled (value_at w k m 1)) text value = if_out (nat_lt 0 k && units) (scaled (value_at w k m 1)) (λ s. Rest s text value) h in
    let tests : (nat_lt 0 k ≡ true) × (units ≡ true) = both_out (nat_lt 0 k) units out.0 in
    run_at (AfterDecimals w units) k m b 117 text value is (record { some = lt_out 0 k tests.0; us = 1; unit = units_of units (117 ∷ text) 1 tests.1 (inr (inr (inr (with_s text 117 out.1.0, refl)))); value_is = out.1.1 })
decimals_back w k m b units text value Other is h = absurd h

scaled_back : (v b : ℕ) (text : List ℕ) (value : ℕ) (l : Letter) → IsLetter b l → Ahead (scaled_next v l) text value → Rest (scaled v) (b ∷ text) value
unfolding Ahead
scaled_back v b text value (Digit d) is h = absurd h
scaled_back v b text value Colon is h = absurd h
scaled_back v b text value Point is h = absurd h
scaled_back v b text value S is h = (ap (λ x. x ∷ text) is ∙ with_none text 115 h.0, h.1)
scaled_back v b text value M is h = absurd h
scaled_back v b text value U is h = absurd h
scaled_back v b text value Other is h = absurd h

pub Rest-back : (r : Exact) (b : ℕ) (text : List ℕ) (value : ℕ) → IsSound r → IsSomeAnd (next_of r (letter_of b)) (λ s. Rest s text value) → Rest r (b ∷ text) value
unfolding Ahead
Rest-back (first k n) b text value sound h = first_back k n b text value (letter_of b) (IsLetter-letter_of b) h
Rest-back (second f minutes k n) b text value sound h = second_back f k n b minutes text value (letter_of b) sound.0 sound.1 (IsLetter-letter_of b) h
Rest-back (third minutes k n) b text value sound h = third_back minutes k n b text value (letter_of b) sound.0 sound.1 (IsLetter-letter_of b) h
Rest-back (decimals whole units k m) b text value sound h = decimals_back whole k m b units text value (letter_of b) (IsLetter-letter_of b) h
Rest-back (scaled v) b text value sound h = scaled_back v b text value (letter_of b) (IsLetter-letter_of b) h
Rest-back (done v) b text value sound h = absurd h
