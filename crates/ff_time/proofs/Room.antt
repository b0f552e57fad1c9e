-- Every state has a shortest completion, and reading keeps its states sound.
use Rattle.std.proofs.Common.{◌≡◌, ℕ, zero, suc, ◌+◌, ◌*◌, ◌^◌, ◌<◌, ◌≤◌, ◌⊎◌, inl, inr, Bool, true, false, ◌&&◌, Option, Some, None, IsSomeAnd, IfSome, if◌then◌else◌, nat_lt, nat_le, List, [], ◌∷◌, length, sym, subst, refl, arith}
use Rattle.std.proofs.Math.Nat.{pow-suc}
use Rattle.std.proofs.lemmas.Bool.Decides.{nat_tests}
use Rattle.ff_time.specs.Reading.{Exact, IsSound, first, second, third, decimals, scaled, done, value_at, if_some, value_of, missing_of, next_of, letter_of, first_next, second_next, third_next, decimals_next, scaled_next}
use Rattle.ff_time.specs.declared.letter.Letter.{Letter}
use Rattle.ff_time.specs.declared.letter.Letter.TheVariants.{Digit, Colon, Point, S, M, U, Other}
use Rattle.ff_time.proofs.Letters.{IsLetter, IsLetter-letter_of}
use Rattle.ff_time.proofs.Tails.{Rest, may_be_minutes}
use Rattle.ff_time.proofs.Derivative.{both_true, lt_true}
use Rattle.ff_time.proofs.Steps.{both_out, lt_out, le_out, Rest-next, Rest-back}
use Rattle.ff_time.proofs.Ends.{some_value, Rest-end, Rest-ended}

when : (c : Bool) (r : Exact) (P : Exact → Type 0) → (c ≡ true → P r) → IfSome (if_some c r) P
when true r P h = h refl
when false r P h = tt

-- ---- states stay sound

decimal_more : (k m d : ℕ) → m < 10 ^ k → d < 10 → m * 10 + d < 10 ^ (k + 1)
decimal_more k m d h small =
    let e : k + 1 ≡ suc k = omega arith in
    subst (λ x. m * 10 + d < 10 ^ x) (sym e) (omega (arith, h, small, pow-suc 10 k))

digit_small : (b d : ℕ) → IsLetter b (Digit d) → d < 10
digit_small b d is = omega (arith, is.0.1, is.1)

pair_sound : (k n d : ℕ) → n < 10 ^ k → d < 10 → (nat_lt k 2 && nat_le (n * 10 + d) 59) ≡ true → (k + 1 ≤ 2) × (n * 10 + d ≤ 59) × (n * 10 + d < 10 ^ (k + 1))
pair_sound k n d h small e =
    let tests : (nat_lt k 2 ≡ true) × (nat_le (n * 10 + d) 59 ≡ true) = both_out (nat_lt k 2) (nat_le (n * 10 + d) 59) e in
    let few : k < 2 = lt_out k 2 tests.0 in
    (omega (arith, few), le_out (n * 10 + d) 59 tests.1, decimal_more k n d h small)

none_yet : (0 ≤ 2) × (0 ≤ 59) × (0 < 10 ^ 0)
none_yet = (omega arith, omega arith, omega arith)

first_sound : (k n b : ℕ) (l : Letter) → IsLetter b l → IfSome (first_next k n l) IsSound
first_sound k n b (Digit d) is = tt
first_sound k n b Colon is = when (nat_lt 0 k && nat_le k 6) (second n (may_be_minutes k n) 0 0) IsSound (λ e. none_yet)
first_sound k n b Point is = when (nat_lt 0 k) (decimals n true 0 0) IsSound (λ e. omega arith)
first_sound k n b S is = when (nat_lt 0 k) (done (n * 1000000)) IsSound (λ e. tt)
first_sound k n b M is = when (nat_lt 0 k) (scaled (n * 1000)) IsSound (λ e. tt)
first_sound k n b U is = when (nat_lt 0 k) (scaled n) IsSound (λ e. tt)
first_sound k n b Other is = tt

second_sound : (f k n b : ℕ) (minutes : Bool) (l : Letter) → IsSound (second f minutes k n) → IsLetter b l → IfSome (second_next f minutes k n l) IsSound
second_sound f k n b minutes (Digit d) sound is = when (nat_lt k 2 && nat_le (n * 10 + d) 59) (second f minutes (k + 1) (n * 10 + d)) IsSound (λ e. pair_sound k n d sound.2 (digit_small b d is) e)
second_sound f k n b minutes Colon sound is = when (nat_lt 0 k) (third (60 * f + n) 0 0) IsSound (λ e. none_yet)
second_sound f k n b minutes Point sound is = when (nat_lt 0 k && minutes) (decimals (60 * f + n) false 0 0) IsSound (λ e. omega arith)
second_sound f k n b minutes S sound is = tt
second_sound f k n b minutes M sound is = tt
second_sound f k n b minutes U sound is = tt
second_sound f k n b minutes Other sound is = tt

third_sound : (minutes k n b : ℕ) (l : Letter) → IsSound (third minutes k n) → IsLetter b l → IfSome (third_next minutes k n l) IsSound
third_sound minutes k n b (Digit d) sound is = when (nat_lt k 2 && nat_le (n * 10 + d) 59) (third minutes (k + 1) (n * 10 + d)) IsSound (λ e. pair_sound k n d sound.2 (digit_small b d is) e)
third_sound minutes k n b Colon sound is = tt
third_sound minutes k n b Point sound is = when (nat_lt 0 k) (decimals (60 * minutes + n) false 0 0) IsSound (λ e. omega arith)
third_sound minutes k n b S sound is = tt
third_sound minutes k n b M sound is = tt
third_sound minutes k n b U sound is = tt
third_sound minutes k n b Other sound is = tt

decimals_sound : (w k m b : ℕ) (units : Bool) (l : Letter) → m < 10 ^ k → IsLetter b l → IfSome (decimals_next w units k m l) IsSound
decimals_sound w k m b units (Digit d) sound is = decimal_more k m d sound (digit_small b d is)
decimals_sound w k m b units Colon sound is = tt
decimals_sound w k m b units Point sound is = tt
decimals_sound w k m b units S sound is = when (nat_lt 0 k && units) (done (value_at w k m 1000000)) IsSound (λ e. tt)
decimals_sound w k m b units M sound is = when (nat_lt 0 k && units) (scaled (value_at w k m 1000)) IsSound (λ e. tt)
decimals_sound w k m b units U sound is = when (nat_lt 0 k && units) (scaled (value_at w k m 1)) IsSound (λ e. tt)
decimals_sound w k m b units Other sound is = tt

scaled_sound : (v : ℕ) (l : Letter) → IfSome (scaled_next v l) IsSound
scaled_sound v (Digit d) = tt
scaled_sound v Colon = tt
scaled_sound v Point = tt
scaled_sound v S = tt
scaled_sound v M = tt
scaled_sound v U = tt
scaled_sound v Other = tt

pub IsSound-next : (r : Exact) (b : ℕ) → IsSound r → IfSome (next_of r (letter_of b)) IsSound
IsSound-next (first k n) b sound = first_sound k n b (letter_of b) (IsLetter-letter_of b)
IsSound-next (second f minutes k n) b sound = second_sound f k n b minutes (letter_of b) sound (IsLetter-letter_of b)
IsSound-next (third minutes k n) b sound = third_sound minutes k n b (letter_of b) sound (IsLetter-letter_of b)
IsSound-next (decimals whole units k m) b sound = decimals_sound whole k m b units (letter_of b) sound (IsLetter-letter_of b)
IsSound-next (scaled v) b sound = scaled_sound v (letter_of b)
IsSound-next (done v) b sound = tt

-- ---- no completion is shorter

one_more : (o : Option Exact) (n : ℕ) → n ≤ 1 → IfSome o (λ s. n ≤ 1 + missing_of s)
one_more (Some s) n h = omega (arith, h)
one_more None n h = tt

few : (k : ℕ) → (if nat_lt 0 k then 0 else 1) ≤ 1
few k = grind (arith, nat_tests)

fewer : (k : ℕ) → (if nat_lt 0 k then 2 else 3) ≤ 1 + (if nat_lt 0 (k + 1) then 2 else 3)
fewer k = grind (arith, nat_tests)

hours_missing : (f k n : ℕ) (l : Letter) → IfSome (second_next f false k n l) (λ s. missing_of (second f false k n) ≤ 1 + missing_of s)
hours_missing f k n (Digit d) = when (nat_lt k 2 && nat_le (n * 10 + d) 59) (second f false (k + 1) (n * 10 + d)) (λ s. missing_of (second f false k n) ≤ 1 + missing_of s) (λ e. fewer k)
hours_missing f k n Colon = when (nat_lt 0 k) (third (60 * f + n) 0 0) (λ s. missing_of (second f false k n) ≤ 1 + missing_of s) (λ e. subst (λ b. (if b then 2 else 3) ≤ 2) (sym e) (omega arith))
hours_missing f k n Point = when (nat_lt 0 k && false) (decimals (60 * f + n) false 0 0) (λ s. missing_of (second f false k n) ≤ 1 + missing_of s) (λ e. let off : false ≡ true = (both_out (nat_lt 0 k) false e).1 in cc)
hours_missing f k n S = tt
hours_missing f k n M = tt
hours_missing f k n U = tt
hours_missing f k n Other = tt

second_missing : (f k n : ℕ) (minutes : Bool) (l : Letter) → IfSome (second_next f minutes k n l) (λ s. missing_of (second f minutes k n) ≤ 1 + missing_of s)
second_missing f k n true l = one_more (second_next f true k n l) (missing_of (second f true k n)) (few k)
second_missing f k n false l = hours_missing f k n l

missing_next : (r : Exact) (b : ℕ) → IfSome (next_of r (letter_of b)) (λ s. missing_of r ≤ 1 + missing_of s)
missing_next (first k n) b = one_more (first_next k n (letter_of b)) (missing_of (first k n)) (few k)
missing_next (second f minutes k n) b = second_missing f k n minutes (letter_of b)
missing_next (third minutes k n) b = one_more (third_next minutes k n (letter_of b)) (missing_of (third minutes k n)) (few k)
missing_next (decimals whole units k m) b = one_more (decimals_next whole units k m (letter_of b)) (missing_of (decimals whole units k m)) (few k)
missing_next (scaled v) b = one_more (scaled_next v (letter_of b)) 1 (omega arith)
missing_next (done v) b = tt

none_missing_at : (c : Bool) (x value : ℕ) → IsSomeAnd (if c then Some x else None) (λ y. value ≡ y) → c ≡ true
none_missing_at true x value h = refl
none_missing_at false x value h = absurd h

end_missing : (r : Exact) (value : ℕ) → IsSomeAnd (value_of r) (λ x. value ≡ x) → missing_of r ≤ 0
end_missing (first k n) value h = subst (λ b. (if b then 0 else 1) ≤ 0) (sym (none_missing_at (nat_lt 0 k) (n * 1000000) value h)) (omega arith)
end_missing (second f minutes k n) value h =
    let tests : (nat_lt 0 k ≡ true) × (minutes ≡ true) = both_out (nat_lt 0 k) minutes (none_missing_at (nat_lt 0 k && minutes) ((60 * f + n) * 1000000) value h) in
    subst (λ b. (if b then (if minutes then 0 else 2) else (if minutes then 1 else 3)) ≤ 0) (sym tests.0) (subst (λ b. (if b then 0 else 2) ≤ 0) (sym tests.1) (omega arith))
end_missing (third minutes k n) value h = subst (λ b. (if b then 0 else 1) ≤ 0) (sym (none_missing_at (nat_lt 0 k) ((60 * minutes + n) * 1000000) value h)) (omega arith)
end_missing (decimals whole units k m) value h = subst (λ b. (if b then 0 else 1) ≤ 0) (sym (none_missing_at (nat_lt 0 k) (value_at whole k m 1000000) value h)) (omega arith)
end_missing (scaled v) value h = absurd h
end_missing (done v) value h = omega arith

step_missing : (text : List ℕ) (r : Exact) (value : ℕ) (o : Option Exact) → ((s : Exact) → Rest s text value → missing_of s ≤ length text) → IfSome o (λ s. missing_of r ≤ 1 + missing_of s) → IsSomeAnd o (λ s. Rest s text value) → missing_of r ≤ suc (length text)
step_missing text r value (Some s) rest m h = omega (arith, m, rest s h)
step_missing text r value None rest m h = absurd h

pub Rest-missing : (text : List ℕ) (r : Exact) (value : ℕ) → Rest r text value → missing_of r ≤ length text
Rest-missing [] r value h = end_missing r value (Rest-end r value h)
Rest-missing (b ∷ text) r value h = step_missing text r value (next_of r (letter_of b)) (λ s k. Rest-missing text s value k) (missing_next r b) (Rest-next r b text value h)

-- ---- a shortest completion

pub record Completed (r : Exact) : Type 0 where
  pub text : List ℕ
  pub value : ℕ
  pub rest : Rest r text value
  pub len : length text ≡ missing_of r

ended : (r : Exact) (value : ℕ) → IsSound r → IsSomeAnd (value_of r) (λ x. value ≡ x) → 0 ≡ missing_of r → Completed r
ended r value sound h e = record { text = []; value = value; rest = Rest-ended r value sound h; len = e }

stepped : (r s : Exact) (b : ℕ) → IsSound r → next_of r (letter_of b) ≡ Some s → suc (missing_of s) ≡ missing_of r → Completed s → Completed r
stepped r s b sound e more h =
    record {
      text = b ∷ h.text;
      value = h.value;
      rest = Rest-back r b h.text h.value sound (subst (λ o. IsSomeAnd o (λ x. Rest x h.text h.value)) (sym e) h.rest);
      len = omega (arith, h.len, more);
    }

zero_or : (k : ℕ) → (k ≡ 0) ⊎ (0 < k)
zero_or zero = inl refl
zero_or (suc k) = inr (omega arith)

tested : (c : Bool) (x y : ℕ) → c ≡ true → x ≡ (if c then x else y)
tested c x y e = subst (λ d. x ≡ (if d then x else y)) (sym e) refl

done_completed : (v : ℕ) → Completed (done v)
done_completed v = ended (done v) v tt refl refl

decimals_some : (w k m : ℕ) (units : Bool) → m < 10 ^ k → 0 < k → Completed (decimals w units k m)
decimals_some w k m units sound some =
    ended (decimals w units k m) (value_at w k m 1000000) sound (some_value (nat_lt 0 k) (value_at w k m 1000000) (value_at w k m 1000000) (lt_true k some) refl) (tested (nat_lt 0 k) 0 1 (lt_true k some))

third_some : (minutes k n : ℕ) → IsSound (third minutes k n) → 0 < k → Completed (third minutes k n)
third_some minutes k n sound some =
    ended (third minutes k n) ((60 * minutes + n) * 1000000) sound (some_value (nat_lt 0 k) ((60 * minutes + n) * 1000000) ((60 * minutes + n) * 1000000) (lt_true k some) refl) (tested (nat_lt 0 k) 0 1 (lt_true k some))

first_some : (k n : ℕ) → 0 < k → Completed (first k n)
first_some k n some =
    ended (first k n) (n * 1000000) tt (some_value (nat_lt 0 k) (n * 1000000) (n * 1000000) (lt_true k some) refl) (tested (nat_lt 0 k) 0 1 (lt_true k some))

one_digit : (1 ≤ 2) × (0 ≤ 59) × (0 < 10 ^ 1)
one_digit = (omega arith, omega arith, omega arith)

third_none : (minutes : ℕ) → Completed (third minutes 0 0)
third_none minutes = stepped (third minutes 0 0) (third minutes 1 0) 48 none_yet refl refl (third_some minutes 1 0 one_digit (omega arith))

second_minutes : (f k n : ℕ) → IsSound (second f true k n) → 0 < k → Completed (second f true k n)
second_minutes f k n sound some =
    let on : (nat_lt 0 k && true) ≡ true = both_true (nat_lt 0 k) true (lt_true k some) refl in
    ended (second f true k n) ((60 * f + n) * 1000000) sound (some_value (nat_lt 0 k && true) ((60 * f + n) * 1000000) ((60 * f + n) * 1000000) on refl) (tested (nat_lt 0 k) 0 1 (lt_true k some))

second_hours : (f k n : ℕ) → IsSound (second f false k n) → 0 < k → Completed (second f false k n)
second_hours f k n sound some =
    stepped (second f false k n) (third (60 * f + n) 0 0) 58 sound (subst (λ c. if_some c (third (60 * f + n) 0 0) ≡ Some (third (60 * f + n) 0 0)) (sym (lt_true k some)) refl) (tested (nat_lt 0 k) 2 3 (lt_true k some)) (third_none (60 * f + n))

second_none : (f : ℕ) (minutes : Bool) → Completed (second f minutes 0 0)
second_none f true = stepped (second f true 0 0) (second f true 1 0) 48 none_yet refl refl (second_minutes f 1 0 one_digit (omega arith))
second_none f false = stepped (second f false 0 0) (second f false 1 0) 48 none_yet refl refl (second_hours f 1 0 one_digit (omega arith))

second_some : (f k n : ℕ) (minutes : Bool) → IsSound (second f minutes k n) → 0 < k → Completed (second f minutes k n)
second_some f k n true sound some = second_minutes f k n sound some
second_some f k n false sound some = second_hours f k n sound some

no_number : (k n : ℕ) → k ≡ 0 → n < 10 ^ k → n ≡ 0
no_number k n e h = let below : n < 10 ^ 0 = subst (λ x. n < 10 ^ x) e h in omega (arith, below)

first_none : (n : ℕ) → Completed (first 0 n)
first_none n = stepped (first 0 n) (first 1 (n * 10 + 0)) 48 tt refl refl (first_some 1 (n * 10 + 0) (omega arith))

decimals_none : (w : ℕ) (units : Bool) → Completed (decimals w units 0 0)
decimals_none w units = stepped (decimals w units 0 0) (decimals w units 1 0) 48 (omega arith) refl refl (decimals_some w 1 0 units (omega arith) (omega arith))

pub completed : (r : Exact) → IsSound r → Completed r
completed (first k n) sound = elim (zero_or k) [ inl e ↦ subst (λ x. Completed (first x n)) (sym e) (first_none n) | inr some ↦ first_some k n some ]
completed (second f minutes k n) sound =
    elim (zero_or k) [
      | inl e ↦ subst (λ x. Completed (second f minutes x n)) (sym e) (subst (λ x. Completed (second f minutes 0 x)) (sym (no_number k n e sound.2)) (second_none f minutes))
      | inr some ↦ second_some f k n minutes sound some
    ]
completed (third minutes k n) sound =
    elim (zero_or k) [
      | inl e ↦ subst (λ x. Completed (third minutes x n)) (sym e) (subst (λ x. Completed (third minutes 0 x)) (sym (no_number k n e sound.2)) (third_none minutes))
      | inr some ↦ third_some minutes k n sound some
    ]
completed (decimals whole units k m) sound =
    elim (zero_or k) [
      | inl e ↦ subst (λ x. Completed (decimals whole units x m)) (sym e) (subst (λ x. Completed (decimals whole units 0 x)) (sym (no_number k m e sound)) (decimals_none whole units))
      | inr some ↦ decimals_some whole k m units sound some
    ]
completed (scaled v) sound = stepped (scaled v) (done v) 115 tt refl refl (done_completed v)
completed (done v) sound = done_completed v
