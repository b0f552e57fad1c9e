-- The exact reader goes on by a byte exactly as what may follow does.
use Rattle.std.proofs.Common.{◌≡◌, ℕ, ◌+◌, ◌*◌, ◌<◌, ◌≤◌, ◌⊎◌, inl, inr, Bool, true, false, ◌&&◌, Option, IsSomeAnd, nat_lt, nat_le, List, ◌∷◌, sym, subst, ◌∙◌, arith}
use Rattle.std.proofs.Math.Nat.{mul-one}
use Rattle.std.proofs.lemmas.Bool.Decides.{nat_tests}
use Rattle.ff_time.specs.Duration.{IsDigit}
use Rattle.ff_time.specs.Reading.{Exact, second, third, decimals, scaled, done, value_at, if_some, letter_of, first_next, second_next, third_next, decimals_next}
use Rattle.ff_time.specs.declared.letter.Letter.{Letter}
use Rattle.ff_time.proofs.Runs.{Run, Refuses}
use Rattle.ff_time.proofs.Tails.{AfterDecimals, AfterWhole, AfterThird, AtSeconds, AfterSecond, may_be_minutes, AtMinutes, AfterFirst, Rest, UnitBytes, unit_bytes}

pub some_if : (c : Bool) (r : Exact) (P : Exact → Type 0) → c ≡ true → P r → IsSomeAnd (if_some c r) P
some_if c r P e h = subst (λ x. IsSomeAnd (if_some x r) P) (sym e) h

pub both_true : (a b : Bool) → a ≡ true → b ≡ true → (a && b) ≡ true
both_true a b p q = grind (arith, nat_tests)

pub lt_true : (k : ℕ) → 0 < k → nat_lt 0 k ≡ true
lt_true k h = grind (arith, nat_tests)

pub le_true : (k n : ℕ) → k ≤ n → nat_le k n ≡ true
le_true k n h = grind (arith, nat_tests)

pub below_true : (k n : ℕ) → k < n → nat_lt k n ≡ true
below_true k n h = grind (arith, nat_tests)

-- the letter that a byte is
abbrev pub At : (Letter → Option Exact) → ℕ → List ℕ → ℕ → Type 0
At next b text value = IsSomeAnd (next (letter_of b)) (λ s. Rest s text value)

moved : (next : Letter → Option Exact) (b c : ℕ) (text : List ℕ) (value : ℕ) → b ≡ c → At next c text value → At next b text value
moved next b c text value e h = subst (λ x. At next x text value) (sym e) h

rest_moved : (r : Exact) (text rest : List ℕ) (value : ℕ) → text ≡ rest → Rest r rest value → Rest r text value
rest_moved r text rest value e h = subst (λ x. Rest r x value) (sym e) h

-- ---- what the byte leaves: decimals

decimals_units : (w k m b : ℕ) (units : Bool) (text : List ℕ) (value : ℕ) → 0 < k → units ≡ true → UnitBytes (λ us. value_at w k m us) b text value → At (decimals_next w units k m) b text value
decimals_units w k m b units text value some on (inl h) = moved (decimals_next w units k m) b 115 text value h.0 (some_if (nat_lt 0 k && units) (done (value_at w k m 1000000)) (λ s. Rest s text value) (both_true (nat_lt 0 k) units (lt_true k some) on) (h.1, h.2))
decimals_units w k m b units text value some on (inr (inl h)) = moved (decimals_next w units k m) b 109 text value h.0 (some_if (nat_lt 0 k && units) (scaled (value_at w k m 1000)) (λ s. Rest s text value) (both_true (nat_lt 0 k) units (lt_true k some) on) (h.1, h.2))
decimals_units w k m b units text value some on (inr (inr h)) = moved (decimals_next w units k m) b 117 text value h.0 (some_if (nat_lt 0 k && units) (scaled (value_at w k m 1)) (λ s. Rest s text value) (both_true (nat_lt 0 k) units (lt_true k some) on) (h.1, h.2))

pub decimals_in : (w k m b : ℕ) (units : Bool) (text : List ℕ) (value : ℕ) → AfterDecimals w units k m (b ∷ text) value → At (decimals_next w units k m) b text value
decimals_in w k m b units text value h =
    let byte : (units ≡ true) × UnitBytes (λ us. value_at w k m us) b text value = unit_bytes units (λ us. value_at w k m us) b h.us text value h.unit h.value_is in
    decimals_units w k m b units text value h.some byte.0 byte.1

unit_byte : (worth : ℕ → ℕ) (b : ℕ) (text : List ℕ) (value : ℕ) → UnitBytes worth b text value → 57 < b
unit_byte worth b text value (inl h) = omega (arith, h.0)
unit_byte worth b text value (inr (inl h)) = omega (arith, h.0)
unit_byte worth b text value (inr (inr h)) = omega (arith, h.0)

pub decimals_refuses : (w : ℕ) (units : Bool) → Refuses (AfterDecimals w units)
decimals_refuses w units k m b text value is h =
    let byte : (units ≡ true) × UnitBytes (λ us. value_at w k m us) b text value = unit_bytes units (λ us. value_at w k m us) b h.us text value h.unit h.value_is in
    let far : 57 < b = unit_byte (λ us. value_at w k m us) b text value byte.1 in
    omega (arith, far, is.1)

-- ---- what the byte leaves: whole numbers

AtByte : ℕ → Bool → ℕ → List ℕ → ℕ → Type 0
AtByte w units b text value = ((units ≡ true) × UnitBytes (λ us. w * us) b text value) ⊎ ((b ≡ 46) × Run (AfterDecimals w units) 0 0 text value)

whole_byte : (w b : ℕ) (units : Bool) (text : List ℕ) (value : ℕ) → AfterWhole w units (b ∷ text) value → AtByte w units b text value
unfolding AtByte
whole_byte w b units text value (inl h) = inl (unit_bytes units (λ us. w * us) b h.us text value h.unit h.value_is)
whole_byte w b units text value (inr h) =
    let here : b ≡ 46 = cc (h.spelled) in
    let tail : text ≡ h.rest = cc (h.spelled) in
    inr (here, subst (λ x. Run (AfterDecimals w units) 0 0 x value) (sym tail) h.run)

byte_refuses : (w b : ℕ) (units : Bool) (text : List ℕ) (value : ℕ) → IsDigit b → AtByte w units b text value → ⊥
unfolding AtByte
byte_refuses w b units text value is (inl h) = let far : 57 < b = unit_byte (λ us. w * us) b text value h.1 in omega (arith, far, is.1)
byte_refuses w b units text value is (inr h) = omega (arith, h.0, is.0)

whole_refuses : (w b : ℕ) (units : Bool) (text : List ℕ) (value : ℕ) → IsDigit b → ¬ AfterWhole w units (b ∷ text) value
whole_refuses w b units text value is h = byte_refuses w b units text value is (whole_byte w b units text value h)

pub third_refuses : (minutes : ℕ) → Refuses (AfterThird minutes)
third_refuses minutes k n b text value is h = whole_refuses (60 * minutes + n) b false text value is h.whole

third_at : (minutes k n b : ℕ) (text : List ℕ) (value : ℕ) → 0 < k → AtByte (60 * minutes + n) false b text value → At (third_next minutes k n) b text value
unfolding AtByte
third_at minutes k n b text value some (inl h) = let off : false ≡ true = h.0 in cc
third_at minutes k n b text value some (inr h) = moved (third_next minutes k n) b 46 text value h.0 (some_if (nat_lt 0 k) (decimals (60 * minutes + n) false 0 0) (λ s. Rest s text value) (lt_true k some) h.1)

pub third_in : (minutes k n b : ℕ) (text : List ℕ) (value : ℕ) → AfterThird minutes k n (b ∷ text) value → At (third_next minutes k n) b text value
third_in minutes k n b text value h = third_at minutes k n b text value h.some (whole_byte (60 * minutes + n) b false text value h.whole)

seconds_byte : (f n b : ℕ) (text : List ℕ) (value : ℕ) → AtSeconds f n (b ∷ text) value → (b ≡ 58) × Run (AfterThird (60 * f + n)) 0 0 text value
seconds_byte f n b text value h =
    let here : b ≡ 58 = cc (h.spelled) in
    let tail : text ≡ h.rest = cc (h.spelled) in
    (here, subst (λ x. Run (AfterThird (60 * f + n)) 0 0 x value) (sym tail) h.run)

second_refuses_at : (f n b : ℕ) (minutes : Bool) (text : List ℕ) (value : ℕ) → IsDigit b → ((minutes ≡ true) × AfterWhole (60 * f + n) false (b ∷ text) value) ⊎ AtSeconds f n (b ∷ text) value → ⊥
second_refuses_at f n b minutes text value is (inl h) = whole_refuses (60 * f + n) b false text value is h.1
second_refuses_at f n b minutes text value is (inr h) = let e : b ≡ 58 = (seconds_byte f n b text value h).0 in omega (arith, e, is.1)

pub second_refuses : (f : ℕ) (minutes : Bool) → Refuses (AfterSecond f minutes)
second_refuses f minutes k n b text value is h = second_refuses_at f n b minutes text value is h.either

second_point : (f k n b : ℕ) (minutes : Bool) (text : List ℕ) (value : ℕ) → 0 < k → minutes ≡ true → AtByte (60 * f + n) false b text value → At (second_next f minutes k n) b text value
unfolding AtByte
second_point f k n b minutes text value some on (inl h) = let off : false ≡ true = h.0 in cc
second_point f k n b minutes text value some on (inr h) = moved (second_next f minutes k n) b 46 text value h.0 (some_if (nat_lt 0 k && minutes) (decimals (60 * f + n) false 0 0) (λ s. Rest s text value) (both_true (nat_lt 0 k) minutes (lt_true k some) on) h.1)

second_at : (f k n b : ℕ) (minutes : Bool) (text : List ℕ) (value : ℕ) → 0 < k → ((minutes ≡ true) × AfterWhole (60 * f + n) false (b ∷ text) value) ⊎ AtSeconds f n (b ∷ text) value → At (second_next f minutes k n) b text value
second_at f k n b minutes text value some (inl h) = second_point f k n b minutes text value some h.0 (whole_byte (60 * f + n) b false text value h.1)
second_at f k n b minutes text value some (inr h) =
    let byte : (b ≡ 58) × Run (AfterThird (60 * f + n)) 0 0 text value = seconds_byte f n b text value h in
    moved (second_next f minutes k n) b 58 text value byte.0 (some_if (nat_lt 0 k) (third (60 * f + n) 0 0) (λ s. Rest s text value) (lt_true k some) byte.1)

pub second_in : (f k n b : ℕ) (minutes : Bool) (text : List ℕ) (value : ℕ) → AfterSecond f minutes k n (b ∷ text) value → At (second_next f minutes k n) b text value
second_in f k n b minutes text value h = second_at f k n b minutes text value h.some h.either

minutes_byte : (k n b : ℕ) (text : List ℕ) (value : ℕ) → AtMinutes k n (b ∷ text) value → (b ≡ 58) × Run (AfterSecond n (may_be_minutes k n)) 0 0 text value
minutes_byte k n b text value h =
    let here : b ≡ 58 = cc (h.spelled) in
    let tail : text ≡ h.rest = cc (h.spelled) in
    (here, subst (λ x. Run (AfterSecond n (may_be_minutes k n)) 0 0 x value) (sym tail) h.run)

first_refuses_at : (k n b : ℕ) (text : List ℕ) (value : ℕ) → IsDigit b → AfterWhole n true (b ∷ text) value ⊎ AtMinutes k n (b ∷ text) value → ⊥
first_refuses_at k n b text value is (inl h) = whole_refuses n b true text value is h
first_refuses_at k n b text value is (inr h) = let e : b ≡ 58 = (minutes_byte k n b text value h).0 in omega (arith, e, is.1)

pub first_refuses : Refuses AfterFirst
first_refuses k n b text value is h = first_refuses_at k n b text value is h.either

first_units : (k n b : ℕ) (text : List ℕ) (value : ℕ) → 0 < k → UnitBytes (λ us. n * us) b text value → At (first_next k n) b text value
first_units k n b text value some (inl h) = moved (first_next k n) b 115 text value h.0 (some_if (nat_lt 0 k) (done (n * 1000000)) (λ s. Rest s text value) (lt_true k some) (h.1, h.2))
first_units k n b text value some (inr (inl h)) = moved (first_next k n) b 109 text value h.0 (some_if (nat_lt 0 k) (scaled (n * 1000)) (λ s. Rest s text value) (lt_true k some) (h.1, h.2))
first_units k n b text value some (inr (inr h)) = moved (first_next k n) b 117 text value h.0 (some_if (nat_lt 0 k) (scaled n) (λ s. Rest s text value) (lt_true k some) (h.1, h.2 ∙ mul-one n))

first_byte : (k n b : ℕ) (text : List ℕ) (value : ℕ) → 0 < k → AtByte n true b text value → At (first_next k n) b text value
unfolding AtByte
first_byte k n b text value some (inl h) = first_units k n b text value some h.1
first_byte k n b text value some (inr h) = moved (first_next k n) b 46 text value h.0 (some_if (nat_lt 0 k) (decimals n true 0 0) (λ s. Rest s text value) (lt_true k some) h.1)

first_colon : (k n b : ℕ) (text : List ℕ) (value : ℕ) → 0 < k → k ≤ 6 → (b ≡ 58) × Run (AfterSecond n (may_be_minutes k n)) 0 0 text value → At (first_next k n) b text value
first_colon k n b text value some short byte =
    moved (first_next k n) b 58 text value byte.0 (some_if (nat_lt 0 k && nat_le k 6) (second n (may_be_minutes k n) 0 0) (λ s. Rest s text value) (both_true (nat_lt 0 k) (nat_le k 6) (lt_true k some) (le_true k 6 short)) byte.1)

first_at : (k n b : ℕ) (text : List ℕ) (value : ℕ) → 0 < k → AfterWhole n true (b ∷ text) value ⊎ AtMinutes k n (b ∷ text) value → At (first_next k n) b text value
first_at k n b text value some (inl h) = first_byte k n b text value some (whole_byte n b true text value h)
first_at k n b text value some (inr h) = first_colon k n b text value some h.short (minutes_byte k n b text value h)

pub first_in : (k n b : ℕ) (text : List ℕ) (value : ℕ) → AfterFirst k n (b ∷ text) value → At (first_next k n) b text value
first_in k n b text value h = first_at k n b text value h.some h.either
