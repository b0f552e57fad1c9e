-- A spelling is what may follow at the start.
use Rattle.std.proofs.Common.{◌≡◌, ℕ, ◌+◌, ◌*◌, ◌<◌, ◌≤◌, ◌⊎◌, inl, inr, Bool, true, false, nat_le, List, [], ◌∷◌, ◌++◌, length, codes, append_assoc, append-nil, sym, subst, ap, ◌∙◌, refl, arith}
use Rattle.std.specs.List.{AllByRecursion}
use Rattle.std.proofs.Math.Nat.{zero-mul}
use Rattle.ff_time.specs.Duration.{IsDigit, AreDigits, number, IsSixtieth, IsPoint, microseconds, IsCount, IsMinutes, IsHours, IsSpelling}
use Rattle.ff_time.specs.Reading.{first, value_at}
use Rattle.ff_time.proofs.Decimals.{value_at-split}
use Rattle.ff_time.proofs.Runs.{Run, Run-from_start, Run-started}
use Rattle.ff_time.proofs.Tails.{IsUnitOr, AfterDecimals, AfterWhole, AfterThird, AtSeconds, AfterSecond, may_be_minutes, AtMinutes, AfterFirst, Rest}
use Rattle.ff_time.proofs.Derivative.{both_true, le_true}
use Rattle.ff_time.proofs.Steps.{both_out, le_out}

-- without decimals
no_decimals : (w us : ℕ) → value_at w 0 0 us ≡ w * us
no_decimals w us = omega (arith, value_at-split w 0 0 us, zero-mul us)

clock : (a b c : List ℕ) → a ++ codes ":" ++ b ++ c ≡ a ++ (58 ∷ (b ++ c))
clock a b c = simp append_assoc

long_clock : (a b c d : List ℕ) → a ++ codes ":" ++ b ++ codes ":" ++ c ++ d ≡ a ++ (58 ∷ (b ++ (58 ∷ (c ++ d))))
long_clock a b c d = simp append_assoc

-- ---- from the grammar

point_in : (w us value : ℕ) (units : Bool) (point decimals unit : List ℕ) → IsPoint point decimals → IsUnitOr units unit us → value ≡ microseconds w decimals us → AfterWhole w units (point ++ unit) value
point_in w us value units point decimals unit (inl h) u e =
    let text : unit ≡ point ++ unit = ap (λ p. p ++ unit) (sym h.0) in
    let worth : value ≡ w * us = e ∙ (ap (λ d. microseconds w d us) h.1 ∙ no_decimals w us) in
    inl (record { us = us; unit = subst (λ x. IsUnitOr units x us) text u; value_is = worth })
point_in w us value units point decimals unit (inr h) u e =
    inr (record {
      rest = decimals ++ unit;
      spelled = ap (λ p. p ++ unit) h.0;
      run = Run-from_start (AfterDecimals w units) (decimals ++ unit) decimals unit value refl h.1.each (record { some = h.1.some; us = us; unit = u; value_is = e });
    })

plain_in : (w value : ℕ) (point decimals : List ℕ) → IsPoint point decimals → value ≡ microseconds w decimals 1000000 → AfterWhole w false point value
plain_in w value point decimals h e = subst (λ x. AfterWhole w false x value) (append-nil point) (point_in w 1000000 value false point decimals [] h (refl, refl) e)

count_in : (text : List ℕ) (value : ℕ) → IsCount text value → Run AfterFirst 0 0 text value
count_in text value h =
    Run-from_start AfterFirst text h.whole (h.point ++ h.unit) value (h.spelled ∙ append_assoc h.whole h.point h.unit) h.whole_is.each
    (record { some = h.whole_is.some; either = inl (point_in (number h.whole) h.us value true h.point h.decimals h.unit h.point_is h.unit_is h.value_is) })

minutes_in : (text : List ℕ) (value : ℕ) → IsMinutes text value → Run AfterFirst 0 0 text value
minutes_in text value h =
    let may : may_be_minutes (length h.minutes) (number h.minutes) ≡ true = both_true (nat_le (length h.minutes) 2) (nat_le (number h.minutes) 59) (le_true (length h.minutes) 2 h.minutes_is.short) (le_true (number h.minutes) 59 h.minutes_is.small) in
    let seconds : Run (AfterSecond (number h.minutes) (may_be_minutes (length h.minutes) (number h.minutes))) 0 0 (h.seconds ++ h.point) value =
    Run-from_start (AfterSecond (number h.minutes) (may_be_minutes (length h.minutes) (number h.minutes))) (h.seconds ++ h.point) h.seconds h.point value refl h.seconds_is.digits.each
    (record { some = h.seconds_is.digits.some; short = h.seconds_is.short; small = h.seconds_is.small; either = inl (may, plain_in (60 * number h.minutes + number h.seconds) value h.point h.decimals h.point_is h.value_is) }) in
    Run-from_start AfterFirst text h.minutes (58 ∷ (h.seconds ++ h.point)) value (h.spelled ∙ clock h.minutes h.seconds h.point) h.minutes_is.digits.each
    (record { some = h.minutes_is.digits.some; either = inr (record { short = omega (arith, h.minutes_is.short); rest = h.seconds ++ h.point; spelled = refl; run = seconds }) })

hours_in : (text : List ℕ) (value : ℕ) → IsHours text value → Run AfterFirst 0 0 text value
hours_in text value h =
    let may : Bool = may_be_minutes (length h.hours) (number h.hours) in
    let whole : ℕ = 60 * (60 * number h.hours + number h.minutes) + number h.seconds in
    let same : 3600 * number h.hours + 60 * number h.minutes + number h.seconds ≡ whole = omega arith in
    let worth : value ≡ microseconds whole h.decimals 1000000 = h.value_is ∙ ap (λ w. microseconds w h.decimals 1000000) same in
    let seconds : Run (AfterThird (60 * number h.hours + number h.minutes)) 0 0 (h.seconds ++ h.point) value =
    Run-from_start (AfterThird (60 * number h.hours + number h.minutes)) (h.seconds ++ h.point) h.seconds h.point value refl h.seconds_is.digits.each
    (record { some = h.seconds_is.digits.some; short = h.seconds_is.short; small = h.seconds_is.small; whole = plain_in whole value h.point h.decimals h.point_is worth }) in
    let minutes : Run (AfterSecond (number h.hours) may) 0 0 (h.minutes ++ (58 ∷ (h.seconds ++ h.point))) value =
    Run-from_start (AfterSecond (number h.hours) may) (h.minutes ++ (58 ∷ (h.seconds ++ h.point))) h.minutes (58 ∷ (h.seconds ++ h.point)) value refl h.minutes_is.digits.each
    (record { some = h.minutes_is.digits.some; short = h.minutes_is.short; small = h.minutes_is.small; either = inr (record { rest = h.seconds ++ h.point; spelled = refl; run = seconds }) }) in
    Run-from_start AfterFirst text h.hours (58 ∷ (h.minutes ++ (58 ∷ (h.seconds ++ h.point)))) value (h.spelled ∙ long_clock h.hours h.minutes h.seconds h.point) h.hours_is.each
    (record { some = h.hours_is.some; either = inr (record { short = h.hours_short; rest = h.minutes ++ (58 ∷ (h.seconds ++ h.point)); spelled = refl; run = minutes }) })

-- a spelling may follow at the start
pub spelling_in : (text : List ℕ) (value : ℕ) → IsSpelling text value → Rest (first 0 0) text value
spelling_in text value (inl h) = count_in text value h
spelling_in text value (inr (inl h)) = minutes_in text value h
spelling_in text value (inr (inr h)) = hours_in text value h

-- ---- and back to it

-- the decimals of a clock's seconds
record PointOut (w : ℕ) (text : List ℕ) (value : ℕ) : Type 0 where
  decimals : List ℕ
  point_is : IsPoint text decimals
  value_is : value ≡ microseconds w decimals 1000000

plain_out : (w value : ℕ) (text : List ℕ) → AfterWhole w false text value → PointOut w text value
plain_out w value text (inl h) =
    record { decimals = []; point_is = inl (h.unit.0, refl); value_is = h.value_is ∙ (ap (λ us. w * us) h.unit.1 ∙ sym (no_decimals w 1000000)) }
plain_out w value text (inr h) =
    let there : AfterDecimals w false (length h.run.more) (number h.run.more) h.run.rest value = Run-started (AfterDecimals w false) h.rest value h.run in
    let all : h.rest ≡ h.run.more = h.run.spelled ∙ (ap (λ t. h.run.more ++ t) there.unit.0 ∙ append-nil h.run.more) in
    record {
      decimals = h.run.more;
      point_is = inr (h.spelled ∙ ap (λ t. 46 ∷ t) all, record { some = there.some; each = h.run.digits });
      value_is = there.value_is ∙ ap (value_at w (length h.run.more) (number h.run.more)) there.unit.1;
    }

count_out : (text whole rest : List ℕ) (value : ℕ) → text ≡ whole ++ rest → AreDigits whole → AfterWhole (number whole) true rest value → IsCount text value
count_out text whole rest value e ds (inl h) =
    record {
      whole = whole;
      point = [];
      decimals = [];
      unit = rest;
      us = h.us;
      spelled = e ∙ ap (λ t. t ++ rest) (sym (append-nil whole));
      whole_is = ds;
      point_is = inl (refl, refl);
      unit_is = h.unit;
      value_is = h.value_is ∙ sym (no_decimals (number whole) h.us);
    }
count_out text whole rest value e ds (inr h) =
    let there : AfterDecimals (number whole) true (length h.run.more) (number h.run.more) h.run.rest value = Run-started (AfterDecimals (number whole) true) h.rest value h.run in
    record {
      whole = whole;
      point = 46 ∷ h.run.more;
      decimals = h.run.more;
      unit = h.run.rest;
      us = there.us;
      spelled = e ∙ (ap (λ t. whole ++ t) (h.spelled ∙ ap (λ t. 46 ∷ t) h.run.spelled) ∙ sym (append_assoc whole (46 ∷ h.run.more) h.run.rest));
      whole_is = ds;
      point_is = inr (refl, record { some = there.some; each = h.run.digits });
      unit_is = there.unit;
      value_is = there.value_is;
    }

sixtieth : (text : List ℕ) → AllByRecursion IsDigit text → 0 < length text → length text ≤ 2 → number text ≤ 59 → IsSixtieth text
sixtieth text ds some short small = record { digits = record { some = some; each = ds }; short = short; small = small }

minutes_out : (text minutes rest seconds point : List ℕ) (value : ℕ) → text ≡ minutes ++ (58 ∷ rest) → rest ≡ seconds ++ point → AreDigits minutes → may_be_minutes (length minutes) (number minutes) ≡ true → IsSixtieth seconds → AfterWhole (60 * number minutes + number seconds) false point value → IsMinutes text value
minutes_out text minutes rest seconds point value e f ds may ss h =
    let out : PointOut (60 * number minutes + number seconds) point value = plain_out (60 * number minutes + number seconds) value point h in
    let tests : (nat_le (length minutes) 2 ≡ true) × (nat_le (number minutes) 59 ≡ true) = both_out (nat_le (length minutes) 2) (nat_le (number minutes) 59) may in
    record {
      minutes = minutes;
      seconds = seconds;
      point = point;
      decimals = out.decimals;
      spelled = e ∙ (ap (λ t. minutes ++ (58 ∷ t)) f ∙ sym (clock minutes seconds point));
      minutes_is = record { digits = ds; short = le_out (length minutes) 2 tests.0; small = le_out (number minutes) 59 tests.1 };
      seconds_is = ss;
      point_is = out.point_is;
      value_is = out.value_is;
    }

hours_out : (text hours rest minutes rest2 seconds point : List ℕ) (value : ℕ) → text ≡ hours ++ (58 ∷ rest) → rest ≡ minutes ++ (58 ∷ rest2) → rest2 ≡ seconds ++ point → AreDigits hours → length hours ≤ 6 → IsSixtieth minutes → IsSixtieth seconds → AfterWhole (60 * (60 * number hours + number minutes) + number seconds) false point value → IsHours text value
hours_out text hours rest minutes rest2 seconds point value e f g ds short ms ss h =
    let whole : ℕ = 60 * (60 * number hours + number minutes) + number seconds in
    let out : PointOut whole point value = plain_out whole value point h in
    let same : whole ≡ 3600 * number hours + 60 * number minutes + number seconds = omega arith in
    record {
      hours = hours;
      minutes = minutes;
      seconds = seconds;
      point = point;
      decimals = out.decimals;
      spelled = e ∙ (ap (λ t. hours ++ (58 ∷ t)) (f ∙ ap (λ t. minutes ++ (58 ∷ t)) g) ∙ sym (long_clock hours minutes seconds point));
      hours_is = ds;
      hours_short = short;
      minutes_is = ms;
      seconds_is = ss;
      point_is = out.point_is;
      value_is = out.value_is ∙ ap (λ w. microseconds w out.decimals 1000000) same;
    }

clock_out : (text front rest : List ℕ) (value : ℕ) → text ≡ front ++ (58 ∷ rest) → AreDigits front → length front ≤ 6 → (run : Run (AfterSecond (number front) (may_be_minutes (length front) (number front))) 0 0 rest value)
    → IsSixtieth run.more → ((may_be_minutes (length front) (number front) ≡ true) × AfterWhole (60 * number front + number run.more) false run.rest value) ⊎ AtSeconds (number front) (number run.more) run.rest value → IsSpelling text value
clock_out text front rest value e ds short run here (inl h) = inr (inl (minutes_out text front rest run.more run.rest value e run.spelled ds h.0 here h.1))
clock_out text front rest value e ds short run here (inr h) =
    let there : AfterThird (60 * number front + number run.more) (length h.run.more) (number h.run.more) h.run.rest value = Run-started (AfterThird (60 * number front + number run.more)) h.rest value h.run in
    inr (inr (hours_out text front rest run.more h.rest h.run.more h.run.rest value e (run.spelled ∙ ap (λ t. run.more ++ t) h.spelled) h.run.spelled ds short here (sixtieth h.run.more h.run.digits there.some there.short there.small) there.whole))

first_out : (text front rest : List ℕ) (value : ℕ) → text ≡ front ++ rest → AreDigits front → AfterWhole (number front) true rest value ⊎ AtMinutes (length front) (number front) rest value → IsSpelling text value
first_out text front rest value e ds (inl h) = inl (count_out text front rest value e ds h)
first_out text front rest value e ds (inr h) =
    let there : AfterSecond (number front) (may_be_minutes (length front) (number front)) (length h.run.more) (number h.run.more) h.run.rest value = Run-started (AfterSecond (number front) (may_be_minutes (length front) (number front))) h.rest value h.run in
    clock_out text front h.rest value (e ∙ ap (λ t. front ++ t) h.spelled) ds h.short h.run (sixtieth h.run.more h.run.digits there.some there.short there.small) there.either

-- what may follow at the start is a spelling
pub spelling_out : (text : List ℕ) (value : ℕ) → Rest (first 0 0) text value → IsSpelling text value
spelling_out text value h =
    let there : AfterFirst (length h.more) (number h.more) h.rest value = Run-started AfterFirst text value h in
    first_out text h.more h.rest value h.spelled (record { some = there.some; each = h.digits }) there.either
