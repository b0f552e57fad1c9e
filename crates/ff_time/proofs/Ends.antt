-- The end of a text, and how much is missing.
use Rattle.std.proofs.Common.{◌≡◌, ℕ, ◌+◌, ◌*◌, ◌<◌, ◌⊎◌, inl, inr, Bool, true, false, ◌&&◌, Some, None, IsSomeAnd, if◌then◌else◌, nat_lt, [], sym, subst, ap, ◌∙◌, refl}
use Rattle.ff_time.specs.Reading.{Exact, IsSound, first, second, third, decimals, scaled, done, value_at, value_of}
use Rattle.ff_time.proofs.Runs.{Run-here, Run-end}
use Rattle.ff_time.proofs.Tails.{IsUnitOr, AfterDecimals, AfterWhole, AfterThird, AtSeconds, AfterSecond, AtMinutes, AfterFirst, Rest}
use Rattle.ff_time.proofs.Derivative.{both_true, lt_true}
use Rattle.ff_time.proofs.Steps.{both_out, lt_out}

unit_end : (units : Bool) (us : ℕ) → IsUnitOr units [] us → us ≡ 1000000
unit_end true us (inl h) = h.1
unit_end true us (inr (inl h)) = cc (h.0)
unit_end true us (inr (inr (inl h))) = cc (h.0)
unit_end true us (inr (inr (inr h))) = cc (h.0)
unit_end false us h = h.1

no_unit : (units : Bool) → IsUnitOr units [] 1000000
no_unit true = inl (refl, refl)
no_unit false = (refl, refl)

pub some_value : (c : Bool) (x value : ℕ) → c ≡ true → value ≡ x → IsSomeAnd (if c then Some x else None) (λ y. value ≡ y)
some_value c x value on e = subst (λ d. IsSomeAnd (if d then Some x else None) (λ y. value ≡ y)) (sym on) e

value_out : (c : Bool) (x value : ℕ) → IsSomeAnd (if c then Some x else None) (λ y. value ≡ y) → (c ≡ true) × (value ≡ x)
value_out true x value h = (refl, h)
value_out false x value h = absurd h

whole_end : (w value : ℕ) (units : Bool) → AfterWhole w units [] value → value ≡ w * 1000000
whole_end w value units (inl h) = h.value_is ∙ ap (λ us. w * us) (unit_end units h.us h.unit)
whole_end w value units (inr h) = cc (h.spelled)

first_end : (k n value : ℕ) → AfterFirst k n [] value → AfterWhole n true [] value ⊎ AtMinutes k n [] value → value ≡ n * 1000000
first_end k n value h (inl w) = whole_end n value true w
first_end k n value h (inr m) = cc (m.spelled)

second_end : (f k n value : ℕ) (minutes : Bool) → 0 < k → ((minutes ≡ true) × AfterWhole (60 * f + n) false [] value) ⊎ AtSeconds f n [] value → IsSomeAnd (value_of (second f minutes k n)) (λ x. value ≡ x)
second_end f k n value minutes some (inl h) = some_value (nat_lt 0 k && minutes) ((60 * f + n) * 1000000) value (both_true (nat_lt 0 k) minutes (lt_true k some) h.0) (whole_end (60 * f + n) value false h.1)
second_end f k n value minutes some (inr h) = cc (h.spelled)

-- a text that may end here has the value
pub Rest-end : (r : Exact) (value : ℕ) → Rest r [] value → IsSomeAnd (value_of r) (λ x. value ≡ x)
Rest-end (first k n) value h =
    let here : AfterFirst k n [] value = Run-end AfterFirst k n value h in
    some_value (nat_lt 0 k) (n * 1000000) value (lt_true k here.some) (first_end k n value here here.either)
Rest-end (second f minutes k n) value h =
    let here : AfterSecond f minutes k n [] value = Run-end (AfterSecond f minutes) k n value h in
    second_end f k n value minutes here.some here.either
Rest-end (third minutes k n) value h =
    let here : AfterThird minutes k n [] value = Run-end (AfterThird minutes) k n value h in
    some_value (nat_lt 0 k) ((60 * minutes + n) * 1000000) value (lt_true k here.some) (whole_end (60 * minutes + n) value false here.whole)
Rest-end (decimals whole units k m) value h =
    let here : AfterDecimals whole units k m [] value = Run-end (AfterDecimals whole units) k m value h in
    some_value (nat_lt 0 k) (value_at whole k m 1000000) value (lt_true k here.some) (here.value_is ∙ ap (value_at whole k m) (unit_end units here.us here.unit))
Rest-end (scaled v) value h = cc (h.0)
Rest-end (done v) value h = h.1

-- and back
pub Rest-ended : (r : Exact) (value : ℕ) → IsSound r → IsSomeAnd (value_of r) (λ x. value ≡ x) → Rest r [] value
Rest-ended (first k n) value sound h =
    let out : (nat_lt 0 k ≡ true) × (value ≡ n * 1000000) = value_out (nat_lt 0 k) (n * 1000000) value h in
    Run-here AfterFirst k n [] value (record { some = lt_out 0 k out.0; either = inl (inl (record { us = 1000000; unit = no_unit true; value_is = out.1 })) })
Rest-ended (second f minutes k n) value sound h =
    let out : ((nat_lt 0 k && minutes) ≡ true) × (value ≡ (60 * f + n) * 1000000) = value_out (nat_lt 0 k && minutes) ((60 * f + n) * 1000000) value h in
    let tests : (nat_lt 0 k ≡ true) × (minutes ≡ true) = both_out (nat_lt 0 k) minutes out.0 in
    Run-here (AfterSecond f minutes) k n [] value (record { some = lt_out 0 k tests.0; short = sound.0; small = sound.1; either = inl (tests.1, inl (record { us = 1000000; unit = no_unit false; value_is = out.1 })) })
Rest-ended (third minutes k n) value sound h =
    let out : (nat_lt 0 k ≡ true) × (value ≡ (60 * minutes + n) * 1000000) = value_out (nat_lt 0 k) ((60 * minutes + n) * 1000000) value h in
    Run-here (AfterThird minutes) k n [] value (record { some = lt_out 0 k out.0; short = sound.0; small = sound.1; whole = inl (record { us = 1000000; unit = no_unit false; value_is = out.1 }) })
Rest-ended (decimals whole units k m) value sound h =
    let out : (nat_lt 0 k ≡ true) × (value ≡ value_at whole k m 1000000) = value_out (nat_lt 0 k) (value_at whole k m 1000000) value h in
    Run-here (AfterDecimals whole units) k m [] value (record { some = lt_out 0 k out.0; us = 1000000; unit = no_unit units; value_is = out.1 })
Rest-ended (scaled v) value sound h = absurd h
Rest-ended (done v) value sound h = (refl, h)
