-- The place of a bad text, and what a call's answer says of the text.
use Rattle.std.proofs.Common.{◌≡◌, ℕ, ◌+◌, ◌^◌, ◌<◌, ◌≤◌, ◌⊎◌, ◌↔◌, inl, inr, Result, Ok, Err, List, ◌++◌, length, take, drop, append_assoc, sym, subst, ap, ◌∙◌, refl, arith}
use Rattle.std.proofs.lemmas.List.{take-append-drop, take-take, take_all}
use Rattle.std.proofs.lemmas.Bool.{cases_lt}
use Rattle.ff_time.specs.Duration.{IsDuration, GoesOn, IsBadAt}
use Rattle.ff_time.specs.declared.error.TimeError.{TimeError}
use Rattle.ff_time.specs.declared.error.TimeError.TheVariants.{TooBig, BadTime}
use Rattle.ff_time.proofs.Following.{Outcome}

goes_on_front : (front rest : List ℕ) → GoesOn (front ++ rest) → GoesOn front
goes_on_front front rest g = (rest ++ g.0, g.1, subst (λ t. IsDuration t g.1) (append_assoc front rest g.0) g.2)

-- a shorter front goes on too
goes_on_less : (text : List ℕ) (m n : ℕ) → m ≤ n → GoesOn (take n text) → GoesOn (take m text)
goes_on_less text m n le g =
    let split : take n text ≡ take m text ++ drop m (take n text) = sym (take-append-drop m (take n text)) ∙ ap (λ t. t ++ drop m (take n text)) (take-take m n text le) in
    goes_on_front (take m text) (drop m (take n text)) (subst GoesOn split g)

-- a duration goes on at each of its places
goes_on_whole : (text : List ℕ) (n value : ℕ) → IsDuration text value → GoesOn (take n text)
goes_on_whole text n value d = (drop n text, value, subst (λ t. IsDuration t value) (sym (take-append-drop n text)) d)

-- the place with which no duration goes on
pub IsBadAt-inside : (text : List ℕ) (at : ℕ) → at < length text → GoesOn (take at text) → ¬ GoesOn (take (at + 1) text) → IsBadAt text at
IsBadAt-inside text at lt g stop =
    record { no_duration = λ value d. stop (goes_on_whole text (at + 1) value d); before = g; place = inr (lt, stop) }

-- the text ends too early
pub IsBadAt-end : (text : List ℕ) → GoesOn text → ((value : ℕ) → ¬ IsDuration text value) → IsBadAt text (length text)
IsBadAt-end text g none =
    record { no_duration = none; before = subst GoesOn (sym (take_all (length text) text (omega arith))) g; place = inl refl }

place_bound : (text : List ℕ) (at : ℕ) → (at ≡ length text) ⊎ ((at < length text) × ¬ GoesOn (take (at + 1) text)) → at ≤ length text
place_bound text at (inl e) = omega (arith, e)
place_bound text at (inr h) = omega (arith, h.0)

not_before : (text : List ℕ) (a b : ℕ) → a < b → b ≤ length text → GoesOn (take b text) → (a ≡ length text) ⊎ ((a < length text) × ¬ GoesOn (take (a + 1) text)) → ⊥
not_before text a b lt bound g (inl e) = omega (arith, e, lt, bound)
not_before text a b lt bound g (inr h) = h.1 (goes_on_less text (a + 1) b (omega (arith, lt)) g)

-- there is one such place
IsBadAt-unique : (text : List ℕ) (a b : ℕ) → IsBadAt text a → IsBadAt text b → a ≡ b
IsBadAt-unique text a b x y =
    elim (cases_lt a b) [
      | inl lt ↦ absurd (not_before text a b lt (place_bound text b y.place) y.before x.place)
      | inr le ↦ elim (cases_lt b a) [
        | inl gt ↦ absurd (not_before text b a gt (place_bound text a x.place) x.before y.place)
        | inr ge ↦ omega arith
      ]
    ]

-- ---- answers

pub record Reads (text : List ℕ) (result : Result ℕ TimeError) : Type 0 where
  pub ok : (value : ℕ) → (result ≡ Ok value) ↔ (IsDuration text value × (value ≤ 10 ^ 15))
  pub too_big : (result ≡ Err TooBig) ↔ ((value : ℕ) × IsDuration text value × (10 ^ 15 < value))
  pub bad_time : (at : ℕ) → (result ≡ Err (BadTime at)) ↔ IsBadAt text at

pub Reads-bad : (text : List ℕ) (at : ℕ) → IsBadAt text at → Reads text (Err (BadTime at))
Reads-bad text at b =
    record {
      ok = λ value. (λ e. cc, λ d. absurd (b.no_duration value d.0));
      too_big = (λ e. cc, λ d. absurd (b.no_duration d.0 d.1));
      bad_time = λ other. (λ e. let same : at ≡ other = cc in subst (IsBadAt text) same b, λ c. ap (λ x. Err (BadTime x)) (IsBadAt-unique text at other b c));
    }

pub Reads-ok : (text : List ℕ) (x : ℕ) → Outcome text x → x ≤ 10 ^ 15 → Reads text (Ok x)
Reads-ok text x o small =
    let here : o.value ≡ x = omega (arith, o.shown_is) in
    record {
      ok = λ value. (λ e. let same : o.value ≡ value = cc in (subst (IsDuration text) same o.is, omega (arith, same, here)), λ d. ap Ok (sym here ∙ sym (o.only value d.0)));
      too_big = (λ e. cc, λ d. absurd (omega (arith, o.only d.0 d.1, d.2, here)));
      bad_time = λ at. (λ e. cc, λ b. absurd (b.no_duration o.value o.is));
    }

pub Reads-big : (text : List ℕ) (x : ℕ) → Outcome text x → 10 ^ 15 < x → Reads text (Err TooBig)
Reads-big text x o big =
    let above : 10 ^ 15 < o.value = omega (arith, o.shown_is) in
    record {
      ok = λ value. (λ e. cc, λ d. absurd (omega (arith, o.only value d.0, d.1, above)));
      too_big = (λ e. (o.value, o.is, above), λ d. refl);
      bad_time = λ at. (λ e. cc, λ b. absurd (b.no_duration o.value o.is));
    }
