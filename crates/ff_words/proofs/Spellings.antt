-- What written values read as.
use Rattle.std.proofs.Common.{◌≡◌, ℕ, ◌+◌, ◌-◌, ◌*◌, ◌/◌, ◌%◌, ◌^◌, ◌<◌, ◌≤◌, inl, inr, Bool, true, false, List, [], ◌∷◌, ◌++◌, length, refl, sym, ap, ◌∙◌, arith, length-append}
use Rattle.std.specs.Prelude.{codes}
use Rattle.std.specs.Fmt.{decimal}
use Rattle.std.proofs.lemmas.Fmt.{decimal_by_steps, length-decimal-le}
use Rattle.std.proofs.lemmas.List.{append-nil}
use Rattle.std.proofs.lemmas.Nat.{div-add-mod'}
use Rattle.std.proofs.Math.Nat.{mod-lt}
use Rattle.ff_time.specs.Duration.{IsDigit, AreDigits, number, microseconds, IsDuration}
use Rattle.ff_words.proofs.MapsLemmas.Numbers.{digits_append, number-push}
use Rattle.ff_words.specs.maps.Grammar.{IsNumber, IsPick, IsFrom, IsMap, letter, mark}
use Rattle.ff_words.specs.declared.maps.map.Kind.TheVariants as of_kind
use Rattle.ff_words.specs.declared.maps.map.Kind.{Kind as StreamKind}
use Rattle.ff_words.specs.declared.maps.map.Pick.{Pick}
use Rattle.ff_words.specs.declared.maps.map.Pick.TheVariants as pick
use Rattle.ff_words.specs.declared.maps.map.MapFrom.{MapFrom}
use Rattle.ff_words.specs.declared.maps.map.MapFrom.TheVariants.{Input, Label}
use Rattle.ff_words.specs.declared.maps.map.MapSpec.{MapSpec}
use Rattle.ff_words.specs.laws.Writing.{micros_text, pick_text, from_text, map_text, IsFinePick, IsFineFrom, IsFineMap, IsFineText}

-- ---- numbers

abbrev Spelled : ℕ → List ℕ → Type 0
Spelled n ds = AreDigits ds × (number ds ≡ n)

digit : (k : ℕ) → k < 10 → IsDigit (48 + k)
digit k h = (omega arith, omega (arith, h))

one : (n : ℕ) → n < 10 → Spelled n ((48 + n) ∷ [])
one n h = (record { some = omega arith; each = (digit n h, tt) }, omega arith)

more : (n : ℕ) (ds : List ℕ) → 10 ≤ n → Spelled (n / 10) ds → Spelled n (ds ++ ((48 + n % 10) ∷ []))
more n ds h s =
    let low : n % 10 < 10 = mod-lt n (omega arith) in
    let whole : n / 10 * 10 + n % 10 ≡ n = div-add-mod' n 10 in (
      record { some = omega (arith, length-append ds ((48 + n % 10) ∷ [])); each = digits_append IsDigit ds ((48 + n % 10) ∷ []) s.0.each (digit (n % 10) low, tt) },
      number-push ds (48 + n % 10) ∙ (ap (λ m. m * 10 + (48 + n % 10 - 48)) s.1 ∙ omega (arith, whole)),
    )

spelled : (n : ℕ) → n < 2 ^ 64 → Spelled n (decimal n)
spelled n h = decimal_by_steps Spelled one more n h

pub is-number : (n : ℕ) → n < 10 ^ 9 → IsNumber (decimal n) n
is-number n h =
    let wide : n < 2 ^ 64 = omega (arith, h) in
    record { digits = (spelled n wide).0; short = length-decimal-le 9 n (omega arith) h wide; value = sym (spelled n wide).1 }

pub number-short : (n : ℕ) → n < 10 ^ 9 → length (decimal n) ≤ 9
number-short n h = length-decimal-le 9 n (omega arith) h (omega (arith, h))

-- ---- times

micros-worth : (w n : ℕ) → w ≡ n → n ≡ microseconds w [] 1
micros-worth w n e = omega (arith, e)

pub is-duration : (us : ℕ) → us ≤ 10 ^ 15 → IsDuration (micros_text us) us
is-duration us h =
    let wide : us < 2 ^ 64 = omega (arith, h) in
    let small : us < 10 ^ 16 = omega (arith, h) in
    let short : length (decimal us) ≤ 16 = length-decimal-le 16 us (omega arith) small wide in
    record {
      short = omega (arith, length-append (decimal us) (codes "us"), short);
      spelling = inl (record {
        whole = decimal us;
        point = [];
        decimals = [];
        unit = codes "us";
        us = 1;
        spelled = ap (λ t. t ++ codes "us") (sym (append-nil (decimal us)));
        whole_is = (spelled us wide).0;
        point_is = inl (refl, refl);
        unit_is = inr (inr (inr (refl, refl)));
        value_is = micros-worth (number (decimal us)) us (spelled us wide).1;
      });
    }

pub micros-short : (us : ℕ) → us ≤ 10 ^ 15 → IsFineText (micros_text us)
micros-short us h =
    let wide : us < 2 ^ 64 = omega (arith, h) in
    let small : us < 10 ^ 16 = omega (arith, h) in
    omega (arith, length-append (decimal us) (codes "us"), length-decimal-le 16 us (omega arith) small wide)

-- ---- maps

is-pick : (p : Pick) → IsFinePick p → IsPick (pick_text p) p
is-pick pick.All h = refl
is-pick (pick.Index n) h = (decimal n, refl, is-number n h)
is-pick (pick.Kind kind) h = refl
is-pick (pick.Nth kind n) h = (decimal n, refl, is-number n h)

is-from : (from : MapFrom) (optional : Bool) → IsFineFrom from optional → IsFrom (from_text from optional) from optional
is-from (Input file chosen) optional h = (decimal file, pick_text chosen, refl, is-number file h.0, is-pick chosen h.1)
is-from (Label label) optional h = (h.1, h.0, refl)

pub is-map : (m : MapSpec) → IsFineMap m → IsMap (map_text m) m
is-map m h = is-from m.from m.optional h

letter-short : (k : StreamKind) → length (letter k) ≡ 1
letter-short of_kind.Audio = refl
letter-short of_kind.Video = refl

mark-short : (b : Bool) → length (mark b) ≤ 1
mark-short true = omega arith
mark-short false = omega arith

pick-short : (p : Pick) → IsFinePick p → length (pick_text p) ≤ 20
pick-short pick.All h = omega arith
pick-short (pick.Index n) h = omega (arith, number-short n h)
pick-short (pick.Kind kind) h = omega (arith, letter-short kind)
pick-short (pick.Nth kind n) h =
    omega (arith, letter-short kind, number-short n h, length-append (codes ":" ++ letter kind ++ codes ":") (decimal n), length-append (codes ":" ++ letter kind) (codes ":"))

from-short : (from : MapFrom) (optional : Bool) → IsFineFrom from optional → IsFineText (from_text from optional)
from-short (Input file chosen) optional h =
    omega (arith, length-append (decimal file ++ pick_text chosen) (mark optional), length-append (decimal file) (pick_text chosen), number-short file h.0, pick-short chosen h.1, mark-short optional)
from-short (Label label) optional h = omega (arith, length-append (codes "[" ++ label) (codes "]"), h.0.short)

pub map-short : (m : MapSpec) → IsFineMap m → IsFineText (map_text m)
map-short m h = from-short m.from m.optional h
