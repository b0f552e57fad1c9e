-- What the reader keeps of a text, and what it may answer.
use Rattle.std.proofs.Common.{◌≡◌, ℕ, ◌+◌, ◌<◌, ◌≤◌, Option, Some, None, IsSomeAnd, IfSome, option_map, List, [], ◌∷◌, ◌++◌, length, append_assoc, append-nil, length-append, sym, subst, refl, arith}
use Rattle.ff_time.specs.Duration.{IsSpelling, IsDuration, GoesOn}
use Rattle.ff_time.specs.Reading.{Exact, first, IsSound, cap, shown, next_of, letter_of, missing_of, value_of}
use Rattle.ff_time.specs.declared.reading.Reading.{Reading}
use Rattle.ff_time.specs.declared.reading.Reading.TheVariants.{First}
use Rattle.ff_time.proofs.Tails.{Rest}
use Rattle.ff_time.proofs.Steps.{Rest-next, Rest-back}
use Rattle.ff_time.proofs.Ends.{Rest-end, Rest-ended}
use Rattle.ff_time.proofs.Room.{IsSound-next, Rest-missing, Completed, completed}
use Rattle.ff_time.proofs.Grammar.{spelling_in, spelling_out}

-- the reading is what the text leaves
pub record Follows (text : List ℕ) (reading : Reading) : Type 0 where
  pub exact : Exact
  pub sound : IsSound exact
  pub shown_is : reading ≡ shown exact
  pub onward : (rest : List ℕ) (value : ℕ) → IsSpelling (text ++ rest) value → Rest exact rest value
  pub back : (rest : List ℕ) (value : ℕ) → Rest exact rest value → IsSpelling (text ++ rest) value
  pub room : length text + missing_of exact ≤ 64

pub Follows-start : Follows [] (First 0 0)
Follows-start =
    record {
      exact = first 0 0;
      sound = tt;
      shown_is = refl;
      onward = λ rest value h. spelling_in rest value h;
      back = λ rest value h. spelling_out rest value h;
      room = omega arith;
    }

next_exact : (o : Option Exact) (t : Reading) → Some t ≡ option_map shown o → (q : Exact) × (o ≡ Some q) × (t ≡ shown q)
next_exact (Some q) t e = (q, refl, cc)
next_exact None t e = cc

next_none : (o : Option Exact) (P : Exact → Type 0) → None ≡ option_map shown o → ¬ IsSomeAnd o P
next_none (Some q) P e h = cc
next_none None P e h = h

pushed : (text rest : List ℕ) (b : ℕ) → text ++ (b ∷ rest) ≡ (text ++ (b ∷ [])) ++ rest
pushed text rest b = sym (append_assoc text (b ∷ []) rest)

-- the next state, for a byte with which reading goes on
pub record Next (text : List ℕ) (reading : Reading) (b : ℕ) (then : Option Reading) : Type 0 where
  pub step : (r : Exact) → IsSound r → reading ≡ shown r → then ≡ option_map shown (next_of r (letter_of b))

after : (text rest : List ℕ) (s : Reading) (b value : ℕ) (h : Follows text s) → IsSpelling ((text ++ (b ∷ [])) ++ rest) value → IsSomeAnd (next_of h.exact (letter_of b)) (λ q. Rest q rest value)
after text rest s b value h sp =
    Rest-next h.exact b rest value (h.onward (b ∷ rest) value (subst (λ x. IsSpelling x value) (sym (pushed text rest b)) sp))

pub Follows-next : (text : List ℕ) (s t : Reading) (b m : ℕ) → Follows text s → Next text s b (Some t) → ((r : Exact) → t ≡ shown r → m ≡ missing_of r) → length text + 1 + m ≤ 64 → Follows (text ++ (b ∷ [])) t
Follows-next text s t b m h n missing room =
    let o : Option Exact = next_of h.exact (letter_of b) in
    let q : (q : Exact) × (o ≡ Some q) × (t ≡ shown q) = next_exact o t (n.step h.exact h.sound h.shown_is) in
    record {
      exact = q.0;
      sound = subst (λ x. IfSome x IsSound) q.1 (IsSound-next h.exact b h.sound);
      shown_is = q.2;
      onward = λ rest value sp. subst (λ x. IsSomeAnd x (λ y. Rest y rest value)) q.1 (after text rest s b value h sp);
      back = λ rest value r. subst (λ x. IsSpelling x value) (pushed text rest b) (h.back (b ∷ rest) value (Rest-back h.exact b rest value h.sound (subst (λ x. IsSomeAnd x (λ y. Rest y rest value)) (sym q.1) r)));
      room = omega (arith, room, missing q.0 q.2, length-append text (b ∷ []));
    }

-- no duration goes on where the reader doesn't
pub stuck_none : (text : List ℕ) (s : Reading) (b : ℕ) → Follows text s → Next text s b None → ¬ GoesOn (text ++ (b ∷ []))
stuck_none text s b h n g =
    next_none (next_of h.exact (letter_of b)) (λ q. Rest q g.0 g.1) (n.step h.exact h.sound h.shown_is) (after text g.0 s b g.1 h g.2.spelling)

-- or where no completion is short enough
pub stuck_room : (text : List ℕ) (s t : Reading) (b m : ℕ) → Follows text s → Next text s b (Some t) → ((r : Exact) → t ≡ shown r → m ≡ missing_of r) → 64 < length text + 1 + m → ¬ GoesOn (text ++ (b ∷ []))
stuck_room text s t b m h n missing full g =
    let o : Option Exact = next_of h.exact (letter_of b) in
    let q : (q : Exact) × (o ≡ Some q) × (t ≡ shown q) = next_exact o t (n.step h.exact h.sound h.shown_is) in
    let rest : Rest q.0 g.0 g.1 = subst (λ x. IsSomeAnd x (λ y. Rest y g.0 g.1)) q.1 (after text g.0 s b g.1 h g.2.spelling) in
    omega (arith, full, missing q.0 q.2, Rest-missing g.0 q.0 g.1 rest, g.2.short, length-append (text ++ (b ∷ [])) g.0, length-append text (b ∷ []))

-- some duration goes on from what was read
pub Follows-goes_on : (text : List ℕ) (s : Reading) → Follows text s → GoesOn text
Follows-goes_on text s h =
    let c : Completed h.exact = completed h.exact h.sound in
    (c.text, c.value, record { short = omega (arith, length-append text c.text, c.len, h.room); spelling = h.back c.text c.value c.rest })

at_end : (text : List ℕ) (s : Reading) (value : ℕ) (h : Follows text s) → IsDuration text value → IsSomeAnd (value_of h.exact) (λ x. value ≡ x)
at_end text s value h d = Rest-end h.exact value (h.onward [] value (subst (λ x. IsSpelling x value) (sym (append-nil text)) d.spelling))

from_end : (text : List ℕ) (s : Reading) (value : ℕ) (h : Follows text s) → IsSomeAnd (value_of h.exact) (λ x. value ≡ x) → IsDuration text value
from_end text s value h e =
    record { short = omega (arith, h.room); spelling = subst (λ x. IsSpelling x value) (append-nil text) (h.back [] value (Rest-ended h.exact value h.sound e)) }

-- the text is a duration of that value and of no other, and x is the value as far as it is told apart
pub record Outcome (text : List ℕ) (x : ℕ) : Type 0 where
  pub value : ℕ
  pub shown_is : x ≡ cap value
  pub is : IsDuration text value
  pub only : (other : ℕ) → IsDuration text other → other ≡ value

value_exact : (o : Option ℕ) (x : ℕ) → Some x ≡ option_map cap o → (y : ℕ) × (o ≡ Some y) × (x ≡ cap y)
value_exact (Some y) x e = (y, refl, cc)
value_exact None x e = cc

value_none : (o : Option ℕ) (P : ℕ → Type 0) → None ≡ option_map cap o → ¬ IsSomeAnd o P
value_none (Some y) P e h = cc
value_none None P e h = h

pub Follows-value : (text : List ℕ) (s : Reading) (x : ℕ) → Follows text s → ((r : Exact) → IsSound r → s ≡ shown r → Some x ≡ option_map cap (value_of r)) → Outcome text x
Follows-value text s x h ends =
    let y : (y : ℕ) × (value_of h.exact ≡ Some y) × (x ≡ cap y) = value_exact (value_of h.exact) x (ends h.exact h.sound h.shown_is) in
    record {
      value = y.0;
      shown_is = y.2;
      is = from_end text s y.0 h (subst (λ o. IsSomeAnd o (λ z. y.0 ≡ z)) (sym y.1) refl);
      only = λ other d. subst (λ o. IsSomeAnd o (λ z. other ≡ z)) y.1 (at_end text s other h d);
    }

pub Follows-none : (text : List ℕ) (s : Reading) → Follows text s → ((r : Exact) → IsSound r → s ≡ shown r → None ≡ option_map cap (value_of r)) → (value : ℕ) → ¬ IsDuration text value
Follows-none text s h ends value d = value_none (value_of h.exact) (λ x. value ≡ x) (ends h.exact h.sound h.shown_is) (at_end text s value h d)
