-- A text has one value, and a value that has a text has a shortest one.
use Rattle.std.proofs.Common.{◌≡◌, ℕ, zero, suc, ◌<◌, ◌≤◌, ◌⊎◌, inl, inr, Option, Some, None, IsSomeAnd, IfSome, List, [], ◌∷◌, length, sym, subst, ap, ◌∙◌, refl, arith}
use Rattle.std.proofs.lemmas.Bool.{cases_lt}
use Rattle.ff_time.specs.Duration.{IsDuration}
use Rattle.ff_time.specs.Reading.{Exact, first, second, third, decimals, scaled, done, IsSound, next_of, letter_of, value_of}
use Rattle.ff_time.specs.laws.Laws.{IsShortest}
use Rattle.ff_time.specs.declared.letter.Letter.{Letter}
use Rattle.ff_time.specs.declared.letter.Letter.TheVariants.{Digit, Colon, Point, S, M, U, Other}
use Rattle.ff_time.proofs.Letters.{IsLetter, IsLetter-letter_of}
use Rattle.ff_time.proofs.Tails.{Rest}
use Rattle.ff_time.proofs.Steps.{Rest-next, Rest-back}
use Rattle.ff_time.proofs.Ends.{Rest-end, Rest-ended}
use Rattle.ff_time.proofs.Room.{IsSound-next}
use Rattle.ff_time.proofs.Grammar.{spelling_in, spelling_out}

-- ---- one value

same_some : (o : Option ℕ) (v w : ℕ) → IsSomeAnd o (λ x. v ≡ x) → IsSomeAnd o (λ x. w ≡ x) → v ≡ w
same_some (Some x) v w p q = p ∙ sym q
same_some None v w p q = absurd p

same_next : (o : Option Exact) (text : List ℕ) (v w : ℕ) → ((s : Exact) → Rest s text v → Rest s text w → v ≡ w) → IsSomeAnd o (λ s. Rest s text v) → IsSomeAnd o (λ s. Rest s text w) → v ≡ w
same_next (Some s) text v w same p q = same s p q
same_next None text v w same p q = absurd p

Rest-unique : (text : List ℕ) (r : Exact) (v w : ℕ) → Rest r text v → Rest r text w → v ≡ w
Rest-unique [] r v w p q = same_some (value_of r) v w (Rest-end r v p) (Rest-end r w q)
Rest-unique (b ∷ text) r v w p q = same_next (next_of r (letter_of b)) text v w (λ s x y. Rest-unique text s v w x y) (Rest-next r b text v p) (Rest-next r b text w q)

pub IsDuration-unique : (text : List ℕ) (v w : ℕ) → IsDuration text v → IsDuration text w → v ≡ w
IsDuration-unique text v w p q = Rest-unique text (first 0 0) v w (spelling_in text v p.spelling) (spelling_in text w q.spelling)

-- ---- searching

abbrev Decided : Type 0 → Type 0
Decided P = P ⊎ ¬ P

below_or : (n k : ℕ) → k < suc n → (k < n) ⊎ (k ≡ n)
below_or n k h = elim (cases_lt k n) [ inl lt ↦ inl lt | inr le ↦ inr (omega arith) ]

FirstBelow : (ℕ → Type 0) → ℕ → Type 0
FirstBelow P n = (m : ℕ) × (m < n) × P m × ((k : ℕ) → k < m → ¬ P k)

one_more_below : (P : ℕ → Type 0) (n : ℕ) → ((k : ℕ) → k < n → ¬ P k) → ¬ P n → (k : ℕ) → k < suc n → ¬ P k
one_more_below P n none not k h p = elim (below_or n k h) [ inl lt ↦ none k lt p | inr e ↦ not (subst P e p) ]

-- the first number with a property, among those below n
first_below : (P : ℕ → Type 0) (n : ℕ) → ((k : ℕ) → Decided (P k)) → FirstBelow P n ⊎ ((k : ℕ) → k < n → ¬ P k)
unfolding FirstBelow
first_below P zero d = inr (λ k h p. omega (arith, h))
first_below P (suc n) d =
    elim (first_below P n d) [
      | inl f ↦ inl (f.0, omega (arith, f.1), f.2, f.3)
      | inr none ↦ elim (d n) [
        | inl p ↦ inl (n, omega arith, p, none)
        | inr not ↦ inr (one_more_below P n none not)
      ]
    ]

-- ---- texts of a given length

Found : ℕ → Exact → ℕ → Type 0
Found n r value = (text : List ℕ) × (length text ≡ n) × Rest r text value

nat_decided : (m n : ℕ) → Decided (m ≡ n)
nat_decided m n =
    elim (cases_lt m n) [
      | inl lt ↦ inr (λ e. omega (arith, lt, e))
      | inr le ↦ elim (cases_lt n m) [ inl gt ↦ inr (λ e. omega (arith, gt, e)) | inr ge ↦ inl (omega arith) ]
    ]

some_decided : (o : Option ℕ) (v : ℕ) → Decided (IsSomeAnd o (λ x. v ≡ x))
some_decided (Some x) v = nat_decided v x
some_decided None v = inr (λ h. h)

found_none : (r : Exact) (v : ℕ) (text : List ℕ) → length text ≡ 0 → Rest r text v → IsSomeAnd (value_of r) (λ x. v ≡ x)
found_none r v [] e h = Rest-end r v h
found_none r v (b ∷ text) e h = absurd (omega (arith, e))

-- a byte past the letters leads nowhere
far_letter : (b : ℕ) (l : Letter) → 118 ≤ b → IsLetter b l → l ≡ Other
far_letter b (Digit d) h is = absurd (omega (arith, h, is.0.1))
far_letter b Colon h is = absurd (omega (arith, h, is))
far_letter b Point h is = absurd (omega (arith, h, is))
far_letter b S h is = absurd (omega (arith, h, is))
far_letter b M h is = absurd (omega (arith, h, is))
far_letter b U h is = absurd (omega (arith, h, is))
far_letter b Other h is = refl

other_next : (r : Exact) (P : Exact → Type 0) → ¬ IsSomeAnd (next_of r Other) P
other_next (first k n) P h = h
other_next (second f minutes k n) P h = h
other_next (third minutes k n) P h = h
other_next (decimals whole units k m) P h = h
other_next (scaled v) P h = h
other_next (done v) P h = h

far_next : (r : Exact) (b : ℕ) (P : Exact → Type 0) → 118 ≤ b → ¬ IsSomeAnd (next_of r (letter_of b)) P
far_next r b P h k = other_next r P (subst (λ l. IsSomeAnd (next_of r l) P) (far_letter b (letter_of b) h (IsLetter-letter_of b)) k)

next_decided : (o : Option Exact) (P : Exact → Type 0) → IfSome o IsSound → ((s : Exact) → IsSound s → Decided (P s)) → Decided (IsSomeAnd o P)
next_decided (Some s) P sound d = d s sound
next_decided None P sound d = inr (λ h. h)

found_on : (n : ℕ) (r : Exact) (v b : ℕ) (o : Option Exact) → IsSound r → next_of r (letter_of b) ≡ o → IsSomeAnd o (λ s. Found n s v) → Found (suc n) r v
unfolding Found
found_on n r v b (Some s) sound e f = (b ∷ f.0, ap suc f.1, Rest-back r b f.0 v sound (subst (λ o. IsSomeAnd o (λ x. Rest x f.0 v)) (sym e) f.2))
found_on n r v b None sound e f = absurd f

found_at : (n v : ℕ) (text : List ℕ) (o : Option Exact) → length text ≡ n → IsSomeAnd o (λ s. Rest s text v) → IsSomeAnd o (λ s. Found n s v)
unfolding Found
found_at n v text (Some s) e h = (text, e, h)
found_at n v text None e h = absurd h

found_first : (n : ℕ) (r : Exact) (v : ℕ) (text : List ℕ) → length text ≡ suc n → Rest r text v → (b : ℕ) × (b < 118) × IsSomeAnd (next_of r (letter_of b)) (λ s. Found n s v)
found_first n r v [] e h = absurd (omega (arith, e))
found_first n r v (b ∷ text) e h =
    let next : IsSomeAnd (next_of r (letter_of b)) (λ s. Found n s v) = found_at n v text (next_of r (letter_of b)) (omega (arith, e)) (Rest-next r b text v h) in
    elim (cases_lt b 118) [ inl lt ↦ (b, lt, next) | inr le ↦ absurd (far_next r b (λ s. Found n s v) le next) ]

found_decided : (n : ℕ) (r : Exact) (v : ℕ) → IsSound r → Decided (Found n r v)
unfolding Found FirstBelow
found_decided zero r v sound =
    elim (some_decided (value_of r) v) [
      | inl h ↦ inl ([], refl, Rest-ended r v sound h)
      | inr not ↦ inr (λ f. not (found_none r v f.0 f.1 f.2))
    ]
found_decided (suc n) r v sound =
    elim (first_below (λ b. IsSomeAnd (next_of r (letter_of b)) (λ s. Found n s v)) 118 (λ b. next_decided (next_of r (letter_of b)) (λ s. Found n s v) (IsSound-next r b sound) (λ s is. found_decided n s v is))) [
      | inl f ↦ inl (found_on n r v f.0 (next_of r (letter_of f.0)) sound refl f.2)
      | inr none ↦ inr (λ f. let b = found_first n r v f.0 f.1 f.2 in none b.0 b.1 b.2)
    ]

shortest_from : (text : List ℕ) (value : ℕ) → IsDuration text value → FirstBelow (λ n. Found n (first 0 0) value) (suc (length text)) → (short : List ℕ) × IsShortest short value
unfolding Found FirstBelow
shortest_from text value d f = (
  f.2.0,
  record {
    duration = record { short = omega (arith, f.1, f.2.1, d.short); spelling = spelling_out f.2.0 value f.2.2 };
    least = λ other o. elim (cases_lt (length other) f.0) [
      | inl lt ↦ absurd (f.3 (length other) lt (other, refl, spelling_in other value o.spelling))
      | inr le ↦ omega (arith, le, f.2.1)
    ];
  },
)

-- a value that has a text has a shortest one
pub shortest : (text : List ℕ) (value : ℕ) → IsDuration text value → (short : List ℕ) × IsShortest short value
unfolding Found
shortest text value d =
    elim (first_below (λ n. Found n (first 0 0) value) (suc (length text)) (λ n. found_decided n (first 0 0) value tt)) [
      | inl f ↦ shortest_from text value d f
      | inr none ↦ absurd (none (length text) (omega arith) (text, refl, spelling_in text value d.spelling))
    ]
