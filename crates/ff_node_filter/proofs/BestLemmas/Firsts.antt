-- The best input is the first of those that haven't closed.
use Rattle.std.proofs.Common.{◌≡◌, ℕ, zero, suc, ◌<◌, inl, inr, ℤ, Bool, true, false, cond, Option, None, Some, List, [], ◌∷◌, length, refl, ap, sym, ◌∙◌, subst, arith}
use Rattle.std.specs.Prelude.{All, unwrap_or}
use Rattle.std.proofs.lemmas.Bool.{cases_Bool, cases_eq, cases_lt}
use Rattle.std.proofs.lemmas.Cmp.{tied_itself, alike_right}
use Rattle.std.specs.Ordering.{is_lt, ordering_reverse}
use Rattle.std.specs.declared.cmp.Ordering.{Ordering}
use Rattle.std.specs.declared.cmp.Ordering.TheVariants.{Less, Equal, Greater}
use Rattle.ff_time.specs.Fraction.{Fraction, IsBase, IsBase-unit}
use Rattle.ff_time.specs.laws.Laws.{Moment, moment_cmp}
use Rattle.ff_time.proofs.TimeOrder.{moment_cmp_total}
use Rattle.ff_net.specs.Ways.{Flow}
use Rattle.ff_node_filter.specs.best.Bests.{base_at, end_in, closed_in, is_earlier, earlier_of, earliest_to, best_of}
use Rattle.ff_node_filter.specs.laws.best.Laws.{ends_before, IsOpen, IsFirst}

less_is : (o : Ordering) → is_lt o ≡ true → o ≡ Less
less_is Less e = refl
less_is Equal e = cc
less_is Greater e = cc

less_lt : (o : Ordering) → o ≡ Less → is_lt o ≡ true
less_lt Less e = refl
less_lt Equal e = cc
less_lt Greater e = cc

never_before_itself : (o : Option ℤ) (t : Fraction) → IsBase t → is_earlier o t o t ≡ false
never_before_itself None t b = refl
never_before_itself (Some e) t b = ap is_lt (tied_itself moment_cmp_total (record { count = e; base = t; positive = b }))

before_both : (a b c : Option ℤ) (s t u : Fraction) → IsBase s → IsBase t → IsBase u → is_earlier a s b t ≡ true → is_earlier b t c u ≡ true → is_earlier a s c u ≡ true
before_both a None c s t u p q r e f = cc
before_both a (Some y) None s t u p q r e f = cc
before_both None (Some y) (Some z) s t u p q r e f = refl
before_both (Some x) (Some y) (Some z) s t u p q r e f =
    let l : Moment = record { count = x; base = s; positive = p } in
    let m : Moment = record { count = y; base = t; positive = q } in
    let n : Moment = record { count = z; base = u; positive = r } in
    less_lt (moment_cmp l n) (moment_cmp_total.trans l m n (less_is (moment_cmp l m) e) (less_is (moment_cmp m n) f))

before_later_at : (l m n : Moment) (o : Ordering) → moment_cmp n m ≡ o → moment_cmp l m ≡ Less → is_lt o ≡ false → moment_cmp l n ≡ Less
before_later_at l m n Less k e f = cc
before_later_at l m n Equal k e f = alike_right moment_cmp_total n m l k ∙ e
before_later_at l m n Greater k e f = moment_cmp_total.trans l m n e (moment_cmp_total.antisymm m n ∙ ap ordering_reverse k)

-- what is before one is before each that isn't before that
before_later : (a b c : Option ℤ) (s t u : Fraction) → IsBase s → IsBase t → IsBase u → is_earlier a s b t ≡ true → is_earlier c u b t ≡ false → is_earlier a s c u ≡ true
before_later a None c s t u p q r e f = cc
before_later a (Some y) None s t u p q r e f = cc
before_later None (Some y) (Some z) s t u p q r e f = refl
before_later (Some x) (Some y) (Some z) s t u p q r e f =
    let l : Moment = record { count = x; base = s; positive = p } in
    let m : Moment = record { count = y; base = t; positive = q } in
    let n : Moment = record { count = z; base = u; positive = r } in
    less_lt (moment_cmp l n) (before_later_at l m n (moment_cmp n m) refl (less_is (moment_cmp l m) e) f)

not_both : (b : Bool) → b ≡ true → b ≡ false → ⊥
not_both b e f = cc

module _ (base : ℕ → Fraction) (ends : ℕ → Option ℤ) (closed : ℕ → Bool) (is_base : (p : ℕ) → IsBase (base p)) where
  abbrev before : ℕ → ℕ → Bool
  before p q = is_earlier (ends p) (base p) (ends q) (base q)

  -- of the first n inputs this one is the first, or all have closed
  data Among (n : ℕ) (o : Option ℕ) : Type 0 where
    one : (i : ℕ) → o ≡ Some i → i < n → closed i ≡ false → ((q : ℕ) → q < n → closed q ≡ false → before q i ≡ false)
        → ((q : ℕ) → q < i → closed q ≡ false → before i q ≡ true) → Among n o
    none : o ≡ None → ((q : ℕ) → q < n → closed q ≡ true) → Among n o

  open_skip : (n q : ℕ) → q < suc n → closed q ≡ false → closed n ≡ true → q < n
  open_skip n q lt o c = elim (cases_eq q n) as (λ _. q < n) [
    | inl e ↦ absurd (not_both (closed n) c (subst (λ k. closed k ≡ false) e o))
    | inr d ↦ omega (arith, lt, d)
  ]

  -- input n has closed
  skips : (n : ℕ) (o : Option ℕ) → closed n ≡ true → Among n o → Among (suc n) o
  skips n o c (one i e lt op none_before lower) = one i e (omega (arith, lt)) op (λ q ql qo. none_before q (open_skip n q ql qo c) qo) lower
  skips n o c (none e all) = none e (λ q ql. elim (cases_eq q n) as (λ _. closed q ≡ true) [
    | inl s ↦ ap closed s ∙ c
    | inr d ↦ all q (omega (arith, ql, d))
  ])

  turns : (n i : ℕ) (b : Bool) → before n i ≡ b → closed n ≡ false → i < n → closed i ≡ false → ((q : ℕ) → q < n → closed q ≡ false → before q i ≡ false)
      → ((q : ℕ) → q < i → closed q ≡ false → before i q ≡ true) → Among (suc n) (Some (cond b n i))
  turns n i true e c lt op none_before lower = one n refl (omega arith) c
      (λ q ql qo. elim (cases_eq q n) as (λ _. before q n ≡ false) [
        | inl s ↦ subst (λ k. before k n ≡ false) (sym s) (never_before_itself (ends n) (base n) (is_base n))
        | inr d ↦ elim (cases_Bool (before q n)) as (λ _. before q n ≡ false) [
          | inl t ↦ absurd (not_both (before q i) (before_both (ends q) (ends n) (ends i) (base q) (base n) (base i) (is_base q) (is_base n) (is_base i) t e) (none_before q (omega (arith, ql, d)) qo))
          | inr f ↦ f
        ]
      ])
      (λ q ql qo. before_later (ends n) (ends i) (ends q) (base n) (base i) (base q) (is_base n) (is_base i) (is_base q) e (none_before q ql qo))
  turns n i false e c lt op none_before lower = one i refl (omega (arith, lt)) op
      (λ q ql qo. elim (cases_eq q n) as (λ _. before q i ≡ false) [
        | inl s ↦ ap (λ k. before k i) s ∙ e
        | inr d ↦ none_before q (omega (arith, ql, d)) qo
      ]) lower

  -- input n goes on
  goes_on : (n : ℕ) (o : Option ℕ) → closed n ≡ false → Among n o → Among (suc n) (Some (earlier_of base ends closed o n))
  goes_on n o c (one i e lt op none_before lower) = subst (λ (r : Option ℕ). Among (suc n) (Some (earlier_of base ends closed r n))) (sym e)
      (turns n i (before n i) refl c lt op none_before lower)
  goes_on n o c (none e all) = subst (λ (r : Option ℕ). Among (suc n) (Some (earlier_of base ends closed r n))) (sym e)
      (one n refl (omega arith) c
      (λ q ql qo. elim (cases_eq q n) as (λ _. before q n ≡ false) [
        | inl s ↦ subst (λ k. before k n ≡ false) (sym s) (never_before_itself (ends n) (base n) (is_base n))
        | inr d ↦ absurd (not_both (closed q) (all q (omega (arith, ql, d))) qo)
      ])
      (λ q ql qo. absurd (not_both (closed q) (all q ql) qo)))

  steps_by : (n : ℕ) (o : Option ℕ) (b : Bool) → closed n ≡ b → Among n o → Among (suc n) (cond b o (Some (earlier_of base ends closed o n)))
  steps_by n o true c a = skips n o c a
  steps_by n o false c a = goes_on n o c a

  among : (n : ℕ) → Among n (earliest_to base ends closed n)
  among zero = none refl (λ q lt. absurd (omega (arith, lt)))
  among (suc n) = steps_by n (earliest_to base ends closed n) (closed n) refl (among n)

base_there : (bases : List Fraction) → All IsBase bases → (p : ℕ) → IsBase (base_at bases p)
base_there [] h p = IsBase-unit 1 (omega arith) (omega arith)
base_there (b ∷ bs) h zero = h 0 b (omega arith)
base_there (b ∷ bs) h (suc p) = base_there bs (λ k d lt. h (suc k) d (omega (arith, lt))) p

pub first_of : (bases : List Fraction) (ss : List Flow) (was p : ℕ) → All IsBase bases → IsOpen bases ss p → IsFirst bases ss (best_of bases ss was)
first_of bases ss was p h o = elim (among (base_at bases) (end_in ss) (closed_in ss) (base_there bases h) (length bases)) as (λ _. IsFirst bases ss (best_of bases ss was)) [
  | one i e lt op none_before lower ↦ subst (λ (r : Option ℕ). IsFirst bases ss (unwrap_or r was)) (sym e) (record {
    is_open = record { there = lt; open_still = op };
    none_before = λ q k. none_before q k.there k.open_still;
    before_lower = λ q ql k. lower q ql k.open_still;
  })
  | none e all ↦ absurd (not_both (closed_in ss p) (all p o.there) o.open_still)
]

-- the answer that it is, whatever the bases
found : (base : ℕ → Fraction) (ends : ℕ → Option ℤ) (closed : ℕ → Bool) (n : ℕ) → ((p : ℕ) → p < n → closed p ≡ true) → earliest_to base ends closed n ≡ None
found base ends closed zero all = refl
found base ends closed (suc n) all = rw (all n (omega arith)) (found base ends closed n (λ p lt. all p (omega (arith, lt))))

pub stays : (bases : List Fraction) (ss : List Flow) (was : ℕ) → ((p : ℕ) → IsOpen bases ss p → ⊥) → best_of bases ss was ≡ was
stays bases ss was h = ap (λ (o : Option ℕ). unwrap_or o was) (found (base_at bases) (end_in ss) (closed_in ss) (length bases) (λ p lt. elim (cases_Bool (closed_in ss p)) as (λ _. closed_in ss p ≡ true) [
  | inl t ↦ t
  | inr f ↦ absurd (h p (record { there = lt; open_still = f }))
]))

-- there is one first input
pub one_first : (bases : List Fraction) (ss : List Flow) (i j : ℕ) → IsFirst bases ss i → IsFirst bases ss j → i ≡ j
one_first bases ss i j f g = elim (cases_lt i j) as (λ _. i ≡ j) [
  | inl lt ↦ absurd (not_both (ends_before bases ss j i) (g.before_lower i lt f.is_open) (f.none_before j g.is_open))
  | inr ge ↦ elim (cases_lt j i) as (λ _. i ≡ j) [
    | inl lt ↦ absurd (not_both (ends_before bases ss i j) (f.before_lower j lt g.is_open) (g.none_before i f.is_open))
    | inr le ↦ omega (arith, ge, le)
  ]
]
