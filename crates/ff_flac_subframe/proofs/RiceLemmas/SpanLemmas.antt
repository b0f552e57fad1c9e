use Rattle.std.proofs.Common.{◌≡◌, ℕ, zero, suc, ◌+◌, ◌-◌, ◌*◌, ◌/◌, ◌%◌, ◌^◌, ◌<◌, ◌≤◌, min, max, List, [], ◌∷◌, ◌++◌, length, refl, sym, ap, ◌∙◌, subst, arith, inl, inr}
use Rattle.std.specs.Option.{IfSome}
use Rattle.std.specs.List.{range_with_len, AllByRecursion}
use Rattle.std.proofs.lemmas.Bool.{cases_lt}
use Rattle.std.proofs.lemmas.List.{length-append}
use Rattle.std.proofs.lemmas.List.Sums.{sum_by-cons, sum_by-append}
use Rattle.std.proofs.lemmas.Nat.{pow_pos, shr_split, shr-shr, mod_below}
use Rattle.std.proofs.Math.Nat.{mul-le-mul_left, pow-le-pow_right}
use Rattle.ff_flac_subframe.specs.rice.Rice.{quotients, part_cost, parameters, count_of, best_k, best_cost}
use Rattle.ff_flac_subframe.specs.laws.rice.Columns.{lowest}
use Rattle.ff_flac_subframe.specs.laws.rice.Spans.{IsLowEnd, IsHighEnd, Spans}
use Rattle.ff_flac_subframe.proofs.RiceLemmas.LeastLemmas.{least_is_lowest, least_is, first_is_least}
use Rattle.ff_flac_subframe.proofs.RiceLemmas.Costs.{best_k_is}
use Rattle.ff_flac_subframe.proofs.RiceLemmas.PartLemmas.{best_k_within, count_within, pair_parts}

-- ---- what a value's quotient loses from one parameter to the next

pub half_bounds : (k u : ℕ) → (2 * (u / 2 ^ (k + 1)) ≤ u / 2 ^ k) × (u / 2 ^ k ≤ 2 * (u / 2 ^ (k + 1)) + 1)
half_bounds k u =
    let e : u / 2 ^ k / 2 ≡ u / 2 ^ (k + 1) = shr-shr u k 1 in
    (omega (arith, e), omega (arith, e))

each_up : (k u : ℕ) → 2 * (2 ^ k * (u / 2 ^ k)) ≤ 2 * (2 ^ k * (u / 2 ^ (k + 1))) + (u + 2 ^ k)
each_up k u =
    let P : ℕ = 2 ^ k in
    let q : ℕ = u / 2 ^ k in
    let h : ℕ = u / 2 ^ (k + 1) in
    let more : P * q ≤ P * (2 * h + 1) = mul-le-mul_left P (half_bounds k u).1 in
    let split : q * P + u % P ≡ u = shr_split u k in
    omega (arith, more, split)

each_down : (k u : ℕ) → 2 * (2 ^ k * (u / 2 ^ (k + 1))) + u ≤ 2 * (2 ^ k * (u / 2 ^ k)) + 2 ^ k
each_down k u =
    let P : ℕ = 2 ^ k in
    let q : ℕ = u / 2 ^ k in
    let h : ℕ = u / 2 ^ (k + 1) in
    let less : P * (2 * h) ≤ P * q = mul-le-mul_left P (half_bounds k u).0 in
    let split : q * P + u % P ≡ u = shr_split u k in
    let low : u % P < P = mod_below u P (pow_pos k) in
    omega (arith, less, split, low)

all_up : (k : ℕ) (us : List ℕ) → 2 * (2 ^ k * quotients k us) ≤ 2 * (2 ^ k * quotients (k + 1) us) + (quotients 0 us + length us * 2 ^ k)
all_up k [] = omega arith
all_up k (u ∷ us) =
    let whole : u / 2 ^ 0 ≡ u = omega arith in
    let a : 2 ^ k * quotients k (u ∷ us) ≡ 2 ^ k * (u / 2 ^ k) + 2 ^ k * quotients k us = ap (λ n. 2 ^ k * n) (sum_by-cons (λ u. u / 2 ^ k) u us) ∙ omega arith in
    let b : 2 ^ k * quotients (k + 1) (u ∷ us) ≡ 2 ^ k * (u / 2 ^ (k + 1)) + 2 ^ k * quotients (k + 1) us = ap (λ n. 2 ^ k * n) (sum_by-cons (λ u. u / 2 ^ (k + 1)) u us) ∙ omega arith in
    let s : quotients 0 (u ∷ us) ≡ u / 2 ^ 0 + quotients 0 us = sum_by-cons (λ u. u / 2 ^ 0) u us in
    omega (arith, a, b, s, whole, each_up k u, all_up k us)

all_down : (k : ℕ) (us : List ℕ) → 2 * (2 ^ k * quotients (k + 1) us) + quotients 0 us ≤ 2 * (2 ^ k * quotients k us) + length us * 2 ^ k
all_down k [] = omega arith
all_down k (u ∷ us) =
    let whole : u / 2 ^ 0 ≡ u = omega arith in
    let a : 2 ^ k * quotients k (u ∷ us) ≡ 2 ^ k * (u / 2 ^ k) + 2 ^ k * quotients k us = ap (λ n. 2 ^ k * n) (sum_by-cons (λ u. u / 2 ^ k) u us) ∙ omega arith in
    let b : 2 ^ k * quotients (k + 1) (u ∷ us) ≡ 2 ^ k * (u / 2 ^ (k + 1)) + 2 ^ k * quotients (k + 1) us = ap (λ n. 2 ^ k * n) (sum_by-cons (λ u. u / 2 ^ (k + 1)) u us) ∙ omega arith in
    let s : quotients 0 (u ∷ us) ≡ u / 2 ^ 0 + quotients 0 us = sum_by-cons (λ u. u / 2 ^ 0) u us in
    omega (arith, a, b, s, whole, each_down k u, all_down k us)

-- a factor is taken away
pub le_of : (k a b : ℕ) → 2 ^ k * a ≤ 2 ^ k * b → a ≤ b
le_of k a b h = elim (cases_lt b a) [
  | inl lt ↦
      let more : 2 ^ k * (b + 1) ≤ 2 ^ k * a = mul-le-mul_left (2 ^ k) (omega (arith, lt)) in
      absurd (omega (arith, more, h, pow_pos k))
  | inr ge ↦ ge
]

-- few values: the next parameter costs no less
step_up : (k : ℕ) (us : List ℕ) → quotients 0 us ≤ length us * 2 ^ k → part_cost 0 k us ≤ part_cost 0 (k + 1) us
step_up k us h =
    let both : 2 ^ k * quotients k us ≤ 2 ^ k * (quotients (k + 1) us + length us) = omega (arith, all_up k us, h) in
    let less : quotients k us ≤ quotients (k + 1) us + length us = le_of k (quotients k us) (quotients (k + 1) us + length us) both in
    omega (arith, less)

-- many: it costs no more
step_down : (k : ℕ) (us : List ℕ) → 3 * (length us * 2 ^ k) ≤ quotients 0 us → part_cost 0 (k + 1) us ≤ part_cost 0 k us
step_down k us h =
    let both : 2 ^ k * (quotients (k + 1) us + length us) ≤ 2 ^ k * quotients k us = omega (arith, all_down k us, h) in
    let less : quotients (k + 1) us + length us ≤ quotients k us = le_of k (quotients (k + 1) us + length us) (quotients k us) both in
    omega (arith, less)

pub falls_to : (f : ℕ → ℕ) (low n j : ℕ) → ((k : ℕ) → k < low → f (k + 1) ≤ f k) → j + n ≡ low → f low ≤ f j
falls_to f low zero j h e =
    let is : j ≡ low = omega (arith, e) in
    omega (arith, ap f is)
falls_to f low (suc n) j h e = omega (arith, falls_to f low n (j + 1) h (omega (arith, e)), h j (omega (arith, e)))

pub rises_from : (f : ℕ → ℕ) (from n : ℕ) → ((k : ℕ) → from ≤ k → k + 1 < 31 → f k ≤ f (k + 1)) → from + n < 31 → f from ≤ f (from + n)
rises_from f from zero h l =
    let is : from ≡ from + 0 = omega arith in
    omega (arith, ap f is)
rises_from f from (suc n) h l =
    let is : from + n + 1 ≡ from + suc n = omega arith in
    omega (arith, rises_from f from n h (omega (arith, l)), h (from + n) (omega arith) (omega (arith, l)), ap f is)

-- ---- the lowest of some numbers

pub record IsLowest (f : ℕ → ℕ) (low more cost : ℕ) : Type 0 where
  pub at : ℕ
  pub from : low ≤ at
  pub within : at ≤ low + more
  pub is : cost ≡ f at
  pub below : (j : ℕ) → low ≤ j → j ≤ low + more → cost ≤ f j

pub lowest-is : (f : ℕ → ℕ) (low more : ℕ) → IsLowest f low more (lowest f low more)
unfolding lowest
lowest-is f low zero = record {
  at = low;
  from = omega arith;
  within = omega arith;
  is = refl;
  below = λ j a b. let e : low ≡ j = omega (arith, a, b) in omega (arith, ap f e);
}
lowest-is f low (suc more) =
    let old = lowest-is f low more in
    let new : ℕ = f (low + suc more) in
    let others : (j : ℕ) → low ≤ j → j ≤ low + suc more → min (lowest f low more) new ≤ f j = λ j a b. elim (cases_lt j (low + suc more)) [
      | inl lt ↦ omega (arith, old.below j a (omega (arith, lt)))
      | inr ge ↦ let e : low + suc more ≡ j = omega (arith, ge, b) in omega (arith, ap f e)
    ] in
    elim (cases_lt (lowest f low more) new) [
      | inl lt ↦ record { at = old.at; from = old.from; within = omega (arith, old.within); is = omega (arith, lt, old.is); below = others }
      | inr ge ↦ record { at = low + suc more; from = omega arith; within = omega arith; is = omega (arith, ge); below = others }
    ]

pub lowest-one : (f : ℕ → ℕ) (low : ℕ) → lowest f low 0 ≡ f low
unfolding lowest
lowest-one f low = refl

pub lowest-more : (f : ℕ → ℕ) (low more : ℕ) → lowest f low (suc more) ≡ min (lowest f low more) (f (low + suc more))
unfolding lowest
lowest-more f low more = refl

-- ---- the best parameter of a partition is as good as one of its span

pub at_all : (P : ℕ → Type 0) (a n k : ℕ) → AllByRecursion P (range_with_len a n) → a ≤ k → k < a + n → P k
at_all P a zero k h g l = absurd (omega (arith, g, l))
at_all P a (suc n) k h g l = elim (cases_lt a k) [
  | inl lt ↦ at_all P (a + 1) n k h.1 (omega (arith, lt)) (omega (arith, l))
  | inr ge ↦ let e : a ≡ k = omega (arith, ge, g) in subst P e h.0
]

pub best_below_all : (method : ℕ) (part : List ℕ) (j : ℕ) → j < count_of method → part_cost 0 (best_k method part) part ≤ part_cost 0 j part
unfolding parameters
best_below_all method part j h =
    let f : ℕ → ℕ = λ k. part_cost (4 + method) k part in
    let b : ℕ = best_k method part in
    let all : AllByRecursion (λ z. f b ≤ f z) (range_with_len 0 (count_of method)) =
    subst (λ o. IfSome o (λ a. AllByRecursion (λ z. f a ≤ f z) (range_with_len 0 (count_of method)))) (best_k_is method part) (least_is_lowest f (range_with_len 0 (count_of method))) in
    let here : f b ≤ f j = at_all (λ z. f b ≤ f z) 0 (count_of method) j all (omega arith) (omega (arith, h)) in
    omega (arith, here)

pub spanned : (method low high top : ℕ) (part : List ℕ) → Spans low high part → low < top → top ≤ high → top ≤ count_of method
    → (top < count_of method → top ≡ high) → 4 + method + lowest (λ k. part_cost 0 k part) low (top - 1 - low) ≡ best_cost method part
spanned method low high top part spans some_left within fits full =
    let f : ℕ → ℕ = λ k. part_cost 0 k part in
    let found = lowest-is f low (top - 1 - low) in
    let b : ℕ = best_k method part in
    let bound : b < count_of method = best_k_within method part in
    let few : count_of method ≤ 31 = count_within method in
    let up : f b ≤ f found.at = best_below_all method part found.at (omega (arith, found.within, fits, some_left)) in
    let at_low : lowest f low (top - 1 - low) ≤ f low = found.below low (omega arith) (omega arith) in
    let at_top : lowest f low (top - 1 - low) ≤ f (top - 1) = found.below (top - 1) (omega (arith, some_left)) (omega (arith, some_left)) in
    let down : lowest f low (top - 1 - low) ≤ f b = elim (cases_lt b low) [
      | inl lt ↦ omega (arith, at_low, falls_to f low (low - b) b (λ k h. step_down k part (spans.below k h)) (omega (arith, lt)))
      | inr ge ↦ elim (cases_lt b top) [
        | inl inside ↦ found.below b ge (omega (arith, inside, ge))
        | inr above ↦
            let e : top ≡ high = full (omega (arith, above, bound)) in
            let from : ℕ = top - 1 in
            let reach : from + (b - from) ≡ b = omega (arith, above) in
            let rise : f from ≤ f (from + (b - from)) = rises_from f from (b - from) (λ k h l. step_up k part (spans.above k (omega (arith, h, e, some_left)) l)) (omega (arith, reach, bound, few)) in
            omega (arith, at_top, rise, ap f reach)
      ]
    ] in
    omega (arith, up, found.is, down)

pub best_by_ends : (method b : ℕ) (part : List ℕ) → b < count_of method → ((j : ℕ) → j < b → part_cost 0 b part < part_cost 0 j part)
    → ((j : ℕ) → b ≤ j → j < count_of method → part_cost 0 b part ≤ part_cost 0 j part) → b ≡ best_k method part
unfolding best_k parameters
best_by_ends method b part within before behind =
    let f : ℕ → ℕ = λ k. part_cost (4 + method) k part in
    sym (least_is f (range_with_len 0 (count_of method)) 0 b
    (first_is_least f b (count_of method) within (λ j l. omega (arith, before j l)) (λ j g l. omega (arith, behind j g l))))

-- where the best one in the span, or anywhere, is not at its low end, it is the first of the best
pub best_in_span : (method low high top b : ℕ) (part : List ℕ) → IsLowEnd low (length part) (quotients 0 part) → IsHighEnd high (length part) (quotients 0 part)
    → low < b → top ≡ min high (count_of method) → b < top → ((j : ℕ) → low ≤ j → j < b → part_cost 0 b part < part_cost 0 j part)
    → ((j : ℕ) → b ≤ j → j < top → part_cost 0 b part ≤ part_cost 0 j part) → b ≡ best_k method part
best_in_span method low high top b part below above over e within before behind =
    let f : ℕ → ℕ = λ k. part_cost 0 k part in
    best_by_ends method b part (omega (arith, within, e))
    (λ j l. elim (cases_lt j low) [
      | inl lt ↦ omega (arith, before low (omega arith) over, falls_to f low (low - j) j (λ k m. step_down k part (below k m)) (omega (arith, lt)))
      | inr ge ↦ before j ge l
    ])
    (λ j g l. elim (cases_lt j top) [
      | inl inside ↦ behind j g inside
      | inr out ↦
          let from : ℕ = high - 1 in
          let reach : from + (j - from) ≡ j = omega (arith, out, e, l) in
          let rise : f from ≤ f (from + (j - from)) = rises_from f from (j - from) (λ k m last. step_up k part (above k (omega (arith, m)) last)) (omega (arith, reach, l, count_within method)) in
          omega (arith, behind (high - 1) (omega (arith, within, e)) (omega (arith, out, e, l, within)), rise, ap f reach)
    ])

-- ---- ends that serve

pub low_reached : (low len total : ℕ) → 0 < low → 3 * (len * 2 ^ (low - 1)) ≤ total → IsLowEnd low len total
low_reached low len total some_left h = λ k l.
    let p : 2 ^ k ≤ 2 ^ (low - 1) = pow-le-pow_right (omega arith) (omega (arith, l)) in
    let m : len * 2 ^ k ≤ len * 2 ^ (low - 1) = mul-le-mul_left len p in
    omega (arith, m, h)

pub low_none : (low len total : ℕ) → low ≡ 0 → IsLowEnd low len total
low_none low len total e = λ k l. absurd (omega (arith, l, e))

pub high_reached : (high len total : ℕ) → 0 < high → total ≤ len * 2 ^ (high - 1) → IsHighEnd high len total
high_reached high len total some_left h = λ k l last.
    let p : 2 ^ (high - 1) ≤ 2 ^ k = pow-le-pow_right (omega arith) (omega (arith, l)) in
    let m : len * 2 ^ (high - 1) ≤ len * 2 ^ k = mul-le-mul_left len p in
    omega (arith, m, h)

pub high_all : (high len total : ℕ) → 31 ≤ high → IsHighEnd high len total
high_all high len total e = λ k l last. absurd (omega (arith, l, last, e))

-- what serves so many values with one sum, and so many others with the least and with the greatest sum, serves this partition
pub record Served (len total size least most : ℕ) (part : List ℕ) : Type 0 where
  pub by_ends : (low high : ℕ) → IsLowEnd low len total → IsHighEnd high len total → IsLowEnd low size least → IsHighEnd high size most → Spans low high part

pub served_first : (size least most total : ℕ) (part : List ℕ) → total ≡ quotients 0 part → AllByRecursion (Served (length part) total size least most) (part ∷ [])
served_first size least most total part e =
    (record { by_ends = λ low high a b _ _. record { below = λ k l. omega (arith, a k l, e); above = λ k l last. omega (arith, b k l last, e) } }, tt)

served_wider : (len total size least most new_least new_most : ℕ) (part : List ℕ) → new_least ≤ least → most ≤ new_most → Served len total size least most part → Served len total size new_least new_most part
served_wider len total size least most new_least new_most part a b s =
    record { by_ends = λ low high c d e f. s.by_ends low high c d (λ k l. omega (arith, e k l, a)) (λ k l last. omega (arith, f k l last, b)) }

all_wider : (len total size least most new_least new_most : ℕ) (parts : List (List ℕ)) → new_least ≤ least → most ≤ new_most
    → AllByRecursion (Served len total size least most) parts → AllByRecursion (Served len total size new_least new_most) parts
all_wider len total size least most new_least new_most [] a b h = tt
all_wider len total size least most new_least new_most (p ∷ parts) a b h =
    (served_wider len total size least most new_least new_most p a b h.0, all_wider len total size least most new_least new_most parts a b h.1)

all_and : (P : List ℕ → Type 0) (xs : List (List ℕ)) (x : List ℕ) → AllByRecursion P xs → P x → AllByRecursion P (xs ++ (x ∷ []))
all_and P [] x h p = (p, tt)
all_and P (y ∷ xs) x h p = (h.0, all_and P xs x h.1 p)

pub served_more : (len total size least most new_least new_most other : ℕ) (part : List ℕ) → length part ≡ size → other ≡ quotients 0 part → new_least ≡ min least other → new_most ≡ max most other
    → (parts : List (List ℕ)) → AllByRecursion (Served len total size least most) parts → AllByRecursion (Served len total size new_least new_most) (parts ++ (part ∷ []))
served_more len total size least most new_least new_most other part n e a b parts h =
    all_and (Served len total size new_least new_most) parts part
    (all_wider len total size least most new_least new_most parts (omega (arith, a)) (omega (arith, b)) h)
    (record {
      by_ends = λ low high _ _ f g. record {
        below = λ k l. omega (arith, f k l, e, a, ap (λ m. m * 2 ^ k) n);
        above = λ k l last. omega (arith, g k l last, e, b, ap (λ m. m * 2 ^ k) n);
      };
    })

pub served_all : (len total size least most low high : ℕ) → IsLowEnd low len total → IsHighEnd high len total → IsLowEnd low size least → IsHighEnd high size most
    → (parts : List (List ℕ)) → AllByRecursion (Served len total size least most) parts → AllByRecursion (Spans low high) parts
served_all len total size least most low high a b c d [] h = tt
served_all len total size least most low high a b c d (p ∷ parts) h = (h.0.by_ends low high a b c d, served_all len total size least most low high a b c d parts h.1)

spans_both : (low high : ℕ) (p q : List ℕ) → Spans low high p → Spans low high q → Spans low high (p ++ q)
spans_both low high p q a b =
    let len : length (p ++ q) ≡ length p + length q = length-append p q in
    let total : quotients 0 (p ++ q) ≡ quotients 0 p + quotients 0 q = sum_by-append (λ u. u / 2 ^ 0) p q in
    record {
      below = λ k l. omega (arith, a.below k l, b.below k l, total, ap (λ n. n * 2 ^ k) len);
      above = λ k l last. omega (arith, a.above k l last, b.above k l last, total, ap (λ n. n * 2 ^ k) len);
    }

pub spans_pairs : (low high : ℕ) (parts : List (List ℕ)) → AllByRecursion (Spans low high) parts → AllByRecursion (Spans low high) (pair_parts parts)
spans_pairs low high [] h = tt
spans_pairs low high (p ∷ []) h = tt
spans_pairs low high (p ∷ q ∷ parts) h = (spans_both low high p q h.0 h.1.0, spans_pairs low high parts h.1.1)
