use Rattle.std.proofs.Common.{◌≡◌, ℕ, zero, suc, ◌+◌, ◌-◌, ◌*◌, ◌/◌, ◌%◌, ◌^◌, ◌<◌, ◌≤◌, Bool, true, false, List, [], ◌∷◌, ◌++◌, refl, sym, ap, ◌∙◌, subst, arith, cond, eqb, ltb, ◌⊎◌, inl, inr}
use Rattle.std.specs.List.{range_with_len, AllByRecursion, filter}
use Rattle.std.proofs.lemmas.Bool.{and_parts, and_from, eqb-true, eq-eqb, ltb-true, lt-ltb, cases_Bool, both_ways}
use Rattle.std.proofs.lemmas.List.{append-nil}
use Rattle.std.proofs.lemmas.List.Elements.{filter-append}
use Rattle.std.proofs.lemmas.Nat.{shr_split}
use Rattle.std.proofs.Math.Nat.{pow-suc}
use Rattle.ff_flac_subframe.specs.rice.Rice.{is_allowed, orders}
use Rattle.ff_flac_subframe.proofs.RiceLemmas.PartLemmas.{twice, range_below}

pub allowed_parts : (n order partition_order : ℕ) → is_allowed n order partition_order ≡ true → (n % 2 ^ partition_order ≡ 0) × (order < n / 2 ^ partition_order)
allowed_parts n order partition_order h =
    let p = and_parts (eqb (n % 2 ^ partition_order) 0) (ltb order (n / 2 ^ partition_order)) h in
    (eqb-true _ _ p.0, ltb-true _ _ p.1)

pub allowed_from : (n order partition_order : ℕ) → n % 2 ^ partition_order ≡ 0 → order < n / 2 ^ partition_order → is_allowed n order partition_order ≡ true
allowed_from n order partition_order a b = and_from (eqb (n % 2 ^ partition_order) 0) (ltb order (n / 2 ^ partition_order)) (eq-eqb _ _ a) (lt-ltb _ _ b)

pub allowed_zero : (n order : ℕ) → order < n → is_allowed n order 0 ≡ true
allowed_zero n order h = allowed_from n order 0 (omega arith) (omega (arith, h))

pub allowed_down : (n order partition_order : ℕ) → is_allowed n order (suc partition_order) ≡ true → is_allowed n order partition_order ≡ true
allowed_down n order partition_order h =
    let p = allowed_parts n order (suc partition_order) h in
    let q : ℕ = n / 2 ^ suc partition_order in
    let t : n / 2 ^ partition_order ≡ 2 * q = twice n partition_order p.0 in
    let split : n / 2 ^ partition_order * 2 ^ partition_order + n % 2 ^ partition_order ≡ n = shr_split n partition_order in
    let split' : q * 2 ^ suc partition_order + n % 2 ^ suc partition_order ≡ n = shr_split n (suc partition_order) in
    let e : q * 2 ^ suc partition_order ≡ n / 2 ^ partition_order * 2 ^ partition_order = omega (arith, ap (λ m. q * m) (pow-suc 2 partition_order), ap (λ m. m * 2 ^ partition_order) t) in
    allowed_from n order partition_order (omega (arith, split, split', e, p.0)) (omega (arith, t, p.1))

pub allowed_below : (n order j partition_order : ℕ) → is_allowed n order (j + partition_order) ≡ true → is_allowed n order partition_order ≡ true
allowed_below n order zero partition_order h = subst (λ k. is_allowed n order k ≡ true) (omega arith) h
allowed_below n order (suc j) partition_order h =
    let e : suc j + partition_order ≡ suc (j + partition_order) = omega arith in
    allowed_below n order j partition_order (allowed_down n order (j + partition_order) (subst (λ k. is_allowed n order k ≡ true) e h))

pub filter_all : (t : ℕ → Bool) (xs : List ℕ) → AllByRecursion (λ k. t k ≡ true) xs → filter t xs ≡ xs
filter_all t [] h = refl
filter_all t (x ∷ xs) h = ap (λ b. cond b (x ∷ filter t xs) (filter t xs)) h.0 ∙ ap (λ l. x ∷ l) (filter_all t xs h.1)

pub filter_none : (t : ℕ → Bool) (xs : List ℕ) → AllByRecursion (λ k. t k ≡ false) xs → filter t xs ≡ []
filter_none t [] h = refl
filter_none t (x ∷ xs) h = ap (λ b. cond b (x ∷ filter t xs) (filter t xs)) h.0 ∙ filter_none t xs h.1

pub range_split : (a m n : ℕ) → range_with_len a (m + n) ≡ range_with_len a m ++ range_with_len (a + m) n
range_split a zero n =
    let e : 0 + n ≡ n = omega arith in
    let f : a ≡ a + 0 = omega arith in
    ap (range_with_len a) e ∙ ap (λ b. range_with_len b n) f
range_split a (suc m) n =
    let e : suc m + n ≡ suc (m + n) = omega arith in
    let f : a + 1 + m ≡ a + suc m = omega arith in
    ap (range_with_len a) e ∙ ap (λ l. a ∷ l) (range_split (a + 1) m n ∙ ap (λ b. range_with_len (a + 1) m ++ range_with_len b n) f)

pub range_between : (P : ℕ → Type 0) (a n : ℕ) → ((k : ℕ) → a ≤ k → k < a + n → P k) → AllByRecursion P (range_with_len a n)
range_between P a zero h = tt
range_between P a (suc n) h = (h a (omega arith) (omega arith), range_between P (a + 1) n (λ k g l. h k (omega arith) (omega arith)))

not_above : (n order p k : ℕ) → is_allowed n order (suc p) ≡ false → suc p ≤ k → is_allowed n order k ≡ false
not_above n order p k ends above = elim (cases_Bool (is_allowed n order k)) [
  | inl holds ↦
      let e : k ≡ (k - suc p) + suc p = omega arith in
      absurd (both_ways (is_allowed n order (suc p)) ends (allowed_below n order (k - suc p) (suc p) (subst (λ m. is_allowed n order m ≡ true) e holds)))
  | inr fails ↦ fails
]

pub orders-is : (n order p : ℕ) → p ≤ 8 → is_allowed n order p ≡ true → ((p ≡ 8) ⊎ (is_allowed n order (suc p) ≡ false)) → orders n order ≡ range_with_len 0 (p + 1)
unfolding orders
orders-is n order p within holds stops =
    let t : ℕ → Bool = is_allowed n order in
    let e : (p + 1) + (8 - p) ≡ 9 = omega arith in
    let front : AllByRecursion (λ k. t k ≡ true) (range_with_len 0 (p + 1)) =
    range_below (λ k. t k ≡ true) 0 (p + 1) (λ k h.
    let f : p ≡ (p - k) + k = omega arith in
    allowed_below n order (p - k) k (subst (λ m. t m ≡ true) f holds)) in
    let back : AllByRecursion (λ k. t k ≡ false) (range_with_len (0 + (p + 1)) (8 - p)) =
    range_between (λ k. t k ≡ false) (0 + (p + 1)) (8 - p) (λ k g l. elim stops [ inl last ↦ absurd (omega arith) | inr stop ↦ not_above n order p k stop (omega arith) ]) in
    ap (λ m. filter t (range_with_len 0 m)) (sym e)
    ∙ ap (filter t) (range_split 0 (p + 1) (8 - p))
    ∙ filter-append t (range_with_len 0 (p + 1)) (range_with_len (0 + (p + 1)) (8 - p))
    ∙ ap (λ l. l ++ filter t (range_with_len (0 + (p + 1)) (8 - p))) (filter_all t _ front)
    ∙ ap (λ l. range_with_len 0 (p + 1) ++ l) (filter_none t _ back)
    ∙ append-nil (range_with_len 0 (p + 1))
