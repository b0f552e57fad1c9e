-- What is computed as the common base of time bases is their common base, or there is none.
use Rattle.std.proofs.Common.{◌≡◌, ℕ, zero, suc, ◌*◌, ◌/◌, ◌%◌, ◌<◌, ◌≤◌, ◌⊎◌, inl, inr, Bool, true, false, ◌&&◌, cond, Option, None, Some, List, [], ◌∷◌, refl, ap, sym, subst, ◌∙◌, arith}
use Rattle.std.specs.Prelude.{nat_eq, nat_le}
use Rattle.std.proofs.lemmas.Bool.{and_parts, and_from, cases_order}
use Rattle.std.proofs.lemmas.Bool.Decides.{nat_tests}
use Rattle.std.proofs.lemmas.List.Elements.{All-nil, All-cons, All-head, All-tail}
use Rattle.std.proofs.lemmas.Nat.Gcd.{IsGcd-from_zero, IsGcd-from_mod, dvd_refl, dvd-zero, dvd_trans}
use Rattle.std.proofs.Math.Nat.{one-dvd, mod-lt, pos_of_dvd_of_pos, eq-zero_of_zero-dvd}
use Rattle.std.specs.Int.{IsGcd, ◌∣◌}
use Rattle.std.specs.List.{All}
use Rattle.ff_time.specs.Fraction.{Fraction}
use Rattle.ff_time.specs.Common.{IsGcdOf, IsLcmOf, IsCommonOf, nums, dens}
use Rattle.ff_time.proofs.CommonBases.{one_is_base}
use Rattle.ff_time.proofs.Multiples.{lcm_of_two, All-two, exceed_from_lcm, exceed_not}
use Rattle.ff_fsync.specs.stacks.CommonBases.{euclid, gcd, lcm, gcd_all, lcm_all, fraction_of, are_all, where_small, common_of}

euclid_is : (n a b : ℕ) → b ≤ n → IsGcd a b (euclid n a b)
euclid_is zero a zero le = IsGcd-from_zero a 0 refl
euclid_is zero a (suc b) le = absurd (omega arith)
euclid_is (suc n) a zero le = IsGcd-from_zero a 0 refl
euclid_is (suc n) a (suc b) le =
    let some : 0 < suc b = omega arith in
    let lt = mod-lt a some in
    IsGcd-from_mod a (suc b) (euclid n (suc b) (a % suc b)) (euclid_is n (suc b) (a % suc b) (omega (arith, lt)))

gcd_is : (a b : ℕ) → IsGcd a b (gcd a b)
gcd_is a b = euclid_is b a b (omega arith)

all_over : (d e : ℕ) (ys : List ℕ) → d ∣ e → All (λ y. e ∣ y) ys → All (λ y. d ∣ y) ys
all_over d e [] p all = All-nil (λ y. d ∣ y)
all_over d e (y ∷ ys) p all = All-cons (λ y. d ∣ y) y ys (dvd_trans d p (All-head (λ y. e ∣ y) y ys all)) (all_over d e ys p (All-tail (λ y. e ∣ y) y ys all))

gcd_all_is : (xs : List ℕ) → IsGcdOf xs (gcd_all xs)
gcd_all_is [] = record { divides = All-nil (λ x. 0 ∣ x); greatest = λ d all. dvd-zero d }
gcd_all_is (x ∷ xs) =
    let r = gcd_all_is xs in
    let g = gcd x (gcd_all xs) in
    let is : IsGcd x (gcd_all xs) g = gcd_is x (gcd_all xs) in
    record {
      divides = All-cons (λ y. g ∣ y) x xs is.0 (all_over g (gcd_all xs) xs is.1 r.divides);
      greatest = λ d all. is.2 d (All-head (λ y. d ∣ y) x xs all) (r.greatest d (All-tail (λ y. d ∣ y) x xs all));
    }

lcm_is : (x y : ℕ) → (x ∣ lcm x y) × (y ∣ lcm x y) × ((d : ℕ) → x ∣ d → y ∣ d → lcm x y ∣ d)
lcm_is zero y = (dvd_refl 0, dvd-zero y, λ d p q. p)
lcm_is (suc x) y =
    let is = gcd_is (suc x) y in
    let some : 0 < suc x = omega arith in
    let least = lcm_of_two (suc x) y (gcd (suc x) y) (pos_of_dvd_of_pos is.0 some) is in
    let M : ℕ → Type 0 = λ z. z ∣ suc x / gcd (suc x) y * y in (
      All-head M (suc x) (y ∷ []) least.multiple,
      All-head M y [] (All-tail M (suc x) (y ∷ []) least.multiple),
      λ d p q. least.least d (All-two (λ z. z ∣ d) (suc x) y p q),
    )

all_under : (d e : ℕ) (ys : List ℕ) → d ∣ e → All (λ y. y ∣ d) ys → All (λ y. y ∣ e) ys
all_under d e [] p all = All-nil (λ y. y ∣ e)
all_under d e (y ∷ ys) p all = All-cons (λ y. y ∣ e) y ys (dvd_trans y (All-head (λ y. y ∣ d) y ys all) p) (all_under d e ys p (All-tail (λ y. y ∣ d) y ys all))

lcm_all_is : (xs : List ℕ) → IsLcmOf xs (lcm_all xs)
lcm_all_is [] = record { multiple = All-nil (λ x. x ∣ 1); least = λ d all. one-dvd d }
lcm_all_is (x ∷ xs) =
    let r = lcm_all_is xs in
    let m = lcm x (lcm_all xs) in
    let is = lcm_is x (lcm_all xs) in
    record {
      multiple = All-cons (λ y. y ∣ m) x xs is.0 (all_under (lcm_all xs) m xs is.1 r.multiple);
      least = λ d all. is.2 d (All-head (λ y. y ∣ d) x xs all) (r.least d (All-tail (λ y. y ∣ d) x xs all));
    }

same_or_not : (a b : ℕ) → (a ≡ b) ⊎ (a ≡ b → ⊥)
same_or_not a b = elim (cases_order a b) as (λ _. (a ≡ b) ⊎ (a ≡ b → ⊥)) [
  | inl e ↦ inl e
  | inr (inl l) ↦ inr (λ e. omega (arith, e, l))
  | inr (inr m) ↦ inr (λ e. omega (arith, e, m))
]

one_or_not : (a b : Fraction) → (a ≡ b) ⊎ (a ≡ b → ⊥)
one_or_not a b = elim (same_or_not a.num b.num) as (λ _. (a ≡ b) ⊎ (a ≡ b → ⊥)) [
  | inl n ↦ elim (same_or_not a.den b.den) as (λ _. (a ≡ b) ⊎ (a ≡ b → ⊥)) [
    | inl d ↦ (
        let half : a ≡ fraction_of b.num a.den = ap (λ (x : ℕ). fraction_of x a.den) n in
        let rest : fraction_of b.num a.den ≡ b = ap (λ (x : ℕ). fraction_of b.num x) d in
        inl (half ∙ rest))
    | inr d ↦ inr (λ e. d (ap (λ (x : Fraction). x.den) e))
  ]
  | inr n ↦ inr (λ e. n (ap (λ (x : Fraction). x.num) e))
]

-- each of these is this base, or not
pub all_one : (b : Fraction) (xs : List Fraction) → All (λ x. x ≡ b) xs ⊎ (All (λ x. x ≡ b) xs → ⊥)
all_one b [] = inl (All-nil (λ x. x ≡ b))
all_one b (x ∷ xs) = elim (one_or_not x b) as (λ _. All (λ y. y ≡ b) (x ∷ xs) ⊎ (All (λ y. y ≡ b) (x ∷ xs) → ⊥)) [
  | inl e ↦ elim (all_one b xs) as (λ _. All (λ y. y ≡ b) (x ∷ xs) ⊎ (All (λ y. y ≡ b) (x ∷ xs) → ⊥)) [
    | inl all ↦ inl (All-cons (λ y. y ≡ b) x xs e all)
    | inr differs ↦ inr (λ all. differs (All-tail (λ y. y ≡ b) x xs all))
  ]
  | inr n ↦ inr (λ all. n (All-head (λ y. y ≡ b) x xs all))
]

-- ---- what is computed

nat_same : (m n : ℕ) → nat_eq m n ≡ true → m ≡ n
nat_same m n e = grind (arith, nat_tests)

same_nat : (m n : ℕ) → m ≡ n → nat_eq m n ≡ true
same_nat m n e = grind (arith, nat_tests)

at_most : (m n : ℕ) → nat_le m n ≡ true → m ≤ n
at_most m n e = grind (arith, nat_tests)

above : (m n : ℕ) → nat_le m n ≡ false → n < m
above m n e = grind (arith, nat_tests)

all_are_one : (b : Fraction) (xs : List Fraction) → are_all b xs ≡ true → All (λ x. x ≡ b) xs
all_are_one b [] e = All-nil (λ x. x ≡ b)
all_are_one b (x ∷ xs) e =
    let p = and_parts (nat_eq x.num b.num && nat_eq x.den b.den) (are_all b xs) e in
    let q = and_parts (nat_eq x.num b.num) (nat_eq x.den b.den) p.0 in
    let half : x ≡ fraction_of b.num x.den = ap (λ (n : ℕ). fraction_of n x.den) (nat_same x.num b.num q.0) in
    let rest : fraction_of b.num x.den ≡ b = ap (λ (n : ℕ). fraction_of b.num n) (nat_same x.den b.den q.1) in
    All-cons (λ y. y ≡ b) x xs (half ∙ rest) (all_are_one b xs p.1)

one_are_all : (b : Fraction) (xs : List Fraction) → All (λ x. x ≡ b) xs → are_all b xs ≡ true
one_are_all b [] all = refl
one_are_all b (x ∷ xs) all =
    let e = All-head (λ y. y ≡ b) x xs all in
    let num = same_nat x.num b.num (ap (λ (y : Fraction). y.num) e) in
    let den = same_nat x.den b.den (ap (λ (y : Fraction). y.den) e) in
    and_from (nat_eq x.num b.num && nat_eq x.den b.den) (are_all b xs) (and_from (nat_eq x.num b.num) (nat_eq x.den b.den) num den)
    (one_are_all b xs (All-tail (λ y. y ≡ b) x xs all))

by_size : (bases : List Fraction) → ((one : Fraction) → ¬ All (λ b. b ≡ one) bases) → (g m : ℕ) → IsGcdOf (nums bases) g → IsLcmOf (dens bases) (suc m)
    → (small : Bool) → nat_le (suc m) 1000000 ≡ small → IsCommonOf bases (cond small (Some (fraction_of g (suc m))) None)
by_size bases differ g m num den true e =
    (record { num = num; den = den }, λ none. exceed_not (dens bases) (suc m) den (omega arith) (at_most (suc m) 1000000 e) none.exceed)
by_size bases differ g m num den false e = record { differ = differ; exceed = exceed_from_lcm (dens bases) (suc m) den (above (suc m) 1000000 e) }

by_multiple : (bases : List Fraction) → ((one : Fraction) → ¬ All (λ b. b ≡ one) bases) → (g m : ℕ) → IsGcdOf (nums bases) g → IsLcmOf (dens bases) m
    → IsCommonOf bases (where_small g m)
by_multiple bases differ g zero num den = record {
  differ = differ;
  exceed = λ e some all. let none : e ≡ 0 = eq-zero_of_zero-dvd (den.least e all) in omega (arith, none, some);
}
by_multiple bases differ g (suc m) num den = by_size bases differ g m num den (nat_le (suc m) 1000000) refl

by_test : (b : Fraction) (bs : List Fraction) (one : Bool) → are_all b (b ∷ bs) ≡ one
    → IsCommonOf (b ∷ bs) (cond one (Some b) (where_small (gcd_all (nums (b ∷ bs))) (lcm_all (dens (b ∷ bs)))))
by_test b bs true e = one_is_base b (b ∷ bs) (omega arith) (all_are_one b (b ∷ bs) e)
by_test b bs false e =
    by_multiple (b ∷ bs) differ (gcd_all (nums (b ∷ bs))) (lcm_all (dens (b ∷ bs))) (gcd_all_is (nums (b ∷ bs))) (lcm_all_is (dens (b ∷ bs)))
  where
    differ : (one : Fraction) → ¬ All (λ x. x ≡ one) (b ∷ bs)
    differ one all =
        let same : All (λ x. x ≡ b) (b ∷ bs) = subst (λ (x : Fraction). All (λ y. y ≡ x) (b ∷ bs)) (sym (All-head (λ y. y ≡ one) b bs all)) all in
        let both : true ≡ false = sym (one_are_all b (b ∷ bs) same) ∙ e in
        cc

pub common_of_is : (bases : List Fraction) → IsCommonOf bases (common_of bases)
unfolding common_of
common_of_is [] = (
  record {
    num = record { divides = All-nil (λ x. 0 ∣ x); greatest = λ d all. dvd-zero d };
    den = record { multiple = All-nil (λ x. x ∣ 1); least = λ d all. one-dvd d };
  },
  λ none. none.differ (fraction_of 0 1) (All-nil (λ b. b ≡ fraction_of 0 1)),
)
common_of_is (b ∷ bs) = by_test b bs (are_all b (b ∷ bs)) refl
