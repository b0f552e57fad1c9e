-- The common base of two bases, and of a list step by step.
use Rattle.std.proofs.Common.{◌≡◌, ℕ, suc, Option, None, Some, refl, ◌*◌, ◌<◌, ◌≤◌, ◌^◌, List, [], ◌∷◌, drop, length, get_or, sym, subst, ap, ◌∙◌, arith}
use Rattle.std.proofs.Math.Seq.{drop-cons}
use Rattle.std.proofs.Math.Nat.{dvd-mul_left, dvd-mul_right, pos_of_dvd_of_pos, mul-pos, mul-dvd-mul, div-mul_cancel, div_self}
use Rattle.std.proofs.lemmas.Nat.Gcd.{dvd_refl, dvd_trans, dvd_antisymm, le_of_dvd}
use Rattle.std.proofs.lemmas.List.{drop_all}
use Rattle.std.proofs.lemmas.List.Elements.{All-nil, All-head, All-cons, All-tail}
use Rattle.std.specs.Int.{IsGcd, ◌∣◌}
use Rattle.std.specs.List.{All}
use Rattle.ff_time.specs.Fraction.{Fraction, IsBase}
use Rattle.ff_time.specs.Common.{IsGcdOf, IsLcmOf, IsCommonBase, IsCommonOf, IsUnits, units_of, MultiplesExceed, nums, dens}
use Rattle.ff_time.proofs.Multiples.{divides_other, All-two, All-second, gcd_of_two, gcd_of_one, lcm_of_one, gcd_goes_on, lcm_goes_on, exceed_goes_on, exceed_with}

-- a number that has nothing in common with two has nothing with their least common multiple
lowest_of_lcm : (g a b m : ℕ) → ((k : ℕ) → k ∣ g → k ∣ a → k ≡ 1) → ((k : ℕ) → k ∣ g → k ∣ b → k ≡ 1) → m ∣ a * b → (k : ℕ) → k ∣ g → k ∣ m → k ≡ 1
lowest_of_lcm g a b m first second product k p q =
    second k p (divides_other k a b (λ d u v. first d (dvd_trans d u p) v) (dvd_trans k q product))

-- the common base of two is a base where its denominator is small
pub common_is_base : (a b f : Fraction) → IsBase a → IsBase b → 0 < f.den → f.den < 2 ^ 31 → IsCommonBase (a ∷ b ∷ []) f → IsBase f
common_is_base a b f left right some small is =
    let F : ℕ → Type 0 = λ x. f.num ∣ x in
    let first : f.num ∣ a.num = All-head F a.num (b.num ∷ []) is.num.divides in
    let second : f.num ∣ b.num = All-second F a.num b.num [] is.num.divides in
    let le : f.num ≤ a.num = le_of_dvd left.num_positive first in
    let product : f.den ∣ a.den * b.den = is.den.least (a.den * b.den) (All-two (λ x. x ∣ a.den * b.den) a.den b.den (dvd-mul_right a.den b.den) (dvd-mul_left b.den a.den)) in
    record {
      num_positive = pos_of_dvd_of_pos first left.num_positive;
      num_small = let top = left.num_small in omega (arith, le, top);
      den_positive = some;
      den_small = small;
      lowest = lowest_of_lcm f.num a.den b.den f.den (λ k p q. left.lowest k (dvd_trans k p first) q) (λ k p q. right.lowest k (dvd_trans k p second) q) product;
    }

pub joined_is : (a b : Fraction) (p q r s g m : ℕ) → p ≡ a.num → q ≡ b.num → r ≡ a.den → s ≡ b.den → IsGcd p q g → IsLcmOf (r ∷ s ∷ []) m → IsCommonBase (a ∷ b ∷ []) (record { num = g; den = m })
joined_is a b p q r s g m pa qb ra sb greatest least = record {
  num = subst (λ x. IsGcdOf (x ∷ b.num ∷ []) g) pa (subst (λ x. IsGcdOf (p ∷ x ∷ []) g) qb (gcd_of_two p q g greatest));
  den = subst (λ x. IsLcmOf (x ∷ b.den ∷ []) m) ra (subst (λ x. IsLcmOf (r ∷ x ∷ []) m) sb least);
}

-- what a list's common base is, when the bases from i on are still to be joined to one
pub record Joins (common : Fraction) (i : ℕ) (bases : List Fraction) : Type 0 where
  pub base : (f : Fraction) → IsCommonBase (common ∷ drop i bases) f → IsCommonBase bases f
  pub exceed : MultiplesExceed (common.den ∷ dens (drop i bases)) → MultiplesExceed (dens bases)

pub joins_first : (d : Fraction) (bases : List Fraction) → 0 < length bases → Joins (get_or bases 0 d) 0 bases
joins_first d [] some = absurd (omega arith)
joins_first d (b ∷ bs) some = record {
  base = λ f is. record {
    num = record {
      divides = All-tail (λ x. f.num ∣ x) b.num (nums (b ∷ bs)) is.num.divides;
      greatest = λ e all. is.num.greatest e (All-cons (λ x. e ∣ x) b.num (nums (b ∷ bs)) (All-head (λ x. e ∣ x) b.num (nums bs) all) all);
    };
    den = record {
      multiple = All-tail (λ x. x ∣ f.den) b.den (dens (b ∷ bs)) is.den.multiple;
      least = λ e all. is.den.least e (All-cons (λ x. x ∣ e) b.den (dens (b ∷ bs)) (All-head (λ x. x ∣ e) b.den (dens bs) all) all);
    };
  };
  exceed = λ more m pos all. more m pos (All-cons (λ x. x ∣ m) b.den (dens (b ∷ bs)) (All-head (λ x. x ∣ m) b.den (dens bs) all) all);
}

pub joins_more : (c f d : Fraction) (i : ℕ) (bases : List Fraction) → i < length bases → IsCommonBase (c ∷ get_or bases i d ∷ []) f → Joins c i bases → Joins f (suc i) bases
joins_more c f d i bases lt both was =
    let b : Fraction = get_or bases i d in
    let next : drop i bases ≡ b ∷ drop (suc i) bases = drop-cons bases i d lt in
    record {
      base = λ g is. was.base g (subst (λ xs. IsCommonBase (c ∷ xs) g) (sym next) record {
        num = gcd_goes_on c.num b.num f.num g.num (nums (drop (suc i) bases)) both.num is.num;
        den = lcm_goes_on c.den b.den f.den g.den (dens (drop (suc i) bases)) both.den is.den;
      });
      exceed = λ more. was.exceed (subst (λ xs. MultiplesExceed (c.den ∷ dens xs)) (sym next) (exceed_goes_on c.den b.den f.den (dens (drop (suc i) bases)) both.den more));
    }

pub joins_none : (c d : Fraction) (i : ℕ) (bases : List Fraction) → i < length bases → MultiplesExceed (c.den ∷ (get_or bases i d).den ∷ []) → Joins c i bases → MultiplesExceed (dens bases)
joins_none c d i bases lt more was =
    let b : Fraction = get_or bases i d in
    let next : drop i bases ≡ b ∷ drop (suc i) bases = drop-cons bases i d lt in
    was.exceed (subst (λ xs. MultiplesExceed (c.den ∷ dens xs)) (sym next) (exceed_with c.den b.den (dens (drop (suc i) bases)) more))

pub joins_all : (c : Fraction) (i : ℕ) (bases : List Fraction) → length bases ≤ i → Joins c i bases → IsCommonBase bases c
joins_all c i bases le was = was.base c (subst (λ xs. IsCommonBase (c ∷ xs) c) (sym (drop_all i bases le)) record { num = gcd_of_one c.num; den = lcm_of_one c.den })

divides_all : (b : Fraction) (xs : List Fraction) → All (λ x. x ≡ b) xs → All (λ n. b.num ∣ n) (nums xs)
divides_all b [] all = All-nil (λ n. b.num ∣ n)
divides_all b (x ∷ xs) all = All-cons (λ n. b.num ∣ n) x.num (nums xs)
    (subst (λ (y : Fraction). b.num ∣ y.num) (sym (All-head (λ y. y ≡ b) x xs all)) (dvd_refl b.num)) (divides_all b xs (All-tail (λ y. y ≡ b) x xs all))

multiple_all : (b : Fraction) (xs : List Fraction) → All (λ x. x ≡ b) xs → All (λ n. n ∣ b.den) (dens xs)
multiple_all b [] all = All-nil (λ n. n ∣ b.den)
multiple_all b (x ∷ xs) all = All-cons (λ n. n ∣ b.den) x.den (dens xs)
    (subst (λ (y : Fraction). y.den ∣ b.den) (sym (All-head (λ y. y ≡ b) x xs all)) (dvd_refl b.den)) (multiple_all b xs (All-tail (λ y. y ≡ b) x xs all))

abbrev num_with : ℕ → ℕ → Fraction
num_with n d = record { num = n; den = d }

same_fraction : (x y : Fraction) → x.num ≡ y.num → x.den ≡ y.den → x ≡ y
same_fraction x y p q =
    let half : Fraction = record { num = y.num; den = x.den } in
    let num : x ≡ half = ap (λ (n : ℕ). num_with n x.den) p in
    let den : half ≡ y = ap (λ (d : ℕ). num_with y.num d) q in
    num ∙ den

-- where all bases are one, it is their common base
pub one_is_common : (b : Fraction) (bases : List Fraction) → 0 < length bases → All (λ x. x ≡ b) bases → IsCommonBase bases b
one_is_common b [] some all = absurd (omega arith)
one_is_common b (x ∷ xs) some all = record {
  num = record {
    divides = divides_all b (x ∷ xs) all;
    greatest = λ e each. subst (λ (y : Fraction). e ∣ y.num) (All-head (λ y. y ≡ b) x xs all) (All-head (λ y. e ∣ y) x.num (nums xs) each);
  };
  den = record {
    multiple = multiple_all b (x ∷ xs) all;
    least = λ e each. subst (λ (y : Fraction). y.den ∣ e) (All-head (λ y. y ≡ b) x xs all) (All-head (λ y. y ∣ e) x.den (dens xs) each);
  };
}

pub one_is_base : (b : Fraction) (bases : List Fraction) → 0 < length bases → All (λ x. x ≡ b) bases → IsCommonOf bases (Some b)
one_is_base b bases some all = (one_is_common b bases some all, λ none. none.differ b all)

pub one_is_common_of : (bases : List Fraction) (b x : Fraction) → 0 < length bases → x ≡ get_or bases 0 x → All (λ y. y ≡ b) bases → IsCommonOf bases (Some x)
one_is_common_of bases b x some is all =
    subst (λ y. IsCommonOf bases (Some y)) (sym (is ∙ all 0 x some)) (one_is_base b bases some all)

-- a common base is unique
pub common_once : (bases : List Fraction) (r s : Option Fraction) → IsCommonOf bases r → IsCommonOf bases s → r ≡ s
common_once bases None None p q = refl
common_once bases None (Some y) p q = absurd (q.1 p)
common_once bases (Some x) None p q = absurd (p.1 q)
common_once bases (Some x) (Some y) p q = ap (λ (z : Fraction). Some z) (same_fraction x y
    (dvd_antisymm (q.0.num.greatest x.num p.0.num.divides) (p.0.num.greatest y.num q.0.num.divides))
    (dvd_antisymm (p.0.den.least y.den q.0.den.multiple) (q.0.den.least x.den p.0.den.multiple)))

-- the times of each base are whole in a common one
pub units_whole : (b f : Fraction) → 0 < f.num → 0 < b.den → f.num ∣ b.num → b.den ∣ f.den → IsUnits (units_of b f) b f
units_whole b f num den p q = sym (div-mul_cancel (f.num * b.den) (mul-dvd-mul f.num b.den p q))

pub all_whole : (bases : List Fraction) (f : Fraction) → 0 < f.num → All IsBase bases → IsCommonBase bases f → All (λ b. IsUnits (units_of b f) b f) bases
all_whole bases f num are is = each bases are is.num.divides is.den.multiple
  where
    each : (xs : List Fraction) → All IsBase xs → All (λ n. f.num ∣ n) (nums xs) → All (λ n. n ∣ f.den) (dens xs) → All (λ b. IsUnits (units_of b f) b f) xs
    each [] are p q = All-nil (λ b. IsUnits (units_of b f) b f)
    each (x ∷ xs) are p q = All-cons (λ b. IsUnits (units_of b f) b f) x xs
        (units_whole x f num (All-head IsBase x xs are).den_positive (All-head (λ n. f.num ∣ n) x.num (nums xs) p) (All-head (λ n. n ∣ f.den) x.den (dens xs) q))
        (each xs (All-tail IsBase x xs are) (All-tail (λ n. f.num ∣ n) x.num (nums xs) p) (All-tail (λ n. n ∣ f.den) x.den (dens xs) q))

pub units_of_one : (b : Fraction) → IsBase b → units_of b b ≡ 1
units_of_one b is = div_self (mul-pos is.num_positive is.den_positive)
