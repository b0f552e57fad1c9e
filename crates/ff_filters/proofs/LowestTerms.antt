-- The functions of lowest terms are the relations.
use Rattle.std.proofs.Common.{◌≡◌, ℕ, zero, suc, pos, ◌%◌, ◌<◌, ◌≤◌, ◌^◌, Bool, true, false, nat_le, cond, ◌&&◌, Some, None, refl, sym, ap, subst, ◌∙◌, arith}
use Rattle.std.specs.Int.{IsGcd}
use Rattle.std.proofs.Math.Nat.{mod-lt}
use Rattle.std.proofs.lemmas.Bool.Decides.{nat_tests}
use Rattle.std.proofs.lemmas.Nat.Gcd.{IsGcd-from_zero, IsGcd-from_mod}
use Rattle.ff_time.specs.Fraction.{Fraction, IsBase, IsReduced, IsLowestOf}
use Rattle.ff_time.proofs.Lowest.{reduced_lem, IsReduced-num, IsReduced-den, IsReduced-base}
use Rattle.ff_filters.specs.Texts.{divisor_in, divisor_of, lowest_of, is_small, base_of}

divisor_in-is : (steps a b : ℕ) → b ≤ steps → IsGcd a b (divisor_in steps a b)
divisor_in-is zero a b le = IsGcd-from_zero a b (omega arith)
divisor_in-is (suc steps) a zero le = IsGcd-from_zero a zero refl
divisor_in-is (suc steps) a (suc b) le =
    let less = mod-lt a {m = suc b} (omega arith) in
    IsGcd-from_mod a (suc b) (divisor_in steps (suc b) (a % suc b)) (divisor_in-is steps (suc b) (a % suc b) (omega (arith, le, less)))

lowest-is : (n d : ℕ) → IsReduced n d (lowest_of n d)
lowest-is n d = reduced_lem n d (divisor_of n d) (divisor_in-is d n d (omega arith))

fraction_same : (f g : Fraction) → f.num ≡ g.num → f.den ≡ g.den → f ≡ g
fraction_same f g p q = ap (λ n. let h : Fraction = record { num = n; den = f.den } in h) p ∙ ap (λ d. let h : Fraction = record { num = g.num; den = d } in h) q

-- the lowest terms of positive numbers are the function
reduced_same : (n d : ℕ) (f : Fraction) → 0 < n → IsReduced n d f → f ≡ lowest_of n d
reduced_same n d f some r =
    fraction_same f (lowest_of n d) (IsReduced-num n d f (lowest_of n d) some r (lowest-is n d)) (IsReduced-den n d f (lowest_of n d) some r (lowest-is n d))

same_pos : (a b : ℕ) → pos a ≡ pos b → a ≡ b
same_pos a b p = cc

tests_hold : (n d : ℕ) (f : Fraction) → 0 < n → 0 < d → f.num < 2 ^ 31 → f.den < 2 ^ 31 → ((nat_le 1 n && nat_le 1 d) && is_small f) ≡ true
tests_hold n d f p q r s = grind (arith, nat_tests)

-- the time base of a rate of n/d pictures a second
pub base_in : (n d : ℕ) (f : Fraction) → IsLowestOf (pos d) (pos n) f → IsBase f → base_of (n, d) ≡ Some f
base_in n d f h b =
    let top : h.n ≡ d = same_pos h.n d (sym h.num_is) in
    let bottom : h.d ≡ n = same_pos h.d n (sym h.den_is) in
    let some_top : 0 < d = subst (λ k. 0 < k) top h.num_positive in
    let some_bottom : 0 < n = subst (λ k. 0 < k) bottom h.den_positive in
    let reduced : IsReduced d n f = subst (λ k. IsReduced k n f) top (subst (λ k. IsReduced h.n k f) bottom h.reduced) in
    let same : f ≡ lowest_of d n = reduced_same d n f some_top reduced in
    subst (λ g. cond ((nat_le 1 n && nat_le 1 d) && is_small g) (Some g) None ≡ Some f) same
    (ap (λ (c : Bool). cond c (Some f) None) (tests_hold n d f some_bottom some_top b.num_small b.den_small))

if_out : {A : Type 0} (c : Bool) (x y : A) → cond c (Some x) None ≡ Some y → (c ≡ true) × (x ≡ y)
if_out true x y e = (refl, cc)
if_out false x y e = cc

record Holds (n d : ℕ) (f : Fraction) : Type 0 where
  n_some : 0 < n
  d_some : 0 < d
  num : f.num < 2 ^ 31
  den : f.den < 2 ^ 31

tests_out : (n d : ℕ) (f : Fraction) → ((nat_le 1 n && nat_le 1 d) && is_small f) ≡ true → Holds n d f
tests_out n d f e = record { n_some = grind (arith, nat_tests); d_some = grind (arith, nat_tests); num = grind (arith, nat_tests); den = grind (arith, nat_tests) }

pub base_out : (n d : ℕ) (f : Fraction) → base_of (n, d) ≡ Some f → IsLowestOf (pos d) (pos n) f × IsBase f
base_out n d f e =
    let k = if_out ((nat_le 1 n && nat_le 1 d) && is_small (lowest_of d n)) (lowest_of d n) f e in
    let t = tests_out n d (lowest_of d n) k.0 in
    subst (λ g. IsLowestOf (pos d) (pos n) g × IsBase g) k.1 (
      record { n = d; d = n; num_is = refl; den_is = refl; num_positive = t.d_some; den_positive = t.n_some; reduced = lowest-is d n },
      IsReduced-base d n
          (lowest_of d n) t.d_some t.n_some (lowest-is d n) t.num t.den,
    )
