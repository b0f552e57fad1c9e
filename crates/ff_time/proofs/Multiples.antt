-- Common divisors and common multiples of two numbers and of lists.
use Rattle.std.proofs.Common.{◌≡◌, ℕ, zero, suc, ◌*◌, ◌/◌, ◌%◌, ◌<◌, ◌≤◌, List, [], ◌∷◌, sym, subst, ap, ◌∙◌, refl, arith}
use Rattle.std.proofs.Math.Nat.{mod-lt, div-mul_cancel, dvd-mul_left, dvd-mul_right, mul-dvd-mul_left, mul-dvd-mul_right, dvd_of_mul-dvd-mul_left, dvd_of_mul-dvd-mul_right, mul_comm, mul_assoc, mul-one, one-dvd}
use Rattle.std.proofs.lemmas.Nat.Gcd.{IsGcd-from_mod, IsGcd-from_zero, dvd_refl, dvd-zero, dvd_trans, le_of_dvd}
use Rattle.std.proofs.lemmas.List.Elements.{All-nil, All-cons, All-head, All-tail}
use Rattle.std.specs.Int.{IsGcd, ◌∣◌}
use Rattle.std.specs.List.{All}
use Rattle.ff_time.specs.Common.{IsGcdOf, IsLcmOf, MultiplesExceed}

gcd_within : (n a b : ℕ) → b ≤ n → (g : ℕ) × IsGcd a b g
gcd_within n a zero le = (a, IsGcd-from_zero a 0 refl)
gcd_within zero a (suc b) le = absurd (omega arith)
gcd_within (suc n) a (suc b) le =
    let some : 0 < suc b = omega arith in
    let lt = mod-lt a some in
    let r = gcd_within n (suc b) (a % suc b) (omega (arith, lt)) in
    (r.0, IsGcd-from_mod a (suc b) r.0 r.1)

-- two numbers have a greatest common divisor
pub gcd_there : (a b : ℕ) → (g : ℕ) × IsGcd a b g
gcd_there a b = gcd_within b a b (omega arith)

-- that of two products by one number is at most the product of theirs
pub gcd_scaled : (c a b g h : ℕ) → 0 < c → IsGcd a b g → IsGcd (c * a) (c * b) h → h ∣ c * g
gcd_scaled c a b g h some is scaled =
    let whole : h / c * c ≡ h = div-mul_cancel c (scaled.2 c (dvd-mul_right c a) (dvd-mul_right c b)) in
    let same : c * (h / c) ≡ h = mul_comm c (h / c) ∙ whole in
    let left : h / c ∣ a = dvd_of_mul-dvd-mul_left (h / c) some (subst (λ x. x ∣ c * a) (sym same) scaled.0) in
    let right : h / c ∣ b = dvd_of_mul-dvd-mul_left (h / c) some (subst (λ x. x ∣ c * b) (sym same) scaled.1) in
    subst (λ x. x ∣ c * g) same (mul-dvd-mul_left (h / c) c (is.2 (h / c) left right))

-- what has nothing in common with one factor divides the other
pub divides_other : (k a b : ℕ) → ((d : ℕ) → d ∣ k → d ∣ a → d ≡ 1) → k ∣ a * b → k ∣ b
divides_other k a zero apart there = dvd-zero k
divides_other k a (suc b) apart there =
    let one : IsGcd k a 1 = (one-dvd k, one-dvd a, λ d p q. subst (λ x. x ∣ 1) (sym (apart d p q)) (dvd_refl 1)) in
    let h = gcd_there (suc b * k) (suc b * a) in
    let some : 0 < suc b = omega arith in
    let small : h.0 ∣ suc b * 1 = gcd_scaled (suc b) k a 1 h.0 some one h.1 in
    let common : k ∣ h.0 = h.1.2 k (dvd-mul_left k (suc b)) (subst (λ x. k ∣ x) (mul_comm a (suc b)) there) in
    subst (λ x. k ∣ x) (mul-one (suc b)) (dvd_trans k common small)

swapped : (x g d : ℕ) → (x * g) * d ≡ (x * d) * g
swapped x g d = mul_assoc x g d ∙ (ap (λ y. x * y) (mul_comm g d) ∙ sym (mul_assoc x d g))

-- a common multiple of two numbers is one of their product over their greatest common divisor
multiple_of_both : (n d g e : ℕ) → 0 < g → IsGcd n d g → n ∣ e → d ∣ e → n / g * d ∣ e
multiple_of_both n d g zero some is p q = dvd-zero (n / g * d)
multiple_of_both n d g (suc e) some is p q =
    let more : 0 < suc e = omega arith in
    let h = gcd_there (suc e * n) (suc e * d) in
    let small : h.0 ∣ suc e * g = gcd_scaled (suc e) n d g h.0 more is h.1 in
    let left : n * d ∣ suc e * n = subst (λ x. x ∣ suc e * n) (mul_comm d n) (mul-dvd-mul_right d q n) in
    let right : n * d ∣ suc e * d = mul-dvd-mul_right n p d in
    let all : n * d ∣ suc e * g = dvd_trans (n * d) (h.1.2 (n * d) left right) small in
    let same : n * d ≡ (n / g * d) * g = ap (λ x. x * d) (sym (div-mul_cancel g is.0)) ∙ swapped (n / g) g d in
    dvd_of_mul-dvd-mul_right (n / g * d) some (subst (λ x. x ∣ suc e * g) same all)

pub All-two : (P : ℕ → Type 0) (x y : ℕ) → P x → P y → All P (x ∷ y ∷ [])
All-two P x y p q = All-cons P x (y ∷ []) p (All-cons P y [] q (All-nil P))

pub All-second : (P : ℕ → Type 0) (x y : ℕ) (xs : List ℕ) → All P (x ∷ y ∷ xs) → P y
All-second P x y xs all = All-head P y xs (All-tail P x (y ∷ xs) all)

pub lcm_of_two : (n d g : ℕ) → 0 < g → IsGcd n d g → IsLcmOf (n ∷ d ∷ []) (n / g * d)
lcm_of_two n d g some is =
    let left : n / g * g ∣ n / g * d = mul-dvd-mul_left g (n / g) is.1 in
    record {
      multiple = All-two (λ x. x ∣ n / g * d) n d (subst (λ x. x ∣ n / g * d) (div-mul_cancel g is.0) left) (dvd-mul_left d (n / g));
      least = λ e all. multiple_of_both n d g e some is (All-head (λ x. x ∣ e) n (d ∷ []) all) (All-second (λ x. x ∣ e) n d [] all);
    }

pub gcd_of_two : (n d g : ℕ) → IsGcd n d g → IsGcdOf (n ∷ d ∷ []) g
gcd_of_two n d g is = record {
  divides = All-two (λ x. g ∣ x) n d is.0 is.1;
  greatest = λ e all. is.2 e (All-head (λ x. e ∣ x) n (d ∷ []) all) (All-second (λ x. e ∣ x) n d [] all);
}

pub gcd_of_one : (x : ℕ) → IsGcdOf (x ∷ []) x
gcd_of_one x = record {
  divides = All-cons (λ y. x ∣ y) x [] (dvd_refl x) (All-nil (λ y. x ∣ y));
  greatest = λ e all. All-head (λ y. e ∣ y) x [] all;
}

pub lcm_of_one : (x : ℕ) → IsLcmOf (x ∷ []) x
lcm_of_one x = record {
  multiple = All-cons (λ y. y ∣ x) x [] (dvd_refl x) (All-nil (λ y. y ∣ x));
  least = λ e all. All-head (λ y. y ∣ e) x [] all;
}

-- two numbers may be replaced by what they have in common
pub gcd_goes_on : (a b c g : ℕ) (xs : List ℕ) → IsGcdOf (a ∷ b ∷ []) c → IsGcdOf (c ∷ xs) g → IsGcdOf (a ∷ b ∷ xs) g
gcd_goes_on a b c g xs both is =
    let G : ℕ → Type 0 = λ x. g ∣ x in
    let C : ℕ → Type 0 = λ x. c ∣ x in
    let there : g ∣ c = All-head G c xs is.divides in
    record {
      divides = All-cons G a (b ∷ xs) (dvd_trans g there (All-head C a (b ∷ []) both.divides)) (All-cons G b xs (dvd_trans g there (All-second C a b [] both.divides)) (All-tail G c xs is.divides));
      greatest = λ e all.
          let E : ℕ → Type 0 = λ x. e ∣ x in
          let two : e ∣ c = both.greatest e (All-two E a b (All-head E a (b ∷ xs) all) (All-second E a b xs all)) in
          is.greatest e (All-cons E c xs two (All-tail E b xs (All-tail E a (b ∷ xs) all)));
    }

-- a common multiple of two and others is one of their least common multiple and the others
pub multiple_goes_on : (a b c e : ℕ) (xs : List ℕ) → IsLcmOf (a ∷ b ∷ []) c → All (λ x. x ∣ e) (a ∷ b ∷ xs) → All (λ x. x ∣ e) (c ∷ xs)
multiple_goes_on a b c e xs both all =
    let E : ℕ → Type 0 = λ x. x ∣ e in
    let two : c ∣ e = both.least e (All-two E a b (All-head E a (b ∷ xs) all) (All-second E a b xs all)) in
    All-cons E c xs two (All-tail E b xs (All-tail E a (b ∷ xs) all))

pub lcm_goes_on : (a b c m : ℕ) (xs : List ℕ) → IsLcmOf (a ∷ b ∷ []) c → IsLcmOf (c ∷ xs) m → IsLcmOf (a ∷ b ∷ xs) m
lcm_goes_on a b c m xs both is =
    let M : ℕ → Type 0 = λ x. x ∣ m in
    let C : ℕ → Type 0 = λ x. x ∣ c in
    let there : c ∣ m = All-head M c xs is.multiple in
    record {
      multiple = All-cons M a (b ∷ xs) (dvd_trans a (All-head C a (b ∷ []) both.multiple) there) (All-cons M b xs (dvd_trans b (All-second C a b [] both.multiple) there) (All-tail M c xs is.multiple));
      least = λ e all. is.least e (multiple_goes_on a b c e xs both all);
    }

pub exceed_goes_on : (a b c : ℕ) (xs : List ℕ) → IsLcmOf (a ∷ b ∷ []) c → MultiplesExceed (c ∷ xs) → MultiplesExceed (a ∷ b ∷ xs)
exceed_goes_on a b c xs both more = λ m some all. more m some (multiple_goes_on a b c m xs both all)

-- more numbers have no lesser common multiple
pub exceed_with : (a b : ℕ) (xs : List ℕ) → MultiplesExceed (a ∷ b ∷ []) → MultiplesExceed (a ∷ b ∷ xs)
exceed_with a b xs more = λ m some all.
    let M : ℕ → Type 0 = λ x. x ∣ m in
    more m some (All-two M a b (All-head M a (b ∷ xs) all) (All-second M a b xs all))

pub exceed_from_lcm : (xs : List ℕ) (c : ℕ) → IsLcmOf xs c → 1000000 < c → MultiplesExceed xs
exceed_from_lcm xs c is more = λ m some all. let le = le_of_dvd some (is.least m all) in omega (arith, le, more)

pub exceed_not : (xs : List ℕ) (c : ℕ) → IsLcmOf xs c → 0 < c → c ≤ 1000000 → ¬ MultiplesExceed xs
exceed_not xs c is some small more = let lt = more c some is.multiple in omega (arith, lt, small)
