-- The time base of pictures.
use Rattle.std.proofs.Common.{◌≡◌, ℕ, zero, suc, ◌+◌, ◌*◌, ◌^◌, ◌<◌, ◌≤◌, ◌⊎◌, inl, inr, Bool, true, false, cond, Some, None, Result, Ok, Err, refl, sym, ◌∙◌, arith}
use Rattle.std.specs.Prelude.{nat_lt, ◌==◌, ◌&&◌, ◌||◌, ◌/◌, ◌%◌, not}
use Rattle.std.proofs.Math.Nat.{div-add-mod, div-zero}
use Rattle.std.proofs.lemmas.Bool.Decides.{nat_tests}
use Rattle.ff_time.specs.Fraction.{Fraction, IsBase}
use Rattle.ff_reader.specs.declared.fault.HeadFault.{HeadFault}
use Rattle.ff_reader.specs.declared.fault.HeadFault.TheVariants.{Damaged, Unsupported}
use Rattle.ff_y4m.specs.Numbers.{euclid, lowest, base_of}
use Rattle.ff_y4m.proofs.NumberLaws.{base_is}
use Rattle.ff_avi.specs.Streams.{base_in}

-- what the four tests say
abbrev told_in : ℕ → Fraction → Bool → Bool → Bool → Bool → Result Fraction HeadFault
told_in at low a b c d =
    cond a (Err (Unsupported (at + 40))) (cond b (Err (Unsupported (at + 44)))
    (cond (not c) (Err (Unsupported (at + 40))) (cond (not d) (Err (Unsupported (at + 44))) (Ok low))))

by_tests : (at n m : ℕ) (a b c d : Bool) → (n == 0) ≡ a → (m == 0) ≡ b → nat_lt (lowest n m).num (2 ^ 31) ≡ c → nat_lt (lowest n m).den (2 ^ 31) ≡ d
    → base_in at n m ≡ told_in at (lowest n m) a b c d
unfolding base_in
by_tests at n m a b c d ea eb ec ed = rw (ea, eb, ec, ed) refl

of_tests : (n m : ℕ) (a b c d : Bool) → (n == 0) ≡ a → (m == 0) ≡ b → nat_lt (lowest n m).num (2 ^ 31) ≡ c → nat_lt (lowest n m).den (2 ^ 31) ≡ d
    → base_of n m ≡ cond (a || b) None (cond (c && d) (Some (lowest n m)) None)
unfolding base_of
of_tests n m a b c d ea eb ec ed = rw (ea, eb, ec, ed) refl

is_zero : (n : ℕ) → n ≡ 0 → (n == 0) ≡ true
is_zero n e = grind (arith, nat_tests)

not_zero : (n : ℕ) → 0 < n → (n == 0) ≡ false
not_zero n lt = grind (arith, nat_tests)

pub zero_scale : (at n m : ℕ) → n ≡ 0 → Err (Unsupported (at + 40)) ≡ base_in at n m
zero_scale at n m e = sym (by_tests at n m true (m == 0) (nat_lt (lowest n m).num (2 ^ 31)) (nat_lt (lowest n m).den (2 ^ 31)) (is_zero n e) refl refl refl)

pub zero_rate : (at n m : ℕ) → 0 < n → m ≡ 0 → Err (Unsupported (at + 44)) ≡ base_in at n m
zero_rate at n m lt e = sym (by_tests at n m false true (nat_lt (lowest n m).num (2 ^ 31)) (nat_lt (lowest n m).den (2 ^ 31)) (not_zero n lt) (is_zero m e) refl refl)

-- where there is a base, it is the answer
pub some_base : (at n m : ℕ) (f : Fraction) → 0 < n → 0 < m → Some f ≡ base_of n m → Ok f ≡ base_in at n m
some_base at n m f pn pm e = pick (nat_lt (lowest n m).num (2 ^ 31)) (nat_lt (lowest n m).den (2 ^ 31)) refl refl
  where
    pick : (c d : Bool) → nat_lt (lowest n m).num (2 ^ 31) ≡ c → nat_lt (lowest n m).den (2 ^ 31) ≡ d → Ok f ≡ base_in at n m
    pick true true ec ed =
        let one = of_tests n m false false true true (not_zero n pn) (not_zero m pm) ec ed in
        let same : Some f ≡ Some (lowest n m) = e ∙ one in
        let other = by_tests at n m false false true true (not_zero n pn) (not_zero m pm) ec ed in
        cc
    pick true false ec ed = let one = e ∙ of_tests n m false false true false (not_zero n pn) (not_zero m pm) ec ed in cc
    pick false d ec ed = let one = e ∙ of_tests n m false false false d (not_zero n pn) (not_zero m pm) ec ed in cc

-- numbers of 32 bits with a divisor above 1 are below 2^31 in lowest terms
small_part : (n g : ℕ) → n < 2 ^ 32 → (g ≡ 1) ⊎ (n / g < 2 ^ 31)
small_part n zero lt = inr (let z = div-zero n in omega (arith, z))
small_part n (suc zero) lt = inl refl
small_part n (suc (suc g)) lt =
    let e : (g + 2) * (n / (g + 2)) + n % (g + 2) ≡ n = div-add-mod n (g + 2) in
    let k : suc (suc g) ≡ g + 2 = omega arith in
    inr (rw k (omega (arith, e, lt)))

parts : (n m : ℕ) → ((lowest n m).num ≡ n / euclid (m + 1) n m) × ((lowest n m).den ≡ m / euclid (m + 1) n m)
unfolding lowest
parts n m = (refl, refl)

by_one : (n g : ℕ) → g ≡ 1 → n / g ≡ n
by_one n g e = rw e (omega arith)

same_parts : (n m : ℕ) → n < 2 ^ 32 → m < 2 ^ 32
    → (((lowest n m).num ≡ n) × ((lowest n m).den ≡ m)) ⊎ (((lowest n m).num < 2 ^ 31) × ((lowest n m).den < 2 ^ 31))
same_parts n m ln lm =
    let p = parts n m in
    elim (small_part n (euclid (m + 1) n m) ln) [
      | inl one ↦ inl (p.0 ∙ by_one n (euclid (m + 1) n m) one, p.1 ∙ by_one m (euclid (m + 1) n m) one)
      | inr low ↦ elim (small_part m (euclid (m + 1) n m) lm) [
        | inl one ↦ inl (p.0 ∙ by_one n (euclid (m + 1) n m) one, p.1 ∙ by_one m (euclid (m + 1) n m) one)
        | inr small ↦ inr (let a = p.0 in let b = p.1 in (omega (arith, a, low), omega (arith, b, small)))
      ]
    ]

-- where there is none, one of the numbers is too big as it stands
pub no_base_scale : (at n m : ℕ) → 0 < n → 0 < m → n < 2 ^ 32 → m < 2 ^ 32 → None ≡ base_of n m → 2 ^ 31 ≤ n → Err (Unsupported (at + 40)) ≡ base_in at n m
no_base_scale at n m pn pm ln lm e big = elim (same_parts n m ln lm) [
  | inl same ↦ (let a = same.0 in
      let no : nat_lt (lowest n m).num (2 ^ 31) ≡ false = rw a (big_test n big) in
      sym (by_tests at n m false false false (nat_lt (lowest n m).den (2 ^ 31)) (not_zero n pn) (not_zero m pm) no refl))
  | inr small ↦ (let one = e ∙ of_tests n m false false true true (not_zero n pn) (not_zero m pm) (small_test _ small.0) (small_test _ small.1) in cc)
]
  where
    big_test : (k : ℕ) → 2 ^ 31 ≤ k → nat_lt k (2 ^ 31) ≡ false
    big_test k le = grind (arith, nat_tests)

    small_test : (k : ℕ) → k < 2 ^ 31 → nat_lt k (2 ^ 31) ≡ true
    small_test k lt = grind (arith, nat_tests)

pub no_base_rate : (at n m : ℕ) → 0 < n → 0 < m → n < 2 ^ 32 → m < 2 ^ 32 → None ≡ base_of n m → n < 2 ^ 31 → Err (Unsupported (at + 44)) ≡ base_in at n m
no_base_rate at n m pn pm ln lm e few = elim (same_parts n m ln lm) [
  | inl same ↦ (let a = same.0 in
      let low_test : nat_lt (lowest n m).num (2 ^ 31) ≡ true = rw a (small_test n few) in
      pick (nat_lt (lowest n m).den (2 ^ 31)) refl low_test)
  | inr small ↦ (let one = e ∙ of_tests n m false false true true (not_zero n pn) (not_zero m pm) (small_test _ small.0) (small_test _ small.1) in cc)
]
  where
    small_test : (k : ℕ) → k < 2 ^ 31 → nat_lt k (2 ^ 31) ≡ true
    small_test k lt = grind (arith, nat_tests)

    pick : (d : Bool) → nat_lt (lowest n m).den (2 ^ 31) ≡ d → nat_lt (lowest n m).num (2 ^ 31) ≡ true → Err (Unsupported (at + 44)) ≡ base_in at n m
    pick true ed low_test = let one = e ∙ of_tests n m false false true true (not_zero n pn) (not_zero m pm) low_test ed in cc
    pick false ed low_test = sym (by_tests at n m false false true false (not_zero n pn) (not_zero m pm) low_test ed)

-- an answer is a time base, or a field that isn't supported
pub base_sound : (at n m : ℕ) (f : Fraction) → base_in at n m ≡ Ok f → IsBase f
base_sound at n m f e = pick (n == 0) (m == 0) (nat_lt (lowest n m).num (2 ^ 31)) (nat_lt (lowest n m).den (2 ^ 31)) refl refl refl refl
  where
    pick : (a b c d : Bool) → (n == 0) ≡ a → (m == 0) ≡ b → nat_lt (lowest n m).num (2 ^ 31) ≡ c → nat_lt (lowest n m).den (2 ^ 31) ≡ d → IsBase f
    pick true b c d ea eb ec ed = let one = sym (by_tests at n m true b c d ea eb ec ed) ∙ e in cc
    pick false true c d ea eb ec ed = let one = sym (by_tests at n m false true c d ea eb ec ed) ∙ e in cc
    pick false false false d ea eb ec ed = let one = sym (by_tests at n m false false false d ea eb ec ed) ∙ e in cc
    pick false false true false ea eb ec ed = let one = sym (by_tests at n m false false true false ea eb ec ed) ∙ e in cc
    pick false false true true ea eb ec ed =
        let one : Ok (lowest n m) ≡ Ok f = sym (by_tests at n m false false true true ea eb ec ed) ∙ e in
        let two = of_tests n m false false true true ea eb ec ed in
        let both : base_of n m ≡ Some f = cc in
        ((base_is n m f).0 both).1

pub base_undamaged : (at n m p : ℕ) → base_in at n m ≡ Err (Damaged p) → ⊥
unfolding base_in
base_undamaged at n m p e = grind arith
