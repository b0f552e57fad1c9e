-- The order of exact fractions is total, and ties exactly equal ones.
use Rattle.std.proofs.Common.{◌≡◌, ℕ, ℤ, pos, ◌*◌, ◌<◌, ◌↔◌, sym, ap, ◌∙◌, refl, arith, ◌*ℤ◌, ◌<ℤ◌}
use Rattle.std.proofs.lemmas.Int.{ints}
use Rattle.std.proofs.lemmas.Cmp.{int_ranked, int_cmp_total}
use Rattle.std.proofs.Math.Nat.{mul_assoc, mul_comm}
use Rattle.std.specs.Cmp.{IsTotalOrder}
use Rattle.std.specs.Ordering.{int_cmp, MatchOrdering}
use Rattle.std.specs.declared.cmp.Ordering.{Ordering}
use Rattle.std.specs.declared.cmp.Ordering.TheVariants.{Less, Equal, Greater}
use Rattle.ff_time.specs.laws.Laws.{Moment, moment_cmp, IsSameMoment}
use Rattle.ff_time.proofs.Scaled.{mul-mul, int_cmp-scaled}

swap_last : (a b c : ℕ) → a * b * c ≡ a * c * b
swap_last a b c = mul_assoc a b c ∙ (ap (λ x. a * x) (mul_comm b c) ∙ sym (mul_assoc a c b))

-- over a wider common denominator
order-scaled : (a b : ℤ) (m n d : ℕ) → 0 < d → int_cmp (a *ℤ pos m) (b *ℤ pos n) ≡ int_cmp (a *ℤ pos (m * d)) (b *ℤ pos (n * d))
order-scaled a b m n d some =
    sym (int_cmp-scaled (a *ℤ pos m) (b *ℤ pos n) d some) ∙ (ap (λ x. int_cmp x ((b *ℤ pos n) *ℤ pos d)) (mul-mul a m d) ∙ ap (int_cmp (a *ℤ pos (m * d))) (mul-mul b n d))

-- of three moments, each over the product of the three denominators
key : Moment → Moment → Moment → ℤ
key x y z = x.count *ℤ pos (x.base.num * y.base.den * z.base.den)

key_swap : (x y z : Moment) → key x y z ≡ key x z y
unfolding key
key_swap x y z = ap (λ n. x.count *ℤ pos n) (swap_last x.base.num y.base.den z.base.den)

cmp_key : (x y z : Moment) → moment_cmp x y ≡ int_cmp (key x y z) (key y x z)
unfolding key
cmp_key x y z = order-scaled x.count y.count (x.base.num * y.base.den) (y.base.num * x.base.den) z.base.den z.positive.den_positive

cmp_xz : (x y z : Moment) → moment_cmp x z ≡ int_cmp (key x y z) (key z x y)
cmp_xz x y z = cmp_key x z y ∙ ap (λ k. int_cmp k (key z x y)) (key_swap x z y)

cmp_yz : (x y z : Moment) → moment_cmp y z ≡ int_cmp (key y x z) (key z x y)
cmp_yz x y z = cmp_key y z x ∙ (ap (λ k. int_cmp k (key z y x)) (key_swap y z x) ∙ ap (int_cmp (key y x z)) (key_swap z y x))

pub moment_cmp_total : IsTotalOrder moment_cmp
moment_cmp_total =
    record {
      antisymm = λ x y. int_cmp_total.antisymm (x.count *ℤ pos (x.base.num * y.base.den)) (y.count *ℤ pos (y.base.num * x.base.den));
      trans = λ x y z p q. cmp_xz x y z ∙ int_cmp_total.trans (key x y z) (key y x z) (key z x y) (sym (cmp_key x y z) ∙ p) (sym (cmp_yz x y z) ∙ q);
      congr = λ x y z p. cmp_xz x y z ∙ (int_cmp_total.congr (key x y z) (key y x z) (key z x y) (sym (cmp_key x y z) ∙ p) ∙ sym (cmp_yz x y z));
    }

tied : (x y : ℤ) (o : Ordering) → MatchOrdering o (x <ℤ y) (x ≡ y) (y <ℤ x) → (o ≡ Equal) ↔ (x ≡ y)
tied x y Less h = (λ e. cc, λ e. absurd (omega (arith, ints, h, e)))
tied x y Equal h = (λ e. h, λ e. refl)
tied x y Greater h = (λ e. cc, λ e. absurd (omega (arith, ints, h, e)))

pub moment_cmp-equal : (x y : Moment) → (moment_cmp x y ≡ Equal) ↔ IsSameMoment x y
moment_cmp-equal x y =
    let left : x.count *ℤ pos (x.base.num * y.base.den) ≡ (x.count *ℤ pos x.base.num) *ℤ pos y.base.den = sym (mul-mul x.count x.base.num y.base.den) in
    let right : y.count *ℤ pos (y.base.num * x.base.den) ≡ (y.count *ℤ pos y.base.num) *ℤ pos x.base.den = sym (mul-mul y.count y.base.num x.base.den) in
    let both = tied (x.count *ℤ pos (x.base.num * y.base.den)) (y.count *ℤ pos (y.base.num * x.base.den)) (moment_cmp x y) (int_ranked _ _ (moment_cmp x y) refl) in
    (λ e. sym left ∙ (both.0 e ∙ right), λ e. both.1 (left ∙ (e ∙ sym right)))
