-- Ticks of a time base.
use Rattle.std.proofs.Common.{◌≡◌, ℕ, ℤ, pos, ◌*◌, ◌<◌, ◌^◌, ◌≤ℤ◌, ◌*ℤ◌, ◌-ℤ◌, Option, inl, inr, sym, ap, subst, ◌∙◌, arith}
use Rattle.std.proofs.Props.{props}
use Rattle.std.proofs.lemmas.Int.{ints}
use Rattle.std.proofs.lemmas.Bool.{cases_lt}
use Rattle.ff_time.specs.Fraction.{Fraction}
use Rattle.ff_time.specs.Rescale.{Reaches}
use Rattle.ff_time.proofs.Ceiling.{IsCeiling-div_ceil, Reaches-ceiling, Reaches-least}
use Rattle.ff_stream.specs.Times.{ticks}
use Rattle.ff_filter.specs.declared.range.Range.{Range}
use Rattle.ff_filter.specs.Ranges.{IsCeiling}
use Rattle.ff_trim.specs.Cuts.{ticks_at, in_bits}

ints_between : (a b : ℤ) → a ≤ℤ b → b ≤ℤ a → a ≡ b
ints_between a b p q = omega (arith, ints)

no_times : (n m : ℤ) (k : ℕ) → k ≡ 0 → n *ℤ pos k ≡ m *ℤ pos k
no_times n m k e = subst (λ j. n *ℤ pos j ≡ m *ℤ pos j) (sym e) (omega (arith, ints))

-- where a least number reaches, there are ticks
num_some : (us : ℕ) (tb : Fraction) (n : ℤ) → Reaches us tb n → ((m : ℤ) → Reaches us tb m → n ≤ℤ m) → 0 < tb.num * 1000000
num_some us tb n r least =
    elim (cases_lt 0 (tb.num * 1000000)) as (λ _. 0 < tb.num * 1000000) [
      | inl some ↦ some
      | inr none ↦ (
          let e : tb.num * 1000000 ≡ 0 = omega (arith, none) in
          let below : Reaches us tb (n -ℤ pos 1) = subst (λ z. pos (us * tb.den) ≤ℤ z) (no_times n (n -ℤ pos 1) (tb.num * 1000000) e) r in
          let less = least (n -ℤ pos 1) below in
          absurd (omega (arith, ints, less))
          )
    ]

pub ceiling_is : (us : ℕ) (tb : Fraction) (k : ℕ) → IsCeiling us tb k → ticks_at tb us ≡ k
ceiling_is us tb k h =
    let some = num_some us tb h.0 h.1 h.2 in
    let is = IsCeiling-div_ceil (us * tb.den) (tb.num * 1000000) some in
    let low = h.2 (pos (ticks_at tb us)) (Reaches-ceiling us tb (ticks_at tb us) is) in
    let high = Reaches-least us tb (ticks_at tb us) h.0 is h.1 in
    let same : h.0 ≡ pos (ticks_at tb us) = ints_between h.0 (pos (ticks_at tb us)) low high in
    ap ticks (sym same) ∙ sym h.3

near_one : (n : ℕ) (p q : n < 2 ^ 63) → p ≡ q
near_one n p q = (let one : IsProp (n < 2 ^ 63) = hlevel props in one p q)

range_at : (n : ℕ) (stop : Option ℕ) (p q : n < 2 ^ 63) → (let m : Range = record { start = n; stop = stop; near = p } in m) ≡ record { start = n; stop = stop; near = q }
range_at n stop p q = ap (λ (b : n < 2 ^ 63). let m : Range = record { start = n; stop = stop; near = b } in m) (near_one n p q)

-- a range by its start and stop
pub range_same : (r : Range) (n : ℕ) (stop : Option ℕ) (q : n < 2 ^ 63) → r.start ≡ n → r.stop ≡ stop → r ≡ record { start = n; stop = stop; near = q }
range_same r n stop q e f =
    subst (λ k. (q : k < 2 ^ 63) → r ≡ record { start = k; stop = stop; near = q }) e
    (λ q. subst (λ (x : Option ℕ). r ≡ record { start = r.start; stop = x; near = q }) f (range_at r.start r.stop r.near q)) q

pub in_bits-same : (n k : ℕ) → k ≡ n → k < 2 ^ 63 → k ≡ in_bits n
in_bits-same n k e lt = omega arith
