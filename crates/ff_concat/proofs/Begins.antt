-- When segments begin and end.
use Rattle.std.proofs.Common.{◌≡◌, ℕ, zero, suc, ◌+◌, ◌*◌, ◌<◌, ◌≤◌, min, max, List, [], ◌∷◌, length, get_or, inl, inr, ap, sym, ◌∙◌, subst, arith}
use Rattle.std.specs.Prelude.{slice_index}
use Rattle.std.specs.Int.{div_ceil}
use Rattle.std.proofs.lemmas.Bool.{cases_eq, cases_lt}
use Rattle.std.proofs.lemmas.Grind.{div_ceil_times}
use Rattle.std.proofs.Math.Nat.{mul-le-mul_right}
use Rattle.ff_time.specs.Fraction.{Fraction}
use Rattle.ff_concat.specs.Tails.{Tail, latest}
use Rattle.ff_concat.specs.Concats.{begin_in, product, ticks_by}

sum_up : (tick time long e : ℕ) → 0 < tick → e * tick ≤ long → div_ceil time tick + e ≤ div_ceil (time + long) tick
sum_up tick time long e some le =
    let a = div_ceil time tick in
    let b = div_ceil (time + long) tick in
    elim (cases_lt b (a + e)) as (λ _. a + e ≤ b) [
      | inl less ↦ absurd (
          let up : a * tick < time + tick = (div_ceil_times time tick some).1 in
          let down : time + long ≤ b * tick = (div_ceil_times (time + long) tick some).0 in
          let step : b + 1 ≤ a + e = omega (arith, less) in
          let more : (b + 1) * tick ≤ (a + e) * tick = mul-le-mul_right tick step in
          omega (arith, up, down, more, le)
          )
      | inr at_least ↦ at_least
    ]

-- a stream that lasts no longer than its segment ends no later than the next one begins, up to the last time
pub ends_before : (tick time long e : ℕ) → 0 < tick → e * tick ≤ long → min (begin_in tick time + e) 9223372036854775807 ≤ begin_in tick (time + long)
ends_before tick time long e some le =
    let a = div_ceil time tick in
    let b = div_ceil (time + long) tick in
    let s : a + e ≤ b = sum_up tick time long e some le in
    capped a b e s
  where
    capped : (a b e : ℕ) → a + e ≤ b → min (min a 9223372036854775807 + e) 9223372036854775807 ≤ min b 9223372036854775807
    capped a b e s = omega (arith, s)

-- no stream of a segment ends later than the segment
pub none_later : (tick_list : List ℕ) (w p : ℕ) (ts : ℕ → Tail) (q : ℕ) → q < w → (ts (p + q)).end * slice_index tick_list q ≤ latest tick_list w p ts
none_later tick_list zero p ts q lt = absurd (omega arith)
none_later tick_list (suc w) p ts q lt = elim (cases_eq q w) as (λ _. (ts (p + q)).end * slice_index tick_list q ≤ latest tick_list (suc w) p ts) [
  | inl same ↦ subst (λ (k : ℕ). (ts (p + k)).end * slice_index tick_list k ≤ latest tick_list (suc w) p ts) (sym same)
      (let m : (ts (p + w)).end * slice_index tick_list w ≤ max (latest tick_list w p ts) ((ts (p + w)).end * slice_index tick_list w) = omega arith in m)
  | inr n ↦ (
      let less = none_later tick_list w p ts q (omega (arith, lt, n)) in
      let m : latest tick_list w p ts ≤ max (latest tick_list w p ts) ((ts (p + w)).end * slice_index tick_list w) = omega arith in
      omega (arith, less, m)
      )
]

-- so many units are a tick: as a part of all of them it is the time base
pub tick_is : (s : ℕ) (bs : List Fraction) (q : ℕ) (d : Fraction) → q < length bs
    → slice_index (ticks_by s bs) q * (get_or bs q d).den ≡ (get_or bs q d).num * (s * product bs)
tick_is s [] q d lt = absurd (omega arith)
tick_is s (b ∷ bs) zero d lt = omega arith
tick_is s (b ∷ bs) (suc q) d lt =
    let more = tick_is (s * b.den) bs q d (omega (arith, lt)) in
    let same : s * b.den * product bs ≡ s * (b.den * product bs) = omega arith in
    more ∙ ap (λ (k : ℕ). (get_or bs q d).num * k) same
