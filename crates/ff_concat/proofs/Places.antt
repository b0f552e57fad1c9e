-- Where an input stands.
use Rattle.std.proofs.Common.{◌≡◌, ◌<◌, ◌*◌, ◌/◌, ℕ, zero, suc, length, subst, arith}
use Rattle.std.proofs.Math.Nat.{div-lt_iff_lt-mul}
use Rattle.ff_concat.specs.declared.concat.Concat.{Concat}

some_of : (n w p : ℕ) → p < n * w → 0 < w
some_of n zero p lt = absurd (let e : n * 0 ≡ 0 = omega arith in omega (arith, lt, e))
some_of n (suc w) p lt = omega arith

-- where there are inputs, there are outputs
pub some_outputs : (m : Concat) (p : ℕ) → p < length m.reaches.items → 0 < length m.tracks.items
some_outputs m p lt = some_of m.segments (length m.tracks.items) p (subst (λ (k : ℕ). p < k) m.inputs lt)

-- the segment of an input is there
pub segment_there : (m : Concat) (p : ℕ) → p < length m.reaches.items → p / length m.tracks.items < m.segments
segment_there m p lt = (div-lt_iff_lt-mul (some_outputs m p lt)).1 (subst (λ (k : ℕ). p < k) m.inputs lt)
