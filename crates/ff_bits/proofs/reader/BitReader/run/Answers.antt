use Rattle.std.proofs.Common.{◌≡◌, ℕ, ◌+◌, ◌-◌, ◌*◌, ◌%◌, ◌^◌, ◌<◌, ◌≤◌, Bool, true, false, List, ◌∷◌, ◌++◌, length, drop, subst, inl, inr, arith}
use Rattle.std.specs.Prelude.{replicate}
use lib.Count.{count_leading_zeros}
use Rattle.ff_bits.specs.Bits.{bits}
use Rattle.ff_bits.proofs.BitsLemmas.{left_is}
use Rattle.ff_bits.proofs.Zeros.{shifted, front_seen, one_behind, none_there}
use Rattle.ff_bits.proofs.reader.BitReader.run.Goals as goal
use Rattle.ff_bits.proofs.reader.BitReader.run.Goals.{then-self-lt8, else-self-lt8}

pub returns-then-zeros-there : goal.returns-then-zeros-there
returns-then-zeros-there c =
    let r = c.self.inside in
    let whole : ℕ = c.if-self-lt8.whole in
    let few : r.used < 8 = c.self.invariant.0 in
    let e : length c.args.self.now + r.used ≡ 8 * length r.bytes.now = rw (← c.self.view_is) (left_is r.used r.bytes.now c.self.invariant.1) in
    let bound : (whole ≤ 64) × (whole ≤ 8 * length r.bytes.now) × (r.used < whole) = elim c.if-self-lt8.branch [
      | then-self-lt8 w ↦ (omega arith, omega arith, omega arith)
      | else-self-lt8 w ↦ (omega arith, omega arith, omega arith)
    ] in
    let s : ℕ = c.word_of.result * 2 ^ r.used % 18446744073709551616 in
    let z : ℕ = count_leading_zeros 64 s in
    let f = front_seen r.used r.bytes.now few s (shifted r.used r.bytes.now few c.word_of.result c.word_of.ensures) in
    let lt : z < whole - r.used = c.if-zeros-there.true in
    let one : drop r.used (bits r.bytes.now) ≡ replicate z false ++ true ∷ drop (z + 1) (drop r.used (bits r.bytes.now)) = elim f.1.1 [ inl none ↦ absurd (omega arith) | inr y ↦ one_behind r.used r.bytes.now few z (whole - r.used) lt (omega arith) (omega arith) y ] in
    (omega arith, omega arith, subst (λ (ys : List Bool). ys ≡ replicate z false ++ true ∷ drop (z + 1) ys) c.self.view_is one)

pub returns-else-zeros-there : goal.returns-else-zeros-there
returns-else-zeros-there c =
    let r = c.self.inside in
    let whole : ℕ = c.if-self-lt8.whole in
    let few : r.used < 8 = c.self.invariant.0 in
    let e : length c.args.self.now + r.used ≡ 8 * length r.bytes.now = rw (← c.self.view_is) (left_is r.used r.bytes.now c.self.invariant.1) in
    let bound : (whole ≤ 64) × (whole ≤ 8 * length r.bytes.now) × (r.used < whole) = elim c.if-self-lt8.branch [
      | then-self-lt8 w ↦ (omega arith, omega arith, omega arith)
      | else-self-lt8 w ↦ (omega arith, omega arith, omega arith)
    ] in
    let s : ℕ = c.word_of.result * 2 ^ r.used % 18446744073709551616 in
    let z : ℕ = count_leading_zeros 64 s in
    let there : ℕ = whole - r.used in
    let f = front_seen r.used r.bytes.now few s (shifted r.used r.bytes.now few c.word_of.result c.word_of.ensures) in
    let none = none_there r.used r.bytes.now few z there c.if-zeros-there.false (omega arith) (omega arith) f.1.0 in
    (omega arith, omega arith, omega arith, subst (λ (ys : List Bool). ys ≡ replicate there false ++ drop there ys) c.self.view_is none)
