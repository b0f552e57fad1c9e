use Rattle.std.proofs.Common.{◌≡◌, ℕ, suc, ◌+◌, ◌-◌, ◌*◌, ◌/◌, ◌%◌, ◌^◌, ◌<◌, ◌≤◌, ◌∙◌, Bool, true, false, List, ◌∷◌, ◌++◌, length, take, drop, bit_and, sym, ap, subst, inl, inr, arith, length-drop}
use Rattle.std.specs.Prelude.{replicate}
use Rattle.std.proofs.lemmas.List.{drop-drop}
use Rattle.std.proofs.lemmas.Nat.{one_shl, and_mask}
use lib.Count.{count_leading_zeros}
use Rattle.ff_bits.specs.Bits.{value_of, bits}
use Rattle.ff_bits.proofs.BitsLemmas.{left_is}
use Rattle.ff_bits.proofs.Peek.{peek}
use Rattle.ff_bits.proofs.Zeros.{shifted, front_seen, one_behind, none_there, no_one_yet}
use Rattle.ff_bits.proofs.reader.BitReader.code.Goals as goal

pub skip-requires-clause-there : goal.skip-requires-clause-there
skip-requires-clause-there c =
    let r = c.self.inside in
    let e : length c.args.self.now + r.used ≡ 8 * length r.bytes.now = rw (← c.self.view_is) (left_is r.used r.bytes.now c.self.invariant.1) in
    omega arith

pub returns-clause-read : goal.returns-clause-read
returns-clause-read c =
    let r = c.self.inside in
    let n : ℕ = c.args.n in
    let w : ℕ = c.word_of-word.result in
    let few : r.used < 8 = c.self.invariant.0 in
    let s : ℕ = w * 2 ^ r.used % 18446744073709551616 in
    let z : ℕ = count_leading_zeros 64 s in
    let f = front_seen r.used r.bytes.now few s (shifted r.used r.bytes.now few w c.word_of-word.ensures) in
    let one : drop r.used (bits r.bytes.now) ≡ replicate z false ++ true ∷ drop (z + 1) (drop r.used (bits r.bytes.now)) = elim f.1.1 [ inl none ↦ absurd (omega arith) | inr y ↦ one_behind r.used r.bytes.now few z (64 - r.used) (omega arith) (omega arith) (omega arith) y ] in
    let mask : (1 * 2 ^ n) % 2 ^ 64 ≡ 2 ^ n = one_shl n 64 (omega arith) in
    let p : ℕ = r.used + (z + 1) in
    let last : r.used + z + 1 + n ≡ p + n = omega arith in
    let v = peek p n w r.bytes.now (omega arith) (omega arith) c.word_of-word.ensures in
    let behind : drop p (bits r.bytes.now) ≡ drop (z + 1) c.args.self.now = sym (drop-drop (z + 1) r.used (bits r.bytes.now)) ∙ ap (λ (xs : List Bool). drop (z + 1) xs) c.self.view_is in
    let e : length c.args.self.now + r.used ≡ 8 * length r.bytes.now = rw (← c.self.view_is) (left_is r.used r.bytes.now c.self.invariant.1) in (
      subst (λ (ys : List Bool). ys ≡ replicate z false ++ true ∷ drop (z + 1) ys) c.self.view_is one,
      record {
        enough = omega (arith, length-drop (z + 1) c.args.self.now);
        value = ap (λ (m : ℕ). bit_and (w / 2 ^ (64 - (r.used + z + 1 + n))) (m - 1)) mask ∙ and_mask (w / 2 ^ (64 - (r.used + z + 1 + n))) n ∙ ap (λ (k : ℕ). w / 2 ^ (64 - k) % 2 ^ n) last ∙ v ∙ ap (λ (xs : List Bool). value_of (take n xs)) behind;
        left = c.skip.ensures ∙ sym (drop-drop n (z + 1) c.args.self.now);
      },
    )

pub returns-then-self-lt8-clause-none : goal.returns-then-self-lt8-clause-none
returns-then-self-lt8-clause-none c =
    let r = c.self.inside in
    let e : length c.args.self.now + r.used ≡ 8 * length r.bytes.now = rw (← c.self.view_is) (left_is r.used r.bytes.now c.self.invariant.1) in
    λ zeros few there counted. absurd (omega arith)

pub returns-then-end-gt64-clause-none : goal.returns-then-end-gt64-clause-none
returns-then-end-gt64-clause-none c =
    let r = c.self.inside in
    let few : r.used < 8 = c.self.invariant.0 in
    let s : ℕ = c.word_of-word.result * 2 ^ r.used % 18446744073709551616 in
    let z : ℕ = count_leading_zeros 64 s in
    let f = front_seen r.used r.bytes.now few s (shifted r.used r.bytes.now few c.word_of-word.result c.word_of-word.ensures) in
    λ zeros short there counted.
    let more : zeros + 1 ≤ z = omega arith in
    let e : zeros + 1 ≡ suc zeros = omega arith in
    let zs = none_there r.used r.bytes.now few z (zeros + 1) more (omega arith) (omega arith) f.1.0 in
    let ys : List Bool = c.args.self.now in
    let front : ys ≡ replicate (zeros + 1) false ++ drop (zeros + 1) ys = subst (λ (xs : List Bool). xs ≡ replicate (zeros + 1) false ++ drop (zeros + 1) xs) c.self.view_is zs in
    no_one_yet zeros (drop (zeros + 1) ys) (drop (zeros + 1) ys) (subst (λ (k : ℕ). replicate k false ++ drop (zeros + 1) ys ≡ replicate zeros false ++ true ∷ drop (zeros + 1) ys) e (sym front ∙ counted))
