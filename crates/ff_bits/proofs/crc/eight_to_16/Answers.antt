use Rattle.std.proofs.Common.{◌≡◌, ◌<◌, ◌/◌, ◌%◌, ◌∙◌, ℕ, List, [], ◌∷◌, get_or, bit_xor, bit_and, sym, ap, arith}
use Rattle.std.proofs.lemmas.Nat.{and_mask}
use Rattle.ff_bits.specs.Bits.{bits}
use Rattle.ff_bits.specs.Crc.{remainder_from, left_of}
use Rattle.ff_bits.proofs.Slices.{eight, eight_mixed, taken_in_16}
use Rattle.ff_bits.proofs.crc.eight_to_16.Goals as goal

pub returns : goal.returns
returns c =
    let xs : List ℕ = c.args.bytes.now in
    let s : ℕ = c.args.sum in
    let at : ℕ → ℕ = λ (i : ℕ). get_or xs i 0 in
    let first : get_or xs 0 0 < 256 = omega (arith, c.type_inv.bytes 0) in
    let second : get_or xs 1 0 < 256 = omega (arith, c.type_inv.bytes 1) in
    let sum : s < 65536 = omega arith in
    let low : left_of 0x18005 16 6 (bit_xor (bit_and s 255) (at 1)) ≡ left_of 0x18005 16 6 (bit_xor (s % 256) (at 1)) = ap (λ (x : ℕ). left_of 0x18005 16 6 (bit_xor x (at 1))) (and_mask s 8) in
    eight_mixed 0x18005 16 (bit_xor (s / 256) (at 0)) (bit_xor (s % 256) (at 1)) (at 2) (at 3) (at 4) (at 5) (at 6) (at 7) _ _ _ _ _ _ _ _
    c.left_by_16.ensures c.left_by_16-2.ensures c.left_by_16-3.ensures c.left_by_16-4.ensures c.left_by_16-5.ensures c.left_by_16-6.ensures (c.left_by_16-7.ensures ∙ low) c.left_by_16-8.ensures
    ∙ sym (ap (λ (ys : List ℕ). remainder_from 0x18005 16 s (bits ys)) (eight xs c.requires) ∙ taken_in_16 s (at 0) (at 1) (at 2 ∷ at 3 ∷ at 4 ∷ at 5 ∷ at 6 ∷ at 7 ∷ []) sum first second)
