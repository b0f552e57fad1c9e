use Rattle.std.proofs.Common.{◌<◌, ◌∙◌, ℕ, List, [], ◌∷◌, get_or, bit_xor, sym, ap, arith}
use Rattle.ff_bits.specs.Bits.{bits}
use Rattle.ff_bits.specs.Crc.{remainder_from}
use Rattle.ff_bits.proofs.Slices.{eight, eight_mixed, taken_in_8}
use Rattle.ff_bits.proofs.crc.eight_to_8.Goals as goal

pub returns : goal.returns
returns c =
    let xs : List ℕ = c.args.bytes.now in
    let at : ℕ → ℕ = λ (i : ℕ). get_or xs i 0 in
    let first : get_or xs 0 0 < 256 = omega (arith, c.type_inv.bytes 0) in
    let sum : c.args.sum < 256 = omega arith in
    eight_mixed 0x107 8 (bit_xor c.args.sum (at 0)) (at 1) (at 2) (at 3) (at 4) (at 5) (at 6) (at 7) _ _ _ _ _ _ _ _
    c.left_by_8.ensures c.left_by_8-2.ensures c.left_by_8-3.ensures c.left_by_8-4.ensures c.left_by_8-5.ensures c.left_by_8-6.ensures c.left_by_8-7.ensures c.left_by_8-8.ensures
    ∙ sym (ap (λ (ys : List ℕ). remainder_from 0x107 8 c.args.sum (bits ys)) (eight xs c.requires) ∙ taken_in_8 c.args.sum (at 0) (at 1 ∷ at 2 ∷ at 3 ∷ at 4 ∷ at 5 ∷ at 6 ∷ at 7 ∷ []) sum first)
