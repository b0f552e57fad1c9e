-- The fields of STREAMINFO, by its bytes.
use Rattle.std.proofs.Common.{◌≡◌, ℕ, ◌+◌, ◌*◌, ◌/◌, ◌%◌, ◌^◌, ◌≤◌, Bool, List, ◌++◌, take, drop, length, get_or, sym, ap, ◌∙◌, arith, length-drop}
use Rattle.std.proofs.lemmas.List.{drop-drop, length-take, take-append-drop}
use Rattle.ff_bits.specs.Bits.{value_of, bits}
use Rattle.ff_bits.proofs.BitsLemmas.{length-bits, bits-append, drop-bits}
use Rattle.ff_bits.proofs.Words.{window_of, byte_step}
use Rattle.ff_flac_frame.specs.Frame.{IsBytes}
use Rattle.ff_flac_dec.specs.Blocks.{rate_in, channels_in, bits_in}
use Rattle.ff_flac_dec.specs.laws.Info.{IsInfo}

-- the four bytes that hold rate, channels and depth
abbrev four : List ℕ → List ℕ
four bs = take 4 (drop 14 bs)

abbrev number : List ℕ → ℕ
number bs = ((get_or bs 14 0 * 256 + get_or bs 15 0) * 256 + get_or bs 16 0) * 256 + get_or bs 17 0

four_number : (bs : List ℕ) → 38 ≤ length bs → IsBytes bs → value_of (bits (four bs)) ≡ number bs
unfolding bits
four_number bs l h =
    let a : ℕ = 0 * 256 + get_or bs 14 0 in
    let b : ℕ = a * 256 + get_or bs 15 0 in
    let c : ℕ = b * 256 + get_or bs 16 0 in
    let e : c * 256 + get_or bs 17 0 ≡ number bs = omega arith in
    byte_step 0 3 14 bs (omega (arith, l)) (h 14) ∙ (byte_step a 2 15 bs (omega (arith, l)) (h 15) ∙ (byte_step b 1 16 bs (omega (arith, l)) (h 16) ∙ (byte_step c 0 17 bs (omega (arith, l)) (h 17) ∙ e)))

-- what stands from them on
from_them : (bs : List ℕ) → 38 ≤ length bs → drop 24 (drop 24 (drop 16 (drop 16 (bits (drop 4 bs))))) ≡ bits (four bs) ++ bits (drop 4 (drop 14 bs))
from_them bs l =
    let text : List Bool = bits (drop 4 bs) in
    ap (λ (xs : List Bool). drop 24 (drop 24 xs)) (drop-drop 16 16 text) ∙ (ap (λ (xs : List Bool). drop 24 xs) (drop-drop 24 32 text) ∙ (drop-drop 24 56 text
    ∙ (drop-bits 10 (drop 4 bs) (omega (arith, l, length-drop 4 bs)) ∙ (ap bits (drop-drop 10 4 bs)
    ∙ (ap bits (sym (take-append-drop 4 (drop 14 bs))) ∙ bits-append (four bs) (drop 4 (drop 14 bs)))))))

four_bits : (bs : List ℕ) → 38 ≤ length bs → length (bits (four bs)) ≡ 32
four_bits bs l = omega (arith, l, length-bits (four bs), length-take 4 (drop 14 bs), length-drop 14 bs)

-- n bits of them, u bits in and s bits before their end
part : (n u s : ℕ) (bs : List ℕ) → u + n + s ≡ 32 → 38 ≤ length bs → IsBytes bs
    → value_of (take n (drop u (drop 24 (drop 24 (drop 16 (drop 16 (bits (drop 4 bs)))))))) ≡ number bs / 2 ^ s % 2 ^ n
part n u s bs e l h =
    ap (λ (xs : List Bool). value_of (take n (drop u xs))) (from_them bs l) ∙ (window_of n u s (bits (four bs)) (bits (drop 4 (drop 14 bs))) (four_bits bs l ∙ sym e)
    ∙ ap (λ (k : ℕ). k / 2 ^ s % 2 ^ n) (four_number bs l h))

pub info : (bs : List ℕ) → IsBytes bs → 38 ≤ length bs → IsInfo bs
info bs h l = record {
  rate = let p = part 20 0 12 bs (omega arith) l h in let e : rate_in bs ≡ number bs / 2 ^ 12 % 2 ^ 20 = omega (arith, h 17) in e ∙ sym p;
  channels = let p = part 3 20 9 bs (omega arith) l h in let e : channels_in bs ≡ number bs / 2 ^ 9 % 2 ^ 3 + 1 = omega (arith, h 17) in e ∙ ap (λ (k : ℕ). k + 1) (sym p);
  depth =
      let p = part 5 23 4 bs (omega arith) l h in
      let text : List Bool = drop 24 (drop 24 (drop 16 (drop 16 (bits (drop 4 bs))))) in
      let e : bits_in bs ≡ number bs / 2 ^ 4 % 2 ^ 5 + 1 = omega (arith, h 17) in
      e ∙ ap (λ (k : ℕ). k + 1) (sym (ap (λ (xs : List Bool). value_of (take 5 xs)) (drop-drop 3 20 text) ∙ p));
}
