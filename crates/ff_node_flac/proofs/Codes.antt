-- The bytes of blocks.
use Rattle.std.proofs.Common.{◌≡◌, ℕ, zero, suc, ◌+◌, ◌/◌, ◌^◌, ◌<◌, List, [], ◌∷◌, ◌++◌, length, take, drop, get_or, refl, sym, ap, ◌∙◌, subst, arith}
use Rattle.std.specs.Prelude.{slice_index_or}
use Rattle.std.proofs.lemmas.List.{take_at, drop_at}
use Rattle.std.proofs.Math.Nat.{mod-eq_of_lt}
use Rattle.ff_bits.specs.Bits.{value_of, bits_of, bits}
use Rattle.ff_bits.proofs.BitsLemmas.{length-bits_of, length-bits}
use Rattle.ff_bits.proofs.Words.{value_of-bits_of}
use Rattle.ff_frame.specs.declared.audio.AFrame.{AFrame}
use Rattle.ff_flac_enc.specs.laws.Blocks.{IsCoded, AreCoded}
use Rattle.ff_flac_enc.specs.Totals.{Added, added}
use Rattle.ff_node_flac.specs.Packets.{octets, whole_bytes, spelled_bytes, block_bytes, added_from}
use Rattle.ff_node_flac.specs.laws.Gathering.{AreCodes}

bytes_back : (bytes : List ℕ) → ((i : ℕ) → get_or bytes i 0 < 256) → octets (length bytes) (bits bytes) ≡ bytes
unfolding octets bits
bytes_back [] small = refl
bytes_back (b ∷ bs) small =
    let low : b < 2 ^ 8 = let l : b < 256 = small zero in omega (arith, l) in
    let first : take 8 (bits_of 8 b ++ bits bs) ≡ bits_of 8 b = take_at (bits_of 8 b) (bits bs) 8 (omega (arith, length-bits_of 8 b)) in
    let rest : drop 8 (bits_of 8 b ++ bits bs) ≡ bits bs = drop_at (bits_of 8 b) (bits bs) 8 (omega (arith, length-bits_of 8 b)) in
    let head : value_of (take 8 (bits_of 8 b ++ bits bs)) ≡ b = ap value_of first ∙ (value_of-bits_of 8 b ∙ mod-eq_of_lt low) in
    ap (λ (x : ℕ). x ∷ octets (length bs) (drop 8 (bits_of 8 b ++ bits bs))) head
    ∙ ap (λ (xs : List ℕ). b ∷ xs) (ap (octets (length bs)) rest ∙ bytes_back bs (λ i. small (suc i)))

whole_back : (bytes : List ℕ) → ((i : ℕ) → get_or bytes i 0 < 256) → whole_bytes (bits bytes) ≡ bytes
whole_back bytes small =
    let count : length (bits bytes) / 8 ≡ length bytes = let l = length-bits bytes in omega (arith, l) in
    ap (λ (n : ℕ). octets n (bits bytes)) count ∙ bytes_back bytes small

-- the bytes that a block is coded in are the block's
pub coded_is : (a : AFrame) (number : ℕ) (bytes : List ℕ) → IsCoded a number bytes → ((i : ℕ) → get_or bytes i 0 < 256) → bytes ≡ block_bytes a number
unfolding block_bytes
coded_is a number bytes c small =
    let l = c.0 in
    sym (ap (spelled_bytes a number) l.1 ∙ (ap whole_bytes (sym l.2) ∙ whole_back bytes small))

-- ---- codes of blocks

pub codes_more : (number : ℕ) (codes : List (List ℕ)) (blocks : List AFrame) (b : AFrame) → AreCodes number codes blocks → AreCodes number codes (blocks ++ b ∷ [])
codes_more number [] blocks b c = tt
codes_more number (x ∷ xs) [] b c = absurd c
codes_more number (x ∷ xs) (y ∷ ys) b c = (c.0, codes_more (number + 1) xs ys b c.1)

each_code : (number : ℕ) (codes : List (List ℕ)) (blocks : List AFrame) → length codes ≡ length blocks
    → ((i : ℕ) (e : AFrame) → i < length blocks → IsCoded (slice_index_or blocks i e) (number + i) (slice_index_or codes i [])) → AreCodes number codes blocks
each_code number [] blocks same each = tt
each_code number (x ∷ xs) [] same each = let clash : suc (length xs) ≡ 0 = same in cc
each_code number (x ∷ xs) (y ∷ ys) same each =
    let first : IsCoded y (number + 0) x = each 0 y (omega arith) in
    let here : number + 0 ≡ number = omega arith in
    let count : length xs ≡ length ys = let s : suc (length xs) ≡ suc (length ys) = same in omega (arith, s) in (
      subst (λ (n : ℕ). IsCoded y n x) here first,
      each_code (number + 1) xs ys count (λ i e lt.
          let next : number + suc i ≡ (number + 1) + i = omega arith in
          subst (λ (n : ℕ). IsCoded (slice_index_or ys i e) n (slice_index_or xs i [])) next (each (suc i) e (omega (arith, lt)))),
    )

front_codes : (count number : ℕ) (codes : List (List ℕ)) (blocks : List AFrame) → AreCodes number codes (take count blocks) → AreCodes number codes blocks
front_codes count number [] blocks c = tt
front_codes zero number (x ∷ xs) blocks c = absurd c
front_codes (suc count) number (x ∷ xs) [] c = absurd c
front_codes (suc count) number (x ∷ xs) (y ∷ ys) c = (c.0, front_codes count (number + 1) xs ys c.1)

-- what was coded at once
pub codes_of : (count number : ℕ) (codes : List (List ℕ)) (blocks : List AFrame) → AreCoded (take count blocks) number codes → AreCodes number codes blocks
codes_of count number codes blocks c = front_codes count number codes blocks (each_code number codes (take count blocks) c.0 c.1)

-- ---- one block more

pub added_more : (number : ℕ) (blocks : List AFrame) (b : AFrame)
    → added_from number (blocks ++ b ∷ []) ≡ added_from number blocks ++ added b (length (block_bytes b (number + length blocks))) ∷ []
added_more number [] b = let here : number ≡ number + 0 = omega arith in ap (λ (n : ℕ). added b (length (block_bytes b n)) ∷ []) here
added_more number (x ∷ xs) b =
    let next : (number + 1) + length xs ≡ number + length (x ∷ xs) = omega arith in
    ap (λ (ys : List Added). added x (length (block_bytes x number)) ∷ ys)
    (added_more (number + 1) xs b ∙ ap (λ (n : ℕ). added_from (number + 1) xs ++ added b (length (block_bytes b n)) ∷ []) next)
