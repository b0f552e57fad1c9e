-- A header that was written is read back.
use Rattle.std.proofs.Common.{◌≡◌, ℕ, ◌+◌, ◌-◌, ◌^◌, ◌<◌, ◌≤◌, Bool, true, false, cond, eqb, ltb, leb, [], refl, sym, subst, arith}
use Rattle.std.proofs.lemmas.Bool.{lt-ltb, eqb-true, leb-true}
use Rattle.ff_bits.specs.Bits.{bits_of}
use Rattle.ff_bits.specs.Number.{shortest}
use Rattle.ff_bits.specs.NumberGrammar.{coded_below, of_31_bits}
use Rattle.ff_bits.specs.Reading.{◌>>=◌, give, field}
use Rattle.ff_bits.proofs.NumberBelow.{reads_31}
use Rattle.ff_flac_frame.specs.Codes.{any, not_zero, rate_fits, depth_fits}
use Rattle.ff_flac_frame.specs.Frame.{block_of, rate_of}
use Rattle.ff_flac_subframe.specs.laws.rice.Spells.{Reads}
use Rattle.ff_flac_subframe.proofs.RiceLemmas.ReadsBack.{reads-map, reads-value, reads-field}
use Rattle.ff_flac_enc.specs.Head.{block_code, block_bits_by, rate_code, depth_code}

-- ---- the codes

abbrev pub IsBlockCode : ℕ → ℕ → Type 0
IsBlockCode n c = (c < 16) × (not_zero c ≡ true) × Reads (block_of c) (block_bits_by c n) n

pick_block : (n m c other : ℕ) → IsBlockCode m c → IsBlockCode n other → IsBlockCode n (cond (eqb n m) c other)
pick_block n m c other h g = elim (eqb n m) as (λ b. eqb n m ≡ b → IsBlockCode n (cond b c other)) [
  | true ↦ λ e. subst (λ (k : ℕ). IsBlockCode k c) (sym (eqb-true n m e)) h
  | false ↦ λ e. g
] refl

told_block : (n bits : ℕ) → 1 ≤ n → n ≤ 2 ^ bits → Reads (field bits any >>= λ v. give (v + 1)) (bits_of bits (n - 1)) n
told_block n bits h l =
    let e : n - 1 + 1 ≡ n = omega arith in
    let small : n - 1 < 2 ^ bits = omega arith in
    reads-value (field bits any >>= λ v. give (v + 1)) (bits_of bits (n - 1)) (n - 1 + 1) n e (reads-map (field bits any) (λ v. v + 1) (bits_of bits (n - 1)) (n - 1) (reads-field bits any (n - 1) small refl))

byte_block : (n : ℕ) → 1 ≤ n → n ≤ 256 → IsBlockCode n 6
unfolding block_of block_bits_by
byte_block n h l = (omega arith, refl, told_block n 8 h (omega arith))

below_limit : (n : ℕ) → 1 ≤ n → n ≤ 4096 → ltb (n - 1) 65535 ≡ true
below_limit n h l = lt-ltb (n - 1) 65535 (omega arith)

word_block : (n : ℕ) → 1 ≤ n → n ≤ 4096 → IsBlockCode n 7
unfolding block_of block_bits_by
word_block n h l =
    let e : n - 1 + 1 ≡ n = omega arith in
    let small : n - 1 < 2 ^ 16 = omega arith in
    let p : ℕ → Bool = λ v. ltb v 65535 in (
      omega arith,
      refl,
      reads-value (field 16 p >>= λ v. give (v + 1)) (bits_of 16 (n - 1)) (n - 1 + 1) n e (reads-map (field 16 p) (λ v. v + 1) (bits_of 16 (n - 1)) (n - 1) (reads-field 16 p (n - 1) small (below_limit n h l))),
    )

last_block : (n : ℕ) → 1 ≤ n → n ≤ 4096 → IsBlockCode n (cond (leb n 256) 6 7)
last_block n h l = elim (leb n 256) as (λ b. leb n 256 ≡ b → IsBlockCode n (cond b 6 7)) [
  | true ↦ λ e. byte_block n h (leb-true n 256 e)
  | false ↦ λ e. word_block n h l
] refl

pub block_code_is : (n : ℕ) → 1 ≤ n → n ≤ 4096 → IsBlockCode n (block_code n)
unfolding block_code block_of block_bits_by
block_code_is n h l =
    pick_block n 192 1 _ (omega arith, refl, λ rest. refl) (pick_block n 576 2 _ (omega arith, refl, λ rest. refl) (pick_block n 1152 3 _ (omega arith, refl, λ rest. refl)
    (pick_block n 2304 4 _ (omega arith, refl, λ rest. refl) (pick_block n 4608 5 _ (omega arith, refl, λ rest. refl) (pick_block n 256 8 _ (omega arith, refl, λ rest. refl)
    (pick_block n 512 9 _ (omega arith, refl, λ rest. refl) (pick_block n 1024 10 _ (omega arith, refl, λ rest. refl) (pick_block n 2048 11 _ (omega arith, refl, λ rest. refl)
    (pick_block n 4096 12 _ (omega arith, refl, λ rest. refl) (pick_block n 8192 13 _ (omega arith, refl, λ rest. refl) (pick_block n 16384 14 _ (omega arith, refl, λ rest. refl)
    (pick_block n 32768 15 _ (omega arith, refl, λ rest. refl) (last_block n h l)))))))))))))

abbrev pub IsRateCode : ℕ → ℕ → Type 0
IsRateCode rate c = (c < 16) × (rate_fits rate c ≡ true) × Reads (rate_of rate c) [] 0

pick_rate : (rate m c other : ℕ) → IsRateCode m c → IsRateCode rate other → IsRateCode rate (cond (eqb rate m) c other)
pick_rate rate m c other h g = elim (eqb rate m) as (λ b. eqb rate m ≡ b → IsRateCode rate (cond b c other)) [
  | true ↦ λ e. subst (λ (k : ℕ). IsRateCode k c) (sym (eqb-true rate m e)) h
  | false ↦ λ e. g
] refl

pub rate_code_is : (rate : ℕ) → IsRateCode rate (rate_code rate)
unfolding rate_code rate_fits rate_of
rate_code_is rate =
    pick_rate rate 88200 1 _ (omega arith, refl, λ rest. refl) (pick_rate rate 176400 2 _ (omega arith, refl, λ rest. refl) (pick_rate rate 192000 3 _ (omega arith, refl, λ rest. refl)
    (pick_rate rate 8000 4 _ (omega arith, refl, λ rest. refl) (pick_rate rate 16000 5 _ (omega arith, refl, λ rest. refl) (pick_rate rate 22050 6 _ (omega arith, refl, λ rest. refl)
    (pick_rate rate 24000 7 _ (omega arith, refl, λ rest. refl) (pick_rate rate 32000 8 _ (omega arith, refl, λ rest. refl) (pick_rate rate 44100 9 _ (omega arith, refl, λ rest. refl)
    (pick_rate rate 48000 10 _ (omega arith, refl, λ rest. refl) (pick_rate rate 96000 11 _ (omega arith, refl, λ rest. refl) (omega arith, refl, λ rest. refl)))))))))))

abbrev pub IsDepthCode : ℕ → ℕ → Type 0
IsDepthCode bits c = (c < 8) × (depth_fits bits c ≡ true)

pick_depth : (bits m c other : ℕ) → IsDepthCode m c → IsDepthCode bits other → IsDepthCode bits (cond (eqb bits m) c other)
pick_depth bits m c other h g = elim (eqb bits m) as (λ b. eqb bits m ≡ b → IsDepthCode bits (cond b c other)) [
  | true ↦ λ e. subst (λ (k : ℕ). IsDepthCode k c) (sym (eqb-true bits m e)) h
  | false ↦ λ e. g
] refl

pub depth_code_is : (bits : ℕ) → IsDepthCode bits (depth_code bits)
unfolding depth_code depth_fits
depth_code_is bits =
    pick_depth bits 8 1 _ (omega arith, refl) (pick_depth bits 12 2 _ (omega arith, refl) (pick_depth bits 16 4 _ (omega arith, refl) (pick_depth bits 20 5 _ (omega arith, refl)
    (pick_depth bits 24 6 _ (omega arith, refl) (omega arith, refl)))))

-- ---- the number

pub reads-number : (v : ℕ) → v < 2 ^ 31 → Reads (coded_below of_31_bits) (shortest v) v
reads-number v h rest = reads_31 v rest h
