-- Frames are whole bytes, so the three answers are exact for bytes too.
use Rattle.std.proofs.Common.{◌≡◌, ℕ, ◌+◌, ◌-◌, ◌*◌, ◌/◌, ◌%◌, ◌≤◌, Bool, List, [], ◌++◌, length, drop, sym, ap, ◌∙◌, arith, length-append}
use Rattle.std.proofs.lemmas.List.{drop_at}
use Rattle.ff_bits.specs.Bits.{bits}
use Rattle.ff_bits.specs.Reading.{Done, More, Bad, give, field, with_text}
use Rattle.ff_bits.specs.Crc.{crc16_of}
use Rattle.ff_bits.proofs.SoundTexts.{with_text_takes}
use Rattle.ff_bits.proofs.Sound.{field_length, done_of}
use Rattle.ff_bits.proofs.BitsLemmas.{length-bits, bits-append, bytes_of, bits-bytes_of, bytes_of-below, drop-bits}
use Rattle.ff_flac_frame.specs.Codes.{equal}
use Rattle.ff_flac_frame.specs.declared.stream.FlacStream.{FlacStream}
use Rattle.ff_flac_frame.specs.laws.Facts.{IsFrame}
use Rattle.ff_flac_frame.specs.Frame.{IsStream, Frame, unpadded, padded, frame, Begins, IsNotYet, IsNever}
use Rattle.ff_flac_frame.proofs.FrameSound.{IsSound-unpadded, IsSound-padded, IsSound-frame}

done_same : {A : Type 0} (a b : A) (s t : List Bool) → Done a s ≡ Done b t → (a ≡ b) × (s ≡ t)
done_same a b s t e = (cc, cc)

-- how many bits a reader took
abbrev Takes : List Bool → List Bool → ℕ → Type 0
Takes bits rest n = length bits ≡ n + length rest

pub padded_whole : (s : FlacStream) → IsStream s → (xs : List Bool) (f : Frame) (rest : List Bool) → padded s xs ≡ Done f rest → (n : ℕ) × (length xs ≡ 8 * n + length rest)
unfolding padded
padded_whole s h xs f rest e =
    let b = done_of (with_text (unpadded s)) _ xs f rest e in
    let t = with_text_takes (IsFrame s) (unpadded s) (IsSound-unpadded s h) xs b.0 b.1 b.2 in
    let n : ℕ = length b.0.1 in
    let c = done_of (field ((8 - n % 8) % 8) (equal 0)) (λ _. give b.0.0) b.1 f rest b.3 in
    let l = field_length ((8 - n % 8) % 8) (equal 0) 0 b.1 c.0 c.1 c.2 in
    let g = (done_same b.0.0 f c.1 rest c.3).1 in
    let len : length xs ≡ n + length b.1 = ap length t.1 ∙ length-append b.0.1 b.1 in
    let len_rest : length c.1 ≡ length rest = ap length g in
    ((n + (8 - n % 8) % 8) / 8, omega arith)

pub frame_whole : (s : FlacStream) → IsStream s → (xs : List Bool) (f : Frame) (rest : List Bool) → frame s xs ≡ Done f rest → (n : ℕ) × (length xs ≡ 8 * n + length rest)
unfolding frame
frame_whole s h xs f rest e =
    let b = done_of (with_text (padded s)) _ xs f rest e in
    let t = with_text_takes (IsFrame s) (padded s) (IsSound-padded s h) xs b.0 b.1 b.2 in
    let w = padded_whole s h xs b.0.0 b.1 t.0 in
    let c = done_of (field 16 (equal (crc16_of b.0.1))) (λ _. give b.0.0) b.1 f rest b.3 in
    let l = field_length 16 (equal (crc16_of b.0.1)) 0 b.1 c.0 c.1 c.2 in
    let len_rest : length c.1 ≡ length rest = ap length (done_same b.0.0 f c.1 rest c.3).1 in
    (w.0 + 2, omega (arith, w.1))

module _ (s : FlacStream) (h : IsStream s) where
  -- what is left are whole bytes
  pub is_ok : (bytes : List ℕ) (f : Frame) (rest : List Bool) → frame s (bits bytes) ≡ Done f rest → (len : ℕ) × (8 * len + length rest ≡ 8 * length bytes) × Begins s bytes f len
  is_ok bytes f rest e =
      let w = frame_whole s h (bits bytes) f rest e in
      let t = (IsSound-frame s h).takes (bits bytes) f rest e in
      let lb = length-bits bytes in
      let total : 8 * w.0 + length rest ≡ 8 * length bytes = omega (arith, w.1) in
      let lt : length (bits bytes) ≡ length t.0 + length rest = ap length t.1 ∙ length-append t.0 rest in
      let text_len : length t.0 ≡ 8 * w.0 = omega (arith, w.1) in
      let le : w.0 ≤ length bytes = omega arith in
      let d : rest ≡ bits (drop w.0 bytes) = sym (drop_at t.0 rest (8 * w.0) text_len) ∙ ap (λ (m : List Bool). drop (8 * w.0) m) (sym t.1) ∙ drop-bits w.0 bytes le in
      (w.0, total, (le, e ∙ ap (λ (m : List Bool). Done f m) d))

  pub is_never : (bytes : List ℕ) → frame s (bits bytes) ≡ Bad → IsNever s bytes
  is_never bytes e more f len b =
      let k : frame s (bits bytes ++ bits more) ≡ Bad = (IsSound-frame s h).stays_bad (bits bytes) (bits more) e in
      let l : frame s (bits (bytes ++ more)) ≡ Bad = ap (λ (m : List Bool). frame s m) (bits-append bytes more) ∙ k in
      let d = sym l ∙ b.1 in
      cc

  pub is_not_yet : (bytes : List ℕ) → frame s (bits bytes) ≡ More → IsNotYet s bytes
  is_not_yet bytes e =
      let c = (IsSound-frame s h).completes (bits bytes) e in
      let m : List Bool = c.0 in
      let w = frame_whole s h (bits bytes ++ m) c.1 [] c.2 in
      let lb = length-bits bytes in
      let la = length-append (bits bytes) m in
      let lm : length m ≡ 8 * (w.0 - length bytes) = omega (arith, w.1) in
      let n : ℕ = w.0 - length bytes in
      let more : List ℕ = bytes_of n m in
      let back : bits more ≡ m = bits-bytes_of n m lm in
      let le : length bytes + n ≡ w.0 = omega (arith, w.1) in
      let whole : frame s (bits (bytes ++ more)) ≡ Done c.1 [] = ap (λ (x : List Bool). frame s x) (bits-append bytes more ∙ ap (λ (x : List Bool). bits bytes ++ x) back) ∙ c.2 in
      let o = is_ok (bytes ++ more) c.1 [] whole in
      (λ f len b. let d = sym e ∙ b.1 in cc, more, c.1, o.0, bytes_of-below n m, o.2)
