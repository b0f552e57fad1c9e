-- A frame has 8 bytes at least.
use Rattle.std.proofs.Common.{◌≡◌, ℕ, zero, suc, ◌+◌, ◌-◌, ◌*◌, ◌/◌, ◌≤◌, Bool, true, false, cond, List, length, drop, arith, ap, length-append}
use Rattle.std.specs.Prelude.{◌==◌, slice_index}
use Rattle.std.proofs.lemmas.List.{length-drop}
use Rattle.ff_bits.specs.Bits.{bits, padding}
use Rattle.ff_bits.specs.Reading.{Done, Reader, ◌>>=◌, give, field, with_text}
use Rattle.ff_bits.specs.Crc.{crc8_of, crc16_of}
use Rattle.ff_bits.specs.NumberGrammar.{follow, opened, sixes, coded_below, is_within}
use Rattle.ff_bits.proofs.Sound.{IsSound, field_length, done_of, done_same}
use Rattle.ff_bits.proofs.SoundTexts.{with_text_takes}
use Rattle.ff_bits.proofs.BitsLemmas.{length-bits}
use Rattle.ff_flac_frame.specs.declared.stream.FlacStream.{FlacStream}
use Rattle.ff_flac_frame.specs.Codes.{equal, any, below, sync, not_zero, block_table, depths, rate_fits, form_fits, depth_fits}
use Rattle.ff_flac_frame.specs.laws.Facts.{IsFrame, IsHeader, AreParts}
use Rattle.ff_flac_frame.specs.Frame.{Frame, IsStream, header, sealed_header, subframes, unpadded, padded, frame, Begins, block_of, rate_of}
use Rattle.ff_flac_frame.proofs.FrameSound.{IsSound-header, IsSound-head, IsSound-subframes, depths_low, IsSound-unpadded, IsSound-padded}

-- a reader takes so many bits at least
abbrev pub Takes : {A : Type 0} → ℕ → Reader A → Type 0
Takes {A} n r = (xs : List Bool) (a : A) (rest : List Bool) → r xs ≡ Done a rest → n + length rest ≤ length xs

takes_field : (n : ℕ) (p : ℕ → Bool) → Takes n (field n p)
takes_field n p xs a rest e = let l = field_length n p 0 xs a rest e in omega (arith, l)

takes_give : {A : Type 0} (a : A) → Takes 0 (give a)
takes_give a xs b rest e = let l = ap length (done_same a b xs rest e).1 in omega (arith, l)

takes_chain : {A B : Type 0} (m n : ℕ) (r : Reader A) (f : A → Reader B) → Takes m r → ((a : A) → Takes n (f a)) → Takes (m + n) (r >>= f)
takes_chain m n r f p q xs b rest e =
    let d = done_of r f xs b rest e in
    let first = p xs d.0 d.1 d.2 in
    let second = q d.0 d.1 b rest d.3 in
    omega (arith, first, second)

takes_sound : {A : Type 0} (P : A → Type 0) (r : Reader A) → IsSound P r → Takes 0 r
takes_sound P r h xs a rest e =
    let t = h.takes xs a rest e in
    omega (arith, ap length t.1, length-append t.0 rest)

takes_text : {A : Type 0} (P : A → Type 0) (n : ℕ) (r : Reader A) → IsSound P r → Takes n r → Takes n (with_text r)
takes_text P n r h p xs a rest e = p xs a.0 rest (with_text_takes P r h xs a rest e).0

takes_less : {A : Type 0} (m n : ℕ) (r : Reader A) → n ≤ m → Takes m r → Takes n r
takes_less m n r le p xs a rest e = let l = p xs a rest e in omega (arith, le, l)

takes_if : {A : Type 0} (n : ℕ) (b : Bool) (r s : Reader A) → Takes n r → Takes n s → Takes n (cond b r s)
takes_if n true r s p q = p
takes_if n false r s p q = q

takes_sixes : (k v : ℕ) → Takes 0 (sixes k v)
unfolding sixes
takes_sixes zero v = takes_give v
takes_sixes (suc k) v = takes_less 8 0 (sixes (suc k) v) (omega arith) (takes_chain 8 0 _ _ (takes_field 8 (is_within 0 0x80 0xc0)) (λ byte. takes_sixes k (v * 64 + (byte - 0x80))))

takes_coded : (end : ℕ) → Takes 8 (coded_below end)
unfolding coded_below
takes_coded end = takes_chain 8 0 _ _ (takes_field 8 (is_within 0x80 0xc0 end)) (λ byte. takes_sixes (follow byte) (opened byte))

takes_block : (code : ℕ) → Takes 0 (block_of code)
unfolding block_of
takes_block code = takes_if 0 (code == 6) _ _ (takes_less 8 0 _ (omega arith) (takes_chain 8 0 _ _ (takes_field 8 any) (λ v. takes_give (v + 1))))
    (takes_if 0 (code == 7) _ _ (takes_less 16 0 _ (omega arith) (takes_chain 16 0 _ _ (takes_field 16 (below 65535)) (λ v. takes_give (v + 1)))) (takes_give (slice_index block_table code)))

takes_rate : (rate code : ℕ) → Takes 0 (rate_of rate code)
unfolding rate_of
takes_rate rate code = takes_if 0 (code == 12) _ _ (takes_less 8 0 _ (omega arith) (takes_field 8 (equal (rate / 1000))))
    (takes_if 0 (code == 13) _ _ (takes_less 16 0 _ (omega arith) (takes_field 16 (equal rate)))
    (takes_if 0 (code == 14) _ _ (takes_less 16 0 _ (omega arith) (takes_field 16 (equal (rate / 10)))) (takes_give 0)))

-- four bytes and the coded number
takes_header : (s : FlacStream) → Takes 40 (header s)
unfolding header
takes_header s =
    takes_chain 15 25 _ _ (takes_field 15 (equal sync)) (λ _.
    takes_chain 1 24 _ _ (takes_field 1 any) (λ strategy.
    takes_chain 4 20 _ _ (takes_field 4 not_zero) (λ size.
    takes_chain 4 16 _ _ (takes_field 4 (rate_fits s.rate)) (λ rate.
    takes_chain 4 12 _ _ (takes_field 4 (form_fits s.channels)) (λ form.
    takes_chain 3 9 _ _ (takes_field 3 (depth_fits s.bits)) (λ _.
    takes_chain 1 8 _ _ (takes_field 1 (equal 0)) (λ _.
    takes_chain 8 0 _ _ (takes_coded (cond (strategy == 0) 0xfe 0xff)) (λ number.
    takes_chain 0 0 _ _ (takes_block size) (λ block.
    takes_chain 0 0 _ _ (takes_rate s.rate rate) (λ _.
    takes_give (record { number = number; block = block; form = form })))))))))))

takes_head : (s : FlacStream) → IsStream s → Takes 48 (sealed_header s)
unfolding sealed_header
takes_head s i =
    takes_chain 40 8 _ _ (takes_text (IsHeader s.channels) 40 (header s) (IsSound-header s i) (takes_header s)) (λ x.
    takes_chain 8 0 _ _ (takes_field 8 (equal (crc8_of x.1))) (λ _. takes_give x.0))

-- what follows the header's sum
takes_unpadded : (s : FlacStream) → IsStream s → Takes 48 (unpadded s)
unfolding unpadded
takes_unpadded s i xs f rest e =
    let d = done_of (sealed_header s) _ xs f rest e in
    let h = (IsSound-head s i).gives xs d.0 d.1 d.2 in
    let parts = IsSound-subframes d.0.block (depths d.0.form s.channels s.bits) (depths_low d.0.form s.channels s.bits (omega (arith, i.depth_low))) in
    let first = takes_head s i xs d.0 d.1 d.2 in
    let p = done_of (subframes d.0.block (depths d.0.form s.channels s.bits)) _ d.1 f rest d.3 in
    let second = takes_sound (AreParts d.0.block (depths d.0.form s.channels s.bits)) _ parts d.1 p.0 p.1 p.2 in
    let third = takes_give _ p.1 f rest p.3 in
    omega (arith, first, second, third)

takes_padded : (s : FlacStream) → IsStream s → Takes 48 (padded s)
unfolding padded
takes_padded s i =
    takes_chain 48 0 _ _ (takes_text (IsFrame s) 48 (unpadded s) (IsSound-unpadded s i) (takes_unpadded s i)) (λ x.
    takes_less (padding (length x.1)) 0 _ (omega arith) (takes_field_give (padding (length x.1)) x.0))
  where
    takes_field_give : (n : ℕ) (f : Frame) → Takes n (field n (equal 0) >>= λ _. give f)
    takes_field_give n f xs g rest e = let t = takes_chain n 0 (field n (equal 0)) (λ _. give f) (takes_field n (equal 0)) (λ _. takes_give f) xs g rest e in omega (arith, t)

takes_frame : (s : FlacStream) → IsStream s → Takes 64 (frame s)
unfolding frame
takes_frame s i =
    takes_chain 48 16 _ _ (takes_text (IsFrame s) 48 (padded s) (IsSound-padded s i) (takes_padded s i)) (λ x.
    takes_chain 16 0 _ _ (takes_field 16 (equal (crc16_of x.1))) (λ _. takes_give x.0))

pub eight : (s : FlacStream) → IsStream s → (bs : List ℕ) (f : Frame) (n : ℕ) → Begins s bs f n → 8 ≤ n
eight s i bs f n h =
    let l = takes_frame s i (bits bs) f (bits (drop n bs)) h.1 in
    omega (arith, l, length-bits bs, length-bits (drop n bs), length-drop n bs, h.0)
