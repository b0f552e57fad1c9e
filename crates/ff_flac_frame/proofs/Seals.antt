-- A field that stands behind a text and hangs on it: a sum over it, or the zeros that fill a byte.
use Rattle.std.proofs.Common.{◌≡◌, ℕ, zero, suc, ◌+◌, ◌-◌, ◌*◌, ◌/◌, ◌%◌, ◌<◌, ◌≤◌, Bool, true, false, cond, eqb, List, [], ◌∷◌, ◌++◌, length, take, drop, refl, sym, ap, subst, ◌∙◌, arith, length-append}
use Rattle.std.proofs.lemmas.List.{take-append-drop, drop_at, append-nil, drop_more, drop_all}
use Rattle.std.proofs.Common.{get_or}
use Rattle.ff_flac_frame.proofs.Loops.{regroup}
use Rattle.ff_flac_frame.specs.laws.Front.{with_front}
use Rattle.ff_bits.specs.Bits.{bits}
use Rattle.ff_bits.specs.Reading.{Answer, Done, More, Bad, Reader, on, ◌>>=◌, give, field, with_text, and_text}
use Rattle.ff_bits.specs.NumberGrammar.{is_within, follow, opened, sixes, coded_below}
use Rattle.ff_bits.specs.Crc.{crc8_of, crc16_of}
use Rattle.ff_bits.proofs.Sound.{field_length, done_of, take_text}
use Rattle.ff_bits.proofs.BitsLemmas.{length-bits, bits-append, drop-bits}
use Rattle.ff_flac_frame.specs.declared.end.FrameEnd.{FrameEnd}
use Rattle.ff_flac_frame.specs.declared.end.FrameEnd.TheVariants.{NotYet, Never, NoMemory}
use Rattle.ff_flac_frame.specs.laws.Gives.{Fails}
use Rattle.ff_flac_frame.specs.Codes.{any, equal, below, sync, not_zero, rate_fits, form_fits, depth_fits}
use Rattle.ff_flac_frame.specs.declared.stream.FlacStream.{FlacStream}
use Rattle.ff_flac_frame.specs.Frame.{IsStream, Header, Part, Frame, subframe, subframes, block_of, rate_of, header, sealed_header, unpadded, padded, frame, Begins, IsNotYet, IsNever}
use Rattle.ff_flac_frame.proofs.FrameSound.{IsSound-header, IsSound-padded, IsSound-unpadded}
use Rattle.ff_flac_frame.proofs.Whole.{padded_whole, is_ok, is_not_yet, is_never}

abbrev pub seal : {A : Type 0} → Reader A → (List Bool → ℕ) → (List Bool → ℕ) → Reader A
seal r n w = with_text r >>= λ x. field (n x.1) (equal (w x.1)) >>= λ _. give x.0

module _ {A : Type 0} (r : Reader A) (n w : List Bool → ℕ) (xs : List Bool) where
  pub seal_first : (e : FrameEnd) → Fails e (r xs) → Fails e (seal r n w xs)
  seal_first NotYet h = ap (λ (v : Answer A). on (and_text xs v) (λ x. field (n x.1) (equal (w x.1)) >>= λ _. give x.0)) h
  seal_first Never h = ap (λ (v : Answer A). on (and_text xs v) (λ x. field (n x.1) (equal (w x.1)) >>= λ _. give x.0)) h
  seal_first NoMemory h = tt

  seal_text : (a : A) (text mid : List Bool) → r xs ≡ Done a mid → xs ≡ text ++ mid → seal r n w xs ≡ on (field (n text) (equal (w text)) mid) (λ _. give a)
  seal_text a text mid h k =
      let t : with_text r xs ≡ Done (a, text) mid = ap (λ (v : Answer A). and_text xs v) h ∙ ap (λ (t : List Bool). Done (a, t) mid) (take_text xs text mid k) in
      ap (λ (v : Answer (A × List Bool)). on v (λ x. field (n x.1) (equal (w x.1)) >>= λ _. give x.0)) t

  pub seal_done : (a : A) (text mid rest : List Bool) (v : ℕ) → r xs ≡ Done a mid → xs ≡ text ++ mid → field (n text) (equal (w text)) mid ≡ Done v rest → seal r n w xs ≡ Done a rest
  seal_done a text mid rest v h k f = seal_text a text mid h k ∙ ap (λ (u : Answer ℕ). on u (λ _. give a)) f

  pub seal_fails : (e : FrameEnd) (a : A) (text mid : List Bool) → r xs ≡ Done a mid → xs ≡ text ++ mid → Fails e (field (n text) (equal (w text)) mid) → Fails e (seal r n w xs)
  seal_fails NotYet a text mid h k f = seal_text a text mid h k ∙ ap (λ (u : Answer ℕ). on u (λ _. give a)) f
  seal_fails Never a text mid h k f = seal_text a text mid h k ∙ ap (λ (u : Answer ℕ). on u (λ _. give a)) f
  seal_fails NoMemory a text mid h k f = tt

-- ---- whole bytes

-- with so many bits before them, what a reader takes is whole bytes
abbrev pub IsWholeAfter : {A : Type 0} → ℕ → Reader A → Type 0
IsWholeAfter {A} k r = (xs : List Bool) (a : A) (rest : List Bool) → r xs ≡ Done a rest → (n : ℕ) × (length xs + k ≡ 8 * n + length rest)

whole_give : {A : Type 0} (a : A) → IsWholeAfter 0 (give a)
whole_give a xs b rest e = let k : xs ≡ rest = cc in (0, omega (arith, ap length k))

whole_field : {B : Type 0} (k m : ℕ) (p : ℕ → Bool) (f : ℕ → Reader B) → ((v : ℕ) → IsWholeAfter (k + m) (f v)) → IsWholeAfter k (field m p >>= f)
whole_field k m p f h xs b rest e =
    let d = done_of (field m p) f xs b rest e in
    let l = field_length m p 0 xs d.0 d.1 d.2 in
    let w = h d.0 d.1 b rest d.3 in
    (w.0, omega (arith, w.1))

whole_chain : {A B : Type 0} (r : Reader A) (f : A → Reader B) → IsWholeAfter 0 r → ((a : A) → IsWholeAfter 0 (f a)) → IsWholeAfter 0 (r >>= f)
whole_chain r f g h xs b rest e =
    let d = done_of r f xs b rest e in
    let v = g xs d.0 d.1 d.2 in
    let w = h d.0 d.1 b rest d.3 in
    (v.0 + w.0, omega (arith, v.1, w.1))

whole_bytes : {B : Type 0} (m : ℕ) (p : ℕ → Bool) (f : ℕ → Reader B) → ((v : ℕ) → IsWholeAfter 0 (f v)) → IsWholeAfter 0 (field (8 * m) p >>= f)
whole_bytes m p f h xs b rest e =
    let d = done_of (field (8 * m) p) f xs b rest e in
    let l = field_length (8 * m) p 0 xs d.0 d.1 d.2 in
    let w = h d.0 d.1 b rest d.3 in
    (w.0 + m, omega (arith, w.1))

whole_one : (m : ℕ) (p : ℕ → Bool) → IsWholeAfter 0 (field (8 * m) p)
whole_one m p xs a rest e = let l = field_length (8 * m) p 0 xs a rest e in (m, omega arith)

whole_if : {A : Type 0} (b : Bool) (r s : Reader A) → IsWholeAfter 0 r → IsWholeAfter 0 s → IsWholeAfter 0 (cond b r s)
whole_if true r s g h = g
whole_if false r s g h = h

whole_sixes : (k v : ℕ) → IsWholeAfter 0 (sixes k v)
unfolding sixes
whole_sixes zero v = whole_give v
whole_sixes (suc k) v = whole_bytes 1 (is_within 0 0x80 0xc0) _ (λ b. whole_sixes k (v * 64 + (b - 0x80)))

whole_number : (end : ℕ) → IsWholeAfter 0 (coded_below end)
unfolding coded_below
whole_number end = whole_bytes 1 (is_within 0x80 0xc0 end) _ (λ b. whole_sixes (follow b) (opened b))

whole_block_of : (code : ℕ) → IsWholeAfter 0 (block_of code)
unfolding block_of
whole_block_of code =
    whole_if (eqb code 6) _ _ (whole_bytes 1 any _ (λ v. whole_give (v + 1)))
    (whole_if (eqb code 7) _ _ (whole_bytes 2 (below 65535) _ (λ v. whole_give (v + 1))) (whole_give _))

whole_rate_of : (rate code : ℕ) → IsWholeAfter 0 (rate_of rate code)
unfolding rate_of
whole_rate_of rate code =
    whole_if (eqb code 12) _ _ (whole_one 1 (equal (rate / 1000)))
    (whole_if (eqb code 13) _ _ (whole_one 2 (equal rate))
    (whole_if (eqb code 14) _ _ (whole_one 2 (equal (rate / 10))) (whole_give 0)))

whole_later : {A : Type 0} (r : Reader A) → IsWholeAfter 0 r → IsWholeAfter 32 r
whole_later r h xs a rest e = let w = h xs a rest e in (w.0 + 4, omega (arith, w.1))

pub header_whole : (s : FlacStream) → IsWholeAfter 0 (header s)
unfolding header
header_whole s =
    whole_field 0 15 (equal sync) _ (λ _.
    whole_field 15 1 any _ (λ strategy.
    whole_field 16 4 not_zero _ (λ size.
    whole_field 20 4 (rate_fits s.rate) _ (λ rate.
    whole_field 24 4 (form_fits s.channels) _ (λ form.
    whole_field 28 3 (depth_fits s.bits) _ (λ _.
    whole_field 31 1 (equal 0) _ (λ _.
    whole_later _ (
    whole_chain (coded_below _) _ (whole_number _) (λ _.
    whole_chain (block_of size) _ (whole_block_of size) (λ block.
    whole_chain (rate_of s.rate rate) _ (whole_rate_of s.rate rate) (λ _.
    whole_give _)))))))))))

-- what was taken of whole bytes
pub whole_text : (bytes : List ℕ) (text mid : List Bool) (n : ℕ) → bits bytes ≡ text ++ mid → length (bits bytes) ≡ 8 * n + length mid → bits bytes ≡ bits (take (length bytes - length mid / 8) bytes) ++ mid
whole_text bytes text mid n e l =
    let lb = length-bits bytes in
    let le : n ≤ length bytes = omega arith in
    let k : length bytes - length mid / 8 ≡ n = omega arith in
    let lt : length text ≡ 8 * n = omega (arith, ap length e, length-append text mid) in
    let d : mid ≡ bits (drop n bytes) = sym (drop_at text mid (8 * n) lt) ∙ ap (λ (m : List Bool). drop (8 * n) m) (sym e) ∙ drop-bits n bytes le in
    ap bits (sym (take-append-drop n bytes)) ∙ bits-append (take n bytes) (drop n bytes) ∙ ap (λ (m : List Bool). bits (take n bytes) ++ m) (sym d) ∙ ap (λ (j : ℕ). bits (take j bytes) ++ mid) (sym k)

pub header_text : (s : FlacStream) → IsStream s → (bytes : List ℕ) (h : Header) (mid : List Bool) → header s (bits bytes) ≡ Done h mid → bits bytes ≡ bits (take (length bytes - length mid / 8) bytes) ++ mid
header_text s i bytes h mid e =
    let w = header_whole s (bits bytes) h mid e in
    let t = (IsSound-header s i).takes (bits bytes) h mid e in
    whole_text bytes t.0 mid w.0 t.1 (omega (arith, w.1))

pub padded_text : (s : FlacStream) → IsStream s → (bytes : List ℕ) (f : Frame) (mid : List Bool) → padded s (bits bytes) ≡ Done f mid → bits bytes ≡ bits (take (length bytes - length mid / 8) bytes) ++ mid
padded_text s i bytes f mid e =
    let w = padded_whole s i (bits bytes) f mid e in
    let t = (IsSound-padded s i).takes (bits bytes) f mid e in
    whole_text bytes t.0 mid w.0 t.1 w.1

-- how many zeros fill the byte
pub pad_is : (bytes : List ℕ) (text mid : List Bool) → bits bytes ≡ text ++ mid → (8 - length text % 8) % 8 ≡ length mid % 8
pad_is bytes text mid e =
    let lb = length-bits bytes in
    let l : length text + length mid ≡ 8 * length bytes = sym (length-append text mid) ∙ sym (ap length e) ∙ lb in
    omega arith

-- what is left is no longer
pub left_le : (bytes : List ℕ) (text mid : List Bool) → bits bytes ≡ text ++ mid → length mid / 8 ≤ length bytes
left_le bytes text mid e =
    let lb = length-bits bytes in
    let l : length text + length mid ≡ 8 * length bytes = sym (length-append text mid) ∙ sym (ap length e) ∙ lb in
    omega arith

-- ---- subframes, one after the other

module _ (block : ℕ) (front : List Part) (ds : List ℕ) (i : ℕ) (xs : List Bool) (total : Answer (List Part)) where
  pub subframes_goes_on : i < length ds → (part : Part) (after : List Bool) → subframe block (get_or ds i 0) xs ≡ Done part after → with_front front (subframes block (drop i ds) xs) ≡ total → with_front (front ++ part ∷ []) (subframes block (drop (i + 1) ds) after) ≡ total
  unfolding subframes
  subframes_goes_on lt part after h so_far =
      let k : drop i ds ≡ get_or ds i 0 ∷ drop (i + 1) ds = drop_more ds i 0 lt in
      let one : with_front front (subframes block (drop i ds) xs) ≡ with_front (front ++ part ∷ []) (subframes block (drop (i + 1) ds) after) = rw (k, h) (regroup front part (subframes block (drop (i + 1) ds) after)) in
      sym one ∙ so_far

  pub subframes_fails : (e : FrameEnd) → i < length ds → Fails e (subframe block (get_or ds i 0) xs) → with_front front (subframes block (drop i ds) xs) ≡ total → Fails e total
  unfolding subframes
  subframes_fails NotYet lt h so_far =
      let k : drop i ds ≡ get_or ds i 0 ∷ drop (i + 1) ds = drop_more ds i 0 lt in
      let one : with_front front (subframes block (drop i ds) xs) ≡ More = rw (k, h) refl in
      sym so_far ∙ one
  subframes_fails Never lt h so_far =
      let k : drop i ds ≡ get_or ds i 0 ∷ drop (i + 1) ds = drop_more ds i 0 lt in
      let one : with_front front (subframes block (drop i ds) xs) ≡ Bad = rw (k, h) refl in
      sym so_far ∙ one
  subframes_fails NoMemory lt h so_far = tt

  pub subframes_done : length ds ≤ i → with_front front (subframes block (drop i ds) xs) ≡ total → total ≡ Done front xs
  unfolding subframes
  subframes_done le so_far =
      let k : drop i ds ≡ [] = drop_all i ds le in
      let one : with_front front (subframes block (drop i ds) xs) ≡ Done front xs = rw k (ap (λ (ys : List Part). Done ys xs) (append-nil front)) in
      sym so_far ∙ one

-- ---- what the code of each seal knows

module _ (s : FlacStream) (i : IsStream s) (bytes : List ℕ) (xs : List Bool) (start : xs ≡ bits bytes) where
  header_at : (h : Header) (mid : List Bool) (left : ℕ) → header s xs ≡ Done h mid → left ≡ length mid / 8 → xs ≡ bits (take (length bytes - left) bytes) ++ mid
  header_at h mid left e l =
      start ∙ header_text s i bytes h mid (subst (λ (ys : List Bool). header s ys ≡ Done h mid) start e) ∙ ap (λ (j : ℕ). bits (take (length bytes - j) bytes) ++ mid) (sym l)

  padded_at : (f : Frame) (mid : List Bool) (left : ℕ) → padded s xs ≡ Done f mid → left ≡ length mid / 8 → xs ≡ bits (take (length bytes - left) bytes) ++ mid
  padded_at f mid left e l =
      start ∙ padded_text s i bytes f mid (subst (λ (ys : List Bool). padded s ys ≡ Done f mid) start e) ∙ ap (λ (j : ℕ). bits (take (length bytes - j) bytes) ++ mid) (sym l)

  pub header_left : (h : Header) (mid : List Bool) → header s xs ≡ Done h mid → length mid / 8 ≤ length bytes
  header_left h mid e = left_le bytes _ mid (sym start ∙ header_at h mid (length mid / 8) e refl)

  pub padded_left : (f : Frame) (mid : List Bool) → padded s xs ≡ Done f mid → length mid / 8 ≤ length bytes
  padded_left f mid e = left_le bytes _ mid (sym start ∙ padded_at f mid (length mid / 8) e refl)

  pub head_first : (e : FrameEnd) → Fails e (header s xs) → Fails e (sealed_header s xs)
  unfolding sealed_header
  head_first e h = seal_first (header s) (λ _. 8) crc8_of xs e h

  pub head_done : (h : Header) (mid rest : List Bool) (left sum v : ℕ) → header s xs ≡ Done h mid → left ≡ length mid / 8 → sum ≡ crc8_of (bits (take (length bytes - left) bytes)) → field 8 (equal sum) mid ≡ Done v rest → sealed_header s xs ≡ Done h rest
  unfolding sealed_header
  head_done h mid rest left sum v e l c f =
      seal_done (header s) (λ _. 8) crc8_of xs h (bits (take (length bytes - left) bytes)) mid rest v e (header_at h mid left e l) (subst (λ (k : ℕ). field 8 (equal k) mid ≡ Done v rest) c f)

  pub head_fails : (x : FrameEnd) (h : Header) (mid : List Bool) (left sum : ℕ) → header s xs ≡ Done h mid → left ≡ length mid / 8 → sum ≡ crc8_of (bits (take (length bytes - left) bytes)) → Fails x (field 8 (equal sum) mid) → Fails x (sealed_header s xs)
  unfolding sealed_header
  head_fails x h mid left sum e l c f =
      seal_fails (header s) (λ _. 8) crc8_of xs x h (bits (take (length bytes - left) bytes)) mid e (header_at h mid left e l) (subst (λ (k : ℕ). Fails x (field 8 (equal k) mid)) c f)

  unpadded_at : (f : Frame) (mid : List Bool) → unpadded s xs ≡ Done f mid → (text : List Bool) × (xs ≡ text ++ mid)
  unpadded_at f mid e = (IsSound-unpadded s i).takes xs f mid e

  pub pad_first : (e : FrameEnd) → Fails e (unpadded s xs) → Fails e (padded s xs)
  unfolding padded
  pad_first e h = seal_first (unpadded s) (λ t. (8 - length t % 8) % 8) (λ _. 0) xs e h

  pub pad_done : (f : Frame) (mid rest : List Bool) (pad v : ℕ) → unpadded s xs ≡ Done f mid → pad ≡ length mid % 8 → field pad (equal 0) mid ≡ Done v rest → padded s xs ≡ Done f rest
  unfolding padded
  pad_done f mid rest pad v e p g =
      let t = unpadded_at f mid e in
      let n : pad ≡ (8 - length t.0 % 8) % 8 = p ∙ sym (pad_is bytes t.0 mid (sym start ∙ t.1)) in
      seal_done (unpadded s) (λ t. (8 - length t % 8) % 8) (λ _. 0) xs f t.0 mid rest v e t.1 (subst (λ (k : ℕ). field k (equal 0) mid ≡ Done v rest) n g)

  pub pad_fails : (x : FrameEnd) (f : Frame) (mid : List Bool) (pad : ℕ) → unpadded s xs ≡ Done f mid → pad ≡ length mid % 8 → Fails x (field pad (equal 0) mid) → Fails x (padded s xs)
  unfolding padded
  pad_fails x f mid pad e p g =
      let t = unpadded_at f mid e in
      let n : pad ≡ (8 - length t.0 % 8) % 8 = p ∙ sym (pad_is bytes t.0 mid (sym start ∙ t.1)) in
      seal_fails (unpadded s) (λ t. (8 - length t % 8) % 8) (λ _. 0) xs x f t.0 mid e t.1 (subst (λ (k : ℕ). Fails x (field k (equal 0) mid)) n g)

  pub frame_first : (e : FrameEnd) → Fails e (padded s xs) → Fails e (frame s xs)
  unfolding frame
  frame_first e h = seal_first (padded s) (λ _. 16) crc16_of xs e h

  pub frame_done : (f : Frame) (mid rest : List Bool) (left sum v : ℕ) → padded s xs ≡ Done f mid → left ≡ length mid / 8 → sum ≡ crc16_of (bits (take (length bytes - left) bytes)) → field 16 (equal sum) mid ≡ Done v rest → frame s xs ≡ Done f rest
  unfolding frame
  frame_done f mid rest left sum v e l c g =
      seal_done (padded s) (λ _. 16) crc16_of xs f (bits (take (length bytes - left) bytes)) mid rest v e (padded_at f mid left e l) (subst (λ (k : ℕ). field 16 (equal k) mid ≡ Done v rest) c g)

  pub frame_fails : (x : FrameEnd) (f : Frame) (mid : List Bool) (left sum : ℕ) → padded s xs ≡ Done f mid → left ≡ length mid / 8 → sum ≡ crc16_of (bits (take (length bytes - left) bytes)) → Fails x (field 16 (equal sum) mid) → Fails x (frame s xs)
  unfolding frame
  frame_fails x f mid left sum e l c g =
      seal_fails (padded s) (λ _. 16) crc16_of xs x f (bits (take (length bytes - left) bytes)) mid e (padded_at f mid left e l) (subst (λ (k : ℕ). Fails x (field 16 (equal k) mid)) c g)

-- ---- the three answers

module _ (s : FlacStream) (i : IsStream s) (bytes : List ℕ) where
  pub not_yet_from : (e : FrameEnd) → Fails e (frame s (bits bytes)) → e ≡ NotYet → IsNotYet s bytes
  not_yet_from NotYet h k = is_not_yet s i bytes h
  not_yet_from Never h k = absurd cc
  not_yet_from NoMemory h k = absurd cc

  pub never_from : (e : FrameEnd) → Fails e (frame s (bits bytes)) → e ≡ Never → IsNever s bytes
  never_from Never h k = is_never s i bytes h
  never_from NotYet h k = absurd cc
  never_from NoMemory h k = absurd cc

  pub begins : (f : Frame) (rest : List Bool) (left : ℕ) → frame s (bits bytes) ≡ Done f rest → left ≡ length rest / 8 → (left ≤ length bytes) × Begins s bytes f (length bytes - left)
  begins f rest left e l =
      let o = is_ok s i bytes f rest e in
      let le : left ≤ length bytes = omega (arith, o.1) in
      let k : o.0 ≡ length bytes - left = omega (arith, o.1) in
      (le, subst (λ (n : ℕ). Begins s bytes f n) k o.2)
