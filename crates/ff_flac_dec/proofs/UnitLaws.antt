-- What begins with a frame does so whatever follows, and the chain of frames step by step.
use Rattle.std.proofs.Common.{◌≡◌, ◌≢◌, ℕ, zero, suc, ◌+◌, ◌-◌, ◌/◌, ◌≤◌, ◌⊎◌, inl, inr, true, false, cond, List, [], ◌∷◌, ◌++◌, take, drop, length, Option}
use Rattle.std.proofs.Common.{Some, None, refl, sym, ap, ◌∙◌, subst, arith, add-zero, append-nil, pos}
use Rattle.std.proofs.lemmas.List.{length-drop}
use Rattle.ff_bits.specs.Bits.{bits}
use Rattle.ff_bits.specs.Reading.{Answer, Done, More, Bad}
use Rattle.ff_bits.proofs.BitsLemmas.{length-bits, bits-append}
use Rattle.ff_frame.specs.Packet.{packet_at}
use Rattle.ff_frame.specs.declared.packet.Pkt.{Pkt}
use Rattle.ff_flac_frame.specs.declared.stream.FlacStream.{FlacStream}
use Rattle.ff_flac_frame.specs.Frame.{Frame, IsStream, frame, Begins, IsNotYet, IsNever}
use Rattle.ff_flac_frame.proofs.FrameSound.{IsSound-frame}
use Rattle.ff_flac_frame.proofs.LawLemmas.{longer, in_shape}
use Rattle.ff_flac_frame.proofs.Whole.{is_ok, is_not_yet}
use Rattle.ff_flac_dec.specs.declared.front.Front.{Front}
use Rattle.ff_flac_dec.specs.declared.front.Front.TheVariants.{Wait, Other, Whole}
use Rattle.ff_flac_dec.specs.Packets.{front_as, unit, packets_from, broken_from}
use Rattle.ff_flac_dec.specs.Trailers.{are_tags}
use Rattle.ff_flac_dec.proofs.Shortest.{eight}

-- ---- one unit

unit_as : (s : FlacStream) (bs : List ℕ) (a : Answer Frame) → frame s (bits bs) ≡ a → unit s bs ≡ front_as (length bs) a
unfolding unit
unit_as s bs a e = ap (front_as (length bs)) e

pub unit_begins : (s : FlacStream) (bs : List ℕ) (f : Frame) (n : ℕ) → Begins s bs f n → unit s bs ≡ Whole n f.header.block
unit_begins s bs f n h =
    let whole = unit_as s bs (Done f (bits (drop n bs))) h.1 in
    let count : length bs - length (bits (drop n bs)) / 8 ≡ n = omega (arith, h.0, length-bits (drop n bs), length-drop n bs) in
    whole ∙ ap (λ k. Whole k f.header.block) count

-- a whole unit is a frame
pub whole_begins : (s : FlacStream) → IsStream s → (bs : List ℕ) (n block : ℕ) → unit s bs ≡ Whole n block → (f : Frame) × Begins s bs f n × (f.header.block ≡ block)
whole_begins s i bs n block e = by_answer (frame s (bits bs)) refl
  where
    by_answer : (a : Answer Frame) → frame s (bits bs) ≡ a → (f : Frame) × Begins s bs f n × (f.header.block ≡ block)
    by_answer (Done f rest) h =
        let o = is_ok s i bs f rest h in
        let is = sym (unit_begins s bs f o.0 o.2) ∙ e in
        let len : o.0 ≡ n = cc in
        let same : f.header.block ≡ block = cc in
        (f, subst (λ k. Begins s bs f k) len o.2, same)
    by_answer More h = let clash = sym (unit_as s bs More h) ∙ e in cc
    by_answer Bad h = let clash = sym (unit_as s bs Bad h) ∙ e in cc

pub other_bad : (s : FlacStream) (bs : List ℕ) → unit s bs ≡ Other → frame s (bits bs) ≡ Bad
other_bad s bs e = by_answer (frame s (bits bs)) refl
  where
    by_answer : (a : Answer Frame) → frame s (bits bs) ≡ a → frame s (bits bs) ≡ Bad
    by_answer (Done f rest) h = let clash = sym (unit_as s bs (Done f rest) h) ∙ e in cc
    by_answer More h = let clash = sym (unit_as s bs More h) ∙ e in cc
    by_answer Bad h = h

pub wait_more : (s : FlacStream) (bs : List ℕ) → unit s bs ≡ Wait → frame s (bits bs) ≡ More
wait_more s bs e = by_answer (frame s (bits bs)) refl
  where
    by_answer : (a : Answer Frame) → frame s (bits bs) ≡ a → frame s (bits bs) ≡ More
    by_answer (Done f rest) h = let clash = sym (unit_as s bs (Done f rest) h) ∙ e in cc
    by_answer More h = h
    by_answer Bad h = let clash = sym (unit_as s bs Bad h) ∙ e in cc

-- a frame has 8 bytes at least, and at most 65,535 sample frames
pub begins_bounds : (s : FlacStream) → IsStream s → (bs : List ℕ) (f : Frame) (n len block : ℕ) → Begins s bs f n → n ≡ len → f.header.block ≡ block
    → (8 ≤ len) × (len ≤ length bs) × (1 ≤ block) × (block ≤ 65535)
begins_bounds s i bs f n len block h l k =
    let some : 1 ≤ f.header.block = (in_shape s i bs f n h).header.some in
    let few : f.header.block ≤ 65535 = (in_shape s i bs f n h).header.few in
    let long : 8 ≤ n = eight s i bs f n h in
    (omega (arith, long, l), omega (arith, h.0, l), omega (arith, some, k), omega (arith, few, k))

pub whole_at : (s : FlacStream) → IsStream s → (bs : List ℕ) (n block : ℕ) → unit s bs ≡ Whole n block → (8 ≤ n) × (n ≤ length bs) × (1 ≤ block) × (block ≤ 65535)
whole_at s i bs n block e =
    let w = whole_begins s i bs n block e in
    begins_bounds s i bs w.0 n n block w.1 refl w.2

pub whole-append : (s : FlacStream) → IsStream s → (bs more : List ℕ) (n block : ℕ) → unit s bs ≡ Whole n block → unit s (bs ++ more) ≡ Whole n block
whole-append s i bs more n block e =
    let w = whole_begins s i bs n block e in
    unit_begins s (bs ++ more) w.0 n (longer s i bs more w.0 n w.1) ∙ ap (Whole n) w.2

pub other-append : (s : FlacStream) → IsStream s → (bs more : List ℕ) → unit s bs ≡ Other → unit s (bs ++ more) ≡ Other
other-append s i bs more e =
    unit_as s (bs ++ more) Bad (ap (frame s) (bits-append bs more) ∙ (IsSound-frame s i).stays_bad (bits bs) (bits more) (other_bad s bs e))

pub other_some : (s : FlacStream) → IsStream s → (bs : List ℕ) → unit s bs ≡ Other → bs ≢ []
unfolding bits
other_some s i bs e n = absurd ((IsSound-frame s i).opens (ap (λ xs. frame s (bits xs)) (sym n) ∙ other_bad s bs e))

-- what `frame_size_at` answers
pub wait_is : (s : FlacStream) → IsStream s → (bs : List ℕ) → IsNotYet s bs → Wait ≡ unit s bs
wait_is s i bs h = by_answer (frame s (bits bs)) refl
  where
    by_answer : (a : Answer Frame) → frame s (bits bs) ≡ a → Wait ≡ unit s bs
    by_answer (Done f rest) e = let o = is_ok s i bs f rest e in absurd (h.0 f o.0 o.2)
    by_answer More e = sym (unit_as s bs More e)
    by_answer Bad e =
        let b = ap (frame s) (bits-append bs h.1) ∙ (IsSound-frame s i).stays_bad (bits bs) (bits h.1) e in
        let clash = sym b ∙ h.5.1 in cc

pub other_is : (s : FlacStream) → IsStream s → (bs : List ℕ) → IsNever s bs → Other ≡ unit s bs
other_is s i bs h = by_answer (frame s (bits bs)) refl
  where
    at_end : (f : Frame) (n : ℕ) → Begins s bs f n → ⊥
    at_end f n b = h [] f n (subst (λ xs. Begins s xs f n) (sym (append-nil bs)) b)

    by_answer : (a : Answer Frame) → frame s (bits bs) ≡ a → Other ≡ unit s bs
    by_answer (Done f rest) e = let o = is_ok s i bs f rest e in absurd (at_end f o.0 o.2)
    by_answer More e = let m = is_not_yet s i bs e in absurd (h m.1 m.2 m.3 m.5)
    by_answer Bad e = sym (unit_as s bs Bad e)

-- ---- the chain

pub packets-drop : (s : FlacStream) (bs : List ℕ) (skip at n : ℕ) → packets_from s skip at n bs ≡ packets_from s 0 (at + skip) n (drop skip bs)
packets-drop s [] zero at n = refl
packets-drop s [] (suc skip) at n = refl
packets-drop s (b ∷ bs) zero at n = ap (λ k. packets_from s 0 k n (b ∷ bs)) (sym (add-zero at))
packets-drop s (b ∷ bs) (suc skip) at n =
    let e : at + 1 + skip ≡ at + suc skip = omega arith in packets-drop s bs skip (at + 1) n ∙ ap (λ k. packets_from s 0 k n (drop skip bs)) e

pub broken-drop : (s : FlacStream) (bs : List ℕ) (skip at : ℕ) → broken_from s skip at bs ≡ broken_from s 0 (at + skip) (drop skip bs)
broken-drop s [] zero at = refl
broken-drop s [] (suc skip) at = refl
broken-drop s (b ∷ bs) zero at = ap (λ k. broken_from s 0 k (b ∷ bs)) (sym (add-zero at))
broken-drop s (b ∷ bs) (suc skip) at =
    let e : at + 1 + skip ≡ at + suc skip = omega arith in broken-drop s bs skip (at + 1) ∙ ap (λ k. broken_from s 0 k (drop skip bs)) e

-- what follows from what the bytes begin with
abbrev pub packets_step : Front → FlacStream → ℕ → ℕ → ℕ → List ℕ → List Pkt
packets_step front s at n b bs =
    elim front [ Wait ↦ [] | Other ↦ [] | Whole len block ↦ packet_at (pos n) (pos block) at (take len (b ∷ bs)) ∷ packets_from s (len - 1) (at + 1) (n + block) bs ]

abbrev pub broken_step : Front → FlacStream → ℕ → ℕ → List ℕ → Option ℕ
broken_step front s at b bs =
    elim front [ Wait ↦ Some at | Other ↦ cond (are_tags (b ∷ bs)) None (Some at) | Whole len block ↦ broken_from s (len - 1) (at + 1) bs ]

-- a frame, and then the others
pub packets_whole : (s : FlacStream) → IsStream s → (at n len block : ℕ) (bs : List ℕ) → unit s bs ≡ Whole len block
    → packets_from s 0 at n bs ≡ packet_at (pos n) (pos block) at (take len bs) ∷ packets_from s 0 (at + len) (n + block) (drop len bs)
packets_whole s i at n len block [] e = let w = whole_at s i [] len block e in absurd (omega (arith, w.0, w.1))
packets_whole s i at n len block (b ∷ bs) e =
    let w = whole_at s i (b ∷ bs) len block e in
    let one : suc (len - 1) ≡ len = omega (arith, w.0) in
    let place : at + 1 + (len - 1) ≡ at + len = omega (arith, w.0) in
    let tail : packets_from s (len - 1) (at + 1) (n + block) bs ≡ packets_from s 0 (at + len) (n + block) (drop len (b ∷ bs)) =
    packets-drop s bs (len - 1) (at + 1) (n + block)
    ∙ (ap (λ p. packets_from s 0 p (n + block) (drop (len - 1) bs)) place ∙ ap (λ j. packets_from s 0 (at + len) (n + block) (drop j (b ∷ bs))) one) in
    ap (λ u. packets_step u s at n b bs) e ∙ ap (λ ps. packet_at (pos n) (pos block) at (take len (b ∷ bs)) ∷ ps) tail

pub broken_whole : (s : FlacStream) → IsStream s → (at len block : ℕ) (bs : List ℕ) → unit s bs ≡ Whole len block
    → broken_from s 0 at bs ≡ broken_from s 0 (at + len) (drop len bs)
broken_whole s i at len block [] e = let w = whole_at s i [] len block e in absurd (omega (arith, w.0, w.1))
broken_whole s i at len block (b ∷ bs) e =
    let w = whole_at s i (b ∷ bs) len block e in
    let one : suc (len - 1) ≡ len = omega (arith, w.0) in
    let place : at + 1 + (len - 1) ≡ at + len = omega (arith, w.0) in
    ap (λ u. broken_step u s at b bs) e
    ∙ (broken-drop s bs (len - 1) (at + 1) ∙ (ap (λ p. broken_from s 0 p (drop (len - 1) bs)) place ∙ ap (λ j. broken_from s 0 (at + len) (drop j (b ∷ bs))) one))

-- no frame, or none that is whole
pub packets_none : (s : FlacStream) (at n : ℕ) (bs : List ℕ) → (unit s bs ≡ Wait) ⊎ (unit s bs ≡ Other) → packets_from s 0 at n bs ≡ []
packets_none s at n [] h = refl
packets_none s at n (b ∷ bs) (inl e) = ap (λ u. packets_step u s at n b bs) e
packets_none s at n (b ∷ bs) (inr e) = ap (λ u. packets_step u s at n b bs) e

-- no frame: the end behind tags alone, or damage
pub broken_other : (s : FlacStream) (at : ℕ) (bs : List ℕ) → bs ≢ [] → unit s bs ≡ Other → broken_from s 0 at bs ≡ cond (are_tags bs) None (Some at)
broken_other s at [] some e = absurd (some refl)
broken_other s at (b ∷ bs) some e = ap (λ u. broken_step u s at b bs) e

pub broken_here : (s : FlacStream) (at : ℕ) (bs : List ℕ) → bs ≢ [] → (unit s bs ≡ Wait) ⊎ ((unit s bs ≡ Other) × (are_tags bs ≡ false))
    → broken_from s 0 at bs ≡ Some at
broken_here s at [] some h = absurd (some refl)
broken_here s at (b ∷ bs) some (inl e) = ap (λ u. broken_step u s at b bs) e
broken_here s at (b ∷ bs) some (inr e) = ap (λ u. broken_step u s at b bs) e.0 ∙ ap (λ t. cond t None (Some at)) e.1

pub broken_tags : (s : FlacStream) (at : ℕ) (bs : List ℕ) → unit s bs ≡ Other → are_tags bs ≡ true → broken_from s 0 at bs ≡ None
broken_tags s at [] e t = refl
broken_tags s at (b ∷ bs) e t = ap (λ u. broken_step u s at b bs) e ∙ ap (λ t. cond t None (Some at)) t
