-- Where a cut of PCM wants more, its next packet is open: with the rest of a sample frame more it has a sample frame more.
use Rattle.std.proofs.Common.{◌≡◌, ◌≢◌, ℕ, zero, suc, ◌+◌, ◌-◌, ◌*◌, ◌/◌, ◌<◌, ◌≤◌, ◌⊎◌, inl, inr, min, Bool, true, false, List, ◌++◌, length, replicate}
use Rattle.std.proofs.Common.{Option, Some, None, pos, refl, sym, ap, ◌∙◌, subst, arith, length-append}
use Rattle.std.specs.Prelude.{slice_get}
use Rattle.std.specs.Option.{option_map}
use Rattle.std.proofs.lemmas.Int.{ints}
use Rattle.std.proofs.lemmas.List.{take_all, length-replicate}
use Rattle.std.proofs.lemmas.Nat.{le-div, div_below}
use Rattle.std.proofs.lemmas.Option.{slice_get_past}
use Rattle.std.proofs.Math.Nat.{div-mul-le_self, mul-le-mul_right}
use Rattle.ff_frame.specs.declared.head.Codec.{Codec}
use Rattle.ff_frame.specs.declared.head.StreamHead.{StreamHead}
use Rattle.ff_frame.specs.declared.head.StreamHead.TheVariants.{Audio, Video}
use Rattle.ff_frame.specs.declared.packet.Pkt.{Pkt}
use Rattle.ff_frame.specs.laws.PcmLaws.{few_sample_bytes}
use Rattle.ff_frame.specs.Codecs.{sample_bytes}
use Rattle.ff_pcm.specs.declared.body.head.PcmHead.{PcmHead}
use Rattle.ff_pcm.specs.declared.body.cut.PcmCut.{PcmCut}
use Rattle.ff_pcm.specs.body.Packets.{block_of, body, frames, packet_at, packet_count, packets_of, whole_len, IsHead, IsStream}
use Rattle.ff_pcm.specs.body.Cuts.{ReachesLen, IsBodyEnded, Cuts, has_ended, is_done, pcm_cutter}
use Rattle.ff_pcm.proofs.BodyLemmas.CutLaws.{packet_is, packets_get, packets_length, body_length}
use Rattle.ff_input.specs.laws.Reading.{IsUndecided}

le_or_more : (m n : ℕ) → (m ≤ n) ⊎ (n < m)
le_or_more zero n = inl (omega arith)
le_or_more (suc m) zero = inr (omega arith)
le_or_more (suc m) (suc n) = elim (le_or_more m n) [ inl le ↦ inl (omega (arith, le)) | inr lt ↦ inr (omega (arith, lt)) ]

lasts : (o p : Option Pkt) (x y : Pkt) → o ≡ Some x → p ≡ Some y → o ≡ p → x.duration ≡ y.duration
lasts o p x y a b e = let same : x ≡ y = cc in ap (λ (q : Pkt). q.duration) same

module _ (start block : ℕ) (some : 0 < block) where
  -- a packet lasts as many sample frames as are there
  packet_lasts : (xs : List ℕ) (n count : ℕ) → min 1024 (frames block xs - 1024 * n) ≡ count → (packet_at start block xs (1024 * n)).duration ≡ pos count
  packet_lasts xs n count e = ap (λ (p : Pkt). p.duration) (packet_is start block xs (1024 * n) count e)

  -- so it is another once a sample frame more is there
  others : (xs ys : List ℕ) (n : ℕ) → 1024 * n * block ≤ length xs → length xs < 1024 * (n + 1) * block → length ys ≡ (frames block xs + 1) * block
      → slice_get (packets_of start block ys) n ≢ slice_get (packets_of start block xs) n
  others xs ys n low high more same =
      let f = frames block xs in
      let least : 1024 * n ≤ f = le-div (1024 * n) (length xs) block some low in
      let most : f < 1024 * (n + 1) = div_below (length xs) block (1024 * (n + 1)) some high in
      let long : frames block ys ≡ f + 1 =
      let a : f + 1 ≤ frames block ys = le-div (f + 1) (length ys) block some (omega (arith, more)) in
      let b : frames block ys < f + 2 = div_below (length ys) block (f + 2) some (omega (arith, more, some)) in
      omega (arith, a, b) in
      let there : n < packet_count block ys = omega (arith, long, least) in
      let new = packets_get start block ys n (1024 * n) there refl in
      let now = packet_lasts ys n (f + 1 - 1024 * n) (omega (arith, long, least, most)) in
      elim (le_or_more (packet_count block xs) n) [
        | inl le ↦
            let none = slice_get_past (packets_of start block xs) n (omega (arith, le, packets_length start block xs)) in
            let clash = sym new ∙ (same ∙ none) in cc
        | inr lt ↦
            let old = packets_get start block xs n (1024 * n) lt refl in
            let was = packet_lasts xs n (f - 1024 * n) (omega (arith, least, most)) in
            let equal : pos (f + 1 - 1024 * n) ≡ pos (f - 1024 * n) = sym now ∙ (lasts _ _ _ _ new old same ∙ was) in
            omega (arith, ints, equal, least)
      ]

  -- the bytes that aren't all of the body are the body so far
  body_open : (len : Option ℕ) (fed : List ℕ) → (ReachesLen len fed → ⊥) → body len fed ≡ fed
  body_open None fed undecided = refl
  body_open (Some l) fed undecided = elim (le_or_more l (length fed)) [ inl le ↦ absurd (undecided le) | inr lt ↦ take_all l fed (omega (arith, lt)) ]

  -- nor do they reach its end with the rest of a sample frame
  body_more : (len : Option ℕ) (fed more : List ℕ) → ((l : ℕ) → len ≡ Some l → (k : ℕ) × (l ≡ k * block)) → (ReachesLen len fed → ⊥)
      → length (fed ++ more) ≡ (frames block fed + 1) * block → body len (fed ++ more) ≡ fed ++ more
  body_more None fed more whole undecided e = refl
  body_more (Some l) fed more whole undecided e =
      let f = frames block fed in
      let w = whole l refl in
      take_all l (fed ++ more) (elim (le_or_more w.0 f) [
        | inl le ↦ absurd (undecided (omega (arith, w.1, mul-le-mul_right block le, div-mul-le_self (length fed) block)))
        | inr lt ↦ let up : (f + 1) * block ≤ w.0 * block = mul-le-mul_right block (omega (arith, lt)) in omega (arith, e, up, w.1)
      ])

  open_at : (len : Option ℕ) (fed : List ℕ) (n : ℕ) → ((l : ℕ) → len ≡ Some l → (k : ℕ) × (l ≡ k * block)) → (ReachesLen len fed → ⊥)
      → 1024 * n * block ≤ length fed → length fed < 1024 * (n + 1) * block
      → (more : List ℕ) × (slice_get (packets_of start block (body len (fed ++ more))) n ≢ slice_get (packets_of start block (body len fed)) n)
  open_at len fed n whole undecided low high =
      let f = frames block fed in
      let more : List ℕ = replicate ((f + 1) * block - length fed) 0 in
      let below : length fed < (f + 1) * block = elim (le_or_more ((f + 1) * block) (length fed)) [
        | inl le ↦ let clash : f + 1 ≤ f = le-div (f + 1) (length fed) block some le in absurd (omega (arith, clash))
        | inr lt ↦ lt
      ] in
      let size : length (fed ++ more) ≡ (f + 1) * block = omega (arith, length-append fed more, length-replicate {A = ℕ} ((f + 1) * block - length fed) 0, below) in (
        more,
        λ same. others fed (fed ++ more) n low high size
            (ap (λ (xs : List ℕ). slice_get (packets_of start block xs) n) (sym (body_more len fed more whole undecided size))
            ∙ (same ∙ ap (λ (xs : List ℕ). slice_get (packets_of start block xs) n) (body_open len fed undecided))),
      )

some_bytes : (codec : Codec) → 1 ≤ sample_bytes codec
some_bytes codec = (few_sample_bytes codec).0

some_block : (head : StreamHead) → IsStream head → 0 < block_of head
some_block (Audio tb rate bits channels codec) h =
    let one : 1 * sample_bytes codec ≤ channels * sample_bytes codec = mul-le-mul_right (sample_bytes codec) h.some_channels in
    omega (arith, one, some_bytes codec)
some_block (Video tb format width height sar_num sar_den) h = absurd h

whole_of : (len : Option ℕ) (block l : ℕ) → option_map (λ n. n / block * block) len ≡ Some l → (k : ℕ) × (l ≡ k * block)
whole_of None block l e = cc
whole_of (Some n) block l e = (n / block, let same : n / block * block ≡ l = cc in sym same)

goes_on : (head : PcmHead) (cut : PcmCut) (fed : List ℕ) (n : ℕ) → Cuts cut head fed n → has_ended cut ≡ false → (ReachesLen (whole_len head) fed → ⊥)
    → is_done cut ≡ false
goes_on head cut fed n c going undecided = pick (is_done cut) refl
  where
    over : IsBodyEnded (whole_len head) (has_ended cut) fed → is_done cut ≡ false
    over (inl e) = cc
    over (inr r) = absurd (undecided r)

    pick : (b : Bool) → is_done cut ≡ b → is_done cut ≡ false
    pick false e = e
    pick true e = over (c.over e).all

pub pcm_open : (head : PcmHead) (cut : PcmCut) (fed : List ℕ) (n : ℕ) → IsHead head → Cuts cut head fed n → has_ended cut ≡ false
    → (ReachesLen (whole_len head) fed → ⊥)
    → length fed < 1024 * (n + 1) * block_of head.head → IsUndecided pcm_cutter head fed n
pcm_open head cut fed n is c going undecided high =
    let g = c.goes (goes_on head cut fed n c going undecided) in
    let low : 1024 * n * block_of head.head ≤ length fed =
    let used = ap (λ (k : ℕ). k * block_of head.head) g.at in
    let inside = subst (λ (b : ℕ). cut.first * b ≤ length (body (whole_len head) fed)) c.of_block g.inside in
    omega (arith, used, inside, body_length (whole_len head) fed) in
    let wanted =
    open_at head.start (block_of head.head) (some_block head.head is.stream) (whole_len head) fed n (whole_of head.len (block_of head.head)) undecided low high in
    (wanted.0, inl wanted.1)
