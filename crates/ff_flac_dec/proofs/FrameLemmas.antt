-- The channels of a frame, and the frame of sound.
use Rattle.std.proofs.Common.{◌≡◌, ℕ, zero, suc, ◌+◌, ◌-◌, ◌*◌, ◌<◌, ◌≤◌, Bool, true, false, cond, ltb, leb, eqb, ◌&&◌, ◌||◌, ◌⊎◌, inl, inr, List, [], ◌∷◌, ◌++◌, length, map, get_or, refl, sym, ap, subst, ◌∙◌, arith, length-append}
use Rattle.std.proofs.Common.{ℤ, pos}
use Rattle.std.specs.Prelude.{replicate, slice_index_or}
use Rattle.std.specs.List.{AllByRecursion, All}
use Rattle.std.proofs.lemmas.Bool.{lt-ltb, le-ltb, ltb-true, cases_lt, and_parts, eqb-true}
use Rattle.std.proofs.lemmas.Nat.{pow_pos}
use Rattle.std.proofs.lemmas.List.{length-map, get_or_past}
use Rattle.ff_frame.specs.Audio.{FitsBits, IsAudio}
use Rattle.ff_flac_frame.specs.declared.stream.FlacStream.{FlacStream}
use Rattle.ff_flac_frame.specs.declared.subframe.Subframe.{Subframe}
use Rattle.ff_flac_frame.specs.Codes.{form_fits, depths}
use Rattle.ff_flac_frame.specs.Frame.{IsStream, Part, Frame}
use Rattle.ff_flac_frame.specs.laws.Facts.{IsPart, AreParts, IsFrame}
use Rattle.ff_flac_frame.specs.declared.frame.FlacFrame.{FlacFrame}
use Rattle.ff_flac_frame.specs.laws.Parts.{part_of, frame_of}
use Rattle.ff_flac_frame.specs.Prediction.{AllInDepth}
use Rattle.ff_flac_dec.specs.Values.{channel_samples}
use Rattle.ff_flac_dec.specs.Channels.{IsCoded, AllCoded, AllChannels, IsWithinDepths, first_depth, second_depth, left_right, pair, channels_of, sample_frame, interleaved_from, interleaved}

-- ---- channels that stand by themselves

pub parts_alone : (block n d : ℕ) (ps : List Part) → AreParts block (replicate n d) ps → AllByRecursion (IsPart block d) ps
parts_alone block zero d [] h = tt
parts_alone block zero d (p ∷ ps) h = absurd h
parts_alone block (suc n) d [] h = absurd h
parts_alone block (suc n) d (p ∷ ps) h = (h.0, parts_alone block n d ps h.1)

pub coded_alone : (block n d : ℕ) (ps : List Part) → AreParts block (replicate n d) ps → AllByRecursion (IsCoded block d) ps → AllCoded block (replicate n d) ps
coded_alone block zero d ps h g = tt
coded_alone block (suc n) d [] h g = tt
coded_alone block (suc n) d (p ∷ ps) h g = (g.0, coded_alone block n d ps h.1 g.1)

pub alone_coded : (block n d : ℕ) (ps : List Part) → AreParts block (replicate n d) ps → AllCoded block (replicate n d) ps → AllByRecursion (IsCoded block d) ps
alone_coded block zero d [] h g = tt
alone_coded block zero d (p ∷ ps) h g = absurd h
alone_coded block (suc n) d [] h g = absurd h
alone_coded block (suc n) d (p ∷ ps) h g = (g.0, alone_coded block n d ps h.1 g.1)

length_alone : (block n d : ℕ) (ps : List Part) → AreParts block (replicate n d) ps → length ps ≡ n
length_alone block zero d [] h = refl
length_alone block zero d (p ∷ ps) h = absurd h
length_alone block (suc n) d [] h = absurd h
length_alone block (suc n) d (p ∷ ps) h = ap suc (length_alone block n d ps h.1)

-- ---- depths

pub depths_alone : (form channels bits : ℕ) → form < 8 → depths form channels bits ≡ replicate channels bits
unfolding depths
depths_alone form channels bits lt = ap (λ (b : Bool). cond b (replicate channels bits) (cond (eqb form 9) ((bits + 1) ∷ bits ∷ []) (bits ∷ (bits + 1) ∷ []))) (lt-ltb form 8 lt)

pub depths_joint : (form channels bits : ℕ) → 8 ≤ form → depths form channels bits ≡ first_depth form bits ∷ second_depth form bits ∷ []
unfolding depths
depths_joint form channels bits le =
    ap (λ (b : Bool). cond b (replicate channels bits) (cond (eqb form 9) ((bits + 1) ∷ bits ∷ []) (bits ∷ (bits + 1) ∷ []))) (le-ltb form 8 le)
    ∙ (elim (eqb form 9) as (λ b. cond b ((bits + 1) ∷ bits ∷ []) (bits ∷ (bits + 1) ∷ []) ≡ cond b (bits + 1) bits ∷ cond b bits (bits + 1) ∷ []) [ true ↦ refl | false ↦ refl ])

-- ---- one subframe

pub only_part : (ss : List Subframe) (d : Subframe) → length ss ≡ 1 → d ≡ get_or ss 0 d → map part_of ss ≡ part_of d ∷ []
only_part [] d one is = absurd cc
only_part (s ∷ []) d one is = ap (λ (x : Subframe). part_of x ∷ []) (sym is)
only_part (s ∷ t ∷ ss) d one is = absurd (omega arith)

-- ---- two subframes

pub pair_items : (ss : List Subframe) (d e : Subframe) → length ss ≡ 2 → ss ≡ get_or ss 0 d ∷ get_or ss 1 e ∷ []
pair_items [] d e h = absurd cc
pair_items (s ∷ []) d e h = absurd cc
pair_items (s ∷ t ∷ []) d e h = refl
pair_items (s ∷ t ∷ u ∷ ss) d e h = absurd (omega arith)

pub pair_parts : (ss : List Subframe) (d e : Subframe) → length (map part_of ss) ≡ 2 → d ≡ get_or ss 0 d → e ≡ get_or ss 1 e → map part_of ss ≡ part_of d ∷ part_of e ∷ []
pair_parts ss d e two is js =
    let two_there : length ss ≡ 2 = sym (length-map ss part_of) ∙ two in
    ap (λ (xs : List Subframe). map part_of xs) (pair_items ss d e two_there) ∙ ap (λ (x : Subframe). part_of x ∷ part_of (get_or ss 1 e) ∷ []) (sym is) ∙ ap (λ (x : Subframe). part_of d ∷ part_of x ∷ []) (sym js)

pub two_parts : (block a b : ℕ) (ps : List Part) → AreParts block (a ∷ b ∷ []) ps → length ps ≡ 2
two_parts block a b [] h = absurd h
two_parts block a b (p ∷ []) h = absurd h.1
two_parts block a b (p ∷ q ∷ []) h = refl
two_parts block a b (p ∷ q ∷ r ∷ ps) h = absurd h.1.1

-- ---- the frame of sound

fits_at : (d : ℕ) (xs : List ℤ) (t : ℕ) → AllInDepth d xs → FitsBits d (slice_index_or xs t (pos 0))
fits_at d xs t h =
    elim (cases_lt t (length xs)) [
      | inl lt ↦ h t lt
      | inr le ↦ subst (λ (x : ℤ). FitsBits d x) (sym (get_or_past xs t (pos 0) le)) (pow_pos (d - 1))
    ]

fits_frame : (d : ℕ) (channels : List (List ℤ)) (t : ℕ) → AllChannels d channels → AllByRecursion (FitsBits d) (sample_frame channels t)
fits_frame d [] t h = tt
fits_frame d (xs ∷ channels) t h = (fits_at d xs t h.0, fits_frame d channels t h.1)

all_append : {A : Type 0} (P : A → Type 0) (xs ys : List A) → AllByRecursion P xs → AllByRecursion P ys → AllByRecursion P (xs ++ ys)
all_append P [] ys h g = g
all_append P (x ∷ xs) ys h g = (h.0, all_append P xs ys h.1 g)

pub fits_all : (d : ℕ) (channels : List (List ℤ)) (n t : ℕ) → AllChannels d channels → AllByRecursion (FitsBits d) (interleaved_from channels n t)
fits_all d channels zero t h = tt
fits_all d channels (suc n) t h = all_append (FitsBits d) (sample_frame channels t) (interleaved_from channels n (t + 1)) (fits_frame d channels t h) (fits_all d channels n (t + 1) h)

all_of : {A : Type 0} (P : A → Type 0) (xs : List A) → AllByRecursion P xs → All P xs
all_of P [] h k d lt = absurd (omega arith)
all_of P (x ∷ xs) h zero d lt = h.0
all_of P (x ∷ xs) h (suc k) d lt = all_of P xs h.1 k d (omega arith)

length-interleaved : (channels : List (List ℤ)) (n t : ℕ) → length (interleaved_from channels n t) ≡ n * length channels
length-interleaved channels zero t = omega arith
length-interleaved channels (suc n) t =
    let f : ℕ = length (sample_frame channels t) in
    let one : length (sample_frame channels t) ≡ length channels = length-map channels (λ xs. slice_index_or xs t (pos 0)) in
    length-append (sample_frame channels t) (interleaved_from channels n (t + 1)) ∙ (let e : length (sample_frame channels t) + length (interleaved_from channels n (t + 1)) ≡ suc n * length channels = omega (arith, one, length-interleaved channels n (t + 1)) in e)

or_cases : (a b : Bool) → (a || b) ≡ true → (a ≡ true) ⊎ (b ≡ true)
or_cases true b e = inl refl
or_cases false b e = inr e

two_channels : (channels form : ℕ) → form_fits channels form ≡ true → 8 ≤ form → channels ≡ 2
unfolding form_fits
two_channels channels form h le =
    elim (or_cases (ltb form 8 && eqb (form + 1) channels) ((leb 8 form && leb form 10) && eqb channels 2) h) [
      | inl e ↦ absurd (let k : form < 8 = ltb-true form 8 (and_parts (ltb form 8) (eqb (form + 1) channels) e).0 in omega arith)
      | inr e ↦ eqb-true channels 2 (and_parts (leb 8 form && leb form 10) (eqb channels 2) e).1
    ]

length_if : (b c : Bool) (l m n : List (List ℤ)) → length l ≡ 2 → length m ≡ 2 → length n ≡ 2 → length (cond b l (cond c m n)) ≡ 2
length_if true c l m n h g f = h
length_if false true l m n h g f = g
length_if false false l m n h g f = f

length_pair : (form : ℕ) (channels : List (List ℤ)) → length channels ≡ 2 → length (pair form channels) ≡ 2
length_pair form [] h = absurd cc
length_pair form (xs ∷ []) h = absurd cc
length_pair form (xs ∷ ys ∷ []) h = length_if (eqb form 8) (eqb form 9) _ _ _ refl refl refl
length_pair form (xs ∷ ys ∷ zs ∷ channels) h = absurd (omega arith)

length_channels : (s : FlacStream) (f : Frame) → IsFrame s f → length (channels_of f) ≡ s.channels
unfolding channels_of
length_channels s f h =
    let made : List (List ℤ) = map (channel_samples f.header.block) f.parts in
    elim (cases_lt f.header.form 8) [
      | inl lt ↦
          let a = subst (λ (ds : List ℕ). AreParts f.header.block ds f.parts) (depths_alone f.header.form s.channels s.bits lt) h.parts in
          ap (λ (b : Bool). length (cond b made (pair f.header.form made))) (lt-ltb f.header.form 8 lt) ∙ length-map f.parts (channel_samples f.header.block) ∙ length_alone f.header.block s.channels s.bits f.parts a
      | inr le ↦
          let a = subst (λ (ds : List ℕ). AreParts f.header.block ds f.parts) (depths_joint f.header.form s.channels s.bits le) h.parts in
          let two : length made ≡ 2 = length-map f.parts (channel_samples f.header.block) ∙ two_parts f.header.block (first_depth f.header.form s.bits) (second_depth f.header.form s.bits) f.parts a in
          ap (λ (b : Bool). length (cond b made (pair f.header.form made))) (le-ltb f.header.form 8 le) ∙ length_pair f.header.form made two ∙ sym (two_channels s.channels f.header.form h.header.form le)
    ]

pub is_audio : (s : FlacStream) (f : Frame) → IsStream s → IsFrame s f → IsWithinDepths s f → IsAudio s.bits s.channels (interleaved f.header.block (channels_of f))
unfolding interleaved
is_audio s f i h w =
    let len = length-interleaved (channels_of f) f.header.block 0 in
    record {
      some_bits = i.depth_low;
      few_bits = omega (arith, i.depth_high);
      some_channels = i.channels_low;
      few_channels = i.channels_high;
      sample_frames = f.header.block;
      interleaved = len ∙ ap (λ (n : ℕ). f.header.block * n) (length_channels s f h);
      some_sample_frames = h.header.some;
      few_sample_frames = h.header.few;
      within_bits = all_of (FitsBits s.bits) (interleaved_from (channels_of f) f.header.block 0) (fits_all s.bits (channels_of f) f.header.block 0 w.stream);
    }

-- ---- what the code of a frame knows

module _ (s : FlacStream) (f : Frame) (h : IsFrame s f) where
  alone_parts : f.header.form < 8 → AreParts f.header.block (replicate s.channels s.bits) f.parts
  alone_parts lt = subst (λ (ds : List ℕ). AreParts f.header.block ds f.parts) (depths_alone f.header.form s.channels s.bits lt) h.parts

  pub frame_alone : f.header.form < 8 → AllByRecursion (IsPart f.header.block s.bits) f.parts
  frame_alone lt = parts_alone f.header.block s.channels s.bits f.parts (alone_parts lt)

  pub channels_alone : f.header.form < 8 → channels_of f ≡ map (channel_samples f.header.block) f.parts
  unfolding channels_of
  channels_alone lt = ap (λ (b : Bool). cond b (map (channel_samples f.header.block) f.parts) (pair f.header.form (map (channel_samples f.header.block) f.parts))) (lt-ltb f.header.form 8 lt)

  pub within_alone : f.header.form < 8 → AllByRecursion (IsCoded f.header.block s.bits) f.parts → AllChannels s.bits (map (channel_samples f.header.block) f.parts) → IsWithinDepths s f
  within_alone lt c a = record {
    coded = subst (λ (ds : List ℕ). AllCoded f.header.block ds f.parts) (sym (depths_alone f.header.form s.channels s.bits lt)) (coded_alone f.header.block s.channels s.bits f.parts (alone_parts lt) c);
    stream = subst (λ (m : List (List ℤ)). AllChannels s.bits m) (sym (channels_alone lt)) a;
  }

  pub alone_within : f.header.form < 8 → IsWithinDepths s f → AllByRecursion (IsCoded f.header.block s.bits) f.parts
  alone_within lt w = alone_coded f.header.block s.channels s.bits f.parts (alone_parts lt) (subst (λ (ds : List ℕ). AllCoded f.header.block ds f.parts) (depths_alone f.header.form s.channels s.bits lt) w.coded)

  joint_parts : 8 ≤ f.header.form → AreParts f.header.block (first_depth f.header.form s.bits ∷ second_depth f.header.form s.bits ∷ []) f.parts
  joint_parts le = subst (λ (ds : List ℕ). AreParts f.header.block ds f.parts) (depths_joint f.header.form s.channels s.bits le) h.parts

  pub frame_two : 8 ≤ f.header.form → length f.parts ≡ 2
  frame_two le = two_parts f.header.block (first_depth f.header.form s.bits) (second_depth f.header.form s.bits) f.parts (joint_parts le)

  module _ (p q : Part) (e : f.parts ≡ p ∷ q ∷ []) (le : 8 ≤ f.header.form) where
    both_parts : AreParts f.header.block (first_depth f.header.form s.bits ∷ second_depth f.header.form s.bits ∷ []) (p ∷ q ∷ [])
    both_parts = subst (λ (ps : List Part). AreParts f.header.block (first_depth f.header.form s.bits ∷ second_depth f.header.form s.bits ∷ []) ps) e (joint_parts le)

    pub frame_first : IsPart f.header.block (first_depth f.header.form s.bits) p
    frame_first = both_parts.0

    pub frame_second : IsPart f.header.block (second_depth f.header.form s.bits) q
    frame_second = both_parts.1.0

    pub channels_joint : channels_of f ≡ left_right f.header.form (channel_samples f.header.block p) (channel_samples f.header.block q)
    unfolding channels_of
    channels_joint =
        ap (λ (b : Bool). cond b (map (channel_samples f.header.block) f.parts) (pair f.header.form (map (channel_samples f.header.block) f.parts))) (le-ltb f.header.form 8 le)
        ∙ ap (λ (ps : List Part). pair f.header.form (map (channel_samples f.header.block) ps)) e

    pub within_joint : IsCoded f.header.block (first_depth f.header.form s.bits) p → IsCoded f.header.block (second_depth f.header.form s.bits) q → AllChannels s.bits (left_right f.header.form (channel_samples f.header.block p) (channel_samples f.header.block q)) → IsWithinDepths s f
    within_joint c d a = record {
      coded = subst (λ (ds : List ℕ). AllCoded f.header.block ds f.parts) (sym (depths_joint f.header.form s.channels s.bits le)) (subst (λ (ps : List Part). AllCoded f.header.block (first_depth f.header.form s.bits ∷ second_depth f.header.form s.bits ∷ []) ps) (sym e) (c, (d, tt)));
      stream = subst (λ (m : List (List ℤ)). AllChannels s.bits m) (sym channels_joint) a;
    }

    coded_both : IsWithinDepths s f → AllCoded f.header.block (first_depth f.header.form s.bits ∷ second_depth f.header.form s.bits ∷ []) (p ∷ q ∷ [])
    coded_both w = subst (λ (ps : List Part). AllCoded f.header.block (first_depth f.header.form s.bits ∷ second_depth f.header.form s.bits ∷ []) ps) e (subst (λ (ds : List ℕ). AllCoded f.header.block ds f.parts) (depths_joint f.header.form s.channels s.bits le) w.coded)

    pub first_within : IsWithinDepths s f → IsCoded f.header.block (first_depth f.header.form s.bits) p
    first_within w = (coded_both w).0

    pub second_within : IsWithinDepths s f → IsCoded f.header.block (second_depth f.header.form s.bits) q
    second_within w = (coded_both w).1.0

    pub joint_within : IsWithinDepths s f → AllChannels s.bits (left_right f.header.form (channel_samples f.header.block p) (channel_samples f.header.block q))
    joint_within w = subst (λ (m : List (List ℤ)). AllChannels s.bits m) channels_joint w.stream

-- the coded number is no matter
pub frame_again : (s : FlacStream) (number : ℕ) (f : FlacFrame) → IsFrame s (frame_of number f) → IsFrame s (frame_of 0 f)
frame_again s number f h = record { header = record { some = h.header.some; few = h.header.few; form = h.header.form }; parts = h.parts }
