-- A cut of a valid stream is what its rule says.
use Rattle.std.proofs.Common.{◌≤ℤ◌, negsuc, ◌≡◌, ℕ, zero, suc, ◌+◌, ◌-◌, ◌*◌, ◌/◌, ◌<◌, ◌≤◌, ℤ, pos, Bool, true, false, cond, Option, Some, None, option_map, List, [], ◌∷◌, ◌++◌, map, drop, take, length, refl, ap, sym, ◌∙◌, arith}
use Rattle.std.specs.Prelude.{nat_lt, nat_le, ◌==◌, not, is_some}
use Rattle.std.proofs.lemmas.Bool.Decides.{nat_tests}
use Rattle.std.proofs.lemmas.List.{length-take-le, length-drop, map-append}
use Rattle.std.proofs.lemmas.Nat.{div-mul-add}
use Rattle.std.proofs.lemmas.Bool.{and_parts}
use Rattle.std.proofs.Math.Seq.{take-length}
use Rattle.std.proofs.Math.Nat.{suc-mul, add-mul, mul-le-mul_right, div-mul-le_self}
use Rattle.ff_time.specs.Fraction.{Fraction, IsBase}
use Rattle.ff_time.specs.declared.cut.TimeCut.{TimeCut}
use Rattle.ff_time.proofs.Ceiling.{IsCeiling-div_ceil}
use Rattle.ff_frame.specs.declared.audio.AFrame.{AFrame}
use Rattle.ff_frame.specs.declared.head.Codec.{Codec}
use Rattle.ff_frame.specs.declared.head.StreamHead.{StreamHead}
use Rattle.ff_frame.specs.declared.head.StreamHead.TheVariants.{Audio as AudioHead, Video as VideoHead}
use Rattle.ff_frame.specs.Audio.{IsAudio, kept_samples}
use Rattle.ff_frame.specs.Heads.{base_of_head}
use Rattle.ff_stream.specs.declared.item.Item.{Item}
use Rattle.ff_stream.specs.declared.item.Item.TheVariants.{Audio, Video, Packet, Trailer, End, Broken}
use Rattle.ff_stream.specs.declared.item.Lane.TheVariants.{Frames}
use Rattle.ff_stream.specs.Stream.{whole, whole_stream}
use Rattle.ff_stream.specs.laws.Order.{same_stream}
use Rattle.ff_stream.specs.Times.{ticks}
use Rattle.ff_stream.specs.Lanes.{IsItemFor, IsValid}
use Rattle.ff_filter.specs.declared.range.Range.{Range}
use Rattle.ff_filter.specs.Joins.{Flow}
use Rattle.ff_filter.specs.Ranges.{is_past}
use Rattle.ff_filter.specs.Shifts.{earlier, start_ticks, shifted}
use Rattle.ff_vfilter.specs.Trims.{trimmed, from_start, before_stop, reaches}
use Rattle.ff_afilter.specs.Trims.{count_of, before_stop as samples_before, part, kept as kept_of, kept_all, ends_past, reaches as sound_reaches, sound_trimmed}
use Rattle.ff_trim.specs.Cuts.{ticks_at, in_bits, start_in, range_in, from_range, is_uncut, is_empty, cut}
use Rattle.ff_trim.specs.laws.Rules.{from_start_of, to_length_of, by_rule}
use Rattle.ff_trim.proofs.Valid.{Each, each_of, below_by}

-- a stop so many ticks later
abbrev later : ℕ → Option ℕ → Option ℕ
later c stop = option_map (λ n. c + n) stop

past_later : (c : ℕ) (stop : Option ℕ) (t : ℕ) → c ≤ t → is_past (later c stop) t ≡ is_past stop (t - c)
past_later c None t le = refl
past_later c (Some e) t le = same (nat_le (c + e) t) (nat_le e (t - c)) refl refl
  where
    same : (a b : Bool) → nat_le (c + e) t ≡ a → nat_le e (t - c) ≡ b → nat_le (c + e) t ≡ nat_le e (t - c)
    same true true p q = p ∙ sym q
    same false false p q = p ∙ sym q
    same true false p q = grind (arith, nat_tests)
    same false true p q = grind (arith, nat_tests)

past_before : (c : ℕ) (stop : Option ℕ) (t : ℕ) → t < c → is_past (later c stop) t ≡ false
past_before c None t lt = refl
past_before c (Some e) t lt = grind (arith, nat_tests)

le_yes : (a b : ℕ) → nat_le a b ≡ true → a ≤ b
le_yes a b e = grind (arith, nat_tests)

le_no : (a b : ℕ) → nat_le a b ≡ false → b < a
le_no a b e = grind (arith, nat_tests)

none_le : (n : ℕ) → nat_le 0 n ≡ true
none_le n = grind (arith, nat_tests)

-- ---- pictures

abbrev IsPicture : Item → Type 0
IsPicture (Audio f) = ⊥
IsPicture (Video f) = Unit {0}
IsPicture (Packet p) = ⊥
IsPicture (Trailer t) = ⊥
IsPicture End = ⊥
IsPicture Broken = ⊥

start_earlier : (c : ℕ) (x : Item) → IsPicture x → start_ticks (earlier c x) ≡ start_ticks x - c
start_earlier c (Audio f) h = absurd h
start_earlier c (Video f) h = refl
start_earlier c (Packet p) h = absurd h
start_earlier c (Trailer t) h = absurd h
start_earlier c End h = absurd h
start_earlier c Broken h = absurd h

module _ (c : ℕ) (stop : Option ℕ) where
  abbrev cut_at_once : List Item → List Item
  cut_at_once xs = map (earlier c) (from_start c (before_stop (later c stop) xs))

  abbrev in_steps : List Item → List Item
  in_steps xs = from_start 0 (before_stop stop (map (earlier c) (from_start c xs)))

  once_next : (x : Item) (xs : List Item) (p b : Bool) → is_past (later c stop) (start_ticks x) ≡ p → nat_le c (start_ticks x) ≡ b
      → cut_at_once (x ∷ xs) ≡ cond p [] (cond b (earlier c x ∷ cut_at_once xs) (cut_at_once xs))
  once_next x xs p b e f = ap (λ k. map (earlier c) (from_start c (cond k [] (x ∷ before_stop (later c stop) xs)))) e ∙ at p
    where
      two : (k : Bool) → map (earlier c) (cond k (x ∷ from_start c (before_stop (later c stop) xs)) (from_start c (before_stop (later c stop) xs)))
          ≡ cond k (earlier c x ∷ cut_at_once xs) (cut_at_once xs)
      two true = refl
      two false = refl

      at : (k : Bool) → map (earlier c) (from_start c (cond k [] (x ∷ before_stop (later c stop) xs))) ≡ cond k [] (cond b (earlier c x ∷ cut_at_once xs) (cut_at_once xs))
      at true = refl
      at false = ap (λ k. map (earlier c) (cond k (x ∷ from_start c (before_stop (later c stop) xs)) (from_start c (before_stop (later c stop) xs)))) f ∙ two b

  steps_next : (x : Item) (xs : List Item) (p b : Bool) → nat_le c (start_ticks x) ≡ b → is_past stop (start_ticks (earlier c x)) ≡ p
      → in_steps (x ∷ xs) ≡ cond b (cond p [] (earlier c x ∷ in_steps xs)) (in_steps xs)
  steps_next x xs p b f e = ap (λ k. from_start 0 (before_stop stop (map (earlier c) (cond k (x ∷ from_start c xs) (from_start c xs))))) f ∙ at b
    where
      two : (k : Bool) → from_start 0 (cond k [] (earlier c x ∷ before_stop stop (map (earlier c) (from_start c xs)))) ≡ cond k [] (earlier c x ∷ in_steps xs)
      two true = refl
      two false = ap (λ k. cond k (earlier c x ∷ in_steps xs) (in_steps xs)) (none_le (start_ticks (earlier c x)))

      at : (k : Bool) → from_start 0 (before_stop stop (map (earlier c) (cond k (x ∷ from_start c xs) (from_start c xs)))) ≡ cond k (cond p [] (earlier c x ∷ in_steps xs)) (in_steps xs)
      at true = ap (λ k. from_start 0 (cond k [] (earlier c x ∷ before_stop stop (map (earlier c) (from_start c xs))))) e ∙ two p
      at false = refl

  same_pictures : (xs : List Item) → Each IsPicture xs → cut_at_once xs ≡ in_steps xs
  same_pictures [] h = refl
  same_pictures (x ∷ xs) h = at (nat_le c (start_ticks x)) refl (same_pictures xs h.1)
    where
      at : (b : Bool) → nat_le c (start_ticks x) ≡ b → cut_at_once xs ≡ in_steps xs → cut_at_once (x ∷ xs) ≡ in_steps (x ∷ xs)
      at false e i = once_next x xs false false (past_before c stop (start_ticks x) (le_no c (start_ticks x) e)) e
          ∙ (i ∙ sym (steps_next x xs (is_past stop (start_ticks (earlier c x))) false e refl))
      at true e i =
          let p = is_past stop (start_ticks (earlier c x)) in
          let past : is_past (later c stop) (start_ticks x) ≡ p = past_later c stop (start_ticks x) (le_yes c (start_ticks x) e) ∙ ap (λ n. is_past stop n) (sym (start_earlier c x h.0)) in
          once_next x xs p true past e ∙ (ap (λ (ys : List Item). cond p [] (earlier c x ∷ ys)) i ∙ sym (steps_next x xs p true e refl))

  same_reaches : (xs : List Item) → Each IsPicture xs → reaches (later c stop) xs ≡ reaches stop (map (earlier c) (from_start c xs))
  same_reaches [] h = refl
  same_reaches (x ∷ xs) h = at (nat_le c (start_ticks x)) refl (same_reaches xs h.1)
    where
      at : (b : Bool) → nat_le c (start_ticks x) ≡ b → reaches (later c stop) xs ≡ reaches stop (map (earlier c) (from_start c xs))
          → reaches (later c stop) (x ∷ xs) ≡ reaches stop (map (earlier c) (from_start c (x ∷ xs)))
      at false e i = ap (λ k. cond k true (reaches (later c stop) xs)) (past_before c stop (start_ticks x) (le_no c (start_ticks x) e))
          ∙ (i ∙ ap (λ k. reaches stop (map (earlier c) (cond k (x ∷ from_start c xs) (from_start c xs)))) (sym e))
      at true e i =
          let p = is_past stop (start_ticks (earlier c x)) in
          let past : is_past (later c stop) (start_ticks x) ≡ p = past_later c stop (start_ticks x) (le_yes c (start_ticks x) e) ∙ ap (λ n. is_past stop n) (sym (start_earlier c x h.0)) in
          ap (λ k. cond k true (reaches (later c stop) xs)) past ∙ (ap (λ k. cond p true k) i
          ∙ ap (λ k. reaches stop (map (earlier c) (cond k (x ∷ from_start c xs) (from_start c xs)))) (sym e))

picture_of : (tb : Fraction) (format : _) (width height sar_num sar_den : ℕ) (x : Item) → IsItemFor (Frames (VideoHead tb format width height sar_num sar_den)) x → IsPicture x
picture_of tb format width height sar_num sar_den (Audio f) i = i.fits
picture_of tb format width height sar_num sar_den (Video f) i = tt
picture_of tb format width height sar_num sar_den (Packet p) i = i.fits
picture_of tb format width height sar_num sar_den (Trailer t) i = i.fits
picture_of tb format width height sar_num sar_den End i = i.fits
picture_of tb format width height sar_num sar_den Broken i = i.fits

each_picture : (tb : Fraction) (format : _) (width height sar_num sar_den : ℕ) (xs : List Item) → Each (IsItemFor (Frames (VideoHead tb format width height sar_num sar_den))) xs → Each IsPicture xs
each_picture tb format width height sar_num sar_den [] e = tt
each_picture tb format width height sar_num sar_den (x ∷ xs) e = (picture_of tb format width height sar_num sar_den x e.0, each_picture tb format width height sar_num sar_den xs e.1)

-- ---- sound

take_less : (a b : ℕ) (xs : List ℤ) → a ≤ b → take a (take b xs) ≡ take a xs
take_less zero b xs le = refl
take_less (suc a) zero xs le = absurd (omega (arith, le))
take_less (suc a) (suc b) [] le = refl
take_less (suc a) (suc b) (x ∷ xs) le = ap (λ (ys : List ℤ). x ∷ ys) (take_less a b xs (omega (arith, le)))

kept_again : (channels skip count fewer : ℕ) (xs : List ℤ) → fewer ≤ count → kept_samples channels 0 fewer (kept_samples channels skip count xs) ≡ kept_samples channels skip fewer xs
kept_again channels skip count fewer xs le =
    let none : 0 * channels ≡ 0 = omega arith in
    ap (λ n. take (fewer * channels) (drop n (take (count * channels) (drop (skip * channels) xs)))) none
    ∙ take_less (fewer * channels) (count * channels) (drop (skip * channels) xs) (mul-le-mul_right channels le)

size_of : (channels skip count : ℕ) (xs : List ℤ) → 1 ≤ channels → skip + count ≤ length xs / channels → length (kept_samples channels skip count xs) / channels ≡ count
size_of channels skip count xs some few =
    let both : (skip + count) * channels ≡ skip * channels + count * channels = add-mul skip count channels in
    let less : (skip + count) * channels ≤ length xs / channels * channels = mul-le-mul_right channels few in
    let there : length xs / channels * channels ≤ length xs = div-mul-le_self (length xs) channels in
    let rest : length (drop (skip * channels) xs) ≡ length xs - skip * channels = length-drop (skip * channels) xs in
    let all : length (kept_samples channels skip count xs) ≡ count * channels = length-take-le (count * channels) (drop (skip * channels) xs) (omega (arith, both, less, there, rest)) in
    ap (λ (n : ℕ). n / channels) (all ∙ plus_none (count * channels)) ∙ div-mul-add count channels 0 (omega (arith, some))
  where
    plus_none : (n : ℕ) → n ≡ n + 0
    plus_none n = omega arith

stop_less : (stop : Option ℕ) (start count : ℕ) → samples_before stop start count ≤ count
stop_less None start count = omega arith
stop_less (Some s) start count = omega arith

-- the number of sample frames below a stop, counted from a start on
fewer_later : (c : ℕ) (stop : Option ℕ) (t count : ℕ) → c - t ≤ count
    → samples_before (later c stop) t count - (c - t) ≡ samples_before stop (t + (c - t) - c) (count - (c - t))
fewer_later c None t count le = refl
fewer_later c (Some e) t count le = omega (arith, le)

-- what a frame counts: sample frames of at least one channel
record IsSome (f : AFrame) : Type 0 where
  channels : 1 ≤ f.channels
  count : 1 ≤ count_of f

-- a frame of which nothing lies from the start on
record IsBefore (c : ℕ) (stop : Option ℕ) (f : AFrame) : Type 0 where
  first : part f (c - ticks f.pts) (count_of f) ≡ []
  once : part f (c - ticks f.pts) (samples_before (later c stop) (ticks f.pts) (count_of f)) ≡ []
  past : is_past (later c stop) (ticks f.pts + count_of f) ≡ false

-- what lies from the start on of a frame, at its time from the start
abbrev moved : ℕ → AFrame → AFrame
moved c f = record f {
  pts = pos (ticks f.pts + (c - ticks f.pts) - c);
  samples = kept_samples f.channels (c - ticks f.pts) (count_of f - (c - ticks f.pts)) f.samples;
}

-- a frame of which some lies from the start on
record IsReached (c : ℕ) (stop : Option ℕ) (f : AFrame) : Type 0 where
  first : part f (c - ticks f.pts) (count_of f) ≡ Audio (record f { pts = pos (ticks f.pts + (c - ticks f.pts)); samples = kept_samples f.channels (c - ticks f.pts) (count_of f - (c - ticks f.pts)) f.samples }) ∷ []
  once : map (earlier c) (part f (c - ticks f.pts) (samples_before (later c stop) (ticks f.pts) (count_of f)))
      ≡ part (moved c f) (0 - ticks (moved c f).pts) (samples_before stop (ticks (moved c f).pts) (count_of (moved c f)))
  past : is_past (later c stop) (ticks f.pts + count_of f) ≡ is_past stop (ticks (moved c f).pts + count_of (moved c f))

no_part : (f : AFrame) (skip until : ℕ) → until ≤ skip → part f skip until ≡ []
no_part f skip until le =
    let e : nat_lt skip until ≡ false = grind (arith, nat_tests) in
    ap (λ b. cond b (Audio (record f { pts = pos (ticks f.pts + skip); samples = kept_samples f.channels skip (until - skip) f.samples }) ∷ []) []) e

not_past : (c : ℕ) (stop : Option ℕ) (t : ℕ) → ((n : ℕ) → stop ≡ Some n → 1 ≤ n) → t ≤ c → is_past (later c stop) t ≡ false
not_past c None t some le = refl
not_past c (Some e) t some le = let one = some e refl in grind (arith, nat_tests)

before_it : (c : ℕ) (stop : Option ℕ) (f : AFrame) → ((n : ℕ) → stop ≡ Some n → 1 ≤ n) → IsSome f → count_of f ≤ c - ticks f.pts → IsBefore c stop f
before_it c stop f some i le =
    let few = stop_less (later c stop) (ticks f.pts) (count_of f) in
    let one = i.count in
    record {
      first = no_part f (c - ticks f.pts) (count_of f) le;
      once = no_part f (c - ticks f.pts) (samples_before (later c stop) (ticks f.pts) (count_of f)) (omega (arith, few, le));
      past = not_past c stop (ticks f.pts + count_of f) some (omega (arith, le, one));
    }

same_lt : (s u : ℕ) → nat_lt s u ≡ nat_lt 0 (u - s)
same_lt s u = at (nat_lt s u) (nat_lt 0 (u - s)) refl refl
  where
    at : (a b : Bool) → nat_lt s u ≡ a → nat_lt 0 (u - s) ≡ b → nat_lt s u ≡ nat_lt 0 (u - s)
    at true true p q = p ∙ sym q
    at false false p q = p ∙ sym q
    at true false p q = grind (arith, nat_tests)
    at false true p q = grind (arith, nat_tests)

reached : (c : ℕ) (stop : Option ℕ) (f : AFrame) → IsSome f → c - ticks f.pts < count_of f → IsReached c stop f
reached c stop f i lt = record {
  first = ap (λ b. cond b (Audio (record f { pts = pos (t + s); samples = kept_samples f.channels s (count_of f - s) f.samples }) ∷ []) []) yes;
  once = left (nat_lt s u) ∙ (ap (λ b. given b p (kept_samples f.channels s (u - s) f.samples)) (same_lt s u)
      ∙ (ap (λ n. given (nat_lt 0 n) p (kept_samples f.channels s n f.samples)) (sym fewer)
      ∙ (ap (λ (xs : List ℤ). given (nat_lt 0 v) p xs) (sym (kept_again f.channels s (count_of f - s) v f.samples less))
      ∙ (ap (λ n. given (nat_lt 0 v) n (kept_samples f.channels 0 v (moved c f).samples)) (plus_none p)
      ∙ (ap (λ n. given (nat_lt 0 v) (p + 0) (kept_samples f.channels 0 n (moved c f).samples)) (minus_none v)
      ∙ ap (λ k. given (nat_lt k v) (p + k) (kept_samples f.channels k (v - k) (moved c f).samples)) (sym none))))));
  past = past_later c stop (t + count_of f) (omega (arith, lt)) ∙ ap (λ n. is_past stop n) (ends ∙ ap (λ n. p + n) (sym sized));
}
  where
    t : ℕ
    t = ticks f.pts

    s : ℕ
    s = c - ticks f.pts

    p : ℕ
    p = ticks f.pts + (c - ticks f.pts) - c

    u : ℕ
    u = samples_before (later c stop) (ticks f.pts) (count_of f)

    v : ℕ
    v = samples_before stop (ticks f.pts + (c - ticks f.pts) - c) (count_of (moved c f))

    given : Bool → ℕ → List ℤ → List Item
    given b at xs = cond b (Audio (record f { pts = pos at; samples = xs }) ∷ []) []

    yes : nat_lt (c - ticks f.pts) (count_of f) ≡ true
    yes = grind (arith, nat_tests)

    sized : count_of (moved c f) ≡ count_of f - (c - ticks f.pts)
    sized = size_of f.channels (c - ticks f.pts) (count_of f - (c - ticks f.pts)) f.samples i.channels (omega (arith, lt))

    fewer : samples_before stop (ticks f.pts + (c - ticks f.pts) - c) (count_of (moved c f)) ≡ samples_before (later c stop) (ticks f.pts) (count_of f) - (c - ticks f.pts)
    fewer = ap (λ n. samples_before stop (ticks f.pts + (c - ticks f.pts) - c) n) sized ∙ sym (fewer_later c stop (ticks f.pts) (count_of f) (omega (arith, lt)))

    less : samples_before stop (ticks f.pts + (c - ticks f.pts) - c) (count_of (moved c f)) ≤ count_of f - (c - ticks f.pts)
    less = let few = stop_less stop (ticks f.pts + (c - ticks f.pts) - c) (count_of (moved c f)) in let e = sized in omega (arith, few, e)

    none : 0 - (ticks f.pts + (c - ticks f.pts) - c) ≡ 0
    none = omega arith

    plus_none : (n : ℕ) → n ≡ n + 0
    plus_none n = omega arith

    minus_none : (n : ℕ) → n ≡ n - 0
    minus_none n = omega arith

    ends : ticks f.pts + count_of f - c ≡ (ticks f.pts + (c - ticks f.pts) - c) + (count_of f - (c - ticks f.pts))
    ends = omega (arith, lt)

    left : (b : Bool) → map (earlier c) (cond b (Audio (record f { pts = pos (ticks f.pts + (c - ticks f.pts)); samples = kept_samples f.channels (c - ticks f.pts) (samples_before (later c stop) (ticks f.pts) (count_of f) - (c - ticks f.pts)) f.samples }) ∷ []) [])
        ≡ given b (ticks f.pts + (c - ticks f.pts) - c) (kept_samples f.channels (c - ticks f.pts) (samples_before (later c stop) (ticks f.pts) (count_of f) - (c - ticks f.pts)) f.samples)
    left true = refl
    left false = refl

-- each item is a frame of sound
abbrev IsSound : Item → Type 0
IsSound (Audio f) = IsSome f
IsSound (Video f) = ⊥
IsSound (Packet p) = ⊥
IsSound (Trailer t) = ⊥
IsSound End = ⊥
IsSound Broken = ⊥

module _ (c : ℕ) (stop : Option ℕ) (once first then : Range) (os : once.start ≡ c) (oe : once.stop ≡ later c stop) (fs : first.start ≡ c) (fe : first.stop ≡ None) (ts : then.start ≡ 0) (te : then.stop ≡ stop)
    (some : (n : ℕ) → stop ≡ Some n → 1 ≤ n) where
  once_part : (f : AFrame) → kept_of once (Audio f) ≡ part f (c - ticks f.pts) (samples_before (later c stop) (ticks f.pts) (count_of f))
  once_part f = ap (λ k. part f (k - ticks f.pts) (samples_before once.stop (ticks f.pts) (count_of f))) os
      ∙ ap (λ (e : Option ℕ). part f (c - ticks f.pts) (samples_before e (ticks f.pts) (count_of f))) oe

  once_past : (f : AFrame) → ends_past once (Audio f) ≡ is_past (later c stop) (ticks f.pts + count_of f)
  once_past f = ap (λ (e : Option ℕ). is_past e (ticks f.pts + count_of f)) oe

  first_part : (f : AFrame) → kept_of first (Audio f) ≡ part f (c - ticks f.pts) (count_of f)
  first_part f = ap (λ k. part f (k - ticks f.pts) (samples_before first.stop (ticks f.pts) (count_of f))) fs
      ∙ ap (λ (e : Option ℕ). part f (c - ticks f.pts) (samples_before e (ticks f.pts) (count_of f))) fe

  first_past : (f : AFrame) → ends_past first (Audio f) ≡ false
  first_past f = ap (λ (e : Option ℕ). is_past e (ticks f.pts + count_of f)) fe

  then_part : (f : AFrame) → part f (0 - ticks f.pts) (samples_before stop (ticks f.pts) (count_of f)) ≡ kept_of then (Audio f)
  then_part f = ap (λ k. part f (k - ticks f.pts) (samples_before stop (ticks f.pts) (count_of f))) (sym ts)
      ∙ ap (λ (e : Option ℕ). part f (then.start - ticks f.pts) (samples_before e (ticks f.pts) (count_of f))) (sym te)

  then_past : (f : AFrame) → is_past stop (ticks f.pts + count_of f) ≡ ends_past then (Audio f)
  then_past f = ap (λ (e : Option ℕ). is_past e (ticks f.pts + count_of f)) (sym te)

  abbrev Agree : List Item → Type 0
  Agree xs = (map (earlier c) (kept_all once xs) ≡ kept_all then (map (earlier c) (kept_all first xs)))
      × (sound_reaches once xs ≡ sound_reaches then (map (earlier c) (kept_all first xs)))

  -- the next frame, of which nothing lies from the start on
  skipped : (f : AFrame) (xs : List Item) → IsBefore c stop f → Agree xs → Agree (Audio f ∷ xs)
  skipped f xs b i =
      let none : kept_all first (Audio f ∷ xs) ≡ kept_all first xs = ap (λ (ys : List Item). ys ++ cond (ends_past first (Audio f)) [] (kept_all first xs)) (first_part f ∙ b.first)
      ∙ ap (λ k. cond k [] (kept_all first xs)) (first_past f) in
      let over : ends_past once (Audio f) ≡ false = once_past f ∙ b.past in
      let gone : kept_all once (Audio f ∷ xs) ≡ kept_all once xs = ap (λ (ys : List Item). ys ++ cond (ends_past once (Audio f)) [] (kept_all once xs)) (once_part f ∙ b.once)
      ∙ ap (λ k. cond k [] (kept_all once xs)) over in (
        ap (λ (ys : List Item). map (earlier c) ys) gone ∙ (i.0 ∙ ap (λ (ys : List Item). kept_all then (map (earlier c) ys)) (sym none)),
        ap (λ k. cond k true (sound_reaches once xs)) over ∙ (i.1 ∙ ap (λ (ys : List Item). sound_reaches then (map (earlier c) ys)) (sym none)),
      )

  map_cond : (b : Bool) (ys : List Item) → map (earlier c) (cond b [] ys) ≡ cond b [] (map (earlier c) ys)
  map_cond true ys = refl
  map_cond false ys = refl

  -- the next frame, of which some does
  taken : (f : AFrame) (xs : List Item) → IsReached c stop f → Agree xs → Agree (Audio f ∷ xs)
  taken f xs r i =
      let y : Item = Audio (record f { pts = pos (ticks f.pts + (c - ticks f.pts)); samples = kept_samples f.channels (c - ticks f.pts) (count_of f - (c - ticks f.pts)) f.samples }) in
      let front : kept_all first (Audio f ∷ xs) ≡ y ∷ kept_all first xs = ap (λ (ys : List Item). ys ++ cond (ends_past first (Audio f)) [] (kept_all first xs)) (first_part f ∙ r.first)
      ∙ ap (λ k. y ∷ cond k [] (kept_all first xs)) (first_past f) in
      let rest : List Item = map (earlier c) (kept_all first xs) in
      let past : ends_past once (Audio f) ≡ ends_past then (Audio (moved c f)) = once_past f ∙ (r.past ∙ then_past (moved c f)) in
      let here : map (earlier c) (kept_of once (Audio f)) ≡ kept_of then (Audio (moved c f)) = ap (λ (ys : List Item). map (earlier c) ys) (once_part f) ∙ (r.once ∙ then_part (moved c f)) in (
        map-append (earlier c) (kept_of once (Audio f)) (cond (ends_past once (Audio f)) [] (kept_all once xs))
            ∙ (ap (λ (ys : List Item). ys ++ map (earlier c) (cond (ends_past once (Audio f)) [] (kept_all once xs))) here
            ∙ (ap (λ (ys : List Item). kept_of then (Audio (moved c f)) ++ ys) (map_cond (ends_past once (Audio f)) (kept_all once xs)
            ∙ (ap (λ k. cond k [] (map (earlier c) (kept_all once xs))) past ∙ ap (λ (ys : List Item). cond (ends_past then (Audio (moved c f))) [] ys) i.0))
            ∙ ap (λ (ys : List Item). kept_all then (map (earlier c) ys)) (sym front))),
        ap (λ k. cond k true (sound_reaches once xs)) past ∙ (ap (λ k. cond (ends_past then (Audio (moved c f))) true k) i.1
            ∙ ap (λ (ys : List Item). sound_reaches then (map (earlier c) ys)) (sym front)),
      )

  agree : (xs : List Item) → Each IsSound xs → Agree xs
  agree [] h = (refl, refl)
  agree (Audio f ∷ xs) h = at (nat_lt (c - ticks f.pts) (count_of f)) refl (agree xs h.1)
    where
      at : (b : Bool) → nat_lt (c - ticks f.pts) (count_of f) ≡ b → Agree xs → Agree (Audio f ∷ xs)
      at true e i = taken f xs (reached c stop f h.0 (below_by (c - ticks f.pts) (count_of f) e)) i
      at false e i = skipped f xs (before_it c stop f some h.0 (no_less (c - ticks f.pts) (count_of f) e)) i
        where
          no_less : (a b : ℕ) → nat_lt a b ≡ false → b ≤ a
          no_less a b e = grind (arith, nat_tests)
  agree (Video f ∷ xs) h = absurd h.0
  agree (Packet p ∷ xs) h = absurd h.0
  agree (Trailer t ∷ xs) h = absurd h.0
  agree (End ∷ xs) h = absurd h.0
  agree (Broken ∷ xs) h = absurd h.0

sound_of : (tb : Fraction) (rate bits channels : ℕ) (codec : Codec) (x : Item) → IsItemFor (Frames (AudioHead tb rate bits channels codec)) x → IsSound x
sound_of tb rate bits channels codec (Audio f) i = record { channels = i.fits.audio.some_channels; count = counted i.fits.audio }
  where
    counted : IsAudio f.bits f.channels f.samples → 1 ≤ count_of f
    counted a =
        let all : count_of f ≡ a.sample_frames = ap (λ (n : ℕ). n / f.channels) (a.interleaved ∙ plus_none (a.sample_frames * f.channels)) ∙ div-mul-add a.sample_frames f.channels 0
        (let s = a.some_channels in omega (arith, s)) in
        let some = a.some_sample_frames in
        omega (arith, all, some)
      where
        plus_none : (n : ℕ) → n ≡ n + 0
        plus_none n = omega arith
sound_of tb rate bits channels codec (Video f) i = i.fits
sound_of tb rate bits channels codec (Packet p) i = i.fits
sound_of tb rate bits channels codec (Trailer t) i = i.fits
sound_of tb rate bits channels codec End i = i.fits
sound_of tb rate bits channels codec Broken i = i.fits

each_sound : (tb : Fraction) (rate bits channels : ℕ) (codec : Codec) (xs : List Item) → Each (IsItemFor (Frames (AudioHead tb rate bits channels codec))) xs → Each IsSound xs
each_sound tb rate bits channels codec [] e = tt
each_sound tb rate bits channels codec (x ∷ xs) e = (sound_of tb rate bits channels codec x e.0, each_sound tb rate bits channels codec xs e.1)

-- ---- both

stop_later : (tb : Fraction) (n : ℕ) (length : Option ℕ) → option_map (λ us. n + ticks_at tb us) length ≡ later n (option_map (λ us. ticks_at tb us) length)
stop_later tb n None = refl
stop_later tb n (Some us) = refl

some_ticks : (tb : Fraction) → IsBase tb → (us : ℕ) → 1 ≤ us → 1 ≤ ticks_at tb us
some_ticks tb b us some =
    let den = b.den_positive in
    let num = b.num_positive in
    let is = IsCeiling-div_ceil (us * tb.den) (tb.num * 1000000) (omega (arith, num)) in
    let enough = is.enough in
    let more : 1 * tb.den ≤ us * tb.den = mul-le-mul_right tb.den some in
    at (ticks_at tb us) refl (omega (arith, den, more, enough))
  where
    at : (n : ℕ) → ticks_at tb us ≡ n → 1 ≤ ticks_at tb us * (tb.num * 1000000) → 1 ≤ ticks_at tb us
    at zero e le = absurd (let none : ticks_at tb us * (tb.num * 1000000) ≡ 0 * (tb.num * 1000000) = ap (λ k. k * (tb.num * 1000000)) e in omega (arith, none, le))
    at (suc n) e le = omega (arith, e)

stop_some : (tb : Fraction) → IsBase tb → (length : Option ℕ) → is_empty length ≡ false → (n : ℕ) → option_map (λ us. ticks_at tb us) length ≡ Some n → 1 ≤ n
stop_some tb b None e n is = cc
stop_some tb b (Some zero) e n is = cc
stop_some tb b (Some (suc us)) e n is = let some = some_ticks tb b (suc us) (omega arith) in let same : ticks_at tb (suc us) ≡ n = cc in omega (arith, some, same)

range_rule : (h : StreamHead) (c : TimeCut) (s : Flow) → IsBase (base_of_head h) → is_empty c.length ≡ false → IsValid (Frames h) s → from_range h (range_in (base_of_head h) c) s ≡ by_rule h c s
range_rule (AudioHead tb rate bits channels codec) c s b e v =
    let start = start_in tb c in
    let stop : Option ℕ = option_map (λ us. ticks_at tb us) c.length in
    let once = range_in tb c in
    let first = from_start_of tb c in
    let then = to_length_of tb c in
    let same = agree start stop once first then refl (stop_later tb start c.length) refl refl refl refl (stop_some tb b c.length e) s.items
    (each_sound tb rate bits channels codec s.items (each_of (IsItemFor (Frames (AudioHead tb rate bits channels codec))) s.items v.shape.each)) in
    same_stream (shifted (Some start) (sound_trimmed once s)) (sound_trimmed then (shifted (Some start) (sound_trimmed first s))) same.0
    (ap (λ k. cond k whole s.mark) same.1 ∙ ap (λ k. cond (sound_reaches then (map (earlier start) (kept_all first s.items))) whole (cond k whole s.mark)) (sym (none_reached first s.items refl)))
  where
    none_reached : (r : Range) (xs : List Item) → r.stop ≡ None → sound_reaches r xs ≡ false
    none_reached r [] n = refl
    none_reached r (Audio f ∷ xs) n = ap (λ k. cond k true (sound_reaches r xs)) (ap (λ (o : Option ℕ). is_past o (ticks f.pts + count_of f)) n) ∙ none_reached r xs n
    none_reached r (Video f ∷ xs) n = none_reached r xs n
    none_reached r (Packet p ∷ xs) n = none_reached r xs n
    none_reached r (Trailer t ∷ xs) n = none_reached r xs n
    none_reached r (End ∷ xs) n = none_reached r xs n
    none_reached r (Broken ∷ xs) n = none_reached r xs n
range_rule (VideoHead tb format width height sar_num sar_den) c s b e v =
    let start = start_in tb c in
    let stop : Option ℕ = option_map (λ us. ticks_at tb us) c.length in
    let shown = each_picture tb format width height sar_num sar_den s.items (each_of (IsItemFor (Frames (VideoHead tb format width height sar_num sar_den))) s.items v.shape.each) in
    let later_is = stop_later tb start c.length in
    let items = ap (λ (o : Option ℕ). map (earlier start) (from_start start (before_stop o s.items))) later_is ∙ (same_pictures start stop s.items shown
    ∙ ap (λ (ys : List Item). from_start 0 (before_stop stop (map (earlier start) (from_start start ys)))) (sym (all_before s.items))) in
    let marks = ap (λ (o : Option ℕ). reaches o s.items) later_is ∙ (same_reaches start stop s.items shown
    ∙ ap (λ (ys : List Item). reaches stop (map (earlier start) (from_start start ys))) (sym (all_before s.items))) in
    same_stream (shifted (Some start) (trimmed (range_in tb c) s)) (trimmed (to_length_of tb c) (shifted (Some start) (trimmed (from_start_of tb c) s))) items
    (ap (λ k. cond k whole s.mark) marks
    ∙ ap (λ k. cond (reaches stop (map (earlier start) (from_start start (before_stop None s.items)))) whole (cond k whole s.mark)) (sym (none_reached s.items)))
  where
    all_before : (xs : List Item) → before_stop None xs ≡ xs
    all_before [] = refl
    all_before (x ∷ xs) = ap (λ (ys : List Item). x ∷ ys) (all_before xs)

    none_reached : (xs : List Item) → reaches None xs ≡ false
    none_reached [] = refl
    none_reached (x ∷ xs) = none_reached xs

-- ---- a range of all times leaves a valid stream as it is

abbrev IsKeptWhole : Item → Type 0
IsKeptWhole (Audio f) = (pos 0 ≤ℤ f.pts) × (1 ≤ count_of f) × (kept_samples f.channels 0 (count_of f) f.samples ≡ f.samples)
IsKeptWhole (Video f) = ⊥
IsKeptWhole (Packet p) = ⊥
IsKeptWhole (Trailer t) = ⊥
IsKeptWhole End = ⊥
IsKeptWhole Broken = ⊥

time_same : (z : ℤ) → pos 0 ≤ℤ z → pos (ticks z + 0 - 0) ≡ z
time_same (pos n) h = ap pos (let e : n + 0 - 0 ≡ n = omega arith in e)
time_same (negsuc n) h = grind (arith)

time_kept : (z : ℤ) → pos 0 ≤ℤ z → pos (ticks z - 0) ≡ z
time_kept (pos n) h = ap pos (let e : n - 0 ≡ n = omega arith in e)
time_kept (negsuc n) h = grind (arith)

frame_same : (f : AFrame) → IsKeptWhole (Audio f) → map (earlier 0) (part f (0 - ticks f.pts) (count_of f)) ≡ Audio f ∷ []
frame_same f h =
    ap (λ k. map (earlier 0) (part f k (count_of f))) none
    ∙ (ap (λ b. map (earlier 0) (cond b (Audio (record f { pts = pos (ticks f.pts + 0); samples = kept_samples f.channels 0 (count_of f - 0) f.samples }) ∷ []) [])) yes
    ∙ (ap (λ (z : ℤ). Audio (record f { pts = z; samples = kept_samples f.channels 0 (count_of f - 0) f.samples }) ∷ []) (time_same f.pts h.0)
    ∙ (ap (λ n. Audio (record f { samples = kept_samples f.channels 0 n f.samples }) ∷ []) less ∙ ap (λ (xs : List ℤ). Audio (record f { samples = xs }) ∷ []) h.2)))
  where
    none : 0 - ticks f.pts ≡ 0
    none = omega arith

    less : count_of f - 0 ≡ count_of f
    less = omega arith

    yes : nat_lt 0 (count_of f) ≡ true
    yes = let some = h.1 in grind (arith, nat_tests)

module _ (r : Range) (zero_start : r.start ≡ 0) (no_stop : r.stop ≡ None) where
  sound_whole : (xs : List Item) → Each IsKeptWhole xs → map (earlier r.start) (kept_all r xs) ≡ xs
  sound_whole [] h = refl
  sound_whole (Audio f ∷ xs) h =
      let here : map (earlier r.start) (kept_of r (Audio f)) ≡ Audio f ∷ [] =
      ap (λ k. map (earlier k) (part f (k - ticks f.pts) (samples_before r.stop (ticks f.pts) (count_of f)))) zero_start
      ∙ (ap (λ (o : Option ℕ). map (earlier 0) (part f (0 - ticks f.pts) (samples_before o (ticks f.pts) (count_of f)))) no_stop ∙ frame_same f h.0) in
      map-append (earlier r.start) (kept_of r (Audio f)) (cond (ends_past r (Audio f)) [] (kept_all r xs))
      ∙ (ap (λ (ys : List Item). ys ++ map (earlier r.start) (cond (ends_past r (Audio f)) [] (kept_all r xs))) here
      ∙ (ap (λ (o : Option ℕ). Audio f ∷ map (earlier r.start) (cond (is_past o (ticks f.pts + count_of f)) [] (kept_all r xs))) no_stop
      ∙ ap (λ (ys : List Item). Audio f ∷ ys) (sound_whole xs h.1)))
  sound_whole (Video f ∷ xs) h = absurd h.0
  sound_whole (Packet p ∷ xs) h = absurd h.0
  sound_whole (Trailer t ∷ xs) h = absurd h.0
  sound_whole (End ∷ xs) h = absurd h.0
  sound_whole (Broken ∷ xs) h = absurd h.0

  sound_goes_on : (xs : List Item) → Each IsKeptWhole xs → sound_reaches r xs ≡ false
  sound_goes_on [] h = refl
  sound_goes_on (Audio f ∷ xs) h = ap (λ (o : Option ℕ). cond (is_past o (ticks f.pts + count_of f)) true (sound_reaches r xs)) no_stop ∙ sound_goes_on xs h.1
  sound_goes_on (Video f ∷ xs) h = absurd h.0
  sound_goes_on (Packet p ∷ xs) h = absurd h.0
  sound_goes_on (Trailer t ∷ xs) h = absurd h.0
  sound_goes_on (End ∷ xs) h = absurd h.0
  sound_goes_on (Broken ∷ xs) h = absurd h.0

abbrev IsTimed : Item → Type 0
IsTimed (Audio f) = ⊥
IsTimed (Video f) = pos 0 ≤ℤ f.pts
IsTimed (Packet p) = ⊥
IsTimed (Trailer t) = ⊥
IsTimed End = ⊥
IsTimed Broken = ⊥

pictures_whole : (xs : List Item) → Each IsTimed xs → map (earlier 0) (from_start 0 (before_stop None xs)) ≡ xs
pictures_whole [] h = refl
pictures_whole (Video f ∷ xs) h = ap (λ b. map (earlier 0) (cond b (Video f ∷ from_start 0 (before_stop None xs)) (from_start 0 (before_stop None xs)))) (none_le (ticks f.pts))
    ∙ (ap (λ (z : ℤ). Video (record f { pts = z }) ∷ map (earlier 0) (from_start 0 (before_stop None xs))) (time_kept f.pts h.0)
    ∙ ap (λ (ys : List Item). Video f ∷ ys) (pictures_whole xs h.1))
pictures_whole (Audio f ∷ xs) h = absurd h.0
pictures_whole (Packet p ∷ xs) h = absurd h.0
pictures_whole (Trailer t ∷ xs) h = absurd h.0
pictures_whole (End ∷ xs) h = absurd h.0
pictures_whole (Broken ∷ xs) h = absurd h.0

pictures_go_on : (xs : List Item) → reaches None xs ≡ false
pictures_go_on [] = refl
pictures_go_on (x ∷ xs) = pictures_go_on xs

whole_of : (tb : Fraction) (rate bits channels : ℕ) (codec : Codec) (x : Item) → IsItemFor (Frames (AudioHead tb rate bits channels codec)) x → IsKeptWhole x
whole_of tb rate bits channels codec (Audio f) i = (i.not_negative, (counted i.fits.audio).0, (counted i.fits.audio).1)
  where
    plus_none : (n : ℕ) → n ≡ n + 0
    plus_none n = omega arith

    counted : IsAudio f.bits f.channels f.samples → (1 ≤ count_of f) × (kept_samples f.channels 0 (count_of f) f.samples ≡ f.samples)
    counted a =
        let all : count_of f ≡ a.sample_frames = ap (λ (n : ℕ). n / f.channels) (a.interleaved ∙ plus_none (a.sample_frames * f.channels)) ∙ div-mul-add a.sample_frames f.channels 0
        (let s = a.some_channels in omega (arith, s)) in
        let some = a.some_sample_frames in
        let none : 0 * f.channels ≡ 0 = omega arith in (
          omega (arith, all, some),
          ap (λ n. take (count_of f * f.channels) (drop n f.samples)) none
              ∙ (ap (λ n. take n f.samples) (ap (λ n. n * f.channels) all ∙ sym a.interleaved) ∙ take-length f.samples),
        )
whole_of tb rate bits channels codec (Video f) i = i.fits
whole_of tb rate bits channels codec (Packet p) i = i.fits
whole_of tb rate bits channels codec (Trailer t) i = i.fits
whole_of tb rate bits channels codec End i = i.fits
whole_of tb rate bits channels codec Broken i = i.fits

each_whole : (tb : Fraction) (rate bits channels : ℕ) (codec : Codec) (xs : List Item) → Each (IsItemFor (Frames (AudioHead tb rate bits channels codec))) xs → Each IsKeptWhole xs
each_whole tb rate bits channels codec [] e = tt
each_whole tb rate bits channels codec (x ∷ xs) e = (whole_of tb rate bits channels codec x e.0, each_whole tb rate bits channels codec xs e.1)

timed_of : (tb : Fraction) (format : _) (width height sar_num sar_den : ℕ) (x : Item) → IsItemFor (Frames (VideoHead tb format width height sar_num sar_den)) x → IsTimed x
timed_of tb format width height sar_num sar_den (Audio f) i = i.fits
timed_of tb format width height sar_num sar_den (Video f) i = i.not_negative
timed_of tb format width height sar_num sar_den (Packet p) i = i.fits
timed_of tb format width height sar_num sar_den (Trailer t) i = i.fits
timed_of tb format width height sar_num sar_den End i = i.fits
timed_of tb format width height sar_num sar_den Broken i = i.fits

each_timed : (tb : Fraction) (format : _) (width height sar_num sar_den : ℕ) (xs : List Item) → Each (IsItemFor (Frames (VideoHead tb format width height sar_num sar_den))) xs → Each IsTimed xs
each_timed tb format width height sar_num sar_den [] e = tt
each_timed tb format width height sar_num sar_den (x ∷ xs) e = (timed_of tb format width height sar_num sar_den x e.0, each_timed tb format width height sar_num sar_den xs e.1)

all_times : (h : StreamHead) (r : Range) (s : Flow) → r.start ≡ 0 → r.stop ≡ None → IsValid (Frames h) s → from_range h r s ≡ s
all_times (AudioHead tb rate bits channels codec) r s zs zn v =
    let each = each_whole tb rate bits channels codec s.items (each_of (IsItemFor (Frames (AudioHead tb rate bits channels codec))) s.items v.shape.each) in
    same_stream (shifted (Some r.start) (sound_trimmed r s)) s (sound_whole r zs zn s.items each) (ap (λ k. cond k whole s.mark) (sound_goes_on r zs zn s.items each))
all_times (VideoHead tb format width height sar_num sar_den) r s zs zn v =
    let each = each_timed tb format width height sar_num sar_den s.items (each_of (IsItemFor (Frames (VideoHead tb format width height sar_num sar_den))) s.items v.shape.each) in
    same_stream (shifted (Some r.start) (trimmed r s)) s
    (ap (λ k. map (earlier k) (from_start k (before_stop r.stop s.items))) zs ∙ (ap (λ (o : Option ℕ). map (earlier 0) (from_start 0 (before_stop o s.items))) zn ∙ pictures_whole s.items each))
    (ap (λ (o : Option ℕ). cond (reaches o s.items) whole s.mark) zn ∙ ap (λ k. cond k whole s.mark) (pictures_go_on s.items))

no_ticks : (tb : Fraction) → IsBase tb → in_bits (ticks_at tb 0) ≡ 0
no_ticks tb b =
    let num = b.num_positive in
    let is = IsCeiling-div_ceil (0 * tb.den) (tb.num * 1000000) (omega (arith, num)) in
    let none : 0 * tb.den ≡ 0 = omega arith in
    at (ticks_at tb 0) refl is.least none
  where
    at : (n : ℕ) → ticks_at tb 0 ≡ n → ticks_at tb 0 * (tb.num * 1000000) < 0 * tb.den + tb.num * 1000000 → 0 * tb.den ≡ 0 → in_bits (ticks_at tb 0) ≡ 0
    at zero e lt z = ap in_bits e
    at (suc n) e lt z = absurd (let big : ticks_at tb 0 * (tb.num * 1000000) ≡ suc n * (tb.num * 1000000) = ap (λ k. k * (tb.num * 1000000)) e in omega (arith, big, suc-mul n (tb.num * 1000000), lt, z))

uncut_start : (c : TimeCut) → is_uncut c ≡ true → (c.start ≡ 0) × (c.length ≡ None)
uncut_start c e = let b = and_parts (c.start == 0) (not (is_some c.length)) e in (grind (arith, nat_tests), none c.length b.1)
  where
    none : (o : Option ℕ) → not (is_some o) ≡ true → o ≡ None
    none None e = refl
    none (Some n) e = cc

-- a cut that cuts nothing is a range of all times
uncut_same : (h : StreamHead) (c : TimeCut) (s : Flow) → IsBase (base_of_head h) → is_uncut c ≡ true → IsValid (Frames h) s → s ≡ from_range h (range_in (base_of_head h) c) s
uncut_same h c s b u v =
    let is = uncut_start c u in
    let tb = base_of_head h in
    sym (all_times h (range_in tb c) s (ap (λ n. in_bits (ticks_at tb n)) is.0 ∙ no_ticks tb b) (ap (λ (o : Option ℕ). option_map (λ us. start_in tb c + ticks_at tb us) o) is.1) v)

pub cut_by_rule : (h : StreamHead) (c : TimeCut) (s : Flow) → IsBase (base_of_head h) → is_empty c.length ≡ false → IsValid (Frames h) s → cut h c s ≡ by_rule h c s
cut_by_rule h c s b e v = ap (λ k. cond k (whole_stream []) (cond (is_uncut c) s (from_range h (range_in (base_of_head h) c) s))) e ∙ (at (is_uncut c) refl ∙ range_rule h c s b e v)
  where
    at : (k : Bool) → is_uncut c ≡ k → cond (is_uncut c) s (from_range h (range_in (base_of_head h) c) s) ≡ from_range h (range_in (base_of_head h) c) s
    at true u = ap (λ k. cond k s (from_range h (range_in (base_of_head h) c) s)) u ∙ uncut_same h c s b u v
    at false u = ap (λ k. cond k s (from_range h (range_in (base_of_head h) c) s)) u
