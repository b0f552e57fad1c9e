-- Items of a stream that are moved to a later time.
use Rattle.std.proofs.Common.{◌≡◌, ℕ, suc, ◌+◌, ◌*◌, ◌/◌, ◌<◌, ◌≤◌, ◌^◌, zero, min, ℤ, pos, negsuc, ◌+ℤ◌, ◌<ℤ◌, ◌≤ℤ◌, Bool, true, false, ◌||◌, cond, nat_lt}
use Rattle.std.proofs.Common.{length, refl, ap, sym, ◌∙◌, subst, arith, mul_comm}
use Rattle.std.specs.Prelude.{◌==◌}
use Rattle.std.proofs.lemmas.Bool.Decides.{nat_tests}
use Rattle.std.proofs.lemmas.Int.{ints}
use Rattle.ff_time.specs.Fraction.{IsBase}
use Rattle.ff_frame.specs.declared.head.StreamHead.{StreamHead}
use Rattle.ff_frame.specs.declared.head.StreamHead.TheVariants.{Audio as AudioHead, Video as VideoHead}
use Rattle.ff_frame.specs.Heads.{base_of_head}
use Rattle.ff_stream.specs.declared.item.Item.{Item}
use Rattle.ff_stream.specs.declared.item.Item.TheVariants.{Audio, Video, Packet, Trailer, End, Broken}
use Rattle.ff_stream.specs.declared.item.Lane.TheVariants.{Frames}
use Rattle.ff_stream.specs.Times.{HasTime, start_of, end_of, ticks}
use Rattle.ff_stream.specs.Lanes.{FitsFrames, StartsAfter, IsItemFor, Follows}
use Rattle.ff_stream.specs.Within.{passes_limits}
use Rattle.ff_concat.specs.Concats.{time_later, moved, later}

-- times ------------------------------------------------------------------------------------------------------------------

up_zero : (s : ℤ) (e : ℕ) → pos 0 ≤ℤ s → pos 0 ≤ℤ (s +ℤ pos e)
up_zero s e h = omega (arith, ints, h)

pub up_from : (s : ℤ) (e : ℕ) → pos 0 ≤ℤ s → pos e ≤ℤ (s +ℤ pos e)
up_from s e h = omega (arith, ints, h)

up_less : (s t : ℤ) (e : ℕ) → s <ℤ t → (s +ℤ pos e) <ℤ (t +ℤ pos e)
up_less s t e h = omega (arith, ints, h)

up_most : (s t : ℤ) (e : ℕ) → s ≤ℤ t → (s +ℤ pos e) ≤ℤ (t +ℤ pos e)
up_most s t e h = omega (arith, ints, h)

up_len : (s d : ℤ) (e : ℕ) → (s +ℤ pos e) +ℤ d ≡ (s +ℤ d) +ℤ pos e
up_len s d e = omega (arith, ints)

up_none : (s : ℤ) → s ≡ s +ℤ pos 0
up_none s = omega (arith, ints)

some_len : (s d : ℤ) → s <ℤ (s +ℤ d) → pos 0 ≤ℤ d
some_len s d h = omega (arith, ints, h)

pos_sum : (a b : ℕ) → pos a +ℤ pos b ≡ pos (a + b)
pos_sum a b = omega (arith, ints)

-- a time that is moved by less than the last one allows
time_so : (s d : ℤ) (e : ℕ) → pos 0 ≤ℤ s → pos 0 ≤ℤ d → ticks (time_later e s +ℤ d) ≤ 1000000000 * 2 ^ 31 → time_later e s ≡ s +ℤ pos e
time_so (pos n) (pos c) e h k le =
    let t : ticks (pos (min (n + e) 9223372036854775807) +ℤ pos c) ≡ min (n + e) 9223372036854775807 + c = ap ticks (pos_sum (min (n + e) 9223372036854775807) c) in
    let m : min (n + e) 9223372036854775807 ≡ n + e = omega (arith, le, t) in
    ap (λ (i : ℕ). pos i) m ∙ sym (pos_sum n e)
time_so (pos n) (negsuc c) e h k le = absurd (omega (arith, ints, k))
time_so (negsuc n) d e h k le = absurd (omega (arith, ints, h))

-- frames -----------------------------------------------------------------------------------------------------------------

abbrev len_of : Item → ℤ
len_of (Audio f) = pos (length f.samples / f.channels)
len_of (Video f) = f.duration
len_of (Packet p) = pos 0
len_of (Trailer t) = pos 0
len_of End = pos 0
len_of Broken = pos 0

abbrev pub IsFrame : Item → Type 0
IsFrame (Audio f) = Unit {0}
IsFrame (Video f) = Unit {0}
IsFrame (Packet p) = ⊥
IsFrame (Trailer t) = ⊥
IsFrame End = ⊥
IsFrame Broken = ⊥

pub frame_of : (h : StreamHead) (x : Item) → FitsFrames h x → IsFrame x
frame_of (AudioHead tb rate bits channels codec) (Audio f) i = tt
frame_of (AudioHead tb rate bits channels codec) (Video f) i = tt
frame_of (AudioHead tb rate bits channels codec) (Packet p) i = i
frame_of (AudioHead tb rate bits channels codec) (Trailer t) i = i
frame_of (AudioHead tb rate bits channels codec) End i = i
frame_of (AudioHead tb rate bits channels codec) Broken i = i
frame_of (VideoHead tb format width height num den) (Audio f) i = tt
frame_of (VideoHead tb format width height num den) (Video f) i = tt
frame_of (VideoHead tb format width height num den) (Packet p) i = i
frame_of (VideoHead tb format width height num den) (Trailer t) i = i
frame_of (VideoHead tb format width height num den) End i = i
frame_of (VideoHead tb format width height num den) Broken i = i

pub timed_so : (x : Item) → IsFrame x → HasTime x
timed_so (Audio f) i = tt
timed_so (Video f) i = tt
timed_so (Packet p) i = absurd i
timed_so (Trailer t) i = absurd i
timed_so End i = absurd i
timed_so Broken i = absurd i

end_len : (x : Item) → IsFrame x → end_of x ≡ start_of x +ℤ len_of x
end_len (Audio f) i = refl
end_len (Video f) i = refl
end_len (Packet p) i = absurd i
end_len (Trailer t) i = absurd i
end_len End i = absurd i
end_len Broken i = absurd i

fits_moved : (h : StreamHead) (e : ℕ) (x : Item) → FitsFrames h x → FitsFrames h (moved e x)
fits_moved (AudioHead tb rate bits channels codec) e (Audio f) i =
    record { rate_is = i.rate_is; bits_are = i.bits_are; channels_are = i.channels_are; audio = i.audio }
fits_moved (AudioHead tb rate bits channels codec) e (Video f) i = i
fits_moved (AudioHead tb rate bits channels codec) e (Packet p) i = i
fits_moved (AudioHead tb rate bits channels codec) e (Trailer t) i = i
fits_moved (AudioHead tb rate bits channels codec) e End i = i
fits_moved (AudioHead tb rate bits channels codec) e Broken i = i
fits_moved (VideoHead tb format width height num den) e (Audio f) i = i
fits_moved (VideoHead tb format width height num den) e (Video f) i =
    record { format_is = i.format_is; columns_are = i.columns_are; rows_are = i.rows_are; video = i.video }
fits_moved (VideoHead tb format width height num den) e (Packet p) i = i
fits_moved (VideoHead tb format width height num den) e (Trailer t) i = i
fits_moved (VideoHead tb format width height num den) e End i = i
fits_moved (VideoHead tb format width height num den) e Broken i = i

-- an item stands so many ticks later
pub record IsLater (e : ℕ) (x y : Item) : Type 0 where
  pub start : start_of y ≡ start_of x +ℤ pos e
  pub stop : end_of y ≡ end_of x +ℤ pos e

moved_so : (e : ℕ) (x : Item) → IsFrame x → pos 0 ≤ℤ start_of x → pos 0 ≤ℤ len_of x → ticks (end_of (moved e x)) ≤ 1000000000 * 2 ^ 31
    → IsLater e x (moved e x)
moved_so e (Audio f) i s d le =
    let t = time_so f.pts (pos (length f.samples / f.channels)) e s d le in
    record { start = t; stop = ap (λ (z : ℤ). z +ℤ pos (length f.samples / f.channels)) t ∙ up_len f.pts (pos (length f.samples / f.channels)) e }
moved_so e (Video f) i s d le =
    let t = time_so f.pts f.duration e s d le in
    record { start = t; stop = ap (λ (z : ℤ). z +ℤ f.duration) t ∙ up_len f.pts f.duration e }
moved_so e (Packet p) i s d le = absurd i
moved_so e (Trailer t) i s d le = absurd i
moved_so e End i s d le = absurd i
moved_so e Broken i s d le = absurd i

pub mul_up : (a b : ℕ) → 0 < b → a ≤ a * b
mul_up a zero h = absurd (omega (arith, h))
mul_up a (suc b) h = let e : suc b * a ≡ a + b * a = omega arith in let c : a * suc b ≡ suc b * a = mul_comm a (suc b) in omega (arith, e, c)

module _ (h : StreamHead) (base : IsBase (base_of_head h)) where
  abbrev passes : ℕ → Item → Bool
  passes = passes_limits (Frames h)

  -- what passes no limit ends early
  pub ends_early : (g : ℕ) (y : Item) → passes g y ≡ false → ticks (end_of y) ≤ 1000000000 * 2 ^ 31
  ends_early g y p =
      let num = (base_of_head h).num in
      let den = (base_of_head h).den in
      let some : 0 < num = base.num_positive in
      let small : den < 2 ^ 31 = base.den_small in
      let in_time : ticks (end_of y) * num ≤ 1000000000 * den = test (2 ^ 40) (g + 1) (1000000000 * den) (ticks (end_of y) * num) p in
      let up = mul_up (ticks (end_of y)) num some in
      omega (arith, in_time, up, small)
    where
      test : (a b c d : ℕ) → (nat_lt a b || nat_lt c d) ≡ false → d ≤ c
      test a b c d e = grind (arith, nat_tests)

  len_so : (x : Item) → IsItemFor (Frames h) x → pos 0 ≤ℤ len_of x
  len_so x i =
      let f = frame_of h x i.fits in
      some_len (start_of x) (len_of x) (subst (λ (z : ℤ). start_of x <ℤ z) (end_len x f) (i.lasts (timed_so x f)))

  pub later_so : (g e : ℕ) (x : Item) → IsItemFor (Frames h) x → passes g (later e x) ≡ false → IsLater e x (later e x)
  later_so g e x i p = at (e == 0) refl (ends_early g (later e x) p)
    where
      at : (b : Bool) → (e == 0) ≡ b → ticks (end_of (cond b x (moved e x))) ≤ 1000000000 * 2 ^ 31 → IsLater e x (cond b x (moved e x))
      at true z le = let n : e ≡ 0 = grind (arith, nat_tests, z) in
          subst (λ (k : ℕ). IsLater k x x) (sym n) (record { start = up_none (start_of x); stop = up_none (end_of x) })
      at false z le = moved_so e x (frame_of h x i.fits) i.not_negative (len_so x i) le

  pub fits_later : (e : ℕ) (x : Item) → FitsFrames h x → FitsFrames h (later e x)
  fits_later e x i = at (e == 0)
    where
      at : (b : Bool) → FitsFrames h (cond b x (moved e x))
      at true = i
      at false = fits_moved h e x i

  pub item_later : (e : ℕ) (x y : Item) → IsItemFor (Frames h) x → FitsFrames h y → IsLater e x y → IsItemFor (Frames h) y
  item_later e x y i f l = record {
    fits = f;
    not_negative = subst (λ (z : ℤ). pos 0 ≤ℤ z) (sym l.start) (up_zero (start_of x) e i.not_negative);
    lasts = λ t. subst (λ (z : ℤ). z <ℤ end_of y) (sym l.start) (subst (λ (z : ℤ). (start_of x +ℤ pos e) <ℤ z) (sym l.stop)
        (up_less (start_of x) (end_of x) e (i.lasts (timed_so x (frame_of h x i.fits)))));
  }

  apart_later : (k : StreamHead) (e : ℕ) (x y v w : Item) → IsLater e x v → IsLater e y w → StartsAfter k x y → StartsAfter k v w
  apart_later (AudioHead tb rate bits channels codec) e x y v w l m a = subst (λ (z : ℤ). z ≤ℤ start_of w) (sym l.stop)
      (subst (λ (z : ℤ). (end_of x +ℤ pos e) ≤ℤ z) (sym m.start) (up_most (end_of x) (start_of y) e a))
  apart_later (VideoHead tb format width height num den) e x y v w l m a = tt

  pub follows_later : (e : ℕ) (x y v w : Item) → HasTime y → HasTime v → IsLater e x v → IsLater e y w → Follows (Frames h) x y → Follows (Frames h) v w
  follows_later e x y v w t u l m o = record {
    timed = u;
    starts = λ k. subst (λ (z : ℤ). z <ℤ start_of w) (sym l.start)
        (subst (λ (z : ℤ). (start_of x +ℤ pos e) <ℤ z) (sym m.start) (up_less (start_of x) (start_of y) e (o.starts t)));
    ends = λ k. subst (λ (z : ℤ). z ≤ℤ end_of w) (sym l.stop)
        (subst (λ (z : ℤ). (end_of x +ℤ pos e) ≤ℤ z) (sym m.stop) (up_most (end_of x) (end_of y) e (o.ends t)));
    apart = λ k. apart_later h e x y v w l m (o.apart t);
  }
