-- Of valid streams a stack gives items in shape for its output.
use Rattle.std.specs.Prelude.{◌≡◌, ◌≢◌, ℕ, suc, ◌+◌, ◌-◌, ◌<◌, ◌≤◌, ℤ, pos, negsuc, ◌≤ℤ◌, Bool, true, false, ◌&&◌, nat_le, cond, if◌then◌else◌, Option, None, Some, List, [], ◌∷◌, ◌++◌, length, refl}
use Rattle.std.proofs.Common.{inl, inr, ap, sym, ◌∙◌, subst, arith}
use Rattle.std.proofs.lemmas.Bool.{and_parts}
use Rattle.std.proofs.lemmas.Int.{ints}
use Rattle.ff_frame.specs.Sizes.{is_side}
use Rattle.ff_frame.specs.declared.config.ConfigError.{ConfigError}
use Rattle.ff_frame.specs.declared.head.StreamHead.{StreamHead}
use Rattle.ff_frame.specs.declared.head.StreamHead.TheVariants.{Audio as AudioHead, Video as VideoHead}
use Rattle.ff_frame.specs.declared.video.VFrame.{VFrame}
use Rattle.ff_time.specs.Fraction.{Fraction}
use Rattle.ff_frame.specs.Heads.{base_of_head, IsPictureFor}
use Rattle.ff_frame.specs.Video.{IsVideo, frame_size}
use Rattle.ff_stream.specs.declared.item.Item.{Item}
use Rattle.ff_stream.specs.declared.item.Item.TheVariants.{Video}
use Rattle.ff_stream.specs.declared.item.Lane.TheVariants.{Frames}
use Rattle.ff_stream.specs.Times.{HasTime, end_of, ticks, with_base}
use Rattle.ff_stream.specs.Ports.{IsUnbroken}
use Rattle.ff_stream.specs.Stream.{Mark, still_open, whole, broken, is_broken}
use Rattle.ff_stream.specs.Lanes.{FitsFrames, StartsAfter, IsItemFor, Follows, AreInShape}
use Rattle.ff_filter.specs.Joins.{Flow, Ports}
use Rattle.ff_filter.specs.Options.{is_video}
use Rattle.ff_filter.specs.Shifts.{start_ticks}
use Rattle.ff_fsync.specs.Pictures.{timed}
use Rattle.ff_fsync.specs.Ranges.{list_to, any_to, none_from}
use Rattle.ff_fsync.specs.Sides.{frames_of, kept, shown_as}
use Rattle.ff_fsync.specs.Synced.{each_of, some_of, last_of, is_shown, pictures, horizon, synced, mark_by, is_complete, goes_on}
use Rattle.ff_fsync.specs.laws.SyncLaws.{ready_at}
use Rattle.ff_fsync.specs.declared.stacks.shape.Direction.{Direction}
use Rattle.ff_fsync.specs.declared.stacks.shape.Direction.TheVariants.{Beside, Below}
use Rattle.ff_fsync.specs.declared.stacks.shape.Shape.{Shape}
use Rattle.ff_fsync.specs.stacks.Bases.{all_told, units_on, in_common, has_common, base_or}
use Rattle.ff_fsync.specs.stacks.Heads.{are_alike, size_across, all_on_grid, has_size, total, with_length, stack_fault}
use Rattle.ff_fsync.specs.stacks.Shapes.{end_ticks, fits_stack, planes_by, stacked_planes, lasts, stacked, shape_of}
use Rattle.ff_fsync.specs.stacks.Stacks.{StackOf, stacked_of, stack_on, AreStreamsOf}
use Rattle.ff_fsync.proofs.StacksLemmas.Exact.{AreBased, AreTold, AreShaped, all_shaped, shape_based, common_there_is, common_fine, has_picture}
use Rattle.ff_fsync.proofs.StacksLemmas.Ordering.{list_shift, last_item, ends_later, events_each, events_order}
use Rattle.ff_fsync.proofs.StacksLemmas.Planning.{sized}
use Rattle.ff_fsync.proofs.StacksLemmas.Shaping.{OneEach, fits_valid, planes_long}

no_faults : (a b : Bool) (e f : ConfigError) → cond a (cond b None (Some e)) (Some f) ≡ None → (a ≡ true) × (b ≡ true)
no_faults true true e f h = (refl, refl)
no_faults true false e f h = cc
no_faults false b e f h = cc

video_like : (d : Direction) (h k : StreamHead) → are_alike d h k ≡ true → is_video k ≡ true
video_like d (AudioHead tb rate bits channels codec) k e = cc
video_like d (VideoHead tb format width height num den) (AudioHead tb' rate bits channels codec) e = cc
video_like d (VideoHead tb format width height num den) (VideoHead tb' format' width' height' num' den') e = refl

all_video : (d : Direction) (h : StreamHead) (ks : List StreamHead) → each_of (are_alike d h) ks ≡ true → each_of is_video ks ≡ true
all_video d h [] e = refl
all_video d h (k ∷ ks) e =
    let a = and_parts (are_alike d h k) (each_of (are_alike d h) ks) e in
    ap (λ b. b && each_of is_video ks) (video_like d h k a.0) ∙ all_video d h ks a.1

-- the last picture of a stream by a time at which it has begun
pub record IsPicked (h : StreamHead) (t : ℕ) (xs : List Item) (f : VFrame) : Type 0 where
  pub is : last_of (λ y. nat_le (start_ticks y) t) xs ≡ Video f ∷ []
  pub picture : IsPictureFor h f

picked : (h : StreamHead) (t : ℕ) (s : Flow) → is_video h ≡ true → AreInShape (Frames h) s.items → some_of (λ y. nat_le (start_ticks y) t) s.items ≡ true
    → (f : VFrame) × IsPicked h t s.items f
picked h t s e v b = elim (last_item (Frames h) t s.items v.each) as (λ _. (f : VFrame) × IsPicked h t s.items f) [
  | inl none ↦ (let c : true ≡ false = sym b ∙ none.0 in cc)
  | inr r ↦ (
      let one = has_picture h r.0 e r.1.item.fits in
      (one.0, record { is = r.1.is ∙ ap (λ (x : Item). x ∷ []) one.1; picture = one.2 }))
]

abbrev picks : ℕ → Ports → ℕ → List Item
picks t ss p = last_of (λ y. nat_le (start_ticks y) t) (ss p).items

frames_first : (n : ℕ) (t : ℕ) (ss : Ports) (f : VFrame) → picks t ss 0 ≡ Video f ∷ []
    → frames_of (list_to (suc n) (picks t ss)) ≡ f ∷ frames_of (list_to n (picks t (λ p. ss (suc p))))
frames_first n t ss f e = ap (λ (xs : List Item). frames_of xs) (list_shift n (picks t ss) ∙ ap (λ (xs : List Item). xs ++ list_to n (picks t (λ p. ss (suc p)))) e)

one_each : (hs : List StreamHead) (t : ℕ) (ss : Ports) → each_of is_video hs ≡ true → AreShaped hs ss
    → ((p : ℕ) → p < length hs → some_of (λ y. nat_le (start_ticks y) t) (ss p).items ≡ true) → OneEach hs (frames_of (list_to (length hs) (picks t ss)))
one_each [] t ss e v b = tt
one_each (h ∷ hs) t ss e v b =
    let a = and_parts (is_video h) (each_of is_video hs) e in
    let one = picked h t (ss 0) a.0 v.0 (b 0 (omega arith)) in
    subst (λ (fs : List VFrame). OneEach (h ∷ hs) fs) (sym (frames_first (length hs) t ss one.0 one.1.is))
    (one.1.picture, one_each hs t (λ p. ss (suc p)) a.1 v.1 (λ p lt. b (suc p) (omega (arith, lt))))

-- a picture of the stack fits its head
fits_head : (d : Direction) (n : ℕ) (h : StreamHead) (f : VFrame) → is_video h ≡ true → f.format ≡ (shape_of d (with_length d n h)).format
    → f.width ≡ (shape_of d (with_length d n h)).width → f.height ≡ (shape_of d (with_length d n h)).height → IsVideo f.format f.width f.height f.planes
    → FitsFrames (with_length d n h) (Video f)
fits_head d n (AudioHead tb rate bits channels codec) f e a b c v = cc
fits_head Beside n (VideoHead tb format width height num den) f e a b c v = record { format_is = a; columns_are = b; rows_are = c; video = v }
fits_head Below n (VideoHead tb format width height num den) f e a b c v = record { format_is = a; columns_are = b; rows_are = c; video = v }

apart_so : (d : Direction) (n : ℕ) (h : StreamHead) (x y : Item) → is_video h ≡ true → StartsAfter (with_length d n h) x y
apart_so d n (AudioHead tb rate bits channels codec) x y e = cc
apart_so Beside n (VideoHead tb format width height num den) x y e = tt
apart_so Below n (VideoHead tb format width height num den) x y e = tt

timed_so : (h : StreamHead) → is_video h ≡ true → (x : Item) → IsItemFor (Frames h) x → HasTime x
timed_so h e x i = let one = has_picture h x e i.fits in subst (λ (y : Item). HasTime y) (sym one.1) tt

ticks_so : (a b : ℤ) → a ≤ℤ b → ticks a ≤ ticks b
ticks_so (pos n) (pos m) le = omega (arith, ints)
ticks_so (pos n) (negsuc m) le = absurd (omega (arith, ints))
ticks_so (negsuc n) b le = omega arith

some_ticks : (t : ℕ) (fs : List VFrame) → 0 < lasts t fs
some_ticks t [] = omega arith
some_ticks t (f ∷ fs) = omega arith

ends_so : (t u : ℕ) (f g : VFrame) → t < u → end_ticks f ≤ end_ticks g → t + lasts t (f ∷ []) ≤ u + lasts u (g ∷ [])
ends_so t u f g lt le = omega (arith, lt, le)

planes_fit : (s : Shape) (fs : List VFrame) → fits_stack s fs ≡ true → length (stacked_planes s fs) ≡ frame_size s.format s.width s.height
planes_fit s fs e = ap (λ b. length (if b then planes_by s.direction s fs else [])) e ∙ planes_long s.direction s fs

-- what is shown at the times at which something is
module _ (d : Direction) (h : StreamHead) (hs : List StreamHead) (shortest : Bool) (ts : Ports) (alike : each_of (are_alike d h) (h ∷ hs) ≡ true)
    (size : has_size d h (h ∷ hs) ≡ true) (valid : AreShaped (h ∷ hs) ts) where
  videos : each_of is_video (h ∷ hs) ≡ true
  videos = all_video d h (h ∷ hs) alike

  video : is_video h ≡ true
  video = (and_parts (is_video h) (each_of is_video hs) videos).0

  on_grid : all_on_grid d (h ∷ hs) ≡ true
  on_grid = (and_parts (is_side (total d (h ∷ hs)) && is_side (size_across d h)) (all_on_grid d (h ∷ hs)) size).1

  begun : (t : ℕ) → is_shown (timed (length (h ∷ hs)) shortest) ts t ≡ true → (p : ℕ) → p < length (h ∷ hs)
      → some_of (λ y. nat_le (start_ticks y) t) (ts p).items ≡ true
  begun t e p lt = (ready_at (timed (length (h ∷ hs)) shortest) ts t e p lt).0

  each_fits : (t : ℕ) → is_shown (timed (length (h ∷ hs)) shortest) ts t ≡ true
      → fits_stack (shape_of d (with_length d (total d (h ∷ hs)) h)) (frames_of (pictures (timed (length (h ∷ hs)) shortest) ts t)) ≡ true
  each_fits t e = fits_valid d h hs _ alike on_grid (one_each (h ∷ hs) t ts videos valid (begun t e))

  each_item : (t : ℕ) → is_shown (timed (length (h ∷ hs)) shortest) ts t ≡ true
      → IsItemFor (Frames (with_length d (total d (h ∷ hs)) h))
      (shown_as (stacked (shape_of d (with_length d (total d (h ∷ hs)) h))) t (pictures (timed (length (h ∷ hs)) shortest) ts t))
  each_item t e =
      let fs = frames_of (pictures (timed (length (h ∷ hs)) shortest) ts t) in
      let s = shape_of d (with_length d (total d (h ∷ hs)) h) in
      let sides = sized d h (h ∷ hs) size in
      let long = some_ticks t fs in
      record {
        fits = fits_head d (total d (h ∷ hs)) h (stacked s t fs) video refl refl refl
            (record { columns = sides.0; rows = sides.1; samples = planes_fit s fs (each_fits t e) });
        not_negative = omega (arith, ints);
        lasts = λ timed. omega (arith, ints, long);
      }

  lasts_so : (t : ℕ) (f : VFrame) → picks t ts 0 ≡ Video f ∷ []
      → lasts t (frames_of (pictures (timed (length (h ∷ hs)) shortest) ts t)) ≡ lasts t (f ∷ [])
  lasts_so t f e = ap (λ (fs : List VFrame). lasts t fs) (frames_first (length hs) t ts f e)

  each_follows : (t u : ℕ) → t < u → is_shown (timed (length (h ∷ hs)) shortest) ts t ≡ true → is_shown (timed (length (h ∷ hs)) shortest) ts u ≡ true
      → Follows (Frames (with_length d (total d (h ∷ hs)) h))
      (shown_as (stacked (shape_of d (with_length d (total d (h ∷ hs)) h))) t (pictures (timed (length (h ∷ hs)) shortest) ts t))
      (shown_as (stacked (shape_of d (with_length d (total d (h ∷ hs)) h))) u (pictures (timed (length (h ∷ hs)) shortest) ts u))
  each_follows t u lt a b =
      let f = picked h t (ts 0) video valid.0 (begun t a 0 (omega arith)) in
      let g = picked h u (ts 0) video valid.0 (begun u b 0 (omega arith)) in
      let ends : end_of (Video f.0) ≤ℤ end_of (Video g.0) =
      ends_later (Frames h) (timed_so h video) t u (ts 0).items (Video f.0) (Video g.0) (omega (arith, lt)) valid.0.each valid.0.in_order f.1.is g.1.is in
      let first = lasts_so t f.0 f.1.is in
      let next = lasts_so u g.0 g.1.is in
      let so = ends_so t u f.0 g.0 lt (ticks_so (end_of (Video f.0)) (end_of (Video g.0)) ends) in
      record {
        timed = tt;
        starts = λ timed. omega (arith, ints, lt);
        ends = λ timed. omega (arith, ints, first, next, so);
        apart = λ timed. apart_so d (total d (h ∷ hs)) h _ _ video;
      }

  pub in_shape : AreInShape (Frames (with_length d (total d (h ∷ hs)) h))
      (synced (timed (length (h ∷ hs)) shortest) (shown_as (stacked (shape_of d (with_length d (total d (h ∷ hs)) h)))) ts).items
  in_shape =
      let k = timed (length (h ∷ hs)) shortest in
      let show : ℕ → Item = λ t. shown_as (stacked (shape_of d (with_length d (total d (h ∷ hs)) h))) t (pictures k ts t) in
      record {
        each = events_each (Frames (with_length d (total d (h ∷ hs)) h)) (is_shown k ts) show each_item each_follows 0 (horizon k ts - 0);
        in_order = events_order (Frames (with_length d (total d (h ∷ hs)) h)) (is_shown k ts) show each_item each_follows 0 (horizon k ts - 0);
      }

shape_as : (d e : Direction) (n : ℕ) (c : Fraction) (h : StreamHead) → shape_of e (with_length d n (with_base c h)) ≡ shape_of e (with_length d n h)
shape_as Beside e n c (AudioHead tb rate bits channels codec) = refl
shape_as Below e n c (AudioHead tb rate bits channels codec) = refl
shape_as Beside e n c (VideoHead tb format width height num den) = refl
shape_as Below e n c (VideoHead tb format width height num den) = refl

base_last : (d : Direction) (n : ℕ) (c : Fraction) (h : StreamHead) → with_base c (with_length d n h) ≡ with_length d n (with_base c h)
base_last Beside n c (AudioHead tb rate bits channels codec) = refl
base_last Below n c (AudioHead tb rate bits channels codec) = refl
base_last Beside n c (VideoHead tb format width height num den) = refl
base_last Below n c (VideoHead tb format width height num den) = refl

base_is : (d : Direction) (n : ℕ) (c : Fraction) (h : StreamHead) → base_of_head (with_length d n (with_base c h)) ≡ c
base_is Beside n c (AudioHead tb rate bits channels codec) = refl
base_is Below n c (AudioHead tb rate bits channels codec) = refl
base_is Beside n c (VideoHead tb format width height num den) = refl
base_is Below n c (VideoHead tb format width height num den) = refl

pub stacks_in_shape : (d : Direction) (h : StreamHead) (hs : List StreamHead) (shortest : Bool) (ss : Ports) → AreBased (h ∷ hs) → stack_fault d h (h ∷ hs) ≡ None → AreStreamsOf (h ∷ hs) ss
    → AreInShape (Frames (stack_on d h (h ∷ hs) shortest).head) (stacked_of (stack_on d h (h ∷ hs) shortest) ss).items
stacks_in_shape d h hs shortest ss based none valid =
    let a = no_faults (has_common (h ∷ hs) && each_of (are_alike d h) (h ∷ hs)) (has_size d h (h ∷ hs)) _ _ none in
    let b = and_parts (has_common (h ∷ hs)) (each_of (are_alike d h) (h ∷ hs)) a.0 in
    let n = total d (h ∷ hs) in
    let common = common_there_is (h ∷ hs) b.0 in
    let c : Fraction = common.0 in
    let out : StreamHead = with_length d n (with_base c h) in
    let head : with_length d n (in_common (h ∷ hs) h) ≡ out = ap (λ (o : Option Fraction). with_length d n (with_base (base_or (base_of_head h) o) h)) common.1 in
    let stacked_by : StreamHead → Flow = λ k. stacked_of (record { direction = d; heads = h ∷ hs; shortest = shortest; head = k }) ss in
    let fine = common_fine (h ∷ hs) c based common.2 in
    let shaped : AreShaped (h ∷ hs) (λ p. kept 0 (all_told (units_on (h ∷ hs) out) ss p)) =
    all_shaped (h ∷ hs) out ss (all_video d h (h ∷ hs) b.1) (subst (λ (x : Fraction). AreTold (h ∷ hs) x) (sym (base_is d n c h)) fine) valid in
    let ts : Ports = λ p. kept 0 (all_told (units_on (h ∷ hs) out) ss p) in
    let first = in_shape d h hs shortest ts b.1 a.1 shaped in
    let reshaped = shape_based c (with_length d n h) _ first in
    let k = timed (length (h ∷ hs)) shortest in
    let all : AreInShape (Frames out) (synced k (shown_as (stacked (shape_of d out))) ts).items =
    subst (λ (s : Shape). AreInShape (Frames out) (synced k (shown_as (stacked s)) ts).items) (sym (shape_as d d n c h))
    (subst (λ (x : StreamHead). AreInShape (Frames x) (synced k (shown_as (stacked (shape_of d (with_length d n h)))) ts).items) (base_last d n c h) reshaped) in
    subst (λ (x : StreamHead). AreInShape (Frames x) (stacked_by x).items) (sym head) all

not_lost : (w l g : Bool) → l ≡ false → mark_by w l g ≢ broken
not_lost true l g e = λ b. cc
not_lost false true g e = cc
not_lost false false g e = λ b. cc

unbroken_so : (m : Mark) → m ≢ broken → is_broken m ≡ false
unbroken_so still_open n = refl
unbroken_so whole n = refl
unbroken_so broken n = absurd (n refl)

pub stacks_unbroken : (m : StackOf) (ss : Ports) → ((p : ℕ) → IsUnbroken (ss p)) → IsUnbroken (stacked_of m ss)
stacks_unbroken m ss all =
    let k = timed (length m.heads) m.shortest in
    let ts : Ports = λ p. kept 0 (all_told (units_on m.heads m.head) ss p) in
    not_lost (is_complete k ts) (any_to k.inputs (λ p. is_broken (ts p).mark)) (goes_on k ts)
    (none_from k.inputs (λ p. is_broken (ts p).mark) (λ p lt. unbroken_so (ss p).mark (all p)))
