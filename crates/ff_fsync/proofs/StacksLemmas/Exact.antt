-- Valid streams keep their shape in units of a common base, and each of their times is told exactly.
use Rattle.std.specs.Prelude.{◌≡◌, ℕ, zero, suc, ◌*◌, ◌-◌, ◌<◌, ◌≤◌, ◌⊎◌, ℤ, pos, negsuc, ◌<ℤ◌, ◌≤ℤ◌, ◌+ℤ◌, Bool, true, false, nat_eq, cond, is_some, Option, None, Some, All, List, [], ◌∷◌, map, refl}
use Rattle.std.proofs.Common.{inl, inr, ap, sym, ◌∙◌, subst, arith}
use Rattle.std.proofs.lemmas.Bool.{and_parts, eqb-true, cases_order}
use Rattle.std.proofs.lemmas.Int.{ints}
use Rattle.std.proofs.lemmas.List.Elements.{All-nil, All-cons, All-head, All-tail}
use Rattle.std.proofs.lemmas.Nat.Gcd.{dvd_trans, le_of_dvd}
use Rattle.std.proofs.Math.Nat.{mul_assoc, mul_right_comm, mul-one, mul-pos, mul-le-mul_right, le_of_mul-le-mul_right, mul-lt-mul_of_pos_right, le-mul_of_pos_right, pos_of_dvd_of_pos, eq-one_of_dvd-one, dvd-mul_left_of_dvd, dvd-mul_right}
use Rattle.std.specs.Int.{◌∣◌}
use Rattle.ff_time.specs.Fraction.{Fraction, IsBase}
use Rattle.ff_time.specs.Common.{IsCommonOf, IsUnits, units_of, nums, dens}
use Rattle.ff_time.proofs.CommonBases.{all_whole, common_once, one_is_base}
use Rattle.ff_time.proofs.Multiples.{divides_other, exceed_from_lcm}
use Rattle.ff_frame.specs.declared.head.StreamHead.{StreamHead}
use Rattle.ff_frame.specs.declared.head.StreamHead.TheVariants.{Audio as AudioHead, Video as VideoHead}
use Rattle.ff_frame.specs.declared.video.VFrame.{VFrame}
use Rattle.ff_frame.specs.Heads.{base_of_head, IsPictureOf, IsPictureFor}
use Rattle.ff_stream.specs.declared.item.Item.{Item}
use Rattle.ff_stream.specs.declared.item.Item.TheVariants.{Audio, Video, Packet, Trailer, End, Broken}
use Rattle.ff_stream.specs.declared.item.Lane.TheVariants.{Frames}
use Rattle.ff_stream.specs.Times.{HasTime, start_of, end_of, ticks, IsInTime, with_base}
use Rattle.ff_stream.specs.Lanes.{FitsFrames, StartsAfter, IsItemFor, Follows, InOrder, AreInShape, EndsInTime, IsValid}
use Rattle.ff_filter.specs.Joins.{Flow, Ports}
use Rattle.ff_filter.specs.Options.{is_video}
use Rattle.ff_fsync.specs.Sides.{kept}
use Rattle.ff_fsync.specs.Synced.{each_of}
use Rattle.ff_fsync.specs.stacks.CommonBases.{common_of}
use Rattle.ff_fsync.proofs.StacksLemmas.Bases.{all_one, common_of_is}
use Rattle.ff_fsync.specs.stacks.Bases.{bases_of, base_or, has_common, start_in, end_in, frame_in, item_in, told_in, units_on, all_told, IsExact}
use Rattle.ff_fsync.specs.stacks.Stacks.{AreStreamsOf}
use Rattle.ff_fsync.proofs.StacksLemmas.Keeping.{shape_kept}

-- the bases of heads are bases
abbrev pub AreBased : List StreamHead → Type 0
AreBased heads = All IsBase (bases_of heads)

-- ---- the common base of bases is one

product : List ℕ → ℕ
product [] = 1
product (x ∷ xs) = x * product xs

-- an item of a stream of video is a frame
pub has_picture : (h : StreamHead) (x : Item) → is_video h ≡ true → FitsFrames h x → (f : VFrame) × (x ≡ Video f) × IsPictureFor h f
has_picture (AudioHead tb rate bits channels codec) x e p = cc
has_picture (VideoHead tb format width height num den) (Audio f) e p = absurd p
has_picture (VideoHead tb format width height num den) (Video f) e p = (f, refl, p)
has_picture (VideoHead tb format width height num den) (Packet f) e p = absurd p
has_picture (VideoHead tb format width height num den) (Trailer f) e p = absurd p
has_picture (VideoHead tb format width height num den) End e p = absurd p
has_picture (VideoHead tb format width height num den) Broken e p = absurd p

each_divides : (xs : List ℕ) (k : ℕ) → All (λ x. x ∣ k * product xs) xs
unfolding product
each_divides [] k = All-nil (λ x. x ∣ k * 1)
each_divides (x ∷ xs) k =
    let N : ℕ = k * (x * product xs) in
    let first : x ∣ N = dvd-mul_left_of_dvd x (dvd-mul_right x (product xs)) k in
    let others : All (λ y. y ∣ N) xs = subst (λ n. All (λ y. y ∣ n) xs) (mul_assoc k x (product xs)) (each_divides xs (k * x)) in
    All-cons (λ y. y ∣ N) x xs first others

apart_from_all : (g : ℕ) (bs : List Fraction) → All IsBase bs → All (λ n. g ∣ n) (nums bs) → (k : ℕ) → k ∣ g → k ∣ product (dens bs) → k ≡ 1
unfolding product
apart_from_all g [] are all k p q = eq-one_of_dvd-one q
apart_from_all g (b ∷ bs) are all k p q =
    let first : g ∣ b.num = All-head (λ n. g ∣ n) b.num (nums bs) all in
    let lowest = (All-head IsBase b bs are).lowest in
    let more : k ∣ product (dens bs) = divides_other k b.den (product (dens bs)) (λ d u v. lowest d (dvd_trans d (dvd_trans d u p) first) v) q in
    apart_from_all g bs (All-tail IsBase b bs are) (All-tail (λ n. g ∣ n) b.num (nums bs) all) k p more

product_some : (bs : List Fraction) → All IsBase bs → 0 < product (dens bs)
unfolding product
product_some [] are = omega arith
product_some (b ∷ bs) are = mul-pos (All-head IsBase b bs are).den_positive (product_some bs (All-tail IsBase b bs are))

one_times : (n : ℕ) → 1 * n ≡ n
one_times n = omega arith

small_or_one : (b : Fraction) (bs : List Fraction) (c : Fraction) → IsCommonOf (b ∷ bs) (Some c) → (c ≡ b) ⊎ (c.den ≤ 1000000)
small_or_one b bs c is = elim (all_one b (b ∷ bs)) as (λ _. (c ≡ b) ⊎ (c.den ≤ 1000000)) [
  | inl all ↦ (
      let same : Some c ≡ Some b = common_once (b ∷ bs) (Some c) (Some b) is (one_is_base b (b ∷ bs) (omega arith) all) in
      inl (cc (same)))
  | inr differs ↦ elim (cases_order c.den 1000000) as (λ _. (c ≡ b) ⊎ (c.den ≤ 1000000)) [
    | inl e ↦ inr (omega (arith, e))
    | inr (inl l) ↦ inr (omega (arith, l))
    | inr (inr m) ↦ absurd (is.1 record {
      differ = λ one all. differs (subst (λ (x : Fraction). All (λ y. y ≡ x) (b ∷ bs)) (sym (All-head (λ y. y ≡ one) b bs all)) all);
      exceed = exceed_from_lcm (dens (b ∷ bs)) c.den is.0.den m;
    })
  ]
]

-- the common base of time bases is one
pub common_based : (b : Fraction) (bs : List Fraction) (c : Fraction) → All IsBase (b ∷ bs) → IsCommonOf (b ∷ bs) (Some c) → IsBase c
common_based b bs c are is = elim (small_or_one b bs c is) as (λ _. IsBase c) [
  | inl e ↦ subst IsBase (sym e) first
  | inr small ↦ (
      let multiple : c.den ∣ product (dens (b ∷ bs)) =
      is.0.den.least (product (dens (b ∷ bs))) (subst (λ n. All (λ x. x ∣ n) (dens (b ∷ bs))) (one_times (product (dens (b ∷ bs)))) (each_divides (dens (b ∷ bs)) 1)) in
      let divides : c.num ∣ b.num = All-head (λ n. c.num ∣ n) b.num (nums bs) is.0.num.divides in
      let le = le_of_dvd first.num_positive divides in
      let top = first.num_small in
      record {
        num_positive = pos_of_dvd_of_pos divides first.num_positive;
        num_small = omega (arith, le, top);
        den_positive = pos_of_dvd_of_pos multiple (product_some (b ∷ bs) are);
        den_small = omega (arith, small);
        lowest = λ k p q. apart_from_all c.num (b ∷ bs) are is.0.num.divides k p (dvd_trans k q multiple);
      })
]
  where
    first : IsBase b
    first = All-head IsBase b bs are

-- so is the base of the first of several heads in common
pub in_common_based : (h : StreamHead) (hs : List StreamHead) → AreBased (h ∷ hs) → IsBase (base_or (base_of_head h) (common_of (bases_of (h ∷ hs))))
in_common_based h hs are = at (common_of (bases_of (h ∷ hs))) (common_of_is (bases_of (h ∷ hs)))
  where
    at : (o : Option Fraction) → IsCommonOf (bases_of (h ∷ hs)) o → IsBase (base_or (base_of_head h) o)
    at None is = All-head IsBase (base_of_head h) (bases_of hs) are
    at (Some c) is = common_based (base_of_head h) (bases_of hs) c are is

-- ---- units

-- in units of this base each of these heads' times is told exactly
pub record IsTold (h : StreamHead) (c : Fraction) : Type 0 where
  pub base : IsBase (base_of_head h)
  pub common : IsBase c
  pub units : IsUnits (units_of (base_of_head h) c) (base_of_head h) c

abbrev pub AreTold : List StreamHead → Fraction → Type 0
AreTold heads c = All (λ h. IsTold h c) heads

pub common_there_is : (heads : List StreamHead) → has_common heads ≡ true → (c : Fraction) × (common_of (bases_of heads) ≡ Some c) × IsCommonOf (bases_of heads) (Some c)
common_there_is heads e = at (common_of (bases_of heads)) refl e (common_of_is (bases_of heads))
  where
    at : (o : Option Fraction) → common_of (bases_of heads) ≡ o → is_some o ≡ true → IsCommonOf (bases_of heads) o
        → (c : Fraction) × (common_of (bases_of heads) ≡ Some c) × IsCommonOf (bases_of heads) (Some c)
    at None s t is = cc
    at (Some c) s t is = (c, s, is)

pub common_fine : (heads : List StreamHead) (c : Fraction) → AreBased heads → IsCommonOf (bases_of heads) (Some c) → AreTold heads c
common_fine [] c based is = All-nil (λ h. IsTold h c)
common_fine (h ∷ hs) c based is =
    let base = common_based (base_of_head h) (bases_of hs) c based is in
    each base (h ∷ hs) based (all_whole (bases_of (h ∷ hs)) c base.num_positive based is.0)
  where
    each : IsBase c → (ks : List StreamHead) → All IsBase (bases_of ks) → All (λ b. IsUnits (units_of b c) b c) (bases_of ks) → All (λ k. IsTold k c) ks
    each base [] are units = All-nil (λ k. IsTold k c)
    each base (k ∷ ks) are units = All-cons (λ j. IsTold j c) k ks
        record {
          base = All-head IsBase (base_of_head k) (bases_of ks) are;
          common = base;
          units = All-head (λ b. IsUnits (units_of b c) b c) (base_of_head k) (bases_of ks) units;
        }
        (each base ks (All-tail IsBase (base_of_head k) (bases_of ks) are) (All-tail (λ b. IsUnits (units_of b c) b c) (base_of_head k) (bases_of ks) units))

units_some : (n : ℕ) (b c : Fraction) → IsBase b → IsBase c → IsUnits n b c → 0 < n
units_some zero b c is common u = (let some : 0 < b.num * c.den = mul-pos is.num_positive common.den_positive in absurd (omega (arith, some, u)))
units_some (suc n) b c is common u = omega arith

by_common : (e bn cd : ℕ) → e * bn * cd ≡ e * (bn * cd)
by_common e bn cd = mul_assoc e bn cd

told_as : (e n cn bd : ℕ) → e * (n * (cn * bd)) ≡ e * n * cn * bd
told_as e n cn bd = sym (mul_assoc e n (cn * bd)) ∙ sym (mul_assoc (e * n) cn bd)

limit_as : (bd cd : ℕ) → 1000000000 * bd * cd ≡ 1000000000 * cd * bd
limit_as bd cd = mul_right_comm 1000000000 bd cd

-- a time within the limits is told in 63 bits
short_enough : (e n : ℕ) (b c : Fraction) → IsBase b → IsBase c → IsUnits n b c → IsInTime b e → e * n ≤ 9223372036854775806
short_enough e n b c is common u in_time =
    let times : e * b.num * c.den ≤ 1000000000 * b.den * c.den = mul-le-mul_right c.den in_time in
    let left : e * b.num * c.den ≡ e * n * c.num * b.den = by_common e b.num c.den ∙ (ap (λ x. e * x) u ∙ told_as e n c.num b.den) in
    let right : 1000000000 * b.den * c.den ≡ 1000000000 * c.den * b.den = limit_as b.den c.den in
    let both : e * n * c.num * b.den ≤ 1000000000 * c.den * b.den = subst (λ x. x ≤ 1000000000 * c.den * b.den) left (subst (λ y. e * b.num * c.den ≤ y) right times) in
    let by : e * n * c.num ≤ 1000000000 * c.den = le_of_mul-le-mul_right both is.den_positive in
    let more : e * n ≤ e * n * c.num = le-mul_of_pos_right (e * n) common.num_positive in
    let top : c.den < 2147483648 = common.den_small in
    omega (arith, by, more, top)

-- ---- the times of a frame

at_start : (z : ℤ) → pos 0 ≤ℤ z → z ≡ pos (ticks z)
at_start (pos n) le = refl
at_start (negsuc n) le = absurd (omega (arith, ints, le))

ticks_less : (a b : ℤ) → pos 0 ≤ℤ a → a <ℤ b → ticks a < ticks b
ticks_less (pos n) (pos m) z lt = omega (arith, ints, lt)
ticks_less (pos n) (negsuc m) z lt = absurd (omega (arith, ints, lt))
ticks_less (negsuc n) b z lt = absurd (omega (arith, ints, z))

ticks_most : (a b : ℤ) → a ≤ℤ b → ticks a ≤ ticks b
ticks_most (pos n) (pos m) le = omega (arith, ints, le)
ticks_most (pos n) (negsuc m) le = absurd (omega (arith, ints, le))
ticks_most (negsuc n) b le = omega arith

frame_exact : (n : ℕ) (f : VFrame) → 0 < n → pos 0 ≤ℤ f.pts → f.pts <ℤ (f.pts +ℤ f.duration) → ticks (f.pts +ℤ f.duration) * n ≤ 9223372036854775806 → IsExact n (Video f)
frame_exact n f some first lasts fits = (let r = at (nat_eq n 1) refl in record { starts = r.0; ends = r.1 })
  where
    less : ticks f.pts < ticks (f.pts +ℤ f.duration)
    less = ticks_less f.pts (f.pts +ℤ f.duration) first lasts

    after : pos 0 ≤ℤ (f.pts +ℤ f.duration)
    after = omega (arith, ints, first, lasts)

    scaled : ticks f.pts * n < ticks (f.pts +ℤ f.duration) * n
    scaled = mul-lt-mul_of_pos_right less some

    start_is : start_in n f ≡ ticks f.pts * n
    start_is = (let l = scaled in let m = fits in omega (arith, l, m))

    end_is : end_in n f ≡ ticks (f.pts +ℤ f.duration) * n
    end_is = (let m = fits in omega (arith, m))

    at : (b : Bool) → nat_eq n 1 ≡ b
        → (let g : VFrame = cond b f (record f { pts = pos (start_in n f); duration = pos (end_in n f - start_in n f) }) in
        (g.pts ≡ pos (ticks f.pts * n)) × (g.pts +ℤ g.duration ≡ pos (ticks (f.pts +ℤ f.duration) * n)))
    at true s =
        let one : n ≡ 1 = eqb-true n 1 s in
        let times : (z : ℕ) → pos z ≡ pos (z * n) = λ z. ap pos (sym (mul-one z) ∙ ap (λ k. z * k) (sym one)) in
        (at_start f.pts first ∙ times (ticks f.pts), at_start (f.pts +ℤ f.duration) after ∙ times (ticks (f.pts +ℤ f.duration)))
    at false s =
        let l : start_in n f ≤ end_in n f = (let p = scaled in let q = start_is in let r = end_is in omega (arith, p, q, r)) in
        (ap pos start_is, sum (start_in n f) (end_in n f) l ∙ ap pos end_is)
      where
        sum : (x y : ℕ) → x ≤ y → pos x +ℤ pos (y - x) ≡ pos y
        sum x y le = omega (arith, ints, le)

-- an item of a valid stream
item_exact : (n : ℕ) (h : StreamHead) (c : Fraction) (x : Item) → is_video h ≡ true → IsTold h c → units_of (base_of_head h) c ≡ n
    → IsItemFor (Frames h) x → EndsInTime (Frames h) x → IsExact n x
item_exact n h c x video told is i in_time =
    let one = has_picture h x video i.fits in
    let f : VFrame = one.0 in
    let u : IsUnits n (base_of_head h) c = subst (λ m. IsUnits m (base_of_head h) c) is told.units in
    let first : pos 0 ≤ℤ f.pts = subst (λ (y : Item). pos 0 ≤ℤ start_of y) one.1 i.not_negative in
    let lasts : f.pts <ℤ (f.pts +ℤ f.duration) = (subst (λ (y : Item). HasTime y → start_of y <ℤ end_of y) one.1 i.lasts) tt in
    let short = short_enough (ticks (f.pts +ℤ f.duration)) n (base_of_head h) c told.base told.common u (subst (λ (y : Item). IsInTime (base_of_head h) (ticks (end_of y))) one.1 in_time) in
    subst (λ (y : Item). IsExact n y) (sym one.1) (frame_exact n f (units_some n (base_of_head h) c told.base told.common u) first lasts short)

picture_as : (format : _) (width height n : ℕ) (f : VFrame) → IsPictureOf format width height f → IsPictureOf format width height (frame_in n f)
picture_as format width height n f p = at (nat_eq n 1)
  where
    at : (b : Bool) → IsPictureOf format width height (cond b f (record f { pts = pos (start_in n f); duration = pos (end_in n f - start_in n f) }))
    at true = p
    at false = record { format_is = p.format_is; columns_are = p.columns_are; rows_are = p.rows_are; video = p.video }

fits_as : (n : ℕ) (h : StreamHead) (x : Item) → is_video h ≡ true → FitsFrames h x → FitsFrames h (item_in n x)
fits_as n (AudioHead tb rate bits channels codec) x e p = cc
fits_as n (VideoHead tb format width height num den) (Audio f) e p = absurd p
fits_as n (VideoHead tb format width height num den) (Video f) e p = picture_as format width height n f p
fits_as n (VideoHead tb format width height num den) (Packet f) e p = absurd p
fits_as n (VideoHead tb format width height num den) (Trailer f) e p = absurd p
fits_as n (VideoHead tb format width height num den) End e p = absurd p
fits_as n (VideoHead tb format width height num den) Broken e p = absurd p

apart_as : (h : StreamHead) (x y : Item) → is_video h ≡ true → StartsAfter h x y
apart_as (AudioHead tb rate bits channels codec) x y e = cc
apart_as (VideoHead tb format width height num den) x y e = tt

time_as : (h : StreamHead) (x : Item) → is_video h ≡ true → IsItemFor (Frames h) x → HasTime x
time_as h x e i = let one = has_picture h x e i.fits in subst (λ (y : Item). HasTime y) (sym one.1) tt

module _ (n : ℕ) (h : StreamHead) (c : Fraction) (video : is_video h ≡ true) (told : IsTold h c) (is : units_of (base_of_head h) c ≡ n) where
  some : 0 < n
  some = units_some n (base_of_head h) c told.base told.common (subst (λ m. IsUnits m (base_of_head h) c) is told.units)

  item_as : (x : Item) → IsItemFor (Frames h) x → EndsInTime (Frames h) x → IsItemFor (Frames h) (item_in n x)
  item_as x i in_time =
      let exact = item_exact n h c x video told is i in_time in
      let less : ticks (start_of x) < ticks (end_of x) = ticks_less (start_of x) (end_of x) i.not_negative (i.lasts (time_as h x video i)) in
      let times : ticks (start_of x) * n < ticks (end_of x) * n = mul-lt-mul_of_pos_right less some in
      let a = exact.starts in
      let b = exact.ends in
      record {
        fits = fits_as n h x video i.fits;
        not_negative = omega (arith, ints, a);
        lasts = λ timed. omega (arith, ints, a, b, times);
      }

  follows_as : (x y : Item) → IsItemFor (Frames h) x → EndsInTime (Frames h) x → IsItemFor (Frames h) y → EndsInTime (Frames h) y → Follows (Frames h) x y
      → Follows (Frames h) (item_in n x) (item_in n y)
  follows_as x y i p j q w =
      let timed = time_as h y video j in
      let u = item_exact n h c x video told is i p in
      let v = item_exact n h c y video told is j q in
      let starts : ticks (start_of x) * n < ticks (start_of y) * n = mul-lt-mul_of_pos_right (ticks_less (start_of x) (start_of y) i.not_negative (w.starts timed)) some in
      let ends : ticks (end_of x) * n ≤ ticks (end_of y) * n = mul-le-mul_right n (ticks_most (end_of x) (end_of y) (w.ends timed)) in
      let a = u.starts in
      let b = u.ends in
      let d = v.starts in
      let e = v.ends in
      record {
        timed = time_as h (item_in n x) video (item_as x i p);
        starts = λ t. omega (arith, ints, a, d, starts);
        ends = λ t. omega (arith, ints, b, e, ends);
        apart = λ t. apart_as h (item_in n x) (item_in n y) video;
      }

  items_as : (xs : List Item) → All (IsItemFor (Frames h)) xs → All (EndsInTime (Frames h)) xs → All (IsItemFor (Frames h)) (map (item_in n) xs)
  items_as [] a p = All-nil (IsItemFor (Frames h))
  items_as (x ∷ xs) a p = All-cons (IsItemFor (Frames h)) (item_in n x) (map (item_in n) xs)
      (item_as x (All-head (IsItemFor (Frames h)) x xs a) (All-head (EndsInTime (Frames h)) x xs p))
      (items_as xs (All-tail (IsItemFor (Frames h)) x xs a) (All-tail (EndsInTime (Frames h)) x xs p))

  order_as : (xs : List Item) → All (IsItemFor (Frames h)) xs → All (EndsInTime (Frames h)) xs → InOrder (Frames h) xs → InOrder (Frames h) (map (item_in n) xs)
  order_as [] a p o = tt
  order_as (x ∷ []) a p o = tt
  order_as (x ∷ y ∷ xs) a p o =
      let a' = All-tail (IsItemFor (Frames h)) x (y ∷ xs) a in
      let p' = All-tail (EndsInTime (Frames h)) x (y ∷ xs) p in (
        follows_as x y (All-head (IsItemFor (Frames h)) x (y ∷ xs) a) (All-head (EndsInTime (Frames h)) x (y ∷ xs) p)
            (All-head (IsItemFor (Frames h)) y xs a') (All-head (EndsInTime (Frames h)) y xs p') o.0,
        order_as (y ∷ xs) a' p' o.1,
      )

  told_shape : (s : Flow) → IsValid (Frames h) s → AreInShape (Frames h) (told_in n s).items
  told_shape s v = record { each = items_as s.items v.shape.each v.in_time; in_order = order_as s.items v.shape.each v.in_time v.shape.in_order }

head_kept : (h : StreamHead) (s : Flow) → is_video h ≡ true → AreInShape (Frames h) s.items → AreInShape (Frames h) (kept 0 s).items
head_kept (AudioHead tb rate bits channels codec) s e v = cc
head_kept (VideoHead tb format width height num den) s e v =
    subst (λ (r : Flow). AreInShape (Frames (VideoHead tb format width height num den)) r.items) (sym (shape_kept tb format width height num den s v)) v

-- each is in shape for its head, whatever its base
abbrev pub AreShaped : List StreamHead → Ports → Type 0
AreShaped [] ss = Unit {0}
AreShaped (h ∷ hs) ss = AreInShape (Frames h) (ss 0).items × AreShaped hs (λ p. ss (suc p))

-- told in the units of a common base, valid streams are in shape, and none of their frames is let go
pub all_shaped : (hs : List StreamHead) (out : StreamHead) (ss : Ports) → each_of is_video hs ≡ true → AreTold hs (base_of_head out) → AreStreamsOf hs ss
    → AreShaped hs (λ p. kept 0 (all_told (units_on hs out) ss p))
all_shaped [] out ss e told v = tt
all_shaped (h ∷ hs) out ss e told v =
    let a = and_parts (is_video h) (each_of is_video hs) e in
    let n = units_of (base_of_head h) (base_of_head out) in (
      head_kept h (told_in n (ss 0)) a.0 (told_shape n h (base_of_head out) a.0 (All-head (λ k. IsTold k (base_of_head out)) h hs told) refl (ss 0) v.0),
      all_shaped hs out (λ p. ss (suc p)) a.1 (All-tail (λ k. IsTold k (base_of_head out)) h hs told) v.1,
    )

-- a shape doesn't hang on the base
pub shape_based : (c : Fraction) (k : StreamHead) (xs : List Item) → AreInShape (Frames k) xs → AreInShape (Frames (with_base c k)) xs
shape_based c (AudioHead tb rate bits channels codec) xs v = record { each = items xs v.each; in_order = order xs v.in_order }
  where
    items : (ys : List Item) → All (IsItemFor (Frames (AudioHead tb rate bits channels codec))) ys → All (IsItemFor (Frames (AudioHead c rate bits channels codec))) ys
    items [] a = All-nil (IsItemFor (Frames (AudioHead c rate bits channels codec)))
    items (y ∷ ys) a =
        let i = All-head (IsItemFor (Frames (AudioHead tb rate bits channels codec))) y ys a in
        All-cons (IsItemFor (Frames (AudioHead c rate bits channels codec))) y ys record { fits = i.fits; not_negative = i.not_negative; lasts = i.lasts }
        (items ys (All-tail (IsItemFor (Frames (AudioHead tb rate bits channels codec))) y ys a))

    order : (ys : List Item) → InOrder (Frames (AudioHead tb rate bits channels codec)) ys → InOrder (Frames (AudioHead c rate bits channels codec)) ys
    order [] o = tt
    order (y ∷ []) o = tt
    order (y ∷ z ∷ ys) o = (record { timed = o.0.timed; starts = o.0.starts; ends = o.0.ends; apart = o.0.apart }, order (z ∷ ys) o.1)
shape_based c (VideoHead tb format width height num den) xs v = record { each = items xs v.each; in_order = order xs v.in_order }
  where
    items : (ys : List Item) → All (IsItemFor (Frames (VideoHead tb format width height num den))) ys → All (IsItemFor (Frames (VideoHead c format width height num den))) ys
    items [] a = All-nil (IsItemFor (Frames (VideoHead c format width height num den)))
    items (y ∷ ys) a =
        let i = All-head (IsItemFor (Frames (VideoHead tb format width height num den))) y ys a in
        All-cons (IsItemFor (Frames (VideoHead c format width height num den))) y ys record { fits = i.fits; not_negative = i.not_negative; lasts = i.lasts }
        (items ys (All-tail (IsItemFor (Frames (VideoHead tb format width height num den))) y ys a))

    order : (ys : List Item) → InOrder (Frames (VideoHead tb format width height num den)) ys → InOrder (Frames (VideoHead c format width height num den)) ys
    order [] o = tt
    order (y ∷ []) o = tt
    order (y ∷ z ∷ ys) o = (record { timed = o.0.timed; starts = o.0.starts; ends = o.0.ends; apart = o.0.apart }, order (z ∷ ys) o.1)

items_exact : (n : ℕ) (h : StreamHead) (c : Fraction) (xs : List Item) → is_video h ≡ true → IsTold h c → units_of (base_of_head h) c ≡ n
    → All (IsItemFor (Frames h)) xs → All (EndsInTime (Frames h)) xs → All (IsExact n) xs
items_exact n h c [] video told is a p = All-nil (IsExact n)
items_exact n h c (x ∷ xs) video told is a p = All-cons (IsExact n) x xs
    (item_exact n h c x video told is (All-head (IsItemFor (Frames h)) x xs a) (All-head (EndsInTime (Frames h)) x xs p))
    (items_exact n h c xs video told is (All-tail (IsItemFor (Frames h)) x xs a) (All-tail (EndsInTime (Frames h)) x xs p))

pub stream_exact : (h : StreamHead) (c : Fraction) (s : Flow) → is_video h ≡ true → IsBase (base_of_head h) → IsBase c
    → IsUnits (units_of (base_of_head h) c) (base_of_head h) c → IsValid (Frames h) s → All (IsExact (units_of (base_of_head h) c)) s.items
stream_exact h c s video base common units v =
    items_exact (units_of (base_of_head h) c) h c s.items video record { base = base; common = common; units = units } refl v.shape.each v.in_time

items_same : (xs : List Item) → map (item_in 1) xs ≡ xs
items_same [] = refl
items_same (Audio f ∷ xs) = ap (λ (ys : List Item). Audio f ∷ ys) (items_same xs)
items_same (Video f ∷ xs) = ap (λ (ys : List Item). Video f ∷ ys) (items_same xs)
items_same (Packet f ∷ xs) = ap (λ (ys : List Item). Packet f ∷ ys) (items_same xs)
items_same (Trailer f ∷ xs) = ap (λ (ys : List Item). Trailer f ∷ ys) (items_same xs)
items_same (End ∷ xs) = ap (λ (ys : List Item). End ∷ ys) (items_same xs)
items_same (Broken ∷ xs) = ap (λ (ys : List Item). Broken ∷ ys) (items_same xs)

pub told_same : (s : Flow) → told_in 1 s ≡ s
told_same s = ap (λ (xs : List Item). let r : Flow = record { items = xs; mark = s.mark } in r) (items_same s.items)
