-- Of valid streams the pictures fit their stack.
use Rattle.std.specs.Prelude.{◌≡◌, ℕ, ◌+◌, true, ◌&&◌, nat_le, nat_eq, List, [], ◌∷◌, length, refl}
use Rattle.std.proofs.Common.{ap, sym, ◌∙◌, subst}
use Rattle.std.proofs.lemmas.Bool.{and_parts, and_from, eqb-true, eq-eqb, le-leb}
use Rattle.ff_frame.specs.declared.head.StreamHead.{StreamHead}
use Rattle.ff_frame.specs.declared.head.StreamHead.TheVariants.{Audio, Video}
use Rattle.ff_frame.specs.declared.video.Format.{Format}
use Rattle.ff_frame.specs.declared.video.Format.TheVariants.{C420, C422, C444, Mono}
use Rattle.ff_frame.specs.declared.video.VFrame.{VFrame}
use Rattle.ff_frame.specs.Heads.{IsPictureFor}
use Rattle.ff_frame.specs.Video.{IsSide, IsVideo, frame_size}
use Rattle.ff_planes.specs.declared.component.Component.TheVariants.{Luma, Blue}
use Rattle.ff_planes.specs.Grid.{columns, rows}
use Rattle.ff_planes.specs.Stacks.{IsOnColumns, IsOnRows, AreOnColumns, AreOnRows}
use Rattle.ff_planes.proofs.GridLaws.{columns_filled, rows_filled}
use Rattle.ff_planes.proofs.PixelLaws.{length-hstacked, length-vstacked}
use Rattle.ff_fsync.specs.Synced.{each_of}
use Rattle.ff_fsync.specs.declared.stacks.shape.Direction.{Direction}
use Rattle.ff_fsync.specs.declared.stacks.shape.Direction.TheVariants.{Beside, Below}
use Rattle.ff_fsync.specs.declared.stacks.shape.Shape.{Shape}
use Rattle.ff_fsync.specs.stacks.Heads.{size_along, are_alike, on_grid, head_on_grid, all_on_grid, total, with_length}
use Rattle.ff_fsync.specs.stacks.Shapes.{same_format, agrees, is_like, along, sum_along, length_of, fits_stack, planes_by, shape_of}
use Rattle.ff_fsync.proofs.StacksLemmas.Fitting.{format_is, columns_sum, rows_sum}

-- one picture of each of these streams
abbrev pub OneEach : List StreamHead → List VFrame → Type 0
OneEach [] [] = Unit {0}
OneEach [] (f ∷ fs) = ⊥
OneEach (h ∷ hs) [] = ⊥
OneEach (h ∷ hs) (f ∷ fs) = IsPictureFor h f × OneEach hs fs

format_self : (a : Format) → same_format a a ≡ true
format_self C420 = refl
format_self C422 = refl
format_self C444 = refl
format_self Mono = refl

side_so : (n : ℕ) → IsSide n → (nat_le 1 n && nat_le n 16384) ≡ true
side_so n s = and_from (nat_le 1 n) (nat_le n 16384) (le-leb 1 n s.0) (le-leb n 16384 s.1)

agrees_so : (f : VFrame) → IsVideo f.format f.width f.height f.planes → agrees f ≡ true
agrees_so f v = and_from _ _ (and_from _ _ (side_so f.width v.columns) (side_so f.height v.rows)) (eq-eqb (length f.planes) (frame_size f.format f.width f.height) v.samples)

one_like : (d : Direction) (n : ℕ) (h k : StreamHead) (f : VFrame) → are_alike d h k ≡ true → IsPictureFor k f
    → (is_like (shape_of d (with_length d n h)) f ≡ true) × (along d (shape_of d (with_length d n h)).format Luma f ≡ size_along d k)
one_like d n (Audio tb rate bits channels codec) k f e p = cc
one_like d n (Video tb format width height num den) (Audio tb' rate bits channels codec) f e p = cc
one_like Beside n (Video tb format width height num den) (Video tb' format' width' height' num' den') f e p =
    let a = and_parts _ (nat_eq height height') e in
    let format_so : f.format ≡ format = p.format_is ∙ sym (format_is format format' a.0) in (
      and_from _ _ (agrees_so f p.video)
          (and_from _ _ (ap (λ x. same_format x format) format_so ∙ format_self format)
          (eq-eqb f.height height (p.rows_are ∙ sym (eqb-true height height' a.1)))),
      p.columns_are,
    )
one_like Below n (Video tb format width height num den) (Video tb' format' width' height' num' den') f e p =
    let a = and_parts _ (nat_eq width width') e in
    let format_so : f.format ≡ format = p.format_is ∙ sym (format_is format format' a.0) in (
      and_from _ _ (agrees_so f p.video)
          (and_from _ _ (ap (λ x. same_format x format) format_so ∙ format_self format)
          (eq-eqb f.width width (p.columns_are ∙ sym (eqb-true width width' a.1)))),
      p.rows_are,
    )

all_like : (d : Direction) (n : ℕ) (h : StreamHead) (ks : List StreamHead) (fs : List VFrame) → each_of (are_alike d h) ks ≡ true → OneEach ks fs
    → (each_of (is_like (shape_of d (with_length d n h))) fs ≡ true) × (sum_along d (shape_of d (with_length d n h)).format Luma fs ≡ total d ks)
all_like d n h [] [] e o = (refl, refl)
all_like d n h [] (f ∷ fs) e o = absurd o
all_like d n h (k ∷ ks) [] e o = absurd o
all_like d n h (k ∷ ks) (f ∷ fs) e o =
    let a = and_parts (are_alike d h k) (each_of (are_alike d h) ks) e in
    let one = one_like d n h k f a.0 o.0 in
    let more = all_like d n h ks fs a.1 o.1 in (
      and_from _ _ one.0 more.0,
      ap (λ x. x + sum_along d (shape_of d (with_length d n h)).format Luma fs) one.1 ∙ ap (λ x. size_along d k + x) more.1,
    )

columns_so : (format : Format) (n : ℕ) → on_grid Beside format n ≡ true → IsOnColumns format n
columns_so C420 n e = eqb-true _ 0 e
columns_so C422 n e = eqb-true _ 0 e
columns_so C444 n e = tt
columns_so Mono n e = tt

rows_so : (format : Format) (n : ℕ) → on_grid Below format n ≡ true → IsOnRows format n
rows_so C420 n e = eqb-true _ 0 e
rows_so C422 n e = tt
rows_so C444 n e = tt
rows_so Mono n e = tt

abbrev AreOn : Direction → Format → List VFrame → Type 0
AreOn Beside format fs = AreOnColumns format fs
AreOn Below format fs = AreOnRows format fs

abbrev IsOn : Direction → Format → VFrame → Type 0
IsOn Beside format f = IsOnColumns format f.width
IsOn Below format f = IsOnRows format f.height

one_on : (d : Direction) (n : ℕ) (h k : StreamHead) (f : VFrame) → are_alike d h k ≡ true → head_on_grid d k ≡ true → IsPictureFor k f
    → IsOn d (shape_of d (with_length d n h)).format f
one_on d n (Audio tb rate bits channels codec) k f e g p = cc
one_on d n (Video tb format width height num den) (Audio tb' rate bits channels codec) f e g p = cc
one_on Beside n (Video tb format width height num den) (Video tb' format' width' height' num' den') f e g p =
    let a = and_parts _ (nat_eq height height') e in
    columns_so format f.width (ap (λ x. on_grid Beside x f.width) (format_is format format' a.0) ∙ (ap (λ x. on_grid Beside format' x) p.columns_are ∙ g))
one_on Below n (Video tb format width height num den) (Video tb' format' width' height' num' den') f e g p =
    let a = and_parts _ (nat_eq width width') e in
    rows_so format f.height (ap (λ x. on_grid Below x f.height) (format_is format format' a.0) ∙ (ap (λ x. on_grid Below format' x) p.rows_are ∙ g))

all_on : (d : Direction) (n : ℕ) (h : StreamHead) (ks : List StreamHead) (fs : List VFrame) → each_of (are_alike d h) ks ≡ true → all_on_grid d ks ≡ true → OneEach ks fs
    → AreOn d (shape_of d (with_length d n h)).format fs
all_on Beside n h [] [] e g o = tt
all_on Below n h [] [] e g o = tt
all_on d n h [] (f ∷ fs) e g o = absurd o
all_on d n h (k ∷ ks) [] e g o = absurd o
all_on Beside n h (k ∷ []) (f ∷ []) e g o = tt
all_on Below n h (k ∷ []) (f ∷ []) e g o = tt
all_on d n h (k ∷ []) (f ∷ f' ∷ fs) e g o = absurd o.1
all_on d n h (k ∷ k' ∷ ks) (f ∷ []) e g o = absurd o.1
all_on Beside n h (k ∷ k' ∷ ks) (f ∷ f' ∷ fs) e g o =
    let a = and_parts (are_alike Beside h k) (each_of (are_alike Beside h) (k' ∷ ks)) e in
    let b = and_parts (head_on_grid Beside k) (all_on_grid Beside (k' ∷ ks)) g in
    (one_on Beside n h k f a.0 b.0 o.0, all_on Beside n h (k' ∷ ks) (f' ∷ fs) a.1 b.1 o.1)
all_on Below n h (k ∷ k' ∷ ks) (f ∷ f' ∷ fs) e g o =
    let a = and_parts (are_alike Below h k) (each_of (are_alike Below h) (k' ∷ ks)) e in
    let b = and_parts (head_on_grid Below k) (all_on_grid Below (k' ∷ ks)) g in
    (one_on Below n h k f a.0 b.0 o.0, all_on Below n h (k' ∷ ks) (f' ∷ fs) a.1 b.1 o.1)

-- they fill the stack
chroma_fills : (d : Direction) (format : Format) (n : ℕ) (fs : List VFrame) → AreOn d format fs → sum_along d format Luma fs ≡ n
    → sum_along d format Blue fs ≡ length_of d (record { direction = d; format = format; width = n; height = n }) Blue
chroma_fills Beside format n fs on e =
    sym (columns_sum format Blue fs) ∙ ((columns_filled format fs on).of_blue ∙ ap (λ x. columns format x Blue) (columns_sum format Luma fs ∙ e))
chroma_fills Below format n fs on e =
    sym (rows_sum format Blue fs) ∙ ((rows_filled format fs on).of_blue ∙ ap (λ x. rows format x Blue) (rows_sum format Luma fs ∙ e))

length_so : (d : Direction) (n : ℕ) (h : StreamHead) → are_alike d h h ≡ true
    → (length_of d (shape_of d (with_length d n h)) Luma ≡ n)
    × (length_of d (record { direction = d; format = (shape_of d (with_length d n h)).format; width = n; height = n }) Blue ≡ length_of d (shape_of d (with_length d n h)) Blue)
length_so d n (Audio tb rate bits channels codec) e = cc
length_so Beside n (Video tb format width height num den) e = (refl, refl)
length_so Below n (Video tb format width height num den) e = (refl, refl)

-- pictures of alike streams on the grid fit
pub fits_valid : (d : Direction) (h : StreamHead) (hs : List StreamHead) (fs : List VFrame)
    → each_of (are_alike d h) (h ∷ hs) ≡ true → all_on_grid d (h ∷ hs) ≡ true → OneEach (h ∷ hs) fs
    → fits_stack (shape_of d (with_length d (total d (h ∷ hs)) h)) fs ≡ true
fits_valid d h hs fs e g o =
    let n = total d (h ∷ hs) in
    let s = shape_of d (with_length d n h) in
    let like = all_like d n h (h ∷ hs) fs e o in
    let long = length_so d n h ((and_parts (are_alike d h h) (each_of (are_alike d h) hs) e).0) in
    let on = all_on d n h (h ∷ hs) fs e g o in
    let blue = chroma_fills d s.format n fs on like.1 ∙ long.1 in
    and_from _ _ like.0 (at s (direction_so d (with_length d n h)) (like.1 ∙ sym long.0) blue)
  where
    direction_so : (d : Direction) (k : StreamHead) → (shape_of d k).direction ≡ d
    direction_so d (Audio tb rate bits channels codec) = refl
    direction_so d (Video tb format width height num den) = refl

    at : (s : Shape) → s.direction ≡ d → sum_along d s.format Luma fs ≡ length_of d s Luma → sum_along d s.format Blue fs ≡ length_of d s Blue
        → (nat_eq (sum_along s.direction s.format Luma fs) (length_of s.direction s Luma) && nat_eq (sum_along s.direction s.format Blue fs) (length_of s.direction s Blue)) ≡ true
    at s same a b = subst (λ x. (nat_eq (sum_along x s.format Luma fs) (length_of x s Luma) && nat_eq (sum_along x s.format Blue fs) (length_of x s Blue)) ≡ true) (sym same)
        (and_from _ _ (eq-eqb _ _ a) (eq-eqb _ _ b))

pub planes_long : (d : Direction) (s : Shape) (fs : List VFrame) → length (planes_by d s fs) ≡ frame_size s.format s.width s.height
planes_long Beside s fs = length-hstacked s.format s.width s.height fs
planes_long Below s fs = length-vstacked s.format s.width s.height fs
