-- When pictures fit a stack.
use Rattle.std.specs.Prelude.{◌≡◌, ℕ, zero, suc, ◌+◌, ◌<◌, Bool, true, ◌&&◌, nat_le, nat_eq, All, List, [], ◌∷◌, length, refl}
use Rattle.std.proofs.Common.{ap, subst, ◌∙◌, arith, get_or}
use Rattle.std.proofs.lemmas.Bool.{and_parts, leb-true, eqb-true}
use Rattle.ff_frame.specs.declared.video.Format.{Format}
use Rattle.ff_frame.specs.declared.video.Format.TheVariants.{C420, C422, C444, Mono}
use Rattle.ff_frame.specs.declared.video.VFrame.{VFrame}
use Rattle.ff_frame.specs.Video.{IsSide, IsVideo, frame_size}
use Rattle.ff_planes.specs.declared.component.Component.{Component}
use Rattle.ff_planes.specs.declared.component.Component.TheVariants.{Luma, Blue, Red}
use Rattle.ff_planes.specs.Grid.{columns, rows}
use Rattle.ff_planes.specs.Stacks.{IsAsHigh, IsAsWide, FillColumns, FillRows, all_columns, all_rows}
use Rattle.ff_fsync.specs.Synced.{each_of}
use Rattle.ff_fsync.specs.declared.stacks.shape.Direction.{Direction}
use Rattle.ff_fsync.specs.declared.stacks.shape.Direction.TheVariants.{Beside, Below}
use Rattle.ff_fsync.specs.declared.stacks.shape.Shape.{Shape}
use Rattle.ff_fsync.proofs.StacksLemmas.Alls.{all_none, all_more}
use Rattle.ff_fsync.specs.stacks.Shapes.{same_format, agrees, is_across, sum_along, length_of, fits_stack}

pub format_is : (a b : Format) → same_format a b ≡ true → a ≡ b
format_is C420 C420 e = refl
format_is C420 C422 e = cc
format_is C420 C444 e = cc
format_is C420 Mono e = cc
format_is C422 C420 e = cc
format_is C422 C422 e = refl
format_is C422 C444 e = cc
format_is C422 Mono e = cc
format_is C444 C420 e = cc
format_is C444 C422 e = cc
format_is C444 C444 e = refl
format_is C444 Mono e = cc
format_is Mono C420 e = cc
format_is Mono C422 e = cc
format_is Mono C444 e = cc
format_is Mono Mono e = refl

side_is : (n : ℕ) → (nat_le 1 n && nat_le n 16384) ≡ true → IsSide n
side_is n e = let b = and_parts (nat_le 1 n) (nat_le n 16384) e in (leb-true 1 n b.0, leb-true n 16384 b.1)

pub agrees_video : (f : VFrame) → agrees f ≡ true → IsVideo f.format f.width f.height f.planes
agrees_video f e =
    let a = and_parts ((nat_le 1 f.width && nat_le f.width 16384) && (nat_le 1 f.height && nat_le f.height 16384))
    (nat_eq (length f.planes) (frame_size f.format f.width f.height)) e in
    let b = and_parts (nat_le 1 f.width && nat_le f.width 16384) (nat_le 1 f.height && nat_le f.height 16384) a.0 in
    record {
      columns = side_is f.width b.0;
      rows = side_is f.height b.1;
      samples = eqb-true (length f.planes) (frame_size f.format f.width f.height) a.1;
    }

pub each_at : (f : VFrame → Bool) (xs : List VFrame) (i : ℕ) (d : VFrame) → each_of f xs ≡ true → i < length xs → f (get_or xs i d) ≡ true
each_at f [] i d e lt = absurd (omega (arith, lt))
each_at f (x ∷ xs) zero d e lt = (and_parts (f x) (each_of f xs) e).0
each_at f (x ∷ xs) (suc i) d e lt = each_at f xs i d (and_parts (f x) (each_of f xs) e).1 (omega (arith, lt))

abbrev like_by : Direction → Shape → VFrame → Bool
like_by d s f = agrees f && (same_format f.format s.format && is_across d s f)

abbrev fits_by : Direction → Shape → List VFrame → Bool
fits_by d s fs =
    each_of (like_by d s) fs
    && (nat_eq (sum_along d s.format Luma fs) (length_of d s Luma) && nat_eq (sum_along d s.format Blue fs) (length_of d s Blue))

pub columns_sum : (format : Format) (c : Component) (fs : List VFrame) → all_columns format fs c ≡ sum_along Beside format c fs
columns_sum format c [] = refl
columns_sum format c (f ∷ fs) = ap (λ n. columns format f.width c + n) (columns_sum format c fs)

pub rows_sum : (format : Format) (c : Component) (fs : List VFrame) → all_rows format fs c ≡ sum_along Below format c fs
rows_sum format c [] = refl
rows_sum format c (f ∷ fs) = ap (λ n. rows format f.height c + n) (rows_sum format c fs)

red_columns : (format : Format) (fs : List VFrame) → all_columns format fs Red ≡ all_columns format fs Blue
red_columns format [] = refl
red_columns format (f ∷ fs) = ap (λ n. columns format f.width Blue + n) (red_columns format fs)

red_rows : (format : Format) (fs : List VFrame) → all_rows format fs Red ≡ all_rows format fs Blue
red_rows format [] = refl
red_rows format (f ∷ fs) = ap (λ n. rows format f.height Blue + n) (red_rows format fs)

module _ (s : Shape) where
  high_at : (f : VFrame) → like_by Beside s f ≡ true → IsAsHigh s.format s.height f
  high_at f e =
      let a = and_parts (agrees f) (same_format f.format s.format && nat_eq f.height s.height) e in
      let b = and_parts (same_format f.format s.format) (nat_eq f.height s.height) a.1 in
      record { format_is = format_is f.format s.format b.0; columns_are = refl; rows_are = eqb-true f.height s.height b.1; video = agrees_video f a.0 }

  wide_at : (f : VFrame) → like_by Below s f ≡ true → IsAsWide s.format s.width f
  wide_at f e =
      let a = and_parts (agrees f) (same_format f.format s.format && nat_eq f.width s.width) e in
      let b = and_parts (same_format f.format s.format) (nat_eq f.width s.width) a.1 in
      record { format_is = format_is f.format s.format b.0; columns_are = eqb-true f.width s.width b.1; rows_are = refl; video = agrees_video f a.0 }

  all_by : (P : VFrame → Type 0) (d : Direction) (fs : List VFrame) → ((f : VFrame) → like_by d s f ≡ true → P f) → each_of (like_by d s) fs ≡ true → All P fs
  all_by P d [] h e = all_none P
  all_by P d (f ∷ fs) h e = let b = and_parts (like_by d s f) (each_of (like_by d s) fs) e in all_more P f fs (h f b.0) (all_by P d fs h b.1)

  fits_beside : (fs : List VFrame) → fits_by Beside s fs ≡ true → All (IsAsHigh s.format s.height) fs × FillColumns s.format s.width fs
  fits_beside fs e =
      let a = and_parts (each_of (like_by Beside s) fs)
      (nat_eq (sum_along Beside s.format Luma fs) (columns s.format s.width Luma) && nat_eq (sum_along Beside s.format Blue fs) (columns s.format s.width Blue)) e in
      let b = and_parts (nat_eq (sum_along Beside s.format Luma fs) (columns s.format s.width Luma))
      (nat_eq (sum_along Beside s.format Blue fs) (columns s.format s.width Blue)) a.1 in
      let blue = columns_sum s.format Blue fs ∙ eqb-true (sum_along Beside s.format Blue fs) (columns s.format s.width Blue) b.1 in (
        all_by (IsAsHigh s.format s.height) Beside fs high_at a.0,
        record {
          of_luma = columns_sum s.format Luma fs ∙ eqb-true (sum_along Beside s.format Luma fs) (columns s.format s.width Luma) b.0;
          of_blue = blue;
          of_red = red_columns s.format fs ∙ blue;
        },
      )

  fits_below : (fs : List VFrame) → fits_by Below s fs ≡ true → All (IsAsWide s.format s.width) fs × FillRows s.format s.height fs
  fits_below fs e =
      let a = and_parts (each_of (like_by Below s) fs)
      (nat_eq (sum_along Below s.format Luma fs) (rows s.format s.height Luma) && nat_eq (sum_along Below s.format Blue fs) (rows s.format s.height Blue)) e in
      let b = and_parts (nat_eq (sum_along Below s.format Luma fs) (rows s.format s.height Luma))
      (nat_eq (sum_along Below s.format Blue fs) (rows s.format s.height Blue)) a.1 in
      let blue = rows_sum s.format Blue fs ∙ eqb-true (sum_along Below s.format Blue fs) (rows s.format s.height Blue) b.1 in (
        all_by (IsAsWide s.format s.width) Below fs wide_at a.0,
        record {
          of_luma = rows_sum s.format Luma fs ∙ eqb-true (sum_along Below s.format Luma fs) (rows s.format s.height Luma) b.0;
          of_blue = blue;
          of_red = red_rows s.format fs ∙ blue;
        },
      )

  -- pictures that fit are as high as the stack and fill its columns, or as wide and fill its rows
  pub beside_ready : (fs : List VFrame) → s.direction ≡ Beside → fits_stack s fs ≡ true → All (IsAsHigh s.format s.height) fs × FillColumns s.format s.width fs
  beside_ready fs d e = fits_beside fs (subst (λ (x : Direction). fits_by x s fs ≡ true) d e)

  pub below_ready : (fs : List VFrame) → s.direction ≡ Below → fits_stack s fs ≡ true → All (IsAsWide s.format s.width) fs × FillRows s.format s.height fs
  below_ready fs d e = fits_below fs (subst (λ (x : Direction). fits_by x s fs ≡ true) d e)
