-- Pictures side by side, and one below the other.
use Rattle.std.specs.Prelude.{◌≡◌, ℕ, ◌+◌, ◌-◌, ◌%◌, nat_lt, if◌then◌else◌, List, [], ◌∷◌}
use Rattle.std.specs.List.{flat_map}
use Rattle.ff_frame.specs.declared.video.Format.{Format}
use Rattle.ff_frame.specs.declared.video.Format.TheVariants.{C420, C422, C444, Mono}
use Rattle.ff_frame.specs.declared.video.VFrame.{VFrame}
use Rattle.ff_frame.specs.Heads.{IsPictureOf}
use Rattle.ff_planes.specs.declared.component.Component.{Component}
use Rattle.ff_planes.specs.declared.component.Component.TheVariants.{Luma, Blue, Red}
use Rattle.ff_planes.specs.Grid.{columns, rows, line, plane, pixel, picture_of}

-- the columns of a plane of pictures side by side, and its rows where they stand one below the other
abbrev pub all_columns : Format → List VFrame → Component → ℕ
all_columns format [] c = 0
all_columns format (f ∷ fs) c = columns format f.width c + all_columns format fs c

abbrev pub all_rows : Format → List VFrame → Component → ℕ
all_rows format [] c = 0
all_rows format (f ∷ fs) c = rows format f.height c + all_rows format fs c

-- the pixel of pictures side by side, each as high as this: that of the picture in which the column lies
abbrev pub beside : Format → ℕ → List VFrame → Component → ℕ → ℕ → ℕ
beside format height [] c row column = 0
beside format height (f ∷ fs) c row column =
    if nat_lt column (columns format f.width c) then pixel format f.width height f.planes c row column
    else beside format height fs c row (column - columns format f.width c)

-- the pixel of pictures one below the other, each as wide as this: that of the picture in which the row lies
abbrev pub below : Format → ℕ → List VFrame → Component → ℕ → ℕ → ℕ
below format width [] c row column = 0
below format width (f ∷ fs) c row column =
    if nat_lt row (rows format f.height c) then pixel format width f.height f.planes c row column
    else below format width fs c (row - rows format f.height c) column

unfoldable pub hstacked : Format → ℕ → ℕ → List VFrame → List ℕ
hstacked format width height fs = picture_of format width height (beside format height fs)

unfoldable pub vstacked : Format → ℕ → ℕ → List VFrame → List ℕ
vstacked format width height fs = picture_of format width height (below format width fs)

-- of this format and as high as this, or as wide as this
abbrev pub IsAsHigh : Format → ℕ → VFrame → Type 0
IsAsHigh format height f = IsPictureOf format f.width height f

abbrev pub IsAsWide : Format → ℕ → VFrame → Type 0
IsAsWide format width f = IsPictureOf format width f.height f

-- side by side they fill so many columns of Y, of Cb and of Cr
pub record FillColumns (format : Format) (width : ℕ) (fs : List VFrame) : Type 0 where
  pub of_luma : all_columns format fs Luma ≡ columns format width Luma
  pub of_blue : all_columns format fs Blue ≡ columns format width Blue
  pub of_red : all_columns format fs Red ≡ columns format width Red

pub record FillRows (format : Format) (height : ℕ) (fs : List VFrame) : Type 0 where
  pub of_luma : all_rows format fs Luma ≡ rows format height Luma
  pub of_blue : all_rows format fs Blue ≡ rows format height Blue
  pub of_red : all_rows format fs Red ≡ rows format height Red

-- a row of pictures side by side
abbrev pub beside_row : Format → ℕ → Component → List VFrame → ℕ → List ℕ
beside_row format height c fs row = flat_map (λ f. line (columns format f.width c) (plane format f.width height f.planes c) row) fs

-- a plane of pictures one below the other
abbrev pub below_plane : Format → ℕ → Component → List VFrame → List ℕ
below_plane format width c fs = flat_map (λ f. plane format width f.height f.planes c) fs

-- so many columns or rows of Y are whole pixels of Cb and of Cr
abbrev pub IsOnColumns : Format → ℕ → Type 0
IsOnColumns C420 n = n % 2 ≡ 0
IsOnColumns C422 n = n % 2 ≡ 0
IsOnColumns C444 n = Unit {0}
IsOnColumns Mono n = Unit {0}

abbrev pub IsOnRows : Format → ℕ → Type 0
IsOnRows C420 n = n % 2 ≡ 0
IsOnRows C422 n = Unit {0}
IsOnRows C444 n = Unit {0}
IsOnRows Mono n = Unit {0}

-- all pictures but the last are as wide, or as high, as whole pixels of Cb and of Cr are
abbrev pub AreOnColumns : Format → List VFrame → Type 0
AreOnColumns format [] = Unit {0}
AreOnColumns format (f ∷ []) = Unit {0}
AreOnColumns format (f ∷ g ∷ fs) = IsOnColumns format f.width × AreOnColumns format (g ∷ fs)

abbrev pub AreOnRows : Format → List VFrame → Type 0
AreOnRows format [] = Unit {0}
AreOnRows format (f ∷ []) = Unit {0}
AreOnRows format (f ∷ g ∷ fs) = IsOnRows format f.height × AreOnRows format (g ∷ fs)
