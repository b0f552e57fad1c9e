-- Pictures on the grid of Cb and Cr fill it, one beside or below the other.
use Rattle.std.proofs.Common.{◌≡◌, ℕ, ◌+◌, ◌*◌, ◌/◌, ◌%◌, List, [], ◌∷◌, refl, sym, ap, ◌∙◌, arith}
use Rattle.ff_frame.specs.declared.video.Format.{Format}
use Rattle.ff_frame.specs.declared.video.Format.TheVariants.{C420, C422, C444, Mono}
use Rattle.ff_frame.specs.declared.video.VFrame.{VFrame}
use Rattle.ff_frame.specs.Video.{chroma_width, chroma_height}
use Rattle.ff_planes.specs.declared.component.Component.TheVariants.{Luma, Blue, Red}
use Rattle.ff_planes.specs.Stacks.{all_columns, all_rows, FillColumns, FillRows, IsOnColumns, IsOnRows, AreOnColumns, AreOnRows}

chroma_columns_add : (format : Format) (a b : ℕ) → IsOnColumns format a → chroma_width format a + chroma_width format b ≡ chroma_width format (a + b)
chroma_columns_add C420 a b even = omega arith
chroma_columns_add C422 a b even = omega arith
chroma_columns_add C444 a b even = refl
chroma_columns_add Mono a b even = refl

chroma_rows_add : (format : Format) (a b : ℕ) → IsOnRows format a → chroma_height format a + chroma_height format b ≡ chroma_height format (a + b)
chroma_rows_add C420 a b even = omega arith
chroma_rows_add C422 a b even = refl
chroma_rows_add C444 a b even = refl
chroma_rows_add Mono a b even = refl

no_columns : (format : Format) → 0 ≡ chroma_width format 0
no_columns C420 = refl
no_columns C422 = refl
no_columns C444 = refl
no_columns Mono = refl

no_rows : (format : Format) → 0 ≡ chroma_height format 0
no_rows C420 = refl
no_rows C422 = refl
no_rows C444 = refl
no_rows Mono = refl

chroma_columns : (format : Format) (fs : List VFrame) → AreOnColumns format fs → all_columns format fs Blue ≡ chroma_width format (all_columns format fs Luma)
chroma_columns format [] on = no_columns format
chroma_columns format (f ∷ []) on = let one : f.width + 0 ≡ f.width = omega arith in let two : chroma_width format f.width + 0 ≡ chroma_width format f.width = omega arith in two ∙ ap (chroma_width format) (sym one)
chroma_columns format (f ∷ g ∷ fs) on =
    ap (λ n. chroma_width format f.width + n) (chroma_columns format (g ∷ fs) on.1) ∙ chroma_columns_add format f.width (all_columns format (g ∷ fs) Luma) on.0

chroma_rows : (format : Format) (fs : List VFrame) → AreOnRows format fs → all_rows format fs Blue ≡ chroma_height format (all_rows format fs Luma)
chroma_rows format [] on = no_rows format
chroma_rows format (f ∷ []) on = let one : f.height + 0 ≡ f.height = omega arith in let two : chroma_height format f.height + 0 ≡ chroma_height format f.height = omega arith in two ∙ ap (chroma_height format) (sym one)
chroma_rows format (f ∷ g ∷ fs) on =
    ap (λ n. chroma_height format f.height + n) (chroma_rows format (g ∷ fs) on.1) ∙ chroma_rows_add format f.height (all_rows format (g ∷ fs) Luma) on.0

same_columns : (format : Format) (fs : List VFrame) → all_columns format fs Red ≡ all_columns format fs Blue
same_columns format [] = refl
same_columns format (f ∷ fs) = ap (λ n. chroma_width format f.width + n) (same_columns format fs)

same_rows : (format : Format) (fs : List VFrame) → all_rows format fs Red ≡ all_rows format fs Blue
same_rows format [] = refl
same_rows format (f ∷ fs) = ap (λ n. chroma_height format f.height + n) (same_rows format fs)

pub columns_filled : (format : Format) (fs : List VFrame) → AreOnColumns format fs → FillColumns format (all_columns format fs Luma) fs
columns_filled format fs on = record { of_luma = refl; of_blue = chroma_columns format fs on; of_red = same_columns format fs ∙ chroma_columns format fs on }

pub rows_filled : (format : Format) (fs : List VFrame) → AreOnRows format fs → FillRows format (all_rows format fs Luma) fs
rows_filled format fs on = record { of_luma = refl; of_blue = chroma_rows format fs on; of_red = same_rows format fs ∙ chroma_rows format fs on }
