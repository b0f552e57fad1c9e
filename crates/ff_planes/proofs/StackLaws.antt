-- Pictures side by side, row by row, and one below the other, plane by plane.
use Rattle.std.proofs.Common.{◌≡◌, ℕ, suc, ◌+◌, ◌-◌, ◌*◌, ◌<◌, true, false, List, [], ◌∷◌, ◌++◌, drop, length, refl, sym, ap, ◌∙◌, subst, arith, mul_comm}
use Rattle.std.specs.Prelude.{All, nat_lt, if◌then◌else◌}
use Rattle.std.proofs.lemmas.Bool.Decides.{nat_tests}
use Rattle.std.proofs.lemmas.List.{length-take-le, length-drop}
use Rattle.ff_frame.specs.declared.video.Format.{Format}
use Rattle.ff_frame.specs.declared.video.VFrame.{VFrame}
use Rattle.ff_frame.specs.Video.{IsVideo, chroma_width, chroma_height}
use Rattle.ff_planes.specs.declared.component.Component.{Component}
use Rattle.ff_planes.specs.declared.component.Component.TheVariants.{Luma, Blue, Red}
use Rattle.ff_planes.specs.Grid.{columns, rows, plane, line, lines, row_of, plane_of, sample}
use Rattle.ff_planes.specs.Stacks.{all_columns, all_rows, beside, below, hstacked, vstacked, IsAsHigh, IsAsWide, FillColumns, FillRows, beside_row, below_plane}
use Rattle.ff_planes.proofs.RowLaws.{lines-same, lines-add, row-same, row-add, line_is_row, lines_of_plane}
use Rattle.ff_planes.proofs.PartLaws.{three_planes}

pub length-plane : (format : Format) (width height : ℕ) (planes : List ℕ) (c : Component) → IsVideo format width height planes → length (plane format width height planes c) ≡ rows format height c * columns format width c
length-plane format width height planes Luma v = length-take-le (height * width) planes (omega (arith, v.samples, mul_comm width height))
length-plane format width height planes Blue v =
    let here : length planes ≡ height * width + 2 * (chroma_height format height * chroma_width format width) = v.samples ∙ omega (arith, mul_comm width height, mul_comm (chroma_width format width) (chroma_height format height)) in
    length-take-le (chroma_height format height * chroma_width format width) (drop (height * width) planes) (omega (arith, length-drop (height * width) planes))
length-plane format width height planes Red v =
    let here : length planes ≡ height * width + 2 * (chroma_height format height * chroma_width format width) = v.samples ∙ omega (arith, mul_comm width height, mul_comm (chroma_width format width) (chroma_height format height)) in
    length-drop (chroma_height format height * chroma_width format width) (drop (height * width) planes) ∙ omega (arith, length-drop (height * width) planes)

-- ---- side by side

first_of_all : (P : VFrame → Type 0) (f : VFrame) (fs : List VFrame) → All P (f ∷ fs) → P f
first_of_all P f fs a = a 0 f (omega arith)

rest_of_all : (P : VFrame → Type 0) (f : VFrame) (fs : List VFrame) → All P (f ∷ fs) → All P fs
rest_of_all P f fs a = λ k d lt. a (suc k) d (omega arith)

pub row_beside : (format : Format) (height : ℕ) (c : Component) (fs : List VFrame) (row : ℕ) → All (IsAsHigh format height) fs → row < rows format height c →
    row_of (all_columns format fs c) (beside format height fs c row) ≡ beside_row format height c fs row
row_beside format height c [] row a lt = refl
row_beside format height c (f ∷ fs) row a lt =
    let wide : ℕ = columns format f.width c in
    let bytes : List ℕ = plane format f.width height f.planes c in
    let at : ℕ → ℕ = beside format height (f ∷ fs) c row in
    let first : IsAsHigh format height f = first_of_all (IsAsHigh format height) f fs a in
    let v : IsVideo format f.width height f.planes = subst (λ g. IsVideo g f.width height f.planes) first.format_is (subst (λ h. IsVideo f.format f.width h f.planes) first.rows_are first.video) in
    let left : row_of wide at ≡ line wide bytes row =
    row-same wide at (sample wide bytes row)
    (λ k less. let yes : nat_lt k wide ≡ true = grind (arith, nat_tests) in
    ap (λ b. if b then sample wide bytes row k else beside format height fs c row (k - wide)) yes)
    ∙ sym (line_is_row wide (rows format height c) row bytes (length-plane format f.width height f.planes c v) lt) in
    let right : row_of (all_columns format fs c) (λ k. at (wide + k)) ≡ beside_row format height c fs row =
    row-same (all_columns format fs c) (λ k. at (wide + k)) (beside format height fs c row)
    (λ k less. let no : nat_lt (wide + k) wide ≡ false = grind (arith, nat_tests) in
    let on : wide + k - wide ≡ k = omega arith in
    ap (λ b. if b then sample wide bytes row (wide + k) else beside format height fs c row (wide + k - wide)) no ∙ ap (beside format height fs c row) on)
    ∙ row_beside format height c fs row (rest_of_all (IsAsHigh format height) f fs a) lt in
    row-add wide (all_columns format fs c) at
    ∙ ap (λ xs. xs ++ row_of (all_columns format fs c) (λ k. at (wide + k))) left
    ∙ ap (λ xs. line wide bytes row ++ xs) right

pub plane_beside : (format : Format) (width height : ℕ) (c : Component) (fs : List VFrame) → All (IsAsHigh format height) fs → all_columns format fs c ≡ columns format width c →
    lines (rows format height c) (beside_row format height c fs) ≡ plane_of (columns format width c) (rows format height c) (beside format height fs c)
plane_beside format width height c fs a filled =
    lines-same (rows format height c) (beside_row format height c fs) (λ row. row_of (columns format width c) (beside format height fs c row))
    (λ row lt. sym (row_beside format height c fs row a lt) ∙ ap (λ n. row_of n (beside format height fs c row)) filled)

pub hstacked_by_planes : (format : Format) (width height : ℕ) (fs : List VFrame) (a b d : List ℕ) → All (IsAsHigh format height) fs → FillColumns format width fs →
    a ≡ [] ++ lines (rows format height Luma) (beside_row format height Luma fs) → b ≡ a ++ lines (rows format height Blue) (beside_row format height Blue fs) →
    d ≡ b ++ lines (rows format height Red) (beside_row format height Red fs) → d ≡ hstacked format width height fs
unfolding hstacked
hstacked_by_planes format width height fs a b d alike filled x y z =
    let made : Component → List ℕ = λ c. lines (rows format height c) (beside_row format height c fs) in
    let meant : Component → List ℕ = λ c. plane_of (columns format width c) (rows format height c) (beside format height fs c) in
    three_planes (made Luma) (made Blue) (made Red) a b d x y z
    ∙ ap (λ xs. xs ++ (made Blue ++ made Red)) (plane_beside format width height Luma fs alike filled.of_luma)
    ∙ ap (λ xs. meant Luma ++ (xs ++ made Red)) (plane_beside format width height Blue fs alike filled.of_blue)
    ∙ ap (λ xs. meant Luma ++ (meant Blue ++ xs)) (plane_beside format width height Red fs alike filled.of_red)

-- ---- one below the other

pub rows_below : (format : Format) (width : ℕ) (c : Component) (fs : List VFrame) → All (IsAsWide format width) fs →
    lines (all_rows format fs c) (λ row. row_of (columns format width c) (below format width fs c row)) ≡ below_plane format width c fs
rows_below format width c [] a = refl
rows_below format width c (f ∷ fs) a =
    let high : ℕ = rows format f.height c in
    let wide : ℕ = columns format width c in
    let bytes : List ℕ = plane format width f.height f.planes c in
    let at : ℕ → List ℕ = λ row. row_of wide (below format width (f ∷ fs) c row) in
    let first : IsAsWide format width f = first_of_all (IsAsWide format width) f fs a in
    let v : IsVideo format width f.height f.planes = subst (λ g. IsVideo g width f.height f.planes) first.format_is (subst (λ w. IsVideo f.format w f.height f.planes) first.columns_are first.video) in
    let long : length bytes ≡ high * wide = length-plane format width f.height f.planes c v in
    let upper : lines high at ≡ bytes =
    lines-same high at (line wide bytes)
    (λ row lt. row-same wide (below format width (f ∷ fs) c row) (sample wide bytes row)
    (λ k less. let yes : nat_lt row high ≡ true = grind (arith, nat_tests) in
    ap (λ b. if b then sample wide bytes row k else below format width fs c (row - high) k) yes)
    ∙ sym (line_is_row wide high row bytes long lt))
    ∙ lines_of_plane wide high bytes long in
    let lower : lines (all_rows format fs c) (λ r. at (high + r)) ≡ below_plane format width c fs =
    lines-same (all_rows format fs c) (λ r. at (high + r)) (λ row. row_of wide (below format width fs c row))
    (λ r lt. row-same wide (below format width (f ∷ fs) c (high + r)) (below format width fs c r)
    (λ k less. let no : nat_lt (high + r) high ≡ false = grind (arith, nat_tests) in
    let on : high + r - high ≡ r = omega arith in
    ap (λ b. if b then sample wide bytes (high + r) k else below format width fs c (high + r - high) k) no ∙ ap (λ n. below format width fs c n k) on))
    ∙ rows_below format width c fs (rest_of_all (IsAsWide format width) f fs a) in
    lines-add high (all_rows format fs c) at
    ∙ ap (λ xs. xs ++ lines (all_rows format fs c) (λ r. at (high + r))) upper
    ∙ ap (λ xs. bytes ++ xs) lower

pub plane_below : (format : Format) (width height : ℕ) (c : Component) (fs : List VFrame) → All (IsAsWide format width) fs → all_rows format fs c ≡ rows format height c →
    below_plane format width c fs ≡ plane_of (columns format width c) (rows format height c) (below format width fs c)
plane_below format width height c fs a filled =
    sym (rows_below format width c fs a) ∙ ap (λ n. lines n (λ row. row_of (columns format width c) (below format width fs c row))) filled

pub vstacked_by_planes : (format : Format) (width height : ℕ) (fs : List VFrame) (a b d : List ℕ) → All (IsAsWide format width) fs → FillRows format height fs →
    a ≡ [] ++ below_plane format width Luma fs → b ≡ a ++ below_plane format width Blue fs → d ≡ b ++ below_plane format width Red fs → d ≡ vstacked format width height fs
unfolding vstacked
vstacked_by_planes format width height fs a b d alike filled x y z =
    let made : Component → List ℕ = λ c. below_plane format width c fs in
    let meant : Component → List ℕ = λ c. plane_of (columns format width c) (rows format height c) (below format width fs c) in
    three_planes (made Luma) (made Blue) (made Red) a b d x y z
    ∙ ap (λ xs. xs ++ (made Blue ++ made Red)) (plane_below format width height Luma fs alike filled.of_luma)
    ∙ ap (λ xs. meant Luma ++ (xs ++ made Red)) (plane_below format width height Blue fs alike filled.of_blue)
    ∙ ap (λ xs. meant Luma ++ (meant Blue ++ xs)) (plane_below format width height Red fs alike filled.of_red)
