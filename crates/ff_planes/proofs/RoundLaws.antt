-- What mirrors and pads undo.
use Rattle.std.proofs.Common.{◌≡◌, ℕ, ◌+◌, ◌-◌, ◌*◌, ◌<◌, ◌≤◌, true, List, ◌++◌, drop, length, refl, sym, ap, ◌∙◌, arith}
use Rattle.std.specs.Prelude.{if◌then◌else◌}
use Rattle.std.proofs.lemmas.List.{take-append-drop}
use Rattle.ff_frame.specs.declared.video.Format.{Format}
use Rattle.ff_frame.specs.declared.video.Format.TheVariants.{C420, C422, C444, Mono}
use Rattle.ff_frame.specs.Video.{IsVideo, chroma_width, chroma_height}
use Rattle.ff_planes.specs.declared.component.Component.{Component}
use Rattle.ff_planes.specs.declared.component.Component.TheVariants.{Luma, Blue, Red}
use Rattle.ff_planes.specs.declared.rectangle.Rectangle.{Rectangle}
use Rattle.ff_planes.specs.Grid.{columns, rows, plane, line, row_of, plane_of, picture_of, sample, pixel}
use Rattle.ff_planes.specs.Flips.{hflipped, vflipped}
use Rattle.ff_planes.specs.Parts.{IsPart, in_plane, holds, black, cropped, padded}
use Rattle.ff_planes.proofs.RowLaws.{lines-same, lines_of_plane, line_is_row, row-same}
use Rattle.ff_planes.proofs.PadLaws.{holds_inside}
use Rattle.ff_planes.proofs.StackLaws.{length-plane}
use Rattle.ff_planes.proofs.PixelLaws.{pixel_of_picture}

plane-same : (w h : ℕ) (f g : ℕ → ℕ → ℕ) → ((row column : ℕ) → row < h → column < w → f row column ≡ g row column) → plane_of w h f ≡ plane_of w h g
plane-same w h f g same = lines-same h (λ row. row_of w (f row)) (λ row. row_of w (g row)) (λ row lt. row-same w (f row) (g row) (λ k less. same row k lt less))

-- pictures with the same pixels
picture-same : (format : Format) (width height : ℕ) (f g : Component → ℕ → ℕ → ℕ)
    → ((c : Component) (row column : ℕ) → row < rows format height c → column < columns format width c → f c row column ≡ g c row column)
    → picture_of format width height f ≡ picture_of format width height g
picture-same format width height f g same =
    let made : (Component → ℕ → ℕ → ℕ) → Component → List ℕ = λ at c. plane_of (columns format width c) (rows format height c) (at c) in
    let each : (c : Component) → made f c ≡ made g c = λ c. plane-same (columns format width c) (rows format height c) (f c) (g c) (same c) in
    ap (λ xs. xs ++ (made f Blue ++ made f Red)) (each Luma)
    ∙ ap (λ xs. made g Luma ++ (xs ++ made f Red)) (each Blue)
    ∙ ap (λ xs. made g Luma ++ (made g Blue ++ xs)) (each Red)

-- a picture is made of its pixels
picture_of_pixels : (format : Format) (width height : ℕ) (planes : List ℕ) → IsVideo format width height planes → picture_of format width height (pixel format width height planes) ≡ planes
picture_of_pixels format width height planes v =
    let part : Component → List ℕ = plane format width height planes in
    let made : Component → List ℕ = λ c. plane_of (columns format width c) (rows format height c) (sample (columns format width c) (part c)) in
    let each : (c : Component) → made c ≡ part c =
    λ c. let long : length (part c) ≡ rows format height c * columns format width c = length-plane format width height planes c v in
    sym (lines-same (rows format height c) (line (columns format width c) (part c)) (λ row. row_of (columns format width c) (sample (columns format width c) (part c) row))
    (λ row lt. line_is_row (columns format width c) (rows format height c) row (part c) long lt))
    ∙ lines_of_plane (columns format width c) (rows format height c) (part c) long in
    ap (λ xs. xs ++ (made Blue ++ made Red)) (each Luma)
    ∙ ap (λ xs. part Luma ++ (xs ++ made Red)) (each Blue)
    ∙ ap (λ xs. part Luma ++ (part Blue ++ xs)) (each Red)
    ∙ ap (λ xs. part Luma ++ xs) (take-append-drop (chroma_height format height * chroma_width format width) (drop (height * width) planes))
    ∙ take-append-drop (height * width) planes

pub hflipped_twice : (format : Format) (width height : ℕ) (planes : List ℕ) → IsVideo format width height planes → hflipped format width height (hflipped format width height planes) ≡ planes
unfolding hflipped
hflipped_twice format width height planes v =
    let at : Component → ℕ → ℕ → ℕ = λ c row column. pixel format width height planes c row (columns format width c - 1 - column) in
    picture-same format width height (λ c row column. pixel format width height (picture_of format width height at) c row (columns format width c - 1 - column)) (pixel format width height planes)
    (λ c row column lt less.
    let back : columns format width c - 1 - (columns format width c - 1 - column) ≡ column = omega arith in
    pixel_of_picture format width height at c row (columns format width c - 1 - column) lt (omega arith) ∙ ap (pixel format width height planes c row) back)
    ∙ picture_of_pixels format width height planes v

pub vflipped_twice : (format : Format) (width height : ℕ) (planes : List ℕ) → IsVideo format width height planes → vflipped format width height (vflipped format width height planes) ≡ planes
unfolding vflipped
vflipped_twice format width height planes v =
    let at : Component → ℕ → ℕ → ℕ = λ c row column. pixel format width height planes c (rows format height c - 1 - row) column in
    picture-same format width height (λ c row column. pixel format width height (picture_of format width height at) c (rows format height c - 1 - row) column) (pixel format width height planes)
    (λ c row column lt less.
    let back : rows format height c - 1 - (rows format height c - 1 - row) ≡ row = omega arith in
    pixel_of_picture format width height at c (rows format height c - 1 - row) column (omega arith) less ∙ ap (λ n. pixel format width height planes c n column) back)
    ∙ picture_of_pixels format width height planes v

-- a part of a picture is a part of each plane
part_of_plane : (format : Format) (width height : ℕ) (r : Rectangle) (c : Component) → IsPart width height r
    → ((in_plane format r c).x + columns format r.width c ≤ columns format width c) × ((in_plane format r c).y + rows format r.height c ≤ rows format height c)
part_of_plane format width height r Luma p = (p.columns, p.rows)
part_of_plane C420 width height r Blue p = let a = p.columns in let b = p.rows in (omega arith, omega arith)
part_of_plane C422 width height r Blue p = let a = p.columns in let b = p.rows in (omega arith, omega arith)
part_of_plane C444 width height r Blue p = let a = p.columns in let b = p.rows in (omega arith, omega arith)
part_of_plane Mono width height r Blue p = (omega arith, omega arith)
part_of_plane C420 width height r Red p = let a = p.columns in let b = p.rows in (omega arith, omega arith)
part_of_plane C422 width height r Red p = let a = p.columns in let b = p.rows in (omega arith, omega arith)
part_of_plane C444 width height r Red p = let a = p.columns in let b = p.rows in (omega arith, omega arith)
part_of_plane Mono width height r Red p = (omega arith, omega arith)

sizes_in_plane : (format : Format) (r : Rectangle) (c : Component) → ((in_plane format r c).width ≡ columns format r.width c) × ((in_plane format r c).height ≡ rows format r.height c)
sizes_in_plane format r Luma = (refl, refl)
sizes_in_plane format r Blue = (refl, refl)
sizes_in_plane format r Red = (refl, refl)

pub cropped_of_padded : (format : Format) (width height : ℕ) (r : Rectangle) (planes : List ℕ) → IsVideo format r.width r.height planes → IsPart width height r
    → cropped format width height r (padded format width height r planes) ≡ planes
unfolding cropped padded
cropped_of_padded format width height r planes v inside =
    let at : Component → ℕ → ℕ → ℕ = λ c row column.
    if holds (in_plane format r c) row column then pixel format r.width r.height planes c (row - (in_plane format r c).y) (column - (in_plane format r c).x) else black c in
    picture-same format r.width r.height (λ c row column. pixel format width height (picture_of format width height at) c (row + (in_plane format r c).y) (column + (in_plane format r c).x)) (pixel format r.width r.height planes)
    (λ c row column lt less.
    let q : Rectangle = in_plane format r c in
    let fits = part_of_plane format width height r c inside in
    let sizes = sizes_in_plane format r c in
    let up : row + q.y - q.y ≡ row = omega arith in
    let left : column + q.x - q.x ≡ column = omega arith in
    let there : holds q (row + q.y) (column + q.x) ≡ true = holds_inside q (row + q.y) (column + q.x) (omega arith) (omega (arith, sizes.1)) (omega arith) (omega (arith, sizes.0)) in
    pixel_of_picture format width height at c (row + q.y) (column + q.x) (omega (arith, fits.1)) (omega (arith, fits.0))
    ∙ ap (λ b. if b then pixel format r.width r.height planes c (row + q.y - q.y) (column + q.x - q.x) else black c) there
    ∙ ap (λ n. pixel format r.width r.height planes c n (column + q.x - q.x)) up ∙ ap (pixel format r.width r.height planes c row) left)
    ∙ picture_of_pixels format r.width r.height planes v
