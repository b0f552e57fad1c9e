-- The pixels of a picture are those that made it.
use Rattle.std.proofs.Common.{◌≡◌, ℕ, ◌+◌, ◌-◌, ◌*◌, ◌<◌, List, ◌++◌, take, drop, length, get_or, sym, ap, ◌∙◌, arith, mul_comm}
use Rattle.std.specs.Prelude.{if◌then◌else◌}
use Rattle.std.proofs.lemmas.List.{length-append, take_at, drop_at, get_or-take, get_or-drop}
use Rattle.std.proofs.lemmas.List.FromFn.{length-map-range_with_len, get_or-map-range_with_len}
use Rattle.ff_frame.specs.declared.video.Format.{Format}
use Rattle.ff_frame.specs.declared.video.VFrame.{VFrame}
use Rattle.ff_frame.specs.Video.{frame_size, chroma_width, chroma_height}
use Rattle.ff_planes.specs.declared.component.Component.{Component}
use Rattle.ff_planes.specs.declared.component.Component.TheVariants.{Luma, Blue, Red}
use Rattle.ff_planes.specs.declared.rectangle.Rectangle.{Rectangle}
use Rattle.ff_planes.specs.Grid.{columns, rows, plane, line, lines, row_of, plane_of, picture_of, sample, pixel}
use Rattle.ff_planes.specs.Flips.{hflipped, vflipped}
use Rattle.ff_planes.specs.Parts.{in_plane, holds, black, cropped, padded}
use Rattle.ff_planes.specs.Stacks.{beside, below, hstacked, vstacked}
use Rattle.ff_planes.proofs.RowLaws.{length-lines, length-plane_of, lines-add}

-- ---- how many there are

pub length-picture_of : (format : Format) (width height : ℕ) (at : Component → ℕ → ℕ → ℕ) → length (picture_of format width height at) ≡ frame_size format width height
length-picture_of format width height at =
    let first : List ℕ = plane_of width height (at Luma) in
    let second : List ℕ = plane_of (chroma_width format width) (chroma_height format height) (at Blue) in
    let third : List ℕ = plane_of (chroma_width format width) (chroma_height format height) (at Red) in
    let one : length first ≡ height * width = length-plane_of width height (at Luma) in
    let two : length second ≡ chroma_height format height * chroma_width format width = length-plane_of (chroma_width format width) (chroma_height format height) (at Blue) in
    let three : length third ≡ chroma_height format height * chroma_width format width = length-plane_of (chroma_width format width) (chroma_height format height) (at Red) in
    length-append first (second ++ third) ∙ omega (arith, length-append second third, mul_comm width height, mul_comm (chroma_width format width) (chroma_height format height))

pub length-hflipped : (format : Format) (width height : ℕ) (planes : List ℕ) → length (hflipped format width height planes) ≡ frame_size format width height
unfolding hflipped
length-hflipped format width height planes = length-picture_of format width height (λ c row column. pixel format width height planes c row (columns format width c - 1 - column))

pub length-vflipped : (format : Format) (width height : ℕ) (planes : List ℕ) → length (vflipped format width height planes) ≡ frame_size format width height
unfolding vflipped
length-vflipped format width height planes = length-picture_of format width height (λ c row column. pixel format width height planes c (rows format height c - 1 - row) column)

pub length-cropped : (format : Format) (width height : ℕ) (r : Rectangle) (planes : List ℕ) → length (cropped format width height r planes) ≡ frame_size format r.width r.height
unfolding cropped
length-cropped format width height r planes =
    length-picture_of format r.width r.height (λ c row column. pixel format width height planes c (row + (in_plane format r c).y) (column + (in_plane format r c).x))

pub length-padded : (format : Format) (width height : ℕ) (r : Rectangle) (planes : List ℕ) → length (padded format width height r planes) ≡ frame_size format width height
unfolding padded
length-padded format width height r planes =
    length-picture_of format width height (λ c row column. if holds (in_plane format r c) row column then pixel format r.width r.height planes c (row - (in_plane format r c).y) (column - (in_plane format r c).x) else black c)

pub length-hstacked : (format : Format) (width height : ℕ) (fs : List VFrame) → length (hstacked format width height fs) ≡ frame_size format width height
unfolding hstacked
length-hstacked format width height fs = length-picture_of format width height (beside format height fs)

pub length-vstacked : (format : Format) (width height : ℕ) (fs : List VFrame) → length (vstacked format width height fs) ≡ frame_size format width height
unfolding vstacked
length-vstacked format width height fs = length-picture_of format width height (below format width fs)

-- ---- which they are

line_of_lines : (w n r : ℕ) (f : ℕ → List ℕ) → ((k : ℕ) → k < n → length (f k) ≡ w) → r < n → line w (lines n f) r ≡ f r
line_of_lines w n r f wide lt =
    let rest : ℕ = n - r - 1 in
    let size : r + (1 + rest) ≡ n = omega arith in
    let g : ℕ → List ℕ = λ k. f (r + k) in
    let here : r + 0 ≡ r = omega arith in
    let start : length (lines r f) ≡ r * w = length-lines r w f (λ k less. wide k (omega arith)) in
    let one : length (f r) ≡ w = wide r lt in
    ap (λ m. line w (lines m f) r) (sym size)
    ∙ ap (λ xs. line w xs r) (lines-add r (1 + rest) f)
    ∙ ap (take w) (drop_at (lines r f) (lines (1 + rest) g) (r * w) start)
    ∙ ap (take w) (lines-add 1 rest g)
    ∙ ap (λ xs. take w (xs ++ lines rest (λ k. g (1 + k)))) (ap f here)
    ∙ take_at (f r) (lines rest (λ k. g (1 + k))) w one

sample_of_plane : (w n r c : ℕ) (at : ℕ → ℕ → ℕ) → r < n → c < w → sample w (plane_of w n at) r c ≡ at r c
sample_of_plane w n r c at lt less =
    let bytes : List ℕ = plane_of w n at in
    sym (get_or-take w (drop (r * w) bytes) c 0 less ∙ get_or-drop (r * w) bytes c 0)
    ∙ ap (λ xs. get_or xs c 0) (line_of_lines w n r (λ k. row_of w (at k)) (λ k also. length-map-range_with_len (at k) 0 w) lt)
    ∙ get_or-map-range_with_len (at r) 0 w c c 0 less (omega arith)

plane_of_picture : (format : Format) (width height : ℕ) (at : Component → ℕ → ℕ → ℕ) (c : Component) → plane format width height (picture_of format width height at) c ≡ plane_of (columns format width c) (rows format height c) (at c)
plane_of_picture format width height at Luma =
    take_at (plane_of width height (at Luma)) (plane_of (chroma_width format width) (chroma_height format height) (at Blue) ++ plane_of (chroma_width format width) (chroma_height format height) (at Red)) (height * width) (length-plane_of width height (at Luma))
plane_of_picture format width height at Blue =
    let second : List ℕ = plane_of (chroma_width format width) (chroma_height format height) (at Blue) in
    let third : List ℕ = plane_of (chroma_width format width) (chroma_height format height) (at Red) in
    ap (take (chroma_height format height * chroma_width format width)) (drop_at (plane_of width height (at Luma)) (second ++ third) (height * width) (length-plane_of width height (at Luma)))
    ∙ take_at second third (chroma_height format height * chroma_width format width) (length-plane_of (chroma_width format width) (chroma_height format height) (at Blue))
plane_of_picture format width height at Red =
    let second : List ℕ = plane_of (chroma_width format width) (chroma_height format height) (at Blue) in
    let third : List ℕ = plane_of (chroma_width format width) (chroma_height format height) (at Red) in
    ap (drop (chroma_height format height * chroma_width format width)) (drop_at (plane_of width height (at Luma)) (second ++ third) (height * width) (length-plane_of width height (at Luma)))
    ∙ drop_at second third (chroma_height format height * chroma_width format width) (length-plane_of (chroma_width format width) (chroma_height format height) (at Blue))

pub pixel_of_picture : (format : Format) (width height : ℕ) (at : Component → ℕ → ℕ → ℕ) (c : Component) (row column : ℕ) → row < rows format height c → column < columns format width c →
    pixel format width height (picture_of format width height at) c row column ≡ at c row column
pixel_of_picture format width height at c row column lt less =
    ap (λ xs. sample (columns format width c) xs row column) (plane_of_picture format width height at c)
    ∙ sample_of_plane (columns format width c) (rows format height c) row column (at c) lt less
