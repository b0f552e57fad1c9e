-- Parts of planes, and planes on black, row by row.
use Rattle.std.proofs.Common.{◌≡◌, ℕ, ◌+◌, ◌-◌, ◌*◌, ◌<◌, ◌≤◌, List, [], ◌++◌, take, drop, length, get_or, sym, ap, ◌∙◌, arith}
use Rattle.std.proofs.lemmas.Nat.{row_fits}
use Rattle.std.proofs.lemmas.List.{append_assoc}
use Rattle.ff_frame.specs.declared.video.Format.{Format}
use Rattle.ff_frame.specs.Video.{chroma_width}
use Rattle.ff_planes.specs.declared.rectangle.Rectangle.{Rectangle}
use Rattle.ff_planes.specs.declared.component.Component.TheVariants.{Luma, Blue, Red}
use Rattle.ff_planes.specs.Grid.{plane, lines, row_of, sample}
use Rattle.ff_planes.specs.Parts.{IsPart, in_chroma, cropped, part_of}
use Rattle.ff_planes.proofs.RowLaws.{lines-more, part_is_row, row-same}

-- a row of what a rectangle shows
abbrev pub part_row : ℕ → List ℕ → Rectangle → ℕ → List ℕ
part_row columns bytes r row = row_of r.width (λ column. sample columns bytes (row + r.y) (column + r.x))

pub one_more_part : (columns rows row k : ℕ) (r : Rectangle) (bytes out : List ℕ) → length bytes ≡ rows * columns → IsPart columns rows r → r.y ≤ row → row < r.y + r.height → k ≡ r.width →
    (out ++ lines (row - r.y) (part_row columns bytes r)) ++ take k (drop (row * columns + r.x) bytes) ≡ out ++ lines (row + 1 - r.y) (part_row columns bytes r)
one_more_part columns rows row k r bytes out long inside low high wide =
    let room : row * columns + columns ≤ length bytes = omega (arith, row_fits row columns rows columns (omega (arith, inside.rows)) (omega arith)) in
    let here : row - r.y + r.y ≡ row = omega arith in
    let next : row + 1 - r.y ≡ row - r.y + 1 = omega arith in
    let part : take r.width (drop (row * columns + r.x) bytes) ≡ part_row columns bytes r (row - r.y) =
    part_is_row (row * columns + r.x) r.width bytes (omega (arith, inside.columns))
    ∙ row-same r.width (λ c. get_or bytes (row * columns + r.x + c) 0) (λ c. sample columns bytes (row - r.y + r.y) (c + r.x))
    (λ c lt. let place : row * columns + r.x + c ≡ row * columns + (c + r.x) = omega arith in
    ap (λ j. get_or bytes j 0) place ∙ ap (λ j. get_or bytes (j * columns + (c + r.x)) 0) (sym here)) in
    append_assoc out (lines (row - r.y) (part_row columns bytes r)) (take k (drop (row * columns + r.x) bytes))
    ∙ ap (λ j. out ++ (lines (row - r.y) (part_row columns bytes r) ++ take j (drop (row * columns + r.x) bytes))) wide
    ∙ ap (λ xs. out ++ (lines (row - r.y) (part_row columns bytes r) ++ xs)) part
    ∙ ap (λ xs. out ++ xs) (sym (lines-more (row - r.y) (part_row columns bytes r)))
    ∙ ap (λ j. out ++ lines j (part_row columns bytes r)) (sym next)

-- the three planes one behind the other
pub three_planes : (x y z a b d : List ℕ) → a ≡ [] ++ x → b ≡ a ++ y → d ≡ b ++ z → d ≡ x ++ (y ++ z)
three_planes x y z a b d e f g = g ∙ ap (λ xs. xs ++ z) (f ∙ ap (λ xs. xs ++ y) e) ∙ append_assoc x y z

pub cropped_by_planes : (format : Format) (width height cw : ℕ) (r chroma : Rectangle) (planes first second third a b d : List ℕ) →
    chroma ≡ in_chroma format r → cw ≡ chroma_width format width →
    first ≡ plane format width height planes Luma → second ≡ plane format width height planes Blue → third ≡ plane format width height planes Red →
    a ≡ [] ++ part_of width first r → b ≡ a ++ part_of cw second chroma → d ≡ b ++ part_of cw third chroma → d ≡ cropped format width height r planes
unfolding cropped
cropped_by_planes format width height cw r chroma planes first second third a b d part wide f s t x y z =
    three_planes (part_of width first r) (part_of cw second chroma) (part_of cw third chroma) a b d x y z
    ∙ ap (λ xs. part_of width xs r ++ (part_of cw second chroma ++ part_of cw third chroma)) f
    ∙ ap (λ j. part_of width (plane format width height planes Luma) r ++ (part_of j second chroma ++ part_of j third chroma)) wide
    ∙ ap (λ q. part_of width (plane format width height planes Luma) r ++ (part_of (chroma_width format width) second q ++ part_of (chroma_width format width) third q)) part
    ∙ ap (λ xs. part_of width (plane format width height planes Luma) r ++ (part_of (chroma_width format width) xs (in_chroma format r) ++ part_of (chroma_width format width) third (in_chroma format r))) s
    ∙ ap (λ xs. part_of width (plane format width height planes Luma) r ++ (part_of (chroma_width format width) (plane format width height planes Blue) (in_chroma format r) ++ part_of (chroma_width format width) xs (in_chroma format r))) t
