-- A plane on black: rows above, rows with black at both sides, and rows below.
use Rattle.std.proofs.Common.{◌≡◌, ℕ, zero, suc, ◌+◌, ◌-◌, ◌*◌, ◌<◌, ◌≤◌, true, false, List, [], ◌++◌, replicate, length, sym, ap, ◌∙◌, arith, zero-mul, suc-mul}
use Rattle.std.specs.Prelude.{if◌then◌else◌}
use Rattle.std.proofs.lemmas.Bool.Decides.{nat_tests}
use Rattle.std.proofs.lemmas.List.{append_assoc, replicate-append-replicate}
use Rattle.ff_frame.specs.declared.video.Format.{Format}
use Rattle.ff_frame.specs.Video.{chroma_width, chroma_height}
use Rattle.ff_planes.specs.declared.rectangle.Rectangle.{Rectangle}
use Rattle.ff_planes.specs.declared.component.Component.TheVariants.{Luma, Blue, Red}
use Rattle.ff_planes.specs.Grid.{plane, line, lines, row_of, sample}
use Rattle.ff_planes.specs.Parts.{IsPart, in_chroma, holds, padded, on_black, between_values}
use Rattle.ff_planes.proofs.RowLaws.{lines-same, lines-add, row-same, row-add, row_is_one_value, line_is_row}
use Rattle.ff_planes.proofs.PartLaws.{three_planes}

pub holds_inside : (r : Rectangle) (row column : ℕ) → r.y ≤ row → row < r.y + r.height → r.x ≤ column → column < r.x + r.width → holds r row column ≡ true
holds_inside r row column a b c d = grind (arith, nat_tests)

not_above : (r : Rectangle) (row column : ℕ) → row < r.y → holds r row column ≡ false
not_above r row column lt = grind (arith, nat_tests)

not_below : (r : Rectangle) (row column : ℕ) → r.y + r.height ≤ row → holds r row column ≡ false
not_below r row column h = grind (arith, nat_tests)

not_left : (r : Rectangle) (row column : ℕ) → column < r.x → holds r row column ≡ false
not_left r row column lt = grind (arith, nat_tests)

not_right : (r : Rectangle) (row column : ℕ) → r.x + r.width ≤ column → holds r row column ≡ false
not_right r row column h = grind (arith, nat_tests)

lines_of_one_value : (n columns v : ℕ) (f : ℕ → List ℕ) → ((r : ℕ) → r < n → f r ≡ replicate columns v) → lines n f ≡ replicate (n * columns) v
lines_of_one_value zero columns v f same = ap (λ k. replicate k v) (sym (zero-mul columns))
lines_of_one_value (suc n) columns v f same =
    let before : lines n f ≡ replicate (n * columns) v = lines_of_one_value n columns v f (λ r lt. same r (omega arith)) in
    ap (λ xs. xs ++ f n) before ∙ ap (λ xs. replicate (n * columns) v ++ xs) (same n (omega arith))
    ∙ replicate-append-replicate (n * columns) columns v ∙ ap (λ k. replicate k v) (sym (suc-mul n columns))

module _ (value : ℕ) (r : Rectangle) (bytes : List ℕ) where
  -- the pixel at a row and a column of the plane on black
  abbrev shown : ℕ → ℕ → ℕ
  shown row column = if holds r row column then sample r.width bytes (row - r.y) (column - r.x) else value

  black_row : (columns row : ℕ) → ((column : ℕ) → holds r row column ≡ false) → row_of columns (shown row) ≡ replicate columns value
  black_row columns row out =
      row-same columns (shown row) (λ column. value) (λ column lt. ap (λ b. if b then sample r.width bytes (row - r.y) (column - r.x) else value) (out column))
      ∙ row_is_one_value columns value

  mixed_row : (right row : ℕ) → length bytes ≡ r.height * r.width → row < r.height → row_of (r.x + (r.width + right)) (shown (r.y + row)) ≡ between_values value r.x right r.width bytes row
  mixed_row right row long lt =
      let at : ℕ → ℕ = shown (r.y + row) in
      let left_is : row_of r.x at ≡ replicate r.x value =
      row-same r.x at (λ column. value) (λ column less. ap (λ b. if b then sample r.width bytes (r.y + row - r.y) (column - r.x) else value) (not_left r (r.y + row) column less))
      ∙ row_is_one_value r.x value in
      let middle_is : row_of r.width (λ k. at (r.x + k)) ≡ line r.width bytes row =
      row-same r.width (λ k. at (r.x + k)) (sample r.width bytes row)
      (λ k less.
      let up : r.y + row - r.y ≡ row = omega arith in
      let along : r.x + k - r.x ≡ k = omega arith in
      ap (λ b. if b then sample r.width bytes (r.y + row - r.y) (r.x + k - r.x) else value) (holds_inside r (r.y + row) (r.x + k) (omega arith) (omega arith) (omega arith) (omega arith))
      ∙ ap (λ m. sample r.width bytes m (r.x + k - r.x)) up ∙ ap (sample r.width bytes row) along)
      ∙ sym (line_is_row r.width r.height row bytes long lt) in
      let right_is : row_of right (λ k. at (r.x + (r.width + k))) ≡ replicate right value =
      row-same right (λ k. at (r.x + (r.width + k))) (λ k. value)
      (λ k less. ap (λ b. if b then sample r.width bytes (r.y + row - r.y) (r.x + (r.width + k) - r.x) else value) (not_right r (r.y + row) (r.x + (r.width + k)) (omega arith)))
      ∙ row_is_one_value right value in
      row-add r.x (r.width + right) at
      ∙ ap (λ xs. row_of r.x at ++ xs) (row-add r.width right (λ k. at (r.x + k)))
      ∙ ap (λ xs. xs ++ (row_of r.width (λ k. at (r.x + k)) ++ row_of right (λ k. at (r.x + (r.width + k))))) left_is
      ∙ ap (λ xs. replicate r.x value ++ (xs ++ row_of right (λ k. at (r.x + (r.width + k))))) middle_is
      ∙ ap (λ xs. replicate r.x value ++ (line r.width bytes row ++ xs)) right_is

  on_black_parts : (columns right below : ℕ) → length bytes ≡ r.height * r.width → columns ≡ r.x + (r.width + right) →
      on_black value columns (r.y + (r.height + below)) r bytes ≡ replicate (r.y * columns) value ++ (lines r.height (between_values value r.x right r.width bytes) ++ replicate (below * columns) value)
  on_black_parts columns right below long wide =
      let at : ℕ → List ℕ = λ row. row_of columns (shown row) in
      let above_is : lines r.y at ≡ replicate (r.y * columns) value =
      lines_of_one_value r.y columns value at (λ row lt. black_row columns row (λ column. not_above r row column lt)) in
      let middle_is : lines r.height (λ k. at (r.y + k)) ≡ lines r.height (between_values value r.x right r.width bytes) =
      lines-same r.height (λ k. at (r.y + k)) (between_values value r.x right r.width bytes)
      (λ k lt. ap (λ n. row_of n (shown (r.y + k))) wide ∙ mixed_row right k long lt) in
      let below_is : lines below (λ k. at (r.y + (r.height + k))) ≡ replicate (below * columns) value =
      lines_of_one_value below columns value (λ k. at (r.y + (r.height + k))) (λ k lt. black_row columns (r.y + (r.height + k)) (λ column. not_below r (r.y + (r.height + k)) column (omega arith))) in
      lines-add r.y (r.height + below) at
      ∙ ap (λ xs. lines r.y at ++ xs) (lines-add r.height below (λ k. at (r.y + k)))
      ∙ ap (λ xs. xs ++ (lines r.height (λ k. at (r.y + k)) ++ lines below (λ k. at (r.y + (r.height + k))))) above_is
      ∙ ap (λ xs. replicate (r.y * columns) value ++ (xs ++ lines below (λ k. at (r.y + (r.height + k))))) middle_is
      ∙ ap (λ xs. replicate (r.y * columns) value ++ (lines r.height (between_values value r.x right r.width bytes) ++ xs)) below_is

pub pushed_on_black : (value columns rows right below : ℕ) (r : Rectangle) (bytes out a b d : List ℕ) → length bytes ≡ r.height * r.width → IsPart columns rows r →
    right ≡ columns - r.x - r.width → below ≡ rows - r.y - r.height →
    a ≡ out ++ replicate (r.y * columns) value → b ≡ a ++ lines r.height (between_values value r.x right r.width bytes) → d ≡ b ++ replicate (below * columns) value →
    d ≡ out ++ on_black value columns rows r bytes
pushed_on_black value columns rows right below r bytes out a b d long inside across down x y z =
    let wide : columns ≡ r.x + (r.width + right) = omega (arith, inside.columns) in
    let high : r.y + (r.height + below) ≡ rows = omega (arith, inside.rows) in
    z ∙ ap (λ xs. xs ++ replicate (below * columns) value) (y ∙ ap (λ xs. xs ++ lines r.height (between_values value r.x right r.width bytes)) x ∙ append_assoc out (replicate (r.y * columns) value) (lines r.height (between_values value r.x right r.width bytes)))
    ∙ append_assoc out (replicate (r.y * columns) value ++ lines r.height (between_values value r.x right r.width bytes)) (replicate (below * columns) value)
    ∙ ap (λ xs. out ++ xs) (append_assoc (replicate (r.y * columns) value) (lines r.height (between_values value r.x right r.width bytes)) (replicate (below * columns) value))
    ∙ ap (λ xs. out ++ xs) (sym (on_black_parts value r bytes columns right below long wide))
    ∙ ap (λ n. out ++ on_black value columns n r bytes) high

pub padded_by_planes : (format : Format) (width height cw ch : ℕ) (r chroma : Rectangle) (planes first second third a b d : List ℕ) →
    chroma ≡ in_chroma format r → cw ≡ chroma_width format width → ch ≡ chroma_height format height →
    first ≡ plane format r.width r.height planes Luma → second ≡ plane format r.width r.height planes Blue → third ≡ plane format r.width r.height planes Red →
    a ≡ [] ++ on_black 16 width height r first → b ≡ a ++ on_black 128 cw ch chroma second → d ≡ b ++ on_black 128 cw ch chroma third → d ≡ padded format width height r planes
unfolding padded
padded_by_planes format width height cw ch r chroma planes first second third a b d part wide high f s t x y z =
    let one : ℕ → ℕ → Rectangle → List ℕ → List ℕ = on_black 128 in
    three_planes (on_black 16 width height r first) (one cw ch chroma second) (one cw ch chroma third) a b d x y z
    ∙ ap (λ xs. on_black 16 width height r xs ++ (one cw ch chroma second ++ one cw ch chroma third)) f
    ∙ ap (λ j. on_black 16 width height r (plane format r.width r.height planes Luma) ++ (one j ch chroma second ++ one j ch chroma third)) wide
    ∙ ap (λ j. on_black 16 width height r (plane format r.width r.height planes Luma) ++ (one (chroma_width format width) j chroma second ++ one (chroma_width format width) j chroma third)) high
    ∙ ap (λ q. on_black 16 width height r (plane format r.width r.height planes Luma) ++ (one (chroma_width format width) (chroma_height format height) q second ++ one (chroma_width format width) (chroma_height format height) q third)) part
    ∙ ap (λ xs. on_black 16 width height r (plane format r.width r.height planes Luma) ++ (one (chroma_width format width) (chroma_height format height) (in_chroma format r) xs ++ one (chroma_width format width) (chroma_height format height) (in_chroma format r) third)) s
    ∙ ap (λ xs. on_black 16 width height r (plane format r.width r.height planes Luma) ++ (one (chroma_width format width) (chroma_height format height) (in_chroma format r) (plane format r.width r.height planes Blue) ++ one (chroma_width format width) (chroma_height format height) (in_chroma format r) xs)) t
