-- The pictures of the worked examples.
use Rattle.std.specs.Prelude.{ℕ, List, [], ◌∷◌, pos}
use Rattle.ff_frame.specs.declared.video.Format.TheVariants.{C422, Mono}
use Rattle.ff_frame.specs.declared.video.VFrame.{VFrame}
use Rattle.ff_frame.specs.Frame.{video_frame}
use Rattle.ff_planes.specs.declared.rectangle.Rectangle.{Rectangle}

-- three columns and two rows of 4:2:0: six pixels of Y, two of Cb and two of Cr
abbrev pub three_by_two : List ℕ
three_by_two = 1 ∷ 2 ∷ 3 ∷ 4 ∷ 5 ∷ 6 ∷ 7 ∷ 8 ∷ 9 ∷ 10 ∷ []

abbrev pub right_column : Rectangle
right_column = record { x = 2; y = 0; width = 1; height = 2 }

-- two columns and two rows, behind two columns
abbrev pub in_the_middle : Rectangle
in_the_middle = record { x = 2; y = 0; width = 2; height = 2 }

-- a picture without colour
abbrev pub grey : ℕ → ℕ → List ℕ → VFrame
grey width height planes = video_frame (pos 0) (pos 1) Mono width height planes

-- two columns and one row of 4:2:2: two pixels of Y, one of Cb and one of Cr
abbrev pub two_by_one : List ℕ → VFrame
two_by_one planes = video_frame (pos 0) (pos 1) C422 2 1 planes
