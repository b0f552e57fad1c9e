-- A picture made plane by plane.
use Rattle.std.proofs.Common.{◌≡◌, ℕ, ◌*◌, List, ◌++◌, take, drop, refl, ap, ◌∙◌}
use Rattle.ff_frame.specs.declared.video.Format.{Format}
use Rattle.ff_frame.specs.Video.{chroma_width, chroma_height}
use Rattle.ff_planes.specs.declared.component.Component.TheVariants.{Luma, Blue, Red}
use Rattle.ff_planes.specs.Grid.{plane}
use Rattle.ff_planes.specs.Flips.{hflipped, vflipped, mirrored, turned_over}

-- each plane by itself, one behind the other
abbrev pub each_plane : (ℕ → ℕ → List ℕ → List ℕ) → Format → ℕ → ℕ → List ℕ → List ℕ
each_plane make format width height planes =
    make width height (plane format width height planes Luma)
    ++ (make (chroma_width format width) (chroma_height format height) (plane format width height planes Blue)
    ++ make (chroma_width format width) (chroma_height format height) (plane format width height planes Red))

-- the planes as they are split off
pub record IsSplit (format : Format) (width height : ℕ) (planes first second third : List ℕ) : Type 0 where
  pub first_is : first ≡ plane format width height planes Luma
  pub second_is : second ≡ plane format width height planes Blue
  pub third_is : third ≡ plane format width height planes Red

pub split_planes : (format : Format) (width height cw ch : ℕ) (planes first rest second third : List ℕ) →
    cw ≡ chroma_width format width → ch ≡ chroma_height format height →
    first ≡ take (height * width) planes → rest ≡ drop (height * width) planes → second ≡ take (ch * cw) rest → third ≡ drop (ch * cw) rest →
    IsSplit format width height planes first second third
split_planes format width height cw ch planes first rest second third w h e f g i =
    let size : ch * cw ≡ chroma_height format height * chroma_width format width = cc in
    record { first_is = e; second_is = g ∙ ap (λ n. take n rest) size ∙ ap (take (chroma_height format height * chroma_width format width)) f; third_is = i ∙ ap (λ n. drop n rest) size ∙ ap (drop (chroma_height format height * chroma_width format width)) f }

pub made_of_planes : (make : ℕ → ℕ → List ℕ → List ℕ) (format : Format) (width height cw ch : ℕ) (planes first second third a b d : List ℕ) →
    cw ≡ chroma_width format width → ch ≡ chroma_height format height → IsSplit format width height planes first second third →
    a ≡ make width height first → b ≡ make cw ch second → d ≡ make cw ch third → a ++ (b ++ d) ≡ each_plane make format width height planes
made_of_planes make format width height cw ch planes first second third a b d w h s x y z =
    let luma_is : a ≡ make width height (plane format width height planes Luma) = x ∙ ap (make width height) s.first_is in
    let blue_is : b ≡ make (chroma_width format width) (chroma_height format height) (plane format width height planes Blue) =
    y ∙ ap (λ n. make n ch second) w ∙ ap (λ n. make (chroma_width format width) n second) h ∙ ap (make (chroma_width format width) (chroma_height format height)) s.second_is in
    let red_is : d ≡ make (chroma_width format width) (chroma_height format height) (plane format width height planes Red) =
    z ∙ ap (λ n. make n ch third) w ∙ ap (λ n. make (chroma_width format width) n third) h ∙ ap (make (chroma_width format width) (chroma_height format height)) s.third_is in
    ap (λ xs. xs ++ (b ++ d)) luma_is
    ∙ ap (λ xs. make width height (plane format width height planes Luma) ++ (xs ++ d)) blue_is
    ∙ ap (λ xs. make width height (plane format width height planes Luma) ++ (make (chroma_width format width) (chroma_height format height) (plane format width height planes Blue) ++ xs)) red_is

pub hflipped_by_planes : (format : Format) (width height : ℕ) (planes : List ℕ) → each_plane mirrored format width height planes ≡ hflipped format width height planes
unfolding hflipped
hflipped_by_planes format width height planes = refl

pub vflipped_by_planes : (format : Format) (width height : ℕ) (planes : List ℕ) → each_plane turned_over format width height planes ≡ vflipped format width height planes
unfolding vflipped
vflipped_by_planes format width height planes = refl
