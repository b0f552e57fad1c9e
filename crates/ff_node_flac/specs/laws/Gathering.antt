-- Blocks on their way from the frames that were fed to the packets that are given.
use Rattle.std.specs.Prelude.{◌≡◌, ℕ, ◌+◌, List, [], ◌∷◌, ◌++◌, length}
use mathlib.Core.List.{IsPrefix}
use Rattle.ff_frame.specs.declared.audio.AFrame.{AFrame}
use Rattle.ff_flac_enc.specs.declared.blocks.Blocks.{Blocks}
use Rattle.ff_flac_enc.specs.declared.counter.Counter.{Counter}
use Rattle.ff_flac_enc.specs.laws.Blocks.{IsCoded}
use Rattle.ff_flac_enc.specs.laws.Cuts.{Cuts, has_ended}
use Rattle.ff_flac_enc.specs.Gathered.{blocks_due}
use Rattle.ff_flac_enc.specs.Totals.{Counts}
use Rattle.ff_node_flac.specs.Packets.{added_from}

-- these are the bytes of the first blocks, numbered from this number on
abbrev pub AreCodes : ℕ → List (List ℕ) → List AFrame → Type 0
AreCodes number [] blocks = Unit {0}
AreCodes number (c ∷ cs) [] = ⊥
AreCodes number (c ∷ cs) (b ∷ bs) = IsCoded b number c × AreCodes (number + 1) cs bs

-- these frames were fed and these blocks given, of all that are due of the frames; so many more were cut, and the first of these
-- are coded
pub record Gathers (blocks : Blocks) (cut : List AFrame) (codes : List (List ℕ)) (counter : Counter) (given : ℕ) (fed done : List AFrame) : Type 0 where
  pub number : length done ≡ given
  pub cuts : Cuts blocks fed (given + length cut)
  pub due : IsPrefix (done ++ cut) (blocks_due (has_ended blocks) fed)
  pub coded : AreCodes given codes cut
  pub counts : Counts counter (added_from 0 done)
