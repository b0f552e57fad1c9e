use Rattle.std.proofs.Common.{◌≡◌, length}
use Rattle.ff_flac_subframe.proofs.RiceLemmas.ReadsRice.{all-weaker}
use Rattle.ff_flac_dec.specs.Values.{channel_samples}
use Rattle.ff_flac_subframe.specs.laws.Part.{part_for}
use Rattle.ff_flac_subframe.specs.Subframe.{candidates}
use Rattle.ff_flac_subframe.proofs.Restored.{StandsFor, candidates_stand}
use Rattle.ff_flac_subframe.proofs.laws.subframes_stand_for_their_samples.Goals as goal

pub returns : goal.returns
returns c = λ xs. all-weaker (StandsFor xs) (λ s. channel_samples (length xs) (part_for xs s) ≡ xs) (λ s h. h.1) (candidates xs) (candidates_stand xs)
