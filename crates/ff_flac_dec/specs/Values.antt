-- The samples that a subframe stands for (RFC 9639, sections 9.2.3 to 9.2.7).
use Rattle.std.specs.Prelude.{ℕ, ◌^◌, List, map, replicate, slice_index_or, ℤ, pos, ◌*ℤ◌}
use Rattle.ff_flac_frame.specs.declared.subframe.SubKind.{SubKind}
use Rattle.ff_flac_frame.specs.declared.subframe.SubKind.TheVariants.{Constant, Verbatim, Fixed, Lpc}
use Rattle.ff_flac_frame.specs.Frame.{Part}
use Rattle.ff_flac_frame.specs.Prediction.{fixed, linear, restored}

abbrev pub samples_as : ℕ → Part → SubKind → List ℤ
samples_as block p Constant = replicate block (slice_index_or p.warm 0 (pos 0))
samples_as block p Verbatim = p.warm
samples_as block p Fixed = restored (fixed p.order) p.warm p.rest
samples_as block p Lpc = restored (linear p.coefs p.shift) p.warm p.rest

-- the samples without their wasted bits
unfoldable pub coded_samples : ℕ → Part → List ℤ
coded_samples block p = samples_as block p p.kind

-- the samples: as many zeros behind each as bits were wasted (section 9.2.2)
unfoldable pub channel_samples : ℕ → Part → List ℤ
channel_samples block p = map (λ x. x *ℤ pos (2 ^ p.wasted)) (coded_samples block p)
