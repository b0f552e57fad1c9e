-- Streams of pictures mirrored left to right (ffmpeg-filters, "hflip").
use Rattle.std.specs.Prelude.{◌≡◌, if◌then◌else◌, List, Result, Ok}
use Rattle.ff_frame.specs.declared.config.ConfigError.{ConfigError}
use Rattle.ff_frame.specs.declared.head.StreamHead.{StreamHead}
use Rattle.ff_frame.specs.declared.video.VFrame.{VFrame}
use Rattle.ff_stream.specs.declared.item.Lane.TheVariants.{Frames}
use Rattle.ff_lang.specs.declared.graph.Arg.{Arg}
use Rattle.ff_filter.specs.declared.after.After.TheVariants.{More}
use Rattle.ff_filter.specs.Options.{is_video, IsConfigured}
use Rattle.ff_filter.specs.Plain.{no_manual}
use Rattle.ff_filter.specs.Singles.{single_view}
use Rattle.ff_filter.specs.Views.{View}
use Rattle.ff_planes.specs.Flips.{hflipped}
use Rattle.ff_vfilter.specs.Pictures.{agrees, repainted}

-- the picture with its planes mirrored; one whose fields don't agree stays
abbrev pub hflip_frame : VFrame → VFrame
hflip_frame f = if agrees f then record f { planes = hflipped f.format f.width f.height f.planes } else f

-- `hflip` by its arguments, of which it takes none: the head of its input
abbrev pub IsHFlip : List Arg → List StreamHead → Result StreamHead ConfigError → Type 0
IsHFlip args heads r = IsConfigured is_video no_manual (record {}) (λ head s q. q ≡ Ok head) args heads r

abbrev pub hflip_view : StreamHead → View
hflip_view head = single_view (Frames head) head (λ s. repainted hflip_frame s) More
