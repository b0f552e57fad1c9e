-- Streams of pictures mirrored top to bottom (ffmpeg-filters, "vflip").
use Rattle.std.specs.Prelude.{◌≡◌, if◌then◌else◌, List, Result, Ok}
use Rattle.ff_frame.specs.declared.config.ConfigError.{ConfigError}
use Rattle.ff_frame.specs.declared.head.StreamHead.{StreamHead}
use Rattle.ff_frame.specs.declared.video.VFrame.{VFrame}
use Rattle.ff_stream.specs.declared.item.Lane.TheVariants.{Frames}
use Rattle.ff_lang.specs.declared.graph.Arg.{Arg}
use Rattle.ff_filter.specs.declared.after.After.TheVariants.{More}
use Rattle.ff_filter.specs.Options.{is_video, IsConfigured}
use Rattle.ff_filter.specs.Plain.{no_manual}
use Rattle.ff_filter.specs.Singles.{single_view}
use Rattle.ff_filter.specs.Views.{View}
use Rattle.ff_planes.specs.Flips.{vflipped}
use Rattle.ff_vfilter.specs.Pictures.{agrees, repainted}

-- the picture with its planes mirrored; one whose fields don't agree stays
abbrev pub vflip_frame : VFrame → VFrame
vflip_frame f = if agrees f then record f { planes = vflipped f.format f.width f.height f.planes } else f

-- `vflip` by its arguments, of which it takes none: the head of its input
abbrev pub IsVFlip : List Arg → List StreamHead → Result StreamHead ConfigError → Type 0
IsVFlip args heads r = IsConfigured is_video no_manual (record {}) (λ head s q. q ≡ Ok head) args heads r

abbrev pub vflip_view : StreamHead → View
vflip_view head = single_view (Frames head) head (λ s. repainted vflip_frame s) More
