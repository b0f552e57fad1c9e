-- A source that gives frames, as what it means.
use Rattle.std.specs.Prelude.{◌≡◌, ℕ, Bool, true, false, cond, if◌then◌else◌, List, drop, Option, None, Some}
use Rattle.ff_frame.specs.declared.head.StreamHead.{StreamHead}
use Rattle.ff_stream.specs.declared.item.Item.{Item}
use Rattle.ff_stream.specs.declared.item.Lane.TheVariants.{Frames}
use Rattle.ff_stream.specs.Stream.{whole_stream}
use Rattle.ff_stream.specs.Lanes.{AreInShape}
use Rattle.ff_stream.specs.Within.{some_pass, within, passes_limits}
use Rattle.ff_net.specs.declared.fault.Fault.{Fault}
use Rattle.ff_net.specs.declared.fault.Fault.TheVariants.{TooLong}
use Rattle.ff_net.specs.Pasts.{Past, Task, IsIn, units_of}
use Rattle.ff_net.specs.Ways.{Flow}
use Rattle.ff_source.specs.declared.made.Made.{Made}
use Rattle.ff_source.specs.Sources.{head_of, frames_of}
use Rattle.ff_node_demux.specs.Exiting.{exits}
use Rattle.ff_node_demux.specs.Sources.{Sources, only}

-- these frames as a whole stream with this head, up to the limits of every stream
abbrev pub limited_frames : StreamHead → List Item → Flow
limited_frames head frames = within (passes_limits (Frames head)) (whole_stream frames)

-- whether some frame passes a limit
abbrev pub are_too_long : StreamHead → List Item → Bool
are_too_long head frames = some_pass (passes_limits (Frames head)) 0 frames

-- the fault of frames: their length, if one passes a limit
abbrev pub length_fault : Bool → Option Fault
length_fault long = if long then Some TooLong else None

abbrev pub frames_cause : StreamHead → List Item → List Flow → Option Fault
frames_cause head frames inputs = length_fault (are_too_long head frames)

-- what the source of this number is there for that gives these frames
abbrev pub frames_task : ℕ → StreamHead → List Item → Task
frames_task number head frames =
    record { means = only (limited_frames head frames); cause = frames_cause head frames; source = Some (units_of (limited_frames head frames)); tells = exits number }

-- what a source filter that gives this is there for
abbrev pub gen_task : ℕ → Made → Task
gen_task number made = frames_task number (head_of made) (frames_of made)

-- Of these frames so many were given, and the others are left: the state of their source after a past.
pub record Generates (left : List Item) (head : StreamHead) (given : ℕ) (ticket ended long : Bool) (past : Past) (frames : List Item) : Type 0 where
  pub shape : AreInShape (Frames head) frames
  pub sources : Sources (limited_frames head frames) given ended ticket past
  pub cause : past.task.cause ≡ frames_cause head frames
  pub rest : ended ≡ false → left ≡ drop given frames
  pub long_is : long ≡ cond ended (are_too_long head frames) false
  pub idle : ended ≡ false → IsIn 0 past.asked → ticket ≡ false

-- the state fits the past
abbrev pub GenStands : List Item → StreamHead → ℕ → Bool → Bool → Bool → Past → Type 0
GenStands left head given ticket ended long past = (frames : List Item) × Generates left head given ticket ended long past frames
