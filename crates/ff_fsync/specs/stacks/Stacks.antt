-- Streams of stacked pictures (ffmpeg-filters, "hstack" and "vstack").
use Rattle.std.specs.Prelude.{◌≡◌, suc, Bool, false, Option, Some, None, List, [], ◌∷◌, map, length, Result, Ok, Err}
use Rattle.ff_frame.specs.declared.config.ConfigError.{ConfigError}
use Rattle.ff_frame.specs.declared.config.ConfigError.TheVariants.{Pads}
use Rattle.ff_frame.specs.declared.head.StreamHead.{StreamHead}
use Rattle.ff_stream.specs.declared.item.Lane.TheVariants.{Frames}
use Rattle.ff_stream.specs.Lanes.{IsValid}
use Rattle.ff_stream.specs.Within.{within, passes_limits}
use Rattle.ff_lang.specs.declared.graph.Arg.{Arg}
use Rattle.ff_filter.specs.Joins.{Flow, Ports}
use Rattle.ff_filter.specs.Options.{is_video, AreRead}
use Rattle.ff_filter.specs.Views.{View}
use Rattle.ff_fsync.specs.Pictures.{timed}
use Rattle.ff_fsync.specs.Sides.{kept, shown_as}
use Rattle.ff_fsync.specs.Synced.{synced}
use Rattle.ff_fsync.specs.declared.stacks.options.StackSettings.{StackSettings}
use Rattle.ff_fsync.specs.declared.stacks.shape.Direction.{Direction}
use Rattle.ff_fsync.specs.stacks.Bases.{all_told, units_on, in_common}
use Rattle.ff_fsync.specs.stacks.Heads.{total, with_length, input_fault, stack_fault}
use Rattle.ff_fsync.specs.stacks.Options.{stack_manual, counted}
use Rattle.ff_fsync.specs.declared.stacks.plan.Plan.{Plan}
use Rattle.ff_fsync.specs.stacks.Shapes.{stacked, shape_of}

-- a stack: its inputs, whether it ends where the first of them does, and its head
pub record StackOf : Type 0 where
  pub direction : Direction
  pub heads : List StreamHead
  pub shortest : Bool
  pub head : StreamHead

abbrev pub head_of : StackOf → StreamHead
head_of m = m.head

-- Of streams of frames, with their times in units of the output's base. Of each the frames count that start after those
-- before, as all of a valid stream do. At each time at which one of them starts a frame: the last of each by then, stacked.
abbrev pub stacked_of : StackOf → Ports → Flow
stacked_of m ss =
    synced (timed (length m.heads) m.shortest) (shown_as (stacked (shape_of m.direction m.head))) (λ p. kept 0 (all_told (units_on m.heads m.head) ss p))

-- each is a valid stream of its head
abbrev pub AreStreamsOf : List StreamHead → Ports → Type 0
AreStreamsOf [] ss = Unit {0}
AreStreamsOf (h ∷ hs) ss = IsValid (Frames h) (ss 0) × AreStreamsOf hs (λ p. ss (suc p))

-- the machine before anything was fed: all that, within the limits of its output
abbrev pub stack_view : StackOf → View
stack_view m = record {
  ins = map Frames m.heads;
  outs = Frames m.head ∷ [];
  rest = λ ext q. within (passes_limits (Frames m.head)) (stacked_of m ext);
  shut = λ p. false;
  ended = λ q. false;
  stopped = λ q. false;
}

-- the fault, if there is one; else the others decide
abbrev pub Unless : {X : Type 0} → Option ConfigError → Result X ConfigError → Type 0 → Type 0
Unless (Some e) r Others = r ≡ Err e
Unless None r Others = Others

-- of these streams, of which this is the first
abbrev pub stack_on : Direction → StreamHead → List StreamHead → Bool → StackOf
stack_on d h heads shortest = record { direction = d; heads = heads; shortest = shortest; head = with_length d (total d heads) (in_common heads h) }

abbrev pub IsPlanned : Direction → StreamHead → List StreamHead → Bool → Result StackOf ConfigError → Type 0
IsPlanned d h heads shortest r =
    Unless (stack_fault d h heads) r (r ≡ Ok (stack_on d h heads shortest))

abbrev pub AfterRead : Direction → List StreamHead → Result StackOf ConfigError → Result StackSettings ConfigError → Type 0
AfterRead d heads r (Err e) = r ≡ Err e
AfterRead d [] r (Ok s) = r ≡ Err Pads
AfterRead d (h ∷ hs) r (Ok s) = IsPlanned d h (h ∷ hs) s.shortest r

-- A stack by its arguments and the heads of its inputs: their number and kinds decide first, then the arguments in their
-- order, then whether the inputs are alike and have a common base, then the size. The head of the stack is the first input's,
-- with their sum in the direction of stacking and with the common base.
abbrev pub IsStack : Direction → List Arg → List StreamHead → Result StackOf ConfigError → Type 0
IsStack d args heads r =
    Unless (input_fault (counted false 0 2 args) is_video heads) r
    ((q : Result StackSettings ConfigError) × AreRead stack_manual false 0 (record { inputs = 2; shortest = false }) args q × AfterRead d heads r q)

-- the stack that a plan makes of these streams
abbrev pub stack_by : Plan → List StreamHead → StackOf
stack_by p heads = record { direction = p.shape.direction; heads = heads; shortest = p.shortest; head = p.head }

abbrev pub planned_by : List StreamHead → Result Plan ConfigError → Result StackOf ConfigError
planned_by heads (Ok p) = Ok (stack_by p heads)
planned_by heads (Err e) = Err e
