-- Where a limit cuts what a filter gives.
use Rattle.std.specs.List.{AllByRecursion}
use Rattle.std.specs.Prelude.{◌≡◌, ℕ, ◌<◌, Bool, true, List, length, Some}
use Rattle.ff_frame.specs.declared.head.StreamHead.{StreamHead}
use Rattle.ff_stream.specs.declared.item.Lane.{Lane}
use Rattle.ff_stream.specs.Ports.{stream_at, AllUnbroken, IsUnbroken}
use Rattle.ff_stream.specs.Within.{some_pass, passes_limits, within}
use Rattle.ff_net.specs.Ways.{lane_at, AreValid}
use Rattle.ff_filter.specs.Joins.{Flow, Ports, all_opened}
use Rattle.ff_filter.specs.Views.{View}
use Rattle.ff_concat.specs.laws.Fed.{CanFollow}
use Rattle.ff_node_filter.specs.Limiting.{some_broken}

-- an output is broken though the filter isn't told of the breaks of its inputs
abbrev pub cuts_in : View → List Flow → Bool
cuts_in v ss = some_broken (length v.outs) (v.rest (all_opened (stream_at ss)))

-- Of valid streams f is what `free` is, each output up to the limits of its lane; and free of limits, none breaks off where no input does.
pub record IsWithin (ins outs : List Lane) (f free : Ports → Ports) : Type 0 where
  pub cut : (ss : List Flow) → AreValid ins ss → (q : ℕ) (lane : Lane) → lane_at outs q ≡ Some lane
      → f (stream_at ss) q ≡ within (passes_limits lane) (free (stream_at ss) q)
  pub unbroken : (ss : List Flow) → AreValid ins ss → AllUnbroken ss → (q : ℕ) → q < length outs → IsUnbroken (free (stream_at ss) q)

-- an item of one of these streams passes a limit of its output
pub record PassesLimit (outs : List Lane) (ss : Ports) : Type 0 where
  pub port : ℕ
  pub lane : Lane
  pub there : lane_at outs port ≡ Some lane
  pub passes : some_pass (passes_limits lane) 0 (ss port).items ≡ true

-- heads of streams: their time bases are time bases, and audio of them may be zeros
abbrev pub AreStreamHeads : List StreamHead → Type 0
AreStreamHeads heads = AllByRecursion CanFollow heads
