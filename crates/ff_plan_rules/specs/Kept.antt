-- What plans need of the rules of graphs besides `AreRules`.
use Rattle.std.specs.Prelude.{◌≡◌, ◌≢◌, ◌≤◌, true, List, [], ◌∷◌, length, map, Option, Some, Ok, Err}
use Rattle.std.specs.List.{AllByRecursion}
use Rattle.ff_time.specs.Fraction.{IsBase}
use Rattle.ff_frame.specs.declared.config.ConfigError.TheVariants as fault
use Rattle.ff_frame.specs.declared.head.StreamHead.{StreamHead}
use Rattle.ff_frame.specs.declared.head.StreamHead.TheVariants.{Audio, Video}
use Rattle.ff_frame.specs.Heads.{base_of_head}
use Rattle.ff_lang.specs.declared.graph.Graph.{Graph}
use Rattle.ff_words.specs.declared.job.OutputJob.{OutputJob}
use Rattle.ff_plan_layout.specs.laws.Graphs.{IsHad}
use Rattle.ff_plan_layout.specs.Streams.{takes_head}
use Rattle.ff_plan_layout.specs.Rules.{Rules}
use Rattle.ff_plan_layout.specs.declared.open_pads.OpenOut.{OpenOut}
use Rattle.ff_plan_layout.specs.declared.open_pads.Refused.{Refused}

-- sound of 1 to 8 channels, or pictures
abbrev pub HasFewChannels : StreamHead → Type 0
HasFewChannels (Audio tb rate bits channels codec) = (1 ≤ channels) × (channels ≤ 8)
HasFewChannels (Video tb format width height sar_num sar_den) = Unit {0}

-- samples of 4 to 32 bits, or pictures
abbrev pub HasFewBits : StreamHead → Type 0
HasFewBits (Audio tb rate bits channels codec) = (4 ≤ bits) × (bits ≤ 32)
HasFewBits (Video tb format width height sar_num sar_den) = Unit {0}

-- a head whose stream can be coded and written: its time base is one, and sound has 1 to 8 channels and samples of 4 to 32 bits
pub record IsFitHead (h : StreamHead) : Type 0 where
  pub base : IsBase (base_of_head h)
  pub channels : HasFewChannels h
  pub bits : HasFewBits h

abbrev pub AreFitHeads : List StreamHead → Type 0
AreFitHeads heads = AllByRecursion IsFitHead heads

-- A graph that can be had has at most 16 open input pads. Where the heads that it gets are fit, those that it gives are; an output that
-- takes a stream takes what a graph of one input and one output makes of it. Why a graph is refused is never that there was no memory.
pub record KeepHeads (rules : Rules) : Type 0 where
  pub few : (g : Graph) (heads : List (Option StreamHead)) (outs : List OpenOut) → IsHad rules g heads outs → length (rules.open_ins g) ≤ 16
  pub kept : (g : Graph) (heads : List StreamHead) (outs : List OpenOut) → rules.configured g (map (λ (h : StreamHead). Some h) heads) ≡ Ok outs
      → AreFitHeads heads → AllByRecursion (λ (out : OpenOut). IsFitHead out.head) outs
  pub taken : (out : OutputJob) (g : Graph) (head : StreamHead) (made : OpenOut) → rules.configured g (Some head ∷ []) ≡ Ok (made ∷ [])
      → takes_head out head ≡ true → takes_head out made.head ≡ true
  pub reason : (g : Graph) (heads : List (Option StreamHead)) (r : Refused) → rules.configured g heads ≡ Err r → r.kind ≢ fault.NoMemory
