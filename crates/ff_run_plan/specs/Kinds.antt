-- The kinds of node of a plan: what each is there for, and what of a part is seen from outside.
use Rattle.std.specs.Prelude.{◌≡◌, ℕ, ◌+◌, ◌<◌, ◌≤◌, nat_eq, Bool, false, List, [], ◌∷◌, filter, length, map, slice_get, Option, None, Some, IfSome, IsSome, Ok}
use Rattle.std.specs.List.{AllByRecursion, filter_map, range_with_len}
use Rattle.ff_time.specs.declared.cut.TimeCut.{TimeCut}
use Rattle.ff_trim.specs.declared.counted.OutputCut.{OutputCut}
use Rattle.ff_frame.specs.declared.head.StreamHead.{StreamHead}
use Rattle.ff_frame.specs.declared.event.Event.{Event}
use Rattle.ff_frame.specs.declared.event.Event.TheVariants.{Grant, Sent, Finished, Best, Exited}
use Rattle.ff_source.specs.declared.made.Made.{Made}
use Rattle.ff_source.specs.Sources.{head_of}
use Rattle.ff_stream.specs.declared.item.Lane.{Lane}
use Rattle.ff_stream.specs.declared.item.Lane.TheVariants.{Frames}
use Rattle.ff_stream.specs.Ports.{stream_at, IsClosed, IsWhole}
use Rattle.ff_lang.specs.declared.graph.Graph.{Graph}
use Rattle.ff_words.specs.declared.job.OutputJob.{OutputJob}
use Rattle.ff_net.specs.Pasts.{Past, Task, count_of}
use Rattle.ff_net.specs.laws.Views.{View}
use Rattle.ff_net.specs.Ways.{Flow}
use Rattle.ff_files.specs.Works.{HoldsPart}
use Rattle.ff_graph_links.specs.labels.Clear.{IsClear}
use Rattle.ff_plan_layout.specs.Rules.{Rules}
use Rattle.ff_plan_layout.specs.Sources.{made_at_pad}
use Rattle.ff_plan_layout.specs.declared.open_pads.OpenOut.{OpenOut}
use Rattle.ff_run_plan.specs.declared.kinds.Ends.{Ends}
use Rattle.ff_run_plan.specs.declared.kinds.Ends.TheVariants as ends

-- of heads H of inputs
pub record KindsOf (H : Type 0) : Type 1 where
  -- what is true of every head that is read, and the heads of the streams that it tells of, by number
  pub IsHead : H → Type 0
  pub streams : H → List StreamHead
  -- what a plan asks of filters, and what is true of the heads of all frames in it
  pub rules : Rules
  pub IsFrames : StreamHead → Type 0
  -- what the demuxer of the input of this number with this head is there for, where the streams of these numbers are used, by the input's bytes
  pub demux_task : ℕ → H → List ℕ → List ℕ → Task
  -- what source filters can give, and what the source of this number is there for that gives it
  pub CanMake : Made → Type 0
  pub gen_task : ℕ → Made → Task
  -- the streams that can be decoded, and what a decoder with this cut behind it and so many outputs is there for
  pub CanDecode : StreamHead → Type 0
  pub dec_task : StreamHead → TimeCut → ℕ → Task
  -- the graphs of a text that can be had with frames of these heads at their inputs and of those at their outputs, and what the
  -- graph of this number is there for, with a cut behind each of its outputs
  pub CanFilter : Graph → List StreamHead → List StreamHead → Type 0
  pub graph_task : ℕ → Graph → List StreamHead → List OutputCut → Task
  -- the frames that can go to an output together, and what a node of these is there for, where they end with the shortest or are
  -- given as they are
  pub CanJoin : List StreamHead → Type 0
  pub shortest_task : Bool → List StreamHead → Task
  -- the streams that can be coded as others, and what an encoder is there for
  pub CanEncode : StreamHead → StreamHead → Type 0
  pub enc_task : StreamHead → StreamHead → Task
  -- the packets that can be written to an output, by the heads of their streams, what a muxer of these is there for, where the first is
  -- the output stream of this number, the file of such streams, which is none while one isn't whole, the text of which a front is held
  -- until then, and the events of the output stream of this number by its packets, once that has closed
  pub CanMux : OutputJob → List StreamHead → Type 0
  pub mux_task : ℕ → OutputJob → List StreamHead → Task
  pub file : OutputJob → List StreamHead → List Flow → Option (List ℕ)
  pub text : OutputJob → List StreamHead → List Flow → List ℕ
  pub events : ℕ → StreamHead → Flow → List Event

-- some numbers rise from one on
abbrev pub RiseFrom : ℕ → List ℕ → Type 0
RiseFrom n [] = Unit {0}
RiseFrom n (m ∷ ms) = (n ≤ m) × RiseFrom (m + 1) ms

-- of an input with these streams those of these numbers are used, one at least
pub record AreUsed (streams : List StreamHead) (used : List ℕ) : Type 0 where
  pub some : 1 ≤ length used
  pub rise : RiseFrom 0 used
  pub there : AllByRecursion (λ n. n < length streams) used

-- their heads
abbrev pub used_heads : List StreamHead → List ℕ → List StreamHead
used_heads streams used = filter_map (λ n. slice_get streams n) used

-- the streams at the first so many inputs
abbrev pub first_streams : ℕ → List Flow → List Flow
first_streams n ss = map (λ p. stream_at ss p) (range_with_len 0 n)

-- an event of the output stream of this number: a packet was sent to it, or it has finished
abbrev pub is_of_stream : ℕ → Event → Bool
is_of_stream n (Grant s) = false
is_of_stream n (Sent j t) = nat_eq j n
is_of_stream n (Finished j) = nat_eq j n
is_of_stream n (Best g i) = false
is_of_stream n (Exited s) = false

-- a part that nothing was done with: its number, where it is a source, the lanes of its ports, no fault, and the name and the
-- failures of its source or sink
pub record IsNew (source : Option ℕ) (ins outs : List Lane) (device : Option (List ℕ)) (failures : ℕ) (v : View) : Type 0 where
  pub source_is : v.source ≡ source
  pub in_lanes : v.in_lanes ≡ ins
  pub out_lanes : v.out_lanes ≡ outs
  pub sound : v.fault ≡ None
  pub device_is : v.device ≡ device
  pub failures_are : v.failures ≡ failures

-- the source or the sink of a part
pub record IsEndOf {E : Type 0} (named : E → Option (List ℕ)) (failed : E → ℕ) (v : View) (end : E) : Type 0 where
  pub name : named end ≡ v.device
  pub faults : failed end ≡ v.failures

-- all that a part has to tell that is a source is that it has exited, and it tried at most one unit more than its task has
pub record TellsExit (v : View) : Type 0 where
  pub exits : (past : Past) (number : ℕ) → v.stands past → v.source ≡ Some number → past.task.tells past.feeds ≡ Exited number ∷ []
  pub few : (past : Past) (number : ℕ) → v.stands past → v.source ≡ Some number → v.tried ≤ count_of past.task.source + 1

-- the sink of a part, and what it holds where the part is a muxer that was fed something, and has to tell of each stream that has closed
pub record IsSinkOf {H K : Type 0} (is : KindsOf H) (holds called : K → Option (List ℕ)) (faulted : K → ℕ) (v : View) (snk : K) : Type 0 where
  pub name : called snk ≡ v.device
  pub faults : faulted snk ≡ v.failures
  pub whole : (past : Past) (first : ℕ) (out : OutputJob) (coded : List StreamHead) → v.stands past → past.task ≡ is.mux_task first out coded → v.fault ≡ None
      → ((p : ℕ) → p < length coded → IsWhole (stream_at past.got p))
      → IsSome (is.file out coded (first_streams (length coded) past.got)) × (holds snk ≡ is.file out coded (first_streams (length coded) past.got))
  pub part : (past : Past) (first : ℕ) (out : OutputJob) (coded : List StreamHead) → v.stands past → past.task ≡ is.mux_task first out coded
      → HoldsPart (holds snk) (is.text out coded (first_streams (length coded) past.got)) (is.file out coded (first_streams (length coded) past.got))
  pub told : (past : Past) (first : ℕ) (out : OutputJob) (coded : List StreamHead) (p : ℕ) (head : StreamHead) → v.stands past → past.task ≡ is.mux_task first out coded
      → slice_get coded p ≡ Some head → IsClosed (stream_at past.got p)
      → filter (is_of_stream (first + p)) (past.task.tells past.feeds) ≡ is.events (first + p) head (stream_at past.got p)

-- of frames at all open pads of a text without a loop, whose labels are clear, the rules make a graph that can be had
abbrev pub GraphsAreHad : {H : Type 0} → KindsOf H → Type 0
GraphsAreHad is = (text : Graph) (heads : List StreamHead) (outs : List OpenOut) → is.rules.configured text (map (λ h. Some h) heads) ≡ Ok outs
    → length heads ≡ length (is.rules.open_ins text) → is.rules.loops text ≡ false → IsClear text → AllByRecursion is.IsFrames heads
    → is.CanFilter text heads (map (λ (out : OpenOut). out.head) outs)

-- what the source filters of a text give can be made, and what is true of the heads of all frames is true of its head
abbrev pub SourcesAreHad : {H : Type 0} → KindsOf H → Type 0
SourcesAreHad is = (text : Graph) → AllByRecursion (λ i. IfSome (made_at_pad i) (λ made. is.CanMake made × is.IsFrames (head_of made))) (is.rules.open_ins text)

-- the lanes of the frames of one stream
abbrev pub AreOneStream : List Lane → Type 0
AreOneStream lanes = (head : StreamHead) × (lanes ≡ Frames head ∷ [])

-- what a part gives back: a demuxer, which has no inputs, its source, a muxer, which has no outputs, its sink; a part without either that has
-- no inputs gives frames
abbrev pub GivesEnds : {H S K : Type 0} → KindsOf H → (S → Option (List ℕ)) → (S → ℕ) → (K → Option (List ℕ)) → (K → Option (List ℕ)) → (K → ℕ) → View → Ends S K → Type 0
GivesEnds is named failed holds called faulted v (ends.Source src) = IsEndOf named failed v src × (v.out_lanes ≡ [] → ⊥)
GivesEnds is named failed holds called faulted v (ends.Sink snk) = IsSinkOf is holds called faulted v snk × (v.in_lanes ≡ [] → ⊥)
GivesEnds is named failed holds called faulted v ends.Neither = (v.in_lanes ≡ [] → AreOneStream v.out_lanes) × (v.out_lanes ≡ [] → ⊥)
