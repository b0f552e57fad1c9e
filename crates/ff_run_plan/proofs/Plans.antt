-- The plan that is made for heads which are accepted.
use Rattle.std.proofs.Common.{◌≡◌, ◌≢◌, inl, inr, ℕ, suc, ◌-◌, ◌≤◌, true, List, [], ◌∷◌, length, map, slice_get, Some, None, Ok, sym, ap, ◌∙◌, subst, arith}
use Rattle.std.specs.List.{AllByRecursion}
use Rattle.std.specs.Prelude.{All}
use Rattle.std.proofs.lemmas.List.{length-map}
use Rattle.std.proofs.lemmas.Option.{slice_get_within}
use Rattle.ff_frame.specs.declared.head.StreamHead.{StreamHead}
use Rattle.ff_words.specs.declared.job.Job.{Job}
use Rattle.ff_words.specs.declared.job.OutputJob.{OutputJob}
use Rattle.ff_stream.specs.edges.Ports.{shape_of, IsFed}
use Rattle.ff_net_threads.proofs.NetworkLemmas.PortLanes.{own_lanes_fit}
use Rattle.ff_plan.specs.declared.planned.Plan.{Plan}
use Rattle.ff_plan_layout.specs.declared.error.PlanError.{PlanError}
use Rattle.ff_plan_layout.specs.declared.error.PlanError.TheVariants.{NoMemory}
use Rattle.ff_plan.specs.declared.planned.PlanNode.{PlanNode}
use Rattle.ff_plan.specs.declared.planned.PlanNode.TheVariants as node
use Rattle.ff_plan.specs.laws.EndFits.{FitsEnd}
use Rattle.ff_plan.specs.laws.GraphFits.{GraphsFit}
use Rattle.ff_plan.specs.laws.NodeRows.{HasRows}
use Rattle.ff_plan_layout.specs.laws.Limits.{IsWithinLimits}
use Rattle.ff_plan_layout.specs.laws.Refusals.{IsRefused}
use Rattle.ff_plan.specs.Planned.{planned}
use Rattle.ff_plan_layout.specs.Rules.{Rules}
use Rattle.ff_plan_layout.specs.Sources.{sources_of}
use Rattle.ff_source.specs.declared.made.Made.{Made}
use Rattle.ff_source.specs.Sources.{head_of}
use Rattle.ff_plan.specs.laws.StartFits.{FitsGen, FitsStart, StartsFit}
use Rattle.ff_plan_layout.specs.Streams.{most_streams, packed_as, takes_head}
use Rattle.ff_plan.specs.laws.Taken.{AllFrames}
use Rattle.ff_run_plan.specs.Kinds.{KindsOf, GraphsAreHad, SourcesAreHad}
use Rattle.ff_run_plan.specs.Meaning.{plan_for, refusal_of}
use Rattle.ff_run_plan.specs.laws.Accepting.{IsAccepted, IsPlanFor}
use Rattle.ff_run_plan.specs.Asked.{asked_of}
use Rattle.ff_run_plan.specs.Parts.{AreBelow, AreFitting}
use Rattle.ff_plan.specs.laws.Sound.{IsSoundPlan}
use Rattle.ff_run_plan.proofs.Gathering.{source_kind}
use Rattle.ff_run_plan.proofs.Numbers.{there}
use Rattle.ff_run_plan.proofs.Planning as fits
use Rattle.ff_run_plan.proofs.Rows.{are_ordered, muxes_there, shortest_there}

-- each plan of a job within the limits that has an output is sound, and what is so of all heads of inputs is so of the frames on its edges
abbrev pub PlansAreSound : Rules → Type 0
PlansAreSound rules = (job : Job) (heads : List (List StreamHead)) (p : Plan) → IsWithinLimits job heads → 1 ≤ length job.outputs → planned rules job heads ≡ Ok p
    → IsSoundPlan rules job heads p

abbrev pub FramesAreKept : Rules → (StreamHead → Type 0) → Type 0
FramesAreKept rules P = (job : Job) (heads : List (List StreamHead)) (p : Plan) → 1 ≤ length job.outputs → planned rules job heads ≡ Ok p
    → AllByRecursion (λ hs. AllByRecursion P hs) heads → AllByRecursion (λ (m : Made). P (head_of m)) p.made → AllFrames P p.edges

-- what the kinds of node owe, and plans
pub record AreLawful {H : Type 0} (is : KindsOf H) : Type 0 where
  pub decodes : (h : H) → is.IsHead h → AllByRecursion is.CanDecode (is.streams h)
  pub frames : (h : H) → is.IsHead h → AllByRecursion is.IsFrames (is.streams h)
  pub plans : PlansAreSound is.rules
  pub carries : FramesAreKept is.rules is.IsFrames
  pub sources : (job : Job) (heads : List (List StreamHead)) (p : Plan) → planned is.rules job heads ≡ Ok p → p.made ≡ sources_of is.rules job.graphs
  pub makes : SourcesAreHad is
  pub filters : GraphsAreHad is
  pub joins : (heads : List StreamHead) → AllByRecursion is.IsFrames heads → 1 ≤ length heads → is.CanJoin heads
  pub encodes : (h : StreamHead) (out : OutputJob) → is.IsFrames h → takes_head out h ≡ true → is.CanEncode h (packed_as out h)
  pub writes : (hs : List StreamHead) (out : OutputJob) → AllByRecursion (λ h. is.IsFrames h × (takes_head out h ≡ true)) hs → 1 ≤ length hs → length hs ≤ most_streams out.format
      → is.CanMux out (map (λ h. packed_as out h) hs)

module _ {H : Type 0} (is : KindsOf H) (job : Job) (heads : List H) (accepted : IsAccepted is job heads) where
  abbrev pub streams : List (List StreamHead)
  streams = map is.streams heads

  many : length streams ≡ length heads
  many = length-map heads is.streams

  -- there is no refusal where there is a plan, and the refusal of one is the plan's
  pub none_refused : (lists : List (List StreamHead)) (plan : Plan) → lists ≡ streams → planned is.rules job lists ≡ Ok plan → refusal_of is job (plan_for is job heads) ≡ None
  none_refused lists plan e made = ap (refusal_of is job) (ap (planned is.rules job) (sym e) ∙ made)

  pub is_refused : (lists : List (List StreamHead)) (refusal : PlanError) → lists ≡ streams → IsRefused (planned is.rules job lists) refusal → refusal ≢ NoMemory → refusal_of is job (plan_for is job heads) ≡ Some refusal
  is_refused lists refusal e (inl memory) other = absurd (other memory)
  is_refused lists refusal e (inr made) other = ap (refusal_of is job) (ap (planned is.rules job) (sym e) ∙ made)

  all_second : (P Q : Made → Type 0) (ms : List Made) → AllByRecursion (λ m. P m × Q m) ms → AllByRecursion Q ms
  all_second P Q [] all = tt
  all_second P Q (m ∷ ms) all = (all.0.1, all_second P Q ms all.1)

  -- what is true of the heads of frames is true of the heads of inputs
  all_frames : ((h : H) → is.IsHead h → AllByRecursion is.IsFrames (is.streams h)) → (hs : List H) → All is.IsHead hs → AllByRecursion (λ xs. AllByRecursion is.IsFrames xs) (map is.streams hs)
  all_frames own [] all = tt
  all_frames own (h ∷ hs) all = (own h (all 0 h (omega arith)), all_frames own hs (λ i d lt. all (suc i) d (omega (arith, lt))))

  module _ (laws : AreLawful is) (plan : Plan) (made : planned is.rules job streams ≡ Ok plan) (within : IsWithinLimits job streams) where
    sound : IsSoundPlan is.rules job streams plan
    sound = laws.plans job streams plan within accepted.some_outputs made

    -- what its source filters give can be made, of frames as others are
    makes : AllByRecursion (λ m. is.CanMake m × is.IsFrames (head_of m)) plan.made
    makes =
        subst (λ (ms : List Made). AllByRecursion (λ m. is.CanMake m × is.IsFrames (head_of m)) ms) (sym (laws.sources job streams plan made))
        (fits.sources_all is laws.makes job.graphs)

    frames : AllFrames is.IsFrames plan.edges
    frames =
        laws.carries job streams plan accepted.some_outputs made (all_frames laws.frames heads accepted.sound)
        (all_second is.CanMake (λ m. is.IsFrames (head_of m)) plan.made makes)

    -- its sources are those inputs and these source filters
    below : HasRows (length heads) (length job.outputs) plan.nodes → StartsFit streams plan → AreBelow plan.routes.sources plan.nodes
    below rows starts k i at =
        let order = are_ordered (length heads) (length job.outputs) plan.nodes rows in
        let sources = sound.sources in
        elim (source_kind (slice_get plan.nodes k) i at) [
          | inl demux ↦ (let lt = order.inputs_there k i demux in omega (arith, lt, sources, many))
          | inr gen ↦
              let f : FitsGen (length streams) plan.made plan.edges k i = starts k (node.Gen i) gen in
              let le = f.behind in
              let lt = slice_get_within plan.made (i - length streams) f.source f.is in
              omega (arith, le, lt, sources)
        ]

    -- the plan's nodes fit the kinds of part
    are_fitting : HasRows (length heads) (length job.outputs) plan.nodes → GraphsFit is.rules job plan → StartsFit streams plan → AreFitting is (asked_of job plan.texts plan.made plan.nodes) heads plan.edges plan.nodes
    are_fitting rows graphs starts k n at = by n at (starts k n at) (sound.outputs.ends.fit k n at) where
      by : (n : PlanNode) → slice_get plan.nodes k ≡ Some n → FitsStart streams plan.made plan.nodes plan.edges k n → FitsEnd job.outputs sound.outputs.ends.heads plan.edges k n
          → fits.Fits is job heads plan accepted.sound frames k n
      by (node.Demux i) at start end = fits.demux_fits is job heads plan accepted.sound frames k i (sound.used k i at) start
      by (node.Gen i) at start end = fits.gen_fits is job heads plan accepted.sound frames (many ∙ accepted.count) makes k i start
      by (node.Dec ref) at start end = fits.dec_fits is job heads plan accepted.sound frames laws.decodes k ref start
      by (node.Graph g) at start end = fits.graph_fits is job heads plan accepted.sound frames laws.filters k g (graphs k g at)
      by (node.Shortest o) at start end =
          let out = there job.outputs o (shortest_there (length heads) (length job.outputs) plan.nodes rows k o at) in
          fits.shortest_fits is job heads plan accepted.sound frames sound.outputs (are_ordered (length heads) (length job.outputs) plan.nodes rows) laws.joins k o out.0 out.1 end
      by (node.Enc o j) at start end =
          fits.enc_fits is job heads plan accepted.sound frames sound.outputs (are_ordered (length heads) (length job.outputs) plan.nodes rows) laws.encodes k o j at end
      by (node.Mux o) at start end =
          fits.mux_fits is job heads plan accepted.sound frames sound.outputs (are_ordered (length heads) (length job.outputs) plan.nodes rows) sound.coded laws.writes k o at end

    plan_is : HasRows (length streams) (length job.outputs) plan.nodes → GraphsFit is.rules job plan → StartsFit streams plan → IsFed (shape_of plan.edges) (length plan.nodes) plan.edges
        → IsPlanFor is job heads plan
    plan_is rows graphs starts fed =
        let here : HasRows (length heads) (length job.outputs) plan.nodes = subst (λ (n : ℕ). HasRows n (length job.outputs) plan.nodes) many rows in
        let order = are_ordered (length heads) (length job.outputs) plan.nodes here in record {
          made = made;
          few = (here.few, (let few = accepted.few_inputs in let same = accepted.count in omega (arith, few, same)));
          queue = accepted.queue;
          routes = sound.routes;
          sources = (let s = sound.sources in omega (arith, s, many));
          below = below here starts;
          fits = own_lanes_fit (length plan.nodes) plan.edges fed (λ k lt. sound.ins k) (λ k lt. sound.outs k);
          fitting = are_fitting here graphs starts;
          numbers = fits.have_numbers (length heads) (asked_of job plan.texts plan.made plan.nodes) plan.edges plan.nodes order sound.few;
          ordered = order;
          muxes = muxes_there (length heads) (length job.outputs) plan.nodes here;
        }

  -- by the lists that the plan was made for
  pub is_plan : AreLawful is → (lists : List (List StreamHead)) (plan : Plan) → lists ≡ streams → IsWithinLimits job lists → planned is.rules job lists ≡ Ok plan
      → (IsWithinLimits job lists → planned is.rules job lists ≡ Ok plan → HasRows (length lists) (length job.outputs) plan.nodes)
      → (1 ≤ length job.outputs → planned is.rules job lists ≡ Ok plan → GraphsFit is.rules job plan)
      → (1 ≤ length job.outputs → planned is.rules job lists ≡ Ok plan → StartsFit lists plan)
      → (1 ≤ length job.outputs → planned is.rules job lists ≡ Ok plan → IsFed (shape_of plan.edges) (length plan.nodes) plan.edges)
      → IsPlanFor is job heads plan
  is_plan laws lists plan e within made rows graphs starts fed =
      plan_is laws plan (ap (planned is.rules job) (sym e) ∙ made) (subst (IsWithinLimits job) e within)
      (subst (λ (hs : List (List StreamHead)). HasRows (length hs) (length job.outputs) plan.nodes) e (rows within made))
      (graphs accepted.some_outputs made) (subst (λ (hs : List (List StreamHead)). StartsFit hs plan) e (starts accepted.some_outputs made)) (fed accepted.some_outputs made)
