-- What a plan's nodes and edges are to the kinds of part.
use Rattle.std.proofs.Common.{◌≡◌, ℕ, zero, suc, ◌-◌, ◌<◌, ◌≤◌, true, List, [], ◌∷◌, length, map, replicate, slice_get, slice_index_or, Option, Some, None, refl, sym, ap, ◌∙◌, subst, arith}
use Rattle.std.specs.Prelude.{◌++◌, IfSome}
use Rattle.std.specs.List.{All, AllByRecursion, cons_option, filter, filter_map, flat_map}
use Rattle.std.proofs.lemmas.Option.{slice_get_within, get_or_from_slice_get}
use Rattle.std.proofs.lemmas.List.{length-map, length-replicate}
use Rattle.ff_frame.specs.declared.head.StreamHead.{StreamHead}
use Rattle.ff_stream.specs.declared.item.Lane.{Lane}
use Rattle.ff_stream.specs.declared.item.Lane.TheVariants.{Frames, Packets}
use Rattle.ff_words.specs.declared.maps.streams.Stream.{Stream}
use Rattle.ff_words.specs.declared.maps.streams.StreamRef.{StreamRef}
use Rattle.ff_words.specs.maps.Choice.{streams_from}
use Rattle.ff_words.specs.declared.job.Job.{Job}
use Rattle.ff_words.specs.declared.job.OutputJob.{OutputJob}
use Rattle.ff_stream.specs.declared.edges.edge.Edge.{Edge}
use Rattle.ff_stream.specs.edges.Ports.{lane_of, lanes_into, lanes_out_of, edges_to, shape_of}
use Rattle.ff_lang.specs.declared.graph.Graph.{Graph}
use Rattle.ff_source.specs.declared.made.Made.{Made}
use Rattle.ff_source.specs.Sources.{head_of}
use Rattle.ff_plan_layout.specs.declared.open_pads.OpenIn.{OpenIn}
use Rattle.ff_plan_layout.specs.declared.open_pads.OpenOut.{OpenOut}
use Rattle.ff_plan_layout.specs.Rules.{Rules}
use Rattle.ff_plan_layout.specs.Sources.{made_at_pad, sources_of}
use Rattle.ff_plan_layout.specs.declared.layout.GraphText.{GraphText}
use Rattle.ff_plan.specs.declared.planned.Plan.{Plan}
use Rattle.ff_plan.specs.declared.planned.PlanNode.{PlanNode}
use Rattle.ff_plan.specs.declared.planned.PlanNode.TheVariants as node
use Rattle.ff_plan.specs.Decoded.{decoded_of}
use Rattle.ff_plan.specs.laws.EndFits as ends
use Rattle.ff_plan.specs.laws.GraphFits as graphs
use Rattle.ff_plan.specs.Numbers.{streams_between}
use Rattle.ff_plan.specs.laws.StartFits as starts
use Rattle.ff_plan_layout.specs.Streams.{most_streams, packed_as, takes_head}
use Rattle.ff_plan.specs.laws.Taken.{AllFrames, HasFrames, OutputsFit}
use Rattle.ff_run_plan.specs.Asked.{Asked, asked_of, text_there}
use Rattle.ff_run_plan.specs.Kinds.{KindsOf, AreUsed, used_heads, GraphsAreHad, SourcesAreHad}
use Rattle.ff_run_plan.specs.Parts.{IsFitting, AreOrdered, HaveNumbers}
use Rattle.ff_run_plan.proofs.Rows.{all_at}
use Rattle.ff_run_plan.proofs.StreamNumbers.{one_past}
use Rattle.ff_run_plan.proofs.Used.{are_shown, row_of, stream_of}

-- ---- lists

all_from : {A : Type 0} (P : A → Type 0) (xs : List A) → ((j : ℕ) (x : A) → slice_get xs j ≡ Some x → P x) → AllByRecursion P xs
all_from P [] each = tt
all_from P (x ∷ xs) each = (each 0 x refl, all_from P xs (λ j y e. each (suc j) y e))

both_all : {A : Type 0} (P Q : A → Type 0) (xs : List A) → AllByRecursion P xs → AllByRecursion Q xs → AllByRecursion (λ x. P x × Q x) xs
both_all P Q [] p q = tt
both_all P Q (x ∷ xs) p q = ((p.0, q.0), both_all P Q xs p.1 q.1)

two_maps : {A B C : Type 0} (f : A → B) (g : B → C) (xs : List A) → map (λ x. g (f x)) xs ≡ map g (map f xs)
two_maps f g [] = refl
two_maps f g (x ∷ xs) = ap (λ (ys : List _). g (f x) ∷ ys) (two_maps f g xs)

-- ---- the frames on the edges at a node

module _ (P : StreamHead → Type 0) where
  lane_has : (edges : List Edge) (w : ℕ) (l : Lane) → AllFrames P edges → lane_of edges w ≡ Some l → HasFrames P l
  lane_has [] w l all e = absurd cc
  lane_has (d ∷ ds) zero l all e = (let same : Some d.lane ≡ Some l = e in let is : d.lane ≡ l = cc in subst (HasFrames P) is all.0)
  lane_has (d ∷ ds) (suc w) l all e = lane_has ds w l all.1 e

  lanes_step : (o : Option Lane) (ls : List Lane) → ((l : Lane) → o ≡ Some l → HasFrames P l) → AllByRecursion (HasFrames P) ls → AllByRecursion (HasFrames P) (cons_option o ls)
  lanes_step None ls has all = all
  lanes_step (Some l) ls has all = (has l refl, all)

  lanes_have : (edges : List Edge) (ws : List ℕ) → AllFrames P edges → AllByRecursion (HasFrames P) (filter_map (lane_of edges) ws)
  lanes_have edges [] all = tt
  lanes_have edges (w ∷ ws) all = lanes_step (lane_of edges w) (filter_map (lane_of edges) ws) (λ l e. lane_has edges w l all e) (lanes_have edges ws all)

  heads_have : (heads : List StreamHead) → AllByRecursion (HasFrames P) (map (λ h. Frames h) heads) → AllByRecursion P heads
  heads_have [] all = tt
  heads_have (h ∷ hs) all = (all.0, heads_have hs all.1)

  -- of frames of these heads that enter a node
  frames_in : (edges : List Edge) (k : ℕ) (heads : List StreamHead) → AllFrames P edges → lanes_into edges k ≡ map (λ h. Frames h) heads → AllByRecursion P heads
  frames_in edges k heads all e = heads_have heads (subst (AllByRecursion (HasFrames P)) e (lanes_have edges (edges_to (shape_of edges) edges k) all))

-- ---- what source filters give

made_from : (P : Made → Type 0) (pads : List OpenIn) → AllByRecursion (λ i. IfSome (made_at_pad i) P) pads → AllByRecursion P (filter_map made_at_pad pads)
made_from P [] all = tt
made_from P (i ∷ is) all = step (made_at_pad i) all.0 (made_from P is all.1)
  where
    step : (o : Option Made) → IfSome o P → AllByRecursion P (filter_map made_at_pad is) → AllByRecursion P (cons_option o (filter_map made_at_pad is))
    step None h rest = rest
    step (Some m) h rest = (h, rest)

joined_all : {A : Type 0} (P : A → Type 0) (xs ys : List A) → AllByRecursion P xs → AllByRecursion P ys → AllByRecursion P (xs ++ ys)
joined_all P [] ys a b = b
joined_all P (x ∷ xs) ys a b = (a.0, joined_all P xs ys a.1 b)

pads_all : (rules : Rules) (Q : OpenIn → Type 0) → ((text : Graph) → AllByRecursion Q (rules.open_ins text)) → (graphs : List Graph) → AllByRecursion Q (flat_map rules.open_ins graphs)
pads_all rules Q each [] = tt
pads_all rules Q each (g ∷ gs) = joined_all Q (rules.open_ins g) (flat_map rules.open_ins gs) (each g) (pads_all rules Q each gs)

-- what is so of all that source filters give is so of the sources of a job
pub sources_all : {H : Type 0} (is : KindsOf H) → SourcesAreHad is → (graphs : List Graph) → AllByRecursion (λ m. is.CanMake m × is.IsFrames (head_of m)) (sources_of is.rules graphs)
sources_all is had graphs =
    let P : Made → Type 0 = λ m. is.CanMake m × is.IsFrames (head_of m) in
    made_from P (flat_map is.rules.open_ins graphs) (pads_all is.rules (λ i. IfSome (made_at_pad i) P) had graphs)

-- ---- the lanes at the ports of a node

module _ {H : Type 0} (is : KindsOf H) (job : Job) (heads : List H) (plan : Plan) (sound : All is.IsHead heads) (frames : AllFrames is.IsFrames plan.edges) where
  abbrev pub asked : Asked
  asked = asked_of job plan.texts plan.made plan.nodes

  abbrev pub Fits : ℕ → PlanNode → Type 0
  Fits k n = IsFitting is asked heads (lanes_into plan.edges k) (lanes_out_of plan.edges k) n

  pub sound_at : (i : ℕ) (h : H) → slice_get heads i ≡ Some h → is.IsHead h
  sound_at i h at = subst is.IsHead (get_or_from_slice_get heads i h h at) (sound i h (slice_get_within heads i h at))

  abbrev rows : List (List StreamHead)
  rows = map is.streams heads

  pub demux_fits : (k i : ℕ) → 1 ≤ length (lanes_out_of plan.edges k) → starts.FitsCutter rows plan.nodes plan.edges k i → Fits k (node.Demux i)
  demux_fits k i some f =
      let shown = filter f.shown (streams_from 0 rows) in
      let many : length (lanes_out_of plan.edges k) ≡ length shown = ap (λ (ls : List Lane). length ls) f.outs ∙ length-map shown (λ (s : Stream). Packets s.head) in
      let own = are_shown rows i f.shown f.of_input (omega (arith, some, many)) in
      let h = row_of is.streams heads i own.row own.at in
      let used : decoded_of plan.nodes i ≡ map (λ (s : Stream). s.at.stream) shown = f.decoded in
      let lanes : map (λ (s : Stream). Packets s.head) shown ≡ map (λ (x : StreamHead). Packets x) (used_heads (is.streams h.0) (decoded_of plan.nodes i)) =
      two_maps (λ (s : Stream). s.head) (λ (x : StreamHead). Packets x) shown
      ∙ ap (λ (hs : List StreamHead). map (λ (x : StreamHead). Packets x) hs)
      (sym own.heads ∙ (ap (λ (xs : List StreamHead). used_heads xs (map (λ (s : Stream). s.at.stream) shown)) (sym h.2) ∙ ap (λ (ns : List ℕ). used_heads (is.streams h.0) ns) (sym used))) in
      record {
        head = h.0;
        there = h.1;
        sound = sound_at i h.0 h.1;
        ins_are = f.ins;
        used = subst (λ (ns : List ℕ). AreUsed (is.streams h.0) ns) (sym used) (subst (λ (xs : List StreamHead). AreUsed xs (map (λ (s : Stream). s.at.stream) shown)) (sym h.2) own.used);
        outs_are = f.outs ∙ lanes;
      }

  pub gen_fits : (length rows ≡ length job.inputs) → AllByRecursion (λ m. is.CanMake m × is.IsFrames (head_of m)) plan.made
      → (k i : ℕ) → starts.FitsGen (length rows) plan.made plan.edges k i → Fits k (node.Gen i)
  gen_fits many makes k i f = record {
    made = f.source;
    there = ap (λ (n : ℕ). slice_get plan.made (i - n)) (sym many) ∙ f.is;
    can = (all_at (λ m. is.CanMake m × is.IsFrames (head_of m)) plan.made (i - length rows) f.source makes f.is).0;
    ins_are = f.ins;
    outs_are = f.outs;
  }

  pub dec_fits : ((h : H) → is.IsHead h → AllByRecursion is.CanDecode (is.streams h)) → (k : ℕ) (at : StreamRef) → starts.FitsDec rows plan.edges k at → Fits k (node.Dec at)
  dec_fits decodes k at f =
      let h = stream_of is.streams heads at.input at.stream f.head f.is in
      let many : length (lanes_out_of plan.edges k) ≡ f.uses = ap length f.outs ∙ length-replicate f.uses (Frames f.head) in
      let used = f.used in record {
        head = f.head;
        can = all_at is.CanDecode (is.streams h.0) at.stream f.head (decodes h.0 (sound_at at.input h.0 h.1)) h.2;
        some = omega (arith, many, used);
        ins_are = f.ins;
        outs_are = f.outs ∙ ap (λ (n : ℕ). replicate n (Frames f.head)) (sym many);
      }

  pub graph_fits : GraphsAreHad is → (k g : ℕ) → graphs.FitsGraph is.rules job plan.texts plan.edges k g → Fits k (node.Graph g)
  graph_fits filters k g f = record {
    text = f.text;
    there = ap (λ (o : Option GraphText). text_there job o) f.at ∙ f.is;
    heads = f.heads;
    made = map (λ (out : OpenOut). out.head) f.outs;
    can = filters f.text f.heads f.outs f.made f.counted f.unlooped f.clear (frames_in is.IsFrames plan.edges k f.heads frames f.ins);
    ins_are = f.ins;
    outs_are = f.frames ∙ two_maps (λ (out : OpenOut). out.head) (λ (h : StreamHead). Frames h) f.outs;
  }

  module _ (fit : OutputsFit job.outputs plan) (ordered : AreOrdered (length heads) (length job.outputs) plan.nodes) where
    abbrev pub heads_at : ℕ → List StreamHead
    heads_at o = slice_index_or fit.ends.heads o []

    abbrev pub CodesEach : Type 0
    CodesEach = (k o j : ℕ) → slice_get plan.nodes k ≡ Some (node.Mux o) → j < length (lanes_into plan.edges k) → (e : ℕ) × (slice_get plan.nodes e ≡ Some (node.Enc o j))

    coder_frames : (e o j : ℕ) (head : StreamHead) → slice_get plan.nodes e ≡ Some (node.Enc o j) → slice_get (heads_at o) j ≡ Some head → is.IsFrames head
    coder_frames e o j head at there =
        let f : ends.FitsCoder job.outputs (heads_at o) plan.edges e o j = fit.ends.fit e (node.Enc o j) at in
        let same : Some f.head ≡ Some head = sym f.is ∙ there in
        let all = frames_in is.IsFrames plan.edges e (f.head ∷ []) frames f.ins in
        let own : f.head ≡ head = cc in
        subst is.IsFrames own all.0

    pub enc_fits : ((h : StreamHead) (out : OutputJob) → is.IsFrames h → takes_head out h ≡ true → is.CanEncode h (packed_as out h))
        → (k o j : ℕ) → slice_get plan.nodes k ≡ Some (node.Enc o j) → ends.FitsCoder job.outputs (heads_at o) plan.edges k o j → Fits k (node.Enc o j)
    enc_fits encodes k o j at f = record {
      head = f.head;
      coded = packed_as f.out f.head;
      can = encodes f.head f.out (coder_frames k o j f.head at f.is) (all_at (λ h. takes_head f.out h ≡ true) (heads_at o) j f.head (fit.taken.each o f.out f.out_is) f.is);
      ins_are = f.ins;
      outs_are = f.outs;
    }

    pub shortest_fits : ((heads : List StreamHead) → AllByRecursion is.IsFrames heads → 1 ≤ length heads → is.CanJoin heads) → (k o : ℕ) (out : OutputJob) → slice_get job.outputs o ≡ Some out
        → ends.FitsShortest (heads_at o) plan.edges k → Fits k (node.Shortest o)
    shortest_fits joins k o out there f = record {
      out = out;
      there = there;
      heads = heads_at o;
      can = joins (heads_at o) (frames_in is.IsFrames plan.edges k (heads_at o) frames f.ins) (fit.taken.some o (slice_get_within job.outputs o out there));
      ins_are = f.ins;
      outs_are = f.outs;
    }

    pub mux_fits : CodesEach
        → ((hs : List StreamHead) (out : OutputJob) → AllByRecursion (λ h. is.IsFrames h × (takes_head out h ≡ true)) hs → 1 ≤ length hs → length hs ≤ most_streams out.format
        → is.CanMux out (map (λ h. packed_as out h) hs))
        → (k o : ℕ) → slice_get plan.nodes k ≡ Some (node.Mux o) → ends.FitsWriter job.outputs (heads_at o) plan.edges k o → Fits k (node.Mux o)
    mux_fits codes writes k o at f =
        let many : length (lanes_into plan.edges k) ≡ length (heads_at o) = ap (λ (ls : List Lane). length ls) f.ins ∙ length-map (heads_at o) (λ h. Packets (packed_as f.out h)) in
        let all : AllByRecursion is.IsFrames (heads_at o) = all_from is.IsFrames (heads_at o) (λ j head there.
        let lt = slice_get_within (heads_at o) j head there in
        let e = codes k o j at (omega (arith, lt, many)) in
        coder_frames e.0 o j head e.1 there) in
        let some = fit.taken.some o (ordered.outputs_there k o at) in
        let long = length-map (heads_at o) (λ h. packed_as f.out h) in record {
          out = f.out;
          there = f.out_is;
          coded = map (λ h. packed_as f.out h) (heads_at o);
          some = omega (arith, long, some);
          can = writes (heads_at o) f.out (both_all is.IsFrames (λ h. takes_head f.out h ≡ true) (heads_at o) all (fit.taken.each o f.out f.out_is)) some (fit.taken.few o f.out f.out_is);
          ins_are = f.ins ∙ two_maps (λ h. packed_as f.out h) (λ (h : StreamHead). Packets h) (heads_at o);
          outs_are = f.outs;
        }

-- the numbers of output streams are small
pub have_numbers : (inputs : ℕ) (asked : Asked) (edges : List Edge) (nodes : List PlanNode) → AreOrdered inputs (length asked.outputs) nodes
    → ((k : ℕ) → streams_between (length nodes - length asked.outputs) k edges ≤ 16) → HaveNumbers asked edges nodes
have_numbers inputs asked edges nodes ordered few = record {
  before = few;
  at = λ k o at.
      let is = ordered.muxes_at k o at in
      let low = length nodes - length asked.outputs in
      let le = one_past edges low k (omega (arith, is)) in
      let most = few (suc k) in
      omega (arith, le, most);
}
