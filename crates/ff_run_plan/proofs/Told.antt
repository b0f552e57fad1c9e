-- What the history of a run tells of streams and sources.
use Rattle.std.proofs.Common.{◌≡◌, ◌⊎◌, inl, inr, ℕ, suc, ◌+◌, ◌<◌, ◌≤◌, ◌||◌, Bool, true, false, cond, List, [], ◌∷◌, filter, length, slice_get, slice_index_or, Option, Some, None, is_some, refl, sym, ap, ◌∙◌, subst, arith}
use Rattle.std.specs.Prelude.{IfSome}
use Rattle.std.proofs.lemmas.Option.{slice_get_within, get_or_from_slice_get}
use Rattle.ff_frame.specs.declared.event.Event.{Event}
use Rattle.ff_frame.specs.declared.event.Event.TheVariants.{Exited}
use Rattle.ff_frame.specs.declared.head.StreamHead.{StreamHead}
use Rattle.ff_stream.specs.Stream.{whole}
use Rattle.ff_stream.specs.Ports.{stream_at, IsClosed}
use Rattle.ff_lang.specs.declared.graph.Graph.{Graph}
use Rattle.ff_source.specs.declared.made.Made.{Made}
use Rattle.ff_words.specs.declared.job.Job.{Job}
use Rattle.ff_words.specs.declared.job.OutputJob.{OutputJob}
use Rattle.ff_stream.specs.declared.edges.edge.Edge.{Edge}
use Rattle.ff_stream.specs.edges.Ports.{lanes_into, lanes_out_of}
use Rattle.ff_sched.specs.declared.logged.Logged.{Logged}
use Rattle.ff_sched.specs.declared.routes.Routes.{Routes}
use Rattle.ff_sched.specs.State.{State}
use Rattle.ff_net.specs.laws.Laws.{Laws}
use Rattle.ff_net.specs.Nets.{solve}
use Rattle.ff_net.specs.Pasts.{Feed, Task, start}
use Rattle.ff_net.specs.laws.Views.{View}
use Rattle.ff_net.specs.Ways.{Flow}
use Rattle.ff_net_threads.specs.declared.network.run.NodeFault.{NodeFault}
use Rattle.ff_net_threads.specs.network.Fits.{network, ins_at, outs_at}
use Rattle.ff_net_threads.specs.laws.network.Networks.{AllStart, ports_of}
use Rattle.ff_net_threads.specs.laws.network.Scheduling.{AreLogged, LoggedSink, AreToldBy, IsOnlySource}
use Rattle.ff_plan.specs.declared.planned.Plan.{Plan}
use Rattle.ff_plan.specs.declared.planned.PlanNode.{PlanNode}
use Rattle.ff_plan.specs.declared.planned.PlanNode.TheVariants as node
use Rattle.ff_files.specs.declared.work.WorkEnd.{WorkEnd}
use Rattle.ff_files.specs.declared.work.WorkEnd.TheVariants as work_end
use Rattle.ff_files.specs.Works.{AreTold}
use Rattle.ff_run_plan.specs.Asked.{Asked, asked_of}
use Rattle.ff_run_plan.specs.declared.fault.RunFault.{RunFault}
use Rattle.ff_run_plan.specs.laws.Accepting.{IsPlanFor}
use Rattle.ff_run_plan.specs.laws.Claims.{tell_all}
use Rattle.ff_run_plan.specs.Kinds.{KindsOf, TellsExit, is_of_stream}
use Rattle.ff_run_plan.specs.Events.{is_best_of, ChangeBest, is_exit_of, TellOfThemselves, TellAlone}
use Rattle.ff_run_plan.specs.Histories.{state_before, HasExited, TellsAll, IsHistoryFor, IsHistoryOf, AreScheduled}
use Rattle.ff_run_plan.specs.Meaning.{edges_into, task_by, task_at, solution, streams_into, mux_node, events_by}
use Rattle.ff_run_plan.specs.Openings.{reads_in, is_read}
use Rattle.ff_run_plan.specs.Parts.{FitsDemux, FitsGen, FitsGraph, FitsMux, AreFitting, AreOrdered, AreBack, source_in, source_at}
use Rattle.ff_run_plan.specs.laws.Runs.{AreRun}
use Rattle.ff_run_plan.specs.Tasks.{first_at, cuts_at, heads_on, demux_by, gen_by, graph_by, mux_by}
use Rattle.ff_run_plan.proofs.EventSteps.{change_all, itself, same_number, plans_tell_alone}
use Rattle.ff_run_plan.proofs.Gathering.{source_kind, source_once}
use Rattle.ff_run_plan.proofs.Networks.{plan_net, plan_ins, plan_outs}
use Rattle.ff_run_plan.proofs.Numbers.{there}
use Rattle.ff_run_plan.proofs.Outcomes.{fine_only}
use Rattle.ff_run_plan.proofs.Running.{all_start, part_lanes}
use Rattle.ff_run_plan.proofs.StreamNumbers.{coded_is, lane_count, edge_count, at_streams}
use Rattle.ff_run_plan.proofs.Telling.{tells_told}

-- ---- which node reads a source

either : (a b : Bool) → (a || b) ≡ true → (a ≡ true) ⊎ (b ≡ true)
either true b e = inl refl
either false b e = inr e

pub reads_source : (n : PlanNode) (i : ℕ) → reads_in i n ≡ true → source_in n ≡ Some i
reads_source (node.Demux j) i e = ap (λ (m : ℕ). Some m) (same_number j i e)
reads_source (node.Gen j) i e = ap (λ (m : ℕ). Some m) (same_number j i e)
reads_source (node.Dec at) i e = absurd cc
reads_source (node.Graph g) i e = absurd cc
reads_source (node.Shortest o) i e = absurd cc
reads_source (node.Enc o j) i e = absurd cc
reads_source (node.Mux o) i e = absurd cc

reader_of : (nodes : List PlanNode) (i : ℕ) → is_read nodes i ≡ true → (k : ℕ) × (source_at (slice_get nodes k) ≡ Some i)
reader_of [] i e = absurd cc
reader_of (n ∷ ns) i e = elim (either (reads_in i n) (is_read ns i) e) [
  | inl here ↦ (0, reads_source n i here)
  | inr later ↦ (let rest = reader_of ns i later in (suc rest.0, rest.1))
]

some_number : (o : Option ℕ) → is_some o ≡ true → (i : ℕ) × (o ≡ Some i)
some_number None e = absurd cc
some_number (Some i) e = (i, refl)

-- that of a number is a node
pub source_there : (o : Option PlanNode) (i : ℕ) → source_at o ≡ Some i → (n : PlanNode) × (o ≡ Some n)
source_there None i e = absurd cc
source_there (Some n) i e = (n, refl)

exited_same : (i j : ℕ) → Exited i ∷ [] ≡ Exited j ∷ [] → i ≡ j
exited_same i j e = cc

module _ {H S K M : Type 0} (is : KindsOf H) (own : TellOfThemselves is) (left named : S → Option (List ℕ)) (failed : S → ℕ) (holds called : K → Option (List ℕ)) (faulted : K → ℕ)
    (view : M → View) (laws : (m : M) → Laws (view m)) (exits : (m : M) → TellsExit (view m)) (asked : Asked) (heads : List H) (edges : List Edge) (nodes : List PlanNode) (srcs : List S) (snks : List K) (claims : Bool)
    (olds news : List M) (sp : List (Option S)) (kp : List (Option K)) (fault : Option NodeFault) (srcs' : List S) (snks' : List K) (routes : Routes) (state : State) (events : List Event)
    (order : AreOrdered (length srcs) (length snks) nodes) (fitting : AreFitting is asked heads edges nodes)
    (run : AreRun is left named failed holds called faulted view asked heads edges nodes srcs snks claims olds news sp kp fault)
    (back : AreBack is left named failed holds called faulted view nodes news srcs snks srcs' snks')
    (sound : fault ≡ None) (s : AreScheduled view edges claims olds news routes state fault events)
    (bytes : List (List ℕ)) (vouched : claims ≡ true) (told : AreTold left holds srcs snks bytes) (many : length snks ≡ length asked.outputs) where
  abbrev tasks : ℕ → Task
  tasks = task_at is asked heads bytes nodes edges

  pub begun : (claims ≡ true) × AllStart view tasks olds
  begun = (vouched, all_start is left named failed holds called faulted view asked heads edges nodes srcs snks olds sp kp run.parts bytes told)

  pub logs : AreLogged view tasks (solve (network tasks (ports_of view olds) edges (length olds))) (ins_at (ports_of view olds) edges) (outs_at (ports_of view olds) edges) news fault s.logs
  logs = s.logged tasks begun

  alone : TellAlone is asked heads bytes nodes edges
  alone = plans_tell_alone is own asked heads bytes nodes edges (length srcs) (subst (λ (n : ℕ). AreOrdered (length srcs) n nodes) many order)

  lanes : (k : ℕ) (m : M) → slice_get olds k ≡ Some m → ((view m).in_lanes ≡ lanes_into edges k) × ((view m).out_lanes ≡ lanes_out_of edges k)
  lanes = part_lanes is left named failed holds called faulted view asked heads edges nodes srcs snks olds sp kp run.parts

  -- as many parts as nodes
  pub old_there : (k : ℕ) → k < length nodes → k < length olds
  old_there k lt = (let long = run.all sound in omega (arith, lt, long))

  pub new_there : (k : ℕ) → k < length nodes → k < length news
  new_there k lt = (let long = run.all sound in let many = run.kept.count in omega (arith, lt, long, many))

  pub node_there : (k : ℕ) → k < length news → k < length nodes
  node_there k lt = (let long = run.all sound in let many = run.kept.count in omega (arith, lt, long, many))

  -- ---- the events of an output stream

  module _ (o k : ℕ) (at : slice_get nodes k ≡ Some (node.Mux o)) where
    within : k < length nodes
    within = slice_get_within nodes k (node.Mux o) at

    abbrev pub fits : FitsMux is asked (lanes_into edges k) (lanes_out_of edges k) o
    fits = fitting k (node.Mux o) at

    abbrev pub first : ℕ
    first = first_at asked nodes edges k

    pub coded_are : heads_on (lanes_into edges k) ≡ fits.coded
    coded_are = coded_is (lanes_into edges k) fits.coded fits.ins_are

    task_is : tasks k ≡ is.mux_task first fits.out fits.coded
    task_is =
        ap (λ (n : Option PlanNode). task_by is asked heads bytes nodes edges n k) at
        ∙ (ap (λ (x : Option OutputJob). mux_by is first x (heads_on (lanes_into edges k))) fits.there ∙ ap (λ (hs : List StreamHead). mux_by is first (Some fits.out) hs) coded_are)

    abbrev muxer : (m : M) × (slice_get news k ≡ Some m)
    muxer = there news k (new_there k within)

    abbrev log : List Logged
    log = slice_index_or s.logs k []

    logged : LoggedSink (view muxer.0) (tasks k) (solution is asked heads bytes nodes edges) (edges_into edges k) log
    logged =
        let lt = old_there k within in
        let net = plan_net view edges olds (length nodes) (run.all sound) lanes tasks in
        let ins = plan_ins view edges olds (length nodes) (run.all sound) lanes k lt in
        let outs = plan_outs view edges olds (length nodes) (run.all sound) lanes k lt fits.outs_are in
        subst (λ (σ : ℕ → Flow). LoggedSink (view muxer.0) (tasks k) σ (edges_into edges k) log) net
        (subst (λ (ws : List ℕ). LoggedSink (view muxer.0) (tasks k) (solve (network tasks (ports_of view olds) edges (length olds))) ws log) ins
        (subst (λ (x : M). LoggedSink (view x) (tasks k) (solve (network tasks (ports_of view olds) edges (length olds))) (ins_at (ports_of view olds) edges k) log)
        (get_or_from_slice_get news k muxer.0 muxer.0 muxer.1) (logs.sinks sound k muxer.0 (new_there k within) outs)))

    -- of its stream j
    pub events_are : (j : ℕ) (head : StreamHead) → slice_get fits.coded j ≡ Some head
        → filter (is_of_stream (first + j)) events ≡ is.events (first + j) head (stream_at (streams_into is asked heads bytes nodes edges k) j)
    events_are j head here =
        let fed = logged.fed in
        let feeds = fed.past.feeds in
        let lt : j < length fits.coded = slice_get_within fits.coded j head here in
        let many = lane_count (lanes_into edges k) fits.coded fits.ins_are in
        let edge : j < length (edges_into edges k) = (let n = edge_count edges k fits.coded fits.ins_are in omega (arith, lt, n)) in
        let got = fed.got j edge in
        let closed : IsClosed (stream_at fed.past.got j) = λ goes_on. (let end : (stream_at fed.past.got j).mark ≡ whole = ap (λ (r : Flow). r.mark) got ∙ fed.whole j edge in cc) in
        let sink = back.sinks k o muxer.0 at muxer.1 in
        (s.told tasks begun k (is_of_stream (first + j)) (new_there k within) (alone.output (length news) k o j at (omega (arith, lt, many)))).same
        ∙ (ap (filter (is_of_stream (first + j))) logged.all_told
        ∙ (sym (ap (λ (t : Task). filter (is_of_stream (first + j)) (t.tells feeds)) fed.task_is)
        ∙ (sink.2.told fed.past first fits.out fits.coded j head fed.fits (fed.task_is ∙ task_is) here closed
        ∙ ap (is.events (first + j) head) (got ∙ sym (at_streams (solution is asked heads bytes nodes edges) (edges_into edges k) j edge)))))

    -- as the meaning has them
    pub means_events : (j : ℕ) (head : StreamHead) → slice_get fits.coded j ≡ Some head
        → events_by is asked heads bytes nodes edges (first + j) (slice_get (heads_on (lanes_into edges k)) j) (stream_at (streams_into is asked heads bytes nodes edges k) j)
        ≡ is.events (first + j) head (stream_at (streams_into is asked heads bytes nodes edges k) j)
    means_events j head here =
        ap (λ (x : Option StreamHead). events_by is asked heads bytes nodes edges (first + j) x (stream_at (streams_into is asked heads bytes nodes edges k) j))
        (ap (λ (hs : List StreamHead). slice_get hs j) coded_are ∙ here)

    pub stream_told : (j : ℕ) → j < length (heads_on (lanes_into edges k))
        → filter (is_of_stream (first + j)) events
        ≡ events_by is asked heads bytes nodes edges (first + j) (slice_get (heads_on (lanes_into edges k)) j) (stream_at (streams_into is asked heads bytes nodes edges k) j)
    stream_told j lt =
        let head = there fits.coded j (subst (λ (hs : List StreamHead). j < length hs) coded_are lt) in
        events_are j head.0 head.1 ∙ sym (means_events j head.0 head.1)

    pub some_streams : 1 ≤ length (heads_on (lanes_into edges k))
    some_streams = subst (λ (hs : List StreamHead). 1 ≤ length hs) (sym coded_are) fits.some

  -- ---- the best inputs of a graph

  bests_told : (k g : ℕ) → slice_get nodes k ≡ Some (node.Graph g) → ChangeBest g 0 (filter (is_best_of g) events)
  bests_told k g at =
      let lt = new_there k (slice_get_within nodes k (node.Graph g) at) in
      let m = there news k lt in
      let all = logs.settled sound k m.0 lt in
      let feeds = all.past.feeds in
      let framed = heads_on (lanes_into edges k) in
      let fits : FitsGraph is asked (lanes_into edges k) (lanes_out_of edges k) g = fitting k (node.Graph g) at in
      let cuts = cuts_at asked nodes edges k in
      let task : tasks k ≡ is.graph_task g fits.text framed cuts =
      ap (λ (n : Option PlanNode). task_by is asked heads bytes nodes edges n k) at ∙ ap (λ (t : Option Graph). graph_by is g t framed cuts) fits.there in
      let bests : ChangeBest g 0 ((tasks k).tells feeds) = subst (λ (t : Task). ChangeBest g 0 (t.tells feeds)) (sym task) (own.graph g fits.text framed cuts feeds) in
      let same : filter (is_best_of g) events ≡ (tasks k).tells feeds =
      (s.told tasks begun k (is_best_of g) lt (alone.best (length news) k g at)).same ∙ (ap (filter (is_best_of g)) all.all_told ∙ change_all g 0 ((tasks k).tells feeds) bests) in
      subst (ChangeBest g 0) (sym same) bests

  -- ---- the exit of a source

  demux_task_is : (i k : ℕ) (at : slice_get nodes k ≡ Some (node.Demux i)) (fits : FitsDemux is asked heads (lanes_into edges k) (lanes_out_of edges k) i)
      → tasks k ≡ is.demux_task i fits.head (asked.used i) (slice_index_or bytes i [])
  demux_task_is i k at fits =
      ap (λ (n : Option PlanNode). task_by is asked heads bytes nodes edges n k) at ∙ ap (λ (h : Option H). demux_by is i h (asked.used i) (slice_index_or bytes i [])) fits.there

  gen_task_is : (i k : ℕ) (at : slice_get nodes k ≡ Some (node.Gen i)) (fits : FitsGen is asked (lanes_into edges k) (lanes_out_of edges k) i) → tasks k ≡ is.gen_task i fits.made
  gen_task_is i k at fits =
      ap (λ (n : Option PlanNode). task_by is asked heads bytes nodes edges n k) at ∙ ap (λ (m : Option Made). gen_by is i m) fits.there

  -- the events of the part of a source
  due_exit : (i k : ℕ) → source_at (slice_get nodes k) ≡ Some i → (feeds : List Feed) → (tasks k).tells feeds ≡ Exited i ∷ []
  due_exit i k at feeds = elim (source_kind (slice_get nodes k) i at) [
    | inl demux ↦
        let fits : FitsDemux is asked heads (lanes_into edges k) (lanes_out_of edges k) i = fitting k (node.Demux i) demux in
        ap (λ (t : Task). t.tells feeds) (demux_task_is i k demux fits) ∙ own.demuxer i fits.head (asked.used i) (slice_index_or bytes i []) feeds
    | inr gen ↦
        let fits : FitsGen is asked (lanes_into edges k) (lanes_out_of edges k) i = fitting k (node.Gen i) gen in
        ap (λ (t : Task). t.tells feeds) (gen_task_is i k gen fits) ∙ own.generator i fits.made feeds
  ]

  -- a task is that of a source where its node is one
  pub task_kind : (j : ℕ) (n : PlanNode) → j < length nodes → slice_get nodes j ≡ Some n → is_some (tasks j).source ≡ is_some (source_in n)
  task_kind j n lt at =
      let old = there olds j (old_there j lt) in
      let part = run.parts.each j n old.0 at old.1 in
      let stands : (view old.0).stands (start (tasks j)) =
      subst (λ (m : M). (view m).stands (start (tasks j))) (get_or_from_slice_get olds j old.0 old.0 old.1) (begun.1 j old.0 (old_there j lt)) in
      (laws old.0).is_source (start (tasks j)) stands ∙ ap (λ (o : Option ℕ). is_some o) part.source_is

  -- and so is its part
  pub same_kind : (j : ℕ) (e : M) (n : PlanNode) → j < length news → slice_get nodes j ≡ Some n → is_some (source_in n) ≡ is_some (view (slice_index_or news j e)).source
  same_kind j e n lt at =
      let now = logs.settled sound j e lt in
      let now_is = (laws (slice_index_or news j e)).is_source now.past now.fits in
      sym (task_kind j n (node_there j lt) at) ∙ (sym (ap (λ (t : Task). is_some t.source) now.task_is) ∙ now_is)

  -- a part that is a source is that of a source
  pub is_reader : (j i : ℕ) (e : M) → j < length news → (view (slice_index_or news j e)).source ≡ Some i → (i' : ℕ) × (source_at (slice_get nodes j) ≡ Some i')
  is_reader j i e lt src =
      let n = there nodes j (node_there j lt) in
      let d = some_number (source_in n.0) (same_kind j e n.0 lt n.1 ∙ ap (λ (o : Option ℕ). is_some o) src) in
      (d.0, ap source_at n.1 ∙ d.1)

  -- of its own number
  pub reads_own : (j i i' : ℕ) (e : M) → j < length news → (view (slice_index_or news j e)).source ≡ Some i → source_at (slice_get nodes j) ≡ Some i' → i ≡ i'
  reads_own j i i' e lt src at =
      let now = logs.settled sound j e lt in
      let exit = (exits (slice_index_or news j e)).exits now.past i now.fits src in
      exited_same i i' (sym exit ∙ (ap (λ (t : Task). t.tells now.past.feeds) now.task_is ∙ due_exit i' j at now.past.feeds))

  module _ (i k : ℕ) (at : source_at (slice_get nodes k) ≡ Some i) where
    demuxer_there : k < length news
    demuxer_there = (let n = source_there (slice_get nodes k) i at in new_there k (slice_get_within nodes k n.0 n.1))

    only : IsOnlySource view news k i
    only j e lt src =
        let reader = is_reader j i e lt src in
        let same = reads_own j i reader.0 e lt src reader.1 in
        source_once (length srcs) (length snks) nodes order j k i (subst (λ (n : ℕ). source_at (slice_get nodes j) ≡ Some n) (sym same) reader.1) at

    exit_by : AreToldBy (is_exit_of i) events (slice_index_or s.logs k [])
    exit_by = s.told tasks begun k (is_exit_of i) demuxer_there (alone.source (length news) k i at)

    has_exited : HasExited i events
    has_exited = record {
      once =
          let m = there news k demuxer_there in
          let all = logs.settled sound k m.0 demuxer_there in
          exit_by.same
          ∙ (ap (filter (is_exit_of i)) (all.all_told ∙ due_exit i k at all.past.feeds) ∙ ap (λ (b : Bool). cond b (Exited i ∷ []) []) (itself i i refl));
      last = λ p q granted exited.
          let g = s.own tasks begun k i p demuxer_there only granted in
          exit_by.behind_grants q g.0 (Exited i) (record { source = i; place = p }) exited (itself i i refl) g.1;
    }

  -- ---- both

  pub tells_all : ((o : ℕ) → o < length asked.outputs → slice_get nodes (mux_node is asked heads bytes nodes edges o) ≡ Some (node.Mux o)) → TellsAll is asked heads bytes nodes edges events
  tells_all muxes = record {
    some = λ o lt. some_streams o (mux_node is asked heads bytes nodes edges o) (muxes o lt);
    streams = λ o j lt there. stream_told o (mux_node is asked heads bytes nodes edges o) (muxes o lt) j there;
    graphs = bests_told;
    sources = λ i read. (let k = reader_of nodes i read in has_exited i k.0 k.1);
  }

-- the history of a job's run that did all, over inputs whose bytes may be told
module _ {H S K M : Type 0} (is : KindsOf H) (own : TellOfThemselves is) (left named : S → Option (List ℕ)) (failed : S → ℕ) (holds called : K → Option (List ℕ)) (faulted : K → ℕ)
    (view : M → View) (laws : (m : M) → Laws (view m)) (exits : (m : M) → TellsExit (view m)) (job : Job) (plan : Plan) (heads : List H) (srcs : List S) (snks : List K) (end : WorkEnd RunFault) (srcs' : List S) (snks' : List K)
    (events : List Event) (for : IsPlanFor is job heads plan) (src_count : length srcs ≡ length heads) (snk_count : length snks ≡ length job.outputs)
    (h : IsHistoryOf is left named failed holds called faulted view (asked_of job plan.texts plan.made plan.nodes) heads plan.edges plan.nodes srcs snks (tell_all left holds srcs snks) plan.routes (state_before plan) end srcs' snks' events)
    (fine : end ≡ work_end.Fine) where
  order : AreOrdered (length srcs) (length snks) plan.nodes
  order =
      subst (λ (n : ℕ). AreOrdered n (length snks) plan.nodes) (sym src_count) (subst (λ (n : ℕ). AreOrdered (length heads) n plan.nodes) (sym snk_count) for.ordered)

  streams_told : (bytes : Option (List (List ℕ))) → IfSome bytes (AreTold left holds srcs snks) → IfSome bytes (λ b. TellsAll is (asked_of job plan.texts plan.made plan.nodes) heads b plan.nodes plan.edges events)
  streams_told None told = tt
  streams_told (Some bytes) told =
      tells_all is own left named failed holds called faulted view laws exits (asked_of job plan.texts plan.made plan.nodes) heads plan.edges plan.nodes srcs snks (tell_all left holds srcs snks) h.done.olds h.done.news
      h.done.src_places h.done.snk_places h.done.fault srcs' snks' plan.routes (state_before plan) events order for.fitting h.done.run h.done.back
      (fine_only (length heads) plan.nodes h.done.fault (sym h.done.end_is ∙ fine)) h.run bytes (tells_told left holds srcs snks bytes told) told snk_count for.muxes

  pub history_in : (bytes : Option (List (List ℕ))) → IfSome bytes (AreTold left holds srcs snks) → IsHistoryFor is job heads bytes events
  history_in bytes told = (plan, for.made, record { legal = h.run.legal; told = streams_told bytes told })
