-- What a run of a plan's parts comes to, for its sources and sinks.
use Rattle.std.proofs.Common.{◌≡◌, ◌≢◌, ◌⊎◌, inl, inr, ℕ, zero, suc, ◌+◌, ◌<◌, ◌≤◌, true, Bool, List, [], length, map, slice_get, slice_index_or, Option, Some, None, IsSome, refl, sym, ap, ◌∙◌, subst, arith}
use Rattle.std.proofs.lemmas.Option.{slice_get_within, get_or_from_slice_get}
use Rattle.ff_host.specs.Causes.{Rose}
use Rattle.ff_frame.specs.declared.head.StreamHead.{StreamHead}
use Rattle.ff_stream.specs.Stream.{opened}
use Rattle.ff_stream.specs.Ports.{IsWhole, AllBelow}
use Rattle.ff_words.specs.declared.job.OutputJob.{OutputJob}
use Rattle.ff_stream.specs.declared.edges.edge.Edge.{Edge}
use Rattle.ff_net.specs.declared.fault.Fault.{Fault}
use Rattle.ff_net.specs.declared.fault.Fault.TheVariants.{Device, Damaged, TooLong, TooLarge, NoMemory}
use Rattle.ff_net.specs.laws.Laws.{IsOfInputs}
use Rattle.ff_net.specs.laws.Views.{View}
use Rattle.ff_net.specs.Ways.{Flow}
use Rattle.ff_net_threads.specs.declared.network.run.NodeFault.{NodeFault}
use Rattle.ff_plan.specs.declared.planned.PlanNode.{PlanNode}
use Rattle.ff_plan.specs.declared.planned.PlanNode.TheVariants as node
use Rattle.ff_files.specs.declared.work.WorkEnd.{WorkEnd}
use Rattle.ff_files.specs.declared.work.WorkEnd.TheVariants as work_end
use Rattle.ff_files.specs.Works.{AreTold, HoldFiles, HoldParts, HoldsPart, KeepEnds, FailNoMore}
use Rattle.ff_run_plan.specs.Asked.{Asked}
use Rattle.ff_run_plan.specs.declared.fault.RunFault.{RunFault}
use Rattle.ff_run_plan.specs.declared.fault.RunFault.TheVariants as run_fault
use Rattle.ff_run_plan.specs.Kinds.{KindsOf, first_streams}
use Rattle.ff_stream.specs.edges.Ports.{lanes_into, lanes_out_of}
use Rattle.ff_run_plan.specs.Tasks.{first_at, heads_on, mux_by}
use Rattle.ff_run_plan.specs.Meaning.{edges_into, read_before, comes_after, task_by, task_at, solution, streams_into, mux_node, file_by, text_by, file_in, text_in, BreaksIn}
use Rattle.ff_run_plan.specs.Parts.{FitsMux, AreFitting, AreOrdered, AreBack}
use Rattle.ff_run_plan.specs.laws.Runs.{AreRun, device_end, damaged_end, large_end, end_at, end_in, end_with}
use Rattle.ff_run_plan.proofs.Gathering.{mux_once}
use Rattle.ff_run_plan.proofs.Moves.{AreEnds, keep_ends, unfailed, has_risen}
use Rattle.ff_run_plan.proofs.Numbers.{there, same_some, ordered, demux_before, mux_before}
use Rattle.ff_run_plan.proofs.StreamNumbers.{coded_is, edge_count, same_streams, below_streams}

-- only a run without a fault is fine
fine_device : (n : PlanNode) → device_end n ≡ work_end.Fine → ⊥
fine_device (node.Demux i) e = cc
fine_device (node.Gen i) e = cc
fine_device (node.Dec at) e = cc
fine_device (node.Graph g) e = cc
fine_device (node.Shortest o) e = cc
fine_device (node.Enc o j) e = cc
fine_device (node.Mux o) e = cc

fine_damaged : (offset : ℕ) (n : PlanNode) → damaged_end offset n ≡ work_end.Fine → ⊥
fine_damaged offset (node.Demux i) e = cc
fine_damaged offset (node.Gen i) e = cc
fine_damaged offset (node.Dec at) e = cc
fine_damaged offset (node.Graph g) e = cc
fine_damaged offset (node.Shortest o) e = cc
fine_damaged offset (node.Enc o j) e = cc
fine_damaged offset (node.Mux o) e = cc

fine_large : (n : PlanNode) → large_end n ≡ work_end.Fine → ⊥
fine_large (node.Demux i) e = cc
fine_large (node.Gen i) e = cc
fine_large (node.Dec at) e = cc
fine_large (node.Graph g) e = cc
fine_large (node.Shortest o) e = cc
fine_large (node.Enc o j) e = cc
fine_large (node.Mux o) e = cc

fine_at : (inputs k : ℕ) (c : Fault) (n : Option PlanNode) → end_in inputs k c n ≡ work_end.Fine → ⊥
fine_at inputs k c None e = cc
fine_at inputs k Device (Some n) e = fine_device n e
fine_at inputs k (Damaged offset) (Some n) e = fine_damaged offset n e
fine_at inputs k TooLong (Some n) e = cc
fine_at inputs k TooLarge (Some n) e = fine_large n e
fine_at inputs k NoMemory (Some n) e = cc

pub fine_only : (inputs : ℕ) (nodes : List PlanNode) (fault : Option NodeFault) → end_with inputs nodes fault ≡ work_end.Fine → fault ≡ None
fine_only inputs nodes None e = refl
fine_only inputs nodes (Some f) e = absurd (fine_at inputs f.node f.fault (slice_get nodes f.node) e)

-- a node that is no Demux
abbrev IsBehind : PlanNode → Type 0
IsBehind n = (i : ℕ) → n ≡ node.Demux i → ⊥

module _ {H S K M : Type 0} (is : KindsOf H) (left named : S → Option (List ℕ)) (failed : S → ℕ) (holds called : K → Option (List ℕ)) (faulted : K → ℕ) (view : M → View)
    (asked : Asked) (heads : List H) (edges : List Edge) (nodes : List PlanNode) (srcs : List S) (snks : List K) (claims : Bool) (olds news : List M) (sp : List (Option S)) (kp : List (Option K))
    (fault : Option NodeFault) (srcs' : List S) (snks' : List K)
    (order : AreOrdered (length srcs) (length snks) nodes)
    (run : AreRun is left named failed holds called faulted view asked heads edges nodes srcs snks claims olds news sp kp fault)
    (back : AreBack is left named failed holds called faulted view nodes news srcs snks srcs' snks') where
  old_lt : (k : ℕ) → k < length olds → k < length nodes
  old_lt k lt = (let few = run.parts.few in omega (arith, few, lt))

  source_ends : AreEnds named failed view node.Demux nodes srcs srcs' olds news
  source_ends = record {
    kept = run.kept;
    count = back.src_count;
    begun = λ k i m s at old src. (let p = run.parts.each k (node.Demux i) m at old in let d = p.source i s refl src in (p.sound, d.0, d.1));
    back = λ k i m at now. (let g = back.sources k i m at now in (g.0, g.1, record { name = g.2.name; faults = g.2.faults }));
    other = back.other_srcs;
    or = demux_before nodes (length news);
    in_range = order.inputs_there;
  }

  sink_ends : AreEnds called faulted view node.Mux nodes snks snks' olds news
  sink_ends = record {
    kept = run.kept;
    count = back.snk_count;
    begun = λ k o m s at old snk. (let p = run.parts.each k (node.Mux o) m at old in let d = p.sink o s refl snk in (p.sound, d.0, d.1));
    back = λ k o m at now. (let g = back.sinks k o m at now in (g.0, g.1, record { name = g.2.name; faults = g.2.faults }));
    other = back.other_snks;
    or = mux_before nodes (length news);
    in_range = order.outputs_there;
  }

  pub keeps_sources : KeepEnds named srcs srcs'
  keeps_sources = keep_ends named failed view node.Demux nodes srcs srcs' olds news source_ends

  pub keeps_sinks : KeepEnds called snks snks'
  keeps_sinks = keep_ends called faulted view node.Mux nodes snks snks' olds news sink_ends

  -- ---- which parts have no fault of a device

  quiet_at : (k : ℕ) (m : M) (c : Fault) → (view m).fault ≡ None → (view m).fault ≢ Some c
  quiet_at k m c none some = (let both : None ≡ Some c = sym none ∙ some in cc)

  -- before the fault that is reported, or at it where it is another
  quiet : (f : NodeFault) → fault ≡ Some f → (k : ℕ) (m : M) → (k < f.node) ⊎ ((k ≡ f.node) × (f.fault ≢ Device)) → slice_get news k ≡ Some m → (view m).fault ≢ Some Device
  quiet f e k m (inl lt) at = quiet_at k m Device (run.tells.before f e k m lt at)
  quiet f e k m (inr h) at = λ sure. h.1 (run.tells.first f e m Device (subst (λ (j : ℕ). slice_get news j ≡ Some m) h.0 at) sure)

  -- a Demux node before one that is none, and before one of a greater input
  earlier : (k i : ℕ) (g : ℕ) (n : PlanNode) → slice_get nodes k ≡ Some (node.Demux i) → slice_get nodes g ≡ Some n → IsBehind n → k < g
  earlier k i g n at here behind = elim (ordered k g) [
    | inl lt ↦ lt
    | inr r ↦ absurd (
        let le : g ≤ k = elim r [ inl e ↦ omega (arith, e) | inr over ↦ omega (arith, over) ] in
        let found = order.first k g i n at here le in
        behind found.0 found.1)
  ]

  rises : (k i : ℕ) (g j : ℕ) → slice_get nodes k ≡ Some (node.Demux i) → slice_get nodes g ≡ Some (node.Demux j) → i < j → k < g
  rises k i g j at here lt = elim (ordered k g) [
    | inl below ↦ below
    | inr r ↦ elim r [
      | inl e ↦ absurd (
          let same = same_some (slice_get nodes g) (node.Demux i) (node.Demux j) (subst (λ (x : ℕ). slice_get nodes x ≡ Some (node.Demux i)) e at) here in
          let equal : i ≡ j = cc in
          omega (arith, lt, equal))
      | inr over ↦ absurd (let other = order.rising g k j i here at over in omega (arith, lt, other))
    ]
  ]

  mux_rises : (k o : ℕ) (g p : ℕ) → slice_get nodes k ≡ Some (node.Mux o) → slice_get nodes g ≡ Some (node.Mux p) → o < p → k < g
  mux_rises k o g p at here lt = elim (ordered k g) [
    | inl below ↦ below
    | inr r ↦ elim r [
      | inl e ↦ absurd (
          let same = same_some (slice_get nodes g) (node.Mux o) (node.Mux p) (subst (λ (x : ℕ). slice_get nodes x ≡ Some (node.Mux o)) e at) here in
          let equal : o ≡ p = cc in
          omega (arith, lt, equal))
      | inr over ↦ absurd (let other = order.muxes_rise g k p o here at over in omega (arith, lt, other))
    ]
  ]

  -- the first input has the first node
  input_zero : (k i : ℕ) → slice_get nodes k ≡ Some (node.Demux i) → i < 1 → k ≡ 0
  input_zero zero i at lt = refl
  input_zero (suc k) i at lt = absurd (
      let n = there nodes 0 (let w = slice_get_within nodes (suc k) (node.Demux i) at in omega (arith, w)) in
      let d = order.first (suc k) 0 i n.0 at n.1 (omega arith) in
      let up = order.rising 0 (suc k) d.0 i (n.1 ∙ ap (λ (x : PlanNode). Some x) d.1) at (omega arith) in
      omega (arith, up, lt))

  -- ---- sources and sinks that have not failed

  sources_below : (count : ℕ) → ((k i : ℕ) (m : M) → i < count → slice_get nodes k ≡ Some (node.Demux i) → slice_get news k ≡ Some m → (view m).fault ≢ Some Device) → FailNoMore failed srcs srcs' count
  sources_below count never = λ i d lt below. unfailed named failed view node.Demux nodes srcs srcs' olds news source_ends i lt (λ k m at now. never k i m below at now) d

  sinks_below : (count : ℕ) → ((k o : ℕ) (m : M) → o < count → slice_get nodes k ≡ Some (node.Mux o) → slice_get news k ≡ Some m → (view m).fault ≢ Some Device) → FailNoMore faulted snks snks' count
  sinks_below count never = λ o d lt below. unfailed called faulted view node.Mux nodes snks snks' olds news sink_ends o lt (λ k m at now. never k o m below at now) d

  no_sinks : FailNoMore faulted snks snks' 0
  no_sinks = λ o d lt below. absurd (omega (arith, below))

  module _ (f : NodeFault) (reported : fault ≡ Some f) where
    -- all sources, where the fault is at a node behind the demuxers
    all_sources : (n : PlanNode) (count : ℕ) → slice_get nodes f.node ≡ Some n → IsBehind n → FailNoMore failed srcs srcs' count
    all_sources n count here behind = sources_below count (λ k i m below at now. quiet f reported k m (inl (earlier k i f.node n at here behind)) now)

    -- those below an input, where the fault is at its node
    sources_until : (j : ℕ) → slice_get nodes f.node ≡ Some (node.Demux j) → FailNoMore failed srcs srcs' j
    sources_until j here = sources_below j (λ k i m below at now. quiet f reported k m (inl (rises k i f.node j at here below)) now)

    -- and this input's too, where the fault is another
    sources_through : (j : ℕ) → slice_get nodes f.node ≡ Some (node.Demux j) → f.fault ≢ Device → FailNoMore failed srcs srcs' (j + 1)
    sources_through j here other = sources_below (j + 1) (λ k i m below at now.
        quiet f reported k m (elim (ordered k f.node) [
          | inl lt ↦ inl lt
          | inr r ↦ elim r [ inl e ↦ inr (e, other) | inr over ↦ absurd (let up = order.rising f.node k j i here at over in omega (arith, below, up)) ]
        ]) now)

    -- the first one, where the fault is another
    first_source : f.fault ≢ Device → FailNoMore failed srcs srcs' 1
    first_source other = sources_below 1 (λ k i m below at now.
        let zero_is = input_zero k i at below in
        quiet f reported k m (elim (ordered k f.node) [ inl lt ↦ inl lt | inr r ↦ elim r [ inl e ↦ inr (e, other) | inr over ↦ absurd (omega (arith, over, zero_is)) ] ]) now)

  -- ---- the end, and which ends came before it

  abbrev pub inputs : ℕ
  inputs = length heads

  -- a fault that comes of the streams, where these are told
  abbrev pub BrokenBy : RunFault → Type 0
  BrokenBy why = (bytes : List (List ℕ)) → claims ≡ true → AreTold left holds srcs snks bytes → BreaksIn is asked heads bytes nodes edges why

  -- what an end says, by cases
  abbrev pub Says : WorkEnd RunFault → Type 0
  Says work_end.Fine = (fault ≡ None) × FailNoMore failed srcs srcs' (length srcs) × FailNoMore faulted snks snks' (length snks)
  Says (work_end.Input i) = ((i < length srcs) × ((d : S) → Rose (failed (slice_index_or srcs i d)) (failed (slice_index_or srcs' i d)))) × FailNoMore failed srcs srcs' i
  Says (work_end.Output o) = ((o < length snks) × ((d : K) → Rose (faulted (slice_index_or snks o d)) (faulted (slice_index_or snks' o d)))) × FailNoMore failed srcs srcs' (length srcs) × FailNoMore faulted snks snks' o
  Says (work_end.Broken why) = BrokenBy why × FailNoMore failed srcs srcs' (comes_after why)
  Says work_end.NoMemory = FailNoMore failed srcs srcs' 1

  module _ (f : NodeFault) (reported : fault ≡ Some f) where
    cause_of : IsOfInputs f.fault → (bytes : List (List ℕ)) → claims ≡ true → AreTold left holds srcs snks bytes
        → (task_at is asked heads bytes nodes edges f.node).cause (map (solution is asked heads bytes nodes edges) (edges_into edges f.node)) ≡ Some f.fault
    cause_of i bytes vouched told = (run.meets vouched bytes told).cause f reported i

    device_says : (n : PlanNode) → slice_get nodes f.node ≡ Some n → f.fault ≡ Device → Says (device_end n)
    device_says (node.Demux i) at c =
        let own = run.tells.own f reported (λ never. let both : Device ≡ NoMemory = sym c ∙ never in cc) in
        (has_risen named failed view node.Demux nodes srcs srcs' olds news source_ends f.node i own.0 at own.1 (own.2 ∙ ap (λ (x : Fault). Some x) c), sources_until f reported i at)
    device_says (node.Gen i) at c = all_sources f reported (node.Gen i) 1 at (λ j e. cc)
    device_says (node.Dec s) at c = all_sources f reported (node.Dec s) 1 at (λ i e. cc)
    device_says (node.Graph g) at c = all_sources f reported (node.Graph g) 1 at (λ i e. cc)
    device_says (node.Shortest o) at c = all_sources f reported (node.Shortest o) 1 at (λ i e. cc)
    device_says (node.Enc o j) at c = all_sources f reported (node.Enc o j) 1 at (λ i e. cc)
    device_says (node.Mux o) at c =
        let own = run.tells.own f reported (λ never. let both : Device ≡ NoMemory = sym c ∙ never in cc) in (
          has_risen called faulted view node.Mux nodes snks snks' olds news sink_ends f.node o own.0 at own.1 (own.2 ∙ ap (λ (x : Fault). Some x) c),
          all_sources f reported (node.Mux o) (length srcs) at (λ i e. cc),
          sinks_below o (λ k p m below here now. quiet f reported k m (inl (mux_rises k p f.node o here at below)) now),
        )

    damaged_says : (offset : ℕ) (n : PlanNode) → slice_get nodes f.node ≡ Some n → f.fault ≡ Damaged offset → Says (damaged_end offset n)
    damaged_says offset (node.Demux i) at c =
        (λ bytes vouched told. (f.node, node.Demux i, at, refl, cause_of (subst IsOfInputs (sym c) tt) bytes vouched told ∙ ap (λ (x : Fault). Some x) c), sources_through f reported i at (λ d. let both : Damaged offset ≡ Device = sym c ∙ d in cc))
    damaged_says offset (node.Gen i) at c = all_sources f reported (node.Gen i) 1 at (λ j e. cc)
    damaged_says offset (node.Dec s) at c =
        (λ bytes vouched told. (f.node, node.Dec s, at, refl, cause_of (subst IsOfInputs (sym c) tt) bytes vouched told ∙ ap (λ (x : Fault). Some x) c), all_sources f reported (node.Dec s) (s.input + 1) at (λ i e. cc))
    damaged_says offset (node.Graph g) at c = all_sources f reported (node.Graph g) 1 at (λ i e. cc)
    damaged_says offset (node.Shortest o) at c = all_sources f reported (node.Shortest o) 1 at (λ i e. cc)
    damaged_says offset (node.Enc o j) at c = all_sources f reported (node.Enc o j) 1 at (λ i e. cc)
    damaged_says offset (node.Mux o) at c = all_sources f reported (node.Mux o) 1 at (λ i e. cc)

    large_says : (n : PlanNode) → slice_get nodes f.node ≡ Some n → f.fault ≡ TooLarge → Says (large_end n)
    large_says (node.Demux i) at c = first_source f reported (λ d. let both : TooLarge ≡ Device = sym c ∙ d in cc)
    large_says (node.Gen i) at c = all_sources f reported (node.Gen i) 1 at (λ j e. cc)
    large_says (node.Dec s) at c = all_sources f reported (node.Dec s) 1 at (λ i e. cc)
    large_says (node.Graph g) at c = all_sources f reported (node.Graph g) 1 at (λ i e. cc)
    large_says (node.Shortest o) at c = all_sources f reported (node.Shortest o) 1 at (λ i e. cc)
    large_says (node.Enc o j) at c = all_sources f reported (node.Enc o j) 1 at (λ i e. cc)
    large_says (node.Mux o) at c =
        (λ bytes vouched told. (f.node, at, cause_of (subst IsOfInputs (sym c) tt) bytes vouched told ∙ ap (λ (x : Fault). Some x) c), all_sources f reported (node.Mux o) (comes_after (run_fault.TooLarge o)) at (λ i e. cc))

    before_says : (n : PlanNode) → slice_get nodes f.node ≡ Some n → f.fault ≢ Device → FailNoMore failed srcs srcs' (read_before inputs n + 1)
    before_says (node.Demux i) at other = sources_through f reported i at other
    before_says (node.Gen i) at other = all_sources f reported (node.Gen i) (inputs + 1) at (λ j e. cc)
    before_says (node.Dec s) at other = all_sources f reported (node.Dec s) (inputs + 1) at (λ i e. cc)
    before_says (node.Graph g) at other = all_sources f reported (node.Graph g) (inputs + 1) at (λ i e. cc)
    before_says (node.Shortest o) at other = all_sources f reported (node.Shortest o) (inputs + 1) at (λ i e. cc)
    before_says (node.Enc o j) at other = all_sources f reported (node.Enc o j) (inputs + 1) at (λ i e. cc)
    before_says (node.Mux o) at other = all_sources f reported (node.Mux o) (inputs + 1) at (λ i e. cc)

    node_says : (c : Fault) (n : PlanNode) → slice_get nodes f.node ≡ Some n → f.fault ≡ c → Says (end_at inputs f.node c n)
    node_says Device n at c = device_says n at c
    node_says (Damaged offset) n at c = damaged_says offset n at c
    node_says TooLong n at c =
        (λ bytes vouched told. (n, at, refl, cause_of (subst IsOfInputs (sym c) tt) bytes vouched told ∙ ap (λ (x : Fault). Some x) c), before_says n at (λ d. let both : TooLong ≡ Device = sym c ∙ d in cc))
    node_says TooLarge n at c = large_says n at c
    node_says NoMemory n at c = first_source f reported (λ d. let both : NoMemory ≡ Device = sym c ∙ d in cc)

    none_says : slice_get nodes f.node ≡ None → FailNoMore failed srcs srcs' 1
    none_says none = sources_below 1 (λ k i m below at now.
        quiet f reported k m (inl (elim (ordered k f.node) [
          | inl lt ↦ lt
          | inr r ↦ absurd (
              let le : f.node ≤ k = elim r [ inl e ↦ omega (arith, e) | inr over ↦ omega (arith, over) ] in
              let w = slice_get_within nodes k (node.Demux i) at in
              let x = there nodes f.node (omega (arith, w, le)) in
              let both : None ≡ Some x.0 = sym none ∙ x.1 in cc)
        ])) now)

    some_says : (o : Option PlanNode) → slice_get nodes f.node ≡ o → Says (end_in inputs f.node f.fault o)
    some_says None at = none_says at
    some_says (Some n) at = node_says f.fault n at refl

  fault_says : (r : Option NodeFault) → fault ≡ r → Says (end_with inputs nodes r)
  fault_says None none = (none, sources_below (length srcs) (λ k i m below at now. quiet_at k m Device (run.tells.sound none k m now)), sinks_below (length snks) (λ k o m below at now. quiet_at k m Device (run.tells.sound none k m now)))
  fault_says (Some f) reported = some_says f reported (slice_get nodes f.node) refl

  -- what holds of the end that is reported
  pub says : Says (end_with inputs nodes fault)
  says = fault_says fault refl

  -- ---- what the sinks hold

  module _ (bytes : List (List ℕ)) (vouched : claims ≡ true) (told : AreTold left holds srcs snks bytes) (fitting : AreFitting is asked heads edges nodes)
      (muxes : (o : ℕ) → o < length snks → slice_get nodes (mux_node is asked heads bytes nodes edges o) ≡ Some (node.Mux o)) where
    -- a Mux node's task, and its output's file and text
    mux_is : (k o : ℕ) → slice_get nodes k ≡ Some (node.Mux o) → (fits : FitsMux is asked (lanes_into edges k) (lanes_out_of edges k) o) → task_at is asked heads bytes nodes edges k ≡ is.mux_task (first_at asked nodes edges k) fits.out fits.coded
    mux_is k o at fits =
        ap (λ (n : Option PlanNode). task_by is asked heads bytes nodes edges n k) at
        ∙ (ap (λ (x : Option OutputJob). mux_by is (first_at asked nodes edges k) x (heads_on (lanes_into edges k))) fits.there
        ∙ ap (λ (hs : List StreamHead). mux_by is (first_at asked nodes edges k) (Some fits.out) hs) (coded_is (lanes_into edges k) fits.coded fits.ins_are))

    file_is : (o : ℕ) (fits : FitsMux is asked (lanes_into edges (mux_node is asked heads bytes nodes edges o)) (lanes_out_of edges (mux_node is asked heads bytes nodes edges o)) o)
        → file_in is asked heads bytes nodes edges o ≡ is.file fits.out fits.coded (streams_into is asked heads bytes nodes edges (mux_node is asked heads bytes nodes edges o))
    file_is o fits =
        let k = mux_node is asked heads bytes nodes edges o in
        let s = streams_into is asked heads bytes nodes edges k in
        ap (λ (x : Option OutputJob). file_by is asked heads bytes nodes edges x (heads_on (lanes_into edges k)) s) fits.there
        ∙ ap (λ (hs : List StreamHead). file_by is asked heads bytes nodes edges (Some fits.out) hs s) (coded_is (lanes_into edges k) fits.coded fits.ins_are)

    text_is : (o : ℕ) (fits : FitsMux is asked (lanes_into edges (mux_node is asked heads bytes nodes edges o)) (lanes_out_of edges (mux_node is asked heads bytes nodes edges o)) o)
        → text_in is asked heads bytes nodes edges o ≡ is.text fits.out fits.coded (streams_into is asked heads bytes nodes edges (mux_node is asked heads bytes nodes edges o))
    text_is o fits =
        let k = mux_node is asked heads bytes nodes edges o in
        let s = streams_into is asked heads bytes nodes edges k in
        ap (λ (x : Option OutputJob). text_by is asked heads bytes nodes edges x (heads_on (lanes_into edges k)) s) fits.there
        ∙ ap (λ (hs : List StreamHead). text_by is asked heads bytes nodes edges (Some fits.out) hs s) (coded_is (lanes_into edges k) fits.coded fits.ins_are)

    lt_snks : (o : ℕ) → o < length snks' → o < length snks
    lt_snks o lt = (let c = back.snk_count in omega (arith, lt, c))

    -- without a fault each holds its file
    pub holds_file : fault ≡ None → HoldFiles holds (file_in is asked heads bytes nodes edges) snks'
    holds_file none o d lt =
        let k = mux_node is asked heads bytes nodes edges o in
        let at = muxes o (lt_snks o lt) in
        let fits = fitting k (node.Mux o) at in
        let m = there news k (
        let w = slice_get_within nodes k (node.Mux o) at in
        let all = run.all none in
        let many = run.kept.count in
        omega (arith, w, all, many)) in
        let sink = back.sinks k o m.0 at m.1 in
        let fed = (run.meets vouched bytes told).settled none k m.0 m.1 fits.outs_are in
        let ws = edges_into edges k in
        let many = edge_count edges k fits.coded fits.ins_are in
        let got = same_streams fed.past.got (solution is asked heads bytes nodes edges) (length fits.coded) ws many fed.got in
        let held = sink.2.whole fed.past (first_at asked nodes edges k) fits.out fits.coded fed.fits (fed.task_is ∙ mux_is k o at fits) (run.tells.sound none k m.0 m.1)
        (λ p lt. let within : p < length ws = omega (arith, lt, many) in subst (λ (s : Flow). IsWhole s) (sym (fed.got p within)) (fed.whole p within)) in
        let same : is.file fits.out fits.coded (first_streams (length fits.coded) fed.past.got) ≡ file_in is asked heads bytes nodes edges o = ap (is.file fits.out fits.coded) got ∙ sym (file_is o fits) in
        let snk : slice_index_or snks' o d ≡ sink.0 = get_or_from_slice_get snks' o sink.0 d sink.1 in
        (subst (λ (x : Option (List ℕ)). IsSome x) same held.0, ap holds snk ∙ (held.1 ∙ same))

    -- and whatever the fault a front of its text, or its file
    pub holds_part : ((out : OutputJob) (coded : List StreamHead) (held : Option (List ℕ)) (rs ss : List Flow) → AllBelow (map opened rs) ss → HoldsPart held (is.text out coded rs) (is.file out coded rs) → HoldsPart held (is.text out coded ss) (is.file out coded ss))
        → HoldParts holds (text_in is asked heads bytes nodes edges) (file_in is asked heads bytes nodes edges) snks'
    holds_part holds_on o d lt = elim (mux_before nodes (length news) o) [
      | inl b ↦
          let k = mux_node is asked heads bytes nodes edges o in
          let at = muxes o (lt_snks o lt) in
          let fits = fitting k (node.Mux o) at in
          let here : b.0 ≡ k = mux_once (length srcs) (length snks) nodes order b.0 k o b.2 at in
          let m = there news k (subst (λ (j : ℕ). j < length news) here b.1) in
          let sink = back.sinks k o m.0 at m.1 in
          let fed = (run.meets vouched bytes told).below k m.0 m.1 in
          let ws = edges_into edges k in
          let lies = below_streams fed.past.got (solution is asked heads bytes nodes edges) (length fits.coded) ws (edge_count edges k fits.coded fits.ins_are) fed.got in
          let part = sink.2.part fed.past (first_at asked nodes edges k) fits.out fits.coded fed.fits (fed.task_is ∙ mux_is k o at fits) in
          let more = holds_on fits.out fits.coded (holds sink.0) (first_streams (length fits.coded) fed.past.got) (streams_into is asked heads bytes nodes edges k) lies part in
          let snk : slice_index_or snks' o d ≡ sink.0 = get_or_from_slice_get snks' o sink.0 d sink.1 in
          subst (λ (x : K). HoldsPart (holds x) (text_in is asked heads bytes nodes edges o) (file_in is asked heads bytes nodes edges o)) (sym snk)
          (subst (λ (t : List ℕ). HoldsPart (holds sink.0) t (file_in is asked heads bytes nodes edges o)) (sym (text_is o fits))
          (subst (λ (x : Option (List ℕ)). HoldsPart (holds sink.0) (is.text fits.out fits.coded (streams_into is asked heads bytes nodes edges k)) x) (sym (file_is o fits)) more))
      | inr never ↦
          let x = there snks o (lt_snks o lt) in
          let now : slice_index_or snks' o d ≡ x.0 = get_or_from_slice_get snks' o x.0 d (back.other_snks o never ∙ x.1) in
          let empty : holds (slice_index_or snks' o d) ≡ Some [] = ap holds (now ∙ sym (get_or_from_slice_get snks o x.0 d x.1)) ∙ told.empty o d (lt_snks o lt) in
          inl ([], text_in is asked heads bytes nodes edges o, empty, refl)
    ]
