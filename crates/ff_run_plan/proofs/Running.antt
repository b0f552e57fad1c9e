-- The run of parts that were built.
use Rattle.std.proofs.Common.{◌≡◌, ℕ, ◌<◌, true, Bool, List, [], map, length, slice_get, Option, Some, None, sym, ap, ◌∙◌, subst, arith}
use Rattle.std.proofs.lemmas.Option.{slice_get_within, get_or_from_slice_get}
use Rattle.ff_stream.specs.declared.edges.edge.Edge.{Edge}
use Rattle.ff_frame.specs.declared.head.StreamHead.{StreamHead}
use Rattle.ff_stream.specs.declared.item.Lane.{Lane}
use Rattle.ff_stream.specs.declared.item.Lane.TheVariants.{Packets}
use Rattle.ff_stream.specs.edges.Ports.{lanes_into, lanes_out_of}
use Rattle.ff_net.specs.Pasts.{Task, start}
use Rattle.ff_net.specs.laws.Views.{View}
use Rattle.ff_net_threads.specs.declared.network.run.NodeFault.{NodeFault}
use Rattle.ff_net_threads.specs.network.Fits.{AreFit, ports_by, ins_at, outs_at, network}
use Rattle.ff_net_threads.specs.laws.network.Networks.{AllStart, ports_of}
use Rattle.ff_net_threads.specs.laws.network.Runs.{AllKept, MeetsNetwork}
use Rattle.ff_plan.specs.declared.planned.PlanNode.{PlanNode}
use Rattle.ff_plan.specs.declared.planned.PlanNode.TheVariants as node
use Rattle.ff_sched.specs.declared.routes.Routes.{Routes}
use Rattle.ff_files.specs.Works.{AreTold}
use Rattle.ff_run_plan.specs.Asked.{Asked}
use Rattle.ff_run_plan.specs.Kinds.{KindsOf}
use Rattle.ff_run_plan.specs.Meaning.{task_by, task_at}
use Rattle.ff_run_plan.specs.Parts.{FitsDemux, FitsMux, IsFitting, AreFitting, AreBelow, HasEnds, AreParts, source_in, source_at}
use Rattle.ff_run_plan.specs.laws.Runs.{TellsRun, AreRun}
use Rattle.ff_net_threads.specs.laws.network.Scheduling.{AllRouted}
use Rattle.ff_run_plan.specs.Openings.{unstarted}
use Rattle.ff_run_plan.proofs.Networks.{kept_same, unstarted_tells, unstarted_streams, parts_fit, meets_streams}
use Rattle.ff_run_plan.proofs.Numbers.{there}
use Rattle.ff_run_plan.proofs.Used.{used_first}

-- a source has no inputs
source_ins : {H : Type 0} (is : KindsOf H) (asked : Asked) (heads : List H) (ins outs : List Lane) (n : PlanNode) (i : ℕ) → source_in n ≡ Some i → IsFitting is asked heads ins outs n → ins ≡ []
source_ins is asked heads ins outs (node.Demux j) i e fits = fits.ins_are
source_ins is asked heads ins outs (node.Gen j) i e fits = fits.ins_are
source_ins is asked heads ins outs (node.Dec at) i e fits = absurd cc
source_ins is asked heads ins outs (node.Graph g) i e fits = absurd cc
source_ins is asked heads ins outs (node.Shortest o) i e fits = absurd cc
source_ins is asked heads ins outs (node.Enc o j) i e fits = absurd cc
source_ins is asked heads ins outs (node.Mux o) i e fits = absurd cc

module _ {H S K M : Type 0} (is : KindsOf H) (left named : S → Option (List ℕ)) (failed : S → ℕ) (holds called : K → Option (List ℕ)) (faulted : K → ℕ) (view : M → View)
    (asked : Asked) (heads : List H) (edges : List Edge) (nodes : List PlanNode) (srcs : List S) (snks : List K) (olds : List M) (sp : List (Option S)) (kp : List (Option K))
    (parts : AreParts is left named failed holds called faulted view asked heads edges nodes srcs snks olds sp kp) where
  node_there : (k : ℕ) (m : M) → slice_get olds k ≡ Some m → (n : PlanNode) × (slice_get nodes k ≡ Some n)
  node_there k m at = there nodes k (let w = slice_get_within olds k m at in let few = parts.few in omega (arith, w, few))

  pub part_lanes : (k : ℕ) (m : M) → slice_get olds k ≡ Some m → ((view m).in_lanes ≡ lanes_into edges k) × ((view m).out_lanes ≡ lanes_out_of edges k)
  part_lanes k m at = (let n = node_there k m at in let p = parts.each k n.0 m n.1 at in (p.in_lanes, p.out_lanes))

  pub part_sound : (k : ℕ) (m : M) → slice_get olds k ≡ Some m → (view m).fault ≡ None
  part_sound k m at = (let n = node_there k m at in (parts.each k n.0 m n.1 at).sound)

  part_stands : (bytes : List (List ℕ)) → AreTold left holds srcs snks bytes → (k : ℕ) (m : M) → slice_get olds k ≡ Some m → (view m).stands (start (task_at is asked heads bytes nodes edges k))
  part_stands bytes told k m at =
      let n = node_there k m at in
      subst (λ (o : Option PlanNode). (view m).stands (start (task_by is asked heads bytes nodes edges o k))) (sym n.1) ((parts.each k n.0 m n.1 at).starts bytes told)

  -- the parts start with the tasks of their nodes
  pub all_start : (bytes : List (List ℕ)) → AreTold left holds srcs snks bytes → AllStart view (task_at is asked heads bytes nodes edges) olds
  all_start bytes told = λ k d lt.
      let x = there olds k lt in
      subst (λ (m : M). (view m).stands (start (task_at is asked heads bytes nodes edges k))) (sym (get_or_from_slice_get olds k x.0 d x.1)) (part_stands bytes told k x.0 x.1)

  -- a part that is a source has the number of one
  pub are_within : (routes : Routes) → AreBelow routes.sources nodes → AllRouted view routes olds
  are_within routes below = record {
    each = λ k s d lt e.
        let x = there olds k lt in
        let n = node_there k x.0 x.1 in
        let own : (view x.0).source ≡ Some s = ap (λ (m : M). (view m).source) (sym (get_or_from_slice_get olds k x.0 d x.1)) ∙ e in
        below k s (ap source_at n.1 ∙ (sym (parts.each k n.0 x.0 n.1 x.1).source_is ∙ own));
  }

  pub all_fit : length olds ≡ length nodes → AreFit (ports_by edges) (length nodes) edges → AreFit (ports_of view olds) (length olds) edges
  all_fit long h = parts_fit view edges olds (length nodes) long part_lanes h

  pub run_ok : length olds ≡ length nodes → (news : List M) (fault : Option NodeFault) (claims : Bool) → AllKept view olds news → TellsRun view news fault
      → (claims ≡ true → (tasks : ℕ → Task) → AllStart view tasks olds
      → MeetsNetwork view tasks (network tasks (ports_of view olds) edges (length olds)) (ins_at (ports_of view olds) edges) (outs_at (ports_of view olds) edges) news fault)
      → AreRun is left named failed holds called faulted view asked heads edges nodes srcs snks claims olds news sp kp fault
  run_ok long news fault claims kept tells solved = record {
    parts = parts;
    all = λ none. long;
    kept = kept;
    tells = tells;
    meets = λ vouched bytes told.
        meets_streams view edges olds (length nodes) long part_lanes (task_at is asked heads bytes nodes edges) news fault kept.count tells
        (solved vouched (task_at is asked heads bytes nodes edges) (all_start bytes told));
  }

  pub run_err : (fault : Option NodeFault) (claims : Bool) → fault ≡ unstarted → AreRun is left named failed holds called faulted view asked heads edges nodes srcs snks claims olds olds sp kp fault
  run_err fault claims e = record {
    parts = parts;
    all = λ none. absurd (let both : None ≡ unstarted = sym none ∙ e in cc);
    kept = kept_same view olds;
    tells = unstarted_tells view olds fault e part_sound;
    meets = λ vouched bytes told. unstarted_streams view (task_at is asked heads bytes nodes edges) _ edges olds fault e (part_stands bytes told);
  }

-- a source that was run has no inputs, a demuxer gives packets, and a muxer has no outputs
module _ {H S K M : Type 0} (is : KindsOf H) (left named : S → Option (List ℕ)) (failed : S → ℕ) (holds called : K → Option (List ℕ)) (faulted : K → ℕ) (view : M → View)
    (asked : Asked) (heads : List H) (edges : List Edge) (nodes : List PlanNode) (srcs : List S) (snks : List K) (olds news : List M) (sp : List (Option S)) (kp : List (Option K))
    (parts : AreParts is left named failed holds called faulted view asked heads edges nodes srcs snks olds sp kp) (kept : AllKept view olds news) (fitting : AreFitting is asked heads edges nodes) where
  pub have_ends : (k : ℕ) (n : PlanNode) (m : M) → slice_get nodes k ≡ Some n → slice_get news k ≡ Some m → HasEnds n (view m)
  have_ends k n m at now =
      let lt : k < length olds = (let w = slice_get_within news k m now in let c = kept.count in omega (arith, w, c)) in
      let old = there olds k lt in
      let part = parts.each k n old.0 at old.1 in
      let ins : (view m).in_lanes ≡ lanes_into edges k =
      ap (λ (x : M). (view x).in_lanes) (sym (get_or_from_slice_get news k m m now)) ∙ (kept.in_lanes k old.0 m lt ∙ (ap (λ (x : M). (view x).in_lanes) (get_or_from_slice_get olds k old.0 old.0 old.1) ∙ part.in_lanes)) in
      let outs : (view m).out_lanes ≡ lanes_out_of edges k =
      ap (λ (x : M). (view x).out_lanes) (sym (get_or_from_slice_get news k m m now)) ∙ (kept.out_lanes k old.0 m lt ∙ (ap (λ (x : M). (view x).out_lanes) (get_or_from_slice_get olds k old.0 old.0 old.1) ∙ part.out_lanes)) in record {
        source = λ i e. ins ∙ source_ins is asked heads (lanes_into edges k) (lanes_out_of edges k) n i e (fitting k n at);
        packets = λ i e.
            let fits : FitsDemux is asked heads (lanes_into edges k) (lanes_out_of edges k) i = subst (λ (x : PlanNode). IsFitting is asked heads (lanes_into edges k) (lanes_out_of edges k) x) e (fitting k n at) in
            let first = used_first (is.streams fits.head) (asked.used i) fits.used in
            (first.0, map (λ (h : StreamHead). Packets h) first.1, outs ∙ (fits.outs_are ∙ ap (λ (hs : List StreamHead). map (λ (h : StreamHead). Packets h) hs) first.2));
        sink = λ o e.
            let fits : FitsMux is asked (lanes_into edges k) (lanes_out_of edges k) o = subst (λ (x : PlanNode). IsFitting is asked heads (lanes_into edges k) (lanes_out_of edges k) x) e (fitting k n at) in
            outs ∙ fits.outs_are;
      }
