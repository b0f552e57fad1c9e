-- What the sources of a plan's run have read.
use Rattle.std.proofs.Common.{◌≡◌, inl, inr, ℕ, zero, suc, ◌+◌, ◌<◌, ◌≤◌, Bool, true, false, List, [], ◌∷◌, length, take, slice_get, slice_index_or, Option, Some, None, is_some, refl, sym, ap, ◌∙◌, subst, arith, add-one}
use Rattle.std.specs.Prelude.{IfSome}
use Rattle.std.proofs.lemmas.Bool.{cases_lt}
use Rattle.std.proofs.lemmas.List.{length-take-le}
use Rattle.std.proofs.lemmas.Option.{slice_get_within, get_or_from_slice_get}
use mathlib.Core.List.{IsPrefix}
use Rattle.ff_frame.specs.declared.event.Event.{Event}
use Rattle.ff_stream.specs.Ports.{IsWhole}
use Rattle.ff_words.specs.declared.job.Job.{Job}
use Rattle.ff_stream.specs.declared.edges.edge.Edge.{Edge}
use Rattle.ff_stream.specs.edges.Ports.{lanes_into, lanes_out_of}
use Rattle.ff_sched.specs.declared.routes.Routes.{Routes}
use Rattle.ff_sched.specs.State.{State}
use Rattle.ff_net.specs.laws.Laws.{Laws, reads_of}
use Rattle.ff_net.specs.Nets.{Part, solve}
use Rattle.ff_net.specs.Pasts.{Task, Units, IsIn, count_of, due_by}
use Rattle.ff_net.proofs.Flows.{none_is}
use Rattle.ff_net.specs.laws.Views.{View}
use Rattle.ff_net.specs.Ways.{Flow}
use Rattle.ff_net_threads.specs.declared.network.run.NodeFault.{NodeFault}
use Rattle.ff_net_threads.specs.network.Fits.{Ports, ports_by, ins_at, outs_at, part_at, parts_from, network}
use Rattle.ff_net_threads.specs.laws.network.Networks.{AllStart, ports_of}
use Rattle.ff_net_threads.specs.laws.network.Runs.{read_parts}
use Rattle.ff_net_threads.specs.laws.network.Scheduling.{AreLogged, ReadsUnderGrants}
use Rattle.ff_plan.specs.declared.planned.Plan.{Plan}
use Rattle.ff_plan.specs.declared.planned.PlanNode.{PlanNode}
use Rattle.ff_plan.specs.declared.planned.PlanNode.TheVariants as node
use Rattle.ff_files.specs.declared.work.WorkEnd.{WorkEnd}
use Rattle.ff_files.specs.declared.work.WorkEnd.TheVariants as work_end
use Rattle.ff_files.specs.Works.{AreTold}
use Rattle.ff_run_plan.specs.Asked.{Asked, asked_of}
use Rattle.ff_run_plan.specs.declared.fault.RunFault.{RunFault}
use Rattle.ff_run_plan.specs.declared.reads.RunLog.{RunLog}
use Rattle.ff_run_plan.specs.laws.Accepting.{IsPlanFor}
use Rattle.ff_run_plan.specs.laws.Claims.{tell_all}
use Rattle.ff_run_plan.specs.Events.{TellOfThemselves}
use Rattle.ff_run_plan.specs.Histories.{state_before, AreScheduled}
use Rattle.ff_run_plan.specs.Kinds.{KindsOf, TellsExit}
use Rattle.ff_run_plan.specs.Meaning.{edges_into, mux_node, solution, task_at}
use Rattle.ff_run_plan.specs.Openings.{is_read}
use Rattle.ff_run_plan.specs.Parts.{FitsMux, AreBelow, AreFitting, AreOrdered, AreBack, source_in, source_at}
use Rattle.ff_run_plan.specs.Reads.{grants_of, places_in, reads_at, AreGranted, as_read, read_task, read_solution, AreEnough, IsLogFor, tried_in, first_reads, AreSufficient, IsLogOf}
use Rattle.ff_run_plan.specs.laws.Runs.{AreRun}
use Rattle.ff_run_plan.proofs.Gathering.{source_once}
use Rattle.ff_run_plan.proofs.Grants.{no_more, front, first_rise, first_held, at_upto, beyond_upto, long_upto}
use Rattle.ff_run_plan.proofs.Networks.{plan_net, plan_ins, plan_outs}
use Rattle.ff_run_plan.proofs.Numbers.{there, same_some}
use Rattle.ff_run_plan.proofs.Outcomes.{fine_only}
use Rattle.ff_run_plan.proofs.Running.{part_lanes}
use Rattle.ff_run_plan.proofs.Telling.{tells_told}
use Rattle.ff_run_plan.proofs.Told as told
use Rattle.ff_run_plan.proofs.Trying.{unread, tried_is}

-- ---- under which grants

module _ {M : Type 0} (view : M → View) (inputs : ℕ) (nodes : List PlanNode) (parts : List M) (events : List Event) (reads : List (List ℕ)) (are : reads ≡ first_reads view inputs nodes parts events) where
  pub reads_are : (i : ℕ) → i < inputs → reads_at reads i ≡ take (tried_in view i nodes parts) (grants_of i events)
  reads_are i lt =
      let f : ℕ → List ℕ = λ j. take (tried_in view j nodes parts) (grants_of j events) in
      ap (λ (rs : List (List ℕ)). reads_at rs i) are ∙ (at_upto f 0 inputs i lt ∙ ap f (omega arith))

  none_beyond : (i : ℕ) → inputs ≤ i → reads_at reads i ≡ []
  none_beyond i le = ap (λ (rs : List (List ℕ)). reads_at rs i) are ∙ beyond_upto (λ j. take (tried_in view j nodes parts) (grants_of j events)) 0 inputs i le

  front_is : (i : ℕ) → (t : ℕ) × (reads_at reads i ≡ take t (grants_of i events))
  front_is i = elim (cases_lt i inputs) [
    | inl lt ↦ (tried_in view i nodes parts, reads_are i lt)
    | inr le ↦ (0, none_beyond i le)
  ]

  pub are_granted : AreGranted inputs events reads
  are_granted = record {
    count = ap length are ∙ long_upto (λ j. take (tried_in view j nodes parts) (grants_of j events)) 0 inputs;
    granted = λ i n p h. (let t = front_is i in first_held i t.0 events n p (ap (λ (ps : List ℕ). slice_get ps n) (sym t.1) ∙ h));
    in_order = λ i n p q a c.
        let t = front_is i in
        first_rise i t.0 events n p q (ap (λ (ps : List ℕ). slice_get ps n) (sym t.1) ∙ a)
        (ap (λ (ps : List ℕ). slice_get ps (suc n)) (sym t.1) ∙ (ap (λ (k : ℕ). slice_get (reads_at reads i) k) (sym (add-one n)) ∙ c));
    first = λ i. (let t = front_is i in subst (λ (ps : List ℕ). IsPrefix ps (grants_of i events)) (sym t.1) (front t.0 (grants_of i events)));
  }

  pub none_unread : (i : ℕ) → is_read nodes i ≡ false → reads_at reads i ≡ []
  none_unread i unasked = elim (cases_lt i inputs) [
    | inl lt ↦ reads_are i lt ∙ ap (λ (n : ℕ). take n (grants_of i events)) (unread view i nodes parts unasked)
    | inr le ↦ none_beyond i le
  ]

-- ---- how much

options_same : (a b : Option ℕ) → is_some b ≡ is_some a → ((i : ℕ) → a ≡ Some i → b ≡ Some i) → a ≡ b
options_same None None e h = refl
options_same None (Some j) e h = absurd cc
options_same (Some i) b e h = sym (h i refl)

stands_in : (ws : List ℕ) (p : ℕ) → p < length ws → IsIn (slice_index_or ws p 0) ws
stands_in [] p lt = absurd (omega (arith, lt))
stands_in (w ∷ ws) zero lt = inl refl
stands_in (w ∷ ws) (suc p) lt = inr (stands_in ws p (omega (arith, lt)))

-- what is due by the units that were read is due by those that were tried
due_same : (reads : List (List ℕ)) (o : Option ℕ) (n : ℕ) (task : Task) → is_some task.source ≡ is_some o → ((i : ℕ) → o ≡ Some i → length (reads_at reads i) ≡ n)
    → ◌≡◌ {A = List Flow → List Flow} (as_read reads o task) (λ ss. due_by task.source n (task.means ss))
due_same reads None n task is units = ap (λ (s : Option Units). λ (ss : List Flow). due_by s n (task.means ss)) (sym (none_is task.source is))
due_same reads (Some i) n task is units = ap (λ (k : ℕ). λ (ss : List Flow). due_by task.source k (task.means ss)) (units i refl)

parts_read : {M : Type 0} (view : M → View) (ms : List M) (f g : ℕ → Part) (k : ℕ)
    → ((j at : ℕ) (m : M) → at ≡ k + j → slice_get ms j ≡ Some m → g at ≡ record (f at) { means = λ ss. due_by (f at).source (view m).tried ((f at).means ss) })
    → parts_from g k (length ms) ≡ read_parts view ms (parts_from f k (length ms))
parts_read view [] f g k same = refl
parts_read {M} view (m ∷ ms) f g k same =
    ap (λ (p : Part). p ∷ parts_from g (suc k) (length ms)) (same 0 k m (omega arith) refl)
    ∙ ap (λ (ps : List Part). record (f k) { means = λ ss. due_by (f k).source (view m).tried ((f k).means ss) } ∷ ps)
    (parts_read view ms f g (suc k) (λ j at x e here. same (suc j) at x (omega (arith, e)) here))

module _ {H S K M : Type 0} (is : KindsOf H) (own : TellOfThemselves is) (left named : S → Option (List ℕ)) (failed : S → ℕ) (holds called : K → Option (List ℕ)) (faulted : K → ℕ)
    (view : M → View) (laws : (m : M) → Laws (view m)) (exits : (m : M) → TellsExit (view m)) (asked : Asked) (heads : List H) (edges : List Edge) (nodes : List PlanNode) (srcs : List S) (snks : List K) (claims : Bool)
    (olds news : List M) (sp : List (Option S)) (kp : List (Option K)) (fault : Option NodeFault) (srcs' : List S) (snks' : List K) (routes : Routes) (state : State) (events : List Event)
    (order : AreOrdered (length srcs) (length snks) nodes) (fitting : AreFitting is asked heads edges nodes)
    (run : AreRun is left named failed holds called faulted view asked heads edges nodes srcs snks claims olds news sp kp fault)
    (back : AreBack is left named failed holds called faulted view nodes news srcs snks srcs' snks')
    (sound : fault ≡ None) (s : AreScheduled view edges claims olds news routes state fault events)
    (bytes : List (List ℕ)) (vouched : claims ≡ true) (tells : AreTold left holds srcs snks bytes) (snk_count : length snks ≡ length asked.outputs)
    (suffice : AreSufficient view edges claims olds news fault) (below : AreBelow routes.sources nodes)
    (reads : List (List ℕ)) (are : reads ≡ first_reads view routes.sources nodes news events) where
  abbrev tasks : ℕ → Task
  tasks = task_at is asked heads bytes nodes edges

  abbrev ports : Ports
  ports = ports_of view olds

  there_now : (k : ℕ) → k < length nodes → k < length news
  there_now =
      told.new_there is own left named failed holds called faulted view laws exits asked heads edges nodes srcs snks claims olds news sp kp fault srcs' snks' routes state
      events order fitting run back sound s bytes vouched tells snk_count

  same_kind : (j : ℕ) (e : M) (n : PlanNode) → j < length news → slice_get nodes j ≡ Some n → is_some (source_in n) ≡ is_some (view (slice_index_or news j e)).source
  same_kind =
      told.same_kind is own left named failed holds called faulted view laws exits asked heads edges nodes srcs snks claims olds news sp kp fault srcs' snks' routes state
      events order fitting run back sound s bytes vouched tells snk_count

  task_kind : (j : ℕ) (n : PlanNode) → j < length nodes → slice_get nodes j ≡ Some n → is_some (tasks j).source ≡ is_some (source_in n)
  task_kind =
      told.task_kind is own left named failed holds called faulted view laws exits asked heads edges nodes srcs snks claims olds news sp kp fault srcs' snks' routes state
      events order fitting run back sound s bytes vouched tells snk_count

  is_reader : (j i : ℕ) (e : M) → j < length news → (view (slice_index_or news j e)).source ≡ Some i → (i' : ℕ) × (source_at (slice_get nodes j) ≡ Some i')
  is_reader =
      told.is_reader is own left named failed holds called faulted view laws exits asked heads edges nodes srcs snks claims olds news sp kp fault srcs' snks' routes state
      events order fitting run back sound s bytes vouched tells snk_count

  reads_own : (j i i' : ℕ) (e : M) → j < length news → (view (slice_index_or news j e)).source ≡ Some i → source_at (slice_get nodes j) ≡ Some i' → i ≡ i'
  reads_own =
      told.reads_own is own left named failed holds called faulted view laws exits asked heads edges nodes srcs snks claims olds news sp kp fault srcs' snks' routes state
      events order fitting run back sound s bytes vouched tells snk_count

  node_there : (k : ℕ) → k < length news → k < length nodes
  node_there =
      told.node_there is own left named failed holds called faulted view laws exits asked heads edges nodes srcs snks claims olds news sp kp fault srcs' snks' routes state
      events order fitting run back sound s bytes vouched tells snk_count

  old_there : (k : ℕ) → k < length nodes → k < length olds
  old_there =
      told.old_there is own left named failed holds called faulted view laws exits asked heads edges nodes srcs snks claims olds news sp kp fault srcs' snks' routes state
      events order fitting run back sound s bytes vouched tells snk_count

  begun : (claims ≡ true) × AllStart view tasks olds
  begun =
      told.begun is own left named failed holds called faulted view laws exits asked heads edges nodes srcs snks claims olds news sp kp fault srcs' snks' routes state
      events order fitting run back sound s bytes vouched tells snk_count

  logs : AreLogged view tasks (solve (network tasks ports edges (length olds))) (ins_at ports edges) (outs_at ports edges) news fault s.logs
  logs =
      told.logs is own left named failed holds called faulted view laws exits asked heads edges nodes srcs snks claims olds news sp kp fault srcs' snks' routes state
      events order fitting run back sound s bytes vouched tells snk_count

  -- a part is the source that its node is
  source_is : (k : ℕ) (e : M) (n : PlanNode) → k < length news → slice_get nodes k ≡ Some n → (view (slice_index_or news k e)).source ≡ source_in n
  source_is k e n lt at =
      options_same (view (slice_index_or news k e)).source (source_in n)
      (same_kind k e n lt at)
      (λ i src.
      let reader = is_reader k i e lt src in
      let same = reads_own k i reader.0 e lt src reader.1 in
      sym (ap source_at at) ∙ (reader.1 ∙ ap (λ (j : ℕ). Some j) (sym same)))

  -- there is a place for each unit that it has tried
  module _ (i k : ℕ) (at : source_at (slice_get nodes k) ≡ Some i) where
    abbrev here : (n : PlanNode) × (slice_get nodes k ≡ Some n)
    here = told.source_there (slice_get nodes k) i at

    is_source : source_in here.0 ≡ Some i
    is_source = sym (ap source_at here.1) ∙ at

    abbrev reader : (m : M) × (slice_get news k ≡ Some m)
    reader = there news k (there_now k (slice_get_within nodes k here.0 here.1))

    is_here : slice_index_or news k reader.0 ≡ reader.0
    is_here = get_or_from_slice_get news k reader.0 reader.0 reader.1

    tried_units : tried_in view i nodes news ≡ (view reader.0).tried
    tried_units = tried_is view i nodes news k reader.0 (λ j h. source_once (length srcs) (length snks) nodes order j k i h at) at reader.1

    some_grants : (view reader.0).tried ≤ length (grants_of i events)
    some_grants =
        let lt = there_now k (slice_get_within nodes k here.0 here.1) in
        let m = slice_index_or news k reader.0 in
        let all = logs.settled sound k reader.0 lt in
        let under : ReadsUnderGrants (view m) all.past events = s.reads k reader.0 all.past lt all.fits all.logged in
        let places = reads_of (view m) all.past in
        let many = no_more i 0 events places (λ n p h. (p, omega arith, under.granted i n p (source_is k reader.0 here.0 lt here.1 ∙ is_source) h))
        (λ n p q a c. under.in_order n p q a (ap (λ (j : ℕ). slice_get places j) (add-one n) ∙ c)) in
        let each = under.one_each in
        let same = ap (λ (x : M). (view x).tried) is_here in
        omega (arith, many, each, same)

    units : length (reads_at reads i) ≡ (view reader.0).tried
    units =
        let few = some_grants in
        ap length (reads_are view routes.sources nodes news events reads are i (below k i at) ∙ ap (λ (n : ℕ). take n (grants_of i events)) tried_units)
        ∙ length-take-le (view reader.0).tried (grants_of i events) few

    -- at most one more than its task has units
    few_units : length (reads_at reads i) ≤ count_of (tasks k).source + 1
    few_units =
        let lt = there_now k (slice_get_within nodes k here.0 here.1) in
        let all = logs.settled sound k reader.0 lt in
        let stood : (view reader.0).stands all.past = subst (λ (x : M). (view x).stands all.past) is_here all.fits in
        let src : (view reader.0).source ≡ Some i =
        ap (λ (x : M). (view x).source) (sym is_here) ∙ (source_is k reader.0 here.0 lt here.1 ∙ is_source) in
        let few = (exits reader.0).few all.past i stood src in
        let own_task = ap (λ (t : Task). count_of t.source) all.task_is in
        let each = units in
        omega (arith, own_task, few, each)

  -- ---- the streams that come of these units alone

  -- of the part of a number
  means_same : (k : ℕ) (m : M) → slice_get news k ≡ Some m
      → ◌≡◌ {A = List Flow → List Flow} (as_read reads (source_at (slice_get nodes k)) (tasks k)) (λ ss. due_by (tasks k).source (view m).tried ((tasks k).means ss))
  means_same k m here =
      let within = node_there k (slice_get_within news k m here) in
      let n = there nodes k within in
      let kind : is_some (tasks k).source ≡ is_some (source_at (slice_get nodes k)) =
      task_kind k n.0 within n.1 ∙ sym (ap (λ (o : Option PlanNode). is_some (source_at o)) n.1) in
      due_same reads (source_at (slice_get nodes k)) (view m).tried (tasks k) kind
      (λ i is_i.
      let x = reader i k is_i in
      units i k is_i ∙ ap (λ (y : M). (view y).tried) (same_some (slice_get news k) x.0 m x.1 here))

  nets_same : network (read_task is asked heads bytes nodes edges reads) ports edges (length news) ≡ read_parts view news (network tasks ports edges (length news))
  nets_same =
      parts_read view news (part_at tasks ports edges) (part_at (read_task is asked heads bytes nodes edges reads) ports edges) 0
      (λ j at m e here.
      let number : at ≡ j = omega (arith, e) in
      let make : (List Flow → List Flow) → Part = λ means.
      record { means = means; source = (tasks at).source; in_lanes = ports.ins at; out_lanes = ports.outs at; ins = ins_at ports edges at; outs = outs_at ports edges at } in
      ap make (means_same at m (ap (λ (k : ℕ). slice_get news k) number ∙ here)))

  module _ (o k p : ℕ) (at : slice_get nodes k ≡ Some (node.Mux o)) (lt : p < length (edges_into edges k)) where
    abbrev edge : ℕ
    edge = slice_index_or (edges_into edges k) p 0

    within : k < length olds
    within = old_there k (slice_get_within nodes k (node.Mux o) at)

    fits : FitsMux is asked (lanes_into edges k) (lanes_out_of edges k) o
    fits = fitting k (node.Mux o) at

    lanes : (j : ℕ) (m : M) → slice_get olds j ≡ Some m → ((view m).in_lanes ≡ lanes_into edges j) × ((view m).out_lanes ≡ lanes_out_of edges j)
    lanes = part_lanes is left named failed holds called faulted view asked heads edges nodes srcs snks olds sp kp run.parts

    enough : read_solution is asked heads bytes nodes edges reads edge ≡ solution is asked heads bytes nodes edges edge
    enough =
        let long = run.all sound in
        let many = run.kept.count in
        let net : (ts : ℕ → Task) → solve (network ts ports edges (length olds)) ≡ solve (network ts (ports_by edges) edges (length nodes)) = plan_net view edges olds (length nodes) long lanes in
        let ins = plan_ins view edges olds (length nodes) long lanes k within in
        let outs = plan_outs view edges olds (length nodes) long lanes k within fits.outs_are in
        let in_it : IsIn edge (ins_at ports edges k) = subst (λ (ws : List ℕ). IsIn edge ws) (sym ins) (stands_in (edges_into edges k) p lt) in
        let now : k < length news = there_now k (slice_get_within nodes k (node.Mux o) at) in
        ap (λ (σ : ℕ → Flow). σ edge) (sym (net (read_task is asked heads bytes nodes edges reads)))
        ∙ (ap (λ (c : ℕ). solve (network (read_task is asked heads bytes nodes edges reads) ports edges c) edge) (sym many)
        ∙ (ap (λ (ps : List Part). solve ps edge) nets_same
        ∙ (ap (λ (c : ℕ). solve (read_parts view news (network tasks ports edges c)) edge) many
        ∙ (suffice vouched tasks begun.1 sound k edge now outs in_it
        ∙ ap (λ (σ : ℕ → Flow). σ edge) (net tasks)))))

    whole : IsWhole (read_solution is asked heads bytes nodes edges reads edge)
    whole =
        let m = there news k (there_now k (slice_get_within nodes k (node.Mux o) at)) in
        let fed = (run.meets vouched bytes tells).settled sound k m.0 m.1 fits.outs_are in
        subst (λ (x : Flow). IsWhole x) (sym enough) (fed.whole p lt)

  pub are_enough : ((o : ℕ) → o < length asked.outputs → slice_get nodes (mux_node is asked heads bytes nodes edges o) ≡ Some (node.Mux o)) → AreEnough is asked heads bytes nodes edges reads
  are_enough muxes = record {
    few = λ i k at. few_units i k at;
    enough = λ o p lt below. enough o (mux_node is asked heads bytes nodes edges o) p (muxes o lt) below;
    whole = λ o p lt below. whole o (mux_node is asked heads bytes nodes edges o) p (muxes o lt) below;
  }

-- what a job's run that did all has logged, over inputs whose bytes may be told
module _ {H S K M : Type 0} (is : KindsOf H) (own : TellOfThemselves is) (left named : S → Option (List ℕ)) (failed : S → ℕ) (holds called : K → Option (List ℕ)) (faulted : K → ℕ)
    (view : M → View) (laws : (m : M) → Laws (view m)) (exits : (m : M) → TellsExit (view m)) (job : Job) (plan : Plan) (heads : List H) (srcs : List S) (snks : List K) (end : WorkEnd RunFault) (srcs' : List S) (snks' : List K)
    (log : RunLog) (for : IsPlanFor is job heads plan) (src_count : length srcs ≡ length heads) (snk_count : length snks ≡ length job.outputs)
    (h : IsLogOf is left named failed holds called faulted view (asked_of job plan.texts plan.made plan.nodes) heads plan.edges plan.nodes srcs snks (tell_all left holds srcs snks) plan.routes (state_before plan) end srcs' snks' log)
    (fine : end ≡ work_end.Fine) where
  order : AreOrdered (length srcs) (length snks) plan.nodes
  order =
      subst (λ (n : ℕ). AreOrdered n (length snks) plan.nodes) (sym src_count) (subst (λ (n : ℕ). AreOrdered (length heads) n plan.nodes) (sym snk_count) for.ordered)

  enough_read : (bytes : Option (List (List ℕ))) → IfSome bytes (AreTold left holds srcs snks) → IfSome bytes (λ b. AreEnough is (asked_of job plan.texts plan.made plan.nodes) heads b plan.nodes plan.edges (places_in log.reads.items))
  enough_read None tells = tt
  enough_read (Some bytes) tells =
      let d = h.history.done in
      are_enough is own left named failed holds called faulted view laws exits (asked_of job plan.texts plan.made plan.nodes) heads plan.edges plan.nodes srcs snks (tell_all left holds srcs snks) d.olds d.news
      d.src_places d.snk_places d.fault srcs' snks' plan.routes (state_before plan) log.history order for.fitting d.run d.back
      (fine_only (length heads) plan.nodes d.fault (sym d.end_is ∙ fine)) h.history.run bytes (tells_told left holds srcs snks bytes tells) tells snk_count h.suffice for.below
      (places_in log.reads.items) h.reads for.muxes

  pub log_in : (bytes : Option (List (List ℕ))) → IfSome bytes (AreTold left holds srcs snks) → IsLogFor is job heads bytes log
  log_in bytes tells = (
    told.history_in is own left named failed holds called faulted view laws exits job plan heads srcs snks end srcs' snks' log.history for src_count snk_count h.history fine bytes tells,
    (
      plan,
      for.made,
      record {
        granted = are_granted view plan.routes.sources plan.nodes h.history.done.news log.history (places_in log.reads.items) h.reads;
        unread = none_unread view plan.routes.sources plan.nodes h.history.done.news log.history (places_in log.reads.items) h.reads;
        enough = enough_read bytes tells;
      },
    ),
  )
