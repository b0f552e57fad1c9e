-- The network of parts with the lanes of a plan's edges.
use Rattle.std.proofs.Common.{◌≡◌, ℕ, zero, suc, ◌+◌, ◌<◌, ◌≤◌, inr, Bool, true, false, List, [], ◌∷◌, length, map, slice_get, slice_index_or, Option, Some, None, refl, sym, ap, ◌∙◌, subst, arith}
use Rattle.std.proofs.lemmas.Option.{slice_get_within, get_or_from_slice_get}
use Rattle.ff_stream.specs.declared.item.Lane.{Lane}
use Rattle.ff_stream.specs.declared.edges.edge.Edge.{Edge}
use Rattle.ff_stream.specs.edges.Ports.{edge_to, edge_from, at_ports}
use Rattle.ff_net.specs.declared.fault.Fault.TheVariants.{NoMemory}
use Rattle.ff_net.specs.laws.Laws.{FaultStep, IsOfInputs}
use Rattle.ff_net.specs.Nets.{Part, solve}
use Rattle.ff_net.specs.Pasts.{Task, start}
use Rattle.ff_net.specs.laws.Views.{View}
use Rattle.ff_net.specs.Ways.{Flow, lane_at}
use Rattle.ff_net_threads.specs.declared.network.run.NodeFault.{NodeFault}
use Rattle.ff_net_threads.specs.network.Fits.{Ports, AreFit, edge_lanes, ins_at, outs_at, part_at, parts_from, network}
use Rattle.ff_net_threads.specs.laws.network.Networks.{AllStart, lanes_at, ports_of}
use Rattle.ff_net_threads.specs.laws.network.Runs.{AllKept, FedPart, FedAll, MeetsNetwork, TellsFault}
use Rattle.ff_stream.specs.edges.Ports.{lanes_out_of}
use Rattle.ff_net_threads.specs.network.Fits.{ports_by}
use Rattle.ff_run_plan.specs.Meaning.{edges_into}
use Rattle.ff_run_plan.specs.Openings.{unstarted, or_memory}
use Rattle.ff_run_plan.specs.laws.Runs.{TellsRun, MeetsStreams}
use Rattle.ff_run_plan.proofs.Numbers.{there, same_some}

-- the lanes of the part of a number
lanes_are : {M : Type 0} (lanes : View → List Lane) (view : M → View) (ms : List M) (k : ℕ) (m : M) → slice_get ms k ≡ Some m → lanes_at lanes view ms k ≡ lanes (view m)
lanes_are lanes view [] k m e = absurd cc
lanes_are {M} lanes view (x ∷ xs) zero m e = ap (λ (y : M). lanes (view y)) (let same : Some x ≡ Some m = e in cc)
lanes_are lanes view (x ∷ xs) (suc k) m e = lanes_are lanes view xs k m e

-- ports of the same lanes, of so many nodes
record AreSame (ports ports' : Ports) (count : ℕ) : Type 0 where
  ins : (k : ℕ) → k < count → ports'.ins k ≡ ports.ins k
  outs : (k : ℕ) → k < count → ports'.outs k ≡ ports.outs k

fit_same : (ports ports' : Ports) (count : ℕ) (edges : List Edge) → AreSame ports ports' count → AreFit ports count edges → AreFit ports' count edges
fit_same ports ports' count edges same h = record {
  ins = λ k lt. subst (λ (ls : List Lane). map (lane_at (edge_lanes edges)) (at_ports (edge_to edges k) (length ls)) ≡ map Some ls) (sym (same.ins k lt)) (h.ins k lt);
  outs = λ k lt. subst (λ (ls : List Lane). map (lane_at (edge_lanes edges)) (at_ports (edge_from edges k) (length ls)) ≡ map Some ls) (sym (same.outs k lt)) (h.outs k lt);
  fed = λ k p lt below.
      let f = h.fed k p lt (subst (λ (ls : List Lane). p < length ls) (same.ins k lt) below) in
      let up = f.2 in
      (f.0, f.1, up, subst (λ (ls : List Lane). f.1 < length ls) (sym (same.outs f.0 (omega (arith, up, lt)))) f.3, f.4);
}

parts_same : (f g : ℕ → Part) (k n : ℕ) → ((j : ℕ) → k ≤ j → j < k + n → f j ≡ g j) → parts_from f k n ≡ parts_from g k n
parts_same f g k zero same = refl
parts_same f g k (suc n) same =
    ap (λ (p : Part). p ∷ parts_from f (suc k) n) (same k (omega arith) (omega arith))
    ∙ ap (λ (ps : List Part). g k ∷ ps) (parts_same f g (suc k) n (λ j le lt. same j (omega (arith, le)) (omega (arith, lt))))

part_same : (tasks : ℕ → Task) (edges : List Edge) (ports ports' : Ports) (k : ℕ) → ports'.ins k ≡ ports.ins k → ports'.outs k ≡ ports.outs k → part_at tasks ports' edges k ≡ part_at tasks ports edges k
part_same tasks edges ports ports' k i o =
    let make : List Lane → List Lane → Part = λ is os. record { means = (tasks k).means; source = (tasks k).source; in_lanes = is; out_lanes = os; ins = at_ports (edge_to edges k) (length is); outs = at_ports (edge_from edges k) (length os) } in
    ap (λ (is : List Lane). make is (ports'.outs k)) i ∙ ap (λ (os : List Lane). make (ports.ins k) os) o

network_same : (tasks : ℕ → Task) (edges : List Edge) (ports ports' : Ports) (count : ℕ) → AreSame ports ports' count → network tasks ports' edges count ≡ network tasks ports edges count
network_same tasks edges ports ports' count same =
    parts_same (part_at tasks ports' edges) (part_at tasks ports edges) 0 count (λ j le lt. part_same tasks edges ports ports' j (same.ins j (omega (arith, lt))) (same.outs j (omega (arith, lt))))

-- before anything is done each part was fed nothing
fed_nothing : (v : View) (task : Task) (streams : ℕ → Flow) (edges : List ℕ) → v.stands (start task) → FedPart v task streams edges
fed_nothing v task streams edges s = record {
  past = start task;
  fits = s;
  task_is = refl;
  got = λ p lt. inr (refl, ((streams (slice_index_or edges p 0)).items, refl));
}

-- want of memory before the start

module _ {M : Type 0} (view : M → View) where
  step_same : (v : View) → FaultStep v v
  step_same v = record {
    device_same = refl;
    later = omega arith;
    stays = λ c e. e;
    failed = λ none some. absurd cc;
    unfailed = λ never. refl;
    behind = λ c e. refl;
  }

  -- parts that nothing was done with
  pub kept_same : (parts : List M) → AllKept view parts parts
  kept_same parts = record {
    count = refl;
    in_lanes = λ k d e lt. (let x = there parts k lt in ap (λ (m : M). (view m).in_lanes) (get_or_from_slice_get parts k x.0 e x.1 ∙ sym (get_or_from_slice_get parts k x.0 d x.1)));
    out_lanes = λ k d e lt. (let x = there parts k lt in ap (λ (m : M). (view m).out_lanes) (get_or_from_slice_get parts k x.0 e x.1 ∙ sym (get_or_from_slice_get parts k x.0 d x.1)));
    fares = λ k d e lt.
        let x = there parts k lt in
        subst (λ (m : M). FaultStep (view m) (view (slice_index_or parts k e))) (sym (get_or_from_slice_get parts k x.0 d x.1))
        (subst (λ (m : M). FaultStep (view x.0) (view m)) (sym (get_or_from_slice_get parts k x.0 e x.1)) (step_same (view x.0)));
  }

  pub unstarted_tells : (parts : List M) (fault : Option NodeFault) → fault ≡ unstarted → ((k : ℕ) (m : M) → slice_get parts k ≡ Some m → (view m).fault ≡ None) → TellsRun view parts fault
  unstarted_tells parts fault is sound = record {
    sound = λ none. absurd (let both : None ≡ unstarted = sym none ∙ is in cc);
    before = λ f e j m lt at. sound j m at;
    own = λ f e other. absurd (other (ap (λ (x : NodeFault). x.fault) (same_some fault f (record { node = 0; fault = NoMemory }) e is)));
    first = λ f e m c at some. absurd (let none = sound f.node m at in let both : None ≡ Some c = sym none ∙ some in cc);
  }

  -- what a run tells, by the numbers of its parts
  pub tells_run : (parts : List M) (fault : Option NodeFault) → TellsFault view parts fault → TellsRun view parts fault
  tells_run parts fault h = record {
    sound = λ none k m at. subst (λ (x : M). (view x).fault ≡ None) (get_or_from_slice_get parts k m m at) (h.sound none k m (slice_get_within parts k m at));
    before = λ f e j m lt at. subst (λ (x : M). (view x).fault ≡ None) (get_or_from_slice_get parts j m m at) (h.before f e j m lt);
    own = λ f e other.
        let x = there parts f.node (h.there f e) in
        (x.0, x.1, subst (λ (y : M). (view y).fault ≡ Some f.fault) (get_or_from_slice_get parts f.node x.0 x.0 x.1) (h.own f e other x.0));
    first = λ f e m c at some. h.first f e m c (subst (λ (x : M). (view x).fault ≡ Some c) (sym (get_or_from_slice_get parts f.node m m at)) some);
  }

  pub unstarted_meets : (tasks : ℕ → Task) (parts : List Part) (ins outs : ℕ → List ℕ) (machines : List M) (fault : Option NodeFault) → fault ≡ unstarted → AllStart view tasks machines
      → MeetsNetwork view tasks parts ins outs machines fault
  unstarted_meets tasks parts ins outs machines fault is all = record {
    below = λ k e lt. fed_nothing (view (slice_index_or machines k e)) (tasks k) (solve parts) (ins k) (all k e lt);
    settled = λ none. absurd (let both : None ≡ unstarted = sym none ∙ is in cc);
    cause = λ f e i. absurd (subst IsOfInputs (ap (λ (x : NodeFault). x.fault) (same_some fault f (record { node = 0; fault = NoMemory }) e is)) i);
  }

  -- where memory is refused for the history in the end
  pub told_tells : (parts : List M) (fault : Option NodeFault) (told : Bool) → TellsFault view parts fault → TellsRun view parts (or_memory fault told)
  told_tells parts (Some f) told h = tells_run parts (Some f) h
  told_tells parts None true h = tells_run parts None h
  told_tells parts None false h = unstarted_tells parts unstarted refl (λ k m at. (tells_run parts None h).sound refl k m at)

  pub told_meets : (tasks : ℕ → Task) (parts : List Part) (ins outs : ℕ → List ℕ) (machines : List M) (fault : Option NodeFault) (told : Bool)
      → MeetsNetwork view tasks parts ins outs machines fault → MeetsNetwork view tasks parts ins outs machines (or_memory fault told)
  told_meets tasks parts ins outs machines (Some f) told h = h
  told_meets tasks parts ins outs machines None true h = h
  told_meets tasks parts ins outs machines None false h = record {
    below = h.below;
    settled = λ none. absurd (let both : None ≡ unstarted = sym none in cc);
    cause = λ f e i. absurd (subst IsOfInputs (ap (λ (x : NodeFault). x.fault) (same_some unstarted f (record { node = 0; fault = NoMemory }) e refl)) i);
  }

  -- of the first parts alone
  pub unstarted_streams : (tasks : ℕ → Task) (streams : ℕ → Flow) (edges : List Edge) (parts : List M) (fault : Option NodeFault) → fault ≡ unstarted
      → ((k : ℕ) (m : M) → slice_get parts k ≡ Some m → (view m).stands (start (tasks k))) → MeetsStreams view tasks streams edges parts fault
  unstarted_streams tasks streams edges parts fault is all = record {
    below = λ k m at. fed_nothing (view m) (tasks k) streams (edges_into edges k) (all k m at);
    settled = λ none. absurd (let both : None ≡ unstarted = sym none ∙ is in cc);
    cause = λ f e i. absurd (subst IsOfInputs (ap (λ (x : NodeFault). x.fault) (same_some fault f (record { node = 0; fault = NoMemory }) e is)) i);
  }

  module _ (edges : List Edge) (parts : List M) (count : ℕ) (long : length parts ≡ count)
      (lanes : (k : ℕ) (m : M) → slice_get parts k ≡ Some m → ((view m).in_lanes ≡ (ports_by edges).ins k) × ((view m).out_lanes ≡ (ports_by edges).outs k)) where
    same_ports : AreSame (ports_by edges) (ports_of view parts) (length parts)
    same_ports = record {
      ins = λ k lt. (let x = there parts k lt in lanes_are (λ (v : View). v.in_lanes) view parts k x.0 x.1 ∙ (lanes k x.0 x.1).0);
      outs = λ k lt. (let x = there parts k lt in lanes_are (λ (v : View). v.out_lanes) view parts k x.0 x.1 ∙ (lanes k x.0 x.1).1);
    }

    -- the edges fit the parts
    pub parts_fit : AreFit (ports_by edges) count edges → AreFit (ports_of view parts) (length parts) edges
    parts_fit h = fit_same (ports_by edges) (ports_of view parts) (length parts) edges same_ports (subst (λ (n : ℕ). AreFit (ports_by edges) n edges) (sym long) h)

    -- their network is the plan's
    pub plan_net : (tasks : ℕ → Task) → solve (network tasks (ports_of view parts) edges (length parts)) ≡ solve (network tasks (ports_by edges) edges count)
    plan_net tasks =
        ap solve (network_same tasks edges (ports_by edges) (ports_of view parts) (length parts) same_ports ∙ ap (λ (n : ℕ). network tasks (ports_by edges) edges n) long)

    pub plan_ins : (k : ℕ) → k < length parts → ins_at (ports_of view parts) edges k ≡ edges_into edges k
    plan_ins k lt = ap (λ (ls : List Lane). at_ports (edge_to edges k) (length ls)) (same_ports.ins k lt)

    pub plan_outs : (k : ℕ) → k < length parts → lanes_out_of edges k ≡ [] → outs_at (ports_of view parts) edges k ≡ []
    plan_outs k lt none = ap (λ (ls : List Lane). at_ports (edge_from edges k) (length ls)) (same_ports.outs k lt ∙ none)

    -- what their network says is said of the plan's
    pub meets_streams : (tasks : ℕ → Task) (news : List M) (fault : Option NodeFault) → length news ≡ length parts → TellsRun view news fault
        → MeetsNetwork view tasks (network tasks (ports_of view parts) edges (length parts)) (ins_at (ports_of view parts) edges) (outs_at (ports_of view parts) edges) news fault
        → MeetsStreams view tasks (solve (network tasks (ports_by edges) edges count)) edges news fault
    meets_streams tasks news fault as_many tells h =
        let net = plan_net tasks in
        let below : (k : ℕ) (m : M) → slice_get news k ≡ Some m → k < length parts = λ k m at. (let w = slice_get_within news k m at in omega (arith, w, as_many)) in record {
          below = λ k m at.
              subst (λ (σ : ℕ → Flow). FedPart (view m) (tasks k) σ (edges_into edges k)) net
              (subst (λ (ws : List ℕ). FedPart (view m) (tasks k) (solve (network tasks (ports_of view parts) edges (length parts))) ws) (plan_ins k (below k m at))
              (subst (λ (x : M). FedPart (view x) (tasks k) (solve (network tasks (ports_of view parts) edges (length parts))) (ins_at (ports_of view parts) edges k)) (get_or_from_slice_get news k m m at)
              (h.below k m (slice_get_within news k m at))));
          settled = λ none k m at no_outs.
              subst (λ (σ : ℕ → Flow). FedAll (view m) (tasks k) σ (edges_into edges k)) net
              (subst (λ (ws : List ℕ). FedAll (view m) (tasks k) (solve (network tasks (ports_of view parts) edges (length parts))) ws) (plan_ins k (below k m at))
              (subst (λ (x : M). FedAll (view x) (tasks k) (solve (network tasks (ports_of view parts) edges (length parts))) (ins_at (ports_of view parts) edges k)) (get_or_from_slice_get news k m m at)
              (h.settled none k m (slice_get_within news k m at) (plan_outs k (below k m at) no_outs))));
          cause = λ f e i.
              let own = tells.own f e (λ same. subst IsOfInputs same i) in
              subst (λ (σ : ℕ → Flow). (tasks f.node).cause (map σ (edges_into edges f.node)) ≡ Some f.fault) net
              (subst (λ (ws : List ℕ). (tasks f.node).cause (map (solve (network tasks (ports_of view parts) edges (length parts))) ws) ≡ Some f.fault) (plan_ins f.node (below f.node own.0 own.1)) (h.cause f e i));
        }
