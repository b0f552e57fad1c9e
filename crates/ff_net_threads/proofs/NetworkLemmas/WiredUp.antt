-- Machines that were wired up one after the other.
use Rattle.std.proofs.Common.{◌≡◌, ℕ, zero, suc, ◌+◌, ◌<◌, ◌≤◌, Bool, List, [], ◌∷◌, ◌++◌, length, map, slice_index_or, Option, None, Some, refl, ap, sym, ◌∙◌, subst, arith}
use Rattle.std.proofs.lemmas.List.{length-map, map-append, get_or_default}
use Rattle.ff_stream.specs.declared.item.Lane.{Lane}
use Rattle.ff_stream.specs.declared.edges.edge.Edge.{Edge}
use Rattle.ff_stream.specs.edges.Ports.{edge_to, edge_from, at_ports}
use Rattle.ff_link.specs.laws.Views.{Sending, Receiving, new_sender, new_receiver}
use Rattle.ff_net.specs.Nets.{Part, IsUpward, solve}
use Rattle.ff_net.specs.laws.Nodes.{HaveLanes, machine_of, in_wires_of, out_wires_of}
use Rattle.ff_net.specs.Pasts.{Task, IsIn, start}
use Rattle.ff_net.specs.laws.Serial.{part_of, parts_of}
use Rattle.ff_net.specs.laws.Views.{View}
use Rattle.ff_net.specs.Ways.{lane_at}
use Rattle.ff_net_threads.specs.declared.links.linked.Linked.{Linked}
use Rattle.ff_net_threads.specs.laws.links.Nodes.{node_of}
use Rattle.ff_net_threads.specs.laws.links.Runs.{AllOf}
use Rattle.ff_net_threads.specs.laws.links.Settling.{nodes_of}
use Rattle.ff_sched.specs.declared.logged.Logged.{Logged}
use Rattle.ff_sched.specs.declared.routes.Routes.{Routes}
use Rattle.ff_sched.specs.laws.Passing.{Passing, Scheduler}
use Rattle.ff_net_threads.specs.network.Fits.{Ports, edge_lanes, ins_at, outs_at, part_at, parts_from, network}
use Rattle.ff_net_threads.specs.laws.network.Networks.{Fits, AllStart, AreWiredUp, lanes_at, ports_of, node_at, machines_in}
use Rattle.ff_net_threads.specs.laws.network.Nodes.{FitsWires, IsLinked, in_edges, out_edges}
use Rattle.ff_net_threads.specs.laws.network.Runs.{FedPart, FedAll, MeetsNetwork, ReadsSuffice, ins_in, outs_in, read_parts}
use Rattle.ff_net_threads.specs.laws.network.Scheduling.{AllRouted, AreLogged, AreSeated, LoggedPart, LoggedSink}
use Rattle.ff_net_threads.specs.declared.network.run.NodeFault.{NodeFault}
use Rattle.ff_net_threads.specs.laws.network.Tables.{AreTables, NewLinks, HasNewSender, HasNewReceiver, link_of, links_in}
use Rattle.ff_net_threads.proofs.NetworkLemmas.Each.{some_one}
use Rattle.ff_net_threads.proofs.NetworkLemmas.Fitting.{ins_once, outs_once, ins_have, outs_have, own_apart, upward}
use Rattle.ff_net_threads.proofs.NetworkLemmas.Joining.{joined}

at_map : {A B : Type 0} (f : A → B) (xs : List A) (k : ℕ) (d : A) (e : B) → k < length xs → slice_index_or (map f xs) k e ≡ f (slice_index_or xs k d)
at_map f [] k d e lt = absurd (omega (arith, lt))
at_map f (x ∷ xs) zero d e lt = refl
at_map f (x ∷ xs) (suc k) d e lt = at_map f xs k d e (omega (arith, lt))

lane_nth : (edges : List Edge) (w : ℕ) (d : Edge) → w < length edges → lane_at (edge_lanes edges) w ≡ Some (slice_index_or edges w d).lane
lane_nth [] w d lt = absurd (omega (arith, lt))
lane_nth (e ∷ es) zero d lt = refl
lane_nth (e ∷ es) (suc w) d lt = lane_nth es w d (omega (arith, lt))

-- nothing is left behind a list that is whole
pub none_left : {A : Type 0} (xs ys all : List A) → xs ++ ys ≡ all → ys ≡ [] → xs ≡ all
none_left xs ys all parts none = sym (no_more xs) ∙ (ap (λ zs. xs ++ zs) (sym none) ∙ parts)
  where
    no_more : {A : Type 0} (us : List A) → us ++ [] ≡ us
    no_more [] = refl
    no_more (u ∷ us) = ap (λ zs. u ∷ zs) (no_more us)

count_both : {A : Type 0} (xs ys : List A) → length (xs ++ ys) ≡ length xs + length ys
count_both [] ys = omega arith
count_both (x ∷ xs) ys = (let e = count_both xs ys in omega (arith, e))

pub no_length : {A : Type 0} (ys : List A) → length ys ≡ 0 → ys ≡ []
no_length [] e = refl
no_length (y ∷ ys) e = absurd (omega (arith, e))

pub all_done : {A : Type 0} (xs ys all : List A) → xs ++ ys ≡ all → length all ≤ length xs → xs ≡ all
all_done xs ys all parts le =
    let sum = count_both xs ys in
    let whole : length (xs ++ ys) ≡ length all = ap length parts in
    none_left xs ys all parts (no_length ys (omega (arith, sum, whole, le)))

-- the links of new tables
module _ (claims : Bool) (size : ℕ) (edges : List Edge) (senders : List (Option Sending)) (receivers : List (Option Receiving)) (tables : AreTables claims size edges senders receivers) where
  abbrev pub new_links : NewLinks
  new_links = record { claims = claims; size = size; link = links_in senders; lanes = edge_lanes edges }

  pub new_sender_there : (w : ℕ) → w < length edges → HasNewSender new_links senders w
  new_sender_there w lt =
      let d = some_one edges w lt in
      let h = tables.each w d None None lt in
      let many = tables.as_many_senders in
      let link : links_in senders w ≡ h.link = ap link_of h.sender in
      record {
        there = omega (arith, lt, many);
        lane = (slice_index_or edges w d).lane;
        lane_is = lane_nth edges w d lt;
        claims_are = ap (λ l. l.claims) link ∙ h.claims_are;
        is = λ e. get_or_default senders w e None (omega (arith, lt, many)) ∙ (h.sender ∙ ap (λ l. Some (new_sender l (slice_index_or edges w d).lane size)) (sym link));
      }

  pub new_receiver_there : (w : ℕ) → w < length edges → HasNewReceiver new_links receivers w
  new_receiver_there w lt =
      let d = some_one edges w lt in
      let h = tables.each w d None None lt in
      let many = tables.as_many_receivers in
      let link : links_in senders w ≡ h.link = ap link_of h.sender in
      record {
        there = omega (arith, lt, many);
        lane = (slice_index_or edges w d).lane;
        lane_is = lane_nth edges w d lt;
        claims_are = ap (λ l. l.claims) link ∙ h.claims_are;
        is = λ e. get_or_default receivers w e None (omega (arith, lt, many)) ∙ (h.receiver ∙ ap (λ l. Some (new_receiver l (slice_index_or edges w d).lane size)) (sym link));
      }

module _ {M : Type 0} (view : M → View) where
  -- the lanes of the machine that stands behind so many
  lanes_behind : (lanes : View → List Lane) (xs ys : List M) (m : M) → lanes_at lanes view (xs ++ m ∷ ys) (length xs) ≡ lanes (view m)
  lanes_behind lanes [] ys m = refl
  lanes_behind lanes (x ∷ xs) ys m = lanes_behind lanes xs ys m

  lanes_nth : (lanes : View → List Lane) (ms : List M) (k : ℕ) (d : M) → k < length ms → lanes_at lanes view ms k ≡ lanes (view (slice_index_or ms k d))
  lanes_nth lanes [] k d lt = absurd (omega (arith, lt))
  lanes_nth lanes (m ∷ ms) zero d lt = refl
  lanes_nth lanes (m ∷ ms) (suc k) d lt = lanes_nth lanes ms k d (omega (arith, lt))

  count_behind : (xs ys : List M) (m : M) → length xs < length (xs ++ m ∷ ys)
  count_behind [] ys m = omega arith
  count_behind (x ∷ xs) ys m = (let lt = count_behind xs ys m in omega (arith, lt))

  -- the next machine of those that are wired up
  module _ (edges : List Edge) (all xs ys : List M) (m : M) (k : ℕ) (parts : xs ++ m ∷ ys ≡ all) (long : length xs ≡ k) where
    pub next_there : k < length all
    next_there = subst (λ (ms : List M). k < length ms) parts (subst (λ (n : ℕ). n < length (xs ++ m ∷ ys)) long (count_behind xs ys m))

    next_lanes : (lanes : View → List Lane) → lanes_at lanes view all k ≡ lanes (view m)
    next_lanes lanes = ap (λ (ms : List M). lanes_at lanes view ms k) (sym parts) ∙ (ap (lanes_at lanes view (xs ++ m ∷ ys)) (sym long) ∙ lanes_behind lanes xs ys m)

    pub next_ins : ins_at (ports_of view all) edges k ≡ in_edges view edges k m
    next_ins = ap (λ (ls : List Lane). at_ports (edge_to edges k) (length ls)) (next_lanes (λ v. v.in_lanes))

    pub next_outs : outs_at (ports_of view all) edges k ≡ out_edges view edges k m
    next_outs = ap (λ (ls : List Lane). at_ports (edge_from edges k) (length ls)) (next_lanes (λ v. v.out_lanes))

    pub next_fits : Fits view edges all → FitsWires view (edge_lanes edges) (in_edges view edges k m) (out_edges view edges k m) m
    next_fits fits = record {
      in_lanes = subst (λ (ws : List ℕ). HaveLanes ws (view m).in_lanes (edge_lanes edges)) next_ins (subst (λ (ls : List Lane). HaveLanes (ins_at (ports_of view all) edges k) ls (edge_lanes edges)) (next_lanes (λ v. v.in_lanes)) (ins_have (ports_of view all) (length all) edges fits k next_there));
      out_lanes = subst (λ (ws : List ℕ). HaveLanes ws (view m).out_lanes (edge_lanes edges)) next_outs (subst (λ (ls : List Lane). HaveLanes (outs_at (ports_of view all) edges k) ls (edge_lanes edges)) (next_lanes (λ v. v.out_lanes)) (outs_have (ports_of view all) (length all) edges fits k next_there));
      apart = λ w a b. own_apart (ports_of view all) (length all) edges fits k w next_there (subst (λ (ws : List ℕ). IsIn w ws) (sym next_ins) a) (subst (λ (ws : List ℕ). IsIn w ws) (sym next_outs) b);
    }

    -- the edges of a later node aren't its own
    pub later_in : Fits view edges all → (j w : ℕ) → k < j → j < length all → IsIn w (ins_at (ports_of view all) edges j) → IsIn w (in_edges view edges k m) → ⊥
    later_in fits j w lt there a b = (let once = ins_once (ports_of view all) (length all) edges fits j k w there next_there a (subst (λ (ws : List ℕ). IsIn w ws) (sym next_ins) b) in omega (arith, once, lt))

    pub later_out : Fits view edges all → (j w : ℕ) → k < j → j < length all → IsIn w (outs_at (ports_of view all) edges j) → IsIn w (out_edges view edges k m) → ⊥
    later_out fits j w lt there a b = (let once = outs_once (ports_of view all) (length all) edges fits j k w there next_there a (subst (λ (ws : List ℕ). IsIn w ws) (sym next_outs) b) in omega (arith, once, lt))

    -- it became a node of the network
    pub next_linked : (new : NewLinks) (l : Linked M) → IsLinked view new (in_edges view edges k m) (out_edges view edges k m) m l → IsLinked view new (ins_at (ports_of view all) edges k) (outs_at (ports_of view all) edges k) (machine_of (node_of l)) l
    next_linked new l h =
        subst (λ (ws : List ℕ). IsLinked view new ws (outs_at (ports_of view all) edges k) (machine_of (node_of l)) l) (sym next_ins)
        (subst (λ (ws : List ℕ). IsLinked view new (in_edges view edges k m) ws (machine_of (node_of l)) l) (sym next_outs)
        (subst (λ (x : M). IsLinked view new (in_edges view edges k m) (out_edges view edges k m) x l) (sym h.machine_is) h))

    -- and the machines of the nodes, with those that are left, are all
    pub next_parts : (ls ls' : List (Linked M)) (l : Linked M) → machines_in ls ≡ xs → ls' ≡ ls ++ l ∷ [] → machine_of (node_of l) ≡ m → machines_in ls' ++ ys ≡ all
    next_parts ls ls' l before more is =
        ap (λ (ns : List (Linked M)). machines_in ns ++ ys) more
        ∙ (ap (λ (ms : List M). ms ++ ys) (map-append (λ (n : Linked M). machine_of (node_of n)) ls (l ∷ []) ∙ (ap (λ (ms : List M). ms ++ machine_of (node_of l) ∷ []) before ∙ ap (λ (x : M). xs ++ x ∷ []) is)) ∙ (one_in_front xs ys m ∙ parts))
      where
        one_in_front : (us vs : List M) (x : M) → (us ++ x ∷ []) ++ vs ≡ us ++ x ∷ vs
        one_in_front [] vs x = refl
        one_in_front (u ∷ us) vs x = ap (λ (ms : List M). u ∷ ms) (one_in_front us vs x)

  -- the parts that nodes are, where each is that of its number
  parts_are : (tasks : ℕ → Task) (part : ℕ → Part) (k : ℕ) (ls : List (Linked M)) → ((i : ℕ) (d : Linked M) → i < length ls → part_of view (tasks i) (node_at ls i d) ≡ part (k + i)) → parts_of view tasks (nodes_of ls) ≡ parts_from part k (length ls)
  parts_are tasks part k [] h = refl
  parts_are tasks part k (l ∷ ls) h =
      let first : part_of view (tasks zero) (node_of l) ≡ part k = h zero l (omega arith) ∙ (let none : k + 0 ≡ k = omega arith in ap part none) in
      ap (λ (p : Part). p ∷ parts_of view (λ i. tasks (suc i)) (nodes_of ls)) first
      ∙ ap (λ (ps : List Part). part k ∷ ps) (parts_are (λ i. tasks (suc i)) part (suc k) ls (λ i d lt. h (suc i) d (omega (arith, lt)) ∙ (let one : k + suc i ≡ suc k + i = omega arith in ap part one)))

  -- all machines became nodes
  module _ (new : NewLinks) (edges : List Edge) (machines : List M) (ls : List (Linked M)) (fits : Fits view edges machines) (lanes_are : new.lanes ≡ edge_lanes edges) (are : machines_in ls ≡ machines) (each : (k : ℕ) (d : Linked M) → k < length ls → IsLinked view new (ins_at (ports_of view machines) edges k) (outs_at (ports_of view machines) edges k) (machine_of (node_at ls k d)) (slice_index_or ls k d)) where
    abbrev ports : Ports
    ports = ports_of view machines

    count : length ls ≡ length machines
    count = sym (length-map ls (λ (l : Linked M). machine_of (node_of l))) ∙ ap length are

    there : (k : ℕ) → k < length ls → k < length machines
    there k lt = (let c = count in omega (arith, lt, c))

    machine_is : (k : ℕ) (d : Linked M) (e : M) → k < length ls → slice_index_or machines k e ≡ machine_of (node_at ls k d)
    machine_is k d e lt = ap (λ (ms : List M). slice_index_or ms k e) (sym are) ∙ at_map (λ (l : Linked M). machine_of (node_of l)) ls k d e lt

    starts_at : (tasks : ℕ → Task) → AllStart view tasks machines → (k : ℕ) (d : Linked M) → k < length ls → (view (machine_of (node_at ls k d))).stands (start (tasks k))
    starts_at tasks all k d lt = (let e = machine_of (node_at ls k d) in subst (λ (m : M). (view m).stands (start (tasks k))) (machine_is k d e lt) (all k e (there k lt)))

    part_is : (tasks : ℕ → Task) (k : ℕ) (d : Linked M) → k < length ls → part_of view (tasks k) (node_at ls k d) ≡ part_at tasks ports edges (0 + k)
    part_is tasks k d lt =
        let make : List Lane → List Lane → List ℕ → List ℕ → Part = λ i o v w. record { means = (tasks k).means; source = (tasks k).source; in_lanes = i; out_lanes = o; ins = v; outs = w } in
        let n = node_at ls k d in
        let e = machine_of n in
        let lanes : (f : View → List Lane) → f (view e) ≡ lanes_at f view machines k = λ f. sym (lanes_nth f machines k e (there k lt) ∙ ap (λ (m : M). f (view m)) (machine_is k d e lt)) in
        let same : k ≡ 0 + k = omega arith in
        ap (λ x. make x (view e).out_lanes (in_wires_of n) (out_wires_of n)) (lanes (λ v. v.in_lanes))
        ∙ (ap (λ x. make (ports.ins k) x (in_wires_of n) (out_wires_of n)) (lanes (λ v. v.out_lanes))
        ∙ (ap (λ x. make (ports.ins k) (ports.outs k) x (out_wires_of n)) (each k d lt).ins_are
        ∙ (ap (λ x. make (ports.ins k) (ports.outs k) (ins_at ports edges k) x) (each k d lt).outs_are ∙ ap (part_at tasks ports edges) same)))

    network_is : (tasks : ℕ → Task) → parts_of view tasks (nodes_of ls) ≡ network tasks ports edges (length machines)
    network_is tasks = parts_are tasks (part_at tasks ports edges) 0 ls (part_is tasks) ∙ ap (parts_from (part_at tasks ports edges) 0) count

    pub wired_up : AreWiredUp view new.claims new.size edges machines ls
    wired_up = record {
      machines_are = are;
      ins = λ k d lt. (each k d lt).ins_are;
      outs = λ k d lt. (each k d lt).outs_are;
      of_one = λ k d lt. (each k d lt).of_one;
      rooms = λ k q d e lt qlt. (each k d lt).rooms q e qlt;
      linked = (new.link, record { ins = λ k p d lt plt. (each k d lt).in_links p plt; outs = λ k q d e lt qlt. (each k d lt).out_links q e qlt });
      network_is = network_is;
      lawful = λ some. record { each = λ k d lt. (each k d lt).lawful (λ vouched. let s = some vouched in (s.0 k, starts_at s.0 s.1 k d lt)) };
      begins = λ vouched tasks all. record {
        behind = λ k d lt. (each k d lt).starts vouched (tasks k) (starts_at tasks all k d lt);
        joined = joined (edge_lanes edges) ls (λ k d lt. (each k d lt).lanes_are ∙ lanes_are)
            (λ j k w d jlt klt a b. outs_once ports (length machines) edges fits j k w (there j jlt) (there k klt) (subst (λ (ws : List ℕ). IsIn w ws) (each j d jlt).outs_are a) (subst (λ (ws : List ℕ). IsIn w ws) (each k d klt).outs_are b))
            (λ j k w d jlt klt a b. ins_once ports (length machines) edges fits j k w (there j jlt) (there k klt) (subst (λ (ws : List ℕ). IsIn w ws) (each j d jlt).ins_are a) (subst (λ (ws : List ℕ). IsIn w ws) (each k d klt).ins_are b));
        upward = subst (λ (ps : List Part). IsUpward [] ps) (sym (network_is tasks)) (upward ports (length machines) edges fits tasks);
      };
    }

  -- what nodes come to that were wired up, by the edges
  module _ (claims : Bool) (size : ℕ) (edges : List Edge) (machines : List M) (ls : List (Linked M)) (up : AreWiredUp view claims size edges machines ls) where
    ins_are : (k : ℕ) → k < length ls → ins_in ls k ≡ ins_at (ports_of view machines) edges k
    ins_are k lt = (let d = some_one ls k lt in at_map (λ (l : Linked M). in_wires_of (node_of l)) ls k d [] lt ∙ up.ins k d lt)

    outs_are : (k : ℕ) → k < length ls → outs_in ls k ≡ outs_at (ports_of view machines) edges k
    outs_are k lt = (let d = some_one ls k lt in at_map (λ (l : Linked M). out_wires_of (node_of l)) ls k d [] lt ∙ up.outs k d lt)

    pub meets_wired : (tasks : ℕ → Task) (ran : List M) (fault : Option NodeFault) → length ran ≡ length ls → ((f : NodeFault) → fault ≡ Some f → f.node < length ran) → MeetsNetwork view tasks (parts_of view tasks (nodes_of ls)) (ins_in ls) (outs_in ls) ran fault
        → MeetsNetwork view tasks (network tasks (ports_of view machines) edges (length machines)) (ins_at (ports_of view machines) edges) (outs_at (ports_of view machines) edges) ran fault
    meets_wired tasks ran fault count there h =
        let is = up.network_is tasks in record {
          below = λ k e lt. (let here : k < length ls = omega (arith, lt, count) in
              subst (λ (ws : List ℕ). FedPart (view (slice_index_or ran k e)) (tasks k) (solve (network tasks (ports_of view machines) edges (length machines))) ws) (ins_are k here)
              (subst (λ (ps : List Part). FedPart (view (slice_index_or ran k e)) (tasks k) (solve ps) (ins_in ls k)) is (h.below k e lt)));
          settled = λ none k e lt sink. (let here : k < length ls = omega (arith, lt, count) in
              subst (λ (ws : List ℕ). FedAll (view (slice_index_or ran k e)) (tasks k) (solve (network tasks (ports_of view machines) edges (length machines))) ws) (ins_are k here)
              (subst (λ (ps : List Part). FedAll (view (slice_index_or ran k e)) (tasks k) (solve ps) (ins_in ls k)) is (h.settled none k e lt (outs_are k here ∙ sink))));
          cause = λ f some of. (let lt : f.node < length ran = there f some in let here : f.node < length ls = omega (arith, lt, count) in
              sym (ap (λ (ps : List Part). (tasks f.node).cause (map (solve ps) (ins_in ls f.node))) is ∙ ap (λ (ws : List ℕ). (tasks f.node).cause (map (solve (network tasks (ports_of view machines) edges (length machines))) ws)) (ins_are f.node here)) ∙ h.cause f some of);
        }

    -- and what their sources have read
    pub suffice_wired : (tasks : ℕ → Task) (ran : List M) (fault : Option NodeFault) → length ran ≡ length ls
        → ReadsSuffice view (parts_of view tasks (nodes_of ls)) (ins_in ls) (outs_in ls) ran fault
        → ReadsSuffice view (network tasks (ports_of view machines) edges (length machines)) (ins_at (ports_of view machines) edges)
        (outs_at (ports_of view machines) edges) ran fault
    suffice_wired tasks ran fault count h none k w lt sink wired =
        let here : k < length ls = omega (arith, lt, count) in
        subst (λ (ps : List Part). solve (read_parts view ran ps) w ≡ solve ps w) (up.network_is tasks)
        (h none k w lt (outs_are k here ∙ sink) (subst (λ (ws : List ℕ). IsIn w ws) (sym (ins_are k here)) wired))

    -- and the logs of their passes
    pub logged_wired : (tasks : ℕ → Task) (ran : List M) (fault : Option NodeFault) (logs : List (List Logged)) → length ran ≡ length ls → AreLogged view tasks (solve (parts_of view tasks (nodes_of ls))) (ins_in ls) (outs_in ls) ran fault logs
        → AreLogged view tasks (solve (network tasks (ports_of view machines) edges (length machines))) (ins_at (ports_of view machines) edges) (outs_at (ports_of view machines) edges) ran fault logs
    logged_wired tasks ran fault logs count h =
        let is = up.network_is tasks in record {
          below = λ k e lt. (let here : k < length ls = omega (arith, lt, count) in
              subst (λ (ws : List ℕ). LoggedPart (view (slice_index_or ran k e)) (tasks k) (solve (network tasks (ports_of view machines) edges (length machines))) ws (slice_index_or logs k [])) (ins_are k here)
              (subst (λ (ps : List Part). LoggedPart (view (slice_index_or ran k e)) (tasks k) (solve ps) (ins_in ls k) (slice_index_or logs k [])) is (h.below k e lt)));
          settled = h.settled;
          sinks = λ none k e lt sink. (let here : k < length ls = omega (arith, lt, count) in
              subst (λ (ws : List ℕ). LoggedSink (view (slice_index_or ran k e)) (tasks k) (solve (network tasks (ports_of view machines) edges (length machines))) ws (slice_index_or logs k [])) (ins_are k here)
              (subst (λ (ps : List Part). LoggedSink (view (slice_index_or ran k e)) (tasks k) (solve ps) (ins_in ls k) (slice_index_or logs k [])) is (h.sinks none k e lt (outs_are k here ∙ sink))));
        }

    -- each node may be turned under the scheduler whose pass it has
    pub all_of : (cell : Scheduler) (routes : Routes) (rest : Passing) → AreSeated cell ls rest → cell.routes ≡ routes → AllRouted view routes machines → AllOf view cell ls
    all_of cell routes rest seated same routed = record {
      each = λ i d lt.
          let e = machine_of (node_at ls i d) in
          let many : length ls ≡ length machines = sym (length-map ls (λ (l : Linked M). machine_of (node_of l))) ∙ ap length up.machines_are in
          let is : slice_index_or machines i e ≡ e = ap (λ (ms : List M). slice_index_or ms i e) (sym up.machines_are) ∙ at_map (λ (l : Linked M). machine_of (node_of l)) ls i d e lt in record {
            pass = ap (λ (p : Passing). p.cell) (seated.each i d lt);
            source = λ s has. subst (λ (r : Routes). s < r.sources) (sym same) (routed.each i s e (omega (arith, lt, many)) (subst (λ (m : M). (view m).source ≡ Some s) (sym is) has));
          };
    }
