-- What machines on links come to.
use Rattle.std.proofs.Common.{◌≡◌, ◌≢◌, ℕ, zero, suc, ◌<◌, ◌≤◌, inl, inr, true, false, length-append, List, [], ◌∷◌, length, map, slice_index_or, Option, None, Some}
use Rattle.std.proofs.Common.{refl, ap, sym, ◌∙◌, subst, arith}
use Rattle.std.proofs.lemmas.List.{length-map}
use Rattle.ff_stream.specs.declared.item.Lane.{Lane}
use Rattle.ff_stream.specs.Stream.{LiesBelow, opened}
use Rattle.ff_stream.specs.laws.Order.{below_trans, closed_below, opened_keeps}
use Rattle.ff_stream.specs.Ports.{stream_at, IsClosed, IsWhole}
use Rattle.ff_net.specs.declared.fault.Fault.{Fault}
use Rattle.ff_net.specs.declared.fault.Fault.TheVariants.{Device, Damaged, TooLong, TooLarge, NoMemory}
use Rattle.ff_net.specs.declared.node.Node.{Node}
use Rattle.ff_net.specs.declared.ports.InPort.{InPort}
use Rattle.ff_net.specs.declared.ports.OutPort.{OutPort}
use Rattle.ff_net.specs.laws.Laws.{FaultStep, IsOfInputs, IsReading}
use Rattle.ff_net.specs.laws.Logs.{PassStep, hand_of, told_in}
use Rattle.ff_net.specs.Ways.{lane_at}
use Rattle.ff_frame.specs.declared.event.Ticket.{Ticket}
use Rattle.ff_sched.specs.declared.logged.Logged.{Logged}
use Rattle.ff_sched.specs.laws.Passing.{Passing}
use Rattle.ff_net.specs.Nets.{Part, IsUpward, solve}
use Rattle.ff_net.specs.Pasts.{Past, Task, IsIn}
use Rattle.ff_net.specs.laws.Ports.{in_at, in_wires, out_at}
use Rattle.ff_net.specs.laws.Worlds.{Wire}
use Rattle.ff_net.specs.laws.Serial.{Moment, granted_parts_of, part_of, parts_of}
use Rattle.ff_net.specs.Pasts.{due_by}
use Rattle.ff_net.specs.laws.Theorem.{Settled, AllFare, MeetsSolution}
use Rattle.ff_net.specs.laws.Views.{View}
use Rattle.ff_net.specs.laws.Nodes.{NodeStands, LogStands, HaveLanes, IsSound, IsDone, machine_of, pass_of, outputs_of, in_wires_of, out_wires_of}
use Rattle.ff_net.proofs.Whole.{fed_below}
use Rattle.ff_net.proofs.PortSteps.{in_wire_in}
use Rattle.ff_net_threads.specs.declared.links.linked.Linked.{Linked}
use Rattle.ff_net_threads.specs.laws.links.Nodes.{node_of}
use Rattle.ff_net_threads.specs.laws.links.Runs.{AllRan}
use Rattle.ff_net_threads.specs.laws.links.Settling.{AllBehind, AreMeeting, nodes_of, passes_in}
use Rattle.ff_net_threads.proofs.LinksLemmas.After.{behind_after, meeting_after}
use Rattle.ff_net_threads.specs.declared.network.run.NodeFault.{NodeFault}
use Rattle.ff_net_threads.specs.laws.network.Networks.{Begins, node_at, machines_in}
use Rattle.ff_net_threads.specs.laws.network.Runs.{FirstFault, FedPart, FedAll, AllKept, TellsFault, MeetsNetwork, ReadsSuffice, ins_in, outs_in, read_parts}
use Rattle.ff_net_threads.specs.laws.network.Scheduling.{AllPassed, AreLogged, IsLogOf, LoggedPart, LoggedAll, LoggedSink, logs_in}
use Rattle.ff_net_threads.proofs.NetworkLemmas.Each.{some_one}

pub nodes_at : {M : Type 0} (ls : List (Linked M)) (k : ℕ) (d : Node M) (e : Linked M) → k < length ls → slice_index_or (nodes_of ls) k d ≡ node_of (slice_index_or ls k e)
nodes_at [] k d e lt = absurd (omega (arith, lt))
nodes_at (l ∷ ls) zero d e lt = refl
nodes_at (l ∷ ls) (suc k) d e lt = nodes_at ls k d e (omega (arith, lt))

pub nodes_count : {M : Type 0} (ls : List (Linked M)) → length (nodes_of ls) ≡ length ls
nodes_count ls = length-map ls node_of

at_map : {A B : Type 0} (f : A → B) (xs : List A) (k : ℕ) (d : A) (e : B) → k < length xs → slice_index_or (map f xs) k e ≡ f (slice_index_or xs k d)
at_map f [] k d e lt = absurd (omega (arith, lt))
at_map f (x ∷ xs) zero d e lt = refl
at_map f (x ∷ xs) (suc k) d e lt = at_map f xs k d e (omega (arith, lt))

-- the wire of an input
nth_in : (ports : List InPort) (p : ℕ) → slice_index_or (in_wires ports) p 0 ≡ (in_at ports p).wire
nth_in [] p = refl
nth_in (x ∷ xs) zero = refl
nth_in (x ∷ xs) (suc p) = nth_in xs p

count_in : (ports : List InPort) → length (in_wires ports) ≡ length ports
count_in ports = length-map ports (λ (x : InPort). x.wire)

of_inputs : (c : Fault) → IsOfInputs c → c ≢ NoMemory
of_inputs Device i e = i
of_inputs (Damaged offset) i e = cc
of_inputs TooLong i e = cc
of_inputs TooLarge i e = cc
of_inputs NoMemory i e = i

lanes_count : (ws : List ℕ) (ports lanes : List Lane) → map (lane_at lanes) ws ≡ map Some ports → length ports ≡ length ws
lanes_count ws ports lanes e = sym (length-map ports (λ (l : Lane). Some l)) ∙ (ap (λ (os : List (Option Lane)). length os) (sym e) ∙ length-map ws (lane_at lanes))

-- the log of a node's pass
log_at : {M : Type 0} (ls : List (Linked M)) (k : ℕ) (d : Linked M) → k < length ls → slice_index_or (logs_in (passes_in ls)) k [] ≡ (pass_of (node_at ls k d)).log
log_at [] k d lt = absurd (omega (arith, lt))
log_at (l ∷ ls) zero d lt = refl
log_at (l ∷ ls) (suc k) d lt = log_at ls k d (omega (arith, lt))

at_most_one : (h : Option Ticket) → length (hand_of h) ≤ 1
at_most_one None = omega arith
at_most_one (Some t) = omega arith

module _ {M : Type 0} (view : M → View) where
  logged_of : (node : Node M) (past : Past) → LogStands view node past → IsLogOf (view (machine_of node)) past (pass_of node).log
  logged_of node past l = record {
    own = l.own;
    allowed = (hand_of node.hand, sym l.granted);
    one_more = (let one = at_most_one node.hand in let count = length-append past.allowed (hand_of node.hand) in let all = ap (λ (ts : List Ticket). length ts) l.granted in omega (arith, one, count, all));
    told = l.told;
    in_order = l.in_order;
  }

  -- a node that is done and sound has no pending output
  read_out : (node : Node M) (world : ℕ → Wire) (past : Past) → NodeStands view node world past → IsSound view node → IsDone node → length (view node.machine).out_lanes ≡ length node.outs.items → IsReading (view node.machine) past → ⊥
  read_out node world past stood sound done ports reads =
      let q = reads.port in
      let there : q < length node.outs.items = (let lt = reads.pending.there in omega (arith, lt, ports)) in
      let o = stood.outs q there in
      let w = (out_at node.outs.items q).wire in
      elim (o.done (done.outs q there)) [
        | inl closed ↦ (let same : (world w).sent ≡ stream_at past.gave q = closed_below (world w).sent (stream_at past.gave q) (o.exact sound) closed in
            closed (ap (λ s. s.mark) same ∙ reads.pending.unclosed))
        | inr stopped ↦ reads.pending.goes_on stopped.1
      ]

  same_part : (task : Task) (a b : Node M) → (view a.machine).in_lanes ≡ (view b.machine).in_lanes → (view a.machine).out_lanes ≡ (view b.machine).out_lanes → in_wires_of a ≡ in_wires_of b → out_wires_of a ≡ out_wires_of b → part_of view task a ≡ part_of view task b
  same_part task a b ei eo ew ev =
      let make : List Lane → List Lane → List ℕ → List ℕ → Part = λ i o v w. record { means = task.means; source = task.source; in_lanes = i; out_lanes = o; ins = v; outs = w } in
      ap (λ x. make x (view a.machine).out_lanes (in_wires_of a) (out_wires_of a)) ei
      ∙ (ap (λ x. make (view b.machine).in_lanes x (in_wires_of a) (out_wires_of a)) eo ∙ (ap (λ x. make (view b.machine).in_lanes (view b.machine).out_lanes x (out_wires_of a)) ew ∙ ap (λ x. make (view b.machine).in_lanes (view b.machine).out_lanes (in_wires_of b) x) ev))

  abbrev pub parts : (ℕ → Task) → List (Linked M) → List Part
  parts tasks ls = parts_of view tasks (nodes_of ls)

  run_rest : (o n : Linked M) (os ns : List (Linked M)) → AllRan view (o ∷ os) (n ∷ ns) → AllRan view os ns
  run_rest o n os ns r = (let same = r.0 in omega (arith, same), λ i d lt. r.1 (suc i) d (omega (arith, lt)))

  none_left : (tasks : ℕ → Task) (xs : List (Linked M)) → length xs ≡ 0 → [] ≡ parts tasks xs
  none_left tasks [] e = refl
  none_left tasks (x ∷ xs) e = absurd (omega (arith, e))

  -- a run leaves the network as it is
  parts_after : (tasks : ℕ → Task) (olds news : List (Linked M)) → AllRan view olds news → parts tasks news ≡ parts tasks olds
  parts_after tasks olds [] r = (let none : length olds ≡ 0 = sym r.0 in none_left tasks olds none)
  parts_after tasks [] (n ∷ ns) r = absurd (let same = r.0 in omega (arith, same))
  parts_after tasks (o ∷ os) (n ∷ ns) r =
      let f = (r.1 zero o (omega arith)).0 in
      ap (λ (p : Part). p ∷ parts (λ k. tasks (suc k)) ns) (same_part (tasks zero) (node_of n) (node_of o) f.in_lanes_same f.out_lanes_same f.ins_same f.outs_same)
      ∙ ap (λ (ps : List Part). part_of view (tasks zero) (node_of o) ∷ ps) (parts_after (λ k. tasks (suc k)) os ns (run_rest o n os ns r))

  -- the parts of the nodes as far as their sources have read, by their machines
  read_are : (tasks : ℕ → Task) (ls : List (Linked M)) (ms : List M) → length ms ≡ length ls
      → ((k : ℕ) (d : Linked M) (e : M) → k < length ls → slice_index_or ms k e ≡ machine_of (node_at ls k d))
      → granted_parts_of view tasks (nodes_of ls) ≡ read_parts view ms (parts tasks ls)
  read_are tasks [] [] same are = refl
  read_are tasks [] (m ∷ ms) same are = absurd (omega (arith, same))
  read_are tasks (l ∷ ls) [] same are = absurd (omega (arith, same))
  read_are tasks (l ∷ ls) (m ∷ ms) same are =
      let part : Part = part_of view (tasks zero) (node_of l) in
      let here : m ≡ machine_of (node_of l) = are zero l m (omega arith) in
      ap (λ (x : M). record part { means = λ ss. due_by part.source (view x).tried (part.means ss) } ∷ granted_parts_of view (λ k. tasks (suc k)) (nodes_of ls)) (sym here)
      ∙ ap (λ (ps : List Part). record part { means = λ ss. due_by part.source (view m).tried (part.means ss) } ∷ ps)
      (read_are (λ k. tasks (suc k)) ls ms (omega (arith, same)) (λ k d e lt. are (suc k) d e (omega (arith, lt))))

  -- what settling the links shows
  abbrev pub SolvedClause : ℕ → List (Linked M) → Type 0
  SolvedClause most ls = (tasks : ℕ → Task) (lanes : List Lane) (begun : List (Node M)) → AllBehind view tasks ls → AreMeeting lanes ls → length lanes ≤ most → IsUpward [] (parts tasks ls) → AllFare view begun (nodes_of ls)
      → (world : ℕ → Wire) × Moment view tasks (nodes_of ls) lanes world × MeetsSolution view tasks begun (nodes_of ls) world

  module _ (olds news : List (Linked M)) (ran : AllRan view olds news) (machines : List M) (same_count : length machines ≡ length news) (are : (k : ℕ) (d : Linked M) (e : M) → k < length news → slice_index_or machines k e ≡ machine_of (node_at news k d)) where
    back_to : (k : ℕ) → k < length machines → k < length olds
    back_to k lt = (let same = ran.0 in omega (arith, lt, same, same_count))

    here : (k : ℕ) → k < length olds → k < length (nodes_of news)
    here k lt = (let same = ran.0 in let count = nodes_count news in omega (arith, lt, same, count))

    in_news : (k : ℕ) → k < length olds → k < length news
    in_news k lt = (let same = ran.0 in omega (arith, lt, same))

    -- the node of this number, and its machine
    now_at : (k : ℕ) (d : Linked M) (e : Node M) → k < length olds → slice_index_or (nodes_of news) k e ≡ node_at news k d
    now_at k d e lt = nodes_at news k e d (in_news k lt)

    machine_at : (k : ℕ) (d : Linked M) (e : M) → k < length olds → machine_of (node_at news k d) ≡ slice_index_or machines k e
    machine_at k d e lt = sym (are k d e (in_news k lt))

    ins_now : (k : ℕ) (d : Linked M) → k < length olds → in_wires_of (node_at news k d) ≡ ins_in olds k
    ins_now k d lt = (ran.1 k d lt).0.ins_same ∙ sym (at_map (λ (l : Linked M). in_wires_of (node_of l)) olds k d [] lt)

    outs_now : (k : ℕ) (d : Linked M) → k < length olds → out_wires_of (node_at news k d) ≡ outs_in olds k
    outs_now k d lt = (ran.1 k d lt).0.outs_same ∙ sym (at_map (λ (l : Linked M). out_wires_of (node_of l)) olds k d [] lt)

    old_machine : (k : ℕ) (d : Linked M) (e : M) → k < length olds → slice_index_or (machines_in olds) k e ≡ machine_of (node_at olds k d)
    old_machine k d e lt = at_map (λ (l : Linked M). machine_of (node_of l)) olds k d e lt

    pub all_kept : AllKept view (machines_in olds) machines
    all_kept =
        let count : length (machines_in olds) ≡ length olds = length-map olds (λ (l : Linked M). machine_of (node_of l)) in
        let of_old : (k : ℕ) → k < length (machines_in olds) → k < length olds = λ k lt. omega (arith, lt, count) in record {
          count = same_count ∙ (ran.0 ∙ sym count);
          in_lanes = λ k d e lt. (let o = of_old k lt in let l = some_one olds k o in
              ap (λ (m : M). (view m).in_lanes) (sym (machine_at k l e o)) ∙ ((ran.1 k l o).0.in_lanes_same ∙ ap (λ (m : M). (view m).in_lanes) (sym (old_machine k l d o))));
          out_lanes = λ k d e lt. (let o = of_old k lt in let l = some_one olds k o in
              ap (λ (m : M). (view m).out_lanes) (sym (machine_at k l e o)) ∙ ((ran.1 k l o).0.out_lanes_same ∙ ap (λ (m : M). (view m).out_lanes) (sym (old_machine k l d o))));
          fares = λ k d e lt. (let o = of_old k lt in let l = some_one olds k o in
              subst (λ (m : M). FaultStep (view m) (view (slice_index_or machines k e))) (sym (old_machine k l d o)) (subst (λ (m : M). FaultStep (view (machine_of (node_at olds k l))) (view m)) (machine_at k l e o) (ran.1 k l o).0.fares));
        }

    -- each of the nodes fared as its machine did
    all_fare : AllFare view (nodes_of olds) (nodes_of news)
    all_fare k d lt =
        let count = nodes_count olds in
        let o : k < length olds = omega (arith, lt, count) in
        let l = some_one olds k o in
        subst (λ (n : Node M). FaultStep (view (machine_of n)) (view (machine_of (slice_index_or (nodes_of news) k d)))) (sym (nodes_at olds k d l o))
        (subst (λ (n : Node M). FaultStep (view (machine_of (node_at olds k l))) (view (machine_of n))) (sym (now_at k l d o)) (ran.1 k l o).0.fares)

    -- the fault of a node by its machine
    fault_at : (k : ℕ) (e : M) → k < length machines → (l : Linked M) → (view (machine_of (slice_index_or (nodes_of news) k (node_of l)))).fault ≡ (view (slice_index_or machines k e)).fault
    fault_at k e lt l = (let o = back_to k lt in ap (λ (n : Node M). (view (machine_of n)).fault) (now_at k l (node_of l) o) ∙ ap (λ (m : M). (view m).fault) (machine_at k l e o))

    some_node : (k : ℕ) → k < length machines → Linked M
    some_node k lt = some_one olds k (back_to k lt)

    in_nodes : (k : ℕ) → k < length machines → k < length (nodes_of news)
    in_nodes k lt = here k (back_to k lt)

    pub tells_fault : (fault : Option NodeFault) → FirstFault view (nodes_of news) fault → TellsFault view machines fault
    tells_fault None first = record {
      sound = λ same k e lt. (let l = some_node k lt in sym (fault_at k e lt l) ∙ (first k (node_of l) (in_nodes k lt)).1);
      there = λ f some. absurd (let no : None ≡ Some f = some in cc (no));
      before = λ f some. absurd (let no : None ≡ Some f = some in cc (no));
      own = λ f some. absurd (let no : None ≡ Some f = some in cc (no));
      first = λ f some. absurd (let no : None ≡ Some f = some in cc (no));
    }
    tells_fault (Some g) first =
        let is : (f : NodeFault) → Some g ≡ Some f → g ≡ f = λ f some. cc (some) in
        let count = nodes_count news in
        let there : g.node < length machines = (let lt : g.node < length (nodes_of news) = first.0 in omega (arith, lt, count, same_count)) in record {
          sound = λ none. absurd (let no : Some g ≡ None = none in cc (no));
          there = λ f some. subst (λ (x : NodeFault). x.node < length machines) (is f some) there;
          before = λ f some j e lt. (let at : j < g.node = subst (λ (x : NodeFault). j < x.node) (sym (is f some)) lt in
              let jl : j < length machines = omega (arith, at, there) in
              let l = some_node j jl in sym (fault_at j e jl l) ∙ (first.1 j (node_of l) at).1);
          own = λ f some. subst (λ (x : NodeFault). x.fault ≢ NoMemory → (e : M) → (view (slice_index_or machines x.node e)).fault ≡ Some x.fault) (is f some) (λ own e. (let l = some_node g.node there in sym (fault_at g.node e there l) ∙ first.2 (node_of l) own));
          first = λ f some. subst (λ (x : NodeFault). (e : M) (c : Fault) → (view (slice_index_or machines x.node e)).fault ≡ Some c → x.fault ≡ c) (is f some) (λ e c own. (let l = some_node g.node there in first.3 (node_of l) c (fault_at g.node e there l ∙ own)));
        }

    module _ (tasks : ℕ → Task) (lanes : List Lane) (begin : Begins view tasks lanes olds) where
      same : parts tasks news ≡ parts tasks olds
      same = parts_after tasks olds news ran

      upward : IsUpward [] (parts tasks news)
      upward = subst (λ (ps : List Part). IsUpward [] ps) (sym same) begin.upward

      module _ (world : ℕ → Wire) (moment : Moment view tasks (nodes_of news) lanes world) (meets : MeetsSolution view tasks (nodes_of olds) (nodes_of news) world) where
        abbrev ran_part : (k : ℕ) (d : Linked M) → k < length olds → FedPart (view (machine_of (node_at news k d))) (tasks k) (solve (parts tasks olds)) (ins_in olds k)
        ran_part k d lt =
            let n : Node M = node_at news k d in
            let is = now_at k d n lt in
            let mine = moment.each k n (here k lt) in
            let stood : NodeStands view n world mine.0 = subst (λ (m : Node M). NodeStands view m world mine.0) is mine.1 in
            record {
              past = mine.0;
              fits = stood.machine;
              task_is = mine.2;
              got = λ p plt.
                  let count : length (ins_in olds k) ≡ length n.ins.items = sym (ap length (ins_now k d lt)) ∙ count_in n.ins.items in
                  let there : p < length n.ins.items = omega (arith, plt, count) in
                  let w = (in_at n.ins.items p).wire in
                  let v = slice_index_or (ins_in olds k) p 0 in
                  let edge : w ≡ v = sym (nth_in n.ins.items p) ∙ ap (λ (ws : List ℕ). slice_index_or ws p 0) (ins_now k d lt) in
                  let fed : LiesBelow (stream_at mine.0.got p) (world w).taken = fed_below (stream_at mine.0.got p) (world w).taken ((stood.ins p there).fed) in
                  let wired : IsIn w (in_wires_of (slice_index_or (nodes_of news) k n)) = subst (λ (m : Node M). IsIn w (in_wires_of m)) (sym is) (in_wire_in n.ins.items p w there refl) in
                  let under : LiesBelow (opened (world w).taken) (solve (parts tasks news) w) = meets.below k n w (here k lt) wired in
                  let there_now : LiesBelow (opened (world w).taken) (solve (parts tasks olds) v) = subst (λ (ps : List Part). LiesBelow (opened (world w).taken) (solve ps v)) same (subst (λ (u : ℕ). LiesBelow (opened (world w).taken) (solve (parts tasks news) u)) edge under) in
                  below_trans (opened (stream_at mine.0.got p)) (opened (world w).taken) (solve (parts tasks olds) v) (opened_keeps (stream_at mine.0.got p) (world w).taken fed) there_now;
            }

        ran_all : FirstFault view (nodes_of news) None → (k : ℕ) (d : Linked M) → k < length olds → outs_in olds k ≡ [] → FedAll (view (machine_of (node_at news k d))) (tasks k) (solve (parts tasks olds)) (ins_in olds k)
        ran_all none k d lt sink =
            let n : Node M = node_at news k d in
            let is = now_at k d n lt in
            let done : IsDone (slice_index_or (nodes_of news) k n) = subst (λ (m : Node M). IsDone m) (sym is) (ran.1 k d lt).1.node in
            let no_out : outputs_of n ≡ 0 = sym (length-map n.outs.items (λ (x : OutPort). x.wire)) ∙ ap length (outs_now k d lt ∙ sink) in
            let s = meets.settled none k n (here k lt) done (ap (λ (m : Node M). outputs_of m) is ∙ no_out) in
            let t : Settled view (tasks k) (parts tasks news) n = subst (λ (m : Node M). Settled view (tasks k) (parts tasks news) m) is s in
            let count : length (ins_in olds k) ≡ length n.ins.items = sym (ap length (ins_now k d lt)) ∙ count_in n.ins.items in
            let on : (p : ℕ) → solve (parts tasks news) (in_at n.ins.items p).wire ≡ solve (parts tasks olds) (slice_index_or (ins_in olds k) p 0) = λ p.
            ap (λ (ps : List Part). solve ps (in_at n.ins.items p).wire) same ∙ ap (λ (v : ℕ). solve (parts tasks olds) v) (sym (nth_in n.ins.items p) ∙ ap (λ (ws : List ℕ). slice_index_or ws p 0) (ins_now k d lt)) in
            record {
              past = t.past;
              fits = t.machine;
              task_is = t.task_is;
              got = λ p plt. t.got p (omega (arith, plt, count)) ∙ on p;
              whole = λ p plt. subst IsWhole (on p) (t.whole p (omega (arith, plt, count)));
            }

        ran_reads : FirstFault view (nodes_of news) None → (k w : ℕ) (d : Linked M) → k < length olds → outs_in olds k ≡ [] → IsIn w (ins_in olds k)
            → solve (read_parts view machines (parts tasks olds)) w ≡ solve (parts tasks olds) w
        ran_reads none k w d lt sink wired =
            let n : Node M = node_at news k d in
            let is = now_at k d n lt in
            let done : IsDone (slice_index_or (nodes_of news) k n) = subst (λ (m : Node M). IsDone m) (sym is) (ran.1 k d lt).1.node in
            let no_out : outputs_of n ≡ 0 = sym (length-map n.outs.items (λ (x : OutPort). x.wire)) ∙ ap length (outs_now k d lt ∙ sink) in
            let here_in : IsIn w (in_wires_of (slice_index_or (nodes_of news) k n)) = subst (λ (m : Node M). IsIn w (in_wires_of m)) (sym is)
            (subst (λ (ws : List ℕ). IsIn w ws) (sym (ins_now k d lt)) wired) in
            let found : solve (granted_parts_of view tasks (nodes_of news)) w ≡ solve (parts tasks news) w = meets.granted none k n (here k lt) done
            (ap (λ (m : Node M). outputs_of m) is ∙ no_out) w here_in in
            ap (λ (ps : List Part). solve (read_parts view machines ps) w) (sym same)
            ∙ (ap (λ (ps : List Part). solve ps w) (sym (read_are tasks news machines same_count are)) ∙ (found ∙ ap (λ (ps : List Part). solve ps w) same))

        ran_cause : (f : NodeFault) → FirstFault view (nodes_of news) (Some f) → IsOfInputs f.fault → (tasks f.node).cause (map (solve (parts tasks olds)) (ins_in olds f.node)) ≡ Some f.fault
        ran_cause f first of =
            let lt : f.node < length olds = (let same = ran.0 in let count = nodes_count news in let below : f.node < length (nodes_of news) = first.0 in omega (arith, below, same, count)) in
            let d = some_one olds f.node lt in
            let n : Node M = node_at news f.node d in
            let is = now_at f.node d n lt in
            let found = meets.cause f.node n first.0 first.1 f.fault (first.2 n (of_inputs f.fault of)) of in
            let edges : in_wires_of (slice_index_or (nodes_of news) f.node n) ≡ ins_in olds f.node = ap (λ (m : Node M). in_wires_of m) is ∙ ins_now f.node d lt in
            sym (ap (λ (ps : List Part). (tasks f.node).cause (map (solve ps) (in_wires_of (slice_index_or (nodes_of news) f.node n)))) same ∙ ap (λ (ws : List ℕ). (tasks f.node).cause (map (solve (parts tasks olds)) ws)) edges) ∙ found

      pub ran_meets : (most : ℕ) → SolvedClause most news → length lanes ≤ most → (fault : Option NodeFault) → FirstFault view (nodes_of news) fault → MeetsNetwork view tasks (parts tasks olds) (ins_in olds) (outs_in olds) machines fault
      ran_meets most solved le fault first =
          let z = solved tasks lanes (nodes_of olds) (behind_after view tasks olds news begin.behind ran) (meeting_after view lanes olds news begin.joined ran) le upward all_fare in record {
            below = λ k e lt. (let o = back_to k lt in let l = some_one olds k o in subst (λ (m : M). FedPart (view m) (tasks k) (solve (parts tasks olds)) (ins_in olds k)) (machine_at k l e o) (ran_part z.0 z.1 z.2 k l o));
            settled = λ none k e lt sink. (let o = back_to k lt in let l = some_one olds k o in
                subst (λ (m : M). FedAll (view m) (tasks k) (solve (parts tasks olds)) (ins_in olds k)) (machine_at k l e o) (ran_all z.0 z.1 z.2 (subst (λ (g : Option NodeFault). FirstFault view (nodes_of news) g) none first) k l o sink));
            cause = λ f some of. ran_cause z.0 z.1 z.2 f (subst (λ (g : Option NodeFault). FirstFault view (nodes_of news) g) some first) of;
          }

      pub ran_suffice : (most : ℕ) → SolvedClause most news → length lanes ≤ most → (fault : Option NodeFault) → FirstFault view (nodes_of news) fault
          → ReadsSuffice view (parts tasks olds) (ins_in olds) (outs_in olds) machines fault
      ran_suffice most solved le fault first none k w lt sink wired =
          let z = solved tasks lanes (nodes_of olds) (behind_after view tasks olds news begin.behind ran)
          (meeting_after view lanes olds news begin.joined ran) le upward all_fare in
          let o = back_to k lt in ran_reads z.0 z.1 z.2 (subst (λ (g : Option NodeFault). FirstFault view (nodes_of news) g) none first) k w
          (some_one olds k o) o sink wired

      -- what the logs of the passes say
      module _ (world : ℕ → Wire) (moment : Moment view tasks (nodes_of news) lanes world) (meets : MeetsSolution view tasks (nodes_of olds) (nodes_of news) world) where
        abbrev stood_at : (k : ℕ) (d : Linked M) → k < length olds → (past : Past) × NodeStands view (node_at news k d) world past × (past.task ≡ tasks k)
        stood_at k d lt =
            let n : Node M = node_at news k d in
            let mine = moment.each k n (here k lt) in
            (mine.0, subst (λ (m : Node M). NodeStands view m world mine.0) (now_at k d n lt) mine.1, mine.2)

        sound_at : FirstFault view (nodes_of news) None → (k : ℕ) (d : Linked M) → k < length olds → IsSound view (node_at news k d)
        sound_at none k d lt = (let n : Node M = node_at news k d in subst (λ (m : Node M). IsSound view m) (now_at k d n lt) (none k n (here k lt)))

        -- of a machine that is done and sound nothing is pending, so each event that is due was told
        told_at : FirstFault view (nodes_of news) None → (k : ℕ) (d : Linked M) → (lt : k < length olds) → told_in (pass_of (node_at news k d)).log ≡ (tasks k).tells (stood_at k d lt).0.feeds
        told_at none k d lt =
            let n : Node M = node_at news k d in
            let stood = stood_at k d lt in
            let sound = sound_at none k d lt in
            let done : IsDone n = (ran.1 k d lt).1.node in
            let log = stood.1.log in
            let task : (tasks k).tells stood.0.feeds ≡ stood.0.task.tells stood.0.feeds = ap (λ (t : Task). t.tells stood.0.feeds) (sym stood.2) in
            let wires : HaveLanes (out_wires_of n) (view n.machine).out_lanes lanes = subst (λ (m : Node M). HaveLanes (out_wires_of m) (view m.machine).out_lanes lanes) (now_at k d n lt) (moment.outs k n (here k lt)) in
            let ports : length (view n.machine).out_lanes ≡ length n.outs.items = lanes_count (out_wires_of n) (view n.machine).out_lanes lanes wires.lanes_are ∙ length-map n.outs.items (λ (x : OutPort). x.wire) in
            log.all_told sound.0 ∙ (elim (done.told) [
              | inl quiet ↦ elim (log.quiet quiet) [
                | inl all ↦ all ∙ sym task
                | inr reads ↦ absurd (read_out n world stood.0 stood.1 sound done ports reads)
              ]
              | inr refused ↦ absurd (let no : true ≡ false = sym refused ∙ sound.0 in cc (no))
            ])

        log_of : (k : ℕ) (d : Linked M) → (lt : k < length olds) → IsLogOf (view (machine_of (node_at news k d))) (stood_at k d lt).0 (pass_of (node_at news k d)).log
        log_of k d lt = logged_of (node_at news k d) (stood_at k d lt).0 (stood_at k d lt).1.log

        part_logged : (k : ℕ) (d : Linked M) → k < length olds → LoggedPart (view (machine_of (node_at news k d))) (tasks k) (solve (parts tasks olds)) (ins_in olds k) (pass_of (node_at news k d)).log
        part_logged k d lt = record { fed = ran_part world moment meets k d lt; logged = log_of k d lt }

        all_logged : FirstFault view (nodes_of news) None → (k : ℕ) (d : Linked M) → k < length olds → LoggedAll (view (machine_of (node_at news k d))) (tasks k) (pass_of (node_at news k d)).log
        all_logged none k d lt =
            let stood = stood_at k d lt in
            record { past = stood.0; fits = stood.1.machine; task_is = stood.2; logged = log_of k d lt; all_told = told_at none k d lt }

        -- an input of a machine without outputs that is done took what is on its edge
        took_at : FirstFault view (nodes_of news) None → (k : ℕ) (d : Linked M) → (lt : k < length olds) → outs_in olds k ≡ [] → (p : ℕ) → p < length (ins_in olds k) → stream_at (stood_at k d lt).0.got p ≡ solve (parts tasks olds) (slice_index_or (ins_in olds k) p 0)
        took_at none k d lt sink p plt =
            let n : Node M = node_at news k d in
            let is = now_at k d n lt in
            let stood = stood_at k d lt in
            let sound = sound_at none k d lt in
            let done : IsDone n = (ran.1 k d lt).1.node in
            let count : length (ins_in olds k) ≡ length n.ins.items = sym (ap length (ins_now k d lt)) ∙ count_in n.ins.items in
            let no_out : outputs_of n ≡ 0 = sym (length-map n.outs.items (λ (x : OutPort). x.wire)) ∙ ap length (outs_now k d lt ∙ sink) in
            let there : p < length n.ins.items = omega (arith, plt, count) in
            let w = (in_at n.ins.items p).wire in
            let i = stood.1.ins p there in
            let closed : IsClosed (world w).taken = elim (i.reason (done.ins p there) sound) [ inl c ↦ c | inr m ↦ absurd (let some : 0 < outputs_of n = m.0 in omega (arith, some, no_out)) ] in
            let wired : IsIn w (in_wires_of (slice_index_or (nodes_of news) k n)) = subst (λ (m : Node M). IsIn w (in_wires_of m)) (sym is) (in_wire_in n.ins.items p w there refl) in
            let below : LiesBelow (world w).taken (solve (parts tasks news) w) = meets.before k n (here k lt) (λ j e jlt. none j e (let l = here k lt in omega (arith, jlt, l))) w wired in
            let on : solve (parts tasks news) w ≡ solve (parts tasks olds) (slice_index_or (ins_in olds k) p 0) =
            ap (λ (ps : List Part). solve ps w) same ∙ ap (λ (v : ℕ). solve (parts tasks olds) v) (sym (nth_in n.ins.items p) ∙ ap (λ (ws : List ℕ). slice_index_or ws p 0) (ins_now k d lt)) in
            i.exact sound.0 ∙ (closed_below (world w).taken (solve (parts tasks news) w) below closed ∙ on)

        sink_logged : FirstFault view (nodes_of news) None → (k : ℕ) (d : Linked M) → k < length olds → outs_in olds k ≡ [] → LoggedSink (view (machine_of (node_at news k d))) (tasks k) (solve (parts tasks olds)) (ins_in olds k) (pass_of (node_at news k d)).log
        sink_logged none k d lt sink =
            let stood = stood_at k d lt in record {
              fed = record { past = stood.0; fits = stood.1.machine; task_is = stood.2; got = took_at none k d lt sink; whole = (ran_all world moment meets none k d lt sink).whole };
              logged = log_of k d lt;
              all_told = told_at none k d lt;
            }

      pub ran_logged : (most : ℕ) → SolvedClause most news → length lanes ≤ most → (fault : Option NodeFault) → FirstFault view (nodes_of news) fault → (passes : List Passing) → passes ≡ passes_in news
          → AreLogged view tasks (solve (parts tasks olds)) (ins_in olds) (outs_in olds) machines fault (logs_in passes)
      ran_logged most solved le fault first passes are_passes =
          let z = solved tasks lanes (nodes_of olds) (behind_after view tasks olds news begin.behind ran) (meeting_after view lanes olds news begin.joined ran) le upward all_fare in
          let log_is : (k : ℕ) (l : Linked M) → k < length olds → (pass_of (node_at news k l)).log ≡ slice_index_or (logs_in passes) k [] = λ k l lt.
          sym (ap (λ (ps : List Passing). slice_index_or (logs_in ps) k []) are_passes ∙ log_at news k l (in_news k lt)) in record {
            below = λ k e lt. (let o = back_to k lt in let l = some_one olds k o in
                subst (λ (log : List Logged). LoggedPart (view (slice_index_or machines k e)) (tasks k) (solve (parts tasks olds)) (ins_in olds k) log) (log_is k l o)
                (subst (λ (m : M). LoggedPart (view m) (tasks k) (solve (parts tasks olds)) (ins_in olds k) (pass_of (node_at news k l)).log) (machine_at k l e o) (part_logged z.0 z.1 z.2 k l o)));
            settled = λ none k e lt. (let o = back_to k lt in let l = some_one olds k o in
                subst (λ (log : List Logged). LoggedAll (view (slice_index_or machines k e)) (tasks k) log) (log_is k l o)
                (subst (λ (m : M). LoggedAll (view m) (tasks k) (pass_of (node_at news k l)).log) (machine_at k l e o) (all_logged z.0 z.1 z.2 (subst (λ (g : Option NodeFault). FirstFault view (nodes_of news) g) none first) k l o)));
            sinks = λ none k e lt sink. (let o = back_to k lt in let l = some_one olds k o in
                subst (λ (log : List Logged). LoggedSink (view (slice_index_or machines k e)) (tasks k) (solve (parts tasks olds)) (ins_in olds k) log) (log_is k l o)
                (subst (λ (m : M). LoggedSink (view m) (tasks k) (solve (parts tasks olds)) (ins_in olds k) (pass_of (node_at news k l)).log) (machine_at k l e o)
                (sink_logged z.0 z.1 z.2 (subst (λ (g : Option NodeFault). FirstFault view (nodes_of news) g) none first) k l o sink)));
          }

    pub all_passed : (passes : List Passing) → passes ≡ passes_in news → AllPassed olds passes
    all_passed passes are_passes = record {
      count = ap length are_passes ∙ (length-map news (λ (l : Linked M). pass_of (node_of l)) ∙ ran.0);
      each = λ k d e lt. subst (λ (p : Passing). PassStep (pass_of (node_at olds k d)) p) (sym (ap (λ (ps : List Passing). slice_index_or ps k e) are_passes ∙ at_map (λ (l : Linked M). pass_of (node_of l)) news k d e (in_news k lt))) (ran.1 k d lt).0.passes;
    }
