-- What settled links tell of the nodes.
use Rattle.std.proofs.Common.{◌≡◌, ℕ, zero, suc, ◌<◌, ◌⊎◌, inl, inr, true, List, [], ◌∷◌, ◌++◌, length, slice_index_or, refl, ap, sym, ◌∙◌, subst, arith}
use mathlib.Core.List.{IsPrefix}
use Rattle.ff_stream.specs.declared.item.Item.{Item}
use Rattle.ff_stream.specs.declared.item.Lane.{Lane}
use Rattle.ff_stream.specs.Stream.{LiesBelow}
use Rattle.ff_stream.specs.Items.{with_item, Leads}
use Rattle.ff_stream.specs.laws.Order.{below_trans, nothing_below, leads_below}
use Rattle.ff_stream.specs.Ports.{nothing, stream_at}
use Rattle.ff_link.specs.laws.Sendings.{stream_from, stream_of, IsSending}
use Rattle.ff_net.specs.declared.node.Node.{Node}
use Rattle.ff_net.specs.declared.ports.InPort.{InPort}
use Rattle.ff_net.specs.declared.ports.OutPort.{OutPort}
use Rattle.ff_net.specs.Ways.{Flow, lane_at, IsValidOn}
use Rattle.ff_net.specs.Pasts.{Past, Task, IsIn}
use Rattle.ff_net.specs.laws.Ports.{in_at, out_at}
use Rattle.ff_net.specs.laws.Worlds.{Wire}
use Rattle.ff_net.specs.laws.Nodes.{NodeStands, HaveLanes, IsSound, MayClose, in_wires_of, out_wires_of}
use Rattle.ff_net.specs.laws.Serial.{Moment}
use Rattle.ff_net.specs.laws.Views.{View}
use Rattle.ff_net.proofs.Flows.{same_or_not}
use Rattle.ff_net.proofs.PortSteps.{in_keep, out_keep, in_wire_in, out_wire_in}
use Rattle.ff_net.proofs.Queues.{nothing_valid_on}
use Rattle.ff_net_threads.specs.declared.links.ends.InEnd.{InEnd}
use Rattle.ff_net_threads.specs.declared.links.ends.OutEnd.{OutEnd}
use Rattle.ff_net_threads.specs.declared.links.linked.Linked.{Linked}
use Rattle.ff_net_threads.specs.laws.links.Ends.{taken_of, in_end_at}
use Rattle.ff_net_threads.specs.laws.links.Nodes.{Behind, HasEnded, ins_of, in_ends_wires}
use Rattle.ff_net_threads.specs.laws.links.Settling.{nodes_of, ends_of, IsFed, AllBehind, IsOutOf, IsInOf, AreMeeting, WasSent, AreFed}
use Rattle.ff_net_threads.proofs.LinksLemmas.Linking.{out_member}

leads_front : (s : Flow) (xs ys : List Item) (t : Flow) → Leads s (xs ++ ys) t → Leads (stream_from s xs) ys t
leads_front s [] ys t h = h
leads_front s (x ∷ xs) ys t h = leads_front (with_item s x) xs ys t h.1

prefix_below : (lane : Lane) (xs ys : List Item) → IsPrefix xs ys → IsSending lane ys → LiesBelow (stream_of xs) (stream_of ys)
prefix_below lane xs ys p s = leads_below p.0 (stream_of xs) (stream_of ys) (leads_front nothing xs p.0 (stream_of ys) (subst (λ (zs : List Item). Leads nothing zs (stream_of ys)) (sym p.1) s.none_behind))

-- a number is among others or not
among : (w : ℕ) (ws : List ℕ) → IsIn w ws ⊎ (IsIn w ws → ⊥)
among w [] = inr (λ i. i)
among w (x ∷ xs) = elim (same_or_not x w) [
  | inl e ↦ inl (inl e)
  | inr n ↦ elim (among w xs) [ inl i ↦ inl (inr i) | inr m ↦ inr (λ j. elim j [ inl e ↦ n e | inr i ↦ m i ]) ]
]

abbrev choose : {P Q : Type 0} → P ⊎ Q → Flow → Flow → Flow
choose (inl p) a b = a
choose (inr q) a b = b

chosen : {P : Type 0} (t : P ⊎ (P → ⊥)) (a b : Flow) → P → choose t a b ≡ a
chosen (inl p) a b h = refl
chosen (inr n) a b h = absurd (n h)

not_chosen : {P : Type 0} (t : P ⊎ (P → ⊥)) (a b : Flow) → (P → ⊥) → choose t a b ≡ b
not_chosen (inl p) a b n = absurd (n p)
not_chosen (inr m) a b n = refl

-- the end at a wire
in_place : (ends : List InEnd) (w : ℕ) → IsIn w (in_ends_wires ends) → (p : ℕ) × (p < length ends) × ((in_end_at ends p).wire ≡ w)
in_place [] w i = absurd i
in_place (e ∷ es) w (inl same) = (zero, omega arith, same)
in_place (e ∷ es) w (inr i) = let r = in_place es w i in (suc r.0, (let lt : r.0 < length es = r.1 in omega arith), r.2)

module _ {M : Type 0} (view : M → View) where
  -- what the nodes put on their wires, and what they took from them
  abbrev sent_by : (tasks : ℕ → Task) (ls : List (Linked M)) → AllBehind view tasks ls → ℕ → Flow
  sent_by tasks [] bs w = nothing
  sent_by tasks (l ∷ ls) bs w = choose (among w (out_wires_of l.node)) (bs.0.world w).sent (sent_by (λ k. tasks (suc k)) ls bs.1 w)

  abbrev taken_by : (tasks : ℕ → Task) (ls : List (Linked M)) → AllBehind view tasks ls → ℕ → Flow
  taken_by tasks [] bs w = nothing
  taken_by tasks (l ∷ ls) bs w = choose (among w (in_wires_of l.node)) (bs.0.world w).taken (taken_by (λ k. tasks (suc k)) ls bs.1 w)

  -- on each node's wires these streams are what it put and took
  abbrev Own : (σ τ : ℕ → Flow) (tasks : ℕ → Task) (ls : List (Linked M)) → AllBehind view tasks ls → Type 0
  Own σ τ tasks [] bs = Unit {0}
  Own σ τ tasks (l ∷ ls) bs = ((w : ℕ) → IsIn w (out_wires_of l.node) → σ w ≡ (bs.0.world w).sent) × ((w : ℕ) → IsIn w (in_wires_of l.node) → τ w ≡ (bs.0.world w).taken) × Own σ τ (λ k. tasks (suc k)) ls bs.1

  own_other : (σ σ' τ τ' : ℕ → Flow) (tasks : ℕ → Task) (ls : List (Linked M)) (bs : AllBehind view tasks ls) → ((w : ℕ) → IsOutOf ls w → σ' w ≡ σ w) → ((w : ℕ) → IsInOf ls w → τ' w ≡ τ w) → Own σ τ tasks ls bs → Own σ' τ' tasks ls bs
  own_other σ σ' τ τ' tasks [] bs f g own = tt
  own_other σ σ' τ τ' tasks (l ∷ ls) bs f g own = (
    λ w i. f w (inl i) ∙ own.0 w i,
    λ w i. g w (inl i) ∙ own.1 w i,
    own_other σ σ' τ τ' (λ k. tasks (suc k)) ls bs.1 (λ w i. f w (inr i)) (λ w i. g w (inr i)) own.2,
  )

  own : (lanes : List Lane) (tasks : ℕ → Task) (ls : List (Linked M)) (bs : AllBehind view tasks ls) → AreMeeting lanes ls → Own (sent_by tasks ls bs) (taken_by tasks ls bs) tasks ls bs
  own lanes tasks [] bs m = tt
  own lanes tasks (l ∷ ls) bs m =
      let rest : ℕ → Task = λ k. tasks (suc k) in (
        λ w i. chosen (among w (out_wires_of l.node)) _ _ i,
        λ w i. chosen (among w (in_wires_of l.node)) _ _ i,
        own_other (sent_by rest ls bs.1) (sent_by tasks (l ∷ ls) bs) (taken_by rest ls bs.1) (taken_by tasks (l ∷ ls) bs) rest ls bs.1
            (λ w o. not_chosen (among w (out_wires_of l.node)) _ _ (λ i. m.2 w i o))
            (λ w o. not_chosen (among w (in_wires_of l.node)) _ _ (λ i. m.3 w i o))
            (own lanes rest ls bs.1 m.4),
      )

  sent_is_out : (w : ℕ) (xs : List Item) (tasks : ℕ → Task) (ls : List (Linked M)) → AllBehind view tasks ls → WasSent ls w xs → IsOutOf ls w
  sent_is_out w xs tasks [] bs s = absurd s
  sent_is_out w xs tasks (l ∷ ls) bs (inl s) =
      let d : OutEnd = some_out l.outs.items s.0 s.1 in
      inl (subst (λ (v : ℕ). IsIn v (out_wires_of l.node)) (s.2 d).0 (subst (λ (ws : List ℕ). IsIn (slice_index_or l.outs.items s.0 d).wire ws) bs.0.wired.out_wires (out_member l.outs.items s.0 d s.1)))
    where
      some_out : (ends : List OutEnd) (q : ℕ) → q < length ends → OutEnd
      some_out [] q lt = absurd (omega arith)
      some_out (e ∷ es) q lt = e
  sent_is_out w xs tasks (l ∷ ls) bs (inr s) = inr (sent_is_out w xs (λ k. tasks (suc k)) ls bs.1 s)

  -- what was sent over a link lies below what was put on the wire of its number
  sent_below : (lanes : List Lane) (w : ℕ) (xs ys : List Item) (tasks : ℕ → Task) (ls : List (Linked M)) (bs : AllBehind view tasks ls) → AreMeeting lanes ls → WasSent ls w ys → IsPrefix xs ys → LiesBelow (stream_of xs) (sent_by tasks ls bs w)
  sent_below lanes w xs ys tasks [] bs m s p = absurd s
  sent_below lanes w xs ys tasks (l ∷ ls) bs m (inl s) p = head l.outs.items refl
    where
      head : (ends : List OutEnd) → ends ≡ l.outs.items → LiesBelow (stream_of xs) (sent_by tasks (l ∷ ls) bs w)
      head [] e = absurd (let lt : s.0 < length l.outs.items = s.1 in let len : 0 ≡ length l.outs.items = ap length e in omega arith)
      head (d ∷ ds) e =
          let end : OutEnd = slice_index_or l.outs.items s.0 d in
          let here = s.2 d in
          let o = bs.0.outs s.0 d s.1 in
          let member : IsIn w (out_wires_of l.node) = subst (λ (v : ℕ). IsIn v (out_wires_of l.node)) here.0 (subst (λ (ws : List ℕ). IsIn end.wire ws) bs.0.wired.out_wires (out_member l.outs.items s.0 d s.1)) in
          let sending : IsSending end.sender.lane ys = subst (λ (zs : List Item). IsSending end.sender.lane zs) here.1 o.sending in
          let taken : LiesBelow (stream_of ys) (bs.0.world w).taken = subst (λ (v : ℕ). LiesBelow (stream_of ys) (bs.0.world v).taken) here.0 (subst (λ (zs : List Item). LiesBelow (stream_of zs) (bs.0.world end.wire).taken) here.1 o.below) in
          subst (λ (f : Flow). LiesBelow (stream_of xs) f) (sym (chosen (among w (out_wires_of l.node)) _ _ member))
          (below_trans (stream_of xs) (stream_of ys) (bs.0.world w).sent (prefix_below end.sender.lane xs ys p sending) (below_trans (stream_of ys) (bs.0.world w).taken (bs.0.world w).sent taken (bs.0.stand.ordered w)))
  sent_below lanes w xs ys tasks (l ∷ ls) bs m (inr s) p =
      subst (λ (f : Flow). LiesBelow (stream_of xs) f) (sym (not_chosen (among w (out_wires_of l.node)) _ _ (λ i. m.2 w i (sent_is_out w ys (λ k. tasks (suc k)) ls bs.1 s))))
      (sent_below lanes w xs ys (λ k. tasks (suc k)) ls bs.1 m.4 s p)

  -- what was taken from a wire lies below what was sent on the wire of this number
  taken_below : (σ : ℕ → Flow) (all : List (Linked M)) → ((w : ℕ) (xs ys : List Item) → WasSent all w ys → IsPrefix xs ys → LiesBelow (stream_of xs) (σ w)) → (tasks : ℕ → Task) (ls : List (Linked M)) (bs : AllBehind view tasks ls) → AreFed all ls → (w : ℕ) → LiesBelow (taken_by tasks ls bs w) (σ w)
  taken_below σ all h tasks [] bs fed w = nothing_below (σ w)
  taken_below σ all h tasks (l ∷ ls) bs fed w = pick (among w (in_wires_of l.node)) (taken_below σ all h (λ k. tasks (suc k)) ls bs.1 fed.1 w)
    where
      pick : (t : IsIn w (in_wires_of l.node) ⊎ (IsIn w (in_wires_of l.node) → ⊥)) → LiesBelow (taken_by (λ k. tasks (suc k)) ls bs.1 w) (σ w) → LiesBelow (choose t (bs.0.world w).taken (taken_by (λ k. tasks (suc k)) ls bs.1 w)) (σ w)
      pick (inl i) rest =
          let place = in_place l.ins.items w (subst (λ (ws : List ℕ). IsIn w ws) (sym bs.0.wired.in_wires) i) in
          let end : InEnd = in_end_at l.ins.items place.0 in
          let f = fed.0 place.0 place.1 in
          let below : LiesBelow (bs.0.world w).sent (stream_of (taken_of end)) = subst (λ (v : ℕ). LiesBelow (bs.0.world v).sent (stream_of (taken_of end))) place.2 (bs.0.ins place.0 place.1).below in
          let above : LiesBelow (stream_of (taken_of end)) (σ w) = subst (λ (v : ℕ). LiesBelow (stream_of (taken_of end)) (σ v)) place.2 (h end.wire (taken_of end) f.0 f.2 f.1) in
          below_trans (bs.0.world w).taken (bs.0.world w).sent (σ w) (bs.0.stand.ordered w) (below_trans (bs.0.world w).sent (stream_of (taken_of end)) (σ w) below above)
      pick (inr n) rest = rest

  sent_valid : (lanes : List Lane) (tasks : ℕ → Task) (ls : List (Linked M)) (bs : AllBehind view tasks ls) → AreMeeting lanes ls → (w : ℕ) → IsValidOn (lane_at lanes w) (sent_by tasks ls bs w)
  sent_valid lanes tasks [] bs m w = nothing_valid_on (lane_at lanes w)
  sent_valid lanes tasks (l ∷ ls) bs m w = pick (among w (out_wires_of l.node)) (sent_valid lanes (λ k. tasks (suc k)) ls bs.1 m.4 w)
    where
      pick : (t : IsIn w (out_wires_of l.node) ⊎ (IsIn w (out_wires_of l.node) → ⊥)) → IsValidOn (lane_at lanes w) (sent_by (λ k. tasks (suc k)) ls bs.1 w) → IsValidOn (lane_at lanes w) (choose t (bs.0.world w).sent (sent_by (λ k. tasks (suc k)) ls bs.1 w))
      pick (inl i) rest = subst (λ (ls' : List Lane). IsValidOn (lane_at ls' w) (bs.0.world w).sent) m.1 (bs.0.stand.valid w)
      pick (inr n) rest = rest

  -- a node that has ended stands on the wires of all as on its own
  node_stands : (σ τ : ℕ → Flow) (task : Task) (l : Linked M) (b : Behind view task l) → HasEnded l → ((w : ℕ) → IsIn w (out_wires_of l.node) → σ w ≡ (b.world w).sent) → ((w : ℕ) → IsIn w (in_wires_of l.node) → τ w ≡ (b.world w).taken)
      → NodeStands view l.node (λ w. record { sent = σ w; taken = τ w; finished = true }) b.past
  node_stands σ τ task l b ended f g =
      let world : ℕ → Wire = λ w. record { sent = σ w; taken = τ w; finished = true } in
      let was = b.fits in record {
        machine = was.machine;
        ins = λ q lt.
            let i : InPort = in_at l.node.ins.items q in
            let flag : true ≡ (b.world i.wire).finished = sym (ended.node.ins q lt) ∙ (was.ins q lt).flag in
            in_keep i (b.world i.wire) (world i.wire) (stream_at b.past.got q) l.node.refused l.node.refused (IsSound view l.node) (IsSound view l.node) (MayClose view l.node b.past q) (MayClose view l.node b.past q) (g i.wire (in_wire_in l.node.ins.items q i.wire lt refl)) flag (λ r. r) (λ s. s) (λ m. m) (was.ins q lt);
        outs = λ q lt.
            let o : OutPort = out_at l.node.outs.items q in
            out_keep o (b.world o.wire) (world o.wire) (stream_at b.past.gave q) (IsIn q b.past.stopped) (IsIn q b.past.stopped) (IsSound view l.node) (IsSound view l.node) (f o.wire (out_wire_in l.node.outs.items q o.wire lt refl)) (λ e. refl) (λ s. s) (λ s. s) (was.outs q lt);
        beyond = was.beyond;
        stopped = was.stopped;
        log = was.log;
      }

  each_stands : (σ τ : ℕ → Flow) (lanes : List Lane) (tasks : ℕ → Task) (ls : List (Linked M)) (bs : AllBehind view tasks ls) → AreMeeting lanes ls → Own σ τ tasks ls bs → (k : ℕ) (d : Node M) → k < length (nodes_of ls)
      → (past : Past) × NodeStands view (slice_index_or (nodes_of ls) k d) (λ w. record { sent = σ w; taken = τ w; finished = true }) past × (past.task ≡ tasks k)
  each_stands σ τ lanes tasks [] bs m o k d lt = absurd (omega arith)
  each_stands σ τ lanes tasks (l ∷ ls) bs m o zero d lt = (bs.0.past, node_stands σ τ (tasks zero) l bs.0 m.0 o.0 o.1, bs.0.task_is)
  each_stands σ τ lanes tasks (l ∷ ls) bs m o (suc k) d lt = each_stands σ τ lanes (λ j. tasks (suc j)) ls bs.1 m.4 o.2 k d (omega arith)

  each_shaped : (lanes : List Lane) (tasks : ℕ → Task) (ls : List (Linked M)) → AllBehind view tasks ls → AreMeeting lanes ls → (k : ℕ) (d : Node M) → k < length (nodes_of ls)
      → HaveLanes (in_wires_of (slice_index_or (nodes_of ls) k d)) (view (slice_index_or (nodes_of ls) k d).machine).in_lanes lanes × HaveLanes (out_wires_of (slice_index_or (nodes_of ls) k d)) (view (slice_index_or (nodes_of ls) k d).machine).out_lanes lanes
  each_shaped lanes tasks [] bs m k d lt = absurd (omega arith)
  each_shaped lanes tasks (l ∷ ls) bs m zero d lt = (
    subst (λ (vs : List Lane). HaveLanes (in_wires_of l.node) (view l.node.machine).in_lanes vs) m.1 bs.0.wired.shaped.ins,
    subst (λ (vs : List Lane). HaveLanes (out_wires_of l.node) (view l.node.machine).out_lanes vs) m.1 bs.0.wired.shaped.outs,
  )
  each_shaped lanes tasks (l ∷ ls) bs m (suc k) d lt = each_shaped lanes (λ j. tasks (suc j)) ls bs.1 m.4 k d (omega arith)

  out_of : (ls : List (Linked M)) (k w : ℕ) (d : Node M) → k < length (nodes_of ls) → IsIn w (out_wires_of (slice_index_or (nodes_of ls) k d)) → IsOutOf ls w
  out_of [] k w d lt i = absurd (omega arith)
  out_of (l ∷ ls) zero w d lt i = inl i
  out_of (l ∷ ls) (suc k) w d lt i = inr (out_of ls k w d (omega arith) i)

  outs_apart : (lanes : List Lane) (ls : List (Linked M)) → AreMeeting lanes ls → (j k w : ℕ) (d : Node M) → j < length (nodes_of ls) → k < length (nodes_of ls) → IsIn w (out_wires_of (slice_index_or (nodes_of ls) j d)) → IsIn w (out_wires_of (slice_index_or (nodes_of ls) k d)) → j ≡ k
  outs_apart lanes [] m j k w d jlt klt a b = absurd (omega arith)
  outs_apart lanes (l ∷ ls) m zero zero w d jlt klt a b = refl
  outs_apart lanes (l ∷ ls) m zero (suc k) w d jlt klt a b = absurd (m.2 w a (out_of ls k w d (omega arith) b))
  outs_apart lanes (l ∷ ls) m (suc j) zero w d jlt klt a b = absurd (m.2 w b (out_of ls j w d (omega arith) a))
  outs_apart lanes (l ∷ ls) m (suc j) (suc k) w d jlt klt a b = ap suc (outs_apart lanes ls m.4 j k w d (omega arith) (omega arith) a b)

  -- all nodes at one moment
  pub moment_of_links : (lanes : List Lane) (tasks : ℕ → Task) (ls : List (Linked M)) → AllBehind view tasks ls → AreMeeting lanes ls → AreFed ls ls
      → (world : ℕ → Wire) × Moment view tasks (nodes_of ls) lanes world
  moment_of_links lanes tasks ls bs m fed =
      let σ = sent_by tasks ls bs in
      let τ = taken_by tasks ls bs in (
        λ w. record { sent = σ w; taken = τ w; finished = true },
        record {
          ins = λ k d lt. (each_shaped lanes tasks ls bs m k d lt).0;
          outs = λ k d lt. (each_shaped lanes tasks ls bs m k d lt).1;
          outs_apart = outs_apart lanes ls m;
          ordered = taken_below σ ls (λ w xs ys s p. sent_below lanes w xs ys tasks ls bs m s p) tasks ls bs fed;
          valid = sent_valid lanes tasks ls bs m;
          each = each_stands σ τ lanes tasks ls bs m (own lanes tasks ls bs m);
        },
      )

-- end by end
pub are_fed : {M : Type 0} (all ls : List (Linked M)) → ((k p : ℕ) (d : Linked M) → k < length ls → p < length (ins_of (slice_index_or ls k d)) → IsFed (ends_of all) (in_end_at (ins_of (slice_index_or ls k d)) p)) → AreFed all ls
are_fed all [] h = tt
are_fed all (l ∷ ls) h = (λ p lt. h zero p l (omega arith) lt, are_fed all ls (λ k p d klt lt. h (suc k) p d (omega arith) lt))
