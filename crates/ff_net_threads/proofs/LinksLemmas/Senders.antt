-- Whether each link that leads to a node has its sender in the table.
use Rattle.std.proofs.Common.{◌≡◌, ℕ, zero, suc, ◌<◌, ◌≤◌, ◌⊎◌, inl, inr, List, [], ◌∷◌, ◌++◌, length, slice_index_or, slice_set, refl, ap, sym, ◌∙◌, subst, arith, Option, None, Some, get_or-set_same, get_or-set_other}
use Rattle.ff_stream.specs.declared.item.Lane.{Lane}
use Rattle.ff_link.specs.laws.Views.{Sending}
use Rattle.ff_net.specs.Nets.{IsUpward}
use Rattle.ff_net.specs.Pasts.{Task, IsIn}
use Rattle.ff_net.specs.laws.Nodes.{AreApart, in_wires_of, out_wires_of}
use Rattle.ff_net.specs.laws.Serial.{parts_of}
use Rattle.ff_net.specs.laws.Worlds.{lanes_of}
use Rattle.ff_net.specs.laws.Views.{View}
use Rattle.ff_net.proofs.Flows.{same_or_not}
use Rattle.ff_net_threads.specs.declared.links.ends.OutEnd.{OutEnd}
use Rattle.ff_net_threads.specs.declared.links.linked.Linked.{Linked}
use Rattle.ff_net_threads.specs.laws.links.Nodes.{in_ends_wires, out_ends_wires, ins_of, outs_of}
use Rattle.ff_net_threads.specs.laws.links.Settling.{HasSender, ComeAfter, AllBehind, AreMeeting, IsInOf, nodes_of}
use Rattle.ff_net_threads.proofs.LinksLemmas.Linking.{wire_there}

pub sender_there : (table : List (Option Sending)) (w : ℕ) → HasSender table w → w < length table
sender_there [] w h = absurd (let no : None ≡ Some h.sender = h.is None in cc (no))
sender_there (o ∷ os) zero h = omega arith
sender_there (o ∷ os) (suc w) h = let rest : w < length os = sender_there os w (record { sender = h.sender; is = λ d. h.is d }) in omega arith

pub sender_kept : (table : List (Option Sending)) (u w : ℕ) (o : Option Sending) → (w ≡ u → ⊥) → HasSender table w → HasSender (slice_set table u o) w
sender_kept table u w o n h = record { sender = h.sender; is = λ d. get_or-set_other table u w o d n ∙ h.is d }

pub sender_stored : (table : List (Option Sending)) (w : ℕ) (s : Sending) → w < length table → HasSender (slice_set table w (Some s)) w
sender_stored table w s lt = record { sender = s; is = λ d. get_or-set_same table w (Some s) d lt }

pub sender_still : (table : List (Option Sending)) (u w : ℕ) (s : Sending) → HasSender table w → HasSender (slice_set table u (Some s)) w
sender_still table u w s h = elim (same_or_not w u) [
  | inl e ↦ subst (λ (v : ℕ). HasSender (slice_set table u (Some s)) v) (sym e) (sender_stored table u s (subst (λ (v : ℕ). v < length table) e (sender_there table w h)))
  | inr n ↦ sender_kept table u w (Some s) n h
]

-- the end at a wire
pub out_place_of : (ends : List OutEnd) (w : ℕ) → IsIn w (out_ends_wires ends) → (q : ℕ) × (q < length ends) × ((d : OutEnd) → (slice_index_or ends q d).wire ≡ w)
out_place_of [] w i = absurd i
out_place_of (e ∷ es) w (inl same) = (zero, omega arith, λ d. same)
out_place_of (e ∷ es) w (inr i) = let r = out_place_of es w i in (suc r.0, (let lt : r.0 < length es = r.1 in omega arith), r.2)

pub some_out : (ends : List OutEnd) (q : ℕ) → q < length ends → OutEnd
some_out [] q lt = absurd (omega arith)
some_out (e ∷ es) q lt = e

in_either : (w : ℕ) (us vs : List ℕ) → IsIn w (us ++ vs) → IsIn w us ⊎ IsIn w vs
in_either w [] vs i = inr i
in_either w (u ∷ us) vs (inl e) = inl (inl e)
in_either w (u ∷ us) vs (inr i) = elim (in_either w us vs i) [ inl a ↦ inl (inr a) | inr b ↦ inr b ]

module _ {M : Type 0} (view : M → View) where
  come_apart : (tasks : ℕ → Task) (ls : List (Linked M)) → AllBehind view tasks ls → (k : ℕ) (d : Linked M) → k < length ls → AreApart (in_ends_wires (ins_of (slice_index_or ls k d)))
  come_apart tasks [] bs k d lt = absurd (omega arith)
  come_apart tasks (l ∷ ls) bs zero d lt = subst AreApart (sym bs.0.wired.in_wires) bs.0.wired.shaped.ins.apart
  come_apart tasks (l ∷ ls) bs (suc k) d lt = come_apart (λ j. tasks (suc j)) ls bs.1 k d (omega arith)

  come_there : (lanes : List Lane) (tasks : ℕ → Task) (ls : List (Linked M)) → AllBehind view tasks ls → AreMeeting lanes ls → (k w : ℕ) (d : Linked M) → k < length ls → IsIn w (in_ends_wires (ins_of (slice_index_or ls k d))) → w < length lanes
  come_there lanes tasks [] bs m k w d lt i = absurd (omega arith)
  come_there lanes tasks (l ∷ ls) bs m zero w d lt i =
      subst (λ (vs : List Lane). w < length vs) m.1 (wire_there (in_wires_of l.node) (view l.node.machine).in_lanes (lanes_of l.wires) bs.0.wired.shaped.ins.lanes_are w (subst (λ (ws : List ℕ). IsIn w ws) bs.0.wired.in_wires i))
  come_there lanes tasks (l ∷ ls) bs m (suc k) w d lt i = come_there lanes (λ j. tasks (suc j)) ls bs.1 m.4 k w d (omega arith) i

  come_in : (tasks : ℕ → Task) (ls : List (Linked M)) → AllBehind view tasks ls → (k w : ℕ) (d : Linked M) → k < length ls → IsIn w (in_ends_wires (ins_of (slice_index_or ls k d))) → IsInOf ls w
  come_in tasks [] bs k w d lt i = absurd (omega arith)
  come_in tasks (l ∷ ls) bs zero w d lt i = inl (subst (λ (ws : List ℕ). IsIn w ws) bs.0.wired.in_wires i)
  come_in tasks (l ∷ ls) bs (suc k) w d lt i = inr (come_in (λ j. tasks (suc j)) ls bs.1 k w d (omega arith) i)

  come_once : (lanes : List Lane) (tasks : ℕ → Task) (ls : List (Linked M)) → AllBehind view tasks ls → AreMeeting lanes ls → (j k w : ℕ) (d : Linked M) → j < length ls → k < length ls → IsIn w (in_ends_wires (ins_of (slice_index_or ls j d))) → IsIn w (in_ends_wires (ins_of (slice_index_or ls k d))) → j ≡ k
  come_once lanes tasks [] bs m j k w d jlt klt a b = absurd (omega arith)
  come_once lanes tasks (l ∷ ls) bs m zero zero w d jlt klt a b = refl
  come_once lanes tasks (l ∷ ls) bs m zero (suc k) w d jlt klt a b = absurd (m.3 w (subst (λ (ws : List ℕ). IsIn w ws) bs.0.wired.in_wires a) (come_in (λ i. tasks (suc i)) ls bs.1 k w d (omega arith) b))
  come_once lanes tasks (l ∷ ls) bs m (suc j) zero w d jlt klt a b = absurd (m.3 w (subst (λ (ws : List ℕ). IsIn w ws) bs.0.wired.in_wires b) (come_in (λ i. tasks (suc i)) ls bs.1 j w d (omega arith) a))
  come_once lanes tasks (l ∷ ls) bs m (suc j) (suc k) w d jlt klt a b = ap suc (come_once lanes (λ i. tasks (suc i)) ls bs.1 m.4 j k w d (omega arith) (omega arith) a b)

  come_earlier : (ws : List ℕ) (tasks : ℕ → Task) (ls : List (Linked M)) → AllBehind view tasks ls → IsUpward ws (parts_of view tasks (nodes_of ls)) → (k w : ℕ) (d : Linked M) → k < length ls → IsIn w (in_ends_wires (ins_of (slice_index_or ls k d)))
      → IsIn w ws ⊎ ((j : ℕ) × (j < k) × IsIn w (out_ends_wires (outs_of (slice_index_or ls j d))))
  come_earlier ws tasks [] bs up k w d lt i = absurd (omega arith)
  come_earlier ws tasks (l ∷ ls) bs up zero w d lt i = inl (up.0 w (subst (λ (vs : List ℕ). IsIn w vs) bs.0.wired.in_wires i))
  come_earlier ws tasks (l ∷ ls) bs up (suc k) w d lt i = elim (come_earlier (out_wires_of l.node ++ ws) (λ j. tasks (suc j)) ls bs.1 up.1 k w d (omega arith) i) [
    | inl e ↦ elim (in_either w (out_wires_of l.node) ws e) [
      | inl o ↦ inr (zero, omega arith, subst (λ (vs : List ℕ). IsIn w vs) (sym bs.0.wired.out_wires) o)
      | inr r ↦ inl r
    ]
    | inr r ↦ inr (suc r.0, (let before : r.0 < k = r.1 in omega arith), r.2)
  ]

  -- nodes whose links lead upward come after those that feed them
  pub come_after : (links : ℕ) (lanes : List Lane) (tasks : ℕ → Task) (ls : List (Linked M)) → AllBehind view tasks ls → AreMeeting lanes ls → length lanes ≤ links → IsUpward [] (parts_of view tasks (nodes_of ls)) → ComeAfter links ls
  come_after links lanes tasks ls bs m few up = record {
    apart = come_apart tasks ls bs;
    once = come_once lanes tasks ls bs m;
    there = λ k w d lt i. let here : w < length lanes = come_there lanes tasks ls bs m k w d lt i in omega arith;
    earlier = λ k w d lt i. elim (come_earlier [] tasks ls bs up k w d lt i) [ inl e ↦ absurd e | inr r ↦ r ];
  }
