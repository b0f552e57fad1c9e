-- Steps at one port after another.
use Rattle.std.proofs.Common.{◌≡◌, ◌≢◌, ℕ, ◌+◌, ◌<◌, ◌⊎◌, inl, inr, Bool, true, false, ◌||◌, List, length, refl, ap, sym, ◌∙◌, subst, arith}
use Rattle.ff_stream.specs.declared.item.Lane.{Lane}
use Rattle.ff_stream.specs.Ports.{stream_at}
use Rattle.ff_net.specs.declared.ports.OutPort.{OutPort}
use Rattle.ff_net.specs.declared.node.Node.{Node}
use Rattle.ff_net.specs.declared.wires.Wires.{Wires}
use Rattle.ff_net.specs.Ways.{Flow}
use Rattle.ff_net.specs.Pasts.{Past, due}
use Rattle.ff_net.specs.laws.Ports.{out_at}
use Rattle.ff_net.specs.laws.Worlds.{Wire, lanes_of}
use Rattle.ff_net.specs.laws.Nodes.{IsSound, IsSame, IsShaped, HaveLanes, in_wires_of, out_wires_of}
use Rattle.ff_net.specs.laws.Steps.{Course, Acts, Readies, Stepped}
use Rattle.ff_net.specs.laws.Views.{View}
use Rattle.ff_net.proofs.Flows.{same_or_not, due_same}
use Rattle.ff_net.proofs.Moments.{moves_then, then_moves}
use Rattle.ff_net.proofs.PortSteps.{in_count, out_count}
use Rattle.ff_net.proofs.Changes.{true_not_false}

pub or_true : (a b : Bool) → (a || b) ≡ true → (a ≡ true) ⊎ (b ≡ true)
or_true true b e = inl refl
or_true false b e = inr e

pub or_false : (a b : Bool) → (a || b) ≡ false → (a ≡ false) × (b ≡ false)
or_false true b e = absurd (true_not_false e)
or_false false b e = (refl, e)

-- one action after another
pub acts_join : (ins outs : List ℕ) (m n : Bool) (a b c : ℕ → Wire) (p q r : Past) (k l : Type 0) → Course ins outs a b p q → Course ins outs b c q r → Acts (m ≡ true) k a p b q → Acts (n ≡ true) l b q c r → Acts ((m || n) ≡ true) (k × l) a p c r
acts_join ins outs m n a b c p q r k l x y f s = record {
  moves = λ e. elim (or_true m n e) [ inl t ↦ moves_then ins outs a b c p q r x y (f.moves t) | inr t ↦ then_moves ins outs a b c p q r x y (s.moves t) ];
  takes_nothing = λ t w. s.takes_nothing t.1 w ∙ f.takes_nothing t.0 w;
  allows_nothing = s.allows_nothing ∙ f.allows_nothing;
}

pub same_self : {M : Type 0} (node : Node M) → IsSame node node
same_self node = record { machine = refl; ins = refl; outs = refl; refused = refl; pass = refl; hand = refl; quiet = refl }

pub same_trans : {M : Type 0} (a b c : Node M) → IsSame a b → IsSame b c → IsSame a c
same_trans a b c x y = record { machine = y.machine ∙ x.machine; ins = y.ins ∙ x.ins; outs = y.outs ∙ x.outs; refused = y.refused ∙ x.refused; pass = y.pass ∙ x.pass; hand = y.hand ∙ x.hand; quiet = y.quiet ∙ x.quiet }

module _ {M : Type 0} (view : M → View) where
  -- a node keeps its shape
  pub shaped_later : (how : (ℕ → Wire) → Past → (ℕ → Wire) → Past → Type 0) (node : Node M) (wires : Wires) (node' : Node M) (wires' : Wires) → Stepped view how node wires node' wires' → IsShaped view node wires → IsShaped view node' wires'
  shaped_later how node wires node' wires' s h = record {
    ins = subst (λ (ws : List ℕ). HaveLanes ws (view node'.machine).in_lanes (lanes_of wires')) (sym s.ins_same) (subst (λ (ls : List Lane). HaveLanes (in_wires_of node) ls (lanes_of wires')) (sym s.in_lanes_same) (subst (λ (ls : List Lane). HaveLanes (in_wires_of node) (view node.machine).in_lanes ls) (sym s.lanes_same) h.ins));
    outs = subst (λ (ws : List ℕ). HaveLanes ws (view node'.machine).out_lanes (lanes_of wires')) (sym s.outs_same) (subst (λ (ls : List Lane). HaveLanes (out_wires_of node) ls (lanes_of wires')) (sym s.out_lanes_same) (subst (λ (ls : List Lane). HaveLanes (out_wires_of node) (view node.machine).out_lanes ls) (sym s.lanes_same) h.outs));
  }

  pub outs_kept : (how : (ℕ → Wire) → Past → (ℕ → Wire) → Past → Type 0) (node : Node M) (wires : Wires) (node' : Node M) (wires' : Wires) → Stepped view how node wires node' wires' → length node'.outs.items ≡ length node.outs.items
  outs_kept how node wires node' wires' s = sym (out_count node'.outs.items) ∙ (ap length s.outs_same ∙ out_count node.outs.items)

  pub ins_kept : (how : (ℕ → Wire) → Past → (ℕ → Wire) → Past → Type 0) (node : Node M) (wires : Wires) (node' : Node M) (wires' : Wires) → Stepped view how node wires node' wires' → length node'.ins.items ≡ length node.ins.items
  ins_kept how node wires node' wires' s = sym (in_count node'.ins.items) ∙ (ap length s.ins_same ∙ in_count node.ins.items)

-- each of a row of outputs waits, and the next
pub full_more : (P : ℕ → Type 0) (n : ℕ) → ((q : ℕ) → q < n → P q) → P n → (q : ℕ) → q < n + 1 → P q
full_more P n below here q lt =
    elim (same_or_not q n) [
      | inl e ↦ subst P (sym e) here
      | inr other ↦ below q (omega (arith, other, lt))
    ]

-- filled up to an output, and at it
pub readies_join : {M : Type 0} (view : M → View) (n : ℕ) (due' held : Bool) (node node' : Node M) (a b c : ℕ → Wire) (p q r : Past) → (IsSound view node' → IsSound view node) → ((k : ℕ) → k ≢ n → out_at node'.outs.items k ≡ out_at node.outs.items k) → q.task ≡ p.task
    → Readies view (λ k. k < n) due' node a p b q → Readies view (λ k. k ≡ n) held node' b q c r → Readies view (λ k. k < n + 1) (due' || held) node' a p c r
readies_join view n due' held node node' a b c p q r back others task f s = record {
  sent = λ w. s.sent w ∙ f.sent w;
  taken = λ w. s.taken w ∙ f.taken w;
  finished = λ w. s.finished w ∙ f.finished w;
  got = s.got ∙ f.got;
  allowed = s.allowed ∙ f.allowed;
  stopped = s.stopped ∙ f.stopped;
  none_due = λ ok k lt busy none. elim (same_or_not k n) [
    | inl e ↦
        sym (f.sent (out_at node'.outs.items k).wire) ∙ (s.none_due ok k e busy none ∙ ap (λ (ss : List Flow). stream_at ss k) (due_same p q task f.got f.allowed))
    | inr ne ↦
        let at = others k ne in
        subst (λ (o : OutPort). (a o.wire).sent ≡ stream_at (due p) k) (sym at)
        (f.none_due (back ok) k (omega (arith, ne, lt)) (sym (ap (λ (o : OutPort). o.done) at) ∙ busy) (sym (ap (λ (o : OutPort). o.held) at) ∙ none))
  ];
  asked = λ ok e k lt busy. let no = or_false due' held e in elim (same_or_not k n) [
    | inl same ↦ s.asked ok no.1 k same busy
    | inr ne ↦ s.asks_on ok no.1 k (f.asked (back ok) no.0 k (omega (arith, ne, lt)) (sym (ap (λ (o : OutPort). o.done) (others k ne)) ∙ busy))
  ];
  asks_on = λ ok e k i. let no = or_false due' held e in s.asks_on ok no.1 k (f.asks_on (back ok) no.0 k i);
}
