-- What a node does once it is ready.
use Rattle.std.proofs.Common.{◌≡◌, ℕ, inl, inr, Bool, true, false, ◌||◌, List, refl, ap, sym, ◌∙◌, subst, Option, None, Some, is_some}
use Rattle.ff_net.specs.declared.fault.Fault.{Fault}
use Rattle.ff_net.specs.declared.node.Node.{Node}
use Rattle.ff_net.specs.declared.wires.Wires.{Wires}
use Rattle.ff_net.specs.Pasts.{Past}
use Rattle.ff_net.specs.laws.Worlds.{Wire, Stand}
use Rattle.ff_net.specs.laws.Nodes.{IsSound, IsSame, NodeStands, in_wires_of, out_wires_of}
use mathlib.Core.List.{IsPrefix}
use Rattle.ff_stream.specs.laws.Order.{prefix_self}
use Rattle.ff_net.specs.laws.Logs.{PassStep, tickets_in}
use Rattle.ff_net.specs.laws.Steps.{Course, Acts, IsHeldBack, Rests, Turns, Prepares, Later, Stepped}
use Rattle.ff_sched.specs.laws.Passing.{Passing}
use Rattle.ff_net.specs.laws.Views.{View}
use Rattle.ff_net.proofs.Moments.{fault_then, stepped_self, then_moves, has_moved_then, course_self, course_trans}
use Rattle.ff_net.proofs.Changes.{true_not_false, same_stands}
use Rattle.ff_net.proofs.Rounds.{or_true, or_false}
use Rattle.ff_net.proofs.Readying.{rests_same}

module _ {M : Type 0} (view : M → View) where
  -- a node with a fault does nothing
  pub faulty_rests : (may_take : Bool) (node : Node M) (world : ℕ → Wire) (past : Past) → (IsSound view node → ⊥) → Rests view may_take node node world past
  faulty_rests may_take node world past faulty = record { none_due = λ ok. absurd (faulty ok); ungranted = λ _ ok. absurd (faulty ok) }

  pub unmoved : (may_take : Bool) (node : Node M) (wires : Wires) → (IsSound view node → ⊥) → Stepped view (Turns view may_take false node node) node wires node wires
  unmoved may_take node wires faulty = stepped_self view (Turns view may_take false node node) node wires (λ w p. record {
    moves = λ e. absurd (true_not_false (sym e));
    takes_nothing = λ d v. refl;
    allows_nothing = λ d. refl;
    grants_nothing = λ d. refl;
    rests = λ n. faulty_rests may_take node w p faulty;
  })

  -- what was made ready moved so far
  pub as_turn : (may_take granted held : Bool) (before node : Node M) (a : ℕ → Wire) (p : Past) (b : ℕ → Wire) (q : Past) → Prepares view may_take granted held before node a p b q → Turns view may_take granted before node a p b q
  as_turn may_take granted held before node a p b q x = record { moves = x.moves; takes_nothing = λ d w. x.taken w; allows_nothing = x.allows_nothing; grants_nothing = x.grants_nothing; rests = x.rests }

  module _ (how : (ℕ → Wire) → Past → (ℕ → Wire) → Past → Type 0) (may_take acted : Bool) (K : Type 0) (before after last : Node M) (wires wires' wires'' : Wires)
      (ready : Stepped view how before wires after wires')
      (turned : (a : ℕ → Wire) (p : Past) (b : ℕ → Wire) (q : Past) → how a p b q → Turns view may_take acted before after a p b q)
      (quiet : (a : ℕ → Wire) (p : Past) (b : ℕ → Wire) (q : Past) → how a p b q → IsHeldBack view may_take before a p → K)
      (pass : last.pass ≡ after.pass) where
    log_same : tickets_in last.pass.log ≡ tickets_in after.pass.log
    log_same = ap (λ (p : Passing). tickets_in p.log) pass

    log_front : IsPrefix before.pass.log last.pass.log
    log_front = subst (λ (p : Passing). IsPrefix before.pass.log p.log) (sym pass) ready.passes.log

    passes : PassStep before.pass last.pass
    passes = subst (λ (p : Passing). PassStep before.pass p) (sym pass) ready.passes

    moved_on : (world : ℕ → Wire) (past : Past) → Stepped view (Acts (true ≡ true) K) after wires' last wires'' → Stand wires world → NodeStands view before world past
        → Later view (Turns view may_take (acted || true) before last) (in_wires_of before) (out_wires_of before) last wires'' world past
    moved_on world past act stand was =
        let x = ready.goes world past stand was in
        let z = turned world past x.now x.since x.so in
        let y = act.goes x.now x.since x.stand x.fits in
        let f : Course (in_wires_of before) (out_wires_of before) x.now y.now x.since y.since = subst (λ (os : List ℕ). Course (in_wires_of before) os x.now y.now x.since y.since) ready.outs_same (subst (λ (is : List ℕ). Course is (out_wires_of after) x.now y.now x.since y.since) ready.ins_same y.course) in record {
          now = y.now;
          since = y.since;
          stand = y.stand;
          fits = y.fits;
          course = course_trans (in_wires_of before) (out_wires_of before) world x.now y.now past x.since y.since x.course f;
          so = record {
            moves = λ e. inl (then_moves (in_wires_of before) (out_wires_of before) world x.now y.now past x.since y.since x.course f (y.so.moves refl));
            takes_nothing = λ d w. y.so.takes_nothing (quiet world past x.now x.since x.so d) w ∙ z.takes_nothing d w;
            allows_nothing = λ d. y.so.allows_nothing ∙ z.allows_nothing d;
            grants_nothing = λ d. log_same ∙ z.grants_nothing d;
            rests = λ n. absurd (true_not_false ((or_false acted true n).1));
          };
        }

    rested : (world : ℕ → Wire) (past : Past) → IsSame after last → wires'' ≡ wires' → Stand wires world → NodeStands view before world past
        → Later view (Turns view may_take (acted || false) before last) (in_wires_of before) (out_wires_of before) last wires'' world past
    rested world past same same_wires stand was =
        let x = ready.goes world past stand was in
        let z = turned world past x.now x.since x.so in record {
          now = x.now;
          since = x.since;
          stand = subst (λ (w : Wires). Stand w x.now) (sym same_wires) x.stand;
          fits = same_stands view after last x.now x.since same x.fits;
          course = x.course;
          so = record {
            moves = λ e. elim (or_true acted false e) [ inl g ↦ has_moved_then (in_wires_of before) (out_wires_of before) before after last world x.now x.now past x.since x.since x.course (course_self (in_wires_of before) (out_wires_of before) x.now x.since) (subst (λ (p : Passing). IsPrefix after.pass.log p.log) (sym pass) (prefix_self after.pass.log)) (z.moves g) | inr n ↦ absurd (true_not_false (sym n)) ];
            takes_nothing = z.takes_nothing;
            allows_nothing = z.allows_nothing;
            grants_nothing = λ d. log_same ∙ z.grants_nothing d;
            rests = λ n. rests_same view may_take before after last x.now x.since same (z.rests ((or_false acted false n).0));
          };
        }

    pub turn_after : (moved : Bool) → Stepped view (Acts (moved ≡ true) K) after wires' last wires'' → (moved ≡ false → IsSame after last × (wires'' ≡ wires')) → Stepped view (Turns view may_take (acted || moved) before last) before wires last wires''
    turn_after true act same = record {
      ins_same = act.ins_same ∙ ready.ins_same;
      outs_same = act.outs_same ∙ ready.outs_same;
      in_lanes_same = act.in_lanes_same ∙ ready.in_lanes_same;
      out_lanes_same = act.out_lanes_same ∙ ready.out_lanes_same;
      source_same = act.source_same ∙ ready.source_same;
      fares = fault_then _ _ _ ready.fares act.fares;
      passes = passes;
      lanes_same = act.lanes_same ∙ ready.lanes_same;
      goes = λ world past stand was. moved_on world past act stand was;
    }
    turn_after false act same = record {
      ins_same = act.ins_same ∙ ready.ins_same;
      outs_same = act.outs_same ∙ ready.outs_same;
      in_lanes_same = act.in_lanes_same ∙ ready.in_lanes_same;
      out_lanes_same = act.out_lanes_same ∙ ready.out_lanes_same;
      source_same = act.source_same ∙ ready.source_same;
      fares = fault_then _ _ _ ready.fares act.fares;
      passes = passes;
      lanes_same = act.lanes_same ∙ ready.lanes_same;
      goes = λ world past stand was. let s = same refl in rested world past s.0 s.1 stand was;
    }

pub none_if_not_some : (f : Option Fault) → is_some f ≡ false → f ≡ None
none_if_not_some None e = refl
none_if_not_some (Some c) e = absurd (true_not_false e)

pub some_is_faulty : (f : Option Fault) → is_some f ≡ true → f ≡ None → ⊥
some_is_faulty f s n = true_not_false (sym s ∙ ap (λ (x : Option Fault). is_some x) n)
