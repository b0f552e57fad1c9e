-- A turn from its parts.
use Rattle.std.proofs.Common.{◌≡◌, ℕ, ◌<◌, inl, inr, Bool, true, false, ◌||◌, length, ◌∙◌}
use Rattle.ff_net.specs.declared.node.Node.{Node}
use Rattle.ff_net.specs.declared.node.Turn.{Turn}
use Rattle.ff_net.specs.declared.node.Turn.TheVariants.{Moved, NotYet}
use Rattle.ff_net.specs.declared.wires.Wires.{Wires}
use Rattle.ff_net.specs.Pasts.{Past}
use Rattle.ff_net.specs.laws.Worlds.{Wire}
use Rattle.ff_net.specs.laws.Logs.{tickets_in}
use Rattle.ff_net.specs.laws.Nodes.{IsSound, NodeStands}
use Rattle.ff_net.specs.laws.Steps.{Rests, Tells, Turns, Stepped}
use Rattle.ff_net.specs.laws.Turns.{IsIdle, Answers}
use Rattle.ff_net.specs.laws.Views.{View}
use Rattle.ff_net.proofs.Moments.{has_moved_then, then_has_moved, stepped_then, stepped_with}
use Rattle.ff_net.proofs.Rounds.{or_true, or_false}
use Rattle.ff_net.proofs.Readying.{rests_told}

module _ {M : Type 0} (view : M → View) where
  -- events were told after what was done before
  pub turn_told : (may_take acted told : Bool) (before mid last : Node M) (wires wires' : Wires) → Stepped view (Turns view may_take acted before mid) before wires mid wires' → Stepped view Tells mid wires' last wires' → last.outs.items ≡ mid.outs.items → (IsSound view last → IsSound view mid)
      → tickets_in last.pass.log ≡ tickets_in mid.pass.log → (told ≡ true → length mid.pass.log < length last.pass.log) → (told ≡ false → last.pass ≡ record mid.pass { spare = last.pass.spare }) → Stepped view (Turns view may_take (acted || told) before last) before wires last wires'
  turn_told may_take acted told before mid last wires wires' a b outs back tickets longer still =
      stepped_then view (Turns view may_take acted before mid) Tells (Turns view may_take (acted || told) before last) before wires mid wires' last wires'
      (λ w p v q u r x y f t. record {
        moves = λ e. elim (or_true acted told e) [
          | inl m ↦ has_moved_then _ _ before mid last w v u p q r x y b.passes.log (f.moves m)
          | inr m ↦ then_has_moved _ _ before mid last w v u p q r x y a.passes.log (inr (longer m))
        ];
        takes_nothing = λ d wire. t.taken wire ∙ f.takes_nothing d wire;
        allows_nothing = λ d. t.allowed ∙ f.allows_nothing d;
        grants_nothing = λ d. tickets ∙ f.grants_nothing d;
        rests = λ n. let no = or_false acted told n in rests_told view may_take before mid last v u q r outs b.source_same back (still no.1) y.task t (f.rests no.0);
      }) a b

  -- what a turn answers
  pub turn_answers : (may_take moved : Bool) (turn : Turn) (before last : Node M) (wires wires' : Wires) → (turn ≡ Moved → moved ≡ true) → (turn ≡ NotYet → moved ≡ false)
      → (turn ≡ NotYet → (world : ℕ → Wire) (past : Past) → NodeStands view last world past → Rests view may_take before last world past → IsIdle view may_take before last wires' world past)
      → Stepped view (Turns view may_take moved before last) before wires last wires' → Stepped view (Answers view may_take turn before last wires') before wires last wires'
  turn_answers may_take moved turn before last wires wires' is_moved is_still idle s =
      stepped_with view (Turns view may_take moved before last) (Answers view may_take turn before last wires') before wires last wires'
      (λ a p b q fits x. record {
        moved = λ e. x.moves (is_moved e);
        not_yet = λ e. idle e b q fits (x.rests (is_still e));
        takes_nothing = x.takes_nothing;
        allows_nothing = x.allows_nothing;
        grants_nothing = x.grants_nothing;
      }) s
