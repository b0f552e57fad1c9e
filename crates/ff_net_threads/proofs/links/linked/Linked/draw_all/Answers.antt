use Rattle.std.proofs.Common.{rules, ◌≡◌, ◌≢◌, ℕ, ◌<◌, length, inl, inr, refl, sym, ◌∙◌, ap, subst, arith}
use Rattle.std.proofs.lemmas.List.{length-set}
use Rattle.ff_net.proofs.Flows.{same_or_not}
use Rattle.ff_net.specs.declared.wires.Wires.{Wires}
use Rattle.ff_net.proofs.Rounds.{or_true, or_false}
use Rattle.ff_net_threads.specs.declared.links.ends.InEnd.{InEnd}
use Rattle.ff_net_threads.specs.declared.links.linked.Linked.{Linked}
use Rattle.ff_net_threads.specs.laws.links.Ends.{in_end_at}
use Rattle.ff_net_threads.specs.laws.links.Turns.{TakesOneAtMost, InMoves, InRests, CannotTake}
use Rattle.ff_net_threads.proofs.LinksLemmas.Linking.{follows_self, follows_then, drawn, in_end_there, wired_after}
use Rattle.ff_net_threads.proofs.LinksLemmas.Turns.{in_other, in_each, takes_self, in_rests_self}
use Rattle.ff_net_threads.proofs.links.linked.Linked.draw_all.Goals as goal

pub draw_at-drew-requires-clause-wire : goal.draw_at-drew-requires-clause-wire
draw_at-drew-requires-clause-wire g c =
    let view = g.M.Machine.view in
    let i = c.loop-p.invariant in
    let w = wired_after view c.args.self.now c.loop-p.self i.follows c.requires.wired in
    in_end_there view c.loop-p.self w c.loop-p.p (subst (λ (n : ℕ). c.loop-p.p < n) i.count c.loop-p-test.true)

pub loop-p-init : goal.loop-p-init
loop-p-init g c =
    let view = g.M.Machine.view in
    let ends = c.args.self.now.ins.items in record {
      follows = follows_self view c.args.self.now;
      count = search rules;
      node = refl;
      outs = refl;
      takes = λ k. takes_self (in_end_at ends k);
      later = λ k le. refl;
      moved = λ t. cc (t);
      why = λ n k lt. absurd (omega (arith, lt));
      counts = search rules;
      still = λ n. (λ k. in_rests_self (in_end_at ends k), refl);
    }

pub loop-p-preserved : goal.loop-p-preserved
loop-p-preserved g c =
    let view = g.M.Machine.view in
    let i = c.loop-p.invariant in
    let before = c.loop-p.self in
    let p = c.loop-p.p in
    let after : Linked g.row.M.Denot = record { node = before.node; wires = c.draw_at-drew.new.wires; ins = c.draw_at-drew.new.ins; outs = before.outs } in
    let there = subst (λ (n : ℕ). p < n) i.count c.loop-p-test.true in
    let e = c.draw_at-drew.ensures in
    let draws = e.draws in
    let olds = c.args.self.now.ins.items in
    let same : in_end_at before.ins.items p ≡ in_end_at olds p = i.later p (omega arith) in record {
      follows = follows_then view c.args.self.now before after i.follows (drawn view before after p there refl refl e.lanes draws);
      count = i.count ∙ sym (ap length draws.set ∙ simp length-set);
      node = i.node;
      outs = i.outs;
      takes = in_each TakesOneAtMost olds before.ins.items after.ins.items p draws.end draws.set same e.takes i.takes;
      later = λ k le. in_other before.ins.items after.ins.items p k draws.end draws.set (let n : k ≢ p = omega (arith, le) in n) ∙ i.later k (omega (arith, le));
      moved = λ t. elim (or_true c.loop-p.moved c.draw_at-drew.result t) [
        | inl was ↦
            let h = i.moved was in
            let less : h.0 < p = h.1 in
            let other : h.0 ≢ p = omega (arith, less) in
            (h.0, omega (arith, less), subst (λ (x : InEnd). InMoves (in_end_at olds h.0) x) (sym (in_other before.ins.items after.ins.items p h.0 draws.end draws.set other)) h.2)
        | inr now ↦ (p, omega arith, subst (λ (o : InEnd). InMoves o (in_end_at after.ins.items p)) same (e.moved now))
      ];
      counts = i.counts;
      why = λ n k lt.
          let nothing = or_false c.loop-p.moved c.draw_at-drew.result n in
          let wires = (i.still nothing.0).1 in
          elim (same_or_not k p) [
            | inl is ↦ subst (λ (j : ℕ). CannotTake c.args.self.now.wires (in_end_at olds j) (in_end_at after.ins.items j)) (sym is)
                (subst (λ (o : InEnd). CannotTake c.args.self.now.wires o (in_end_at after.ins.items p)) same (subst (λ (w : Wires). CannotTake w (in_end_at before.ins.items p) (in_end_at after.ins.items p)) wires (e.why nothing.1)))
            | inr other ↦ subst (λ (x : InEnd). CannotTake c.args.self.now.wires (in_end_at olds k) x) (sym (in_other before.ins.items after.ins.items p k draws.end draws.set other)) (i.why nothing.0 k (omega (arith, lt, other)))
          ];
      still = λ n.
          let nothing = or_false c.loop-p.moved c.draw_at-drew.result n in
          (in_each InRests olds before.ins.items after.ins.items p draws.end draws.set same (e.still nothing.1).0 (i.still nothing.0).0, (e.still nothing.1).1 ∙ (i.still nothing.0).1);
    }

pub returns-clause-moved : goal.returns-clause-moved
returns-clause-moved g c t = let h = c.loop-p.invariant.moved t in (h.0, h.2)

pub returns-clause-why : goal.returns-clause-why
returns-clause-why g c n p lt =
    let i = c.loop-p.invariant in
    i.why n p (let counts = i.counts in omega (arith, lt, counts))
