use Rattle.std.proofs.Common.{rules, ◌≡◌, ◌≢◌, ℕ, ◌<◌, length, inl, inr, true, None, refl, sym, ◌∙◌, ap, subst, arith}
use Rattle.std.proofs.lemmas.List.{length-set}
use Rattle.ff_net.proofs.Flows.{same_or_not}
use Rattle.ff_net.proofs.Rounds.{or_true, or_false}
use Rattle.ff_net.specs.declared.wires.Wires.{Wires}
use Rattle.ff_net.specs.laws.Worlds.{Stand}
use Rattle.ff_net_threads.specs.declared.links.ends.InEnd.{InEnd}
use Rattle.ff_net_threads.specs.declared.links.linked.Linked.{Linked}
use Rattle.ff_net_threads.specs.laws.links.Ends.{in_end_at}
use Rattle.ff_net_threads.specs.laws.links.Turns.{Shuts, InMoves}
use Rattle.ff_net_threads.proofs.LinksLemmas.Linking.{follows_self, follows_then, drawn, in_end_there, wired_after}
use Rattle.ff_net_threads.proofs.LinksLemmas.Turns.{in_other, in_each, shuts_self}
use Rattle.ff_net_threads.proofs.links.linked.Linked.shut_ends.Goals as goal

pub shut_at-shut-requires-clause-wire : goal.shut_at-shut-requires-clause-wire
shut_at-shut-requires-clause-wire g c =
    let view = g.M.Machine.view in
    let i = c.loop-p.invariant in
    let w = wired_after view c.args.self.now c.loop-p.self i.follows c.requires.wired in
    in_end_there view c.loop-p.self w c.loop-p.p (subst (λ (n : ℕ). c.loop-p.p < n) i.count c.loop-p-test.true)

pub loop-p-init : goal.loop-p-init
loop-p-init g c =
    let view = g.M.Machine.view in
    let ends = c.args.self.now.ins.items in record {
      follows = follows_self view c.args.self.now;
      count = search rules;
      counts = search rules;
      node = refl;
      outs = refl;
      wires = refl;
      shuts = λ k. shuts_self (in_end_at ends k);
      later = λ k le. refl;
      moved = λ t. cc (t);
      still = λ n k. refl;
      shut = λ world stand k lt. absurd (omega (arith, lt));
    }

pub loop-p-preserved : goal.loop-p-preserved
loop-p-preserved g c =
    let view = g.M.Machine.view in
    let i = c.loop-p.invariant in
    let before = c.loop-p.self in
    let p = c.loop-p.p in
    let after : Linked g.row.M.Denot = record { node = before.node; wires = before.wires; ins = c.shut_at-shut.new.ins; outs = before.outs } in
    let there = subst (λ (n : ℕ). p < n) i.count c.loop-p-test.true in
    let e = c.shut_at-shut.ensures in
    let draws = e.draws in
    let olds = c.args.self.now.ins.items in
    let same : in_end_at before.ins.items p ≡ in_end_at olds p = i.later p (omega arith) in record {
      follows = follows_then view c.args.self.now before after i.follows (drawn view before after p there refl refl refl draws);
      count = i.count ∙ sym (ap length draws.set ∙ simp length-set);
      counts = i.counts;
      node = i.node;
      outs = i.outs;
      wires = i.wires;
      shuts = in_each Shuts olds before.ins.items after.ins.items p draws.end draws.set same e.shuts i.shuts;
      later = λ k le. in_other before.ins.items after.ins.items p k draws.end draws.set (let n : k ≢ p = omega (arith, le) in n) ∙ i.later k (omega (arith, le));
      moved = λ t. elim (or_true c.loop-p.moved c.shut_at-shut.result t) [
        | inl was ↦
            let h = i.moved was in
            let less : h.0 < p = h.1 in
            let other : h.0 ≢ p = omega (arith, less) in
            (h.0, omega (arith, less), subst (λ (x : InEnd). InMoves (in_end_at olds h.0) x) (sym (in_other before.ins.items after.ins.items p h.0 draws.end draws.set other)) h.2)
        | inr now ↦ (p, omega arith, subst (λ (o : InEnd). InMoves o (in_end_at after.ins.items p)) same (e.moved now))
      ];
      still = λ n.
          let nothing = or_false c.loop-p.moved c.shut_at-shut.result n in
          in_each (λ a b. b ≡ a) olds before.ins.items after.ins.items p draws.end draws.set same (e.still nothing.1) (i.still nothing.0);
      shut = λ world stand k lt finished. elim (same_or_not k p) [
        | inl is ↦ subst (λ (n : ℕ). (in_end_at after.ins.items n).taking ≡ None) (sym is)
            (e.shut world (subst (λ (w : Wires). Stand w world) (sym i.wires) stand) (subst (λ (x : InEnd). (world x.wire).finished ≡ true) (sym same) (subst (λ (n : ℕ). (world (in_end_at olds n).wire).finished ≡ true) is finished)))
        | inr other ↦ subst (λ (x : InEnd). x.taking ≡ None) (sym (in_other before.ins.items after.ins.items p k draws.end draws.set other)) (i.shut world stand k (omega (arith, lt, other)) finished)
      ];
    }

pub returns-clause-moved : goal.returns-clause-moved
returns-clause-moved g c t = let h = c.loop-p.invariant.moved t in (h.0, h.2)

pub returns-clause-shut : goal.returns-clause-shut
returns-clause-shut g c world stand p lt finished =
    let i = c.loop-p.invariant in
    i.shut world stand p (let counts = i.counts in omega (arith, lt, counts)) finished
