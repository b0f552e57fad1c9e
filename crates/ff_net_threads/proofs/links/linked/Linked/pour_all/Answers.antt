use Rattle.std.proofs.Common.{rules, ◌≡◌, ◌≢◌, ℕ, ◌<◌, length, slice_index_or, inl, inr, refl, sym, ◌∙◌, ap, subst, arith}
use Rattle.std.proofs.lemmas.List.{length-set}
use Rattle.ff_net.proofs.Flows.{same_or_not}
use Rattle.ff_net.specs.declared.wires.Wires.{Wires}
use Rattle.ff_net.proofs.Rounds.{or_true, or_false}
use Rattle.ff_net_threads.specs.declared.links.ends.OutEnd.{OutEnd}
use Rattle.ff_net_threads.specs.declared.links.linked.Linked.{Linked}
use Rattle.ff_net_threads.specs.laws.links.Turns.{SendsOneAtMost, OutMoves, OutRests, CannotSend}
use Rattle.ff_net_threads.proofs.LinksLemmas.Linking.{follows_self, follows_then, poured, out_end_there, can_pour, wired_after, lawful_after}
use Rattle.ff_net_threads.proofs.LinksLemmas.Turns.{out_other, out_each, sends_self, out_rests_self}
use Rattle.ff_net_threads.proofs.links.linked.Linked.pour_all.Goals as goal

pub pour_at-poured-requires-clause-wire : goal.pour_at-poured-requires-clause-wire
pour_at-poured-requires-clause-wire g c d =
    let view = g.M.Machine.view in
    let i = c.loop-q.invariant in
    let w = wired_after view c.args.self.now c.loop-q.self i.follows c.requires.wired in
    out_end_there view c.loop-q.self w c.loop-q.q d (subst (λ (n : ℕ). c.loop-q.q < n) i.count c.loop-q-test.true)

pub pour_at-poured-requires-clause-stands : goal.pour_at-poured-requires-clause-stands
pour_at-poured-requires-clause-stands g c d =
    let view = g.M.Machine.view in
    let i = c.loop-q.invariant in
    let h = lawful_after view c.args.self.now c.loop-q.self i.follows c.requires in
    can_pour view c.loop-q.self h c.loop-q.q d (subst (λ (n : ℕ). c.loop-q.q < n) i.count c.loop-q-test.true)

pub loop-q-init : goal.loop-q-init
loop-q-init g c =
    let view = g.M.Machine.view in
    let ends = c.args.self.now.outs.items in record {
      follows = follows_self view c.args.self.now;
      count = search rules;
      node = refl;
      ins = refl;
      sends = λ k d. sends_self (slice_index_or ends k d);
      later = λ k d le. refl;
      moved = λ t. cc (t);
      why = λ n k d lt. absurd (omega (arith, lt));
      counts = search rules;
      still = λ n. (λ k d. out_rests_self (slice_index_or ends k d), refl);
    }

pub loop-q-preserved : goal.loop-q-preserved
loop-q-preserved g c =
    let view = g.M.Machine.view in
    let i = c.loop-q.invariant in
    let before = c.loop-q.self in
    let q = c.loop-q.q in
    let after : Linked g.row.M.Denot = record { node = before.node; wires = c.pour_at-poured.new.wires; ins = before.ins; outs = c.pour_at-poured.new.outs } in
    let there = subst (λ (n : ℕ). q < n) i.count c.loop-q-test.true in
    let e = c.pour_at-poured.ensures in
    let pours = e.pours in
    let olds = c.args.self.now.outs.items in
    let same : (d : OutEnd) → slice_index_or before.outs.items q d ≡ slice_index_or olds q d = λ d. i.later q d (omega arith) in record {
      follows = follows_then view c.args.self.now before after i.follows (poured view before after q there refl refl e.lanes pours);
      count = i.count ∙ sym (ap length pours.set ∙ simp length-set);
      node = i.node;
      ins = i.ins;
      sends = out_each SendsOneAtMost olds before.outs.items after.outs.items q pours.end pours.set same e.sends i.sends;
      later = λ k d le. out_other before.outs.items after.outs.items q k pours.end d pours.set (let n : k ≢ q = omega (arith, le) in n) ∙ i.later k d (omega (arith, le));
      moved = λ t. elim (or_true c.loop-q.moved c.pour_at-poured.result t) [
        | inl was ↦
            let h = i.moved was in
            let less : h.0 < q = h.1 in
            let other : h.0 ≢ q = omega (arith, less) in
            (h.0, omega (arith, less), λ d. subst (λ (x : OutEnd). OutMoves (slice_index_or olds h.0 d) x) (sym (out_other before.outs.items after.outs.items q h.0 pours.end d pours.set other)) (h.2 d))
        | inr now ↦ (q, omega arith, λ d. subst (λ (o : OutEnd). OutMoves o (slice_index_or after.outs.items q d)) (same d) (e.moved now d))
      ];
      counts = i.counts;
      why = λ n k d lt.
          let nothing = or_false c.loop-q.moved c.pour_at-poured.result n in
          let wires = (i.still nothing.0).1 in
          elim (same_or_not k q) [
            | inl is ↦ subst (λ (j : ℕ). CannotSend c.args.self.now.wires (slice_index_or olds j d) (slice_index_or after.outs.items j d)) (sym is)
                (subst (λ (o : OutEnd). CannotSend c.args.self.now.wires o (slice_index_or after.outs.items q d)) (same d) (subst (λ (w : Wires). CannotSend w (slice_index_or before.outs.items q d) (slice_index_or after.outs.items q d)) wires (e.why nothing.1 d)))
            | inr other ↦ subst (λ (x : OutEnd). CannotSend c.args.self.now.wires (slice_index_or olds k d) x) (sym (out_other before.outs.items after.outs.items q k pours.end d pours.set other)) (i.why nothing.0 k d (omega (arith, lt, other)))
          ];
      still = λ n.
          let nothing = or_false c.loop-q.moved c.pour_at-poured.result n in
          (out_each OutRests olds before.outs.items after.outs.items q pours.end pours.set same (e.still nothing.1).0 (i.still nothing.0).0, (e.still nothing.1).1 ∙ (i.still nothing.0).1);
    }

pub returns-clause-moved : goal.returns-clause-moved
returns-clause-moved g c t = let h = c.loop-q.invariant.moved t in (h.0, h.2)

pub returns-clause-why : goal.returns-clause-why
returns-clause-why g c n q d lt =
    let i = c.loop-q.invariant in
    i.why n q d (let counts = i.counts in omega (arith, lt, counts))
