use Rattle.std.proofs.Common.{◌≡◌, ◌≢◌, ◌<◌, ◌≤◌, ◌+◌, ◌++◌, ◌∷◌, ℕ, false, slice_set, length, arith, ap, sym, ◌∙◌, subst, inl, inr}
use Rattle.ff_node_codec.specs.laws.Lines.{line_at, closing_items}
use Rattle.ff_node_codec.specs.Spreads.{Line}
use Rattle.ff_node_codec.proofs.LineSteps.{set_count, room_rest, line_set_other, next_set_other, lower_or_same, put_queue, put_stopped}
use Rattle.ff_node_codec.proofs.outs.put_all.Goals as goal

pub loop-q-preserved : goal.loop-q-preserved
loop-q-preserved c =
    let first = c.args.outs.now.items in
    let rs = c.loop-q.outs.items in
    let q = c.loop-q.q in
    let old = c.index_mut-out.result.now in
    let new = c.put_next.new.self in
    let inv = c.loop-q.invariant in
    let lt : q < length rs = omega (arith, inv.count) in
    let later : (k : ℕ) → q + 1 ≤ k → k ≢ q = λ k le. omega (arith, le) in
    record {
      count = set_count rs q new ∙ inv.count;
      room = room_rest rs q new inv.room;
      next = λ k le. next_set_other rs q k new (later k le) ∙ inv.next k (omega (arith, le));
      lines = λ k le. line_set_other rs q k new (later k le) ∙ inv.lines k (omega (arith, le));
      stopped = λ k. put_stopped first rs q k old new lt c.index_mut-out.ensures.value c.put_next.ensures.stopped (inv.stopped k);
      queues =
          λ made next k low on. elim (lower_or_same k q low) as (λ _. (line_at (slice_set rs q new) k).queue ≡ (line_at first k).queue ++ made ∷ closing_items c.args.after) [
            | inl l ↦ (let other : k ≢ q = omega (arith, l) in ap (λ (x : Line). x.queue) (line_set_other rs q k new other) ∙ inv.queues made next k l on)
            | inr s ↦ subst (λ (j : ℕ). (line_at (slice_set rs q new) j).queue ≡ (line_at first j).queue ++ made ∷ closing_items c.args.after) (sym s)
                (put_queue made c.args.after first rs q old new lt c.index_mut-out.ensures.value (inv.lines q (omega arith)) (inv.next q (omega arith)) (next q (omega (arith, inv.count)) (subst (λ (j : ℕ). (line_at first j).stopped ≡ false) s on)) (subst (λ (j : ℕ). (line_at first j).stopped ≡ false) s on) c.put_next.ensures.puts)
          ];
    }
