use Rattle.std.proofs.Common.{◌≡◌, ◌+◌, ◌<◌, ℕ, length, None, Some, arith, ap, sym, ◌∙◌, subst}
use Rattle.ff_node_codec.specs.laws.Lines.{line_at}
use Rattle.ff_node_codec.specs.Spreads.{Line}
use Rattle.ff_node_codec.proofs.LineSteps.{LastBelow, line_is, none_more, last_more, last_here}
use Rattle.ff_node_codec.proofs.outs.last_wanted.Goals as goal
use Rattle.ff_node_codec.proofs.outs.last_wanted.Goals.{then-not-out, else-not-out}

pub loop-q-preserved : goal.loop-q-preserved
loop-q-preserved c =
    let rs = c.args.outs.now.items in
    let q = c.loop-q.q in
    let lt : q < length rs = omega arith in
    let here : (line_at rs q).stopped ≡ c.index-out.result.now.stopped =
    ap (λ (x : Line). x.stopped) (line_is rs q c.index-out.result.now lt c.index-out.ensures) in
    elim c.if-not-out.branch [
      | then-not-out w ↦ record {
        none = λ e. let clash : Some q ≡ None = sym w.last-is ∙ e in cc;
        some =
            λ k e. let same : Some q ≡ Some k = sym w.last-is
            ∙ e in let at : q ≡ k = cc in subst (λ (j : ℕ). LastBelow rs (q + 1) j) at (last_here rs q (here ∙ w.if-not-out.true));
      }
      | else-not-out w ↦ record {
        none = λ e. none_more rs q (here ∙ w.if-not-out.false) (c.loop-q.invariant.none (sym w.last-is ∙ e));
        some = λ k e. last_more rs q k (here ∙ w.if-not-out.false) (c.loop-q.invariant.some k (sym w.last-is ∙ e));
      }
    ]

pub returns-clause-last : goal.returns-clause-last
returns-clause-last c =
    λ k e.
    let rs = c.args.outs.now.items in
    let h = c.loop-q.invariant.some k e in
    let low : k < c.loop-q.q = h.0 in
    record { there = omega (arith, low); wanted = h.1; no_later = λ j g lt. h.2 j g (omega (arith, lt)) }
