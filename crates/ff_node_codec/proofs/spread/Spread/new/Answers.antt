use Rattle.std.proofs.Common.{◌≡◌, [], ◌∷◌, ◌++◌, List, false, length, length-append, arith, ap, sym, ◌∙◌, subst, inl, inr}
use Rattle.ff_node_codec.specs.declared.ready.Ready.{Ready}
use Rattle.ff_node_codec.specs.laws.Lines.{line_at, first_items}
use Rattle.ff_node_codec.specs.Spreads.{Line}
use Rattle.ff_node_codec.proofs.LineSteps.{line_front, line_last, lower_or_same}
use Rattle.ff_node_codec.proofs.SpreadSteps.{new_at}
use Rattle.ff_node_codec.proofs.spread.Spread.new.Goals as goal

pub loop-q-preserved : goal.loop-q-preserved
loop-q-preserved c =
    let rs = c.loop-q.outs.items in
    let r = c.in_ok-ready.ready in
    let fresh : Line = record { queue = first_items c.args.over; stopped = false } in
    let is : c.push.new.self.items ≡ rs ++ r ∷ [] = c.in_ok-push.ensures.items in
    let count : length rs ≡ c.loop-q._q = c.loop-q.invariant.count in
    record {
      count = ap (λ (xs : List Ready). length xs) is ∙ (length-append rs (r ∷ []) ∙ omega (arith, count));
      lines =
          λ k lt. subst (λ (xs : List Ready). line_at xs k ≡ fresh) (sym is) (elim (lower_or_same k c.loop-q._q lt) as (λ _. line_at (rs ++ r ∷ []) k ≡ fresh) [
            | inl l ↦ line_front rs r k (omega (arith, l, count)) ∙ c.loop-q.invariant.lines k l
            | inr e ↦ line_last rs r k (e ∙ sym count) ∙ c.in_ok-ready.ensures
          ]);
    }

pub returns-clause-stands : goal.returns-clause-stands
returns-clause-stands c lane_in lane_out f task makes t first =
    let same : c.args.outputs ≡ c.loop-q._q = omega arith in
    new_at lane_in lane_out f c.args.over c.args.outputs _ _ task c.requires makes t first (c.loop-q.invariant.count ∙ sym same)
    (λ q lt. c.loop-q.invariant.lines q (omega (arith, lt, same)))
