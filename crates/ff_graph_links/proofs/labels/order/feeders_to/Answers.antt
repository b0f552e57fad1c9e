use Rattle.std.proofs.Common.{ℕ, ap, sym, ◌∙◌}
use Rattle.std.specs.declared.alloc.Global.{Global}
use Rattle.std.specs.declared.vec.Vec.{Vec}
use Rattle.ff_graph_links.specs.labels.Order.{cell}
use Rattle.ff_graph_links.specs.laws.labels.Tables.{marks}
use Rattle.ff_graph_links.proofs.LabelsLemmas.Tabled.{kept, left_out}
use Rattle.ff_graph_links.proofs.labels.order.feeders_to.Goals as goal
use Rattle.ff_graph_links.proofs.labels.order.feeders_to.Goals.{then-has_mark+in_ok-push, else-has_mark}

pub loop-from-preserved : goal.loop-from-preserved
loop-from-preserved c =
    let p = λ (a : ℕ). cell (marks c.args.rows.now) a c.args.to in
    let was = c.loop-from.feeders.items in
    let from = c.loop-from.from in
    elim c.if-has_mark.branch [
      | then-has_mark+in_ok-push w ↦
          ap (λ (v : Vec ℕ Global). v.items) w.feeders-is
          ∙ kept p was w.push.new.self.items from (sym c.has_mark.ensures ∙ w.if-has_mark.true) c.loop-from.invariant w.in_ok-push.ensures.items
      | else-has_mark w ↦ ap (λ (v : Vec ℕ Global). v.items) w.feeders-is ∙ left_out p was from (sym c.has_mark.ensures ∙ w.if-has_mark.false) c.loop-from.invariant
    ]
