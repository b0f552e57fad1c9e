use Rattle.std.proofs.Common.{◌≡◌, ℕ, ◌+◌, ◌-◌, List, [], ◌∷◌, ◌++◌, sym, ap, ◌∙◌}
use Rattle.std.specs.List.{filter, range_with_len}
use Rattle.std.specs.declared.alloc.Global.{Global}
use Rattle.std.specs.declared.vec.Vec.{Vec}
use Rattle.ff_plan.specs.laws.Numbering.{has_stream}
use Rattle.ff_plan_layout.proofs.Filters.{filter_next, range_next, kept_one, dropped_one}
use Rattle.ff_plan.proofs.origins.used_inputs.Goals as goal
use Rattle.ff_plan.proofs.origins.used_inputs.Goals.{then-has_stream+in_ok-push, else-has_stream}

pub loop-input-preserved : goal.loop-input-preserved
loop-input-preserved c =
    let p = has_stream c.args.streams.now in
    let x = c.loop-input.input in
    let front = c.loop-input.used.items in
    let e : c.if-has_stream.used.items ≡ front ++ filter p (x ∷ []) = elim c.if-has_stream.branch [
      | then-has_stream+in_ok-push w ↦ ap (λ (v : Vec ℕ Global). v.items) w.used-is ∙ (w.in_ok-push.ensures.items ∙ kept_one p front x (sym c.has_stream.ensures ∙ w.if-has_stream.true))
      | else-has_stream w ↦ ap (λ (v : Vec ℕ Global). v.items) w.used-is ∙ dropped_one p front x (sym c.has_stream.ensures ∙ w.if-has_stream.false)
    ] in
    filter_next p front c.if-has_stream.used.items x (range_with_len (x + 1) (c.args.inputs - (x + 1))) (filter p (range_with_len 0 c.args.inputs)) e
    (ap (λ (r : List ℕ). front ++ filter p r) (sym (range_next x c.args.inputs c.loop-input-test.true)) ∙ c.loop-input.invariant)
