use Rattle.std.proofs.Common.{ℕ, ◌+◌, ◌-◌, List, [], ◌∷◌, ◌++◌, map, sym, ap, ◌∙◌, append_assoc}
use Rattle.std.specs.List.{range_with_len}
use Rattle.ff_plan_layout.specs.Texts.{GraphText, Complex}
use Rattle.ff_plan_layout.proofs.Filters.{range_next}
use Rattle.ff_plan_layout.proofs.laying.complex_texts.Goals as goal

pub loop-graph-preserved : goal.loop-graph-preserved
loop-graph-preserved c =
    let g = c.loop-graph.graph in
    let front = c.loop-graph.texts.items in
    let rest = map Complex (range_with_len (g + 1) (c.args.graphs - (g + 1))) in
    ap (λ (l : List GraphText). l ++ rest) c.in_ok-add_text.ensures
    ∙ (append_assoc front (Complex g ∷ []) rest ∙ (ap (λ (r : List ℕ). front ++ map Complex r) (sym (range_next g c.args.graphs c.loop-graph-test.true)) ∙ c.loop-graph.invariant))
