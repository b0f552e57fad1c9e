use Rattle.std.proofs.Common.{◌≡◌, ℕ, ◌+◌, ◌-◌, ◌==◌, List, [], ◌∷◌, ◌++◌, map, length, sym, ap, ◌∙◌, append_assoc}
use Rattle.std.specs.List.{find, range_with_len}
use Rattle.ff_sched.specs.declared.routes.Way.{Way}
use Rattle.ff_plan_layout.specs.declared.layout.Laid.{Laid}
use Rattle.ff_plan.specs.Nodes.{ways_in}
use Rattle.ff_plan_layout.proofs.Filters.{range_next}
use Rattle.ff_plan.proofs.routes.graph_ways.Goals as goal

pub loop-number-preserved : goal.loop-number-preserved
loop-number-preserved c =
    let n = c.loop-number.number in
    let graphs = c.args.graphs.now in
    let front : List (List Way) = c.loop-number.ways.items in
    let f : ℕ → List Way = λ g. ways_in (find (λ (x : Laid). x.graph == g) graphs) in
    let rest = map f (range_with_len (n + 1) (length graphs - (n + 1))) in
    let made : c.push.new.self.items ≡ front ++ f n ∷ [] = c.in_ok-push.ensures.items ∙ ap (λ (ws : List Way). front ++ ws ∷ []) (c.new.ensures ∙ c.in_ok-ways_of.ensures) in
    ap (λ (l : List (List Way)). l ++ rest) made
    ∙ (append_assoc front (f n ∷ []) rest
    ∙ (ap (λ (r : List ℕ). front ++ map f r) (sym (range_next n (length graphs) c.loop-number-test.true)) ∙ c.loop-number.invariant))
