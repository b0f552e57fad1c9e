use Rattle.std.proofs.Common.{◌≡◌, ◌∙◌, ◌++◌, List, ℕ, length, ap, sym, subst}
use Rattle.std.specs.Prelude.{unwrap_or}
use Rattle.ff_net.specs.Ways.{with_item_at}
use Rattle.ff_node_filter.specs.declared.best.input.Input.{Input}
use Rattle.ff_node_filter.specs.best.Bests.{turned}
use Rattle.ff_node_filter.specs.best.Inputs.{bases_of, kept_to, Keeps}
use Rattle.ff_node_filter.proofs.BestLemmas.Noting.{tells_on}
use Rattle.ff_node_filter.proofs.best.lead.Lead.note.Goals as goal

pub returns-clause-tells : goal.returns-clause-tells
returns-clause-tells c = λ graph bases told feeds x e t.
    let old = c.args.self.now in
    let mid = c.keep.new.self in
    let new = c.turn.new.self in
    let same = c.turn.ensures.inputs in
    let best : new.best ≡ unwrap_or (kept_to new.inputs.items (length new.inputs.items)) old.best =
    c.turn.ensures.best ∙ (ap (λ (is : List Input). unwrap_or (kept_to is (length is)) mid.best) (sym same)
    ∙ ap (λ (b : ℕ). unwrap_or (kept_to new.inputs.items (length new.inputs.items)) b) c.keep.ensures.best) in
    let waiting : new.waiting.items ≡ old.waiting.items ++ turned old.graph old.best new.best =
    c.turn.ensures.waiting ∙ (ap (λ q. q.items ++ turned mid.graph mid.best new.best) c.keep.ensures.waiting
    ∙ (ap (λ (g : ℕ). old.waiting.items ++ turned g mid.best new.best) c.keep.ensures.graph
    ∙ ap (λ (b : ℕ). old.waiting.items ++ turned old.graph b new.best) c.keep.ensures.best)) in
    tells_on old new c.args.port x
    (λ ss k. subst (λ (is : List Input). Keeps is (with_item_at ss c.args.port x)) (sym same) (c.keep.ensures.keeps ss x e k))
    (ap (λ (is : List Input). bases_of is) same ∙ c.keep.ensures.bases) (c.turn.ensures.graph ∙ c.keep.ensures.graph) best waiting graph bases told feeds t
