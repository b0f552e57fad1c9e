use Rattle.std.proofs.Common.{◌∙◌, ℤ, Bool, Option, ap, sym}
use Rattle.std.specs.Prelude.{slice_set}
use Rattle.ff_node_filter.specs.laws.best.Ends.{ends_at, end_behind, closed_behind}
use Rattle.ff_node_filter.proofs.BestLemmas.Noting.{keeps_on}
use Rattle.ff_node_filter.proofs.BestLemmas.Placing.{end_there, closed_there, set_end_here, set_end_others, set_closed_here, set_closed_others, set_bases}
use Rattle.ff_node_filter.proofs.best.lead.Lead.keep.Goals as goal

pub returns-clause-keeps : goal.returns-clause-keeps
returns-clause-keeps c = λ ss x e k.
    let is = c.args.self.now.inputs.items in
    let p = c.args.port in
    let i = c.note.new.self in
    let j = c.index_mut.result.now in
    let there = c.requires.there in
    keeps_on is (slice_set is p i) ss p x
    (set_end_here is p i there ∙ (c.note.ensures.end ∙ (ap (λ (o : Option ℤ). end_behind o j.end) e
    ∙ ap (λ (o : Option ℤ). end_behind (ends_at x) o) (sym (end_there is p j there c.index_mut.ensures.value)))))
    (set_closed_here is p i there ∙ (c.note.ensures.closed ∙ (ap (λ (o : Option ℤ). closed_behind o j.closed) e
    ∙ ap (λ (b : Bool). closed_behind (ends_at x) b) (sym (closed_there is p j there c.index_mut.ensures.value)))))
    (λ q n. set_end_others is p q i n) (λ q n. set_closed_others is p q i n) k

pub returns-clause-bases : goal.returns-clause-bases
returns-clause-bases c = set_bases c.args.self.now.inputs.items c.args.port c.note.new.self c.index_mut.result.now c.index_mut.ensures.value c.note.ensures.tb
