use Rattle.std.proofs.Common.{◌≡◌, ◌∙◌, ◌-◌, length, sym}
use Rattle.std.proofs.lemmas.List.Elements.{All-weaker}
use Rattle.ff_flac_subframe.specs.laws.rice.Columns.{items_of}
use Rattle.ff_flac_subframe.proofs.RiceLemmas.ColumnLemmas.{items_behind, least_put}
use Rattle.ff_flac_subframe.proofs.rice.level.put_least.Goals as goal

pub lower_by-requires : goal.lower_by-requires
lower_by-requires c =
    items_behind (λ costs. length costs ≡ length c.copy_from_slice.new.self) c.args.columns.now (length c.args.columns.now - 1)
    (All-weaker (λ costs. length costs ≡ length c.args.least.now) (λ costs. length costs ≡ length c.copy_from_slice.new.self)
    (λ costs e. e ∙ sym c.copy_from_slice.ensures.len) (items_of c.args.columns.now) c.requires.same)

pub returns-clause-least : goal.returns-clause-least
returns-clause-least c =
    least_put c.args.columns.now c.index-columns-0.result c.copy_from_slice.new.self _ c.requires.some c.index-columns-0.is
    (c.copy_from_slice.ensures.after ∙ c.deref.ensures.value) c.lower_by.ensures.least
