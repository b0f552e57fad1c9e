use Rattle.std.proofs.Common.{◌≡◌, ℕ, ◌++◌, Option, Some, sym, ap, ◌∙◌}
use Rattle.std.specs.Prelude.{slice_get}
use Rattle.ff_source.specs.declared.made.Made.{Made as SourceMade}
use Rattle.ff_stream.specs.edges.Ports.{tally}
use Rattle.ff_words.specs.declared.maps.streams.Stream.{Stream}
use Rattle.ff_words.specs.maps.Choice.{lists}
use Rattle.ff_plan_layout.specs.Pads.{is_source, known_or_nothing, want_by}
use Rattle.ff_plan_layout.specs.laws.Rows.{flat}
use Rattle.ff_plan_layout.specs.Sources.{made_at_pad}
use Rattle.ff_plan_layout.proofs.Bounds.{lists_length}
use Rattle.ff_plan_layout.proofs.wanting.want_at.Goals as goal

pub returns-in-Some : goal.returns-in-Some
returns-in-Some g c =
    let rules = g.F.Filtering.rules c.args.filtering.now in
    let sources = c.args.sources.now in
    let heads = c.args.heads.now in
    let before = flat c.args.rows.now ++ c.args.row.now in
    let made : made_at_pad c.args.pad.now ≡ Some c.in-Some.field-0 = sym c.made_at_pad.ensures ∙ c.in-Some.is in
    c.known_or_nothing.ensures
    ∙ (ap (λ (o : Option Stream). known_or_nothing o) c.next_source.ensures
    ∙ (ap (λ (n : ℕ). known_or_nothing (slice_get sources (tally (is_source n) before))) (sym (lists_length heads))
    ∙ ap (λ (o : Option SourceMade). want_by rules sources (lists heads) c.args.graphs.now before c.args.pad.now o) (sym made)))
