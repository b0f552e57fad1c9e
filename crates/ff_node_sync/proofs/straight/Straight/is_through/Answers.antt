use Rattle.std.proofs.Common.{◌∙◌, sym, ap}
use Rattle.std.specs.Prelude.{◌||◌}
use Rattle.ff_filter.specs.Made.{is_over}
use Rattle.ff_node_sync.specs.Lines.{Line}
use Rattle.ff_node_sync.proofs.Moving.{line_there}
use Rattle.ff_node_sync.proofs.straight.Straight.is_through.Goals as goal

pub returns : goal.returns
returns c =
    let s = c.index-side.result.now in
    let is = line_there c.args.self.now.sides.items c.args.p s c.requires.there c.index-side.ensures in
    ap (λ b. s.stopped || (s.ended || b)) c.is_shut.ensures ∙ ap (λ (l : Line). l.stopped || (l.ended || is_over l.after)) (sym is)
