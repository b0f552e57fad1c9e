use Rattle.std.proofs.Common.{◌≡◌, ◌∙◌, sym, ap}
use Rattle.std.specs.Prelude.{◌||◌}
use Rattle.ff_node_sync.specs.Lines.{Line, lines_of, mark_now, is_closed}
use Rattle.ff_node_sync.proofs.Moving.{line_there, closed_over, done_wanted, done_unwanted}
use Rattle.ff_node_sync.proofs.shortest.Shortest.is_done.Goals as goal

pub returns-then-side : goal.returns-then-side
returns-then-side c =
    let ls = lines_of c.args.self.now.sides.items in
    let s = c.index-side.result.now in
    let is = line_there c.args.self.now.sides.items c.args.p s c.requires.there c.index-side.ensures in
    done_unwanted s.stopped s.ended (is_closed (mark_now ls c.args.p)) c.if-side.true ∙ ap (λ (l : Line). l.stopped || (l.ended || is_closed (mark_now ls c.args.p)))
    (sym is)

pub returns : goal.returns
returns c =
    let ls = lines_of c.args.self.now.sides.items in
    let s = c.index-side.result.now in
    let is = line_there c.args.self.now.sides.items c.args.p s c.requires.there c.index-side.ensures in
    let closed : c.is_over.result ≡ is_closed (mark_now ls c.args.p) = c.is_over.ensures ∙ (closed_over c.mark.result ∙ ap is_closed c.mark.ensures) in
    closed ∙ (done_wanted s.stopped s.ended (is_closed (mark_now ls c.args.p)) c.if-side.false
    ∙ ap (λ (l : Line). l.stopped || (l.ended || is_closed (mark_now ls c.args.p))) (sym is))
