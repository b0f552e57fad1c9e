use Rattle.std.proofs.Common.{◌∙◌, sym, ap, Option}
use Rattle.ff_vfilter.specs.declared.span.Span.{Span}
use Rattle.ff_vfilter.specs.laws.RateCuts.{is_cut}
use Rattle.ff_vfilter.proofs.Cutting.{fed_open, fed_end}
use Rattle.ff_vfilter.proofs.rate.Rate.is_fed_out.Goals as goal

pub returns-then-is_end : goal.returns-then-is_end
returns-then-is_end c =
    let m = c.args.self.now in
    let none = m.input.unclosed in
    fed_end m.given m.showing m.input.queue.items m.input.after none c.requires.open (sym c.is_end.ensures ∙ c.if-is_end.true)

pub returns : goal.returns
returns c =
    let m = c.args.self.now in
    let none = m.input.unclosed in
    c.is_cut.ensures
    ∙ (ap (λ (o : Option Span). is_cut m.given m.showing.before o) c.span.ensures
    ∙ fed_open m.given m.showing m.input.queue.items m.input.after none c.requires.open (sym c.is_end.ensures ∙ c.if-is_end.false))
