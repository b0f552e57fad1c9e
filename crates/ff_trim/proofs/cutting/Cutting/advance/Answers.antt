use Rattle.std.proofs.Common.{◌∙◌, is_some, ap, sym}
use Rattle.ff_filter.specs.Made.{is_over}
use Rattle.ff_trim.specs.laws.Taps.{Way}
use Rattle.ff_trim.proofs.Ways.{way_there}
use Rattle.ff_trim.proofs.cutting.Cutting.advance.Goals as goal

pub close-requires-clause-over : goal.close-requires-clause-over
close-requires-clause-over g c = ap (λ (w : Way). is_over w.after) (way_there c.args.self.now.taps.items c.args.q c.index.result.now c.requires.there c.index.ensures) ∙ (sym c.is_over.ensures ∙ c.if-is_over.true)

pub resume-requires-clause-more : goal.resume-requires-clause-more
resume-requires-clause-more g c = ap (λ (w : Way). is_over w.after) (way_there c.args.self.now.taps.items c.args.q c.index.result.now c.requires.there c.index.ensures) ∙ (sym c.is_over.ensures ∙ c.if-is_over.false)

pub resume-requires-clause-held : goal.resume-requires-clause-held
resume-requires-clause-held g c = ap (λ (w : Way). is_some w.held) (way_there c.args.self.now.taps.items c.args.q c.index-2.result.now c.requires.there c.index-2.ensures) ∙ (sym c.holds.ensures ∙ c.if-holds.true)

pub draw-requires-clause-more : goal.draw-requires-clause-more
draw-requires-clause-more g c = ap (λ (w : Way). is_over w.after) (way_there c.args.self.now.taps.items c.args.q c.index.result.now c.requires.there c.index.ensures) ∙ (sym c.is_over.ensures ∙ c.if-is_over.false)

pub draw-requires-clause-free : goal.draw-requires-clause-free
draw-requires-clause-free g c = ap (λ (w : Way). is_some w.held) (way_there c.args.self.now.taps.items c.args.q c.index-2.result.now c.requires.there c.index-2.ensures) ∙ (sym c.holds.ensures ∙ c.if-holds.false)
