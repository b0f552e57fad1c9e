use Rattle.std.proofs.Common.{refl, sym, ap, Option, is_some, ◌∙◌}
use Rattle.ff_stream.specs.declared.item.Item.{Item}
use Rattle.ff_net.proofs.Changes.{none_held, true_not_false}
use Rattle.ff_net_threads.proofs.LinksLemmas.Carrying.{out_lifted}
use Rattle.ff_net_threads.proofs.links.ends.lift.Goals as goal

pub returns-in-Item-clause-stands : goal.returns-in-Item-clause-stands
returns-in-Item-clause-stands c world past stand o =
    let none = none_held c.args.end.now.held (sym c.is_some.ensures ∙ c.if-is_some.false) in
    let got = c.in-Item.ensures.item c.in-Item.item refl world stand in
    out_lifted c.args.end.now _ _ world c.args.end.now.wire past c.in-Item.item _ o none c.requires.goes_on refl c.requires.goes_on refl got.0 got.1

pub returns-then-is_some-clause-empty : goal.returns-then-is_some-clause-empty
returns-then-is_some-clause-empty c n none = absurd (true_not_false (sym (sym c.is_some.ensures ∙ c.if-is_some.true) ∙ ap (λ (h : Option Item). is_some h) none))

pub returns-in-Empty-clause-empty : goal.returns-in-Empty-clause-empty
returns-in-Empty-clause-empty c n none = (c.in-Empty.ensures.empty refl).1
