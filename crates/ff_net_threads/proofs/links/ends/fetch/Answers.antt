use Rattle.std.proofs.Common.{refl, sym, ap, inr, Option, Some, is_some, ◌∙◌}
use Rattle.ff_stream.specs.declared.item.Item.{Item}
use Rattle.ff_link.specs.laws.Views.{Receiving}
use Rattle.ff_net.proofs.Changes.{none_held, true_not_false}
use Rattle.ff_net_threads.proofs.LinksLemmas.Carrying.{in_fetched}
use Rattle.ff_net_threads.proofs.LinksLemmas.Turns.{fetched_item, fetched_differs, fetched_none}
use Rattle.ff_net_threads.proofs.links.ends.fetch.Goals as goal

pub returns-in-Item-clause-stands : goal.returns-in-Item-clause-stands
returns-in-Item-clause-stands g c lane wire goes i =
    let none = none_held c.args.end.now.held (sym c.is_some.ensures ∙ c.if-is_some.false) in
    let after = c.in-Item.ensures.after in
    in_fetched c.args.end.now _ lane wire c.in-Some.receiver c.try_take-took.new.self c.in-Item.item goes i none (sym c.take.ensures.value ∙ c.in-Some.is) refl refl (ap (λ (r : Receiving). r.taken) after) (ap (λ (r : Receiving). r.lane) after) (ap (λ (r : Receiving). r.link) after) c.in-Item.ensures.valid

pub returns-in-Item-clause-takes : goal.returns-in-Item-clause-takes
returns-in-Item-clause-takes g c = fetched_item c.args.end.now _ c.in-Some.receiver c.try_take-took.new.self c.in-Item.item (sym c.take.ensures.value ∙ c.in-Some.is) refl (ap (λ (r : Receiving). r.taken) c.in-Item.ensures.after)

pub returns-in-Item-clause-moved : goal.returns-in-Item-clause-moved
returns-in-Item-clause-moved g c t = fetched_differs c.args.end.now c.in-Some.receiver c.try_take-took.new.self c.in-Item.item (sym c.take.ensures.value ∙ c.in-Some.is) (ap (λ (r : Receiving). r.taken) c.in-Item.ensures.after)

pub returns-in-Empty-clause-takes : goal.returns-in-Empty-clause-takes
returns-in-Empty-clause-takes g c = (fetched_none c.args.end.now _ c.in-Some.receiver c.try_take-took.new.self (sym c.take.ensures.value ∙ c.in-Some.is) refl (ap (λ (r : Receiving). r.taken) c.in-Empty.ensures.after) refl).0

pub returns-in-Empty-clause-still : goal.returns-in-Empty-clause-still
returns-in-Empty-clause-still g c n = (fetched_none c.args.end.now _ c.in-Some.receiver c.try_take-took.new.self (sym c.take.ensures.value ∙ c.in-Some.is) refl (ap (λ (r : Receiving). r.taken) c.in-Empty.ensures.after) refl).1

pub returns-then-is_some-clause-none : goal.returns-then-is_some-clause-none
returns-then-is_some-clause-none g c n none = absurd (true_not_false (sym (sym c.is_some.ensures ∙ c.if-is_some.true) ∙ ap (λ (h : Option Item). is_some h) none))

pub returns-in-Empty-clause-none : goal.returns-in-Empty-clause-none
returns-in-Empty-clause-none g c n none = inr (c.in-Some.receiver, sym c.take.ensures.value ∙ c.in-Some.is, ap (λ (r : Receiving). Some r) c.in-Empty.ensures.after, c.in-Empty.ensures.empty)
