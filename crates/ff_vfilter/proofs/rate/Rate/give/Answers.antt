use Rattle.std.proofs.Common.{◌≡◌, ◌<◌, ◌∙◌, sym, subst, true, Some, arith}
use Rattle.ff_stream.specs.declared.item.Item.{Item}
use Rattle.ff_stream.specs.declared.item.Item.TheVariants.{Broken}
use Rattle.ff_filter.specs.Views.{Gave}
use Rattle.ff_vfilter.specs.laws.RateViews.{rate_view, limit_of, Shown}
use Rattle.ff_vfilter.proofs.Rating.{rate_gave, rate_cut, some_there, few_given}
use Rattle.ff_vfilter.proofs.rate.Rate.give.Goals as goal

pub returns-then-is_long-clause-gave : goal.returns-then-is_long-clause-gave
returns-then-is_long-clause-gave c x e =
    let old = c.args.self.now in
    let m = old.showing in
    let some = some_there c.is_none.result m.picture c.is_none.ensures c.if-is_none.false in
    let same : Broken ≡ x = cc (e) in
    let limit : c.limit-limit.result ≡ limit_of m.scale m.picture m.ahead = c.limit-limit.ensures.is in
    let due : m.number < limit_of m.scale m.picture m.ahead = omega (arith, limit) in
    subst (λ (z : Item). Gave (rate_view old.head old.given m old.input.queue.items old.input.after old.ended old.stopped) (rate_view old.head old.given m old.input.queue.items old.input.after true old.stopped) 0 z) same
    (rate_cut old.head old.given old.input.queue.items old.input.after old.ended old.stopped c.requires m some.0 some.1 due (sym (c.is_long.ensures some.0) ∙ c.if-is_long.true))

pub show_last-requires-clause-counted : goal.show_last-requires-clause-counted
show_last-requires-clause-counted c = few_given c.args.self.now.given c.args.self.now.showing.before c.args.self.now.showing.number c.in-Some.frame (sym (c.is_long.ensures c.in-Some.frame) ∙ c.if-is_long.false)

pub show_one-requires-clause-counted : goal.show_one-requires-clause-counted
show_one-requires-clause-counted c = few_given c.args.self.now.given c.args.self.now.showing.before c.args.self.now.showing.number c.in-Some.frame (sym (c.is_long.ensures c.in-Some.frame) ∙ c.if-is_long.false)

pub returns-then-number-limit-clause-gave : goal.returns-then-number-limit-clause-gave
returns-then-number-limit-clause-gave c x e =
    let old = c.args.self.now in
    let m = old.showing in
    let f = c.in-Some.frame in
    let same : c.show_last.result ≡ x = cc (e) in
    let is : m.picture ≡ Some f = sym c.take.ensures.value ∙ c.in-Some.is in
    let h : Shown m c.show_last.new.self f c.show_last.result = subst (λ p. Shown (record m { picture = p }) c.show_last.new.self f c.show_last.result) (sym is) c.show_last.ensures.shown in
    subst (λ (z : Item). Gave (rate_view old.head old.given m old.input.queue.items old.input.after old.ended old.stopped) (rate_view old.head old.given c.show_last.new.self old.input.queue.items old.input.after old.ended old.stopped) 0 z) same
    (rate_gave old.head old.given old.input.queue.items old.input.after old.ended old.stopped c.requires m c.show_last.new.self f c.show_last.result h (sym (c.is_long.ensures f) ∙ c.if-is_long.false))

pub returns-in-Ok-clause-gave : goal.returns-in-Ok-clause-gave
returns-in-Ok-clause-gave c x e =
    let old = c.args.self.now in
    let m = old.showing in
    let f = c.in-Some.frame in
    let same : c.in-Ok.item ≡ x = cc (e) in
    let is : m.picture ≡ Some f = sym c.take.ensures.value ∙ c.in-Some.is in
    let h : Shown m c.show_one.new.self f c.in-Ok.item = subst (λ p. Shown (record m { picture = p }) c.show_one.new.self f c.in-Ok.item) (sym is) c.in-Ok.ensures.shown in
    subst (λ (z : Item). Gave (rate_view old.head old.given m old.input.queue.items old.input.after old.ended old.stopped) (rate_view old.head old.given c.show_one.new.self old.input.queue.items old.input.after old.ended old.stopped) 0 z) same
    (rate_gave old.head old.given old.input.queue.items old.input.after old.ended old.stopped c.requires m c.show_one.new.self f c.in-Ok.item h (sym (c.is_long.ensures f) ∙ c.if-is_long.false))
