use Rattle.std.proofs.Common.{◌<◌, ◌≤◌, sym, ◌∙◌, subst, arith}
use Rattle.ff_words.specs.maps.Choice.{IsLargest, size}
use Rattle.ff_words.proofs.MapsLemmas.Largest.{other-kind, first-kind, not-larger, is-larger}
use Rattle.ff_words.proofs.maps.choice.larger.Goals as goal

pub returns-then-not-has_kind : goal.returns-then-not-has_kind
returns-then-not-has_kind c ss h = other-kind c.args.kind ss c.args.best c.args.stream (sym c.has_kind.ensures ∙ c.if-not-has_kind.true) h

pub returns-in-None : goal.returns-in-None
returns-in-None c ss h =
    first-kind c.args.kind ss c.args.stream (sym c.has_kind.ensures ∙ c.if-not-has_kind.false) (subst (λ o. IsLargest c.args.kind ss o) c.in-None.is h)

pub returns-then-size : goal.returns-then-size
returns-then-size c ss h =
    let le : size c.args.stream.head ≤ size c.in-Some.before.head = omega arith in
    not-larger c.args.kind ss c.in-Some.before c.args.stream (sym c.has_kind.ensures ∙ c.if-not-has_kind.false) le (subst (λ o. IsLargest c.args.kind ss o) c.in-Some.is h)

pub returns-else-size : goal.returns-else-size
returns-else-size c ss h =
    let lt : size c.in-Some.before.head < size c.args.stream.head = omega arith in
    is-larger c.args.kind ss c.in-Some.before c.args.stream (sym c.has_kind.ensures ∙ c.if-not-has_kind.false) lt (subst (λ o. IsLargest c.args.kind ss o) c.in-Some.is h)
