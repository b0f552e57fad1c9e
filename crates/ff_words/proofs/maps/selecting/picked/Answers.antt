use Rattle.std.proofs.Common.{◌≡◌, ap, sym, subst, ◌∙◌, take, drop, IfOk}
use Rattle.ff_words.specs.maps.Choice.{places, picked, streams_of, of_kind}
use Rattle.ff_words.proofs.MapsLemmas.Numbered.{places-number}
use Rattle.ff_words.proofs.maps.selecting.picked.Goals as goal

pub returns-in_ok-all-in-Index : goal.returns-in_ok-all-in-Index
returns-in_ok-all-in-Index c =
    let all : take 1 (drop c.in-Index.index c.as_slice.result.now) ≡ places (picked c.args.pick (streams_of c.args.input c.args.heads.now)) =
    ap (λ t. take 1 (drop c.in-Index.index t)) (c.as_slice.ensures.value ∙ c.in_ok-all-in-Index.ensures)
    ∙ (places-number c.in-Index.index (streams_of c.args.input c.args.heads.now) ∙ ap (λ p. places (picked p (streams_of c.args.input c.args.heads.now))) (sym c.in-Index.is)) in
    subst (λ l. IfOk c.at_number.result (λ refs. refs.items ≡ l)) all c.at_number.ensures

pub returns-in_ok-all-in-Nth : goal.returns-in_ok-all-in-Nth
returns-in_ok-all-in-Nth c =
    let all : take 1 (drop c.in-Nth.nth c.as_slice-in-Nth.result.now) ≡ places (picked c.args.pick (streams_of c.args.input c.args.heads.now)) =
    ap (λ t. take 1 (drop c.in-Nth.nth t)) (c.as_slice-in-Nth.ensures.value ∙ c.in_ok-all-in-Nth.ensures)
    ∙ (places-number c.in-Nth.nth (of_kind c.in-Nth.kind (streams_of c.args.input c.args.heads.now)) ∙ ap (λ p. places (picked p (streams_of c.args.input c.args.heads.now))) (sym c.in-Nth.is)) in
    subst (λ l. IfOk c.at_number-in-Nth.result (λ refs. refs.items ≡ l)) all c.at_number-in-Nth.ensures
