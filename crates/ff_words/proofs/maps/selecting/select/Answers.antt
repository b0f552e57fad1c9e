use Rattle.std.proofs.Common.{◌≡◌, ◌≤◌, ℕ, false, nat_lt, length, ap, sym, ◌∙◌, arith}
use Rattle.std.proofs.lemmas.Bool.Decides.{nat_tests}
use Rattle.ff_words.specs.maps.Choice.{lists, places, picked, selected, streams_of}
use Rattle.ff_words.proofs.MapsLemmas.Numbered.{picked-none, no-list}
use Rattle.ff_words.proofs.maps.selecting.select.Goals as goal

past : (a b : ℕ) → false ≡ nat_lt a b → b ≤ a
past a b h = grind (arith, nat_tests)

pub returns-in-None : goal.returns-in-None
returns-in-None c =
    let none : length c.args.heads.now ≤ c.in-Input.file = past c.in-Input.file (length c.args.heads.now) c.in-None.ensures.lookup.0 in
    c.new.ensures.items ∙ (ap places (sym (picked-none c.in-Input.pick))
    ∙ (ap (λ l. places (picked c.in-Input.pick (streams_of c.in-Input.file l))) (sym (no-list c.args.heads.now c.in-Input.file none))
    ∙ ap (λ f. selected f (lists c.args.heads.now)) (sym c.in-Input.is)))
