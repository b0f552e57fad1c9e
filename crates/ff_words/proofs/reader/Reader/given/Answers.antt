use Rattle.std.proofs.Common.{sym, ◌∙◌, subst}
use Rattle.ff_words.specs.Values.{Reads}
use Rattle.ff_words.proofs.Steps.{given-fine, given-ok, given-bad}
use Rattle.ff_words.proofs.reader.Reader.given.Goals as goal

pub returns-in-Ok : goal.returns-in-Ok
returns-in-Ok c es h t here given short dashed named s =
    given-ok es t c.args.rule c.args.text.now c.args.at c.in-Ok.value c.take.result c.take.new.self here dashed named s given
    (given-fine es t c.args.rule c.args.text.now c.args.at c.args.self.now here h short dashed named s given (sym c.is_full.ensures ∙ c.if-is_full.false) (sym c.is_too_much.ensures ∙ c.if-is_too_much.false))
    (subst (λ o. Reads c.args.rule.kind c.args.text.now o) c.in-Ok.is c.in_ok-value.ensures) (c.take.ensures es h)

pub returns-in-Err : goal.returns-in-Err
returns-in-Err c es h t here given short dashed named s =
    given-bad es t c.args.rule c.args.text.now c.args.at c.in-Err.kind here dashed named s given
    (given-fine es t c.args.rule c.args.text.now c.args.at c.args.self.now here h short dashed named s given (sym c.is_full.ensures ∙ c.if-is_full.false) (sym c.is_too_much.ensures ∙ c.if-is_too_much.false))
    (subst (λ o. Reads c.args.rule.kind c.args.text.now o) c.in-Err.is c.in_ok-value.ensures)
