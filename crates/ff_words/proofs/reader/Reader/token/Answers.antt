use Rattle.std.proofs.Common.{sym, ◌∙◌, ap, subst}
use Rattle.ff_words.specs.declared.table.Concern.TheVariants.{Itself}
use Rattle.ff_words.specs.declared.value.Value.TheVariants as value
use Rattle.ff_words.specs.Words.{texts, is_too_much, is_dashed}
use Rattle.ff_words.specs.laws.Reading.{Taken, word_at}
use Rattle.ff_words.specs.Table.{option_named, format_ending}
use Rattle.ff_words.proofs.Tokens.{token-output, token-unknown, token-switch}
use Rattle.ff_words.proofs.reader.Reader.token.Goals as goal

pub returns-then-not-is_dashed-clause-step : goal.returns-then-not-is_dashed-clause-step
returns-then-not-is_dashed-clause-step c es h =
    token-output es (texts c.args.words.now) c.args.at c.take.result c.take.new.self
    (ap (is_too_much c.args.at) (sym c.word_text-word.ensures) ∙ (sym c.is_too_much.ensures ∙ c.if-is_too_much.false))
    (ap is_dashed (sym c.word_text-word.ensures) ∙ (sym c.is_dashed.ensures ∙ c.if-not-is_dashed.true))
    (subst (λ n. Taken es c.args.at Itself (value.Output (word_at (texts c.args.words.now) c.args.at) n) c.take.result c.take.new.self) (c.format_ending-ending.ensures ∙ ap format_ending c.word_text-word.ensures)
    (subst (λ n. Taken es c.args.at Itself (value.Output n c.format_ending-ending.result) c.take.result c.take.new.self) (c.in_ok-name.ensures ∙ c.word_text-word.ensures) (c.take.ensures es h)))

pub returns-in-None-clause-step : goal.returns-in-None-clause-step
returns-in-None-clause-step c es h =
    token-unknown es (texts c.args.words.now) c.args.at
    (ap (is_too_much c.args.at) (sym c.word_text-word.ensures) ∙ (sym c.is_too_much.ensures ∙ c.if-is_too_much.false))
    (ap is_dashed (sym c.word_text-word.ensures) ∙ (sym c.is_dashed.ensures ∙ c.if-not-is_dashed.false))
    (ap option_named (sym c.word_text-word.ensures) ∙ (sym c.find_option.ensures ∙ c.in-None.is))

pub returns-in-Some-valueless-clause-step : goal.returns-in-Some-valueless-clause-step
returns-in-Some-valueless-clause-step c es h =
    token-switch es (texts c.args.words.now) c.args.at c.in-Some.rule c.in-Some-valueless.value c.take-in-Some-valueless.result c.take-in-Some-valueless.new.self
    (ap (is_too_much c.args.at) (sym c.word_text-word.ensures) ∙ (sym c.is_too_much.ensures ∙ c.if-is_too_much.false))
    (ap is_dashed (sym c.word_text-word.ensures) ∙ (sym c.is_dashed.ensures ∙ c.if-not-is_dashed.false))
    (ap option_named (sym c.word_text-word.ensures) ∙ (sym c.find_option.ensures ∙ c.in-Some.is))
    (sym c.valueless.ensures ∙ c.in-Some-valueless.is) (c.take-in-Some-valueless.ensures es h)
