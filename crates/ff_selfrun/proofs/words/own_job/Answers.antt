use Rattle.std.proofs.Common.{Ok, Err, ap, subst, ◌∙◌}
use Rattle.ff_words.specs.laws.Reading.{Answers}
use Rattle.ff_words.specs.Words.{texts, fault}
use Rattle.ff_selfrun.specs.SelfRun.{own_words}
use Rattle.ff_selfrun.proofs.Own.{never-alone, never-wrong, out-written, words-are}
use Rattle.ff_selfrun.proofs.words.own_job.Goals as goal

pub returns-in-Ok-Run-clause-job : goal.returns-in-Ok-Run-clause-job
returns-in-Ok-Run-clause-job c =
    let words = ap texts c.deref.ensures.value ∙ (c.in_ok-words.ensures ∙ words-are) in
    subst (λ x. Answers own_words (Ok x)) c.in-Ok-Run.field-0-is (subst (Answers own_words) c.in-Ok-Run.is (subst (λ ws. Answers ws c.read_words.result) words c.read_words.ensures.answer))

pub returns-in-Ok-Run-clause-output : goal.returns-in-Ok-Run-clause-output
returns-in-Ok-Run-clause-output c =
    let words = ap texts c.deref.ensures.value ∙ (c.in_ok-words.ensures ∙ words-are) in
    out-written c.in-Ok-Run.job
    (subst (λ x. Answers own_words (Ok x)) c.in-Ok-Run.field-0-is (subst (Answers own_words) c.in-Ok-Run.is (subst (λ ws. Answers ws c.read_words.result) words c.read_words.ensures.answer)))

pub unreachable-requires : goal.unreachable-requires
unreachable-requires c =
    let words = ap texts c.deref.ensures.value ∙ (c.in_ok-words.ensures ∙ words-are) in
    never-alone c.in-Ok-Solo.field-0-0
    (subst (λ x. Answers own_words (Ok x)) c.in-Ok-Solo.field-0-is (subst (Answers own_words) c.in-Ok-Solo.is (subst (λ ws. Answers ws c.read_words.result) words c.read_words.ensures.answer)))

pub unreachable-requires-in-Err-At : goal.unreachable-requires-in-Err-At
unreachable-requires-in-Err-At c =
    let words = ap texts c.deref.ensures.value ∙ (c.in_ok-words.ensures ∙ words-are) in
    never-wrong (fault c.in-Err-At.field-0-0 c.in-Err-At.field-0-1)
    (subst (λ x. Answers own_words (Err x)) c.in-Err-At.field-0-is (subst (Answers own_words) c.in-Err-At.is (subst (λ ws. Answers ws c.read_words.result) words c.read_words.ensures.answer)))
