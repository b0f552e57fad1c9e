use Rattle.std.proofs.Common.{◌≡◌, IfSome, sym, subst, ◌∙◌}
use Rattle.ff_words.specs.declared.job.Solo.{Solo}
use Rattle.ff_command.specs.declared.report.Status.TheVariants as status
use Rattle.ff_command.specs.Command.{IsText, IsSoloText, IsOwnAnswer, ReportsOwn}
use Rattle.ff_command.specs.Histories.{LogHas}
use Rattle.ff_files.specs.Works.{HasLog}
use Rattle.ff_command.proofs.Generated.{same_seconds, text_told}
use Rattle.ff_command.proofs.told.tell.Goals as goal

pub returns-in-Help-clause-told : goal.returns-in-Help-clause-told
returns-in-Help-clause-told g c =
    subst (λ (s : Solo). IfSome c.told_text.result.text (λ text. IsSoloText (g.Q.Worker.means c.args.own.now) s text.items × (c.told_text.result.status ≡ status.Fine))) (sym c.in-Help.is)
    (text_told _ c.help.result c.told_text.result.text c.told_text.result.status c.help.ensures c.told_text.ensures.told)

pub returns-in-Version-clause-told : goal.returns-in-Version-clause-told
returns-in-Version-clause-told g c =
    subst (λ (s : Solo). IfSome c.told_text-in-Version.result.text (λ text. IsSoloText (g.Q.Worker.means c.args.own.now) s text.items × (c.told_text-in-Version.result.status ≡ status.Fine))) (sym c.in-Version.is)
    (text_told _ c.version.result c.told_text-in-Version.result.text c.told_text-in-Version.result.status c.version.ensures c.told_text-in-Version.ensures.told)

pub returns-in-SelfRun-clause-alone : goal.returns-in-SelfRun-clause-alone
returns-in-SelfRun-clause-alone g c = λ text. absurd (subst IsText c.in-SelfRun.is text)

pub returns-in-SelfRun-clause-generated : goal.returns-in-SelfRun-clause-generated
returns-in-SelfRun-clause-generated g c = λ seconds is.
    subst (λ n. IsOwnAnswer (g.Q.Worker.means c.args.own.now) n c.run_generated.result.status) (same_seconds c.in-SelfRun.seconds seconds (sym c.in-SelfRun.is ∙ is)) c.run_generated.ensures.answer

pub returns-in-SelfRun-clause-told : goal.returns-in-SelfRun-clause-told
returns-in-SelfRun-clause-told g c =
    subst (λ (s : Solo). IfSome c.run_generated.result.text (λ text. IsSoloText (g.Q.Worker.means c.args.own.now) s text.items × (c.run_generated.result.status ≡ status.Fine))) (sym c.in-SelfRun.is)
    c.run_generated.ensures.told

pub returns-in-SelfRun-clause-logged : goal.returns-in-SelfRun-clause-logged
returns-in-SelfRun-clause-logged g c = λ seconds is fine.
    let Q = g.Q.Worker in
    let own = c.args.own.now in
    subst (λ n. HasLog (ReportsOwn (Q.means own) (λ job heads bytes log. LogHas (Q.tells own job heads bytes) (Q.reads own job heads bytes) log) n) c.run_generated.result.run)
    (same_seconds c.in-SelfRun.seconds seconds (sym c.in-SelfRun.is ∙ is)) (c.run_generated.ensures.logged fine)
