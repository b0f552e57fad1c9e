use Rattle.std.proofs.Common.{Ok, inl, inr, refl, sym, ◌∙◌, subst}
use Rattle.ff_files.specs.Counts.{counted}
use Rattle.ff_words.specs.Words.{texts}
use Rattle.ff_words.specs.declared.job.Solo.TheVariants.{SelfRun}
use Rattle.ff_words.specs.laws.Reading.{Answers}
use Rattle.ff_command.specs.Command.{AskSolo, ReportsHistory, HoldsTrace}
use Rattle.ff_command.specs.Histories.{LogHas}
use Rattle.ff_command.proofs.Reports.{has_more, if_some_more, never_fine}
use Rattle.ff_command.proofs.Answers.{words-answered, solo-answered, job-answered, not-alone, never-device, wrong-own, same-solo, text-is, told-text}
use Rattle.ff_files.proofs.Steps.{files_same}
use Rattle.ff_selfrun.proofs.Few.{seconds_few}
use Rattle.ff_command.proofs.command.run_words.Goals as goal

pub returns-in-Err-clause-answered : goal.returns-in-Err-clause-answered
returns-in-Err-clause-answered g c =
    let H = g.H.Host in
    let words = texts c.args.words.now in
    let ins = counted H.in_faults c.args.host.now c.args.host.now in
    let outs = counted H.out_faults c.args.host.now c.args.host.now in
    words-answered (g.P.Worker.means c.args.worker.now) words (H.files c.args.host.now) ins outs (λ n. refl) (λ n. refl) c.in-Err.error c.status_of_words.result
    (subst (Answers words) c.in-Err.is c.read_words.ensures.answer) c.status_of_words.ensures

pub returns-in-Ok-Solo-clause-answered : goal.returns-in-Ok-Solo-clause-answered
returns-in-Ok-Solo-clause-answered g c =
    let H = g.H.Host in
    let words = texts c.args.words.now in
    let ins = counted H.in_faults c.args.host.now c.args.host.now in
    let outs = counted H.out_faults c.args.host.now c.args.host.now in
    let asks = subst (λ x. Answers words (Ok x)) c.in-Ok-Solo.field-0-is (subst (Answers words) c.in-Ok-Solo.is c.read_words.ensures.answer) in
    solo-answered (g.P.Worker.means c.args.worker.now) words (H.files c.args.host.now) ins outs (λ n. refl) (λ n. refl) (g.Q.Worker.means c.args.own.now) c.in-Ok-Solo.solo asks c.tell-status.result.status
    (λ text. (c.tell-status.ensures.alone text).0) c.tell-status.ensures.generated

pub returns-in-Ok-Run-clause-answered : goal.returns-in-Ok-Run-clause-answered
returns-in-Ok-Run-clause-answered g c =
    let H = g.H.Host in
    let words = texts c.args.words.now in
    let ins = counted H.in_faults c.args.host.now c.run_job-status.new.host in
    let outs = counted H.out_faults c.args.host.now c.run_job-status.new.host in
    job-answered (g.P.Worker.means c.args.worker.now) words c.in-Ok-Run.job (H.files c.args.host.now) (H.files c.run_job-status.new.host) ins outs c.run_job-status.result.status
    (subst (λ x. Answers words (Ok x)) c.in-Ok-Run.field-0-is (subst (Answers words) c.in-Ok-Run.is c.read_words.ensures.answer)) c.run_job-status.ensures.ran

pub tell-status-requires-clause-few : goal.tell-status-requires-clause-few
tell-status-requires-clause-few g c = λ seconds is.
    let words = texts c.args.words.now in
    let asks = subst (λ x. Answers words (Ok x)) c.in-Ok-Solo.field-0-is (subst (Answers words) c.in-Ok-Solo.is c.read_words.ensures.answer) in
    seconds_few words seconds (subst (λ solo. AskSolo words solo) is asks)

pub returns-in-Ok-Solo-clause-told : goal.returns-in-Ok-Solo-clause-told
returns-in-Ok-Solo-clause-told g c =
    let words = texts c.args.words.now in
    let asks = subst (λ x. Answers words (Ok x)) c.in-Ok-Solo.field-0-is (subst (Answers words) c.in-Ok-Solo.is c.read_words.ensures.answer) in
    told-text (g.Q.Worker.means c.args.own.now) words c.in-Ok-Solo.solo asks c.tell-status.result.text c.tell-status.result.status c.tell-status.ensures.told

pub returns-in-Ok-Solo-clause-text : goal.returns-in-Ok-Solo-clause-text
returns-in-Ok-Solo-clause-text g c = λ text.
    let words = texts c.args.words.now in
    let asks = subst (λ x. Answers words (Ok x)) c.in-Ok-Solo.field-0-is (subst (Answers words) c.in-Ok-Solo.is c.read_words.ensures.answer) in
    (c.tell-status.ensures.alone (text-is words c.in-Ok-Solo.solo asks text)).1

pub returns-in-Ok-Run-clause-text : goal.returns-in-Ok-Run-clause-text
returns-in-Ok-Run-clause-text g c = λ text.
    let words = texts c.args.words.now in
    let asks = subst (λ x. Answers words (Ok x)) c.in-Ok-Run.field-0-is (subst (Answers words) c.in-Ok-Run.is c.read_words.ensures.answer) in
    absurd (not-alone words c.in-Ok-Run.job asks (text.0, text.1))

pub returns-in-Err-clause-generated : goal.returns-in-Err-clause-generated
returns-in-Err-clause-generated g c = λ seconds asks.
    let words = texts c.args.words.now in
    wrong-own (g.Q.Worker.means c.args.own.now) words c.in-Err.error c.status_of_words.result seconds (subst (Answers words) c.in-Err.is c.read_words.ensures.answer) c.status_of_words.ensures asks

pub returns-in-Ok-Solo-clause-generated : goal.returns-in-Ok-Solo-clause-generated
returns-in-Ok-Solo-clause-generated g c = λ seconds asked.
    let words = texts c.args.words.now in
    let asks = subst (λ x. Answers words (Ok x)) c.in-Ok-Solo.field-0-is (subst (Answers words) c.in-Ok-Solo.is c.read_words.ensures.answer) in
    c.tell-status.ensures.generated seconds (same-solo words c.in-Ok-Solo.solo (SelfRun seconds) asks asked)

pub returns-in-Ok-Run-clause-generated : goal.returns-in-Ok-Run-clause-generated
returns-in-Ok-Run-clause-generated g c = λ seconds asked.
    let words = texts c.args.words.now in
    let asks = subst (λ x. Answers words (Ok x)) c.in-Ok-Run.field-0-is (subst (Answers words) c.in-Ok-Run.is c.read_words.ensures.answer) in
    absurd (not-alone words c.in-Ok-Run.job asks (SelfRun seconds, asked))

pub returns-in-Err-clause-own_logged : goal.returns-in-Err-clause-own_logged
returns-in-Err-clause-own_logged g c = λ seconds asked fine. absurd (never_fine c.in-Err.error (sym c.status_of_words.ensures ∙ fine))

pub returns-in-Ok-Solo-clause-own_logged : goal.returns-in-Ok-Solo-clause-own_logged
returns-in-Ok-Solo-clause-own_logged g c = λ seconds asked fine.
    let words = texts c.args.words.now in
    let asks = subst (λ x. Answers words (Ok x)) c.in-Ok-Solo.field-0-is (subst (Answers words) c.in-Ok-Solo.is c.read_words.ensures.answer) in
    c.tell-status.ensures.logged seconds (same-solo words c.in-Ok-Solo.solo (SelfRun seconds) asks asked) fine

pub returns-in-Ok-Run-clause-own_logged : goal.returns-in-Ok-Run-clause-own_logged
returns-in-Ok-Run-clause-own_logged g c = λ seconds asked fine.
    let words = texts c.args.words.now in
    let asks = subst (λ x. Answers words (Ok x)) c.in-Ok-Run.field-0-is (subst (Answers words) c.in-Ok-Run.is c.read_words.ensures.answer) in
    absurd (not-alone words c.in-Ok-Run.job asks (SelfRun seconds, asked))

pub returns-in-Ok-Run-clause-alone : goal.returns-in-Ok-Run-clause-alone
returns-in-Ok-Run-clause-alone g c = λ alone.
    let words = texts c.args.words.now in
    let asks = subst (λ x. Answers words (Ok x)) c.in-Ok-Run.field-0-is (subst (Answers words) c.in-Ok-Run.is c.read_words.ensures.answer) in
    absurd (not-alone words c.in-Ok-Run.job asks alone)

pub returns-in-Err-clause-silent : goal.returns-in-Err-clause-silent
returns-in-Err-clause-silent g c = λ fine none. absurd (never_fine c.in-Err.error (sym c.status_of_words.ensures ∙ fine))

pub returns-in-Ok-Solo-clause-silent : goal.returns-in-Ok-Solo-clause-silent
returns-in-Ok-Solo-clause-silent g c = λ fine none. absurd (c.tell-status.ensures.fine fine none)

pub returns-in-Ok-Run-clause-silent : goal.returns-in-Ok-Run-clause-silent
returns-in-Ok-Run-clause-silent g c = λ fine none.
    let words = texts c.args.words.now in
    (c.in-Ok-Run.job, subst (λ x. Answers words (Ok x)) c.in-Ok-Run.field-0-is (subst (Answers words) c.in-Ok-Run.is c.read_words.ensures.answer), tt)

pub returns-in-Ok-Solo-clause-named : goal.returns-in-Ok-Solo-clause-named
returns-in-Ok-Solo-clause-named g c = λ file is. absurd (never-device (g.Q.Worker.means c.args.own.now) c.in-Ok-Solo.solo c.tell-status.result.status file (λ text. (c.tell-status.ensures.alone text).0) c.tell-status.ensures.generated is)

pub returns-in-Err-clause-logged : goal.returns-in-Err-clause-logged
returns-in-Err-clause-logged g c = λ fine. absurd (never_fine c.in-Err.error (sym c.status_of_words.ensures ∙ fine))

pub returns-in-Ok-Solo-clause-logged : goal.returns-in-Ok-Solo-clause-logged
returns-in-Ok-Solo-clause-logged g c = λ fine.
    let words = texts c.args.words.now in
    inl (c.in-Ok-Solo.solo, subst (λ x. Answers words (Ok x)) c.in-Ok-Solo.field-0-is (subst (Answers words) c.in-Ok-Solo.is c.read_words.ensures.answer))

pub returns-in-Ok-Run-clause-logged : goal.returns-in-Ok-Run-clause-logged
returns-in-Ok-Run-clause-logged g c = λ fine.
    let words = texts c.args.words.now in
    let job = c.in-Ok-Run.job in
    let asks = subst (λ x. Answers words (Ok x)) c.in-Ok-Run.field-0-is (subst (Answers words) c.in-Ok-Run.is c.read_words.ensures.answer) in
    let P = g.P.Worker in
    let worker = c.args.worker.now in
    inr (has_more _ (ReportsHistory (P.means worker) (λ j heads bytes log. LogHas (P.tells worker j heads bytes) (P.reads worker j heads bytes) log) words (g.H.Host.files c.args.host.now))
    c.run_job-status.result.log (λ log told. (job, asks, told)) (c.run_job-status.ensures.logged fine))

pub returns-in-Ok-Solo-clause-traced : goal.returns-in-Ok-Solo-clause-traced
returns-in-Ok-Solo-clause-traced g c = λ fine.
    let words = texts c.args.words.now in
    inl (c.in-Ok-Solo.solo, subst (λ x. Answers words (Ok x)) c.in-Ok-Solo.field-0-is (subst (Answers words) c.in-Ok-Solo.is c.read_words.ensures.answer))

pub returns-in-Ok-Run-clause-traced : goal.returns-in-Ok-Run-clause-traced
returns-in-Ok-Run-clause-traced g c = λ fine.
    let words = texts c.args.words.now in
    let job = c.in-Ok-Run.job in
    let asks = subst (λ x. Answers words (Ok x)) c.in-Ok-Run.field-0-is (subst (Answers words) c.in-Ok-Run.is c.read_words.ensures.answer) in
    inr (if_some_more _ (λ log. HoldsTrace words (g.H.Host.files c.args.host.now) (g.H.Host.files c.run_job-status.new.host) log.history) c.run_job-status.result.log
    (λ log held. (job, asks, held)) (c.run_job-status.ensures.traced fine))

pub returns-in-Err-clause-created : goal.returns-in-Err-clause-created
returns-in-Err-clause-created g c = inl (files_same (g.H.Host.files c.args.host.now), λ n. refl)

pub returns-in-Ok-Solo-clause-created : goal.returns-in-Ok-Solo-clause-created
returns-in-Ok-Solo-clause-created g c = inl (files_same (g.H.Host.files c.args.host.now), λ n. refl)

pub returns-in-Ok-Run-clause-created : goal.returns-in-Ok-Run-clause-created
returns-in-Ok-Run-clause-created g c =
    let words = texts c.args.words.now in
    inr (c.in-Ok-Run.job, subst (λ x. Answers words (Ok x)) c.in-Ok-Run.field-0-is (subst (Answers words) c.in-Ok-Run.is c.read_words.ensures.answer), c.run_job-status.ensures.created)
