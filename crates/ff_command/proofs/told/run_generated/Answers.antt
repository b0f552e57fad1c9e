use Rattle.ff_host.specs.laws.memory.QuietHost.{quiet_files}
use Rattle.ff_command.specs.Histories.{LogHas}
use Rattle.ff_command.proofs.Generated.{own_ran, own_ended, own_there, own_told, own_logged, own_none}
use Rattle.ff_command.proofs.told.run_generated.Goals as goal

pub returns-in_default-clause-answer : goal.returns-in_default-clause-answer
returns-in_default-clause-answer g c = own_none (g.Q.Worker.means c.args.own.now) c.args.seconds c.untold.result.status c.untold.ensures.status

pub told_run-requires : goal.told_run-requires
told_run-requires g c =
    own_there (g.Q.Worker.means c.args.own.now) c.args.seconds c.in-Ok.job (quiet_files c.in-Ok-own_host.host) (quiet_files c.run_job-status.new.host) c.run_job-status.result.status c.in-Ok.ensures.bounded c.in-Ok-own_host.ensures
    c.in-Ok.ensures.output c.run_job-status.ensures.ran c.in-Fine.is

pub returns-in-Fine-clause-answer : goal.returns-in-Fine-clause-answer
returns-in-Fine-clause-answer g c =
    own_ended (g.Q.Worker.means c.args.own.now) c.args.seconds c.in-Ok.job (quiet_files c.in-Ok-own_host.host) (quiet_files c.run_job-status.new.host) c.run_job-status.result.status c.told_run.result.status c.in-Ok.ensures.job
    c.in-Ok.ensures.bounded c.in-Ok-own_host.ensures c.run_job-status.ensures.ran c.in-Fine.is c.told_run.ensures.status

pub returns-in-Fine-clause-told : goal.returns-in-Fine-clause-told
returns-in-Fine-clause-told g c =
    own_told (g.Q.Worker.means c.args.own.now) c.args.seconds c.in-Ok.job (quiet_files c.in-Ok-own_host.host) (quiet_files c.run_job-status.new.host) c.run_job-status.result.status c.told_run.result.status c.in-Ok.ensures.job
    c.in-Ok.ensures.bounded c.in-Ok-own_host.ensures c.in-Ok.ensures.output c.run_job-status.ensures.ran c.in-Fine.is c.told_run.result.text c.told_run.ensures.text

pub returns-in-Fine-clause-logged : goal.returns-in-Fine-clause-logged
returns-in-Fine-clause-logged g c = λ fine.
    let Q = g.Q.Worker in
    let own = c.args.own.now in
    own_logged (Q.means own) (λ job heads bytes log. LogHas (Q.tells own job heads bytes) (Q.reads own job heads bytes) log) c.args.seconds c.in-Ok.job (quiet_files c.in-Ok-own_host.host) c.in-Ok.ensures.job c.in-Ok-own_host.ensures
    c.told_run.result.run c.run_job-status.result.log c.told_run.ensures.run (c.run_job-status.ensures.logged c.in-Fine.is)

pub returns-clause-answer : goal.returns-clause-answer
returns-clause-answer g c =
    own_ran (g.Q.Worker.means c.args.own.now) c.args.seconds c.in-Ok.job (quiet_files c.in-Ok-own_host.host) (quiet_files c.run_job-status.new.host) c.run_job-status.result.status c.in-Ok.ensures.job c.in-Ok.ensures.bounded
    c.in-Ok-own_host.ensures c.run_job-status.ensures.ran
