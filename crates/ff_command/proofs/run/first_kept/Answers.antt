use Rattle.std.proofs.Common.{subst}
use Rattle.ff_files.specs.There.{IsFirstThere}
use Rattle.ff_command.proofs.run.first_kept.Goals as goal

pub returns-then-job-clause-kept : goal.returns-then-job-clause-kept
returns-then-job-clause-kept g c = λ k is.
    (c.if-job.true, subst (λ names. IsFirstThere (g.H.Host.files c.args.host.now) names k) c.requires.named (c.first_there.ensures.first k is))
