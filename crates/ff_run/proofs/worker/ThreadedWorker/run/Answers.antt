use Rattle.ff_run.proofs.worker.ThreadedWorker.run.Goals as goal

pub returns : goal.returns
returns g c = (c.requires.1 c.args.job c.args.plan c.args.heads c.args.srcs c.args.snks c.requires.0).1 c.run.result c.run.ensures
