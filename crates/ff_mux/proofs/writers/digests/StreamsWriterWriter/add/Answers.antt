use Rattle.ff_mux.proofs.writers.digests.StreamsWriterWriter.add.Goals as goal

pub returns-clause-ok : goal.returns-clause-ok
returns-clause-ok c = λ packets h. (c.take_in.ensures.taken packets h.0, c.take_in.ensures.kinds c.args.self.now.kind h.1)
