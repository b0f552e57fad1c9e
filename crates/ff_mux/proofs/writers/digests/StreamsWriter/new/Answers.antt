use Rattle.ff_mux.proofs.writers.digests.StreamsWriter.new.Goals as goal

pub returns-clause-none : goal.returns-clause-none
returns-clause-none c = (c.in_ok-hashers.ensures.none 0, c.in_ok-hashers.ensures.kinds)
