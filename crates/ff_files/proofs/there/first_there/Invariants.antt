use Rattle.ff_files.specs.Names.{files_of}
use Rattle.ff_files.specs.There.{AreFree}
use Rattle.ff_files.proofs.there.first_there.Given as goal

abbrev pub invariant-loop-k : goal.invariant-loop-k
invariant-loop-k g l = record { free : AreFree (g.H.Host.files l.host) (files_of g.N.OutputFile.file_name l.files) l.k }
