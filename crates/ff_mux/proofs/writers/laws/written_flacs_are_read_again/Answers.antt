use Rattle.ff_mux.proofs.FlacFiles.{files}
use Rattle.ff_mux.proofs.FlacHeads.{fields_read, headers}
use Rattle.ff_mux.proofs.writers.laws.written_flacs_are_read_again.Goals as goal

pub returns-clause-headers : goal.returns-clause-headers
returns-clause-headers c = headers

pub returns-clause-fields : goal.returns-clause-fields
returns-clause-fields c = fields_read

pub returns-clause-files : goal.returns-clause-files
returns-clause-files c = files
