use Rattle.ff_concat.proofs.Wholes.{wholes_valid}
use Rattle.ff_concat.proofs.laws.valid_inputs_make_valid_outputs.Goals as goal

pub returns : goal.returns
returns c heads n q d ss all fed lt = wholes_valid heads n q d ss all fed lt
