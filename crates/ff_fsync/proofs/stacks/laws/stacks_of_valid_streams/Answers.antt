use Rattle.ff_fsync.proofs.StacksLemmas.Valid.{stacks_in_shape, stacks_unbroken}
use Rattle.ff_fsync.proofs.stacks.laws.stacks_of_valid_streams.Goals as goal

pub returns : goal.returns
returns c = record { shape = stacks_in_shape; unbroken = stacks_unbroken }
