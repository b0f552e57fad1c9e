use Rattle.ff_filter.proofs.ShiftSound.{shift_sound}
use Rattle.ff_filter.proofs.laws.shared_functions_are_sound.Goals as goal

pub returns-clause-same : goal.returns-clause-same
returns-clause-same c lane = record { shape = λ s v. v.shape; unbroken = λ s v u. u }

pub returns-clause-shifted : goal.returns-clause-shifted
returns-clause-shifted c head = shift_sound head
