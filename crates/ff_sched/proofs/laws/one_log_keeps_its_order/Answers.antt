use Rattle.ff_sched.proofs.OneWorker.{one_worker}
use Rattle.ff_sched.proofs.laws.one_log_keeps_its_order.Goals as goal

pub returns : goal.returns
returns c = λ kind cell passes events pass history is only. one_worker kind cell passes events pass history is only
