-- The plan of a job and the heads of its inputs, or the refusal that comes first.
use Rattle.std.specs.Prelude.{List, Ok}
use Rattle.ff_frame.specs.declared.head.StreamHead.{StreamHead}
use Rattle.ff_words.specs.declared.job.Job.{Job}
use Rattle.ff_plan_layout.specs.LaidOut.{laid_out}
use Rattle.ff_plan_layout.specs.Rules.{Rules, Planned, behind}
use Rattle.ff_plan.specs.declared.planned.Plan.{Plan}
use Rattle.ff_plan.specs.Nodes.{plan_of}

abbrev pub planned : Rules → Job → List (List StreamHead) → Planned Plan
planned rules job heads = behind (laid_out rules job heads) (λ l. Ok (plan_of l))
