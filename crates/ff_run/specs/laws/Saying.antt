-- What the making of a plan says, and its run.
use Rattle.std.specs.Prelude.{◌≡◌, ℕ, List, Option, None, Some, Result, IfOk, IfErr, OnOk}
use Rattle.std.specs.Io.KnownBytes.{prepend_known}
use Rattle.ff_host.specs.laws.Begun.{still_in}
use Rattle.ff_host.specs.declared.begun.Begun.{Begun}
use Rattle.ff_host.specs.declared.sink.Sink.{Ghosts as SinkGhosts}
use Rattle.ff_files.specs.laws.Targets.{target_holds, target_name, target_faults}
use Rattle.ff_files.specs.declared.target.Target.{Target}
use Rattle.ff_host.specs.laws.memory.QuietEnds.{QuietReading, QuietWriting}
use Rattle.ff_words.specs.declared.job.Job.{Job}
use Rattle.ff_plan.specs.declared.planned.Plan.{Plan}
use Rattle.ff_plan_layout.specs.declared.error.PlanError.{PlanError}
use Rattle.ff_files.specs.declared.work.PlanEnd.{PlanEnd}
use Rattle.ff_files.specs.declared.work.PlanEnd.TheVariants as plan_end
use Rattle.ff_files.specs.declared.work.WorkEnd.{WorkEnd}
use Rattle.ff_files.specs.laws.Runs.{RunSays}
use Rattle.ff_run_plan.specs.declared.fault.RunFault.{RunFault}
use Rattle.ff_run_plan.specs.Kinds.{KindsOf}
use Rattle.ff_run_plan.specs.laws.Accepting.{IsPlanFor}
use Rattle.ff_run_plan.specs.declared.reads.RunLog.{RunLog}
use Rattle.ff_run_plan.specs.Meaning.{plan_for, refusal_of, means}
use Rattle.ff_run_plan.specs.Reads.{IsLogFor}

-- of a job and the heads of its inputs
pub record PlanSays {H : Type 0} (is : KindsOf H) (job : Job) (heads : List H) (result : Result Plan (PlanEnd PlanError)) : Type 0 where
  pub ok : IfOk result (λ plan. IsPlanFor is job heads plan)
  pub some : OnOk result (refusal_of is job (plan_for is job heads) ≡ None)
  pub refused : (why : PlanError) → IfErr result (λ end. end ≡ plan_end.Refused why → refusal_of is job (plan_for is job heads) ≡ Some why)

-- of a run of its plan over these sources and sinks, which are these afterwards
abbrev pub JobSays : {H S K : Type 0} → KindsOf H → (S → Option (List ℕ)) → (S → Option (List ℕ)) → (S → ℕ) → (K → Option (List ℕ)) → (K → Option (List ℕ)) → (K → ℕ)
    → Job → List H → List S → List K → WorkEnd RunFault → Option RunLog → List S → List K → Type 0
JobSays is left named failed holds called faulted job heads srcs snks end log srcs' snks' =
    RunSays (means is job) left named failed holds called faulted (IsLogFor is job heads) heads srcs snks end log srcs' snks'

-- over sources of which some bytes were read before
abbrev pub BegunSays : {H S K : Type 0} → KindsOf H → (S → Option (List ℕ)) → (S → Option (List ℕ)) → (S → ℕ) → (K → Option (List ℕ)) → (K → Option (List ℕ)) → (K → ℕ)
    → Job → List H → List (Begun S) → List K → WorkEnd RunFault → Option RunLog → List (Begun S) → List K → Type 0
BegunSays {H} {S} {K} is left named failed holds called faulted job heads srcs snks end log srcs' snks' =
    JobSays is (λ (b : Begun S). prepend_known (still_in b.bytes.items b.at) (left b.src)) (λ (b : Begun S). named b.src) (λ (b : Begun S). failed b.src) holds called faulted
    job heads srcs snks end log srcs' snks'

-- over sources in memory, and where outputs go there
abbrev pub QuietSays : {H : Type 0} {G : SinkGhosts QuietWriting} → KindsOf H → Job → List H → List (Begun QuietReading) → List (Target QuietWriting G)
    → WorkEnd RunFault → Option RunLog → List (Begun QuietReading) → List (Target QuietWriting G) → Type 0
QuietSays is job heads srcs snks end log srcs' snks' =
    BegunSays is (λ (s : QuietReading). Some s.left) (λ (s : QuietReading). Some s.name) (λ (s : QuietReading). 0)
    target_holds target_name target_faults job heads srcs snks end log srcs' snks'
