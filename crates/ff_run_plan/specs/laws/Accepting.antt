-- What the heads of a job's inputs have to be, and what a plan for them is.
use Rattle.std.specs.Prelude.{◌≡◌, ℕ, ◌+◌, ◌-◌, ◌^◌, ◌<◌, ◌≤◌, List, All, length, slice_get, Some, Ok}
use Rattle.std.specs.List.{AllByRecursion}
use Rattle.ff_words.specs.declared.job.Job.{Job}
use Rattle.ff_net_threads.specs.network.Fits.{AreFit, ports_by}
use Rattle.ff_plan.specs.declared.planned.Plan.{Plan}
use Rattle.ff_plan.specs.declared.planned.PlanNode.TheVariants as node
use Rattle.ff_sched.specs.laws.Routes.{AreRoutes}
use Rattle.ff_run_plan.specs.Asked.{asked_of}
use Rattle.ff_run_plan.specs.Kinds.{KindsOf}
use Rattle.ff_run_plan.specs.Meaning.{plan_for}
use Rattle.ff_run_plan.specs.Parts.{AreBelow, AreFitting, AreOrdered, HaveNumbers}

module _ {H : Type 0} (is : KindsOf H) (job : Job) where
  -- one head that was read for each input of a job within its limits
  pub record IsAccepted (heads : List H) : Type 0 where
    pub count : length heads ≡ length job.inputs
    pub sound : All is.IsHead heads
    pub few_inputs : length job.inputs ≤ 16
    pub some_outputs : 1 ≤ length job.outputs
    pub few_outputs : length job.outputs ≤ 16
    pub few_maps : AllByRecursion (λ out. length out.maps ≤ 16) job.outputs
    pub queue : (1 ≤ job.queue) × (job.queue ≤ 1024)

  -- the plan for these heads, with edges and nodes that can be built
  pub record IsPlanFor (heads : List H) (plan : Plan) : Type 0 where
    pub made : plan_for is job heads ≡ Ok plan
    pub few : (length plan.nodes < 2 ^ 16) × (length heads < 2 ^ 32)
    pub queue : (1 ≤ job.queue) × (job.queue ≤ 1024)
    pub routes : AreRoutes plan.routes
    pub sources : plan.routes.sources ≡ length heads + length plan.made
    pub below : AreBelow plan.routes.sources plan.nodes
    pub fits : AreFit (ports_by plan.edges) (length plan.nodes) plan.edges
    pub fitting : AreFitting is (asked_of job plan.texts plan.made plan.nodes) heads plan.edges plan.nodes
    pub numbers : HaveNumbers (asked_of job plan.texts plan.made plan.nodes) plan.edges plan.nodes
    pub ordered : AreOrdered (length heads) (length job.outputs) plan.nodes
    pub muxes : (o : ℕ) → o < length job.outputs → slice_get plan.nodes ((length plan.nodes - length job.outputs) + o) ≡ Some (node.Mux o)
