-- The clauses of a run that was done, and of one that was not begun.
use Rattle.std.proofs.Common.{◌≡◌, inl, ℕ, ◌<◌, true, Bool, List, [], length, map, slice_get, Option, Some, refl, sym, ap, ◌∙◌, subst, arith}
use Rattle.ff_stream.specs.Stream.{opened}
use Rattle.ff_stream.specs.Ports.{AllBelow}
use Rattle.ff_frame.specs.declared.head.StreamHead.{StreamHead}
use Rattle.ff_source.specs.declared.made.Made.{Made}
use Rattle.ff_words.specs.declared.job.Job.{Job}
use Rattle.ff_words.specs.declared.job.OutputJob.{OutputJob}
use Rattle.ff_stream.specs.declared.edges.edge.Edge.{Edge}
use Rattle.ff_net.specs.laws.Views.{View}
use Rattle.ff_net.specs.Ways.{Flow}
use Rattle.ff_plan.specs.declared.planned.Plan.{Plan}
use Rattle.ff_plan.specs.declared.planned.PlanNode.{PlanNode}
use Rattle.ff_plan.specs.declared.planned.PlanNode.TheVariants as node
use Rattle.ff_plan_layout.specs.declared.layout.GraphText.{GraphText}
use Rattle.ff_plan_layout.specs.Rules.{Planned}
use Rattle.ff_files.specs.declared.work.WorkEnd.{WorkEnd}
use Rattle.ff_files.specs.declared.work.WorkEnd.TheVariants as work_end
use Rattle.ff_files.specs.Works.{AreTold, HoldFiles, HoldParts, HoldsPart, KeepEnds, FailNoMore, EndsWork, sound_sources, sound_sinks}
use Rattle.ff_run_plan.specs.Asked.{Asked, asked_of}
use Rattle.ff_run_plan.specs.declared.fault.RunFault.{RunFault}
use Rattle.ff_run_plan.specs.Kinds.{KindsOf}
use Rattle.ff_run_plan.specs.laws.Claims.{tell_all}
use Rattle.ff_run_plan.specs.Meaning.{mux_node, BreaksBy, file_of, text_of, means}
use Rattle.ff_run_plan.specs.laws.Accepting.{IsPlanFor}
use Rattle.ff_run_plan.specs.Parts.{AreOrdered}
use Rattle.ff_run_plan.specs.laws.Runs.{IsDone}
use Rattle.ff_run_plan.proofs.Outcomes as outcome
use Rattle.ff_run_plan.proofs.Telling.{tells_told}

-- ---- where nothing was begun

pub ends_kept : {E : Type 0} (named : E → Option (List ℕ)) (ends : List E) → KeepEnds named ends ends
ends_kept named ends = record { as_many = refl; same_name = λ k d lt. refl }

pub none_failed : {E : Type 0} (faults : E → ℕ) (ends : List E) (count : ℕ) → FailNoMore faults ends ends count
none_failed faults ends count = λ k d lt below. refl

pub empty_parts : {S K : Type 0} (left : S → Option (List ℕ)) (holds : K → Option (List ℕ)) (srcs : List S) (snks : List K) (text : ℕ → List ℕ) (file : ℕ → Option (List ℕ)) (bytes : List (List ℕ))
    → AreTold left holds srcs snks bytes → HoldParts holds text file snks
empty_parts left holds srcs snks text file bytes told = λ j d lt. inl ([], text j, told.empty j d lt, refl)

-- ---- where it was done

module _ {H S K M : Type 0} (is : KindsOf H) (left named : S → Option (List ℕ)) (failed : S → ℕ) (holds called : K → Option (List ℕ)) (faulted : K → ℕ) (view : M → View)
    (job : Job) (plan : Plan) (heads : List H) (srcs : List S) (snks : List K) (claims : Bool) (end : WorkEnd RunFault) (srcs' : List S) (snks' : List K)
    (for : IsPlanFor is job heads plan) (src_count : length srcs ≡ length heads) (snk_count : length snks ≡ length job.outputs) (claimed : claims ≡ tell_all left holds srcs snks)
    (done : IsDone is left named failed holds called faulted view (asked_of job plan.texts plan.made plan.nodes) heads plan.edges plan.nodes srcs snks claims end srcs' snks') where
  order : AreOrdered (length srcs) (length snks) plan.nodes
  order =
      subst (λ (n : ℕ). AreOrdered n (length snks) plan.nodes) (sym src_count) (subst (λ (n : ℕ). AreOrdered (length heads) n plan.nodes) (sym snk_count) for.ordered)

  abbrev Says : WorkEnd RunFault → Type 0
  Says = outcome.Says is left named failed holds called faulted view (asked_of job plan.texts plan.made plan.nodes) heads plan.edges plan.nodes srcs snks claims done.olds done.news done.src_places done.snk_places done.fault srcs' snks' order done.run done.back

  said : Says end
  said = subst Says (sym done.end_is)
      (outcome.says is left named failed holds called faulted view (asked_of job plan.texts plan.made plan.nodes) heads plan.edges plan.nodes srcs snks claims done.olds done.news done.src_places done.snk_places done.fault srcs' snks' order done.run done.back)

  vouched : (bytes : List (List ℕ)) → AreTold left holds srcs snks bytes → claims ≡ true
  vouched bytes told = claimed ∙ tells_told left holds srcs snks bytes told

  muxes : (bytes : List (List ℕ)) (o : ℕ) → o < length snks → slice_get plan.nodes (mux_node is (asked_of job plan.texts plan.made plan.nodes) heads bytes plan.nodes plan.edges o) ≡ Some (node.Mux o)
  muxes bytes o lt = for.muxes o (subst (λ (n : ℕ). o < n) snk_count lt)

  ends_say : (e : WorkEnd RunFault) → Says e → EndsWork (means is job) failed faulted srcs snks srcs' snks' heads (AreTold left holds srcs snks) e
  ends_say work_end.Fine s = tt
  ends_say work_end.NoMemory s = tt
  ends_say (work_end.Input i) s = s.0
  ends_say (work_end.Output o) s = s.0
  ends_say (work_end.Broken why) s = λ bytes told.
      subst (λ (p : Planned Plan). BreaksBy is job p heads bytes why) (sym for.made) (s.0 bytes (vouched bytes told) told)

  sources_say : (e : WorkEnd RunFault) → Says e → FailNoMore failed srcs srcs' (sound_sources (means is job) e (length srcs))
  sources_say work_end.Fine s = s.1
  sources_say work_end.NoMemory s = s
  sources_say (work_end.Input i) s = s.1
  sources_say (work_end.Output o) s = s.1
  sources_say (work_end.Broken why) s = s.1

  sinks_say : (e : WorkEnd RunFault) → Says e → FailNoMore faulted snks snks' (sound_sinks (means is job) e (length snks))
  sinks_say work_end.Fine s = s.2
  sinks_say work_end.NoMemory s = λ o d lt below. absurd (omega (arith, below))
  sinks_say (work_end.Input i) s = λ o d lt below. absurd (omega (arith, below))
  sinks_say (work_end.Output o) s = s.2
  sinks_say (work_end.Broken why) s = λ o d lt below. absurd (omega (arith, below))

  pub all_ends : EndsWork (means is job) failed faulted srcs snks srcs' snks' heads (AreTold left holds srcs snks) end
  all_ends = ends_say end said

  pub all_sources : FailNoMore failed srcs srcs' (sound_sources (means is job) end (length srcs))
  all_sources = sources_say end said

  pub all_sinks : FailNoMore faulted snks snks' (sound_sinks (means is job) end (length snks))
  all_sinks = sinks_say end said

  pub keeps_sources : KeepEnds named srcs srcs'
  keeps_sources = outcome.keeps_sources is left named failed holds called faulted view (asked_of job plan.texts plan.made plan.nodes) heads plan.edges plan.nodes srcs snks claims done.olds done.news done.src_places done.snk_places done.fault srcs' snks' order done.run done.back

  pub keeps_sinks : KeepEnds called snks snks'
  keeps_sinks = outcome.keeps_sinks is left named failed holds called faulted view (asked_of job plan.texts plan.made plan.nodes) heads plan.edges plan.nodes srcs snks claims done.olds done.news done.src_places done.snk_places done.fault srcs' snks' order done.run done.back

  pub all_files : end ≡ work_end.Fine → (bytes : List (List ℕ)) → AreTold left holds srcs snks bytes → HoldFiles holds ((means is job).file heads bytes) snks'
  all_files fine bytes told =
      subst (λ (p : Planned Plan). HoldFiles holds (λ o. file_of is job p heads bytes o) snks') (sym for.made)
      (outcome.holds_file is left named failed holds called faulted view (asked_of job plan.texts plan.made plan.nodes) heads plan.edges plan.nodes srcs snks claims done.olds done.news done.src_places done.snk_places done.fault srcs' snks' order done.run done.back
      bytes (vouched bytes told) told for.fitting (muxes bytes) (outcome.fine_only (length heads) plan.nodes done.fault (sym done.end_is ∙ fine)))

  pub all_parts : ((out : OutputJob) (coded : List StreamHead) (held : Option (List ℕ)) (rs ss : List Flow) → AllBelow (map opened rs) ss → HoldsPart held (is.text out coded rs) (is.file out coded rs) → HoldsPart held (is.text out coded ss) (is.file out coded ss))
      → (bytes : List (List ℕ)) → AreTold left holds srcs snks bytes → HoldParts holds ((means is job).text heads bytes) ((means is job).file heads bytes) snks'
  all_parts holds_on bytes told =
      subst (λ (p : Planned Plan). HoldParts holds (λ o. text_of is job p heads bytes o) (λ o. file_of is job p heads bytes o) snks') (sym for.made)
      (outcome.holds_part is left named failed holds called faulted view (asked_of job plan.texts plan.made plan.nodes) heads plan.edges plan.nodes srcs snks claims done.olds done.news done.src_places done.snk_places done.fault srcs' snks' order done.run done.back
      bytes (vouched bytes told) told for.fitting (muxes bytes) holds_on)

-- by the parts of the plan and of the job
pub asked_same : (job : Job) (texts texts' : List GraphText) (made made' : List Made) (nodes nodes' : List PlanNode) → texts ≡ texts' → made ≡ made' → nodes ≡ nodes'
    → asked_of job texts made nodes ≡ asked_of job texts' made' nodes'
asked_same job texts texts' made made' nodes nodes' t m n =
    ap (λ (x : List GraphText). asked_of job x made nodes) t ∙ (ap (λ (x : List Made). asked_of job texts' x nodes) m ∙ ap (asked_of job texts' made') n)

pub done_for : {H S K M : Type 0} (is : KindsOf H) (left named : S → Option (List ℕ)) (failed : S → ℕ) (holds called : K → Option (List ℕ)) (faulted : K → ℕ) (view : M → View)
    (asked asked' : Asked) (heads : List H) (edges edges' : List Edge) (nodes nodes' : List PlanNode) (srcs : List S) (snks : List K) (claims : Bool) (end : WorkEnd RunFault) (srcs' : List S) (snks' : List K)
    → asked ≡ asked' → edges ≡ edges' → nodes ≡ nodes' → IsDone is left named failed holds called faulted view asked heads edges nodes srcs snks claims end srcs' snks'
    → IsDone is left named failed holds called faulted view asked' heads edges' nodes' srcs snks claims end srcs' snks'
done_for is left named failed holds called faulted view asked asked' heads edges edges' nodes nodes' srcs snks claims end srcs' snks' o e n h =
    subst (λ (x : Asked). IsDone is left named failed holds called faulted view x heads edges' nodes' srcs snks claims end srcs' snks') o
    (subst (λ (x : List Edge). IsDone is left named failed holds called faulted view asked heads x nodes' srcs snks claims end srcs' snks') e
    (subst (λ (x : List PlanNode). IsDone is left named failed holds called faulted view asked heads edges x srcs snks claims end srcs' snks') n h))
