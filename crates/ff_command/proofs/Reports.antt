-- What is reported of a run, by what it has logged.
use Rattle.std.proofs.Common.{◌≡◌, inl, inr, ℕ, List, length, Option, None, Some, IfSome, sym, subst, ◌∙◌}
use Rattle.std.specs.Prelude.{◌↔◌}
use Rattle.ff_frame.specs.declared.event.Event.{Event}
use Rattle.ff_words.specs.declared.error.WordError.{WordError}
use Rattle.ff_words.specs.declared.error.WordError.TheVariants.{At, NoMemory}
use Rattle.ff_host.specs.Files.{Files}
use Rattle.ff_host.specs.declared.host.HostError.{HostError}
use Rattle.ff_host.specs.declared.host.HostError.TheVariants as host_error
use Rattle.ff_input.specs.Formats.{InputHead}
use Rattle.ff_plan_layout.specs.declared.error.PlanError.{PlanError}
use Rattle.ff_run_plan.specs.declared.fault.RunFault.{RunFault}
use Rattle.ff_words.specs.declared.job.Job.{Job}
use Rattle.ff_words.specs.Words.{written}
use Rattle.ff_files.specs.Counts.{Counts}
use Rattle.ff_files.specs.Ends.{end_of_output}
use Rattle.ff_files.proofs.Creations.{creates_as}
use Rattle.ff_files.specs.Works.{Meaning, HasLog}
use Rattle.ff_command.specs.declared.report.Line.{Line}
use Rattle.ff_command.specs.declared.report.Line.TheVariants as became
use Rattle.ff_command.specs.declared.report.Status.{Status}
use Rattle.ff_command.specs.declared.report.Status.TheVariants as status
use Rattle.ff_command.specs.Command.{KeepsInputs, KeepsOutputs, KeepsInputCounts, KeepsOutputCounts}
use Rattle.ff_command.specs.Histories.{history_in, reads_in}
use Rattle.ff_run_plan.specs.declared.reads.RunLog.{RunLog}
use Rattle.ff_run_plan.specs.Reads.{places_in}
use Rattle.ff_command.specs.Steps.{wrong_words, status_of, CreatesAsked}

-- what is so of a log is so of it in other words
pub has_more : {L : Type 0} (P Q : L → Type 0) (o : Option L) → ((l : L) → P l → Q l) → HasLog P o → HasLog Q o
has_more P Q None f h = h
has_more P Q (Some l) f h = f l h

pub if_some_more : {L : Type 0} (P Q : L → Type 0) (o : Option L) → ((l : L) → P l → Q l) → IfSome o P → IfSome o Q
if_some_more P Q None f h = tt
if_some_more P Q (Some l) f h = f l h

-- and of the history and the reads that are reported
pub reported_history : (P : List Event → Type 0) (o : Option RunLog) → HasLog (λ log. P log.history) o → P (history_in o)
reported_history P None h = absurd h
reported_history P (Some log) h = h

pub reported_reads : (P : List Event → List (List ℕ) → Type 0) (o : Option RunLog) → HasLog (λ log. P log.history (places_in log.reads.items)) o → P (history_in o) (reads_in o)
reported_reads P None h = absurd h
reported_reads P (Some log) h = h

pub also_reported : (P : RunLog → Type 0) (Q : List Event → Type 0) (o : Option RunLog) → HasLog P o → IfSome o (λ log. Q log.history) → Q (history_in o)
also_reported P Q None h q = absurd h
also_reported P Q (Some log) h q = q

-- wrong words are no end that is fine
pub never_fine : (error : WordError) → wrong_words error ≡ status.Fine → ⊥
never_fine (At place kind) e = cc
never_fine NoMemory e = cc

-- ---- where there was no memory to log a text that was asked for

pub not_fine : (answer : Status) → answer ≡ status.NoMemory → answer ≡ status.Fine → ⊥
not_fine answer is fine = (let both : status.NoMemory ≡ status.Fine = sym is ∙ fine in cc)

is_due : (line : Line) → line ≡ became.NoMemory → line ≡ became.NotDue → ⊥
is_due line at quiet = (let both : became.NoMemory ≡ became.NotDue = sym at ∙ quiet in cc)

pub untold_due : (A : Type 0) (answer : Status) (line : Line) → answer ≡ status.NoMemory → line ≡ became.NoMemory → (line ≡ became.NotDue) ↔ ((answer ≡ status.Fine) × A)
untold_due A answer line is at = (λ quiet. absurd (is_due line at quiet), λ asked. absurd (not_fine answer is asked.0))

refused_fine : (n k : ℕ) (why : HostError) → status_of n (end_of_output k why) ≡ status.Fine → ⊥
refused_fine n k host_error.NoMemory e = cc
refused_fine n k host_error.Failed e = cc

-- all was done, so every output was created that words asked for, whatever is answered then
pub created_same : (words : List (List ℕ)) (created : List ℕ → Type 0) (before after : Option Files) (outs : Counts) (answer final : Status) → answer ≡ status.Fine
    → CreatesAsked words created before after outs answer → CreatesAsked words created before after outs final
created_same words created before after outs answer final is h = elim h [
  | inl same ↦ inl same
  | inr asks ↦
      let n = length asks.0.outputs in
      inr (asks.0, asks.1, creates_as (written asks.0) created (λ k why. answer ≡ status_of n (end_of_output k why)) (λ k why. final ≡ status_of n (end_of_output k why)) before after outs (λ k why e. absurd (refused_fine n k why (sym e ∙ is))) asks.2)
]

-- all was done, so no count has risen, whatever is answered then
module _ (means : Job → Meaning InputHead PlanError RunFault) (words : List (List ℕ)) (before : Option Files) where
  pub ins_same : (ins : Counts) (answer final : Status) → answer ≡ status.Fine → KeepsInputCounts means words before ins answer → KeepsInputCounts means words before ins final
  ins_same ins answer final is (inl same) = inl same
  ins_same ins answer final is (inr asks) = inl (subst (λ s. KeepsInputs means asks.0 before ins s) is asks.2)

  pub outs_same : (outs : Counts) (answer final : Status) → answer ≡ status.Fine → KeepsOutputCounts means words before outs answer → KeepsOutputCounts means words before outs final
  outs_same outs answer final is (inl same) = inl same
  outs_same outs answer final is (inr asks) = inl (subst (λ s. KeepsOutputs means asks.0 before outs s) is asks.2)
