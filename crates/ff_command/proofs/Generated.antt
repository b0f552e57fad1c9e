-- The run over generated input answers as its one job over its own files.
use Rattle.std.proofs.Common.{◌≡◌, ◌≢◌, ◌⊎◌, inl, inr, ℕ, Bool, true, false, List, [], ◌∷◌, Option, Some, None, IsSome, IsTrue, IfSome, IfOk, Vec, Global, Result, Ok, refl, sym, ap, subst, ◌∙◌, arith}
use Rattle.std.specs.Prelude.{codes}
use Rattle.ff_host.specs.Causes.{Rose}
use Rattle.ff_host.specs.Files.{Files}
use Rattle.ff_words.specs.declared.error.Fault.{Fault}
use Rattle.ff_words.specs.declared.error.WordKind.{WordKind}
use Rattle.ff_words.specs.declared.job.Command.{Command}
use Rattle.ff_words.specs.declared.job.Command.TheVariants.{Run}
use Rattle.ff_words.specs.declared.job.Job.{Job}
use Rattle.ff_words.specs.declared.job.Solo.TheVariants.{SelfRun}
use Rattle.ff_words.specs.laws.Bounds.{IsBounded}
use Rattle.ff_words.specs.Words.{written}
use Rattle.ff_words.proofs.Unique.{answer-one}
use Rattle.ff_input.specs.Formats.{InputHead}
use Rattle.ff_plan_layout.specs.declared.error.PlanError.{PlanError}
use Rattle.ff_run_plan.specs.declared.fault.RunFault.{RunFault}
use Rattle.ff_files.specs.Counts.{Counts, RoseUnder}
use Rattle.ff_files.specs.Names.{Name, name_at}
use Rattle.ff_files.specs.Works.{Meaning, HasLog, meaning}
use Rattle.ff_files.specs.Ends.{IsFirstRefused, HasNoPlan, CanBeDone}
use Rattle.ff_selfrun.specs.SelfRun.{IsOwnJob, own_files, own_line, own_words}
use Rattle.ff_selfrun.proofs.Own.{own_job, own-read, own-replaces}
use Rattle.ff_command.specs.declared.report.FileRef.{FileRef}
use Rattle.ff_command.specs.declared.report.FileRef.TheVariants.{Input, Output, Trace}
use Rattle.ff_command.specs.declared.report.Status.{Status}
use Rattle.ff_command.specs.declared.report.Status.TheVariants as status
use Rattle.ff_command.specs.Command.{over, ComesOf, IsGeneratedText, IsOwnAnswer, IsReported, ReportsOwn}
use Rattle.ff_command.specs.Steps.{Ran}
use Rattle.ff_command.proofs.Reports.{has_more}

-- there is one such job
own-one : (job other : Job) → IsOwnJob job → IsOwnJob other → job ≡ other
own-one job other a b = (let same : (let x : Result Command Fault = Ok (Run job) in x) ≡ Ok (Run other) = answer-one own_words (Ok (Run job)) (Ok (Run other)) a b in cc)

-- counts that stay 0
abbrev pub quiet : Counts
quiet = record { before = λ name. 0; after = λ name. 0 }

not-kept : (b : Bool) → IsTrue b → b ≡ false → ⊥
not-kept true is e = cc
not-kept false is e = cc

never-rose : Rose 0 0 → ⊥
never-rose h = omega (arith, h)

never-under : (name : Name) → RoseUnder quiet.before quiet.after name → ⊥
never-under None h = h
never-under (Some name) h = never-rose h

pub same_seconds : (n m : ℕ) → SelfRun n ≡ SelfRun m → n ≡ m
same_seconds n m e = cc

-- a text that is told is the one that was made
pub text_told : {E : Type 0} (Is : List ℕ → Type 0) (made : Result (Vec ℕ Global) E) (told : Option (Vec ℕ Global)) (answer : Status) → IfOk made (λ text. Is text.items)
    → IfSome told (λ text. (made ≡ Ok text) × (answer ≡ status.Fine)) → IfSome told (λ text. Is text.items × (answer ≡ status.Fine))
text_told {E} Is made None answer is h = tt
text_told {E} Is made (Some text) answer is h = (subst (λ r. IfOk r (λ t. Is t.items)) h.0 is, h.1)

module _ (means : Job → Meaning InputHead PlanError RunFault) where
  comes-of : (job : Job) (files after : Files) (answer : Status) → job.keeps ≡ false → IsBounded job → Ran means job (Some files) (Some after) quiet quiet answer → ComesOf means job files answer
  comes-of job files after status.Fine free bounded r = (r.bytes refl 0 (omega (arith, bounded.some_outputs))).0
  comes-of job files after (status.Words place kind) free bounded r = r.comes
  comes-of job files after (status.Plan why) free bounded r = (λ e. r.plan_memory (ap (λ w. status.Plan w) e), r.comes)
  comes-of job files after (status.Device (Input i)) free bounded r = never-under _ r.comes.1.0.1
  comes-of job files after (status.Device (Output o)) free bounded r = elim r.comes.1 [
    | inl kept ↦ not-kept job.keeps kept.0 free
    | inr failed ↦ never-under _ failed.0.1
  ]
  comes-of job files after (status.Device Trace) free bounded r = elim r.comes.1 [
    | inl kept ↦ not-kept job.keeps kept.0 free
    | inr failed ↦ never-rose failed.0
  ]
  comes-of job files after (status.Damaged k offset) free bounded r = elim r.comes [
    | inl head ↦ inl head.0
    | inr run ↦ inr run
  ]
  comes-of job files after (status.TooLong node) free bounded r = r.comes
  comes-of job files after (status.Unsupported k offset) free bounded r = r.comes
  comes-of job files after (status.TooLarge output) free bounded r = r.comes
  comes-of job files after status.NoMemory free bounded r = tt

  pub own_ran : (seconds : ℕ) (job : Job) (files after : Files) (answer : Status) → IsOwnJob job → IsBounded job → files ≡ own_files seconds
      → Ran means job (Some files) (Some after) quiet quiet answer → IsOwnAnswer means seconds answer
  own_ran seconds job files after answer own bounded is ran =
      let r = subst (λ f. Ran means job (Some f) (Some after) quiet quiet answer) is ran in
      let free : job.keeps ≡ false = ap (λ (j : Job). j.keeps) (own-one job own_job own own-read) ∙ own-replaces in
      record {
        comes = (job, own, comes-of job (own_files seconds) after answer free bounded r);
        refused = λ k why g.
            r.no_head (inl free) k why (subst (λ j. IsFirstRefused (over means j) (Some (own_files seconds)) k why) (own-one g.0 job g.1 own) g.2) (λ i low failed. never-under _ failed.1);
        no_plan = λ why g.
            r.no_plan (inl free) why (subst (λ j. HasNoPlan (over means j) (Some (own_files seconds)) why) (own-one g.0 job g.1 own) g.2) (λ i failed. never-under _ failed.1);
        complete = λ g.
            r.complete (inl free) (subst (λ j. CanBeDone (over means j) (Some (own_files seconds))) (own-one g.0 job g.1 own) g.2) (λ i failed. never-under _ failed.1) (λ o failed. never-under _ failed.1);
      }

  pub own_none : (seconds : ℕ) (answer : Status) → answer ≡ status.NoMemory → IsOwnAnswer means seconds answer
  own_none seconds answer is =
      record {
        comes = (own_job, own-read, subst (λ s. ComesOf means own_job (own_files seconds) s) (sym is) tt);
        refused = λ k why g. inr is;
        no_plan = λ why g. inr is;
        complete = λ g. inr is;
      }

  -- what its one output holds
  pub own_bytes : (seconds : ℕ) (job : Job) (files after : Files) → IsBounded job → files ≡ own_files seconds → written job ≡ Some (codes "out") ∷ []
      → Ran means job (Some files) (Some after) quiet quiet status.Fine
      → IsSome (meaning (over means job) (own_files seconds) 0) × (after (codes "out") ≡ meaning (over means job) (own_files seconds) 0)
  own_bytes seconds job files after bounded is named ran =
      let r = subst (λ f. Ran means job (Some f) (Some after) quiet quiet status.Fine) is ran in
      let held = r.bytes refl 0 (omega (arith, bounded.some_outputs)) in
      (held.0, subst (λ names. IfSome (name_at names 0) (λ n. after n ≡ meaning (over means job) (own_files seconds) 0)) named held.1)

  -- the words of the job are right, nothing fails, and want of memory is a status of its own
  pub no-words : (seconds : ℕ) (answer : Status) → IsOwnAnswer means seconds answer → (place : ℕ) (kind : WordKind) → answer ≢ status.Words place kind
  no-words seconds answer own place kind e = subst (λ s. ComesOf means own.comes.0 (own_files seconds) s) e own.comes.2

  pub no-device : (seconds : ℕ) (answer : Status) → IsOwnAnswer means seconds answer → (file : FileRef) → answer ≢ status.Device file
  no-device seconds answer own file e = subst (λ s. ComesOf means own.comes.0 (own_files seconds) s) e own.comes.2

  pub no-memory : (seconds : ℕ) (answer : Status) → IsOwnAnswer means seconds answer → answer ≢ status.Plan PlanError.NoMemory
  no-memory seconds answer own e = (subst (λ s. ComesOf means own.comes.0 (own_files seconds) s) e own.comes.2).0 refl

  -- it ends with its line, or without memory for that
  pub own_ended : (seconds : ℕ) (job : Job) (files after : Files) (answer final : Status) → IsOwnJob job → IsBounded job → files ≡ own_files seconds
      → Ran means job (Some files) (Some after) quiet quiet answer → answer ≡ status.Fine → (final ≡ status.Fine) ⊎ (final ≡ status.NoMemory) → IsOwnAnswer means seconds final
  own_ended seconds job files after answer final own bounded is ran fine (inl done) =
      subst (IsOwnAnswer means seconds) (fine ∙ sym done) (own_ran seconds job files after answer own bounded is ran)
  own_ended seconds job files after answer final own bounded is ran fine (inr none) = own_none seconds final none

  -- there is what its one output holds
  pub own_there : (seconds : ℕ) (job : Job) (files after : Files) (answer : Status) → IsBounded job → files ≡ own_files seconds → written job ≡ Some (codes "out") ∷ []
      → Ran means job (Some files) (Some after) quiet quiet answer → answer ≡ status.Fine → IsSome (after (codes "out"))
  own_there seconds job files after answer bounded is named ran fine =
      let held = own_bytes seconds job files after bounded is named (subst (λ s. Ran means job (Some files) (Some after) quiet quiet s) fine ran) in
      subst IsSome (sym held.1) held.0

  -- and its line tells of that
  pub own_told : (seconds : ℕ) (job : Job) (files after : Files) (answer final : Status) → IsOwnJob job → IsBounded job → files ≡ own_files seconds → written job ≡ Some (codes "out") ∷ []
      → Ran means job (Some files) (Some after) quiet quiet answer → answer ≡ status.Fine → (told : Option (Vec ℕ Global))
      → IfSome told (λ text. (final ≡ status.Fine) × ((bytes : List ℕ) × (after (codes "out") ≡ Some bytes) × (text.items ≡ own_line seconds bytes)))
      → IfSome told (λ text. IsGeneratedText means seconds text.items × (final ≡ status.Fine))
  own_told seconds job files after answer final own bounded is named ran fine None h = tt
  own_told seconds job files after answer final own bounded is named ran fine (Some text) h =
      let held = own_bytes seconds job files after bounded is named (subst (λ s. Ran means job (Some files) (Some after) quiet quiet s) fine ran) in
      ((job, own, (h.1.0, sym held.1 ∙ h.1.1, h.1.2)), h.0)

  -- what it has logged is of that job and its files
  pub own_logged : {L : Type 0} (T : Job → List InputHead → Option (List (List ℕ)) → L → Type 0) (seconds : ℕ) (job : Job) (files : Files) → IsOwnJob job → files ≡ own_files seconds
      → (run log : Option L) → run ≡ log → HasLog (IsReported (over means job) (T job) (Some files)) log → HasLog (ReportsOwn means T seconds) run
  own_logged {L} T seconds job files own is run log same h =
      subst (HasLog (ReportsOwn means T seconds)) (sym same)
      (has_more (IsReported (over means job) (T job) (Some files)) (ReportsOwn means T seconds) log (λ l told. (job, own, subst (λ f. IsReported (over means job) (T job) (Some f) l) is told)) h)
