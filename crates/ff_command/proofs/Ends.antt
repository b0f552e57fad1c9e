-- How a job ends, as its status says, by how the work over its files ends.
use Rattle.std.proofs.Common.{◌≡◌, ◌≢◌, ◌⊎◌, inl, inr, ℕ, zero, suc, ◌<◌, ◌≤◌, Bool, true, false, if◌then◌else◌, nat_lt, List, [], ◌∷◌, ◌++◌, length, map, Option, Some, None, IsSome, IfSome, IsTrue, refl, sym, ap, subst, ◌∙◌, arith}
use Rattle.std.proofs.lemmas.Bool.Decides.{nat_tests}
use Rattle.std.specs.Prelude.{option_to_list, unwrap_or}
use Rattle.ff_frame.specs.declared.event.Event.{Event}
use Rattle.ff_sched.specs.Printing.{printed}
use Rattle.ff_host.specs.Causes.{Rose, SameCounts}
use Rattle.ff_host.specs.Files.{Files, KeepsFiles}
use Rattle.ff_reader.specs.declared.fault.HeadFault.{HeadFault}
use Rattle.ff_reader.specs.declared.fault.HeadFault.TheVariants as fault
use Rattle.ff_words.specs.declared.job.InputJob.{InputJob}
use Rattle.ff_words.specs.declared.job.Job.{Job}
use Rattle.ff_input.specs.Formats.{InputHead}
use Rattle.ff_plan_layout.specs.declared.error.PlanError.{PlanError}
use Rattle.ff_plan_layout.specs.declared.error.PlanError.TheVariants as why
use Rattle.ff_run_plan.specs.declared.fault.RunFault.{RunFault}
use Rattle.ff_run_plan.specs.declared.fault.RunFault.TheVariants as run_fault
use Rattle.ff_files.specs.Names.{Name, name_at, names_of, KeepsAllBut}
use Rattle.ff_files.specs.There.{AreFree, IsFreeOf, IsThere, IsFirstThere}
use Rattle.ff_files.specs.Counts.{Counts, Faulted, KeepsCounts, RoseUnder}
use Rattle.ff_input.specs.Formats.{input_head}
use Rattle.ff_files.specs.Works.{Meaning, Command, HoldMeaning, HoldTrace, HoldsWritten, HoldWritten}
use Rattle.ff_files.specs.Ends as ends
use Rattle.ff_files.specs.Ends.{Ends, IsPlanned, IsFirstRefused, HasNoPlan, CanBeDone, refusal, sound_inputs, sound_outputs}
use Rattle.ff_files.specs.declared.end.RunEnd.{RunEnd}
use Rattle.ff_files.specs.declared.end.RunEnd.TheVariants as run_end
use Rattle.ff_files.proofs.Lists.{names_len, files_len, if_is}
use Rattle.ff_files.proofs.Steps.{files_same}
use Rattle.ff_words.specs.Words.{output_file, written}
use Rattle.ff_command.specs.declared.report.FileRef.{FileRef}
use Rattle.ff_command.specs.declared.report.FileRef.TheVariants as FileRefs
use Rattle.ff_command.specs.declared.report.FileRef.TheVariants.{Output, Trace}
use Rattle.ff_command.specs.declared.report.Status.{Status}
use Rattle.ff_command.specs.declared.report.Status.TheVariants as status
use Rattle.ff_command.specs.Command.{input_names, output_names, HasFile, HasFailed, HoldsPrinted, ComesBeforeOutputs, IsKept, IsToldKept, MayWrite, refused_head, refused_plan, over, KeepsInputs, KeepsOutputs}
use Rattle.ff_command.specs.Steps.{written_file, status_of, Comes, IsFree, Ran}

abbrev End : Type 0
End = RunEnd PlanError RunFault

-- what is so of the status of each refusal and of want of memory is so of that of any refusal
by-plan : (P : Status → Type 0) → ((w : PlanError) → P (status.Plan w)) → P status.NoMemory → (w : PlanError) → P (refused_plan w)
by-plan P each none (why.NoStream output map) = each (why.NoStream output map)
by-plan P each none (why.NoStreams output) = each (why.NoStreams output)
by-plan P each none (why.UnknownLabel label) = each (why.UnknownLabel label)
by-plan P each none (why.UnusedLabel label) = each (why.UnusedLabel label)
by-plan P each none (why.LabelTwice label) = each (why.LabelTwice label)
by-plan P each none (why.Loop graph) = each (why.Loop graph)
by-plan P each none (why.Config graph filter error) = each (why.Config graph filter error)
by-plan P each none (why.Takes output stream) = each (why.Takes output stream)
by-plan P each none why.TooManyStreams = each why.TooManyStreams
by-plan P each none why.TooManyGraphs = each why.TooManyGraphs
by-plan P each none why.TooManySources = each why.TooManySources
by-plan P each none why.NoMemory = none

not-memory : (w : PlanError) → refused_plan w ≢ status.Plan why.NoMemory
not-memory (why.NoStream output map) e = cc
not-memory (why.NoStreams output) e = cc
not-memory (why.UnknownLabel label) e = cc
not-memory (why.UnusedLabel label) e = cc
not-memory (why.LabelTwice label) e = cc
not-memory (why.Loop graph) e = cc
not-memory (why.Config graph filter error) e = cc
not-memory (why.Takes output stream) e = cc
not-memory why.TooManyStreams e = cc
not-memory why.TooManyGraphs e = cc
not-memory why.TooManySources e = cc
not-memory why.NoMemory e = cc

-- counts of all names are what they were
all-counts : {N : Type 0} (name : N → List ℕ) (files : List N) (before now : List ℕ → ℕ) (count : ℕ) → length files ≡ count → KeepsCounts before now (names_of name files) count → SameCounts before now
all-counts name files before now count many k = λ n. k n (λ j below is. subst (λ c. j < c) (names_len name files ∙ many) below)

-- a written file is an output, or the trace
by-file : (P : FileRef → Type 0) (o count : ℕ) → (o < count → P (Output o)) → (count ≤ o → P Trace) → P (written_file count o)
by-file P o count f g = by-test (nat_lt o count) refl
  where
    by-test : (b : Bool) → nat_lt o count ≡ b → P (if b then Output o else Trace)
    by-test true e = f (grind (arith, nat_tests, e))
    by-test false e = g (grind (arith, nat_tests, e))

front-name : (names more : List Name) (o : ℕ) → o < length names → name_at (names ++ more) o ≡ name_at names o
front-name [] more o lt = absurd (omega (arith, lt))
front-name (n ∷ ns) more zero lt = refl
front-name (n ∷ ns) more (suc o) lt = front-name ns more o (omega (arith, lt))

-- that of the trace, as one of what is written
abbrev traced : Option (List ℕ) → List Name
traced trace = map (λ (name : List ℕ). Some name) (option_to_list trace)

-- the name behind those of the outputs is that of the trace
trace-name : (names : List Name) (trace : Option (List ℕ)) (o : ℕ) → length names ≤ o → o < length (names ++ traced trace) → IsSome trace × (name_at (names ++ traced trace) o ≡ trace)
trace-name [] None o le lt = absurd (omega (arith, lt))
trace-name [] (Some t) zero le lt = (refl, refl)
trace-name [] (Some t) (suc o) le lt = absurd (omega (arith, lt))
trace-name (n ∷ ns) trace zero le lt = absurd (omega (arith, le))
trace-name (n ∷ ns) trace (suc o) le lt = trace-name ns trace o (omega (arith, le)) (omega (arith, lt))

-- and the place of the trace is the one behind those of the outputs
trace-place : (names : List Name) (trace : Option (List ℕ)) (o : ℕ) → length names ≤ o → o < length (names ++ traced trace) → o ≡ length names
trace-place [] None o le lt = absurd (omega (arith, lt))
trace-place [] (Some t) zero le lt = refl
trace-place [] (Some t) (suc o) le lt = absurd (omega (arith, lt))
trace-place (n ∷ ns) trace zero le lt = absurd (omega (arith, le))
trace-place (n ∷ ns) trace (suc o) le lt = ap suc (trace-place ns trace o (omega (arith, le)) (omega (arith, lt)))

-- ---- what is there, and is kept

not-both : (b : Bool) → IsTrue b → b ≡ false → ⊥
not-both true is e = cc
not-both false is e = cc

not-there : (file : Option (List ℕ)) → IsSome file → file ≡ None → ⊥
not-there None there none = cc
not-there (Some bytes) there none = cc

not-free : (files : Files) (name : Name) → IsThere (Some files) name → IsFreeOf (Some files) name → ⊥
not-free files None there free = there
not-free files (Some n) there free = not-there (files n) there free

-- a job without a file that it keeps keeps none
not-kept : (job : Job) (files : Option Files) (file : FileRef) → IsFree job files → IsToldKept job files file → ⊥
not-kept job None file free kept = kept
not-kept job (Some files) (FileRefs.Input i) free kept = kept
not-kept job (Some files) (Output o) (inl never) kept = not-both job.keeps kept.0 never
not-kept job (Some files) (Output o) (inr free) kept = not-free files (name_at (written job) o) kept.2.there (free o kept.2.named)
not-kept job (Some files) Trace (inl never) kept = not-both job.keeps kept.0 never
not-kept job (Some files) Trace (inr free) kept =
    not-free files (name_at (written job) (length job.outputs)) kept.1.there (free (length job.outputs) kept.1.named)

-- where it keeps one it may not write
may-not : (job : Job) (files : Option Files) (k : ℕ) → IsTrue job.keeps → IsFirstThere files (written job) k → MayWrite job files → ⊥
may-not job None k keeps first never = not-both job.keeps keeps never
may-not job (Some files) k keeps first (inl never) = not-both job.keeps keeps never
may-not job (Some files) k keeps first (inr free) = not-free files (name_at (written job) k) first.there (free k first.named)

-- and there is one first
first-one : (files : Files) (names : List Name) (j k : ℕ) → IsFirstThere (Some files) names j → IsFirstThere (Some files) names k → j ≡ k
first-one files names j k a b = by-test (nat_lt j k) (nat_lt k j) refl refl
  where
    by-test : (less more : Bool) → nat_lt j k ≡ less → nat_lt k j ≡ more → j ≡ k
    by-test true more e f = absurd (not-free files (name_at names j) a.there (b.before j (grind (arith, nat_tests, e))))
    by-test false true e f = absurd (not-free files (name_at names k) b.there (a.before k (grind (arith, nat_tests, f))))
    by-test false false e f = grind (arith, nat_tests, e, f)

is-output : (count o : ℕ) → o < count → written_file count o ≡ Output o
is-output count o lt = by-file (λ file. file ≡ Output o) o count (λ l. refl) (λ le. absurd (omega (arith, lt, le)))

is-trace : (count : ℕ) → written_file count count ≡ Trace
is-trace count = by-file (λ file. file ≡ Trace) count count (λ l. absurd (omega (arith, l))) (λ le. refl)

-- of files that are told it is this one
kept-one : (job : Job) (files : Option Files) (k : ℕ) (file : FileRef) → IsFirstThere files (written job) k → IsToldKept job files file → written_file (length job.outputs) k ≡ file
kept-one job None k file first kept = absurd kept
kept-one job (Some files) k (FileRefs.Input i) first kept = absurd kept
kept-one job (Some files) k (Output o) first kept =
    subst (λ n. written_file (length job.outputs) n ≡ Output o) (first-one files (written job) o k kept.2 first) (is-output (length job.outputs) o kept.1)
kept-one job (Some files) k Trace first kept =
    subst (λ n. written_file (length job.outputs) n ≡ Trace) (first-one files (written job) (length job.outputs) k kept.1 first) (is-trace (length job.outputs))

module _ (means : Job → Meaning InputHead PlanError RunFault) (job : Job) (before after : Option Files) (ins outs : Counts) where
  abbrev pub with : List InputJob → List Name → ℕ → Command InputJob InputHead PlanError RunFault
  with inputs names count =
      record { name = λ (i : InputJob). i.name; head = λ (i : InputJob). input_head i.format; inputs = inputs; outputs = names; count = count; means = means job }

  -- how the work over these files ended
  pub record EndedOver (inputs : List InputJob) (names : List Name) (count : ℕ) (end : End) : Type 0 where
    pub bytes : end ≡ run_end.Fine → HoldMeaning (with inputs names count) before after
    pub front : HoldWritten (with inputs names count) before after
    pub others : KeepsAllBut before after names (length names)
    pub untouched : ends.ComesBeforeOutputs end → KeepsFiles before after
    pub ends : Ends (with inputs names count) before ins outs end
    pub in_counts : KeepsCounts ins.before ins.after (names_of (λ (i : InputJob). i.name) inputs) (sound_inputs (with inputs names count) end)
    pub out_counts : KeepsCounts outs.before outs.after names (sound_outputs (with inputs names count) end)
    pub refused : (k : ℕ) (w : HeadFault) → IsFirstRefused (with inputs names count) before k w
        → ((i : ℕ) → i ≤ k → Faulted ins (names_of (λ (x : InputJob). x.name) inputs) i → ⊥) → (end ≡ refusal k w) ⊎ (end ≡ run_end.NoMemory)
    pub no_plan : (w : PlanError) → HasNoPlan (with inputs names count) before w → ((i : ℕ) → Faulted ins (names_of (λ (x : InputJob). x.name) inputs) i → ⊥)
        → (end ≡ run_end.Refused w) ⊎ (end ≡ run_end.NoMemory)
    pub complete : CanBeDone (with inputs names count) before → ((i : ℕ) → Faulted ins (names_of (λ (x : InputJob). x.name) inputs) i → ⊥)
        → ((o : ℕ) → Faulted outs names o → ⊥) → (end ≡ run_end.Fine) ⊎ (end ≡ run_end.NoMemory)

  -- those of the job
  abbrev Ended : End → Type 0
  Ended end = EndedOver job.inputs (written job) (length job.outputs) end

  same-ins : KeepsCounts ins.before ins.after (input_names job) (length job.inputs) → SameCounts ins.before ins.after
  same-ins k = all-counts (λ (i : InputJob). i.name) job.inputs ins.before ins.after (length job.inputs) refl k

  same-outs : KeepsCounts outs.before outs.after (written job) (length (written job)) → SameCounts outs.before outs.after
  same-outs k = λ n. k n (λ j below is. below)

  in-file : (i : ℕ) → Faulted ins (input_names job) i → i < length job.inputs
  in-file i f = subst (λ c. i < c) (names_len (λ (x : InputJob). x.name) job.inputs) f.0

  abbrev count : ℕ
  count = length job.outputs

  trace-rose : (trace : Option (List ℕ)) → RoseUnder outs.before outs.after trace → Rose (outs.before (unwrap_or trace [])) (outs.after (unwrap_or trace []))
  trace-rose None r = absurd r
  trace-rose (Some name) r = r

  -- a fault on one of the written files is that of an output or of the trace
  file-failed : (o : ℕ) → Faulted outs (written job) o → IsPlanned (over means job) before → HasFile job (written_file count o) × HasFailed means job before ins outs (written_file count o)
  file-failed o f planned = by-file (λ file. HasFile job file × HasFailed means job before ins outs file) o count
      (λ lt.
      let own = front-name (output_names job) (traced job.trace) o (subst (λ n. o < n) (sym (files_len output_file job.outputs)) lt) in
      (lt, inr ((subst (λ n. o < n) (sym (files_len output_file job.outputs)) lt, subst (λ name. RoseUnder outs.before outs.after name) own f.1), planned)))
      (λ le.
      let last = trace-name (output_names job) job.trace o (subst (λ n. n ≤ o) (sym (files_len output_file job.outputs)) le) f.0 in
      (last.0, inr (trace-rose job.trace (subst (λ name. RoseUnder outs.before outs.after name) last.1 f.1), planned)))

  comes-plan : (w : PlanError) → ends.IsPlanRefused (over means job) before w → Comes means job before after ins outs (refused_plan w)
  comes-plan (why.NoStream output map) h = h
  comes-plan (why.NoStreams output) h = h
  comes-plan (why.UnknownLabel label) h = h
  comes-plan (why.UnusedLabel label) h = h
  comes-plan (why.LabelTwice label) h = h
  comes-plan (why.Loop graph) h = h
  comes-plan (why.Config graph filter error) h = h
  comes-plan (why.Takes output stream) h = h
  comes-plan why.TooManyStreams h = h
  comes-plan why.TooManyGraphs h = h
  comes-plan why.TooManySources h = h
  comes-plan why.NoMemory h = tt

  comes : (end : End) → Ended end → Comes means job before after ins outs (status_of count end)
  comes run_end.Fine e = tt
  comes run_end.NoMemory e = tt
  comes (run_end.InputFailed i) e = (in-file i e.ends.0, e.ends)
  comes (run_end.OutputFailed o) e = file-failed o e.ends.0 e.ends.1
  comes (run_end.Damaged k offset) e = inl (e.ends, e.untouched tt)
  comes (run_end.Unsupported k offset) e = e.ends
  comes (run_end.Refused w) e = comes-plan w e.ends
  comes (run_end.Broken (run_fault.Damaged k offset)) e = inr e.ends
  comes (run_end.Broken (run_fault.TooLong node many)) e = (many, e.ends)
  comes (run_end.Broken (run_fault.TooLarge o)) e = e.ends

  untouched : (end : End) → Ended end → ComesBeforeOutputs (status_of count end) → KeepsFiles before after
  untouched run_end.Fine e h = absurd h
  untouched run_end.NoMemory e h = absurd h
  untouched (run_end.InputFailed i) e h = absurd h
  untouched (run_end.OutputFailed o) e h = absurd h
  untouched (run_end.Damaged k offset) e h = absurd h
  untouched (run_end.Unsupported k offset) e h = e.untouched tt
  untouched (run_end.Refused w) e h = e.untouched tt
  untouched (run_end.Broken (run_fault.Damaged k offset)) e h = absurd h
  untouched (run_end.Broken (run_fault.TooLong node many)) e h = absurd h
  untouched (run_end.Broken (run_fault.TooLarge o)) e h = absurd h

  bytes : (end : End) → Ended end → status_of count end ≡ status.Fine → HoldMeaning (over means job) before after
  bytes run_end.Fine e h = e.bytes refl
  bytes run_end.NoMemory e h = absurd cc
  bytes (run_end.InputFailed i) e h = absurd cc
  bytes (run_end.OutputFailed o) e h = absurd cc
  bytes (run_end.Damaged k offset) e h = absurd cc
  bytes (run_end.Unsupported k offset) e h = absurd cc
  bytes (run_end.Refused w) e h = absurd (by-plan (λ s. s ≢ status.Fine) (λ x d. cc) (λ d. cc) w h)
  bytes (run_end.Broken (run_fault.Damaged k offset)) e h = absurd cc
  bytes (run_end.Broken (run_fault.TooLong node many)) e h = absurd cc
  bytes (run_end.Broken (run_fault.TooLarge o)) e h = absurd cc

  plan-memory : (end : End) → status_of count end ≢ status.Plan why.NoMemory
  plan-memory run_end.Fine h = cc
  plan-memory run_end.NoMemory h = cc
  plan-memory (run_end.InputFailed i) h = cc
  plan-memory (run_end.OutputFailed o) h = cc
  plan-memory (run_end.Damaged k offset) h = cc
  plan-memory (run_end.Unsupported k offset) h = cc
  plan-memory (run_end.Refused w) h = not-memory w h
  plan-memory (run_end.Broken (run_fault.Damaged k offset)) h = cc
  plan-memory (run_end.Broken (run_fault.TooLong node many)) h = cc
  plan-memory (run_end.Broken (run_fault.TooLarge o)) h = cc

  in-counts : (end : End) → Ended end → KeepsInputs means job before ins (status_of count end)
  in-counts run_end.Fine e = same-ins e.in_counts
  in-counts run_end.NoMemory e = e.in_counts
  in-counts (run_end.InputFailed i) e = e.in_counts
  in-counts (run_end.OutputFailed o) e = by-file (λ file. KeepsInputs means job before ins (status.Device file)) o count (λ lt. same-ins e.in_counts) (λ le. same-ins e.in_counts)
  in-counts (run_end.Damaged k offset) e = inl (same-ins e.in_counts)
  in-counts (run_end.Unsupported k offset) e = same-ins e.in_counts
  in-counts (run_end.Refused w) e =
      by-plan (KeepsInputs means job before ins) (λ x. same-ins e.in_counts) (λ n below. same-ins e.in_counts n) w
  in-counts (run_end.Broken (run_fault.Damaged k offset)) e = inr (e.ends, e.in_counts)
  in-counts (run_end.Broken (run_fault.TooLong node many)) e = (many, e.ends, e.in_counts)
  in-counts (run_end.Broken (run_fault.TooLarge o)) e = e.in_counts

  out-counts : (end : End) → Ended end → KeepsOutputs means job before outs (status_of count end)
  out-counts run_end.Fine e = same-outs e.out_counts
  out-counts run_end.NoMemory e = e.out_counts
  out-counts (run_end.InputFailed i) e = e.out_counts
  out-counts (run_end.OutputFailed o) e = e.out_counts
  out-counts (run_end.Damaged k offset) e = inl (same-outs e.out_counts)
  out-counts (run_end.Unsupported k offset) e = same-outs e.out_counts
  out-counts (run_end.Refused w) e =
      by-plan (KeepsOutputs means job before outs) (λ x. same-outs e.out_counts) (λ n below. same-outs e.out_counts n) w
  out-counts (run_end.Broken (run_fault.Damaged k offset)) e = inr (e.ends, e.out_counts)
  out-counts (run_end.Broken (run_fault.TooLong node many)) e = e.out_counts
  out-counts (run_end.Broken (run_fault.TooLarge o)) e = e.out_counts

  either : (end a b : End) → (end ≡ a) ⊎ (end ≡ b) → (status_of count end ≡ status_of count a) ⊎ (status_of count end ≡ status_of count b)
  either end a b (inl e) = inl (ap (status_of count) e)
  either end a b (inr e) = inr (ap (status_of count) e)

  no-head : (end : End) (k : ℕ) (w : HeadFault) → (end ≡ refusal k w) ⊎ (end ≡ run_end.NoMemory) → (status_of count end ≡ refused_head k w) ⊎ (status_of count end ≡ status.NoMemory)
  no-head end k (fault.Damaged offset) h = either end (run_end.Damaged k offset) run_end.NoMemory h
  no-head end k (fault.Unsupported offset) h = either end (run_end.Unsupported k offset) run_end.NoMemory h

  ran-as : IsFree job before → (end : End) → Ended end → Ran means job before after ins outs (status_of count end)
  ran-as free end e =
      record {
        bytes = bytes end e;
        front = e.front;
        others = e.others;
        untouched = untouched end e;
        comes = comes end e;
        plan_memory = plan-memory end;
        kept = λ file kept. absurd (not-kept job before file free kept);
        no_head = λ may k w first sound. no-head end k w (e.refused k w first sound);
        no_plan = λ may w none sound. either end (run_end.Refused w) run_end.NoMemory (e.no_plan w none sound);
        complete = λ may can sound_ins sound_outs. either end run_end.Fine run_end.NoMemory (e.complete can sound_ins sound_outs);
        in_counts = in-counts end e;
        out_counts = out-counts end e;
      }

  pub ran : IsFree job before → (end : End) (answer : Status) (inputs : List InputJob) (names : List Name) (n : ℕ) → answer ≡ status_of n end → inputs ≡ job.inputs → names ≡ written job → n ≡ length job.outputs
      → EndedOver inputs names n end → Ran means job before after ins outs answer
  ran free end answer inputs names n is these those many e =
      subst (Ran means job before after ins outs) (sym (is ∙ ap (λ m. status_of m end) many))
      (ran-as free end (subst (λ xs. EndedOver xs (written job) count end) these (subst (λ ys. EndedOver inputs ys count end) those (subst (λ m. EndedOver inputs names m end) many e))))

  -- what is so of the command over these files is so of the job's
  pub over-same : (P : Command InputJob InputHead PlanError RunFault → Type 0) (inputs : List InputJob) (names : List Name) (n : ℕ) → inputs ≡ job.inputs → names ≡ written job → n ≡ length job.outputs
      → P (with inputs names n) → P (over means job)
  over-same P inputs names n these those many p =
      subst (λ xs. P (with xs (written job) count)) these (subst (λ ys. P (with inputs ys count)) those (subst (λ m. P (with inputs names m)) many p))

  -- what is logged, and where it is printed
  pub fine-end : (end : End) (n : ℕ) → status_of n end ≡ status.Fine → end ≡ run_end.Fine
  fine-end run_end.Fine n h = refl
  fine-end run_end.NoMemory n h = absurd cc
  fine-end (run_end.InputFailed i) n h = absurd cc
  fine-end (run_end.OutputFailed o) n h = absurd cc
  fine-end (run_end.Damaged k offset) n h = absurd cc
  fine-end (run_end.Unsupported k offset) n h = absurd cc
  fine-end (run_end.Refused w) n h = absurd (by-plan (λ s. s ≢ status.Fine) (λ x d. cc) (λ d. cc) w h)
  fine-end (run_end.Broken (run_fault.Damaged k offset)) n h = absurd cc
  fine-end (run_end.Broken (run_fault.TooLong node m)) n h = absurd cc
  fine-end (run_end.Broken (run_fault.TooLarge o)) n h = absurd cc

  last-is : (names : List Name) (trace : Option (List ℕ)) (name : List ℕ) → trace ≡ Some name → (length names < length (names ++ traced trace)) × (name_at (names ++ traced trace) (length names) ≡ Some name)
  last-is names None name is = absurd cc
  last-is [] (Some t) name is = (omega arith, is)
  last-is (n ∷ ns) (Some t) name is = (let rest = last-is ns (Some t) name is in (let lt = rest.0 in omega (arith, lt), rest.1))

  pub held-printed : (events : List Event) → HoldTrace (over means job) (printed events) before after → HoldsPrinted job before after events
  held-printed events h = by-files before after h
    where
      by-trace : (b a : Files) (trace : Option (List ℕ)) → job.trace ≡ trace → HoldTrace (over means job) (printed events) (Some b) (Some a) → IfSome trace (λ name. a name ≡ Some (printed events))
      by-trace b a None is h = tt
      by-trace b a (Some name) is h =
          let last = last-is (output_names job) job.trace name is in
          let many = files_len output_file job.outputs in
          subst (λ (n : Name). IfSome n (λ m. a m ≡ Some (printed events))) last.1 (h (length (output_names job)) (omega (arith, many)) last.0)

      by-files : (b a : Option Files) → HoldTrace (over means job) (printed events) b a → HoldsPrinted job b a events
      by-files None a h = tt
      by-files (Some b) None h = tt
      by-files (Some b) (Some a) h = by-trace b a job.trace refl h

-- counts that don't change
abbrev pub same_counts : (List ℕ → ℕ) → Counts
same_counts counts = record { before = counts; after = counts }

-- nothing was done
front-same : (means : Job → Meaning InputHead PlanError RunFault) (job : Job) (files : Option Files) → HoldWritten (over means job) files files
front-same means job None = tt
front-same means job (Some files) = λ j lt. if_is (HoldsWritten (over means job) files files j) (name_at (written job) j) (λ n is. inl refl)

others-same : (job : Job) (files : Option Files) → KeepsAllBut files files (written job) (length (written job))
others-same job None = tt
others-same job (Some files) = λ other h. refl

-- for want of memory
pub ran-none : (means : Job → Meaning InputHead PlanError RunFault) (job : Job) (files : Option Files) (ins outs : List ℕ → ℕ)
    → Ran means job files files (same_counts ins) (same_counts outs) status.NoMemory
ran-none means job files ins outs = record {
  bytes = λ e. absurd cc;
  front = front-same means job files;
  others = others-same job files;
  untouched = λ h. absurd h;
  comes = tt;
  plan_memory = λ e. cc;
  kept = λ file kept. (files_same files, inr refl);
  no_head = λ may k w first sound. inr refl;
  no_plan = λ may w none sound. inr refl;
  complete = λ may can sound_ins sound_outs. inr refl;
  in_counts = λ name below. refl;
  out_counts = λ name below. refl;
}

-- since it keeps a file that is there
pub ran-kept : (means : Job → Meaning InputHead PlanError RunFault) (job : Job) (files : Option Files) (ins outs : List ℕ → ℕ) (k : ℕ) → IsTrue job.keeps → IsFirstThere files (written job) k
    → Ran means job files files (same_counts ins) (same_counts outs) (status.Device (written_file (length job.outputs) k))
ran-kept means job files ins outs k keeps first = record {
  bytes = λ e. absurd cc;
  front = front-same means job files;
  others = others-same job files;
  untouched = λ h. absurd h;
  comes = by-file (λ file. HasFile job file × HasFailed means job files (same_counts ins) (same_counts outs) file) k (length job.outputs) (λ lt. (lt, inl (keeps, lt, first)))
      (λ le.
      let names = output_names job in
      let many = files_len output_file job.outputs in
      let below = subst (λ n. n ≤ k) (sym many) le in (
        (trace-name names job.trace k below first.named).0,
        inl (keeps, subst (IsFirstThere files (written job)) (trace-place names job.trace k below first.named ∙ many) first),
      ));
  plan_memory = λ e. cc;
  kept = λ file kept. (files_same files, inl (ap (λ f. status.Device f) (kept-one job files k file first kept)));
  no_head = λ may j w none sound. absurd (may-not job files k keeps first may);
  no_plan = λ may w none sound. absurd (may-not job files k keeps first may);
  complete = λ may can sound_ins sound_outs. absurd (may-not job files k keeps first may);
  in_counts = by-file (λ file. KeepsInputs means job files (same_counts ins) (status.Device file)) k (length job.outputs) (λ lt n. refl) (λ le n. refl);
  out_counts = λ name below. refl;
}
