-- How words are answered: by the job that they ask for, or by what is wrong with them.
use Rattle.std.proofs.Common.{◌≡◌, ◌≢◌, ◌⊎◌, inl, inr, ℕ, ◌<◌, List, [], map, length, Option, Some, None, IfSome, Result, Ok, Err, Vec, Global, refl, sym, ap, subst, ◌∙◌}
use Rattle.std.specs.Prelude.{⊤, IsSome}
use Rattle.ff_host.specs.Causes.{SameCounts}
use Rattle.ff_host.specs.Files.{Files, KeepsFiles, bytes_at}
use Rattle.ff_words.specs.declared.job.InputJob.{InputJob}
use Rattle.ff_words.specs.declared.job.Job.{Job}
use Rattle.ff_words.specs.declared.job.Command.{Command}
use Rattle.ff_words.specs.declared.job.Command.TheVariants as asked
use Rattle.ff_words.specs.declared.job.Solo.{Solo}
use Rattle.ff_words.specs.declared.job.Solo.TheVariants.{Help, Version, SelfRun}
use Rattle.ff_words.specs.declared.error.Fault.{Fault}
use Rattle.ff_words.specs.declared.error.WordError.{WordError}
use Rattle.ff_words.specs.declared.error.WordError.TheVariants.{At, NoMemory}
use Rattle.ff_words.specs.declared.error.WordKind.{WordKind}
use Rattle.ff_words.specs.Words.{fault as wrong_at, written}
use Rattle.ff_words.specs.laws.Reading as reading
use Rattle.ff_words.proofs.Unique.{answer-one}
use Rattle.ff_input.specs.Formats.{InputHead}
use Rattle.ff_plan_layout.specs.declared.error.PlanError.{PlanError}
use Rattle.ff_run_plan.specs.declared.fault.RunFault.{RunFault}
use Rattle.ff_files.specs.Counts.{Counts}
use Rattle.ff_files.specs.Names.{Name, name_at}
use Rattle.ff_files.specs.Heads.{heads_of}
use Rattle.ff_files.specs.Works.{Meaning, HoldMeaning, HoldsWritten, HoldWritten, file_of, meaning}
use Rattle.ff_files.specs.Ends.{IsFirstRefused, HasNoPlan, CanBeDone}
use Rattle.ff_command.specs.declared.report.FileRef.{FileRef}
use Rattle.ff_command.specs.declared.report.Status.{Status}
use Rattle.ff_command.specs.declared.report.Status.TheVariants as status
use Rattle.ff_command.specs.Command.{Ask, AskFor, AskSolo, AskGenerated, AsksAlone, AsksText, AsksGenerated, IsText, IsSoloText, IsTold, IsDue, IsOwnAnswer, IsNamed, AreWrong, AreSoundTo, InputsAreSound, OutputsAreSound, IsToldKept, MayWrite, over, made_alone, HoldsMeaning, HoldMade, HoldsMade}
use Rattle.ff_command.specs.Steps.{IsEndText, wrong_words, Comes, Ran, Answered}
use Rattle.ff_command.proofs.Generated.{own_none, no-words, no-device, no-memory}

-- words ask for one job at most
same-job : (words : List (List ℕ)) (job other : Job) → Ask words job → Ask words other → job ≡ other
same-job words job other a b = (let same : (let x : Result Command Fault = Ok (asked.Run job) in x) ≡ Ok (asked.Run other) = answer-one words (Ok (asked.Run job)) (Ok (asked.Run other)) a b in cc)

-- and none where they are wrong
not-both : (words : List (List ℕ)) (job : Job) (f : Fault) → Ask words job → AreWrong words f → ⊥
not-both words job f a w = (let same : (let x : Result Command Fault = Ok (asked.Run job) in x) ≡ Err f = answer-one words (Ok (asked.Run job)) (Err f) a w in cc)

same-fault : (words : List (List ℕ)) (f g : Fault) → AreWrong words f → AreWrong words g → f ≡ g
same-fault words f g a b = (let same : (let x : Result Command Fault = Err f in x) ≡ Err g = answer-one words (Err f) (Err g) a b in cc)

-- words that ask for what stands alone ask for no job, and aren't wrong
pub not-alone : (words : List (List ℕ)) (job : Job) → Ask words job → AsksAlone words → ⊥
not-alone words job a s = (let same : (let x : Result Command Fault = Ok (asked.Run job) in x) ≡ Ok (asked.Solo s.0) = answer-one words (Ok (asked.Run job)) (Ok (asked.Solo s.0)) a s.1 in cc)

alone-wrong : (words : List (List ℕ)) (f : Fault) → AsksAlone words → AreWrong words f → ⊥
alone-wrong words f s w = (let same : (let x : Result Command Fault = Ok (asked.Solo s.0) in x) ≡ Err f = answer-one words (Ok (asked.Solo s.0)) (Err f) s.1 w in cc)

fault-of : (place p : ℕ) (kind k : WordKind) → status.Words place kind ≡ status.Words p k → wrong_at place kind ≡ wrong_at p k
fault-of place p kind k e = (let a : place ≡ p = cc in (let b : kind ≡ k = cc in ap (λ n. wrong_at n kind) a ∙ ap (λ x. wrong_at p x) b))

-- they ask for one thing alone
pub same-solo : (words : List (List ℕ)) (solo other : Solo) → AskSolo words solo → AskSolo words other → solo ≡ other
same-solo words solo other a b = (let same : (let x : Result Command Fault = Ok (asked.Solo solo) in x) ≡ Ok (asked.Solo other) = answer-one words (Ok (asked.Solo solo)) (Ok (asked.Solo other)) a b in cc)

pub text-is : (words : List (List ℕ)) (solo : Solo) → AskSolo words solo → AsksText words → IsText solo
text-is words solo a t = subst IsText (same-solo words t.0 solo t.1 a) t.2

no-text : (words : List (List ℕ)) → AsksGenerated words → AsksText words → ⊥
no-text words g t = text-is words (SelfRun g.0) g.1 t

only-memory : (answer : Status) (file : FileRef) → (answer ≡ status.Fine) ⊎ (answer ≡ status.NoMemory) → answer ≡ status.Device file → ⊥
only-memory answer file (inl is) e = (let both : status.Fine ≡ status.Device file = sym is ∙ e in cc)
only-memory answer file (inr is) e = (let both : status.NoMemory ≡ status.Device file = sym is ∙ e in cc)

-- nothing that stands alone ends for a device
pub never-device : (owns : Job → Meaning InputHead PlanError RunFault) (solo : Solo) (answer : Status) (file : FileRef) → (IsText solo → (answer ≡ status.Fine) ⊎ (answer ≡ status.NoMemory))
    → ((seconds : ℕ) → solo ≡ SelfRun seconds → IsOwnAnswer owns seconds answer) → answer ≡ status.Device file → ⊥
never-device owns Help answer file text own = only-memory answer file (text tt)
never-device owns Version answer file text own = only-memory answer file (text tt)
never-device owns (SelfRun n) answer file text own = no-device owns n answer (own n refl) file

-- words that are wrong, or weren't read for want of memory, ask for no run over generated input that answers otherwise
pub wrong-own : (owns : Job → Meaning InputHead PlanError RunFault) (words : List (List ℕ)) (error : WordError) (answer : Status) (seconds : ℕ) → reading.Answers words (Err error) → answer ≡ wrong_words error
    → AskGenerated words seconds → IsOwnAnswer owns seconds answer
wrong-own owns words (At place kind) answer seconds wrong is asks = absurd (alone-wrong words (wrong_at place kind) (SelfRun seconds, asks) wrong)
wrong-own owns words NoMemory answer seconds wrong is asks = own_none owns seconds answer is

pub some-told : {L : Type 0} (P : L → Type 0) (o : Option L) → o ≡ None → IfSome o P
some-told P None e = tt
some-told P (Some l) e = absurd cc

keeps-same : (files : Option Files) → KeepsFiles files files
keeps-same None = tt
keeps-same (Some files) = λ name. refl

module _ (means : Job → Meaning InputHead PlanError RunFault) where
  -- what is told
  pub told-text : (words : List (List ℕ)) (solo : Solo) → AskSolo words solo → (told : Option (Vec ℕ Global)) (answer : Status)
      → IfSome told (λ text. IsSoloText means solo text.items × (answer ≡ status.Fine)) → IfSome told (λ text. IsTold means words text.items × (answer ≡ status.Fine))
  told-text words solo asks None answer h = tt
  told-text words solo asks (Some text) answer h = ((solo, asks, h.0), h.1)

  -- and so it is the text that is due
  pub due-text : (words : List (List ℕ)) (told : Option (Vec ℕ Global)) (answer : Status) (name text : List ℕ) → IfSome told (λ t. IsTold means words t.items × (answer ≡ status.Fine)) → IsNamed words answer name
      → IsEndText told answer name text → IsDue means words answer text
  due-text words None answer name text h named e = inr (e.0, (name, named, e.1))
  due-text words (Some t) answer name text h named e = inl (h.1, subst (IsTold means words) (sym e) h.0)

  pub none-told : (words : List (List ℕ)) (told : Option (Vec ℕ Global)) (answer : Status) → IfSome told (λ t. IsTold means words t.items × (answer ≡ status.Fine)) → AskFor words (λ job. ⊤) → told ≡ None
  none-told words None answer h asked = refl
  none-told words (Some t) answer h asked = absurd (not-alone words asked.0 asked.1 (h.0.0, h.0.1))

  one-same : (job : Job) (files : Files) (j : ℕ) (name : Name) → IfSome name (HoldsWritten (over means job) files files j)
  one-same job files j None = tt
  one-same job files j (Some name) = inl refl

  front-same : (job : Job) (files : Option Files) → HoldWritten (over means job) files files
  front-same job None = tt
  front-same job (Some files) = λ j below. one-same job files j (name_at (over means job).outputs j)

  pub job-answered : (words : List (List ℕ)) (job : Job) (before after : Option Files) (ins outs : Counts) (answer : Status) → Ask words job → Ran means job before after ins outs answer
      → Answered means words before after ins outs answer
  job-answered words job before after ins outs answer asks r =
      let here : (other : Job) → Ask words other → job ≡ other = λ other a. same-job words job other asks a in
      let back : (other : Job) → Ask words other → other ≡ job = λ other a. same-job words other job a asks in
      let by : (s : Status) → answer ≡ s → Comes means job before after ins outs s = λ s e. subst (Comes means job before after ins outs) e r.comes in
      record {
        bytes = λ e. inr (job, asks, r.bytes e);
        text = λ t. absurd (not-alone words job asks (t.0, t.1));
        front = λ other a. subst (λ x. HoldWritten (over means x) before after) (here other a) r.front;
        others = inr (job, asks, r.others);
        untouched = r.untouched;
        words_at = λ place kind e. absurd (by (status.Words place kind) e);
        wrong = λ f w. absurd (not-both words job f asks w);
        plan = λ w e. inr (job, asks, by (status.Plan w) e);
        plan_memory = r.plan_memory;
        unsupported = λ k offset e. inr (job, asks, by (status.Unsupported k offset) e);
        damaged = λ k offset e. inr (job, asks, by (status.Damaged k offset) e);
        too_long = λ node e. inr (job, asks, by (status.TooLong node) e);
        too_large = λ output e. inr (job, asks, by (status.TooLarge output) e);
        device = λ file e. (job, asks, (by (status.Device file) e).1);
        kept = λ file g. r.kept file (subst (λ x. IsToldKept x before file) (back g.0 g.1) g.2);
        no_head = λ k w g.
            r.no_head (subst (λ x. MayWrite x before) (back g.0 g.1) g.2.0) k w (subst (λ x. IsFirstRefused (over means x) before k w) (back g.0 g.1) g.2.1)
            (subst (λ x. AreSoundTo ins x k) (back g.0 g.1) g.2.2);
        no_plan = λ w g.
            r.no_plan (subst (λ x. MayWrite x before) (back g.0 g.1) g.2.0) w (subst (λ x. HasNoPlan (over means x) before w) (back g.0 g.1) g.2.1)
            (subst (λ x. InputsAreSound ins x) (back g.0 g.1) g.2.2);
        complete = λ g.
            r.complete (subst (λ x. MayWrite x before) (back g.0 g.1) g.2.0) (subst (λ x. CanBeDone (over means x) before) (back g.0 g.1) g.2.1)
            (subst (λ x. InputsAreSound ins x) (back g.0 g.1) g.2.2) (subst (λ x. OutputsAreSound outs x) (back g.0 g.1) g.2.3);
        in_counts = inr (job, asks, r.in_counts);
        out_counts = inr (job, asks, r.out_counts);
      }

  -- nothing was done
  module _ (words : List (List ℕ)) (files : Option Files) (ins outs : Counts) (same_ins : SameCounts ins.before ins.after) (same_outs : SameCounts outs.before outs.after) where
    wrong-answered : (place : ℕ) (kind : WordKind) → AreWrong words (wrong_at place kind) → Answered means words files files ins outs (status.Words place kind)
    wrong-answered place kind wrong =
        record {
          bytes = λ e. absurd cc;
          text = λ t. absurd (alone-wrong words (wrong_at place kind) (t.0, t.1) wrong);
          front = λ job a. front-same job files;
          others = inl (keeps-same files);
          untouched = λ h. keeps-same files;
          words_at = λ p k e. subst (λ (f : Fault). AreWrong words f) (fault-of place p kind k e) wrong;
          wrong = λ f w. inl (ap (λ (x : Fault). status.Words x.word x.kind) (same-fault words (wrong_at place kind) f wrong w));
          plan = λ w e. absurd cc;
          plan_memory = λ e. cc;
          unsupported = λ k offset e. absurd cc;
          damaged = λ k offset e. absurd cc;
          too_long = λ node e. absurd cc;
          too_large = λ output e. absurd cc;
          kept = λ file g. absurd (not-both words g.0 (wrong_at place kind) g.1 wrong);
          device = λ file e. absurd cc;
          no_head = λ k w g. absurd (not-both words g.0 (wrong_at place kind) g.1 wrong);
          no_plan = λ w g. absurd (not-both words g.0 (wrong_at place kind) g.1 wrong);
          complete = λ g. absurd (not-both words g.0 (wrong_at place kind) g.1 wrong);
          in_counts = inl same_ins;
          out_counts = inl same_outs;
        }

    -- what is told touches nothing
    told-answered : AsksAlone words → Answered means words files files ins outs status.Fine
    told-answered asks =
        record {
          bytes = λ e. inl asks;
          text = λ t. inl refl;
          front = λ job a. front-same job files;
          others = inl (keeps-same files);
          untouched = λ h. keeps-same files;
          words_at = λ p k e. absurd cc;
          wrong = λ f w. absurd (alone-wrong words f asks w);
          plan = λ w e. absurd cc;
          plan_memory = λ e. cc;
          unsupported = λ k offset e. absurd cc;
          damaged = λ k offset e. absurd cc;
          too_long = λ node e. absurd cc;
          too_large = λ output e. absurd cc;
          kept = λ file g. absurd (not-alone words g.0 g.1 asks);
          device = λ file e. absurd cc;
          no_head = λ k w g. absurd (not-alone words g.0 g.1 asks);
          no_plan = λ w g. absurd (not-alone words g.0 g.1 asks);
          complete = λ g. inl refl;
          in_counts = inl same_ins;
          out_counts = inl same_outs;
        }

    none-answered : Answered means words files files ins outs status.NoMemory
    none-answered =
        record {
          bytes = λ e. absurd cc;
          text = λ t. inr refl;
          front = λ job a. front-same job files;
          others = inl (keeps-same files);
          untouched = λ h. keeps-same files;
          words_at = λ p k e. absurd cc;
          wrong = λ f w. inr refl;
          plan = λ w e. absurd cc;
          plan_memory = λ e. cc;
          unsupported = λ k offset e. absurd cc;
          damaged = λ k offset e. absurd cc;
          too_long = λ node e. absurd cc;
          too_large = λ output e. absurd cc;
          kept = λ file g. (keeps-same files, inr refl);
          device = λ file e. absurd cc;
          no_head = λ k w g. inr refl;
          no_plan = λ w g. inr refl;
          complete = λ g. inr refl;
          in_counts = inl same_ins;
          out_counts = inl same_outs;
        }

    pub words-answered : (error : WordError) (answer : Status) → reading.Answers words (Err error) → answer ≡ wrong_words error → Answered means words files files ins outs answer
    words-answered (At place kind) answer wrong is = subst (Answered means words files files ins outs) (sym is) (wrong-answered place kind wrong)
    words-answered NoMemory answer wrong is = subst (Answered means words files files ins outs) (sym is) none-answered

    -- of the run over generated input nothing touches these files
    generated-here : (answer : Status) → AsksGenerated words → ((place : ℕ) (kind : WordKind) → answer ≢ status.Words place kind) → ((file : FileRef) → answer ≢ status.Device file)
        → answer ≢ status.Plan PlanError.NoMemory → Answered means words files files ins outs answer
    generated-here answer asks right sound memory =
        let alone : AsksAlone words = (SelfRun asks.0, asks.1) in
        record {
          bytes = λ e. inl alone;
          text = λ t. absurd (no-text words asks t);
          front = λ job a. front-same job files;
          others = inl (keeps-same files);
          untouched = λ h. keeps-same files;
          words_at = λ p k e. absurd (right p k e);
          wrong = λ f w. absurd (alone-wrong words f alone w);
          plan = λ w e. inl asks;
          plan_memory = memory;
          unsupported = λ k offset e. inl asks;
          damaged = λ k offset e. inl asks;
          too_long = λ node e. inl asks;
          too_large = λ output e. inl asks;
          kept = λ file g. absurd (not-alone words g.0 g.1 alone);
          device = λ file e. absurd (sound file e);
          no_head = λ k w g. absurd (not-alone words g.0 g.1 alone);
          no_plan = λ w g. absurd (not-alone words g.0 g.1 alone);
          complete = λ g. absurd (not-alone words g.0 g.1 alone);
          in_counts = inl same_ins;
          out_counts = inl same_outs;
        }

    text-answered : (answer : Status) → AsksAlone words → (answer ≡ status.Fine) ⊎ (answer ≡ status.NoMemory) → Answered means words files files ins outs answer
    text-answered answer asks (inl is) = subst (Answered means words files files ins outs) (sym is) (told-answered asks)
    text-answered answer asks (inr is) = subst (Answered means words files files ins outs) (sym is) none-answered

    -- what stands alone, by what the worker of the generated run means
    pub solo-answered : (owns : Job → Meaning InputHead PlanError RunFault) (solo : Solo) → AskSolo words solo → (answer : Status) → (IsText solo → (answer ≡ status.Fine) ⊎ (answer ≡ status.NoMemory))
        → ((seconds : ℕ) → solo ≡ SelfRun seconds → IsOwnAnswer owns seconds answer) → Answered means words files files ins outs answer
    solo-answered owns Help asks answer text own = text-answered answer (Help, asks) (text tt)
    solo-answered owns Version asks answer text own = text-answered answer (Version, asks) (text tt)
    solo-answered owns (SelfRun n) asks answer text own =
        let is : IsOwnAnswer owns n answer = own n refl in
        generated-here answer (n, asks) (no-words owns n answer is) (no-device owns n answer is) (no-memory owns n answer is)

-- ---- a job without inputs

pub alone_means : (means : Job → Meaning InputHead PlanError RunFault) (job : Job) → job.inputs ≡ [] → (files : Files) (o : ℕ)
    → meaning (over means job) files o ≡ made_alone means job o
alone_means means job none files o =
    ap (λ (is : List InputJob). file_of (means job) (heads_of (over means job).name (over means job).head files is)
    (map (λ (i : InputJob). bytes_at files i.name) is) o) none

same_named : (name : Option (List ℕ)) (after : Files) (bytes made : Option (List ℕ)) → bytes ≡ made → IfSome name (λ n. after n ≡ bytes) → IfSome name (λ n. after n ≡ made)
same_named None after bytes made same held = tt
same_named (Some n) after bytes made same held = held ∙ same

job_made : (means : Job → Meaning InputHead PlanError RunFault) (job : Job) (before after : Option Files) → job.inputs ≡ []
    → HoldMeaning (over means job) before after → HoldMade means job before after
job_made means job None after none held = tt
job_made means job (Some before) None none held = tt
job_made means job (Some before) (Some after) none held = λ o lt.
    let same = alone_means means job none before o in (
      subst (λ (bytes : Option (List ℕ)). IsSome bytes) same (held o lt).0,
      same_named (name_at (written job) o) after (meaning (over means job) before o) (made_alone means job o) same (held o lt).1,
    )

pub words-made : (means : Job → Meaning InputHead PlanError RunFault) (words : List (List ℕ)) (before after : Option Files)
    → AsksAlone words ⊎ HoldsMeaning means words before after → HoldsMade means words before after
words-made means words before after (inl alone) job asks none = absurd (not-alone words job asks alone)
words-made means words before after (inr meant) job asks none =
    job_made means job before after none
    (subst (λ (j : Job). HoldMeaning (over means j) before after) (same-job words meant.0 job meant.1 asks) meant.2)
