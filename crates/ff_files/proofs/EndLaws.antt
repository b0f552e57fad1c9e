-- How a command over files ends, from how its steps do.
use Rattle.std.proofs.Common.{◌≡◌, ◌⊎◌, inl, inr, ℕ, ◌<◌, ◌≤◌, List, length, get_or, Option, None, Some, Ok, Err, refl, sym, ap, ◌∙◌, arith}
use Rattle.ff_host.specs.Causes.{Rose}
use Rattle.ff_host.specs.Files.{Files, KeepsFiles}
use Rattle.ff_host.specs.declared.host.HostError.{HostError}
use Rattle.ff_host.specs.declared.host.HostError.TheVariants as host_error
use Rattle.ff_reader.specs.declared.fault.HeadFault.{HeadFault}
use Rattle.ff_reader.specs.declared.fault.HeadFault.TheVariants as fault
use Rattle.ff_files.specs.Names.{Name, names_of, name_at}
use Rattle.ff_files.specs.Counts.{Counts, Faulted, KeepsCounts, CountsFaults}
use Rattle.ff_files.specs.Heads.{Refusal, HaveHeads}
use Rattle.ff_files.specs.laws.Hosts.{IsLater}
use Rattle.ff_files.specs.laws.Inputs.{AreBegun, EndsInputs, sound_before}
use Rattle.ff_files.specs.Outputs.{EndsOutputs, FailsAt, AreClosed}
use Rattle.ff_files.specs.Works.{Command, FailNoMore, EndsWork, sound_sources, sound_sinks, all_heads, all_bytes, HoldsWritten, HoldWritten}
use Rattle.ff_files.specs.Ends.{Ends, IsPlanned, IsPlanRefused, IsBroken, end_of_input, end_of_plan, end_of_output, end_after, refusal, sound_inputs, sound_outputs, IsFirstRefused, HasNoPlan, CanBeDone}
use Rattle.ff_files.specs.declared.head.InputEnd.{InputEnd}
use Rattle.ff_files.specs.declared.head.InputEnd.TheVariants as input_end
use Rattle.ff_files.specs.declared.work.WorkEnd.{WorkEnd}
use Rattle.ff_files.specs.declared.work.WorkEnd.TheVariants as work_end
use Rattle.ff_files.specs.declared.work.PlanEnd.{PlanEnd}
use Rattle.ff_files.specs.declared.work.PlanEnd.TheVariants as plan_end
use Rattle.ff_files.specs.declared.end.RunEnd.{RunEnd}
use Rattle.ff_files.specs.declared.end.RunEnd.TheVariants as run_end
use Rattle.ff_files.proofs.Lists.{some_of, names_len, if_is}
use Rattle.ff_files.proofs.Steps.{under_on, later_now}
use Rattle.ff_files.proofs.Wholes.{counts_all}
use Rattle.ff_files.proofs.Heads.{front_have, refused_after, not_both, same_heads, same_refusal}

failed_some : (before now : ℕ) → Rose before now → 1 ≤ now
failed_some before now r = omega (arith, r)

module _ {I H R F : Type 0} (command : Command I H R F) (before : Option Files) (ins outs : Counts) where
  -- how a command ends whose inputs don't all have heads
  pub ends_headless : {E : Type 0} (in_faults : E → ℕ) (in_mid : List ℕ → ℕ) (srcs : List E) (k : ℕ) (end : InputEnd) → EndsInputs command.name command.head in_faults before ins.before in_mid (names_of command.name command.inputs) command.inputs srcs k end
      → length (names_of command.name command.inputs) ≡ length command.inputs → ((name : List ℕ) → IsLater (in_mid name) (ins.after name)) → ((name : List ℕ) → IsLater (ins.before name) (in_mid name))
      → CountsFaults in_faults in_mid ins.after (names_of command.name command.inputs) srcs → Ends command before ins outs (end_of_input k end)
  ends_headless in_faults in_mid srcs k input_end.NoMemory e len li lo c = tt
  ends_headless in_faults in_mid srcs k input_end.Failed e len li lo c =
      let name = name_at (names_of command.name command.inputs) k in (
        (
          (let lt = e.0 in omega (arith, lt, len)),
          elim e.1 [
            | inl rose ↦ under_on ins.before ins.before in_mid ins.after name (later_now ins.before) li rose
            | inr there ↦ under_on ins.before in_mid ins.after ins.after name lo (later_now ins.after) (let d = some_of srcs k there.0 in c k d there.0 (there.1 d))
          ],
        ),
        e.2,
      )
  ends_headless in_faults in_mid srcs k (input_end.Damaged offset) e len li lo c = e
  ends_headless in_faults in_mid srcs k (input_end.Unsupported offset) e len li lo c = e

module _ {I H R F E : Type 0} (command : Command I H R F) (left : E → Option (List ℕ)) (before : Option Files) (ins outs : Counts) (srcs : List E) (heads : List H) where
  planned : AreBegun command.name command.head left before command.inputs srcs heads → command.means.refusal heads ≡ None → IsPlanned command before
  planned begun n = by_files before begun.told_heads n
    where
      by_files : (files : Option Files) → ((told : Files) → files ≡ Some told → all_heads command told ≡ Ok heads) → command.means.refusal heads ≡ None → IsPlanned command files
      by_files None h n = tt
      by_files (Some f) h n = (heads, h f refl, n)

  -- how a command ends without a plan
  pub ends_planless : (end : PlanEnd R) → AreBegun command.name command.head left before command.inputs srcs heads → ((why : R) → end ≡ plan_end.Refused why → command.means.refusal heads ≡ Some why) → Ends command before ins outs (end_of_plan end)
  ends_planless plan_end.NoMemory begun h = tt
  ends_planless (plan_end.Refused why) begun h = by_files before begun.told_heads (h why refl)
    where
      by_files : (files : Option Files) → ((told : Files) → files ≡ Some told → all_heads command told ≡ Ok heads) → command.means.refusal heads ≡ Some why → IsPlanRefused command files why
      by_files None h n = tt
      by_files (Some f) h n = (heads, h f refl, n)

  -- how a command ends whose outputs weren't all created
  pub ends_uncreated : (out_mid : List ℕ → ℕ) (k : ℕ) (end : HostError) → EndsOutputs outs.before out_mid command.outputs k end → ((name : List ℕ) → IsLater (out_mid name) (outs.after name))
      → AreBegun command.name command.head left before command.inputs srcs heads → command.means.refusal heads ≡ None → Ends command before ins outs (end_of_output k end)
  ends_uncreated out_mid k host_error.NoMemory e l begun n = tt
  ends_uncreated out_mid k host_error.Failed e l begun n =
      let name = name_at command.outputs k in
      ((e.0, under_on outs.before outs.before out_mid outs.after name (later_now outs.before) l e.1), planned begun n)

  -- how a command ends, once all was closed
  pub ends_closed : {K : Type 0} (in_faults : E → ℕ) (out_faults : K → ℕ) (in_mid out_mid : List ℕ → ℕ) (told : List (List ℕ) → Type 0) (end : WorkEnd F) (unclosed : Option ℕ) (srcs' : List E) (snks snks' : List K)
      → EndsWork command.means in_faults out_faults srcs snks srcs' snks' heads told end → length srcs' ≡ length srcs → length snks' ≡ length snks → length srcs ≤ length command.inputs → length snks ≤ length command.outputs
      → length (names_of command.name command.inputs) ≡ length command.inputs
      → CountsFaults in_faults in_mid ins.after (names_of command.name command.inputs) srcs' → CountsFaults out_faults out_mid outs.after command.outputs snks' → FailsAt out_mid outs.after command.outputs (length snks') unclosed
      → ((name : List ℕ) → IsLater (ins.before name) (in_mid name)) → ((name : List ℕ) → IsLater (outs.before name) (out_mid name)) → AreBegun command.name command.head left before command.inputs srcs heads → command.means.refusal heads ≡ None
      → ((files : Files) → before ≡ Some files → told (all_bytes command files)) → Ends command before ins outs (end_after end unclosed)
  ends_closed in_faults out_faults in_mid out_mid told work_end.Fine None srcs' snks snks' e m n p q len ci co f li lo begun pl t = planned begun pl
  ends_closed in_faults out_faults in_mid out_mid told work_end.Fine (Some k) srcs' snks snks' e m n p q len ci co f li lo begun pl t =
      let name = name_at command.outputs k in
      (((let below : k < length snks' = f.0 in omega (arith, below, n, q)), under_on outs.before out_mid outs.after outs.after name lo (later_now outs.after) f.1), planned begun pl)
  ends_closed in_faults out_faults in_mid out_mid told (work_end.Input k) unclosed srcs' snks snks' e m n p q len ci co f li lo begun pl t =
      let name = name_at (names_of command.name command.inputs) k in
      let below : k < length srcs = e.0 in
      let there : k < length srcs' = omega (arith, below, m) in
      let d = some_of srcs' k there in (
        (omega (arith, below, p, len), under_on ins.before in_mid ins.after ins.after name li (later_now ins.after) (ci k d there (failed_some (in_faults (get_or srcs k d)) (in_faults (get_or srcs' k d)) (e.1 d)))),
        by_files before begun.told_heads k,
      )
    where
      by_files : (files : Option Files) → ((told : Files) → files ≡ Some told → all_heads command told ≡ Ok heads) → (k : ℕ) → HaveHeads command.name command.head files command.inputs k
      by_files None h k = tt
      by_files (Some f) h k = front_have command.name command.head f command.inputs k heads (h f refl)
  ends_closed in_faults out_faults in_mid out_mid told (work_end.Output k) unclosed srcs' snks snks' e m n p q len ci co f li lo begun pl t =
      let name = name_at command.outputs k in
      let below : k < length snks = e.0 in
      let there : k < length snks' = omega (arith, below, n) in
      let d = some_of snks' k there in
      ((omega (arith, below, q), under_on outs.before out_mid outs.after outs.after name lo (later_now outs.after) (co k d there (failed_some (out_faults (get_or snks k d)) (out_faults (get_or snks' k d)) (e.1 d)))), planned begun pl)
  ends_closed in_faults out_faults in_mid out_mid told (work_end.Broken why) unclosed srcs' snks snks' e m n p q len ci co f li lo begun pl t = by_files before begun.told_heads t
    where
      by_files : (files : Option Files) → ((a : Files) → files ≡ Some a → all_heads command a ≡ Ok heads) → ((a : Files) → files ≡ Some a → told (all_bytes command a)) → IsBroken command files why
      by_files None h t = tt
      by_files (Some a) h t = (heads, h a refl, pl, e (all_bytes command a) (t a refl))
  ends_closed in_faults out_faults in_mid out_mid told work_end.NoMemory unclosed srcs' snks snks' e m n p q len ci co f li lo begun pl t = tt

-- ---- the answers of a command

none_some : {R : Type 0} {P : Type 0} (x : Option R) (y : R) → x ≡ None → x ≡ Some y → P
none_some x y n s = absurd (let no : None ≡ Some y = sym n ∙ s in cc (no))

module _ {I H R F : Type 0} (command : Command I H R F) (ins outs : Counts) where
  same : (f : Files) (a b : List H) → all_heads command f ≡ Ok a → all_heads command f ≡ Ok b → a ≡ b
  same f a b p q = same_heads a b (sym p ∙ q)

  never : {P : Type 0} (f : Files) (heads : List H) (r : Refusal) → all_heads command f ≡ Ok heads → all_heads command f ≡ Err r → P
  never f heads r p q = not_both heads r (sym p ∙ q)

  -- a head that is refused is the end, unless its input or one before it failed, or memory ran out
  pub refused : (before : Option Files) (e : RunEnd R F) (k : ℕ) (why : HeadFault) → Ends command before ins outs e → IsFirstRefused command before k why → ((i : ℕ) → i ≤ k → Faulted ins (names_of command.name command.inputs) i → ⊥)
      → (e ≡ refusal k why) ⊎ (e ≡ run_end.NoMemory)
  refused None e k why h r n = absurd r
  refused (Some f) run_end.Fine k why h r n = never f h.0 (record { input = k; fault = why }) h.1 r
  refused (Some f) run_end.NoMemory k why h r n = inr refl
  refused (Some f) (run_end.InputFailed i) k why h r n = absurd (n i (refused_after command.name command.head f command.inputs i h.1.0 (record { input = k; fault = why }) (let lt = h.0.0 in let len = names_len command.name command.inputs in omega (arith, lt, len)) h.1.1 r) h.0)
  refused (Some f) (run_end.OutputFailed i) k why h r n = never f h.1.0 (record { input = k; fault = why }) h.1.1 r
  refused (Some f) (run_end.Damaged i offset) k why h r n = inl (ap (λ (x : Refusal). refusal x.input x.fault) (same_refusal {H = H} (record { input = i; fault = fault.Damaged offset }) (record { input = k; fault = why }) (sym h.1 ∙ r)))
  refused (Some f) (run_end.Unsupported i offset) k why h r n = inl (ap (λ (x : Refusal). refusal x.input x.fault) (same_refusal {H = H} (record { input = i; fault = fault.Unsupported offset }) (record { input = k; fault = why }) (sym h.1 ∙ r)))
  refused (Some f) (run_end.Refused other) k why h r n = never f h.0 (record { input = k; fault = why }) h.1 r
  refused (Some f) (run_end.Broken other) k why h r n = never f h.0 (record { input = k; fault = why }) h.1 r

  -- a plan that is refused is the end, unless an input failed or memory ran out
  pub no_plan : (before : Option Files) (e : RunEnd R F) (why : R) → Ends command before ins outs e → HasNoPlan command before why → ((i : ℕ) → Faulted ins (names_of command.name command.inputs) i → ⊥)
      → (e ≡ run_end.Refused why) ⊎ (e ≡ run_end.NoMemory)
  no_plan None e why h r n = absurd r
  no_plan (Some f) run_end.Fine why h r n = none_some (command.means.refusal h.0) why h.2 (ap (λ (x : List H). command.means.refusal x) (same f h.0 r.0 h.1 r.1) ∙ r.2)
  no_plan (Some f) run_end.NoMemory why h r n = inr refl
  no_plan (Some f) (run_end.InputFailed i) why h r n = absurd (n i h.0)
  no_plan (Some f) (run_end.OutputFailed i) why h r n = none_some (command.means.refusal h.1.0) why h.1.2 (ap (λ (x : List H). command.means.refusal x) (same f h.1.0 r.0 h.1.1 r.1) ∙ r.2)
  no_plan (Some f) (run_end.Damaged i offset) why h r n = never f r.0 (record { input = i; fault = fault.Damaged offset }) r.1 h.1
  no_plan (Some f) (run_end.Unsupported i offset) why h r n = never f r.0 (record { input = i; fault = fault.Unsupported offset }) r.1 h.1
  no_plan (Some f) (run_end.Refused other) why h r n =
      inl (ap (λ (x : R). run_end.Refused x) (some_inside other why (sym h.2 ∙ (ap (λ (x : List H). command.means.refusal x) (same f h.0 r.0 h.1 r.1) ∙ r.2))))
    where
      some_inside : (x y : R) → Some x ≡ Some y → x ≡ y
      some_inside x y e = cc
  no_plan (Some f) (run_end.Broken other) why h r n = none_some (command.means.refusal h.0) why h.2 (ap (λ (x : List H). command.means.refusal x) (same f h.0 r.0 h.1 r.1) ∙ r.2)

  -- a command that can be done is done, unless a count rose or memory ran out
  pub complete : (before : Option Files) (e : RunEnd R F) → Ends command before ins outs e → CanBeDone command before → ((i : ℕ) → Faulted ins (names_of command.name command.inputs) i → ⊥) → ((j : ℕ) → Faulted outs command.outputs j → ⊥)
      → (e ≡ run_end.Fine) ⊎ (e ≡ run_end.NoMemory)
  complete None e h r n m = absurd r
  complete (Some f) run_end.Fine h r n m = inl refl
  complete (Some f) run_end.NoMemory h r n m = inr refl
  complete (Some f) (run_end.InputFailed i) h r n m = absurd (n i h.0)
  complete (Some f) (run_end.OutputFailed i) h r n m = absurd (m i h.0)
  complete (Some f) (run_end.Damaged i offset) h r n m = never f r.0.0 (record { input = i; fault = fault.Damaged offset }) r.0.1 h.1
  complete (Some f) (run_end.Unsupported i offset) h r n m = never f r.0.0 (record { input = i; fault = fault.Unsupported offset }) r.0.1 h.1
  complete (Some f) (run_end.Refused other) h r n m = none_some (command.means.refusal r.0.0) other r.0.2 (ap (λ (x : List H). command.means.refusal x) (same f r.0.0 h.0 r.0.1 h.1) ∙ h.2)
  complete (Some f) (run_end.Broken other) h r n m = absurd (r.1 other h)

-- ---- which counts are what they were

module _ {I H R F : Type 0} (command : Command I H R F) where
  pub sources_sound : (end : WorkEnd F) (unclosed : Option ℕ) → sound_inputs {R = R} command (end_after end unclosed) ≡ sound_sources command.means end (length command.inputs)
  sources_sound work_end.Fine None = refl
  sources_sound work_end.Fine (Some k) = refl
  sources_sound (work_end.Input i) unclosed = refl
  sources_sound (work_end.Output j) unclosed = refl
  sources_sound (work_end.Broken why) unclosed = refl
  sources_sound work_end.NoMemory unclosed = refl

  pub sinks_sound : {K : Type 0} (faults : K → ℕ) (old new : List K) (end : WorkEnd F) (unclosed : Option ℕ) → FailNoMore faults old new (sound_sinks command.means end (length old)) → FailNoMore faults old new (sound_outputs command (end_after end unclosed))
  sinks_sound faults old new work_end.Fine None f = λ k d lt below. f k d lt lt
  sinks_sound faults old new work_end.Fine (Some j) f = λ k d lt below. absurd (omega (arith, below))
  sinks_sound faults old new (work_end.Input i) unclosed f = λ k d lt below. absurd (omega (arith, below))
  sinks_sound faults old new (work_end.Output j) unclosed f = λ k d lt below. absurd (omega (arith, below))
  sinks_sound faults old new (work_end.Broken why) unclosed f = λ k d lt below. absurd (omega (arith, below))
  sinks_sound faults old new work_end.NoMemory unclosed f = λ k d lt below. absurd (omega (arith, below))

  pub closed_sound : (end : WorkEnd F) (unclosed : Option ℕ) → AreClosed unclosed (sound_outputs command (end_after end unclosed))
  closed_sound work_end.Fine None = tt
  closed_sound work_end.Fine (Some k) = omega arith
  closed_sound (work_end.Input i) None = tt
  closed_sound (work_end.Input i) (Some k) = omega arith
  closed_sound (work_end.Output j) None = tt
  closed_sound (work_end.Output j) (Some k) = omega arith
  closed_sound (work_end.Broken why) None = tt
  closed_sound (work_end.Broken why) (Some k) = omega arith
  closed_sound work_end.NoMemory None = tt
  closed_sound work_end.NoMemory (Some k) = omega arith

  pub uncreated_sound : (k : ℕ) (end : HostError) → sound_outputs command (end_of_output k end) ≡ 0
  uncreated_sound k host_error.NoMemory = refl
  uncreated_sound k host_error.Failed = refl

  pub headless_sound : (before now : List ℕ → ℕ) (names : List Name) (k : ℕ) (end : InputEnd) → length names ≤ length command.inputs → KeepsCounts before now names (sound_before end k (length command.inputs))
      → KeepsCounts before now names (sound_inputs command (end_of_input k end))
  headless_sound before now names k input_end.NoMemory le c = counts_all before now names (length command.inputs) 1 le c
  headless_sound before now names k input_end.Failed le c = c
  headless_sound before now names k (input_end.Damaged offset) le c = c
  headless_sound before now names k (input_end.Unsupported offset) le c = c

pub closed_none : (first : Option ℕ) → AreClosed first 0
closed_none None = tt
closed_none (Some k) = omega arith

-- what is counted of no name is counted below no number
pub counts_zero : (before now : List ℕ → ℕ) (names : List Name) (count : ℕ) → KeepsCounts before now names count → KeepsCounts before now names 0
counts_zero before now names count c = λ name below. c name (λ k lt same. absurd (let none = below k lt same in omega (arith, none)))

-- the ends that are not Fine
pub fine_only : {R F : Type 0} (end : WorkEnd F) (unclosed : Option ℕ) → end_after {R = R} end unclosed ≡ run_end.Fine → end ≡ work_end.Fine
fine_only work_end.Fine unclosed e = refl
fine_only (work_end.Input k) unclosed e = absurd (let no : run_end.InputFailed k ≡ run_end.Fine = e in cc (no))
fine_only (work_end.Output k) unclosed e = absurd (let no : run_end.OutputFailed k ≡ run_end.Fine = e in cc (no))
fine_only (work_end.Broken why) unclosed e = absurd (let no : run_end.Broken why ≡ run_end.Fine = e in cc (no))
fine_only work_end.NoMemory unclosed e = absurd (let no : run_end.NoMemory ≡ run_end.Fine = e in cc (no))

-- outputs of files that are kept are as they were
pub unwritten : {I H R F : Type 0} (command : Command I H R F) (a b c : Option Files) → KeepsFiles a b → KeepsFiles b c → HoldWritten command a c
unwritten command None b c p q = tt
unwritten command (Some f) None c p q = absurd p
unwritten command (Some f) (Some e) None p q = absurd q
unwritten command (Some f) (Some e) (Some d) p q = λ j lt. if_is (HoldsWritten command f d j) (name_at command.outputs j) (λ name is. inl (q name ∙ p name))

-- counts that rose since a later moment rose since an earlier one
pub ends_earlier : {I H R F : Type 0} (command : Command I H R F) (before : Option Files) (a b u v m n : List ℕ → ℕ) (e : RunEnd R F) → ((name : List ℕ) → IsLater (a name) (m name)) → ((name : List ℕ) → IsLater (u name) (n name))
    → Ends command before (record { before = m; after = b }) (record { before = n; after = v }) e → Ends command before (record { before = a; after = b }) (record { before = u; after = v }) e
ends_earlier command before a b u v m n run_end.Fine li lo h = h
ends_earlier command before a b u v m n run_end.NoMemory li lo h = tt
ends_earlier command before a b u v m n (run_end.InputFailed k) li lo h =
    let name = name_at (names_of command.name command.inputs) k in
    ((h.0.0, under_on a m b b name li (later_now b) h.0.1), h.1)
ends_earlier command before a b u v m n (run_end.OutputFailed k) li lo h =
    let name = name_at command.outputs k in
    ((h.0.0, under_on u n v v name lo (later_now v) h.0.1), h.1)
ends_earlier command before a b u v m n (run_end.Damaged k offset) li lo h = h
ends_earlier command before a b u v m n (run_end.Unsupported k offset) li lo h = h
ends_earlier command before a b u v m n (run_end.Refused why) li lo h = h
ends_earlier command before a b u v m n (run_end.Broken why) li lo h = h
