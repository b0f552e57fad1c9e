-- The run of a plan, with the sink of a trace behind those of the outputs.
use Rattle.std.proofs.Common.{◌≡◌, ◌⊎◌, inl, inr, ℕ, zero, suc, ◌+◌, ◌<◌, ◌≤◌, List, [], ◌∷◌, ◌++◌, length, get_or, Option, None, Some, IfSome, IsSome, refl, sym, ap, ◌∙◌, subst, arith, append-nil}
use Rattle.std.specs.Io.KnownBytes.{Appends}
use Rattle.ff_host.specs.Causes.{Rose}
use Rattle.ff_files.specs.declared.work.WorkEnd.{WorkEnd}
use Rattle.ff_files.specs.declared.work.WorkEnd.TheVariants as work_end
use Rattle.ff_files.specs.Works.{Meaning, AreTold, HoldsPart, HoldFirstFiles, HoldFirstParts, GainTexts, HasLog, KeepEnds, FailNoMore, EndsWork, sound_sources, sound_sinks}
use Rattle.ff_files.specs.laws.Runs.{RunSays, GoesOn, IsRun}
use Rattle.ff_files.proofs.Lists.{length_snoc, at_pushed}
use Rattle.ff_files.proofs.Wholes.{which}

front_at : {A : Type 0} (xs ys : List A) (j : ℕ) (d : A) → j < length xs → get_or (xs ++ ys) j d ≡ get_or xs j d
front_at [] ys j d lt = absurd (omega (arith, lt))
front_at (x ∷ xs) ys zero d lt = refl
front_at (x ∷ xs) ys (suc j) d lt = front_at xs ys j d (omega (arith, lt))

-- what is so of a thing that may be there is so of it in other words
pub if_some_more : {L : Type 0} (P Q : L → Type 0) (o : Option L) → ((l : L) → P l → Q l) → IfSome o P → IfSome o Q
if_some_more P Q None f p = tt
if_some_more P Q (Some l) f p = f l p

module _ {H R F L S K : Type 0} (means : Meaning H R F) (left named : S → Option (List ℕ)) (failed : S → ℕ) (holds called : K → Option (List ℕ)) (faulted : K → ℕ)
    (tells : Option (List (List ℕ)) → L → Type 0) (printed : L → List ℕ) (heads : List H) where
  -- a run over the sinks of the outputs alone
  pub plain_run : (srcs : List S) (snks : List K) (end : WorkEnd F) (log : Option L) (srcs' : List S) (snks' : List K)
      → RunSays means left named failed holds called faulted tells heads srcs snks end log srcs' snks'
      → IsRun means left named failed holds called faulted tells printed (length snks) heads srcs snks end log srcs' snks'
  plain_run srcs snks end log srcs' snks' says = record {
    fine = λ f bytes told j d lt below. says.fine f bytes told j d below;
    parts = λ bytes told j d lt below. says.parts bytes told j d below;
    srcs_kept = says.srcs_kept;
    snks_kept = says.snks_kept;
    ends = says.ends;
    sound_srcs = says.sound_srcs;
    sound_snks = says.sound_snks;
    unfailed = λ f k d le lt. absurd (omega (arith, le, lt));
    logged = says.logged;
    traced = λ f. none log;
  }
    where
      none : (o : Option L) → IfSome o (λ l. GainTexts (length snks) holds (printed l) snks snks')
      none None = tt
      none (Some l) = λ j d le lt. absurd (omega (arith, le, lt))

  module _ (srcs srcs' : List S) (snks snks' : List K) (trace trace' : K) (end after : WorkEnd F) (log : Option L)
      (r : IsRun means left named failed holds called faulted tells printed (length snks) heads srcs snks end log srcs' snks')
      (t : GoesOn printed holds called faulted (length snks) log trace trace' end after) where
    front_told : (bytes : List (List ℕ)) → AreTold left holds srcs (snks ++ trace ∷ []) bytes → AreTold left holds srcs snks bytes
    front_told bytes told = record {
      as_many = told.as_many;
      left_is = told.left_is;
      empty = λ j d lt. ap holds (sym (front_at snks (trace ∷ []) j d lt)) ∙ told.empty j d (let n = length_snoc snks trace in omega (arith, lt, n));
    }

    below : (j : ℕ) → j < length snks → j < length snks'
    below j lt = (let many = r.snks_kept.as_many in omega (arith, lt, many))

    in_front : (f : K → ℕ) (j : ℕ) (d : K) → j < length snks → f (get_or snks' j d) ≡ f (get_or snks j d) → f (get_or (snks' ++ trace' ∷ []) j d) ≡ f (get_or (snks ++ trace ∷ []) j d)
    in_front f j d lt e = ap f (front_at snks' (trace' ∷ []) j d (below j lt)) ∙ (e ∙ ap f (sym (front_at snks (trace ∷ []) j d lt)))

    at_last : (X : Type 0) (f : K → X) (j : ℕ) (d : K) → j < length (snks ++ trace ∷ []) → length snks ≤ j → f trace' ≡ f trace → f (get_or (snks' ++ trace' ∷ []) j d) ≡ f (get_or (snks ++ trace ∷ []) j d)
    at_last X f j d lt le e =
        let n = length_snoc snks trace in
        let many = r.snks_kept.as_many in
        let here : length snks ≡ j = omega (arith, lt, le, n) in
        let here' : length snks' ≡ j = omega (arith, here, many) in
        ap f (at_pushed snks' (snks' ++ trace' ∷ []) trace' j d refl here') ∙ (e ∙ ap f (sym (at_pushed snks (snks ++ trace ∷ []) trace j d refl here)))

    kept_all : KeepEnds called (snks ++ trace ∷ []) (snks' ++ trace' ∷ [])
    kept_all = record {
      as_many = (let a = length_snoc snks trace in let b = length_snoc snks' trace' in let many = r.snks_kept.as_many in omega (arith, a, b, many));
      same_name = λ k d lt. elim (which k (length snks)) [
        | inl less ↦ ap called (front_at snks' (trace' ∷ []) k d (below k less)) ∙ (r.snks_kept.same_name k d less ∙ ap called (sym (front_at snks (trace ∷ []) k d less)))
        | inr le ↦ at_last (Option (List ℕ)) called k d lt le t.name
      ];
    }

    abbrev EndsAll : WorkEnd F → Type 0
    EndsAll e = EndsWork means failed faulted srcs (snks ++ trace ∷ []) srcs' (snks' ++ trace' ∷ []) heads (AreTold left holds srcs (snks ++ trace ∷ [])) e

    last_rose : Rose (faulted trace) (faulted trace') → (d : K) → Rose (faulted (get_or (snks ++ trace ∷ []) (length snks) d)) (faulted (get_or (snks' ++ trace' ∷ []) (length snks) d))
    last_rose rose d =
        subst (λ (x : K). Rose (faulted x) (faulted (get_or (snks' ++ trace' ∷ []) (length snks) d))) (sym (at_pushed snks (snks ++ trace ∷ []) trace (length snks) d refl refl))
        (subst (λ (x : K). Rose (faulted trace) (faulted x)) (sym (at_pushed snks' (snks' ++ trace' ∷ []) trace' (length snks) d refl r.snks_kept.as_many)) rose)

    front_rose : (j : ℕ) (d : K) → j < length snks → Rose (faulted (get_or snks j d)) (faulted (get_or snks' j d)) → Rose (faulted (get_or (snks ++ trace ∷ []) j d)) (faulted (get_or (snks' ++ trace' ∷ []) j d))
    front_rose j d lt rose =
        subst (λ (x : K). Rose (faulted x) (faulted (get_or (snks' ++ trace' ∷ []) j d))) (sym (front_at snks (trace ∷ []) j d lt))
        (subst (λ (x : K). Rose (faulted (get_or snks j d)) (faulted x)) (sym (front_at snks' (trace' ∷ []) j d (below j lt))) rose)

    one_more : length snks < length (snks ++ trace ∷ [])
    one_more = (let n = length_snoc snks trace in omega (arith, n))

    ends_all : (e a : WorkEnd F) → EndsWork means failed faulted srcs snks srcs' snks' heads (AreTold left holds srcs snks) e → ((e ≡ work_end.Fine → ⊥) → a ≡ e)
        → (e ≡ work_end.Fine → (a ≡ work_end.Fine) ⊎ (a ≡ work_end.NoMemory) ⊎ ((a ≡ work_end.Output (length snks)) × Rose (faulted trace) (faulted trace'))) → EndsAll a
    ends_all work_end.Fine a h kept ended = elim (ended refl) [
      | inl f ↦ subst EndsAll (sym f) tt
      | inr more ↦ elim more [
        | inl n ↦ subst EndsAll (sym n) tt
        | inr o ↦ subst EndsAll (sym o.0) (one_more, last_rose o.1)
      ]
    ]
    ends_all (work_end.Input i) a h kept ended = subst EndsAll (sym (kept (λ x. cc))) h
    ends_all (work_end.Output j) a h kept ended =
        subst EndsAll (sym (kept (λ x. cc))) ((let lt = h.0 in let n = length_snoc snks trace in omega (arith, lt, n)), λ d. front_rose j d h.0 (h.1 d))
    ends_all (work_end.Broken why) a h kept ended = subst EndsAll (sym (kept (λ x. cc))) (λ bytes told. h bytes (front_told bytes told))
    ends_all work_end.NoMemory a h kept ended = subst EndsAll (sym (kept (λ x. cc))) tt

    srcs_sound : (e a : WorkEnd F) → FailNoMore failed srcs srcs' (sound_sources means e (length srcs)) → ((e ≡ work_end.Fine → ⊥) → a ≡ e) → FailNoMore failed srcs srcs' (sound_sources means a (length srcs))
    srcs_sound work_end.Fine a h kept = λ k d lt less. h k d lt lt
    srcs_sound (work_end.Input i) a h kept = subst (λ (x : WorkEnd F). FailNoMore failed srcs srcs' (sound_sources means x (length srcs))) (sym (kept (λ x. cc))) h
    srcs_sound (work_end.Output j) a h kept = subst (λ (x : WorkEnd F). FailNoMore failed srcs srcs' (sound_sources means x (length srcs))) (sym (kept (λ x. cc))) h
    srcs_sound (work_end.Broken why) a h kept = subst (λ (x : WorkEnd F). FailNoMore failed srcs srcs' (sound_sources means x (length srcs))) (sym (kept (λ x. cc))) h
    srcs_sound work_end.NoMemory a h kept = subst (λ (x : WorkEnd F). FailNoMore failed srcs srcs' (sound_sources means x (length srcs))) (sym (kept (λ x. cc))) h

    abbrev SoundAll : WorkEnd F → Type 0
    SoundAll a = FailNoMore faulted (snks ++ trace ∷ []) (snks' ++ trace' ∷ []) (sound_sinks means a (length (snks ++ trace ∷ [])))

    all_sound : FailNoMore faulted snks snks' (length snks) → faulted trace' ≡ faulted trace → SoundAll work_end.Fine
    all_sound h same = λ k d lt less. elim (which k (length snks)) [
      | inl front ↦ in_front faulted k d front (h k d front front)
      | inr le ↦ at_last ℕ faulted k d lt le same
    ]

    snks_sound : (e a : WorkEnd F) → EndsWork means failed faulted srcs snks srcs' snks' heads (AreTold left holds srcs snks) e → FailNoMore faulted snks snks' (sound_sinks means e (length snks))
        → ((e ≡ work_end.Fine → ⊥) → a ≡ e) → (e ≡ work_end.Fine → (a ≡ work_end.Fine) ⊎ (a ≡ work_end.NoMemory) ⊎ ((a ≡ work_end.Output (length snks)) × Rose (faulted trace) (faulted trace')))
        → (a ≡ work_end.Fine → faulted trace' ≡ faulted trace) → SoundAll a
    snks_sound work_end.Fine a w h kept ended same = elim (ended refl) [
      | inl f ↦ subst SoundAll (sym f) (all_sound h (same f))
      | inr more ↦ elim more [
        | inl n ↦ subst SoundAll (sym n) (λ k d lt less. absurd (omega (arith, less)))
        | inr o ↦ subst SoundAll (sym o.0) (λ k d lt less. in_front faulted k d less (h k d less less))
      ]
    ]
    snks_sound (work_end.Input i) a w h kept ended same = subst SoundAll (sym (kept (λ x. cc))) (λ k d lt less. absurd (omega (arith, less)))
    snks_sound (work_end.Output j) a w h kept ended same =
        subst SoundAll (sym (kept (λ x. cc))) (λ k d lt less. (let there : k < length snks = (let own = w.0 in omega (arith, less, own)) in in_front faulted k d there (h k d there less)))
    snks_sound (work_end.Broken why) a w h kept ended same = subst SoundAll (sym (kept (λ x. cc))) (λ k d lt less. absurd (omega (arith, less)))
    snks_sound work_end.NoMemory a w h kept ended same = subst SoundAll (sym (kept (λ x. cc))) (λ k d lt less. absurd (omega (arith, less)))

    gains : (l : L) → Appends (holds trace) (holds trace') (printed l) → GainTexts (length snks) holds (printed l) (snks ++ trace ∷ []) (snks' ++ trace' ∷ [])
    gains l gained = λ j d le lt.
        let n = length_snoc snks trace in
        let many = r.snks_kept.as_many in
        let here : length snks ≡ j = omega (arith, lt, le, n) in
        let here' : length snks' ≡ j = omega (arith, here, many) in
        subst (λ (x : K). Appends (holds x) (holds (get_or (snks' ++ trace' ∷ []) j d)) (printed l)) (sym (at_pushed snks (snks ++ trace ∷ []) trace j d refl here))
        (subst (λ (x : K). Appends (holds trace) (holds x) (printed l)) (sym (at_pushed snks' (snks' ++ trace' ∷ []) trace' j d refl here')) gained)

    -- and over these and the trace's
    pub traced_run : IsRun means left named failed holds called faulted tells printed (length snks) heads srcs (snks ++ trace ∷ []) after log srcs' (snks' ++ trace' ∷ [])
    traced_run = record {
      fine = λ f bytes told j d lt less.
          let h = r.fine (t.fine f) bytes (front_told bytes told) j d lt (below j lt) in (h.0, ap holds (front_at snks' (trace' ∷ []) j d (below j lt)) ∙ h.1);
      parts = λ bytes told j d lt less.
          subst (λ (x : K). HoldsPart (holds x) (means.text heads bytes j) (means.file heads bytes j)) (sym (front_at snks' (trace' ∷ []) j d (below j lt)))
          (r.parts bytes (front_told bytes told) j d lt (below j lt));
      srcs_kept = r.srcs_kept;
      snks_kept = kept_all;
      ends = ends_all end after r.ends t.kept t.ended;
      sound_srcs = srcs_sound end after r.sound_srcs t.kept;
      sound_snks = snks_sound end after r.ends r.sound_snks t.kept t.ended t.sound;
      unfailed = λ f k d le lt. at_last ℕ faulted k d lt le (t.unfailed f);
      logged = λ f bytes told. r.logged (t.fine f) bytes (if_some_more (AreTold left holds srcs (snks ++ trace ∷ [])) (AreTold left holds srcs snks) bytes front_told told);
      traced = λ f. if_some_more (λ l. Appends (holds trace) (holds trace') (printed l)) (λ l. GainTexts (length snks) holds (printed l) (snks ++ trace ∷ []) (snks' ++ trace' ∷ [])) log gains (t.gained f);
    }
