-- What a run does to the ends of its parts: sources, or sinks.
use Rattle.std.proofs.Common.{◌≡◌, ◌≢◌, ◌⊎◌, inl, inr, ℕ, ◌<◌, List, length, slice_get, slice_index_or, Option, Some, None, sym, ap, ◌∙◌, subst, arith}
use Rattle.std.proofs.lemmas.Option.{slice_get_within, get_or_from_slice_get}
use Rattle.ff_host.specs.Causes.{Rose}
use Rattle.ff_net.specs.declared.fault.Fault.TheVariants.{Device}
use Rattle.ff_net.specs.laws.Laws.{FaultStep}
use Rattle.ff_net.specs.laws.Views.{View}
use Rattle.ff_net_threads.specs.laws.network.Runs.{AllKept}
use Rattle.ff_plan.specs.declared.planned.PlanNode.{PlanNode}
use Rattle.ff_files.specs.Works.{KeepEnds}
use Rattle.ff_run_plan.specs.Kinds.{IsEndOf}
use Rattle.ff_run_plan.specs.Parts.{IsBefore}
use Rattle.ff_run_plan.proofs.Numbers.{there}

module _ {T M : Type 0} (named : T → Option (List ℕ)) (failed : T → ℕ) (view : M → View) (mk : ℕ → PlanNode) (nodes : List PlanNode) (all all' : List T) (olds news : List M) where
  -- of the nodes that have such an end: what a part has before the run, and what it gives back after it
  pub record AreEnds : Type 0 where
    pub kept : AllKept view olds news
    pub count : length all' ≡ length all
    pub begun : (k i : ℕ) (m : M) (x : T) → slice_get nodes k ≡ Some (mk i) → slice_get olds k ≡ Some m → slice_get all i ≡ Some x
        → ((view m).fault ≡ None) × ((view m).device ≡ named x) × ((view m).failures ≡ failed x)
    pub back : (k i : ℕ) (m : M) → slice_get nodes k ≡ Some (mk i) → slice_get news k ≡ Some m → (x : T) × (slice_get all' i ≡ Some x) × IsEndOf named failed (view m) x
    pub other : (i : ℕ) → (IsBefore nodes (length news) (mk i) → ⊥) → slice_get all' i ≡ slice_get all i
    pub or : (i : ℕ) → IsBefore nodes (length news) (mk i) ⊎ (IsBefore nodes (length news) (mk i) → ⊥)
    pub in_range : (k i : ℕ) → slice_get nodes k ≡ Some (mk i) → i < length all

  -- the end of a part, before and after
  pub record HasMoved (i : ℕ) (m : M) : Type 0 where
    pub was : T
    pub is : T
    pub was_at : slice_get all i ≡ Some was
    pub is_at : slice_get all' i ≡ Some is
    pub name : named is ≡ named was
    pub same : (view m).fault ≢ Some Device → failed is ≡ failed was
    pub rose : (view m).fault ≡ Some Device → Rose (failed was) (failed is)

  pub moved : AreEnds → (k i : ℕ) (m : M) → slice_get nodes k ≡ Some (mk i) → slice_get news k ≡ Some m → HasMoved i m
  moved e k i m at there_now =
      let lt : k < length olds = (let w = slice_get_within news k m there_now in let c = e.kept.count in omega (arith, w, c)) in
      let old = there olds k lt in
      let was = there all i (e.in_range k i at) in
      let b = e.begun k i old.0 was.0 at old.1 was.1 in
      let g = e.back k i m at there_now in
      let before : slice_index_or olds k old.0 ≡ old.0 = get_or_from_slice_get olds k old.0 old.0 old.1 in
      let after : slice_index_or news k m ≡ m = get_or_from_slice_get news k m m there_now in
      let raw : FaultStep (view (slice_index_or olds k old.0)) (view (slice_index_or news k m)) = e.kept.fares k old.0 m lt in
      let step : FaultStep (view old.0) (view m) = subst (λ (x : M). FaultStep (view x) (view m)) before (subst (λ (x : M). FaultStep (view (slice_index_or olds k old.0)) (view x)) after raw) in
      let from : (view old.0).failures ≡ failed was.0 = b.2 in
      let to : failed g.0 ≡ (view m).failures = g.2.faults in record {
        was = was.0;
        is = g.0;
        was_at = was.1;
        is_at = g.1;
        name = g.2.name ∙ (step.device_same ∙ b.1);
        same = λ never. to ∙ (step.unfailed never ∙ from);
        rose = λ sure. subst (λ (n : ℕ). Rose n (failed g.0)) from (subst (λ (n : ℕ). Rose (view old.0).failures n) (sym to) (step.failed b.0 sure));
      }

  -- at a number, whatever the default
  at_both : (i : ℕ) (m : M) (h : HasMoved i m) (d : T) → (slice_index_or all' i d ≡ h.is) × (slice_index_or all i d ≡ h.was)
  at_both i m h d = (get_or_from_slice_get all' i h.is d h.is_at, get_or_from_slice_get all i h.was d h.was_at)

  untouched : (i : ℕ) (d : T) → i < length all → slice_get all' i ≡ slice_get all i → slice_index_or all' i d ≡ slice_index_or all i d
  untouched i d lt e = (let x = there all i lt in get_or_from_slice_get all' i x.0 d (e ∙ x.1) ∙ sym (get_or_from_slice_get all i x.0 d x.1))

  -- each keeps its name
  pub keep_ends : AreEnds → KeepEnds named all all'
  keep_ends e = record {
    as_many = e.count;
    same_name = λ i d lt. elim (e.or i) [
      | inl b ↦
          let m = there news b.0 b.1 in
          let h = moved e b.0 i m.0 b.2 m.1 in
          let at = at_both i m.0 h d in
          ap named at.0 ∙ (h.name ∙ sym (ap named at.1))
      | inr never ↦ ap named (untouched i d lt (e.other i never))
    ];
  }

  -- one whose part has no fault of its device has failed no more
  pub unfailed : AreEnds → (i : ℕ) → i < length all → ((k : ℕ) (m : M) → slice_get nodes k ≡ Some (mk i) → slice_get news k ≡ Some m → (view m).fault ≢ Some Device)
      → (d : T) → failed (slice_index_or all' i d) ≡ failed (slice_index_or all i d)
  unfailed e i lt quiet d = elim (e.or i) [
    | inl b ↦
        let m = there news b.0 b.1 in
        let h = moved e b.0 i m.0 b.2 m.1 in
        let at = at_both i m.0 h d in
        ap failed at.0 ∙ (h.same (quiet b.0 m.0 b.2 m.1) ∙ sym (ap failed at.1))
    | inr never ↦ ap failed (untouched i d lt (e.other i never))
  ]

  -- and one whose part has one has failed once more
  pub has_risen : AreEnds → (k i : ℕ) (m : M) → slice_get nodes k ≡ Some (mk i) → slice_get news k ≡ Some m → (view m).fault ≡ Some Device
      → (i < length all) × ((d : T) → Rose (failed (slice_index_or all i d)) (failed (slice_index_or all' i d)))
  has_risen e k i m at now sure =
      let h = moved e k i m at now in (
        e.in_range k i at,
        λ d.
            let at = at_both i m h d in
            subst (λ (x : T). Rose (failed x) (failed (slice_index_or all' i d))) (sym at.1) (subst (λ (x : T). Rose (failed h.was) (failed x)) (sym at.0) (h.rose sure)),
      )
