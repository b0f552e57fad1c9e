use Rattle.std.proofs.Common.{◌≡◌, ℕ, suc, ◌+◌, ◌-◌, ◌<◌, ◌≤◌, true, List, [], ◌∷◌, ◌++◌, length, Some, refl, sym, ap, ◌∙◌, subst, arith, cond, leb, inl, inr}
use Rattle.std.specs.List.{range_with_len, sum_by, AllByRecursion}
use Rattle.std.proofs.lemmas.List.{append-nil}
use Rattle.std.proofs.lemmas.Bool.{leb-true, leb-false, cases_Bool}
use Rattle.ff_flac_subframe.specs.declared.rice.coding.Choice.{Choice}
use Rattle.ff_flac_subframe.specs.declared.rice.coding.Found.{Found}
use Rattle.ff_flac_subframe.specs.rice.Least.{choose, least}
use Rattle.ff_flac_subframe.specs.rice.Rice.{is_allowed, orders, residual_bits, codings, codings_by, codings_at, best_at, best_cost, parts_of, Coding}
use Rattle.ff_flac_subframe.specs.laws.rice.Spans.{Spans}
use Rattle.ff_flac_subframe.proofs.RiceLemmas.LeastLemmas.{least-append, choose_first, choose_second}
use Rattle.ff_flac_subframe.proofs.RiceLemmas.Costs.{least-codings_at, length-best_at}
use Rattle.ff_flac_subframe.proofs.RiceLemmas.PartLemmas.{pair_parts-parts_of}
use Rattle.ff_flac_subframe.proofs.RiceLemmas.SpanLemmas.{spans_pairs}
use Rattle.ff_flac_subframe.proofs.RiceLemmas.Orders.{allowed_parts}

abbrev pub coding_cost : ℕ → List ℕ → Coding → ℕ
coding_cost order us c = length (residual_bits order c us)

-- what is found is the best coding, and costs so much
abbrev pub IsBestFound : ℕ → List ℕ → Found → Type 0
IsBestFound order us f = least (coding_cost order us) (codings (length us + order) order) ≡ Some (best_at order f.method f.partition_order us)

abbrev pub IsCostFound : ℕ → List ℕ → Found → Type 0
IsCostFound order us f = f.cost ≡ coding_cost order us (best_at order f.method f.partition_order us)

-- the choice is the best of the partition orders from partition_order on, of which there are count
pub record IsBest (order : ℕ) (us : List ℕ) (method partition_order count : ℕ) (choice : Choice) : Type 0 where
  pub chosen : least (coding_cost order us) (codings_by (range_with_len partition_order count) method) ≡ Some (best_at order method choice.partition_order us)
  pub cost : choice.cost ≡ sum_by (best_cost method) (parts_of order choice.partition_order us)
  pub allowed : is_allowed (length us + order) order choice.partition_order ≡ true
  pub within : choice.partition_order ≤ 8

pub codings_by-cons : (partition_order : ℕ) (pos : List ℕ) (method : ℕ) → codings_by (partition_order ∷ pos) method ≡ codings_at method partition_order ++ codings_by pos method
unfolding codings_by
codings_by-cons partition_order pos method = refl

pub codings_by-nil : (method : ℕ) → codings_by [] method ≡ []
unfolding codings_by
codings_by-nil method = refl

pub cost_is : (order : ℕ) (us : List ℕ) (method partition_order cost : ℕ) → cost ≡ sum_by (best_cost method) (parts_of order partition_order us)
    → coding_cost order us (best_at order method partition_order us) ≡ 6 + cost
cost_is order us method partition_order cost h = length-best_at order method partition_order us ∙ ap (λ n. 6 + n) (sym h)

pub best_first : (order : ℕ) (us : List ℕ) (method partition_order cost : ℕ) → cost ≡ sum_by (best_cost method) (parts_of order partition_order us)
    → is_allowed (length us + order) order partition_order ≡ true → partition_order ≤ 8 → IsBest order us method partition_order 1 (record { partition_order = partition_order; cost = cost })
best_first order us method partition_order cost h holds within = record {
  chosen = ap (least (coding_cost order us)) (codings_by-cons partition_order [] method ∙ ap (λ l. codings_at method partition_order ++ l) (codings_by-nil method) ∙ append-nil (codings_at method partition_order))
      ∙ least-codings_at order method partition_order us;
  cost = h;
  allowed = holds;
  within = within;
}

best_lower : (order : ℕ) (us : List ℕ) (method partition_order count : ℕ) (old : Choice) (cost : ℕ) → IsBest order us method (partition_order + 1) count old
    → cost ≡ sum_by (best_cost method) (parts_of order partition_order us)
    → least (coding_cost order us) (codings_by (range_with_len partition_order (suc count)) method)
    ≡ choose (coding_cost order us) (Some (best_at order method partition_order us)) (Some (best_at order method old.partition_order us))
best_lower order us method partition_order count old cost h e =
    let C : Coding → ℕ = coding_cost order us in
    let rest : List Coding = codings_by (range_with_len (partition_order + 1) count) method in
    ap (least C) (codings_by-cons partition_order (range_with_len (partition_order + 1) count) method)
    ∙ least-append C (codings_at method partition_order) rest
    ∙ ap (λ o. choose C o (least C rest)) (least-codings_at order method partition_order us)
    ∙ ap (choose C (Some (best_at order method partition_order us))) h.chosen

pub best_next : (order : ℕ) (us : List ℕ) (method partition_order count : ℕ) (old new : Choice) (cost : ℕ) → IsBest order us method (partition_order + 1) count old
    → cost ≡ sum_by (best_cost method) (parts_of order partition_order us)
    → is_allowed (length us + order) order partition_order ≡ true → partition_order ≤ 8
    → new ≡ cond (leb cost old.cost) (record { partition_order = partition_order; cost = cost }) old → IsBest order us method partition_order (suc count) new
best_next order us method partition_order count old new cost h e holds within is =
    let C : Coding → ℕ = coding_cost order us in
    let here : C (best_at order method partition_order us) ≡ 6 + cost = cost_is order us method partition_order cost e in
    let there : C (best_at order method old.partition_order us) ≡ 6 + old.cost = cost_is order us method old.partition_order old.cost h.cost in
    let both = best_lower order us method partition_order count old cost h e in
    elim (cases_Bool (leb cost old.cost)) [
      | inl le ↦
          let c : cost ≤ old.cost = leb-true cost old.cost le in
          let n : new ≡ record { partition_order = partition_order; cost = cost } = is ∙ ap (λ t. cond t (record { partition_order = partition_order; cost = cost }) old) le in
          subst (IsBest order us method partition_order (suc count)) (sym n) (record {
            chosen = both ∙ choose_first C _ _ (omega (arith, here, there, c));
            cost = e;
            allowed = holds;
            within = within;
          })
      | inr gt ↦
          let c : old.cost < cost = leb-false cost old.cost gt in
          let n : new ≡ old = is ∙ ap (λ t. cond t (record { partition_order = partition_order; cost = cost }) old) gt in
          subst (IsBest order us method partition_order (suc count)) (sym n) (record {
            chosen = both ∙ choose_second C _ _ (omega (arith, here, there, c));
            cost = h.cost;
            allowed = h.allowed;
            within = h.within;
          })
    ]

-- both methods
pub best_of_both : (order : ℕ) (us : List ℕ) (p : ℕ) (first second : Choice) → orders (length us + order) order ≡ range_with_len 0 (p + 1)
    → IsBest order us 0 0 (suc p) first → IsBest order us 1 0 (suc p) second
    → least (coding_cost order us) (codings (length us + order) order) ≡ choose (coding_cost order us) (Some (best_at order 0 first.partition_order us)) (Some (best_at order 1 second.partition_order us))
unfolding codings
best_of_both order us p first second e f g =
    let C : Coding → ℕ = coding_cost order us in
    let s : p + 1 ≡ suc p = omega arith in
    let all : orders (length us + order) order ≡ range_with_len 0 (suc p) = e ∙ ap (range_with_len 0) s in
    least-append C (codings_by (orders (length us + order) order) 0) (codings_by (orders (length us + order) order) 1)
    ∙ ap (λ l. choose C (least C (codings_by l 0)) (least C (codings_by l 1))) all
    ∙ ap (λ o. choose C o (least C (codings_by (range_with_len 0 (suc p)) 1))) f.chosen
    ∙ ap (choose C (Some (best_at order 0 first.partition_order us))) g.chosen

pub both_first : (order : ℕ) (us : List ℕ) (p : ℕ) (first second : Choice) → orders (length us + order) order ≡ range_with_len 0 (p + 1)
    → IsBest order us 0 0 (suc p) first → IsBest order us 1 0 (suc p) second → first.cost ≤ second.cost
    → least (coding_cost order us) (codings (length us + order) order) ≡ Some (best_at order 0 first.partition_order us)
both_first order us p first second e f g le =
    best_of_both order us p first second e f g
    ∙ choose_first (coding_cost order us) _ _ (omega (arith, cost_is order us 0 first.partition_order first.cost f.cost, cost_is order us 1 second.partition_order second.cost g.cost, le))

pub both_second : (order : ℕ) (us : List ℕ) (p : ℕ) (first second : Choice) → orders (length us + order) order ≡ range_with_len 0 (p + 1)
    → IsBest order us 0 0 (suc p) first → IsBest order us 1 0 (suc p) second → second.cost < first.cost
    → least (coding_cost order us) (codings (length us + order) order) ≡ Some (best_at order 1 second.partition_order us)
both_second order us p first second e f g lt =
    best_of_both order us p first second e f g
    ∙ choose_second (coding_cost order us) _ _ (omega (arith, cost_is order us 0 first.partition_order first.cost f.cost, cost_is order us 1 second.partition_order second.cost g.cost, lt))

-- ---- one level and the next

spans_next : (low high order partition_order : ℕ) (us : List ℕ) → is_allowed (length us + order) order (suc partition_order) ≡ true
    → AllByRecursion (Spans low high) (parts_of order (suc partition_order) us) → AllByRecursion (Spans low high) (parts_of order partition_order us)
spans_next low high order partition_order us a h =
    let p = allowed_parts (length us + order) order (suc partition_order) a in
    subst (AllByRecursion (Spans low high)) (pair_parts-parts_of order partition_order us p.0 p.1) (spans_pairs low high (parts_of order (suc partition_order) us) h)

pub spans_after : (low high order partition_order p : ℕ) (us : List ℕ) → partition_order ≡ suc p → is_allowed (length us + order) order partition_order ≡ true
    → AllByRecursion (Spans low high) (parts_of order partition_order us) → AllByRecursion (Spans low high) (parts_of order p us)
spans_after low high order partition_order p us e a h =
    spans_next low high order p us (subst (λ m. is_allowed (length us + order) order m ≡ true) e a) (subst (λ m. AllByRecursion (Spans low high) (parts_of order m us)) e h)

pub best_after : (order : ℕ) (us : List ℕ) (method partition_order p top : ℕ) (old new : Choice) (cost : ℕ) → partition_order ≡ p + 1 → partition_order ≤ top
    → IsBest order us method partition_order (suc (top - partition_order)) old → cost ≡ sum_by (best_cost method) (parts_of order p us)
    → is_allowed (length us + order) order p ≡ true → p ≤ 8
    → new ≡ cond (leb cost old.cost) (record { partition_order = p; cost = cost }) old → IsBest order us method p (suc (top - p)) new
best_after order us method partition_order p top old new cost e l h c a w is =
    let n : suc (suc (top - partition_order)) ≡ suc (top - p) = omega arith in
    subst (λ m. IsBest order us method p m new) n
    (best_next order us method p (suc (top - partition_order)) old new cost (subst (λ m. IsBest order us method m (suc (top - partition_order)) old) e h) c a w is)

pub best_end : (order : ℕ) (us : List ℕ) (method partition_order top : ℕ) (choice : Choice) → partition_order ≡ 0 → IsBest order us method partition_order (suc (top - partition_order)) choice → IsBest order us method 0 (suc top) choice
best_end order us method partition_order top choice e h =
    let n : suc (top - 0) ≡ suc top = omega arith in
    subst (λ m. IsBest order us method 0 m choice) n (subst (λ m. IsBest order us method m (suc (top - m)) choice) e h)
