-- Places that are filled again, one part more.
use Rattle.std.proofs.Common.{◌≡◌, inl, inr, ℕ, zero, suc, ◌+◌, ◌<◌, ◌≤◌, List, [], ◌∷◌, length, drop, slice_get, Option, None, Some, ◌⊎◌, ap, ◌∙◌, subst, arith, add-one}
use Rattle.ff_plan.specs.declared.planned.PlanNode.{PlanNode}
use Rattle.ff_plan.specs.declared.planned.PlanNode.TheVariants as node
use Rattle.ff_run_plan.specs.Parts.{IsBefore, AreOrdered, source_at}
use Rattle.ff_run_plan.proofs.Numbers.{same_some, ordered}

head_of_drop : {A : Type 0} (xs : List A) (n : ℕ) (m : A) (rest : List A) → drop n xs ≡ m ∷ rest → (slice_get xs n ≡ Some m) × (drop (suc n) xs ≡ rest)
head_of_drop [] zero m rest e = absurd cc
head_of_drop [] (suc n) m rest e = absurd cc
head_of_drop (x ∷ xs) zero m rest e = (let same : x ∷ xs ≡ m ∷ rest = e in (cc, cc))
head_of_drop (x ∷ xs) (suc n) m rest e = head_of_drop xs n m rest e

-- the first of what is left
pub next_left : {A : Type 0} (xs : List A) (n : ℕ) (m : A) (rest : List A) → drop n xs ≡ m ∷ rest → (slice_get xs n ≡ Some m) × (drop (n + 1) xs ≡ rest)
next_left {A} xs n m rest e = (let h = head_of_drop xs n m rest e in (h.0, ap (λ (k : ℕ). drop k xs) (add-one n) ∙ h.1))

pub none_left : {A : Type 0} (xs : List A) (n : ℕ) → drop n xs ≡ [] → length xs ≤ n
none_left [] n e = omega arith
none_left (x ∷ xs) zero e = absurd cc
none_left (x ∷ xs) (suc n) e = (let h = none_left xs n e in omega (arith, h))

-- a Demux node or a Mux node stands there once
pub demux_once : (inputs outputs : ℕ) (nodes : List PlanNode) → AreOrdered inputs outputs nodes → (j k i : ℕ) → slice_get nodes j ≡ Some (node.Demux i) → slice_get nodes k ≡ Some (node.Demux i) → j ≡ k
demux_once inputs outputs nodes o j k i a b = elim (ordered j k) [
  | inl lt ↦ (let up = o.rising j k i i a b lt in absurd (omega (arith, up)))
  | inr r ↦ elim r [ inl e ↦ e | inr lt ↦ (let up = o.rising k j i i b a lt in absurd (omega (arith, up))) ]
]

pub mux_once : (inputs outputs : ℕ) (nodes : List PlanNode) → AreOrdered inputs outputs nodes → (j k i : ℕ) → slice_get nodes j ≡ Some (node.Mux i) → slice_get nodes k ≡ Some (node.Mux i) → j ≡ k
mux_once inputs outputs nodes o j k i a b = elim (ordered j k) [
  | inl lt ↦ (let up = o.muxes_rise j k i i a b lt in absurd (omega (arith, up)))
  | inr r ↦ elim r [ inl e ↦ e | inr lt ↦ (let up = o.muxes_rise k j i i b a lt in absurd (omega (arith, up))) ]
]

-- the kinds of source
pub source_kind : (o : Option PlanNode) (i : ℕ) → source_at o ≡ Some i → (o ≡ Some (node.Demux i)) ⊎ (o ≡ Some (node.Gen i))
source_kind None i e = absurd cc
source_kind (Some (node.Demux j)) i e = inl (let same : Some j ≡ Some i = e in let is : j ≡ i = cc in ap (λ (n : ℕ). Some (node.Demux n)) is)
source_kind (Some (node.Gen j)) i e = inr (let same : Some j ≡ Some i = e in let is : j ≡ i = cc in ap (λ (n : ℕ). Some (node.Gen n)) is)
source_kind (Some (node.Dec at)) i e = absurd cc
source_kind (Some (node.Graph g)) i e = absurd cc
source_kind (Some (node.Shortest o)) i e = absurd cc
source_kind (Some (node.Enc o j)) i e = absurd cc
source_kind (Some (node.Mux o)) i e = absurd cc

-- and a source stands there once
pub source_once : (inputs outputs : ℕ) (nodes : List PlanNode) → AreOrdered inputs outputs nodes → (j k i : ℕ) → source_at (slice_get nodes j) ≡ Some i → source_at (slice_get nodes k) ≡ Some i → j ≡ k
source_once inputs outputs nodes o j k i a b = elim (source_kind (slice_get nodes j) i a) [
  | inl x ↦ elim (source_kind (slice_get nodes k) i b) [
    | inl y ↦ demux_once inputs outputs nodes o j k i x y
    | inr y ↦ (let lt = o.inputs_there j i x in let le = o.made_behind k i y in absurd (omega (arith, lt, le)))
  ]
  | inr x ↦ elim (source_kind (slice_get nodes k) i b) [
    | inl y ↦ (let lt = o.inputs_there k i y in let le = o.made_behind j i x in absurd (omega (arith, lt, le)))
    | inr y ↦ o.made_once j k i x y
  ]
]

module _ {T M : Type 0} (Back : M → T → Type 0) (mk : ℕ → PlanNode) (nodes : List PlanNode) (parts : List M) (was now : List (Option T)) (n : ℕ) (x : PlanNode) (m : M)
    (at : slice_get nodes n ≡ Some x) (here : slice_get parts n ≡ Some m) (kept : (w : ℕ) → (x ≡ mk w → ⊥) → slice_get now w ≡ slice_get was w) where
  -- what the parts so far gave back
  pub back_next : ((j k i : ℕ) → slice_get nodes j ≡ Some (mk i) → slice_get nodes k ≡ Some (mk i) → j ≡ k)
      → ((k i : ℕ) (y : M) → k < n → slice_get nodes k ≡ Some (mk i) → slice_get parts k ≡ Some y → (s : T) × (slice_get was i ≡ Some (Some s)) × Back y s)
      → ((i : ℕ) → x ≡ mk i → (s : T) × (slice_get now i ≡ Some (Some s)) × Back m s)
      → (k i : ℕ) (y : M) → k < n + 1 → slice_get nodes k ≡ Some (mk i) → slice_get parts k ≡ Some y → (s : T) × (slice_get now i ≡ Some (Some s)) × Back y s
  back_next once before put k i y lt nk pk = elim (ordered k n) [
    | inl below ↦
        let b = before k i y below nk pk in
        (b.0, kept i (λ e. let same : k ≡ n = once k n i nk (at ∙ ap (λ (z : PlanNode). Some z) e) in omega (arith, below, same)) ∙ b.1, b.2)
    | inr r ↦ elim r [
      | inl e ↦
          let is : x ≡ mk i = same_some (slice_get nodes n) x (mk i) at (subst (λ (j : ℕ). slice_get nodes j ≡ Some (mk i)) e nk) in
          let same : m ≡ y = same_some (slice_get parts n) m y here (subst (λ (j : ℕ). slice_get parts j ≡ Some y) e pk) in
          let p = put i is in
          (p.0, p.1, subst (λ (z : M). Back z p.0) same p.2)
      | inr over ↦ absurd (omega (arith, lt, over))
    ]
  ]

  -- places of nodes that don't stand among these
  pub others_next : (first : List (Option T)) → ((i : ℕ) → (IsBefore nodes n (mk i) → ⊥) → slice_get was i ≡ slice_get first i) → (i : ℕ) → (IsBefore nodes (n + 1) (mk i) → ⊥) → slice_get now i ≡ slice_get first i
  others_next first before i out =
      kept i (λ e. out (n, omega arith, at ∙ ap (λ (z : PlanNode). Some z) e))
      ∙ before i (λ b. out (let lt = b.1 in (b.0, omega (arith, lt), b.2)))
