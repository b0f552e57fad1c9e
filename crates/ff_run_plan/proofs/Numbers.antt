-- Elements by number, and what can be decided of them.
use Rattle.std.proofs.Common.{◌≡◌, ◌⊎◌, inl, inr, ℕ, zero, suc, ◌<◌, List, [], ◌∷◌, length, slice_get, Option, Some, None, refl, sym, ap, ◌∙◌, subst, arith}
use Rattle.ff_plan.specs.declared.planned.PlanNode.{PlanNode}
use Rattle.ff_plan.specs.declared.planned.PlanNode.TheVariants as node
use Rattle.ff_run_plan.specs.Parts.{IsBefore}

-- what stands at a number below the length
pub there : {A : Type 0} (xs : List A) (k : ℕ) → k < length xs → (x : A) × (slice_get xs k ≡ Some x)
there [] k lt = absurd (omega (arith, lt))
there (x ∷ xs) zero lt = (x, refl)
there (x ∷ xs) (suc k) lt = there xs k (omega (arith, lt))

pub same_some : {A : Type 0} (o : Option A) (x y : A) → o ≡ Some x → o ≡ Some y → x ≡ y
same_some o x y a b = (let same : Some x ≡ Some y = sym a ∙ b in cc)

-- below, at or above
pub ordered : (j k : ℕ) → (j < k) ⊎ ((j ≡ k) ⊎ (k < j))
ordered zero zero = inr (inl refl)
ordered zero (suc k) = inl (omega arith)
ordered (suc j) zero = inr (inr (omega arith))
ordered (suc j) (suc k) = elim (ordered j k) [ inl l ↦ inl (omega (arith, l)) | inr r ↦ inr (elim r [ inl e ↦ inl (ap suc e) | inr l ↦ inr (omega (arith, l)) ]) ]

pub same_or : (j k : ℕ) → (j ≡ k) ⊎ (j ≡ k → ⊥)
same_or j k = elim (ordered j k) [ inl l ↦ inr (λ e. omega (arith, l, e)) | inr r ↦ elim r [ inl e ↦ inl e | inr l ↦ inr (λ e. omega (arith, l, e)) ] ]

-- below a number one has the property, or none has it
pub one_below : (P : ℕ → Type 0) → ((j : ℕ) → P j ⊎ (P j → ⊥)) → (count : ℕ) → ((j : ℕ) × (j < count) × P j) ⊎ (((j : ℕ) × (j < count) × P j) → ⊥)
one_below P decide zero = inr (λ b. let lt = b.1 in omega (arith, lt))
one_below P decide (suc n) = elim (one_below P decide n) [
  | inl b ↦ inl (let lt = b.1 in (b.0, omega (arith, lt), b.2))
  | inr never ↦ elim (decide n) [
    | inl here ↦ inl (n, omega arith, here)
    | inr other ↦ inr (λ b. elim (ordered b.0 n) [
      | inl lt ↦ never (b.0, lt, b.2)
      | inr r ↦ elim r [ inl e ↦ other (subst P e b.2) | inr over ↦ (let lt = b.1 in absurd (omega (arith, lt, over))) ]
    ])
  ]
]

demux_or : (o : Option PlanNode) (i : ℕ) → (o ≡ Some (node.Demux i)) ⊎ (o ≡ Some (node.Demux i) → ⊥)
demux_or None i = inr (λ e. cc)
demux_or (Some (node.Demux j)) i = elim (same_or j i) [ inl e ↦ inl (ap (λ (n : ℕ). Some (node.Demux n)) e) | inr never ↦ inr (λ e. never cc) ]
demux_or (Some (node.Gen j)) i = inr (λ e. cc)
demux_or (Some (node.Dec at)) i = inr (λ e. cc)
demux_or (Some (node.Graph g)) i = inr (λ e. cc)
demux_or (Some (node.Shortest o)) i = inr (λ e. cc)
demux_or (Some (node.Enc o j)) i = inr (λ e. cc)
demux_or (Some (node.Mux o)) i = inr (λ e. cc)

mux_or : (x : Option PlanNode) (o : ℕ) → (x ≡ Some (node.Mux o)) ⊎ (x ≡ Some (node.Mux o) → ⊥)
mux_or None o = inr (λ e. cc)
mux_or (Some (node.Demux j)) o = inr (λ e. cc)
mux_or (Some (node.Gen j)) o = inr (λ e. cc)
mux_or (Some (node.Dec at)) o = inr (λ e. cc)
mux_or (Some (node.Graph g)) o = inr (λ e. cc)
mux_or (Some (node.Shortest p)) o = inr (λ e. cc)
mux_or (Some (node.Enc p j)) o = inr (λ e. cc)
mux_or (Some (node.Mux p)) o = elim (same_or p o) [ inl e ↦ inl (ap (λ (n : ℕ). Some (node.Mux n)) e) | inr never ↦ inr (λ e. never cc) ]

-- whether an input or an output has its node among the first so many
pub demux_before : (nodes : List PlanNode) (count i : ℕ) → IsBefore nodes count (node.Demux i) ⊎ (IsBefore nodes count (node.Demux i) → ⊥)
demux_before nodes count i = one_below (λ j. slice_get nodes j ≡ Some (node.Demux i)) (λ j. demux_or (slice_get nodes j) i) count

pub mux_before : (nodes : List PlanNode) (count o : ℕ) → IsBefore nodes count (node.Mux o) ⊎ (IsBefore nodes count (node.Mux o) → ⊥)
mux_before nodes count o = one_below (λ j. slice_get nodes j ≡ Some (node.Mux o)) (λ j. mux_or (slice_get nodes j) o) count
