-- How often a source has tried a unit, by the parts of a plan's nodes.
use Rattle.std.proofs.Common.{◌≡◌, ℕ, zero, suc, ◌+◌, ◌≤◌, ◌||◌, Bool, true, false, cond, List, [], ◌∷◌, length, drop, slice_get, Some, refl, sym, ap, ◌∙◌, arith, add-one}
use Rattle.ff_net.specs.laws.Views.{View}
use Rattle.ff_plan.specs.declared.planned.PlanNode.{PlanNode}
use Rattle.ff_plan.specs.declared.planned.PlanNode.TheVariants as node
use Rattle.ff_run_plan.specs.Openings.{reads_in, is_read}
use Rattle.ff_run_plan.specs.Parts.{source_in, source_at}
use Rattle.ff_run_plan.specs.Reads.{tried_in}
use Rattle.ff_run_plan.proofs.EventSteps.{itself}
use Rattle.ff_run_plan.proofs.Told.{reads_source}

module _ {M : Type 0} (view : M → View) (i : ℕ) where
  -- from the number of a node on
  abbrev pub tried_from : ℕ → List PlanNode → List M → ℕ
  tried_from k nodes parts = tried_in view i (drop k nodes) (drop k parts)

  up : (nodes : List PlanNode) (parts : List M) (k : ℕ) (n : PlanNode) (m : M) → slice_get nodes k ≡ Some n → slice_get parts k ≡ Some m
      → tried_from k nodes parts ≡ cond (reads_in i n) (view m).tried (tried_from (suc k) nodes parts)
  up [] parts zero n m at here = absurd cc
  up [] parts (suc k) n m at here = absurd cc
  up (x ∷ ns) [] zero n m at here = absurd cc
  up (x ∷ ns) [] (suc k) n m at here = absurd cc
  up (x ∷ ns) (y ∷ ms) zero n m at here =
      ap (λ (z : PlanNode). cond (reads_in i z) (view y).tried (tried_in view i ns ms)) (let same : Some x ≡ Some n = at in cc)
      ∙ ap (λ (z : M). cond (reads_in i n) (view z).tried (tried_in view i ns ms)) (let same : Some y ≡ Some m = here in cc)
  up (x ∷ ns) (y ∷ ms) (suc k) n m at here = up ns ms k n m at here

  -- that of a node that reads the source
  pub tried_here : (nodes : List PlanNode) (parts : List M) (k : ℕ) (n : PlanNode) (m : M) → slice_get nodes k ≡ Some n → slice_get parts k ≡ Some m → reads_in i n ≡ true
      → tried_from k nodes parts ≡ (view m).tried
  tried_here nodes parts k n m at here is = up nodes parts k n m at here ∙ ap (λ (b : Bool). cond b (view m).tried (tried_from (suc k) nodes parts)) is

  -- past another
  pub tried_next : (nodes : List PlanNode) (parts : List M) (k : ℕ) (n : PlanNode) (m : M) → slice_get nodes k ≡ Some n → slice_get parts k ≡ Some m → reads_in i n ≡ false
      → tried_from (k + 1) nodes parts ≡ tried_from k nodes parts
  tried_next nodes parts k n m at here is =
      ap (λ (j : ℕ). tried_from j nodes parts) (add-one k) ∙ sym (up nodes parts k n m at here ∙ ap (λ (b : Bool). cond b (view m).tried (tried_from (suc k) nodes parts)) is)

  no_parts : (nodes : List PlanNode) → tried_in view i nodes [] ≡ 0
  no_parts [] = refl
  no_parts (x ∷ ns) = refl

  -- past all nodes
  pub tried_none : (nodes : List PlanNode) (parts : List M) (k : ℕ) → length nodes ≤ k → tried_from k nodes parts ≡ 0
  tried_none [] parts zero le = refl
  tried_none [] parts (suc k) le = refl
  tried_none (x ∷ ns) parts zero le = absurd (omega (arith, le))
  tried_none (x ∷ ns) [] (suc k) le = no_parts (drop k ns)
  tried_none (x ∷ ns) (y ∷ ms) (suc k) le = tried_none ns ms k (omega (arith, le))

  -- or past all parts
  pub tried_all : (nodes : List PlanNode) (parts : List M) (k : ℕ) → length parts ≤ k → tried_from k nodes parts ≡ 0
  tried_all nodes [] zero le = no_parts nodes
  tried_all [] [] (suc k) le = refl
  tried_all (x ∷ ns) [] (suc k) le = no_parts (drop k ns)
  tried_all nodes (y ∷ ms) zero le = absurd (omega (arith, le))
  tried_all [] (y ∷ ms) (suc k) le = refl
  tried_all (x ∷ ns) (y ∷ ms) (suc k) le = tried_all ns ms k (omega (arith, le))

  -- ---- the one node that reads a source

  both_not : (a b : Bool) → (a || b) ≡ false → (a ≡ false) × (b ≡ false)
  both_not true b e = absurd cc
  both_not false b e = (refl, e)

  pub unread : (nodes : List PlanNode) (parts : List M) → is_read nodes i ≡ false → tried_in view i nodes parts ≡ 0
  unread [] parts e = refl
  unread (n ∷ ns) [] e = refl
  unread (n ∷ ns) (m ∷ ms) e =
      let neither = both_not (reads_in i n) (is_read ns i) e in
      ap (λ (b : Bool). cond b (view m).tried (tried_in view i ns ms)) neither.0 ∙ unread ns ms neither.1

  other_node : (n : PlanNode) (b : Bool) → reads_in i n ≡ b → (source_in n ≡ Some i → ⊥) → b ≡ false
  other_node n true e other = absurd (other (reads_source n i e))
  other_node n false e other = refl

  source_reads : (n : PlanNode) → source_in n ≡ Some i → reads_in i n ≡ true
  source_reads (node.Demux j) e = itself i j (let same : Some j ≡ Some i = e in cc)
  source_reads (node.Gen j) e = itself i j (let same : Some j ≡ Some i = e in cc)
  source_reads (node.Dec at) e = absurd cc
  source_reads (node.Graph g) e = absurd cc
  source_reads (node.Shortest o) e = absurd cc
  source_reads (node.Enc o j) e = absurd cc
  source_reads (node.Mux o) e = absurd cc

  pub tried_is : (nodes : List PlanNode) (parts : List M) (k : ℕ) (m : M) → ((j : ℕ) → source_at (slice_get nodes j) ≡ Some i → j ≡ k)
      → source_at (slice_get nodes k) ≡ Some i → slice_get parts k ≡ Some m → tried_in view i nodes parts ≡ (view m).tried
  tried_is [] parts zero m once at here = absurd cc
  tried_is [] parts (suc k) m once at here = absurd cc
  tried_is (n ∷ ns) [] zero m once at here = absurd cc
  tried_is (n ∷ ns) [] (suc k) m once at here = absurd cc
  tried_is (n ∷ ns) (x ∷ ms) zero m once at here =
      let there : Some x ≡ Some m = here in
      ap (λ (b : Bool). cond b (view x).tried (tried_in view i ns ms)) (source_reads n at) ∙ ap (λ (y : M). (view y).tried) (let x_m : x ≡ m = cc in x_m)
  tried_is (n ∷ ns) (x ∷ ms) (suc k) m once at here =
      let other = other_node n (reads_in i n) refl (λ e. (let first = once 0 e in omega (arith, first))) in
      ap (λ (b : Bool). cond b (view x).tried (tried_in view i ns ms)) other
      ∙ tried_is ns ms k m (λ j h. (let up = once (suc j) h in omega (arith, up))) at here
