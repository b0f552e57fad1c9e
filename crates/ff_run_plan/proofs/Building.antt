-- Parts and places, one node more.
use Rattle.std.proofs.Common.{◌≡◌, ◌⊎◌, inl, inr, ℕ, zero, suc, ◌+◌, ◌<◌, List, [], ◌∷◌, ◌++◌, length, slice_get, Option, Some, refl, sym, ap, ◌∙◌, subst, arith}
use Rattle.std.proofs.lemmas.Option.{slice_get_within}
use Rattle.ff_stream.specs.declared.edges.edge.Edge.{Edge}
use Rattle.ff_net.specs.laws.Views.{View}
use Rattle.ff_plan.specs.declared.planned.PlanNode.{PlanNode}
use Rattle.ff_plan.specs.declared.planned.PlanNode.TheVariants as node
use Rattle.ff_run_plan.specs.Asked.{Asked}
use Rattle.ff_run_plan.specs.Kinds.{KindsOf}
use Rattle.ff_stream.specs.edges.Ports.{lanes_into, lanes_out_of}
use Rattle.ff_run_plan.specs.Tasks.{first_at, cuts_at}
use Rattle.ff_run_plan.specs.Parts.{IsBefore, AreOrdered, IsAside, AllAside, IsPart, AreParts}

pub length_more : {A : Type 0} (xs : List A) (y : A) → length (xs ++ y ∷ []) ≡ length xs + 1
length_more [] y = refl
length_more (x ∷ xs) y = (let h = length_more xs y in omega (arith, h))

-- what stands in a list with one more at its end
pub pushed : {A : Type 0} (xs : List A) (y z : A) (k : ℕ) → slice_get (xs ++ y ∷ []) k ≡ Some z → (slice_get xs k ≡ Some z) ⊎ ((k ≡ length xs) × (y ≡ z))
pushed [] y z zero e = inr (refl, cc)
pushed [] y z (suc k) e = absurd cc
pushed (x ∷ xs) y z zero e = inl e
pushed (x ∷ xs) y z (suc k) e = elim (pushed xs y z k e) [ inl h ↦ inl h | inr h ↦ inr (ap suc h.0, h.1) ]

pub some_same : {A : Type 0} (o : Option A) (x y : A) → o ≡ Some x → o ≡ Some y → x ≡ y
some_same o x y a b = (let same : Some x ≡ Some y = sym a ∙ b in cc)

module _ {H S K M : Type 0} (is : KindsOf H) (left named : S → Option (List ℕ)) (failed : S → ℕ) (holds called : K → Option (List ℕ)) (faulted : K → ℕ) (view : M → View)
    (asked : Asked) (heads : List H) (edges : List Edge) (nodes : List PlanNode) (srcs : List S) (snks : List K) where
  -- before the first node
  pub no_parts : (parts : List M) (sp : List (Option S)) (kp : List (Option K)) → parts ≡ [] → AllAside srcs sp → AllAside snks kp
      → AreParts is left named failed holds called faulted view asked heads edges nodes srcs snks parts sp kp
  no_parts [] sp kp e a b = record {
    few = omega arith;
    each = λ k n m at there. absurd cc;
    srcs_aside = λ i lt out. a.each i lt;
    snks_aside = λ o lt out. b.each o lt;
    src_count = a.count;
    snk_count = b.count;
  }
  no_parts (p ∷ ps) sp kp e a b = absurd cc

  -- the same in places that hold the same
  pub same_places : (parts : List M) (sp sp' : List (Option S)) (kp kp' : List (Option K)) → ((w : ℕ) → slice_get sp' w ≡ slice_get sp w) → ((w : ℕ) → slice_get kp' w ≡ slice_get kp w)
      → length sp' ≡ length sp → length kp' ≡ length kp
      → AreParts is left named failed holds called faulted view asked heads edges nodes srcs snks parts sp kp
      → AreParts is left named failed holds called faulted view asked heads edges nodes srcs snks parts sp' kp'
  same_places parts sp sp' kp kp' s k ls lk h = record {
    few = h.few;
    each = h.each;
    srcs_aside = λ i lt out. (let x = h.srcs_aside i lt out in (x.0, x.1, s i ∙ x.2));
    snks_aside = λ o lt out. (let x = h.snks_aside o lt out in (x.0, x.1, k o ∙ x.2));
    src_count = ls ∙ h.src_count;
    snk_count = lk ∙ h.snk_count;
  }

  -- a source that is in no part yet is in its place, for the next node
  pub source_there : (parts : List M) (sp : List (Option S)) (kp : List (Option K)) (i : ℕ) → AreOrdered (length srcs) (length snks) nodes
      → AreParts is left named failed holds called faulted view asked heads edges nodes srcs snks parts sp kp
      → slice_get nodes (length parts) ≡ Some (node.Demux i) → IsAside srcs sp i
  source_there parts sp kp i ordered h at =
      h.srcs_aside i (ordered.inputs_there (length parts) i at) (λ b. let lt = ordered.rising b.0 (length parts) i i b.2 at b.1 in omega (arith, lt))

  pub sink_there : (parts : List M) (sp : List (Option S)) (kp : List (Option K)) (o : ℕ) → AreOrdered (length srcs) (length snks) nodes
      → AreParts is left named failed holds called faulted view asked heads edges nodes srcs snks parts sp kp
      → slice_get nodes (length parts) ≡ Some (node.Mux o) → IsAside snks kp o
  sink_there parts sp kp o ordered h at =
      h.snks_aside o (ordered.outputs_there (length parts) o at) (λ b. let lt = ordered.muxes_rise b.0 (length parts) o o b.2 at b.1 in omega (arith, lt))

  -- with the part of the next node
  pub next_part : (parts parts' : List M) (sp sp' : List (Option S)) (kp kp' : List (Option K)) (n : PlanNode) (m : M) → slice_get nodes (length parts) ≡ Some n → parts' ≡ parts ++ m ∷ []
      → IsPart is left named failed holds called faulted asked heads srcs snks (first_at asked nodes edges (length parts)) (cuts_at asked nodes edges (length parts)) (lanes_into edges (length parts)) (lanes_out_of edges (length parts)) n (view m)
      → ((w : ℕ) → (n ≡ node.Demux w → ⊥) → slice_get sp' w ≡ slice_get sp w) → ((w : ℕ) → (n ≡ node.Mux w → ⊥) → slice_get kp' w ≡ slice_get kp w)
      → length sp' ≡ length sp → length kp' ≡ length kp
      → AreParts is left named failed holds called faulted view asked heads edges nodes srcs snks parts sp kp
      → AreParts is left named failed holds called faulted view asked heads edges nodes srcs snks parts' sp' kp'
  next_part parts parts' sp sp' kp kp' n m at more new s k ls lk h =
      let long : length parts' ≡ length parts + 1 = ap length more ∙ length_more parts m in
      let here : length parts < length nodes = slice_get_within nodes (length parts) n at in
      let before : (x : PlanNode) → IsBefore nodes (length parts) x → IsBefore nodes (length parts') x = λ x b. (let lt = b.1 in (b.0, omega (arith, lt, long), b.2)) in record {
        few = omega (arith, long, here);
        each = λ j x y nj pj. elim (pushed parts m y j (subst (λ (ps : List M). slice_get ps j ≡ Some y) more pj)) [
          | inl old ↦ h.each j x y nj old
          | inr last ↦
              let nx : n ≡ x = some_same (slice_get nodes (length parts)) n x at (subst (λ (i : ℕ). slice_get nodes i ≡ Some x) last.0 nj) in
              subst (λ (i : ℕ). IsPart is left named failed holds called faulted asked heads srcs snks (first_at asked nodes edges i) (cuts_at asked nodes edges i) (lanes_into edges i) (lanes_out_of edges i) x (view y)) (sym last.0)
              (subst (λ (z : PlanNode). IsPart is left named failed holds called faulted asked heads srcs snks (first_at asked nodes edges (length parts)) (cuts_at asked nodes edges (length parts)) (lanes_into edges (length parts)) (lanes_out_of edges (length parts)) z (view y)) nx
              (subst (λ (z : M). IsPart is left named failed holds called faulted asked heads srcs snks (first_at asked nodes edges (length parts)) (cuts_at asked nodes edges (length parts)) (lanes_into edges (length parts)) (lanes_out_of edges (length parts)) n (view z)) last.1 new))
        ];
        srcs_aside = λ i lt out.
            let x = h.srcs_aside i lt (λ b. out (before (node.Demux i) b)) in
            (x.0, x.1, s i (λ e. out (length parts, omega (arith, long), at ∙ ap (λ (z : PlanNode). Some z) e)) ∙ x.2);
        snks_aside = λ o lt out.
            let x = h.snks_aside o lt (λ b. out (before (node.Mux o) b)) in
            (x.0, x.1, k o (λ e. out (length parts, omega (arith, long), at ∙ ap (λ (z : PlanNode). Some z) e)) ∙ x.2);
        src_count = ls ∙ h.src_count;
        snk_count = lk ∙ h.snk_count;
      }
