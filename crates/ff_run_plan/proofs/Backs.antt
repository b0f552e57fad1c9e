-- All sources and sinks in their places again, as lists.
use Rattle.std.proofs.Common.{◌≡◌, ◌⊎◌, inl, inr, ℕ, zero, suc, ◌<◌, ◌≤◌, List, [], ◌∷◌, length, map, slice_get, Option, Some, refl, sym, ap, ◌∙◌, arith}
use Rattle.std.proofs.lemmas.Option.{slice_get_past}
use Rattle.ff_plan.specs.declared.planned.PlanNode.{PlanNode}
use Rattle.ff_plan.specs.declared.planned.PlanNode.TheVariants as node
use Rattle.ff_stream.specs.declared.edges.edge.Edge.{Edge}
use Rattle.ff_net.specs.laws.Views.{View}
use Rattle.ff_run_plan.specs.Asked.{Asked}
use Rattle.ff_run_plan.specs.Kinds.{KindsOf, IsEndOf, IsSinkOf}
use Rattle.ff_run_plan.specs.Parts.{IsBefore, IsAside, AllAside, AreParts, AreBack}
use Rattle.ff_run_plan.proofs.Numbers.{there, ordered, demux_before, mux_before}

-- places none of which is empty
pub full : {T : Type 0} (places : List (Option T)) → ((i : ℕ) → i < length places → (x : T) × (slice_get places i ≡ Some (Some x))) → (all : List T) × (places ≡ map Some all)
full [] h = ([], refl)
full {T} (p ∷ ps) h =
    let here = h 0 (omega arith) in
    let rest = full ps (λ i lt. h (suc i) (omega (arith, lt))) in
    let is : p ≡ Some here.0 = (let same : Some p ≡ Some (Some here.0) = here.1 in cc) in
    (here.0 ∷ rest.0, ap (λ (q : Option T). q ∷ ps) is ∙ ap (λ (qs : List (Option T)). Some here.0 ∷ qs) rest.1)

-- what stands in the list is what stands in the place
pub at_place : {T : Type 0} (all : List T) (i : ℕ) (x : T) → slice_get (map Some all) i ≡ Some (Some x) → slice_get all i ≡ Some x
at_place [] i x e = absurd cc
at_place (y ∷ ys) zero x e = (let same : Some (Some y) ≡ Some (Some x) = e in cc)
at_place (y ∷ ys) (suc i) x e = at_place ys i x e

pub length_places : {T : Type 0} (all : List T) → length (map {B = Option T} Some all) ≡ length all
length_places [] = refl
length_places (x ∷ xs) = ap suc (length_places xs)

pub in_place : {T : Type 0} (all : List T) (i : ℕ) (x : T) → slice_get all i ≡ Some x → slice_get (map Some all) i ≡ Some (Some x)
in_place [] i x e = absurd cc
in_place (y ∷ ys) zero x e = (let same : Some y ≡ Some x = e in cc)
in_place (y ∷ ys) (suc i) x e = in_place ys i x e

-- each in its place at the beginning
pub all_aside : {T : Type 0} (all : List T) (places : List (Option T)) → places ≡ map Some all → AllAside all places
all_aside {T} all places e = record {
  count = ap length e ∙ length_places all;
  each = λ i lt. (let x = there all i lt in (x.0, x.1, ap (λ (ps : List (Option T)). slice_get ps i) e ∙ in_place all i x.0 x.1));
}

module _ {T : Type 0} (nodes : List PlanNode) (mk : ℕ → PlanNode) (count count' : ℕ) (same : count' ≡ count) (all : List T) (was now : List (Option T)) (many : length was ≡ length all) (as_many : length now ≡ length was)
    (or : (i : ℕ) → IsBefore nodes count' (mk i) ⊎ (IsBefore nodes count' (mk i) → ⊥))
    (aside : (i : ℕ) → i < length all → (IsBefore nodes count (mk i) → ⊥) → IsAside all was i)
    (filled : (i : ℕ) → IsBefore nodes count' (mk i) → (x : T) × (slice_get now i ≡ Some (Some x)))
    (other : (i : ℕ) → (IsBefore nodes count' (mk i) → ⊥) → slice_get now i ≡ slice_get was i) where
  fewer : (i : ℕ) → (IsBefore nodes count' (mk i) → ⊥) → IsBefore nodes count (mk i) → ⊥
  fewer i out b = out (let lt = b.1 in (b.0, omega (arith, lt, same), b.2))

  pub all_full : (i : ℕ) → i < length now → (x : T) × (slice_get now i ≡ Some (Some x))
  all_full i lt = elim (or i) [
    | inl b ↦ filled i b
    | inr never ↦ (let a = aside i (omega (arith, lt, many, as_many)) (fewer i never) in (a.0, other i never ∙ a.2))
  ]

  -- those whose nodes weren't there are as they were
  pub others_same : (all' : List T) → now ≡ map Some all' → (i : ℕ) → (IsBefore nodes count' (mk i) → ⊥) → slice_get all' i ≡ slice_get all i
  others_same all' e i out = elim (ordered i (length all)) [
    | inl lt ↦
        let a = aside i lt (fewer i out) in
        at_place all' i a.0 (sym (ap (λ (ps : List (Option T)). slice_get ps i) e) ∙ (other i out ∙ a.2)) ∙ sym a.1
    | inr r ↦
        let le : length all ≤ i = elim r [ inl same ↦ omega (arith, same) | inr over ↦ omega (arith, over) ] in
        let long : length all' ≡ length all = sym (length_places all') ∙ (sym (ap length e) ∙ (as_many ∙ many)) in
        slice_get_past all' i (omega (arith, le, long)) ∙ sym (slice_get_past all i le)
  ]

module _ {H S K M : Type 0} (is : KindsOf H) (left named : S → Option (List ℕ)) (failed : S → ℕ) (holds called : K → Option (List ℕ)) (faulted : K → ℕ) (view : M → View)
    (asked : Asked) (heads : List H) (edges : List Edge) (nodes : List PlanNode) (srcs : List S) (snks : List K) (olds news : List M)
    (sp sp' : List (Option S)) (kp kp' : List (Option K))
    (parts : AreParts is left named failed holds called faulted view asked heads edges nodes srcs snks olds sp kp) (many : length news ≡ length olds)
    (sources : (k i : ℕ) (m : M) → slice_get nodes k ≡ Some (node.Demux i) → slice_get news k ≡ Some m → (s : S) × (slice_get sp' i ≡ Some (Some s)) × IsEndOf named failed (view m) s)
    (sinks : (k o : ℕ) (m : M) → slice_get nodes k ≡ Some (node.Mux o) → slice_get news k ≡ Some m → (s : K) × (slice_get kp' o ≡ Some (Some s)) × IsSinkOf is holds called faulted (view m) s)
    (other_srcs : (i : ℕ) → (IsBefore nodes (length news) (node.Demux i) → ⊥) → slice_get sp' i ≡ slice_get sp i)
    (other_snks : (o : ℕ) → (IsBefore nodes (length news) (node.Mux o) → ⊥) → slice_get kp' o ≡ slice_get kp o)
    (src_many : length sp' ≡ length sp) (snk_many : length kp' ≡ length kp) where
  src_filled : (i : ℕ) → IsBefore nodes (length news) (node.Demux i) → (x : S) × (slice_get sp' i ≡ Some (Some x))
  src_filled i b = (let m = there news b.0 b.1 in let s = sources b.0 i m.0 b.2 m.1 in (s.0, s.1))

  snk_filled : (o : ℕ) → IsBefore nodes (length news) (node.Mux o) → (x : K) × (slice_get kp' o ≡ Some (Some x))
  snk_filled o b = (let m = there news b.0 b.1 in let s = sinks b.0 o m.0 b.2 m.1 in (s.0, s.1))

  -- no place is empty
  pub srcs_full : (all : List S) × (sp' ≡ map Some all)
  srcs_full = full sp' (all_full nodes node.Demux (length olds) (length news) many srcs sp sp' parts.src_count src_many (demux_before nodes (length news)) parts.srcs_aside src_filled other_srcs)

  pub snks_full : (all : List K) × (kp' ≡ map Some all)
  snks_full = full kp' (all_full nodes node.Mux (length olds) (length news) many snks kp kp' parts.snk_count snk_many (mux_before nodes (length news)) parts.snks_aside snk_filled other_snks)

  pub are_back : (srcs' : List S) (snks' : List K) → sp' ≡ map Some srcs' → kp' ≡ map Some snks' → AreBack is left named failed holds called faulted view nodes news srcs snks srcs' snks'
  are_back srcs' snks' es ek = record {
    src_count = sym (length_places srcs') ∙ (sym (ap length es) ∙ (src_many ∙ parts.src_count));
    snk_count = sym (length_places snks') ∙ (sym (ap length ek) ∙ (snk_many ∙ parts.snk_count));
    sources = λ k i m at now. (let s = sources k i m at now in (s.0, at_place srcs' i s.0 (sym (ap (λ (ps : List (Option S)). slice_get ps i) es) ∙ s.1), s.2));
    sinks = λ k o m at now. (let s = sinks k o m at now in (s.0, at_place snks' o s.0 (sym (ap (λ (ps : List (Option K)). slice_get ps o) ek) ∙ s.1), s.2));
    other_srcs = others_same nodes node.Demux (length olds) (length news) many srcs sp sp' parts.src_count src_many (demux_before nodes (length news)) parts.srcs_aside src_filled other_srcs srcs' es;
    other_snks = others_same nodes node.Mux (length olds) (length news) many snks kp kp' parts.snk_count snk_many (mux_before nodes (length news)) parts.snks_aside snk_filled other_snks snks' ek;
  }
