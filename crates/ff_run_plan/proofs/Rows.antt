-- In which order the nodes of a plan stand, by its rows.
use Rattle.std.proofs.Common.{◌≡◌, ◌⊎◌, inl, inr, ℕ, zero, suc, ◌+◌, ◌-◌, ◌<◌, ◌≤◌, ◌==◌, false, List, [], ◌∷◌, ◌++◌, length, map, slice_get, slice_index_or, Some, refl, sym, ap, ◌∙◌, subst, arith}
use Rattle.std.specs.List.{AllByRecursion, IsDistinct, range_with_len}
use Rattle.std.proofs.lemmas.Bool.Decides.{nat_tests}
use Rattle.std.proofs.lemmas.Map.Keys.{IsDistinct-head, IsDistinct-tail}
use Rattle.std.proofs.lemmas.Option.{get_or_from_slice_get, slice_get_within}
use Rattle.ff_words.specs.declared.maps.streams.StreamRef.{StreamRef}
use Rattle.ff_plan.specs.declared.planned.PlanNode.{PlanNode}
use Rattle.ff_plan.specs.declared.planned.PlanNode.TheVariants as node
use Rattle.ff_plan_layout.specs.Layout.{placed}
use Rattle.ff_plan.specs.laws.NodeRows.{HasRows}
use Rattle.ff_run_plan.specs.Parts.{AreOrdered}
use Rattle.ff_run_plan.proofs.Numbers.{ordered}

-- ---- lists

at_append : {A : Type 0} (xs ys : List A) (k : ℕ) (n : A) → slice_get (xs ++ ys) k ≡ Some n → ((k < length xs) × (slice_get xs k ≡ Some n)) ⊎ ((length xs ≤ k) × (slice_get ys (k - length xs) ≡ Some n))
at_append [] ys k n e = (let none : k - 0 ≡ k = omega arith in inr (omega arith, ap (λ (j : ℕ). slice_get ys j) none ∙ e))
at_append (x ∷ xs) ys zero n e = inl (omega arith, e)
at_append (x ∷ xs) ys (suc k) n e = elim (at_append xs ys k n e) [
  | inl h ↦ (let lt = h.0 in inl (omega (arith, lt), h.1))
  | inr h ↦ (let le = h.0 in let less : suc k - suc (length xs) ≡ k - length xs = omega arith in inr (omega (arith, le), ap (λ (j : ℕ). slice_get ys j) less ∙ h.1))
]

behind_append : {A : Type 0} (xs ys : List A) (i : ℕ) → slice_get (xs ++ ys) (length xs + i) ≡ slice_get ys i
behind_append [] ys i = (let none : 0 + i ≡ i = omega arith in ap (λ (j : ℕ). slice_get ys j) none)
behind_append (x ∷ xs) ys i = (let more : suc (length xs) + i ≡ suc (length xs + i) = omega arith in ap (λ (j : ℕ). slice_get (x ∷ (xs ++ ys)) j) more ∙ behind_append xs ys i)

long_append : {A : Type 0} (xs ys : List A) → length (xs ++ ys) ≡ length xs + length ys
long_append [] ys = omega arith
long_append (x ∷ xs) ys = (let more = long_append xs ys in omega (arith, more))

long_map : {A B : Type 0} (f : A → B) (xs : List A) → length (map f xs) ≡ length xs
long_map f [] = refl
long_map f (x ∷ xs) = ap suc (long_map f xs)

at_map : {A B : Type 0} (f : A → B) (xs : List A) (k : ℕ) (y : B) → slice_get (map f xs) k ≡ Some y → (x : A) × (slice_get xs k ≡ Some x) × (y ≡ f x)
at_map f [] k y e = absurd cc
at_map f (x ∷ xs) zero y e = (x, refl, (let same : Some (f x) ≡ Some y = e in cc))
at_map f (x ∷ xs) (suc k) y e = at_map f xs k y e

map_at : {A B : Type 0} (f : A → B) (xs : List A) (k : ℕ) (x : A) → slice_get xs k ≡ Some x → slice_get (map f xs) k ≡ Some (f x)
map_at f [] k x e = absurd cc
map_at f (y ∷ ys) zero x e = (let same : Some y ≡ Some x = e in cc)
map_at f (y ∷ ys) (suc k) x e = map_at f ys k x e

at_range : (a n k : ℕ) → k < n → slice_get (range_with_len a n) k ≡ Some (a + k)
at_range a zero k lt = absurd (omega (arith, lt))
at_range a (suc n) zero lt = (let none : a ≡ a + 0 = omega arith in ap (λ (j : ℕ). Some j) none)
at_range a (suc n) (suc k) lt = (let more : (a + 1) + k ≡ a + suc k = omega arith in at_range (a + 1) n k (omega (arith, lt)) ∙ ap (λ (j : ℕ). Some j) more)

in_range : (a n k o : ℕ) → slice_get (range_with_len a n) k ≡ Some o → (o ≡ a + k) × (k < n)
in_range a zero k o e = absurd cc
in_range a (suc n) zero o e = (let same : Some a ≡ Some o = e in let is : a ≡ o = cc in (omega (arith, is), omega arith))
in_range a (suc n) (suc k) o e = (let h = in_range (a + 1) n k o e in let is = h.0 in let lt = h.1 in (omega (arith, is), omega (arith, lt)))

long_range : (a n : ℕ) → length (range_with_len a n) ≡ n
long_range a zero = refl
long_range a (suc n) = ap suc (long_range (a + 1) n)

pub all_at : {A : Type 0} (P : A → Type 0) (xs : List A) (j : ℕ) (x : A) → AllByRecursion P xs → slice_get xs j ≡ Some x → P x
all_at P [] j x all e = absurd cc
all_at P (y ∷ ys) zero x all e = (let same : Some y ≡ Some x = e in let is : y ≡ x = cc in subst P is all.0)
all_at P (y ∷ ys) (suc j) x all e = all_at P ys j x all.1 e

not_other : (y x : ℕ) → y ≡ x → (y == x) ≡ false → ⊥
not_other y x e f = grind (arith, nat_tests)

-- a number of different ones stands at one place
one_place : (xs : List ℕ) → IsDistinct (λ p q. p == q) xs → (j k x : ℕ) → slice_get xs j ≡ Some x → slice_get xs k ≡ Some x → j ≡ k
one_place [] apart j k x a b = absurd cc
one_place (y ∷ ys) apart zero zero x a b = refl
one_place (y ∷ ys) apart zero (suc k) x a b =
    let same : Some y ≡ Some x = a in
    let is : y ≡ x = cc in
    absurd (not_other y x is (all_at (λ z. (y == z) ≡ false) ys k x (IsDistinct-head (λ p q. p == q) y ys apart) b))
one_place (y ∷ ys) apart (suc j) zero x a b =
    let same : Some y ≡ Some x = b in
    let is : y ≡ x = cc in
    absurd (not_other y x is (all_at (λ z. (y == z) ≡ false) ys j x (IsDistinct-head (λ p q. p == q) y ys apart) a))
one_place (y ∷ ys) apart (suc j) (suc k) x a b = ap suc (one_place ys (IsDistinct-tail (λ p q. p == q) y ys apart) j k x a b)

-- ---- graphs

-- no node of a kind stands among these nodes
abbrev HasNone : (ℕ → PlanNode) → List PlanNode → Type 0
HasNone kind nodes = (k g : ℕ) → slice_get nodes k ≡ Some (kind g) → ⊥

-- no graph does, and each once
abbrev NoGraph : List PlanNode → Type 0
NoGraph nodes = HasNone node.Graph nodes

abbrev GraphsOnce : List PlanNode → Type 0
GraphsOnce nodes = (j k g : ℕ) → slice_get nodes j ≡ Some (node.Graph g) → slice_get nodes k ≡ Some (node.Graph g) → j ≡ k

none_mapped : {A : Type 0} (kind : ℕ → PlanNode) (f : A → PlanNode) (xs : List A) → ((x : A) (g : ℕ) → kind g ≡ f x → ⊥) → HasNone kind (map f xs)
none_mapped kind f xs other k g at = (let m = at_map f xs k (kind g) at in other m.0 g m.2)

none_joined : (kind : ℕ → PlanNode) (xs ys : List PlanNode) → HasNone kind xs → HasNone kind ys → HasNone kind (xs ++ ys)
none_joined kind xs ys a b k g at = elim (at_append xs ys k (kind g) at) [ inl h ↦ a k g h.1 | inr h ↦ b (k - length xs) g h.1 ]

once_behind : (xs ys : List PlanNode) → NoGraph xs → GraphsOnce ys → GraphsOnce (xs ++ ys)
once_behind xs ys none once j k g a b = elim (at_append xs ys j (node.Graph g) a) [
  | inl h ↦ absurd (none j g h.1)
  | inr h ↦ elim (at_append xs ys k (node.Graph g) b) [
    | inl h' ↦ absurd (none k g h'.1)
    | inr h' ↦ (let le = h.0 in let le' = h'.0 in let same = once (j - length xs) (k - length xs) g h.1 h'.1 in omega (arith, le, le', same))
  ]
]

same_graph : (g h : ℕ) → node.Graph g ≡ node.Graph h → h ≡ g
same_graph g h e = cc

once_before : (graphs : List ℕ) (ys : List PlanNode) → IsDistinct (λ p q. p == q) graphs → NoGraph ys → GraphsOnce (map (λ g. node.Graph g) graphs ++ ys)
once_before graphs ys apart none j k g a b = elim (at_append (map (λ g. node.Graph g) graphs) ys j (node.Graph g) a) [
  | inl h ↦ elim (at_append (map (λ g. node.Graph g) graphs) ys k (node.Graph g) b) [
    | inl h' ↦
        let x = at_map (λ g. node.Graph g) graphs j (node.Graph g) h.1 in
        let y = at_map (λ g. node.Graph g) graphs k (node.Graph g) h'.1 in
        one_place graphs apart j k g (subst (λ (n : ℕ). slice_get graphs j ≡ Some n) (same_graph g x.0 x.2) x.1) (subst (λ (n : ℕ). slice_get graphs k ≡ Some n) (same_graph g y.0 y.2) y.1)
    | inr h' ↦ absurd (none (k - length (map (λ g. node.Graph g) graphs)) g h'.1)
  ]
  | inr h ↦ absurd (none (j - length (map (λ g. node.Graph g) graphs)) g h.1)
]

-- ---- rows

-- a stream of an output in its place: ff_plan keeps the type to itself
abbrev ListedBy : {A B : Type 0} → (A → List B) → Type 0
ListedBy {A} {B} f = B

abbrev Placed : Type 0
Placed = ListedBy placed

-- neither cuts nor writes, and is of one of so many outputs where it ends streams with the shortest
abbrev IsInner : ℕ → PlanNode → Type 0
IsInner outputs (node.Demux i) = ⊥
IsInner outputs (node.Gen i) = Unit {0}
IsInner outputs (node.Dec at) = Unit {0}
IsInner outputs (node.Graph g) = Unit {0}
IsInner outputs (node.Shortest o) = o < outputs
IsInner outputs (node.Enc o j) = Unit {0}
IsInner outputs (node.Mux o) = ⊥

-- so many such nodes, and then the Mux nodes of so many outputs in turn
record EndsSo (outputs inner : ℕ) (nodes : List PlanNode) : Type 0 where
  many : length nodes ≡ inner + outputs
  kinds : (k : ℕ) (n : PlanNode) → slice_get nodes k ≡ Some n → IsInner outputs n ⊎ ((o : ℕ) × (o < outputs) × (k ≡ inner + o) × (n ≡ node.Mux o))
  muxes : (o : ℕ) → o < outputs → slice_get nodes (inner + o) ≡ Some (node.Mux o)

only_muxes : (outputs : ℕ) → EndsSo outputs 0 (map (λ o. node.Mux o) (range_with_len 0 outputs))
only_muxes outputs = record {
  many = (let long : length (map (λ o. node.Mux o) (range_with_len 0 outputs)) ≡ outputs = long_map (λ o. node.Mux o) (range_with_len 0 outputs) ∙ long_range 0 outputs in omega (arith, long));
  kinds = λ k n at.
      let m = at_map (λ o. node.Mux o) (range_with_len 0 outputs) k n at in
      let r = in_range 0 outputs k m.0 m.1 in
      let is = r.0 in
      let lt = r.1 in inr (m.0, omega (arith, is, lt), omega (arith, is), m.2);
  muxes = λ o lt. map_at (λ o. node.Mux o) (range_with_len 0 outputs) (0 + o) (0 + (0 + o)) (at_range 0 outputs (0 + o) (omega (arith, lt)))
      ∙ (let none : 0 + (0 + o) ≡ o = omega arith in ap (λ (j : ℕ). Some (node.Mux j)) none);
}

one_row : {A : Type 0} (f : A → PlanNode) (outputs : ℕ) (xs : List A) → ((k : ℕ) (x : A) → slice_get xs k ≡ Some x → IsInner outputs (f x)) → (inner : ℕ) (ys : List PlanNode) → EndsSo outputs inner ys → EndsSo outputs (length xs + inner) (map f xs ++ ys)
one_row f outputs xs own inner ys e =
    let long = long_map f xs in
    let both = long_append (map f xs) ys in
    let many = e.many in record {
      many = omega (arith, long, both, many);
      kinds = λ k n at. elim (at_append (map f xs) ys k n at) [
        | inl h ↦ (let m = at_map f xs k n h.1 in inl (subst (IsInner outputs) (sym m.2) (own k m.0 m.1)))
        | inr h ↦ elim (e.kinds (k - length (map f xs)) n h.1) [
          | inl between ↦ inl between
          | inr last ↦ (let le = h.0 in let k_is = last.2 in inr (last.0, last.1, omega (arith, long, le, k_is), last.3))
        ]
      ];
      muxes = λ o lt.
          let at : (length xs + inner) + o ≡ length (map f xs) + (inner + o) = omega (arith, long) in
          ap (λ (j : ℕ). slice_get (map f xs ++ ys) j) at ∙ (behind_append (map f xs) ys (inner + o) ∙ e.muxes o lt);
    }

module _ (inputs outputs : ℕ) (nodes : List PlanNode) (rows : HasRows inputs outputs nodes) where
  abbrev behind_made : List PlanNode
  behind_made = map (λ at. node.Dec at) rows.decoded ++ (map (λ g. node.Graph g) rows.graphs ++ (map (λ o. node.Shortest o) rows.joined
      ++ (map (λ (p : Placed). node.Enc p.output p.stream) rows.coded ++ map (λ o. node.Mux o) (range_with_len 0 outputs))))

  abbrev rest : List PlanNode
  rest = map (λ i. node.Gen i) rows.made ++ behind_made

  abbrev inner : ℕ
  inner = length rows.made + (length rows.decoded + (length rows.graphs + (length rows.joined + (length rows.coded + 0))))

  joined_there : (k o : ℕ) → slice_get rows.joined k ≡ Some o → o < outputs
  joined_there k o e = elim rows.all_or_none [
    | inl none ↦ absurd (let bad : slice_get [] k ≡ Some o = ap (λ (os : List ℕ). slice_get os k) (sym none) ∙ e in cc)
    | inr all ↦ (let r = in_range 0 outputs k o (ap (λ (os : List ℕ). slice_get os k) (sym all) ∙ e) in let is = r.0 in let lt = r.1 in omega (arith, is, lt))
  ]

  behind : EndsSo outputs inner rest
  behind =
      one_row (λ (i : ℕ). node.Gen i) outputs rows.made (λ k x e. tt) (length rows.decoded + (length rows.graphs + (length rows.joined + (length rows.coded + 0)))) _
      (one_row (λ (at : StreamRef). node.Dec at) outputs rows.decoded (λ k x e. tt) (length rows.graphs + (length rows.joined + (length rows.coded + 0))) _
      (one_row (λ (g : ℕ). node.Graph g) outputs rows.graphs (λ k x e. tt) (length rows.joined + (length rows.coded + 0)) _
      (one_row (λ (o : ℕ). node.Shortest o) outputs rows.joined joined_there (length rows.coded + 0) _
      (one_row (λ (p : Placed). node.Enc p.output p.stream) outputs rows.coded (λ k x e. tt) 0 _ (only_muxes outputs)))))

  abbrev demuxes : List PlanNode
  demuxes = map (λ i. node.Demux i) rows.demuxed

  as_many : length nodes ≡ length rows.demuxed + (inner + outputs)
  as_many =
      let long = ap (λ (ns : List PlanNode). length ns) rows.are ∙ long_append demuxes rest in
      let front = long_map (λ (i : ℕ). node.Demux i) rows.demuxed in
      let many = behind.many in omega (arith, long, front, many)

  -- a node in front is a Demux, one at the end a Mux, and one between neither
  abbrev IsFront : ℕ → PlanNode → Type 0
  IsFront k n = (k < length rows.demuxed) × (n ≡ node.Demux (slice_index_or rows.demuxed k 0))

  abbrev IsLast : ℕ → PlanNode → Type 0
  IsLast k n = (o : ℕ) × (o < outputs) × (k ≡ (length nodes - outputs) + o) × (n ≡ node.Mux o)

  kind_of : (k : ℕ) (n : PlanNode) → slice_get nodes k ≡ Some n → IsFront k n ⊎ ((length rows.demuxed ≤ k) × (IsInner outputs n ⊎ IsLast k n))
  kind_of k n at =
      let front = long_map (λ (i : ℕ). node.Demux i) rows.demuxed in
      let long = as_many in
      elim (at_append demuxes rest k n (sym (ap (λ (ns : List PlanNode). slice_get ns k) rows.are) ∙ at)) [
        | inl h ↦
            let m = at_map (λ (i : ℕ). node.Demux i) rows.demuxed k n h.1 in
            let lt = h.0 in
            inl (omega (arith, front, lt), m.2 ∙ ap (λ (i : ℕ). node.Demux i) (sym (get_or_from_slice_get rows.demuxed k m.0 0 m.1)))
        | inr h ↦
            let le = h.0 in
            inr (
              omega (arith, front, le),
              elim (behind.kinds (k - length demuxes) n h.1) [
                | inl between ↦ inl between
                | inr last ↦ (let k_is = last.2 in inr (last.0, last.1, omega (arith, front, le, k_is, long), last.3))
              ],
            )
      ]

  front_is : (k i : ℕ) → slice_get nodes k ≡ Some (node.Demux i) → (k < length rows.demuxed) × (i ≡ slice_index_or rows.demuxed k 0)
  front_is k i at = elim (kind_of k (node.Demux i) at) [
    | inl h ↦ (h.0, (let same : node.Demux i ≡ node.Demux (slice_index_or rows.demuxed k 0) = h.1 in cc))
    | inr r ↦ elim r.1 [ inl h ↦ absurd h | inr h ↦ absurd (let same : node.Demux i ≡ node.Mux h.0 = h.3 in cc) ]
  ]

  last_is : (k o : ℕ) → slice_get nodes k ≡ Some (node.Mux o) → (o < outputs) × (k ≡ (length nodes - outputs) + o)
  last_is k o at = elim (kind_of k (node.Mux o) at) [
    | inl h ↦ absurd (let same : node.Mux o ≡ node.Demux (slice_index_or rows.demuxed k 0) = h.1 in cc)
    | inr r ↦ elim r.1 [
      | inl h ↦ absurd h
      | inr h ↦
          let same : node.Mux o ≡ node.Mux h.0 = h.3 in
          let equal : h.0 ≡ o = cc in
          (subst (λ (p : ℕ). p < outputs) equal h.1, subst (λ (p : ℕ). k ≡ (length nodes - outputs) + p) equal h.2)
    ]
  ]

  pub shortest_there : (k o : ℕ) → slice_get nodes k ≡ Some (node.Shortest o) → o < outputs
  shortest_there k o at = elim (kind_of k (node.Shortest o) at) [
    | inl h ↦ absurd (let same : node.Shortest o ≡ node.Demux (slice_index_or rows.demuxed k 0) = h.1 in cc)
    | inr r ↦ elim r.1 [ inl h ↦ h | inr h ↦ absurd (let same : node.Shortest o ≡ node.Mux h.0 = h.3 in cc) ]
  ]

  behind_graphs : NoGraph (map (λ o. node.Shortest o) rows.joined ++ (map (λ (p : Placed). node.Enc p.output p.stream) rows.coded ++ map (λ o. node.Mux o) (range_with_len 0 outputs)))
  behind_graphs =
      none_joined node.Graph (map (λ o. node.Shortest o) rows.joined) _ (none_mapped node.Graph (λ o. node.Shortest o) rows.joined (λ x g e. cc))
      (none_joined node.Graph (map (λ (p : Placed). node.Enc p.output p.stream) rows.coded) _ (none_mapped node.Graph (λ (p : Placed). node.Enc p.output p.stream) rows.coded (λ x g e. cc))
      (none_mapped node.Graph (λ o. node.Mux o) (range_with_len 0 outputs) (λ x g e. cc)))

  graphs_once : GraphsOnce nodes
  graphs_once =
      subst GraphsOnce (sym rows.are)
      (once_behind demuxes rest (none_mapped node.Graph (λ i. node.Demux i) rows.demuxed (λ x g e. cc))
      (once_behind (map (λ i. node.Gen i) rows.made) _ (none_mapped node.Graph (λ i. node.Gen i) rows.made (λ x g e. cc))
      (once_behind (map (λ (at : StreamRef). node.Dec at) rows.decoded) _ (none_mapped node.Graph (λ (at : StreamRef). node.Dec at) rows.decoded (λ x g e. cc))
      (once_before rows.graphs _ rows.numbered.distinct behind_graphs))))

  -- where the Gen nodes stand
  none_made : HasNone node.Gen behind_made
  none_made =
      none_joined node.Gen (map (λ (at : StreamRef). node.Dec at) rows.decoded) _ (none_mapped node.Gen (λ (at : StreamRef). node.Dec at) rows.decoded (λ x g e. cc))
      (none_joined node.Gen (map (λ g. node.Graph g) rows.graphs) _ (none_mapped node.Gen (λ g. node.Graph g) rows.graphs (λ x g e. cc))
      (none_joined node.Gen (map (λ o. node.Shortest o) rows.joined) _ (none_mapped node.Gen (λ o. node.Shortest o) rows.joined (λ x g e. cc))
      (none_joined node.Gen (map (λ (p : Placed). node.Enc p.output p.stream) rows.coded) _ (none_mapped node.Gen (λ (p : Placed). node.Enc p.output p.stream) rows.coded (λ x g e. cc))
      (none_mapped node.Gen (λ o. node.Mux o) (range_with_len 0 outputs) (λ x g e. cc)))))

  made_is : (k i : ℕ) → slice_get nodes k ≡ Some (node.Gen i) → (length demuxes ≤ k) × (slice_get rows.made (k - length demuxes) ≡ Some i)
  made_is k i at = elim (at_append demuxes rest k (node.Gen i) (sym (ap (λ (ns : List PlanNode). slice_get ns k) rows.are) ∙ at)) [
    | inl h ↦ absurd (none_mapped node.Gen (λ i. node.Demux i) rows.demuxed (λ x g e. cc) k i h.1)
    | inr h ↦ elim (at_append (map (λ i. node.Gen i) rows.made) behind_made (k - length demuxes) (node.Gen i) h.1) [
      | inl h' ↦
          let m = at_map (λ (j : ℕ). node.Gen j) rows.made (k - length demuxes) (node.Gen i) h'.1 in
          let same : node.Gen i ≡ node.Gen m.0 = m.2 in
          let is : m.0 ≡ i = cc in
          (h.0, m.1 ∙ ap (λ (j : ℕ). Some j) is)
      | inr h' ↦ absurd (none_made ((k - length demuxes) - length (map (λ i. node.Gen i) rows.made)) i h'.1)
    ]
  ]

  made_behind : (k i : ℕ) → slice_get nodes k ≡ Some (node.Gen i) → inputs ≤ i
  made_behind k i at =
      let h = made_is k i at in
      let lt = slice_get_within rows.made (k - length demuxes) i h.1 in
      subst (λ (n : ℕ). inputs ≤ n) (get_or_from_slice_get rows.made (k - length demuxes) i 0 h.1) (rows.made_are (k - length demuxes) 0 lt)

  -- one at a lower place has a lower number
  made_apart : (j k i : ℕ) → slice_get rows.made j ≡ Some i → slice_get rows.made k ≡ Some i → j < k → ⊥
  made_apart j k i a b lt =
      let up = rows.made_rising j k 0 lt (slice_get_within rows.made k i b) in
      let x = get_or_from_slice_get rows.made j i 0 a in
      let y = get_or_from_slice_get rows.made k i 0 b in
      omega (arith, up, x, y)

  made_once : (j k i : ℕ) → slice_get nodes j ≡ Some (node.Gen i) → slice_get nodes k ≡ Some (node.Gen i) → j ≡ k
  made_once j k i a b =
      let x = made_is j i a in
      let y = made_is k i b in
      let j_le = x.0 in
      let k_le = y.0 in
      elim (ordered (j - length demuxes) (k - length demuxes)) [
        | inl lt ↦ absurd (made_apart (j - length demuxes) (k - length demuxes) i x.1 y.1 lt)
        | inr r ↦ elim r [
          | inl e ↦ omega (arith, j_le, k_le, e)
          | inr lt ↦ absurd (made_apart (k - length demuxes) (j - length demuxes) i y.1 x.1 lt)
        ]
      ]

  pub are_ordered : AreOrdered inputs outputs nodes
  are_ordered = record {
    inputs_there = λ k i at. (let h = front_is k i at in subst (λ (j : ℕ). j < inputs) (sym h.1) (rows.inputs_are k 0 h.0));
    outputs_there = λ k o at. (last_is k o at).0;
    rising = λ j k i i' a b lt.
        let x = front_is j i a in
        let y = front_is k i' b in
        subst (λ (n : ℕ). n < i') (sym x.1) (subst (λ (n : ℕ). slice_index_or rows.demuxed j 0 < n) (sym y.1) (rows.rising j k 0 lt y.0));
    first = λ j k i n a b le.
        let x = front_is j i a in
        let j_lt = x.0 in
        elim (kind_of k n b) [ inl h ↦ (slice_index_or rows.demuxed k 0, h.1) | inr r ↦ (let over = r.0 in absurd (omega (arith, j_lt, le, over))) ];
    made_behind = made_behind;
    made_once = made_once;
    graphs_once = graphs_once;
    muxes_at = λ k o at. (last_is k o at).1;
    muxes_rise = λ j k o o' a b lt.
        let x = (last_is j o a).1 in
        let y = (last_is k o' b).1 in
        omega (arith, x, y, lt);
  }

  pub muxes_there : (o : ℕ) → o < outputs → slice_get nodes ((length nodes - outputs) + o) ≡ Some (node.Mux o)
  muxes_there o lt =
      let long = as_many in
      let front = long_map (λ (i : ℕ). node.Demux i) rows.demuxed in
      let at : (length nodes - outputs) + o ≡ length demuxes + (inner + o) = omega (arith, long, front) in
      ap (λ (ns : List PlanNode). slice_get ns ((length nodes - outputs) + o)) rows.are
      ∙ (ap (λ (j : ℕ). slice_get (demuxes ++ rest) j) at ∙ (behind_append demuxes rest (inner + o) ∙ behind.muxes o lt))
