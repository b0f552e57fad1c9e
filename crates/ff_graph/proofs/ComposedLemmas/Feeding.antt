-- Each output pad feeds one input pad at most, is there, and is one of a filter that has to be made before.
use Rattle.std.proofs.Common.{◌≡◌, ℕ, zero, suc, ◌+◌, ◌-◌, ◌<◌, ◌≤◌, Bool, true, false, cond, nat_lt, List, [], ◌∷◌, ◌++◌, length, map, slice_get, slice_index_or}
use Rattle.std.proofs.Common.{Option, None, Some, refl, ap, sym, ◌∙◌, inl, inr, arith}
use Rattle.std.proofs.lemmas.Bool.Decides.{nat_tests}
use Rattle.ff_frame.specs.declared.head.StreamHead.{StreamHead}
use Rattle.ff_graph_links.specs.declared.pads.drawn.Pad.{Pad}
use Rattle.ff_graph_links.specs.pads.Links.{Seen, giver_from, next_pad, chained, filter_and, first_fed, givers, feeders_of, feeders_from}
use Rattle.ff_graph.specs.Opens.{feeders_in, sources_in}
use Rattle.ff_graph_dag.specs.wiring.Flows.{source_at}
use Rattle.ff_graph.proofs.ComposedLemmas.Elements.{some_same, no_some, got_below, got_above, or_got, map_or}
use Rattle.ff_graph.proofs.ComposedLemmas.Sourced.{Sourced, sourced, IsLabelled, IsChained, fed_by}

-- ---- once

-- a label that a filter gives stands at one input pad at most
abbrev pub OnceTaken : List Seen → Type 0
OnceTaken ds = (f i g j h o : ℕ) (a b c : Seen) (label : List ℕ) → slice_get ds f ≡ Some a → slice_get a.filter.ins i ≡ Some label
    → slice_get ds g ≡ Some b → slice_get b.filter.ins j ≡ Some label
    → slice_get ds h ≡ Some c → slice_get c.filter.outs o ≡ Some label → (f ≡ g) × (i ≡ j)

-- the first filter follows none
abbrev pub StartsAnew : List Seen → Type 0
StartsAnew ds = (d : Seen) → slice_get ds 0 ≡ Some d → d.follows ≡ false

same_got : {A : Type 0} (xs : List A) (k : ℕ) (x y : A) → slice_get xs k ≡ Some x → slice_get xs k ≡ Some y → x ≡ y
same_got xs k x y e g = some_same x y (sym e ∙ g)

module _ (ds : List Seen) where
  labelled_twice : OnceTaken ds → (f i g j : ℕ) (a b : Seen) (from : Pad) → slice_get ds f ≡ Some a → slice_get ds g ≡ Some b
      → IsLabelled ds a i from → IsLabelled ds b j from → (f ≡ g) × (i ≡ j)
  labelled_twice once f i g j a b from ea eb l m =
      let giver : l.giver ≡ m.giver = same_got ds from.filter l.giver m.giver l.there m.there in
      let label : l.label ≡ m.label = some_same l.label m.label (sym l.given ∙ ap (λ (x : Seen). slice_get x.filter.outs from.pad) giver ∙ m.given) in
      once f i g j from.filter from.pad a b l.giver l.label ea l.taken eb (m.taken ∙ ap (λ (x : List ℕ). Some x) (sym label)) l.there l.given

  not_both : (f g i j : ℕ) (a b : Seen) (from : Pad) → IsLabelled ds a i from → IsChained ds g b j from → ⊥
  not_both f g i j a b from l c =
      let same : l.giver ≡ c.before = same_got ds from.filter l.giver c.before l.there (ap (λ (n : ℕ). slice_get ds n) c.filter ∙ c.there) in
      let lt = got_below l.giver.filter.outs from.pad l.label l.given in
      let size : length l.giver.filter.outs ≡ length c.before.filter.outs = ap (λ (x : Seen). length x.filter.outs) same in
      let pad = c.pad in
      absurd (omega (arith, lt, size, pad))

  behind_one : StartsAnew ds → (f : ℕ) (d : Seen) → slice_get ds f ≡ Some d → d.follows ≡ true → 0 < f
  behind_one anew zero d e t = (let no : d.follows ≡ false = anew d e in cc)
  behind_one anew (suc f) d e t = omega arith

  chained_twice : StartsAnew ds → (f i g j : ℕ) (a b : Seen) (from : Pad) → slice_get ds f ≡ Some a → slice_get ds g ≡ Some b
      → IsChained ds f a i from → IsChained ds g b j from → (f ≡ g) × (i ≡ j)
  chained_twice anew f i g j a b from ea eb c e =
      let p = behind_one anew f a ea c.follows in
      let q = behind_one anew g b eb e.follows in
      let x = c.filter in
      let y = e.filter in
      let same : f ≡ g = omega (arith, p, q, x, y) in
      let own : a ≡ b = same_got ds g a b (ap (λ (n : ℕ). slice_get ds n) (sym same) ∙ ea) eb in
      let before : c.before ≡ e.before = same_got ds (g - 1) c.before e.before (ap (λ (n : ℕ). slice_get ds (n - 1)) (sym same) ∙ c.there) e.there in
      let ins : length a.filter.ins ≡ length b.filter.ins = ap (λ (s : Seen). length s.filter.ins) own in
      let outs : length c.before.filter.outs ≡ length e.before.filter.outs = ap (λ (s : Seen). length s.filter.outs) before in
      let above = got_above a.filter.ins i c.bare in
      let above_too = got_above b.filter.ins j e.bare in
      let pad = c.pad in
      let pad_too = e.pad in
      (same, omega (arith, ins, outs, above, above_too, pad, pad_too))

  pub fed_once : OnceTaken ds → StartsAnew ds → (f i g j : ℕ) (from : Pad) → source_at (sources_in ds) f i ≡ Some (Some from)
      → source_at (sources_in ds) g j ≡ Some (Some from) → (f ≡ g) × (i ≡ j)
  fed_once once anew f i g j from e h =
      let s : Sourced ds f i (Some from) = sourced ds f i (Some from) e in
      let t : Sourced ds g j (Some from) = sourced ds g j (Some from) h in
      elim (fed_by ds f s.filter i from (sym s.is)) as (λ _. (f ≡ g) × (i ≡ j)) [
        | inl l ↦ elim (fed_by ds g t.filter j from (sym t.is)) as (λ _. (f ≡ g) × (i ≡ j)) [
          | inl m ↦ labelled_twice once f i g j s.filter t.filter from s.there t.there l m
          | inr c ↦ absurd (not_both f g i j s.filter t.filter from l c)
        ]
        | inr c ↦ elim (fed_by ds g t.filter j from (sym t.is)) as (λ _. (f ≡ g) × (i ≡ j)) [
          | inl m ↦ absurd (not_both g f j i t.filter s.filter from m c)
          | inr o ↦ chained_twice anew f i g j s.filter t.filter from s.there t.there c o
        ]
      ]

-- ---- there

-- each filter has an output pad for each label there, and for each pad that its chain may link
abbrev pub HasRoom : List (List StreamHead) → ℕ → Seen → Type 0
HasRoom heads k d = (length d.filter.outs ≤ length (slice_index_or heads k [])) × (d.outputs ≤ length (slice_index_or heads k []))

abbrev pub HaveRoom : List Seen → List (List StreamHead) → Type 0
HaveRoom ds heads = (k : ℕ) (d : Seen) → slice_get ds k ≡ Some d → HasRoom heads k d

counts_at : (heads : List (List StreamHead)) (k : ℕ) → slice_index_or (map (λ hs. length hs) heads) k 0 ≡ length (slice_index_or heads k [])
counts_at heads k = map_or (λ (hs : List StreamHead). length hs) heads k []

pub fed_there : (ds : List Seen) (heads : List (List StreamHead)) → HaveRoom ds heads → (f i : ℕ) (from : Pad)
    → source_at (sources_in ds) f i ≡ Some (Some from) → from.pad < slice_index_or (map (λ hs. length hs) heads) from.filter 0
fed_there ds heads room f i from e =
    let s : Sourced ds f i (Some from) = sourced ds f i (Some from) e in
    let count = counts_at heads from.filter in
    elim (fed_by ds f s.filter i from (sym s.is)) as (λ _. from.pad < slice_index_or (map (λ hs. length hs) heads) from.filter 0) [
      | inl l ↦
          let r = (room from.filter l.giver l.there).0 in
          let lt = got_below l.giver.filter.outs from.pad l.label l.given in
          omega (arith, r, lt, count)
      | inr c ↦
          let r = (room from.filter c.before (ap (λ (n : ℕ). slice_get ds n) c.filter ∙ c.there)).1 in
          let lt = c.below in
          omega (arith, r, lt, count)
    ]

-- ---- of a filter that feeds it

feeders_row : (all : List Seen) (k : ℕ) (ds : List Seen) (j n : ℕ) (d : Seen) → n ≡ k + j → slice_get ds j ≡ Some d
    → slice_get (feeders_from all k ds) j ≡ Some (feeders_of all n d)
feeders_row all k [] j n d z e = no_some d e
feeders_row all k (x ∷ ds) zero n d z e =
    let same : x ≡ d = some_same x d e in
    let here : k ≡ n = omega arith in
    ap (λ (y : Seen). Some (feeders_of all k y)) same ∙ ap (λ (m : ℕ). Some (feeders_of all m d)) here
feeders_row all k (x ∷ ds) (suc j) n d z e = feeders_row all (suc k) ds j n d (omega arith) e

feeders_at : (ds : List Seen) (f : ℕ) (d : Seen) → slice_get ds f ≡ Some d → slice_index_or (feeders_in ds) f [] ≡ feeders_of ds f d
feeders_at ds f d e = or_got (feeders_in ds) f [] (feeders_of ds f d) (feeders_row ds 0 ds f f d (omega arith) e)

given_by : (ds : List Seen) (ls : List (List ℕ)) (i : ℕ) (label : List ℕ) (p : Pad) → slice_get ls i ≡ Some label → giver_from 0 ds label ≡ Some p
    → (j : ℕ) × (slice_get (givers ds ls) j ≡ Some p.filter)
given_by ds [] i label p e g = no_some label e
given_by ds (l ∷ ls) zero label p e g =
    let same : l ≡ label = some_same l label e in
    let found : giver_from 0 ds l ≡ Some p = ap (λ (x : List ℕ). giver_from 0 ds x) same ∙ g in
    (0, ap (λ (o : Option Pad). slice_get (filter_and o (givers ds ls)) 0) found)
given_by ds (l ∷ ls) (suc i) label p e g =
    let more = given_by ds ls i label p e g in
    at (giver_from 0 ds l) more.0 more.1
  where
    at : (o : Option Pad) (j : ℕ) → slice_get (givers ds ls) j ≡ Some p.filter → (m : ℕ) × (slice_get (filter_and o (givers ds ls)) m ≡ Some p.filter)
    at None j h = (j, h)
    at (Some q) j h = (suc j, h)

behind_first : (o : Option Pad) (xs : List ℕ) (j k : ℕ) → slice_get xs j ≡ Some k → (m : ℕ) × (slice_get (filter_and o [] ++ xs) m ≡ Some k)
behind_first None xs j k e = (j, e)
behind_first (Some q) xs j k e = (suc j, e)

below_is : (a b : ℕ) → a < b → nat_lt a b ≡ true
below_is a b lt = grind (arith, nat_tests)

-- where a pad of its chain is fed, so is the first one
first_too : (ds : List Seen) (f i : ℕ) (d : Seen) (from : Pad) → i < d.inputs → IsChained ds f d i from
    → (q : Pad) × (first_fed ds f d ≡ Some q) × (q.filter ≡ f - 1)
first_too ds f i d from lt c =
    let above = got_above d.filter.ins i c.bare in
    let has : nat_lt (length d.filter.ins) d.inputs ≡ true = below_is (length d.filter.ins) d.inputs (omega (arith, above, lt)) in
    let pad = c.pad in
    let below = c.below in
    let room : nat_lt (length c.before.filter.outs + 0) c.before.outputs ≡ true =
    below_is (length c.before.filter.outs + 0) c.before.outputs (omega (arith, pad, below)) in
    let q : Pad = record { filter = f - 1; pad = length c.before.filter.outs + 0 } in (
      q,
      ap (λ (b : Bool). cond b (chained ds f d 0) None) has
          ∙ ap (λ (b : Bool). cond b (next_pad (f - 1) (slice_get ds (f - 1)) 0) None) c.follows
          ∙ ap (λ (o : Option Seen). next_pad (f - 1) o 0) c.there
          ∙ ap (λ (b : Bool). cond b (Some q) None) room,
      refl,
    )

behind_labels : (ds : List Seen) (f i : ℕ) (d : Seen) (from : Pad) → IsLabelled ds d i from → (j : ℕ) × (slice_get (feeders_of ds f d) j ≡ Some from.filter)
behind_labels ds f i d from l =
    let among = given_by ds d.filter.ins i l.label from l.taken l.found in
    behind_first (first_fed ds f d) (givers ds d.filter.ins) among.0 from.filter among.1

behind_chain : (ds : List Seen) (f i : ℕ) (d : Seen) (from : Pad) → i < d.inputs → IsChained ds f d i from
    → (j : ℕ) × (slice_get (feeders_of ds f d) j ≡ Some from.filter)
behind_chain ds f i d from lt c =
    let q = first_too ds f i d from lt c in (
      0,
      ap (λ (o : Option Pad). slice_get (filter_and o [] ++ givers ds d.filter.ins) 0) q.1 ∙ ap (λ (n : ℕ). Some n) (q.2 ∙ sym c.filter),
    )

pub fed_after : (ds : List Seen) (f i : ℕ) (from : Pad) → source_at (sources_in ds) f i ≡ Some (Some from)
    → (j : ℕ) × (slice_get (slice_index_or (feeders_in ds) f []) j ≡ Some from.filter)
fed_after ds f i from e =
    let s : Sourced ds f i (Some from) = sourced ds f i (Some from) e in
    let own = feeders_at ds f s.filter s.there in
    elim (fed_by ds f s.filter i from (sym s.is)) as (λ _. (j : ℕ) × (slice_get (slice_index_or (feeders_in ds) f []) j ≡ Some from.filter)) [
      | inl l ↦ let h = behind_labels ds f i s.filter from l in (h.0, ap (λ (xs : List ℕ). slice_get xs h.0) own ∙ h.1)
      | inr c ↦ let h = behind_chain ds f i s.filter from s.pad c in (h.0, ap (λ (xs : List ℕ). slice_get xs h.0) own ∙ h.1)
    ]
