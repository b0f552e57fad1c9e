-- Where an input pad of a text is fed, and by what.
use Rattle.std.proofs.Common.{◌≡◌, ℕ, zero, suc, ◌+◌, ◌-◌, ◌<◌, Bool, true, false, cond, nat_lt, List, [], ◌∷◌, length, slice_get, slice_index_or}
use Rattle.std.proofs.Common.{Option, None, Some, refl, ap, sym, ◌∙◌, subst, ◌⊎◌, inl, inr, arith}
use Rattle.std.proofs.lemmas.Bool.Decides.{nat_tests}
use Rattle.std.proofs.lemmas.Slice.Eq.{bytes_eq-Decides}
use Rattle.std.specs.Str.{bytes_eq}
use Rattle.ff_graph_links.specs.declared.pads.drawn.Pad.{Pad}
use Rattle.ff_graph_links.specs.pads.Links.{Seen, place_from, pad_or, giver_from, next_pad, source_by, source_of, sources_up, sources_of, sources_from}
use Rattle.ff_graph.specs.Opens.{sources_in}
use Rattle.ff_graph_dag.specs.wiring.Flows.{source_at}
use Rattle.ff_graph.proofs.ComposedLemmas.Elements.{some_same, no_some, or_got, or_none, cond_some, there_or_not}

-- ---- one list for each filter

row : (all : List Seen) (k : ℕ) (ds : List Seen) (j n : ℕ) (d : Seen) → n ≡ k + j → slice_get ds j ≡ Some d
    → slice_get (sources_from all k ds) j ≡ Some (sources_of all n d)
row all k [] j n d z e = no_some d e
row all k (x ∷ ds) zero n d z e =
    let same : x ≡ d = some_same x d e in
    let here : k ≡ n = omega arith in
    ap (λ (y : Seen). Some (sources_of all k y)) same ∙ ap (λ (m : ℕ). Some (sources_of all m d)) here
row all k (x ∷ ds) (suc j) n d z e = row all (suc k) ds j n d (omega arith) e

no_row : (all : List Seen) (k : ℕ) (ds : List Seen) (j : ℕ) → slice_get ds j ≡ None → slice_get (sources_from all k ds) j ≡ None
no_row all k [] j e = refl
no_row all k (x ∷ ds) zero e = cc
no_row all k (x ∷ ds) (suc j) e = no_row all (suc k) ds j e

pub sources_size : (all : List Seen) (k : ℕ) (ds : List Seen) → length (sources_from all k ds) ≡ length ds
sources_size all k [] = refl
sources_size all k (d ∷ ds) = ap (λ (n : ℕ). suc n) (sources_size all (suc k) ds)

pub row_of : (ds : List Seen) (f : ℕ) (d : Seen) → slice_get ds f ≡ Some d → slice_index_or (sources_in ds) f [] ≡ sources_of ds f d
row_of ds f d e = or_got (sources_in ds) f [] (sources_of ds f d) (row ds 0 ds f f d (omega arith) e)

pub no_row_of : (ds : List Seen) (f : ℕ) → slice_get ds f ≡ None → slice_index_or (sources_in ds) f [] ≡ []
no_row_of ds f e = or_none (sources_in ds) f [] (no_row ds 0 ds f e)

-- ---- one source for each pad

up : (all : List Seen) (k : ℕ) (d : Seen) (i n j m : ℕ) (s : Option Pad) → m ≡ i + j → slice_get (sources_up all k d i n) j ≡ Some s
    → (j < n) × (s ≡ source_of all k d m)
up all k d i zero j m s z e = no_some s e
up all k d i (suc n) zero m s z e =
    let here : i ≡ m = omega arith in
    (omega arith, sym (some_same (source_of all k d i) s e) ∙ ap (λ (x : ℕ). source_of all k d x) here)
up all k d i (suc n) (suc j) m s z e = let h = up all k d (suc i) n j m s (omega arith) e in let lt = h.0 in (omega (arith, lt), h.1)

pub record Sourced (ds : List Seen) (f i : ℕ) (s : Option Pad) : Type 0 where
  pub filter : Seen
  pub there : slice_get ds f ≡ Some filter
  pub pad : i < filter.inputs
  pub is : s ≡ source_of ds f filter i

pub sourced : (ds : List Seen) (f i : ℕ) (s : Option Pad) → source_at (sources_in ds) f i ≡ Some s → Sourced ds f i s
sourced ds f i s e = at (there_or_not (slice_get ds f))
  where
    at : (slice_get ds f ≡ None) ⊎ ((d : Seen) × (slice_get ds f ≡ Some d)) → Sourced ds f i s
    at (inl none) = no_some s (sym (ap (λ (ss : List (Option Pad)). slice_get ss i) (no_row_of ds f none)) ∙ e)
    at (inr h) =
        let d : Seen = h.0 in
        let q = up ds f d 0 d.inputs i i s (omega arith) (sym (ap (λ (ss : List (Option Pad)). slice_get ss i) (row_of ds f d h.1)) ∙ e) in
        record { filter = d; there = h.1; pad = q.0; is = q.1 }

-- ---- by a label

placed_at : (q : ℕ) (ls : List (List ℕ)) (label : List ℕ) (p : ℕ) → place_from q ls label ≡ Some p → (j : ℕ) × (p ≡ q + j) × (slice_get ls j ≡ Some label)
placed_at q [] label p e = no_some p e
placed_at q (l ∷ ls) label p e = at (bytes_eq label l) refl e (λ h. placed_at (suc q) ls label p h)
  where
    at : (b : Bool) → bytes_eq label l ≡ b → cond b (Some q) (place_from (suc q) ls label) ≡ Some p
        → (place_from (suc q) ls label ≡ Some p → (j : ℕ) × (p ≡ suc q + j) × (slice_get ls j ≡ Some label))
        → (j : ℕ) × (p ≡ q + j) × (slice_get (l ∷ ls) j ≡ Some label)
    at true t h on =
        let same : q ≡ p = some_same q p h in
        let z : p ≡ q + 0 = omega arith in
        (0, z, ap (λ (x : List ℕ). Some x) (sym ((bytes_eq-Decides label l).0 t)))
    at false t h on =
        let more = on h in
        let a : p ≡ suc q + more.0 = more.1 in
        let z : p ≡ q + suc more.0 = omega arith in
        (suc more.0, z, more.2)

-- an output pad with this label
pub record Gives (ds : List Seen) (k : ℕ) (label : List ℕ) (p : Pad) : Type 0 where
  pub at : ℕ
  pub filter : Seen
  pub number : p.filter ≡ k + at
  pub there : slice_get ds at ≡ Some filter
  pub labelled : slice_get filter.filter.outs p.pad ≡ Some label

gives : (k : ℕ) (ds : List Seen) (label : List ℕ) (p : Pad) → giver_from k ds label ≡ Some p → Gives ds k label p
gives k [] label p e = no_some p e
gives k (d ∷ ds) label p e = at (place_from 0 d.filter.outs label) refl e (λ h. gives (suc k) ds label p h)
  where
    at : (o : Option ℕ) → place_from 0 d.filter.outs label ≡ o → pad_or k o (giver_from (suc k) ds label) ≡ Some p
        → (giver_from (suc k) ds label ≡ Some p → Gives ds (suc k) label p) → Gives (d ∷ ds) k label p
    at None t h on =
        let more : Gives ds (suc k) label p = on h in
        let n = more.number in
        record { at = suc more.at; filter = more.filter; number = omega (arith, n); there = more.there; labelled = more.labelled }
    at (Some q) t h on =
        let own : (let r : Pad = record { filter = k; pad = q } in r) ≡ p = some_same (record { filter = k; pad = q }) p h in
        let place = placed_at 0 d.filter.outs label q t in
        let a : q ≡ 0 + place.0 = place.1 in
        let first : place.0 ≡ q = omega arith in
        let number : k ≡ p.filter = ap (λ (r : Pad). r.filter) own in
        let pad : q ≡ p.pad = ap (λ (r : Pad). r.pad) own in
        record {
          at = 0;
          filter = d;
          number = omega arith;
          there = refl;
          labelled = ap (λ (n : ℕ). slice_get d.filter.outs n) (sym pad) ∙ ap (λ (n : ℕ). slice_get d.filter.outs n) (sym first) ∙ place.2;
        }

-- an input pad with a label is fed by the output pad with that label
pub record IsLabelled (ds : List Seen) (d : Seen) (i : ℕ) (from : Pad) : Type 0 where
  pub label : List ℕ
  pub taken : slice_get d.filter.ins i ≡ Some label
  pub found : giver_from 0 ds label ≡ Some from
  pub giver : Seen
  pub there : slice_get ds from.filter ≡ Some giver
  pub given : slice_get giver.filter.outs from.pad ≡ Some label

-- ---- by the chain

-- one without a label is fed by the filter before its own
pub record IsChained (ds : List Seen) (f : ℕ) (d : Seen) (i : ℕ) (from : Pad) : Type 0 where
  pub bare : slice_get d.filter.ins i ≡ None
  pub follows : d.follows ≡ true
  pub before : Seen
  pub there : slice_get ds (f - 1) ≡ Some before
  pub filter : from.filter ≡ f - 1
  pub pad : from.pad ≡ length before.filter.outs + (i - length d.filter.ins)
  pub below : from.pad < before.outputs

is_below : (a b : ℕ) → nat_lt a b ≡ true → a < b
is_below a b e = grind (arith, nat_tests)

next_is : (ds : List Seen) (f : ℕ) (d : Seen) (i : ℕ) (from : Pad) → slice_get d.filter.ins i ≡ None → d.follows ≡ true
    → (o : Option Seen) → slice_get ds (f - 1) ≡ o → next_pad (f - 1) o (i - length d.filter.ins) ≡ Some from → IsChained ds f d i from
next_is ds f d i from bare follows None there e = no_some from e
next_is ds f d i from bare follows (Some b) there e =
    let pad : Pad = record { filter = f - 1; pad = length b.filter.outs + (i - length d.filter.ins) } in
    let h = cond_some (nat_lt (length b.filter.outs + (i - length d.filter.ins)) b.outputs) (Some pad) from e in
    let same : pad ≡ from = some_same pad from h.1 in
    let lt = is_below (length b.filter.outs + (i - length d.filter.ins)) b.outputs h.0 in
    record {
      bare = bare;
      follows = follows;
      before = b;
      there = there;
      filter = sym (ap (λ (r : Pad). r.filter) same);
      pad = sym (ap (λ (r : Pad). r.pad) same);
      below = subst (λ (r : Pad). r.pad < b.outputs) same lt;
    }

-- ---- either

pub fed_by : (ds : List Seen) (f : ℕ) (d : Seen) (i : ℕ) (from : Pad) → source_of ds f d i ≡ Some from
    → IsLabelled ds d i from ⊎ IsChained ds f d i from
fed_by ds f d i from e = at (slice_get d.filter.ins i) refl e
  where
    at : (o : Option (List ℕ)) → slice_get d.filter.ins i ≡ o → source_by ds f d i o ≡ Some from → IsLabelled ds d i from ⊎ IsChained ds f d i from
    at (Some label) t h =
        let g : Gives ds 0 label from = gives 0 ds label from h in
        let n = g.number in
        let z : from.filter ≡ g.at = omega (arith, n) in
        inl (record {
          label = label;
          taken = t;
          found = h;
          giver = g.filter;
          there = ap (λ (m : ℕ). slice_get ds m) z ∙ g.there;
          given = g.labelled;
        })
    at None t h =
        let c = cond_some d.follows (next_pad (f - 1) (slice_get ds (f - 1)) (i - length d.filter.ins)) from h in
        inr (next_is ds f d i from t c.0 (slice_get ds (f - 1)) refl c.1)
