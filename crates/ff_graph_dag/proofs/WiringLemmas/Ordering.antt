-- Filters one by one solve the filters.
use Rattle.std.proofs.Common.{◌≡◌, ◌≢◌, ℕ, zero, suc, ◌<◌, ◌==◌, ◌&&◌, Bool, true, false, if◌then◌else◌, cond, List, [], ◌∷◌, length, map, slice_get, slice_index_or, Option, None, Some, refl, ap, sym, ◌∙◌, subst, arith}
use Rattle.std.proofs.lemmas.Bool.Decides.{nat_tests}
use Rattle.ff_stream.specs.Ports.{nothing}
use Rattle.ff_filter.specs.Joins.{Ports}
use Rattle.ff_filter.specs.Views.{View}
use Rattle.ff_graph_links.specs.declared.pads.drawn.Pad.{Pad}
use Rattle.ff_graph_dag.specs.declared.graph.Port.{Port}
use Rattle.ff_graph_dag.specs.laws.wiring.Wires.{feeder_at, is_at}
use Rattle.ff_graph_dag.specs.laws.wiring.Meant.{Streams, input_at, stream_to, streams_to, Solves}
use Rattle.ff_graph_dag.specs.wiring.Flows.{Flows, same_pad, pad_place, stream_into, streams_into, with_outputs, flows_from, Absent, IsForward, place_in, port_at, port_of_source, placed, placed_pads, pad_at}

some_same : {A : Type 0} (x y : A) → Some x ≡ Some y → x ≡ y
some_same x y e = cc

no_some : {A B : Type 0} (x : A) → None ≡ Some x → B
no_some x e = cc

-- one filter's outputs
with_own : (k o : ℕ) (outs : Ports) (flows : Flows) → with_outputs k outs flows (record { filter = k; pad = o }) ≡ outs o
with_own k o outs flows =
    let e : (k == k) ≡ true = grind (arith, nat_tests) in
    ap (λ (b : Bool). if b then outs o else flows (record { filter = k; pad = o })) e

with_other : (k : ℕ) (outs : Ports) (flows : Flows) (p : Pad) → p.filter ≢ k → with_outputs k outs flows p ≡ flows p
with_other k outs flows p n =
    let e : (p.filter == k) ≡ false = grind (arith, nat_tests) in
    ap (λ (b : Bool). if b then outs p.pad else flows p) e

absent_head : (f k : ℕ) (ks : List ℕ) → Absent f (k ∷ ks) → f ≢ k
absent_head f k ks a e = a zero (ap (λ (n : ℕ). Some n) (sym e))

absent_tail : (f k : ℕ) (ks : List ℕ) → Absent f (k ∷ ks) → Absent f ks
absent_tail f k ks a j e = a (suc j) e

module _ (sources : List (List (Option Pad))) (opens : List Pad) (ext : Ports) where
  -- filters that come later change nothing
  stays : (ks : List ℕ) (vs : List View) (flows : Flows) (p : Pad) → Absent p.filter ks → flows_from sources opens ext flows ks vs p ≡ flows p
  stays [] vs flows p a = refl
  stays (k ∷ ks) [] flows p a = refl
  stays (k ∷ ks) (v ∷ vs) flows p a =
      let outs : Ports = v.rest (streams_into sources opens ext flows k) in
      stays ks vs (with_outputs k outs flows) p (absent_tail p.filter k ks a) ∙ with_other k outs flows p (absent_head p.filter k ks a)

  into_same : (flows later : Flows) (p : Pad) (o : Option (Option Pad)) → ((from : Pad) → o ≡ Some (Some from) → later from ≡ flows from)
      → stream_into opens ext flows p o ≡ stream_into opens ext later p o
  into_same flows later p None h = refl
  into_same flows later p (Some None) h = refl
  into_same flows later p (Some (Some from)) h = sym (h from refl)

  -- each output carries what its filter makes of what comes to it
  pub gives : (ks : List ℕ) (vs : List View) (flows : Flows) → IsForward sources ks → (j k : ℕ) (v : View) (o : ℕ) → slice_get ks j ≡ Some k → slice_get vs j ≡ Some v
      → flows_from sources opens ext flows ks vs (record { filter = k; pad = o })
      ≡ v.rest (streams_into sources opens ext (flows_from sources opens ext flows ks vs) k) o
  gives [] vs flows f j k v o e g = no_some k e
  gives (l ∷ ks) [] flows f j k v o e g = no_some v g
  gives (l ∷ ks) (u ∷ vs) flows f zero k v o e g =
      let is : l ≡ k = some_same l k e in
      let same : u ≡ v = some_same u v g in
      let outs : Ports = u.rest (streams_into sources opens ext flows l) in
      let all : Flows = flows_from sources opens ext (with_outputs l outs flows) ks vs in
      let came : streams_into sources opens ext flows l ≡ streams_into sources opens ext all l =
      λ i q. into_same flows all (record { filter = l; pad = q }) (slice_get (slice_index_or sources l []) q)
      (λ from h.
      let away : Absent from.filter (l ∷ ks) = f.1 q from h in
      stays ks vs (with_outputs l outs flows) from (absent_tail from.filter l ks away) ∙ with_other l outs flows from (absent_head from.filter l ks away)) i in
      let own : all (record { filter = l; pad = o }) ≡ u.rest (streams_into sources opens ext all l) o =
      stays ks vs (with_outputs l outs flows) (record { filter = l; pad = o }) f.0 ∙ (with_own l o outs flows ∙ ap (λ (r : Ports). u.rest r o) came) in
      subst (λ (n : ℕ). all (record { filter = n; pad = o }) ≡ v.rest (streams_into sources opens ext all n) o) is
      (subst (λ (w : View). all (record { filter = l; pad = o }) ≡ w.rest (streams_into sources opens ext all l) o) same own)
  gives (l ∷ ks) (u ∷ vs) flows f (suc j) k v o e g = gives ks vs (with_outputs l (u.rest (streams_into sources opens ext flows l)) flows) f.2 j k v o e g

-- places ----------------------------------------------------------------------------------------------------------

got_at : {A : Type 0} (xs : List A) (k : ℕ) (d x : A) → slice_get xs k ≡ Some x → slice_index_or xs k d ≡ x
got_at [] k d x e = no_some x e
got_at (y ∷ xs) zero d x e = some_same y x e
got_at (y ∷ xs) (suc k) d x e = got_at xs k d x e

got_is : {A : Type 0} (xs : List A) (k : ℕ) (d : A) → k < length xs → slice_get xs k ≡ Some (slice_index_or xs k d)
got_is [] k d lt = absurd (omega arith)
got_is (x ∷ xs) zero d lt = refl
got_is (x ∷ xs) (suc k) d lt = got_is xs k d (omega arith)

got_below : {A : Type 0} (xs : List A) (k : ℕ) (x : A) → slice_get xs k ≡ Some x → k < length xs
got_below [] k x e = no_some x e
got_below (y ∷ xs) zero x e = omega arith
got_below (y ∷ xs) (suc k) x e = let h = got_below xs k x e in omega arith

-- the filter in its place
pub place_got : (order : List ℕ) (f j : ℕ) → slice_get order j ≡ Some f → slice_get order (place_in order f) ≡ Some f
place_got [] f j e = no_some f e
place_got (k ∷ ks) f j e = at (k == f) refl (λ i g. place_got ks f i g) j e
  where
    at : (b : Bool) → (k == f) ≡ b → ((i : ℕ) → slice_get ks i ≡ Some f → slice_get ks (place_in ks f) ≡ Some f) → (i : ℕ) → slice_get (k ∷ ks) i ≡ Some f
        → slice_get (k ∷ ks) (cond b 0 (suc (place_in ks f))) ≡ Some f
    at true q r i g = let is : k ≡ f = grind (arith, nat_tests) in ap (λ (n : ℕ). Some n) is
    at false q r zero g =
        let is : k ≡ f = some_same k f g in
        let other : k ≢ f = grind (arith, nat_tests) in
        absurd (other is)
    at false q r (suc i) g = r i g

-- each filter stands once
forward_once : (sources : List (List (Option Pad))) (ks : List ℕ) → IsForward sources ks → (i j f : ℕ) → slice_get ks i ≡ Some f → slice_get ks j ≡ Some f → i ≡ j
forward_once sources [] w i j f e g = no_some f e
forward_once sources (k ∷ ks) w zero zero f e g = refl
forward_once sources (k ∷ ks) w zero (suc j) f e g = absurd (w.0 j (g ∙ sym e))
forward_once sources (k ∷ ks) w (suc i) zero f e g = absurd (w.0 i (e ∙ sym g))
forward_once sources (k ∷ ks) w (suc i) (suc j) f e g = ap (λ (n : ℕ). suc n) (forward_once sources ks w.2 i j f e g)

map_at : {A B : Type 0} (f : A → B) (xs : List A) (k : ℕ) (d : B) (e : A) → k < length xs → slice_index_or (map f xs) k d ≡ f (slice_index_or xs k e)
map_at f [] k d e lt = absurd (omega arith)
map_at f (x ∷ xs) zero d e lt = refl
map_at f (x ∷ xs) (suc k) d e lt = map_at f xs k d e (omega arith)

abbrev pub got_source : List ℕ → Option (Option Pad) → Option (Option Port)
got_source order None = None
got_source order (Some s) = Some (port_of_source order s)

source_got : (order : List ℕ) (ss : List (Option Pad)) (i : ℕ) → slice_get (map (λ s. port_of_source order s) ss) i ≡ got_source order (slice_get ss i)
source_got order [] i = refl
source_got order (s ∷ ss) zero = refl
source_got order (s ∷ ss) (suc i) = source_got order ss i

-- what feeds an input, by places
pub feeder_placed : (order : List ℕ) (sources : List (List (Option Pad))) (k f i : ℕ) → slice_get order k ≡ Some f
    → feeder_at (placed order sources) (record { filter = k; port = i }) ≡ got_source order (slice_get (slice_index_or sources f []) i)
feeder_placed order sources k f i e =
    let lt : k < length order = got_below order k f e in
    let own : slice_index_or (placed order sources) k [] ≡ map (λ s. port_of_source order s) (slice_index_or sources (slice_index_or order k 0) []) =
    map_at (λ (n : ℕ). map (λ s. port_of_source order s) (slice_index_or sources n [])) order k [] 0 lt in
    ap (λ (xs : List (Option Port)). slice_get xs i) (own ∙ ap (λ (n : ℕ). map (λ s. port_of_source order s) (slice_index_or sources n [])) (got_at order k 0 f e))
    ∙ source_got order (slice_index_or sources f []) i

both : (a b : Bool) → (a && b) ≡ true → (a ≡ true) × (b ≡ true)
both true b e = (refl, e)
both false b e = cc

bools : (a b : Bool) → (a ≡ true → b ≡ true) → (b ≡ true → a ≡ true) → a ≡ b
bools true b f g = sym (f refl)
bools false true f g = g refl
bools false false f g = refl

and_true : (a b : Bool) → a ≡ true → b ≡ true → (a && b) ≡ true
and_true true b e f = f
and_true false b e f = cc

module _ (order : List ℕ) (sources : List (List (Option Pad))) (forward : IsForward sources order) where
  abbrev pub Stands : ℕ → Type 0
  Stands f = (j : ℕ) × (slice_get order j ≡ Some f)

  pub place_is : (k f : ℕ) → slice_get order k ≡ Some f → place_in order f ≡ k
  place_is k f e = forward_once sources order forward (place_in order f) k f (place_got order f k e) e

  pub back_again : (f : ℕ) → Stands f → slice_index_or order (place_in order f) 0 ≡ f
  back_again f s = got_at order (place_in order f) 0 f (place_got order f s.0 s.1)

  pub places_apart : (f g : ℕ) → Stands f → Stands g → place_in order f ≡ place_in order g → f ≡ g
  places_apart f g s t e = sym (back_again f s) ∙ (ap (λ (n : ℕ). slice_index_or order n 0) e ∙ back_again g t)

  same_is : (p q : Pad) → Stands p.filter → Stands q.filter → is_at (Some (port_at order q)) (port_at order p) ≡ same_pad p q
  same_is p q s t = bools ((place_in order q.filter == place_in order p.filter) && (q.pad == p.pad)) ((p.filter == q.filter) && (p.pad == q.pad))
      (λ e.
      let b = both (place_in order q.filter == place_in order p.filter) (q.pad == p.pad) e in
      let x : (place_in order q.filter == place_in order p.filter) ≡ true = b.0 in
      let y : (q.pad == p.pad) ≡ true = b.1 in
      let u : place_in order p.filter ≡ place_in order q.filter = grind (arith, nat_tests) in
      let f : p.filter ≡ q.filter = places_apart p.filter q.filter s t u in
      let l : (p.filter == q.filter) ≡ true = grind (arith, nat_tests) in
      let r : (p.pad == q.pad) ≡ true = grind (arith, nat_tests) in
      and_true (p.filter == q.filter) (p.pad == q.pad) l r)
      (λ e.
      let b = both (p.filter == q.filter) (p.pad == q.pad) e in
      let x : (p.filter == q.filter) ≡ true = b.0 in
      let y : (p.pad == q.pad) ≡ true = b.1 in
      let f : p.filter ≡ q.filter = grind (arith, nat_tests) in
      let u : place_in order q.filter ≡ place_in order p.filter = ap (λ (n : ℕ). place_in order n) (sym f) in
      let l : (place_in order q.filter == place_in order p.filter) ≡ true = grind (arith, nat_tests) in
      let r : (q.pad == p.pad) ≡ true = grind (arith, nat_tests) in
      and_true (place_in order q.filter == place_in order p.filter) (q.pad == p.pad) l r)

  pub input_same : (opens : List Pad) → ((i : ℕ) (q : Pad) → slice_get opens i ≡ Some q → Stands q.filter) → (p : Pad) → Stands p.filter
      → input_at (placed_pads order opens) (port_at order p) ≡ pad_place opens p
  input_same [] h p s = refl
  input_same (q ∷ opens) h p s =
      ap (λ (b : Bool). cond b 0 (suc (input_at (placed_pads order opens) (port_at order p)))) (same_is p q s (h zero q refl))
      ∙ ap (λ (n : ℕ). cond (same_pad p q) 0 (suc n)) (input_same opens (λ i r e. h (suc i) r e) p s)

  module _ (opens : List Pad) (opens_stand : (i : ℕ) (q : Pad) → slice_get opens i ≡ Some q → Stands q.filter)
      (sources_stand : (f i : ℕ) (from : Pad) → slice_get (slice_index_or sources f []) i ≡ Some (Some from) → Stands from.filter)
      (ext : Ports) (vs : List View) (size : length vs ≡ length order) where
    abbrev pub flows : Flows
    flows = flows_from sources opens ext (λ p. nothing) order vs

    -- the streams by the places of their filters
    abbrev pub streams : Streams
    streams f = flows (pad_at order f)

    came : (k f i : ℕ) → slice_get order k ≡ Some f → (o : Option (Option Pad)) → slice_get (slice_index_or sources f []) i ≡ o
        → stream_into opens ext flows (record { filter = f; pad = i }) o
        ≡ stream_to (placed_pads order opens) ext streams (record { filter = k; port = i }) (got_source order o)
    came k f i e None g = refl
    came k f i e (Some None) g =
        let p : Pad = record { filter = f; pad = i } in
        let port : port_at order p ≡ record { filter = k; port = i } = ap (λ (n : ℕ). let a : Port = record { filter = n; port = i } in a) (place_is k f e) in
        ap ext (sym (input_same opens opens_stand p (k, e)) ∙ ap (λ (a : Port). input_at (placed_pads order opens) a) port)
    came k f i e (Some (Some from)) g =
        let s : Stands from.filter = sources_stand f i from g in
        sym (ap (λ (n : ℕ). flows (record { filter = n; pad = from.pad })) (back_again from.filter s))

    pub solves : Solves (placed order sources) (placed_pads order opens) ext vs streams
    solves k o v e lt =
        let klt : k < length order = let h = got_below vs k v e in omega (arith, size, h) in
        let f : ℕ = slice_index_or order k 0 in
        let there : slice_get order k ≡ Some f = got_is order k 0 klt in
        let come : streams_into sources opens ext flows f ≡ streams_to (placed order sources) (placed_pads order opens) ext streams k =
        λ j i. (came k f i there (slice_get (slice_index_or sources f []) i) refl
        ∙ sym (ap (λ (a : Option (Option Port)). stream_to (placed_pads order opens) ext streams (record { filter = k; port = i }) a)
        (feeder_placed order sources k f i there))) j in
        gives sources opens ext order vs (λ p. nothing) forward k f v o there e ∙ ap (λ (r : Ports). v.rest r o) come
