-- An order in which each filter comes behind those that feed it.
use Rattle.std.proofs.Common.{◌≡◌, ◌≢◌, ℕ, zero, suc, ◌<◌, ◌==◌, ◌&&◌, not, Bool, true, false, List, [], ◌∷◌, length, replicate, slice_get, slice_index_or, slice_set, Option, None, Some, refl, ap, sym, ◌∙◌, arith}
use Rattle.std.proofs.lemmas.Bool.Decides.{nat_tests}
use Rattle.std.proofs.lemmas.List.{length-replicate}
use Rattle.ff_graph_links.specs.declared.pads.drawn.Pad.{Pad}
use Rattle.ff_graph_links.specs.orders.Orders.{is_taken, are_taken, all_taken, is_ready, IsOrderFrom, IsOrder}
use Rattle.ff_graph_dag.specs.wiring.Flows.{Absent, IsForward, source_at}

some_same : {A : Type 0} (x y : A) → Some x ≡ Some y → x ≡ y
some_same x y e = cc

no_some : {A B : Type 0} (x : A) → None ≡ Some x → B
no_some x e = cc

both : (a b : Bool) → (a && b) ≡ true → (a ≡ true) × (b ≡ true)
both true b e = (refl, e)
both false b e = cc

not_true : (a : Bool) → not a ≡ true → a ≡ false
not_true true e = cc
not_true false e = refl

set_here : (bs : List Bool) (k : ℕ) → k < length bs → is_taken (slice_set bs k true) k ≡ true
set_here [] k lt = absurd (omega arith)
set_here (b ∷ bs) zero lt = refl
set_here (b ∷ bs) (suc k) lt = set_here bs k (omega arith)

set_other : (bs : List Bool) (k j : ℕ) → j ≢ k → is_taken (slice_set bs k true) j ≡ is_taken bs j
set_other [] k j n = refl
set_other (b ∷ bs) zero zero n = absurd (n refl)
set_other (b ∷ bs) zero (suc j) n = refl
set_other (b ∷ bs) (suc k) zero n = refl
set_other (b ∷ bs) (suc k) (suc j) n = set_other bs k j (λ e. n (ap (λ (i : ℕ). suc i) e))

set_keeps : (bs : List Bool) (k j : ℕ) → is_taken bs j ≡ true → is_taken (slice_set bs k true) j ≡ true
set_keeps [] k j e = e
set_keeps (b ∷ bs) zero zero e = refl
set_keeps (b ∷ bs) zero (suc j) e = e
set_keeps (b ∷ bs) (suc k) zero e = e
set_keeps (b ∷ bs) (suc k) (suc j) e = set_keeps bs k j e

set_size : (bs : List Bool) (k : ℕ) → length (slice_set bs k true) ≡ length bs
set_size [] k = refl
set_size (b ∷ bs) zero = refl
set_size (b ∷ bs) (suc k) = ap (λ (n : ℕ). suc n) (set_size bs k)

all_at : (bs : List Bool) (f : ℕ) → f < length bs → all_taken bs ≡ true → is_taken bs f ≡ true
all_at [] f lt e = absurd (omega arith)
all_at (b ∷ bs) zero lt e = (both b (all_taken bs) e).0
all_at (b ∷ bs) (suc f) lt e = all_at bs f (omega arith) (both b (all_taken bs) e).1

are_got : (taken : List Bool) (js : List ℕ) (j f : ℕ) → are_taken taken js ≡ true → slice_get js j ≡ Some f → is_taken taken f ≡ true
are_got taken [] j f e g = no_some f g
are_got taken (i ∷ js) zero f e g = ap (λ (n : ℕ). is_taken taken n) (sym (some_same i f g)) ∙ (both (is_taken taken i) (are_taken taken js) e).0
are_got taken (i ∷ js) (suc j) f e g = are_got taken js j f (both (is_taken taken i) (are_taken taken js) e).1 g

none_yet : (n f : ℕ) → is_taken (replicate n false) f ≡ false
none_yet zero f = refl
none_yet (suc n) zero = refl
none_yet (suc n) (suc f) = none_yet n f

module _ (feeders : List (List ℕ)) where
  ready_not : (taken : List Bool) (k : ℕ) → is_ready feeders taken k ≡ true → is_taken taken k ≡ false
  ready_not taken k e = not_true (is_taken taken k) (both (not (is_taken taken k)) (are_taken taken (slice_index_or feeders k [])) e).0

  -- what was taken doesn't come again
  absent : (ks : List ℕ) (taken : List Bool) → IsOrderFrom feeders taken ks → (f : ℕ) → is_taken taken f ≡ true → Absent f ks
  absent [] taken o f e j g = no_some f g
  absent (k ∷ ks) taken o f e zero g =
      let no : true ≡ false = sym e ∙ (ap (λ (n : ℕ). is_taken taken n) (sym (some_same k f g)) ∙ ready_not taken k o.1) in
      cc
  absent (k ∷ ks) taken o f e (suc j) g = absent ks (slice_set taken k true) o.2 f (set_keeps taken k f e) j g

  -- and what wasn't comes
  comes : (ks : List ℕ) (taken : List Bool) → IsOrderFrom feeders taken ks → (f : ℕ) → f < length taken → is_taken taken f ≡ false → (j : ℕ) × (slice_get ks j ≡ Some f)
  comes [] taken o f lt e = let no : true ≡ false = sym (all_at taken f lt o) ∙ e in cc
  comes (k ∷ ks) taken o f lt e = at (k == f) refl (λ n.
      let z : length (slice_set taken k true) ≡ length taken = set_size taken k in
      comes ks (slice_set taken k true) o.2 f (omega (arith, z, lt)) (set_other taken k f n ∙ e))
    where
      at : (b : Bool) → (k == f) ≡ b → (f ≢ k → (j : ℕ) × (slice_get ks j ≡ Some f)) → (j : ℕ) × (slice_get (k ∷ ks) j ≡ Some f)
      at true q r = let is : k ≡ f = grind (arith, nat_tests) in (0, ap (λ (n : ℕ). Some n) is)
      at false q r =
          let other : f ≢ k = grind (arith, nat_tests) in
          let h = r other in
          (suc h.0, h.1)

  pub all_come : (ks : List ℕ) → IsOrder feeders ks → (f : ℕ) → f < length feeders → (j : ℕ) × (slice_get ks j ≡ Some f)
  all_come ks o f lt =
      let z : length (replicate (length feeders) false) ≡ length feeders = length-replicate (length feeders) false in
      comes ks (replicate (length feeders) false) o f (omega (arith, z, lt)) (none_yet (length feeders) f)

  module _ (sources : List (List (Option Pad)))
      (fed : (f i : ℕ) (from : Pad) → source_at sources f i ≡ Some (Some from) → (j : ℕ) × (slice_get (slice_index_or feeders f []) j ≡ Some from.filter)) where
    forward_from : (ks : List ℕ) (taken : List Bool) → IsOrderFrom feeders taken ks → IsForward sources ks
    forward_from [] taken o = tt
    forward_from (k ∷ ks) taken o = (
      absent ks (slice_set taken k true) o.2 k (set_here taken k o.0),
      λ i from e.
          let h = fed k i from e in
          absent (k ∷ ks) taken o from.filter (are_got taken (slice_index_or feeders k []) h.0 from.filter
          (both (not (is_taken taken k)) (are_taken taken (slice_index_or feeders k [])) o.1).1 h.1),
      forward_from ks (slice_set taken k true) o.2,
    )

    pub forward : (ks : List ℕ) → IsOrder feeders ks → IsForward sources ks
    forward ks o = forward_from ks (replicate (length feeders) false) o
