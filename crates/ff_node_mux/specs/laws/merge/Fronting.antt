-- The packet that goes first of several streams stands first in their merge.
use Rattle.std.proofs.Common.{◌≡◌, ◌≢◌, ℕ, zero, suc, ◌<◌, Bool, true, false, cond, ◌==◌, Option, None, Some, List, [], ◌∷◌, refl, ap, sym, ◌∙◌, arith}
use Rattle.std.specs.Prelude.{◌||◌}
use Rattle.std.proofs.lemmas.Bool.{eq-eqb, ne_eqb, or_from, or_parts}
use Rattle.ff_time.specs.Fraction.{Fraction}
use Rattle.ff_frame.specs.declared.packet.Pkt.{Pkt}
use Rattle.ff_stream.specs.Stream.{Stream, is_whole}
use Rattle.ff_node_mux.specs.merge.Merges.{Placed, is_sooner, is_some, placed, has, merged, merge_to, decided, interleaved}
use Rattle.ff_node_mux.specs.laws.merge.MergeLaws.{has-below, go_on_from, go_on_not, decided-marks}
use Rattle.ff_node_mux.specs.laws.merge.Fronts.{head_of, sooner_of, first_to}

abbrev pub tail_of : {A : Type 0} → List A → List A
tail_of [] = []
tail_of (x ∷ xs) = xs

abbrev pub tail_if : Bool → List Pkt → List Pkt
tail_if true ps = tail_of ps
tail_if false ps = ps

-- the streams without the first packet of stream i
abbrev pub without : ℕ → (ℕ → Stream Pkt) → ℕ → Stream Pkt
without i ss p = record { items = tail_if (p == i) (ss p).items; mark = (ss p).mark }

abbrev pub nexts : (ℕ → Stream Pkt) → ℕ → Option Pkt
nexts ss p = head_of (ss p).items

module _ (base : ℕ → Fraction) where
  pub merged-nil : (xs : List Placed) → merged base xs [] ≡ xs
  merged-nil [] = refl
  merged-nil (x ∷ xs) = ap (λ (ys : List Placed). x ∷ ys) (merged-nil xs)

  pub merge-same : (n : ℕ) (rs ss : ℕ → Stream Pkt) → ((p : ℕ) → p < n → (rs p).items ≡ (ss p).items) → merge_to base n rs ≡ merge_to base n ss
  merge-same zero rs ss h = refl
  merge-same (suc n) rs ss h = rw (merge-same n rs ss (λ p lt. h p (omega (arith, lt))), h n (omega arith)) refl

  -- x goes first in the merge of the first n streams
  pub record Leads (n : ℕ) (ss : ℕ → Stream Pkt) (x : Placed) : Type 0 where
    pub below : x.0 < n
    pub items : (ss x.0).items ≡ x.1 ∷ tail_of (ss x.0).items
    pub rest : merge_to base n ss ≡ x ∷ merge_to base n (without x.0 ss)

  abbrev pub IsLed : ℕ → (ℕ → Stream Pkt) → Option Placed → Type 0
  IsLed n ss None = merge_to base n ss ≡ []
  IsLed n ss (Some x) = Leads n ss x

  without_other : (n i : ℕ) (ss : ℕ → Stream Pkt) → n ≢ i → (without i ss n).items ≡ (ss n).items
  without_other n i ss ne = ap (λ (b : Bool). tail_if b (ss n).items) (ne_eqb n i ne)

  without_here : (i : ℕ) (ss : ℕ → Stream Pkt) → (without i ss i).items ≡ tail_of (ss i).items
  without_here i ss = ap (λ (b : Bool). tail_if b (ss i).items) (eq-eqb i i refl)

  -- the first of stream n goes first
  led_here : (n : ℕ) (ss : ℕ → Stream Pkt) (p : Pkt) (ps xs : List Placed) (qs : List Pkt) → (ss n).items ≡ p ∷ qs → xs ≡ merge_to base n ss
      → merged base xs ((n, p) ∷ placed n qs) ≡ (n, p) ∷ merged base xs (placed n qs)
      → Leads (suc n) ss (n, p)
  led_here n ss p ps xs qs e m h = record {
    below = omega arith;
    items = e ∙ ap (λ (rs : List Pkt). p ∷ tail_of rs) (sym e);
    rest =
        let tail : (without n ss n).items ≡ qs = without_here n ss ∙ ap (λ (rs : List Pkt). tail_of rs) e in
        let low : merge_to base n (without n ss) ≡ xs = merge-same n (without n ss) ss (λ q lt. without_other q n ss (λ s. omega (arith, s, lt))) ∙ sym m in
        ap (λ (rs : List Pkt). merged base (merge_to base n ss) (placed n rs)) e ∙ (ap (λ (ys : List Placed). merged base ys ((n, p) ∷ placed n qs)) (sym m) ∙ (h
        ∙ (ap (λ (rs : List Pkt). (n, p) ∷ merged base xs (placed n rs)) (sym tail)
        ∙ ap (λ (ys : List Placed). (n, p) ∷ merged base ys (placed n (without n ss n).items)) (sym low))));
  }

  -- the first of a lower stream does
  led_low : (n : ℕ) (ss : ℕ → Stream Pkt) (x : Placed) → Leads n ss x → merged base (x ∷ merge_to base n (without x.0 ss)) (placed n (ss n).items) ≡ x ∷ merged base
      (merge_to base n (without x.0 ss)) (placed n (ss n).items)
      → Leads (suc n) ss x
  led_low n ss x l h = let lt = l.below in record {
    below = omega (arith, lt);
    items = l.items;
    rest =
        let same : (without x.0 ss n).items ≡ (ss n).items = without_other n x.0 ss (λ s. omega (arith, s, lt)) in
        ap (λ (ys : List Placed). merged base ys (placed n (ss n).items)) l.rest
        ∙ (h ∙ ap (λ (rs : List Pkt). x ∷ merged base (merge_to base n (without x.0 ss)) (placed n rs)) (sym same));
  }

  led_step : (n : ℕ) (ss : ℕ → Stream Pkt) (o : Option Placed) (ps : List Pkt) → (ss n).items ≡ ps → IsLed n ss o → IsLed (suc n) ss (sooner_of base o n (head_of ps))
  led_step n ss None [] e l = ap (λ (rs : List Pkt). merged base (merge_to base n ss) (placed n rs)) e ∙ (merged-nil (merge_to base n ss) ∙ l)
  led_step n ss None (p ∷ ps) e l = led_here n ss p [] [] ps e (sym l) refl
  led_step n ss (Some x) [] e l = led_low n ss x l (ap (λ (rs : List Pkt). merged base (x ∷ merge_to base n (without x.0 ss)) (placed n rs)) e
      ∙ (merged-nil (x ∷ merge_to base n (without x.0 ss))
      ∙ (ap (λ (ys : List Placed). x ∷ ys) (sym (merged-nil (merge_to base n (without x.0 ss)))) ∙ ap
      (λ (rs : List Pkt). x ∷ merged base (merge_to base n (without x.0 ss)) (placed n rs)) (sym e))))
  led_step n ss (Some x) (p ∷ ps) e l = at (is_sooner base (n, p) x) refl
    where
      at : (b : Bool) → is_sooner base (n, p) x ≡ b → IsLed (suc n) ss (cond b (Some (n, p)) (Some x))
      at true s = led_here n ss p [] (x ∷ merge_to base n (without x.0 ss)) ps e (sym l.rest) (rw s refl)
      at false s = led_low n ss x l (ap (λ (rs : List Pkt). merged base (x ∷ merge_to base n (without x.0 ss)) (placed n rs)) e
          ∙ (rw s refl ∙ ap (λ (rs : List Pkt). x ∷ merged base (merge_to base n (without x.0 ss)) (placed n rs)) (sym e)))

  pub led : (n : ℕ) (ss : ℕ → Stream Pkt) → IsLed n ss (first_to base n (nexts ss))
  led zero ss = refl
  led (suc n) ss = led_step n ss (first_to base n (nexts ss)) (ss n).items refl (led n ss)

  -- it goes by what comes next of each stream alone
  pub first-same : (n : ℕ) (f g : ℕ → Option Pkt) → ((p : ℕ) → p < n → f p ≡ g p) → first_to base n f ≡ first_to base n g
  first-same zero f g h = refl
  first-same (suc n) f g h = rw (first-same n f g (λ p lt. h p (omega (arith, lt))), h n (omega arith)) refl

  -- of each stream a packet is there, or it is whole
  abbrev pub AreKnown : ℕ → (ℕ → Stream Pkt) → Type 0
  AreKnown n ss = (p : ℕ) → p < n → (is_whole (ss p).mark || is_some (ss p).items) ≡ true

  -- what goes first is decided then
  pub interleaved-step : (n : ℕ) (ss : ℕ → Stream Pkt) (x : Placed) → AreKnown n ss → Leads n ss x → interleaved n base ss ≡ x ∷ interleaved n base (without x.0 ss)
  interleaved-step n ss x known leads =
      let rest : List Placed = merge_to base n (without x.0 ss) in
      let on = go_on_from n ss x.0 rest (λ p l ne.
      ap (λ (b : Bool). is_whole (ss p).mark || b) (has-below base n p (without x.0 ss) l ∙ ap (λ (b : Bool). is_some (tail_if b (ss p).items)) (ne_eqb p x.0 ne))
      ∙ known p l) in
      ap (λ (xs : List Placed). decided n ss xs) leads.rest
      ∙ (ap (λ (b : Bool). cond b (x ∷ decided n ss rest) []) on ∙ ap (λ (xs : List Placed). x ∷ xs) (decided-marks n ss (without x.0 ss) rest (λ p l. refl)))

  -- and else nothing is
  pub interleaved-unknown : (n : ℕ) (ss : ℕ → Stream Pkt) (p : ℕ) → p < n → is_whole (ss p).mark ≡ false → is_some (ss p).items ≡ false → interleaved n base ss ≡ []
  interleaved-unknown n ss p lt going bare = at (merge_to base n ss) refl
    where
      at : (xs : List Placed) → merge_to base n ss ≡ xs → decided n ss xs ≡ []
      at [] e = refl
      at (x ∷ xs) e =
          let has_none : has p (x ∷ xs) ≡ false = ap (λ (ys : List Placed). has p ys) (sym e) ∙ (has-below base n p ss lt ∙ bare) in
          let parts = or_parts (x.0 == p) (has p xs) has_none in
          let ne : p ≢ x.0 = λ s. let clash : true ≡ false = sym (eq-eqb x.0 p (sym s)) ∙ parts.0 in cc in
          ap (λ (b : Bool). cond b (x ∷ decided n ss xs) []) (go_on_not n ss x.0 xs p lt ne (or_from (is_whole (ss p).mark) (has p xs) going parts.1))
