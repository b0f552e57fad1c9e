-- What a merge has of each stream, its order, and that what is decided stays.
use Rattle.std.proofs.Common.{◌≡◌, ◌≢◌, ℕ, zero, suc, ◌<◌, ◌≤◌, ◌⊎◌, inl, inr, Bool, true, false, cond, ◌==◌, Option, None, Some, List, [], ◌∷◌, ◌++◌, length, refl, ap}
use Rattle.std.proofs.Common.{sym, ◌∙◌, subst, arith, pos, ◌*◌, ◌*ℤ◌, Ordering, Less, Equal, Greater, is_lt}
use Rattle.std.specs.Prelude.{◌||◌}
use Rattle.std.proofs.lemmas.Bool.{cases_Bool, cases_eq, eq-eqb, ne_eqb, eqb-true, or_left, or_right, or_parts}
use Rattle.std.proofs.lemmas.Cmp.{int_cmp_total}
use Rattle.std.specs.Ordering.{ordering_reverse}
use mathlib.Core.List.{IsPrefix}
use Rattle.ff_time.specs.Fraction.{Fraction}
use Rattle.ff_time.specs.Rescale.{order_of}
use Rattle.ff_frame.specs.declared.packet.Pkt.{Pkt}
use Rattle.ff_stream.specs.Stream.{whole, Stream, LiesBelow, is_whole}
use Rattle.ff_node_mux.specs.merge.Merges.{Placed, is_sooner, is_some, placed, has, put_among, merged, merge_to, decided, interleaved}
use Rattle.ff_node_mux.specs.laws.merge.MergeLaws.{has-above, go_on_from}
use Rattle.ff_node_mux.specs.laws.merge.Orders.{GoesAfter, StartsAfter, InOrder, put_packet, of_stream, AllBelow}
use Rattle.ff_node_mux.specs.laws.merge.Fronts.{head_of, first_to}
use Rattle.ff_node_mux.specs.laws.merge.Fronting.{tail_of, tail_if, without, nexts, IsLed, led, first-same, AreKnown, interleaved-step, interleaved-unknown}

by_cond : (b : Bool) (q : ℕ) (xs ys : List Placed) (ps : List Pkt) → of_stream q xs ≡ ps → of_stream q ys ≡ ps → of_stream q (cond b xs ys) ≡ ps
by_cond true q xs ys ps h k = h
by_cond false q xs ys ps h k = k

none_of : (q : ℕ) (xs : List Placed) → has q xs ≡ false → of_stream q xs ≡ []
none_of q [] e = refl
none_of q (x ∷ xs) e = let b = or_parts (x.0 == q) (has q xs) e in ap (λ (t : Bool). put_packet t x.1 (of_stream q xs)) b.0 ∙ none_of q xs b.1

placed_here : (q : ℕ) (ps : List Pkt) → of_stream q (placed q ps) ≡ ps
placed_here q [] = refl
placed_here q (p ∷ ps) = ap (λ (t : Bool). put_packet t p (of_stream q (placed q ps))) (eq-eqb q q refl) ∙ ap (λ (rs : List Pkt). p ∷ rs) (placed_here q ps)

placed_other : (q n : ℕ) (ps : List Pkt) → n ≢ q → has q (placed n ps) ≡ false
placed_other q n [] ne = refl
placed_other q n (p ∷ ps) ne = rw (ne_eqb n q ne) (placed_other q n ps ne)

module _ (base : ℕ → Fraction) where
  -- of a stream that is in the first list alone
  put_first : (q : ℕ) (x : Placed) (rest : List Placed → List Placed) (ps : List Pkt) (ys : List Placed)
      → ((zs : List Placed) → has q zs ≡ false → of_stream q (rest zs) ≡ ps) → has q ys ≡ false
      → of_stream q (put_among base x rest ys) ≡ put_packet (x.0 == q) x.1 ps
  put_first q x rest ps [] h e = ap (λ (rs : List Pkt). put_packet (x.0 == q) x.1 rs) (h [] refl)
  put_first q x rest ps (y ∷ ys) h e = let b = or_parts (y.0 == q) (has q ys) e in
      by_cond (is_sooner base y x) q (y ∷ put_among base x rest ys) (x ∷ rest (y ∷ ys)) (put_packet (x.0 == q) x.1 ps)
      (ap (λ (t : Bool). put_packet t y.1 (of_stream q (put_among base x rest ys))) b.0 ∙ put_first q x rest ps ys h b.1)
      (ap (λ (rs : List Pkt). put_packet (x.0 == q) x.1 rs) (h (y ∷ ys) e))

  merged_first : (q : ℕ) (xs ys : List Placed) → has q ys ≡ false → of_stream q (merged base xs ys) ≡ of_stream q xs
  merged_first q [] ys e = none_of q ys e
  merged_first q (x ∷ xs) ys e = put_first q x (merged base xs) (of_stream q xs) ys (λ zs f. merged_first q xs zs f) e

  -- and of one that is in the second alone
  put_second : (q : ℕ) (x : Placed) (rest : List Placed → List Placed) (ys : List Placed) → (x.0 == q) ≡ false
      → ((zs : List Placed) → of_stream q (rest zs) ≡ of_stream q zs) → of_stream q (put_among base x rest ys) ≡ of_stream q ys
  put_second q x rest [] e h = ap (λ (t : Bool). put_packet t x.1 (of_stream q (rest []))) e ∙ h []
  put_second q x rest (y ∷ ys) e h = by_cond (is_sooner base y x) q (y ∷ put_among base x rest ys) (x ∷ rest (y ∷ ys)) (of_stream q (y ∷ ys))
      (ap (λ (rs : List Pkt). put_packet (y.0 == q) y.1 rs) (put_second q x rest ys e h))
      (ap (λ (t : Bool). put_packet t x.1 (of_stream q (rest (y ∷ ys)))) e ∙ h (y ∷ ys))

  merged_second : (q : ℕ) (xs ys : List Placed) → has q xs ≡ false → of_stream q (merged base xs ys) ≡ of_stream q ys
  merged_second q [] ys e = refl
  merged_second q (x ∷ xs) ys e = let b = or_parts (x.0 == q) (has q xs) e in put_second q x (merged base xs) ys b.0 (λ zs. merged_second q xs zs b.1)

  pub has_each : (n q : ℕ) (ss : ℕ → Stream Pkt) → q < n → of_stream q (merge_to base n ss) ≡ (ss q).items
  has_each zero q ss lt = absurd (omega (arith, lt))
  has_each (suc n) q ss lt = elim (cases_eq q n) as (λ _. of_stream q (merge_to base (suc n) ss) ≡ (ss q).items) [
    | inl same ↦ subst (λ r. of_stream r (merge_to base (suc n) ss) ≡ (ss r).items) (sym same)
        (merged_second n (merge_to base n ss) (placed n (ss n).items) (has-above base n n ss (omega arith)) ∙ placed_here n (ss n).items)
    | inr ne ↦ merged_first q (merge_to base n ss) (placed n (ss n).items) (placed_other q n (ss n).items (λ s. ne (sym s))) ∙ has_each n q ss (omega (arith, lt, ne))
  ]

  flipped : (o : Ordering) → is_lt o ≡ true → is_lt (ordering_reverse o) ≡ false
  flipped Less e = refl
  flipped Equal e = cc
  flipped Greater e = cc

  not_sooner : (x y : Placed) → is_sooner base x y ≡ true → is_sooner base y x ≡ false
  not_sooner x y e =
      ap is_lt (int_cmp_total.antisymm (y.1.dts *ℤ pos ((base y.0).num * (base x.0).den)) (x.1.dts *ℤ pos ((base x.0).num * (base y.0).den)))
      ∙ flipped (order_of x.1.dts (base x.0) y.1.dts (base y.0)) e

  -- numbers of the first list are below those of the second
  abbrev AreLower : List Placed → ℕ → Type 0
  AreLower [] n = Unit {0}
  AreLower (x ∷ xs) n = (x.0 < n) × AreLower xs n

  abbrev AreOf : List Placed → ℕ → Type 0
  AreOf [] n = Unit {0}
  AreOf (x ∷ xs) n = (x.0 ≡ n) × AreOf xs n

  start_put : (u x : Placed) (rest : List Placed → List Placed) (ys : List Placed) → GoesAfter base u x → StartsAfter base u ys
      → StartsAfter base u (put_among base x rest ys)
  start_put u x rest [] g s = g
  start_put u x rest (y ∷ ys) g s = at (is_sooner base y x)
    where
      at : (b : Bool) → StartsAfter base u (cond b (y ∷ put_among base x rest ys) (x ∷ rest (y ∷ ys)))
      at true = s
      at false = g

  start_merged : (u : Placed) (xs ys : List Placed) → StartsAfter base u xs → StartsAfter base u ys → StartsAfter base u (merged base xs ys)
  start_merged u [] ys s t = t
  start_merged u (x ∷ xs) ys s t = start_put u x (merged base xs) ys s t

  order_put : (n : ℕ) (x : Placed) (xs ys : List Placed) → x.0 < n → StartsAfter base x xs → ((zs : List Placed) → AreOf zs n → InOrder base zs
      → InOrder base (merged base xs zs)) → AreOf ys n → InOrder base ys → InOrder base (put_among base x (merged base xs) ys)
  order_put n x xs [] lt s h o r = (start_merged x xs [] s tt, h [] tt tt)
  order_put n x xs (y ∷ ys) lt s h o r = at (is_sooner base y x) refl (order_put n x xs ys lt s h o.1 r.1)
    where
      at : (b : Bool) → is_sooner base y x ≡ b → InOrder base (put_among base x (merged base xs) ys)
          → InOrder base (cond b (y ∷ put_among base x (merged base xs) ys) (x ∷ merged base xs (y ∷ ys)))
      at true e more = (start_put y x (merged base xs) ys (not_sooner y x e, inl e) r.0, more)
      at false e more = (start_merged x xs (y ∷ ys) s (e, inr (subst (λ m. x.0 < m) (sym o.0) lt)), h (y ∷ ys) o r)

  order_merged : (n : ℕ) (xs ys : List Placed) → AreLower xs n → AreOf ys n → InOrder base xs → InOrder base ys → InOrder base (merged base xs ys)
  order_merged n [] ys l o r s = s
  order_merged n (x ∷ xs) ys l o r s = order_put n x xs ys l.0 r.0 (λ zs p q. order_merged n xs zs l.1 p r.1 q) o s

  of_placed : (n : ℕ) (ps : List Pkt) → AreOf (placed n ps) n
  of_placed n [] = tt
  of_placed n (p ∷ ps) = (refl, of_placed n ps)

  lower_put : (n : ℕ) (x : Placed) (rest : List Placed → List Placed) (ys : List Placed) → x.0 < n → AreLower ys n
      → ((zs : List Placed) → AreLower zs n → AreLower (rest zs) n) → AreLower (put_among base x rest ys) n
  lower_put n x rest [] lt l h = (lt, h [] tt)
  lower_put n x rest (y ∷ ys) lt l h = at (is_sooner base y x) (lower_put n x rest ys lt l.1 h)
    where
      at : (b : Bool) → AreLower (put_among base x rest ys) n → AreLower (cond b (y ∷ put_among base x rest ys) (x ∷ rest (y ∷ ys))) n
      at true more = (l.0, more)
      at false more = (lt, h (y ∷ ys) l)

  lower_merged : (n : ℕ) (xs ys : List Placed) → AreLower xs n → AreLower ys n → AreLower (merged base xs ys) n
  lower_merged n [] ys k l = l
  lower_merged n (x ∷ xs) ys k l = lower_put n x (merged base xs) ys k.0 l (λ zs m. lower_merged n xs zs k.1 m)

  lower_more : (m n : ℕ) (xs : List Placed) → m ≤ n → AreLower xs m → AreLower xs n
  lower_more m n [] le l = tt
  lower_more m n (x ∷ xs) le l = (let a = l.0 in omega (arith, le, a), lower_more m n xs le l.1)

  lower_placed : (m n : ℕ) (ps : List Pkt) → m < n → AreLower (placed m ps) n
  lower_placed m n [] lt = tt
  lower_placed m n (p ∷ ps) lt = (lt, lower_placed m n ps lt)

  lower : (n : ℕ) (ss : ℕ → Stream Pkt) → AreLower (merge_to base n ss) n
  lower zero ss = tt
  lower (suc n) ss = lower_merged (suc n) (merge_to base n ss) (placed n (ss n).items) (lower_more n (suc n) (merge_to base n ss) (omega arith) (lower n ss))
      (lower_placed n (suc n) (ss n).items (omega arith))

  pub in_order : (n : ℕ) (ss : ℕ → Stream Pkt) → ((p : ℕ) → p < n → InOrder base (placed p (ss p).items)) → InOrder base (merge_to base n ss)
  in_order zero ss h = tt
  in_order (suc n) ss h = order_merged n (merge_to base n ss) (placed n (ss n).items) (lower n ss) (of_placed n (ss n).items)
      (in_order n ss (λ p lt. h p (omega (arith, lt)))) (h n (omega arith))

  -- all is decided where each stream is whole
  pub all_whole : (n : ℕ) (ss : ℕ → Stream Pkt) → ((p : ℕ) → p < n → (ss p).mark ≡ whole) → interleaved n base ss ≡ merge_to base n ss
  all_whole n ss h = at (merge_to base n ss)
    where
      at : (xs : List Placed) → decided n ss xs ≡ xs
      at [] = refl
      at (x ∷ xs) = ap (λ (b : Bool). cond b (x ∷ decided n ss xs) [])
          (go_on_from n ss x.0 xs (λ p l ne. or_left (is_whole (ss p).mark) (has p xs) (ap is_whole (h p l)))) ∙ ap (λ (ys : List Placed). x ∷ ys) (at xs)

  -- each is known, or one isn't
  known_or : (n : ℕ) (ss : ℕ → Stream Pkt) → AreKnown base n ss ⊎ ((p : ℕ) × (p < n) × ((is_whole (ss p).mark || is_some (ss p).items) ≡ false))
  known_or zero ss = inl (λ p lt. absurd (omega (arith, lt)))
  known_or (suc n) ss = elim (cases_Bool (is_whole (ss n).mark || is_some (ss n).items)) as (λ _. AreKnown base (suc n) ss
      ⊎ ((p : ℕ) × (p < suc n) × ((is_whole (ss p).mark || is_some (ss p).items) ≡ false))) [
        | inr f ↦ inr (n, omega arith, f)
        | inl t ↦ (elim (known_or n ss) as (λ _. AreKnown base (suc n) ss ⊎ ((p : ℕ) × (p < suc n) × ((is_whole (ss p).mark || is_some (ss p).items) ≡ false))) [
          | inl k ↦ inl (λ p lt. elim (cases_eq p n) as (λ _. (is_whole (ss p).mark || is_some (ss p).items) ≡ true)
              [ inl same ↦ subst (λ r. (is_whole (ss r).mark || is_some (ss r).items) ≡ true) (sym same) t | inr ne ↦ k p (omega (arith, lt, ne)) ])
          | inr l ↦ inr (l.0, (let lt = l.1 in omega (arith, lt)), l.2)
        ])
      ]

  same_head : (r s : Stream Pkt) → LiesBelow r s → (is_whole r.mark || is_some r.items) ≡ true → (head_of r.items ≡ head_of s.items)
      × ((is_whole s.mark || is_some s.items) ≡ true)
  same_head r s (inl e) k = (ap (λ (t : Stream Pkt). head_of t.items) e, subst (λ (t : Stream Pkt). (is_whole t.mark || is_some t.items) ≡ true) e k)
  same_head r s (inr h) k = at r.items s.items h.1 (ap (λ m. is_whole m || is_some r.items) (sym h.0) ∙ k)
    where
      at : (ps qs : List Pkt) → IsPrefix ps qs → is_some ps ≡ true → (head_of ps ≡ head_of qs) × ((is_whole s.mark || is_some qs) ≡ true)
      at [] qs p e = cc
      at (x ∷ xs) [] p e = let c : x ∷ (xs ++ p.0) ≡ [] = p.1 in cc
      at (x ∷ xs) (y ∷ ys) p e = let c : x ∷ (xs ++ p.0) ≡ y ∷ ys = p.1 in let first : x ≡ y = cc (c) in
          (ap (λ (z : Pkt). Some z) first, or_right (is_whole s.mark) true refl)

  tail_below : (b : Bool) (r s : Stream Pkt) → LiesBelow r s → (b ≡ true → (is_whole r.mark || is_some r.items) ≡ true)
      → LiesBelow (record { items = tail_if b r.items; mark = r.mark }) (record { items = tail_if b s.items; mark = s.mark })
  tail_below b r s (inl e) k = inl (ap (λ (t : Stream Pkt). let u : Stream Pkt = record { items = tail_if b t.items; mark = t.mark } in u) e)
  tail_below false r s (inr h) k = inr h
  tail_below true r s (inr h) k = inr (h.0, at r.items s.items h.1 (ap (λ m. is_whole m || is_some r.items) (sym h.0) ∙ k refl))
    where
      at : (ps qs : List Pkt) → IsPrefix ps qs → is_some ps ≡ true → IsPrefix (tail_of ps) (tail_of qs)
      at [] qs p e = cc
      at (x ∷ xs) [] p e = let c : x ∷ (xs ++ p.0) ≡ [] = p.1 in cc
      at (x ∷ xs) (y ∷ ys) p e = let c : x ∷ (xs ++ p.0) ≡ y ∷ ys = p.1 in (p.0, cc (c))

  empty_prefix : (xs ys : List Placed) → xs ≡ [] → IsPrefix xs ys
  empty_prefix xs ys e = subst (λ (zs : List Placed). IsPrefix zs ys) (sym e) (ys, refl)

  behind_same : (x : Placed) (xs ys zs ws : List Placed) → xs ≡ x ∷ zs → ys ≡ x ∷ ws → IsPrefix zs ws → IsPrefix xs ys
  behind_same x xs ys zs ws e f p = rw (e, f) (p.0, ap (λ (us : List Placed). x ∷ us) p.1)

  stays_by : (n : ℕ) (rs ss : ℕ → Stream Pkt) (o : Option Placed) → AllBelow rs ss → AreKnown base n rs → IsLed base n rs o → IsLed base n ss o
      → ((ps qs : ℕ → Stream Pkt) → length (merge_to base n rs) ≡ suc (length (merge_to base n ps)) → AllBelow ps qs
      → IsPrefix (interleaved n base ps) (interleaved n base qs))
      → IsPrefix (interleaved n base rs) (interleaved n base ss)
  stays_by n rs ss None h k l l' more = empty_prefix (interleaved n base rs) (interleaved n base ss) (ap (λ (xs : List Placed). decided n rs xs) l)
  stays_by n rs ss (Some x) h k l l' more =
      behind_same x (interleaved n base rs) (interleaved n base ss) (interleaved n base (without x.0 rs)) (interleaved n base (without x.0 ss))
      (interleaved-step base n rs x k l) (interleaved-step base n ss x (λ p lt. (same_head (rs p) (ss p) (h p) (k p lt)).1) l')
      (more (without x.0 rs) (without x.0 ss) (ap (λ (xs : List Placed). length xs) l.rest)
      (λ p. tail_below (p == x.0) (rs p) (ss p) (h p) (λ t. k p (let same = eqb-true p x.0 t in let lt = l.below in omega (arith, same, lt)))))

  stays_or : (n : ℕ) (rs ss : ℕ → Stream Pkt) → AllBelow rs ss
      → ((ps qs : ℕ → Stream Pkt) → length (merge_to base n rs) ≡ suc (length (merge_to base n ps)) → AllBelow ps qs
      → IsPrefix (interleaved n base ps) (interleaved n base qs))
      → IsPrefix (interleaved n base rs) (interleaved n base ss)
  stays_or n rs ss h more = elim (known_or n rs) as (λ _. IsPrefix (interleaved n base rs) (interleaved n base ss)) [
    | inl k ↦ stays_by n rs ss (first_to base n (nexts rs)) h k (led base n rs)
        (subst (λ (o : Option Placed). IsLed base n ss o) (sym (first-same base n (nexts rs) (nexts ss) (λ p lt. (same_head (rs p) (ss p) (h p) (k p lt)).0)))
        (led base n ss)) more
    | inr l ↦ (let b = or_parts (is_whole (rs l.0).mark) (is_some (rs l.0).items) l.2 in empty_prefix (interleaved n base rs) (interleaved n base ss)
        (interleaved-unknown base n rs l.0 l.1 b.0 b.1))
  ]

  stays_to : (m n : ℕ) (rs ss : ℕ → Stream Pkt) → length (merge_to base n rs) ≤ m → AllBelow rs ss → IsPrefix (interleaved n base rs) (interleaved n base ss)
  stays_to zero n rs ss le h = stays_or n rs ss h (λ ps qs e k. absurd (omega (arith, e, le)))
  stays_to (suc m) n rs ss le h = stays_or n rs ss h (λ ps qs e k. stays_to m n ps qs (omega (arith, e, le)) k)

  pub stays : (n : ℕ) (rs ss : ℕ → Stream Pkt) → AllBelow rs ss → IsPrefix (interleaved n base rs) (interleaved n base ss)
  stays n rs ss h = stays_to (length (merge_to base n rs)) n rs ss (omega arith) h
