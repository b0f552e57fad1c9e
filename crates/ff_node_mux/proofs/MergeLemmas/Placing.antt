-- The queue of a stream, and what stays as it was where one is replaced.
use Rattle.std.proofs.Common.{inl, inr, ◌≡◌, ◌≢◌, ℕ, zero, suc, ◌+◌, ◌<◌, Bool, true, false, cond, Option, None, Some, List, [], ◌∷◌, ◌++◌, length, refl, ap, sym, ◌∙◌}
use Rattle.std.proofs.Common.{subst, arith, get_or, set}
use Rattle.std.specs.Prelude.{◌||◌, ◌&&◌, not}
use Rattle.std.proofs.lemmas.Bool.{cases_eq, and_from, and_left, and_right}
use Rattle.ff_time.specs.Fraction.{Fraction}
use Rattle.ff_stream.specs.Stream.{is_whole}
use Rattle.ff_filter.specs.Made.{mark_after}
use Rattle.ff_node_mux.specs.declared.merge.queue.PacketQueue.{PacketQueue}
use Rattle.ff_node_mux.specs.merge.Merges.{is_sooner, is_some}
use Rattle.ff_node_mux.specs.merge.Queues.{Waiting, no_packets, waiting_of, waiting_at, bases_of}
use Rattle.ff_node_mux.specs.laws.merge.Fronts.{head_of, sooner_of, first_to, base_of, waits_of, next_of, IsFront, IsFirst, TellsSooner, AreNew, known_to}

pub waiting_there : (qs : List PacketQueue) (p : ℕ) (q : PacketQueue) → p < length qs → q ≡ get_or qs p q → waiting_at qs p ≡ waiting_of q
waiting_there [] p q lt e = absurd (omega (arith, lt))
waiting_there (r ∷ qs) zero q lt e = ap (λ (x : PacketQueue). waiting_of x) (sym e)
waiting_there (r ∷ qs) (suc p) q lt e = waiting_there qs p q (omega (arith, lt)) e

pub base_there : (qs : List PacketQueue) (p : ℕ) (q : PacketQueue) → p < length qs → q ≡ get_or qs p q → base_of qs p ≡ q.tb
base_there [] p q lt e = absurd (omega (arith, lt))
base_there (r ∷ qs) zero q lt e = ap (λ (x : PacketQueue). x.tb) (sym e)
base_there (r ∷ qs) (suc p) q lt e = base_there qs p q (omega (arith, lt)) e

pub set_here : (qs : List PacketQueue) (p : ℕ) (q : PacketQueue) → p < length qs → waiting_at (set qs p q) p ≡ waiting_of q
set_here [] p q lt = absurd (omega (arith, lt))
set_here (r ∷ qs) zero q lt = refl
set_here (r ∷ qs) (suc p) q lt = set_here qs p q (omega (arith, lt))

pub set_others : (qs : List PacketQueue) (p i : ℕ) (q : PacketQueue) → i ≢ p → waiting_at (set qs p q) i ≡ waiting_at qs i
set_others [] p i q n = refl
set_others (r ∷ qs) zero zero q n = absurd (n refl)
set_others (r ∷ qs) zero (suc i) q n = refl
set_others (r ∷ qs) (suc p) zero q n = refl
set_others (r ∷ qs) (suc p) (suc i) q n = set_others qs p i q (λ e. n (ap suc e))

pub set_bases : (qs : List PacketQueue) (p : ℕ) (q r : PacketQueue) → p < length qs → r ≡ get_or qs p r → q.tb ≡ r.tb → bases_of (set qs p q) ≡ bases_of qs
set_bases [] p q r lt e t = refl
set_bases (s ∷ qs) zero q r lt e t = ap (λ (b : Fraction). b ∷ bases_of qs) (t ∙ ap (λ (x : PacketQueue). x.tb) e)
set_bases (s ∷ qs) (suc p) q r lt e t = ap (λ (bs : List Fraction). s.tb ∷ bs) (set_bases qs p q r (omega (arith, lt)) e t)

pub long_bases : (qs : List PacketQueue) → length (bases_of qs) ≡ length qs
long_bases [] = refl
long_bases (q ∷ qs) = let e = long_bases qs in omega (arith, e)

pub stream_there : (qs : List PacketQueue) (p : ℕ) → p < length (bases_of qs) → p < length qs
stream_there qs p lt = let e = long_bases qs in omega (arith, lt, e)

pub some_long : {A : Type 0} (xs : List A) → is_some xs ≡ true → 0 < length xs
some_long [] e = cc
some_long (x ∷ xs) e = omega arith

pub uncons : {A : Type 0} (xs : List A) → is_some xs ≡ true → (x : A) × (ys : List A) × (xs ≡ x ∷ ys)
uncons [] e = cc
uncons (x ∷ xs) e = (x, xs, refl)

pub none_of : {A : Type 0} (xs : List A) → is_some xs ≡ false → xs ≡ []
none_of [] e = refl
none_of (x ∷ xs) e = cc

pub some_by : (b : Bool) → not b ≡ false → b ≡ true
some_by true e = refl
some_by false e = cc

pub some_from : {A : Type 0} (xs : List A) (x : A) (ys : List A) → xs ≡ x ∷ ys → is_some xs ≡ true
some_from xs x ys e = ap is_some e

pub none_by : (b : Bool) → not b ≡ true → b ≡ false
none_by true e = cc
none_by false e = refl

pub front_is : {A : Type 0} (xs ys : List A) (x y : A) → x ≡ get_or xs 0 x → xs ≡ y ∷ ys → x ≡ y
front_is xs ys x y e h = e ∙ ap (λ zs. get_or zs 0 x) h

module _ (qs : List PacketQueue) where
  on_next : (p n : ℕ) → n ≡ suc p → (o : Option ℕ) → IsFirst qs (suc p) o → IsFirst qs n o
  on_next p n e o h = subst (λ m. IsFirst qs m o) (sym e) h

  pub first_skip : (p : ℕ) (o : Option ℕ) → waits_of qs p ≡ [] → IsFirst qs p o → IsFirst qs (p + 1) o
  first_skip p None e h = on_next p (p + 1) (omega arith) None (ap (λ ws. sooner_of (base_of qs) (first_to (base_of qs) p (next_of qs)) p (head_of ws)) e ∙ h)
  first_skip p (Some i) e h = on_next p (p + 1) (omega arith) (Some i) (record {
    below = let lt = h.below in omega (arith, lt);
    packet = h.packet;
    others = h.others;
    waits = h.waits;
    first = ap (λ ws. sooner_of (base_of qs) (first_to (base_of qs) p (next_of qs)) p (head_of ws)) e ∙ h.first;
  })

  pub first_alone : (p : ℕ) → is_some (waits_of qs p) ≡ true → IsFirst qs p None → IsFirst qs (p + 1) (Some p)
  first_alone p s h = let u = uncons (waits_of qs p) s in on_next p (p + 1) (omega arith) (Some p) (record {
    below = omega arith;
    packet = u.0;
    others = u.1;
    waits = u.2;
    first = ap (λ ws. sooner_of (base_of qs) (first_to (base_of qs) p (next_of qs)) p (head_of ws)) u.2 ∙ ap (λ o. sooner_of (base_of qs) o p (Some u.0)) h;
  })

  module _ (p i : ℕ) (next other : PacketQueue) (t : Bool) (there : p < length qs) (is : next ≡ get_or qs p next) (other_is : other ≡ get_or qs i other)
      (some : is_some (waits_of qs p) ≡ true) (tells : TellsSooner next other t) where
    sooner_is : (f : IsFront qs p i) → t ≡ is_sooner (base_of qs) (p, (uncons (waits_of qs p) some).0) (i, f.packet)
    sooner_is f =
        let u = uncons (waits_of qs p) some in
        let below = f.below in
        let lt : i < length qs = omega (arith, below, there) in
        let here = waiting_there qs p next there is in
        let low = waiting_there qs i other lt other_is in
        tells u.0 f.packet u.1 f.others (ap (λ (w : Waiting). w.packets) (sym here) ∙ u.2) (ap (λ (w : Waiting). w.packets) (sym low) ∙ f.waits)
        ∙ rw (base_there qs p next there is, base_there qs i other lt other_is) refl

    first_by : (f : IsFront qs p i) → first_to (base_of qs) (suc p) (next_of qs) ≡ cond t (Some (p, (uncons (waits_of qs p) some).0)) (Some (i, f.packet))
    first_by f = let u = uncons (waits_of qs p) some in
        ap (λ ws. sooner_of (base_of qs) (first_to (base_of qs) p (next_of qs)) p (head_of ws)) u.2 ∙ (ap (λ o. sooner_of (base_of qs) o p (Some u.0)) f.first
        ∙ ap (λ b. cond b (Some (p, u.0)) (Some (i, f.packet))) (sym (sooner_is f)))

    pub first_new : IsFirst qs p (Some i) → t ≡ true → IsFirst qs (p + 1) (Some p)
    first_new f e = let u = uncons (waits_of qs p) some in on_next p (p + 1) (omega arith) (Some p) (record {
      below = omega arith;
      packet = u.0;
      others = u.1;
      waits = u.2;
      first = first_by f ∙ ap (λ b. cond b (Some (p, u.0)) (Some (i, f.packet))) e;
    })

    pub first_kept : IsFirst qs p (Some i) → t ≡ false → IsFirst qs (p + 1) (Some i)
    first_kept f e = let u = uncons (waits_of qs p) some in on_next p (p + 1) (omega arith) (Some i) (record {
      below = let lt = f.below in omega (arith, lt);
      packet = f.packet;
      others = f.others;
      waits = f.waits;
      first = first_by f ∙ ap (λ b. cond b (Some (p, u.0)) (Some (i, f.packet))) e;
    })

  bare_by : (a b : Bool) → (not a && not b) ≡ true → (a || b) ≡ false
  bare_by true b e = cc
  bare_by false true e = cc
  bare_by false false e = refl

  known_by : (a b : Bool) → (not a && not b) ≡ false → (a || b) ≡ true
  known_by true b e = refl
  known_by false true e = refl
  known_by false false e = cc

  pub known_fails : (n p : ℕ) (q : PacketQueue) (b : Bool) → p < n → p < length qs → q ≡ get_or qs p q
      → b ≡ (not (is_some q.queue.items) && not (is_whole (mark_after q.after))) → b ≡ true → known_to qs n ≡ false
  known_fails zero p q b lt there e is t = absurd (omega (arith, lt))
  known_fails (suc n) p q b lt there e is t = elim (cases_eq p n) as (λ _. known_to qs (suc n) ≡ false) [
    | inl same ↦ and_right (known_to qs n) (is_some (waits_of qs n) || is_whole (mark_after (waiting_at qs n).after))
        (ap (λ r. is_some (waits_of qs r) || is_whole (mark_after (waiting_at qs r).after)) (sym same)
        ∙ (ap (λ (w : Waiting). is_some w.packets || is_whole (mark_after w.after)) (waiting_there qs p q there e)
        ∙ bare_by (is_some q.queue.items) (is_whole (mark_after q.after)) (sym is ∙ t)))
    | inr other ↦ and_left (known_to qs n) (is_some (waits_of qs n) || is_whole (mark_after (waiting_at qs n).after))
        (known_fails n p q b (omega (arith, lt, other)) there e is t)
  ]

  pub known_more : (p : ℕ) (q : PacketQueue) (b : Bool) → p < length qs → q ≡ get_or qs p q → b ≡ (not (is_some q.queue.items) && not (is_whole (mark_after q.after)))
      → b ≡ false → known_to qs p ≡ true → known_to qs (p + 1) ≡ true
  known_more p q b there e is f h = let n : p + 1 ≡ suc p = omega arith in ap (λ m. known_to qs m) n
      ∙ and_from (known_to qs p) (is_some (waits_of qs p) || is_whole (mark_after (waiting_at qs p).after)) h
      (ap (λ (w : Waiting). is_some w.packets || is_whole (mark_after w.after)) (waiting_there qs p q there e)
      ∙ known_by (is_some q.queue.items) (is_whole (mark_after q.after)) (sym is ∙ f))

pub new_more : (tbs more : List Fraction) (qs : List PacketQueue) (q : PacketQueue) (tb : Fraction) → more ≡ tbs ++ tb ∷ [] → AreNew tbs qs → waiting_of q ≡ no_packets
    → q.tb ≡ tb → AreNew more (qs ++ q ∷ [])
new_more tbs more qs q tb m h w b = (bases qs tbs h.0 ∙ sym m, λ p. at qs h.1 p)
  where
    bases : (qs : List PacketQueue) (tbs : List Fraction) → bases_of qs ≡ tbs → bases_of (qs ++ q ∷ []) ≡ tbs ++ tb ∷ []
    bases [] tbs e = ap (λ (x : Fraction). x ∷ []) b ∙ ap (λ (xs : List Fraction). xs ++ tb ∷ []) e
    bases (r ∷ qs) [] e = cc
    bases (r ∷ qs) (x ∷ xs) e = let rest = bases qs xs (cc (e)) in let first : r.tb ≡ x = cc (e) in cc (rest, first)

    at : (qs : List PacketQueue) → ((p : ℕ) → waiting_at qs p ≡ no_packets) → (p : ℕ) → waiting_at (qs ++ q ∷ []) p ≡ no_packets
    at [] h zero = w
    at [] h (suc p) = refl
    at (r ∷ qs) h zero = h zero
    at (r ∷ qs) h (suc p) = at qs (λ k. h (suc k)) p
