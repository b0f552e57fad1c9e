-- Each step keeps the rule of a link's queues.
use Rattle.std.proofs.Common.{◌≡◌, ◌≢◌, ◌≤◌, ℕ, zero, suc, true, true≢false, List, [], ◌∷◌, ◌++◌, length, set, sym, refl, ap, ◌∙◌, subst, ⊎_elim, append_assoc, arith, length-append}
use mathlib.Core.Option.{some, some-ne-none}
use lib.ListN.{get_elem?}
use Rattle.crossbeam_queue.specs.Fifo.{Pushes, Pops, Forks, Merges, Learns, Held}
use Rattle.crossbeam_queue.proofs.Lists.{at_set, at_snoc}
use Rattle.ff_link.specs.declared.side.Way.{Way}
use Rattle.ff_link.specs.declared.side.Side.{Side}
use Rattle.ff_link.specs.laws.Flow.{both_of, putter, taker, with_sent, with_taken, whole, nobody, no_way, Fits, Flows, IsTotal, CountsFlow, AnyCounts, IsRest, IsNext}

module _ {T : Type 0} where
  at_end : (l : List (Side T)) (a b : Side T) (j : ℕ) → get_elem? l j ≢ some b → get_elem? (l ++ a ∷ []) j ≡ some b → j ≡ length l
  at_end [] a b zero n e = refl
  at_end [] a b (suc j) n e = absurd (some-ne-none b (sym e))
  at_end (x ∷ xs) a b zero n e = absurd (n e)
  at_end (x ∷ xs) a b (suc j) n e = ap suc (at_end xs a b j n e)

  abbrev All : (ℕ → Side T → Type 0) → List (Side T) → Type 0
  All F views = (port : ℕ) (v : Side T) → get_elem? views port ≡ some v → F port v

  all_set : (F : ℕ → Side T → Type 0) (views : List (Side T)) (port : ℕ) (w : Side T) → F port w → ((j : ℕ) (u : Side T) → j ≢ port → get_elem? views j ≡ some u → F j u) → All F (set views port w)
  all_set F views port w mine others j u e = ⊎_elim (λ (x : (j ≡ port) × (w ≡ u)). subst (λ (y : ℕ × Side T). F y.0 y.1) (λ i. (sym x.0 i, x.1 i)) mine)
      (λ (x : (j ≢ port) × (get_elem? views j ≡ some u)). others j u x.0 x.1) (at_set views port j w u e)

  nil_of_nil : (xs ys : List T) → [] ≡ xs ++ ys → (xs ≡ []) × (ys ≡ [])
  nil_of_nil [] [] e = (refl, refl)
  nil_of_nil [] (y ∷ ys) e = absurd (cc)
  nil_of_nil (x ∷ xs) ys e = absurd (cc)

module _ {T : Type 0} (Valid : Way → List T → Type 0) where
  abbrev F : List T → List (Side T) → Type 0
  F = Flows Valid

  moved : {k l : Way} {xs ys : List T} → k ≡ l → xs ≡ ys → Valid k xs → Valid l ys
  moved {k} {l} {xs} {ys} e f v = subst (λ (zs : List T). Valid l zs) f (subst (λ (m : Way). Valid m xs) e v)

  pub begins : Valid no_way [] → F [] (both_of no_way 0 ∷ [])
  begins ok = record {
    putter_at = 0;
    taker_at = 0;
    way = no_way;
    room = 0;
    sent = [];
    taken = [];
    in_order = refl;
    is_valid = ok;
    within = omega arith;
    each = all_set (Fits 0 0 no_way 0 [] []) (both_of no_way 0 ∷ []) 0 (both_of no_way 0) (record { puts = λ _. (refl, refl, refl, refl); takes = λ _. (refl, refl, refl, refl) }) (λ j u other e. absurd (other (at_end [] _ u j (λ x. some-ne-none u (sym x)) e)));
  }

  pub puts : (n port : ℕ) (v : Side T) (x : T) → v.puts ≡ true → n ≤ v.room → Valid v.way (v.sent ++ x ∷ []) → Pushes F n port v x (λ w. w ≡ with_sent v (v.sent ++ x ∷ []))
  puts n port v x may fits ok items views short h at =
      let w : Side T = with_sent v (v.sent ++ x ∷ []) in let mine = h.each port v at in let me = mine.puts may in let sent = h.sent ++ x ∷ [] in (
        w,
        record {
          putter_at = h.putter_at;
          taker_at = h.taker_at;
          way = h.way;
          room = h.room;
          sent = sent;
          taken = h.taken;
          in_order = ap (λ l. l ++ x ∷ []) h.in_order ∙ append_assoc h.taken items (x ∷ []);
          is_valid = moved me.2 (ap (λ l. l ++ x ∷ []) me.1) ok;
          within = let s = length-append items (x ∷ []) in let e = me.3 in omega arith;
          each = all_set (Fits h.putter_at h.taker_at h.way h.room sent h.taken) views port w (record { puts = λ _. (me.0, ap (λ l. l ++ x ∷ []) me.1, me.2, me.3); takes = mine.takes })
              (λ j u other e. record { puts = λ p. absurd (other (((h.each j u e).puts p).0 ∙ sym me.0)); takes = (h.each j u e).takes });
        },
        refl,
      )

  pub sees_full : (port : ℕ) (v : Side T) → v.puts ≡ true → Learns F port v (λ items. IsRest v.sent items)
  unfolding IsRest
  sees_full port v may items views h at = (h.taken, ((h.each port v at).puts may).1 ∙ h.in_order)

  pub sees_empty : (port : ℕ) (v : Side T) → v.takes ≡ true → Learns F port v (λ items. IsNext v.taken items)
  unfolding IsNext
  sees_empty port v may items views h at = (h.sent, h.in_order ∙ ap (λ l. l ++ items) (sym ((h.each port v at).takes may).1))

  pub takes : ((l : Way) (xs ys : List T) → Valid l (xs ++ ys) → Valid l xs) → (port : ℕ) (v : Side T) → v.takes ≡ true
      → Pops F port v (λ x w. (w ≡ with_taken v (v.taken ++ x ∷ [])) × Valid v.way (v.taken ++ x ∷ []))
  takes prefix port v may x items views h at =
      let w : Side T = with_taken v (v.taken ++ x ∷ []) in let mine = h.each port v at in let me = mine.takes may in let taken = h.taken ++ x ∷ [] in
      let order : h.sent ≡ taken ++ items = h.in_order ∙ sym (append_assoc h.taken (x ∷ []) items) in (
        w,
        record {
          putter_at = h.putter_at;
          taker_at = h.taker_at;
          way = h.way;
          room = h.room;
          sent = h.sent;
          taken = taken;
          in_order = order;
          is_valid = h.is_valid;
          within = let le = h.within in omega arith;
          each = all_set (Fits h.putter_at h.taker_at h.way h.room h.sent taken) views port w (record { puts = mine.puts; takes = λ _. (me.0, ap (λ l. l ++ x ∷ []) me.1, me.2, me.3) })
              (λ j u other e. record { puts = (h.each j u e).puts; takes = λ p. absurd (other (((h.each j u e).takes p).0 ∙ sym me.0)) });
        },
        (refl, moved (sym me.2) (ap (λ l. l ++ x ∷ []) (sym me.1)) (prefix h.way taken items (subst (λ xs. Valid h.way xs) order h.is_valid))),
      )

  pub forks : (port : ℕ) (v : Side T) (way : Way) (room : ℕ) → v.puts ≡ true → v.takes ≡ true → v.sent ≡ [] → Valid way [] → Forks F port v (putter way room v.sent) (taker way room v.taken)
  forks port v way room a b none ok items views h at =
      let l : Side T = putter way room v.sent in let r : Side T = taker way room v.taken in let mine = h.each port v at in let vs : List (Side T) = set views port l in
      let p = mine.puts a in let t = mine.takes b in let start : h.sent ≡ [] = sym p.1 ∙ none in let empty = nil_of_nil h.taken items (sym start ∙ h.in_order) in
      let Old : ℕ → Side T → Type 0 = λ j u. (u.puts ≡ true → (j ≡ port) × (u.sent ≡ h.sent) × (u.way ≡ way) × (u.room ≡ room)) × (u.takes ≢ true) in
      let old : All Old vs = all_set Old views port l ((λ _. (refl, p.1, refl, refl)), λ q. true≢false (sym q)) (λ j u other e. ((λ q. absurd (other (((h.each j u e).puts q).0 ∙ sym p.0))), λ q. other (((h.each j u e).takes q).0 ∙ sym t.0))) in
      record {
        putter_at = port;
        taker_at = length vs;
        way = way;
        room = room;
        sent = h.sent;
        taken = h.taken;
        in_order = h.in_order;
        is_valid = subst (λ xs. Valid way xs) (sym start) ok;
        within = let e = ap length empty.1 in omega arith;
        each = λ j u e. ⊎_elim (λ x. record { puts = (old j u x).0; takes = λ q. absurd ((old j u x).1 q) })
            (λ (is : r ≡ u). record {
              puts = λ q. absurd (true≢false (sym (ap (λ (y : Side T). y.puts) is ∙ q)));
              takes = λ q. (at_end vs r u j (λ x. (old j u x).1 q) e, ap (λ (y : Side T). y.taken) (sym is) ∙ t.1, ap (λ (y : Side T). y.way) (sym is), ap (λ (y : Side T). y.room) (sym is));
            }) (at_snoc vs r u j e);
      }

  pub merges : (port : ℕ) (v : Side T) (other : ℕ) (u : Side T) → v.puts ≡ true → u.takes ≡ true → Merges F port v other u (whole v u) nobody
  merges port v other u a b items views h at two at' =
      let both : Side T = whole v u in let mine = h.each port v at in let p = mine.puts a in let vs : List (Side T) = set views port both in
      let was : get_elem? views other ≡ some u = ⊎_elim (λ x. absurd (two x.0)) (λ x. x.1) (at_set views port other both u at') in let t = (h.each other u was).takes b in
      let N : ℕ → Side T → Type 0 = Fits h.putter_at port h.way h.room h.sent h.taken in
      let Now : ℕ → Side T → Type 0 = λ j y. j ≢ other → N j y in
      let now : All Now vs = all_set Now views port both (λ _. record { puts = λ _. p; takes = λ _. (refl, t.1, p.2, p.3) })
      (λ j y _ e apart. record { puts = (h.each j y e).puts; takes = λ q. absurd (apart (((h.each j y e).takes q).0 ∙ sym t.0)) }) in
      record {
        putter_at = h.putter_at;
        taker_at = port;
        way = h.way;
        room = h.room;
        sent = h.sent;
        taken = h.taken;
        in_order = h.in_order;
        is_valid = h.is_valid;
        within = h.within;
        each = all_set N vs other nobody (record { puts = λ q. absurd (true≢false (sym q)); takes = λ q. absurd (true≢false (sym q)) }) (λ j y apart e. now j y e apart);
      }

  pub totals : (port : ℕ) (v : Side T) → v.puts ≡ true → v.takes ≡ true → Learns F port v (λ items. IsTotal Valid v items)
  totals port v a b items views h at = let mine = h.each port v at in let p = mine.puts a in let t = mine.takes b in record {
    in_order = p.1 ∙ h.in_order ∙ ap (λ l. l ++ items) (sym t.1);
    is_valid = moved (sym p.2) (sym p.1) h.is_valid;
    within = let le = h.within in let e = p.3 in omega arith;
  }

pub hears : (port : ℕ) (v : Side ℕ) → v.takes ≡ true → Pops CountsFlow port v (λ x w. w ≡ with_taken v (v.taken ++ x ∷ []))
hears port v may x items views h at = let r = takes AnyCounts (λ l xs ys e. tt) port v may x items views h at in (r.0, r.1, r.2.0)

-- a queue that holds something cannot hold the rest of nothing
pub no_room_taken : {T : Type 0} (sent : List T) (n : ℕ) → sent ≡ [] → 1 ≤ n → Held n (IsRest sent) → ⊥
unfolding IsRest
no_room_taken sent n start positive h = let e = nil_of_nil h.2.0 h.0 (sym start ∙ h.2.1) in let l = ap length e.1 in let k = h.1 in omega arith
