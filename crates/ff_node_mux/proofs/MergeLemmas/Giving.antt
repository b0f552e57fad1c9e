-- What each call of the machine that interleaves does to how it is seen.
use Rattle.std.proofs.Common.{◌≡◌, ℕ, zero, suc, ◌<◌, inl, inr, Bool, true, false, Option, None, Some, List, [], ◌∷◌, ◌++◌, length, refl, ap, sym, ◌∙◌, subst, arith}
use Rattle.std.proofs.Common.{get_or, set}
use Rattle.std.specs.Prelude.{◌||◌}
use Rattle.std.proofs.lemmas.List.{length-set, append-nil}
use Rattle.std.proofs.lemmas.Bool.{cases_eq, eq-eqb, ne_eqb, or_right, and_parts, and_cases}
use Rattle.ff_time.specs.Fraction.{Fraction}
use Rattle.ff_frame.specs.declared.packet.Pkt.{Pkt}
use Rattle.ff_stream.specs.declared.item.Item.{Item}
use Rattle.ff_stream.specs.Stream.{Stream, is_whole}
use Rattle.ff_stream.specs.Ports.{nothing}
use Rattle.ff_filter.specs.declared.after.After.{After}
use Rattle.ff_filter.specs.declared.after.After.TheVariants.{More, Whole, Broke}
use Rattle.ff_filter.specs.Joins.{Flow, Ports, silence, before, before_if, before_at}
use Rattle.ff_filter.specs.Made.{behind, is_over, mark_after}
use Rattle.ff_filter.specs.Views.{closes}
use Rattle.ff_node_mux.specs.declared.merge.queue.PacketQueue.{PacketQueue}
use Rattle.ff_node_mux.specs.merge.Merges.{Placed, is_some, packets_in, merge_to, decided, interleaved}
use Rattle.ff_node_mux.specs.merge.Queues.{Waiting, waiting_of, waiting_at, came, all_came, base_at, bases_of, merging, IsNew, Same, Fed, Gave, Waits}
use Rattle.ff_node_mux.specs.laws.merge.Fronts.{head_of, first_to, base_of, waits_of, next_of, AreNew, known_to}
use Rattle.ff_node_mux.specs.laws.merge.Fronting.{tail_of, tail_if, without, nexts, Leads, IsLed, led, first-same, interleaved-step, interleaved-unknown}
use Rattle.ff_node_mux.proofs.MergeLemmas.Placing.{waiting_there, set_here, set_others, set_bases, long_bases}

pub same_rest : (m n : ℕ) (bs cs : List Fraction) (rs ss : ℕ → Stream Pkt) → m ≡ n → bs ≡ cs → ((p : ℕ) → rs p ≡ ss p)
    → interleaved m (base_at bs) rs ≡ interleaved n (base_at cs) ss
same_rest m n bs cs rs ss l b h =
    let same : rs ≡ ss = λ i p. h p i in
    ap (λ k. interleaved k (base_at bs) rs) l ∙ (ap (λ (ds : List Fraction). interleaved n (base_at ds) rs) b
    ∙ ap (λ (ts : ℕ → Stream Pkt). interleaved n (base_at cs) ts) same)

pub new_is : (tbs : List Fraction) (qs : List PacketQueue) → AreNew tbs qs → IsNew tbs (merging qs)
new_is tbs qs h = record {
  bases = h.0;
  rest = λ ext. same_rest (length qs) (length tbs) (bases_of qs) tbs (all_came qs ext) (λ p. packets_in (ext p))
      (sym (long_bases qs) ∙ ap (λ (bs : List Fraction). length bs) h.0) h.0
      (λ p. ap (λ (w : Waiting). came w (ext p)) (h.1 p));
  shut = λ p. ap (λ (w : Waiting). is_over w.after) (h.1 p);
}

-- a queue was replaced by one that counts as the same
pub same_as : (qs : List PacketQueue) (p : ℕ) (i j : PacketQueue) → p < length qs → j ≡ get_or qs p j → i.tb ≡ j.tb → waiting_of i ≡ waiting_of j
    → Same (merging qs) (merging (set qs p i))
same_as qs p i j lt e t w = record {
  bases = set_bases qs p i j lt e t;
  rest = λ ext. same_rest (length (set qs p i)) (length qs) (bases_of (set qs p i)) (bases_of qs) (all_came (set qs p i) ext) (all_came qs ext) (length-set qs p i)
      (set_bases qs p i j lt e t)
      (λ q. ap (λ (x : Waiting). came x (ext q)) (at q));
  shut = λ q. ap (λ (x : Waiting). is_over x.after) (at q);
}
  where
    at : (q : ℕ) → waiting_at (set qs p i) q ≡ waiting_at qs q
    at q = elim (cases_eq q p) as (λ _. waiting_at (set qs p i) q ≡ waiting_at qs q) [
      | inl same ↦ subst (λ r. waiting_at (set qs p i) r ≡ waiting_at qs r) (sym same) (set_here qs p i lt ∙ (w ∙ sym (waiting_there qs p j lt e)))
      | inr n ↦ set_others qs p q i n
    ]

-- an item came to one
pub fed_in : (qs : List PacketQueue) (p : ℕ) (i j : PacketQueue) (x : Item) → p < length qs → j ≡ get_or qs p j → is_over (waiting_at qs p).after ≡ false → i.tb ≡ j.tb
    → is_over i.after ≡ closes x
    → ((t : Flow) → came (waiting_of i) t ≡ came (waiting_of j) (before x t)) → Fed (merging qs) (merging (set qs p i)) p x
fed_in qs p i j x lt e o t s h = record {
  bases = set_bases qs p i j lt e t;
  rest = λ ext. same_rest (length (set qs p i)) (length qs) (bases_of (set qs p i)) (bases_of qs) (all_came (set qs p i) ext) (all_came qs (before_at p x ext))
      (length-set qs p i) (set_bases qs p i j lt e t) (at ext);
  shut_here = ap (λ (w : Waiting). is_over w.after) (set_here qs p i lt) ∙ (s ∙ sym (ap (λ (b : Bool). b || closes x) o));
  shut_others = λ q n. ap (λ (w : Waiting). is_over w.after) (set_others qs p q i n);
}
  where
    at : (ext : Ports) (q : ℕ) → came (waiting_at (set qs p i) q) (ext q) ≡ came (waiting_at qs q) (before_at p x ext q)
    at ext q = elim (cases_eq q p) as (λ _. came (waiting_at (set qs p i) q) (ext q) ≡ came (waiting_at qs q) (before_at p x ext q)) [
      | inl same ↦ subst (λ r. came (waiting_at (set qs p i) r) (ext r) ≡ came (waiting_at qs r) (before_at p x ext r)) (sym same)
          (ap (λ (w : Waiting). came w (ext p)) (set_here qs p i lt) ∙ (h (ext p) ∙ (ap (λ (w : Waiting). came w (before x (ext p))) (sym (waiting_there qs p j lt e))
          ∙ ap (λ (b : Bool). came (waiting_at qs p) (before_if b x (ext p))) (sym (eq-eqb p p refl)))))
      | inr n ↦ ap (λ (w : Waiting). came w (ext q)) (set_others qs p q i n) ∙ ap (λ (b : Bool). came (waiting_at qs q) (before_if b x (ext q))) (sym (ne_eqb q p n))
    ]

pub known_at : (qs : List PacketQueue) (n p : ℕ) → known_to qs n ≡ true → p < n → (is_some (waits_of qs p) || is_whole (mark_after (waiting_at qs p).after)) ≡ true
known_at qs zero p k lt = absurd (omega (arith, lt))
known_at qs (suc n) p k lt = let b = and_parts (known_to qs n) (is_some (waits_of qs n) || is_whole (mark_after (waiting_at qs n).after)) k in
    elim (cases_eq p n) as (λ _. (is_some (waits_of qs p) || is_whole (mark_after (waiting_at qs p).after)) ≡ true) [
      | inl same ↦ subst (λ r. (is_some (waits_of qs r) || is_whole (mark_after (waiting_at qs r).after)) ≡ true) (sym same) b.1
      | inr ne ↦ known_at qs n p b.0 (omega (arith, lt, ne))
    ]

pub unknown_at : (qs : List PacketQueue) (n : ℕ) → known_to qs n ≡ false → (p : ℕ) × (p < n)
    × ((is_some (waits_of qs p) || is_whole (mark_after (waiting_at qs p).after)) ≡ false)
unknown_at qs zero k = cc
unknown_at qs (suc n) k = elim (and_cases (known_to qs n) (is_some (waits_of qs n) || is_whole (mark_after (waiting_at qs n).after)) k) as
    (λ _. (p : ℕ) × (p < suc n) × ((is_some (waits_of qs p) || is_whole (mark_after (waiting_at qs p).after)) ≡ false)) [
      | inl below ↦ (let r = unknown_at qs n below in (r.0, omega (arith, r.1), r.2))
      | inr here ↦ (n, omega arith, here)
    ]

-- what comes next is the same whatever comes behind, where it is known
same_next : (w : Waiting) (t : Flow) → (is_some w.packets || is_whole (mark_after w.after)) ≡ true → head_of (came w t).items ≡ head_of w.packets
same_next w t k = at w.packets w.after k
  where
    at : (ps : List Pkt) (a : After) → (is_some ps || is_whole (mark_after a)) ≡ true → head_of (ps ++ (packets_in (behind a t)).items) ≡ head_of ps
    at (p ∷ ps) a k = refl
    at [] More k = cc
    at [] Whole k = refl
    at [] Broke k = cc

silent_next : (w : Waiting) → (came w nothing).items ≡ w.packets
silent_next w = at w.after
  where
    at : (a : After) → w.packets ++ (packets_in (behind a nothing)).items ≡ w.packets
    at More = append-nil w.packets
    at Whole = append-nil w.packets
    at Broke = append-nil w.packets

-- a stream that is whole, or of which a packet waits, stays so
still_known : (w : Waiting) (t : Flow) → (is_some w.packets || is_whole (mark_after w.after)) ≡ true → (is_whole (came w t).mark || is_some (came w t).items) ≡ true
still_known w t k = at w.packets w.after k
  where
    at : (ps : List Pkt) (a : After) → (is_some ps || is_whole (mark_after a)) ≡ true
        → (is_whole (packets_in (behind a t)).mark || is_some (ps ++ (packets_in (behind a t)).items)) ≡ true
    at (p ∷ ps) a k = or_right (is_whole (packets_in (behind a t)).mark) true refl
    at [] More k = cc
    at [] Whole k = refl
    at [] Broke k = cc

lost_silent : (w : Waiting) → (is_some w.packets || is_whole (mark_after w.after)) ≡ false → (is_whole (came w nothing).mark ≡ false)
    × (is_some (came w nothing).items ≡ false)
lost_silent w k = at w.packets w.after k
  where
    at : (ps : List Pkt) (a : After) → (is_some ps || is_whole (mark_after a)) ≡ false → (is_whole (packets_in (behind a nothing)).mark ≡ false)
        × (is_some (ps ++ (packets_in (behind a nothing)).items) ≡ false)
    at (p ∷ ps) a k = cc
    at [] More k = (refl, refl)
    at [] Whole k = cc
    at [] Broke k = (refl, refl)

-- a packet was given
pub gave : (qs : List PacketQueue) (i : ℕ) (q j : PacketQueue) (x : Pkt) (others : List Pkt) → i < length qs → j ≡ get_or qs i j → q.tb ≡ j.tb → q.after ≡ j.after
    → j.queue.items ≡ x ∷ others → q.queue.items ≡ others
    → known_to qs (length qs) ≡ true → first_to (base_of qs) (length qs) (next_of qs) ≡ Some (i, x) → Gave (merging qs) (merging (set qs i q)) (i, x)
gave qs i q j x others lt e t a items left known first = record {
  bases = set_bases qs i q j lt e t;
  there = let l = long_bases qs in omega (arith, l, lt);
  rest = λ ext. given ext ∙ ap (λ (xs : List Placed). (i, x) ∷ xs)
      (sym (same_rest (length (set qs i q)) n (bases_of (set qs i q)) (bases_of qs) (all_came (set qs i q) ext) (new ext) (length-set qs i q)
      (set_bases qs i q j lt e t) (is_new ext)));
  shut = λ p. shut p;
}
  where
    n : ℕ
    n = length qs

    was : waiting_at qs i ≡ waiting_of j
    was = waiting_there qs i j lt e

    new : Ports → ℕ → Stream Pkt
    new ext = without i (all_came qs ext)

    shut : (p : ℕ) → is_over (waiting_at (set qs i q) p).after ≡ is_over (waiting_at qs p).after
    shut p = elim (cases_eq p i) as (λ _. is_over (waiting_at (set qs i q) p).after ≡ is_over (waiting_at qs p).after) [
      | inl same ↦ subst (λ r. is_over (waiting_at (set qs i q) r).after ≡ is_over (waiting_at qs r).after) (sym same)
          (ap (λ (w : Waiting). is_over w.after) (set_here qs i q lt) ∙ (ap is_over a ∙ ap (λ (w : Waiting). is_over w.after) (sym was)))
      | inr ne ↦ ap (λ (w : Waiting). is_over w.after) (set_others qs i p q ne)
    ]

    is_new : (ext : Ports) (p : ℕ) → all_came (set qs i q) ext p ≡ new ext p
    is_new ext p = elim (cases_eq p i) as (λ _. all_came (set qs i q) ext p ≡ new ext p) [
      | inl same ↦ subst (λ r. all_came (set qs i q) ext r ≡ new ext r) (sym same)
          (ap (λ (w : Waiting). came w (ext i)) (set_here qs i q lt)
          ∙ (ap (λ (ps : List Pkt). came (record { packets = ps; after = q.after }) (ext i)) left
          ∙ (ap (λ (b : After). came (record { packets = others; after = b }) (ext i)) a
          ∙ (ap (λ (ps : List Pkt). let w : Waiting = record { packets = ps; after = j.after } in let r : Stream Pkt = record
          { items = tail_of (came w (ext i)).items; mark = (came w (ext i)).mark } in r) (sym items)
          ∙ (ap (λ (w : Waiting). let r : Stream Pkt = record { items = tail_of (came w (ext i)).items; mark = (came w (ext i)).mark } in r) (sym was)
          ∙ ap (λ (b : Bool). let r : Stream Pkt = record { items = tail_if b (all_came qs ext i).items; mark = (all_came qs ext i).mark } in r)
          (sym (eq-eqb i i refl)))))))
      | inr ne ↦ ap (λ (w : Waiting). came w (ext p)) (set_others qs i p q ne)
          ∙ ap (λ (b : Bool). let r : Stream Pkt = record { items = tail_if b (all_came qs ext p).items; mark = (all_came qs ext p).mark } in r) (sym (ne_eqb p i ne))
    ]

    leads : (ext : Ports) → Leads (base_of qs) n (all_came qs ext) (i, x)
    leads ext = subst (λ (o : Option Placed). IsLed (base_of qs) n (all_came qs ext) o)
        (first-same (base_of qs) n (nexts (all_came qs ext)) (next_of qs) (λ p l. same_next (waiting_at qs p) (ext p) (known_at qs n p known l)) ∙ first)
        (led (base_of qs) n (all_came qs ext))

    given : (ext : Ports) → interleaved n (base_of qs) (all_came qs ext) ≡ (i, x) ∷ interleaved n (base_of qs) (new ext)
    given ext = interleaved-step (base_of qs) n (all_came qs ext) (i, x) (λ p l. still_known (waiting_at qs p) (ext p) (known_at qs n p known l)) (leads ext)

pub same_self : (qs : List PacketQueue) → Same (merging qs) (merging qs)
same_self qs = record { bases = refl; rest = λ ext. refl; shut = λ p. refl }

-- a stream that isn't whole has no packet
pub waits_unknown : (qs : List PacketQueue) → known_to qs (length qs) ≡ false → Waits (merging qs) (merging qs)
waits_unknown qs k =
    let lost = unknown_at qs (length qs) k in
    let none = lost_silent (waiting_at qs lost.0) lost.2 in
    record { same = same_self qs; nothing_left = interleaved-unknown (base_of qs) (length qs) (all_came qs silence) lost.0 lost.1 none.0 none.1 }

-- no packet waits
pub waits_empty : (qs : List PacketQueue) → first_to (base_of qs) (length qs) (next_of qs) ≡ None → Waits (merging qs) (merging qs)
waits_empty qs first =
    let n = length qs in
    let ss = all_came qs silence in
    let none : merge_to (base_of qs) n ss ≡ [] = subst (λ (o : Option Placed). IsLed (base_of qs) n ss o)
    (first-same (base_of qs) n (nexts ss) (next_of qs) (λ p l. ap (λ (ps : List Pkt). head_of ps) (silent_next (waiting_at qs p))) ∙ first) (led (base_of qs) n ss) in
    record { same = same_self qs; nothing_left = ap (λ (xs : List Placed). decided n ss xs) none }
