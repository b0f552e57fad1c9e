-- The laws of a machine that gives closed streams at several ports.
use Rattle.std.specs.Prelude.{◌≡◌, ◌≢◌, ℕ, zero, suc, ◌+◌, ◌<◌, ◌≤◌, ◌⊎◌, ◌==◌, Bool, true, false, cond, List, [], ◌∷◌, ◌++◌, map, length, take, nat_le, refl, Option, Some, None, IsSome}
use Rattle.std.proofs.Common.{sym, subst, ap, inl, inr, ◌∙◌, arith, append-nil}
use Rattle.std.proofs.lemmas.List.{take_all}
use Rattle.std.proofs.lemmas.Bool.Decides.{nat_tests}
use mathlib.Core.List.{IsPrefix}
use Rattle.ff_frame.specs.declared.packet.Pkt.{Pkt}
use Rattle.ff_stream.specs.declared.item.Item.{Item}
use Rattle.ff_stream.specs.declared.item.Item.TheVariants.{Packet}
use Rattle.ff_stream.specs.Stream.{Mark, still_open, broken, LiesBelow, opened}
use Rattle.ff_stream.specs.Ports.{nothing, stream_at, AllBelow, AllUnbroken, IsMonotone, IsCalm}
use Rattle.ff_stream.specs.laws.Order.{below_self, below_trans, opened_below, same_stream, unbroken_below, stream_at-opened}
use Rattle.ff_net.specs.declared.fault.Fault.{Fault}
use Rattle.ff_net.specs.laws.Laws.{IsPending, AllAsked}
use Rattle.ff_net.specs.Ways.{Flow, AreValid}
use Rattle.ff_net.specs.Pasts.{Past, Units, due, due_by, count_of}
use Rattle.ff_net.proofs.Flows.{AreUnits}
use Rattle.ff_node_demux.specs.Sources.{count}
use Rattle.ff_node_demux.specs.laws.SourceLaws.{tried_of}
use Rattle.ff_node_avi.specs.Ported.{items_at, flows, all_at, part_at, all_of, units_in, waits_at, IsSettled, Gives}

-- ---- streams of ports

-- what holds of two streams at each port holds of the lists
pub flows_both : (R : Flow → Flow → Type 0) (f g : ℕ → Flow) → ((p : ℕ) → R (f p) (g p)) → R nothing nothing → (n p : ℕ)
    → R (stream_at (flows f n) p) (stream_at (flows g n) p)
flows_both R f g h z zero p = z
flows_both R f g h z (suc n) zero = h zero
flows_both R f g h z (suc n) (suc p) = flows_both R (λ q. f (suc q)) (λ q. g (suc q)) (λ q. h (suc q)) z n p

pub flows_at : (f : ℕ → Flow) (n p : ℕ) → p < n → stream_at (flows f n) p ≡ f p
flows_at f zero p lt = absurd (omega arith)
flows_at f (suc n) zero lt = refl
flows_at f (suc n) (suc p) lt = flows_at (λ q. f (suc q)) n p (omega arith)

pub items_append : (p : ℕ) (xs ys : List (ℕ × Item)) → items_at p (xs ++ ys) ≡ items_at p xs ++ items_at p ys
items_append p [] ys = refl
items_append p (u ∷ us) ys = pick (u.0 == p) (items_append p us ys)
  where
    pick : (b : Bool) → items_at p (us ++ ys) ≡ items_at p us ++ items_at p ys
        → cond b (u.1 ∷ items_at p (us ++ ys)) (items_at p (us ++ ys)) ≡ cond b (u.1 ∷ items_at p us) (items_at p us) ++ items_at p ys
    pick true e = ap (λ (zs : List Item). u.1 ∷ zs) e
    pick false e = e

take_less : (n m : ℕ) (xs : List (ℕ × Item)) → n ≤ m → IsPrefix (take n xs) (take m xs)
take_less zero m xs le = (take m xs, refl)
take_less (suc n) zero xs le = absurd (omega arith)
take_less (suc n) (suc m) [] le = ([], refl)
take_less (suc n) (suc m) (x ∷ xs) le = let r = take_less n m xs (omega arith) in (r.0, ap (λ (ys : List (ℕ × Item)). x ∷ ys) r.1)

pub items_front : (p : ℕ) (xs ys : List (ℕ × Item)) → IsPrefix xs ys → IsPrefix (items_at p xs) (items_at p ys)
items_front p xs ys f = (items_at p f.0, sym (items_append p xs f.0) ∙ ap (items_at p) f.1)

module _ (us : List (ℕ × Item)) (m : Mark) where
  open_part : (n p : ℕ) → n ≤ length us → (part_at us m n p).mark ≡ still_open
  open_part n p le = let t : nat_le n (length us) ≡ true = grind (arith, nat_tests) in ap (λ (b : Bool). cond b still_open m) t

  -- a part that closes is all
  pub closed_part : (n p : ℕ) → length us < n → part_at us m n p ≡ all_at us m p
  closed_part n p lt =
      let f : nat_le n (length us) ≡ false = grind (arith, nat_tests) in
      same_stream (part_at us m n p) (all_at us m p) (ap (items_at p) (take_all n us (omega (arith, lt)))) (ap (λ (b : Bool). cond b still_open m) f)

  within_or_past : (n k : ℕ) → (n ≤ k) ⊎ (k < n)
  within_or_past zero k = inl (omega arith)
  within_or_past (suc n) zero = inr (omega arith)
  within_or_past (suc n) (suc k) = elim (within_or_past n k) [ inl h ↦ inl (omega (arith, h)) | inr h ↦ inr (omega (arith, h)) ]

  -- more units are further on
  pub part_below : (n k p : ℕ) → n ≤ k → LiesBelow (part_at us m n p) (part_at us m k p)
  part_below n k p le = elim (within_or_past n (length us)) [
    | inl h ↦ inr (open_part n p h, items_front p (take n us) (take k us) (take_less n k us le))
    | inr h ↦ inl (closed_part n p h ∙ sym (closed_part k p (omega (arith, h, le))))
  ]

  pub part_below_all : (n p : ℕ) → LiesBelow (part_at us m n p) (all_at us m p)
  part_below_all n p = subst (λ (s : Flow). LiesBelow (part_at us m n p) s) (closed_part (n + length us + 1) p (omega arith)) (part_below n (n + length us + 1) p (omega arith))

  pub parts_below : (n k ports : ℕ) → n ≤ k → AllBelow (flows (part_at us m n) ports) (flows (part_at us m k) ports)
  parts_below n k ports le = flows_both (λ r s. LiesBelow r s) (part_at us m n) (part_at us m k) (λ p. part_below n k p le) (below_self nothing) ports

-- ---- the laws

calm_flows : (f : ℕ → Flow) (n : ℕ) → AllBelow (map opened (flows f n)) (flows f n)
calm_flows f n p = subst (λ (s : Flow). LiesBelow s (stream_at (flows f n) p)) (sym (stream_at-opened (flows f n) p)) (opened_below (stream_at (flows f n) p))

nothing_fed : (rs : List Flow) → ((p : ℕ) → stream_at rs p ≡ nothing) → AreValid [] rs
nothing_fed rs h p = h p

module _ (us : List (ℕ × Item)) (m : Mark) (ports n : ℕ) (ended ticket : Bool) (waiting : Option (ℕ × Pkt)) (going closed : ℕ → Bool) (fault : Option Fault) (past : Past)
    (l : Gives us m ports n ended ticket waiting going closed fault past) where
  pub ported_valid : AreValid [] past.got
  ported_valid = nothing_fed past.got l.fed_nothing

  pub ported_monotone : (meant : List Flow → Type 0) → IsMonotone meant past.task.means
  ported_monotone meant = subst (λ (f : List Flow → List Flow). IsMonotone meant f) (sym l.means) (λ rs ss v w h p. below_self (stream_at (all_of us m ports rs) p))

  pub ported_calm : (meant : List Flow → Type 0) → IsCalm meant past.task.means
  ported_calm meant = subst (λ (f : List Flow → List Flow). IsCalm meant f) (sym l.means) (λ rs v. calm_flows (all_at us m) ports)

  pub ported_units : AllBelow past.gave (due_by past.task.source (tried_of n ended) (past.task.means past.got))
  ported_units = subst (λ (o : Option Units). AllBelow past.gave (due_by o (tried_of n ended) (past.task.means past.got))) (sym l.source) l.below

  -- what is due at these ports
  pub ported_due : due past ≡ flows (part_at us m (length past.allowed)) ports
  ported_due = ap (λ (o : Option Units). due_by o (length past.allowed) (past.task.means past.got)) l.source

  pub ported_given : AllBelow past.gave (due past)
  ported_given p =
      subst (λ (ss : List Flow). LiesBelow (stream_at past.gave p) (stream_at ss p)) (sym ported_due)
      (below_trans (stream_at past.gave p) (stream_at (flows (part_at us m (n + count ended)) ports) p) (stream_at (flows (part_at us m (length past.allowed)) ports) p) (l.below p)
      (parts_below us m (n + count ended) (length past.allowed) ports (omega (arith, l.tickets)) p))

  pub ported_tried : tried_of n ended ≤ length past.allowed
  ported_tried = omega (arith, l.tickets)

  few_tried : (b : Bool) → tried_of n b ≤ length us + 1
  few_tried true = let r = l.in_range in omega (arith, r)
  few_tried false = let r = l.in_range in omega (arith, r)

  -- it tried at most one more than it has units
  pub ported_few : tried_of n ended ≤ count_of past.task.source + 1
  ported_few = subst (λ (o : Option Units). tried_of n ended ≤ count_of o + 1) (sym l.source) (few_tried ended)

  pub ported_below : AreUnits past
  ported_below units e k =
      let same : units_in us m ports ≡ units = (let both : Some (units_in us m ports) ≡ Some units = sym l.source ∙ e in cc) in
      subst (λ (u : Units). AllBelow (u.upto k) (past.task.means past.got)) same
      (subst (λ (f : List Flow → List Flow). AllBelow ((units_in us m ports).upto k) (f past.got)) (sym l.means)
      (flows_both (λ r s. LiesBelow r s) (part_at us m k) (all_at us m) (λ p. part_below_all us m k p) (below_self nothing) ports))

  mark_unbroken : (b : Bool) → m ≢ broken → cond b still_open m ≢ broken
  mark_unbroken true u e = cc
  mark_unbroken false u e = u e

  parts_unbroken : (ended ≡ true → m ≢ broken) → (b : Bool) → ended ≡ b → (q : ℕ) → (part_at us m (n + count ended) q).mark ≢ broken
  parts_unbroken u true e q b = mark_unbroken (nat_le (n + count ended) (length us)) (u e) b
  parts_unbroken u false e q b =
      let counted : count ended ≡ 0 = ap count e in
      let r = l.in_range in
      let o = open_part us m (n + count ended) q (omega (arith, r, counted)) in
      cc (o, b)

  -- no port is broken where all units before the end went well
  pub ported_unbroken : (ended ≡ true → m ≢ broken) → AllUnbroken past.gave
  ported_unbroken u p = unbroken_below (stream_at past.gave p) (stream_at (flows (part_at us m (n + count ended)) ports) p) (l.below p)
      (flows_both (λ r s. r.mark ≢ broken) (part_at us m (n + count ended)) (part_at us m (n + count ended)) (λ q. parts_unbroken u ended refl q) (λ e. cc) ports p)

  -- a pending port goes on
  pending_goes : (q : ℕ) → IsPending ports past q → going q ≡ true
  pending_goes q p = l.goes q p.there p.goes_on

  not_shut : (p : ℕ) → ended ≡ false → (b : Bool) → closed p ≡ b → closed p ≡ false
  not_shut p f true c = let t = l.shut p c in cc (t, f)
  not_shut p f false c = c

  -- a pending port that had nothing to give leaves no ticket
  used_ticket : (q : ℕ) → IsPending ports past q → IsSettled ended ticket waiting closed q → ticket ≡ true → (b : Bool) → ended ≡ b → ⊥
  used_ticket q p s t false e = let f = s.unticketed e in cc (f, t)
  used_ticket q p s t true e =
      let g = l.gave q (pending_goes q p) in
      let c : cond (closed q) m still_open ≡ m = ap (λ (b : Bool). cond b m still_open) (s.shut e) in
      l.closes (sym c ∙ (sym g.mark ∙ p.unclosed))

  some_waits : (k : ℕ) (x : Pkt) → waits_at (Some (k, x)) k ≡ [] → ⊥
  some_waits k x e =
      let same : (k == k) ≡ true = grind (arith, nat_tests) in
      let there : waits_at (Some (k, x)) k ≡ Packet x ∷ [] = ap (λ (b : Bool). cond b (Packet x ∷ []) []) same in
      cc (there, e)

  -- and nothing waits where each pending port had nothing to give
  used_waiting : fault ≡ None → AllAsked ports past → (o : Option (ℕ × Pkt)) → waiting ≡ o → IsSome o → ⊥
  used_waiting none asked None e s = cc
  used_waiting none asked (Some w) e s =
      let h = l.held w e in
      let there = l.stopped w.0 h.0 in
      let g = l.gave w.0 h.0 in
      let stays_open : (stream_at past.gave w.0).mark ≡ still_open = g.mark ∙ ap (λ (b : Bool). cond b m still_open) (not_shut w.0 h.1 (closed w.0) refl) in
      let idle = l.idle none w.0 h.0 (asked w.0 (record { there = there.0; goes_on = there.1; unclosed = stays_open })) in
      some_waits w.0 w.1 (ap (λ (o : Option (ℕ × Pkt)). waits_at o w.0) (sym e) ∙ idle.none)

  pub ported_used : (q : ℕ) → fault ≡ None → IsPending ports past q → AllAsked ports past → (ticket ≡ true) ⊎ IsSome waiting → ⊥
  ported_used q none p asked (inl t) = used_ticket q p (l.idle none q (pending_goes q p) (asked q p)) t ended refl
  ported_used q none p asked (inr some) = used_waiting none asked waiting refl some

  -- a settled port gave all that is due
  pub ported_settled : (p : ℕ) → going p ≡ true → IsSettled ended ticket waiting closed p → stream_at past.gave p ≡ stream_at (due past) p
  ported_settled p go s =
      let there = l.stopped p go in
      let g = l.gave p go in
      let items : (stream_at past.gave p).items ≡ items_at p (take n us) =
      sym (append-nil (stream_at past.gave p).items) ∙ (ap (λ (zs : List Item). (stream_at past.gave p).items ++ zs) (sym s.none) ∙ g.items) in
      let at : stream_at (due past) p ≡ part_at us m (length past.allowed) p = ap (λ (ss : List Flow). stream_at ss p) ported_due ∙ flows_at (part_at us m (length past.allowed)) ports p there.0 in
      pick ended refl items g.mark ∙ sym at
    where
      pick : (b : Bool) → ended ≡ b → (stream_at past.gave p).items ≡ items_at p (take n us) → (stream_at past.gave p).mark ≡ cond (closed p) m still_open
          → stream_at past.gave p ≡ part_at us m (length past.allowed) p
      pick true e i k =
          let all = l.at_end e in
          let counted : count ended ≡ 1 = ap count e in
          let lt : length us < length past.allowed = omega (arith, l.tickets, all, counted) in
          let taken : take n us ≡ us = take_all n us (omega (arith, all)) in
          same_stream (stream_at past.gave p) (all_at us m p) (i ∙ ap (items_at p) taken) (k ∙ ap (λ (b : Bool). cond b m still_open) (s.shut e))
          ∙ sym (closed_part us m (length past.allowed) p lt)
      pick false e i k =
          let counted : count ended ≡ 0 = ap count e in
          let none : count ticket ≡ 0 = ap count (s.unticketed e) in
          let same : length past.allowed ≡ n = omega (arith, l.tickets, counted, none) in
          let le : length past.allowed ≤ length us = omega (arith, same, l.in_range) in
          same_stream (stream_at past.gave p) (part_at us m (length past.allowed) p) (i ∙ ap (λ (k : ℕ). items_at p (take k us)) (sym same))
          (k ∙ (ap (λ (b : Bool). cond b m still_open) (not_shut p e (closed p) refl) ∙ sym (open_part us m (length past.allowed) p le)))
