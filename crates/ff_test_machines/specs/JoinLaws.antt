-- The laws of the machine that joins two inputs.
use Rattle.std.specs.Prelude.{◌≡◌, ◌≢◌, ℕ, zero, suc, ◌<◌, ◌≤◌, ◌⊎◌, Bool, true, false, cond, nat_le, List, [], ◌∷◌, length, take, Option, refl}
use Rattle.std.proofs.Common.{sym, subst, ap, inl, inr, ◌∙◌, arith}
use Rattle.std.proofs.lemmas.Bool.Decides.{nat_tests}
use mathlib.Core.List.{IsPrefix}
use Rattle.ff_stream.specs.declared.item.Item.{Item}
use Rattle.ff_stream.specs.declared.item.Lane.{Lane}
use Rattle.ff_stream.specs.Stream.{Mark, still_open, broken, LiesBelow, opened, opened_mark}
use Rattle.ff_stream.specs.laws.Order.{below_self, below_items, same_stream, stream_at-opened}
use Rattle.ff_stream.specs.Ports.{nothing, stream_at, AllBelow, AllUnbroken, IsClosed, IsUnbroken, IsMonotone, IsCalm}
use Rattle.ff_stream.specs.Lanes.{IsValid}
use Rattle.ff_stream.specs.laws.LaneLaws.{valid_front}
use Rattle.ff_net.specs.declared.fault.Fault.{Fault}
use Rattle.ff_net.specs.Ways.{Flow, AreValid}
use Rattle.ff_net.specs.Pasts.{Past, IsIn, due}
use Rattle.ff_net.specs.laws.Laws.{CauseStays, OutputsClose, MaySpend, Settles}
use Rattle.ff_net.proofs.Flows.{take_front, take_whole, due_meant}
use Rattle.ff_net.proofs.Matters.{may_spend}
use Rattle.ff_test_machines.specs.RelayLaws.{relays_no_fault, below_or, take_append, length_front}
use Rattle.ff_test_machines.specs.ListLaws.{take_less}
use Rattle.ff_test_machines.specs.Joins.{joined, join, input_of, is_spent_join, given_so_far, Joins}

-- where each item of the first has a partner
pub joined_first : (a b : Flow) → length a.items ≤ length b.items → joined a b ≡ a
joined_first a b le =
    let test : nat_le (length a.items) (length b.items) ≡ true = grind (arith, nat_tests) in
    same_stream (joined a b) a (take_whole (length b.items) a.items le) (ap (λ (t : Bool). cond t a.mark b.mark) test)

-- where one has none
pub joined_second : (a b : Flow) → length b.items < length a.items → (joined a b).mark ≡ b.mark
joined_second a b lt =
    let test : nat_le (length a.items) (length b.items) ≡ false = grind (arith, nat_tests) in
    ap (λ (t : Bool). cond t a.mark b.mark) test

pub longer : (r s : Flow) → LiesBelow r s → length r.items ≤ length s.items
longer r s h = let p = below_items r s h in length_front r.items s.items p.0 p.1

pub take_both : (n : ℕ) (xs ys : List Item) → IsPrefix xs ys → n ≤ length xs → take n xs ≡ take n ys
take_both n xs ys p le = sym (take_append n xs p.0 le) ∙ ap (λ (zs : List Item). take n zs) p.1

take_of : (n : ℕ) (xs ys : List Item) → IsPrefix xs ys → length xs ≤ n → IsPrefix xs (take n ys)
take_of n xs ys p le =
    let less : IsPrefix (take (length xs) ys) (take n ys) = take_less (length xs) n ys le in
    let same : take (length xs) ys ≡ xs = sym (take_both (length xs) xs ys p (omega arith)) ∙ take_whole (length xs) xs (omega arith) in
    subst (λ (zs : List Item). IsPrefix zs (take n ys)) same less

pub joined_below : (a a' b b' : Flow) → LiesBelow a a' → LiesBelow b b' → LiesBelow (joined a b) (joined a' b')
joined_below a a' b b' ha hb = elim (below_or (length b.items) (length a.items)) [
  | inl lt ↦ unpaired lt hb
  | inr le ↦ subst (λ (t : Flow). LiesBelow t (joined a' b')) (sym (joined_first a b le)) (paired le ha)
]
  where
    paired : length a.items ≤ length b.items → LiesBelow a a' → LiesBelow a (joined a' b')
    paired le (inl e) =
        let more = longer b b' hb in
        let le' : length a'.items ≤ length b'.items = omega (arith, le, more, ap (λ (s : Flow). length s.items) e) in
        inl (e ∙ sym (joined_first a' b' le'))
    paired le (inr p) =
        let more = longer b b' hb in
        inr (p.0, take_of (length b'.items) a.items a'.items p.1 (omega (arith, le, more)))

    unpaired : length b.items < length a.items → LiesBelow b b' → LiesBelow (joined a b) (joined a' b')
    unpaired lt (inl e) =
        let more = longer a a' ha in
        let count : length b.items ≡ length b'.items = ap (λ (s : Flow). length s.items) e in
        let lt' : length b'.items < length a'.items = omega (arith, lt, more, count) in
        inl (same_stream (joined a b) (joined a' b') (take_both (length b.items) a.items a'.items (below_items a a' ha) (omega arith) ∙ ap (λ (n : ℕ). take n a'.items) count) (joined_second a b lt ∙ (ap (λ (s : Flow). s.mark) e ∙ sym (joined_second a' b' lt'))))
    unpaired lt (inr p) =
        let more = longer b b' hb in
        let front : take (length b.items) a.items ≡ take (length b.items) a'.items = take_both (length b.items) a.items a'.items (below_items a a' ha) (omega arith) in
        inr (joined_second a b lt ∙ p.0, subst (λ (xs : List Item). IsPrefix xs (take (length b'.items) a'.items)) (sym front) (take_less (length b.items) (length b'.items) a'.items more))

joined_valid : (lane : Lane) (a b : Flow) → IsValid lane a → IsValid lane (joined a b)
joined_valid lane a b v = valid_front lane (joined a b) a (take_front (length b.items) a.items) v

calm_mark : (xs : List Item) (t : Bool) (m n : Mark) → LiesBelow (record { items = xs; mark = opened_mark (cond t m n) }) (record { items = xs; mark = cond t (opened_mark m) (opened_mark n) })
calm_mark xs true m n = inl refl
calm_mark xs false m n = inl refl

joined_calm : (a b : Flow) → LiesBelow (opened (joined a b)) (joined (opened a) (opened b))
joined_calm a b = calm_mark (take (length b.items) a.items) (nat_le (length a.items) (length b.items)) a.mark b.mark

joined_unbroken : (a b : Flow) → IsUnbroken a → IsUnbroken b → IsUnbroken (joined a b)
joined_unbroken a b u v = pick (nat_le (length a.items) (length b.items))
  where
    pick : (t : Bool) → cond t a.mark b.mark ≢ broken
    pick true = u
    pick false = v

joined_closed : (a b : Flow) → IsClosed a → IsClosed b → IsClosed (joined a b)
joined_closed a b c d = pick (nat_le (length a.items) (length b.items))
  where
    pick : (t : Bool) → cond t a.mark b.mark ≢ still_open
    pick true = c
    pick false = d

module _ (lane : Lane) (first second : Flow) (next : ℕ) (ended stopped : Bool) (past : Past) (s : Joins lane first second next ended stopped past) where
  pub joins_valid : AreValid (lane ∷ lane ∷ []) past.got
  joins_valid zero = subst (λ (t : Flow). IsValid lane t) (sym s.first_is) s.first_valid
  joins_valid (suc zero) = subst (λ (t : Flow). IsValid lane t) (sym s.second_is) s.second_valid
  joins_valid (suc (suc p)) = s.others (suc (suc p)) (omega arith)

  keeps_at : (ss : List Flow) → AreValid (lane ∷ lane ∷ []) ss → AreValid (lane ∷ []) (join ss)
  keeps_at ss v zero = joined_valid lane (stream_at ss 0) (stream_at ss 1) (v 0)
  keeps_at ss v (suc p) = refl

  pub joins_keeps : (ss : List Flow) → AreValid (lane ∷ lane ∷ []) ss → AreValid (lane ∷ []) (past.task.means ss)
  joins_keeps ss v = subst (λ (f : List Flow → List Flow). AreValid (lane ∷ []) (f ss)) (sym s.means) (keeps_at ss v)

  monotone_at : IsMonotone (AreValid (lane ∷ lane ∷ [])) join
  monotone_at rs ss v w h zero = joined_below (stream_at rs 0) (stream_at ss 0) (stream_at rs 1) (stream_at ss 1) (h 0) (h 1)
  monotone_at rs ss v w h (suc p) = below_self nothing

  pub joins_monotone : IsMonotone (AreValid (lane ∷ lane ∷ [])) past.task.means
  joins_monotone = subst (λ (f : List Flow → List Flow). IsMonotone (AreValid (lane ∷ lane ∷ [])) f) (sym s.means) monotone_at

  pub joins_cause_stays : CauseStays (lane ∷ lane ∷ []) past.task.cause
  joins_cause_stays = subst (λ (f : List Flow → Option Fault). CauseStays (lane ∷ lane ∷ []) f) (sym s.cause) (λ rs ss c v w h e. absurd (relays_no_fault c e))

  calm_at : IsCalm (AreValid (lane ∷ lane ∷ [])) join
  calm_at rs v zero = rw (stream_at-opened rs 0, stream_at-opened rs 1) (joined_calm (stream_at rs 0) (stream_at rs 1))
  calm_at rs v (suc p) = below_self nothing

  pub joins_calm : IsCalm (AreValid (lane ∷ lane ∷ [])) past.task.means
  joins_calm = subst (λ (f : List Flow → List Flow). IsCalm (AreValid (lane ∷ lane ∷ [])) f) (sym s.means) calm_at

  pub joins_due : due past ≡ joined first second ∷ []
  joins_due = due_meant past s.plain ∙ (ap (λ (f : List Flow → List Flow). f past.got) s.means ∙ (ap (λ (t : Flow). joined t (stream_at past.got 1) ∷ []) s.first_is ∙ ap (λ (t : Flow). joined first t ∷ []) s.second_is))

  given_joined : LiesBelow (given_so_far first second next ended) (joined first second)
  given_joined = pick ended
    where
      pick : (b : Bool) → LiesBelow (given_so_far first second next b) (joined first second)
      pick true = below_self (joined first second)
      pick false = inr (refl, take_less next (length second.items) first.items s.paired)

  below_at : AllBelow past.gave (joined first second ∷ [])
  below_at zero = subst (λ (t : Flow). LiesBelow t (joined first second)) (sym s.gave) given_joined
  below_at (suc q) = subst (λ (t : Flow). LiesBelow t nothing) (sym (s.beyond (suc q) (omega arith))) (below_self nothing)

  pub joins_given : AllBelow past.gave (due past)
  joins_given = subst (λ (ss : List Flow). AllBelow past.gave ss) (sym joins_due) below_at

  pub joins_unbroken : AllUnbroken past.got → AllUnbroken past.gave
  joins_unbroken u zero =
      let a : IsUnbroken first = subst (λ (t : Flow). IsUnbroken t) s.first_is (u 0) in
      let b : IsUnbroken second = subst (λ (t : Flow). IsUnbroken t) s.second_is (u 1) in
      subst (λ (t : Flow). IsUnbroken t) (sym s.gave) (pick ended (joined_unbroken first second a b))
    where
      pick : (b : Bool) → IsUnbroken (joined first second) → IsUnbroken (given_so_far first second next b)
      pick true h = h
      pick false h = λ e. cc
  joins_unbroken u (suc q) = subst (λ (t : Flow). IsUnbroken t) (sym (s.beyond (suc q) (omega arith))) (λ b. cc)

  means_at : (past.task.means past.got) ≡ joined first second ∷ []
  means_at = sym (due_meant past s.plain) ∙ joins_due

  closes_from : IsClosed (joined first second) → OutputsClose 1 past
  closes_from c zero lt goes = subst (λ (ss : List Flow). IsClosed (stream_at ss 0)) (sym means_at) c
  closes_from c (suc q) lt goes = absurd (omega arith)

  stopped_closes : stopped ≡ true → OutputsClose 1 past
  stopped_closes e zero lt goes = absurd (goes (s.stops.0 e))
  stopped_closes e (suc q) lt goes = absurd (omega arith)

  pub joins_spent_only : (p : ℕ) → is_spent_join first second stopped p → MaySpend (lane ∷ lane ∷ []) 1 past p
  joins_spent_only p sp = may_spend (lane ∷ lane ∷ []) past 1 p joins_valid joins_monotone (pick p (sp.0) (sp.1))
    where
      pick : (k : ℕ) → k < 2 → (stopped ≡ true) ⊎ (IsClosed (joined first second) ⊎ IsClosed (input_of first second k)) → IsClosed (stream_at past.got k) ⊎ ((0 < 1) × OutputsClose 1 past)
      pick k lt (inl e) = inr (omega arith, stopped_closes e)
      pick k lt (inr (inl c)) = inr (omega arith, closes_from c)
      pick zero lt (inr (inr c)) = inl (subst (λ (t : Flow). IsClosed t) (sym s.first_is) c)
      pick (suc zero) lt (inr (inr c)) = inl (subst (λ (t : Flow). IsClosed t) (sym s.second_is) c)
      pick (suc (suc k)) lt (inr (inr c)) = absurd (omega arith)

  pub joins_closed_spent : (p : ℕ) → p < 2 → IsClosed (stream_at past.got p) → is_spent_join first second stopped p
  joins_closed_spent zero lt c = (lt, inr (inr (subst (λ (t : Flow). IsClosed t) s.first_is c)))
  joins_closed_spent (suc zero) lt c = (lt, inr (inr (subst (λ (t : Flow). IsClosed t) s.second_is c)))
  joins_closed_spent (suc (suc p)) lt c = absurd (omega arith)

  pub joins_done_spent : (p : ℕ) → p < 2 → OutputsClose 1 past → is_spent_join first second stopped p
  joins_done_spent p lt c = (lt, pick stopped refl)
    where
      pick : (b : Bool) → stopped ≡ b → (stopped ≡ true) ⊎ (IsClosed (joined first second) ⊎ IsClosed (input_of first second p))
      pick true e = inl e
      pick false e =
          let on : IsIn 0 past.stopped → ⊥ = λ i. (let t : stopped ≡ true = s.stops.1 i in cc (t, e)) in
          let shut : IsClosed (stream_at (past.task.means past.got) 0) = c 0 (omega arith) on in
          inr (inl (subst (λ (ss : List Flow). IsClosed (stream_at ss 0)) means_at shut))

  settles_at : Settles (lane ∷ lane ∷ []) 1 join
  settles_at ss v c zero lt = joined_closed (stream_at ss 0) (stream_at ss 1) (c 0 (omega arith)) (c 1 (omega arith))
  settles_at ss v c (suc q) lt = absurd (omega arith)

  pub joins_settles : Settles (lane ∷ lane ∷ []) 1 past.task.means
  joins_settles = subst (λ (f : List Flow → List Flow). Settles (lane ∷ lane ∷ []) 1 f) (sym s.means) settles_at
