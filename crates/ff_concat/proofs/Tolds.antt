-- What is kept of what waits tells whether it ends too late: so it stays as items are kept and taken out.
use Rattle.std.proofs.Common.{◌≡◌, ◌≢◌, ℕ, ◌<◌, min, Bool, true, false, ◌||◌, nat_le, List, [], ◌∷◌, ◌++◌, length, get_or, set}
use Rattle.std.proofs.Common.{refl, inl, inr, ap, sym, ◌∙◌, subst, arith}
use Rattle.std.specs.Prelude.{Option, Some, None, IfSome, IsNone, Result, Ok, Err, OnOk, OnErr}
use Rattle.std.proofs.lemmas.Bool.{cases_eq}
use Rattle.std.proofs.lemmas.List.{length-set}
use Rattle.std.proofs.lemmas.Bool.Decides.{nat_tests}
use Rattle.ff_frame.specs.declared.head.StreamHead.{StreamHead}
use Rattle.ff_stream.specs.declared.item.Item.{Item}
use Rattle.ff_filter.specs.Views.{closes}
use Rattle.ff_concat.specs.declared.backlog.Backlog.{Backlog}
use Rattle.ff_concat.specs.laws.Late.{is_late, some_late, first_late, IsLateFrom}
use Rattle.ff_concat.specs.laws.Queues.{queue_at, least_at, AreTold}
use Rattle.ff_concat.proofs.Lookups.{queue_read, queue_set, queue_other, least_read, least_set, least_other}

or_none : (a : Bool) → (a || false) ≡ (false || a)
or_none true = refl
or_none false = refl

or_on : (a b c : Bool) → (a || (b || c)) ≡ ((a || b) || c)
or_on true b c = refl
or_on false b c = refl

some_last : (head : StreamHead) (by : ℕ) (xs : List Item) (x : Item) → some_late head by (xs ++ x ∷ []) ≡ (some_late head by xs || is_late head by x)
some_last head by [] x = or_none (is_late head by x)
some_last head by (y ∷ ys) x = ap (λ (b : Bool). is_late head by y || b) (some_last head by ys x) ∙ or_on (is_late head by y) (some_late head by ys) (is_late head by x)

min_test : (a b c : ℕ) → nat_le (min a b) c ≡ (nat_le a c || nat_le b c)
min_test a b c = at (nat_le a c) (nat_le b c) refl refl
  where
    at : (u v : Bool) → nat_le a c ≡ u → nat_le b c ≡ v → nat_le (min a b) c ≡ (u || v)
    at true v e f = grind (arith, nat_tests)
    at false true e f = grind (arith, nat_tests)
    at false false e f = grind (arith, nat_tests)

module _ (head : StreamHead) (current by : ℕ) (stopped ended : Bool) (bs cs : List Backlog) where
  pub told_kept : (s m : ℕ) (x : Item) → AreTold head current by stopped ended bs → length cs ≡ length bs → IsLateFrom head x m
      → least_at cs s ≡ min (least_at bs s) m → queue_at cs s ≡ queue_at bs s ++ x ∷ []
      → ((j : ℕ) → j ≢ s → (least_at cs j ≡ least_at bs j) × (queue_at cs j ≡ queue_at bs j)) → AreTold head current by stopped ended cs
  told_kept s m x told l late least queue others on k c le lt most here =
      let old = told on k c le (let e : k < length bs = omega (arith, lt, l) in e) most here in
      elim (cases_eq k s) as (λ _. nat_le (least_at cs k) c ≡ some_late head c (queue_at cs k)) [
        | inl same ↦ (
            let a : least_at cs k ≡ min (least_at bs k) m = subst (λ (i : ℕ). least_at cs i ≡ min (least_at bs i) m) (sym same) least in
            let b : queue_at cs k ≡ queue_at bs k ++ x ∷ [] = subst (λ (i : ℕ). queue_at cs i ≡ queue_at bs i ++ x ∷ []) (sym same) queue in
            ap (λ (n : ℕ). nat_le n c) a
            ∙ (min_test (least_at bs k) m c
            ∙ (ap (λ (u : Bool). u || nat_le m c) old
            ∙ (ap (λ (u : Bool). some_late head c (queue_at bs k) || u) (late c most)
            ∙ (sym (some_last head c (queue_at bs k) x) ∙ ap (λ (xs : List Item). some_late head c xs) (sym b)))))
            )
        | inr n ↦ (
            let o = others k n in
            ap (λ (i : ℕ). nat_le i c) o.0 ∙ (old ∙ ap (λ (xs : List Item). some_late head c xs) (sym o.1))
            )
      ]

  pub told_same : AreTold head current by stopped ended bs → length cs ≡ length bs
      → ((j : ℕ) → (least_at cs j ≡ least_at bs j) × (queue_at cs j ≡ queue_at bs j)) → AreTold head current by stopped ended cs
  told_same told l same on k c le lt most here =
      let old = told on k c le (let e : k < length bs = omega (arith, lt, l) in e) most here in
      let o = same k in
      ap (λ (i : ℕ). nat_le i c) o.0 ∙ (old ∙ ap (λ (xs : List Item). some_late head c xs) (sym o.1))

  pub told_taken : (x : Item) → AreTold head current by stopped ended bs → length cs ≡ length bs → is_late head by x ≡ false
      → queue_at bs current ≡ x ∷ queue_at cs current → least_at cs current ≡ least_at bs current
      → ((j : ℕ) → j ≢ current → (least_at cs j ≡ least_at bs j) × (queue_at cs j ≡ queue_at bs j)) → AreTold head current by stopped ended cs
  told_taken x told l kept queue least others on k c le lt most here =
      let old = told on k c le (let e : k < length bs = omega (arith, lt, l) in e) most here in
      elim (cases_eq k current) as (λ _. nat_le (least_at cs k) c ≡ some_late head c (queue_at cs k)) [
        | inl same ↦ (
            let a : least_at cs k ≡ least_at bs k = subst (λ (i : ℕ). least_at cs i ≡ least_at bs i) (sym same) least in
            let b : queue_at bs k ≡ x ∷ queue_at cs k = subst (λ (i : ℕ). queue_at bs i ≡ x ∷ queue_at cs i) (sym same) queue in
            let f : is_late head c x ≡ false = ap (λ (n : ℕ). is_late head n x) (here same) ∙ kept in
            ap (λ (n : ℕ). nat_le n c) a
            ∙ (old ∙ (ap (λ (xs : List Item). some_late head c xs) b ∙ ap (λ (u : Bool). u || some_late head c (queue_at cs k)) f))
            )
        | inr n ↦ (
            let o = others k n in
            ap (λ (i : ℕ). nat_le i c) o.0 ∙ (old ∙ ap (λ (xs : List Item). some_late head c xs) (sym o.1))
            )
      ]

-- an item was taken out of the current segment, or none was there
pub told_pop : (head : StreamHead) (current by : ℕ) (stopped ended : Bool) (bs : List Backlog) (old new : Backlog) (r : Option Item)
    → old ≡ get_or bs current old → current < length bs → AreTold head current by stopped ended bs → first_late head by (queue_at bs current) ≡ false
    → IfSome r (λ x. (closes x ≡ false) × (old.queue.items ≡ x ∷ new.queue.items))
    → (IsNone r → (old.queue.items ≡ []) × (new.queue.items ≡ [])) → new.least ≡ old.least → AreTold head current by stopped ended (set bs current new)
told_pop head current by stopped ended bs old new None is lt told kept some none least =
    let n = none refl in
    let least_same = least_set bs current new lt ∙ (least ∙ sym (least_read bs current old lt is)) in
    told_same head current by stopped ended bs (set bs current new) told (length-set bs current new)
    (λ j. elim (cases_eq j current) as (λ _. (least_at (set bs current new) j ≡ least_at bs j) × (queue_at (set bs current new) j ≡ queue_at bs j)) [
      | inl same ↦ subst (λ (i : ℕ). (least_at (set bs current new) i ≡ least_at bs i) × (queue_at (set bs current new) i ≡ queue_at bs i)) (sym same)
          (least_same, queue_set bs current new lt ∙ (n.1 ∙ sym (queue_read bs current old lt is ∙ n.0)))
      | inr o ↦ (least_other bs current j new o, queue_other bs current j new o)
    ])
told_pop head current by stopped ended bs old new (Some x) is lt told kept some none least =
    let q : queue_at bs current ≡ x ∷ queue_at (set bs current new) current =
    queue_read bs current old lt is ∙ (some.1 ∙ ap (λ (ys : List Item). x ∷ ys) (sym (queue_set bs current new lt))) in
    told_taken head current by stopped ended bs (set bs current new) x told (length-set bs current new) (sym (ap (λ (ys : List Item). first_late head by ys) q) ∙ kept) q
    (least_set bs current new lt ∙ (least ∙ sym (least_read bs current old lt is))) (λ j o. (least_other bs current j new o, queue_other bs current j new o))

-- an item was kept, or none was
pub told_push : {A B : Type 0} (head : StreamHead) (current by : ℕ) (stopped ended : Bool) (bs : List Backlog) (s m : ℕ) (x : Item) (old new : Backlog)
    (r : Result A B) → old ≡ get_or bs s old → s < length bs → AreTold head current by stopped ended bs → IsLateFrom head x m
    → OnOk r (new.queue.items ≡ old.queue.items ++ x ∷ []) → OnOk r (new.least ≡ min old.least m)
    → OnErr r ((new.queue.items ≡ old.queue.items) × (new.least ≡ old.least)) → AreTold head current by stopped ended (set bs s new)
told_push head current by stopped ended bs s m x old new (Ok a) is lt told late queue least same =
    told_kept head current by stopped ended bs (set bs s new) s m x told (length-set bs s new) late
    (least_set bs s new lt ∙ (least ∙ ap (λ (n : ℕ). min n m) (sym (least_read bs s old lt is))))
    (queue_set bs s new lt ∙ (queue ∙ ap (λ (ys : List Item). ys ++ x ∷ []) (sym (queue_read bs s old lt is))))
    (λ j o. (least_other bs s j new o, queue_other bs s j new o))
told_push head current by stopped ended bs s m x old new (Err e) is lt told late queue least same =
    told_same head current by stopped ended bs (set bs s new) told (length-set bs s new)
    (λ j. elim (cases_eq j s) as (λ _. (least_at (set bs s new) j ≡ least_at bs j) × (queue_at (set bs s new) j ≡ queue_at bs j)) [
      | inl here ↦ subst (λ (i : ℕ). (least_at (set bs s new) i ≡ least_at bs i) × (queue_at (set bs s new) i ≡ queue_at bs i)) (sym here)
          ((least_set bs s new lt ∙ (same.1 ∙ sym (least_read bs s old lt is)), queue_set bs s new lt ∙ (same.0 ∙ sym (queue_read bs s old lt is))))
      | inr o ↦ (least_other bs s j new o, queue_other bs s j new o)
    ])
