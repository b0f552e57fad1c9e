-- The laws of the machine that repeats its input.
use Rattle.std.specs.Prelude.{◌≡◌, ◌≢◌, ℕ, zero, suc, ◌<◌, ◌≤◌, ◌⊎◌, Bool, true, false, cond, nat_le, List, [], ◌∷◌, ◌++◌, map, length, take, drop, replicate, Option, None, Some, refl}
use Rattle.std.proofs.Common.{sym, subst, ap, inl, inr, ◌∙◌, arith}
use Rattle.std.proofs.lemmas.Bool.Decides.{nat_tests}
use Rattle.std.proofs.lemmas.List.{length-replicate}
use mathlib.Core.List.{IsPrefix}
use Rattle.ff_stream.specs.declared.item.Item.{Item}
use Rattle.ff_stream.specs.declared.item.Lane.{Lane}
use Rattle.ff_stream.specs.Stream.{Mark, still_open, whole, broken, LiesBelow, opened, opened_mark}
use Rattle.ff_stream.specs.laws.Order.{below_self, same_stream, leads_below, unbroken_below, stream_at-opened}
use Rattle.ff_stream.specs.Ports.{nothing, stream_at, AllBelow, AllUnbroken, IsClosed, IsUnbroken, IsMonotone, IsCalm}
use Rattle.ff_stream.specs.Lanes.{IsValid}
use Rattle.ff_stream.specs.laws.LaneLaws.{valid_front}
use Rattle.ff_net.specs.declared.fault.Fault.{Fault}
use Rattle.ff_net.specs.Ways.{Flow, lane_at, AreValid}
use Rattle.ff_net.specs.Pasts.{Past, IsIn, due}
use Rattle.ff_net.specs.laws.Laws.{CauseStays, OutputsClose, MaySpend, Settles}
use Rattle.ff_net.proofs.Flows.{take_front, take_whole, due_meant}
use Rattle.ff_net.proofs.Matters.{may_spend}
use Rattle.ff_test_machines.specs.declared.relay.Out.{Out}
use Rattle.ff_test_machines.specs.Relays.{stopped_at, relay, closed_mark, out_of, with_end, outs_stopped, is_spent_relay, Relays}

pub relays_no_fault : {F : Type 0} (c : F) → None ≡ Some c → ⊥
relays_no_fault c e = cc

-- each output has the one stream
pub at_replicate : (n q : ℕ) (s : Flow) → q < n → stream_at (replicate n s) q ≡ s
at_replicate zero q s lt = absurd (omega arith)
at_replicate (suc n) zero s lt = refl
at_replicate (suc n) (suc q) s lt = at_replicate n q s (omega arith)

pub past_replicate : (n q : ℕ) (s : Flow) → n ≤ q → stream_at (replicate n s) q ≡ nothing
past_replicate zero q s le = refl
past_replicate (suc n) zero s le = absurd (omega arith)
past_replicate (suc n) (suc q) s le = past_replicate n q s (omega arith)

lane_replicate : (n q : ℕ) (l : Lane) → q < n → lane_at (replicate n l) q ≡ Some l
lane_replicate zero q l lt = absurd (omega arith)
lane_replicate (suc n) zero l lt = refl
lane_replicate (suc n) (suc q) l lt = lane_replicate n q l (omega arith)

lane_past : (n q : ℕ) (l : Lane) → n ≤ q → lane_at (replicate n l) q ≡ None
lane_past zero q l le = refl
lane_past (suc n) zero l le = absurd (omega arith)
lane_past (suc n) (suc q) l le = lane_past n q l (omega arith)

pub below_or : (p n : ℕ) → (p < n) ⊎ (n ≤ p)
below_or p zero = inr (omega arith)
below_or zero (suc n) = inl (omega arith)
below_or (suc p) (suc n) = elim (below_or p n) [ inl a ↦ inl (omega arith) | inr b ↦ inr (omega arith) ]

-- the stream where the limit isn't reached, and where it is
pub stopped_before : (n : ℕ) (s : Flow) → length s.items < n → stopped_at n s ≡ s
stopped_before n s lt =
    let test : nat_le n (length s.items) ≡ false = grind (arith, nat_tests) in
    same_stream (stopped_at n s) s (take_whole n s.items (omega arith)) (ap (λ (b : Bool). cond b whole s.mark) test)

pub stopped_mark : (n : ℕ) (s : Flow) → n ≤ length s.items → (stopped_at n s).mark ≡ whole
stopped_mark n s le =
    let test : nat_le n (length s.items) ≡ true = grind (arith, nat_tests) in
    ap (λ (b : Bool). cond b whole s.mark) test

pub take_append : (n : ℕ) (xs ys : List Item) → n ≤ length xs → take n (xs ++ ys) ≡ take n xs
take_append zero xs ys le = refl
take_append (suc n) [] ys le = absurd (omega arith)
take_append (suc n) (x ∷ xs) ys le = ap (λ (zs : List Item). x ∷ zs) (take_append n xs ys (omega arith))

take_longer : (n : ℕ) (xs ys : List Item) → length xs ≤ n → IsPrefix xs (take n (xs ++ ys))
take_longer n [] ys le = (take n ys, refl)
take_longer zero (x ∷ xs) ys le = absurd (omega arith)
take_longer (suc n) (x ∷ xs) ys le = let r = take_longer n xs ys (omega arith) in (r.0, ap (λ (zs : List Item). x ∷ zs) r.1)

pub length_front : (xs ys zs : List Item) → xs ++ zs ≡ ys → length xs ≤ length ys
length_front [] ys zs e = omega arith
length_front (x ∷ xs) [] zs e = cc
length_front (x ∷ xs) (y ∷ ys) zs e = let rest : xs ++ zs ≡ ys = cc (e) in let le = length_front xs ys zs rest in omega (arith, le)

-- with the limit reached, what comes behind doesn't matter
pub stopped_same : (n : ℕ) (r s : Flow) (zs : List Item) → r.items ++ zs ≡ s.items → n ≤ length r.items → stopped_at n r ≡ stopped_at n s
stopped_same n r s zs e le =
    let le' : n ≤ length s.items = omega (arith, le, length_front r.items s.items zs e) in
    same_stream (stopped_at n r) (stopped_at n s) (sym (take_append n r.items zs le) ∙ ap (λ (xs : List Item). take n xs) e) (stopped_mark n r le ∙ sym (stopped_mark n s le'))

pub stopped_below : (n : ℕ) (r s : Flow) → LiesBelow r s → LiesBelow (stopped_at n r) (stopped_at n s)
stopped_below n r s (inl e) = inl (ap (λ (x : Flow). stopped_at n x) e)
stopped_below n r s (inr p) = elim (below_or (length r.items) n) [
  | inl lt ↦
      let same = stopped_before n r lt in
      let below : LiesBelow r (stopped_at n s) = inr (p.0, subst (λ (xs : List Item). IsPrefix r.items (take n xs)) p.1.1 (take_longer n r.items p.1.0 (omega arith))) in
      subst (λ (x : Flow). LiesBelow x (stopped_at n s)) (sym same) below
  | inr le ↦ inl (stopped_same n r s p.1.0 p.1.1 le)
]

calm_mark : (xs : List Item) (b : Bool) (m : Mark) → LiesBelow (record { items = xs; mark = opened_mark (cond b whole m) }) (record { items = xs; mark = cond b whole (opened_mark m) })
calm_mark xs true m = inl refl
calm_mark xs false m = inl refl

stopped_calm : (n : ℕ) (s : Flow) → LiesBelow (opened (stopped_at n s)) (stopped_at n (opened s))
stopped_calm n s = calm_mark (take n s.items) (nat_le n (length s.items)) s.mark

stopped_valid : (lane : Lane) (n : ℕ) (s : Flow) → IsValid lane s → IsValid lane (stopped_at n s)
stopped_valid lane n s v = valid_front lane (stopped_at n s) s (take_front n s.items) v

closed_or_stopped : (n : ℕ) (s : Flow) → IsClosed s → IsClosed (stopped_at n s)
closed_or_stopped n s c = pick (nat_le n (length s.items))
  where
    pick : (b : Bool) → cond b whole s.mark ≢ still_open
    pick true e = cc
    pick false e = c e

stopped_unbroken : (n : ℕ) (s : Flow) → IsUnbroken s → IsUnbroken (stopped_at n s)
stopped_unbroken n s u = pick (nat_le n (length s.items))
  where
    pick : (b : Bool) → cond b whole s.mark ≢ broken
    pick true e = cc
    pick false e = u e

closed_true : (m : Mark) → closed_mark m ≡ true → m ≢ still_open
closed_true still_open e o = cc
closed_true whole e o = cc
closed_true broken e o = cc

true_closed : (m : Mark) → m ≢ still_open → closed_mark m ≡ true
true_closed still_open c = absurd (c refl)
true_closed whole c = refl
true_closed broken c = refl

all_stop : (outs : List Out) → outs_stopped outs ≡ true → (q : ℕ) → q < length outs → (out_of outs q).stopped ≡ true
all_stop [] e q lt = absurd (omega arith)
all_stop (o ∷ os) e q lt = pick o.stopped refl e (λ h k less. all_stop os h k less) q lt
  where
    pick : (b : Bool) → o.stopped ≡ b → cond b (outs_stopped os) false ≡ true → (outs_stopped os ≡ true → (k : ℕ) → k < length os → (out_of os k).stopped ≡ true) → (k : ℕ) → k < length (o ∷ os) → (out_of (o ∷ os) k).stopped ≡ true
    pick false s e rest k less = cc
    pick true s e rest zero less = s
    pick true s e rest (suc k) less = rest e k (omega arith)

-- all stopped, or one that isn't
some_goes_on : (outs : List Out) → (outs_stopped outs ≡ true) ⊎ ((q : ℕ) × (q < length outs) × ((out_of outs q).stopped ≡ false))
some_goes_on [] = inl refl
some_goes_on (o ∷ os) = pick o.stopped refl (some_goes_on os)
  where
    pick : (b : Bool) → o.stopped ≡ b → (outs_stopped os ≡ true) ⊎ ((q : ℕ) × (q < length os) × ((out_of os q).stopped ≡ false)) → (cond b (outs_stopped os) false ≡ true) ⊎ ((q : ℕ) × (q < length (o ∷ os)) × ((out_of (o ∷ os) q).stopped ≡ false))
    pick false e rest = inr (zero, omega arith, e)
    pick true e (inl all) = inl all
    pick true e (inr r) = inr (suc r.0, (let lt : r.0 < length os = r.1 in omega arith), r.2)

module _ (lane : Lane) (limit left : ℕ) (closed : Bool) (given : List Item) (outs : List Out) (past : Past) (s : Relays lane limit left closed given outs past) where
  pub relays_valid : AreValid (lane ∷ []) past.got
  relays_valid zero = s.valid
  relays_valid (suc p) = s.others (suc p) (omega arith)

  keeps_at : (ss : List Flow) → AreValid (lane ∷ []) ss → AreValid (replicate (length outs) lane) (relay limit (length outs) ss)
  keeps_at ss v q = elim (below_or q (length outs)) [
    | inl lt ↦ rw (lane_replicate (length outs) q lane lt, at_replicate (length outs) q (stopped_at limit (stream_at ss 0)) lt) (stopped_valid lane limit (stream_at ss 0) (v 0))
    | inr le ↦ rw (lane_past (length outs) q lane le) (past_replicate (length outs) q (stopped_at limit (stream_at ss 0)) le)
  ]

  pub relays_keeps : (ss : List Flow) → AreValid (lane ∷ []) ss → AreValid (replicate (length outs) lane) (past.task.means ss)
  relays_keeps ss v = subst (λ (f : List Flow → List Flow). AreValid (replicate (length outs) lane) (f ss)) (sym s.means) (keeps_at ss v)

  all_at : (a b : Flow) → LiesBelow a b → AllBelow (replicate (length outs) a) (replicate (length outs) b)
  all_at a b h q = elim (below_or q (length outs)) [
    | inl lt ↦ rw (at_replicate (length outs) q a lt, at_replicate (length outs) q b lt) h
    | inr le ↦ rw (past_replicate (length outs) q a le, past_replicate (length outs) q b le) (below_self nothing)
  ]

  pub relays_monotone : IsMonotone (AreValid (lane ∷ [])) past.task.means
  relays_monotone = subst (λ (f : List Flow → List Flow). IsMonotone (AreValid (lane ∷ [])) f) (sym s.means) (λ rs ss v w b. all_at (stopped_at limit (stream_at rs 0)) (stopped_at limit (stream_at ss 0)) (stopped_below limit (stream_at rs 0) (stream_at ss 0) (b 0)))

  pub relays_cause_stays : CauseStays (lane ∷ []) past.task.cause
  relays_cause_stays rs ss c v w b e = absurd (relays_no_fault c (ap (λ (f : List Flow → Option Fault). f rs) (sym s.cause) ∙ e))

  calm_at : (rs : List Flow) → AllBelow (map opened (relay limit (length outs) rs)) (relay limit (length outs) (map opened rs))
  calm_at rs q =
      let out = stopped_at limit (stream_at rs 0) in
      let later = stopped_at limit (stream_at (map opened rs) 0) in
      let here : LiesBelow (opened out) later = subst (λ (x : Flow). LiesBelow (opened out) (stopped_at limit x)) (sym (stream_at-opened rs 0)) (stopped_calm limit (stream_at rs 0)) in
      rw (stream_at-opened (relay limit (length outs) rs) q) (elim (below_or q (length outs)) [
        | inl lt ↦ rw (at_replicate (length outs) q out lt, at_replicate (length outs) q later lt) here
        | inr le ↦ rw (past_replicate (length outs) q out le, past_replicate (length outs) q later le) (below_self nothing)
      ])

  pub relays_calm : IsCalm (AreValid (lane ∷ [])) past.task.means
  relays_calm = subst (λ (f : List Flow → List Flow). IsCalm (AreValid (lane ∷ [])) f) (sym s.means) (λ rs v. calm_at rs)

  pub due_is : due past ≡ relay limit (length outs) past.got
  due_is = due_meant past s.plain ∙ ap (λ (f : List Flow → List Flow). f past.got) s.means

  below_at : (q : ℕ) → LiesBelow (stream_at past.gave q) (stream_at (relay limit (length outs) past.got) q)
  below_at q =
      let out = stopped_at limit (stream_at past.got 0) in
      elim (below_or q (length outs)) [
        | inl lt ↦ rw (at_replicate (length outs) q out lt) (leads_below (drop (out_of outs q).next (with_end given left)) (stream_at past.gave q) out (s.gave q lt))
        | inr le ↦ rw (past_replicate (length outs) q out le, s.beyond q le) (below_self nothing)
      ]

  pub relays_given : AllBelow past.gave (due past)
  relays_given = subst (λ (ss : List Flow). AllBelow past.gave ss) (sym due_is) below_at

  pub relays_unbroken : AllUnbroken past.got → AllUnbroken past.gave
  relays_unbroken u q =
      let out = stopped_at limit (stream_at past.got 0) in
      elim (below_or q (length outs)) [
        | inl lt ↦ unbroken_below (stream_at past.gave q) out (leads_below (drop (out_of outs q).next (with_end given left)) (stream_at past.gave q) out (s.gave q lt)) (stopped_unbroken limit (stream_at past.got 0) (u 0))
        | inr le ↦ subst (λ (x : Flow). IsUnbroken x) (sym (s.beyond q le)) (λ b. cc)
      ]

  out_count : length (replicate (length outs) lane) ≡ length outs
  out_count = simp length-replicate

  closes_from : IsClosed (stopped_at limit (stream_at past.got 0)) → OutputsClose (length (replicate (length outs) lane)) past
  closes_from c q lt goes =
      let lt' : q < length outs = subst (λ (n : ℕ). q < n) out_count lt in
      subst (λ (f : List Flow → List Flow). IsClosed (stream_at (f past.got) q)) (sym s.means) (rw (at_replicate (length outs) q (stopped_at limit (stream_at past.got 0)) lt') c)

  from_left : left ≡ 0 → IsClosed (stopped_at limit (stream_at past.got 0))
  from_left z o =
      let le : limit ≤ length (stream_at past.got 0).items = omega (arith, s.left_is, z) in
      let m : whole ≡ still_open = sym (stopped_mark limit (stream_at past.got 0) le) ∙ o in cc

  from_closed : closed ≡ true → IsClosed (stream_at past.got 0)
  from_closed e = closed_true (stream_at past.got 0).mark (sym s.closed_is ∙ e)

  spent_by : (p : ℕ) → is_spent_relay left closed outs p → IsClosed (stream_at past.got p) ⊎ ((0 < length (replicate (length outs) lane)) × OutputsClose (length (replicate (length outs) lane)) past)
  spent_by zero sp = elim (sp.1) [
    | inl c ↦ inl (from_closed c)
    | inr r ↦ inr (
      subst (λ (n : ℕ). 0 < n) (sym out_count) r.0,
      elim (r.1) [
        | inl z ↦ closes_from (from_left z)
        | inr a ↦ λ q lt goes. let lt' : q < length outs = subst (λ (n : ℕ). q < n) out_count lt in absurd (goes ((s.stops q lt').0 (all_stop outs a q lt')))
      ],
    )
  ]
  spent_by (suc p) sp = absurd (let lt : suc p < 1 = sp.0 in omega arith)

  pub relays_spent_only : (p : ℕ) → is_spent_relay left closed outs p → MaySpend (lane ∷ []) (length (replicate (length outs) lane)) past p
  relays_spent_only p sp = may_spend (lane ∷ []) past (length (replicate (length outs) lane)) p relays_valid relays_monotone (spent_by p sp)

  pub relays_closed_spent : (p : ℕ) → p < 1 → IsClosed (stream_at past.got p) → is_spent_relay left closed outs p
  relays_closed_spent zero lt c = (lt, inl (s.closed_is ∙ true_closed (stream_at past.got 0).mark c))
  relays_closed_spent (suc p) lt c = absurd (omega arith)

  pub relays_done_spent : (p : ℕ) → p < 1 → 0 < length (replicate (length outs) lane) → OutputsClose (length (replicate (length outs) lane)) past → is_spent_relay left closed outs p
  relays_done_spent p lt z c =
      let some : 0 < length outs = subst (λ (n : ℕ). 0 < n) out_count z in
      elim (some_goes_on outs) [
        | inl all ↦ (lt, inr (some, inr all))
        | inr b ↦ (lt, pick b.0 b.1 b.2 (below_or 0 left))
      ]
    where
      pick : (q : ℕ) → q < length outs → (out_of outs q).stopped ≡ false → (0 < left) ⊎ (left ≤ 0) → (closed ≡ true) ⊎ ((0 < length outs) × ((left ≡ 0) ⊎ (outs_stopped outs ≡ true)))
      pick q qlt goes (inr le) = inr (subst (λ (n : ℕ). 0 < n) out_count z, inl (omega arith))
      pick q qlt goes (inl more) =
          let less : length (stream_at past.got 0).items < limit = omega (arith, s.left_is, more) in
          let on : IsIn q past.stopped → ⊥ = λ i. let t : (out_of outs q).stopped ≡ true = (s.stops q qlt).1 i in cc (t, goes) in
          let shut : IsClosed (stream_at (past.task.means past.got) q) = c q (subst (λ (n : ℕ). q < n) (sym out_count) qlt) on in
          let shut' : IsClosed (stream_at (relay limit (length outs) past.got) q) = subst (λ (f : List Flow → List Flow). IsClosed (stream_at (f past.got) q)) s.means shut in
          let out : IsClosed (stopped_at limit (stream_at past.got 0)) = subst (λ (x : Flow). IsClosed x) (at_replicate (length outs) q (stopped_at limit (stream_at past.got 0)) qlt) shut' in
          let got : IsClosed (stream_at past.got 0) = subst (λ (x : Flow). IsClosed x) (stopped_before limit (stream_at past.got 0) less) out in
          inl (s.closed_is ∙ true_closed (stream_at past.got 0).mark got)

  settles_at : Settles (lane ∷ []) (length (replicate (length outs) lane)) (relay limit (length outs))
  settles_at ss v c q lt =
      let lt' : q < length outs = subst (λ (n : ℕ). q < n) out_count lt in
      rw (at_replicate (length outs) q (stopped_at limit (stream_at ss 0)) lt') (closed_or_stopped limit (stream_at ss 0) (c 0 (omega arith)))

  pub relays_settles : Settles (lane ∷ []) (length (replicate (length outs) lane)) past.task.means
  relays_settles = subst (λ (f : List Flow → List Flow). Settles (lane ∷ []) (length (replicate (length outs) lane)) f) (sym s.means) settles_at
