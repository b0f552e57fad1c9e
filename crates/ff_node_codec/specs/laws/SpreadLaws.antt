-- The laws of a machine that gives what it makes of its input on each of its outputs, whatever it makes.
use Rattle.std.specs.Prelude.{◌≡◌, ℕ, zero, suc, ◌<◌, ◌≤◌, ◌⊎◌, Bool, true, false, List, [], ◌∷◌, map, length, replicate, Option, None, Some, refl}
use Rattle.std.proofs.Common.{sym, subst, ap, inl, inr, ◌∙◌, arith}
use Rattle.std.proofs.lemmas.List.{length-replicate}
use Rattle.ff_stream.specs.declared.item.Lane.{Lane}
use Rattle.ff_stream.specs.Stream.{LiesBelow, opened}
use Rattle.ff_stream.specs.laws.Order.{below_self, unbroken_below, stream_at-opened}
use Rattle.ff_stream.specs.Ports.{nothing, stream_at, AllBelow, AllUnbroken, IsClosed, IsUnbroken, IsMonotone, IsCalm}
use Rattle.ff_net.specs.declared.fault.Fault.{Fault}
use Rattle.ff_net.specs.declared.fault.Fault.TheVariants.{Device}
use Rattle.ff_net.specs.Ways.{Flow, lane_at, AreValid}
use Rattle.ff_net.specs.Pasts.{Past, IsIn, due}
use Rattle.ff_net.specs.laws.Laws.{CauseStays, OutputsClose, MaySpend, Settles}
use Rattle.ff_net.proofs.Flows.{due_meant}
use Rattle.ff_net.proofs.Matters.{may_spend}
use Rattle.ff_node_codec.specs.Making.{Making, fault_by}
use Rattle.ff_node_codec.specs.Spreads.{spread, Line, AllStopped, is_spent_spread, Spreads}

-- ---- one stream for each port

pub at_replicate : (n q : ℕ) (s : Flow) → q < n → stream_at (replicate n s) q ≡ s
at_replicate zero q s lt = absurd (omega arith)
at_replicate (suc n) zero s lt = refl
at_replicate (suc n) (suc q) s lt = at_replicate n q s (omega arith)

pub past_replicate : (n q : ℕ) (s : Flow) → n ≤ q → stream_at (replicate n s) q ≡ nothing
past_replicate zero q s le = refl
past_replicate (suc n) zero s le = absurd (omega arith)
past_replicate (suc n) (suc q) s le = past_replicate n q s (omega arith)

lane_replicate : (n q : ℕ) (l : Lane) → q < n → lane_at (replicate n l) q ≡ Some l
lane_replicate zero q l lt = absurd (omega arith)
lane_replicate (suc n) zero l lt = refl
lane_replicate (suc n) (suc q) l lt = lane_replicate n q l (omega arith)

lane_past : (n q : ℕ) (l : Lane) → n ≤ q → lane_at (replicate n l) q ≡ None
lane_past zero q l le = refl
lane_past (suc n) zero l le = absurd (omega arith)
lane_past (suc n) (suc q) l le = lane_past n q l (omega arith)

pub below_or : (p n : ℕ) → (p < n) ⊎ (n ≤ p)
below_or p zero = inr (omega arith)
below_or zero (suc n) = inl (omega arith)
below_or (suc p) (suc n) = elim (below_or p n) [ inl a ↦ inl (omega arith) | inr b ↦ inr (omega arith) ]

all_at : (n : ℕ) (a b : Flow) → LiesBelow a b → AllBelow (replicate n a) (replicate n b)
all_at n a b h q = elim (below_or q n) as (λ _. LiesBelow (stream_at (replicate n a) q) (stream_at (replicate n b) q)) [
  | inl lt ↦ rw (at_replicate n q a lt, at_replicate n q b lt) h
  | inr le ↦ rw (past_replicate n q a le, past_replicate n q b le) (below_self nothing)
]

-- ---- faults

pub fault_damage : (d : Option ℕ) → fault_by d ≡ None → d ≡ None
fault_damage None e = refl
fault_damage (Some offset) e = cc

pub no_device : (d : Option ℕ) → fault_by d ≡ Some Device → ⊥
no_device None e = cc
no_device (Some offset) e = cc

damage_fault : (d : Option ℕ) (c : Fault) → fault_by d ≡ Some c → (offset : ℕ) × (d ≡ Some offset)
damage_fault None c e = cc
damage_fault (Some offset) c e = (offset, refl)

-- each output was stopped, or one goes on
some_goes_on : (n : ℕ) (lines : ℕ → Line) → AllStopped n lines ⊎ ((q : ℕ) × (q < n) × ((lines q).stopped ≡ false))
some_goes_on zero lines = inl (λ q lt. absurd (omega arith))
some_goes_on (suc n) lines = elim (some_goes_on n lines) as (λ _. AllStopped (suc n) lines ⊎ ((q : ℕ) × (q < suc n) × ((lines q).stopped ≡ false))) [
  | inl all ↦ pick all (lines n).stopped refl
  | inr b ↦ (let lt : b.0 < n = b.1 in inr (b.0, omega (arith, lt), b.2))
]
  where
    last : AllStopped n lines → (lines n).stopped ≡ true → AllStopped (suc n) lines
    last all e q lt = elim (below_or q n) as (λ _. (lines q).stopped ≡ true) [
      | inl l ↦ all q l
      | inr g ↦ (let same : q ≡ n = omega arith in ap (λ (k : ℕ). (lines k).stopped) same ∙ e)
    ]

    pick : AllStopped n lines → (b : Bool) → (lines n).stopped ≡ b → AllStopped (suc n) lines ⊎ ((q : ℕ) × (q < suc n) × ((lines q).stopped ≡ false))
    pick all true e = inl (last all e)
    pick all false e = inr (n, omega arith, e)

module _ (lane_in lane_out : Lane) (f : Making) (n : ℕ) (lines : ℕ → Line) (closed : Bool) (found : Option ℕ) (past : Past)
    (s : Spreads lane_in lane_out f n lines closed found past) where
  pub spreads_valid : AreValid (lane_in ∷ []) past.got
  spreads_valid zero = s.valid
  spreads_valid (suc p) = s.others (suc p) (omega arith)

  keeps_at : (ss : List Flow) → AreValid (lane_in ∷ []) ss → AreValid (replicate n lane_out) (spread n f ss)
  keeps_at ss v q = elim (below_or q n) [
    | inl lt ↦ rw (lane_replicate n q lane_out lt, at_replicate n q (f.stream (stream_at ss 0)) lt) (s.makes.valid (stream_at ss 0) (v 0))
    | inr le ↦ rw (lane_past n q lane_out le) (past_replicate n q (f.stream (stream_at ss 0)) le)
  ]

  pub spreads_keeps : (ss : List Flow) → AreValid (lane_in ∷ []) ss → AreValid (replicate n lane_out) (past.task.means ss)
  spreads_keeps ss v = subst (λ (g : List Flow → List Flow). AreValid (replicate n lane_out) (g ss)) (sym s.means) (keeps_at ss v)

  pub spreads_monotone : IsMonotone (AreValid (lane_in ∷ [])) past.task.means
  spreads_monotone = subst (λ (g : List Flow → List Flow). IsMonotone (AreValid (lane_in ∷ [])) g) (sym s.means)
      (λ rs ss v w b. all_at n (f.stream (stream_at rs 0)) (f.stream (stream_at ss 0)) (s.makes.below (stream_at rs 0) (stream_at ss 0) (b 0)))

  pub spreads_cause_stays : CauseStays (lane_in ∷ []) past.task.cause
  spreads_cause_stays rs ss c v w b e =
      let before : fault_by (f.damage (stream_at rs 0)) ≡ Some c = sym (s.cause rs) ∙ e in
      let d = damage_fault (f.damage (stream_at rs 0)) c before in
      let later : f.damage (stream_at ss 0) ≡ Some d.0 = s.makes.stays (stream_at rs 0) (stream_at ss 0) d.0 (b 0) d.1 in
      s.cause ss ∙ (ap fault_by later ∙ (sym (ap fault_by d.1) ∙ before))

  calm_at : (rs : List Flow) → AllBelow (map opened (spread n f rs)) (spread n f (map opened rs))
  calm_at rs q =
      let out = f.stream (stream_at rs 0) in
      let later = f.stream (stream_at (map opened rs) 0) in
      let here : LiesBelow (opened out) later =
      subst (λ (x : Flow). LiesBelow (opened out) (f.stream x)) (sym (stream_at-opened rs 0)) (s.makes.calm (stream_at rs 0)) in
      rw (stream_at-opened (spread n f rs) q) (elim (below_or q n) [
        | inl lt ↦ rw (at_replicate n q out lt, at_replicate n q later lt) here
        | inr le ↦ rw (past_replicate n q out le, past_replicate n q later le) (below_self nothing)
      ])

  pub spreads_calm : IsCalm (AreValid (lane_in ∷ [])) past.task.means
  spreads_calm = subst (λ (g : List Flow → List Flow). IsCalm (AreValid (lane_in ∷ [])) g) (sym s.means) (λ rs v. calm_at rs)

  pub spreads_due : due past ≡ spread n f past.got
  spreads_due = due_meant past s.plain ∙ ap (λ (g : List Flow → List Flow). g past.got) s.means

  below_at : (q : ℕ) → LiesBelow (stream_at past.gave q) (stream_at (spread n f past.got) q)
  below_at q =
      let out = f.stream (stream_at past.got 0) in
      elim (below_or q n) [
        | inl lt ↦ rw (at_replicate n q out lt) (s.below q lt)
        | inr le ↦ rw (past_replicate n q out le, s.beyond q le) (below_self nothing)
      ]

  pub spreads_given : AllBelow past.gave (due past)
  spreads_given = subst (λ (ss : List Flow). AllBelow past.gave ss) (sym spreads_due) below_at

  pub spreads_unbroken : fault_by found ≡ None → AllUnbroken past.got → AllUnbroken past.gave
  spreads_unbroken e u q =
      let out = f.stream (stream_at past.got 0) in
      let none : f.damage (stream_at past.got 0) ≡ None = sym s.found_is ∙ fault_damage found e in
      elim (below_or q n) [
        | inl lt ↦ unbroken_below (stream_at past.gave q) out (s.below q lt) (s.makes.unbroken (stream_at past.got 0) none (u 0))
        | inr le ↦ subst (λ (x : Flow). IsUnbroken x) (sym (s.beyond q le)) (λ b. cc)
      ]

  pub spreads_caused : (c : Fault) → fault_by found ≡ Some c → past.task.cause past.got ≡ Some c
  spreads_caused c e = s.cause past.got ∙ (ap fault_by (sym s.found_is) ∙ e)

  out_count : length (replicate n lane_out) ≡ n
  out_count = simp length-replicate

  meant_at : (q : ℕ) → q < n → stream_at (past.task.means past.got) q ≡ f.stream (stream_at past.got 0)
  meant_at q lt = ap (λ (g : List Flow → List Flow). stream_at (g past.got) q) s.means ∙ at_replicate n q (f.stream (stream_at past.got 0)) lt

  closes_from : (closed ≡ true) ⊎ AllStopped n lines → OutputsClose (length (replicate n lane_out)) past
  closes_from (inl e) q lt goes =
      let here : q < n = subst (λ (k : ℕ). q < k) out_count lt in
      subst (λ (x : Flow). IsClosed x) (sym (meant_at q here)) (s.closed_is.0 e)
  closes_from (inr all) q lt goes =
      let here : q < n = subst (λ (k : ℕ). q < k) out_count lt in
      absurd (goes ((s.stops q here).0 (all q here)))

  pub spreads_spent_only : (p : ℕ) → is_spent_spread n lines closed p → MaySpend (lane_in ∷ []) (length (replicate n lane_out)) past p
  spreads_spent_only p sp = may_spend (lane_in ∷ []) past (length (replicate n lane_out)) p spreads_valid spreads_monotone
      (inr (subst (λ (k : ℕ). 0 < k) (sym out_count) (let le : 1 ≤ n = s.some in omega (arith, le)), closes_from sp.1))

  pub spreads_closed_spent : (p : ℕ) → p < 1 → IsClosed (stream_at past.got p) → is_spent_spread n lines closed p
  spreads_closed_spent zero lt c = (lt, inl (s.closed_is.1 (s.makes.closed (stream_at past.got 0) c)))
  spreads_closed_spent (suc p) lt c = absurd (omega arith)

  not_both : (b : Bool) → b ≡ true → b ≡ false → ⊥
  not_both b t e = let clash : true ≡ false = sym t ∙ e in cc

  pub spreads_done_spent : (p : ℕ) → p < 1 → OutputsClose (length (replicate n lane_out)) past → is_spent_spread n lines closed p
  spreads_done_spent p lt c = (
    lt,
    elim (some_goes_on n lines) as (λ _. (closed ≡ true) ⊎ AllStopped n lines) [
      | inl all ↦ inr all
      | inr b ↦ (
          let there : b.0 < n = b.1 in
          let on : IsIn b.0 past.stopped → ⊥ = λ i. not_both (lines b.0).stopped ((s.stops b.0 there).1 i) b.2 in
          inl (s.closed_is.1 (subst (λ (x : Flow). IsClosed x) (meant_at b.0 there) (c b.0 (subst (λ (k : ℕ). b.0 < k) (sym out_count) there) on)))
          )
    ],
  )

  settles_at : Settles (lane_in ∷ []) (length (replicate n lane_out)) (spread n f)
  settles_at ss v c q lt =
      let here : q < n = subst (λ (k : ℕ). q < k) out_count lt in
      rw (at_replicate n q (f.stream (stream_at ss 0)) here) (s.makes.closed (stream_at ss 0) (c 0 (omega arith)))

  pub spreads_settles : Settles (lane_in ∷ []) (length (replicate n lane_out)) past.task.means
  spreads_settles = subst (λ (g : List Flow → List Flow). Settles (lane_in ∷ []) (length (replicate n lane_out)) g) (sym s.means) settles_at
