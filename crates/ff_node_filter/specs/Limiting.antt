-- Functions behind limits.
use Rattle.std.specs.Prelude.{◌≡◌, ◌≢◌, ℕ, zero, suc, ◌+◌, ◌<◌, ◌⊎◌, Bool, true, false, ◌||◌, ◌&&◌, cond, List, [], ◌∷◌, ◌++◌, length, Option, None, Some, refl}
use Rattle.std.proofs.Common.{inl, inr, ap, sym, ◌∙◌, subst, arith}
use Rattle.ff_stream.specs.declared.item.Item.{Item}
use Rattle.ff_stream.specs.declared.item.Lane.{Lane}
use Rattle.ff_stream.specs.Stream.{Mark, still_open, whole, broken, LiesBelow, opened}
use Rattle.ff_stream.specs.Ports.{stream_at, AllBelow, AllUnbroken, IsUnbroken}
use Rattle.ff_stream.specs.laws.Order.{below_items, closed_below}
use Rattle.ff_stream.specs.Lanes.{AreInShape, IsValid}
use Rattle.ff_stream.specs.Within.{some_pass, passes_limits}
use Rattle.ff_stream.specs.laws.WithinLaws.{within_valid}
use Rattle.ff_net.specs.declared.fault.Fault.{Fault}
use Rattle.ff_net.specs.declared.fault.Fault.TheVariants.{TooLong}
use Rattle.ff_net.specs.Ways.{AreValid}
use Rattle.ff_filter.specs.Joins.{Flow, Ports, EachBelow, Grows, HidesBreaks}
use Rattle.ff_filter.specs.laws.Limits.{limited, limited_is}
use Rattle.ff_filter.specs.laws.LimitLaws.{limited-below, limited-calm}
use Rattle.ff_node_filter.specs.Tasks.{ported, IsLawful}

abbrev pub is_broken : Mark → Bool
is_broken still_open = false
is_broken whole = false
is_broken broken = true

-- one of the first n streams is broken
abbrev pub some_broken : ℕ → Ports → Bool
some_broken zero ss = false
some_broken (suc n) ss = is_broken (ss 0).mark || some_broken n (λ p. ss (suc p))

-- TooLong where an output is broken, and some filter's output was cut at a limit
abbrev pub limit_cause : ℕ → (Ports → Ports) → (List Flow → Bool) → List Flow → Option Fault
limit_cause n f cuts ss = cond (cuts ss && some_broken n (f (stream_at ss))) (Some TooLong) None

-- a function whose outputs are all behind limits; `cuts` says where a limit shortened something
pub record IsLimited (ins outs : List Lane) (f : Ports → Ports) (cuts : List Flow → Bool) : Type 0 where
  pub grows : Grows f
  pub hides : HidesBreaks f
  pub keeps : (ss : List Flow) → AreValid ins ss → AreValid outs (ported (length outs) f ss)
  pub stays : (rs ss : List Flow) → AreValid ins rs → AreValid ins ss → AllBelow rs ss → cuts rs ≡ true → cuts ss ≡ true
  pub breaks : (ss : List Flow) (q : ℕ) → q < length outs → AreValid ins ss → AllUnbroken ss → (f (stream_at ss) q).mark ≡ broken → cuts ss ≡ true

either : (a b : Bool) → (a || b) ≡ true → (a ≡ true) ⊎ (b ≡ true)
either true b e = inl refl
either false b e = inr e

or_left : (a b : Bool) → a ≡ true → (a || b) ≡ true
or_left true b e = refl
or_left false b e = cc

or_right : (a b : Bool) → b ≡ true → (a || b) ≡ true
or_right true b e = refl
or_right false b e = e

and_both : (a b : Bool) → a ≡ true → b ≡ true → (a && b) ≡ true
and_both true b e f = f
and_both false b e f = cc

both_and : (a b : Bool) → (a && b) ≡ true → (a ≡ true) × (b ≡ true)
both_and true b e = (refl, e)
both_and false b e = cc

broke : (m : Mark) → is_broken m ≡ true → m ≡ broken
broke still_open e = cc
broke whole e = cc
broke broken e = refl

broken_is : (m : Mark) → m ≡ broken → is_broken m ≡ true
broken_is still_open e = cc
broken_is whole e = cc
broken_is broken e = refl

broken_or : (m : Mark) → (m ≡ broken) ⊎ (m ≢ broken)
broken_or still_open = inr (λ e. cc)
broken_or whole = inr (λ e. cc)
broken_or broken = inl refl

-- a broken stream stays
broken_stays : (r s : Flow) → LiesBelow r s → r.mark ≡ broken → s.mark ≡ broken
broken_stays r s b e = ap (λ (t : Flow). t.mark) (sym (closed_below r s b (λ o. let clash : broken ≡ still_open = sym e ∙ o in cc))) ∙ e

some_stays : (n : ℕ) (rs ss : Ports) → EachBelow rs ss → some_broken n rs ≡ true → some_broken n ss ≡ true
some_stays zero rs ss b e = e
some_stays (suc n) rs ss b e = elim (either (is_broken (rs 0).mark) (some_broken n (λ p. rs (suc p))) e) as (λ _. some_broken (suc n) ss ≡ true) [
  | inl h ↦ or_left (is_broken (ss 0).mark) (some_broken n (λ p. ss (suc p))) (broken_is (ss 0).mark (broken_stays (rs 0) (ss 0) (b 0) (broke (rs 0).mark h)))
  | inr h ↦ or_right (is_broken (ss 0).mark) (some_broken n (λ p. ss (suc p))) (some_stays n (λ p. rs (suc p)) (λ p. ss (suc p)) (λ p. b (suc p)) h)
]

one_breaks : (n : ℕ) (ss : Ports) (q : ℕ) → q < n → (ss q).mark ≡ broken → some_broken n ss ≡ true
one_breaks zero ss q lt e = absurd (omega arith)
one_breaks (suc n) ss zero lt e = or_left (is_broken (ss 0).mark) (some_broken n (λ p. ss (suc p))) (broken_is (ss 0).mark e)
one_breaks (suc n) ss (suc q) lt e = or_right (is_broken (ss 0).mark) (some_broken n (λ p. ss (suc p))) (one_breaks n (λ p. ss (suc p)) q (omega arith) e)

cause_means : (b : Bool) (c : Fault) → cond b (Some TooLong) None ≡ Some c → (b ≡ true) × (c ≡ TooLong)
cause_means true c e = (refl, cc (e))
cause_means false c e = cc

cause_of : (b : Bool) (c : Fault) → b ≡ true → c ≡ TooLong → cond b (Some TooLong) None ≡ Some c
cause_of b c e f = rw (e, f) refl

-- behind limits, the cause is that a limit cut something and an output is broken
pub lawful : (ins outs : List Lane) (f : Ports → Ports) (cuts : List Flow → Bool) → IsLimited ins outs f cuts → IsLawful ins outs f (limit_cause (length outs) f cuts)
lawful ins outs f cuts l = record {
  grows = l.grows;
  hides = l.hides;
  keeps = l.keeps;
  cause_stays = λ rs ss c vr vs b e.
      let h = cause_means (cuts rs && some_broken (length outs) (f (stream_at rs))) c e in
      let k = both_and (cuts rs) (some_broken (length outs) (f (stream_at rs))) h.0 in
      cause_of (cuts ss && some_broken (length outs) (f (stream_at ss))) c
      (and_both (cuts ss) (some_broken (length outs) (f (stream_at ss))) (l.stays rs ss vr vs b k.0) (some_stays (length outs) (f (stream_at rs)) (f (stream_at ss)) (l.grows (stream_at rs) (stream_at ss) b) k.1)) h.1;
  too_long = λ ss q lt v u e. cause_of (cuts ss && some_broken (length outs) (f (stream_at ss))) TooLong
      (and_both (cuts ss) (some_broken (length outs) (f (stream_at ss))) (l.breaks ss q lt v u e) (one_breaks (length outs) (f (stream_at ss)) q lt e)) refl;
}

-- a function of one stream, behind its limits -----------------------------------------------------------------------

pass_front : (passes : ℕ → Item → Bool) (n : ℕ) (xs ys : List Item) → some_pass passes n xs ≡ true → some_pass passes n (xs ++ ys) ≡ true
pass_front passes n [] ys e = cc
pass_front passes n (x ∷ xs) ys e = pick (passes n x) e (λ h. pass_front passes (n + 1) xs ys h)
  where
    pick : (b : Bool) → cond b true (some_pass passes (n + 1) xs) ≡ true → (some_pass passes (n + 1) xs ≡ true → some_pass passes (n + 1) (xs ++ ys) ≡ true) → cond b true (some_pass passes (n + 1) (xs ++ ys)) ≡ true
    pick true e h = refl
    pick false e h = h e

passed_or : (b : Bool) (m : Mark) → m ≢ broken → cond b broken m ≡ broken → b ≡ true
passed_or true m n e = refl
passed_or false m n e = absurd (n e)

module _ (lane_in lane_out : Lane) (runs : Flow → Flow)
    (below : (r s : Flow) → LiesBelow r s → LiesBelow (runs r) (runs s))
    (calm : (r : Flow) → LiesBelow (opened (runs r)) (runs (opened r)))
    (shape : (s : Flow) → IsValid lane_in s → AreInShape lane_out (runs s).items)
    (sound : (s : Flow) → IsValid lane_in s → IsUnbroken s → IsUnbroken (runs s)) where
  abbrev one_limited : Ports → Ports
  one_limited ss q = limited (passes_limits lane_out) 0 (runs (ss 0))

  abbrev one_cuts : List Flow → Bool
  one_cuts ss = some_pass (passes_limits lane_out) 0 (runs (stream_at ss 0)).items

  keeps_one : (ss : List Flow) → AreValid (lane_in ∷ []) ss → AreValid (lane_out ∷ []) (ported 1 one_limited ss)
  keeps_one ss v zero = subst (λ (t : Flow). IsValid lane_out t) (sym (limited_is (passes_limits lane_out) (runs (stream_at ss 0)))) (within_valid lane_out (runs (stream_at ss 0)) (shape (stream_at ss 0) (v 0)))
  keeps_one ss v (suc q) = refl

  -- all that a step owes besides: valid streams give items in shape, and unbroken streams unbroken ones
  pub step_limited : IsLimited (lane_in ∷ []) (lane_out ∷ []) (λ ss q. limited (passes_limits lane_out) 0 (runs (ss 0))) (λ ss. some_pass (passes_limits lane_out) 0 (runs (stream_at ss 0)).items)
  step_limited = record {
    grows = λ rs ss b q. limited-below (passes_limits lane_out) 0 runs below (rs 0) (ss 0) (b 0);
    hides = λ rs q. limited-calm (passes_limits lane_out) 0 runs calm (rs 0);
    keeps = keeps_one;
    stays = λ rs ss vr vs b e.
        let p = below_items (runs (stream_at rs 0)) (runs (stream_at ss 0)) (below (stream_at rs 0) (stream_at ss 0) (b 0)) in
        subst (λ (xs : List Item). some_pass (passes_limits lane_out) 0 xs ≡ true) p.1 (pass_front (passes_limits lane_out) 0 (runs (stream_at rs 0)).items p.0 e);
    breaks = λ ss q lt v u e. passed_or (some_pass (passes_limits lane_out) 0 (runs (stream_at ss 0)).items) (runs (stream_at ss 0)).mark (sound (stream_at ss 0) (v 0) (u 0))
        (sym (ap (λ (t : Flow). t.mark) (limited_is (passes_limits lane_out) (runs (stream_at ss 0)))) ∙ e);
  }
