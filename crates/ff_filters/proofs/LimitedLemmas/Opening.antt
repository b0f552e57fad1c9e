-- What makes a function one behind limits: where it breaks though it isn't told of a break, a limit cut it.
use Rattle.std.proofs.Common.{◌≡◌, ◌≢◌, ◌↔◌, ℕ, zero, suc, ◌<◌, inl, inr, Bool, true, false, cond, List, [], ◌∷◌, map, length, Option, None, Some}
use Rattle.std.proofs.Common.{refl, sym, ap, subst, ◌∙◌, arith}
use Rattle.std.proofs.lemmas.Bool.{or_cases, or_left, or_right}
use Rattle.ff_stream.specs.declared.item.Item.{Item}
use Rattle.ff_stream.specs.declared.item.Lane.{Lane}
use Rattle.ff_stream.specs.declared.item.Lane.TheVariants.{Frames}
use Rattle.ff_frame.specs.declared.head.StreamHead.{StreamHead}
use Rattle.ff_stream.specs.Stream.{Mark, still_open, whole, broken, LiesBelow, opened, opened_mark}
use Rattle.ff_stream.specs.Ports.{stream_at, AllUnbroken, IsUnbroken}
use Rattle.ff_stream.specs.laws.Order.{closed_below, stream_at-opened}
use Rattle.ff_stream.specs.Lanes.{IsValid}
use Rattle.ff_stream.specs.laws.LaneLaws.{valid_opened}
use Rattle.ff_stream.specs.Within.{some_pass, passes_limits, within}
use Rattle.ff_stream.specs.laws.WithinLaws.{valid_within}
use Rattle.ff_net.specs.Ways.{lane_at, IsValidOn, AreValid}
use Rattle.ff_filter.specs.Joins.{Flow, Ports, EachBelow, all_opened, Grows, HidesBreaks}
use Rattle.ff_node_filter.specs.Tasks.{ported}
use Rattle.ff_node_filter.specs.laws.StandLaws.{stream_at-listed}
use Rattle.ff_node_filter.specs.Limiting.{IsLimited, is_broken, some_broken}
use Rattle.ff_filters.specs.limited.Cuts.{IsWithin, PassesLimit}

-- the rest of what a function behind limits owes
pub record Owes (ins outs : List Lane) (f : Ports → Ports) : Type 0 where
  pub grows : Grows f
  pub hides : HidesBreaks f
  pub keeps : (ss : List Flow) → AreValid ins ss → AreValid outs (ported (length outs) f ss)
  -- what it would give without limits
  pub free : Ports → Ports
  pub within_limits : IsWithin ins outs f free

broke : (m : Mark) → is_broken m ≡ true → m ≡ broken
broke still_open e = cc
broke whole e = cc
broke broken e = refl

broken_stays : (r s : Flow) → LiesBelow r s → is_broken r.mark ≡ true → is_broken s.mark ≡ true
broken_stays r s b e =
    let is : r.mark ≡ broken = broke r.mark e in
    let same : r ≡ s = closed_below r s b (λ o. let clash : broken ≡ still_open = sym is ∙ o in cc) in
    subst (λ (t : Flow). is_broken t.mark ≡ true) same e

some_stays : (n : ℕ) (rs ss : Ports) → EachBelow rs ss → some_broken n rs ≡ true → some_broken n ss ≡ true
some_stays zero rs ss b e = e
some_stays (suc n) rs ss b e = elim (or_cases (is_broken (rs 0).mark) (some_broken n (λ p. rs (suc p))) e) as (λ _. some_broken (suc n) ss ≡ true) [
  | inl h ↦ or_left (is_broken (ss 0).mark) (some_broken n (λ p. ss (suc p))) (broken_stays (rs 0) (ss 0) (b 0) h)
  | inr h ↦ or_right (is_broken (ss 0).mark) (some_broken n (λ p. ss (suc p))) (some_stays n (λ p. rs (suc p)) (λ p. ss (suc p)) (λ p. b (suc p)) h)
]

some_there : (n : ℕ) (ss : Ports) (q : ℕ) → q < n → (ss q).mark ≡ broken → some_broken n ss ≡ true
some_there zero ss q lt e = absurd (omega arith)
some_there (suc n) ss zero lt e = or_left (is_broken (ss 0).mark) (some_broken n (λ p. ss (suc p))) (ap is_broken e)
some_there (suc n) ss (suc q) lt e = or_right (is_broken (ss 0).mark) (some_broken n (λ p. ss (suc p))) (some_there n (λ p. ss (suc p)) q (omega arith) e)

opened_at : (xs : List Item) (m : Mark) (s : Flow) → LiesBelow (record { items = xs; mark = m }) s → LiesBelow (opened (record { items = xs; mark = m })) (opened s)
opened_at xs m s (inl e) = inl (ap (λ (t : Flow). opened t) e)
opened_at xs still_open s (inr h) = inr (refl, h.1)
opened_at xs whole s (inr h) = cc (h.0)
opened_at xs broken s (inr h) = cc (h.0)

-- whoever isn't told of breaks sees streams further on as such
opened_below : (r s : Flow) → LiesBelow r s → LiesBelow (opened r) (opened s)
opened_below r s b = opened_at r.items r.mark s b

opened_mark_same : (xs : List Item) (m : Mark) → (m ≡ broken → ⊥) → opened (record { items = xs; mark = m }) ≡ record { items = xs; mark = m }
opened_mark_same xs still_open u = refl
opened_mark_same xs whole u = refl
opened_mark_same xs broken u = absurd (u refl)

unbroken_same : (ss : List Flow) → AllUnbroken ss → all_opened (stream_at ss) ≡ stream_at ss
unbroken_same ss u i p = opened_mark_same (stream_at ss p).items (stream_at ss p).mark (u p) i

pub opened_limited : (ins outs : List Lane) (f : Ports → Ports) → Owes ins outs f → IsLimited ins outs f (λ ss. some_broken (length outs) (f (all_opened (stream_at ss))))
opened_limited ins outs f o = record {
  grows = o.grows;
  hides = o.hides;
  keeps = o.keeps;
  stays = λ rs ss vr vs b e.
      some_stays (length outs) (f (all_opened (stream_at rs))) (f (all_opened (stream_at ss)))
      (o.grows (all_opened (stream_at rs)) (all_opened (stream_at ss)) (λ p. opened_below (stream_at rs p) (stream_at ss p) (b p))) e;
  breaks = λ ss q lt v u e.
      some_there (length outs) (f (all_opened (stream_at ss))) q lt (ap (λ (ps : Ports). (f ps q).mark) (unbroken_same ss u) ∙ e);
}

pub owed : (ins outs : List Lane) (f free : Ports → Ports) (cuts : List Flow → Bool) → IsLimited ins outs f cuts → IsWithin ins outs f free → Owes ins outs f
owed ins outs f free cuts l w = record { grows = l.grows; hides = l.hides; keeps = l.keeps; free = free; within_limits = w }

-- ---- what is cut at its limits

lane_less : (outs : List Lane) (q : ℕ) (lane : Lane) → lane_at outs q ≡ Some lane → q < length outs
lane_less [] q lane e = cc
lane_less (l ∷ ls) zero lane e = omega arith
lane_less (l ∷ ls) (suc q) lane e = let less = lane_less ls q lane e in omega (arith, less)

lane_here : (outs : List Lane) (q : ℕ) → q < length outs → (lane : Lane) × (lane_at outs q ≡ Some lane)
lane_here [] q lt = absurd (omega arith)
lane_here (l ∷ ls) zero lt = (l, refl)
lane_here (l ∷ ls) (suc q) lt = lane_here ls q (omega arith)

only_lane : (head : StreamHead) (q : ℕ) (lane : Lane) → lane_at (Frames head ∷ []) q ≡ Some lane → Frames head ≡ lane
only_lane head zero lane e = cc
only_lane head (suc q) lane e = cc

-- one output, which is a function within the limits
pub one_within : (ins : List Lane) (head : StreamHead) (g : Ports → Flow) → ((ss : List Flow) → AreValid ins ss → AllUnbroken ss → IsUnbroken (g (stream_at ss)))
    → IsWithin ins (Frames head ∷ []) (λ ss q. within (passes_limits (Frames head)) (g ss)) (λ ss q. g ss)
one_within ins head g calm = record {
  cut = λ ss v q lane there. ap (λ (l : Lane). within (passes_limits l) (g (stream_at ss))) (only_lane head q lane there);
  unbroken = λ ss v u q lt. calm ss v u;
}

-- whose limits cut nothing
pub never_cut : (ins outs : List Lane) (f : Ports → Ports) → IsLimited ins outs f (λ (ss : List Flow). false) → IsWithin ins outs f f
never_cut ins outs f l = record {
  cut = λ ss v q lane there.
      let lt = lane_less outs q lane there in
      let valid : IsValid lane (f (stream_at ss) q) = subst (λ (t : Flow). IsValid lane t) (stream_at-listed (length outs) (f (stream_at ss)) q lt)
      (subst (λ (o : Option Lane). IsValidOn o (stream_at (ported (length outs) f ss) q)) there (l.keeps ss v q)) in
      sym (valid_within lane (f (stream_at ss) q) valid);
  unbroken = λ ss v u q lt b. let clash : false ≡ true = l.breaks ss q lt v u b in cc;
}

some_where : (n : ℕ) (ps : Ports) → some_broken n ps ≡ true → (q : ℕ) × (q < n) × ((ps q).mark ≡ broken)
some_where zero ps e = cc
some_where (suc n) ps e = elim (or_cases (is_broken (ps 0).mark) (some_broken n (λ p. ps (suc p))) e) as (λ _. (q : ℕ) × (q < suc n) × ((ps q).mark ≡ broken)) [
  | inl h ↦ (zero, omega arith, broke (ps 0).mark h)
  | inr h ↦ (
      let found = some_where n (λ p. ps (suc p)) h in
      let less = found.1 in
      (suc found.0, omega (arith, less), found.2)
      )
]

passed : (b : Bool) (m : Mark) → m ≢ broken → cond b broken m ≡ broken → b ≡ true
passed true m calm e = refl
passed false m calm e = absurd (calm e)

opened_calm : (m : Mark) → opened_mark m ≢ broken
opened_calm still_open e = cc
opened_calm whole e = cc
opened_calm broken e = cc

opened_on : (o : Option Lane) (s : Flow) → IsValidOn o s → IsValidOn o (opened s)
opened_on None s v = ap (λ (t : Flow). opened t) v
opened_on (Some l) s v = valid_opened l s v

module _ (ins outs : List Lane) (f free : Ports → Ports) (w : IsWithin ins outs f free) (ss : List Flow) (v : AreValid ins ss) where
  abbrev come : Ports
  come = all_opened (stream_at ss)

  come_so : stream_at (map opened ss) ≡ come
  come_so i p = stream_at-opened ss p i

  valid_so : AreValid ins (map opened ss)
  valid_so p = subst (λ (t : Flow). IsValidOn (lane_at ins p) t) (sym (stream_at-opened ss p)) (opened_on (lane_at ins p) (stream_at ss p) (v p))

  calm_so : AllUnbroken (map opened ss)
  calm_so p = subst (λ (t : Flow). IsUnbroken t) (sym (stream_at-opened ss p)) (opened_calm (stream_at ss p).mark)

  cut_so : (q : ℕ) (lane : Lane) → lane_at outs q ≡ Some lane → f come q ≡ within (passes_limits lane) (free come q)
  cut_so q lane there = subst (λ (ps : Ports). f ps q ≡ within (passes_limits lane) (free ps q)) come_so (w.cut (map opened ss) valid_so q lane there)

  free_calm : (q : ℕ) → q < length outs → IsUnbroken (free come q)
  free_calm q lt = subst (λ (ps : Ports). IsUnbroken (free ps q)) come_so (w.unbroken (map opened ss) valid_so calm_so q lt)

  passes_where : some_broken (length outs) (f come) ≡ true → PassesLimit outs (free come)
  passes_where e =
      let found = some_where (length outs) (f come) e in
      let here = lane_here outs found.0 found.1 in
      record {
        port = found.0;
        lane = here.0;
        there = here.1;
        passes = passed (some_pass (passes_limits here.0) 0 (free come found.0).items) (free come found.0).mark (free_calm found.0 found.1)
            (sym (ap (λ (t : Flow). t.mark) (cut_so found.0 here.0 here.1)) ∙ found.2);
      }

  breaks_where : PassesLimit outs (free come) → some_broken (length outs) (f come) ≡ true
  breaks_where h =
      some_there (length outs) (f come) h.port (lane_less outs h.port h.lane h.there)
      (ap (λ (t : Flow). t.mark) (cut_so h.port h.lane h.there) ∙ ap (λ (b : Bool). cond b broken (free come h.port).mark) h.passes)

  -- some output breaks where no break is told exactly where something passes a limit
  pub cuts_exactly : (some_broken (length outs) (f (all_opened (stream_at ss))) ≡ true) ↔ PassesLimit outs (free (all_opened (stream_at ss)))
  cuts_exactly = (passes_where, breaks_where)
