-- Streams that are shortened close with the shortest, and keep the broken rule.
use Rattle.std.proofs.Common.{◌≡◌, ◌≢◌, inl, inr, ℕ, zero, suc, ◌+◌, ◌<◌, ◌⊎◌, Bool, true, false, cond, List, [], ◌∷◌, ◌++◌, map, refl, ap, sym, ◌∙◌, subst, arith}
use Rattle.std.specs.Prelude.{◌↔◌, ◌==◌}
use Rattle.std.proofs.lemmas.Bool.{cases_eq}
use Rattle.std.proofs.lemmas.Bool.Decides.{nat_tests}
use Rattle.ff_time.specs.Fraction.{Fraction}
use Rattle.ff_stream.specs.declared.item.Item.{Item}
use Rattle.ff_stream.specs.Stream.{Mark, still_open, whole, broken, LiesBelow, opened, opened_mark, whole_stream}
use Rattle.ff_stream.specs.Ports.{nothing, stream_at, AllBelow}
use Rattle.ff_stream.specs.laws.Order.{below_self, closed_below, prefix_self, stream_at-opened}
use Rattle.ff_stream.specs.laws.Breaks.{IsBrokenOff, KeepsBrokenRule}
use Rattle.ff_filter.specs.Joins.{Flow, Ports}
use Rattle.ff_filter.specs.Shifts.{start_ticks}
use Rattle.ff_node_sync.specs.laws.Outlasting.{AreOutlasted, EndsBy, Outlasts}
use Rattle.ff_node_sync.specs.Shortened.{Fate, Kept, Held, held_by, both, put_kept, kept_by, fate_by, fate_to, furthest, is_before, shortened}
use Rattle.ff_node_sync.specs.laws.ShortLaws.{SofterMark, SofterFlow, fate_softer, fate_refines, flow_further, kept_below, kept_softer, whole_left, whole_right}

is_same : (q p : ℕ) → q ≡ p → (q == p) ≡ true
is_same q p e = grind (arith, nat_tests)

is_other : (q p : ℕ) → q ≢ p → (q == p) ≡ false
is_other q p ne = grind (arith, nat_tests)

kept_either : (b : Bool) → cond b Kept Kept ≡ Kept
kept_either true = refl
kept_either false = refl

-- ---- an item that a whole stream holds up

module _ (base : ℕ → Fraction) (ss : Ports) (p : ℕ) where
  abbrev ends : ℕ → ℕ
  ends q = furthest 0 (ss q).items

  abbrev marks : ℕ → Mark
  marks q = (ss q).mark

  by_kept : (q : ℕ) (x : Item) → (q ≢ p → Outlasts base ss p x q) → fate_by base ends marks p q x ≡ Kept
  by_kept q x h = elim (cases_eq q p) as (λ _. fate_by base ends marks p q x ≡ Kept) [
    | inl e ↦ ap (λ (b : Bool). cond b Kept (cond (is_before (start_ticks x) (base p) (ends q) (base q)) Kept (Held (marks q)))) (is_same q p e)
    | inr ne ↦ ap (λ (b : Bool). cond (q == p) Kept (cond b Kept (Held (marks q)))) (h ne) ∙ kept_either (q == p)
  ]

  is_kept : (n : ℕ) (x : Item) → ((q : ℕ) → q < n → q ≢ p → Outlasts base ss p x q) → fate_to base ends marks p n x ≡ Kept
  is_kept zero x h = refl
  is_kept (suc n) x h =
      ap (λ (f : Fate). both f (fate_by base ends marks p n x)) (is_kept n x (λ q lt ne. h q (omega (arith, lt)) ne))
      ∙ by_kept n x (λ ne. h n (omega arith) ne)

  by_held : (q : ℕ) (x : Item) → q ≢ p → EndsBy base ss p x q → (ss q).mark ≡ whole → fate_by base ends marks p q x ≡ Held whole
  by_held q x ne e w =
      ap (λ (b : Bool). cond b Kept (cond (is_before (start_ticks x) (base p) (ends q) (base q)) Kept (Held (marks q)))) (is_other q p ne)
      ∙ (ap (λ (b : Bool). cond b Kept (Held (marks q))) e ∙ ap Held w)

  is_held : (n q : ℕ) (x : Item) → q < n → q ≢ p → EndsBy base ss p x q → (ss q).mark ≡ whole → fate_to base ends marks p n x ≡ Held whole
  is_held zero q x lt ne e w = absurd (omega (arith, lt))
  is_held (suc n) q x lt ne e w = elim (cases_eq q n) as (λ _. fate_to base ends marks p (suc n) x ≡ Held whole) [
    | inl same ↦ ap (λ (f : Fate). both (fate_to base ends marks p n x) f) (subst (λ (r : ℕ). fate_by base ends marks p r x ≡ Held whole) same (by_held q x ne e w))
        ∙ whole_left (fate_to base ends marks p n x)
    | inr other ↦ ap (λ (f : Fate). both f (fate_by base ends marks p n x)) (is_held n q x (omega (arith, lt, other)) ne e w)
        ∙ whole_right (fate_by base ends marks p n x)
  ]

  closes_at : (n : ℕ) (xs ys : List Item) (x : Item) (m : Mark) → AreOutlasted base ss n p xs → fate_to base ends marks p n x ≡ Held whole
      → kept_by (fate_to base ends marks p n) (xs ++ x ∷ ys) m ≡ whole_stream xs
  closes_at n [] ys x m all held = ap (λ (f : Fate). put_kept f x (kept_by (fate_to base ends marks p n) ys m)) held
  closes_at n (z ∷ zs) ys x m all held =
      ap (λ (f : Fate). put_kept f z (kept_by (fate_to base ends marks p n) (zs ++ x ∷ ys) m)) (is_kept n z all.0)
      ∙ ap (λ (s : Flow). put_kept Kept z s) (closes_at n zs ys x m all.1 held)

pub closes_with_shortest : (n : ℕ) (base : ℕ → Fraction) (ss : Ports) (p q : ℕ) (xs ys : List Item) (x : Item) → (ss p).items ≡ xs ++ x ∷ ys
    → AreOutlasted base ss n p xs → q < n → q ≢ p → (ss q).mark ≡ whole → EndsBy base ss p x q → shortened n base ss p ≡ whole_stream xs
closes_with_shortest n base ss p q xs ys x is all lt ne w e =
    ap (λ (zs : List Item). kept_by (fate_to base (λ r. furthest 0 (ss r).items) (λ r. (ss r).mark) p n) zs (ss p).mark) is
    ∙ closes_at base ss p n xs ys x (ss p).mark all (is_held base ss p n q x lt ne e w)

-- ---- the broken rule

-- the stream where nothing more comes
abbrev ended_mark : Mark → Mark
ended_mark still_open = whole
ended_mark whole = whole
ended_mark broken = broken

abbrev ended : Flow → Flow
ended s = record { items = s.items; mark = ended_mark s.mark }

abbrev ended_fate : Fate → Fate
ended_fate Kept = Kept
ended_fate (Held m) = Held (ended_mark m)

held_ended : (m n : Mark) → held_by (ended_mark m) (ended_mark n) ≡ ended_mark (held_by m n)
held_ended still_open still_open = refl
held_ended still_open whole = refl
held_ended still_open broken = refl
held_ended whole still_open = refl
held_ended whole whole = refl
held_ended whole broken = refl
held_ended broken still_open = refl
held_ended broken whole = refl
held_ended broken broken = refl

both_ended : (f g : Fate) → both (ended_fate f) (ended_fate g) ≡ ended_fate (both f g)
both_ended Kept g = refl
both_ended (Held m) Kept = refl
both_ended (Held m) (Held n) = ap Held (held_ended m n)

by_ended : (self b : Bool) (m : Mark) → cond self Kept (cond b Kept (Held (ended_mark m))) ≡ ended_fate (cond self Kept (cond b Kept (Held m)))
by_ended true b m = refl
by_ended false true m = refl
by_ended false false m = refl

-- the first so many streams, where nothing more comes
ended_to : ℕ → List Flow → List Flow
ended_to zero ss = ss
ended_to (suc k) [] = ended nothing ∷ ended_to k []
ended_to (suc k) (s ∷ ss) = ended s ∷ ended_to k ss

ended_at : (k : ℕ) (ss : List Flow) (q : ℕ) → q < k → stream_at (ended_to k ss) q ≡ ended (stream_at ss q)
unfolding ended_to
ended_at zero ss q lt = absurd (omega (arith, lt))
ended_at (suc k) [] zero lt = refl
ended_at (suc k) [] (suc q) lt = ended_at k [] q (omega (arith, lt))
ended_at (suc k) (s ∷ ss) zero lt = refl
ended_at (suc k) (s ∷ ss) (suc q) lt = ended_at k ss q (omega (arith, lt))

mark_above : (xs : List Item) (m : Mark) → LiesBelow {A = Item} (record { items = xs; mark = m }) (record { items = xs; mark = ended_mark m })
mark_above xs still_open = inr (refl, prefix_self xs)
mark_above xs whole = inl refl
mark_above xs broken = inl refl

ended_above : (k : ℕ) (ss : List Flow) → AllBelow ss (ended_to k ss)
unfolding ended_to
ended_above zero ss q = below_self (stream_at ss q)
ended_above (suc k) [] zero = mark_above [] still_open
ended_above (suc k) [] (suc q) = ended_above k [] q
ended_above (suc k) (s ∷ ss) zero = mark_above s.items s.mark
ended_above (suc k) (s ∷ ss) (suc q) = ended_above k ss q

soft_mark : (m : Mark) → SofterMark m (opened_mark m)
soft_mark still_open = inl refl
soft_mark whole = inl refl
soft_mark broken = inr (refl, refl)

whole_both : (m k : Mark) → SofterMark m k → (m ≡ whole) ↔ (k ≡ whole)
whole_both m k (inl e) = (λ w. e ∙ w, λ w. sym e ∙ w)
whole_both m k (inr h) = (λ w. let clash : broken ≡ whole = sym h.0 ∙ w in cc, λ w. let clash : still_open ≡ whole = sym h.1 ∙ w in cc)

opened_ports : (ss : List Flow) → ◌≡◌ {A = Ports} (λ q. stream_at (map opened ss) q) (λ q. opened (stream_at ss q))
opened_ports ss i q = stream_at-opened ss q i

held_broken : (m k : Mark) → held_by m k ≡ broken → m ≡ broken
held_broken still_open still_open e = cc
held_broken still_open whole e = cc
held_broken still_open broken e = cc
held_broken whole k e = cc
held_broken broken k e = refl

held_mark : (m k : Mark) → Held m ≡ Held k → m ≡ k
held_mark m k e = cc

broken_of : (f g : Fate) → both f g ≡ Held broken → (f ≡ Held broken) ⊎ (g ≡ Held broken)
broken_of Kept g e = inr e
broken_of (Held m) Kept e = inl e
broken_of (Held m) (Held k) e = inl (ap Held (held_broken m k (held_mark (held_by m k) broken e)))

by_broken : (self b : Bool) (m : Mark) → cond self Kept (cond b Kept (Held m)) ≡ Held broken → m ≡ broken
by_broken true b m e = cc
by_broken false true m e = cc
by_broken false false m e = held_mark m broken e

kept_broken : (f : Item → Fate) (xs : List Item) (m : Mark) → (kept_by f xs m).mark ≡ broken → (m ≡ broken) ⊎ ((x : Item) × (f x ≡ Held broken))
kept_broken f [] m e = inl e
kept_broken f (x ∷ xs) m e = at (f x) refl e (λ h. kept_broken f xs m h)
  where
    at : (k : Fate) → f x ≡ k → (put_kept k x (kept_by f xs m)).mark ≡ broken
        → ((kept_by f xs m).mark ≡ broken → (m ≡ broken) ⊎ ((y : Item) × (f y ≡ Held broken))) → (m ≡ broken) ⊎ ((y : Item) × (f y ≡ Held broken))
    at Kept i h later = later h
    at (Held w) i h later = inr (x, i ∙ ap Held h)

module _ (n : ℕ) (base : ℕ → Fraction) (p : ℕ) where
  abbrev told : List Flow → Flow
  told ss = shortened n base (stream_at ss) p

  soft_ports : (ss : Ports) → SofterFlow (shortened n base ss p) (shortened n base (λ q. opened (ss q)) p)
  soft_ports ss =
      kept_softer (fate_to base (λ q. furthest 0 (ss q).items) (λ q. (ss q).mark) p n)
      (fate_to base (λ q. furthest 0 (ss q).items) (λ q. opened_mark (ss q).mark) p n)
      (λ x. fate_softer base (λ q. furthest 0 (ss q).items) (λ q. (ss q).mark) (λ q. opened_mark (ss q).mark) p n x (λ q. soft_mark (ss q).mark))
      (ss p).items (ss p).mark (opened_mark (ss p).mark) (soft_mark (ss p).mark)

  soft : (ss : List Flow) → SofterFlow (told ss) (told (map opened ss))
  soft ss = subst (λ (f : Ports). SofterFlow (told ss) (shortened n base f p)) (sym (opened_ports ss)) (soft_ports (stream_at ss))

  further : (ss ts : List Flow) → AllBelow ss ts → LiesBelow (told ss) (told ts)
  further ss ts h =
      kept_below (fate_to base (λ q. furthest 0 (stream_at ss q).items) (λ q. (stream_at ss q).mark) p n)
      (fate_to base (λ q. furthest 0 (stream_at ts q).items) (λ q. (stream_at ts q).mark) p n)
      (λ x. fate_refines base (λ q. furthest 0 (stream_at ss q).items) (λ q. furthest 0 (stream_at ts q).items) (λ q. (stream_at ss q).mark) (λ q. (stream_at ts q).mark)
      p n x (λ q lt. flow_further 0 (stream_at ss q) (stream_at ts q) (h q)))
      (stream_at ss p) (stream_at ts p) (h p)

  fate_broken : (ss : Ports) (k : ℕ) (x : Item) → fate_to base (λ q. furthest 0 (ss q).items) (λ q. (ss q).mark) p k x ≡ Held broken → (q : ℕ) × ((ss q).mark ≡ broken)
  fate_broken ss zero x e = cc
  fate_broken ss (suc k) x e =
      elim (broken_of (fate_to base (λ q. furthest 0 (ss q).items) (λ q. (ss q).mark) p k x) (fate_by base (λ q. furthest 0 (ss q).items) (λ q. (ss q).mark) p k x) e)
      as (λ _. (q : ℕ) × ((ss q).mark ≡ broken)) [
        | inl h ↦ fate_broken ss k x h
        | inr h ↦ (k, by_broken (k == p) (is_before (start_ticks x) (base p) (furthest 0 (ss k).items) (base k)) (ss k).mark h)
      ]

  some_broken : (ss : List Flow) → (told ss).mark ≡ broken → (q : ℕ) × ((stream_at ss q).mark ≡ broken)
  some_broken ss e =
      elim (kept_broken (fate_to base (λ q. furthest 0 (stream_at ss q).items) (λ q. (stream_at ss q).mark) p n) (stream_at ss p).items (stream_at ss p).mark e)
      as (λ _. (q : ℕ) × ((stream_at ss q).mark ≡ broken)) [
        | inl h ↦ (p, h)
        | inr h ↦ fate_broken (stream_at ss) n h.0 h.1
      ]

  breaks_off : (ss : List Flow) → (told ss).mark ≡ broken → IsBrokenOff (λ (rs : List Flow). Unit {0}) told ss
  breaks_off ss e = record {
    input = some_broken ss e;
    not_whole = λ w. let clash : broken ≡ whole = sym e ∙ w in cc;
    no_further = λ ts m above.
        let same : told ss ≡ told ts = closed_below (told ss) (told ts) (further ss ts above) (λ o. let clash : broken ≡ still_open = sym e ∙ o in cc) in
        (ap (λ (s : Flow). s.items) (sym same), λ w. let clash : broken ≡ whole = sym e ∙ (ap (λ (s : Flow). s.mark) same ∙ w) in cc);
  }

  -- ---- where no open stream goes on

  -- these streams are those, of which the first so many go on no further
  record EndAs (k : ℕ) (ss ts : Ports) : Type 0 where
    items : (q : ℕ) → q < k → (ts q).items ≡ (ss q).items
    marks : (q : ℕ) → q < k → (ts q).mark ≡ ended_mark (ss q).mark

  fate_ended : (k : ℕ) (ss ts : Ports) (x : Item) → EndAs k ss ts
      → fate_to base (λ q. furthest 0 (ts q).items) (λ q. (ts q).mark) p k x ≡ ended_fate (fate_to base (λ q. furthest 0 (ss q).items) (λ q. (ss q).mark) p k x)
  fate_ended zero ss ts x h = refl
  fate_ended (suc k) ss ts x h =
      ap (λ (f : Fate). both f (fate_by base (λ q. furthest 0 (ts q).items) (λ q. (ts q).mark) p k x))
      (fate_ended k ss ts x (record { items = λ q lt. h.items q (omega (arith, lt)); marks = λ q lt. h.marks q (omega (arith, lt)) }))
      ∙ (ap (λ (g : Fate). both (ended_fate (fate_to base (λ q. furthest 0 (ss q).items) (λ q. (ss q).mark) p k x)) g)
      (ap (λ (xs : List Item). cond (k == p) Kept (cond (is_before (start_ticks x) (base p) (furthest 0 xs) (base k)) Kept (Held (ts k).mark))) (h.items k (omega arith))
      ∙ (ap (λ (m : Mark). cond (k == p) Kept (cond (is_before (start_ticks x) (base p) (furthest 0 (ss k).items) (base k)) Kept (Held m))) (h.marks k (omega arith))
      ∙ by_ended (k == p) (is_before (start_ticks x) (base p) (furthest 0 (ss k).items) (base k)) (ss k).mark))
      ∙ both_ended (fate_to base (λ q. furthest 0 (ss q).items) (λ q. (ss q).mark) p k x) (fate_by base (λ q. furthest 0 (ss q).items) (λ q. (ss q).mark) p k x))

  put_ended : (f : Fate) (x : Item) (t : Flow) → put_kept (ended_fate f) x (ended t) ≡ ended (put_kept f x t)
  put_ended Kept x t = refl
  put_ended (Held m) x t = refl

  kept_ended : (f g : Item → Fate) → ((x : Item) → g x ≡ ended_fate (f x)) → (xs : List Item) (m : Mark) → kept_by g xs (ended_mark m) ≡ ended (kept_by f xs m)
  kept_ended f g h [] m = refl
  kept_ended f g h (x ∷ xs) m =
      ap (λ (k : Fate). put_kept k x (kept_by g xs (ended_mark m))) (h x)
      ∙ (ap (λ (s : Flow). put_kept (ended_fate (f x)) x s) (kept_ended f g h xs m) ∙ put_ended (f x) x (kept_by f xs m))

  told_ended : (k : ℕ) (ss ts : Ports) → n < k → p < k → EndAs k ss ts → shortened n base ts p ≡ ended (shortened n base ss p)
  told_ended k ss ts few there h =
      ap (λ (xs : List Item). kept_by (fate_to base (λ q. furthest 0 (ts q).items) (λ q. (ts q).mark) p n) xs (ts p).mark) (h.items p there)
      ∙ (ap (λ (m : Mark). kept_by (fate_to base (λ q. furthest 0 (ts q).items) (λ q. (ts q).mark) p n) (ss p).items m) (h.marks p there)
      ∙ kept_ended (fate_to base (λ q. furthest 0 (ss q).items) (λ q. (ss q).mark) p n) (fate_to base (λ q. furthest 0 (ts q).items) (λ q. (ts q).mark) p n)
      (λ x. fate_ended n ss ts x (record { items = λ q lt. h.items q (omega (arith, lt, few)); marks = λ q lt. h.marks q (omega (arith, lt, few)) }))
      (ss p).items (ss p).mark)

  is_broken_off : (ss : List Flow) (m : Mark) → (told ss).mark ≡ m → IsBrokenOff (λ (rs : List Flow). Unit {0}) told ss → m ≡ broken
  is_broken_off ss whole e b = absurd (b.not_whole e)
  is_broken_off ss broken e b = refl
  is_broken_off ss still_open e b =
      let same : EndAs (n + (p + 1)) (stream_at ss) (stream_at (ended_to (n + (p + 1)) ss)) = record {
        items = λ q lt. ap (λ (s : Flow). s.items) (ended_at (n + (p + 1)) ss q lt);
        marks = λ q lt. ap (λ (s : Flow). s.mark) (ended_at (n + (p + 1)) ss q lt);
      } in
      absurd ((b.no_further (ended_to (n + (p + 1)) ss) tt (ended_above (n + (p + 1)) ss)).1
      (ap (λ (s : Flow). s.mark) (told_ended (n + (p + 1)) (stream_at ss) (stream_at (ended_to (n + (p + 1)) ss)) (omega arith) (omega arith) same)
      ∙ ap ended_mark e))

  pub keeps_rule : KeepsBrokenRule (λ (ss : List Flow). Unit {0}) (λ (ss : List Flow). shortened n base (stream_at ss) p)
  keeps_rule = record {
    items = λ ss m. (soft ss).0;
    wholeness = λ ss m. whole_both (told ss).mark (told (map opened ss)).mark (soft ss).1;
    breaks = λ ss m. (λ e. breaks_off ss e, λ b. is_broken_off ss (told ss).mark refl b);
  }
