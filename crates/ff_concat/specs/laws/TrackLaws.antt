-- The laws of the machine of segments one after another.
use Rattle.std.specs.Prelude.{◌≡◌, ◌≢◌, ℕ, zero, suc, ◌+◌, ◌-◌, ◌*◌, ◌<◌, ◌≤◌, ◌⊎◌, Bool, true, false, ◌||◌, ◌&&◌, cond, nat_lt, List, [], ◌∷◌, length, refl}
use Rattle.std.specs.List.{All}
use Rattle.std.proofs.Common.{inl, inr, ap, sym, ◌∙◌, subst, arith}
use Rattle.std.proofs.lemmas.Bool.{and_parts, and_from, or_left, or_right, or_cases}
use Rattle.std.proofs.lemmas.Bool.Decides.{nat_tests}
use Rattle.std.proofs.lemmas.List.{length-append}
use Rattle.std.proofs.Math.Nat.{mul-le-mul_right}
use Rattle.ff_stream.specs.declared.item.Item.{Item}
use Rattle.ff_stream.specs.declared.item.Item.TheVariants.{End, Broken}
use Rattle.ff_stream.specs.declared.item.Lane.{Lane}
use Rattle.ff_stream.specs.declared.item.Lane.TheVariants.{Frames}
use Rattle.ff_stream.specs.Stream.{Mark, still_open, whole, broken, LiesBelow, opened, opened_mark, has_closed}
use Rattle.ff_stream.specs.Ports.{nothing, IsClosed}
use Rattle.ff_stream.specs.laws.Order.{below_self, below_trans, nothing_below}
use Rattle.ff_stream.specs.Within.{passes_limits}
use Rattle.ff_filter.specs.declared.after.After.{After}
use Rattle.ff_filter.specs.declared.after.After.TheVariants.{More, Whole, Broke}
use Rattle.ff_filter.specs.Joins.{Flow, Ports, silence, one, before_all, before_all-keeps, before_all-opened, before_all-closed, Grows, HidesBreaks}
use Rattle.ff_filter.specs.Views.{Settles, IsOver, IsSpent, AllDone}
use Rattle.ff_filter.specs.Made.{behind, is_over, waiting}
use Rattle.ff_filter.specs.laws.Runs.{no_more, run_below, run_calm, run_settles}
use Rattle.ff_filter.specs.laws.Limits.{limit_step, limited}
use Rattle.ff_filter.specs.laws.StepperLaws.{behind_closed}
use Rattle.ff_concat.specs.declared.reach.Reach.{Reach}
use Rattle.ff_concat.specs.declared.track.Track.{Track}
use Rattle.ff_concat.specs.declared.concat.Concat.{Concat}
use Rattle.ff_concat.specs.Tails.{Tail, both, together}
use Rattle.ff_concat.specs.Concats.{in_order}
use Rattle.ff_concat.specs.ConcatOptions.{repeated}
use Rattle.ff_concat.specs.laws.ConcatLaws.{TailBelow, KeepsWhole, in_order-keeps, in_order-calm, in_order-closed}
use Rattle.ff_concat.specs.laws.Cuts.{limited_closes, in_order-closes}
use Rattle.ff_concat.specs.laws.Tracks.{after_at, end_at, tail_on, tails, own, output_of, still_made}
use Rattle.ff_concat.specs.laws.Queues.{queue_at}
use Rattle.ff_concat.specs.laws.Tracks.{gives_at, ended_at, stopped_at, lanes_of, concat_view, still_gives, closed_from, cut_from, is_done, each_done}

pub waiting_keeps : (queue : List Item) (after : After) (r s : Flow) → LiesBelow r s → LiesBelow (waiting queue after r) (waiting queue after s)
waiting_keeps queue More r s h = before_all-keeps queue r s h
waiting_keeps queue Whole r s h = below_self (before_all queue (one End))
waiting_keeps queue Broke r s h = below_self (before_all queue (one Broken))

waiting_calm : (queue : List Item) (after : After) (r s : Flow) → LiesBelow (opened r) s
    → LiesBelow (opened (waiting queue after r)) (waiting queue after s)
waiting_calm queue More r s h = before_all-opened queue r s h
waiting_calm queue Whole r s h = before_all-opened queue (one End) (one End) (below_self (one End))
waiting_calm queue Broke r s h = before_all-opened queue (one Broken) (one Broken) (nothing_below (one Broken))

pub tail_keeps : (e : ℕ) (a : After) (r s : Flow) → LiesBelow r s → TailBelow (tail_on e a r) (tail_on e a s)
tail_keeps e More r s (inl h) = inl (ap (λ (t : Flow). tail_on e More t) h)
tail_keeps e More r s (inr h) = inr h.0
tail_keeps e Whole r s h = inl refl
tail_keeps e Broke r s h = inl refl

mark_calm : (m : Mark) → m ≡ whole → opened_mark m ≡ m
mark_calm still_open e = refl
mark_calm whole e = refl
mark_calm broken e = cc

pub tail_calm : (e : ℕ) (a : After) (r : Flow) → KeepsWhole (tail_on e a r) (tail_on e a (opened r))
tail_calm e More r h = ap (λ (m : Mark). let t : Tail = record { end = (tail_on e More r).end; mark = m } in t) (sym (mark_calm r.mark h))
tail_calm e Whole r h = refl
tail_calm e Broke r h = cc

mark_closed : (e : ℕ) (a : After) (t : Flow) → (is_over a ≡ true) ⊎ IsClosed t → (tail_on e a t).mark ≢ still_open
mark_closed e More t (inl h) = cc
mark_closed e More t (inr h) = h
mark_closed e Whole t h = λ f. cc
mark_closed e Broke t h = λ f. cc

both_closed : (m n : Mark) → m ≢ still_open → n ≢ still_open → both m n ≢ still_open
both_closed still_open n c d = absurd (c refl)
both_closed whole n c d = d
both_closed broken n c d = λ e. cc

together_closed : (w p : ℕ) (ts : ℕ → Tail) → ((j : ℕ) → j < w → (ts (p + j)).mark ≢ still_open) → together w p ts ≢ still_open
together_closed zero p ts h = λ e. cc
together_closed (suc w) p ts h = both_closed (together w p ts) (ts (p + w)).mark (together_closed w p ts (λ j lt. h j (omega (arith, lt)))) (h w (omega arith))

-- stream q of segment k of n is there
pub port_there : (w k q n : ℕ) → k < n → q < w → k * w + q < n * w
port_there w k q n lt here = let m : (k + 1) * w ≤ n * w = mul-le-mul_right w (let l : k + 1 ≤ n = omega (arith, lt) in l) in omega (arith, m, here)

module _ (tick_list : List ℕ) (q : ℕ) (t : Track) (rs : List Reach) where
  pub made_keeps : q < length tick_list → (ext more : Ports) → ((p : ℕ) → LiesBelow (ext p) (more p))
      → LiesBelow (still_made tick_list q t.head t.tick t.backlogs.items t.before t.current t.begin t.end rs ext)
      (still_made tick_list q t.head t.tick t.backlogs.items t.before t.current t.begin t.end rs more)
  made_keeps there ext more h =
      let bs = t.backlogs.items in
      let w = length tick_list in
      let n = length bs - t.current in
      let out = output_of t.head t.tick q in
      run_below (limit_step (passes_limits (Frames t.head))) no_more t.before
      (in_order tick_list out n t.current t.begin t.end (own bs rs w q ext) (tails rs ext))
      (in_order tick_list out n t.current t.begin t.end (own bs rs w q more) (tails rs more))
      (in_order-keeps tick_list out there n t.current t.begin t.end (own bs rs w q ext) (own bs rs w q more) (tails rs ext) (tails rs more)
      (λ k. waiting_keeps (queue_at bs k) (after_at rs (k * w + q)) (ext (k * w + q)) (more (k * w + q)) (h (k * w + q)))
      (λ p. tail_keeps (end_at rs p) (after_at rs p) (ext p) (more p) (h p)))

  made_calm : q < length tick_list → (ext : Ports)
      → LiesBelow (opened (still_made tick_list q t.head t.tick t.backlogs.items t.before t.current t.begin t.end rs ext))
      (still_made tick_list q t.head t.tick t.backlogs.items t.before t.current t.begin t.end rs (λ p. opened (ext p)))
  made_calm there ext =
      let more : Ports = λ p. opened (ext p) in
      let bs = t.backlogs.items in
      let w = length tick_list in
      let n = length bs - t.current in
      let out = output_of t.head t.tick q in
      let passes = passes_limits (Frames t.head) in
      let r = in_order tick_list out n t.current t.begin t.end (own bs rs w q ext) (tails rs ext) in
      let s = in_order tick_list out n t.current t.begin t.end (own bs rs w q more) (tails rs more) in
      let calm : LiesBelow (opened r) s =
      in_order-calm tick_list out there n t.current t.begin t.end (own bs rs w q ext) (own bs rs w q more) (tails rs ext) (tails rs more)
      (λ k. waiting_calm (queue_at bs k) (after_at rs (k * w + q)) (ext (k * w + q)) (more (k * w + q)) (below_self (more (k * w + q))))
      (λ p. tail_calm (end_at rs p) (after_at rs p) (ext p)) in
      below_trans (opened (limited passes t.before r)) (limited passes t.before (opened r)) (limited passes t.before s)
      (run_calm (limit_step passes) no_more t.before r) (run_below (limit_step passes) no_more t.before (opened r) s calm)

  made_closed : q < length tick_list → (n : ℕ) → length t.backlogs.items ≡ n → (ext : Ports)
      → ((p : ℕ) → p < n * length tick_list → (is_over (after_at rs p) ≡ true) ⊎ IsClosed (ext p))
      → IsClosed (still_made tick_list q t.head t.tick t.backlogs.items t.before t.current t.begin t.end rs ext)
  made_closed there n long ext h =
      let bs = t.backlogs.items in
      let w = length tick_list in
      let out = output_of t.head t.tick q in
      let inside = t.there in
      run_settles (limit_step (passes_limits (Frames t.head))) no_more t.before
      (in_order tick_list out (length bs - t.current) t.current t.begin t.end (own bs rs w q ext) (tails rs ext))
      (in_order-closed tick_list out (length bs - t.current) t.current t.begin t.end (own bs rs w q ext) (tails rs ext)
      (λ k le lt.
      let here : k < n = omega (arith, le, lt, long, inside) in (
        before_all-closed (queue_at bs k) (behind (after_at rs (k * w + q)) (ext (k * w + q)))
            (behind_closed (after_at rs (k * w + q)) (ext (k * w + q)) (h (k * w + q) (port_there w k q n here there))),
        together_closed w (k * w) (tails rs ext)
            (λ j l. mark_closed (end_at rs (k * w + j)) (after_at rs (k * w + j)) (ext (k * w + j)) (h (k * w + j) (port_there w k j n here l))),
      )))

gives_if : (b : Bool) (r s : Flow) → LiesBelow r s → LiesBelow (cond b nothing r) (cond b nothing s)
gives_if true r s h = below_self nothing
gives_if false r s h = h

calm_if : (b : Bool) (r s : Flow) → LiesBelow (opened r) s → LiesBelow (opened (cond b nothing r)) (cond b nothing s)
calm_if true r s h = below_self nothing
calm_if false r s h = h

closed_if : (b : Bool) (s : Flow) → IsClosed s → (b ≡ true) ⊎ IsClosed (cond b nothing s)
closed_if true s c = inl refl
closed_if false s c = inr c

quiet_if : (b : Bool) (s : Flow) → b ≡ true → cond b nothing s ≡ nothing
quiet_if true s e = refl
quiet_if false s e = cc

pub gives-keeps : (tick_list : List ℕ) (q : ℕ) (ts : List Track) (i : ℕ) (rs : List Reach) → (i < length ts → q < length tick_list) → (ext more : Ports)
    → ((p : ℕ) → LiesBelow (ext p) (more p)) → LiesBelow (gives_at tick_list q ts i rs ext) (gives_at tick_list q ts i rs more)
gives-keeps tick_list q [] i rs there ext more h = below_self nothing
gives-keeps tick_list q (t ∷ ts) zero rs there ext more h =
    gives_if t.ended (still_made tick_list q t.head t.tick t.backlogs.items t.before t.current t.begin t.end rs ext)
    (still_made tick_list q t.head t.tick t.backlogs.items t.before t.current t.begin t.end rs more)
    (made_keeps tick_list q t rs (there (omega arith)) ext more h)
gives-keeps tick_list q (t ∷ ts) (suc i) rs there ext more h = gives-keeps tick_list q ts i rs (λ lt. there (omega (arith, lt))) ext more h

gives-calm : (tick_list : List ℕ) (q : ℕ) (ts : List Track) (i : ℕ) (rs : List Reach) → (i < length ts → q < length tick_list) → (ext : Ports)
    → LiesBelow (opened (gives_at tick_list q ts i rs ext)) (gives_at tick_list q ts i rs (λ p. opened (ext p)))
gives-calm tick_list q [] i rs there ext = below_self nothing
gives-calm tick_list q (t ∷ ts) zero rs there ext =
    calm_if t.ended (still_made tick_list q t.head t.tick t.backlogs.items t.before t.current t.begin t.end rs ext)
    (still_made tick_list q t.head t.tick t.backlogs.items t.before t.current t.begin t.end rs (λ p. opened (ext p)))
    (made_calm tick_list q t rs (there (omega arith)) ext)
gives-calm tick_list q (t ∷ ts) (suc i) rs there ext = gives-calm tick_list q ts i rs (λ lt. there (omega (arith, lt))) ext

pub gives-closed : (tick_list : List ℕ) (q n : ℕ) (ts : List Track) (i : ℕ) (rs : List Reach) → i < length ts → q < length tick_list
    → All (λ (t : Track). length t.backlogs.items ≡ n) ts → (ext : Ports)
    → ((p : ℕ) → p < n * length tick_list → (is_over (after_at rs p) ≡ true) ⊎ IsClosed (ext p))
    → (ended_at ts i ≡ true) ⊎ IsClosed (gives_at tick_list q ts i rs ext)
gives-closed tick_list q n [] i rs lt there each ext h = absurd (omega arith)
gives-closed tick_list q n (t ∷ ts) zero rs lt there each ext h =
    closed_if t.ended (still_made tick_list q t.head t.tick t.backlogs.items t.before t.current t.begin t.end rs ext)
    (made_closed tick_list q t rs there n (each zero t (omega arith)) ext h)
gives-closed tick_list q n (t ∷ ts) (suc i) rs lt there each ext h =
    gives-closed tick_list q n ts i rs (omega (arith, lt)) there (λ k d l. each (suc k) d (omega (arith, l))) ext h

pub gives-quiet : (tick_list : List ℕ) (q : ℕ) (ts : List Track) (i : ℕ) (rs : List Reach) (ext : Ports) → ended_at ts i ≡ true
    → gives_at tick_list q ts i rs ext ≡ nothing
gives-quiet tick_list q [] i rs ext e = refl
gives-quiet tick_list q (t ∷ ts) zero rs ext e = quiet_if t.ended (still_made tick_list q t.head t.tick t.backlogs.items t.before t.current t.begin t.end rs ext) e
gives-quiet tick_list q (t ∷ ts) (suc i) rs ext e = gives-quiet tick_list q ts i rs ext e

pub repeated-length : (n : ℕ) (lanes : List Lane) → length (repeated n lanes) ≡ n * length lanes
repeated-length zero lanes = omega arith
repeated-length (suc n) lanes = let e = repeated-length n lanes in let f = length-append lanes (repeated n lanes) in omega (arith, e, f)

pub lanes-length : (ts : List Track) → length (lanes_of ts) ≡ length ts
lanes-length [] = refl
lanes-length (t ∷ ts) = let e = lanes-length ts in omega (arith, e)

-- nothing more of input p can matter: it has closed, or there are outputs, and nothing more is to come of each
abbrev pub concat_spent : Concat → ℕ → Bool
concat_spent m p = is_over (after_at m.reaches.items p) || (nat_lt 0 (length m.tracks.items) && each_done m.ticks.items 0 m.tracks.items m.reaches.items)

closed_is : (m : Mark) → has_closed m ≡ true → m ≢ still_open
closed_is still_open e = cc
closed_is whole e = λ o. cc
closed_is broken e = λ o. cc

is_closed : (m : Mark) → m ≢ still_open → has_closed m ≡ true
is_closed still_open c = absurd (c refl)
is_closed whole c = refl
is_closed broken c = refl

-- what came so far closes an output that goes on, exactly
abbrev over_of : List ℕ → ℕ → Track → List Reach → Bool
over_of tick_list q t rs = cut_from tick_list q t rs t.before t.current t.begin t.end || closed_from t rs (length tick_list) q t.current

made_closes : (tick_list : List ℕ) (q : ℕ) (t : Track) (rs : List Reach)
    → has_closed (still_made tick_list q t.head t.tick t.backlogs.items t.before t.current t.begin t.end rs silence).mark ≡ over_of tick_list q t rs
made_closes tick_list q t rs =
    let bs = t.backlogs.items in
    let out = output_of t.head t.tick q in
    let n = length bs - t.current in
    limited_closes (passes_limits (Frames t.head)) t.before
    (in_order tick_list out n t.current t.begin t.end (own bs rs (length tick_list) q silence) (tails rs silence))
    ∙ ap (λ (b : Bool). cut_from tick_list q t rs t.before t.current t.begin t.end || b)
    (in_order-closes tick_list out n t.current t.begin t.end (own bs rs (length tick_list) q silence) (tails rs silence))

over_if : (d o : Bool) (s : Flow) → (d || o) ≡ true → (o ≡ true → IsClosed s) → (d ≡ true) ⊎ IsClosed (cond d nothing s)
over_if true o s e h = inl refl
over_if false o s e h = inr (h e)

if_over : (d o : Bool) (s : Flow) → (IsClosed s → o ≡ true) → (d ≡ true) ⊎ IsClosed (cond d nothing s) → (d || o) ≡ true
if_over true o s h c = refl
if_over false o s h (inl e) = cc
if_over false o s h (inr c) = h c

-- an output that is wanted is over, where nothing more is to come of each
over_at : (tick_list : List ℕ) (q first : ℕ) (ts : List Track) (i : ℕ) (rs : List Reach) → i < length ts → q ≡ first + i → each_done tick_list first ts rs ≡ true
    → stopped_at ts i ≡ false → (ended_at ts i ≡ true) ⊎ IsClosed (gives_at tick_list q ts i rs silence)
over_at tick_list q first [] i rs lt f e s = absurd (omega arith)
over_at tick_list q first (t ∷ ts) zero rs lt f e s =
    let here : q ≡ first = omega (arith, f) in
    let done = and_parts (is_done tick_list t rs first) (each_done tick_list (first + 1) ts rs) e in
    let made = still_made tick_list q t.head t.tick t.backlogs.items t.before t.current t.begin t.end rs silence in
    over_if t.ended (over_of tick_list q t rs) made
    (subst (λ (k : ℕ). (t.ended || over_of tick_list k t rs) ≡ true) (sym here) (wanted t.stopped (t.ended || over_of tick_list first t rs) s done.0))
    (λ c. closed_is made.mark (made_closes tick_list q t rs ∙ c))
  where
    wanted : (a b : Bool) → a ≡ false → (a || b) ≡ true → b ≡ true
    wanted true b z y = cc
    wanted false b z y = y
over_at tick_list q first (t ∷ ts) (suc i) rs lt f e s =
    over_at tick_list q (first + 1) ts i rs (omega (arith, lt)) (omega (arith, f))
    (and_parts (is_done tick_list t rs first) (each_done tick_list (first + 1) ts rs) e).1 s

-- nothing more is to come of each output, where that is so of each that is wanted
all_over : (tick_list : List ℕ) (first : ℕ) (ts : List Track) (rs : List Reach)
    → ((i : ℕ) → i < length ts → stopped_at ts i ≡ false → (ended_at ts i ≡ true) ⊎ IsClosed (gives_at tick_list (first + i) ts i rs silence))
    → each_done tick_list first ts rs ≡ true
all_over tick_list first [] rs h = refl
all_over tick_list first (t ∷ ts) rs h = and_from (is_done tick_list t rs first) (each_done tick_list (first + 1) ts rs) (here t.stopped refl)
    (all_over tick_list (first + 1) ts rs (λ i lt on. subst (λ (k : ℕ). (ended_at ts i ≡ true) ⊎ IsClosed (gives_at tick_list k ts i rs silence))
    (let e : first + suc i ≡ first + 1 + i = omega arith in e) (h (suc i) (omega (arith, lt)) on)))
  where
    made : Flow
    made = still_made tick_list first t.head t.tick t.backlogs.items t.before t.current t.begin t.end rs silence

    at : t.stopped ≡ false → (t.ended ≡ true) ⊎ IsClosed (still_gives tick_list first t rs silence)
    at on = subst (λ (k : ℕ). (t.ended ≡ true) ⊎ IsClosed (still_gives tick_list k t rs silence)) (let e : first + 0 ≡ first = omega arith in e) (h zero (omega arith) on)

    here : (b : Bool) → t.stopped ≡ b → is_done tick_list t rs first ≡ true
    here true e = or_left t.stopped (t.ended || over_of tick_list first t rs) e
    here false e = or_right t.stopped (t.ended || over_of tick_list first t rs)
        (if_over t.ended (over_of tick_list first t rs) made (λ c. sym (made_closes tick_list first t rs) ∙ is_closed made.mark c) (at e))

module _ (m : Concat) where
  outputs_there : (q : ℕ) → q < length m.tracks.items → q < length m.ticks.items
  outputs_there q lt = let e = m.outputs in omega (arith, e, lt)

  outs : length (lanes_of m.tracks.items) ≡ length m.tracks.items
  outs = lanes-length m.tracks.items

  pub concat-grows : Grows (concat_view m).rest
  concat-grows rs ss h q = gives-keeps m.ticks.items q m.tracks.items q m.reaches.items (λ lt. outputs_there q lt) rs ss h

  pub concat-hides : HidesBreaks (concat_view m).rest
  concat-hides rs q = gives-calm m.ticks.items q m.tracks.items q m.reaches.items (λ lt. outputs_there q lt) rs

  pub concat-settles : Settles (concat_view m)
  concat-settles ext h q lt on =
      let e = m.outputs in
      let l = outs in
      let there : q < length m.tracks.items = omega (arith, lt, l) in
      let long : length (repeated m.segments (lanes_of m.tracks.items)) ≡ m.segments * length m.ticks.items =
      repeated-length m.segments (lanes_of m.tracks.items) ∙ ap (λ (k : ℕ). m.segments * k) (l ∙ sym e) in
      gives-closed m.ticks.items q m.segments m.tracks.items q m.reaches.items there (outputs_there q there) m.each ext
      (λ p less. h p (omega (arith, less, long)))

  pub concat-quiet : (q : ℕ) → ended_at m.tracks.items q ≡ true → (ext : Ports) → (concat_view m).rest ext q ≡ nothing
  concat-quiet q e ext = gives-quiet m.ticks.items q m.tracks.items q m.reaches.items ext e

  pub concat-spent_only : (p : ℕ) → concat_spent m p ≡ true → IsSpent (concat_view m) p
  concat-spent_only p e =
      let each = each_done m.ticks.items 0 m.tracks.items m.reaches.items in
      elim (or_cases (is_over (after_at m.reaches.items p)) (nat_lt 0 (length m.tracks.items) && each) e) as (λ _. IsSpent (concat_view m) p) [
        | inl s ↦ inl s
        | inr d ↦ (
            let k = and_parts (nat_lt 0 (length m.tracks.items)) each d in
            let l = outs in
            let lt : 0 < length m.tracks.items = (let f = k.0 in grind (arith, nat_tests)) in
            inr (omega (arith, l, lt), λ q less on. over_at m.ticks.items q 0 m.tracks.items q m.reaches.items (omega (arith, less, l)) (omega arith) k.1 on)
            )
      ]

  -- spent exactly where nothing more can matter
  pub concat-spent_if : (p : ℕ) → IsSpent (concat_view m) p → concat_spent m p ≡ true
  concat-spent_if p (inl s) = or_left (is_over (after_at m.reaches.items p))
      (nat_lt 0 (length m.tracks.items) && each_done m.ticks.items 0 m.tracks.items m.reaches.items) s
  concat-spent_if p (inr o) =
      let each = each_done m.ticks.items 0 m.tracks.items m.reaches.items in
      let l = outs in
      let z = o.0 in
      let lt : 0 < length m.tracks.items = omega (arith, l, z) in
      or_right (is_over (after_at m.reaches.items p)) (nat_lt 0 (length m.tracks.items) && each)
      (and_from (nat_lt 0 (length m.tracks.items)) each (let k : nat_lt 0 (length m.tracks.items) ≡ true = grind (arith, nat_tests) in k)
      (all_over m.ticks.items 0 m.tracks.items m.reaches.items
      (λ i less on. subst (λ (k : ℕ). (ended_at m.tracks.items i ≡ true) ⊎ IsClosed (gives_at m.ticks.items k m.tracks.items i m.reaches.items silence))
      (let e : i ≡ 0 + i = omega arith in e) (o.1 i (omega (arith, less, l)) on))))

  pub concat-shut_spent : (p : ℕ) → is_over (after_at m.reaches.items p) ≡ true → concat_spent m p ≡ true
  concat-shut_spent p e = concat-spent_if p (inl e)

  pub concat-done_spent : (p : ℕ) → 0 < length (concat_view m).outs → AllDone (concat_view m) → concat_spent m p ≡ true
  concat-done_spent p z d = concat-spent_if p (inr (
    z,
    λ q lt on. elim (d q lt) as (λ _. IsOver (concat_view m) q) [
      | inl e ↦ inl e
      | inr e ↦ (let clash : true ≡ false = sym e ∙ on in cc)
    ],
  ))
