-- What a machine that spreads what it makes does at each call.
use Rattle.std.proofs.Common.{All, ◌≡◌, ◌≢◌, ◌↔◌, ℕ, zero, suc, ◌<◌, ◌≤◌, ◌⊎◌, inl, inr, Bool, true, false, ◌||◌, List, [], ◌∷◌, ◌++◌, Option, None, Some, length, Ok, Err, refl, ap, sym, ◌∙◌, subst, arith, append_assoc}
use Rattle.std.specs.Result.{OnOk, OnErr}
use Rattle.std.specs.declared.result.Result.{Result}
use Rattle.std.proofs.lemmas.List.{append-nil}
use Rattle.ff_stream.specs.declared.item.Item.{Item}
use Rattle.ff_stream.specs.declared.item.Item.TheVariants.{Audio, Video, Packet, Trailer, End, Broken}
use Rattle.ff_stream.specs.declared.item.Lane.{Lane}
use Rattle.ff_stream.specs.Stream.{Mark, still_open, whole, broken, LiesBelow}
use Rattle.ff_stream.specs.Items.{Closes, with_item, Leads}
use Rattle.ff_stream.specs.laws.Order.{below_trans, closed_below, leads_below, leads_push, with_item_above, with_item_open, with_item_closed, nothing_below}
use Rattle.ff_stream.specs.Ports.{nothing, stream_at, IsClosed, IsUnbroken}
use Rattle.ff_stream.specs.Lanes.{FitsLane, IsItemFor, IsValid}
use Rattle.ff_stream.specs.Times.{HasTime}
use Rattle.ff_stream.specs.laws.LaneLaws.{nothing_valid}
use Rattle.ff_filter.specs.declared.after.After.{After}
use Rattle.ff_filter.specs.declared.after.After.TheVariants.{More, Whole, Broke}
use Rattle.ff_filter.specs.Joins.{joined, joined_at, one, joined_assoc, joined_nothing, joined_above, joined_closed}
use Rattle.ff_filter.specs.Made.{made_of, mark_after, is_over}
use Rattle.ff_node_codec.specs.declared.step.Step.{Step}
use Rattle.ff_node_codec.specs.declared.step.Step.TheVariants.{Puts, Passes}
use Rattle.ff_net.specs.Ways.{Flow, AreValid}
use Rattle.ff_net.specs.Pasts.{Task, Past, IsIn, due, fed, gave_item, was_asked, was_stopped, start}
use Rattle.ff_net.proofs.Flows.{same_or_not, stream_at-with_item_same, stream_at-with_item_other}
use Rattle.ff_node_codec.specs.Making.{Outcome, gives, passes, breaks, Making, by_items, and_items, or_damage, damage_in, mark_by, made_stream}
use Rattle.ff_node_codec.specs.laws.MakingLaws.{some_or_none}
use Rattle.ff_node_codec.specs.Spreads.{IsOutcomeOf, Carries, Makes, Line, spread, Spreads}
use Rattle.ff_node_codec.specs.laws.SpreadLaws.{at_replicate, spreads_due}
use Rattle.ff_node_codec.specs.declared.spread.Spread.{Spread}
use Rattle.ff_node_codec.specs.laws.Lines.{line_at, closing_items, first_items}
use Rattle.ff_node_codec.specs.laws.Standing.{at_first, IsSpreadTask, IsSameSpread, SpreadStands, first_damage}
use Rattle.ff_node_codec.specs.laws.Steps.{IsStepFor, FollowsFrom, IsPut, IsPutFor}

pub only_port : (p : ℕ) → p < 1 → p ≡ 0
only_port p lt = omega arith

-- ---- items of a stream

data_item : (t : Flow) (x : Item) → (Closes x → ⊥) → with_item t x ≡ record { items = t.items ++ x ∷ []; mark = t.mark }
data_item t (Audio f) c = refl
data_item t (Video f) c = refl
data_item t (Packet f) c = refl
data_item t (Trailer x) c = refl
data_item t End c = absurd (c tt)
data_item t Broken c = absurd (c tt)

all_last : (P : Item → Type 0) (xs : List Item) (x : Item) → All P (xs ++ x ∷ []) → P x
all_last P [] x a = a zero x (omega arith)
all_last P (y ∷ xs) x a = all_last P xs x (λ k d lt. a (suc k) d (omega arith))

-- the item that makes a stream valid fits the lane, unless it closes the stream
pub last_fits : (lane : Lane) (t : Flow) (x : Item) → IsValid lane (with_item t x) → (Closes x → ⊥) → FitsLane lane x
last_fits lane t x v c =
    (all_last (IsItemFor lane) t.items x (subst (λ (r : Flow). All (IsItemFor lane) r.items) (data_item t x c) v.shape.each)).fits

timed_goes_on : (x : Item) → HasTime x → Closes x → ⊥
timed_goes_on (Audio f) t c = c
timed_goes_on (Video f) t c = c
timed_goes_on (Packet p) t c = c
timed_goes_on (Trailer x) t c = c
timed_goes_on End t c = t
timed_goes_on Broken t c = t

-- ---- what is made of one item

pub joined_one : (t : Flow) (x : Item) → t.mark ≡ still_open → joined t (one x) ≡ with_item t x
joined_one t x o = at t.mark o x
  where
    at : (m : Mark) → m ≡ still_open → (x : Item) → joined_at t.items m (one x) ≡ with_item (record { items = t.items; mark = m }) x
    at whole e x = cc
    at broken e x = cc
    at still_open e (Audio f) = refl
    at still_open e (Video f) = refl
    at still_open e (Packet f) = refl
    at still_open e (Trailer f) = refl
    at still_open e End = ap (λ (xs : List Item). let r : Flow = record { items = xs; mark = whole } in r) (append-nil t.items)
    at still_open e Broken = ap (λ (xs : List Item). let r : Flow = record { items = xs; mark = broken } in r) (append-nil t.items)

data_one : (x : Item) → (Closes x → ⊥) → one x ≡ record { items = x ∷ []; mark = still_open }
data_one (Audio f) c = refl
data_one (Video f) c = refl
data_one (Packet f) c = refl
data_one (Trailer x) c = refl
data_one End c = absurd (c tt)
data_one Broken c = absurd (c tt)

-- an item with nothing behind it
pub put_one : (x : Item) → made_of (Some x) More ≡ one x
put_one x = joined_nothing (one x)

pub closes_or : (x : Item) → Closes x ⊎ (Closes x → ⊥)
closes_or (Audio f) = inr (λ c. c)
closes_or (Video f) = inr (λ c. c)
closes_or (Packet p) = inr (λ c. c)
closes_or (Trailer t) = inr (λ c. c)
closes_or End = inl tt
closes_or Broken = inl tt

module _ (f : Item → Outcome) (x : Item) where
  pub one_made : (o : Outcome) → (Closes x → ⊥) → f x ≡ o
      → made_stream f (one x) ≡ record { items = and_items o []; mark = mark_by (or_damage o None) still_open }
  one_made o c e =
      ap (λ (r : Flow). made_stream f r) (data_one x c)
      ∙ ap (λ (u : Outcome). let r : Flow = record { items = and_items u []; mark = mark_by (or_damage u None) still_open } in r) e

  pub one_damage : (o : Outcome) → (Closes x → ⊥) → f x ≡ o → damage_in f (one x).items ≡ or_damage o None
  one_damage o c e = ap (λ (r : Flow). damage_in f r.items) (data_one x c) ∙ ap (λ (u : Outcome). or_damage u None) e

closed_one : (f : Item → Outcome) (x : Item) → Closes x → (one x ≡ made_stream f (one x)) × (damage_in f (one x).items ≡ None)
closed_one f (Audio a) c = absurd c
closed_one f (Video a) c = absurd c
closed_one f (Packet a) c = absurd c
closed_one f (Trailer a) c = absurd c
closed_one f End c = (refl, refl)
closed_one f Broken c = (refl, refl)

-- how an item is put: what closes the input, a frame, or the break where it is damaged
pub data Putting (f : Item → Outcome) (x made : Item) (damage : Option ℕ) : Type 0 where
  closing : Closes made → damage ≡ None → Putting f x made damage
  going : (Closes made → ⊥) → damage ≡ None → Putting f x made damage
  breaking : made ≡ Broken → (offset : ℕ) → damage ≡ Some offset → Putting f x made damage

-- what is put for an item of the lane is what is made of it
pub record PutsFor (f : Item → Outcome) (x made : Item) (damage : Option ℕ) : Type 0 where
  pub stream : one made ≡ made_stream f (one x)
  pub found : damage ≡ damage_in f (one x).items
  pub how : Putting f x made damage

pub puts_for : (lane_in lane_out : Lane) (f : Item → Outcome) (x made : Item) (damage : Option ℕ) → Carries lane_in lane_out f
    → ((Closes x → ⊥) → FitsLane lane_in x) → IsPut f x made damage → PutsFor f x made damage
puts_for lane_in lane_out f x made damage c fits (inl k) = record {
  stream = ap (λ (y : Item). one y) k.1 ∙ (closed_one f x k.0).0;
  found = k.2 ∙ sym (closed_one f x k.0).1;
  how = closing (subst (λ (y : Item). Closes y) (sym k.1) k.0) k.2;
}
puts_for lane_in lane_out f x made damage c fits (inr k) = by (f x) refl (c.made x (fits k.0)) k.1
  where
    by : (o : Outcome) → f x ≡ o → IsOutcomeOf lane_out x o → IsPutFor o made damage → PutsFor f x made damage
    by (gives y) e m p =
        let goes : Closes y → ⊥ = timed_goes_on y (m.0).timed in
        record {
          stream = ap (λ (z : Item). one z) p.0 ∙ (data_one y goes ∙ sym (one_made f x (gives y) k.0 e));
          found = p.1 ∙ sym (one_damage f x (gives y) k.0 e);
          how = going (λ h. goes (subst (λ (z : Item). Closes z) p.0 h)) p.1;
        }
    by passes e m p = absurd p
    by (breaks offset) e m p = record {
      stream = ap (λ (z : Item). one z) p.0 ∙ sym (one_made f x (breaks offset) k.0 e);
      found = p.1 ∙ sym (one_damage f x (breaks offset) k.0 e);
      how = breaking p.0 offset p.1;
    }

-- a step that follows from an item is the step for it
pub step_for : (lane_in lane_out : Lane) (f : Item → Outcome) (x : Item) (step : Step) → Carries lane_in lane_out f
    → ((Closes x → ⊥) → FitsLane lane_in x) → FollowsFrom f x step → IsStepFor (by_items f) x step
step_for lane_in lane_out f x Passes c fits h = record {
  puts = sym (one_made f x passes h.0 h.1);
  damage = sym (one_damage f x passes h.0 h.1);
  once = tt;
}
step_for lane_in lane_out f x (Puts made after damage spare) c fits h =
    let p = puts_for lane_in lane_out f x made damage c fits h.1 in
    record {
      puts = ap (λ (a : After). made_of (Some made) a) h.0 ∙ (put_one made ∙ p.stream);
      damage = p.found;
      once = λ k. h.0;
    }

-- ---- what closes an output

not_both : (b : Bool) → b ≡ true → b ≡ false → ⊥
not_both b t e = let clash : true ≡ false = sym t ∙ e in cc

open_or : (m : Mark) → (m ≡ still_open) ⊎ (m ≢ still_open)
open_or still_open = inl refl
open_or whole = inr (λ e. cc)
open_or broken = inr (λ e. cc)

-- an item is put behind what was made, and what closes the output behind it
put_behind : (r : Flow) (made : Item) (after : After) → r.mark ≡ still_open
    → joined r (made_of (Some made) after) ≡ joined (with_item r made) (record { items = []; mark = mark_after after })
put_behind r made after o =
    sym (joined_assoc r (one made) (record { items = []; mark = mark_after after }))
    ∙ ap (λ (t : Flow). joined t (record { items = []; mark = mark_after after })) (joined_one r made o)

leads_two : (ys : List Item) (g r : Flow) (made : Item) (after : After) (last : Item) → one last ≡ record { items = []; mark = mark_after after }
    → r.mark ≡ still_open → (Closes made → ⊥) → Leads g ys r → Leads g (ys ++ made ∷ last ∷ []) (joined r (made_of (Some made) after))
leads_two ys g r made after last is o goes h =
    let more : (with_item r made).mark ≡ still_open = with_item_open r made goes o in
    let end : joined r (made_of (Some made) after) ≡ with_item (with_item r made) last =
    put_behind r made after o
    ∙ (ap (λ (t : Flow). joined (with_item r made) t) (sym is) ∙ joined_one (with_item r made) last more) in
    subst (λ (t : Flow). Leads g (ys ++ made ∷ last ∷ []) t) (sym end)
    (subst (λ (zs : List Item). Leads g zs (with_item (with_item r made) last)) (append_assoc ys (made ∷ []) (last ∷ []))
    (leads_push (ys ++ made ∷ []) g (with_item r made) last (leads_push ys g r made h o) more))

leads_put : (ys : List Item) (g r : Flow) (made : Item) (after : After) → r.mark ≡ still_open → (Closes made → after ≡ More) → Leads g ys r
    → Leads g (ys ++ made ∷ closing_items after) (joined r (made_of (Some made) after))
leads_put ys g r made More o once h =
    subst (λ (t : Flow). Leads g (ys ++ made ∷ []) t) (sym (put_behind r made More o ∙ joined_nothing (with_item r made))) (leads_push ys g r made h o)
leads_put ys g r made Whole o once h = leads_two ys g r made Whole End refl o (λ k. let clash : Whole ≡ More = once k in cc) h
leads_put ys g r made Broke o once h = leads_two ys g r made Broke Broken refl o (λ k. let clash : Broke ≡ More = once k in cc) h

is_closed : (r : Flow) (made : Item) (after : After) (closes : Bool) → r.mark ≡ still_open → (closes ≡ true) ↔ Closes made
    → ((closes || is_over after) ≡ true) ↔ IsClosed (joined r (made_of (Some made) after))
is_closed r made after closes o h = subst (λ (t : Flow). ((closes || is_over after) ≡ true) ↔ IsClosed t) (sym (put_behind r made after o)) (at after)
  where
    over_too : (b : Bool) → (b || true) ≡ true
    over_too true = refl
    over_too false = refl

    not_over : (b : Bool) → ((b || false) ≡ true) ↔ (b ≡ true)
    not_over true = (λ e. e, λ e. e)
    not_over false = (λ e. e, λ e. e)

    closed_so : IsClosed (with_item r made) → closes ≡ true
    closed_so k = elim (closes_or made) as (λ _. closes ≡ true) [
      | inl y ↦ h.1 y
      | inr m ↦ absurd (k (with_item_open r made m o))
    ]

    at : (a : After) → ((closes || is_over a) ≡ true) ↔ IsClosed (joined (with_item r made) (record { items = []; mark = mark_after a }))
    at More =
        subst (λ (t : Flow). ((closes || false) ≡ true) ↔ IsClosed t) (sym (joined_nothing (with_item r made)))
        (λ e. with_item_closed r made (h.0 ((not_over closes).0 e)), λ k. (not_over closes).1 (closed_so k))
    at Whole = (λ e. joined_closed (with_item r made) (record { items = []; mark = whole }) (λ z. cc), λ k. over_too closes)
    at Broke = (λ e. joined_closed (with_item r made) (record { items = []; mark = broken }) (λ z. cc), λ k. over_too closes)

-- ---- the calls

module _ (lane_in lane_out : Lane) (f : Making) (n : ℕ) (lines : ℕ → Line) (closed : Bool) (found : Option ℕ) (past : Past)
    (s : Spreads lane_in lane_out f n lines closed found past) where
  got_of : (x : Item) → stream_at (fed past 0 x).got 0 ≡ with_item (stream_at past.got 0) x
  got_of x = stream_at-with_item_same past.got 0 x

  others_fed : (x : Item) (p : ℕ) → 1 ≤ p → stream_at (fed past 0 x).got p ≡ nothing
  others_fed x p le = let other : p ≢ 0 = omega (arith, le) in stream_at-with_item_other past.got 0 p x other ∙ s.others p le

  fed_fits : (x : Item) → AreValid (lane_in ∷ []) (fed past 0 x).got → (Closes x → ⊥) → FitsLane lane_in x
  fed_fits x v c = last_fits lane_in (stream_at past.got 0) x (subst (λ (t : Flow). IsValid lane_in t) (got_of x) (v 0)) c

  -- an item that is fed fits the lane, unless it closes
  pub fits_at : (p : ℕ) (x : Item) → p < 1 → AreValid (lane_in ∷ []) (fed past p x).got → (Closes x → ⊥) → FitsLane lane_in x
  fits_at zero x lt v c = fed_fits x v c
  fits_at (suc p) x lt v c = absurd (omega arith)

  -- nothing that can be seen has changed
  pub same_stands : (k : ℕ) (rows : ℕ → Line) → k ≡ n → ((q : ℕ) → rows q ≡ lines q) → Spreads lane_in lane_out f k rows closed found past
  same_stands k rows e h = record {
    makes = s.makes;
    some = subst (λ (j : ℕ). 1 ≤ j) (sym e) s.some;
    means = s.means ∙ ap (λ (j : ℕ). spread j f) (sym e);
    silent = s.silent;
    cause = s.cause;
    plain = s.plain;
    others = s.others;
    valid = s.valid;
    closed_is = s.closed_is;
    found_is = s.found_is;
    below = λ q lt. s.below q (subst (λ (j : ℕ). q < j) e lt);
    gave =
        λ q lt on. subst (λ (l : Line). Leads (stream_at past.gave q) l.queue (f.stream (stream_at past.got 0))) (sym (h q)) (s.gave q (subst (λ (j : ℕ). q < j) e lt) (sym (ap (λ (l : Line). l.stopped) (h q)) ∙ on));
    beyond = λ q le. s.beyond q (subst (λ (j : ℕ). j ≤ q) e le);
    stops = λ q lt. subst (λ (l : Line). (l.stopped ≡ true) ↔ IsIn q past.stopped) (sym (h q)) (s.stops q (subst (λ (j : ℕ). q < j) e lt));
  }

  -- an item was fed of which nothing is made
  same_fed : (x : Item) → AreValid (lane_in ∷ []) (fed past 0 x).got
      → f.stream (with_item (stream_at past.got 0) x) ≡ f.stream (stream_at past.got 0)
      → f.damage (with_item (stream_at past.got 0) x) ≡ f.damage (stream_at past.got 0)
      → Spreads lane_in lane_out f n lines closed found (fed past 0 x)
  same_fed x v e d =
      let same : f.stream (stream_at (fed past 0 x).got 0) ≡ f.stream (stream_at past.got 0) =
      ap (λ (t : Flow). f.stream t) (got_of x) ∙ e in
      record {
        makes = s.makes;
        some = s.some;
        means = s.means;
        silent = s.silent;
        cause = s.cause;
        plain = s.plain;
        others = others_fed x;
        valid = v 0;
        closed_is = subst (λ (r : Flow). (closed ≡ true) ↔ IsClosed r) (sym same) s.closed_is;
        found_is = s.found_is ∙ (sym d ∙ ap (λ (t : Flow). f.damage t) (sym (got_of x)));
        below = λ q lt. subst (λ (r : Flow). LiesBelow (stream_at past.gave q) r) (sym same) (s.below q lt);
        gave = λ q lt on. subst (λ (r : Flow). Leads (stream_at past.gave q) (lines q).queue r) (sym same) (s.gave q lt on);
        beyond = s.beyond;
        stops = s.stops;
      }

  -- what is made still goes on, and nothing is damaged
  pub open_made : closed ≡ false → (f.stream (stream_at past.got 0)).mark ≡ still_open
  open_made e = elim (open_or (f.stream (stream_at past.got 0)).mark) as (λ _. (f.stream (stream_at past.got 0)).mark ≡ still_open) [
    | inl o ↦ o
    | inr c ↦ absurd (not_both closed (s.closed_is.1 c) e)
  ]

  open_none : closed ≡ false → f.damage (stream_at past.got 0) ≡ None
  open_none e = elim (some_or_none (f.damage (stream_at past.got 0))) as (λ _. f.damage (stream_at past.got 0) ≡ None) [
    | inl d ↦ (let clash : broken ≡ still_open = sym (s.makes.broken (stream_at past.got 0) d.0 d.1) ∙ open_made e in cc)
    | inr none ↦ none
  ]

  -- with an item more
  more_made : (x : Item) → closed ≡ false → (stream_at past.got 0).mark ≡ still_open
      → (f.stream (with_item (stream_at past.got 0) x) ≡ joined (f.stream (stream_at past.got 0)) (f.stream (one x))) × (f.damage (with_item (stream_at past.got 0) x) ≡ f.damage (one x))
  more_made x e o =
      let t : Flow = stream_at past.got 0 in
      subst (λ (r : Flow). (f.stream r ≡ joined (f.stream t) (f.stream (one x))) × (f.damage r ≡ f.damage (one x))) (joined_one t x o)
      (s.makes.goes_on t (one x) o (open_made e))

  passed_to : (x : Item) → closed ≡ false → (stream_at past.got 0).mark ≡ still_open → AreValid (lane_in ∷ []) (fed past 0 x).got
      → nothing ≡ f.stream (one x) → None ≡ f.damage (one x) → Spreads lane_in lane_out f n lines closed found (fed past 0 x)
  passed_to x e o v p d =
      let t : Flow = stream_at past.got 0 in
      let more = more_made x e o in
      same_fed x v (more.0 ∙ (ap (λ (r : Flow). joined (f.stream t) r) (sym p) ∙ joined_nothing (f.stream t))) (more.1 ∙ (sym d ∙ sym (open_none e)))

  -- an item of which nothing is made was fed
  pub passed_at : (p : ℕ) (x : Item) → closed ≡ false → p < 1 → (stream_at past.got p).mark ≡ still_open → AreValid (lane_in ∷ []) (fed past p x).got
      → nothing ≡ f.stream (one x) → None ≡ f.damage (one x) → Spreads lane_in lane_out f n lines closed found (fed past p x)
  passed_at zero x e lt o v h d = passed_to x e o v h d
  passed_at (suc p) x e lt o v h d = absurd (omega arith)

  -- what has closed stays as it is, and so does its damage
  over_to : (x : Item) → closed ≡ true → (stream_at past.got 0).mark ≡ still_open → AreValid (lane_in ∷ []) (fed past 0 x).got
      → Spreads lane_in lane_out f n lines closed found (fed past 0 x)
  over_to x e o v =
      let t : Flow = stream_at past.got 0 in
      let above : LiesBelow t (with_item t x) = with_item_above t x o in
      let same : f.stream t ≡ f.stream (with_item t x) =
      closed_below (f.stream t) (f.stream (with_item t x)) (s.makes.below t (with_item t x) above) (s.closed_is.0 e) in
      let fine : IsUnbroken t = λ b. let clash : broken ≡ still_open = sym b ∙ o in cc in
      same_fed x v (sym same) (elim (some_or_none (f.damage t)) as (λ _. f.damage (with_item t x) ≡ f.damage t) [
        | inl d ↦ s.makes.stays t (with_item t x) d.0 above d.1 ∙ sym d.1
        | inr none ↦ elim (some_or_none (f.damage (with_item t x))) as (λ _. f.damage (with_item t x) ≡ f.damage t) [
          | inl d ↦ absurd (s.makes.unbroken t none fine (ap (λ (r : Flow). r.mark) same ∙ s.makes.broken (with_item t x) d.0 d.1))
          | inr later ↦ later ∙ sym none
        ]
      ])

  -- an item was fed after the outputs closed
  pub over_at : (p : ℕ) (x : Item) → closed ≡ true → p < 1 → (stream_at past.got p).mark ≡ still_open → AreValid (lane_in ∷ []) (fed past p x).got
      → Spreads lane_in lane_out f n lines closed found (fed past p x)
  over_at zero x e lt o v = over_to x e o v
  over_at (suc p) x e lt o v = absurd (omega arith)

  put_to : (x made : Item) (after : After) (damage now : Option ℕ) (closes over : Bool) (k : ℕ) (rows : ℕ → Line) → over ≡ is_over after → closed ≡ false
      → (stream_at past.got 0).mark ≡ still_open → AreValid (lane_in ∷ []) (fed past 0 x).got
      → made_of (Some made) after ≡ f.stream (one x) → damage ≡ f.damage (one x) → (Closes made → after ≡ More)
      → (closes ≡ true) ↔ Closes made
      → now ≡ first_damage found damage → k ≡ n → ((q : ℕ) → (rows q).stopped ≡ (lines q).stopped)
      → ((q : ℕ) → q < n → (lines q).stopped ≡ false → (rows q).queue ≡ (lines q).queue ++ made ∷ closing_items after)
      → Spreads lane_in lane_out f k rows (closed || (closes || over)) now (fed past 0 x)
  put_to x made after damage now closes over k rows z e o v p i once h d c stops queues =
      let t : Flow = stream_at past.got 0 in
      let was : (f.stream t).mark ≡ still_open = open_made e in
      let more = more_made x e o in
      let puts : f.stream (with_item t x) ≡ joined (f.stream t) (made_of (Some made) after) =
      more.0 ∙ ap (λ (r : Flow). joined (f.stream t) r) (sym p) in
      let grown : f.stream (stream_at (fed past 0 x).got 0) ≡ joined (f.stream t) (made_of (Some made) after) =
      ap (λ (r : Flow). f.stream r) (got_of x) ∙ puts in
      let above : LiesBelow (f.stream t) (f.stream (stream_at (fed past 0 x).got 0)) =
      subst (λ (r : Flow). LiesBelow (f.stream t) r) (sym grown) (joined_above (f.stream t) (made_of (Some made) after)) in
      let flag : ((closed || (closes || over)) ≡ true) ↔ ((closes || is_over after) ≡ true) =
      subst (λ (b : Bool). ((b || (closes || over)) ≡ true) ↔ ((closes || is_over after) ≡ true)) (sym e)
      (subst (λ (b : Bool). ((closes || b) ≡ true) ↔ ((closes || is_over after) ≡ true)) (sym z) (λ t. t, λ t. t)) in
      let shut = is_closed (f.stream t) made after closes was h in
      record {
        makes = s.makes;
        some = subst (λ (j : ℕ). 1 ≤ j) (sym c) s.some;
        means = s.means ∙ ap (λ (j : ℕ). spread j f) (sym c);
        silent = s.silent;
        cause = s.cause;
        plain = s.plain;
        others = others_fed x;
        valid = v 0;
        closed_is = subst (λ (r : Flow). ((closed || (closes || over)) ≡ true) ↔ IsClosed r) (sym grown) (
          λ b. shut.0 (flag.0 b),
          λ b. flag.1 (shut.1 b),
        );
        found_is =
            d
            ∙ (ap (λ (j : Option ℕ). first_damage j damage) (s.found_is ∙ open_none e) ∙ (i ∙ (sym more.1 ∙ ap (λ (r : Flow). f.damage r) (sym (got_of x)))));
        below = λ q lt. below_trans (stream_at past.gave q) (f.stream t) (f.stream (stream_at (fed past 0 x).got 0))
            (s.below q (subst (λ (j : ℕ). q < j) c lt)) above;
        gave = λ q lt on.
            let here : q < n = subst (λ (j : ℕ). q < j) c lt in
            let goes : (lines q).stopped ≡ false = sym (stops q) ∙ on in
            subst (λ (r : Flow). Leads (stream_at past.gave q) (rows q).queue r) (sym grown)
            (subst (λ (ys : List Item). Leads (stream_at past.gave q) ys (joined (f.stream t) (made_of (Some made) after))) (sym (queues q here goes))
            (leads_put (lines q).queue (stream_at past.gave q) (f.stream t) made after was once (s.gave q here goes)));
        beyond = λ q le. s.beyond q (subst (λ (j : ℕ). j ≤ q) c le);
        stops = λ q lt. subst (λ (b : Bool). (b ≡ true) ↔ IsIn q past.stopped) (sym (stops q)) (s.stops q (subst (λ (j : ℕ). q < j) c lt));
      }

  -- an item was fed, and what is made of it put on each output that is wanted
  pub put_at : (p : ℕ) (x made : Item) (after : After) (damage now : Option ℕ) (closes over : Bool) (k : ℕ) (rows : ℕ → Line) → over ≡ is_over after → closed ≡ false → p < 1
      → (stream_at past.got p).mark ≡ still_open → AreValid (lane_in ∷ []) (fed past p x).got
      → made_of (Some made) after ≡ f.stream (one x) → damage ≡ f.damage (one x) → (Closes made → after ≡ More)
      → (closes ≡ true) ↔ Closes made
      → now ≡ first_damage found damage → k ≡ n → ((q : ℕ) → (rows q).stopped ≡ (lines q).stopped)
      → ((q : ℕ) → q < n → (lines q).stopped ≡ false → (rows q).queue ≡ (lines q).queue ++ made ∷ closing_items after)
      → Spreads lane_in lane_out f k rows (closed || (closes || over)) now (fed past p x)
  put_at zero x made after damage now closes over k rows z e lt o v i j w h d c stops queues =
      put_to x made after damage now closes over k rows z e o v i j w h d c stops queues
  put_at (suc p) x made after damage now closes over k rows z e lt o v i j w h d c stops queues = absurd (omega arith)

  is_false : (b : Bool) → (b ≡ true → ⊥) → b ≡ false
  is_false true m = absurd (m refl)
  is_false false m = refl

  goes_on : (q : ℕ) → q < n → (IsIn q past.stopped → ⊥) → (lines q).stopped ≡ false
  goes_on q lt on = is_false (lines q).stopped (λ e. on ((s.stops q lt).0 e))

  -- the first item that waits on an output was given there
  pub gives_at : (p : ℕ) (x : Item) (rest : List Item) (k : ℕ) (rows : ℕ → Line) → p < n → (lines p).queue ≡ x ∷ rest → (IsIn p past.stopped → ⊥)
      → k ≡ n → rows p ≡ record { queue = rest; stopped = (lines p).stopped } → ((q : ℕ) → q ≢ p → rows q ≡ lines q)
      → Spreads lane_in lane_out f k rows closed found (gave_item past p x) × ((stream_at past.gave p).mark ≡ still_open) × LiesBelow (with_item (stream_at past.gave p) x) (stream_at (due past) p)
  gives_at p x rest k rows lt is on c here other =
      let out : Flow = f.stream (stream_at past.got 0) in
      let leads : Leads (stream_at past.gave p) (x ∷ rest) out =
      subst (λ (ys : List Item). Leads (stream_at past.gave p) ys out) is (s.gave p lt (goes_on p lt on)) in
      let given : stream_at (gave_item past p x).gave p ≡ with_item (stream_at past.gave p) x = stream_at-with_item_same past.gave p x in
      let below : LiesBelow (with_item (stream_at past.gave p) x) out = leads_below rest (with_item (stream_at past.gave p) x) out leads.1 in (
        record {
          makes = s.makes;
          some = subst (λ (j : ℕ). 1 ≤ j) (sym c) s.some;
          means = s.means ∙ ap (λ (j : ℕ). spread j f) (sym c);
          silent = s.silent;
          cause = s.cause;
          plain = s.plain;
          others = s.others;
          valid = s.valid;
          closed_is = s.closed_is;
          found_is = s.found_is;
          below = λ q less. elim (same_or_not q p) as (λ _. LiesBelow (stream_at (gave_item past p x).gave q) out) [
            | inl e ↦ subst (λ (j : ℕ). LiesBelow (stream_at (gave_item past p x).gave j) out) (sym e) (subst (λ (r : Flow). LiesBelow r out) (sym given) below)
            | inr m ↦ subst (λ (r : Flow). LiesBelow r out) (sym (stream_at-with_item_other past.gave p q x m)) (s.below q (subst (λ (j : ℕ). q < j) c less))
          ];
          gave = λ q less go. elim (same_or_not q p) as (λ _. Leads (stream_at (gave_item past p x).gave q) (rows q).queue out) [
            | inl e ↦ subst (λ (j : ℕ). Leads (stream_at (gave_item past p x).gave j) (rows j).queue out) (sym e)
                (subst (λ (r : Flow). Leads r (rows p).queue out) (sym given) (subst (λ (l : Line). Leads (with_item (stream_at past.gave p) x) l.queue out) (sym here) leads.1))
            | inr m ↦ subst (λ (r : Flow). Leads r (rows q).queue out) (sym (stream_at-with_item_other past.gave p q x m))
                (subst (λ (l : Line). Leads (stream_at past.gave q) l.queue out) (sym (other q m)) (s.gave q (subst (λ (j : ℕ). q < j) c less) (sym (ap (λ (l : Line). l.stopped) (other q m)) ∙ go)))
          ];
          beyond =
              λ q le. let le' : n ≤ q = subst (λ (j : ℕ). j ≤ q) c le in let m : q ≢ p = omega (arith, le', lt) in stream_at-with_item_other past.gave p q x m
              ∙ s.beyond q le';
          stops = λ q less. elim (same_or_not q p) as (λ _. ((rows q).stopped ≡ true) ↔ IsIn q past.stopped) [
            | inl e ↦ subst (λ (j : ℕ). ((rows j).stopped ≡ true) ↔ IsIn j past.stopped) (sym e) (subst (λ (l : Line). (l.stopped ≡ true) ↔ IsIn p past.stopped) (sym here) (s.stops p lt))
            | inr m ↦ subst (λ (l : Line). (l.stopped ≡ true) ↔ IsIn q past.stopped) (sym (other q m)) (s.stops q (subst (λ (j : ℕ). q < j) c less))
          ];
        },
        leads.0,
        subst (λ (r : Flow). LiesBelow (with_item (stream_at past.gave p) x) r)
            (sym (ap (λ (ss : List Flow). stream_at ss p) (spreads_due lane_in lane_out f n lines closed found past s) ∙ at_replicate n p out lt))
            below,
      )

  -- where nothing waits all that is due was given
  pub none_at : (p : ℕ) → p < n → (lines p).queue ≡ [] → (IsIn p past.stopped → ⊥) → stream_at past.gave p ≡ stream_at (due past) p
  none_at p lt is on =
      let out : Flow = f.stream (stream_at past.got 0) in
      let all : stream_at past.gave p ≡ out = subst (λ (ys : List Item). Leads (stream_at past.gave p) ys out) is (s.gave p lt (goes_on p lt on)) in
      all ∙ sym (ap (λ (ss : List Flow). stream_at ss p) (spreads_due lane_in lane_out f n lines closed found past s) ∙ at_replicate n p out lt)

  pub asked_at : (p : ℕ) → Spreads lane_in lane_out f n lines closed found (was_asked past p)
  asked_at p =
      record
      { makes = s.makes; some = s.some; means = s.means; silent = s.silent; cause = s.cause; plain = s.plain; others = s.others; valid = s.valid; closed_is = s.closed_is; found_is = s.found_is; below = s.below; gave = s.gave; beyond = s.beyond; stops = s.stops }

  -- an output was stopped
  pub stopped_at : (p : ℕ) (k : ℕ) (rows : ℕ → Line) → p < n → k ≡ n → (rows p).stopped ≡ true → ((q : ℕ) → q ≢ p → rows q ≡ lines q)
      → Spreads lane_in lane_out f k rows closed found (was_stopped past p)
  stopped_at p k rows lt c here other = record {
    makes = s.makes;
    some = subst (λ (j : ℕ). 1 ≤ j) (sym c) s.some;
    means = s.means ∙ ap (λ (j : ℕ). spread j f) (sym c);
    silent = s.silent;
    cause = s.cause;
    plain = s.plain;
    others = s.others;
    valid = s.valid;
    closed_is = s.closed_is;
    found_is = s.found_is;
    below = λ q less. s.below q (subst (λ (j : ℕ). q < j) c less);
    gave = λ q less go. elim (same_or_not q p) as (λ _. Leads (stream_at past.gave q) (rows q).queue (f.stream (stream_at past.got 0))) [
      | inl e ↦ absurd (not_both (rows q).stopped (ap (λ (j : ℕ). (rows j).stopped) e ∙ here) go)
      | inr m ↦ subst (λ (l : Line). Leads (stream_at past.gave q) l.queue (f.stream (stream_at past.got 0))) (sym (other q m)) (s.gave q (subst (λ (j : ℕ). q < j) c less) (sym (ap (λ (l : Line). l.stopped) (other q m)) ∙ go))
    ];
    beyond = λ q le. s.beyond q (subst (λ (j : ℕ). j ≤ q) c le);
    stops = λ q less. elim (same_or_not q p) as (λ _. ((rows q).stopped ≡ true) ↔ ((p ≡ q) ⊎ IsIn q past.stopped)) [
      | inl e ↦ (λ t. inl (sym e), λ i. ap (λ (j : ℕ). (rows j).stopped) e ∙ here)
      | inr m ↦ (
        λ t. inr ((s.stops q (subst (λ (j : ℕ). q < j) c less)).0 (sym (ap (λ (l : Line). l.stopped) (other q m)) ∙ t)),
        λ i. elim i as (λ _. (rows q).stopped ≡ true) [
          | inl e ↦ absurd (m (sym e))
          | inr j ↦ ap (λ (l : Line). l.stopped) (other q m) ∙ (s.stops q (subst (λ (h : ℕ). q < h) c less)).1 j
        ],
      )
    ];
  }

first_leads : (over : Bool) → Leads nothing (first_items over) (at_first over)
first_leads true = (refl, refl)
first_leads false = refl

first_closed : (over : Bool) → (over ≡ true) ↔ IsClosed (at_first over)
first_closed true = (λ b. λ z. cc, λ b. refl)
first_closed false = (λ b. cc, λ b. absurd (b refl))

first_unbroken : (over : Bool) → (at_first over).mark ≡ broken → ⊥
first_unbroken true e = cc
first_unbroken false e = cc

-- nothing was fed and given yet
pub new_at : (lane_in lane_out : Lane) (f : Making) (over : Bool) (n k : ℕ) (rows : ℕ → Line) (task : Task) → 1 ≤ n → Makes lane_in lane_out f
    → IsSpreadTask n f task → f.stream nothing ≡ at_first over → k ≡ n
    → ((q : ℕ) → q < n → rows q ≡ record { queue = first_items over; stopped = false })
    → Spreads lane_in lane_out f k rows over None (start task)
new_at lane_in lane_out f over n k rows task le makes t first e fresh = record {
  makes = makes;
  some = subst (λ (j : ℕ). 1 ≤ j) (sym e) le;
  means = t.means ∙ ap (λ (j : ℕ). spread j f) (sym e);
  silent = (t.silent, refl);
  cause = t.cause;
  plain = t.plain;
  others = λ p l. refl;
  valid = nothing_valid lane_in;
  closed_is = subst (λ (r : Flow). (over ≡ true) ↔ IsClosed r) (sym first) (first_closed over);
  found_is = elim (some_or_none (f.damage nothing)) as (λ _. None ≡ f.damage nothing) [
    | inl d ↦ absurd (first_unbroken over (sym (ap (λ (r : Flow). r.mark) first) ∙ makes.broken nothing d.0 d.1))
    | inr none ↦ sym none
  ];
  below = λ q lt. nothing_below (f.stream nothing);
  gave = λ q lt on. subst (λ (r : Flow). Leads nothing (rows q).queue r) (sym first)
      (subst (λ (l : Line). Leads nothing l.queue (at_first over)) (sym (fresh q (subst (λ (j : ℕ). q < j) e lt))) (first_leads over));
  beyond = λ q l. refl;
  stops = λ q lt. (λ b. absurd (not_both (rows q).stopped b (ap (λ (l : Line). l.stopped) (fresh q (subst (λ (j : ℕ). q < j) e lt)))), λ i. absurd i);
}

-- ---- whole machines

pub spread_same : (lane_in lane_out : Lane) (f : Making) (m k : Spread) (past : Past) → IsSameSpread m k
    → SpreadStands lane_in lane_out f m past → SpreadStands lane_in lane_out f k past
spread_same lane_in lane_out f m k past same s =
    let n : ℕ = length k.outs.items in
    let lines : ℕ → Line = line_at k.outs.items in
    subst (λ (b : Bool). Spreads lane_in lane_out f n lines b k.damage past) (sym same.closed)
    (subst (λ (d : Option ℕ). Spreads lane_in lane_out f n lines m.closed d past) (sym same.damage)
    (same_stands lane_in lane_out f (length m.outs.items) (line_at m.outs.items) m.closed m.damage past s n lines same.outs.count same.outs.lines))

pub on_err : {A E : Type 0} (r : Result A E) (P Q : Type 0) → (P → Q) → OnErr r P → OnErr r Q
on_err (Ok a) P Q f p = tt
on_err (Err e) P Q f p = f p

pub on_ok : {A E : Type 0} (r : Result A E) (P Q : Type 0) → (P → Q) → OnOk r P → OnOk r Q
on_ok (Ok a) P Q f p = f p
on_ok (Err e) P Q f p = tt
