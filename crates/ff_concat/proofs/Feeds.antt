-- What feeding an input does to what the outputs still give.
use Rattle.std.proofs.Common.{◌≡◌, ◌≢◌, ℕ, zero, suc, ◌+◌, ◌*◌, ◌/◌, ◌%◌, ◌<◌, ◌≤◌, Bool, true, false, ◌||◌, Some, List, [], ◌∷◌, ◌++◌, length, get_or, set, refl, inl, inr, ap, sym, ◌∙◌, subst, arith}
use Rattle.std.proofs.lemmas.Bool.{cases_eq, cases_lt, eq-eqb, ne_eqb, or_cases}
use Rattle.std.proofs.lemmas.Nat.{mod-mul-add}
use Rattle.std.proofs.Math.Nat.{mod-add-div', mul-div_cancel}
use Rattle.ff_stream.specs.declared.item.Item.{Item}
use Rattle.ff_stream.specs.declared.item.Item.TheVariants.{Audio, Video, Packet, Trailer, End, Broken}
use Rattle.ff_stream.specs.declared.item.Lane.{Lane}
use Rattle.ff_stream.specs.Ports.{nothing}
use Rattle.ff_stream.specs.Times.{end_ticks}
use Rattle.ff_filter.specs.declared.after.After.{After}
use Rattle.ff_filter.specs.declared.after.After.TheVariants.{More, Whole, Broke}
use Rattle.ff_filter.specs.Joins.{Flow, Ports, before, before_if, before_at}
use Rattle.ff_filter.specs.Made.{waiting, closing, is_over}
use Rattle.ff_filter.specs.Views.{Fed, closes}
use Rattle.ff_filter.proofs.Taking.{put_in}
use Rattle.ff_concat.specs.declared.backlog.Backlog.{Backlog}
use Rattle.ff_concat.specs.declared.reach.Reach.{Reach}
use Rattle.ff_concat.specs.declared.track.Track.{Track}
use Rattle.ff_concat.specs.laws.ConcatLaws.{data_before}
use Rattle.ff_concat.specs.laws.TrackLaws.{gives-quiet}
use Rattle.ff_concat.specs.ConcatOptions.{repeated}
use Rattle.ff_concat.specs.laws.Tracks.{after_at, end_at, tail_on, tails, own, gives_at, ended_at, stopped_at, view_of}
use Rattle.ff_concat.specs.laws.Queues.{queue_at}
use Rattle.ff_concat.specs.laws.Moves.{IsAlike, Kept}
use Rattle.ff_concat.proofs.Lookups.{after_set, after_other, end_set, end_other, gives_read, gives_set, gives_other, gives_same, ended_read, ended_set, ended_other, stopped_read, stopped_set, stopped_other, lanes_set}
use Rattle.ff_concat.proofs.Same.{alike_gives}

open_more : (a : After) → is_over a ≡ false → a ≡ More
open_more More e = refl
open_more Whole e = cc
open_more Broke e = cc

-- how far it has come, with a closing item or another
tail_shut : (e : ℕ) (a : After) (x : Item) (t : Flow) → closing x ≡ Some a → tail_on e a t ≡ tail_on e More (before x t)
tail_shut e a (Audio f) t c = cc
tail_shut e a (Video f) t c = cc
tail_shut e a (Packet p) t c = cc
tail_shut e a (Trailer p) t c = cc
tail_shut e a End t c = ap (λ (b : After). tail_on e b t) (let s : a ≡ Whole = cc in s)
tail_shut e a Broken t c = ap (λ (b : After). tail_on e b t) (let s : a ≡ Broke = cc in s)

tail_passed : (e : ℕ) (x : Item) (t : Flow) → closes x ≡ false → tail_on (end_ticks x) More t ≡ tail_on e More (before x t)
tail_passed e x t c = ap (λ (s : Flow). tail_on e More s) (sym (data_before x t c))

-- what comes, with a closing item
waits_shut : (xs : List Item) (a : After) (x : Item) (t : Flow) → closing x ≡ Some a → waiting xs a t ≡ waiting xs More (before x t)
waits_shut xs a (Audio f) t c = cc
waits_shut xs a (Video f) t c = cc
waits_shut xs a (Packet p) t c = cc
waits_shut xs a (Trailer p) t c = cc
waits_shut xs a End t c = ap (λ (b : After). waiting xs b t) (let s : a ≡ Whole = cc in s)
waits_shut xs a Broken t c = ap (λ (b : After). waiting xs b t) (let s : a ≡ Broke = cc in s)

-- on one port comes the item, on the others what came
at_here : (p : ℕ) (x : Item) (ext : Ports) → before_at p x ext p ≡ before x (ext p)
at_here p x ext = ap (λ (b : Bool). before_if b x (ext p)) (eq-eqb p p refl)

at_other : (p j : ℕ) (x : Item) (ext : Ports) → j ≢ p → before_at p x ext j ≡ ext j
at_other p j x ext n = ap (λ (b : Bool). before_if b x (ext j)) (ne_eqb j p n)

-- one input changed: at it stands this reach, and the others are what they were
pub record Moved (rs ss : List Reach) (p : ℕ) (r : Reach) : Type 0 where
  pub end : end_at ss p ≡ r.end
  pub after : after_at ss p ≡ r.after
  pub other_ends : (j : ℕ) → j ≢ p → end_at ss j ≡ end_at rs j
  pub other_afters : (j : ℕ) → j ≢ p → after_at ss j ≡ after_at rs j

pub moved_set : (rs : List Reach) (p : ℕ) (r : Reach) → p < length rs → Moved rs (set rs p r) p r
moved_set rs p r lt = record {
  end = end_set rs p r lt;
  after = after_set rs p r lt;
  other_ends = λ j n. end_other rs p j r n;
  other_afters = λ j n. after_other rs p j r n;
}

module _ (rs ss : List Reach) (p : ℕ) (r : Reach) (x : Item) (ext : Ports) (m : Moved rs ss p r) where
  tails_other : (j : ℕ) → j ≢ p → tails ss ext j ≡ tails rs (before_at p x ext) j
  tails_other j n =
      ap (λ (e : ℕ). tail_on e (after_at ss j) (ext j)) (m.other_ends j n)
      ∙ (ap (λ (a : After). tail_on (end_at rs j) a (ext j)) (m.other_afters j n) ∙ ap (λ (t : Flow). tail_on (end_at rs j) (after_at rs j) t) (sym (at_other p j x ext n)))

  tails_by : tail_on r.end r.after (ext p) ≡ tail_on (end_at rs p) (after_at rs p) (before x (ext p)) → tails ss ext ≡ tails rs (before_at p x ext)
  tails_by h i j = at j i
    where
      here : tails ss ext p ≡ tails rs (before_at p x ext) p
      here = ap (λ (e : ℕ). tail_on e (after_at ss p) (ext p)) m.end
          ∙ (ap (λ (a : After). tail_on r.end a (ext p)) m.after ∙ (h ∙ ap (λ (t : Flow). tail_on (end_at rs p) (after_at rs p) t) (sym (at_here p x ext))))

      at : (j : ℕ) → tails ss ext j ≡ tails rs (before_at p x ext) j
      at j = elim (cases_eq j p) as (λ _. tails ss ext j ≡ tails rs (before_at p x ext) j) [
        | inl e ↦ subst (λ (k : ℕ). tails ss ext k ≡ tails rs (before_at p x ext) k) (sym e) here
        | inr n ↦ tails_other j n
      ]

  waits_other : (xs : List Item) (j : ℕ) → j ≢ p → waiting xs (after_at ss j) (ext j) ≡ waiting xs (after_at rs j) (before_at p x ext j)
  waits_other xs j n = ap (λ (a : After). waiting xs a (ext j)) (m.other_afters j n) ∙ ap (λ (t : Flow). waiting xs (after_at rs j) t) (sym (at_other p j x ext n))

  -- a closing item came
  own_shut : (bs : List Backlog) (w q : ℕ) → is_over (after_at rs p) ≡ false → closing x ≡ Some r.after → own bs ss w q ext ≡ own bs rs w q (before_at p x ext)
  own_shut bs w q o c i k = at (queue_at bs k) (k * w + q) i
    where
      here : (xs : List Item) → waiting xs (after_at ss p) (ext p) ≡ waiting xs (after_at rs p) (before_at p x ext p)
      here xs = ap (λ (a : After). waiting xs a (ext p)) m.after
          ∙ (waits_shut xs r.after x (ext p) c
          ∙ (ap (λ (a : After). waiting xs a (before x (ext p))) (sym (open_more (after_at rs p) o)) ∙ ap (λ (t : Flow). waiting xs (after_at rs p) t) (sym (at_here p x ext))))

      at : (xs : List Item) (j : ℕ) → waiting xs (after_at ss j) (ext j) ≡ waiting xs (after_at rs j) (before_at p x ext j)
      at xs j = elim (cases_eq j p) as (λ _. waiting xs (after_at ss j) (ext j) ≡ waiting xs (after_at rs j) (before_at p x ext j)) [
        | inl e ↦ subst (λ (k : ℕ). waiting xs (after_at ss k) (ext k) ≡ waiting xs (after_at rs k) (before_at p x ext k)) (sym e) (here xs)
        | inr n ↦ waits_other xs j n
      ]

  -- an item came of another output
  own_aside : (bs : List Backlog) (w q : ℕ) → q < w → p % w ≢ q → own bs ss w q ext ≡ own bs rs w q (before_at p x ext)
  own_aside bs w q lt n i k = waits_other (queue_at bs k) (k * w + q) (λ e. n (ap (λ (j : ℕ). j % w) (sym e) ∙ mod-mul-add k w q lt)) i

  -- an item came, and was kept
  own_kept : (t t' : Track) (w : ℕ) → 0 < w → is_over (after_at rs p) ≡ false → r.after ≡ after_at rs p → Kept t t' (p / w) x
      → own t'.backlogs.items ss w (p % w) ext ≡ own t.backlogs.items rs w (p % w) (before_at p x ext)
  own_kept t t' w some o same kept i k = at k i
    where
      bs : List Backlog
      bs = t.backlogs.items

      place : p / w * w + p % w ≡ p
      place = let e = mod-add-div' p w in omega (arith, e)

      here : (k : ℕ) → k ≡ p / w → waiting (queue_at t'.backlogs.items k) (after_at ss (k * w + p % w)) (ext (k * w + p % w))
          ≡ waiting (queue_at t.backlogs.items k) (after_at rs (k * w + p % w)) (before_at p x ext (k * w + p % w))
      here k e =
          let port : k * w + p % w ≡ p = ap (λ (j : ℕ). j * w + p % w) e ∙ place in
          subst (λ (j : ℕ). waiting (queue_at t'.backlogs.items k) (after_at ss j) (ext j) ≡ waiting (queue_at t.backlogs.items k) (after_at rs j) (before_at p x ext j)) (sym port)
          (ap (λ (a : After). waiting (queue_at t'.backlogs.items k) a (ext p)) (m.after ∙ same)
          ∙ (put_in (queue_at t.backlogs.items k) (queue_at t'.backlogs.items k) (after_at rs p) x o
          (ap (λ (j : ℕ). queue_at t'.backlogs.items j) e ∙ (kept.here ∙ ap (λ (j : ℕ). queue_at t.backlogs.items j ++ x ∷ []) (sym e))) (ext p)
          ∙ ap (λ (f : Flow). waiting (queue_at t.backlogs.items k) (after_at rs p) f) (sym (at_here p x ext))))

      at : (k : ℕ) → waiting (queue_at t'.backlogs.items k) (after_at ss (k * w + p % w)) (ext (k * w + p % w))
          ≡ waiting (queue_at t.backlogs.items k) (after_at rs (k * w + p % w)) (before_at p x ext (k * w + p % w))
      at k = elim (cases_eq k (p / w)) as (λ _. waiting (queue_at t'.backlogs.items k) (after_at ss (k * w + p % w)) (ext (k * w + p % w))
          ≡ waiting (queue_at t.backlogs.items k) (after_at rs (k * w + p % w)) (before_at p x ext (k * w + p % w))) [
            | inl e ↦ here k e
            | inr n ↦ ap (λ (xs : List Item). waiting xs (after_at ss (k * w + p % w)) (ext (k * w + p % w))) (kept.others k n)
                ∙ waits_other (queue_at t.backlogs.items k) (k * w + p % w) (λ e. n (other k (place ∙ sym e)))
          ]
        where
          other : (k : ℕ) → p / w * w + p % w ≡ k * w + p % w → k ≡ p / w
          other k e =
              let same : p / w * w ≡ k * w = omega (arith, e) in
              sym (sym (mul-div_cancel (p / w) some) ∙ (ap (λ (j : ℕ). j / w) same ∙ mul-div_cancel k some))

module _ (tick_list : List ℕ) (n : ℕ) (rs ss : List Reach) (p : ℕ) (r : Reach) (x : Item) (m : Moved rs ss p r) (o : is_over (after_at rs p) ≡ false) where
  others_shut : (j : ℕ) → j ≢ p → is_over (after_at ss j) ≡ is_over (after_at rs j)
  others_shut j k = ap is_over (m.other_afters j k)

  here_shut : is_over r.after ≡ closes x → is_over (after_at ss p) ≡ (is_over (after_at rs p) || closes x)
  here_shut e = ap is_over m.after ∙ (e ∙ sym (ap (λ (b : Bool). b || closes x) o))

  -- an input closed
  pub shut_fed : (ts : List Track) → closing x ≡ Some r.after → r.end ≡ end_at rs p → is_over r.after ≡ closes x → Fed (view_of tick_list n rs ts) (view_of tick_list n ss ts) p x
  shut_fed ts c e s = record {
    ports = record { ins = refl; outs = refl };
    rest = λ ext q on. gives_same tick_list q ts q ss rs ext (before_at p x ext)
        (λ t.
        let far : tails ss ext ≡ tails rs (before_at p x ext) = tails_by rs ss p r x ext m
        (ap (λ (i : ℕ). tail_on i r.after (ext p)) e
        ∙ (tail_shut (end_at rs p) r.after x (ext p) c ∙ ap (λ (a : After). tail_on (end_at rs p) a (before x (ext p))) (sym (open_more (after_at rs p) o)))) in
        alike_gives tick_list q t t ss rs ext (before_at p x ext) (alike_self t)
        (own_shut rs ss p r x ext m t.backlogs.items (length tick_list) q o c) far);
    shut_here = here_shut s;
    shut_others = λ i lt k. others_shut i k;
    ended = λ q. refl;
    stopped = λ q. refl;
  }
    where
      alike_self : (t : Track) → IsAlike t t
      alike_self t = record { head = refl; tick = refl; before = refl; current = refl; begin = refl; end = refl; ended = refl; stopped = refl; backlogs = refl }

  tails_on : r.end ≡ end_ticks x → r.after ≡ after_at rs p → closes x ≡ false → (ext : Ports) → tails ss ext ≡ tails rs (before_at p x ext)
  tails_on e a c ext = tails_by rs ss p r x ext m
      (ap (λ (i : ℕ). tail_on i r.after (ext p)) e
      ∙ (ap (λ (b : After). tail_on (end_ticks x) b (ext p)) (a ∙ open_more (after_at rs p) o)
      ∙ (tail_passed (end_at rs p) x (ext p) c ∙ ap (λ (b : After). tail_on (end_at rs p) b (before x (ext p))) (sym (open_more (after_at rs p) o)))))

  -- other outputs than that of the input
  aside : (ts : List Track) → length ts ≡ length tick_list → r.end ≡ end_ticks x → r.after ≡ after_at rs p → closes x ≡ false
      → (ext : Ports) (q : ℕ) → p % length tick_list ≢ q → gives_at tick_list q ts q ss ext ≡ gives_at tick_list q ts q rs (before_at p x ext)
  aside ts long e a c ext q k = elim (cases_lt q (length ts)) as (λ _. gives_at tick_list q ts q ss ext ≡ gives_at tick_list q ts q rs (before_at p x ext)) [
    | inl lt ↦ gives_same tick_list q ts q ss rs ext (before_at p x ext)
        (λ t. alike_gives tick_list q t t ss rs ext (before_at p x ext)
        (record { head = refl; tick = refl; before = refl; current = refl; begin = refl; end = refl; ended = refl; stopped = refl; backlogs = refl })
        (own_aside rs ss p r x ext m t.backlogs.items (length tick_list) q (omega (arith, lt, long)) k) (tails_on e a c ext))
    | inr le ↦ gives_none tick_list q ts q ss ext le ∙ sym (gives_none tick_list q ts q rs (before_at p x ext) le)
  ]
    where
      gives_none : (tick_list : List ℕ) (q : ℕ) (ts : List Track) (i : ℕ) (rs : List Reach) (ext : Ports) → length ts ≤ i → gives_at tick_list q ts i rs ext ≡ nothing
      gives_none tick_list q [] i rs ext le = refl
      gives_none tick_list q (t ∷ ts) zero rs ext le = absurd (omega arith)
      gives_none tick_list q (t ∷ ts) (suc i) rs ext le = gives_none tick_list q ts i rs ext (omega (arith, le))

  -- an item came for an output that doesn't go on
  pub passed_fed : (ts : List Track) → length ts ≡ length tick_list → r.end ≡ end_ticks x → r.after ≡ after_at rs p → closes x ≡ false
      → (stopped_at ts (p % length tick_list) || ended_at ts (p % length tick_list)) ≡ true → Fed (view_of tick_list n rs ts) (view_of tick_list n ss ts) p x
  passed_fed ts long e a c d = record {
    ports = record { ins = refl; outs = refl };
    rest = λ ext q on. elim (cases_eq q (p % length tick_list)) as (λ _. gives_at tick_list q ts q ss ext ≡ gives_at tick_list q ts q rs (before_at p x ext)) [
      | inl same ↦ (
          let over : ended_at ts q ≡ true = elim (or_cases (stopped_at ts (p % length tick_list)) (ended_at ts (p % length tick_list)) d) as (λ _. ended_at ts q ≡ true) [
            | inl s ↦ (let clash : true ≡ false = sym s ∙ (ap (λ (i : ℕ). stopped_at ts i) (sym same) ∙ on) in cc)
            | inr f ↦ ap (λ (i : ℕ). ended_at ts i) same ∙ f
          ] in
          gives-quiet tick_list q ts q ss ext over ∙ sym (gives-quiet tick_list q ts q rs (before_at p x ext) over)
          )
      | inr k ↦ aside ts long e a c ext q (λ s. k (sym s))
    ];
    shut_here = here_shut (ap is_over (a ∙ open_more (after_at rs p) o) ∙ sym c);
    shut_others = λ i lt k. others_shut i k;
    ended = λ q. refl;
    stopped = λ q. refl;
  }

  -- an item came, and was kept
  pub kept_fed : (ts : List Track) (t t' : Track) → length ts ≡ length tick_list → 0 < length tick_list → p % length tick_list < length ts → t ≡ get_or ts (p % length tick_list) t
      → r.end ≡ end_ticks x → r.after ≡ after_at rs p → closes x ≡ false → Kept t t' (p / length tick_list) x
      → Fed (view_of tick_list n rs ts) (view_of tick_list n ss (set ts (p % length tick_list) t')) p x
  kept_fed ts t t' long some lt is e a c kept =
      let i = p % length tick_list in
      let lanes = lanes_set ts i t t' lt is kept.alike.head in
      record {
        ports = record { ins = ap (λ (ls : List Lane). repeated n ls) lanes; outs = lanes };
        rest = λ ext q on. elim (cases_eq q i) as (λ _. gives_at tick_list q (set ts i t') q ss ext ≡ gives_at tick_list q ts q rs (before_at p x ext)) [
          | inl same ↦ subst (λ (j : ℕ). gives_at tick_list j (set ts i t') j ss ext ≡ gives_at tick_list j ts j rs (before_at p x ext)) (sym same)
              (gives_set tick_list i ss ext ts i t' lt
              ∙ (alike_gives tick_list i t t' ss rs ext (before_at p x ext) kept.alike
              (own_kept rs ss p r x ext m t t' (length tick_list) some o a kept) (tails_on e a c ext)
              ∙ sym (gives_read tick_list i rs (before_at p x ext) ts i t lt is)))
          | inr k ↦ gives_other tick_list q ss ext ts i q t' k ∙ aside ts long e a c ext q (λ s. k (sym s))
        ];
        shut_here = here_shut (ap is_over (a ∙ open_more (after_at rs p) o) ∙ sym c);
        shut_others = λ j l k. others_shut j k;
        ended = λ q. elim (cases_eq q i) as (λ _. ended_at (set ts i t') q ≡ ended_at ts q) [
          | inl same ↦ subst (λ (j : ℕ). ended_at (set ts i t') j ≡ ended_at ts j) (sym same) (ended_set ts i t' lt ∙ (kept.alike.ended ∙ sym (ended_read ts i t lt is)))
          | inr k ↦ ended_other ts i q t' k
        ];
        stopped = λ q. elim (cases_eq q i) as (λ _. stopped_at (set ts i t') q ≡ stopped_at ts q) [
          | inl same ↦ subst (λ (j : ℕ). stopped_at (set ts i t') j ≡ stopped_at ts j) (sym same) (stopped_set ts i t' lt ∙ (kept.alike.stopped ∙ sym (stopped_read ts i t lt is)))
          | inr k ↦ stopped_other ts i q t' k
        ];
      }
