-- What each move of a machine that steps does.
use Rattle.std.proofs.Common.{◌≡◌, IsTrue, not, inl, inr, ◌≢◌, ℕ, ◌<◌, ◌||◌, Bool, true, false, cond, Result, Ok, Err, OnOk, Option, Some, None, List, [], ◌∷◌, ◌++◌, refl, ap, sym, ◌∙◌, subst, arith, append-nil}
use Rattle.ff_stream.specs.declared.item.Item.{Item}
use Rattle.ff_stream.specs.declared.item.Item.TheVariants.{Audio, Video, Packet, Trailer, End, Broken}
use Rattle.ff_stream.specs.declared.item.Lane.{Lane}
use Rattle.ff_stream.specs.declared.item.Refused.{Refused}
use Rattle.ff_stream.specs.Ports.{nothing, IsClosed}
use Rattle.ff_filter.specs.declared.after.After.{After}
use Rattle.ff_filter.specs.declared.after.After.TheVariants.{More, Whole, Broke}
use Rattle.ff_filter.specs.Joins.{Flow, one, before, before_all, before_all-last, joined, joined_assoc}
use Rattle.ff_filter.specs.Views.{View, closes, none_closes, Fed, Gave, IsSpent, IsOver}
use Rattle.ff_filter.specs.Made.{listed_option, made_of, mark_after, behind, is_over, closing, left, stepper_view, steps_spent}
use Rattle.ff_filter.specs.laws.StepperLaws.{over_left, over_by, or_left, or_right, stepper-spent}

-- what was made, and then the rest, is what stands behind the item
made_then : (item : Option Item) (a : After) (r : Flow) → joined (made_of item a) r ≡ before_all (listed_option item) (behind a r)
made_then None More r = refl
made_then None Whole r = refl
made_then None Broke r = refl
made_then (Some x) More r = joined_assoc (one x) (record { items = []; mark = mark_after More }) r
made_then (Some x) Whole r = joined_assoc (one x) (record { items = []; mark = mark_after Whole }) r
made_then (Some x) Broke r = joined_assoc (one x) (record { items = []; mark = mark_after Broke }) r

put_then : (queue : List Item) (item : Option Item) (t : Flow) → before_all (queue ++ listed_option item) t ≡ before_all queue (before_all (listed_option item) t)
put_then queue None t = ap (λ (xs : List Item). before_all xs t) (append-nil queue)
put_then queue (Some x) t = before_all-last queue x t

no_other : (p : ℕ) → p < 1 → p ≢ 0 → ⊥
no_other p lt n = let z : p ≡ 0 = omega arith in n z

module _ (lane_in lane_in' lane_out lane_out' : Lane) (runs runs' : Flow → Flow) (queue queue' : List Item) (ended ended' stopped stopped' : Bool) (after after' : After) (shut shut' : Bool) where
  abbrev old_view : View
  old_view = stepper_view lane_in lane_out runs queue ended stopped after shut

  abbrev new_view : View
  new_view = stepper_view lane_in' lane_out' runs' queue' ended' stopped' after' shut'

  -- the step was made, and what it gave stands behind the others, where it is wanted
  pub stepped : (x : Item) (item : Option Item) → lane_in' ≡ lane_in → lane_out' ≡ lane_out → ((r : Flow) → runs (before x r) ≡ joined (made_of item after') (runs' r)) → after ≡ More
      → (stopped ≡ false → queue' ≡ queue ++ listed_option item) → ended' ≡ ended → stopped' ≡ stopped → shut' ≡ shut → closes x ≡ false
      → Fed (stepper_view lane_in lane_out runs queue ended stopped after shut) (stepper_view lane_in' lane_out' runs' queue' ended' stopped' after' shut') 0 x
  stepped x item li lo h is kept e s sh c = record {
    ports = record { ins = ap (λ (l : Lane). l ∷ []) li; outs = ap (λ (l : Lane). l ∷ []) lo };
    rest = λ ext q on.
        let same : before_all queue' (behind after' (runs' (ext 0))) ≡ before_all queue (runs (before x (ext 0))) =
        ap (λ (xs : List Item). before_all xs (behind after' (runs' (ext 0)))) (kept on)
        ∙ (put_then queue item (behind after' (runs' (ext 0))) ∙ ap (λ (r : Flow). before_all queue r) (sym (made_then item after' (runs' (ext 0))) ∙ sym (h (ext 0)))) in
        rw (is, e) (ap (λ (t : Flow). cond ended nothing t) same);
    shut_here = rw (sh, c) (or_nothing shut);
    shut_others = λ i lt n. absurd (no_other i lt n);
    ended = λ q. e;
    stopped = λ q. s;
  }
    where
      or_nothing : (b : Bool) → b ≡ (b || false)
      or_nothing true = refl
      or_nothing false = refl

-- an item that came when nothing more was wanted
pub passed_over : (lane_in lane_out : Lane) (runs : Flow → Flow) (queue : List Item) (ended stopped : Bool) (after : After) (shut : Bool) (x : Item) → (stopped ≡ false → after ≢ More) → shut ≡ false → closes x ≡ false
    → Fed (stepper_view lane_in lane_out runs queue ended stopped after shut) (stepper_view lane_in lane_out runs queue ended stopped after shut) 0 x
passed_over lane_in lane_out runs queue ended stopped after shut x n u c = record {
  ports = record { ins = refl; outs = refl };
  rest = λ ext q on. ap (λ (t : Flow). cond ended nothing (before_all queue t)) (same after (n on) (runs (ext 0)) (runs (before x (ext 0))));
  shut_here = rw (u, c) refl;
  shut_others = λ i lt m. refl;
  ended = λ q. refl;
  stopped = λ q. refl;
}
  where
    same : (after : After) → after ≢ More → (r s : Flow) → behind after r ≡ behind after s
    same More n r s = absurd (n refl)
    same Whole n r s = refl
    same Broke n r s = refl

-- the only port
pub only_port : (p : ℕ) → p < 1 → 0 ≡ p
only_port p lt = omega arith

pub fed_there : (v w : View) (p : ℕ) (x : Item) → p < 1 → Fed v w 0 x → Fed v w p x
fed_there v w p x lt f = subst (λ (q : ℕ). Fed v w q x) (only_port p lt) f

pub fed_where : {U : Type 0} (v w : View) (p : ℕ) (x : Item) (r : Result U Refused) → p < 1 → OnOk r (Fed v w 0 x) → OnOk r (Fed v w p x)
fed_where v w p x (Ok u) lt f = fed_there v w p x lt f
fed_where v w p x (Err e) lt f = tt

pub closing-none : (x : Item) → closing x ≡ None → closes x ≡ false
closing-none (Audio f) e = refl
closing-none (Video f) e = refl
closing-none (Packet p) e = refl
closing-none (Trailer t) e = refl
closing-none End e = cc
closing-none Broken e = cc

pub closing-some : (x : Item) (a : After) → closing x ≡ Some a → (closes x ≡ true) × (is_over a ≡ true) × ((t : Flow) → before x t ≡ behind a t)
closing-some (Audio f) a e = cc
closing-some (Video f) a e = cc
closing-some (Packet p) a e = cc
closing-some (Trailer p) a e = cc
closing-some End More e = cc
closing-some End Whole e = (refl, refl, λ t. refl)
closing-some End Broke e = cc
closing-some Broken More e = cc
closing-some Broken Whole e = cc
closing-some Broken Broke e = (refl, refl, λ t. refl)

-- an item is given
pub took : (lane_in lane_out : Lane) (runs : Flow → Flow) (queue queue' : List Item) (ended ended' stopped stopped' : Bool) (after : After) (shut : Bool) (p : ℕ) (x : Item) → p < 1
    → (ended ≡ false) × ((t : Flow) → left queue ended after t ≡ before x (left queue' ended' after t)) × (ended' ≡ closes x) → stopped' ≡ stopped
    → Gave (stepper_view lane_in lane_out runs queue ended stopped after shut) (stepper_view lane_in lane_out runs queue' ended' stopped' after shut) p x
took lane_in lane_out runs queue queue' ended ended' stopped stopped' after shut p x lt h s = record {
  ports = record { ins = refl; outs = refl };
  open_before = h.0;
  rest_here = λ ext. h.1 (runs (ext 0));
  rest_others = λ ext o l n w. absurd (apart o p l lt n);
  shut = λ q. refl;
  ended_here = h.2;
  ended_others = λ o l n. absurd (apart o p l lt n);
  stopped = λ q. s;
}
  where
    apart : (o p : ℕ) → o < 1 → p < 1 → o ≢ p → ⊥
    apart o p l lt n = let e : o ≡ p = omega arith in n e

module _ (lane_in lane_out : Lane) (runs : Flow → Flow) (queue : List Item) (ended stopped : Bool) (after : After) (shut : Bool) where
  -- the input has closed, or the output is over, exactly where it says so
  pub spent_exact : none_closes queue ≡ true → (not shut || is_over after) ≡ true → runs nothing ≡ nothing → (b : Bool) → b ≡ steps_spent after ended stopped
      → (IsTrue b → IsSpent (stepper_view lane_in lane_out runs queue ended stopped after shut) 0) × (IsSpent (stepper_view lane_in lane_out runs queue ended stopped after shut) 0 → IsTrue b)
  spent_exact opens tied waits b is = (λ t. stepper-spent lane_in lane_out runs queue ended stopped after shut 0 (sym is ∙ t), λ s. is ∙ back s stopped refl)
    where
      by_output : (stopped ≡ false → IsOver (stepper_view lane_in lane_out runs queue ended stopped after shut) 0) → (s : Bool) → stopped ≡ s → steps_spent after ended stopped ≡ true
      by_output h true e = or_left stopped (ended || is_over after) e
      by_output h false e = elim (h e) as (λ _. steps_spent after ended stopped ≡ true) [
        | inl d ↦ or_right stopped (ended || is_over after) (or_left ended (is_over after) d)
        | inr c ↦ or_right stopped (ended || is_over after) (or_right ended (is_over after) (over_left queue ended after opens (subst (λ (t : Flow). IsClosed (left queue ended after t)) waits c)))
      ]

      back : IsSpent (stepper_view lane_in lane_out runs queue ended stopped after shut) 0 → (s : Bool) → stopped ≡ s → steps_spent after ended stopped ≡ true
      back (inl e) s is = or_right stopped (ended || is_over after) (or_right ended (is_over after) (over_by shut after tied e))
      back (inr h) s is = by_output (λ on. h.1 0 (omega arith) on) s is
