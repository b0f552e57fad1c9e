-- What the machine that joins two inputs does at each call.
use Rattle.std.proofs.Common.{◌≡◌, ◌≢◌, ℕ, zero, suc, ◌+◌, ◌<◌, ◌≤◌, ◌⊎◌, inl, inr, Bool, true, false, List, [], ◌∷◌, ◌++◌, length, take, slice_index_or, refl, ap, sym, ◌∙◌, subst, arith}
use Rattle.std.proofs.lemmas.List.{take_more}
use Rattle.ff_stream.specs.declared.item.Item.{Item}
use Rattle.ff_stream.specs.declared.item.Item.TheVariants.{Audio, Video, Packet, Trailer, End, Broken}
use Rattle.ff_stream.specs.declared.item.Lane.{Lane}
use Rattle.ff_stream.specs.Stream.{Mark, still_open, LiesBelow}
use Rattle.ff_stream.specs.Items.{with_item}
use Rattle.ff_stream.specs.laws.Order.{below_self, below_items, closed_below, same_stream, with_item_above}
use Rattle.ff_stream.specs.Lanes.{IsValid, FitsLane}
use Rattle.ff_stream.specs.Ports.{nothing, stream_at, IsClosed}
use Rattle.ff_net.specs.Ways.{Flow, AreValid}
use Rattle.ff_net.specs.Pasts.{Past, due, fed, gave_item, was_asked, was_stopped}
use Rattle.ff_net.proofs.Flows.{take_whole, stream_at-with_item_same, stream_at-with_item_other}
use Rattle.ff_test_machines.specs.ListLaws.{take_less}
use Rattle.ff_test_machines.specs.Joins.{joined, given_so_far, Joins}
use Rattle.ff_test_machines.specs.JoinLaws.{joined_below, joins_due, longer, take_both}
use Rattle.ff_test_machines.proofs.ListSteps.{fits_goes_on, item_added}

-- an item that closes
pub closes_with : (t : Flow) (x : Item) (m : Mark) → with_item nothing x ≡ record { items = []; mark = m } → with_item t x ≡ record { items = t.items; mark = m }
closes_with t (Audio f) m e = (let clash : Audio f ∷ [] ≡ [] = ap (λ (s : Flow). s.items) e in cc)
closes_with t (Video f) m e = (let clash : Video f ∷ [] ≡ [] = ap (λ (s : Flow). s.items) e in cc)
closes_with t (Packet f) m e = (let clash : Packet f ∷ [] ≡ [] = ap (λ (s : Flow). s.items) e in cc)
closes_with t (Trailer f) m e = (let clash : Trailer f ∷ [] ≡ [] = ap (λ (s : Flow). s.items) e in cc)
closes_with t End m e = ap (λ (k : Mark). let s : Flow = record { items = t.items; mark = k } in s) (ap (λ (s : Flow). s.mark) e)
closes_with t Broken m e = ap (λ (k : Mark). let s : Flow = record { items = t.items; mark = k } in s) (ap (λ (s : Flow). s.mark) e)

-- all pairs were given
all_paired : (a b : Flow) (next : ℕ) → next ≤ length a.items → next ≤ length b.items → (length a.items ≤ next) ⊎ (length b.items ≤ next) → take next a.items ≡ take (length b.items) a.items
all_paired a b next la lb (inl le) = take_whole next a.items le ∙ sym (take_whole (length b.items) a.items (omega (arith, le, lb)))
all_paired a b next la lb (inr le) = ap (λ (n : ℕ). take n a.items) (omega (arith, le, lb))

module _ (lane : Lane) (first second : Flow) (next : ℕ) (ended stopped : Bool) (past : Past) (s : Joins lane first second next ended stopped past) where
  moved : (a b : Flow) → LiesBelow first a → LiesBelow second b → given_so_far first second next ended ≡ given_so_far a b next ended
  moved a b ha hb = pick ended (λ e. s.at_end e)
    where
      pick : (t : Bool) → (t ≡ true → IsClosed (joined first second)) → given_so_far first second next t ≡ given_so_far a b next t
      pick true c = closed_below (joined first second) (joined a b) (joined_below first a second b ha hb) (c refl)
      pick false c = same_stream (given_so_far first second next false) (given_so_far a b next false) (take_both next first.items a.items (below_items first a ha) s.there) refl

  still_closed : (a b : Flow) → LiesBelow first a → LiesBelow second b → ended ≡ true → IsClosed (joined a b)
  still_closed a b ha hb e = subst (λ (t : Flow). IsClosed t) (closed_below (joined first second) (joined a b) (joined_below first a second b ha hb) (s.at_end e)) (s.at_end e)

  pub fed_first : (a : Flow) (x : Item) → a ≡ with_item first x → (stream_at past.got 0).mark ≡ still_open → IsValid lane (stream_at (fed past 0 x).got 0) → Joins lane a second next ended stopped (fed past 0 x)
  fed_first a x is o v =
      let here : stream_at (fed past 0 x).got 0 ≡ a = stream_at-with_item_same past.got 0 x ∙ (ap (λ (t : Flow). with_item t x) s.first_is ∙ sym is) in
      let open_first : first.mark ≡ still_open = subst (λ (t : Flow). t.mark ≡ still_open) s.first_is o in
      let above : LiesBelow first a = subst (λ (t : Flow). LiesBelow first t) (sym is) (with_item_above first x open_first) in
      let more = longer first a above in record {
        means = s.means;
        silent = s.silent;
        cause = s.cause;
        plain = s.plain;
        first_is = here;
        second_is = stream_at-with_item_other past.got 0 1 x (omega arith) ∙ s.second_is;
        others = λ p le. let other : p ≢ 0 = omega (arith, le) in stream_at-with_item_other past.got 0 p x other ∙ s.others p le;
        first_valid = subst (λ (t : Flow). IsValid lane t) here v;
        second_valid = s.second_valid;
        gave = s.gave ∙ moved a second above (below_self second);
        beyond = s.beyond;
        there = omega (arith, s.there, more);
        paired = s.paired;
        at_end = still_closed a second above (below_self second);
        stops = s.stops;
      }

  pub fed_second : (b : Flow) (x : Item) → b ≡ with_item second x → (stream_at past.got 1).mark ≡ still_open → IsValid lane (stream_at (fed past 1 x).got 1) → Joins lane first b next ended stopped (fed past 1 x)
  fed_second b x is o v =
      let here : stream_at (fed past 1 x).got 1 ≡ b = stream_at-with_item_same past.got 1 x ∙ (ap (λ (t : Flow). with_item t x) s.second_is ∙ sym is) in
      let open_second : second.mark ≡ still_open = subst (λ (t : Flow). t.mark ≡ still_open) s.second_is o in
      let above : LiesBelow second b = subst (λ (t : Flow). LiesBelow second t) (sym is) (with_item_above second x open_second) in
      let more = longer second b above in record {
        means = s.means;
        silent = s.silent;
        cause = s.cause;
        plain = s.plain;
        first_is = stream_at-with_item_other past.got 1 0 x (omega arith) ∙ s.first_is;
        second_is = here;
        others = λ p le. let other : p ≢ 1 = omega (arith, le) in stream_at-with_item_other past.got 1 p x other ∙ s.others p le;
        first_valid = s.first_valid;
        second_valid = subst (λ (t : Flow). IsValid lane t) here v;
        gave = s.gave ∙ moved first b (below_self first) above;
        beyond = s.beyond;
        there = s.there;
        paired = omega (arith, s.paired, more);
        at_end = still_closed first b (below_self first) above;
        stops = s.stops;
      }

  pub accept_first : (p : ℕ) (a : Flow) (x : Item) → p ≡ 0 → a ≡ with_item first x → (stream_at past.got p).mark ≡ still_open → AreValid (lane ∷ lane ∷ []) (fed past p x).got → Joins lane a second next ended stopped (fed past p x)
  accept_first zero a x e is o v = fed_first a x is o (v 0)
  accept_first (suc p) a x e is o v = absurd (omega (arith, e))

  pub accept_second : (p : ℕ) (b : Flow) (x : Item) → p < 2 → p ≢ 0 → b ≡ with_item second x → (stream_at past.got p).mark ≡ still_open → AreValid (lane ∷ lane ∷ []) (fed past p x).got → Joins lane first b next ended stopped (fed past p x)
  accept_second zero b x lt n is o v = absurd (n refl)
  accept_second (suc zero) b x lt n is o v = fed_second b x is o (v 1)
  accept_second (suc (suc p)) b x lt n is o v = absurd (omega arith)

  pub due_at : stream_at (due past) 0 ≡ joined first second
  due_at = ap (λ (ss : List Flow). stream_at ss 0) (joins_due lane first second next ended stopped past s)

  pub asked_join : (p : ℕ) → Joins lane first second next ended stopped (was_asked past p)
  asked_join p = record { means = s.means; silent = s.silent; cause = s.cause; plain = s.plain; first_is = s.first_is; second_is = s.second_is; others = s.others; first_valid = s.first_valid; second_valid = s.second_valid; gave = s.gave; beyond = s.beyond; there = s.there; paired = s.paired; at_end = s.at_end; stops = s.stops }

  pub stopped_join : (p : ℕ) → p < 1 → Joins lane first second next ended true (was_stopped past p)
  stopped_join zero lt = record { means = s.means; silent = s.silent; cause = s.cause; plain = s.plain; first_is = s.first_is; second_is = s.second_is; others = s.others; first_valid = s.first_valid; second_valid = s.second_valid; gave = s.gave; beyond = s.beyond; there = s.there; paired = s.paired; at_end = s.at_end; stops = (λ e. inl refl, λ i. refl) }
  stopped_join (suc p) lt = absurd (omega arith)

pub ended_join : (lane : Lane) (first second : Flow) (next : ℕ) (stopped : Bool) (past : Past) (p : ℕ) → p < 1 → Joins lane first second next true stopped past → stream_at past.gave p ≡ stream_at (due past) p
ended_join lane first second next stopped past zero lt s = s.gave ∙ sym (due_at lane first second next true stopped past s)
ended_join lane first second next stopped past (suc p) lt s = absurd (omega arith)

-- all pairs were given, and neither input has ended so that the output does
pub waits_join : (lane : Lane) (first second : Flow) (next : ℕ) (stopped : Bool) (past : Past) (p : ℕ) → p < 1 → (length first.items ≤ next) ⊎ (length second.items ≤ next) → (joined first second).mark ≡ still_open → Joins lane first second next false stopped past → stream_at past.gave p ≡ stream_at (due past) p
waits_join lane first second next stopped past zero lt all o s =
    s.gave ∙ (same_stream (given_so_far first second next false) (joined first second) (all_paired first second next s.there s.paired all) (sym o) ∙ sym (due_at lane first second next false stopped past s))
waits_join lane first second next stopped past (suc p) lt all o s = absurd (omega arith)

pub join_gives : (lane : Lane) (first second : Flow) (next : ℕ) (stopped : Bool) (past : Past) (p : ℕ) (x : Item) → p < 1 → next < length first.items → next < length second.items → slice_index_or first.items next x ≡ x → Joins lane first second next false stopped past
    → Joins lane first second (next + 1) false stopped (gave_item past p x) × ((stream_at past.gave p).mark ≡ still_open) × LiesBelow (with_item (stream_at past.gave p) x) (stream_at (due past) p)
join_gives lane first second next stopped past zero x lt less paired is s =
    let fits : FitsLane lane x = subst (λ (y : Item). FitsLane lane y) is (s.first_valid.shape.each next x less).fits in
    let more : take (next + 1) first.items ≡ take next first.items ++ x ∷ [] = take_more first.items next x less ∙ ap (λ (y : Item). take next first.items ++ y ∷ []) is in
    let grown : with_item (stream_at past.gave 0) x ≡ given_so_far first second (next + 1) false = ap (λ (t : Flow). with_item t x) s.gave ∙ (item_added (given_so_far first second next false) x (fits_goes_on lane x fits) ∙ ap (λ (xs : List Item). let t : Flow = record { items = xs; mark = still_open } in t) (sym more)) in (
      record {
        means = s.means;
        silent = s.silent;
        cause = s.cause;
        plain = s.plain;
        first_is = s.first_is;
        second_is = s.second_is;
        others = s.others;
        first_valid = s.first_valid;
        second_valid = s.second_valid;
        gave = stream_at-with_item_same past.gave 0 x ∙ grown;
        beyond = λ q le. let other : q ≢ 0 = omega (arith, le) in stream_at-with_item_other past.gave 0 q x other ∙ s.beyond q le;
        there = omega (arith, less);
        paired = omega (arith, paired);
        at_end = λ e. cc;
        stops = s.stops;
      },
      ap (λ (t : Flow). t.mark) s.gave,
      subst (λ (t : Flow). LiesBelow t (stream_at (due past) 0)) (sym grown) (subst (λ (t : Flow). LiesBelow (given_so_far first second (next + 1) false) t) (sym (due_at lane first second next false stopped past s))
          (inr (refl, take_less (next + 1) (length second.items) first.items (omega (arith, paired))))),
    )
join_gives lane first second next stopped past (suc p) x lt less paired is s = absurd (omega arith)

pub join_ends : (lane : Lane) (first second : Flow) (next : ℕ) (stopped : Bool) (past : Past) (p : ℕ) (x : Item) → p < 1 → (length first.items ≤ next) ⊎ (length second.items ≤ next) → with_item nothing x ≡ record { items = []; mark = (joined first second).mark } → IsClosed (joined first second) → Joins lane first second next false stopped past
    → Joins lane first second next true stopped (gave_item past p x) × ((stream_at past.gave p).mark ≡ still_open) × LiesBelow (with_item (stream_at past.gave p) x) (stream_at (due past) p)
join_ends lane first second next stopped past zero x lt all is closed s =
    let grown : with_item (stream_at past.gave 0) x ≡ joined first second = ap (λ (t : Flow). with_item t x) s.gave ∙ (closes_with (given_so_far first second next false) x (joined first second).mark is ∙ ap (λ (xs : List Item). let t : Flow = record { items = xs; mark = (joined first second).mark } in t) (all_paired first second next s.there s.paired all)) in (
      record {
        means = s.means;
        silent = s.silent;
        cause = s.cause;
        plain = s.plain;
        first_is = s.first_is;
        second_is = s.second_is;
        others = s.others;
        first_valid = s.first_valid;
        second_valid = s.second_valid;
        gave = stream_at-with_item_same past.gave 0 x ∙ grown;
        beyond = λ q le. let other : q ≢ 0 = omega (arith, le) in stream_at-with_item_other past.gave 0 q x other ∙ s.beyond q le;
        there = s.there;
        paired = s.paired;
        at_end = λ e. closed;
        stops = s.stops;
      },
      ap (λ (t : Flow). t.mark) s.gave,
      inl (grown ∙ sym (due_at lane first second next false stopped past s)),
    )
join_ends lane first second next stopped past (suc p) x lt all is closed s = absurd (omega arith)
