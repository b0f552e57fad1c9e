-- From the calls of a filter to the clauses and laws of a machine, once for all filters.
use Rattle.std.specs.Prelude.{◌≡◌, ◌≢◌, ◌↔◌, ℕ, zero, suc, ◌<◌, ◌≤◌, ◌==◌, ◌⊎◌, Bool, true, false, ◌||◌, List, [], ◌∷◌, map, length, Option, None, Some, refl}
use Rattle.std.proofs.Common.{inl, inr, ap, sym, ◌∙◌, subst, arith}
use Rattle.std.proofs.lemmas.Bool.Decides.{nat_tests}
use Rattle.std.proofs.lemmas.List.{append-nil}
use Rattle.ff_stream.specs.declared.item.Item.{Item}
use Rattle.ff_stream.specs.declared.item.Item.TheVariants.{Audio, Video, Packet, Trailer, End, Broken}
use Rattle.ff_stream.specs.declared.item.Lane.{Lane}
use Rattle.ff_stream.specs.Stream.{Mark, still_open, whole, broken, LiesBelow, opened}
use Rattle.ff_stream.specs.Items.{with_item}
use Rattle.ff_stream.specs.laws.Order.{nothing_below, closed_below, unbroken_below, all_trans, stream_at-opened}
use Rattle.ff_stream.specs.Ports.{nothing, stream_at, AllBelow, AllUnbroken, IsClosed, IsUnbroken, IsMonotone, IsCalm}
use Rattle.ff_net.specs.declared.fault.Fault.{Fault}
use Rattle.ff_net.specs.declared.fault.Fault.TheVariants.{TooLong}
use Rattle.ff_net.specs.Ways.{lane_at, IsValidOn, AreValid, with_item_at}
use Rattle.ff_stream.specs.laws.LaneLaws.{nothing_valid}
use Rattle.ff_net.specs.Pasts.{Past, IsIn, fed, gave_item, was_asked, was_stopped, due, start}
use Rattle.ff_net.specs.laws.Laws.{OutputsClose, IsPending, AllAsked}
use Rattle.ff_net.proofs.Flows.{stream_at-with_item_same, stream_at-with_item_other, due_meant, fed_above}
use Rattle.ff_filter.specs.Joins.{Flow, Ports, silence, joined, joined_at, one, before_if, before_at, all_joined, all_opened, EachBelow, joined_assoc, joined_nothing, joined_above, joined_closed, closed_joined}
use Rattle.ff_filter.specs.Views.{View, closes, breaks, SamePorts, Same, Fed, Gave, Waits, Stopped, IsOver, IsSpent, Settles, AllDone, IsNew}
use Rattle.ff_node_filter.specs.Tasks.{listed, ported, filter_task, ClosesAll, IsLawful, Stands}

pub stream_at-listed : (n : ℕ) (g : Ports) (q : ℕ) → q < n → stream_at (listed n g) q ≡ g q
stream_at-listed zero g q lt = absurd (omega arith)
stream_at-listed (suc n) g zero lt = refl
stream_at-listed (suc n) g (suc q) lt = stream_at-listed n (λ p. g (suc p)) q (omega arith)

pub stream_at-beyond : (n : ℕ) (g : Ports) (q : ℕ) → n ≤ q → stream_at (listed n g) q ≡ nothing
stream_at-beyond zero g q le = refl
stream_at-beyond (suc n) g zero le = absurd (omega arith)
stream_at-beyond (suc n) g (suc q) le = stream_at-beyond n (λ p. g (suc p)) q (omega arith)

there_or_not : (q n : ℕ) → (q < n) ⊎ (n ≤ q)
there_or_not zero zero = inr (omega arith)
there_or_not zero (suc n) = inl (omega arith)
there_or_not (suc q) zero = inr (omega arith)
there_or_not (suc q) (suc n) = elim (there_or_not q n) [ inl l ↦ inl (omega (arith, l)) | inr l ↦ inr (omega (arith, l)) ]

pub listed_below : (n : ℕ) (g h : Ports) → EachBelow g h → AllBelow (listed n g) (listed n h)
listed_below n g h b q = elim (there_or_not q n) as (λ _. LiesBelow (stream_at (listed n g) q) (stream_at (listed n h) q)) [
  | inl lt ↦ subst (λ (r : Flow). LiesBelow r (stream_at (listed n h) q)) (sym (stream_at-listed n g q lt)) (subst (λ (s : Flow). LiesBelow (g q) s) (sym (stream_at-listed n h q lt)) (b q))
  | inr le ↦ subst (λ (r : Flow). LiesBelow r (stream_at (listed n h) q)) (sym (stream_at-beyond n g q le)) (nothing_below (stream_at (listed n h) q))
]

-- an item more on an open stream
grown_at : (xs : List Item) (m : Mark) (x : Item) → m ≡ still_open → with_item (record { items = xs; mark = m }) x ≡ joined_at xs m (one x)
grown_at xs still_open (Audio f) o = refl
grown_at xs still_open (Video f) o = refl
grown_at xs still_open (Packet p) o = refl
grown_at xs still_open (Trailer p) o = refl
grown_at xs still_open End o = sym (ap (λ (zs : List Item). let r : Flow = record { items = zs; mark = whole } in r) (append-nil xs))
grown_at xs still_open Broken o = sym (ap (λ (zs : List Item). let r : Flow = record { items = zs; mark = broken } in r) (append-nil xs))
grown_at xs whole x o = cc
grown_at xs broken x o = cc

pub grown : (s : Flow) (x : Item) → s.mark ≡ still_open → with_item s x ≡ joined s (one x)
grown s x o = grown_at s.items s.mark x o

here_or_not : (q p : ℕ) → ((q ≡ p) × ((q == p) ≡ true)) ⊎ ((q ≢ p) × ((q == p) ≡ false))
here_or_not q p = at q p (q == p) refl
  where
    at : (q p : ℕ) (b : Bool) → (q == p) ≡ b → ((q ≡ p) × ((q == p) ≡ true)) ⊎ ((q ≢ p) × ((q == p) ≡ false))
    at q p true e = inl (grind (arith, nat_tests), e)
    at q p false e = inr ((λ f. let t : (q == p) ≡ true = rw f (grind (arith, nat_tests)) in cc), e)

pub not_both : (b : Bool) → b ≡ true → b ≡ false → ⊥
not_both b e f = cc

is_false : (b : Bool) → (b ≡ true → ⊥) → b ≡ false
is_false true n = absurd (n refl)
is_false false n = refl

-- what was fed, with one item more and then the rest, is what was fed and then the item before the rest
fed_on : (got : List Flow) (p : ℕ) (x : Item) (ext : Ports) → (stream_at got p).mark ≡ still_open → all_joined (stream_at (with_item_at got p x)) ext ≡ all_joined (stream_at got) (before_at p x ext)
fed_on got p x ext o i q = at q i
  where
    at : (q : ℕ) → joined (stream_at (with_item_at got p x) q) (ext q) ≡ joined (stream_at got q) (before_if (q == p) x (ext q))
    at q = elim (here_or_not q p) as (λ _. joined (stream_at (with_item_at got p x) q) (ext q) ≡ joined (stream_at got q) (before_if (q == p) x (ext q))) [
      | inl h ↦ (
          let here : stream_at (with_item_at got p x) q ≡ joined (stream_at got q) (one x) = subst (λ (k : ℕ). stream_at (with_item_at got p x) k ≡ joined (stream_at got k) (one x)) (sym (h.0)) (stream_at-with_item_same got p x ∙ grown (stream_at got p) x o) in
          rw (h.1) (ap (λ (s : Flow). joined s (ext q)) here ∙ joined_assoc (stream_at got q) (one x) (ext q))
          )
      | inr h ↦ rw (h.1) (ap (λ (s : Flow). joined s (ext q)) (stream_at-with_item_other got p q x (h.0)))
    ]

closes_true : (s : Flow) (x : Item) → closes x ≡ true → IsClosed (with_item s x)
closes_true s (Audio f) e = cc
closes_true s (Video f) e = cc
closes_true s (Packet p) e = cc
closes_true s (Trailer p) e = cc
closes_true s End e = λ o. cc
closes_true s Broken e = λ o. cc

closes_false : (s : Flow) (x : Item) → closes x ≡ false → (with_item s x).mark ≡ s.mark
closes_false s (Audio f) e = refl
closes_false s (Video f) e = refl
closes_false s (Packet p) e = refl
closes_false s (Trailer p) e = refl
closes_false s End e = cc
closes_false s Broken e = cc

closed_or : (x : Item) → (closes x ≡ true) ⊎ (closes x ≡ false)
closed_or x = at (closes x) refl
  where
    at : (b : Bool) → closes x ≡ b → (closes x ≡ true) ⊎ (closes x ≡ false)
    at true e = inl e
    at false e = inr e

-- on an open stream an item closes exactly where it says so
closing_is : (s : Flow) (x : Item) → s.mark ≡ still_open → (closes x ≡ true) ↔ IsClosed (with_item s x)
closing_is s x o = (λ e. closes_true s x e, λ c. elim (closed_or x) [ inl e ↦ e | inr e ↦ absurd (c (closes_false s x e ∙ o)) ])

or_false : (b c : Bool) → b ≡ false → (b || c) ≡ c
or_false true c e = cc
or_false false c e = refl

iff_to : {A : Type 0} (b c : Bool) → c ≡ b → (b ≡ true) ↔ A → (c ≡ true) ↔ A
iff_to b c e h = (λ t. h.0 (sym e ∙ t), λ a. e ∙ h.1 a)

out_there : (v w : View) → SamePorts v w → (q : ℕ) → q < length w.outs → q < length v.outs
out_there v w s q lt = subst (λ (ls : List Lane). q < length ls) s.outs lt

in_there : (v w : View) → SamePorts v w → (p : ℕ) → p < length w.ins → p < length v.ins
in_there v w s p lt = subst (λ (ls : List Lane). p < length ls) s.ins lt

lawful_to : (v w : View) → SamePorts v w → (f : Ports → Ports) (cause : List Flow → Option Fault) → IsLawful v.ins v.outs f cause → IsLawful w.ins w.outs f cause
lawful_to v w s f cause l = subst (λ (ls : List Lane). IsLawful ls w.outs f cause) (sym s.ins) (subst (λ (ls : List Lane). IsLawful v.ins ls f cause) (sym s.outs) l)

means_to : (v w : View) → SamePorts v w → (f : Ports → Ports) (means : List Flow → List Flow) → means ≡ ported (length v.outs) f → means ≡ ported (length w.outs) f
means_to v w s f means e = subst (λ (ls : List Lane). means ≡ ported (length ls) f) (sym s.outs) e

below_to : (v w : View) → SamePorts v w → (f : Ports → Ports) (got gave : List Flow) → AllBelow gave (ported (length v.outs) f got) → AllBelow gave (ported (length w.outs) f got)
below_to v w s f got gave b = subst (λ (ls : List Lane). AllBelow gave (ported (length ls) f got)) (sym s.outs) b

settles_to : (v w : View) → SamePorts v w → (f : Ports → Ports) → ClosesAll v.ins v.outs f → ClosesAll w.ins w.outs f
settles_to v w s f c = subst (λ (ls : List Lane). ClosesAll ls w.outs f) (sym s.ins) (subst (λ (ls : List Lane). ClosesAll v.ins ls f) (sym s.outs) c)

valid_to : (v w : View) → SamePorts v w → (ss : List Flow) → AreValid v.ins ss → AreValid w.ins ss
valid_to v w s ss a = subst (λ (ls : List Lane). AreValid ls ss) (sym s.ins) a

both_false : (b c : Bool) → (b || c) ≡ false → (b ≡ false) × (c ≡ false)
both_false true c e = cc
both_false false c e = (refl, e)

both_or : (b c : Bool) → b ≡ false → c ≡ false → (b || c) ≡ false
both_or b c e f = rw (e, f) refl

unbroken_with : (s : Flow) (x : Item) → s.mark ≡ still_open → breaks x ≡ false → IsUnbroken (with_item s x)
unbroken_with s (Audio f) o e b = cc
unbroken_with s (Video f) o e b = cc
unbroken_with s (Packet p) o e b = cc
unbroken_with s (Trailer p) o e b = cc
unbroken_with s End o e b = cc
unbroken_with s Broken o e b = cc

unbroken_means : (s : Flow) (x : Item) → IsUnbroken (with_item s x) → breaks x ≡ false
unbroken_means s (Audio f) u = refl
unbroken_means s (Video f) u = refl
unbroken_means s (Packet p) u = refl
unbroken_means s (Trailer p) u = refl
unbroken_means s End u = refl
unbroken_means s Broken u = absurd (u refl)

all_unbroken_with : (ss : List Flow) (p : ℕ) (x : Item) → (stream_at ss p).mark ≡ still_open → AllUnbroken ss → breaks x ≡ false → AllUnbroken (with_item_at ss p x)
all_unbroken_with ss p x o u e q = elim (here_or_not q p) as (λ _. IsUnbroken (stream_at (with_item_at ss p x) q)) [
  | inl h ↦ subst (λ (k : ℕ). IsUnbroken (stream_at (with_item_at ss p x) k)) (sym (h.0)) (subst (λ (s : Flow). IsUnbroken s) (sym (stream_at-with_item_same ss p x)) (unbroken_with (stream_at ss p) x o e))
  | inr h ↦ subst (λ (s : Flow). IsUnbroken s) (sym (stream_at-with_item_other ss p q x (h.0))) (u q)
]

module _ (v w : View) (hurt long : Bool) (past : Past) (s : Stands v hurt long past) where
  pub due_is : due past ≡ ported (length v.outs) s.f past.got
  due_is = due_meant past s.plain ∙ ap (λ (g : List Flow → List Flow). g past.got) s.means_is

  pub due_at : (q : ℕ) → q < length v.outs → stream_at (due past) q ≡ s.f (stream_at past.got) q
  due_at q lt = ap (λ (ss : List Flow). stream_at ss q) due_is ∙ stream_at-listed (length v.outs) (s.f (stream_at past.got)) q lt

  none_more : all_joined (stream_at past.got) silence ≡ stream_at past.got
  none_more i q = joined_nothing (stream_at past.got q) i

  -- what is meant is what was given and then what is left
  pub now_means : (q : ℕ) → q < length v.outs → v.stopped q ≡ false → s.f (stream_at past.got) q ≡ joined (stream_at past.gave q) (v.rest silence q)
  now_means q lt on = ap (λ (ss : Ports). s.f ss q) (sym none_more) ∙ s.goes silence q lt on

  pub goes_on : (q : ℕ) → q < length v.outs → (IsIn q past.stopped → ⊥) → v.stopped q ≡ false
  goes_on q lt on = is_false (v.stopped q) (λ e. on ((s.stops q lt).0 e))

  pub shut_false : (p : ℕ) → p < length v.ins → (stream_at past.got p).mark ≡ still_open → v.shut p ≡ false
  shut_false p lt o = is_false (v.shut p) (λ e. (s.shut_is p lt).0 e o)

  module _ (p : ℕ) (x : Item) (there : p < length v.ins) (o : (stream_at past.got p).mark ≡ still_open) (fits : AreValid v.ins (fed past p x).got) where
    open_before : v.shut p ≡ false
    open_before = shut_false p there o

    shut_fed : Fed v w p x → (i : ℕ) → i < length w.ins → (w.shut i ≡ true) ↔ IsClosed (stream_at (fed past p x).got i)
    shut_fed h i lt = elim (here_or_not i p) as (λ _. (w.shut i ≡ true) ↔ IsClosed (stream_at (fed past p x).got i)) [
      | inl e ↦ subst (λ (k : ℕ). (w.shut k ≡ true) ↔ IsClosed (stream_at (fed past p x).got k)) (sym (e.0))
          (subst (λ (t : Flow). (w.shut p ≡ true) ↔ IsClosed t) (sym (stream_at-with_item_same past.got p x)) (iff_to (closes x) (w.shut p) (h.shut_here ∙ or_false (v.shut p) (closes x) open_before) (closing_is (stream_at past.got p) x o)))
      | inr n ↦ subst (λ (t : Flow). (w.shut i ≡ true) ↔ IsClosed t) (sym (stream_at-with_item_other past.got p i x (n.0))) (iff_to (v.shut i) (w.shut i) (h.shut_others i (in_there v w h.ports i lt) (n.0)) (s.shut_is i (in_there v w h.ports i lt)))
    ]

    pub feeds : Fed v w p x → Stands w (hurt || breaks x) long (fed past p x)
    feeds h = record {
      f = s.f;
      lawful = lawful_to v w h.ports s.f past.task.cause s.lawful;
      means_is = means_to v w h.ports s.f past.task.means s.means_is;
      plain = s.plain;
      silent = s.silent;
      settles = settles_to v w h.ports s.f s.settles;
      valid = valid_to v w h.ports (fed past p x).got fits;
      goes = λ ext q lt on.
          let was : v.stopped q ≡ false = sym (h.stopped q) ∙ on in
          ap (λ (ss : Ports). s.f ss q) (fed_on past.got p x ext o) ∙ (s.goes (before_at p x ext) q (out_there v w h.ports q lt) was ∙ ap (λ (t : Flow). joined (stream_at past.gave q) t) (sym (h.rest ext q was)));
      below = below_to v w h.ports s.f (fed past p x).got past.gave (all_trans past.gave (ported (length v.outs) s.f past.got) (ported (length v.outs) s.f (fed past p x).got) s.below
          (listed_below (length v.outs) (s.f (stream_at past.got)) (s.f (stream_at (fed past p x).got)) (s.lawful.grows (stream_at past.got) (stream_at (fed past p x).got) (fed_above past p x o))));
      shut_is = shut_fed h;
      ended_is = λ q lt. iff_to (v.ended q) (w.ended q) (h.ended q) (s.ended_is q (out_there v w h.ports q lt));
      stops = λ q lt. iff_to (v.stopped q) (w.stopped q) (h.stopped q) (s.stops q (out_there v w h.ports q lt));
      asked = λ q lt on i. absurd i;
      hurt_is = (
        λ e. let b = both_false hurt (breaks x) e in all_unbroken_with past.got p x o (s.hurt_is.0 (b.0)) (b.1),
        λ u. both_or hurt (breaks x) (s.hurt_is.1 (λ q. unbroken_below (stream_at past.got q) (stream_at (fed past p x).got q) (fed_above past p x o q) (u q)))
            (unbroken_means (stream_at past.got p) x (subst (λ (t : Flow). IsUnbroken t) (stream_at-with_item_same past.got p x) (u p))),
      );
      long_is = λ e. s.lawful.cause_stays past.got (fed past p x).got TooLong s.valid fits (fed_above past p x o) (s.long_is e);
      unbroken = λ e u. s.unbroken e ((both_false hurt (breaks x) u).0);
    }

  -- a call that changed nothing that is seen, whether an output was asked or not
  same_with : Same v w → (asked : List ℕ) → ((q : ℕ) → q < length v.outs → v.stopped q ≡ false → IsIn q asked → v.rest silence q ≡ nothing) → Stands w hurt long (record past { asked = asked })
  same_with h asked had = record {
    f = s.f;
    lawful = lawful_to v w h.ports s.f past.task.cause s.lawful;
    means_is = means_to v w h.ports s.f past.task.means s.means_is;
    plain = s.plain;
    silent = s.silent;
    settles = settles_to v w h.ports s.f s.settles;
    valid = valid_to v w h.ports past.got s.valid;
    goes = λ ext q lt on.
        let was : v.stopped q ≡ false = sym (h.stopped q) ∙ on in
        s.goes ext q (out_there v w h.ports q lt) was ∙ ap (λ (t : Flow). joined (stream_at past.gave q) t) (sym (h.rest ext q was));
    below = below_to v w h.ports s.f past.got past.gave s.below;
    shut_is = λ p lt. iff_to (v.shut p) (w.shut p) (h.shut p) (s.shut_is p (in_there v w h.ports p lt));
    ended_is = λ q lt. iff_to (v.ended q) (w.ended q) (h.ended q) (s.ended_is q (out_there v w h.ports q lt));
    stops = λ q lt. iff_to (v.stopped q) (w.stopped q) (h.stopped q) (s.stops q (out_there v w h.ports q lt));
    asked = λ q lt on i. let was : v.stopped q ≡ false = sym (h.stopped q) ∙ on in h.rest silence q was ∙ had q (out_there v w h.ports q lt) was i;
    hurt_is = s.hurt_is;
    long_is = s.long_is;
    unbroken = s.unbroken;
  }

  -- a refused call
  pub stays : Same v w → Stands w hurt long past
  stays h = same_with h past.asked s.asked

  -- an output had nothing to give
  pub waits : (q : ℕ) → Waits v w q → Stands w hurt long (was_asked past q)
  waits q h = same_with h.same (q ∷ past.asked) at
    where
      at : (o : ℕ) → o < length v.outs → v.stopped o ≡ false → (q ≡ o) ⊎ IsIn o past.asked → v.rest silence o ≡ nothing
      at o lt on (inl e) = subst (λ (k : ℕ). v.rest silence k ≡ nothing) e h.nothing_left
      at o lt on (inr i) = s.asked o lt on i

  pub none_due : (q : ℕ) → q < length v.outs → v.stopped q ≡ false → Waits v w q → stream_at past.gave q ≡ stream_at (due past) q
  none_due q lt on h = sym (due_at q lt ∙ (now_means q lt on ∙ (ap (λ (t : Flow). joined (stream_at past.gave q) t) h.nothing_left ∙ joined_nothing (stream_at past.gave q))))

  module _ (q : ℕ) (x : Item) (there : q < length v.outs) (on : v.stopped q ≡ false) (h : Gave v w q x) where
    pub open_gave : (stream_at past.gave q).mark ≡ still_open
    open_gave = pick (stream_at past.gave q).mark refl
      where
        closed_so : (m : Mark) → (stream_at past.gave q).mark ≡ m → m ≢ still_open → (stream_at past.gave q).mark ≡ still_open
        closed_so m e n = absurd (not_both (v.ended q) ((s.ended_is q there).1 (λ o. n (sym e ∙ o))) h.open_before)

        pick : (m : Mark) → (stream_at past.gave q).mark ≡ m → (stream_at past.gave q).mark ≡ still_open
        pick still_open e = e
        pick whole e = closed_so whole e (λ o. cc)
        pick broken e = closed_so broken e (λ o. cc)

    next_is : with_item (stream_at past.gave q) x ≡ joined (stream_at past.gave q) (one x)
    next_is = grown (stream_at past.gave q) x open_gave

    given_here : stream_at (gave_item past q x).gave q ≡ joined (stream_at past.gave q) (one x)
    given_here = stream_at-with_item_same past.gave q x ∙ next_is

    given_other : (o : ℕ) → o ≢ q → stream_at (gave_item past q x).gave o ≡ stream_at past.gave o
    given_other o n = stream_at-with_item_other past.gave q o x n

    next_below : LiesBelow (with_item (stream_at past.gave q) x) (s.f (stream_at past.got) q)
    next_below =
        let e : s.f (stream_at past.got) q ≡ joined (joined (stream_at past.gave q) (one x)) (w.rest silence q) =
        now_means q there on ∙ (ap (λ (t : Flow). joined (stream_at past.gave q) t) (h.rest_here silence) ∙ sym (joined_assoc (stream_at past.gave q) (one x) (w.rest silence q))) in
        subst (λ (r : Flow). LiesBelow r (s.f (stream_at past.got) q)) (sym next_is) (subst (λ (t : Flow). LiesBelow (joined (stream_at past.gave q) (one x)) t) (sym e) (joined_above (joined (stream_at past.gave q) (one x)) (w.rest silence q)))

    pub next_due : LiesBelow (with_item (stream_at past.gave q) x) (stream_at (due past) q)
    next_due = subst (λ (t : Flow). LiesBelow (with_item (stream_at past.gave q) x) t) (sym (due_at q there)) next_below

    goes_given : (ext : Ports) (o : ℕ) → o < length w.outs → w.stopped o ≡ false → s.f (all_joined (stream_at past.got) ext) o ≡ joined (stream_at (gave_item past q x).gave o) (w.rest ext o)
    goes_given ext o lt n =
        let was : v.stopped o ≡ false = sym (h.stopped o) ∙ n in
        let l : o < length v.outs = out_there v w h.ports o lt in
        elim (here_or_not o q) as (λ _. s.f (all_joined (stream_at past.got) ext) o ≡ joined (stream_at (gave_item past q x).gave o) (w.rest ext o)) [
          | inl e ↦ (
              let here : s.f (all_joined (stream_at past.got) ext) q ≡ joined (stream_at (gave_item past q x).gave q) (w.rest ext q) =
              s.goes ext q there on ∙ (ap (λ (t : Flow). joined (stream_at past.gave q) t) (h.rest_here ext) ∙ (sym (joined_assoc (stream_at past.gave q) (one x) (w.rest ext q)) ∙ ap (λ (r : Flow). joined r (w.rest ext q)) (sym given_here))) in
              subst (λ (k : ℕ). s.f (all_joined (stream_at past.got) ext) k ≡ joined (stream_at (gave_item past q x).gave k) (w.rest ext k)) (sym (e.0)) here
              )
          | inr e ↦ s.goes ext o l was ∙ (ap (λ (t : Flow). joined (stream_at past.gave o) t) (sym (h.rest_others ext o l (e.0) was)) ∙ ap (λ (r : Flow). joined r (w.rest ext o)) (sym (given_other o (e.0))))
        ]

    below_given : AllBelow (gave_item past q x).gave (ported (length v.outs) s.f past.got)
    below_given o = elim (here_or_not o q) as (λ _. LiesBelow (stream_at (gave_item past q x).gave o) (stream_at (ported (length v.outs) s.f past.got) o)) [
      | inl e ↦ (
          let meant : stream_at (ported (length v.outs) s.f past.got) q ≡ s.f (stream_at past.got) q = stream_at-listed (length v.outs) (s.f (stream_at past.got)) q there in
          let here : LiesBelow (stream_at (gave_item past q x).gave q) (stream_at (ported (length v.outs) s.f past.got) q) =
          subst (λ (r : Flow). LiesBelow r (stream_at (ported (length v.outs) s.f past.got) q)) (sym (stream_at-with_item_same past.gave q x)) (subst (λ (t : Flow). LiesBelow (with_item (stream_at past.gave q) x) t) (sym meant) next_below) in
          subst (λ (k : ℕ). LiesBelow (stream_at (gave_item past q x).gave k) (stream_at (ported (length v.outs) s.f past.got) k)) (sym (e.0)) here
          )
      | inr e ↦ subst (λ (r : Flow). LiesBelow r (stream_at (ported (length v.outs) s.f past.got) o)) (sym (given_other o (e.0))) (s.below o)
    ]

    ended_given : (o : ℕ) → o < length w.outs → (w.ended o ≡ true) ↔ IsClosed (stream_at (gave_item past q x).gave o)
    ended_given o lt = elim (here_or_not o q) as (λ _. (w.ended o ≡ true) ↔ IsClosed (stream_at (gave_item past q x).gave o)) [
      | inl e ↦ subst (λ (k : ℕ). (w.ended k ≡ true) ↔ IsClosed (stream_at (gave_item past q x).gave k)) (sym (e.0))
          (subst (λ (t : Flow). (w.ended q ≡ true) ↔ IsClosed t) (sym (stream_at-with_item_same past.gave q x)) (iff_to (closes x) (w.ended q) h.ended_here (closing_is (stream_at past.gave q) x open_gave)))
      | inr n ↦ subst (λ (t : Flow). (w.ended o ≡ true) ↔ IsClosed t) (sym (given_other o (n.0))) (iff_to (v.ended o) (w.ended o) (h.ended_others o (out_there v w h.ports o lt) (n.0)) (s.ended_is o (out_there v w h.ports o lt)))
    ]

    broken_due : breaks x ≡ true → (s.f (stream_at past.got) q).mark ≡ broken
    broken_due b = at x b next_below
      where
        mark_of : (r t : Flow) → LiesBelow r t → r.mark ≡ broken → t.mark ≡ broken
        mark_of r t l e = ap (λ (y : Flow). y.mark) (sym (closed_below r t l (λ o. let clash : broken ≡ still_open = sym e ∙ o in cc))) ∙ e

        at : (y : Item) → breaks y ≡ true → LiesBelow (with_item (stream_at past.gave q) y) (s.f (stream_at past.got) q) → (s.f (stream_at past.got) q).mark ≡ broken
        at (Audio f) b l = cc
        at (Video f) b l = cc
        at (Packet p) b l = cc
        at (Trailer p) b l = cc
        at End b l = cc
        at Broken b l = mark_of (with_item (stream_at past.gave q) Broken) (s.f (stream_at past.got) q) l refl

    -- the item was given; a break that no input has is noted
    pub gives : (later : Bool) → (later ≡ true → (long ≡ true) ⊎ ((hurt ≡ false) × (breaks x ≡ true))) → (later ≡ false → (long ≡ false) × (hurt ≡ false → breaks x ≡ false)) → Stands w hurt later (gave_item past q x)
    gives later noted unnoted = record {
      f = s.f;
      lawful = lawful_to v w h.ports s.f past.task.cause s.lawful;
      means_is = means_to v w h.ports s.f past.task.means s.means_is;
      plain = s.plain;
      silent = s.silent;
      settles = settles_to v w h.ports s.f s.settles;
      valid = valid_to v w h.ports past.got s.valid;
      goes = goes_given;
      below = below_to v w h.ports s.f past.got (gave_item past q x).gave below_given;
      shut_is = λ p lt. iff_to (v.shut p) (w.shut p) (h.shut p) (s.shut_is p (in_there v w h.ports p lt));
      ended_is = ended_given;
      stops = λ o lt. iff_to (v.stopped o) (w.stopped o) (h.stopped o) (s.stops o (out_there v w h.ports o lt));
      asked = λ o lt n i. absurd i;
      hurt_is = s.hurt_is;
      long_is = λ e. elim (noted e) as (λ _. past.task.cause past.got ≡ Some TooLong) [
        | inl l ↦ s.long_is l
        | inr b ↦ s.lawful.too_long past.got q there s.valid (s.hurt_is.0 (b.0)) (broken_due (b.1))
      ];
      unbroken = λ e u. let k = unnoted e in all_unbroken_with past.gave q x open_gave (s.unbroken (k.0) u) (k.1 u);
    }

  -- an output was stopped
  pub stopping : (q : ℕ) → q < length v.outs → Stopped v w q → Stands w hurt long (was_stopped past q)
  stopping q there h = record {
    f = s.f;
    lawful = lawful_to v w h.ports s.f past.task.cause s.lawful;
    means_is = means_to v w h.ports s.f past.task.means s.means_is;
    plain = s.plain;
    silent = s.silent;
    settles = settles_to v w h.ports s.f s.settles;
    valid = valid_to v w h.ports past.got s.valid;
    goes = λ ext o lt on. let k = other o lt on in s.goes ext o (out_there v w h.ports o lt) (k.1) ∙ ap (λ (t : Flow). joined (stream_at past.gave o) t) (sym (h.rest_others ext o (out_there v w h.ports o lt) (k.0) (k.1)));
    below = below_to v w h.ports s.f past.got past.gave s.below;
    shut_is = λ p lt. iff_to (v.shut p) (w.shut p) (h.shut p) (s.shut_is p (in_there v w h.ports p lt));
    ended_is = λ o lt. iff_to (v.ended o) (w.ended o) (h.ended o) (s.ended_is o (out_there v w h.ports o lt));
    stops = stops_now;
    asked = λ o lt on i. let k = other o lt on in h.rest_others silence o (out_there v w h.ports o lt) (k.0) (k.1) ∙ s.asked o (out_there v w h.ports o lt) (k.1) i;
    hurt_is = s.hurt_is;
    long_is = s.long_is;
    unbroken = s.unbroken;
  }
    where
      other : (o : ℕ) → o < length w.outs → w.stopped o ≡ false → (o ≢ q) × (v.stopped o ≡ false)
      other o lt on =
          let n : o ≢ q = λ e. not_both (w.stopped q) h.stopped_here (ap w.stopped (sym e) ∙ on) in
          (n, sym (h.stopped_others o (out_there v w h.ports o lt) n) ∙ on)

      stops_now : (o : ℕ) → o < length w.outs → (w.stopped o ≡ true) ↔ ((q ≡ o) ⊎ IsIn o past.stopped)
      stops_now o lt = elim (here_or_not o q) as (λ _. (w.stopped o ≡ true) ↔ ((q ≡ o) ⊎ IsIn o past.stopped)) [
        | inl e ↦ (λ t. inl (sym (e.0)), λ i. ap w.stopped (e.0) ∙ h.stopped_here)
        | inr n ↦ (
            let l : o < length v.outs = out_there v w h.ports o lt in (
              λ t. inr ((s.stops o l).0 (sym (h.stopped_others o l (n.0)) ∙ t)),
              λ i. elim i [ inl e ↦ absurd (n.0 (sym e)) | inr k ↦ h.stopped_others o l (n.0) ∙ (s.stops o l).1 k ],
            )
            )
      ]

bool_cases : (b : Bool) → (b ≡ true) ⊎ (b ≡ false)
bool_cases true = inl refl
bool_cases false = inr refl

abbrev none_fed : List Flow
none_fed = []

none_unbroken : AllUnbroken none_fed
none_unbroken q = λ e. cc

none_valid : (lanes : List Lane) → AreValid lanes none_fed
none_valid lanes p = at (lane_at lanes p)
  where
    at : (l : Option Lane) → IsValidOn l nothing
    at None = refl
    at (Some l) = nothing_valid l

-- a filter that was just made stands for nothing fed and nothing given, of its own function
pub starts : (v : View) (cause : List Flow → Option Fault) → IsNew v → Settles v → IsLawful v.ins v.outs v.rest cause → Stands v false false (start (filter_task (length v.outs) v.rest cause))
starts v cause n c l = record {
  f = v.rest;
  lawful = l;
  means_is = refl;
  plain = refl;
  silent = (refl, refl);
  settles = λ ss h q lt. elim (c ss (λ p l. inr (h p l)) q lt (n.stopped q)) as (λ _. IsClosed (v.rest ss q)) [ inl e ↦ absurd (not_both (v.ended q) e (n.ended q)) | inr k ↦ k ];
  valid = none_valid v.ins;
  goes = λ ext q lt on. refl;
  below = λ q. nothing_below (stream_at (ported (length v.outs) v.rest none_fed) q);
  shut_is = λ p lt. (λ e. absurd (not_both (v.shut p) e (n.shut p)), λ c. absurd (c refl));
  ended_is = λ q lt. (λ e. absurd (not_both (v.ended q) e (n.ended q)), λ c. absurd (c refl));
  stops = λ q lt. (λ e. absurd (not_both (v.stopped q) e (n.stopped q)), λ i. absurd i);
  asked = λ q lt on i. absurd i;
  hurt_is = (λ e. none_unbroken, λ u. refl);
  long_is = λ e. cc;
  unbroken = λ e u. none_unbroken;
}

module _ (v : View) (hurt long : Bool) (past : Past) (s : Stands v hurt long past) where
  pub task_keeps : (ss : List Flow) → AreValid v.ins ss → AreValid v.outs (past.task.means ss)
  task_keeps ss a = subst (λ (g : List Flow → List Flow). AreValid v.outs (g ss)) (sym s.means_is) (s.lawful.keeps ss a)

  ported_monotone : (rs ss : List Flow) → AllBelow rs ss → AllBelow (ported (length v.outs) s.f rs) (ported (length v.outs) s.f ss)
  ported_monotone rs ss b = listed_below (length v.outs) (s.f (stream_at rs)) (s.f (stream_at ss)) (s.lawful.grows (stream_at rs) (stream_at ss) b)

  pub task_monotone : IsMonotone (AreValid v.ins) past.task.means
  task_monotone = subst (λ (g : List Flow → List Flow). IsMonotone (AreValid v.ins) g) (sym s.means_is) (λ rs ss x y b. ported_monotone rs ss b)

  opened_ports : (rs : List Flow) → all_opened (stream_at rs) ≡ stream_at (map opened rs)
  opened_ports rs i q = sym (stream_at-opened rs q) i

  ported_calm : (rs : List Flow) → AllBelow (map opened (ported (length v.outs) s.f rs)) (ported (length v.outs) s.f (map opened rs))
  ported_calm rs q = elim (there_or_not q (length v.outs)) as (λ _. LiesBelow (stream_at (map opened (ported (length v.outs) s.f rs)) q) (stream_at (ported (length v.outs) s.f (map opened rs)) q)) [
    | inl lt ↦ (
        let left : stream_at (map opened (ported (length v.outs) s.f rs)) q ≡ opened (s.f (stream_at rs) q) =
        stream_at-opened (ported (length v.outs) s.f rs) q ∙ ap (λ (t : Flow). opened t) (stream_at-listed (length v.outs) (s.f (stream_at rs)) q lt) in
        let right : stream_at (ported (length v.outs) s.f (map opened rs)) q ≡ s.f (all_opened (stream_at rs)) q =
        stream_at-listed (length v.outs) (s.f (stream_at (map opened rs))) q lt ∙ ap (λ (ss : Ports). s.f ss q) (sym (opened_ports rs)) in
        subst (λ (r : Flow). LiesBelow r (stream_at (ported (length v.outs) s.f (map opened rs)) q)) (sym left) (subst (λ (t : Flow). LiesBelow (opened (s.f (stream_at rs) q)) t) (sym right) (s.lawful.hides (stream_at rs) q))
        )
    | inr le ↦ (
        let left : stream_at (map opened (ported (length v.outs) s.f rs)) q ≡ nothing =
        stream_at-opened (ported (length v.outs) s.f rs) q ∙ ap (λ (t : Flow). opened t) (stream_at-beyond (length v.outs) (s.f (stream_at rs)) q le) in
        subst (λ (r : Flow). LiesBelow r (stream_at (ported (length v.outs) s.f (map opened rs)) q)) (sym left) (nothing_below (stream_at (ported (length v.outs) s.f (map opened rs)) q))
        )
  ]

  pub task_calm : IsCalm (AreValid v.ins) past.task.means
  task_calm = subst (λ (g : List Flow → List Flow). IsCalm (AreValid v.ins) g) (sym s.means_is) (λ rs x. ported_calm rs)

  pub given : AllBelow past.gave (due past)
  given = subst (λ (ss : List Flow). AllBelow past.gave ss) (sym (due_is v v hurt long past s)) s.below

  meant_at : (q : ℕ) → q < length v.outs → stream_at (past.task.means past.got) q ≡ s.f (stream_at past.got) q
  meant_at q lt = ap (λ (g : List Flow → List Flow). stream_at (g past.got) q) s.means_is ∙ stream_at-listed (length v.outs) (s.f (stream_at past.got)) q lt

  over_closes : (q : ℕ) → q < length v.outs → v.stopped q ≡ false → IsOver v q → IsClosed (stream_at (past.task.means past.got) q)
  over_closes q lt on o =
      let e : stream_at (past.task.means past.got) q ≡ joined (stream_at past.gave q) (v.rest silence q) = meant_at q lt ∙ now_means v v hurt long past s q lt on in
      subst (λ (t : Flow). IsClosed t) (sym e) (elim o as (λ _. IsClosed (joined (stream_at past.gave q) (v.rest silence q))) [
        | inl t ↦ closed_joined (stream_at past.gave q) (v.rest silence q) ((s.ended_is q lt).0 t)
        | inr c ↦ joined_closed (stream_at past.gave q) (v.rest silence q) c
      ])

  all_over : ((q : ℕ) → q < length v.outs → v.stopped q ≡ false → IsOver v q) → OutputsClose (length v.outs) past
  all_over h q lt on = over_closes q lt (goes_on v v hurt long past s q lt on) (h q lt (goes_on v v hurt long past s q lt on))

  pub spent_only : (p : ℕ) → p < length v.ins → IsSpent v p → IsClosed (stream_at past.got p) ⊎ ((0 < length v.outs) × OutputsClose (length v.outs) past)
  spent_only p lt (inl e) = inl ((s.shut_is p lt).0 e)
  spent_only p lt (inr h) = inr (h.0, all_over h.1)

  -- where each output that is wanted is closed, and had nothing more to give, each was closed by the filter or stopped
  pub all_done : OutputsClose (length v.outs) past → AllAsked (length v.outs) past → AllDone v
  all_done c a q lt = elim (bool_cases (v.ended q)) as (λ _. (v.ended q ≡ true) ⊎ (v.stopped q ≡ true)) [
    | inl e ↦ inl e
    | inr e ↦ elim (bool_cases (v.stopped q)) as (λ _. (v.ended q ≡ true) ⊎ (v.stopped q ≡ true)) [
      | inl t ↦ inr t
      | inr t ↦ (
          let on : IsIn q past.stopped → ⊥ = λ i. not_both (v.stopped q) ((s.stops q lt).1 i) t in
          let open_so : (stream_at past.gave q).mark ≡ still_open = open_of (stream_at past.gave q).mark refl (λ n. not_both (v.ended q) ((s.ended_is q lt).1 n) e) in
          let pending : IsPending (length v.outs) past q = record { there = lt; goes_on = on; unclosed = open_so } in
          let left : v.rest silence q ≡ nothing = s.asked q lt t (a q pending) in
          let same : stream_at (past.task.means past.got) q ≡ stream_at past.gave q = meant_at q lt ∙ (now_means v v hurt long past s q lt t ∙ (ap (λ (r : Flow). joined (stream_at past.gave q) r) left ∙ joined_nothing (stream_at past.gave q))) in
          inl ((s.ended_is q lt).1 (subst (λ (r : Flow). IsClosed r) same (c q lt on)))
          )
    ]
  ]
    where
      open_of : (m : Mark) → (stream_at past.gave q).mark ≡ m → (((stream_at past.gave q).mark ≢ still_open) → ⊥) → (stream_at past.gave q).mark ≡ still_open
      open_of still_open e n = e
      open_of whole e n = absurd (n (λ o. let clash : whole ≡ still_open = sym e ∙ o in cc))
      open_of broken e n = absurd (n (λ o. let clash : broken ≡ still_open = sym e ∙ o in cc))

  -- closed inputs close each output
  pub task_settles : (ss : List Flow) → ((p : ℕ) → p < length v.ins → IsClosed (stream_at ss p)) → (q : ℕ) → q < length v.outs → IsClosed (stream_at (past.task.means ss) q)
  task_settles ss c q lt = subst (λ (t : Flow). IsClosed t) (sym (ap (λ (g : List Flow → List Flow). stream_at (g ss) q) s.means_is ∙ stream_at-listed (length v.outs) (s.f (stream_at ss)) q lt)) (s.settles (stream_at ss) c q lt)
