-- The laws of a machine that gives one closed stream, an item or its end for each ticket.
use Rattle.std.specs.Prelude.{◌≡◌, ◌≢◌, ℕ, zero, suc, ◌+◌, ◌<◌, ◌≤◌, Bool, true, false, cond, Some, List, [], ◌∷◌, ◌++◌, map, length, take, slice_get, nat_le, refl, Option}
use Rattle.std.proofs.Common.{sym, subst, ap, inl, inr, ◌∙◌, arith}
use Rattle.std.proofs.lemmas.List.{take_all}
use Rattle.std.proofs.lemmas.Bool.Decides.{nat_tests}
use mathlib.Core.List.{IsPrefix}
use Rattle.ff_stream.specs.declared.item.Item.{Item}
use Rattle.ff_stream.specs.declared.item.Lane.{Lane}
use Rattle.ff_stream.specs.Stream.{Mark, still_open, broken, LiesBelow, opened}
use Rattle.ff_stream.specs.Items.{with_item}
use Rattle.ff_stream.specs.Lanes.{IsValid}
use Rattle.ff_stream.specs.Ports.{nothing, stream_at, AllBelow, AllUnbroken, IsMonotone, IsCalm, IsUnbroken}
use Rattle.ff_stream.specs.laws.Order.{below_self, opened_below}
use Rattle.ff_net.specs.Ways.{Flow, AreValid}
use Rattle.ff_net.specs.Pasts.{Past, gave_item, due, cut_to, Units, units_of, count_of, due_by}
use Rattle.ff_net.proofs.Flows.{stream_at-with_item_same, stream_at-with_item_other, AreUnits, units_below}
use Rattle.ff_node_demux.specs.Sources.{only, part_of, count, Sources}

take_less : (n m : ℕ) (xs : List Item) → n ≤ m → IsPrefix (take n xs) (take m xs)
take_less zero m xs le = (take m xs, refl)
take_less (suc n) zero xs le = absurd (omega arith)
take_less (suc n) (suc m) [] le = ([], refl)
take_less (suc n) (suc m) (x ∷ xs) le = let r = take_less n m xs (omega arith) in (r.0, ap (λ (ys : List Item). x ∷ ys) r.1)

cut_at : (s : Flow) (n : ℕ) → n ≤ length s.items → cut_to n s ≡ part_of s n false
cut_at s n le =
    let short : nat_le n (length s.items) ≡ true = grind (arith, nat_tests) in
    rw short refl

cut_end : (s : Flow) (n : ℕ) → length s.items < n → cut_to n s ≡ part_of s (length s.items) true
cut_end s n lt =
    let long : nat_le n (length s.items) ≡ false = grind (arith, nat_tests) in
    rw (long, take_all n s.items (omega arith), take_all (length s.items) s.items (omega arith)) refl

calm_at : (s : Flow) (rs : List Flow) → AllBelow (map opened (only s rs)) (only s (map opened rs))
calm_at s rs zero = opened_below s
calm_at s rs (suc p) = below_self nothing

mark_unbroken : (m : Mark) (b : Bool) → (b ≡ true → m ≢ broken) → cond b m still_open ≢ broken
mark_unbroken m true u e = u refl e
mark_unbroken m false u e = cc

valid_at : (lane : Lane) (s : Flow) (ss : List Flow) → IsValid lane s → AreValid (lane ∷ []) (only s ss)
valid_at lane s ss v zero = v
valid_at lane s ss v (suc p) = refl

nothing_fed : (rs : List Flow) → ((p : ℕ) → stream_at rs p ≡ nothing) → AreValid [] rs
nothing_fed rs h p = h p

module _ (s : Flow) (n : ℕ) (ended ticket : Bool) (past : Past) (l : Sources s n ended ticket past) where
  pub source_valid : AreValid [] past.got
  source_valid = nothing_fed past.got l.fed_nothing

  pub source_keeps : (lane : Lane) → IsValid lane s → (ss : List Flow) → AreValid [] ss → AreValid (lane ∷ []) (past.task.means ss)
  source_keeps lane v ss a = subst (λ (f : List Flow → List Flow). AreValid (lane ∷ []) (f ss)) (sym l.means) (valid_at lane s ss v)

  pub source_monotone : (meant : List Flow → Type 0) → IsMonotone meant past.task.means
  source_monotone meant = subst (λ (f : List Flow → List Flow). IsMonotone meant f) (sym l.means) (λ rs ss v w h p. below_self (stream_at (only s rs) p))

  pub source_calm : (meant : List Flow → Type 0) → IsCalm meant past.task.means
  source_calm meant = subst (λ (f : List Flow → List Flow). IsCalm meant f) (sym l.means) (λ rs v. calm_at s rs)

  pub source_unbroken : (ended ≡ true → IsUnbroken s) → AllUnbroken past.gave
  source_unbroken u zero = subst (λ (r : Flow). IsUnbroken r) (sym l.gave) (mark_unbroken s.mark ended u)
  source_unbroken u (suc p) = subst (λ (r : Flow). IsUnbroken r) (sym (l.others p)) (λ b. cc)

  pub source_due : stream_at (due past) 0 ≡ cut_to (length past.allowed) s
  source_due = rw l.source refl

  source_none : (p : ℕ) → stream_at (due past) (suc p) ≡ nothing
  source_none p = rw l.source refl

-- after the end all was given
pub source_over : (s : Flow) (n : ℕ) (ticket : Bool) (past : Past) → Sources s n true ticket past → stream_at past.gave 0 ≡ stream_at (due past) 0
source_over s n ticket past l =
    let all : n ≡ length s.items = l.at_end refl in
    let beyond : length s.items < length past.allowed = omega (arith, l.tickets, all) in
    l.gave ∙ (ap (λ (i : ℕ). part_of s i true) all ∙ sym (source_due s n true ticket past l ∙ cut_end s (length past.allowed) beyond))

-- with no ticket all that is due was given
pub source_waits : (s : Flow) (n : ℕ) (past : Past) → Sources s n false false past → stream_at past.gave 0 ≡ stream_at (due past) 0
source_waits s n past l =
    let le : length past.allowed ≤ length s.items = omega (arith, l.tickets, l.in_range) in
    let k : length past.allowed ≡ n = omega (arith, l.tickets) in
    l.gave ∙ sym (source_due s n false false past l ∙ (cut_at s (length past.allowed) le ∙ ap (λ (i : ℕ). part_of s i false) k))

going_below : (s : Flow) (n : ℕ) (ticket : Bool) (past : Past) → Sources s n false ticket past
    → LiesBelow (part_of s n false) (cut_to (length past.allowed) s)
going_below s n ticket past l = inr (refl, take_less n (length past.allowed) s.items (omega (arith, l.tickets)))

given_at : (s : Flow) (n : ℕ) (ended ticket : Bool) (past : Past) → Sources s n ended ticket past
    → LiesBelow (stream_at past.gave 0) (stream_at (due past) 0)
given_at s n true ticket past l = inl (source_over s n ticket past l)
given_at s n false ticket past l =
    subst (λ (r : Flow). LiesBelow r (stream_at (due past) 0)) (sym l.gave)
    (subst (λ (r : Flow). LiesBelow (part_of s n false) r) (sym (source_due s n false ticket past l)) (going_below s n ticket past l))

pub source_given : (s : Flow) (n : ℕ) (ended ticket : Bool) (past : Past) → Sources s n ended ticket past → AllBelow past.gave (due past)
source_given s n ended ticket past l zero = given_at s n ended ticket past l
source_given s n ended ticket past l (suc p) = inl (l.others p ∙ sym (source_none s n ended ticket past l p))

-- under how many of its tickets it has tried a unit: each that it gave, and the end
abbrev pub tried_of : ℕ → Bool → ℕ
tried_of n ended = n + count ended

pub source_tried : (s : Flow) (n : ℕ) (ended ticket : Bool) (past : Past) → Sources s n ended ticket past → tried_of n ended ≤ length past.allowed
source_tried s n ended ticket past l = omega (arith, l.tickets)

few_tried : (s : Flow) (n : ℕ) (ended : Bool) → n ≤ length s.items → tried_of n ended ≤ length s.items + 1
few_tried s n true le = omega (arith, le)
few_tried s n false le = omega (arith, le)

-- and these are at most one more than it has units
pub source_few : (s : Flow) (n : ℕ) (ended ticket : Bool) (past : Past) → Sources s n ended ticket past
    → tried_of n ended ≤ count_of past.task.source + 1
source_few s n ended ticket past l =
    subst (λ (o : Option Units). tried_of n ended ≤ count_of o + 1) (sym l.source) (few_tried s n ended l.in_range)

units_at : (s : Flow) (n : ℕ) (ended ticket : Bool) (past : Past) → Sources s n ended ticket past
    → LiesBelow (stream_at past.gave 0) (cut_to (tried_of n ended) s)
units_at s n true ticket past l =
    let all : n ≡ length s.items = l.at_end refl in
    inl (l.gave ∙ (ap (λ (i : ℕ). part_of s i true) all ∙ sym (cut_end s (n + 1) (omega (arith, all)))))
units_at s n false ticket past l =
    let same : n + 0 ≡ n = omega arith in
    inl (l.gave ∙ sym (ap (λ (i : ℕ). cut_to i s) same ∙ cut_at s n l.in_range))

-- what it gave are these units, or the end in place of one
pub source_units : (s : Flow) (n : ℕ) (ended ticket : Bool) (past : Past) → Sources s n ended ticket past
    → AllBelow past.gave (due_by past.task.source (tried_of n ended) (past.task.means past.got))
source_units s n ended ticket past l zero =
    subst (λ (o : Option Units). LiesBelow (stream_at past.gave 0) (stream_at (due_by o (tried_of n ended) (past.task.means past.got)) 0)) (sym l.source)
    (units_at s n ended ticket past l)
source_units s n ended ticket past l (suc p) =
    subst (λ (o : Option Units). LiesBelow (stream_at past.gave (suc p)) (stream_at (due_by o (tried_of n ended) (past.task.means past.got)) (suc p))) (sym l.source)
    (inl (l.others p))

-- and its units are of what it means
pub source_below : (s : Flow) (n : ℕ) (ended ticket : Bool) (past : Past) → Sources s n ended ticket past → AreUnits past
source_below s n ended ticket past l units e k =
    let same : units_of s ≡ units = (let both : Some (units_of s) ≡ Some units = sym l.source ∙ e in cc) in
    subst (λ (u : Units). AllBelow (u.upto k) (past.task.means past.got)) same
    (subst (λ (f : List Flow → List Flow). AllBelow ((units_of s).upto k) (f past.got)) (sym l.means) (units_below s k []))

get_within : (xs : List Item) (n : ℕ) (x : Item) → slice_get xs n ≡ Some x → n < length xs
get_within [] n x e = cc
get_within (y ∷ ys) zero x e = omega arith
get_within (y ∷ ys) (suc n) x e = let r = get_within ys n x e in omega (arith, r)

take_one_more : (xs : List Item) (n : ℕ) (x : Item) → slice_get xs n ≡ Some x → take (n + 1) xs ≡ take n xs ++ x ∷ []
take_one_more [] n x e = cc
take_one_more (y ∷ ys) zero x e = let same : y ≡ x = cc in ap (λ (z : Item). z ∷ []) same
take_one_more (y ∷ ys) (suc n) x e = let k : suc n + 1 ≡ suc (n + 1) = omega arith in rw k (ap (λ (zs : List Item). y ∷ zs) (take_one_more ys n x e))

-- an item, or the end, was given for the one ticket
pub record Gave (s : Flow) (n : ℕ) (ended : Bool) (past : Past) (x : Item) : Type 0 where
  pub now : Sources s n ended false (gave_item past 0 x)
  pub unclosed : (stream_at past.gave 0).mark ≡ still_open
  pub below : LiesBelow (with_item (stream_at past.gave 0) x) (stream_at (due past) 0)

-- the next item
pub source_gives : (s : Flow) (n : ℕ) (past : Past) (x : Item) → slice_get s.items n ≡ Some x
    → ((r : Flow) → with_item r x ≡ record { items = r.items ++ x ∷ []; mark = r.mark }) → Sources s n false true past
    → Gave s (n + 1) false past x
source_gives s n past x get is l =
    let more = get_within s.items n x get in
    let k : length past.allowed ≡ n + 1 = omega (arith, l.tickets) in
    let le : length past.allowed ≤ length s.items = omega (arith, k, more) in
    let grown : with_item (stream_at past.gave 0) x ≡ part_of s (n + 1) false =
    ap (λ (r : Flow). with_item r x) l.gave
    ∙ (is (part_of s n false) ∙ ap (λ (xs : List Item). record { items = xs; mark = still_open }) (sym (take_one_more s.items n x get))) in
    record {
      now = record {
        means = l.means;
        source = l.source;
        fed_nothing = l.fed_nothing;
        gave = stream_at-with_item_same past.gave 0 x ∙ grown;
        others = λ q. stream_at-with_item_other past.gave 0 (suc q) x (λ e. cc) ∙ l.others q;
        tickets = omega (arith, k);
        in_range = omega (arith, more);
        at_end = λ e. cc;
        closed = l.closed;
      };
      unclosed = ap (λ (r : Flow). r.mark) l.gave;
      below = inl (grown ∙ sym (source_due s n false true past l ∙ (cut_at s (length past.allowed) le ∙ ap (λ (i : ℕ). part_of s i false) k)));
    }

-- the closing item
pub source_ends : (s : Flow) (n : ℕ) (past : Past) (x : Item) → n ≡ length s.items
    → ((r : Flow) → with_item r x ≡ record { items = r.items; mark = s.mark }) → Sources s n false true past
    → Gave s n true past x
source_ends s n past x all is l =
    let k : length past.allowed ≡ n + 1 = omega (arith, l.tickets) in
    let beyond : length s.items < length past.allowed = omega (arith, k, all) in
    let grown : with_item (stream_at past.gave 0) x ≡ part_of s n true = ap (λ (r : Flow). with_item r x) l.gave ∙ is (part_of s n false) in
    record {
      now = record {
        means = l.means;
        source = l.source;
        fed_nothing = l.fed_nothing;
        gave = stream_at-with_item_same past.gave 0 x ∙ grown;
        others = λ q. stream_at-with_item_other past.gave 0 (suc q) x (λ e. cc) ∙ l.others q;
        tickets = omega (arith, k);
        in_range = l.in_range;
        at_end = λ e. all;
        closed = l.closed;
      };
      unclosed = ap (λ (r : Flow). r.mark) l.gave;
      below = inl (grown ∙ (ap (λ (i : ℕ). part_of s i true) all ∙ sym (source_due s n false true past l ∙ cut_end s (length past.allowed) beyond)));
    }
