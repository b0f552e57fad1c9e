-- When a trim of audio ends.
use Rattle.std.proofs.Common.{◌≡◌, ℕ, ◌+◌, Bool, true, false, cond, Option, Some, None, List, [], ◌∷◌, ◌++◌, refl, ap, ◌∙◌, arith}
use Rattle.std.specs.List.{AllByRecursion}
use Rattle.std.specs.Prelude.{nat_le, ◌<◌, ◌≤◌}
use Rattle.std.proofs.lemmas.Bool.Decides.{nat_tests}
use Rattle.ff_stream.specs.declared.item.Item.{Item}
use Rattle.ff_stream.specs.declared.item.Item.TheVariants.{Audio, Video, Packet, Trailer, End, Broken}
use Rattle.ff_stream.specs.Stream.{Mark, whole}
use Rattle.ff_stream.specs.Times.{ticks}
use Rattle.ff_filter.specs.declared.range.Range.{Range}
use Rattle.ff_filter.specs.Joins.{Flow}
use Rattle.ff_filter.specs.Ranges.{is_past}
use Rattle.ff_afilter.specs.laws.Ends.{EndsFrom, EndsBefore, kept_of_each}
use Rattle.ff_afilter.specs.Trims.{count_of, ends_past, kept, kept_all, reaches, sound_trimmed}

from_so : (a b : ℕ) → a ≤ b → nat_le a b ≡ true
from_so a b h = grind (arith, nat_tests)

before_so : (a b : ℕ) → b < a → nat_le a b ≡ false
before_so a b h = grind (arith, nat_tests)

past_so : (range : Range) (stop : ℕ) (x : Item) → range.stop ≡ Some stop → EndsFrom stop x → ends_past range x ≡ true
past_so range stop (Audio f) s e = ap (λ (o : Option ℕ). is_past o (ticks f.pts + count_of f)) s ∙ from_so stop (ticks f.pts + count_of f) e
past_so range stop (Video f) s e = absurd e
past_so range stop (Packet p) s e = absurd e
past_so range stop (Trailer t) s e = absurd e
past_so range stop End s e = absurd e
past_so range stop Broken s e = absurd e

not_past : (range : Range) (stop : ℕ) (x : Item) → range.stop ≡ Some stop → EndsBefore stop x → ends_past range x ≡ false
not_past range stop (Audio f) s e = ap (λ (o : Option ℕ). is_past o (ticks f.pts + count_of f)) s ∙ before_so stop (ticks f.pts + count_of f) e
not_past range stop (Video f) s e = absurd e
not_past range stop (Packet p) s e = absurd e
not_past range stop (Trailer t) s e = absurd e
not_past range stop End s e = absurd e
not_past range stop Broken s e = absurd e

unstopped_item : (range : Range) (x : Item) → range.stop ≡ None → ends_past range x ≡ false
unstopped_item range (Audio f) s = ap (λ (o : Option ℕ). is_past o (ticks f.pts + count_of f)) s
unstopped_item range (Video f) s = refl
unstopped_item range (Packet p) s = refl
unstopped_item range (Trailer t) s = refl
unstopped_item range End s = refl
unstopped_item range Broken s = refl

abbrev OnAfter : Range → List Item → Type 0
OnAfter range xs = AllByRecursion (λ x. ends_past range x ≡ false) xs

-- where none of these ends it, each is kept as far as it lies in the range
on_after : (range : Range) (xs : List Item) → OnAfter range xs → (kept_all range xs ≡ kept_of_each range xs) × (reaches range xs ≡ false)
on_after range [] o = (refl, refl)
on_after range (x ∷ xs) o =
    let later = on_after range xs o.1 in (
      ap (λ (b : Bool). kept range x ++ cond b [] (kept_all range xs)) o.0 ∙ ap (λ (ys : List Item). kept range x ++ ys) later.0,
      ap (λ (b : Bool). cond b true (reaches range xs)) o.0 ∙ later.1,
    )

-- and where the next one does, nothing after that counts
up_to : (range : Range) (xs ys : List Item) (x : Item) → OnAfter range xs → ends_past range x ≡ true
    → (kept_all range (xs ++ x ∷ ys) ≡ kept_of_each range (xs ++ x ∷ [])) × (reaches range (xs ++ x ∷ ys) ≡ true)
up_to range [] ys x o e = (ap (λ (b : Bool). kept range x ++ cond b [] (kept_all range ys)) e, ap (λ (b : Bool). cond b true (reaches range ys)) e)
up_to range (z ∷ zs) ys x o e =
    let later = up_to range zs ys x o.1 e in (
      ap (λ (b : Bool). kept range z ++ cond b [] (kept_all range (zs ++ x ∷ ys))) o.0 ∙ ap (λ (rs : List Item). kept range z ++ rs) later.0,
      ap (λ (b : Bool). cond b true (reaches range (zs ++ x ∷ ys))) o.0 ∙ later.1,
    )

before_stop : (range : Range) (stop : ℕ) (xs : List Item) → range.stop ≡ Some stop → AllByRecursion (EndsBefore stop) xs → OnAfter range xs
before_stop range stop [] s all = tt
before_stop range stop (x ∷ xs) s all = (not_past range stop x s all.0, before_stop range stop xs s all.1)

without_stop : (range : Range) (xs : List Item) → range.stop ≡ None → OnAfter range xs
without_stop range [] s = tt
without_stop range (x ∷ xs) s = (unstopped_item range x s, without_stop range xs s)

pub closes_at_stop : (range : Range) (stop : ℕ) (xs ys : List Item) (x : Item) (m : Mark) → range.stop ≡ Some stop → AllByRecursion (EndsBefore stop) xs → EndsFrom stop x
    → sound_trimmed range (record { items = xs ++ x ∷ ys; mark = m }) ≡ record { items = kept_of_each range (xs ++ x ∷ []); mark = whole }
closes_at_stop range stop xs ys x m s all e =
    let h = up_to range xs ys x (before_stop range stop xs s all) (past_so range stop x s e) in
    ap (λ (is : List Item). let r : Flow = record { items = is; mark = cond (reaches range (xs ++ x ∷ ys)) whole m } in r) h.0
    ∙ ap (λ (b : Bool). let r : Flow = record { items = kept_of_each range (xs ++ x ∷ []); mark = cond b whole m } in r) h.1

goes_on : (range : Range) (s : Flow) → OnAfter range s.items → sound_trimmed range s ≡ record { items = kept_of_each range s.items; mark = s.mark }
goes_on range s o =
    let h = on_after range s.items o in
    ap (λ (is : List Item). let r : Flow = record { items = is; mark = cond (reaches range s.items) whole s.mark } in r) h.0
    ∙ ap (λ (b : Bool). let r : Flow = record { items = kept_of_each range s.items; mark = cond b whole s.mark } in r) h.1

pub goes_on_before : (range : Range) (stop : ℕ) (s : Flow) → range.stop ≡ Some stop → AllByRecursion (EndsBefore stop) s.items
    → sound_trimmed range s ≡ record { items = kept_of_each range s.items; mark = s.mark }
goes_on_before range stop s is all = goes_on range s (before_stop range stop s.items is all)

pub goes_on_unstopped : (range : Range) (s : Flow) → range.stop ≡ None → sound_trimmed range s ≡ record { items = kept_of_each range s.items; mark = s.mark }
goes_on_unstopped range s is = goes_on range s (without_stop range s.items is)
