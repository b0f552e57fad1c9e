-- A trim gives valid streams.
use Rattle.std.proofs.Common.{◌≡◌, ◌≢◌, ℕ, inl, Bool, true, false, cond, nat_le, List, [], ◌∷◌, refl}
use Rattle.ff_stream.specs.declared.item.Item.{Item}
use Rattle.ff_stream.specs.declared.item.Lane.{Lane}
use Rattle.ff_stream.specs.Stream.{Mark, whole, broken}
use Rattle.ff_filter.specs.declared.range.Range.{Range}
use Rattle.ff_filter.specs.Ranges.{is_past}
use Rattle.ff_filter.specs.lasting.Lastings.{lasting}
use Rattle.ff_filter.specs.Shifts.{start_ticks}
use Rattle.ff_filter.specs.laws.Sound.{IsSound}
use Rattle.ff_filter.proofs.Parts.{IsPart, part_later, shape_part}
use Rattle.ff_vfilter.specs.Trims.{before_stop, reaches, from_start, trimmed, first_kept, lasting_trimmed}

kept_part : (range : Range) (xs : List Item) → IsPart (from_start range.start (before_stop range.stop xs)) xs
kept_part range [] = tt
kept_part range (x ∷ xs) = at (is_past range.stop (start_ticks x)) (nat_le range.start (start_ticks x)) refl (kept_part range xs)
  where
    at : (a b : Bool) → nat_le range.start (start_ticks x) ≡ b → IsPart (from_start range.start (before_stop range.stop xs)) xs → IsPart (from_start range.start (cond a [] (x ∷ before_stop range.stop xs))) (x ∷ xs)
    at true b e p = tt
    at false true e p = rw e (inl (refl, p))
    at false false e p = rw e (part_later x (from_start range.start (before_stop range.stop xs)) xs p)

unbroken_mark : (b : Bool) (m : Mark) → m ≢ broken → cond b whole m ≢ broken
unbroken_mark true m n = λ e. cc
unbroken_mark false m n = n

pub trim_sound : (lane : Lane) (range : Range) → IsSound lane lane (λ s. trimmed range s)
trim_sound lane range = record {
  shape = λ s v. shape_part lane (trimmed range s).items s.items (kept_part range s.items) v.shape;
  unbroken = λ s v u. unbroken_mark (reaches range.stop s.items) s.mark u;
}

pub lasting_sound : (lane : Lane) (range : Range) (ticks : ℕ) → IsSound lane lane (λ s. lasting_trimmed range ticks s)
lasting_sound lane range ticks = record {
  shape = λ s v. (trim_sound lane (lasting range ticks (first_kept range.start s.items))).shape s v;
  unbroken = λ s v u. (trim_sound lane (lasting range ticks (first_kept range.start s.items))).unbroken s v u;
}
