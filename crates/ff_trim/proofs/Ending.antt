-- When a cut of audio closes, and that each cut keeps the broken rule.
use Rattle.std.proofs.Common.{◌≡◌, ℕ, zero, suc, ◌+◌, ◌≤◌, Bool, true, false, cond, Option, Some, None, List, [], ◌∷◌, ◌++◌, map, length, take, refl, ap, sym, ◌∙◌, subst, arith}
use Rattle.std.specs.List.{AllByRecursion}
use Rattle.std.specs.Prelude.{◌&&◌, ◌||◌, ◌==◌, nat_le, not, is_some, option_map}
use Rattle.ff_time.specs.Fraction.{Fraction}
use Rattle.ff_time.specs.declared.cut.TimeCut.{TimeCut}
use Rattle.ff_frame.specs.declared.head.Codec.{Codec}
use Rattle.ff_frame.specs.declared.head.StreamHead.{StreamHead}
use Rattle.ff_frame.specs.declared.head.StreamHead.TheVariants.{Audio as AudioHead, Video as VideoHead}
use Rattle.ff_frame.specs.Heads.{base_of_head}
use Rattle.ff_stream.specs.declared.item.Item.{Item}
use Rattle.ff_stream.specs.laws.Breaks.{KeepsBrokenRule}
use Rattle.ff_stream.specs.Ports.{stream_at}
use Rattle.ff_stream.specs.Stream.{Mark, whole, whole_stream}
use Rattle.ff_filter.specs.declared.range.Range.{Range}
use Rattle.ff_filter.specs.Joins.{Flow}
use Rattle.ff_filter.specs.Shifts.{earlier, shifted}
use Rattle.ff_filter.proofs.SpreadLemmas.OneRule.{one_by, one_keeps_rule}
use Rattle.ff_vfilter.specs.Trims.{before_stop, from_start, reaches as pictures_reach}
use Rattle.ff_afilter.specs.laws.Ends.{EndsBefore, EndsFrom, kept_of_each}
use Rattle.ff_afilter.specs.Trims.{kept_all, reaches, sound_trimmed}
use Rattle.ff_afilter.proofs.Ending.{closes_at_stop, goes_on_before}
use Rattle.ff_trim.specs.declared.counted.OutputCut.{OutputCut}
use Rattle.ff_trim.specs.Cuts.{counted, cut, from_range, is_empty, is_uncut, kept, output_cut, range_in, start_in, ticks_at}

-- ---- of audio

some_length : (length : Option ℕ) (us : ℕ) → length ≡ Some us → 1 ≤ us → is_empty length ≡ false
some_length length zero e some = absurd (omega (arith, some))
some_length length (suc us) e some = ap is_empty e

nothing_and : (b : Bool) → (b && false) ≡ false
nothing_and true = refl
nothing_and false = refl

long_cut : (c : TimeCut) (us : ℕ) → c.length ≡ Some us → is_uncut c ≡ false
long_cut c us e = ap (λ (o : Option ℕ). (c.start == 0) && not (is_some o)) e ∙ nothing_and (c.start == 0)

module _ (tb : Fraction) (rate bits channels : ℕ) (codec : Codec) (c : TimeCut) (us : ℕ) (long : c.length ≡ Some us) (some : 1 ≤ us) where
  cut_is : (s : Flow) → cut (AudioHead tb rate bits channels codec) c s ≡ shifted (Some (start_in tb c)) (sound_trimmed (range_in tb c) s)
  cut_is s =
      ap (λ (b : Bool). cond b (whole_stream []) (kept (AudioHead tb rate bits channels codec) c s)) (some_length c.length us long some)
      ∙ ap (λ (b : Bool). cond b s (from_range (AudioHead tb rate bits channels codec) (range_in tb c) s)) (long_cut c us long)

  stop_is : (range_in tb c).stop ≡ Some (start_in tb c + ticks_at tb us)
  stop_is = ap (λ (o : Option ℕ). option_map (λ n. start_in tb c + ticks_at tb n) o) long

  pub cut_closes : (xs ys : List Item) (x : Item) (m : Mark) → AllByRecursion (EndsBefore (start_in tb c + ticks_at tb us)) xs
      → EndsFrom (start_in tb c + ticks_at tb us) x
      → cut (AudioHead tb rate bits channels codec) c (record { items = xs ++ x ∷ ys; mark = m })
      ≡ whole_stream (map (earlier (start_in tb c)) (kept_of_each (range_in tb c) (xs ++ x ∷ [])))
  cut_closes xs ys x m all e =
      cut_is (record { items = xs ++ x ∷ ys; mark = m })
      ∙ ap (λ (s : Flow). shifted (Some (start_in tb c)) s) (closes_at_stop (range_in tb c) (start_in tb c + ticks_at tb us) xs ys x m stop_is all e)

  pub cut_goes_on : (s : Flow) → AllByRecursion (EndsBefore (start_in tb c + ticks_at tb us)) s.items
      → cut (AudioHead tb rate bits channels codec) c s
      ≡ record { items = map (earlier (start_in tb c)) (kept_of_each (range_in tb c) s.items); mark = s.mark }
  cut_goes_on s all =
      cut_is s ∙ ap (λ (t : Flow). shifted (Some (start_in tb c)) t) (goes_on_before (range_in tb c) (start_in tb c + ticks_at tb us) s stop_is all)

-- ---- the broken rule

abbrev Every : List Flow → Type 0
Every ss = Unit {0}

empty_keeps : KeepsBrokenRule Every (λ (ss : List Flow). let s : Flow = whole_stream [] in s)
empty_keeps = record {
  items = λ ss m. refl;
  wholeness = λ ss m. (λ e. refl, λ e. refl);
  breaks = λ ss m. (λ e. cc, λ b. absurd (b.not_whole refl));
}

same_keeps : KeepsBrokenRule Every (λ (ss : List Flow). stream_at ss 0)
same_keeps = one_keeps_rule (λ (m : Mark) (xs : List Item). xs) (λ (xs : List Item). false) (λ m xs. refl) (λ (s : Flow). Unit {0}) (λ s v. tt)

range_keeps : (h : StreamHead) (range : Range) → KeepsBrokenRule Every (λ (ss : List Flow). from_range h range (stream_at ss 0))
range_keeps (AudioHead tb rate bits channels codec) range =
    one_keeps_rule (λ (m : Mark) (xs : List Item). map (earlier range.start) (kept_all range xs)) (λ (xs : List Item). reaches range xs) (λ m xs. refl)
    (λ (s : Flow). Unit {0}) (λ s v. tt)
range_keeps (VideoHead tb format width height sar_num sar_den) range =
    one_keeps_rule (λ (m : Mark) (xs : List Item). map (earlier range.start) (from_start range.start (before_stop range.stop xs)))
    (λ (xs : List Item). pictures_reach range.stop xs) (λ m xs. refl) (λ (s : Flow). Unit {0}) (λ s v. tt)

kept_keeps : (b : Bool) (h : StreamHead) (range : Range) → KeepsBrokenRule Every (λ (ss : List Flow). cond b (stream_at ss 0) (from_range h range (stream_at ss 0)))
kept_keeps true h range = same_keeps
kept_keeps false h range = range_keeps h range

either_keeps : (b : Bool) (h : StreamHead) (c : TimeCut) → KeepsBrokenRule Every (λ (ss : List Flow). cond b (whole_stream []) (kept h c (stream_at ss 0)))
either_keeps true h c = empty_keeps
either_keeps false h c = kept_keeps (is_uncut c) h (range_in (base_of_head h) c)

pub cut_keeps : (h : StreamHead) (c : TimeCut) → KeepsBrokenRule (λ (ss : List Flow). Unit {0}) (λ (ss : List Flow). cut h c (stream_at ss 0))
cut_keeps h c = either_keeps (is_empty c.length) h c

-- ---- by number as well

either_whole : (a b : Bool) (m : Mark) → cond (a || b) whole m ≡ cond a whole (cond b whole m)
either_whole true b m = refl
either_whole false b m = refl

module _ (g : List Item → List Item) (c : List Item → Bool) where
  abbrev plain : Flow → Flow
  plain s = one_by (λ (m : Mark) (xs : List Item). g xs) c s

  abbrev numbered : ℕ → Flow → Flow
  numbered n s = one_by (λ (m : Mark) (xs : List Item). take n (g xs)) (λ (xs : List Item). nat_le n (length (g xs)) || c xs) s

  numbered_is : (n : ℕ) → ◌≡◌ {A = List Flow → Flow} (λ ss. numbered n (stream_at ss 0)) (λ ss. counted (Some n) (plain (stream_at ss 0)))
  numbered_is n i ss =
      (let s : Flow = stream_at ss 0 in
      ap (λ (m : Mark). let r : Flow = record { items = take n (g s.items); mark = m } in r) (either_whole (nat_le n (length (g s.items))) (c s.items) s.mark)) i

  number_keeps : (o : Option ℕ) → KeepsBrokenRule Every (λ (ss : List Flow). counted o (plain (stream_at ss 0)))
  number_keeps None = one_keeps_rule (λ (m : Mark) (xs : List Item). g xs) c (λ m xs. refl) (λ (s : Flow). Unit {0}) (λ s v. tt)
  number_keeps (Some n) = subst (λ (f : List Flow → Flow). KeepsBrokenRule Every f) (numbered_is n)
      (one_keeps_rule (λ (m : Mark) (xs : List Item). take n (g xs)) (λ (xs : List Item). nat_le n (length (g xs)) || c xs) (λ m xs. refl) (λ (s : Flow). Unit {0}) (λ s v. tt))

none_taken : (n : ℕ) → take {A = Item} n [] ≡ []
none_taken zero = refl
none_taken (suc n) = refl

whole_anyway : (b : Bool) → cond b whole whole ≡ whole
whole_anyway true = refl
whole_anyway false = refl

whole_counted : (o : Option ℕ) → whole_stream [] ≡ counted o (whole_stream [])
whole_counted None = refl
whole_counted (Some n) =
    ap (λ (xs : List Item). let r : Flow = record { items = xs; mark = whole } in r) (sym (none_taken n))
    ∙ ap (λ (m : Mark). let r : Flow = record { items = take {A = Item} n []; mark = m } in r) (sym (whole_anyway (nat_le n 0)))

range_numbered : (h : StreamHead) (range : Range) (o : Option ℕ) → KeepsBrokenRule Every (λ (ss : List Flow). counted o (from_range h range (stream_at ss 0)))
range_numbered (AudioHead tb rate bits channels codec) range o = number_keeps (λ xs. map (earlier range.start) (kept_all range xs)) (λ xs. reaches range xs) o
range_numbered (VideoHead tb format width height sar_num sar_den) range o =
    number_keeps (λ xs. map (earlier range.start) (from_start range.start (before_stop range.stop xs))) (λ xs. pictures_reach range.stop xs) o

kept_numbered : (b : Bool) (h : StreamHead) (range : Range) (o : Option ℕ) → KeepsBrokenRule Every (λ (ss : List Flow). counted o (cond b (stream_at ss 0) (from_range h range (stream_at ss 0))))
kept_numbered true h range o = number_keeps (λ xs. xs) (λ xs. false) o
kept_numbered false h range o = range_numbered h range o

either_numbered : (b : Bool) (h : StreamHead) (c : TimeCut) (o : Option ℕ) → KeepsBrokenRule Every (λ (ss : List Flow). counted o (cond b (whole_stream []) (kept h c (stream_at ss 0))))
either_numbered true h c o = subst (λ (s : Flow). KeepsBrokenRule Every (λ (ss : List Flow). s)) (whole_counted o) empty_keeps
either_numbered false h c o = kept_numbered (is_uncut c) h (range_in (base_of_head h) c) o

pub output_keeps : (h : StreamHead) (c : OutputCut) → KeepsBrokenRule (λ (ss : List Flow). Unit {0}) (λ (ss : List Flow). output_cut h c (stream_at ss 0))
output_keeps h c = either_numbered (is_empty c.time.length) h c.time c.frames
