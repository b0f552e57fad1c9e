-- What a step that was cut puts.
use Rattle.std.proofs.Common.{◌≡◌, ℕ, Bool, true, false, not, ◌||◌, cond, Option, None, Some, Ok, Err, refl, ap, sym, ◌∙◌, subst}
use Rattle.std.specs.Result.{IfOk}
use Rattle.std.specs.declared.result.Result.{Result}
use Rattle.ff_time.specs.declared.cut.TimeCut.{TimeCut}
use Rattle.ff_frame.specs.Heads.{base_of_head}
use Rattle.ff_frame.specs.declared.head.StreamHead.{StreamHead}
use Rattle.ff_frame.specs.declared.packet.Pkt.{Pkt}
use Rattle.ff_stream.specs.declared.item.Item.{Item}
use Rattle.ff_stream.specs.declared.item.Item.TheVariants.{Audio, Video, Packet, Trailer, End, Broken}
use Rattle.ff_stream.specs.declared.item.Lane.TheVariants.{Frames, Packets}
use Rattle.ff_stream.specs.Items.{Closes}
use Rattle.ff_stream.specs.Lanes.{FitsLane}
use Rattle.ff_stream.specs.Ports.{nothing}
use Rattle.ff_stream.specs.Stream.{Mark, still_open, whole, broken}
use Rattle.ff_filter.specs.declared.after.After.{After}
use Rattle.ff_filter.specs.declared.after.After.TheVariants.{More}
use Rattle.ff_filter.specs.Joins.{joined, joined_nothing, one, before}
use Rattle.ff_filter.specs.Made.{made_of}
use Rattle.ff_filter.specs.Views.{closes}
use Rattle.ff_net.specs.Ways.{Flow}
use Rattle.ff_trim.specs.declared.cut.Cut.{Cut}
use Rattle.ff_trim.specs.laws.CutLaws.{runs-waits}
use Rattle.ff_trim.specs.laws.Taps.{runs_of}
use Rattle.ff_trim.specs.Cuts.{is_empty, is_uncut, range_in, from_range, kept, cut}
use Rattle.ff_node_codec.specs.declared.step.Step.{Step}
use Rattle.ff_node_codec.specs.declared.step.Step.TheVariants.{Puts, Passes}
use Rattle.ff_node_codec.specs.laws.CutFrames.{kept_bare, cut_kept, none_left}
use Rattle.ff_node_codec.specs.Decoding.{decoded_item, decoded, if_broken, cut_frames}
use Rattle.ff_node_codec.specs.Making.{passes, damage_in, made_stream}
use Rattle.ff_node_codec.specs.Spreads.{Carries}
use Rattle.ff_node_codec.specs.laws.Steps.{damage_of, IsStepFor, FollowsFrom, IsLeft, IsCutTo, GivesBack, HasSpare}
use Rattle.ff_node_codec.proofs.SpreadSteps.{put_one, PutsFor, puts_for, Putting, closing, going, breaking, one_made, one_damage}

-- the two ways to say that nothing comes behind an item
pub goes_on_so : (x : Item) → closes x ≡ false → Closes x → ⊥
goes_on_so (Audio f) e c = c
goes_on_so (Video f) e c = c
goes_on_so (Packet f) e c = c
goes_on_so (Trailer f) e c = c
goes_on_so End e c = cc
goes_on_so Broken e c = cc

pub closes_not : (x : Item) → (Closes x → ⊥) → closes x ≡ false
closes_not (Audio f) c = refl
closes_not (Video f) c = refl
closes_not (Packet f) c = refl
closes_not (Trailer f) c = refl
closes_not End c = absurd (c tt)
closes_not Broken c = absurd (c tt)

-- what closes a stream stays as it is
kept_closing : (head : StreamHead) (c : TimeCut) (x : Item) → Closes x → kept head c (one x) ≡ one x
kept_closing head c (Audio f) k = absurd k
kept_closing head c (Video f) k = absurd k
kept_closing head c (Packet f) k = absurd k
kept_closing head c (Trailer f) k = absurd k
kept_closing head c End k = kept_bare head c whole
kept_closing head c Broken k = kept_bare head c broken

module _ (head : StreamHead) (made : Pkt → Option Item) (c : TimeCut) (x : Item) (goes : is_empty c.length ≡ false) where
  left_is : (r : Flow) → r ≡ made_stream (decoded_item made) (one x) → cut head c (decoded made (one x)) ≡ kept head c r
  left_is r e = cut_kept head c (decoded made (one x)) goes ∙ ap (λ (s : Flow). kept head c s) (sym e)

  undamaged : (d : Option ℕ) → d ≡ None → None ≡ damage_in (decoded_item made) (one x).items → d ≡ (cut_frames head made c).damage (one x)
  undamaged d e n =
      e
      ∙ sym (ap (λ (k : Option ℕ). if_broken (cut head c (decoded made (one x))).mark k) (sym n) ∙ none_left (cut head c (decoded made (one x))).mark)

  passed_on : (now : Step) → now ≡ Passes → (Closes x → ⊥) → decoded_item made x ≡ passes → IsStepFor (cut_frames head made c) x now
  passed_on now is k e =
      subst (λ (t : Step). IsStepFor (cut_frames head made c) x t) (sym is)
      (record {
        puts = sym (left_is nothing (sym (one_made (decoded_item made) x passes k e)) ∙ kept_bare head c still_open);
        damage = undamaged None refl (sym (one_damage (decoded_item made) x passes k e));
        once = tt;
      })

  -- what closes the outputs
  closing_on : (y : Item) (after : After) (damage : Option ℕ) (spare : Option Item) (now : Step) → Closes y → after ≡ More → now ≡ Puts y after damage spare
      → one y ≡ made_stream (decoded_item made) (one x) → damage ≡ (cut_frames head made c).damage (one x) → IsStepFor (cut_frames head made c) x now
  closing_on y after damage spare now k more is p d =
      subst (λ (t : Step). IsStepFor (cut_frames head made c) x t) (sym is)
      (record {
        puts = ap (λ (a : After). made_of (Some y) a) more ∙ (put_one y ∙ sym (left_is (one y) p ∙ kept_closing head c y k));
        damage = d;
        once = λ j. more;
      })

  put_on : (y : Item) (after : After) (damage : Option ℕ) (spare : Option Item) (now : Step) → after ≡ More → PutsFor (decoded_item made) x y damage
      → IsCutTo head c (Puts y after damage spare) now → IsStepFor (cut_frames head made c) x now
  put_on y after damage spare now more p i = by p.how
    where
      found : None ≡ damage → None ≡ damage_in (decoded_item made) (one x).items
      found e = e ∙ p.found

      by : Putting (decoded_item made) x y damage → IsStepFor (cut_frames head made c) x now
      by (closing k none) = closing_on y after damage spare now k more (i.0 k) p.stream (undamaged damage none (found (sym none)))
      by (going k none) =
          let left = i.1 more none k in
          record {
            puts = left.puts ∙ sym (left_is (one y) p.stream);
            damage = undamaged (damage_of now) left.damage (found (sym none));
            once = left.once;
          }
      by (breaking is offset some) =
          let k : Closes y = subst (λ (z : Item). Closes z) (sym is) tt in
          let mark : (cut head c (decoded made (one x))).mark ≡ broken =
          ap (λ (s : Flow). s.mark) (left_is (one y) p.stream ∙ (kept_closing head c y k ∙ ap (λ (z : Item). one z) is)) in
          closing_on y after damage spare now k more (i.0 k) p.stream
          (p.found ∙ sym (ap (λ (m : Mark). if_broken m (damage_in (decoded_item made) (one x).items)) mark))

-- a step that follows from a packet, cut, is the step for it
pub cut_step_for : (head : StreamHead) (made : Pkt → Option Item) (c : TimeCut) (x : Item) (first now : Step) → is_empty c.length ≡ false
    → Carries (Packets head) (Frames head) (decoded_item made) → ((Closes x → ⊥) → FitsLane (Packets head) x)
    → FollowsFrom (decoded_item made) x first → IsCutTo head c first now → IsStepFor (cut_frames head made c) x now
cut_step_for head made c x Passes now goes carries fits h i = passed_on head made c x goes now i h.0 h.1
cut_step_for head made c x (Puts y after damage spare) now goes carries fits h i =
    put_on head made c x goes y after damage spare now h.0
    (puts_for (Packets head) (Frames head) (decoded_item made) x y damage carries fits h.1) i

-- ---- items that come back

pub has_spare : (x : Item) (step : Step) → GivesBack x step → HasSpare step
has_spare x (Puts made after damage spare) e = (x, e)
has_spare x Passes e = tt

pub spared_shared : (a b : Bool) → a ≡ true → (a || not b) ≡ true
spared_shared true b e = refl
spared_shared false b e = cc

pub spared_cut : (a b : Bool) → b ≡ false → (a || not b) ≡ true
spared_cut true false e = refl
spared_cut false false e = refl
spared_cut a true e = cc

pub if_ok : {A E : Type 0} (r : Result A E) (P Q : A → Type 0) → ((a : A) → P a → Q a) → IfOk r P → IfOk r Q
if_ok (Ok a) P Q f p = f a p
if_ok (Err e) P Q f p = tt

-- what a cut to which nothing came gives for a frame is what is left of that
pub frame_left : (head : StreamHead) (c : TimeCut) (frame : Item) (old new : Cut) (item : Option Item) (after : After)
    → ((s : Flow) → runs_of old s ≡ kept head c s) → ((t : Flow) → runs_of old (before frame t) ≡ joined (made_of item after) (runs_of new t))
    → made_of item after ≡ kept head c (one frame)
frame_left head c frame old new item after is made =
    sym (joined_nothing (made_of item after))
    ∙ (ap (λ (r : Flow). joined (made_of item after) r) (sym (runs-waits new))
    ∙ (sym (made nothing) ∙ (is (before frame nothing) ∙ ap (λ (r : Flow). kept head c r) (joined_nothing (one frame)))))

-- an uncut frame is put as it is
pub uncut_left : (head : StreamHead) (c : TimeCut) (y : Item) (spare : Option Item) → is_uncut c ≡ true → (Closes y → ⊥) → IsLeft head c y (Puts y More None spare)
uncut_left head c y spare e k = record {
  puts = put_one y ∙ sym (ap (λ (b : Bool). cond b (one y) (from_range head (range_in (base_of_head head) c) (one y))) e);
  damage = refl;
  once = λ j. refl;
}
