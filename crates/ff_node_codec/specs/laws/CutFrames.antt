-- The frames of a stream, cut: what is made of it as its packets come.
use Rattle.std.specs.Prelude.{◌≡◌, ℕ, ◌⊎◌, Bool, true, false, cond, List, [], ◌∷◌, Option, None, Some, refl}
use Rattle.std.proofs.Common.{sym, ap, inl, inr, ◌∙◌}
use Rattle.ff_time.specs.declared.cut.TimeCut.{TimeCut}
use Rattle.ff_frame.specs.Heads.{base_of_head}
use Rattle.ff_frame.specs.declared.head.StreamHead.{StreamHead}
use Rattle.ff_frame.specs.declared.head.StreamHead.TheVariants.{Audio as AudioHead, Video as VideoHead}
use Rattle.ff_frame.specs.declared.packet.Pkt.{Pkt}
use Rattle.ff_stream.specs.declared.item.Item.{Item}
use Rattle.ff_stream.specs.declared.item.Lane.TheVariants.{Frames, Packets}
use Rattle.ff_stream.specs.laws.Order.{below_trans, closed_below}
use Rattle.ff_stream.specs.Ports.{nothing, IsUnbroken}
use Rattle.ff_stream.specs.Stream.{Mark, still_open, whole, broken, whole_stream, LiesBelow, opened}
use Rattle.ff_filter.specs.declared.range.Range.{Range}
use Rattle.ff_filter.specs.Joins.{joined, joined_at}
use Rattle.ff_filter.specs.laws.Runs.{run, run_at, rest_of, run_on, no_more}
use Rattle.ff_net.specs.Ways.{Flow}
use Rattle.ff_trim.specs.Cuts.{is_uncut, is_empty, range_in, from_range, kept, cut}
use Rattle.ff_trim.specs.laws.Frames.{cut_step}
use Rattle.ff_trim.proofs.ByFrames.{by_frames}
use Rattle.ff_trim.proofs.Limiting.{cut-below, cut-calm, cut-settles, cut_breaks}
use Rattle.ff_trim.proofs.Valid.{cut_valid}
use Rattle.ff_node_codec.specs.Decoding.{decoded_item, decoded, if_broken, cut_frames}
use Rattle.ff_node_codec.specs.Making.{damage_in}
use Rattle.ff_node_codec.specs.laws.MakingLaws.{made_below, made_calm, made_closed, made_valid, made_unbroken, made_goes_on, damage_stays}
use Rattle.ff_node_codec.specs.Spreads.{Carries, Makes}

-- ---- a cut of a stream, and then of what comes behind it

rest_same : (head : StreamHead) (range : Range) (xs : List Item) (u : Flow)
    → rest_of (cut_step head) no_more range xs still_open u ≡ run (cut_step head) no_more range u
rest_same head range [] u = refl
rest_same head range (x ∷ xs) u = rest_same head range xs u

range_on : (head : StreamHead) (range : Range) (xs : List Item) (m : Mark) (u : Flow) → m ≡ still_open
    → from_range head range (joined_at xs m u) ≡ joined (from_range head range (record { items = xs; mark = m })) (from_range head range u)
range_on head range xs whole u o = cc
range_on head range xs broken u o = cc
range_on head range xs still_open u o =
    let front : Flow = record { items = xs; mark = still_open } in
    by_frames head range (joined front u)
    ∙ (run_on (cut_step head) no_more range xs still_open u
    ∙ (ap (λ (r : Flow). joined (run_at (cut_step head) no_more range xs still_open) r) (rest_same head range xs u ∙ sym (by_frames head range u))
    ∙ ap (λ (r : Flow). joined r (from_range head range u)) (sym (by_frames head range front))))

-- a cut, by whether it is over at once and whether nothing is cut
abbrev chosen : Bool → Bool → (Flow → Flow) → Flow → Flow
chosen a b g s = cond a (whole_stream []) (cond b s (g s))

pub cut_goes_on : (head : StreamHead) (c : TimeCut) (t u : Flow) → t.mark ≡ still_open → (cut head c t).mark ≡ still_open
    → cut head c (joined t u) ≡ joined (cut head c t) (cut head c u)
cut_goes_on head c t u o k = by (is_empty c.length) (is_uncut c) k
  where
    range : Range
    range = range_in (base_of_head head) c

    some : Flow → Flow
    some s = from_range head range s

    by : (a b : Bool) → (chosen a b some t).mark ≡ still_open → chosen a b some (joined t u) ≡ joined (chosen a b some t) (chosen a b some u)
    by true b k = cc
    by false true k = refl
    by false false k = range_on head range t.items t.mark u o

-- where nothing came, nothing is left, and how it closed
bare : (head : StreamHead) (range : Range) (m : Mark) → from_range head range (record { items = []; mark = m }) ≡ record { items = []; mark = m }
bare (AudioHead tb rate bits channels codec) range m = refl
bare (VideoHead tb format width height sar_num sar_den) range m = refl

pub kept_bare : (head : StreamHead) (c : TimeCut) (m : Mark) → kept head c (record { items = []; mark = m }) ≡ record { items = []; mark = m }
kept_bare head c m = by (is_uncut c)
  where
    empty : Flow
    empty = record { items = []; mark = m }

    by : (b : Bool) → ◌≡◌ {A = Flow} (cond b empty (from_range head (range_in (base_of_head head) c) empty)) empty
    by true = refl
    by false = bare head (range_in (base_of_head head) c) m

-- before anything comes there is nothing, unless the cut is over then
pub cut_first : (head : StreamHead) (c : TimeCut) → cut head c nothing ≡ cond (is_empty c.length) (whole_stream []) nothing
cut_first head c = ap (λ (s : Flow). cond (is_empty c.length) (whole_stream []) s) (kept_bare head c still_open)

-- a cut that isn't over at once is what is kept
pub cut_kept : (head : StreamHead) (c : TimeCut) (s : Flow) → is_empty c.length ≡ false → cut head c s ≡ kept head c s
cut_kept head c s e = ap (λ (b : Bool). cond b (whole_stream []) (kept head c s)) e

-- one that still goes on wasn't over at once
pub not_empty : (head : StreamHead) (c : TimeCut) (s : Flow) → (cut head c s).mark ≡ still_open → is_empty c.length ≡ false
not_empty head c s o = by (is_empty c.length) o
  where
    by : (b : Bool) → (cond b (whole_stream []) (kept head c s)).mark ≡ still_open → b ≡ false
    by true k = cc
    by false k = refl

-- ---- damage that is left

pub none_left : (m : Mark) → if_broken m None ≡ None
none_left still_open = refl
none_left whole = refl
none_left broken = refl

left_broken : (m : Mark) (d : Option ℕ) (offset : ℕ) → if_broken m d ≡ Some offset → (m ≡ broken) × (d ≡ Some offset)
left_broken still_open d offset e = cc
left_broken whole d offset e = cc
left_broken broken d offset e = (refl, e)

open_or : (m : Mark) → (m ≡ still_open) ⊎ (m ≡ still_open → ⊥)
open_or still_open = inl refl
open_or whole = inr (λ e. cc)
open_or broken = inr (λ e. cc)

joined_mark : (xs : List Item) (m : Mark) (u : Flow) → m ≡ still_open → (joined_at xs m u).mark ≡ u.mark
joined_mark xs still_open u o = refl
joined_mark xs whole u o = cc
joined_mark xs broken u o = cc

-- ---- the frames

module _ (head : StreamHead) (made : Pkt → Option Item) (c : TimeCut) where
  abbrev frames : Flow → Flow
  frames s = decoded made s

  abbrev left : Flow → Flow
  left s = cut head c (decoded made s)

  abbrev damage : Flow → Option ℕ
  damage s = if_broken (left s).mark (damage_in (decoded_item made) s.items)

  frames_below : (r s : Flow) → LiesBelow r s → LiesBelow (left r) (left s)
  frames_below r s b = cut-below head c (frames r) (frames s) (made_below (decoded_item made) r s b)

  frames_unbroken : (s : Flow) → damage s ≡ None → IsUnbroken s → IsUnbroken (left s)
  frames_unbroken s e u b =
      let none : damage_in (decoded_item made) s.items ≡ None = sym (ap (λ (m : Mark). if_broken m (damage_in (decoded_item made) s.items)) b) ∙ e in
      made_unbroken (decoded_item made) s none u (cut_breaks head c (frames s) b)

  frames_broken : (s : Flow) (offset : ℕ) → damage s ≡ Some offset → (left s).mark ≡ broken
  frames_broken s offset e = (left_broken (left s).mark (damage_in (decoded_item made) s.items) offset e).0

  frames_stay : (r s : Flow) (offset : ℕ) → LiesBelow r s → damage r ≡ Some offset → damage s ≡ Some offset
  frames_stay r s offset b e =
      let d = left_broken (left r).mark (damage_in (decoded_item made) r.items) offset e in
      let same : left r ≡ left s =
      closed_below (left r) (left s) (frames_below r s b) (λ o. let clash : broken ≡ still_open = sym d.0 ∙ o in cc) in
      ap (λ (m : Mark). if_broken m (damage_in (decoded_item made) s.items)) (sym (ap (λ (x : Flow). x.mark) same) ∙ d.0)
      ∙ damage_stays (decoded_item made) r s offset b d.1

  frames_open : (t : Flow) → (left t).mark ≡ still_open → (frames t).mark ≡ still_open
  frames_open t k = elim (open_or (frames t).mark) as (λ _. (frames t).mark ≡ still_open) [
    | inl o ↦ o
    | inr m ↦ absurd (cut-settles head c (frames t) m k)
  ]

  frames_go_on : (t u : Flow) → t.mark ≡ still_open → (left t).mark ≡ still_open
      → (left (joined t u) ≡ joined (left t) (left u)) × (damage (joined t u) ≡ damage u)
  frames_go_on t u o k =
      let goes : (frames t).mark ≡ still_open = frames_open t k in
      let on = made_goes_on (decoded_item made) t u o goes in
      let same : left (joined t u) ≡ joined (left t) (left u) = ap (λ (s : Flow). cut head c s) on.0 ∙ cut_goes_on head c (frames t) (frames u) goes k in (
        same,
        ap (λ (d : Option ℕ). if_broken (left (joined t u)).mark d) on.1
            ∙ ap (λ (m : Mark). if_broken m (damage_in (decoded_item made) u.items))
            (ap (λ (s : Flow). s.mark) same ∙ joined_mark (left t).items (left t).mark (left u) k),
      )

  -- a lane of packets gives a lane of frames, cut
  pub frames_make : Carries (Packets head) (Frames head) (decoded_item made) → Makes (Packets head) (Frames head) (cut_frames head made c)
  frames_make carries = record {
    below = frames_below;
    calm = λ s. below_trans (opened (left s)) (cut head c (opened (frames s))) (left (opened s)) (cut-calm head c (frames s))
        (cut-below head c (opened (frames s)) (frames (opened s)) (made_calm (decoded_item made) s));
    closed = λ s k. cut-settles head c (frames s) (made_closed (decoded_item made) s k);
    valid = λ s v. (cut_valid head c).valid (frames s) (made_valid (Packets head) (Frames head) (decoded_item made) carries s v);
    unbroken = frames_unbroken;
    broken = frames_broken;
    stays = frames_stay;
    goes_on = frames_go_on;
  }
