-- Which of the next frames of streams side by side passes a limit.
use Rattle.std.proofs.Common.{◌≡◌, ◌≢◌, ℕ, zero, suc, ℤ, pos, negsuc, ◌+◌, ◌-◌, ◌*◌, ◌/◌, ◌^◌, ◌+ℤ◌, ◌≤ℤ◌, ◌<◌, ◌≤◌, ◌⊎◌, inl, inr, Bool, true, false, ◌||◌, List}
use Rattle.std.proofs.Common.{[], ◌∷◌, ◌++◌, cond, length, take, drop, refl, ap, sym, ◌∙◌, subst, arith, append-nil}
use Rattle.std.specs.Prelude.{nat_lt}
use Rattle.std.proofs.lemmas.Bool.{ltb-true, lt-ltb, or_cases, or_left, or_right}
use Rattle.std.proofs.lemmas.List.{length-append, length-drop, length-take-le}
use Rattle.std.proofs.Math.Nat.{mul-le-mul_right, div-mul-le_self}
use Rattle.ff_frame.specs.Heads.{base_of_head}
use Rattle.ff_stream.specs.declared.item.Item.{Item}
use Rattle.ff_stream.specs.declared.item.Lane.TheVariants.{Frames}
use Rattle.ff_stream.specs.Ports.{nothing}
use Rattle.ff_stream.specs.Stream.{Mark, still_open, whole, broken, has_closed}
use Rattle.ff_stream.specs.Times.{ticks}
use Rattle.ff_stream.specs.Within.{some_pass, passes_limits}
use Rattle.ff_filter.specs.declared.after.After.{After}
use Rattle.ff_filter.specs.declared.after.After.TheVariants.{More, Whole, Broke}
use Rattle.ff_filter.specs.Joins.{Flow, silence, joined}
use Rattle.ff_filter.specs.laws.Limits.{limit_step}
use Rattle.ff_filter.specs.Made.{is_over}
use Rattle.ff_filter.specs.laws.Runs.{run_at, no_more}
use Rattle.ff_joins.specs.declared.join.Join.{Join}
use Rattle.ff_joins.specs.declared.sound_inlet.SoundInlet.{SoundInlet}
use Rattle.ff_joins.specs.Joined.{Row, row_stream, rows_to, join_mark, frames_in, frame_at, frames_to, flattened}
use Rattle.ff_joins.specs.JoinOptions.{channels_of}
use Rattle.ff_joins.specs.laws.JoinedLaws.{rows_few, rows_many}
use Rattle.ff_joins.specs.laws.JoinCuts.{width_to, frame_length, frame_end, is_late, next_frames}
use Rattle.ff_joins.specs.laws.JoinDrawing.{made_on, kept_rows, HaveAll, StandsSo}
use Rattle.ff_joins.specs.laws.JoinSeen.{fed_mark}
use Rattle.ff_joins.specs.laws.Lots.{Lot, lots, last_port, rows_kept, row_then, all_come, start_after, frame_on, skipped, cell, row_to, cells_to}
use Rattle.ff_joins.proofs.Framing.{rows_skipped, skip_long}
use Rattle.ff_joins.proofs.FrameSteps.{dropped_rows, rows_drop, rows_same, cells_are, come_many, come_silent}
use Rattle.ff_joins.proofs.Decisions.{so_open, so_whole, so_lost}

-- how many samples -----------------------------------------------------------------------------------------------------

pub lots_whole : (is : List SoundInlet) (p : ℕ) → length (lots is p).samples ≡ (lots is p).count * (lots is p).channels
lots_whole [] p = refl
lots_whole (i ∷ is) zero = i.rows
lots_whole (i ∷ is) (suc p) = lots_whole is p

cell_long : (l : Lot) (r : ℕ) → length l.samples ≡ l.count * l.channels → r < l.count → length (cell l r) ≡ l.channels
cell_long l r e lt =
    let h : suc r * l.channels ≤ l.count * l.channels = mul-le-mul_right l.channels lt in
    let s : suc r * l.channels ≡ l.channels + r * l.channels = omega arith in
    let d = length-drop (r * l.channels) l.samples in
    length-take-le l.channels (drop (r * l.channels) l.samples) (omega (arith, h, s, d, e))

module _ (ls : ℕ → Lot) (all_whole : (p : ℕ) → length (ls p).samples ≡ (ls p).count * (ls p).channels) where
  row_long : (p r : ℕ) → ((q : ℕ) → q < p → r < (ls q).count) → length (row_to ls p r) ≡ width_to ls p
  row_long zero r h = refl
  row_long (suc p) r h =
      let a = length-append (row_to ls p r) (cell (ls p) r) in
      let b = row_long p r (λ q lt. h q (omega (arith, lt))) in
      let c = cell_long (ls p) r (all_whole p) (h p (omega arith)) in
      omega (arith, a, b, c)

  cells_long : (n k : ℕ) → ((q : ℕ) → q < n → k ≤ (ls q).count) → length (cells_to ls n k) ≡ k * width_to ls n
  cells_long n zero h = omega arith
  cells_long n (suc k) h =
      let a = length-append (cells_to ls n k) (row_to ls n k) in
      let b = cells_long n k (λ q lt. let m = h q lt in omega (arith, m)) in
      let c = row_long n k (λ q lt. let m = h q lt in omega (arith, m)) in
      let s : suc k * width_to ls n ≡ width_to ls n + k * width_to ls n = omega arith in
      omega (arith, a, b, c, s)

width_same : (ls : ℕ → Lot) (k p : ℕ) → width_to (λ q. skipped k (ls q)) p ≡ width_to ls p
width_same ls k zero = refl
width_same ls k (suc p) = ap (λ (w : ℕ). w + (ls p).channels) (width_same ls k p)

-- the samples of a frame of 1,024 sample frames that wait
frame_long : (is : List SoundInlet) (n k : ℕ) → ((q : ℕ) → q < suc n → k + 1024 ≤ (lots is q).count)
    → length (flattened (take 1024 (drop k (rows_to n (kept_rows (lots is)))))) ≡ 1024 * width_to (lots is) (suc n)
frame_long is n k many =
    let ls = lots is in
    let ms : ℕ → Lot = λ q. skipped k (ls q) in
    let rows : drop k (rows_to n (kept_rows ls)) ≡ rows_to n (kept_rows ms) =
    sym (rows_drop n k (kept_rows ls)) ∙ rows_same n (dropped_rows k (kept_rows ls)) (kept_rows ms) (λ p lt. sym (rows_skipped k (ls p))) in
    let enough : (q : ℕ) → q < suc n → 1024 ≤ (ms q).count = λ q lt. let m = many q lt in omega (arith, m) in
    let long = cells_long ms (λ q. whole_still q) (suc n) 1024 enough in
    ap (λ (rs : List Row). length (flattened (take 1024 rs))) rows
    ∙ (ap (λ (xs : List ℤ). length xs) (cells_are ms n 1024 enough) ∙ (long ∙ ap (λ (w : ℕ). 1024 * w) (width_same ls k (suc n))))
  where
    whole_still : (q : ℕ) → length (skipped k (lots is q)).samples ≡ (skipped k (lots is q)).count * (lots is q).channels
    whole_still q = at (lots is q) (lots_whole is q)
      where
        at : (l : Lot) → length l.samples ≡ l.count * l.channels → length (drop (k * l.channels) l.samples) ≡ (l.count - k) * l.channels
        at l e = by_size l e (cases_le k l.count)
          where
            cases_le : (a b : ℕ) → (a ≤ b) ⊎ (b < a)
            cases_le zero b = inl (omega arith)
            cases_le (suc a) zero = inr (omega arith)
            cases_le (suc a) (suc b) = elim (cases_le a b) as (λ _. (suc a ≤ suc b) ⊎ (suc b < suc a)) [ inl h ↦ inl (omega (arith, h)) | inr h ↦ inr (omega (arith, h)) ]

            by_size : (l : Lot) → length l.samples ≡ l.count * l.channels → (k ≤ l.count) ⊎ (l.count < k) → length (drop (k * l.channels) l.samples) ≡
                (l.count - k) * l.channels
            by_size l e (inl le) = skip_long k l.count l.channels l.samples le e
            by_size l e (inr lt) =
                let h : l.count * l.channels ≤ k * l.channels = mul-le-mul_right l.channels (let r : l.count ≤ k = omega (arith, lt) in r) in
                let d = length-drop (k * l.channels) l.samples in
                let z : l.count - k ≡ 0 = omega (arith, lt) in
                let w : 0 * l.channels ≡ 0 = omega arith in
                let y : (l.count - k) * l.channels ≡ 0 = ap (λ (j : ℕ). j * l.channels) z ∙ w in
                omega (arith, h, d, e, y)

-- later frames end later ---------------------------------------------------------------------------------------------------

ticks_mono : (y z : ℤ) → y ≤ℤ z → ticks y ≤ ticks z
ticks_mono (pos y) (pos z) h = grind (arith)
ticks_mono (pos y) (negsuc z) h = grind (arith)
ticks_mono (negsuc y) z h = omega arith

ends_mono : (z : ℤ) (a b d : ℕ) → a ≤ b → (z +ℤ pos a +ℤ pos d) ≤ℤ (z +ℤ pos b +ℤ pos d)
ends_mono z a b d le = grind (arith)

late_mono : (m : Join) (t : ℕ) → is_late m t ≡ true → is_late m (suc t) ≡ true
late_mono m t e =
    let top = 1000000000 * (base_of_head m.head).den in
    let num = (base_of_head m.head).num in
    elim (or_cases (nat_lt (2 ^ 40) (t + 1)) (nat_lt top (frame_end m t * num)) e) as (λ _. is_late m (suc t) ≡ true) [
      | inl l ↦ or_left (nat_lt (2 ^ 40) (suc t + 1)) _ (lt-ltb (2 ^ 40) (suc t + 1) (let h = ltb-true (2 ^ 40) (t + 1) l in omega (arith, h)))
      | inr l ↦ or_right (nat_lt (2 ^ 40) (suc t + 1)) _ (
          let h = ltb-true top (frame_end m t * num) l in
          let le : frame_end m t ≤ frame_end m (suc t) =
          ticks_mono (start_after m.first nothing +ℤ pos (1024 * t) +ℤ pos (frame_length m)) (start_after m.first nothing +ℤ pos (1024 * suc t) +ℤ pos (frame_length m))
          (ends_mono (start_after m.first nothing) (1024 * t) (1024 * suc t) (frame_length m) (omega arith)) in
          let up : frame_end m t * num ≤ frame_end m (suc t) * num = mul-le-mul_right num le in
          lt-ltb top (frame_end m (suc t) * num) (omega (arith, h, up))
          )
    ]

-- one of many --------------------------------------------------------------------------------------------------------------

some_last : (passes : ℕ → Item → Bool) (g : ℕ) (xs : List Item) (y : Item) → some_pass passes g (xs ++ y ∷ []) ≡ (some_pass passes g xs || passes (g + length xs) y)
some_last passes g [] y = let e : g ≡ g + 0 = omega arith in alone (passes g y) ∙ ap (λ (k : ℕ). passes k y) e
  where
    alone : (b : Bool) → cond b true false ≡ b
    alone true = refl
    alone false = refl
some_last passes g (x ∷ xs) y = at (passes g x) (some_last passes (g + 1) xs y)
  where
    at : (b : Bool) → some_pass passes (g + 1) (xs ++ y ∷ []) ≡ (some_pass passes (g + 1) xs || passes (g + 1 + length xs) y)
        → cond b true (some_pass passes (g + 1) (xs ++ y ∷ [])) ≡ (cond b true (some_pass passes (g + 1) xs) || passes (g + suc (length xs)) y)
    at true h = refl
    at false h = let e : g + 1 + length xs ≡ g + suc (length xs) = omega arith in h ∙ ap (λ (k : ℕ). some_pass passes (g + 1) xs || passes k y) e

frames_long : (make : ℕ → List Row → Item) (rows : List Row) (k : ℕ) → length (frames_to make rows k) ≡ k
frames_long make rows zero = refl
frames_long make rows (suc k) = let a = length-append (frames_to make rows k) (frame_at make rows k ∷ []) in let h = frames_long make rows k in omega (arith, a, h)

absorb : (a b : Bool) → (a ≡ true → b ≡ true) → (a || b) ≡ b
absorb true b h = sym (h refl)
absorb false b h = refl

module _ (m : Join) where
  abbrev n : ℕ
  n = last_port m.inlets.items

  abbrev make : ℕ → List Row → Item
  make = frame_on m.head m.given (start_after m.first nothing)

  abbrev rows : List Row
  rows = rows_to n (kept_rows (lots m.inlets.items))

  abbrev passes : ℕ → Item → Bool
  passes = passes_limits (Frames m.head)

  frame_late : (j : ℕ) → HaveAll m (1024 * j + 1024) → passes (m.given + j) (frame_at make rows j) ≡ is_late m (m.given + j)
  frame_late j all =
      let t = m.there in
      let width : suc n ≡ length m.inlets.items = omega (arith, t) in
      let long : length (flattened (take 1024 (drop (1024 * j) rows))) ≡ 1024 * width_to (lots m.inlets.items) (length m.inlets.items) =
      frame_long m.inlets.items n (1024 * j) (λ q lt. all q (omega (arith, lt, width))) ∙ ap (λ (k : ℕ). 1024 * width_to (lots m.inlets.items) k) width in
      ap (λ (k : ℕ). nat_lt (2 ^ 40) (m.given + j + 1) || nat_lt (1000000000 * (base_of_head m.head).den)
      (ticks (start_after m.first nothing +ℤ pos (1024 * (m.given + j)) +ℤ pos (k / channels_of m.head)) * (base_of_head m.head).num)) long

  cut_is : (k : ℕ) → HaveAll m (1024 * k + 1024) → some_pass passes m.given (next_frames m (suc k)) ≡ is_late m (m.given + k)
  cut_is zero all = some_last passes m.given [] (frame_at make rows 0) ∙ frame_late 0 all
  cut_is (suc k) all =
      let fewer : HaveAll m (1024 * k + 1024) = λ p lt. let a = all p lt in omega (arith, a) in
      let f = frame_at make rows (suc k) in
      let here = frame_late (suc k) all in
      let e : suc (m.given + k) ≡ m.given + suc k = omega arith in
      some_last passes m.given (next_frames m (suc k)) f
      ∙ (ap (λ (j : ℕ). some_pass passes m.given (next_frames m (suc k)) || passes (m.given + j) f) (frames_long make rows (suc k))
      ∙ (ap (λ (b : Bool). b || passes (m.given + suc k) f) (cut_is k fewer)
      ∙ (ap (λ (b : Bool). is_late m (m.given + k) || b) here
      ∙ absorb (is_late m (m.given + k)) (is_late m (m.given + suc k)) (λ l. subst (λ (j : ℕ). is_late m j ≡ true) e (late_mono m (m.given + k) l)))))

  pub cut_of : (k : ℕ) → 0 < k → HaveAll m (k * 1024) → some_pass passes m.given (next_frames m k) ≡ is_late m (m.given + (k - 1))
  cut_of zero some all = absurd (omega (arith, some))
  cut_of (suc k) some all = let e : k ≡ suc k - 1 = omega arith in cut_is k (λ p lt. let a = all p lt in omega (arith, a)) ∙ ap (λ (j : ℕ). is_late m (m.given + j)) e

  -- where nothing more is fed
  silent_items : (p : ℕ) → (all_come (lots m.inlets.items) silence p).items ≡ rows_kept (lots m.inlets.items p)
  silent_items p = at (lots m.inlets.items p).after
    where
      at : (a : After) → (row_then (rows_kept (lots m.inlets.items p)) a (row_stream (lots m.inlets.items p).channels nothing)).items ≡ rows_kept (lots m.inlets.items p)
      at More = append-nil (rows_kept (lots m.inlets.items p))
      at Whole = refl
      at Broke = refl

  mark_at : (g : ℕ) (xs : List Item) (k : Mark) → (run_at (limit_step passes) no_more g xs k).mark ≡ cond (some_pass passes g xs) broken k
  mark_at g [] still_open = refl
  mark_at g [] whole = refl
  mark_at g [] broken = refl
  mark_at g (x ∷ xs) k = pick (passes g x) (mark_at (g + 1) xs k)
    where
      pick : (b : Bool) → (run_at (limit_step passes) no_more (g + 1) xs k).mark ≡ cond (some_pass passes (g + 1) xs) broken k
          → (joined (cond b (record { items = []; mark = broken }) (record { items = x ∷ []; mark = still_open })) (run_at (limit_step passes) no_more (g + 1) xs k)).mark
          ≡ cond (cond b true (some_pass passes (g + 1) xs)) broken k
      pick true e = refl
      pick false e = e

  abbrev silent : Flow
  silent = made_on m m.given (lots m.inlets.items) silence

  pub fed_is : fed_mark m ≡ cond (some_pass passes m.given silent.items) broken (join_mark n (all_come (lots m.inlets.items) silence))
  fed_is = mark_at m.given silent.items silent.mark

  closed_whole : (b : Bool) (k : Mark) → k ≢ still_open → has_closed (cond b broken k) ≡ true
  closed_whole true k c = refl
  closed_whole false still_open c = absurd (c refl)
  closed_whole false whole c = refl
  closed_whole false broken c = refl

  closed_open : (b : Bool) → has_closed (cond b broken still_open) ≡ b
  closed_open true = refl
  closed_open false = refl

  module _ (count : ℕ) (all : HaveAll m count) (at_least : (p : ℕ) × (p < length m.inlets.items) × ((lots m.inlets.items p).count ≡ count)) where
    pub fed_over : (a : After) → StandsSo m count a → is_over a ≡ true → true ≡ has_closed (fed_mark m)
    fed_over More s e = cc
    fed_over Whole s e = sym (ap has_closed fed_is ∙ closed_whole (some_pass passes m.given silent.items) _ (λ o. let c : whole ≡ still_open = sym
        (so_whole m count all s silence) ∙ o in cc))
    fed_over Broke s e = sym (ap has_closed fed_is ∙ closed_whole (some_pass passes m.given silent.items) _ (λ o. let c : broken ≡ still_open = sym
        (so_lost m count all at_least s silence) ∙ o in cc))

    pub fed_open : (a : After) → StandsSo m count a → is_over a ≡ false → some_pass passes m.given (next_frames m (count / 1024)) ≡ has_closed (fed_mark m)
    fed_open Whole s e = cc
    fed_open Broke s e = cc
    fed_open More s e =
        let ss = all_come (lots m.inlets.items) silence in
        let t = m.there in
        let stands : join_mark n ss ≡ still_open = so_open m count all s in
        let same : rows_to n ss ≡ rows = rows_same n ss (kept_rows (lots m.inlets.items)) (λ p lt. silent_items p) in
        let few = rows_few n ss at_least.0 (let l = at_least.1 in omega (arith, l, t)) in
        let c = come_silent (lots m.inlets.items) at_least.0 in
        let d = at_least.2 in
        let many = rows_many n ss count (λ p lt. let b = come_many (lots m.inlets.items) silence p in let a = all p (omega (arith, lt, t)) in omega (arith, a, b)) in
        let long : length (rows_to n ss) ≡ count = omega (arith, few, c, d, many) in
        let items : silent.items ≡ next_frames m (count / 1024) =
        ap (λ (k : Mark). frames_to make (rows_to n ss) (frames_in k (length (rows_to n ss)))) stands
        ∙ (ap (λ (k : ℕ). frames_to make (rows_to n ss) (k / 1024)) long ∙ ap (λ (rs : List Row). frames_to make rs (count / 1024)) same) in
        sym (ap has_closed fed_is
        ∙ (ap (λ (k : Mark). has_closed (cond (some_pass passes m.given silent.items) broken k)) stands
        ∙ (closed_open (some_pass passes m.given silent.items) ∙ ap (λ (xs : List Item). some_pass passes m.given xs) items)))

    pub have_frames : HaveAll m (count / 1024 * 1024)
    have_frames p lt = let a = all p lt in let d = div-mul-le_self count 1024 in omega (arith, a, d)
