-- Whether what was fed at an even rate passes a limit.
use Rattle.std.proofs.Common.{◌≡◌, ℕ, zero, suc, ◌+◌, ◌-◌, ◌*◌, ◌<◌, ◌≤◌, ◌^◌, inl, inr, max, nat_lt, Bool, true, false, cond, Option, Some, None, List, [], ◌∷◌, ◌++◌}
use Rattle.std.proofs.Common.{length, drop, get_or, drop-cons, refl, ap, sym, ◌∙◌, arith}
use Rattle.std.specs.Prelude.{◌||◌, ◌&&◌}
use Rattle.std.proofs.lemmas.Bool.{or_cases, or_left, or_right, ltb-true, lt-ltb}
use Rattle.std.proofs.lemmas.Bool.Decides.{nat_tests}
use Rattle.std.proofs.Math.Nat.{mul-le-mul_right}
use Rattle.ff_frame.specs.declared.head.StreamHead.{StreamHead}
use Rattle.ff_frame.specs.declared.video.VFrame.{VFrame}
use Rattle.ff_frame.specs.Heads.{base_of_head}
use Rattle.ff_stream.specs.declared.item.Item.{Item}
use Rattle.ff_stream.specs.declared.item.Item.TheVariants.{Audio, Video, Packet, Trailer, End, Broken}
use Rattle.ff_stream.specs.declared.item.Lane.TheVariants.{Frames}
use Rattle.ff_stream.specs.Ports.{nothing}
use Rattle.ff_stream.specs.Stream.{Mark, still_open, whole, broken, has_closed}
use Rattle.ff_stream.specs.Within.{some_pass, passes_limits}
use Rattle.ff_filter.specs.declared.after.After.{After}
use Rattle.ff_filter.specs.declared.after.After.TheVariants.{More, Whole, Broke}
use Rattle.ff_filter.specs.Joins.{Flow, one, before, before_all, joined}
use Rattle.ff_filter.specs.laws.Limits.{limited, limit_step}
use Rattle.ff_filter.specs.Made.{waiting, is_over}
use Rattle.ff_filter.specs.laws.Runs.{run_at, no_more}
use Rattle.ff_filter.specs.Views.{none_closes}
use Rattle.ff_vfilter.specs.declared.scale.Scale.{Scale}
use Rattle.ff_vfilter.specs.declared.showing.Ahead.{Ahead}
use Rattle.ff_vfilter.specs.declared.showing.Ahead.TheVariants as ahead
use Rattle.ff_vfilter.specs.declared.showing.Showing.{Showing}
use Rattle.ff_vfilter.specs.declared.span.Span.{Span}
use Rattle.ff_vfilter.specs.laws.RateCuts.{span_by, span_of, span_at, span_then, span_ahead, is_end, is_late, is_cut}
use Rattle.ff_vfilter.specs.Rates.{number_of, shown}
use Rattle.ff_vfilter.specs.laws.RateSteps.{Held, shows, shows_to_end, rate_step, rated}
use Rattle.ff_vfilter.specs.laws.RateViews.{ahead_then}

-- so many pictures from a number on --------------------------------------------------------------------------------------

absorb : (a b : Bool) → (a ≡ true → b ≡ true) → (a || b) ≡ b
absorb true b h = sym (h refl)
absorb false b h = refl

some_append : (passes : ℕ → Item → Bool) (g : ℕ) (xs ys : List Item) → some_pass passes g (xs ++ ys) ≡ (some_pass passes g xs || some_pass passes (g + length xs) ys)
some_append passes g [] ys = let e : g ≡ g + 0 = omega arith in ap (λ (k : ℕ). some_pass passes k ys) e
some_append passes g (x ∷ xs) ys = at (passes g x) (some_append passes (g + 1) xs ys)
  where
    at : (b : Bool) → some_pass passes (g + 1) (xs ++ ys) ≡ (some_pass passes (g + 1) xs || some_pass passes (g + 1 + length xs) ys)
        → cond b true (some_pass passes (g + 1) (xs ++ ys)) ≡ (cond b true (some_pass passes (g + 1) xs) || some_pass passes (g + suc (length xs)) ys)
    at true h = refl
    at false h = let e : g + 1 + length xs ≡ g + suc (length xs) = omega arith in h ∙ ap (λ (k : ℕ). some_pass passes (g + 1) xs || some_pass passes k ys) e

shows_long : (k n : ℕ) (f : VFrame) → length (shows k n f) ≡ k
shows_long zero n f = refl
shows_long (suc k) n f = let h = shows_long k (n + 1) f in omega (arith, h)

-- the number behind the last picture, where one is shown
abbrev next_of : Scale → ℕ → List Item → ℕ
next_of s n [] = n
next_of s n (Audio f ∷ xs) = next_of s n xs
next_of s n (Video f ∷ xs) = next_of s (max n (number_of s f)) xs
next_of s n (Packet p ∷ xs) = next_of s n xs
next_of s n (Trailer t ∷ xs) = next_of s n xs
next_of s n (End ∷ xs) = next_of s n xs
next_of s n (Broken ∷ xs) = next_of s n xs

next_above : (s : Scale) (n : ℕ) (xs : List Item) → n ≤ next_of s n xs
next_above s n [] = omega arith
next_above s n (Audio f ∷ xs) = next_above s n xs
next_above s n (Video f ∷ xs) = let h = next_above s (max n (number_of s f)) xs in omega (arith, h)
next_above s n (Packet p ∷ xs) = next_above s n xs
next_above s n (Trailer t ∷ xs) = next_above s n xs
next_above s n (End ∷ xs) = next_above s n xs
next_above s n (Broken ∷ xs) = next_above s n xs

span_next : (s : Scale) (a n : ℕ) (xs : List Item) → span_of s (Some (record { first = a; next = n })) xs ≡ Some (record { first = a; next = next_of s n xs })
span_next s a n [] = refl
span_next s a n (Audio f ∷ xs) = span_next s a n xs
span_next s a n (Video f ∷ xs) = span_next s a (max n (number_of s f)) xs
span_next s a n (Packet p ∷ xs) = span_next s a n xs
span_next s a n (Trailer t ∷ xs) = span_next s a n xs
span_next s a n (End ∷ xs) = span_next s a n xs
span_next s a n (Broken ∷ xs) = span_next s a n xs

module _ (given : StreamHead) where
  abbrev passes : ℕ → Item → Bool
  passes = passes_limits (Frames given)

  pub late_is : (b n : ℕ) (f : VFrame) → passes b (shown n f) ≡ is_late given b n
  late_is b n f = refl

  late_mono : (b n d e : ℕ) → b ≤ d → n ≤ e → is_late given b n ≡ true → is_late given d e ≡ true
  late_mono b n d e le less h =
      let top = 1000000000 * (base_of_head given).den in
      let num = (base_of_head given).num in
      elim (or_cases (nat_lt (2 ^ 40) (b + 1)) (nat_lt top ((n + 1) * num)) h) as (λ _. is_late given d e ≡ true) [
        | inl l ↦ or_left (nat_lt (2 ^ 40) (d + 1)) _ (lt-ltb (2 ^ 40) (d + 1) (let t = ltb-true (2 ^ 40) (b + 1) l in omega (arith, t, le)))
        | inr l ↦ or_right (nat_lt (2 ^ 40) (d + 1)) _ (
            let t = ltb-true top ((n + 1) * num) l in
            let up : (n + 1) * num ≤ (e + 1) * num = mul-le-mul_right num (let m : n + 1 ≤ e + 1 = omega (arith, less) in m) in
            lt-ltb top ((e + 1) * num) (omega (arith, t, up)))
      ]

  -- one of so many pictures passes a limit: the last
  abbrev cut_of : ℕ → ℕ → ℕ → Bool
  cut_of b n zero = false
  cut_of b n (suc k) = is_late given (b + k) (n + k)

  cut_first : (b n k : ℕ) → cond (is_late given b n) true (cut_of (b + 1) (n + 1) k) ≡ cut_of b n (suc k)
  cut_first b n zero = at (is_late given b n) ∙ (let e : b ≡ b + 0 = omega arith in let g : n ≡ n + 0 = omega arith in
      ap (λ (i : ℕ). is_late given i n) e ∙ ap (λ (i : ℕ). is_late given (b + 0) i) g)
    where
      at : (c : Bool) → cond c true false ≡ c
      at true = refl
      at false = refl
  cut_first b n (suc k) =
      let e : b + 1 + k ≡ b + suc k = omega arith in
      let g : n + 1 + k ≡ n + suc k = omega arith in
      at (is_late given b n) (is_late given (b + 1 + k) (n + 1 + k)) (λ h. late_mono b n (b + 1 + k) (n + 1 + k) (omega arith) (omega arith) h)
      ∙ (ap (λ (i : ℕ). is_late given i (n + 1 + k)) e ∙ ap (λ (i : ℕ). is_late given (b + suc k) i) g)
    where
      at : (c d : Bool) → (c ≡ true → d ≡ true) → cond c true d ≡ d
      at true d h = sym (h refl)
      at false d h = refl

  shows_cut : (b n k : ℕ) (f : VFrame) → some_pass passes b (shows k n f) ≡ cut_of b n k
  shows_cut b n zero f = refl
  shows_cut b n (suc k) f =
      ap (λ (c : Bool). cond c true (some_pass passes (b + 1) (shows k (n + 1) f))) (late_is b n f)
      ∙ (ap (λ (c : Bool). cond (is_late given b n) true c) (shows_cut (b + 1) (n + 1) k f) ∙ cut_first b n k)

  cut_split : (b n k j : ℕ) → (cut_of b n k || cut_of (b + k) (n + k) j) ≡ cut_of b n (k + j)
  cut_split b n k zero = let e : k ≡ k + 0 = omega arith in at (cut_of b n k) ∙ ap (λ (i : ℕ). cut_of b n i) e
    where
      at : (c : Bool) → (c || false) ≡ c
      at true = refl
      at false = refl
  cut_split b n k (suc j) =
      let e : b + k + j ≡ b + (k + j) = omega arith in
      let g : n + k + j ≡ n + (k + j) = omega arith in
      let s : suc (k + j) ≡ k + suc j = omega arith in
      absorb (cut_of b n k) (is_late given (b + k + j) (n + k + j)) (up k)
      ∙ (ap (λ (i : ℕ). is_late given i (n + k + j)) e ∙ (ap (λ (i : ℕ). is_late given (b + (k + j)) i) g ∙ ap (λ (i : ℕ). cut_of b n i) s))
    where
      up : (k : ℕ) → cut_of b n k ≡ true → is_late given (b + k + j) (n + k + j) ≡ true
      up zero h = cc
      up (suc k) h = late_mono (b + k) (n + k) (b + suc k + j) (n + suc k + j) (omega arith) (omega arith) h

  cut_is : (b n t : ℕ) → n ≤ t → cut_of b n (t - n) ≡ is_cut given b (Some (record { first = n; next = t }))
  cut_is b n t le = at (t - n) refl
    where
      at : (k : ℕ) → t - n ≡ k → cut_of b n k ≡ (nat_lt n t && is_late given (b + (t - n - 1)) (t - 1))
      at zero e = let f : nat_lt n t ≡ false = grind (arith, nat_tests, e, le) in sym (ap (λ (c : Bool). c && is_late given (b + (t - n - 1)) (t - 1)) f)
      at (suc k) e =
          let f : nat_lt n t ≡ true = lt-ltb n t (omega (arith, e)) in
          let g : b + k ≡ b + (t - n - 1) = omega (arith, e) in
          let h : n + k ≡ t - 1 = omega (arith, e, le) in
          ap (λ (i : ℕ). is_late given i (n + k)) g
          ∙ (ap (λ (i : ℕ). is_late given (b + (t - n - 1)) i) h ∙ sym (ap (λ (c : Bool). c && is_late given (b + (t - n - 1)) (t - 1)) f))

  -- of pictures one behind another ---------------------------------------------------------------------------------------

  module _ (s : Scale) where
    abbrev finish : Held → List Item
    finish g = shows_to_end s g.picture g.number

    abbrev all_shown : Option VFrame → ℕ → List Item → Flow
    all_shown p n xs = run_at (rate_step s) finish (record { picture = p; number = n }) xs still_open

    queue_cut : (b n : ℕ) (f : VFrame) (xs : List Item) → some_pass passes b (all_shown (Some f) n xs).items ≡ cut_of b n (next_of s n xs - n)
    queue_cut b n f [] = let e : 0 ≡ n - n = omega arith in ap (λ (k : ℕ). cut_of b n k) e
    queue_cut b n f (Audio g ∷ xs) = queue_cut b n f xs
    queue_cut b n f (Video g ∷ xs) =
        let q : ℕ = number_of s g in
        let t : ℕ = next_of s (max n q) xs in
        let above : max n q ≤ t = next_above s (max n q) xs in
        let top : max n q ≡ n + (q - n) = omega arith in
        let sum : (q - n) + (t - max n q) ≡ t - n = omega (arith, above, top) in
        some_append passes b (shows (q - n) n f) (all_shown (Some g) (max n q) xs).items
        ∙ (ap (λ (k : ℕ). some_pass passes b (shows (q - n) n f) || some_pass passes (b + k) (all_shown (Some g) (max n q) xs).items) (shows_long (q - n) n f)
        ∙ (ap (λ (c : Bool). c || some_pass passes (b + (q - n)) (all_shown (Some g) (max n q) xs).items) (shows_cut b n (q - n) f)
        ∙ (ap (λ (c : Bool). cut_of b n (q - n) || c) (queue_cut (b + (q - n)) (max n q) g xs)
        ∙ (ap (λ (i : ℕ). cut_of b n (q - n) || cut_of (b + (q - n)) i (t - max n q)) top
        ∙ (cut_split b n (q - n) (t - max n q) ∙ ap (λ (k : ℕ). cut_of b n k) sum)))))
    queue_cut b n f (Packet p ∷ xs) = queue_cut b n f xs
    queue_cut b n f (Trailer t ∷ xs) = queue_cut b n f xs
    queue_cut b n f (End ∷ xs) = queue_cut b n f xs
    queue_cut b n f (Broken ∷ xs) = queue_cut b n f xs

    held_cut : (b n : ℕ) (f : VFrame) (xs : List Item) → some_pass passes b (all_shown (Some f) n xs).items
        ≡ is_cut given b (span_of s (Some (record { first = n; next = n })) xs)
    held_cut b n f xs = queue_cut b n f xs ∙ (cut_is b n (next_of s n xs) (next_above s n xs) ∙ ap (λ (o : Option Span). is_cut given b o) (sym (span_next s n n xs)))

    all_cut : (b n : ℕ) (p : Option VFrame) (xs : List Item) → some_pass passes b (all_shown p n xs).items ≡ is_cut given b (span_of s (span_at p n) xs)
    all_cut b n (Some f) xs = held_cut b n f xs
    all_cut b n None [] = refl
    all_cut b n None (Audio g ∷ xs) = all_cut b n None xs
    all_cut b n None (Video g ∷ xs) = held_cut b (number_of s g) g xs
    all_cut b n None (Packet p ∷ xs) = all_cut b n None xs
    all_cut b n None (Trailer t ∷ xs) = all_cut b n None xs
    all_cut b n None (End ∷ xs) = all_cut b n None xs
    all_cut b n None (Broken ∷ xs) = all_cut b n None xs

    shown_open : (p : Option VFrame) (n : ℕ) (xs : List Item) → (all_shown p n xs).mark ≡ still_open
    shown_open p n [] = refl
    shown_open p n (Audio g ∷ xs) = shown_open p n xs
    shown_open p n (Video g ∷ xs) = shown_open (Some g) _ xs
    shown_open p n (Packet q ∷ xs) = shown_open p n xs
    shown_open p n (Trailer t ∷ xs) = shown_open p n xs
    shown_open p n (End ∷ xs) = shown_open p n xs
    shown_open p n (Broken ∷ xs) = shown_open p n xs

  -- how they end, within the limits -------------------------------------------------------------------------------------

  mark_at : (g : ℕ) (xs : List Item) (k : Mark) → (run_at (limit_step passes) no_more g xs k).mark ≡ cond (some_pass passes g xs) broken k
  mark_at g [] still_open = refl
  mark_at g [] whole = refl
  mark_at g [] broken = refl
  mark_at g (x ∷ xs) k = pick (passes g x) (mark_at (g + 1) xs k)
    where
      pick : (b : Bool) → (run_at (limit_step passes) no_more (g + 1) xs k).mark ≡ cond (some_pass passes (g + 1) xs) broken k
          → (joined (cond b (record { items = []; mark = broken }) (record { items = x ∷ []; mark = still_open })) (run_at (limit_step passes) no_more (g + 1) xs k)).mark
          ≡ cond (cond b true (some_pass passes (g + 1) xs)) broken k
      pick true e = refl
      pick false e = e

  closed_open : (b : Bool) → has_closed (cond b broken still_open) ≡ b
  closed_open true = refl
  closed_open false = refl

  closed_any : (b : ℕ) (t : Flow) (k : Mark) → t.mark ≡ k → has_closed k ≡ true → has_closed (limited passes b t).mark ≡ true
  closed_any b t k o e = ap has_closed (mark_at b t.items t.mark)
      ∙ (ap (λ (m : Mark). has_closed (cond (some_pass passes b t.items) broken m)) o ∙ pick (some_pass passes b t.items))
    where
      pick : (c : Bool) → has_closed (cond c broken k) ≡ true
      pick true = refl
      pick false = e

  open_closed : (b : ℕ) (t : Flow) (c : Bool) → t.mark ≡ still_open → some_pass passes b t.items ≡ c → has_closed (limited passes b t).mark ≡ c
  open_closed b t c o e = ap has_closed (mark_at b t.items t.mark)
      ∙ (ap (λ (k : Mark). has_closed (cond (some_pass passes b t.items) broken k)) o ∙ (closed_open (some_pass passes b t.items) ∙ e))

queue_open : (xs : List Item) → none_closes xs ≡ true → before_all xs nothing ≡ (let r : Flow = record { items = xs; mark = still_open } in r)
queue_open [] e = refl
queue_open (Audio f ∷ xs) e = ap (λ (r : Flow). before (Audio f) r) (queue_open xs e)
queue_open (Video f ∷ xs) e = ap (λ (r : Flow). before (Video f) r) (queue_open xs e)
queue_open (Packet p ∷ xs) e = ap (λ (r : Flow). before (Packet p) r) (queue_open xs e)
queue_open (Trailer t ∷ xs) e = ap (λ (r : Flow). before (Trailer t) r) (queue_open xs e)
queue_open (End ∷ xs) e = cc
queue_open (Broken ∷ xs) e = cc

open_more : (a : After) → is_over a ≡ false → a ≡ More
open_more More e = refl
open_more Whole e = cc
open_more Broke e = cc

module _ (given : StreamHead) (m : Showing) (queue : List Item) (after : After) (none : none_closes queue ≡ true) (more : is_over after ≡ false) where
  abbrev ends_with : Ahead → Flow → Bool
  ends_with a t = has_closed (limited (passes_limits (Frames given)) m.before (rated m.scale (record { picture = m.picture; number = m.number }) (ahead_then a t))).mark

  comes : waiting queue after nothing ≡ (let r : Flow = record { items = queue; mark = still_open } in r)
  comes = ap (λ (a : After). waiting queue a nothing) (open_more after more) ∙ queue_open queue none

  -- where it isn't known how the input ends
  pub fed_open : is_end m.ahead ≡ false → is_cut given m.before (span_of m.scale (span_ahead m) queue) ≡ ends_with m.ahead (waiting queue after nothing)
  fed_open o = sym (ap (λ (t : Flow). ends_with m.ahead t) comes ∙ at m.ahead o)
    where
      at : (a : Ahead) → is_end a ≡ false → ends_with a (record { items = queue; mark = still_open })
          ≡ is_cut given m.before (span_of m.scale (span_then m.scale (span_at m.picture m.number) a) queue)
      at ahead.Unknown e = open_closed given m.before (all_shown given m.scale m.picture m.number queue)
          (is_cut given m.before (span_of m.scale (span_at m.picture m.number) queue))
          (shown_open given m.scale m.picture m.number queue) (all_cut given m.scale m.before m.number m.picture queue)
      at (ahead.Picture f) e = open_closed given m.before (all_shown given m.scale m.picture m.number (Video f ∷ queue))
          (is_cut given m.before (span_of m.scale (span_at m.picture m.number) (Video f ∷ queue)))
          (shown_open given m.scale m.picture m.number (Video f ∷ queue)) (all_cut given m.scale m.before m.number m.picture (Video f ∷ queue))
      at ahead.Whole e = cc
      at ahead.Lost e = cc

  -- where it is
  pub fed_end : is_end m.ahead ≡ true → true ≡ ends_with m.ahead (waiting queue after nothing)
  fed_end e = sym (at m.ahead e)
    where
      at : (a : Ahead) → is_end a ≡ true → ends_with a (waiting queue after nothing) ≡ true
      at ahead.Unknown e = cc
      at (ahead.Picture f) e = cc
      at ahead.Whole e = closed_any given m.before (rated m.scale (record { picture = m.picture; number = m.number }) (one End)) whole refl refl
      at ahead.Lost e = closed_any given m.before (rated m.scale (record { picture = m.picture; number = m.number }) (one Broken)) broken refl refl

-- one item more of those that wait
pub span_more : (s : Scale) (o w : Option Span) (xs : List Item) (i : ℕ) (x : Item) → i < length xs → x ≡ get_or xs i x
    → w ≡ span_of s o (drop i xs) → w ≡ span_of s (span_by s o x) (drop (i + 1) xs)
span_more s o w xs i x lt e h =
    let n : i + 1 ≡ suc i = omega arith in
    let is : drop i xs ≡ x ∷ drop (suc i) xs = drop-cons xs i x lt ∙ ap (λ (y : Item). y ∷ drop (suc i) xs) (sym e) in
    h ∙ (ap (λ (ys : List Item). span_of s o ys) is ∙ ap (λ (j : ℕ). span_of s (span_by s o x) (drop j xs)) (sym n))

none_left : (i : ℕ) (xs : List Item) → length xs ≤ i → drop i xs ≡ []
none_left zero [] le = refl
none_left zero (x ∷ xs) le = absurd (omega (arith, le))
none_left (suc i) [] le = refl
none_left (suc i) (x ∷ xs) le = none_left i xs (omega (arith, le))

pub span_last : (s : Scale) (o w : Option Span) (xs : List Item) (i : ℕ) → length xs ≤ i → w ≡ span_of s o (drop i xs) → o ≡ w
span_last s o w xs i le h = sym (h ∙ ap (λ (ys : List Item). span_of s o ys) (none_left i xs le))
