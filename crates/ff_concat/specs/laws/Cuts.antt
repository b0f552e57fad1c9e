-- When an output of segments passes a limit or has closed, exactly.
use Rattle.std.specs.Prelude.{◌≡◌, ℕ, zero, suc, ◌+◌, ◌*◌, Bool, true, false, ◌||◌, ◌&&◌, cond, List, [], ◌∷◌, ◌++◌, map, length, refl}
use Rattle.std.proofs.Common.{ap, sym, ◌∙◌, arith}
use Rattle.std.proofs.lemmas.List.{append-nil}
use Rattle.ff_stream.specs.declared.item.Item.{Item}
use Rattle.ff_stream.specs.Stream.{Mark, still_open, whole, broken, has_closed}
use Rattle.ff_stream.specs.Within.{some_pass}
use Rattle.ff_filter.specs.Joins.{Flow, joined}
use Rattle.ff_filter.specs.Options.{is_video}
use Rattle.ff_filter.specs.laws.Runs.{run_at, no_more}
use Rattle.ff_filter.specs.laws.Limits.{limit_step, limited}
use Rattle.ff_concat.specs.Following.{followed_at}
use Rattle.ff_concat.specs.Silences.{filled}
use Rattle.ff_concat.specs.Tails.{Tail, together, latest}
use Rattle.ff_concat.specs.Concats.{later, begin_in, Output, is_lost, let_through, in_order}
use Rattle.ff_concat.specs.laws.Closing.{closes_at, is_closed}

-- a segment is all given, so that the next one begins
abbrev pub goes_on : Mark → Mark → Bool
goes_on still_open m = false
goes_on broken m = false
goes_on whole still_open = false
goes_on whole broken = false
goes_on whole whole = true

module _ (passes : ℕ → Item → Bool) where
  -- one of these or one of those behind them
  pub some_append : (n : ℕ) (xs ys : List Item) → some_pass passes n (xs ++ ys) ≡ (some_pass passes n xs || some_pass passes (n + length xs) ys)
  some_append n [] ys = ap (λ (k : ℕ). some_pass passes k ys) (let e : n ≡ n + 0 = omega arith in e)
  some_append n (x ∷ xs) ys = pick (passes n x) (some_append (n + 1) xs ys)
    where
      pick : (b : Bool) → some_pass passes (n + 1) (xs ++ ys) ≡ (some_pass passes (n + 1) xs || some_pass passes (n + 1 + length xs) ys)
          → cond b true (some_pass passes (n + 1) (xs ++ ys)) ≡ (cond b true (some_pass passes (n + 1) xs) || some_pass passes (n + suc (length xs)) ys)
      pick true e = refl
      pick false e =
          e ∙ ap (λ (k : ℕ). some_pass passes (n + 1) xs || some_pass passes k ys) (let f : n + 1 + length xs ≡ n + suc (length xs) = omega arith in f)

  limited_at : (n : ℕ) (xs : List Item) (m : Mark) → has_closed (run_at (limit_step passes) no_more n xs m).mark ≡ (some_pass passes n xs || has_closed m)
  limited_at n [] still_open = refl
  limited_at n [] whole = refl
  limited_at n [] broken = refl
  limited_at n (x ∷ xs) m = pick (passes n x) (limited_at (n + 1) xs m)
    where
      pick : (b : Bool) → has_closed (run_at (limit_step passes) no_more (n + 1) xs m).mark ≡ (some_pass passes (n + 1) xs || has_closed m)
          → has_closed (joined (cond b (record { items = []; mark = broken }) (record { items = x ∷ []; mark = still_open }))
          (run_at (limit_step passes) no_more (n + 1) xs m)).mark
          ≡ (cond b true (some_pass passes (n + 1) xs) || has_closed m)
      pick true e = refl
      pick false e = e

  -- a stream within its limits has closed exactly where one passes, or where it has closed itself
  pub limited_closes : (n : ℕ) (s : Flow) → has_closed (limited passes n s).mark ≡ (some_pass passes n s.items || has_closed s.mark)
  limited_closes n s = limited_at n s.items s.mark

pub followed_items : (ys : List Item) (m n : Mark) (lost : Bool) (next : Flow)
    → (followed_at ys m (let_through n lost next)).items ≡ ys ++ cond (goes_on m n) next.items []
followed_items ys still_open n lost next = sym (append-nil ys)
followed_items ys broken n lost next = sym (append-nil ys)
followed_items ys whole still_open true next = refl
followed_items ys whole still_open false next = refl
followed_items ys whole broken lost next = refl
followed_items ys whole whole lost next = refl

followed_closes : (ys : List Item) (m n : Mark) (lost : Bool) (next : Flow)
    → has_closed (followed_at ys m (let_through n lost next)).mark ≡ closes_at m n lost (has_closed next.mark)
followed_closes ys still_open n lost next = refl
followed_closes ys broken n lost next = refl
followed_closes ys whole still_open true next = refl
followed_closes ys whole still_open false next = refl
followed_closes ys whole broken lost next = refl
followed_closes ys whole whole lost next = refl

cond_pass : (passes : ℕ → Item → Bool) (n : ℕ) (b : Bool) (xs : List Item) → some_pass passes n (cond b xs []) ≡ (b && some_pass passes n xs)
cond_pass passes n true xs = refl
cond_pass passes n false xs = refl

module _ (tick_list : List ℕ) (out : Output) where
  -- an output has closed, exactly
  pub in_order-closes : (n k time end : ℕ) (own : ℕ → Flow) (ts : ℕ → Tail)
      → has_closed (in_order tick_list out n k time end own ts).mark ≡ is_closed (length tick_list) (is_video out.head) n k own ts
  in_order-closes zero k time end own ts = refl
  in_order-closes (suc n) k time end own ts =
      let w = length tick_list in
      let p = k * w in
      let c = begin_in out.tick time in
      let lost = is_video out.head && is_lost w n (k + 1) own ts in
      let next = in_order tick_list out n (k + 1) (time + latest tick_list w p ts) (c + (ts (p + out.number)).end) own ts in
      followed_closes (map (later c) (own k).items) (own k).mark (together w p ts) lost next
      ∙ ap (λ (b : Bool). closes_at (own k).mark (together w p ts) lost b)
      (in_order-closes n (k + 1) (time + latest tick_list w p ts) (c + (ts (p + out.number)).end) own ts)

  -- an item passes: one of the zeros before the segment, one of its own, or one of those behind it
  pub in_order-passes : (passes : ℕ → Item → Bool) (i n k time end : ℕ) (own : ℕ → Flow) (ts : ℕ → Tail)
      → some_pass passes i (in_order tick_list out (suc n) k time end own ts).items
      ≡ (some_pass passes i (filled out.head end (begin_in out.tick time))
      || (some_pass passes (i + length (filled out.head end (begin_in out.tick time))) (map (later (begin_in out.tick time)) (own k).items)
      || (goes_on (own k).mark (together (length tick_list) (k * length tick_list) ts)
      && some_pass passes (i + length (filled out.head end (begin_in out.tick time)) + length (map (later (begin_in out.tick time)) (own k).items))
      (in_order tick_list out n (k + 1) (time + latest tick_list (length tick_list) (k * length tick_list) ts)
      (begin_in out.tick time + (ts (k * length tick_list + out.number)).end) own ts).items)))
  in_order-passes passes i n k time end own ts =
      let w = length tick_list in
      let p = k * w in
      let c = begin_in out.tick time in
      let zs = filled out.head end c in
      let ys = map (later c) (own k).items in
      let m = (own k).mark in
      let o = together w p ts in
      let lost = is_video out.head && is_lost w n (k + 1) own ts in
      let next = in_order tick_list out n (k + 1) (time + latest tick_list w p ts) (c + (ts (p + out.number)).end) own ts in
      ap (λ (xs : List Item). some_pass passes i (zs ++ xs)) (followed_items ys m o lost next)
      ∙ (some_append passes i zs (ys ++ cond (goes_on m o) next.items [])
      ∙ (ap (λ (b : Bool). some_pass passes i zs || b) (some_append passes (i + length zs) ys (cond (goes_on m o) next.items []))
      ∙ ap (λ (b : Bool). some_pass passes i zs || (some_pass passes (i + length zs) ys || b)) (cond_pass passes (i + length zs + length ys) (goes_on m o) next.items)))
