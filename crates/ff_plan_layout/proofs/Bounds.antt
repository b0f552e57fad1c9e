-- What the limits of a job give.
use Rattle.std.proofs.Common.{◌≡◌, ℕ, suc, ◌+◌, ◌*◌, ◌^◌, ◌<◌, ◌≤◌, Bool, true, false, cond, List, [], ◌∷◌, length, vec_len, refl, ap, arith}
use Rattle.std.specs.List.{AllByRecursion, filter, range_with_len}
use Rattle.std.specs.declared.alloc.Global.{Global}
use Rattle.std.specs.declared.vec.Vec.{Vec}
use Rattle.ff_frame.specs.declared.head.StreamHead.{StreamHead}
use Rattle.ff_words.specs.maps.Choice.{lists, numbered, streams_from}
use Rattle.ff_plan_layout.specs.declared.layout.OutStream.{OutStream}
use Rattle.ff_plan_layout.specs.Layout.{place_from}
use Rattle.ff_plan_layout.specs.laws.Rows.{rows}
use Rattle.ff_plan_layout.specs.laws.Limits.{IsSmall}
use Rattle.ff_plan_layout.proofs.Among.{all_among}
use Rattle.ff_plan_layout.proofs.Sizes.{joined_length, map_length, place_in, range_length}

module _ {A : Type 0} where
  pub all_imply : (P Q : A → Type 0) (xs : List A) → ((x : A) → P x → Q x) → AllByRecursion P xs → AllByRecursion Q xs
  all_imply P Q [] each all = tt
  all_imply P Q (x ∷ xs) each all = (each x all.0, all_imply P Q xs each all.1)

  pub filter_few : (p : A → Bool) (xs : List A) → length (filter p xs) ≤ length xs
  filter_few p [] = omega arith
  filter_few p (x ∷ xs) = step (p x) (filter_few p xs) where
    step : (b : Bool) → length (filter p xs) ≤ length xs → length (cond b (x ∷ filter p xs) (filter p xs)) ≤ suc (length xs)
    step true h = omega (arith, h)
    step false h = omega (arith, h)

-- each input has few streams
pub few_in_lists : (vs : List (Vec StreamHead Global)) → AllByRecursion (λ hs. length hs ≤ 16) (lists vs) → AllByRecursion (λ v. vec_len v ≤ 16) vs
few_in_lists [] all = tt
few_in_lists (v ∷ vs) all = ((let e : v.len ≡ length v.items = v.ok.0 in let h = all.0 in omega (arith, e, h)), few_in_lists vs all.1)

pub below_word : (n : ℕ) → n ≤ 16 → n < 2 ^ 32
below_word n le = omega (arith, le)

pub lists_length : (vs : List (Vec StreamHead Global)) → length (lists vs) ≡ length vs
lists_length vs = map_length (λ (v : Vec StreamHead Global). v.items) vs

numbered_length : (i n : ℕ) (hs : List StreamHead) → length (numbered i n hs) ≡ length hs
numbered_length i n [] = refl
numbered_length i n (h ∷ hs) = ap suc (numbered_length i (n + 1) hs)

pub streams_length : (i : ℕ) (rows : List (List StreamHead)) → AllByRecursion (λ hs. length hs ≤ 16) rows → length (streams_from i rows) ≤ 16 * length rows
streams_length i [] all = omega arith
streams_length i (row ∷ rows) all =
    let j = joined_length (numbered i 0 row) (streams_from (i + 1) rows) in
    let here = numbered_length i 0 row in
    let low = all.0 in
    let rest = streams_length (i + 1) rows all.1 in
    omega (arith, j, here, low, rest)

-- few inputs are used
pub few_inputs : (p : ℕ → Bool) (n : ℕ) → n ≤ 16 → length (filter p (range_with_len 0 n)) ≤ 16
few_inputs p n le = (let kept = filter_few p (range_with_len 0 n) in let most = range_length 0 n in omega (arith, kept, most, le))

pub small_places : (rs : List (List OutStream)) → length (place_from 0 0 rs) ≤ 16 → length rs ≤ 16 → AllByRecursion IsSmall (place_from 0 0 rs)
small_places rs few le = all_among IsSmall (place_from 0 0 rs) (λ p i. (let r = place_in 0 0 rs p i in let n = r.0 in let o = r.1 in (omega (arith, n, few), omega (arith, o, le))))

pub lists_few : (vs : List (Vec StreamHead Global)) → AllByRecursion (λ v. vec_len v ≤ 16) vs → AllByRecursion (λ hs. length hs ≤ 16) (lists vs)
lists_few [] all = tt
lists_few (v ∷ vs) all = ((let e : v.len ≡ length v.items = v.ok.0 in let h = all.0 in omega (arith, e, h)), lists_few vs all.1)
