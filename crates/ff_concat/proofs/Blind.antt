-- Whoever isn't told of the breaks, and which input an output breaks with.
use Rattle.std.proofs.Common.{◌≡◌, ◌≢◌, ◌⊎◌, ℕ, zero, suc, ◌+◌, ◌*◌, ◌<◌, max, Bool, true, false, List, [], ◌∷◌, map, length, refl}
use Rattle.std.proofs.Common.{inl, inr, ap, sym, ◌∙◌, subst}
use Rattle.std.specs.Prelude.{◌&&◌, slice_index}
use Rattle.std.proofs.lemmas.Bool.{and_parts}
use Rattle.ff_stream.specs.declared.item.Item.{Item}
use Rattle.ff_stream.specs.Stream.{Mark, still_open, whole, broken, opened, opened_mark}
use Rattle.ff_filter.specs.Joins.{Flow, Ports}
use Rattle.ff_filter.specs.Options.{is_video}
use Rattle.ff_concat.specs.Following.{followed_at, led_by}
use Rattle.ff_concat.specs.Silences.{filled}
use Rattle.ff_concat.specs.Tails.{Tail, tail_of, both, together, latest}
use Rattle.ff_concat.specs.Concats.{later, begin_in, Output, is_lost_at, is_lost, let_through, in_order}
use Rattle.ff_concat.proofs.Unbroken.{not_lost}

-- ---- whoever isn't told of the breaks

abbrev pub blind : Ports → Ports
blind ss p = opened (ss p)

abbrev pub tails_of : Ports → ℕ → Tail
tails_of ss p = tail_of (ss p)

opened_both : (m n : Mark) → both (opened_mark m) (opened_mark n) ≡ opened_mark (both m n)
opened_both still_open still_open = refl
opened_both still_open whole = refl
opened_both still_open broken = refl
opened_both whole n = refl
opened_both broken still_open = refl
opened_both broken whole = refl
opened_both broken broken = refl

opened_together : (w p : ℕ) (ss : Ports) → together w p (tails_of (blind ss)) ≡ opened_mark (together w p (tails_of ss))
opened_together zero p ss = refl
opened_together (suc w) p ss =
    ap (λ (m : Mark). both m (opened_mark (ss (p + w)).mark)) (opened_together w p ss) ∙ opened_both (together w p (tails_of ss)) (ss (p + w)).mark

opened_latest : (tick_list : List ℕ) (w p : ℕ) (ss : Ports) → latest tick_list w p (tails_of (blind ss)) ≡ latest tick_list w p (tails_of ss)
opened_latest tick_list zero p ss = refl
opened_latest tick_list (suc w) p ss = ap (λ (n : ℕ). max n ((tail_of (ss (p + w))).end * slice_index tick_list w)) (opened_latest tick_list w p ss)

calm_mark : (m : Mark) → opened_mark m ≢ broken
calm_mark still_open e = cc
calm_mark whole e = cc
calm_mark broken e = cc

opened_through : (m n : Mark) (v lost blind_lost : Bool) (next blind_next : Flow) → n ≡ opened_mark m → blind_lost ≡ false → blind_next ≡ opened next
    → let_through n (v && blind_lost) blind_next ≡ opened (let_through m (v && lost) next)
opened_through m n v lost b next t is calm same =
    subst (λ (k : Mark). let_through k (v && b) t ≡ opened (let_through m (v && lost) next)) (sym is)
    (subst (λ (c : Bool). let_through (opened_mark m) (v && c) t ≡ opened (let_through m (v && lost) next)) (sym calm) (at m v lost))
  where
    at : (m : Mark) (v lost : Bool) → let_through (opened_mark m) (v && false) t ≡ opened (let_through m (v && lost) next)
    at whole v lost = same
    at broken true lost = refl
    at broken false lost = refl
    at still_open true true = refl
    at still_open true false = refl
    at still_open false lost = refl

opened_followed : (zs xs : List Item) (m : Mark) (t u : Flow) → u ≡ opened t
    → led_by zs (followed_at xs (opened_mark m) u) ≡ opened (led_by zs (followed_at xs m t))
opened_followed zs xs still_open t u e = refl
opened_followed zs xs whole t u e = ap (λ (r : Flow). led_by zs (followed_at xs whole r)) e
opened_followed zs xs broken t u e = refl

broken_both : (m n : Mark) → both m n ≡ broken → (m ≡ broken) ⊎ (n ≡ broken)
broken_both still_open still_open e = cc
broken_both still_open whole e = cc
broken_both still_open broken e = inr refl
broken_both whole n e = inr e
broken_both broken n e = inl refl

-- a stream of a segment that is broken
broken_stream : (w p : ℕ) (ss : Ports) → together w p (tails_of ss) ≡ broken → (j : ℕ) × ((ss j).mark ≡ broken)
broken_stream zero p ss e = cc
broken_stream (suc w) p ss e = elim (broken_both (together w p (tails_of ss)) (ss (p + w)).mark e) as (λ _. (j : ℕ) × ((ss j).mark ≡ broken)) [
  | inl h ↦ broken_stream w p ss h
  | inr h ↦ (p + w, h)
]

module _ (tick_list : List ℕ) (out : Output) (there : out.number < length tick_list) where
  abbrev pub own_of : Ports → ℕ → Flow
  own_of ss k = ss (k * length tick_list + out.number)

  abbrev pub rest_of : ℕ → ℕ → ℕ → ℕ → Ports → Flow
  rest_of n k time end ss = in_order tick_list out n k time end (own_of ss) (tails_of ss)

  -- whoever isn't told of the breaks gets the same items, and what is whole
  pub rest_blind : (n k time end : ℕ) (ss : Ports) → rest_of n k time end (blind ss) ≡ opened (rest_of n k time end ss)
  rest_blind zero k time end ss = refl
  rest_blind (suc n) k time end ss =
      let w = length tick_list in
      let p = k * w in
      let c = begin_in out.tick time in
      let long = opened_latest tick_list w p ss in
      let next = rest_of n (k + 1) (time + latest tick_list w p (tails_of ss)) (c + (tails_of ss (p + out.number)).end) in
      let same : rest_of n (k + 1) (time + latest tick_list w p (tails_of (blind ss))) (c + (tails_of ss (p + out.number)).end) (blind ss) ≡ opened (next ss) =
      ap (λ (l : ℕ). rest_of n (k + 1) (time + l) (c + (tails_of ss (p + out.number)).end) (blind ss)) long
      ∙ rest_blind n (k + 1) (time + latest tick_list w p (tails_of ss)) (c + (tails_of ss (p + out.number)).end) ss in
      opened_followed (filled out.head end c) (map (later c) (own_of ss k).items) (own_of ss k).mark
      (let_through (together w p (tails_of ss)) (is_video out.head && is_lost w n (k + 1) (own_of ss) (tails_of ss)) (next ss))
      (let_through (together w p (tails_of (blind ss))) (is_video out.head && is_lost w n (k + 1) (own_of (blind ss)) (tails_of (blind ss)))
      (rest_of n (k + 1) (time + latest tick_list w p (tails_of (blind ss))) (c + (tails_of ss (p + out.number)).end) (blind ss)))
      (opened_through (together w p (tails_of ss)) (together w p (tails_of (blind ss))) (is_video out.head)
      (is_lost w n (k + 1) (own_of ss) (tails_of ss)) (is_lost w n (k + 1) (own_of (blind ss)) (tails_of (blind ss))) (next ss) _
      (opened_together w p ss)
      (not_lost w n (k + 1) (own_of (blind ss)) (tails_of (blind ss)) (λ j. calm_mark (own_of ss j).mark) (λ j. calm_mark (ss j).mark))
      same)

  -- ---- what is broken

  abbrev pub Where : Ports → Type 0
  Where ss = (j : ℕ) × ((ss j).mark ≡ broken)

  lost_stream : (n k : ℕ) (ss : Ports) → is_lost (length tick_list) n k (own_of ss) (tails_of ss) ≡ true → Where ss
  lost_stream zero k ss e = cc
  lost_stream (suc n) k ss e =
      let w = length tick_list in
      at (own_of ss k).items (own_of ss k).mark (together w (k * w) (tails_of ss)) refl refl (λ h. lost_stream n (k + 1) ss h) e
    where
      at : (xs : List Item) (m t : Mark) → (own_of ss k).mark ≡ m → together (length tick_list) (k * length tick_list) (tails_of ss) ≡ t
          → (is_lost (length tick_list) n (k + 1) (own_of ss) (tails_of ss) ≡ true → Where ss)
          → is_lost_at xs m t (is_lost (length tick_list) n (k + 1) (own_of ss) (tails_of ss)) ≡ true → Where ss
      at (x ∷ xs) m t a b more h = cc
      at [] still_open t a b more h = cc
      at [] broken t a b more h = (k * length tick_list + out.number, a)
      at [] whole broken a b more h = broken_stream (length tick_list) (k * length tick_list) ss b
      at [] whole still_open a b more h = more h
      at [] whole whole a b more h = more h

  -- where an output broke off, some input did
  pub broken_input : (n k time end : ℕ) (ss : Ports) → (rest_of n k time end ss).mark ≡ broken → Where ss
  broken_input zero k time end ss e = cc
  broken_input (suc n) k time end ss e =
      let w = length tick_list in
      let p = k * w in
      let c = begin_in out.tick time in
      at (own_of ss k).mark (together w p (tails_of ss)) (is_video out.head) refl refl
      (λ h. broken_input n (k + 1) (time + latest tick_list w p (tails_of ss)) (c + (tails_of ss (p + out.number)).end) ss h)
      (λ h. lost_stream n (k + 1) ss h) e
    where
      through : (t : Mark) (b : Bool) (next : Flow) → together (length tick_list) (k * length tick_list) (tails_of ss) ≡ t
          → (next.mark ≡ broken → Where ss) → (b ≡ true → Where ss) → (let_through t b next).mark ≡ broken → Where ss
      through whole b next e more lost h = more h
      through broken b next e more lost h = broken_stream (length tick_list) (k * length tick_list) ss e
      through still_open true next e more lost h = lost refl
      through still_open false next e more lost h = cc

      at : (m t : Mark) (v : Bool) → (own_of ss k).mark ≡ m → together (length tick_list) (k * length tick_list) (tails_of ss) ≡ t
          → ((rest_of n (k + 1) (time + latest tick_list (length tick_list) (k * length tick_list) (tails_of ss))
          (begin_in out.tick time + (tails_of ss (k * length tick_list + out.number)).end) ss).mark ≡ broken → Where ss)
          → (is_lost (length tick_list) n (k + 1) (own_of ss) (tails_of ss) ≡ true → Where ss)
          → (followed_at (map (later (begin_in out.tick time)) (own_of ss k).items) m
          (let_through t (v && is_lost (length tick_list) n (k + 1) (own_of ss) (tails_of ss))
          (rest_of n (k + 1) (time + latest tick_list (length tick_list) (k * length tick_list) (tails_of ss))
          (begin_in out.tick time + (tails_of ss (k * length tick_list + out.number)).end) ss))).mark ≡ broken → Where ss
      at still_open t v a b more lost h = cc
      at broken t v a b more lost h = (k * length tick_list + out.number, a)
      at whole t v a b more lost h =
          through t (v && is_lost (length tick_list) n (k + 1) (own_of ss) (tails_of ss)) _ b more
          (λ g. lost (and_parts v (is_lost (length tick_list) n (k + 1) (own_of ss) (tails_of ss)) g).1) h
