-- The laws of one stream and then another.
use Rattle.std.specs.Prelude.{◌≡◌, List, ◌++◌, map, refl}
use Rattle.std.proofs.Common.{inl, inr, ap, sym, ◌∙◌, subst, append_assoc}
use Rattle.std.proofs.lemmas.List.{map-append}
use mathlib.Core.List.{IsPrefix}
use Rattle.ff_stream.specs.declared.item.Item.{Item}
use Rattle.ff_stream.specs.Stream.{Mark, still_open, whole, broken, LiesBelow, opened, opened_mark, map_stream}
use Rattle.ff_stream.specs.Ports.{IsClosed}
use Rattle.ff_stream.specs.laws.Order.{prefix_trans}
use Rattle.ff_filter.specs.Joins.{Flow}
use Rattle.ff_concat.specs.Following.{followed_at, followed, led_by}

pub followed_keeps : (xs : List Item) (m : Mark) (s t : Flow) → LiesBelow s t → LiesBelow (followed_at xs m s) (followed_at xs m t)
followed_keeps xs m s t (inl e) = inl (ap (λ (r : Flow). followed_at xs m r) e)
followed_keeps xs still_open s t (inr h) = inl refl
followed_keeps xs whole s t (inr h) = inr (h.0, (h.1.0, append_assoc xs s.items h.1.0 ∙ ap (λ (zs : List Item). xs ++ zs) h.1.1))
followed_keeps xs broken s t (inr h) = inl refl

open_followed : (xs ys : List Item) (n : Mark) (t : Flow) → IsPrefix xs ys
    → LiesBelow (let r : Flow = record { items = xs; mark = still_open } in r) (followed_at ys n t)
open_followed xs ys still_open t p = inr (refl, p)
open_followed xs ys whole t p = inr (refl, prefix_trans xs ys (ys ++ t.items) p (t.items, refl))
open_followed xs ys broken t p = inr (refl, p)

map_prefix : (f : Item → Item) (xs ys : List Item) → IsPrefix xs ys → IsPrefix (map f xs) (map f ys)
map_prefix f xs ys p = (map f p.0, sym (map-append f xs p.0) ∙ ap (λ (zs : List Item). map f zs) p.1)

still : (xs : List Item) (m : Mark) (t : Flow) → m ≡ still_open → followed_at xs m t ≡ record { items = xs; mark = still_open }
still xs m t o = ap (λ (n : Mark). followed_at xs n t) o

-- streams further on, and further on behind them
pub then_keeps : (f : Item → Item) (r s t u : Flow) → LiesBelow r s → LiesBelow t u
    → LiesBelow (followed (map_stream f r) t) (followed (map_stream f s) u)
then_keeps f r s t u (inl e) h = subst (λ (x : Flow). LiesBelow (followed (map_stream f r) t) (followed (map_stream f x) u)) e
    (followed_keeps (map f r.items) r.mark t u h)
then_keeps f r s t u (inr p) h = subst (λ (x : Flow). LiesBelow x (followed (map_stream f s) u)) (sym (still (map f r.items) r.mark t p.0))
    (open_followed (map f r.items) (map f s.items) s.mark u (map_prefix f r.items s.items p.1))

calm_at : (xs : List Item) (m : Mark) (s t : Flow) → LiesBelow (opened s) t
    → LiesBelow (opened (followed_at xs m s)) (followed_at xs (opened_mark m) t)
calm_at xs still_open s t h = inl refl
calm_at xs whole s t h = followed_keeps xs whole (opened s) t h
calm_at xs broken s t h = inl refl

-- whoever isn't told of the breaks gets no less
pub then_calm : (f : Item → Item) (r s t u : Flow) → LiesBelow (opened r) s → LiesBelow (opened t) u
    → LiesBelow (opened (followed (map_stream f r) t)) (followed (map_stream f s) u)
then_calm f r s t u (inl e) h = subst (λ (x : Flow). LiesBelow (opened (followed (map_stream f r) t)) (followed (map_stream f x) u)) e
    (calm_at (map f r.items) r.mark t u h)
then_calm f r s t u (inr p) h = at r.mark p.0
  where
    at : (m : Mark) → opened_mark m ≡ still_open → LiesBelow (opened (followed_at (map f r.items) m t)) (followed (map_stream f s) u)
    at still_open o = open_followed (map f r.items) (map f s.items) s.mark u (map_prefix f r.items s.items p.1)
    at whole o = cc
    at broken o = open_followed (map f r.items) (map f s.items) s.mark u (map_prefix f r.items s.items p.1)

closed_at : (xs : List Item) (m : Mark) (t : Flow) → IsClosed (let r : Flow = record { items = xs; mark = m } in r) → IsClosed t
    → IsClosed (followed_at xs m t)
closed_at xs still_open t c d = absurd (c refl)
closed_at xs whole t c d = d
closed_at xs broken t c d = c

-- where both close, so do they together
pub then_closed : (f : Item → Item) (s t : Flow) → IsClosed s → IsClosed t → IsClosed (followed (map_stream f s) t)
then_closed f s t c d = closed_at (map f s.items) s.mark t c d

pub led_closed : (xs : List Item) (t : Flow) → IsClosed t → IsClosed (led_by xs t)
led_closed xs t c = c

pub led_calm : (xs : List Item) (s t : Flow) → LiesBelow (opened s) t → LiesBelow (opened (led_by xs s)) (led_by xs t)
led_calm xs s t h = followed_keeps xs whole (opened s) t h
