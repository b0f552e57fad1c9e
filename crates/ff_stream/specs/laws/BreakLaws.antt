-- What the broken rule gives, and that a function of each item keeps it.
use Rattle.std.specs.Prelude.{◌≡◌, ◌↔◌, ℕ, zero, suc, List, [], ◌∷◌, map, refl}
use Rattle.std.proofs.Common.{inl, inr, ap, sym, ◌∙◌, subst}
use Rattle.std.proofs.lemmas.List.{map-append}
use mathlib.Core.List.{IsPrefix}
use Rattle.ff_stream.specs.Stream.{Stream, Mark, still_open, whole, broken, LiesBelow, opened, opened_mark, map_stream}
use Rattle.ff_stream.specs.Ports.{stream_at, AllBelow}
use Rattle.ff_stream.specs.laws.Order.{prefix_self, same_stream, closed_below, stream_at-opened}
use Rattle.ff_stream.specs.laws.Breaks.{IsBrokenOff, KeepsBrokenRule}

open_or_whole : {B : Type 0} (s t : Stream B) (m : Mark) → s.mark ≡ m → s.items ≡ t.items → (s.mark ≡ whole → t.mark ≡ whole) → LiesBelow (opened s) t
open_or_whole s t still_open e i w = inr (ap opened_mark e, subst (λ xs. IsPrefix s.items xs) i (prefix_self s.items))
open_or_whole s t broken e i w = inr (ap opened_mark e, subst (λ xs. IsPrefix s.items xs) i (prefix_self s.items))
open_or_whole s t whole e i w =
    inl (same_stream (opened s) t i (ap opened_mark e ∙ sym (w e)))

-- whoever isn't told of the breaks in the inputs gets no less
pub broken_rule_calm : {A B : Type 0} (meant : List (Stream A) → Type 0) (f : List (Stream A) → Stream B) → KeepsBrokenRule meant f → (ss : List (Stream A)) → meant ss → LiesBelow (opened (f ss)) (f (map opened ss))
broken_rule_calm meant f k ss m = open_or_whole (f ss) (f (map opened ss)) (f ss).mark refl (k.items ss m) (k.wholeness ss m).0

pub map_stream_monotone : {A B : Type 0} (g : A → B) (r s : Stream A) → LiesBelow r s → LiesBelow (map_stream g r) (map_stream g s)
map_stream_monotone g r s (inl e) = inl (ap (λ x. map_stream g x) e)
map_stream_monotone g r s (inr p) = inr (p.0, (map g p.1.0, sym (map-append g r.items p.1.0) ∙ ap (λ xs. map g xs) p.1.1))

opened_whole : (m : Mark) → (m ≡ whole) ↔ (opened_mark m ≡ whole)
opened_whole still_open = (λ e. cc, λ e. cc)
opened_whole whole = (λ e. refl, λ e. refl)
opened_whole broken = (λ e. cc, λ e. cc)

-- the streams, with the first one whole where it stands
ended : {A : Type 0} → Stream A → List (Stream A) → List (Stream A)
ended s [] = record { items = s.items; mark = whole } ∷ []
ended s (r ∷ ss) = record { items = s.items; mark = whole } ∷ ss

ended_above : {A : Type 0} (s : Stream A) (ss : List (Stream A)) → s ≡ stream_at ss 0 → s.mark ≡ still_open → AllBelow ss (ended s ss) × ((stream_at (ended s ss) 0).mark ≡ whole)
unfolding ended
ended_above s [] e o = (λ p. at p, refl)
  where
    at : (p : ℕ) → LiesBelow (stream_at [] p) (stream_at (record { items = s.items; mark = whole } ∷ []) p)
    at zero = inr (refl, (s.items, refl))
    at (suc p) = inl refl
ended_above s (r ∷ ss) e o = (λ p. at p, refl)
  where
    at : (p : ℕ) → LiesBelow (stream_at (r ∷ ss) p) (stream_at (record { items = s.items; mark = whole } ∷ ss) p)
    at zero = inr (ap (λ x. x.mark) (sym e) ∙ o, subst (λ xs. IsPrefix r.items xs) (ap (λ x. x.items) (sym e)) (prefix_self r.items))
    at (suc p) = inl refl

-- a function of each item of one stream keeps the rule
pub map_keeps_broken_rule : {A B : Type 0} (g : A → B) → KeepsBrokenRule (λ (ss : List (Stream A)). Unit {0}) (λ ss. map_stream g (stream_at ss 0))
map_keeps_broken_rule {A} {B} g = record {
  items = λ ss m. ap (λ (s : Stream A). map g s.items) (sym (stream_at-opened ss 0));
  wholeness = λ ss m. (
    λ e. ap (λ (s : Stream A). s.mark) (stream_at-opened ss 0) ∙ (opened_whole (stream_at ss 0).mark).0 e,
    λ e. (opened_whole (stream_at ss 0).mark).1 (ap (λ (s : Stream A). s.mark) (sym (stream_at-opened ss 0)) ∙ e),
  );
  breaks = λ ss m. (
    λ e. record {
      input = (0, e);
      not_whole = λ w. cc;
      no_further = λ ts n above.
          let same : stream_at ss 0 ≡ stream_at ts 0 = closed_below (stream_at ss 0) (stream_at ts 0) (above 0) (λ o. cc) in
          (ap (λ (s : Stream A). map g s.items) (sym same), λ w. let mark : (stream_at ss 0).mark ≡ (stream_at ts 0).mark = ap (λ (s : Stream A). s.mark) same in cc);
    },
    λ b. neither ss (stream_at ss 0).mark refl b,
  );
}
  where
    neither : (ss : List (Stream A)) (m : Mark) → (stream_at ss 0).mark ≡ m → IsBrokenOff (λ (rs : List (Stream A)). Unit {0}) (λ rs. map_stream g (stream_at rs 0)) ss → (stream_at ss 0).mark ≡ broken
    neither ss whole e b = absurd (b.not_whole e)
    neither ss broken e b = e
    neither ss still_open e b = let a = ended_above (stream_at ss 0) ss refl e in absurd ((b.no_further (ended (stream_at ss 0) ss) tt a.0).1 a.1)
