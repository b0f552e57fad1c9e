-- A function of one stream that goes by its items, and by whether it is whole, keeps the broken rule.
use Rattle.std.proofs.Common.{◌≡◌, zero, suc, inl, inr, Bool, true, false, cond, List, [], ◌∷◌, refl, ap, sym, ◌∙◌, subst}
use Rattle.std.specs.Prelude.{◌↔◌}
use mathlib.Core.List.{IsPrefix}
use Rattle.ff_stream.specs.declared.item.Item.{Item}
use Rattle.ff_stream.specs.declared.item.Lane.{Lane}
use Rattle.ff_stream.specs.Stream.{Mark, still_open, whole, broken, opened_mark}
use Rattle.ff_stream.specs.Ports.{stream_at, AllBelow}
use Rattle.ff_stream.specs.laws.Order.{prefix_self, closed_below, stream_at-opened}
use Rattle.ff_stream.specs.Lanes.{IsValid}
use Rattle.ff_stream.specs.laws.Breaks.{IsBrokenOff, KeepsBrokenRule}
use Rattle.ff_filter.specs.Joins.{Flow}

-- the items go by the mark and the items; it is whole where the items say so, or where the stream is
abbrev pub one_by : (Mark → List Item → List Item) → (List Item → Bool) → Flow → Flow
one_by g c s = record { items = g s.mark s.items; mark = cond (c s.items) whole s.mark }

whole_opened : (b : Bool) (m : Mark) → (cond b whole m ≡ whole) ↔ (cond b whole (opened_mark m) ≡ whole)
whole_opened true m = (λ e. refl, λ e. refl)
whole_opened false still_open = (λ e. cc, λ e. cc)
whole_opened false whole = (λ e. refl, λ e. refl)
whole_opened false broken = (λ e. cc, λ e. cc)

both_broken : (b : Bool) (m : Mark) → cond b whole m ≡ broken → (m ≡ broken) × (b ≡ false)
both_broken true m e = cc
both_broken false m e = (e, refl)

-- the streams, with the first one whole where it stands
closed_first : Flow → List Flow → List Flow
closed_first s [] = record { items = s.items; mark = whole } ∷ []
closed_first s (r ∷ ss) = record { items = s.items; mark = whole } ∷ ss

first_closed : (s : Flow) (ss : List Flow) → stream_at (closed_first s ss) 0 ≡ record { items = s.items; mark = whole }
unfolding closed_first
first_closed s [] = refl
first_closed s (r ∷ ss) = refl

closed_above : (s : Flow) (ss : List Flow) → s ≡ stream_at ss 0 → s.mark ≡ still_open → AllBelow ss (closed_first s ss)
unfolding closed_first
closed_above s [] e o zero = inr (refl, (s.items, refl))
closed_above s [] e o (suc p) = inl refl
closed_above s (r ∷ ss) e o zero = inr (ap (λ (x : Flow). x.mark) (sym e) ∙ o, subst (λ (xs : List Item). IsPrefix r.items xs) (ap (λ (x : Flow). x.items) (sym e)) (prefix_self r.items))
closed_above s (r ∷ ss) e o (suc p) = inl refl

module _ (g : Mark → List Item → List Item) (c : List Item → Bool) (blind : (m : Mark) (xs : List Item) → g m xs ≡ g (opened_mark m) xs) (M : Flow → Type 0) (ends : (s : Flow) → M s → M (record { items = s.items; mark = whole })) where
  said : (ss : List Flow) (m : Mark) → (stream_at ss 0).mark ≡ m → M (stream_at ss 0) → IsBrokenOff (λ (rs : List Flow). M (stream_at rs 0)) (λ (rs : List Flow). one_by g c (stream_at rs 0)) ss → cond (c (stream_at ss 0).items) whole (stream_at ss 0).mark ≡ broken
  said ss whole e v b = absurd (b.not_whole (ap (λ (m : Mark). cond (c (stream_at ss 0).items) whole m) e ∙ either (c (stream_at ss 0).items)))
    where
      either : (t : Bool) → cond t whole whole ≡ whole
      either true = refl
      either false = refl
  said ss broken e v b = at (c (stream_at ss 0).items) refl
    where
      at : (t : Bool) → c (stream_at ss 0).items ≡ t → cond (c (stream_at ss 0).items) whole (stream_at ss 0).mark ≡ broken
      at true k = absurd (b.not_whole (ap (λ (t : Bool). cond t whole (stream_at ss 0).mark) k))
      at false k = ap (λ (t : Bool). cond t whole (stream_at ss 0).mark) k ∙ e
  said ss still_open e v b =
      let s : Flow = stream_at ss 0 in
      let first = first_closed s ss in
      let n = b.no_further (closed_first s ss) (subst (λ (t : Flow). M t) (sym first) (ends s v)) (closed_above s ss refl e) in
      absurd (n.1 (ap (λ (t : Flow). cond (c t.items) whole t.mark) first ∙ either (c s.items)))
    where
      either : (t : Bool) → cond t whole whole ≡ whole
      either true = refl
      either false = refl

  pub one_keeps_rule : KeepsBrokenRule (λ (ss : List Flow). M (stream_at ss 0)) (λ (ss : List Flow). one_by g c (stream_at ss 0))
  one_keeps_rule = record {
    items = λ ss m. blind (stream_at ss 0).mark (stream_at ss 0).items ∙ ap (λ (s : Flow). g s.mark s.items) (sym (stream_at-opened ss 0));
    wholeness = λ ss m. let h = whole_opened (c (stream_at ss 0).items) (stream_at ss 0).mark in let same = ap (λ (s : Flow). cond (c s.items) whole s.mark) (stream_at-opened ss 0) in (
      λ e. same ∙ h.0 e,
      λ e. h.1 (sym same ∙ e),
    );
    breaks = λ ss m. (
      λ e. let h = both_broken (c (stream_at ss 0).items) (stream_at ss 0).mark e in record {
        input = (0, h.0);
        not_whole = λ w. let clash : broken ≡ whole = sym e ∙ w in cc;
        no_further = λ ts n above.
            let same : stream_at ss 0 ≡ stream_at ts 0 = closed_below (stream_at ss 0) (stream_at ts 0) (above 0) (λ o. let clash : broken ≡ still_open = sym h.0 ∙ o in cc) in
            (ap (λ (s : Flow). g s.mark s.items) (sym same), λ w. let clash : broken ≡ whole = sym e ∙ (ap (λ (s : Flow). cond (c s.items) whole s.mark) same ∙ w) in cc);
      },
      λ b. said ss (stream_at ss 0).mark refl m b,
    );
  }

-- a valid stream that ends where it stands is valid
pub valid_ended : (lane : Lane) (s : Flow) → IsValid lane s → IsValid lane (record { items = s.items; mark = whole })
valid_ended lane s v = record { shape = v.shape; few = v.few; in_time = v.in_time }
