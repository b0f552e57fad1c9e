-- One filter behind its limits.
use Rattle.std.proofs.Common.{◌≡◌, ℕ, zero, suc, ◌<◌, ◌≤◌, ◌⊎◌, inl, inr, Bool, true, false, cond, nat_lt, List, [], ◌∷◌, length, replicate, Some, None, refl, ap, sym, ◌∙◌, subst, arith}
use Rattle.std.proofs.lemmas.Bool.Decides.{nat_tests}
use Rattle.std.proofs.lemmas.List.{length-replicate}
use Rattle.ff_frame.specs.declared.head.StreamHead.{StreamHead}
use Rattle.ff_stream.specs.declared.item.Item.{Item}
use Rattle.ff_stream.specs.declared.item.Item.TheVariants.{End}
use Rattle.ff_stream.specs.declared.item.Lane.{Lane}
use Rattle.ff_stream.specs.declared.item.Lane.TheVariants.{Frames}
use Rattle.ff_stream.specs.Stream.{LiesBelow, opened, map_stream}
use Rattle.ff_stream.specs.Ports.{nothing, stream_at}
use Rattle.ff_stream.specs.laws.Order.{below_self}
use Rattle.ff_stream.specs.laws.BreakLaws.{map_stream_monotone}
use Rattle.ff_stream.specs.Lanes.{IsValid}
use Rattle.ff_stream.specs.laws.LaneLaws.{nothing_valid}
use Rattle.ff_stream.specs.Within.{some_pass, passes_limits, within}
use Rattle.ff_net.specs.Ways.{lane_at, IsValidOn, AreValid}
use Rattle.ff_filter.specs.declared.after.After.TheVariants.{More, Whole}
use Rattle.ff_filter.specs.Joins.{Flow, Ports, one}
use Rattle.ff_filter.specs.laws.Limits.{limited, limited_is}
use Rattle.ff_filter.specs.Singles.{single_view}
use Rattle.ff_filter.specs.laws.Sound.{IsSound}
use Rattle.ff_filter.specs.spread.Spreads.{spread_start}
use Rattle.ff_filter.specs.laws.spread.Valid.{GivesValid}
use Rattle.ff_node_filter.specs.Tasks.{ported}
use Rattle.ff_node_filter.specs.laws.StandLaws.{stream_at-listed, stream_at-beyond}
use Rattle.ff_node_filter.specs.Limiting.{IsLimited, step_limited}

pub single_limited : (lane_in : Lane) (head : StreamHead) (f : Flow → Flow)
    → ((r s : Flow) → LiesBelow r s → LiesBelow (f r) (f s)) → ((r : Flow) → LiesBelow (opened (f r)) (f (opened r))) → IsSound lane_in (Frames head) f
    → IsLimited (lane_in ∷ []) (Frames head ∷ []) (single_view lane_in head f More).rest (λ (ss : List Flow). some_pass (passes_limits (Frames head)) 0 (f (stream_at ss 0)).items)
single_limited lane_in head f below calm sound =
    let cuts : List Flow → Bool = λ ss. some_pass (passes_limits (Frames head)) 0 (f (stream_at ss 0)).items in
    let same : ◌≡◌ {A = Ports → Ports} (λ ss q. limited (passes_limits (Frames head)) 0 (f (ss 0))) (λ ss q. within (passes_limits (Frames head)) (f (ss 0))) = λ i ss q. limited_is (passes_limits (Frames head)) (f (ss 0)) i in
    subst (λ (g : Ports → Ports). IsLimited (lane_in ∷ []) (Frames head ∷ []) g cuts) same (step_limited lane_in (Frames head) f below calm sound.shape sound.unbroken)

pub ended_limited : (lane_in : Lane) (head : StreamHead) (f : Flow → Flow) → IsLimited (lane_in ∷ []) (Frames head ∷ []) (single_view lane_in head f Whole).rest (λ (ss : List Flow). false)
ended_limited lane_in head f = record {
  grows = λ rs ss b q. below_self (one End);
  hides = λ rs q. below_self (one End);
  keeps = λ ss v. keeps_end;
  stays = λ rs ss vr vs b e. e;
  breaks = λ ss q lt v u e. cc;
}
  where
    keeps_end : (p : ℕ) → IsValidOn (lane_at (Frames head ∷ []) p) (stream_at (one End ∷ []) p)
    keeps_end zero = record { shape = (nothing_valid (Frames head)).shape; few = (nothing_valid (Frames head)).few; in_time = (nothing_valid (Frames head)).in_time }
    keeps_end (suc p) = refl

below_or : (p n : ℕ) → (p < n) ⊎ (n ≤ p)
below_or p zero = inr (omega arith)
below_or zero (suc n) = inl (omega arith)
below_or (suc p) (suc n) = elim (below_or p n) as (λ _. (suc p < suc n) ⊎ (suc n ≤ suc p)) [ inl a ↦ inl (omega (arith, a)) | inr b ↦ inr (omega (arith, b)) ]

lane_there : (n q : ℕ) (l : Lane) → q < n → lane_at (replicate n l) q ≡ Some l
lane_there zero q l lt = absurd (omega arith)
lane_there (suc n) zero l lt = refl
lane_there (suc n) (suc q) l lt = lane_there n q l (omega arith)

lane_beyond : (n q : ℕ) (l : Lane) → n ≤ q → lane_at (replicate n l) q ≡ None
lane_beyond zero q l le = refl
lane_beyond (suc n) zero l le = absurd (omega arith)
lane_beyond (suc n) (suc q) l le = lane_beyond n q l (omega arith)

keeps_if : (b : Bool) (r s : Flow) → LiesBelow r s → LiesBelow (cond b r nothing) (cond b s nothing)
keeps_if true r s h = h
keeps_if false r s h = below_self nothing

calm_if : (b : Bool) (r s : Flow) → LiesBelow (opened r) s → LiesBelow (opened (cond b r nothing)) (cond b s nothing)
calm_if true r s h = h
calm_if false r s h = below_self nothing

module _ (lane_in lane_out : Lane) (n : ℕ) (shared : ℕ → Item → Item) (v : (q : ℕ) → q < n → GivesValid lane_in lane_out (λ s. map_stream (shared q) s)) where
  size : length (replicate n lane_out) ≡ n
  size = simp length-replicate

  there : (q : ℕ) → q < n → nat_lt q (length (replicate n lane_out)) ≡ true
  there q lt = ap (λ (k : ℕ). nat_lt q k) size ∙ yes q n lt
    where
      yes : (a b : ℕ) → a < b → nat_lt a b ≡ true
      yes a b l = grind (arith, nat_tests)

  on : (ss : Ports) (q : ℕ) → q < n → (spread_start lane_in (replicate n lane_out) shared).rest ss q ≡ map_stream (shared q) (ss 0)
  on ss q lt = ap (λ (b : Bool). cond b (map_stream (shared q) (ss 0)) nothing) (there q lt)

  keeps_at : (ss : List Flow) → AreValid (lane_in ∷ []) ss → (q : ℕ) → IsValidOn (lane_at (replicate n lane_out) q) (stream_at (ported (length (replicate n lane_out)) (spread_start lane_in (replicate n lane_out) shared).rest ss) q)
  keeps_at ss h q = elim (below_or q n) as (λ _. IsValidOn (lane_at (replicate n lane_out) q) (stream_at (ported (length (replicate n lane_out)) (spread_start lane_in (replicate n lane_out) shared).rest ss) q)) [
    | inl lt ↦ rw (lane_there n q lane_out lt) (subst (λ (t : Flow). IsValid lane_out t)
        (sym (stream_at-listed (length (replicate n lane_out)) ((spread_start lane_in (replicate n lane_out) shared).rest (stream_at ss)) q (omega (arith, lt, size)) ∙ on (stream_at ss) q lt)) ((v q lt).valid (stream_at ss 0) (h 0)))
    | inr le ↦ rw (lane_beyond n q lane_out le) (stream_at-beyond (length (replicate n lane_out)) ((spread_start lane_in (replicate n lane_out) shared).rest (stream_at ss)) q (omega (arith, le, size)))
  ]

  pub spread_limited : IsLimited (lane_in ∷ []) (replicate n lane_out) (spread_start lane_in (replicate n lane_out) shared).rest (λ (ss : List Flow). false)
  spread_limited = record {
    grows = λ rs ss b q. keeps_if (nat_lt q (length (replicate n lane_out))) (map_stream (shared q) (rs 0)) (map_stream (shared q) (ss 0)) (map_stream_monotone (shared q) (rs 0) (ss 0) (b 0));
    hides = λ rs q. calm_if (nat_lt q (length (replicate n lane_out))) (map_stream (shared q) (rs 0)) (map_stream (shared q) (opened (rs 0))) (below_self (map_stream (shared q) (opened (rs 0))));
    keeps = λ ss h. keeps_at ss h;
    stays = λ rs ss vr vs b e. e;
    breaks = λ ss q lt h u e.
        let less : q < n = omega (arith, lt, size) in
        absurd ((v q less).unbroken (stream_at ss 0) (h 0) (u 0) (sym (ap (λ (t : Flow). t.mark) (on (stream_at ss) q less)) ∙ e));
  }
