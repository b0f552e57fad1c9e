-- The filters of a graph say of their inputs what the rule for all of them says.
use Rattle.std.proofs.Common.{◌≡◌, ◌⊎◌, inl, inr, ℕ, zero, suc, ◌+◌, ◌≤◌, ◌<◌, ◌||◌, Bool, true, false, List, [], ◌∷◌, length, Option, Some}
use Rattle.std.proofs.Common.{slice_get, refl, ap, sym, ◌∙◌, subst, arith}
use Rattle.ff_stream.specs.Ports.{IsClosed}
use Rattle.ff_filter.specs.Joins.{silence}
use Rattle.ff_filter.specs.laws.Held.{held_closes}
use Rattle.ff_filter.specs.Views.{View, IsSpent, AllDone}
use Rattle.ff_graph_dag.specs.declared.graph.Port.{Port}
use Rattle.ff_graph_dag.specs.declared.graph.Plan.{Plan}
use Rattle.ff_graph_dag.specs.declared.placed.Placed.{Placed}
use Rattle.ff_graph_dag.specs.laws.Dags.{Spot, spot_of, held_at}
use Rattle.ff_graph_dag.specs.laws.Graphs.{spots, spot_at, wire_at, feed_at, port_shut, port_ended, port_stopped, InThere, Sound}
use Rattle.ff_graph_dag.specs.laws.Readings.{feed_is, left_true, right_true, spots_size}
use Rattle.ff_graph_dag.specs.laws.Spends.{spends_at, port_spent, feed_spent, port_done, Swept, leads_to_spent, CountsAsStopped, IsClosedBy, IsSpentThere}
use Rattle.ff_graph_dag.specs.laws.Spends.{SaysSpent, AllGaveAll}
use Rattle.ff_graph_dag.proofs.Moving.{to_there}

-- the filter in its place
place_at : {F : Type 0} (view : F → View) (ps : List (Placed F)) (k : ℕ) → k < length ps → (m : Placed F) × (slice_get ps k ≡ Some m) × (spot_at (spots view ps) k ≡ spot_of view m)
place_at view [] k lt = absurd (omega arith)
place_at view (p ∷ ps) zero lt = (p, refl, refl)
place_at view (p ∷ ps) (suc k) lt = place_at view ps k (omega arith)

both_of : (a b : Bool) → (a || b) ≡ true → (a ≡ true) ⊎ (b ≡ true)
both_of true b e = inl refl
both_of false b e = inr e

module _ {F : Type 0} (view : F → View) (spends : F → ℕ → Bool)
    (only : (m : F) (i : ℕ) → i < length (view m).ins → spends m i ≡ true → IsSpent (view m) i)
    (done : (m : F) (i : ℕ) → i < length (view m).ins → 0 < length (view m).outs → AllDone (view m) → spends m i ≡ true)
    (p : Plan) (ps : List (Placed F)) (sound : Sound p (spots view ps)) (s : Port → Bool) (says : SaysSpent p (spots view ps) s) where
  abbrev ss : List Spot
  ss = spots view ps

  -- where the filter says so, the rule does
  module _ (f : Port) (lt : f.filter < length ss) (there : InThere ss f) where
    plt : f.filter < length ps
    plt = omega (arith, lt, spots_size view ps)

    m : Placed F
    m = (place_at view ps f.filter plt).0

    got : slice_get ps f.filter ≡ Some m
    unfolding m place_at
    got = (place_at view ps f.filter plt).1

    is : spot_at ss f.filter ≡ spot_of view m
    unfolding m place_at
    is = (place_at view ps f.filter plt).2

    in_view : f.port < length (view m.filter).ins
    in_view = subst (λ (a : Spot). f.port < length a.view.ins) is there

    says_here : port_spent spends ps f ≡ spends m.filter f.port
    says_here = ap (λ (o : Option (Placed F)). spends_at spends o f.port) got

    from_view : IsSpent (view m.filter) f.port → IsSpentThere p ss s f
    from_view (inl e) = inl (ap (λ (a : Spot). a.view.shut f.port || held_closes (held_at a.held f.port)) is
        ∙ left_true ((view m.filter).shut f.port) (held_closes (held_at m.held.items f.port)) e)
    from_view (inr h) = inr (
      subst (λ (a : Spot). 0 < length a.view.outs) (sym is) h.0,
      λ o olt. out o (subst (λ (a : Spot). o < length a.view.outs) is olt) ((view m.filter).stopped o) refl,
    )
      where
        out : (o : ℕ) → o < length (view m.filter).outs → (b : Bool) → (view m.filter).stopped o ≡ b → CountsAsStopped p ss s (record { filter = f.filter; port = o })
            ⊎ IsClosedBy ss (record { filter = f.filter; port = o })
        out o olt true b = inl (inl (right_true ((spot_at ss f.filter).view.ended o) ((spot_at ss f.filter).view.stopped o)
            (ap (λ (a : Spot). a.view.stopped o) is ∙ b)))
        out o olt false b = elim (h.1 o olt b) as (λ _. CountsAsStopped p ss s (record { filter = f.filter; port = o })
            ⊎ IsClosedBy ss (record { filter = f.filter; port = o })) [
              | inl e ↦ inl (inl (left_true ((spot_at ss f.filter).view.ended o) ((spot_at ss f.filter).view.stopped o)
                  (ap (λ (a : Spot). a.view.ended o) is ∙ e)))
              | inr c ↦ inr (subst (λ (a : Spot). IsClosed (a.view.rest silence o)) (sym is) c)
            ]

    pub rule_sound : port_spent spends ps f ≡ true → s f ≡ true
    rule_sound e = (says f lt there).1 (from_view (only m.filter f.port in_view (sym says_here ∙ e)))

  -- and where each gave all, the other way round
  module _ (swept : Swept view spends p ps) (gave : AllGaveAll ss) where
    abbrev pub Said : Port → Type 0
    Said f = (port_spent spends ps f ≡ true) ⊎ (port_shut ss f ≡ true)

    module _ (f : Port) (lt : f.filter < length ss) (there : InThere ss f)
        (later : (g : Port) → f.filter < g.filter → g.filter < length ss → InThere ss g → s g ≡ true → Said g) where
      abbrev out_at : ℕ → Port
      out_at o = record { filter = f.filter; port = o }

      over_by : (w : ℕ) → w < length p.wires.items → (o : ℕ) → (wire_at p w).from ≡ Some (out_at o) → Said (wire_at p w).to → port_done ss (out_at o) ≡ true
      over_by w wlt o from (inl e) = swept w (out_at o) wlt from e
      over_by w wlt o from (inr e) = left_true (port_ended ss (out_at o)) (port_stopped ss (out_at o)) (sym (sound.linked w (out_at o) wlt from) ∙ e)

      over_at : (o : ℕ) → o < length (spot_at ss f.filter).view.outs → CountsAsStopped p ss s (out_at o) ⊎ IsClosedBy ss (out_at o) → port_done ss (out_at o) ≡ true
      over_at o olt (inl (inl e)) = e
      over_at o olt (inl (inr (w, wlt, from, e))) =
          let up = ((sound.wired w wlt).from_there (out_at o) from).0 in
          let top = (sound.wired w wlt).to_there in
          over_by w wlt o from (later (wire_at p w).to up (omega (arith, sound.size, top)) (to_there p ss w sound wlt) e)
      over_at o olt (inr c) = at (port_stopped ss (out_at o)) refl
        where
          at : (b : Bool) → port_stopped ss (out_at o) ≡ b → port_done ss (out_at o) ≡ true
          at true b = right_true (port_ended ss (out_at o)) (port_stopped ss (out_at o)) b
          at false b = absurd (subst IsClosed (gave (out_at o) lt olt b) c refl)

      said_by : IsSpentThere p ss s f → Said f
      said_by (inl e) = inr e
      said_by (inr h) =
          let a = is f lt there in
          inl (says_here f lt there ∙ done (m f lt there).filter f.port (in_view f lt there) (subst (λ (b : Spot). 0 < length b.view.outs) a h.0)
          (λ o olt. let k : o < length (spot_at ss f.filter).view.outs = subst (λ (b : Spot). o < length b.view.outs) (sym a) olt in
          subst (λ (b : Spot). (b.view.ended o ≡ true) ⊎ (b.view.stopped o ≡ true)) a
          (both_of (port_ended ss (out_at o)) (port_stopped ss (out_at o)) (over_at o k (h.1 o k)))))

    -- from the last filter down
    rule_from : (d : ℕ) (f : Port) → length ss ≤ f.filter + d → f.filter < length ss → InThere ss f → s f ≡ true → Said f
    rule_from zero f le lt there e = absurd (omega (arith, le, lt))
    rule_from (suc d) f le lt there e = said_by f lt there (λ g up glt gin k. rule_from d g (omega (arith, le, up)) glt gin k) ((says f lt there).0 e)

    pub rule_exact : (f : Port) → f.filter < length ss → InThere ss f → s f ≡ true → Said f
    rule_exact f lt there e = rule_from (length ss) f (omega arith) lt there e

-- where an input of a graph leads
module _ {F : Type 0} (view : F → View) (p : Plan) (ps : List (Placed F)) (sound : Sound p (spots view ps)) (i : ℕ) (ilt : i < length p.feeds.items) where
  to_is : feed_at p i ≡ (wire_at p i).to
  to_is = feed_is p i (sound.framed.entries i ilt)

  wlt : i < length p.wires.items
  wlt = (sound.framed.entries i ilt).wire

  pub feed_below : (feed_at p i).filter < length (spots view ps)
  feed_below =
      let top = (sound.wired i wlt).to_there in
      let same : (feed_at p i).filter ≡ (wire_at p i).to.filter = ap (λ (f : Port). f.filter) to_is in
      omega (arith, sound.size, top, same)

  pub feed_in : InThere (spots view ps) (feed_at p i)
  feed_in = subst (λ (f : Port). InThere (spots view ps) f) (sym to_is) (to_there p (spots view ps) i sound wlt)

pub leads_back : {F : Type 0} (spends : F → ℕ → Bool) (p : Plan) (ps : List (Placed F)) (bs : List Bool) (i : ℕ) → 0 < length bs → feed_spent spends p ps i ≡ true
    → leads_to_spent spends p ps bs i ≡ true
leads_back spends p ps [] i lt e = absurd (omega arith)
leads_back spends p ps (b ∷ bs) i lt e = e
