-- A graph with a cut behind each output: its laws as those of a filter, and of a machine of its own.
use Rattle.std.specs.Prelude.{◌≡◌, ℕ, ◌<◌, ◌||◌, Bool, true, false, length}
use Rattle.std.proofs.Common.{inl, inr, refl, ap, ◌∙◌, arith}
use Rattle.ff_net.specs.laws.Laws.{Laws, MaySpend}
use Rattle.ff_net.specs.Pasts.{Past}
use Rattle.ff_net.specs.laws.Views.{View as NetView}
use Rattle.ff_filter.specs.declared.filter.Filter.{Ghosts as FilterGhosts}
use Rattle.ff_filter.specs.Joins.{Flow, Ports, Grows}
use Rattle.ff_filter.specs.Views.{View, IsSpent, AllDone}
use Rattle.ff_node_filter.specs.declared.alone.Alone.{Alone}
use Rattle.ff_node_filter.specs.laws.Alones.{alone_view}
use Rattle.ff_node_filter.specs.laws.AloneLaws.{alone_laws}
use Rattle.ff_node_filter.specs.Tasks.{Stands}
use Rattle.ff_graph_dag.specs.declared.dag.Dag.{Dag}
use Rattle.ff_graph_dag.specs.laws.Graphs.{graph_view, spots}
use Rattle.ff_graph_dag.specs.laws.Over.{graph_spends, graph_spent_only, graph_shut_spent, graph_done_spent}
use Rattle.ff_graph_dag.specs.laws.Readings.{left_true}
use Rattle.ff_graph_dag.specs.laws.Spends.{leads_to_spent, leads_on}
use Rattle.ff_graph_dag.proofs.Halting.{Quiet}
use Rattle.ff_graph_dag.proofs.Spending.{SameElse, feed_free}
use Rattle.ff_trim.specs.declared.cutting.Cutting.{Cutting}
use Rattle.ff_trim.specs.laws.Taps.{cut_view, ways_of, way_at, still_cut}
use Rattle.ff_trim.specs.laws.CuttingLaws.{cutting-spent, cutting-done}
use Rattle.ff_graph.specs.laws.composed.Matters.{no_matter}

-- filters of any kind, fed by one another
module _ {F : Type 0} {G : FilterGhosts F} where
  abbrev pub dag_view : Dag F G → View
  dag_view m = graph_view m.graph.plan (spots G.view m.graph.places.items)

  abbrev pub dag_spends : Dag F G → ℕ → Bool
  dag_spends m p = graph_spends (dag_view m) m.over.items p

  -- There are outputs, and the filter to which an input leads says that the input there is spent.
  abbrev pub dag_leads : Dag F G → ℕ → Bool
  dag_leads m p = leads_to_spent G.spends m.graph.plan m.graph.places.items m.over.items p

  abbrev pub dag_ghosts : FilterGhosts (Dag F G)
  dag_ghosts = record { view = dag_view; spends = dag_spends }

-- with a cut behind each output
abbrev pub CutDag : (F : Type 0) → FilterGhosts F → Type 0
CutDag F G = Cutting (Dag F G) dag_ghosts

module _ {F : Type 0} {G : FilterGhosts F} where
  abbrev pub cut_dag_view : CutDag F G → View
  cut_dag_view m = cut_view (dag_view m.filter) m.taps.items

  pub cut-spent_only : (m : CutDag F G) (p : ℕ) → p < length (cut_dag_view m).ins → dag_spends m.filter p ≡ true → IsSpent (cut_dag_view m) p
  cut-spent_only m p lt e = cutting-spent (dag_view m.filter) m.taps.items m.tied p (graph_spent_only (dag_view m.filter) m.filter.over.items p m.filter.told e)

  pub cut-shut_spent : (m : CutDag F G) (p : ℕ) → p < length (cut_dag_view m).ins → (cut_dag_view m).shut p ≡ true → dag_spends m.filter p ≡ true
  cut-shut_spent m p lt e = graph_shut_spent (dag_view m.filter) m.filter.over.items p e

  pub cut-done_spent : (m : CutDag F G) (p : ℕ) → p < length (cut_dag_view m).ins → 0 < length (cut_dag_view m).outs → AllDone (cut_dag_view m)
      → dag_spends m.filter p ≡ true
  cut-done_spent m p lt z d =
      graph_done_spent (dag_view m.filter) m.filter.over.items p m.filter.told z (cutting-done (dag_view m.filter) m.taps.items m.tied d)

  -- An input is spent where it has closed, where each output is over, or where it leads to a spent input of a filter.
  abbrev pub cut_spends : CutDag F G → ℕ → Bool
  cut_spends m p = dag_spends m.filter p || dag_leads m.filter p

  abbrev pub graph_shown : Alone (CutDag F G) → NetView
  graph_shown m = alone_view (cut_dag_view m.filter) (λ p. cut_spends m.filter p) m.hurt m.long

  -- a filter's laws that its inputs are spent by
  module _ (grows : (m : F) → Grows (G.view m).rest) (quiet : (m : F) → Quiet (G.view m))
      (only : (m : F) (p : ℕ) → p < length (G.view m).ins → G.spends m p ≡ true → IsSpent (G.view m) p) where
    leads_free : (m : CutDag F G) (p : ℕ) → p < length (cut_dag_view m).ins → (cut_dag_view m).shut p ≡ false → dag_leads m.filter p ≡ true
        → (ext ext' : Ports) → SameElse p ext ext' → (q : ℕ) → (cut_dag_view m).rest ext q ≡ (cut_dag_view m).rest ext' q
    leads_free m p lt unshut e ext ext' same q =
        let g = m.filter.graph in
        let sound = g.sound in
        ap (λ (t : Flow). still_cut (way_at (ways_of m.taps.items) q) t) (feed_free G.view G.spends grows quiet only g.plan g.places.items sound p
        (omega (arith, lt, sound.framed.inputs)) unshut (leads_on G.spends g.plan g.places.items m.filter.over.items p e).1 ext ext' same q)

    module _ (m : Alone (CutDag F G)) where
      abbrev shows : View
      shows = cut_dag_view m.filter

      may_lead : (past : Past) (p : ℕ) → Stands shows m.hurt m.long past → p < length shows.ins → dag_leads m.filter.filter p ≡ true
          → (b : Bool) → shows.shut p ≡ b → MaySpend shows.ins (length shows.outs) past p
      may_lead past p s lt e true b = inl ((s.shut_is p lt).0 b)
      may_lead past p s lt e false b =
          let d = m.filter.filter in
          let some = (leads_on G.spends d.graph.plan d.graph.places.items d.over.items p e).0 in
          let size = d.told.size in
          inr (
            omega (arith, some, size),
            no_matter shows m.hurt m.long past s p (leads_free m.filter p lt b e),
          )

      by_all : Laws (alone_view shows (λ p. dag_spends m.filter.filter p) m.hurt m.long)
      by_all = alone_laws shows (λ p. dag_spends m.filter.filter p) m.hurt m.long (cut-spent_only m.filter)
          (cut-shut_spent m.filter) (cut-done_spent m.filter)

      may : (past : Past) (p : ℕ) → Stands shows m.hurt m.long past → p < length shows.ins → (a b : Bool) → dag_spends m.filter.filter p ≡ a
          → dag_leads m.filter.filter p ≡ b → (a || b) ≡ true → MaySpend shows.ins (length shows.outs) past p
      may past p s lt true b e f h = by_all.spent_only past p s (lt, e)
      may past p s lt false b e f h = may_lead past p s lt (f ∙ h) (shows.shut p) refl

      also : (p : ℕ) → dag_spends m.filter.filter p ≡ true → cut_spends m.filter p ≡ true
      also p e = left_true (dag_spends m.filter.filter p) (dag_leads m.filter.filter p) e

      -- as a machine of its own
      pub graph_laws : Laws (graph_shown m)
      graph_laws = record {
        is_source = by_all.is_source;
        units_below = by_all.units_below;
        valid = by_all.valid;
        keeps = by_all.keeps;
        monotone = by_all.monotone;
        cause_stays = by_all.cause_stays;
        calm = by_all.calm;
        given = by_all.given;
        unbroken = by_all.unbroken;
        caused = by_all.caused;
        spent_only = λ past p s h.
            may past p s h.0 (dag_spends m.filter.filter p) (dag_leads m.filter.filter p) refl refl h.1;
        closed_spent = λ past p s lt c. (lt, also p (by_all.closed_spent past p s lt c).1);
        done_spent = λ past p s lt z c a. (lt, also p (by_all.done_spent past p s lt z c a).1);
        settles = by_all.settles;
        told = by_all.told;
        ticket_used = by_all.ticket_used;
        tried_allowed = by_all.tried_allowed;
        tried_units = by_all.tried_units;
      }
