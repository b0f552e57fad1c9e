-- The steps in which a job is laid out, and what refuses it.
use Rattle.std.proofs.Common.{◌≡◌, inl, inr, ℕ, ◌+◌, nat_lt, Bool, true, false, List, ◌++◌, map, length, Option, Some, None, refl, sym, ap, ◌∙◌, subst}
use Rattle.std.proofs.lemmas.Result.{err_from_is_err_and}
use Rattle.std.specs.Prelude.{Result, Ok, Err, IfErr}
use Rattle.std.specs.Result.{IsErrAnd}
use Rattle.std.specs.List.{flat_map, range_with_len}
use Rattle.ff_frame.specs.declared.head.StreamHead.{StreamHead}
use Rattle.ff_lang.specs.declared.graph.Graph.{Graph}
use Rattle.ff_source.specs.declared.made.Made.{Made as SourceMade}
use Rattle.ff_words.specs.declared.job.Job.{Job}
use Rattle.ff_words.specs.declared.job.OutputJob.{OutputJob}
use Rattle.ff_plan_layout.specs.declared.layout.Laying.{Laying}
use Rattle.ff_plan_layout.specs.declared.layout.OutStream.{OutStream}
use Rattle.ff_plan_layout.specs.declared.layout.GraphText.{GraphText}
use Rattle.ff_plan_layout.specs.declared.layout.GraphText.TheVariants as text
use Rattle.ff_plan_layout.specs.declared.error.PlanError.{PlanError}
use Rattle.ff_plan_layout.specs.declared.error.PlanError.TheVariants as fault
use Rattle.ff_plan_layout.specs.Labels.{labels_fault}
use Rattle.ff_plan_layout.specs.Layout.{Laid, Layout}
use Rattle.ff_plan_layout.specs.laws.Mapping.{unused_among}
use Rattle.ff_plan_layout.specs.Order.{numbers, loop_fault}
use Rattle.ff_plan_layout.specs.Pads.{Made, make_all}
use Rattle.ff_plan_layout.specs.laws.Passing.{count_fault, source_count_fault, laid_by, streams_by, rows_behind}
use Rattle.ff_plan_layout.specs.laws.Rows.{rows, layout_in}
use Rattle.ff_plan_layout.specs.laws.Refusals.{IsRefused, IsFault}
use Rattle.ff_plan_layout.specs.LaidOut.{layout_of, limited, laid_out, simple_graphs}
use Rattle.ff_plan_layout.specs.Rules.{Rules, Planned, behind, unless, or_else, where_so}
use Rattle.ff_plan_layout.specs.Sources.{sources_of, sources_fault}
use Rattle.ff_plan_layout.specs.Streams.{Passed}
use Rattle.ff_plan_layout.specs.Texts.{texts_from}
use Rattle.ff_plan_layout.proofs.Fronts.{fine, refused_behind}

refused_unless : {X : Type 0} (o : Option PlanError) (r : Planned X) (e : PlanError) → IsFault o e → IsRefused (unless o r) e
refused_unless o r e (inl h) = inl h
refused_unless {X} o r e (inr h) = inr (ap (λ (f : Option PlanError). unless f r) h)

unless_or : {X : Type 0} (a b : Option PlanError) (r : Planned X) → unless a (unless b r) ≡ unless (or_else a b) r
unless_or None b r = refl
unless_or (Some e) b r = refl

-- a refusal that is handed on
pub handed_on : {A X : Type 0} (r : Result A PlanError) (whole : Planned X) (e : PlanError) → IsErrAnd r (λ y. y ≡ e) → IsRefused whole e → IfErr r (IsRefused whole)
handed_on {A} r whole e is h =
    let p = err_from_is_err_and r is in
    subst (λ (q : Result A PlanError). IfErr q (IsRefused whole)) (sym p.1) (subst (λ (y : PlanError). IsRefused whole y) (sym p.2) h)

module _ (rules : Rules) (job : Job) (heads : List (List StreamHead)) (gs : List Graph) (os : List OutputJob) (eg : gs ≡ job.graphs) (eo : os ≡ job.outputs) where
  abbrev whole : Planned Layout
  whole = laid_out rules job heads

  -- behind the complex graphs
  abbrev limited_rows : Planned (List Made) → List Graph → List OutputJob → Planned Layout
  limited_rows made graphs outs = behind made (λ ms. behind (rows_behind rules heads graphs ms outs) (λ rs. limited rules job heads ms rs))

  abbrev LabelsFine : Type 0
  LabelsFine = labels_fault rules heads gs ≡ None

  abbrev LoopsFine : Type 0
  LoopsFine = loop_fault rules gs ≡ None

  abbrev SourcesFine : Type 0
  SourcesFine = sources_fault rules 0 gs ≡ None

  -- behind the loops
  abbrev sound_rows : List Graph → List OutputJob → Planned Layout
  sound_rows graphs outs = unless (sources_fault rules 0 graphs) (limited_rows (make_all rules heads graphs) graphs outs)

  by_labels : whole ≡ unless (labels_fault rules heads gs) (unless (loop_fault rules gs) (sound_rows gs os))
  by_labels =
      ap (λ (g : List Graph). unless (labels_fault rules heads g) (unless (loop_fault rules g) (sound_rows g job.outputs))) (sym eg)
      ∙ ap (λ (o : List OutputJob). unless (labels_fault rules heads gs) (unless (loop_fault rules gs) (sound_rows gs o))) (sym eo)

  by_loops : LabelsFine → whole ≡ unless (loop_fault rules gs) (sound_rows gs os)
  by_loops l = by_labels ∙ ap (λ (f : Option PlanError). unless f (unless (loop_fault rules gs) (sound_rows gs os))) l

  by_sources : LabelsFine → LoopsFine → whole ≡ sound_rows gs os
  by_sources l o = by_loops l ∙ ap (λ (f : Option PlanError). unless f (sound_rows gs os)) o

  by_graphs : LabelsFine → LoopsFine → SourcesFine → whole ≡ limited_rows (make_all rules heads gs) gs os
  by_graphs l o s = by_sources l o ∙ ap (λ (f : Option PlanError). unless f (limited_rows (make_all rules heads gs) gs os)) s

  by_rows : (made : List Made) → LabelsFine → LoopsFine → SourcesFine → make_all rules heads gs ≡ Ok made → whole ≡ behind (rows_behind rules heads gs made os) (λ rs. limited rules job heads made rs)
  by_rows made l o s m = by_graphs l o s ∙ ap (λ (r : Planned (List Made)). limited_rows r gs os) m

  pub refused_loops : (e : PlanError) → LabelsFine → IsFault (loop_fault rules gs) e → IsRefused whole e
  refused_loops e l h = subst (λ (r : Planned Layout). IsRefused r e) (sym (by_loops l)) (refused_unless (loop_fault rules gs) _ e h)

  pub refused_sources : (e : PlanError) → LabelsFine → LoopsFine → IsFault (sources_fault rules 0 gs) e → IsRefused whole e
  refused_sources e l o h = subst (λ (r : Planned Layout). IsRefused r e) (sym (by_sources l o)) (refused_unless (sources_fault rules 0 gs) _ e h)

  pub refused_graphs : (e : PlanError) → LabelsFine → LoopsFine → SourcesFine → IsRefused (make_all rules heads gs) e → IsRefused whole e
  refused_graphs e l o s h =
      subst (λ (r : Planned Layout). IsRefused r e) (sym (by_graphs l o s)) (refused_behind (make_all rules heads gs) (λ ms. behind (rows_behind rules heads gs ms os) (λ rs. limited rules job heads ms rs)) e h)

  pub refused_rows : (made : List Made) (e : PlanError) → LabelsFine → LoopsFine → SourcesFine → make_all rules heads gs ≡ Ok made → IsRefused (rows_behind rules heads gs made os) e → IsRefused whole e
  refused_rows made e l o s m h = subst (λ (r : Planned Layout). IsRefused r e) (sym (by_rows made l o s m)) (refused_behind (rows_behind rules heads gs made os) (λ rs. limited rules job heads made rs) e h)

  -- ---- behind the outputs

  module _ (made : List Made) (outs : List (List Passed)) (labels_fine : LabelsFine) (loops_fine : LoopsFine) (sources_fine : SourcesFine) (made_is : make_all rules heads gs ≡ Ok made) (outs_are : rows_behind rules heads gs made os ≡ Ok outs) where
    abbrev done : Planned Layout
    done = Ok (layout_of rules job heads made outs)

    -- inputs and sources together, of these graphs
    abbrev source_count : List Graph → Option PlanError
    source_count graphs = source_count_fault (length heads) (length (sources_of rules graphs))

    by_limits : whole ≡ unless (unused_among gs os) (unless (count_fault (length gs) outs) (unless (source_count gs) done))
    by_limits =
        by_rows made labels_fine loops_fine sources_fine made_is
        ∙ (ap (λ (r : Planned (List (List Passed))). behind r (λ rs. limited rules job heads made rs)) outs_are
        ∙ (ap (λ (r : Planned Layout). unless (unused_among job.graphs job.outputs) r)
        (unless_or (where_so (nat_lt 16 (length (flat_map (λ ps. ps) outs))) fault.TooManyStreams) (where_so (nat_lt 16 (length job.graphs + simple_graphs outs)) fault.TooManyGraphs) (unless (source_count job.graphs) done))
        ∙ (ap (λ (g : List Graph). unless (unused_among g job.outputs) (unless (count_fault (length g) outs) (unless (source_count g) done))) (sym eg)
        ∙ ap (λ (o : List OutputJob). unless (unused_among gs o) (unless (count_fault (length gs) outs) (unless (source_count gs) done))) (sym eo))))

    by_counts : unused_among gs os ≡ None → whole ≡ unless (count_fault (length gs) outs) (unless (source_count gs) done)
    by_counts u = by_limits ∙ ap (λ (f : Option PlanError). unless f (unless (count_fault (length gs) outs) (unless (source_count gs) done))) u

    by_source_count : unused_among gs os ≡ None → count_fault (length gs) outs ≡ None → whole ≡ unless (source_count gs) done
    by_source_count u k = by_counts u ∙ ap (λ (f : Option PlanError). unless f (unless (source_count gs) done)) k

    pub refused_unused : (e : PlanError) → IsFault (unused_among gs os) e → IsRefused whole e
    refused_unused e h = subst (λ (r : Planned Layout). IsRefused r e) (sym by_limits) (refused_unless (unused_among gs os) _ e h)

    pub refused_counts : (e : PlanError) → unused_among gs os ≡ None → IsFault (count_fault (length gs) outs) e → IsRefused whole e
    refused_counts e u h = subst (λ (r : Planned Layout). IsRefused r e) (sym (by_counts u)) (refused_unless (count_fault (length gs) outs) _ e h)

    -- the sources, as the code has them
    module _ (sources : List SourceMade) (are : sources ≡ sources_of rules gs) where
      abbrev CountFine : Type 0
      CountFine = source_count_fault (length heads) (length sources) ≡ None

      counted : source_count_fault (length heads) (length sources) ≡ source_count gs
      counted = ap (λ (s : List SourceMade). source_count_fault (length heads) (length s)) are

      pub refused_source_count : (e : PlanError) → unused_among gs os ≡ None → count_fault (length gs) outs ≡ None → IsFault (source_count_fault (length heads) (length sources)) e → IsRefused whole e
      refused_source_count e u k h =
          subst (λ (r : Planned Layout). IsRefused r e) (sym (by_source_count u k)) (refused_unless (source_count gs) _ e (subst (λ (f : Option PlanError). IsFault f e) counted h))

      laid_as : unused_among gs os ≡ None → count_fault (length gs) outs ≡ None → CountFine → whole ≡ Ok (layout_of rules job heads made outs)
      laid_as u k c = by_source_count u k ∙ ap (λ (f : Option PlanError). unless f done) (sym counted ∙ c)

      pub laid_in : (l : Laying) → unused_among gs os ≡ None → count_fault (length gs) outs ≡ None → CountFine
          → l.made.items ≡ sources
          → l.graphs.items ≡ map (λ (m : Made). m.laid) made ++ laid_by outs → rows l.outputs.items ≡ streams_by outs
          → l.texts.items ≡ map text.Complex (range_with_len 0 (length gs)) ++ texts_from 0 os outs
          → whole ≡ Ok (layout_in heads l)
      laid_in l u k c own graphs outputs texts =
          let built : List SourceMade → List Laid → List (List OutStream) → List GraphText → Planned Layout = λ s a b t. Ok (record { heads = heads; made = s; graphs = a; outputs = b; texts = t }) in
          let given : l.texts.items ≡ map text.Complex (numbers job.graphs) ++ texts_from 0 job.outputs outs =
          texts ∙ (ap (λ (g : List Graph). map text.Complex (numbers g) ++ texts_from 0 os outs) eg ∙ ap (λ (o : List OutputJob). map text.Complex (numbers job.graphs) ++ texts_from 0 o outs) eo) in
          let mine : l.made.items ≡ sources_of rules job.graphs = own ∙ (are ∙ ap (λ (g : List Graph). sources_of rules g) eg) in
          let places = map text.Complex (numbers job.graphs) ++ texts_from 0 job.outputs outs in
          laid_as u k c
          ∙ (ap (λ (s : List SourceMade). built s (map (λ (m : Made). m.laid) made ++ laid_by outs) (streams_by outs) places) (sym mine)
          ∙ (ap (λ (a : List Laid). built l.made.items a (streams_by outs) places) (sym graphs)
          ∙ (ap (λ (b : List (List OutStream)). built l.made.items l.graphs.items b places) (sym outputs)
          ∙ ap (λ (t : List GraphText). built l.made.items l.graphs.items (rows l.outputs.items) t) (sym given))))
