-- Words for the code that finds the streams of an output: which labels are used before.
use Rattle.std.specs.Prelude.{ℕ, zero, suc, Bool, not, List, [], ◌∷◌, ◌++◌, Option, Some, None, Ok}
use Rattle.ff_lang.specs.declared.graph.Graph.{Graph}
use Rattle.ff_words.specs.declared.maps.map.MapSpec.{MapSpec}
use Rattle.ff_words.specs.maps.Choice.{lists}
use Rattle.ff_words.specs.declared.job.OutputJob.{OutputJob}
use Rattle.ff_plan_layout.specs.declared.layout.InPad.{InPad}
use Rattle.ff_plan_layout.specs.declared.error.PlanError.TheVariants as fault
use Rattle.ff_plan_layout.specs.declared.ready.Ready.{Ready}
use Rattle.ff_plan_layout.specs.Labels.{giver, is_given, taken_labels}
use Rattle.ff_plan_layout.specs.Pads.{labelled_out, made_at}
use Rattle.ff_plan_layout.specs.LaidOut.{labels_of}
use Rattle.ff_plan_layout.specs.Rules.{Planned, unless, where_so}
use Rattle.ff_plan_layout.specs.Streams.{Inside, label_in, label_pad}

-- what was made before the outputs
abbrev pub inside_of : Ready → Inside
inside_of r = record { heads = lists r.heads.now; graphs = r.graphs.now; made = r.made.now }

-- ---- labels that are used

-- the labels of these things, the last first, in front of those that were used before
abbrev pub labels_before : {X : Type 0} → (X → List (List ℕ)) → List (List ℕ) → List X → List (List ℕ)
labels_before f used [] = used
labels_before f used (x ∷ xs) = labels_before f (f x ++ used) xs

-- by complex graphs and the outputs before
abbrev pub used_before : List Graph → List OutputJob → List (List ℕ)
used_before graphs outs = labels_before labels_of (taken_labels graphs) outs

abbrev pub labels_of_map : MapSpec → List (List ℕ)
labels_of_map m = label_in m.from

-- and by the maps before
abbrev pub used_by : List Graph → List OutputJob → List MapSpec → List (List ℕ)
used_by graphs outs maps = labels_before labels_of_map (used_before graphs outs) maps

-- the pads that a label in a map names, which is used before or not
abbrev pub pad_given : Inside → List ℕ → Option ℕ → Option InPad
pad_given inside label None = None
pad_given inside label (Some g) = labelled_out label (made_at inside.made g)

abbrev pub label_mapped : Inside → Bool → List ℕ → Planned (List InPad)
label_mapped inside is label =
    unless (where_so (not (is_given inside.graphs label)) (fault.UnknownLabel label))
    (unless (where_so is (fault.LabelTwice label)) (Ok (label_pad inside label (giver inside.graphs label))))

-- the first output alone has the unlabelled pads in front
abbrev pub front_of : ℕ → List InPad → List InPad
front_of zero pads = pads
front_of (suc n) pads = []
