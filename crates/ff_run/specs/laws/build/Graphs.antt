-- What the rules make of frames can be had as a graph.
use Rattle.std.specs.Prelude.{◌≡◌, ℕ, zero, suc, ◌≤◌, nat_eq, Bool, true, false, ◌||◌, if◌then◌else◌, List, [], ◌∷◌, length, map, Some, Result, Ok, Err, refl}
use Rattle.std.proofs.Common.{sym, ap, ◌∙◌, subst, arith}
use Rattle.std.proofs.lemmas.List.{length-map}
use Rattle.ff_lang.specs.declared.graph.Graph.{Graph}
use Rattle.ff_frame.specs.declared.head.StreamHead.{StreamHead}
use Rattle.ff_frame.specs.declared.head.StreamHead.TheVariants.{Audio, Video}
use Rattle.ff_graph.specs.Configured as of_graph
use Rattle.ff_graph.specs.Drawings.{seen_graph}
use Rattle.ff_graph.specs.Opens as pads
use Rattle.ff_graph.specs.composed.Cuts.{all_given, outs_or_none}
use Rattle.ff_graph.specs.composed.Pads.{HasChannel, HasFilter, HaveChannels}
use Rattle.ff_plan_layout.specs.declared.open_pads.OpenOut.{OpenOut}
use Rattle.ff_plan_layout.specs.declared.open_pads.Refused.{Refused}
use Rattle.ff_concat.specs.laws.Fed.{TakesZeros}
use Rattle.ff_filters.specs.limited.Cuts.{AreStreamHeads}
use Rattle.ff_plan_rules.specs.Kept.{AreFitHeads, IsFitHead}
use Rattle.ff_plan_rules.proofs.Keeping.{keep_heads}
use Rattle.ff_plan_rules.specs.Rules.{input_as, output_as, outputs_as, is_empty}
use Rattle.ff_run_plan.specs.Kinds.{GraphsAreHad}
use Rattle.ff_run.specs.build.Parts.{all_kinds}

same_heads : (os : List of_graph.OpenOut) → map (λ (out : OpenOut). out.head) (map output_as os) ≡ map (λ o. o.head) os
same_heads [] = refl
same_heads (o ∷ os) = ap (λ (hs : List StreamHead). o.head ∷ hs) (same_heads os)

heads_as : (r : Result (List of_graph.OpenOut) of_graph.Refused) (outs : List OpenOut) → outputs_as r ≡ Ok outs
    → map (λ (out : OpenOut). out.head) outs ≡ map (λ o. o.head) (outs_or_none r)
heads_as (Ok os) outs e =
    let same : map output_as os ≡ outs = cc in
    ap (λ (is : List OpenOut). map (λ (out : OpenOut). out.head) is) (sym same) ∙ same_heads os
heads_as (Err r) outs e = absurd cc

-- no graph was refused before its filters were looked at
not_before : (before : Bool) (r : Result (List OpenOut) Refused) (first : Refused) (outs : List OpenOut) → (if before then Err first else r) ≡ Ok outs
    → (before ≡ false) × (r ≡ Ok outs)
not_before true r first outs e = absurd cc
not_before false r first outs e = (refl, e)

neither : (a b : Bool) → (a || b) ≡ false → b ≡ false
neither true b e = absurd cc
neither false b e = e

has_some : (g : Graph) → is_empty g ≡ false → HasFilter g
has_some g e = some (length (seen_graph g)) e
  where
    some : (n : ℕ) → nat_eq n 0 ≡ false → 1 ≤ n
    some zero e = absurd cc
    some (suc n) e = omega arith

-- there are pads that the filters make
pads_as : (r : Result (List of_graph.OpenOut) of_graph.Refused) (outs : List OpenOut) → outputs_as r ≡ Ok outs → (os : List of_graph.OpenOut) × (r ≡ Ok os)
pads_as (Ok os) outs e = (os, refl)
pads_as (Err r) outs e = absurd cc

pub graphs_are_had : GraphsAreHad all_kinds
graphs_are_had text heads outs made count unlooped clear fit =
    let own = of_graph.configured text (all_given heads) in
    let first = not_before (pads.loops text || is_empty text) (outputs_as own) _ outs made in
    let had = pads_as own outs first.1 in record {
      fit = fit;
      clear = clear;
      filters = has_some text (neither (pads.loops text) (is_empty text) first.0);
      counted = count ∙ length-map (pads.open_ins text) input_as;
      few = subst (λ (n : ℕ). n ≤ 16) (sym count)
          (keep_heads.few text (map (λ h. Some h) heads) outs (unlooped, length-map heads (λ h. Some h) ∙ count, made));
      had = record { unlooped = unlooped; outs = had.0; made = had.1 };
      outs_are = heads_as own outs first.1;
    }

zeros : (h : StreamHead) → IsFitHead h → TakesZeros h
zeros (Audio tb rate bits channels codec) fit = (fit.channels.0, fit.channels.1, fit.bits.0, fit.bits.1)
zeros (Video tb format width height sar_num sar_den) fit = tt

pub are_of_streams : (heads : List StreamHead) → AreFitHeads heads → AreStreamHeads heads
are_of_streams [] fit = tt
are_of_streams (h ∷ hs) fit = (record { base = fit.0.base; zeros = zeros h fit.0 }, are_of_streams hs fit.1)

heard : (h : StreamHead) → IsFitHead h → HasChannel h
heard (Audio tb rate bits channels codec) fit = fit.channels.0
heard (Video tb format width height sar_num sar_den) fit = tt

pub are_heard : (heads : List StreamHead) → AreFitHeads heads → HaveChannels heads
are_heard [] fit = tt
are_heard (h ∷ hs) fit = (heard h fit.0, are_heard hs fit.1)
