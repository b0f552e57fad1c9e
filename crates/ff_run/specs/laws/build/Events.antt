-- Each part tells of its own input or output streams alone.
use Rattle.std.specs.Prelude.{◌≡◌, ℕ, ◌+◌, ◌<◌, ◌≤◌, Bool, true, false, All, List, [], ◌∷◌, length, refl}
use Rattle.std.proofs.Common.{arith, subst}
use Rattle.std.proofs.lemmas.Bool.Decides.{nat_tests}
use Rattle.std.proofs.lemmas.List.Elements.{All-head, All-tail, All-nil, All-cons}
use Rattle.ff_frame.specs.Heads.{base_of_head}
use Rattle.ff_frame.specs.declared.head.StreamHead.{StreamHead}
use Rattle.ff_frame.specs.declared.event.Event.{Event}
use Rattle.ff_frame.specs.declared.event.Event.TheVariants.{Grant, Sent, Finished, Best, Exited}
use Rattle.ff_net.specs.Pasts.{Feed}
use Rattle.ff_net.specs.Ways.{Flow}
use Rattle.ff_node_mux.specs.laws.Mixing.{bases_long}
use Rattle.ff_node_mux.specs.Muxing.{head_bases}
use Rattle.ff_node_mux.specs.Telling.{IsAmong, IsOfStreams, mux_tells}
use Rattle.ff_node_mux.proofs.StreamTells.{something_told}
use Rattle.ff_node_mux.proofs.TellSteps.{all_of_streams}
use Rattle.ff_node_filter.specs.best.Bests.{best_events}
use Rattle.ff_node_filter.specs.best.Inputs.{bases_of_heads}
use Rattle.ff_node_filter.specs.laws.best.Laws.{AreTurns, IsBestOf}
use Rattle.ff_node_filter.proofs.BestLemmas.Namings.{events_named, events_turn}
use Rattle.ff_node_sync.specs.JointTask.{joint_task}
use Rattle.ff_run_plan.specs.Events.{is_among, is_of_streams, ChangeBest, TellOfThemselves}
use Rattle.ff_words.specs.declared.job.OutputJob.{OutputJob}
use Rattle.ff_input.specs.Formats.{InputHead}
use Rattle.ff_input.specs.declared.one_of.OneOf.TheVariants.{First, Other}
use Rattle.ff_run.specs.build.Parts.{all_kinds, demux_task_of, enc_task_to, is_flac_coded}

among : (first count j : ℕ) → first ≤ j → j < first + count → is_among first count j ≡ true
among first count j low high = grind (arith, nat_tests)

among_streams : (first count j : ℕ) → IsAmong first count j → is_among first count j ≡ true
among_streams first count j a = among first count j a.0 a.1

of_streams : (first count : ℕ) (e : Event) → IsOfStreams first count e → is_of_streams first count e ≡ true
of_streams first count (Grant s) is = absurd is
of_streams first count (Sent j t) is = among_streams first count j is.0
of_streams first count (Finished j) is = among_streams first count j is
of_streams first count (Best g i) is = absurd is
of_streams first count (Exited s) is = absurd is

all_are : (first count : ℕ) (es : List Event) → All (IsOfStreams first count) es → All (λ e. is_of_streams first count e ≡ true) es
all_are first count [] all = All-nil (λ e. is_of_streams first count e ≡ true)
all_are first count (e ∷ es) all =
    All-cons (λ e. is_of_streams first count e ≡ true) e es (of_streams first count e (All-head (IsOfStreams first count) e es all))
    (all_are first count es (All-tail (IsOfStreams first count) e es all))

muxer_tells : (first : ℕ) (out : OutputJob) (coded : List StreamHead) (feeds : List Feed)
    → All (λ e. is_of_streams first (length coded) e ≡ true) ((all_kinds.mux_task first out coded).tells feeds)
muxer_tells first out coded feeds =
    all_are first (length coded) (mux_tells first (head_bases coded) feeds)
    (subst (λ (n : ℕ). All (IsOfStreams first n) (mux_tells first (head_bases coded) feeds)) (bases_long coded)
    (all_of_streams first (head_bases coded) feeds))

-- an encoder tells nothing, to whatever it codes
encoder_tells : (flac : Bool) (coded : StreamHead) (feeds : List Feed) → (enc_task_to flac coded).tells feeds ≡ []
encoder_tells true coded feeds = refl
encoder_tells false coded feeds = refl

-- a graph tells of its own best input, each time another
changes : (g n best : ℕ) (es : List Event) → All (IsBestOf g n) es → AreTurns best es → ChangeBest g best es
changes g n best [] all turn = tt
changes g n best (Grant s ∷ es) all turn = absurd turn
changes g n best (Sent j t ∷ es) all turn = absurd turn
changes g n best (Finished j ∷ es) all turn = absurd turn
changes g n best (Best h i ∷ es) all turn =
    ((All-head (IsBestOf g n) (Best h i) es all).0, turn.0, changes g n i es (All-tail (IsBestOf g n) (Best h i) es all) turn.1)
changes g n best (Exited s ∷ es) all turn = absurd turn

graph_tells : (g : ℕ) (heads : List StreamHead) (feeds : List Feed) → ChangeBest g 0 (best_events g (bases_of_heads heads) feeds)
graph_tells g heads feeds =
    let bases = bases_of_heads heads in
    changes g (length bases) 0 (best_events g bases feeds) (events_named g bases [] 0 feeds) (events_turn g bases [] 0 feeds)

-- streams that come together tell nothing
joint_tells : (ends : Bool) (heads : List StreamHead) (feeds : List Feed) → (joint_task ends heads).tells feeds ≡ []
joint_tells ends heads feeds = refl

-- a demuxer tells that it has exited, of whatever input
demuxer_tells : (i : ℕ) (head : InputHead) (used bytes : List ℕ) (feeds : List Feed) → (demux_task_of i head used bytes).tells feeds ≡ Exited i ∷ []
demuxer_tells i (First head) used bytes feeds = refl
demuxer_tells i (Other head) used bytes feeds = refl

pub parts_tell_of_themselves : TellOfThemselves all_kinds
parts_tell_of_themselves = record {
  demuxer = demuxer_tells;
  generator = λ i made feeds. refl;
  decoder = λ head cut outputs feeds. refl;
  graph = λ g text heads cuts feeds. graph_tells g heads feeds;
  shortest = joint_tells;
  encoder = λ head coded feeds. encoder_tells (is_flac_coded coded) coded feeds;
  muxer = muxer_tells;
}

-- and of a stream that has closed a muxer tells at least that
pub some_events : (o : ℕ) (coded : StreamHead) (s : Flow) → [] ≡ all_kinds.events o coded s → ⊥
some_events o coded s e = something_told o (base_of_head coded) s e
