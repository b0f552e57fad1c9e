-- The words of the run over generated input ask for a job.
use Rattle.std.proofs.Common.{zero, suc, ◌≡◌, ℕ, ◌≤◌, true, false, Result, Ok, Err, List, [], ◌∷◌, ◌++◌, length, refl, ap, subst, arith, sym, Some}
use Rattle.std.specs.Prelude.{drop, map, codes}
use Rattle.std.proofs.lemmas.Fmt.{decimal_digit}
use Rattle.ff_lang.specs.declared.graph.Chain.{Chain}
use Rattle.ff_lang.specs.declared.graph.Filter.{Filter}
use Rattle.ff_lang.specs.declared.graph.Graph.{Graph}
use Rattle.ff_lang.specs.Grammar.{IsWord, IsLabel}
use Rattle.ff_lang.specs.Letters.{is_word_byte, is_label_byte}
use Rattle.ff_lang.specs.laws.Printing.{printed, IsSound, IsSoundFilter}
use Rattle.ff_words.specs.declared.maps.map.Kind.TheVariants.{Audio}
use Rattle.ff_words.specs.declared.maps.map.Pick.TheVariants as pick
use Rattle.ff_words.specs.declared.maps.map.MapFrom.TheVariants.{Input, Label}
use Rattle.ff_words.specs.declared.maps.map.MapSpec.{MapSpec}
use Rattle.ff_words.specs.maps.Grammar.{mark}
use Rattle.ff_format.specs.declared.format.FileFormat.TheVariants.{FrameHash}
use Rattle.ff_words.specs.declared.job.Job.{Job}
use Rattle.ff_words.specs.declared.error.Fault.{Fault}
use Rattle.ff_words.specs.declared.job.Command.{Command}
use Rattle.ff_words.specs.declared.job.Command.TheVariants.{Run, Solo as Alone}
use Rattle.ff_words.specs.declared.job.Solo.{Solo}
use Rattle.ff_words.specs.declared.table.Concern.{Concern}
use Rattle.ff_words.specs.declared.table.Concern.TheVariants.{All, File, Output}
use Rattle.ff_words.specs.declared.table.Kind.TheVariants as kind
use Rattle.ff_words.specs.declared.value.Value.{Value}
use Rattle.ff_words.specs.declared.value.Value.TheVariants as value
use Rattle.ff_words.specs.laws.Reading.{reader, optioned, with_input, with_output}
use Rattle.ff_words.specs.Names.{input_name, output_name}
use Rattle.ff_words.specs.Values.{Reads}
use Rattle.ff_words.specs.Words.{Entry, IsAnswer, written}
use Rattle.ff_words.specs.laws.Writing.{pick_text}
use Rattle.ff_words.proofs.Goes.{goes-start, goes-option, goes-input, goes-switch, goes-output}
use Rattle.ff_format.specs.Formats.{is_read, is_written}
use Rattle.ff_words.proofs.Known.{line-complex, line-format, line-input, line-map, line-shortest, reads-complex, reads-format, reads-map}
use Rattle.ff_words.proofs.Tokens.{ended}
use Rattle.ff_words.proofs.Unique.{answer-one}
use Rattle.ff_selfrun.specs.declared.words.TheConstants.{WORDS}
use Rattle.ff_selfrun.specs.SelfRun.{IsOwnJob, own_words}

abbrev Text : Type 0
Text = List ℕ

-- ---- its graph and its maps

abbrev filter : List Text → Text → List Text → Filter
filter ins name outs = record { ins = ins; name = name; args = []; outs = outs }

abbrev chain : Filter → Chain
chain f = record { filters = f ∷ [] }

abbrev graph : Graph
graph = record {
  chains =
      chain (filter (codes "1:v" ∷ []) (codes "split") (codes "p" ∷ codes "q" ∷ []))
      ∷ chain (filter (codes "q" ∷ []) (codes "hflip") (codes "r" ∷ []))
      ∷ chain (filter (codes "p" ∷ codes "r" ∷ []) (codes "hstack") (codes "v" ∷ [])) ∷ [];
}

label-1v : IsLabel (codes "1:v")
unfolding is_label_byte is_word_byte
label-1v = record { some = omega arith; short = omega arith; each = (refl, (refl, (refl, tt))) }

label-p : IsLabel (codes "p")
unfolding is_label_byte is_word_byte
label-p = record { some = omega arith; short = omega arith; each = (refl, tt) }

label-q : IsLabel (codes "q")
unfolding is_label_byte is_word_byte
label-q = record { some = omega arith; short = omega arith; each = (refl, tt) }

label-r : IsLabel (codes "r")
unfolding is_label_byte is_word_byte
label-r = record { some = omega arith; short = omega arith; each = (refl, tt) }

label-v : IsLabel (codes "v")
unfolding is_label_byte is_word_byte
label-v = record { some = omega arith; short = omega arith; each = (refl, tt) }

word-split : IsWord (codes "split")
unfolding is_word_byte
word-split = record { some = omega arith; short = omega arith; each = (refl, (refl, (refl, (refl, (refl, tt))))) }

word-hflip : IsWord (codes "hflip")
unfolding is_word_byte
word-hflip = record { some = omega arith; short = omega arith; each = (refl, (refl, (refl, (refl, (refl, tt))))) }

word-hstack : IsWord (codes "hstack")
unfolding is_word_byte
word-hstack = record { some = omega arith; short = omega arith; each = (refl, (refl, (refl, (refl, (refl, (refl, tt)))))) }

sound : IsSound graph
sound =
    let split : IsSoundFilter (filter (codes "1:v" ∷ []) (codes "split") (codes "p" ∷ codes "q" ∷ [])) =
    record { ins = (label-1v, tt); name = word-split; args = tt; outs = (label-p, (label-q, tt)) } in
    let hflip : IsSoundFilter (filter (codes "q" ∷ []) (codes "hflip") (codes "r" ∷ [])) =
    record { ins = (label-q, tt); name = word-hflip; args = tt; outs = (label-r, tt) } in
    let hstack : IsSoundFilter (filter (codes "p" ∷ codes "r" ∷ []) (codes "hstack") (codes "v" ∷ [])) =
    record { ins = (label-p, (label-r, tt)); name = word-hstack; args = tt; outs = (label-v, tt) } in
    record {
      some = omega arith;
      each = (record { some = omega arith; each = (split, tt) }, (record { some = omega arith; each = (hflip, tt) }, (record { some = omega arith; each = (hstack, tt) }, tt)));
    }

abbrev sound_map : MapSpec
sound_map = record { from = Input 0 (pick.Kind Audio); optional = false }

abbrev picture_map : MapSpec
picture_map = record { from = Label (codes "v"); optional = false }

reads-sound : Reads kind.Map (codes "0:a") (Ok (value.Map sound_map))
reads-sound =
    subst (λ t. Reads kind.Map t (Ok (value.Map sound_map))) (ap (λ d. d ++ pick_text (pick.Kind Audio) ++ mark false) (decimal_digit 0 (omega arith)))
    (reads-map sound_map (omega arith, tt))

-- ---- its words, one after another

few : length own_words ≤ 1024
few = omega arith

abbrev entry : ℕ → Concern → Value → Entry
entry at c x = record { at = at; concern = c; value = x }

none_left : (ws : List Text) (at : ℕ) → drop at ws ≡ [] → length ws ≤ at
none_left [] at h = omega arith
none_left (w ∷ ws) zero h = cc
none_left (w ∷ ws) (suc i) h = (let past : length ws ≤ i = none_left ws i h in omega (arith, past))

made : (job : Job) × IsOwnJob job
unfolding input_name output_name
made =
    let ws : List Text = own_words in
    let r0 = reader [] in
    let g0 = goes-start ws in
    let r1 = with_input (codes "a.wav") r0 in
    let g1 = goes-input ws few (codes "-i") (codes "a.wav") (codes "a.wav") (drop 2 ws) r0 g0 refl line-input (omega arith) (omega arith) refl refl in
    let r2 = with_input (codes "v.y4m") r1 in
    let g2 = goes-input ws few (codes "-i") (codes "v.y4m") (codes "v.y4m") (drop 4 ws) r1 g1 refl line-input (omega arith) (omega arith) refl refl in
    let r3 = optioned (entry g2.at All (value.Complex graph)) r2 in
    let g3 =
    goes-option ws few (codes "-filter_complex") (printed graph) (drop 6 ws) r2 All kind.Complex (value.Complex graph) g2 refl line-complex refl (omega arith) (omega arith) refl refl (reads-complex graph (sound, omega arith)) in
    let r4 = optioned (entry g3.at Output (value.Map sound_map)) r3 in
    let g4 =
    goes-option ws few (codes "-map") (codes "0:a") (drop 8 ws) r3 Output kind.Map (value.Map sound_map) g3 refl line-map refl (omega arith) (omega arith) refl refl reads-sound in
    let r5 = optioned (entry g4.at Output (value.Map picture_map)) r4 in
    let g5 =
    goes-option ws few (codes "-map") (codes "[v]") (drop 10 ws) r4 Output kind.Map (value.Map picture_map) g4 refl line-map refl (omega arith) (omega arith) refl refl (reads-map picture_map (label-v, refl)) in
    let r6 = optioned (entry g5.at Output value.Shortest) r5 in
    let g6 = goes-switch ws few (codes "-shortest") (drop 11 ws) r5 Output kind.Shortest value.Shortest g5 refl line-shortest refl refl (omega arith) refl in
    let r7 = optioned (entry g6.at File (value.Format FrameHash (is_read FrameHash) (is_written FrameHash))) r6 in
    let g7 =
    goes-option ws few (codes "-f") (codes "framehash") (drop 13 ws) r6 File kind.Format (value.Format FrameHash (is_read FrameHash) (is_written FrameHash)) g6 refl line-format refl (omega arith) (omega arith) refl refl
    (reads-format FrameHash) in
    let r8 = with_output (codes "out") FrameHash r7 in
    let g8 = goes-output ws few (codes "out") (codes "out") [] r7 FrameHash g7 refl refl (omega arith) (λ ending. refl) refl in
    let job : Job = record { queue = r8.queue; trace = r8.trace; keeps = r8.keeps; graphs = r8.graphs; inputs = r8.inputs; outputs = r8.outputs } in
    (job, ended ws g8.at r8 g8.stands (Ok (Run job)) (none_left ws g8.at g8.behind) (refl, refl))

-- the job that they ask for
pub own_job : Job
own_job = made.0

pub own-read : IsOwnJob own_job
unfolding own_job
own-read = made.1

-- and they ask for nothing else
own-one : (a b : Result Command Fault) → IsAnswer own_words a → IsAnswer own_words b → a ≡ b
own-one a b h j = answer-one own_words a b h j

pub never-alone : (solo : Solo) → IsAnswer own_words (Ok (Alone solo)) → ⊥
never-alone solo h = (let same : (let x : Result Command Fault = Ok (Run own_job) in x) ≡ Ok (Alone solo) = own-one (Ok (Run own_job)) (Ok (Alone solo)) own-read h in cc)

pub never-wrong : (f : Fault) → IsAnswer own_words (Err f) → ⊥
never-wrong f h = (let same : (let x : Result Command Fault = Ok (Run own_job) in x) ≡ Err f = own-one (Ok (Run own_job)) (Err f) own-read h in cc)

-- it may replace what is there
pub own-replaces : own_job.keeps ≡ false
unfolding own_job made
own-replaces = refl

out-there : written own_job ≡ Some (codes "out") ∷ []
unfolding own_job made
out-there = refl

-- it writes one file
pub out-written : (job : Job) → IsOwnJob job → written job ≡ Some (codes "out") ∷ []
out-written job h =
    let same : (let x : Result Command Fault = Ok (Run own_job) in x) ≡ Ok (Run job) = own-one (Ok (Run own_job)) (Ok (Run job)) own-read h in
    let is : own_job ≡ job = cc in
    subst (λ j. written j ≡ Some (codes "out") ∷ []) is out-there

-- the words of the code are these
pub words-are : map (λ l. l.now) WORDS ≡ own_words
words-are = refl
