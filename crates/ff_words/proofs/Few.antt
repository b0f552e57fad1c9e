-- The words of a job without RF64 are at most 1,024.
use Rattle.std.proofs.Common.{ℕ, ◌+◌, ◌*◌, ◌≤◌, Bool, true, false, ◌≡◌, sym, subst, Option, Some, None, List, [], ◌∷◌, ◌++◌, length, arith, length-append}
use Rattle.std.specs.Prelude.{flat_map, codes}
use Rattle.std.specs.List.{AllByRecursion}
use Rattle.ff_lang.specs.declared.graph.Graph.{Graph}
use Rattle.ff_lang.specs.laws.Printing.{printed}
use Rattle.ff_words.specs.declared.maps.map.MapSpec.{MapSpec}
use Rattle.ff_format.specs.declared.format.Rf64.{Rf64}
use Rattle.ff_format.specs.declared.format.Rf64.TheVariants.{Never}
use Rattle.ff_words.specs.declared.job.InputJob.{InputJob}
use Rattle.ff_words.specs.declared.job.OutputJob.{OutputJob}
use Rattle.ff_words.specs.declared.job.Job.{Job}
use Rattle.ff_words.specs.declared.job.Asked.{Asked}
use Rattle.ff_words.specs.Words.{none_asked}
use Rattle.ff_frame.specs.Codecs.{codec_name}
use Rattle.ff_format.specs.Formats.{format_name}
use Rattle.ff_words.specs.laws.Writing.{given, input_text, output_text, trace_text, micros_text, where_some, where_true, format_words, start_words, length_words, frames_words, asked_words, input_words, map_words, audio_words, video_words, vf_words, af_words, hash_words, rf64_words, output_words, graph_words, trace_words, keeps_words, queue_words, job_words, IsFineOutput, IsFineJob, IsPlainOutput}

abbrev Words : Type 0
Words = List (List ℕ)

maps-count : (ms : List MapSpec) → length (flat_map map_words ms) ≤ 2 * length ms
maps-count [] = omega arith
maps-count (m ∷ ms) = (let h : length (flat_map map_words ms) ≤ 2 * length ms = maps-count ms in omega (arith, h))

graphs-count : (gs : List Graph) → length (flat_map graph_words gs) ≤ 2 * length gs
graphs-count [] = omega arith
graphs-count (g ∷ gs) = (let h : length (flat_map graph_words gs) ≤ 2 * length gs = graphs-count gs in omega (arith, h))

some-count : {X : Type 0} (name : List ℕ) (text : X → List ℕ) (o : Option X) → length (where_some (λ x. given name (text x)) o) ≤ 2
some-count name text None = omega arith
some-count name text (Some x) = omega arith

true-count : (name : List ℕ) (b : Bool) → length (where_true name b) ≤ 1
true-count name false = omega arith
true-count name true = omega arith

none-count : (mode : Rf64) → mode ≡ Never → length (rf64_words mode) ≤ 0
none-count mode e = subst (λ m. length (rf64_words m) ≤ 0) (sym e) (omega arith)

no-frames-count : (o : Option ℕ) → o ≡ None → length (frames_words o) ≤ 0
no-frames-count o e = subst (λ m. length (frames_words m) ≤ 0) (sym e) (omega arith)

nothing-count : (a : Asked) → a ≡ none_asked → length (asked_words a) ≤ 0
nothing-count a e = subst (λ m. length (asked_words m) ≤ 0) (sym e) (omega arith)

joined : (xs ys : Words) (m n : ℕ) → length xs ≤ m → length ys ≤ n → length (xs ++ ys) ≤ m + n
joined xs ys m n h k = omega (arith, length-append xs ys, h, k)

input-count : (i : InputJob) → length (input_words i) ≤ 8
input-count i =
    let y3 : Words = given (codes "-i") (input_text i.name) in
    let y2 : Words = length_words i.cut.length ++ y3 in
    let y1 : Words = start_words i.cut.start ++ y2 in
    let h2 : length y2 ≤ 2 + 2 = joined (length_words i.cut.length) y3 2 2 (some-count (codes "-t") micros_text i.cut.length) (omega arith) in
    let h1 : length y1 ≤ 2 + (2 + 2) = joined (start_words i.cut.start) y2 2 (2 + 2) (omega arith) h2 in
    joined (where_some format_words i.format) y1 2 (2 + (2 + 2)) (some-count (codes "-f") format_name i.format) h1

inputs-count : (is : List InputJob) → length (flat_map input_words is) ≤ 8 * length is
inputs-count [] = omega arith
inputs-count (i ∷ is) = omega (arith, length-append (input_words i) (flat_map input_words is), input-count i, inputs-count is)

output-count : (o : OutputJob) → length o.maps ≤ 16 → IsPlainOutput o → length (output_words o) ≤ 52
output-count o few plain =
    let y13 : Words = output_text o.format o.name ∷ [] in
    let y12 : Words = format_words o.format ++ y13 in
    let y11 : Words = rf64_words o.rf64 ++ y12 in
    let y10 : Words = hash_words o.hash ++ y11 in
    let y9 : Words = where_true (codes "-shortest") o.shortest ++ y10 in
    let ya : Words = asked_words o.asked ++ y9 in
    let y9' : Words = frames_words o.frames ++ ya in
    let y8 : Words = length_words o.cut.length ++ y9' in
    let y7 : Words = start_words o.cut.start ++ y8 in
    let y6 : Words = where_true (codes "-vn") o.no_video ++ y7 in
    let y5 : Words = where_true (codes "-an") o.no_audio ++ y6 in
    let y4 : Words = af_words o.af ++ y5 in
    let y3 : Words = vf_words o.vf ++ y4 in
    let y2 : Words = video_words o.video ++ y3 in
    let y1 : Words = audio_words o.audio ++ y2 in
    let h11 : length y11 ≤ 0 + 3 = joined (rf64_words o.rf64) y12 0 3 (none-count o.rf64 plain.0) (omega arith) in
    let h10 : length y10 ≤ 2 + 3 = joined (hash_words o.hash) y11 2 3 (omega arith) h11 in
    let h9 : length y9 ≤ 1 + 5 = joined (where_true (codes "-shortest") o.shortest) y10 1 5 (true-count (codes "-shortest") o.shortest) h10 in
    let ha : length ya ≤ 0 + 6 = joined (asked_words o.asked) y9 0 6 (nothing-count o.asked plain.2) h9 in
    let h9' : length y9' ≤ 0 + 6 = joined (frames_words o.frames) ya 0 6 (no-frames-count o.frames plain.1) ha in
    let h8 : length y8 ≤ 2 + 6 = joined (length_words o.cut.length) y9' 2 6 (some-count (codes "-t") micros_text o.cut.length) h9' in
    let h7 : length y7 ≤ 2 + 8 = joined (start_words o.cut.start) y8 2 8 (omega arith) h8 in
    let h6 : length y6 ≤ 1 + 10 = joined (where_true (codes "-vn") o.no_video) y7 1 10 (true-count (codes "-vn") o.no_video) h7 in
    let h5 : length y5 ≤ 1 + 11 = joined (where_true (codes "-an") o.no_audio) y6 1 11 (true-count (codes "-an") o.no_audio) h6 in
    let h4 : length y4 ≤ 2 + 12 = joined (af_words o.af) y5 2 12 (some-count (codes "-af") printed o.af) h5 in
    let h3 : length y3 ≤ 2 + 14 = joined (vf_words o.vf) y4 2 14 (some-count (codes "-vf") printed o.vf) h4 in
    let h2 : length y2 ≤ 2 + 16 = joined (video_words o.video) y3 2 16 (some-count (codes "-c:v") codec_name o.video) h3 in
    let h1 : length y1 ≤ 2 + 18 = joined (audio_words o.audio) y2 2 18 (some-count (codes "-c:a") codec_name o.audio) h2 in
    omega (arith, length-append (flat_map map_words o.maps) y1, maps-count o.maps, few, h1)

outputs-count : (os : List OutputJob) → AllByRecursion IsFineOutput os → AllByRecursion IsPlainOutput os → length (flat_map output_words os) ≤ 52 * length os
outputs-count [] fine plain = omega arith
outputs-count (o ∷ os) fine plain =
    omega (arith, length-append (output_words o) (flat_map output_words os), output-count o fine.0.few_maps plain.0, outputs-count os fine.1 plain.1)

pub few : (j : Job) → IsFineJob j → AllByRecursion IsPlainOutput j.outputs → length (job_words j) ≤ 1024
few j fine plain =
    let y4 : Words = flat_map output_words j.outputs ++ [] in
    let y3 : Words = flat_map input_words j.inputs ++ y4 in
    let y2 : Words = flat_map graph_words j.graphs ++ y3 in
    let y1 : Words = keeps_words j.keeps ++ y2 in
    let y0 : Words = trace_words j.trace ++ y1 in
    let h4 : length y4 ≤ 832 = omega (arith, length-append (flat_map output_words j.outputs) [], outputs-count j.outputs fine.outputs plain, fine.few_outputs) in
    let h3 : length y3 ≤ 960 = omega (arith, length-append (flat_map input_words j.inputs) y4, inputs-count j.inputs, fine.few_inputs, h4) in
    let h2 : length y2 ≤ 992 = omega (arith, length-append (flat_map graph_words j.graphs) y3, graphs-count j.graphs, fine.few_graphs, h3) in
    let h1 : length y1 ≤ 993 = joined (keeps_words j.keeps) y2 1 992 (true-count (codes "-n") j.keeps) h2 in
    let h0 : length y0 ≤ 995 = joined (trace_words j.trace) y1 2 993 (some-count (codes "-sched_trace") trace_text j.trace) h1 in
    omega (arith, length-append (queue_words j.queue) y0, h0)
