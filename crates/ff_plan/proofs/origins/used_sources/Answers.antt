use Rattle.std.proofs.Common.{◌≡◌, ℕ, ◌+◌, List, [], ◌∷◌, ◌++◌, drop, sym, ap, ◌∙◌, arith}
use Rattle.std.specs.List.{filter, list_any}
use Rattle.ff_frame.specs.declared.head.StreamHead.{StreamHead}
use Rattle.ff_source.specs.declared.made.Made.{Made}
use Rattle.ff_source.specs.Sources.{head_of}
use Rattle.ff_words.specs.declared.maps.streams.Stream.{Stream}
use Rattle.ff_words.specs.maps.Choice.{stream_at}
use Rattle.ff_plan_layout.specs.Layout.{shows}
use Rattle.ff_plan_layout.specs.Sources.{source_streams}
use Rattle.ff_plan_layout.proofs.Filters.{filter_next}
use Rattle.ff_plan_layout.proofs.Fronts.{drop_next}
use Rattle.ff_plan.proofs.origins.used_sources.Goals as goal

pub loop-number-preserved : goal.loop-number-preserved
loop-number-preserved c =
    let origins = c.args.origins.now in
    let inputs = c.args.inputs in
    let made = c.args.made.now in
    let n = c.loop-number.number in
    let x = c.index-made-number.result in
    let front = c.loop-number.used.items in
    let rest = drop (n + 1) made in
    let kept : Stream → _ = λ (s : Stream). list_any (shows s.at) origins in
    let here : drop n made ≡ x ∷ rest = drop_next made n x c.loop-number-test.true ∙ ap (λ (y : Made). y ∷ rest) (sym c.index-made-number.is) in
    let own : c.stream_at-stream.result ≡ stream_at (inputs + n) 0 (head_of x) = c.stream_at-stream.ensures ∙ ap (λ (h : StreamHead). stream_at (inputs + n) 0 h) c.head.ensures in
    let e : c.add_shown.new.used.items ≡ front ++ filter kept (stream_at (inputs + n) 0 (head_of x) ∷ []) =
    c.in_ok-add_shown.ensures ∙ ap (λ (s : Stream). front ++ filter kept (s ∷ [])) own in
    let whole = filter kept (source_streams inputs made) in
    let all : c.add_shown.new.used.items ++ filter kept (source_streams (inputs + n + 1) rest) ≡ whole =
    filter_next kept front c.add_shown.new.used.items (stream_at (inputs + n) 0 (head_of x)) (source_streams (inputs + n + 1) rest) whole e
    (ap (λ (ms : List Made). front ++ filter kept (source_streams (inputs + n) ms)) (sym here) ∙ c.loop-number.invariant) in
    ap (λ (k : ℕ). c.add_shown.new.used.items ++ filter kept (source_streams k rest)) (let k : inputs + (n + 1) ≡ inputs + n + 1 = omega arith in k) ∙ all
