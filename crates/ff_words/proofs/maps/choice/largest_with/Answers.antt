use Rattle.std.proofs.Common.{◌++◌, take, sym, subst, arith}
use Rattle.std.proofs.lemmas.List.{append-nil, take_all}
use Rattle.ff_words.specs.maps.Choice.{IsLargest, numbered}
use Rattle.ff_words.proofs.MapsLemmas.Largest.{stream-step}
use Rattle.ff_words.proofs.maps.choice.largest_with.Goals as goal

pub loop-stream-init : goal.loop-stream-init
loop-stream-init c ss h = subst (λ t. IsLargest c.args.kind t c.args.first) (sym (append-nil ss)) h

pub loop-stream-preserved : goal.loop-stream-preserved
loop-stream-preserved c ss h =
    stream-step c.args.kind ss c.args.input c.loop-stream.stream c.args.heads.now c.index-heads-stream.result c.larger-best.result c.loop-stream-test.true c.index-heads-stream.is
    (c.larger-best.ensures (ss ++ numbered c.args.input 0 (take c.loop-stream.stream c.args.heads.now)) (c.loop-stream.invariant ss h))

pub returns : goal.returns
returns c ss h =
    subst (λ t. IsLargest c.args.kind (ss ++ numbered c.args.input 0 t) c.loop-stream.best) (take_all c.loop-stream.stream c.args.heads.now (omega arith)) (c.loop-stream.invariant ss h)
