use Rattle.std.proofs.Common.{◌≡◌, ◌+◌, ℕ, [], ◌∷◌, ◌++◌, length, ap, ◌∙◌, arith, length-append}
use Rattle.ff_node_flac.proofs.Coded.{one_more}
use Rattle.ff_node_flac.proofs.in_order.InOrderCoder.code.Goals as goal

pub loop-i-preserved : goal.loop-i-preserved
loop-i-preserved c =
    let pushed : c.push.new.self.items ≡ c.loop-i.codes.items ++ c.in_ok-bytes.bytes ∷ [] = c.in_ok-push.ensures.items in
    let many : length c.push.new.self.items ≡ c.loop-i.i + 1 =
    ap length pushed ∙ (length-append c.loop-i.codes.items (c.in_ok-bytes.bytes ∷ []) ∙ ap (λ (n : ℕ). n + 1) c.loop-i.invariant.0) in (
      many,
      one_more c.args.blocks.now c.loop-i.codes.items c.push.new.self.items c.in_ok-bytes.bytes c.index-blocks-i.result c.args.first c.loop-i.i
          c.loop-i-test.true c.loop-i.invariant.0 pushed c.index-blocks-i.is c.in_ok-bytes.ensures c.loop-i.invariant.1,
    )

pub returns : goal.returns
returns c =
    let all : c.loop-i.i ≡ length c.args.blocks.now = omega (arith, c.loop-i-test.false, c.loop-i.auto.i-end) in (
      c.loop-i.invariant.0 ∙ all,
      λ k e lt. c.loop-i.invariant.1 k e (omega (arith, all, lt)),
    )
