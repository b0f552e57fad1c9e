use Rattle.std.proofs.Common.{rules, ◌≡◌, ◌<◌, ◌≤◌, ◌/◌, ℕ, length, to_z, of_z, w32, arith, ap, ◌∙◌}
use Rattle.std.proofs.lemmas.List.{length-set}
use Rattle.ff_afilter.specs.Channels.{channel_of}
use Rattle.ff_afilter.proofs.Picking.{kept_more, kept_left, kept_all, few_enough}
use Rattle.ff_afilter.proofs.channel_split.kept_of.Goals as goal

pub kept-preserved : goal.kept-preserved
kept-preserved c =
    let xs = c.args.samples in
    let ys = c.kept.items.items in
    let same : to_z w32 (of_z w32 c.index.result.now) ≡ c.index.result.now = search rules in
    let count : c.shared-count.result ≡ length xs / c.args.channels = search rules in
    let less : c.kept.k < length xs / c.args.channels = omega (arith, count) in
    let inv = c.kept.invariant in
    let channel = c.args.channel in
    rw same (record {
      size = simp length-set inv.size;
      done = kept_more xs ys c.kept.k c.args.channels channel c.requires less inv.size c.index.result.now c.index.ensures inv.done inv.left;
      left = kept_left xs ys c.kept.k c.args.channels channel c.requires less inv.size c.index.result.now c.index.ensures inv.done inv.left;
    })

pub returns : goal.returns
returns c =
    let xs = c.args.samples in
    let ys = c.kept.items.items in
    let n = c.shared-count.result in
    let count : c.shared-count.result ≡ length xs / c.args.channels = search rules in
    let few : n ≤ length xs = few_enough (length xs) c.args.channels c.args.channel n c.requires count in
    let size : length ys ≡ length xs = c.kept.invariant.size in
    c.new.ensures
    ∙ (c.truncate.ensures.items
    ∙ (kept_all xs ys n c.args.channels c.args.channel (omega (arith, few, size)) (λ j l. c.kept.invariant.done j (omega (arith, l)))
    ∙ ap (λ (k : ℕ). channel_of c.args.channel c.args.channels k xs) count))
