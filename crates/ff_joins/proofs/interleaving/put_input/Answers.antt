use Rattle.std.proofs.Common.{◌≡◌, ◌+◌, ◌*◌, ◌++◌, ℕ, ℤ, List, take, drop, arith, ap, sym, ◌∙◌, append_assoc}
use Rattle.std.proofs.lemmas.List.{drop-drop}
use Rattle.std.proofs.Math.Seq.{take-add}
use Rattle.ff_joins.specs.JoinOptions.{channels_of}
use Rattle.ff_joins.proofs.interleaving.put_input.Goals as goal

pub channels-preserved : goal.channels-preserved
channels-preserved c =
    let i = c.args.inlet.now in
    let n = channels_of i.head in
    let wide = c.args.wide in
    let column = c.args.column in
    let channel = c.channels.channel in
    let old : ℕ → List ℤ = λ r. take column (drop (r * wide) c.args.out.now) in
    let kept : ℕ → List ℤ = λ r. drop (r * n) i.samples in
    let last : ℕ → List ℤ = λ r. take 1 (drop (r * n + channel) i.samples) in
    let e : column + (channel + 1) ≡ column + channel + 1 = omega arith in
    let next : (r : ℕ) → take (channel + 1) (kept r) ≡ take channel (kept r) ++ last r =
    (λ r. take-add channel 1 (kept r) ∙ ap (λ (zs : List ℤ). take channel (kept r) ++ take 1 zs) (drop-drop channel (r * n) i.samples)) in
    record {
      len = c.put_channel.ensures.len ∙ c.channels.invariant.len;
      done = λ r lt. ap (λ (m : ℕ). take m (drop (r * wide) c.put_channel.new.out)) e
          ∙ (c.put_channel.ensures.rows r lt
          ∙ (ap (λ (zs : List ℤ). zs ++ last r) (c.channels.invariant.done r lt)
          ∙ (append_assoc (old r) (take channel (kept r)) (last r) ∙ ap (λ (zs : List ℤ). old r ++ zs) (sym (next r)))));
    }
