use Rattle.std.proofs.Common.{rules, ◌≡◌, ◌≤◌, ◌*◌, ◌/◌, ℕ, ℤ, List, length, take, arith, ap, ◌∙◌}
use Rattle.std.proofs.Math.Nat.{div-mul-le_self}
use Rattle.ff_joins.specs.Joined.{split_rows}
use Rattle.ff_joins.specs.JoinOptions.{channels_of}
use Rattle.ff_joins.proofs.Framing.{split_front}
use Rattle.ff_joins.proofs.sound_inlet.SoundInlet.replace_samples.Goals as goal

pub returns-clause-kept : goal.returns-clause-kept
returns-clause-kept c =
    let h = channels_of c.args.self.now.head in
    let xs = c.args.samples.items in
    let b = c.shared-count.result in
    let said : c.channels-channels.result ≡ h = c.channels-channels.ensures in
    let size : c.len.result ≡ length xs = search rules in
    let times : b ≡ length xs / h = c.shared-count.ensures ∙ (ap (λ (k : ℕ). k / c.channels-channels.result) size ∙ ap (λ (k : ℕ). length xs / k) said) in
    let few : b * h ≤ length xs = let d = div-mul-le_self (length xs) h in let e = ap (λ (k : ℕ). k * h) times in omega (arith, d, e) in
    let want : c.samples_in-wanted.result ≡ b * h = c.samples_in-wanted.ensures ∙ ap (λ (k : ℕ). b * k) said in
    let items : c.replace.new.self ≡ take (b * h) xs = c.replace.ensures ∙ (c.truncate.ensures.items ∙ ap (λ (k : ℕ). take k xs) want) in
    ap (λ (ys : List ℤ). split_rows h b ys) items ∙ (split_front h b xs few ∙ ap (λ (k : ℕ). split_rows h k xs) times)
