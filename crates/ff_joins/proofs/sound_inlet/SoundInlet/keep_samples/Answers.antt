use Rattle.std.proofs.Common.{rules, ◌≡◌, ◌≤◌, ◌+◌, ◌*◌, ◌/◌, ◌++◌, ℕ, ℤ, List, length, take, arith, ap, sym, ◌∙◌}
use Rattle.std.proofs.Math.Nat.{div-mul-le_self}
use Rattle.std.proofs.lemmas.List.{length-take-le}
use Rattle.ff_joins.specs.Joined.{split_rows}
use Rattle.ff_joins.specs.JoinOptions.{channels_of}
use Rattle.ff_joins.proofs.Framing.{keep_long, split_more}
use Rattle.ff_joins.proofs.Outcomes.{on_ok}
use Rattle.ff_joins.proofs.sound_inlet.SoundInlet.keep_samples.Goals as goal

pub invariant_of-self-in-Some : goal.invariant_of-self-in-Some
invariant_of-self-in-Some c =
    let i = c.args.self.now in
    let h = channels_of i.head in
    let more = c.args.more.now in
    let b = c.shared-count.result in
    let said : c.channels-channels.result ≡ h = c.channels-channels.ensures in
    let times : b ≡ length more / h = c.shared-count.ensures ∙ ap (λ (k : ℕ). length more / k) said in
    let few : b * h ≤ length more = let d = div-mul-le_self (length more) h in let e = ap (λ (k : ℕ). k * h) times in omega (arith, d, e) in
    let want : c.samples_in-wanted.result ≡ b * h = c.samples_in-wanted.ensures ∙ ap (λ (k : ℕ). b * k) said in
    let items : c.push.new.self ≡ i.samples ++ take (b * h) more =
    on_ok c.push.result _ (sym c.is_err.ensures.value ∙ c.if-is_err.false) c.push.ensures.ok ∙ ap (λ (k : ℕ). i.samples ++ take k more) want in
    let total : c.in-Some.total ≡ i.count + b = search rules in
    record {
      rows = ap (λ (xs : List ℤ). length xs) items ∙ keep_long i.count b h c.in-Some.total i.samples (take (b * h) more) total i.rows (length-take-le
          (b * h) more few);
    }

pub returns-else-is_err-clause-kept : goal.returns-else-is_err-clause-kept
returns-else-is_err-clause-kept c e =
    let i = c.args.self.now in
    let h = channels_of i.head in
    let more = c.args.more.now in
    let b = c.shared-count.result in
    let said : c.channels-channels.result ≡ h = c.channels-channels.ensures in
    let times : b ≡ length more / h = c.shared-count.ensures ∙ ap (λ (k : ℕ). length more / k) said in
    let few : b * h ≤ length more = let d = div-mul-le_self (length more) h in let e = ap (λ (k : ℕ). k * h) times in omega (arith, d, e) in
    let want : c.samples_in-wanted.result ≡ b * h = c.samples_in-wanted.ensures ∙ ap (λ (k : ℕ). b * k) said in
    let items : c.push.new.self ≡ i.samples ++ take (b * h) more =
    on_ok c.push.result _ (sym c.is_err.ensures.value ∙ c.if-is_err.false) c.push.ensures.ok ∙ ap (λ (k : ℕ). i.samples ++ take k more) want in
    let total : c.in-Some.total ≡ i.count + b = search rules in
    ap (λ (xs : List ℤ). split_rows h c.in-Some.total xs) items
    ∙ (ap (λ (k : ℕ). split_rows h k (i.samples ++ take (b * h) more)) total
    ∙ (split_more h i.count b i.samples more i.rows few ∙ ap (λ (k : ℕ). split_rows h i.count i.samples ++ split_rows h k more) times))
