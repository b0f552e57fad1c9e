use Rattle.std.proofs.Common.{◌≡◌, ◌≤◌, ◌+◌, ◌-◌, ◌*◌, ◌/◌, ◌^◌, ◌∙◌, ℕ, Bool, true, false, ◌||◌, nat_lt, ap, sym, arith}
use Rattle.std.proofs.Math.Nat.{mul-le-mul}
use Rattle.std.proofs.lemmas.Bool.Decides.{nat_tests}
use Rattle.ff_frame.specs.Heads.{base_of_head}
use Rattle.ff_concat.specs.laws.Late.{channel_count}
use Rattle.ff_concat.proofs.Limiting.{last_frame, filled_some}
use Rattle.ff_concat.proofs.cutting.zeros_pass.Goals as goal

pub overflow_sub-to : goal.overflow_sub-to
overflow_sub-to c =
    let no = c.if-count-eq0.false in
    let l = (last_frame c.args.head.now c.args.from c.args.to c.frames_between-count.result c.frames_between-count.ensures.is (omega (arith, no))).0 in
    omega (arith, l)

pub overflow_mul-to : goal.overflow_mul-to
overflow_mul-to c =
    let no = c.if-count-eq0.false in
    let l = (last_frame c.args.head.now c.args.from c.args.to c.frames_between-count.result c.frames_between-count.ensures.is (omega (arith, no))).1 in
    let few : c.channels_of-channels.result ≤ 2 ^ 8 = (let f = c.channels_of-channels.ensures.few in omega (arith, f)) in
    let p : (c.args.to - (c.args.from + 1024 * (c.frames_between-count.result - 1))) * c.channels_of-channels.result ≤ 1024 * 2 ^ 8 = mul-le-mul l few in
    omega (arith, p)

pub returns-then-before-count : goal.returns-then-before-count
returns-then-before-count c =
    let no = c.if-count-eq0.false in
    let over = c.if-before-count.true in
    let h = c.args.head.now in
    let n = c.frames_between-count.result in
    let s = c.args.from + 1024 * (n - 1) in
    let late = nat_lt (1000000000 * (base_of_head h).den) ((s + (c.args.to - s) * channel_count h / channel_count h) * (base_of_head h).num) in
    let long : nat_lt (2 ^ 40) (c.args.before + n) ≡ true = grind (arith, nat_tests) in
    long ∙ sym (filled_some h c.args.before c.args.from c.args.to n c.frames_between-count.ensures.is (omega (arith, no)) ∙ ap (λ (b : Bool). b || late) long)

pub returns-else-before-count : goal.returns-else-before-count
returns-else-before-count c =
    let no = c.if-count-eq0.false in
    let few = c.if-before-count.false in
    let h = c.args.head.now in
    let n = c.frames_between-count.result in
    let s = c.args.from + 1024 * (n - 1) in
    let late : ℕ → Bool = λ long. nat_lt (1000000000 * (base_of_head h).den) ((s + long) * (base_of_head h).num) in
    let short : nat_lt (2 ^ 40) (c.args.before + n) ≡ false = grind (arith, nat_tests) in
    let count = c.channels_of-channels.ensures.is in
    sym (filled_some h c.args.before c.args.from c.args.to n c.frames_between-count.ensures.is (omega (arith, no))
    ∙ (ap (λ (b : Bool). b || late ((c.args.to - s) * channel_count h / channel_count h)) short
    ∙ (ap (λ (k : ℕ). late ((c.args.to - s) * k / k)) (sym count)
    ∙ (ap late (sym c.shared-long.ensures) ∙ sym c.ends_past.ensures))))
