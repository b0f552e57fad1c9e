use Rattle.std.proofs.Common.{◌≡◌, ◌+◌, ◌^◌, ◌∙◌, ℕ, Bool, true, false, ◌||◌, nat_lt, nat_le, length, List, ap, sym, arith}
use Rattle.std.proofs.lemmas.Bool.Decides.{nat_tests}
use Rattle.ff_stream.specs.declared.item.Item.{Item}
use Rattle.ff_concat.specs.laws.Late.{some_late}
use Rattle.ff_concat.specs.laws.Queues.{queue_at}
use Rattle.ff_concat.proofs.Limiting.{queue_some, queue_none}
use Rattle.ff_concat.proofs.Lookups.{queue_read, least_read}
use Rattle.ff_concat.proofs.track.Track.items_pass.Goals as goal

pub returns-then-count-eq0 : goal.returns-then-count-eq0
returns-then-count-eq0 c =
    let t = c.args.self.now in
    let k = c.args.segment in
    let long : length (queue_at t.backlogs.items k) ≡ c.len-count.result =
    ap (λ (xs : List Item). length xs) (queue_read t.backlogs.items k c.index-backlog.result.now c.requires.there c.index-backlog.ensures) ∙ sym c.len-count.ensures in
    sym (queue_none t.head c.args.by c.args.before (queue_at t.backlogs.items k) (long ∙ c.if-count-eq0.true))

pub returns-then-before-count : goal.returns-then-before-count
returns-then-before-count c =
    let t = c.args.self.now in
    let k = c.args.segment in
    let xs = queue_at t.backlogs.items k in
    let long : length xs ≡ c.len-count.result =
    ap (λ (ys : List Item). length ys) (queue_read t.backlogs.items k c.index-backlog.result.now c.requires.there c.index-backlog.ensures) ∙ sym c.len-count.ensures in
    let no = c.if-count-eq0.false in
    let over = c.if-before-count.true in
    let high : nat_lt (2 ^ 40) (c.args.before + c.len-count.result) ≡ true = grind (arith, nat_tests) in
    high ∙ sym (queue_some t.head c.args.by c.args.before xs (omega (arith, no, long))
    ∙ (ap (λ (n : ℕ). nat_lt (2 ^ 40) (c.args.before + n) || some_late t.head c.args.by xs) long
    ∙ ap (λ (b : Bool). b || some_late t.head c.args.by xs) high))

pub returns-else-before-count : goal.returns-else-before-count
returns-else-before-count c =
    let t = c.args.self.now in
    let k = c.args.segment in
    let xs = queue_at t.backlogs.items k in
    let long : length xs ≡ c.len-count.result =
    ap (λ (ys : List Item). length ys) (queue_read t.backlogs.items k c.index-backlog.result.now c.requires.there c.index-backlog.ensures) ∙ sym c.len-count.ensures in
    let no = c.if-count-eq0.false in
    let few = c.if-before-count.false in
    let low : nat_lt (2 ^ 40) (c.args.before + c.len-count.result) ≡ false = grind (arith, nat_tests) in
    let least = least_read t.backlogs.items k c.index-backlog.result.now c.requires.there c.index-backlog.ensures in
    sym (queue_some t.head c.args.by c.args.before xs (omega (arith, no, long))
    ∙ (ap (λ (n : ℕ). nat_lt (2 ^ 40) (c.args.before + n) || some_late t.head c.args.by xs) long
    ∙ (ap (λ (b : Bool). b || some_late t.head c.args.by xs) low
    ∙ (sym (t.told c.requires.«open» k c.args.by c.requires.from c.requires.there c.requires.by c.requires.here)
    ∙ ap (λ (n : ℕ). nat_le n c.args.by) least))))
