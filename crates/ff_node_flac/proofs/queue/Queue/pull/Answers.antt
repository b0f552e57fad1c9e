use Rattle.std.proofs.Common.{rules, subst, ◌∙◌, [], ◌∷◌, ◌++◌, length, Bool, arith, ◌≤◌, ◌≡◌, inl, inr}
use mathlib.Core.List.{IsPrefix}
use Rattle.ff_flac_enc.specs.Gathered.{blocks_due}
use Rattle.ff_node_flac.specs.laws.Queues.{IsTooLong, HasGivenAll}
use Rattle.ff_node_flac.proofs.Gathers.{given_all, no_number}
use Rattle.ff_node_flac.proofs.queue.Queue.pull.Goals as goal

pub returns-then-not-is_empty-clause-long : goal.returns-then-not-is_empty-clause-long
returns-then-not-is_empty-clause-long g c is fed done s =
    let t = c.give.ensures.long is fed done (c.refill.ensures.still fed done s) in
    record { block = t.block; due = subst (λ (e : Bool). IsPrefix (done ++ t.block ∷ []) (blocks_due e fed)) c.refill.ensures.ended t.due; long = t.long }

pub returns-then-is_empty-clause-nothing : goal.returns-then-is_empty-clause-nothing
returns-then-is_empty-clause-nothing g c is fed done s =
    let new = c.refill.new.self in
    let now = c.refill.ensures.still fed done s in
    let none : length new.codes.items ≡ 0 = search rules in
    let gone : length new.cut.items ≡ 0 = search rules in (
      now,
      elim (c.in_ok-refill.ensures.left none) as (λ _. HasGivenAll new fed done) [
        | inl all ↦ given_all new.cut.items done _ now.due gone (all.1 fed done s)
        | inr full ↦ absurd (let f = full.0 in omega (arith, f, gone))
      ],
    )

pub returns-clause-long : goal.returns-clause-long
returns-clause-long g c is fed done s =
    let new = c.refill.new.self in
    let now = c.refill.ensures.still fed done s in
    let none : length new.codes.items ≡ 0 = search rules in
    let some : 1 ≤ length new.cut.items = search rules in
    elim (c.in_ok-refill.ensures.left none) as (λ _. IsTooLong c.args.self.now fed done) [
      | inl all ↦ absurd (let a = all.0 in omega (arith, a, some))
      | inr full ↦ (
          let t = no_number new.cut.items done _ some (now.number ∙ full.1) now.due in
          record { block = t.0; due = subst (λ (e : Bool). IsPrefix (done ++ t.0 ∷ []) (blocks_due e fed)) c.refill.ensures.ended t.1; long = t.2 }
          )
    ]
