use Rattle.std.proofs.Common.{◌≡◌, ◌<◌, ◌+◌, ◌++◌, ◌∷◌, [], take, List, ℕ, sym, ap, ◌∙◌, append_assoc, vec_items, vec_len, arith}
use Rattle.std.specs.declared.alloc.Global.{Global}
use Rattle.std.specs.declared.vec.Vec.{Vec}
use Rattle.ff_frame.specs.declared.event.Event.TheVariants.{Grant}
use Rattle.ff_run_plan.specs.Reads.{grants_of}
use Rattle.ff_run_plan.proofs.Grants.{still, one_taken, one_passed, all_taken}
use Rattle.ff_run_plan.proofs.reads.first_grants.Goals.{then-len-count+then-is_grant_of+in_ok-push, else-len-count, else-len-count-via-then-len-count+else-is_grant_of, else-len-count-via-else-len-count}
use Rattle.ff_run_plan.proofs.reads.first_grants.Goals as goal

pub loop-at-preserved : goal.loop-at-preserved
loop-at-preserved c =
    let i = c.args.source in
    let count = c.args.count in
    let events = c.args.events.now in
    let at = c.loop-at.at in
    let old = c.loop-at.places in
    let n = vec_len old in
    let lt = c.loop-at-test.true in
    let was = c.loop-at.invariant in
    let len = c.len.ensures in
    elim c.if-len-count.branch [
      | then-len-count+then-is_grant_of+in_ok-push w ↦
          let few : n < count = (let t = w.if-len-count.true in omega (arith, t, len)) in
          let made = w.in_ok-push.ensures.len in
          let granted = sym w.is_grant_of.ensures ∙ w.if-is_grant_of.true in
          let new = w.push.new.self in
          let on : vec_items new ++ still i count (vec_len new) (at + 1) events ≡ take count (grants_of i events) =
          ap (λ (xs : List ℕ). xs ++ still i count (vec_len new) (at + 1) events) w.in_ok-push.ensures.items
          ∙ (ap (λ (k : ℕ). (vec_items old ++ at ∷ []) ++ still i count k (at + 1) events) made
          ∙ (append_assoc (vec_items old) (at ∷ []) (still i count (n + 1) (at + 1) events)
          ∙ (ap (λ (xs : List ℕ). vec_items old ++ xs) (sym (one_taken i count n at events (Grant 0) lt few granted)) ∙ was.so_far))) in
          let is = ap vec_len w.places-is in record { few = omega (arith, made, few, is); so_far = ap (λ (v : Vec ℕ Global). vec_items v ++ still i count (vec_len v) (at + 1) events) w.places-is ∙ on }
      | else-len-count w ↦
          let passed : still i count n at events ≡ still i count n (at + 1) events = elim w.else-len-count.branch [
            | else-len-count-via-then-len-count+else-is_grant_of v ↦ one_passed i count n at events (Grant 0) lt (sym v.is_grant_of.ensures ∙ v.if-is_grant_of.false)
            | else-len-count-via-else-len-count v ↦ all_taken i count n at events (Grant 0) lt (let t = v.if-len-count.false in omega (arith, t, len))
          ] in
          let same = w.places-is in
          let is = ap vec_len same in
          let few = was.few in record {
            few = omega (arith, is, few);
            so_far = ap (λ (v : Vec ℕ Global). vec_items v ++ still i count (vec_len v) (at + 1) events) same ∙ (ap (λ (xs : List ℕ). vec_items old ++ xs) (sym passed) ∙ was.so_far);
          }
    ]
