use Rattle.std.proofs.Common.{◌≡◌, ◌∙◌, Bool, true, false, ◌||◌, nat_lt, length, ap, sym, arith}
use Rattle.std.specs.Prelude.{◌&&◌}
use Rattle.std.proofs.lemmas.Bool.Decides.{nat_tests}
use Rattle.ff_filter.specs.Made.{is_over}
use Rattle.ff_concat.specs.laws.Tracks.{after_at, each_done}
use Rattle.ff_concat.specs.laws.TrackLaws.{concat_spent, concat-spent_only, concat-spent_if}
use Rattle.ff_concat.proofs.Lookups.{after_read}
use Rattle.ff_concat.proofs.concat.Concat.is_spent.Goals as goal
use Rattle.ff_concat.proofs.concat.Concat.is_spent.Goals.{Joined-len-gt0, then-len-gt0, else-len-gt0}

same : (c : Joined-len-gt0) → (c.is_over.result || c.if-len-gt0.result) ≡ concat_spent c.args.self.now c.args.port
same c =
    let m = c.args.self.now in
    let each = each_done m.ticks.items 0 m.tracks.items m.reaches.items in
    let r = is_over (after_at m.reaches.items c.args.port) in
    let shut : c.is_over.result ≡ r = c.is_over.ensures ∙ ap is_over (sym (after_read m.reaches.items c.args.port c.index.result.now c.requires c.index.ensures)) in
    let len = c.len.ensures in
    let long : c.len.result ≡ length m.tracks.items = omega (arith, len) in
    ap (λ (b : Bool). b || c.if-len-gt0.result) shut
    ∙ elim c.if-len-gt0.branch as (λ _. (r || c.if-len-gt0.result) ≡ concat_spent m c.args.port) [
      | then-len-gt0 w ↦ (
          let lt = w.if-len-gt0.true in
          let some : nat_lt 0 (length m.tracks.items) ≡ true = grind (arith, nat_tests) in
          ap (λ (b : Bool). r || b) (w.result-is ∙ w.is_done.ensures) ∙ ap (λ (b : Bool). r || (b && each)) (sym some)
          )
      | else-len-gt0 w ↦ (
          let le = w.if-len-gt0.false in
          let here : nat_lt 0 c.len.result ≡ false = grind (arith, nat_tests) in
          let none : nat_lt 0 (length m.tracks.items) ≡ false = grind (arith, nat_tests) in
          ap (λ (b : Bool). r || b) (w.result-is ∙ here) ∙ ap (λ (b : Bool). r || (b && each)) (sym none)
          )
    ]

pub returns-clause-exact : goal.returns-clause-exact
returns-clause-exact c = (λ e. concat-spent_only c.args.self.now c.args.port (sym (same c) ∙ e), λ s. same c ∙ concat-spent_if c.args.self.now c.args.port s)

pub returns-clause-is : goal.returns-clause-is
returns-clause-is c = same c
