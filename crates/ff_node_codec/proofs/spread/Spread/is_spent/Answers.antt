use Rattle.std.proofs.Common.{◌≡◌, ◌↔◌, ◌⊎◌, ℕ, Bool, true, false, not, IsTrue, Option, None, Some, inl, inr, refl, sym, ◌∙◌, length, rules}
use Rattle.std.specs.Option.{is_some}
use Rattle.ff_node_codec.specs.laws.Lines.{line_at}
use Rattle.ff_node_codec.specs.laws.Puts.{IsLast}
use Rattle.ff_node_codec.specs.Spreads.{AllStopped}
use Rattle.ff_node_codec.proofs.spread.Spread.is_spent.Goals as goal

decide : (o : Option ℕ) (r : Bool) (A : Type 0) → is_some o ≡ not r → (o ≡ None → A) → ((k : ℕ) → o ≡ Some k → A → ⊥) → IsTrue r ↔ A
decide None true A e n s = (λ t. n refl, λ a. search rules)
decide None false A e n s = cc
decide (Some k) true A e n s = cc
decide (Some k) false A e n s = (λ t. absurd (search rules), λ a. absurd (s k refl a))

clash : (b : Bool) → b ≡ true → b ≡ false → ⊥
clash b t e = let c : true ≡ false = sym t ∙ e in cc

pub returns : goal.returns
returns c =
    let m = c.args.self.now in
    let n = length m.outs.items in
    let lines = line_at m.outs.items in
    decide c.last_wanted.result c.is_none.result ((m.closed ≡ true) ⊎ AllStopped n lines) c.is_none.ensures
    (λ e. inr (c.last_wanted.ensures.none e))
    (λ k e a. elim a as (λ _. ⊥) [
      | inl t ↦ clash m.closed t c.if-self.false
      | inr all ↦ (let last : IsLast m.outs.items k = c.last_wanted.ensures.last k e in clash (lines k).stopped (all k last.there) last.wanted)
    ])
