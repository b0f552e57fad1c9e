use Rattle.std.proofs.Common.{sym, ◌∙◌, ap, List, ◌++◌, length, ℕ, Bool, arith, ◌≤◌, ◌≡◌, ◌⊎◌, ◌^◌, inl, inr, zero, suc}
use Rattle.ff_frame.specs.declared.audio.AFrame.{AFrame}
use Rattle.ff_flac_enc.specs.Gathered.{blocks_due}
use Rattle.ff_node_flac.specs.laws.Queues.{AllCutSince}
use Rattle.ff_node_flac.proofs.Gathers.{on_ok}
use Rattle.ff_node_flac.proofs.queue.Queue.refill.Goals as goal

none_or : (n : ℕ) → (n ≡ 0) ⊎ (1 ≤ n)
none_or zero = inl (omega arith)
none_or (suc n) = inr (omega arith)

pub returns-clause-left : goal.returns-clause-left
returns-clause-left g c =
    let mid = c.cut_all.new.self in
    let new = c.code.new.self in
    let all : length new.cut.items ≡ 0 → AllCutSince c.args.self.now new =
    λ none fed done s.
    let still = c.cut_all.ensures.still fed done s in
    let here = c.in_ok-cut_all.ensures.all (ap (λ (xs : List AFrame). length xs) (sym c.code.ensures.cut) ∙ none) fed done still in
    ap (λ (e : Bool). length (blocks_due e fed)) c.code.ensures.ended ∙ (here ∙ ap (λ (xs : List AFrame). length (done ++ xs)) (sym c.code.ensures.cut)) in
    on_ok c.code.result _ _
    (λ h e. elim (h e) as (λ _. ((length new.cut.items ≡ 0) × AllCutSince c.args.self.now new) ⊎ ((1 ≤ length new.cut.items) × (new.given ≡ 2 ^ 31))) [
      | inl none ↦ inl (none, all none)
      | inr full ↦ elim (none_or (length new.cut.items)) [ inl none ↦ inl (none, all none) | inr some ↦ inr (some, full) ]
    ])
    c.code.ensures.left
