-- Nodes whose links lead from one and to one are joined.
use Rattle.std.proofs.Common.{◌≡◌, ℕ, suc, ◌<◌, inl, inr, List, [], ◌∷◌, length, slice_index_or, arith}
use Rattle.ff_stream.specs.declared.item.Lane.{Lane}
use Rattle.ff_net.specs.Pasts.{IsIn}
use Rattle.ff_net.specs.laws.Nodes.{in_wires_of, out_wires_of}
use Rattle.ff_net_threads.specs.declared.links.linked.Linked.{Linked}
use Rattle.ff_net_threads.specs.laws.links.Nodes.{lanes_on}
use Rattle.ff_net_threads.specs.laws.links.Settling.{AreJoined, IsInOf, IsOutOf}
use Rattle.ff_net_threads.specs.laws.network.Networks.{node_at}

module _ {M : Type 0} where
  out_index : (ls : List (Linked M)) (w : ℕ) → IsOutOf ls w → (k : ℕ) × (k < length ls) × ((d : Linked M) → IsIn w (out_wires_of (node_at ls k d)))
  out_index [] w i = absurd i
  out_index (l ∷ ls) w (inl i) = (0, omega arith, λ d. i)
  out_index (l ∷ ls) w (inr i) = (let at = out_index ls w i in (suc at.0, (let below = at.1 in omega (arith, below)), at.2))

  in_index : (ls : List (Linked M)) (w : ℕ) → IsInOf ls w → (k : ℕ) × (k < length ls) × ((d : Linked M) → IsIn w (in_wires_of (node_at ls k d)))
  in_index [] w i = absurd i
  in_index (l ∷ ls) w (inl i) = (0, omega arith, λ d. i)
  in_index (l ∷ ls) w (inr i) = (let at = in_index ls w i in (suc at.0, (let below = at.1 in omega (arith, below)), at.2))

  -- no link leads from two nodes
  abbrev pub OutsApart : List (Linked M) → Type 0
  OutsApart ls = (j k w : ℕ) (d : Linked M) → j < length ls → k < length ls → IsIn w (out_wires_of (node_at ls j d)) → IsIn w (out_wires_of (node_at ls k d)) → j ≡ k

  -- and none to two
  abbrev pub InsApart : List (Linked M) → Type 0
  InsApart ls = (j k w : ℕ) (d : Linked M) → j < length ls → k < length ls → IsIn w (in_wires_of (node_at ls j d)) → IsIn w (in_wires_of (node_at ls k d)) → j ≡ k

  pub joined : (lanes : List Lane) (ls : List (Linked M)) → ((k : ℕ) (d : Linked M) → k < length ls → lanes_on (slice_index_or ls k d) ≡ lanes) → OutsApart ls → InsApart ls → AreJoined lanes ls
  joined lanes [] same outs ins = tt
  joined lanes (l ∷ ls) same outs ins = (
    same 0 l (omega arith),
    λ w o r. (let at = out_index ls w r in let below = at.1 in let no : 0 ≡ suc at.0 = outs 0 (suc at.0) w l (omega arith) (omega (arith, below)) o (at.2 l) in omega (arith, no)),
    λ w o r. (let at = in_index ls w r in let below = at.1 in let no : 0 ≡ suc at.0 = ins 0 (suc at.0) w l (omega arith) (omega (arith, below)) o (at.2 l) in omega (arith, no)),
    joined lanes ls (λ k d lt. same (suc k) d (omega (arith, lt)))
        (λ j k w d jlt klt a b. (let e = outs (suc j) (suc k) w d (omega (arith, jlt)) (omega (arith, klt)) a b in omega (arith, e)))
        (λ j k w d jlt klt a b. (let e = ins (suc j) (suc k) w d (omega (arith, jlt)) (omega (arith, klt)) a b in omega (arith, e))),
  )
