-- Five nodes on five wires.
use Rattle.std.proofs.Common.{◌≡◌, ◌≢◌, ℕ, zero, suc, ◌+◌, ◌<◌, List, [], ◌∷◌, map, length, slice_index_or, refl, ap, sym, ◌∙◌, subst, arith, inl, inr, Some}
use Rattle.ff_stream.specs.declared.item.Lane.{Lane}
use Rattle.ff_net.specs.declared.node.Node.{Node}
use Rattle.ff_net.specs.declared.wires.Wires.{Wires}
use Rattle.ff_net.specs.Pasts.{IsIn}
use Rattle.ff_net.specs.Ways.{lane_at}
use Rattle.ff_net.specs.laws.Worlds.{lanes_of}
use Rattle.ff_net.specs.laws.Nodes.{AreApart, HaveLanes, IsOf, IsShaped, in_wires_of, out_wires_of}
use Rattle.ff_net.specs.laws.Serial.{AreOf, AreShaped}
use Rattle.ff_sched.specs.laws.Passing.{Scheduler}
use Rattle.ff_test_machines.specs.declared.plain.Plain.{Plain}
use Rattle.ff_test_machines.specs.Plains.{plain_view}
use Rattle.ff_test_machines.specs.Networks.{Fits}

-- the node to which a wire leads, and that which it leaves
abbrev leads_to : ℕ → ℕ
leads_to zero = 1
leads_to (suc zero) = 2
leads_to (suc (suc zero)) = 3
leads_to (suc (suc (suc zero))) = 3
leads_to (suc (suc (suc (suc w)))) = 4

abbrev leaves : ℕ → ℕ
leaves zero = 0
leaves (suc zero) = 1
leaves (suc (suc zero)) = 1
leaves (suc (suc (suc zero))) = 2
leaves (suc (suc (suc (suc w)))) = 3

abbrev AllAre : (ℕ → ℕ) → ℕ → List ℕ → Type 0
AllAre node k [] = Unit {0}
AllAre node k (w ∷ ws) = (node w ≡ k) × AllAre node k ws

are_in : (node : ℕ → ℕ) (k : ℕ) (ws : List ℕ) (w : ℕ) → AllAre node k ws → IsIn w ws → node w ≡ k
are_in node k [] w a i = absurd i
are_in node k (x ∷ ws) w a (inl e) = subst (λ (v : ℕ). node v ≡ k) e a.0
are_in node k (x ∷ ws) w a (inr i) = are_in node k ws w a.1 i

abbrev Owned : (ℕ → ℕ) → (Node Plain → List ℕ) → ℕ → List (Node Plain) → Type 0
Owned node wires k [] = Unit {0}
Owned node wires k (n ∷ ns) = AllAre node k (wires n) × Owned node wires (suc k) ns

owned_at : (node : ℕ → ℕ) (wires : Node Plain → List ℕ) (k : ℕ) (ns : List (Node Plain)) → Owned node wires k ns → (j w : ℕ) (d : Node Plain) → j < length ns → IsIn w (wires (slice_index_or ns j d)) → node w ≡ k + j
owned_at node wires k [] o j w d lt i = absurd (omega arith)
owned_at node wires k (n ∷ ns) o zero w d lt i = (let e : node w ≡ k = are_in node k (wires n) w o.0 i in omega (arith, e))
owned_at node wires k (n ∷ ns) o (suc j) w d lt i = (let e : node w ≡ suc k + j = owned_at node wires (suc k) ns o.1 j w d (omega arith) i in omega (arith, e))

owned_apart : (node : ℕ → ℕ) (wires : Node Plain → List ℕ) (ns : List (Node Plain)) → Owned node wires 0 ns → (j k w : ℕ) (d : Node Plain) → j < length ns → k < length ns → IsIn w (wires (slice_index_or ns j d)) → IsIn w (wires (slice_index_or ns k d)) → j ≡ k
owned_apart node wires ns o j k w d jlt klt a b =
    let e : node w ≡ 0 + j = owned_at node wires 0 ns o j w d jlt a in
    let f : node w ≡ 0 + k = owned_at node wires 0 ns o k w d klt b in
    omega (arith, e, f)

abbrev EachOf : (Node Plain → Type 0) → List (Node Plain) → Type 0
EachOf P [] = Unit {0}
EachOf P (n ∷ ns) = P n × EachOf P ns

each_at : (P : Node Plain → Type 0) (ns : List (Node Plain)) → EachOf P ns → (k : ℕ) (d : Node Plain) → k < length ns → P (slice_index_or ns k d)
each_at P [] e k d lt = absurd (omega arith)
each_at P (n ∷ ns) e zero d lt = e.0
each_at P (n ∷ ns) e (suc k) d lt = each_at P ns e.1 k d (omega arith)

pub no_wires : AreApart []
no_wires p q plt qlt same = absurd (omega arith)

pub one_wire : (a : ℕ) → AreApart (a ∷ [])
one_wire a p q plt qlt same = omega (arith, plt, qlt)

two_wires : (a b : ℕ) → a ≢ b → AreApart (a ∷ b ∷ [])
two_wires a b n zero zero plt qlt same = refl
two_wires a b n zero (suc zero) plt qlt same = absurd (n same)
two_wires a b n (suc zero) zero plt qlt same = absurd (n (sym same))
two_wires a b n (suc zero) (suc zero) plt qlt same = refl
two_wires a b n (suc (suc p)) q plt qlt same = absurd (omega arith)
two_wires a b n zero (suc (suc q)) plt qlt same = absurd (omega arith)
two_wires a b n (suc zero) (suc (suc q)) plt qlt same = absurd (omega arith)

pub have : (ws : List ℕ) (l : Lane) (lanes : List Lane) → map (lane_at lanes) ws ≡ map (λ w. Some l) ws → AreApart ws → HaveLanes ws (map (λ w. l) ws) lanes
have ws l lanes e a = record { lanes_are = e ∙ sym (each_some ws); apart = a }
  where
    each_some : (vs : List ℕ) → map Some (map (λ w. l) vs) ≡ map (λ w. Some l) vs
    each_some [] = refl
    each_some (v ∷ vs) = ap (λ os. Some l ∷ os) (each_some vs)

pub fits_shaped : (l : Lane) (ins outs : List ℕ) (node : Node Plain) (wires : Wires) → Fits l ins outs node → HaveLanes ins (map (λ w. l) ins) (lanes_of wires) → HaveLanes outs (map (λ w. l) outs) (lanes_of wires) → IsShaped plain_view node wires
fits_shaped l ins outs node wires f i o = record {
  ins = subst (λ (ws : List ℕ). HaveLanes ws (plain_view node.machine).in_lanes (lanes_of wires)) (sym f.ins_are) (subst (λ (ls : List Lane). HaveLanes ins ls (lanes_of wires)) (sym f.in_lanes_are) i);
  outs = subst (λ (ws : List ℕ). HaveLanes ws (plain_view node.machine).out_lanes (lanes_of wires)) (sym f.outs_are) (subst (λ (ls : List Lane). HaveLanes outs ls (lanes_of wires)) (sym f.out_lanes_are) o);
}

module _ (a b c d e : Node Plain) (wires : Wires) (l : Lane) (lanes : lanes_of wires ≡ l ∷ l ∷ l ∷ l ∷ l ∷ []) (fa : Fits l [] (0 ∷ []) a) (fb : Fits l (0 ∷ []) (1 ∷ 2 ∷ []) b) (fc : Fits l (1 ∷ []) (3 ∷ []) c) (fd : Fits l (3 ∷ 2 ∷ []) (4 ∷ []) d) (fe : Fits l (4 ∷ []) [] e) where
  abbrev five_lanes : List Lane
  five_lanes = l ∷ l ∷ l ∷ l ∷ l ∷ []

  on : (ws : List ℕ) → map (lane_at five_lanes) ws ≡ map (λ w. Some l) ws → AreApart ws → HaveLanes ws (map (λ w. l) ws) (lanes_of wires)
  on ws same apart = subst (λ (ls : List Lane). HaveLanes ws (map (λ w. l) ws) ls) (sym lanes) (have ws l five_lanes same apart)

  five_each : EachOf (λ n. IsShaped plain_view n wires) (a ∷ b ∷ c ∷ d ∷ e ∷ [])
  five_each = (
    fits_shaped l [] (0 ∷ []) a wires fa (on [] refl no_wires) (on (0 ∷ []) refl (one_wire 0)),
    (
      fits_shaped l (0 ∷ []) (1 ∷ 2 ∷ []) b wires fb (on (0 ∷ []) refl (one_wire 0)) (on (1 ∷ 2 ∷ []) refl (two_wires 1 2 (omega arith))),
      (
        fits_shaped l (1 ∷ []) (3 ∷ []) c wires fc (on (1 ∷ []) refl (one_wire 1)) (on (3 ∷ []) refl (one_wire 3)),
        (
          fits_shaped l (3 ∷ 2 ∷ []) (4 ∷ []) d wires fd (on (3 ∷ 2 ∷ []) refl (two_wires 3 2 (omega arith))) (on (4 ∷ []) refl (one_wire 4)),
          (fits_shaped l (4 ∷ []) [] e wires fe (on (4 ∷ []) refl (one_wire 4)) (on [] refl no_wires), tt),
        ),
      ),
    ),
  )

  are : (node : ℕ → ℕ) (k : ℕ) (ws vs : List ℕ) → ws ≡ vs → AllAre node k vs → AllAre node k ws
  are node k ws vs same h = subst (λ (us : List ℕ). AllAre node k us) (sym same) h

  five_in : Owned leads_to (λ n. in_wires_of n) 0 (a ∷ b ∷ c ∷ d ∷ e ∷ [])
  five_in = (
    are leads_to 0 (in_wires_of a) [] fa.ins_are tt,
    (
      are leads_to 1 (in_wires_of b) (0 ∷ []) fb.ins_are (refl, tt),
      (
        are leads_to 2 (in_wires_of c) (1 ∷ []) fc.ins_are (refl, tt),
        (
          are leads_to 3 (in_wires_of d) (3 ∷ 2 ∷ []) fd.ins_are (refl, (refl, tt)),
          (are leads_to 4 (in_wires_of e) (4 ∷ []) fe.ins_are (refl, tt), tt),
        ),
      ),
    ),
  )

  five_out : Owned leaves (λ n. out_wires_of n) 0 (a ∷ b ∷ c ∷ d ∷ e ∷ [])
  five_out = (
    are leaves 0 (out_wires_of a) (0 ∷ []) fa.outs_are (refl, tt),
    (
      are leaves 1 (out_wires_of b) (1 ∷ 2 ∷ []) fb.outs_are (refl, (refl, tt)),
      (
        are leaves 2 (out_wires_of c) (3 ∷ []) fc.outs_are (refl, tt),
        (
          are leaves 3 (out_wires_of d) (4 ∷ []) fd.outs_are (refl, tt),
          (are leaves 4 (out_wires_of e) [] fe.outs_are tt, tt),
        ),
      ),
    ),
  )

  pub five_shaped : (nodes : List (Node Plain)) → nodes ≡ a ∷ b ∷ c ∷ d ∷ e ∷ [] → AreShaped plain_view nodes wires
  five_shaped nodes is = subst (λ (ns : List (Node Plain)). AreShaped plain_view ns wires) (sym is) record {
    each = each_at (λ n. IsShaped plain_view n wires) (a ∷ b ∷ c ∷ d ∷ e ∷ []) five_each;
    ins_apart = owned_apart leads_to (λ n. in_wires_of n) (a ∷ b ∷ c ∷ d ∷ e ∷ []) five_in;
    outs_apart = owned_apart leaves (λ n. out_wires_of n) (a ∷ b ∷ c ∷ d ∷ e ∷ []) five_out;
  }

-- five nodes whose passes are of one cell
pub five_of : (cell : Scheduler) (a b c d e : Node Plain) → IsOf plain_view cell a → IsOf plain_view cell b → IsOf plain_view cell c → IsOf plain_view cell d → IsOf plain_view cell e → AreOf plain_view cell (a ∷ b ∷ c ∷ d ∷ e ∷ [])
five_of cell a b c d e v w x y z = each_at (λ n. IsOf plain_view cell n) (a ∷ b ∷ c ∷ d ∷ e ∷ []) (v, (w, (x, (y, (z, tt)))))
