-- The best choice of streams is the first of the heaviest.
use Rattle.std.proofs.Common.{◌≡◌, ℕ, ◌<◌, ◌≤◌, Bool, true, false, List, [], ◌∷◌, ◌++◌, Option, Some, None, nat_lt, refl, sym, ap, ◌∙◌, arith}
use Rattle.std.specs.Prelude.{if◌then◌else◌, option_to_list}
use Rattle.std.specs.List.{AllByRecursion}
use Rattle.std.proofs.lemmas.Bool.Decides.{nat_tests}
use Rattle.ff_frame.specs.declared.head.StreamHead.{StreamHead}
use Rattle.ff_words.specs.declared.maps.map.Kind.{Kind}
use Rattle.ff_words.specs.declared.maps.map.Kind.TheVariants as kind
use Rattle.ff_words.specs.declared.maps.streams.Stream.{Stream}
use Rattle.ff_words.specs.declared.maps.streams.StreamRef.{StreamRef}
use Rattle.ff_words.specs.maps.Choice.{all_streams, of_kind, places, size, IsLargest, IsChoice, AreBest}
use Rattle.ff_plan_layout.specs.Choice.{heaviest_from, heaviest, best_of_kind, best}

abbrev IsBelow : Stream → Stream → Type 0
IsBelow best s = size s.head < size best.head

abbrev IsAtMost : Stream → Stream → Type 0
IsAtMost best s = size s.head ≤ size best.head

not_above : (a b : ℕ) → b ≤ a → nat_lt a b ≡ false
not_above a b le = grind (arith, nat_tests)

is_above : (a b : ℕ) → a < b → nat_lt a b ≡ true
is_above a b lt = grind (arith, nat_tests)

stays : (best : Stream) (ss : List Stream) → AllByRecursion (IsAtMost best) ss → heaviest_from best ss ≡ best
stays best [] all = refl
stays best (s ∷ ss) all = ap (λ (b : Bool). heaviest_from (if b then s else best) ss) (not_above (size best.head) (size s.head) all.0) ∙ stays best ss all.1

either_way : (best s first : Stream) (ss : List Stream) (b : Bool) → heaviest_from s ss ≡ best → heaviest_from first ss ≡ best → heaviest_from (if b then s else first) ss ≡ best
either_way best s first ss true h g = h
either_way best s first ss false h g = g

grows : (first : Stream) (before : List Stream) (best : Stream) (behind : List Stream) → IsBelow best first → AllByRecursion (IsBelow best) before → AllByRecursion (IsAtMost best) behind
    → heaviest_from first (before ++ best ∷ behind) ≡ best
grows first [] best behind lt low most = ap (λ (b : Bool). heaviest_from (if b then best else first) behind) (is_above (size first.head) (size best.head) lt) ∙ stays best behind most
grows first (s ∷ before) best behind lt low most =
    either_way best s first (before ++ best ∷ behind) (nat_lt (size first.head) (size s.head)) (grows s before best behind low.0 low.1 most) (grows first before best behind lt low.1 most)

largest : (before : List Stream) (best : Stream) (behind : List Stream) → AllByRecursion (IsBelow best) before → AllByRecursion (IsAtMost best) behind → heaviest (before ++ best ∷ behind) ≡ Some best
largest [] best behind low most = ap Some (stays best behind most)
largest (s ∷ before) best behind low most = ap Some (grows s before best behind low.0 low.1 most)

choice_is : (k : Kind) (ss : List Stream) (chosen : Option Stream) → IsLargest k ss chosen → heaviest (of_kind k ss) ≡ chosen
choice_is k ss None h = ap heaviest h
choice_is k ss (Some b) h = ap heaviest h.2 ∙ largest h.0 b h.1 h.3 h.4

wanted_is : (heads : List (List StreamHead)) (k : Kind) (wanted : Bool) (chosen : Option Stream) → IsChoice wanted k (all_streams heads) chosen → best_of_kind heads k wanted ≡ chosen
wanted_is heads k true chosen h = choice_is k (all_streams heads) chosen h
wanted_is heads k false chosen h = sym h

pub best_is : (video audio : Bool) (heads : List (List StreamHead)) (refs : List StreamRef) → AreBest video audio heads refs → best heads video audio ≡ refs
best_is video audio heads refs h =
    ap (λ (v : Option Stream). places (option_to_list v ++ option_to_list (best_of_kind heads kind.Audio audio))) (wanted_is heads kind.Video video h.0 h.2)
    ∙ (ap (λ (a : Option Stream). places (option_to_list h.0 ++ option_to_list a)) (wanted_is heads kind.Audio audio h.1 h.3) ∙ sym h.4)
