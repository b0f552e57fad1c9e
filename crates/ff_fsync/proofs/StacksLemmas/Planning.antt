-- A stack by its arguments and heads.
use Rattle.std.specs.Prelude.{◌≡◌, ◌≢◌, ℕ, ◌≤◌, Bool, true, false, ◌&&◌, cond, nat_le, nat_eq, Option, None, Some, is_some, List, [], ◌∷◌, length, Result, Ok, Err, refl}
use Rattle.std.proofs.Common.{inr, ap, sym, ◌∙◌, subst, arith, get_or}
use Rattle.std.proofs.lemmas.Bool.{and_parts, and_from, ne_eqb, eq-eqb, leb-true}
use Rattle.ff_frame.specs.Sizes.{is_side}
use Rattle.ff_time.specs.Fraction.{Fraction}
use Rattle.ff_time.specs.Common.{IsCommonOf}
use Rattle.ff_time.proofs.CommonBases.{common_once}
use Rattle.ff_frame.specs.declared.config.ConfigError.{ConfigError}
use Rattle.ff_frame.specs.declared.config.ConfigError.TheVariants.{Pads, Kind, Mismatch, BadSize}
use Rattle.ff_frame.specs.declared.head.StreamHead.{StreamHead}
use Rattle.ff_frame.specs.declared.head.StreamHead.TheVariants.{Audio, Video}
use Rattle.ff_frame.specs.Heads.{base_of_head}
use Rattle.ff_frame.specs.Video.{IsSide}
use Rattle.ff_stream.specs.Times.{with_base}
use Rattle.ff_lang.specs.declared.graph.Arg.{Arg}
use Rattle.ff_filter.specs.Options.{is_video, AreRead, IsMade, IsRefused}
use Rattle.ff_filter.specs.Views.{View}
use Rattle.ff_fsync.specs.Synced.{each_of}
use Rattle.ff_fsync.specs.declared.stacks.options.StackSettings.{StackSettings}
use Rattle.ff_fsync.specs.declared.stacks.plan.Plan.{Plan}
use Rattle.ff_fsync.specs.declared.stacks.shape.Direction.{Direction}
use Rattle.ff_fsync.specs.declared.stacks.shape.Direction.TheVariants.{Beside, Below}
use Rattle.ff_fsync.specs.stacks.CommonBases.{common_of}
use Rattle.ff_fsync.proofs.StacksLemmas.Bases.{common_of_is}
use Rattle.ff_fsync.specs.stacks.Bases.{bases_of, base_or, in_common, has_common}
use Rattle.ff_fsync.specs.stacks.Heads.{size_across, total, all_on_grid, has_size, are_alike, with_length}
use Rattle.ff_fsync.specs.stacks.Options.{stack_manual, counted}
use Rattle.ff_fsync.specs.stacks.Shapes.{shape_of}
use Rattle.ff_fsync.specs.stacks.Stacks.{StackOf, Unless, stack_on, AfterRead, IsPlanned, IsStack, stack_view, stack_by, planned_by, head_of}

module _ {X : Type 0} (a b : Bool) (e f : ConfigError) (r : Result X ConfigError) (O : Type 0) where
  -- the first of two tests fails, the second does, or none
  first_fault : a ≡ false → r ≡ Err e → Unless (cond a (cond b None (Some f)) (Some e)) r O
  first_fault n is = subst (λ c. Unless (cond c (cond b None (Some f)) (Some e)) r O) (sym n) is

  second_fault : a ≡ true → b ≡ false → r ≡ Err f → Unless (cond a (cond b None (Some f)) (Some e)) r O
  second_fault y n is = subst (λ c. Unless (cond c (cond b None (Some f)) (Some e)) r O) (sym y) (subst (λ c. Unless (cond c None (Some f)) r O) (sym n) is)

  no_fault : a ≡ true → b ≡ true → O → Unless (cond a (cond b None (Some f)) (Some e)) r O
  no_fault y z o = subst (λ c. Unless (cond c (cond b None (Some f)) (Some e)) r O) (sym y) (subst (λ c. Unless (cond c None (Some f)) r O) (sym z) o)

some_true : {A : Type 0} (o : Option A) (x : A) → o ≡ Some x → is_some o ≡ true
some_true None x e = cc
some_true (Some y) x e = refl

-- whether there is a common base, by what it is
pub common_so : (heads : List StreamHead) (bases : List Fraction) (r : Option Fraction) → bases ≡ bases_of heads → IsCommonOf bases r → common_of (bases_of heads) ≡ r
common_so heads bases r e is =
    common_once (bases_of heads) (common_of (bases_of heads)) r (common_of_is (bases_of heads)) (subst (λ (bs : List Fraction). IsCommonOf bs r) e is)

module _ (d : Direction) (h : StreamHead) (heads : List StreamHead) (shortest : Bool) where
  none_common : (b c : Bool) → b ≡ false → (b && c) ≡ false
  none_common true c e = cc
  none_common false c e = refl

  not_like : (b c : Bool) → c ≡ false → (b && c) ≡ false
  not_like true c e = e
  not_like false c e = refl

  none_false : (o : Option Fraction) → o ≡ None → is_some o ≡ false
  none_false None e = refl
  none_false (Some x) e = cc

  pub no_base : common_of (bases_of heads) ≡ None → IsPlanned d h heads shortest (Err Mismatch)
  no_base n = first_fault (has_common heads && each_of (are_alike d h) heads) (has_size d h heads) Mismatch BadSize (Err Mismatch) _
      (none_common (has_common heads) (each_of (are_alike d h) heads) (none_false (common_of (bases_of heads)) n)) refl

  pub not_alike : each_of (are_alike d h) heads ≡ false → IsPlanned d h heads shortest (Err Mismatch)
  not_alike n = first_fault (has_common heads && each_of (are_alike d h) heads) (has_size d h heads) Mismatch BadSize (Err Mismatch) _
      (not_like (has_common heads) (each_of (are_alike d h) heads) n) refl

  module _ (base : Fraction) (common : common_of (bases_of heads) ≡ Some base) (y : each_of (are_alike d h) heads ≡ true) where
    both : (has_common heads && each_of (are_alike d h) heads) ≡ true
    both = and_from (has_common heads) (each_of (are_alike d h) heads) (some_true (common_of (bases_of heads)) base common) y

    pub no_size : has_size d h heads ≡ false → IsPlanned d h heads shortest (Err BadSize)
    no_size n = second_fault (has_common heads && each_of (are_alike d h) heads) (has_size d h heads) Mismatch BadSize (Err BadSize) _ both n refl

    pub can_stack : (m : StackOf) → has_size d h heads ≡ true
        → m ≡ record { direction = d; heads = heads; shortest = shortest; head = with_length d (total d heads) (with_base base h) } → IsPlanned d h heads shortest (Ok m)
    can_stack m z e =
        let is : with_length d (total d heads) (with_base base h) ≡ with_length d (total d heads) (in_common heads h) =
        ap (λ (o : Option Fraction). with_length d (total d heads) (with_base (base_or (base_of_head h) o) h)) (sym common) in
        let same : record { direction = d; heads = heads; shortest = shortest; head = with_length d (total d heads) (with_base base h) } ≡ stack_on d h heads shortest =
        ap (λ (k : StreamHead). let s : StackOf = record { direction = d; heads = heads; shortest = shortest; head = k } in s) is in
        no_fault (has_common heads && each_of (are_alike d h) heads) (has_size d h heads) Mismatch BadSize (Ok m) _ both z (ap (λ (x : StackOf). Ok x) (e ∙ same))

module _ (d : Direction) (args : List Arg) (heads : List StreamHead) (r : Result StackOf ConfigError) where
  pub wrong_pads : length heads ≢ counted false 0 2 args → r ≡ Err Pads → IsStack d args heads r
  wrong_pads n is = first_fault (nat_eq (length heads) (counted false 0 2 args)) (each_of is_video heads) Pads Kind r _ (ne_eqb (length heads) (counted false 0 2 args) n) is

  pub wrong_kind : length heads ≡ counted false 0 2 args → each_of is_video heads ≡ false → r ≡ Err Kind → IsStack d args heads r
  wrong_kind y n is =
      second_fault (nat_eq (length heads) (counted false 0 2 args)) (each_of is_video heads) Pads Kind r _
      (eq-eqb (length heads) (counted false 0 2 args) y) n is

  pub right_inputs : (q : Result StackSettings ConfigError) → length heads ≡ counted false 0 2 args → each_of is_video heads ≡ true
      → AreRead stack_manual false 0 (record { inputs = 2; shortest = false }) args q → AfterRead d heads r q → IsStack d args heads r
  right_inputs q y z read after =
      no_fault (nat_eq (length heads) (counted false 0 2 args)) (each_of is_video heads) Pads Kind r _
      (eq-eqb (length heads) (counted false 0 2 args) y) z (q, read, after)

-- what was read decides
pub after_error : (d : Direction) (heads : List StreamHead) (q : Result StackSettings ConfigError) (e : ConfigError) → q ≡ Err e → AfterRead d heads (Err e) q
after_error d heads q e is = subst (λ x. AfterRead d heads (Err e) x) (sym is) (at heads)
  where
    at : (hs : List StreamHead) → AfterRead d hs (Err e) (Err e)
    at [] = refl
    at (h ∷ hs) = refl

pub after_none : (d : Direction) (heads : List StreamHead) (q : Result StackSettings ConfigError) (s : StackSettings) → q ≡ Ok s → heads ≡ []
    → AfterRead d heads (Err Pads) q
after_none d heads q s is none = subst (λ x. AfterRead d heads (Err Pads) x) (sym is) (subst (λ hs. AfterRead d hs (Err Pads) (Ok s)) (sym none) refl)

pub after_first : (d : Direction) (heads : List StreamHead) (q : Result StackSettings ConfigError) (s : StackSettings) (h : StreamHead) (hs : List StreamHead)
    (r : Result StackOf ConfigError) → q ≡ Ok s → heads ≡ h ∷ hs → IsPlanned d h heads s.shortest r → AfterRead d heads r q
after_first d heads q s h hs r is first planned =
    subst (λ x. AfterRead d heads r x) (sym is)
    (subst (λ xs. AfterRead d xs r (Ok s)) (sym first) (subst (λ xs. IsPlanned d h xs s.shortest r) first planned))

-- heads of which this is the first
pub first_of : (heads : List StreamHead) (h : StreamHead) → 1 ≤ length heads → h ≡ get_or heads 0 h → (hs : List StreamHead) × (heads ≡ h ∷ hs)
first_of [] h le e = absurd (omega (arith, le))
first_of (k ∷ hs) h le e = (hs, ap (λ (x : StreamHead). x ∷ hs) (sym e))

side_of : (n : ℕ) → is_side n ≡ true → IsSide n
side_of n e = let b = and_parts (nat_le 1 n) (nat_le n 16384) e in (leb-true 1 n b.0, leb-true n 16384 b.1)

-- a base changes no size
pub size_as : (d : Direction) (c : Fraction) (h : StreamHead) → size_across d (with_base c h) ≡ size_across d h
size_as Beside c (Audio tb rate bits channels codec) = refl
size_as Below c (Audio tb rate bits channels codec) = refl
size_as Beside c (Video tb format width height sar_num sar_den) = refl
size_as Below c (Video tb format width height sar_num sar_den) = refl

pub has_size_as : (d : Direction) (c : Fraction) (h : StreamHead) (hs : List StreamHead) → has_size d (with_base c h) hs ≡ has_size d h hs
has_size_as d c h hs = ap (λ n. (is_side (total d hs) && is_side n) && all_on_grid d hs) (size_as d c h)

-- a stack that has a size is one of pictures, and its sides are in range
pub sized : (d : Direction) (h : StreamHead) (hs : List StreamHead) → has_size d h hs ≡ true
    → IsSide (shape_of d (with_length d (total d hs) h)).width × IsSide (shape_of d (with_length d (total d hs) h)).height
sized d h hs e =
    let a = and_parts (is_side (total d hs) && is_side (size_across d h)) (all_on_grid d hs) e in
    let b = and_parts (is_side (total d hs)) (is_side (size_across d h)) a.0 in
    at d h (side_of (total d hs) b.0) b.1
  where
    at : (c : Direction) (k : StreamHead) → IsSide (total d hs) → is_side (size_across c k) ≡ true
        → IsSide (shape_of c (with_length c (total d hs) k)).width × IsSide (shape_of c (with_length c (total d hs) k)).height
    at Beside (Audio tb rate bits channels codec) s n = cc
    at Below (Audio tb rate bits channels codec) s n = cc
    at Beside (Video tb format width height sar_num sar_den) s n = (s, side_of height n)
    at Below (Video tb format width height sar_num sar_den) s n = (side_of width n, s)

pub few_in_all : (d : Direction) (h : StreamHead) (hs : List StreamHead) → has_size d h hs ≡ true → IsSide (total d hs)
few_in_all d h hs e =
    let a = and_parts (is_side (total d hs) && is_side (size_across d h)) (all_on_grid d hs) e in
    side_of (total d hs) (and_parts (is_side (total d hs)) (is_side (size_across d h)) a.0).0

pub shape_direction : (d : Direction) (h : StreamHead) → (shape_of d h).direction ≡ d
shape_direction d (Audio tb rate bits channels codec) = refl
shape_direction d (Video tb format width height sar_num sar_den) = refl

-- the stack of a plan whose parts are these
pub stack_is : (p : Plan) (d : Direction) (heads : List StreamHead) (shortest : Bool) (head : StreamHead) → p.shape.direction ≡ d → p.shortest ≡ shortest → p.head ≡ head
    → stack_by p heads ≡ record { direction = d; heads = heads; shortest = shortest; head = head }
stack_is p d heads shortest head a b c =
    let of : Direction → Bool → StreamHead → StackOf = λ x y z. record { direction = x; heads = heads; shortest = y; head = z } in
    ap (λ (x : Direction). of x p.shortest p.head) a ∙ (ap (λ (y : Bool). of d y p.head) b ∙ ap (λ (z : StreamHead). of d shortest z) c)

-- the machine is seen as the stack of the plan
pub made_by : (d : Direction) (args : List Arg) (heads : List StreamHead) (planned : Result Plan ConfigError) (p : Plan) (v : View) (hs : List StreamHead)
    → IsStack d args heads (planned_by heads planned) → planned ≡ Ok p → v ≡ stack_view (stack_by p heads) → hs ≡ p.head ∷ []
    → IsMade (IsStack d args heads) stack_view head_of v hs
made_by d args heads planned p v hs stack is seen shown = (stack_by p heads, subst (λ x. IsStack d args heads (planned_by heads x)) is stack, seen, shown)

pub refused_by : (d : Direction) (args : List Arg) (heads : List StreamHead) (planned : Result Plan ConfigError) (e : ConfigError)
    → IsStack d args heads (planned_by heads planned) → planned ≡ Err e → IsRefused (IsStack d args heads) e
refused_by d args heads planned e stack is = inr (subst (λ x. IsStack d args heads (planned_by heads x)) is stack)
