-- The arguments of a stack, and how many inputs it has by them.
use Rattle.std.specs.Prelude.{◌≡◌, ◌≤◌, ℕ, zero, suc, ◌+◌, Bool, true, false, ◌||◌}
use Rattle.std.specs.Prelude.{◌&&◌, nat_le, cond, codes, is_some, Option, Some, None, List, [], ◌∷◌}
use Rattle.ff_time.specs.Digits.{number_of}
use Rattle.ff_lang.specs.declared.graph.Arg.{Arg}
use Rattle.ff_filter.specs.Options.{Manual, option_of}
use Rattle.ff_fsync.specs.declared.stacks.options.StackSettings.{StackSettings}

-- `inputs` is a whole number of 2 to 16, `shortest` one of 0 and 1
abbrev pub SetsStack : StackSettings → ℕ → List ℕ → StackSettings → Type 0
SetsStack s zero value t = (number_of 5 value ≡ Some t.inputs) × (2 ≤ t.inputs) × (t.inputs ≤ 16) × (t.shortest ≡ s.shortest)
SetsStack s (suc option) value t = (number_of 5 value ≡ Some (cond t.shortest 1 0)) × (t.inputs ≡ s.inputs)

abbrev pub stack_manual : Manual StackSettings
stack_manual = record {
  names = (codes "inputs", 0) ∷ (codes "shortest", 1) ∷ [];
  places = 2;
  Sets = SetsStack;
}

-- the number of inputs that a value gives; 2 where it isn't taken
abbrev pub taken_inputs : Option ℕ → ℕ
taken_inputs None = 2
taken_inputs (Some n) = cond (nat_le 2 n && nat_le n 16) n 2

abbrev pub inputs_of : List ℕ → ℕ
inputs_of value = taken_inputs (number_of 5 value)

-- the option is `inputs`
abbrev pub is_first : Option ℕ → Bool
is_first None = false
is_first (Some zero) = true
is_first (Some (suc n)) = false

abbrev pub gives_inputs : Bool → ℕ → Option (List ℕ) → Bool
gives_inputs keyed place key = is_first (option_of stack_manual keyed place key)

-- How many inputs there are by the arguments from the one at a place on, where it is n by those before: the last that gives
-- the number counts, whether it is taken or not, and whatever is at fault with others.
abbrev pub counted : Bool → ℕ → ℕ → List Arg → ℕ
counted keyed place n [] = n
counted keyed place n (a ∷ others) =
    counted (keyed || is_some a.key) (place + 1) (cond (gives_inputs keyed place a.key) (inputs_of a.value) n) others
