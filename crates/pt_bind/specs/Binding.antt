-- Which parameter takes which argument of a call (Language Reference 6.3.4 "Calls", 8.7 "Function definitions"; Library
-- Reference, `inspect.Signature.bind`). Names are the bytes of their texts.
use Rattle.std.specs.Prelude.{◌≡◌, ℕ, Bool, not, ◌&&◌, nat_lt, List, [], ◌∷◌, ◌++◌, length, take, drop, map, filter, Option, None, Some, Result, Ok, Err, if◌then◌else◌}
use Rattle.std.specs.Option.{option_or}
use Rattle.std.specs.Str.{bytes_eq}
use Rattle.pt_heap.specs.declared.value.Value.{Value}
use Rattle.pt_heap.specs.declared.view.Binding.{Binding}
use Rattle.pt_bind.specs.NameSets.{is_among}
use Rattle.pt_bind.specs.declared.arguments.Params.{Params}
use Rattle.pt_bind.specs.declared.arguments.Args.{Args}
use Rattle.pt_bind.specs.declared.arguments.Locals.{Locals}
use Rattle.pt_bind.specs.declared.arguments.BindErr.{BindErr}
use Rattle.pt_bind.specs.declared.arguments.BindErr.TheVariants.{Missing, TooMany, Unexpected, Double, Memory}

-- the value that a name is given
abbrev pub value_of : List ℕ → List Binding → Option Value
value_of name [] = None
value_of name (b ∷ bs) = if bytes_eq b.name name then Some b.value else value_of name bs

-- the names of all parameters that one argument fills, in order
abbrev pub names_of : Params → List (List ℕ)
names_of params = params.plain ++ params.only

-- the argument of this name, else the default
abbrev pub by_name : (defaults : List Binding) → Args → List ℕ → Option Value
by_name defaults args name = option_or (value_of name args.named) (value_of name defaults)

-- arguments without a name fill the first parameters, and names and defaults the others
abbrev pub plain_values : (defaults : List Binding) → Args → List (List ℕ) → List Value → List (Option Value)
plain_values defaults args [] vs = []
plain_values defaults args (name ∷ names) (v ∷ vs) = Some v ∷ plain_values defaults args names vs
plain_values defaults args (name ∷ names) [] = by_name defaults args name ∷ plain_values defaults args names []

-- the value of each parameter, or None where it has none
abbrev pub values_of : Params → (defaults : List Binding) → Args → List (Option Value)
values_of params defaults args = plain_values defaults args params.plain args.plain ++ map (by_name defaults args) params.only

-- more arguments without a name than parameters for them
abbrev pub is_too_many : Params → Args → Bool
is_too_many params args = not params.star && nat_lt (length params.plain) (length args.plain)

-- the first of the named arguments whose name was given before
abbrev pub first_again : (given : List (List ℕ)) → List Binding → Option (List ℕ)
first_again given [] = None
first_again given (b ∷ bs) = if is_among given b.name then Some b.name else first_again (b.name ∷ given) bs

-- a name that is given twice, the first time perhaps by place
abbrev pub double_name : Params → Args → Option (List ℕ)
double_name params args = first_again (take (length args.plain) params.plain) args.named

-- the named arguments that no parameter takes
abbrev pub extra_named : Params → Args → List Binding
extra_named params args = filter (λ b. not (is_among (names_of params) b.name)) args.named

abbrev pub first_name : List Binding → Option (List ℕ)
first_name [] = None
first_name (b ∷ bs) = Some b.name

-- of the arguments that no parameter takes the first, where there is no `**NAME`
abbrev pub unexpected_name : Params → (extra : List Binding) → Option (List ℕ)
unexpected_name params bs = if params.stars then None else first_name bs

-- the first parameter that has no value
abbrev pub first_unfilled : List (List ℕ) → List (Option Value) → Option (List ℕ)
first_unfilled (name ∷ names) (None ∷ vs) = Some name
first_unfilled (name ∷ names) (Some v ∷ vs) = first_unfilled names vs
first_unfilled _ _ = None

abbrev pub locals_of : Params → (defaults : List Binding) → Args → Locals
locals_of params defaults args = record {
  values = values_of params defaults args;
  star = drop (length params.plain) args.plain;
  stars = extra_named params args;
  cells = [];
}

-- a refusal for a name, if there is one, comes before an answer
abbrev pub unless : Option (List ℕ) → (List ℕ → BindErr) → Result Locals BindErr → Result Locals BindErr
unless None refusal answer = answer
unless (Some name) refusal answer = Err (refusal name)

-- what the names of the parameters start with by these defaults, or why the arguments don't fit
abbrev pub binding_with : Params → (defaults : List Binding) → Args → Result Locals BindErr
binding_with params defaults args =
    if is_too_many params args then Err (TooMany (length args.plain))
    else unless (double_name params args) Double
    (unless (unexpected_name params (extra_named params args)) Unexpected
    (unless (first_unfilled (names_of params) (values_of params defaults args)) Missing
    (Ok (locals_of params defaults args))))

-- the same with the defaults that stand beside the parameters
abbrev pub binding : Params → Args → Result Locals BindErr
binding params args = binding_with params params.defaults args

-- a refusal is the one that is told, unless it is want of memory
abbrev pub IsTold : Result Locals BindErr → BindErr → Type 0
IsTold answer Memory = Unit {0}
IsTold answer error = answer ≡ Err error
