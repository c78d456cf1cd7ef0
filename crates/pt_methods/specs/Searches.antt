-- Where a value stands among others, and how often (Library Reference, "Common Sequence Operations", `index`, `count`; "Mutable
-- Sequence Types", `remove`).
use Rattle.std.specs.Prelude.{ℕ, ◌+◌, pos, Bool, true, false, List, [], ◌∷◌, Option, Some, None, Result, Ok, Err, if◌then◌else◌}
use Rattle.std.specs.List.{remove}
use Rattle.pt_base.specs.declared.operators.CompareOp.TheVariants.{Equal}
use Rattle.pt_base.specs.declared.what.What.TheVariants as what
use Rattle.pt_heap.specs.declared.value.Value.{Value}
use Rattle.pt_heap.specs.declared.value.Value.TheVariants as value
use Rattle.pt_heap.specs.declared.object.Object.{Object}
use Rattle.pt_content.specs.declared.class.TheConstants.{VALUE_ERROR}
use Rattle.pt_content.specs.declared.content.Content.{Content}
use Rattle.pt_content.specs.declared.content.Content.TheVariants as content
use Rattle.pt_content.specs.TypeErrors.{bad_argument}
use Rattle.pt_comparisons.specs.pt_reprs.Reached.{need_help}
use Rattle.pt_comparisons.specs.Comparisons.{comparison_content}
use Rattle.pt_list_changes.specs.Changed.{list_changed}

-- whether two values are equal, or what is answered where that isn't told
abbrev pub told : Content → Result Bool Content
told (content.Value (value.Bool b)) = Ok b
told c = Err c

abbrev pub equal : List Object → Value → Value → Result Bool Content
equal h a b = told (comparison_content Equal h a b)

-- a place, or what is found behind it
abbrev pub here_or : Result Bool Content → (place : ℕ) → (otherwise : Result (Option ℕ) Content) → Result (Option ℕ) Content
here_or (Ok true) i otherwise = Ok (Some i)
here_or (Ok false) i otherwise = otherwise
here_or (Err e) i otherwise = Err e

-- the first place of an equal value, from one on
abbrev pub place_from : List Object → (sought : Value) → (place : ℕ) → List Value → Result (Option ℕ) Content
place_from h x i [] = Ok None
place_from h x i (v ∷ vs) = here_or (equal h v x) i (place_from h x (i + 1) vs)

-- one more, if it is equal
abbrev pub one_more : Result Bool Content → (others : Result ℕ Content) → Result ℕ Content
one_more (Ok true) (Ok n) = Ok (n + 1)
one_more (Ok b) others = others
one_more (Err e) others = Err e

abbrev pub count_of : List Object → (sought : Value) → List Value → Result ℕ Content
count_of h x [] = Ok 0
count_of h x (v ∷ vs) = one_more (equal h v x) (count_of h x vs)

-- what is done at the place of a value; a value that isn't there is a wrong argument
abbrev pub place_answer : Result (Option ℕ) Content → Content
place_answer (Ok (Some i)) = content.Value (value.Int (pos i))
place_answer (Ok None) = bad_argument VALUE_ERROR
place_answer (Err e) = e

abbrev pub removal : (list : Value) → List Value → Result (Option ℕ) Content → Content
removal l vs (Ok (Some i)) = list_changed l (remove vs i) value.None
removal l vs (Ok None) = bad_argument VALUE_ERROR
removal l vs (Err e) = e

abbrev pub count_answer : Result ℕ Content → Content
count_answer (Ok n) = content.Value (value.Int (pos n))
count_answer (Err e) = e

-- items from which an instance of a script's class is reached aren't compared
abbrev pub if_comparable : List Object → (container sought : Value) → Content → Content
if_comparable h v x c = if need_help h (v ∷ x ∷ []) then content.Outside what.Feature else c

-- `index`
abbrev pub index_content : List Object → (container : Value) → List Value → (sought : Value) → Content
index_content h v vs x = if_comparable h v x (place_answer (place_from h x 0 vs))

-- `count`
abbrev pub count_content : List Object → (container : Value) → List Value → (sought : Value) → Content
count_content h v vs x = if_comparable h v x (count_answer (count_of h x vs))

-- `remove`
abbrev pub remove_content : List Object → (list : Value) → List Value → (sought : Value) → Content
remove_content h l vs x = if_comparable h l x (removal l vs (place_from h x 0 vs))
