-- The keys by which values are sorted: numbers, texts, and tuples of these (Library Reference, `sorted`).
use Rattle.std.specs.Prelude.{ℕ, ℤ, Bool, true, false, ◌&&◌, List, [], ◌∷◌, Option, Some, None, int_lt, if◌then◌else◌}
use Rattle.std.specs.List.{list_all}
use Rattle.std.specs.Str.{chars}
use Rattle.pt_heap.specs.declared.value.Value.{Value}
use Rattle.pt_heap.specs.declared.object.Object.{Object}
use Rattle.pt_heap.specs.declared.object.Object.TheVariants as object
use Rattle.pt_content.specs.pt_attrs.Look.{object_of}
use Rattle.pt_content.specs.declared.operand.Operand.{Operand}
use Rattle.pt_content.specs.declared.operand.Operand.TheVariants as operand
use Rattle.pt_content.specs.Operands.{operand_of, text_of}
use Rattle.pt_comparisons.specs.Orders.{is_before}
use Rattle.pt_sorting.specs.declared.keys.Kind.{Kind}
use Rattle.pt_sorting.specs.declared.keys.Kind.TheVariants as kind

-- a number or a text, and nothing else
abbrev pub kind_by : Operand → Kind
kind_by (operand.Number z) = kind.Number
kind_by operand.Text = kind.Text
kind_by k = kind.Other

abbrev pub plain_kind : List Object → Value → Kind
plain_kind h v = kind_by (operand_of h v)

abbrev pub is_plain : Kind → Bool
is_plain kind.Other = false
is_plain k = true

abbrev pub are_plain : List Object → List Value → Bool
are_plain h vs = list_all (λ v. is_plain (plain_kind h v)) vs

abbrev pub kind_in : List Object → Kind → Option Object → Kind
kind_in h kind.Other (Some (object.Tuple vs)) = if are_plain h vs then kind.Row else kind.Other
kind_in h k o = k

-- the kind of key that a value is
abbrev pub kind_of : List Object → Value → Kind
kind_of h v = kind_in h (plain_kind h v) (object_of h v)

-- keys that have an order
abbrev pub are_alike : Kind → Kind → Bool
are_alike kind.Number kind.Number = true
are_alike kind.Text kind.Text = true
are_alike k l = false

abbrev pub rows_alike : List Object → List Value → List Value → Bool
rows_alike h [] [] = true
rows_alike h (v ∷ vs) (w ∷ ws) = are_alike (plain_kind h v) (plain_kind h w) && rows_alike h vs ws
rows_alike h vs ws = false

-- the items of a key that is a tuple
abbrev pub items_in : Option Object → List Value
items_in (Some (object.Tuple vs)) = vs
items_in o = []

abbrev pub items_of : List Object → Value → List Value
items_of h v = items_in (object_of h v)

-- the number that a value is
abbrev pub number_in : Operand → Option ℤ
number_in (operand.Number z) = Some z
number_in k = None

abbrev pub number_of : List Object → Value → Option ℤ
number_of h v = number_in (operand_of h v)

-- whether a value stands before another: texts by their characters, behind what is no text
abbrev pub text_before : Option (List ℕ) → Option (List ℕ) → Bool
text_before (Some s) (Some t) = is_before (chars s) (chars t)
text_before None (Some t) = true
text_before s None = false

-- numbers by their size, before what is no number
abbrev pub number_before : Option ℤ → Option ℤ → (otherwise : Bool) → Bool
number_before (Some a) (Some b) otherwise = int_lt a b
number_before (Some a) None otherwise = true
number_before None (Some b) otherwise = false
number_before None None otherwise = otherwise

abbrev pub plain_before : List Object → Value → Value → Bool
plain_before h v w = number_before (number_of h v) (number_of h w) (text_before (text_of h v) (text_of h w))

-- lists of items by the first that differ, of which one that ends stands before one that goes on
abbrev pub row_before : List Object → List Value → List Value → Bool
row_before h vs [] = false
row_before h [] (w ∷ ws) = true
row_before h (v ∷ vs) (w ∷ ws) = if plain_before h v w then true else (if plain_before h w v then false else row_before h vs ws)

-- keys of a kind: where two are alike, this is Python's `<`
abbrev pub key_before : Kind → List Object → Value → Value → Bool
key_before kind.Row h v w = row_before h (items_of h v) (items_of h w)
key_before k h v w = plain_before h v w

-- the kind of the first, which is that of all where they have an order
abbrev pub common_kind : List Object → (keys : List Value) → Kind
common_kind h [] = kind.Other
common_kind h (v ∷ vs) = kind_of h v
