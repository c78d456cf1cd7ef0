-- The arguments of a call (Language Reference 6.3.4): the items of the tuple that `*e` gave, and the entries of the dictionary that
-- `**e` gave by the texts that are their keys, stand in its place.
use Rattle.std.specs.Prelude.{ℕ, Bool, true, false, ◌&&◌, List, [], ◌∷◌, ◌++◌, map, Option, Some, None}
use Rattle.sem_control.specs.control.Turn as T
use Rattle.sem_control.specs.control.Turn.{Role}
use Rattle.pt_heap.specs.declared.value.Value.{Value}
use Rattle.pt_heap.specs.declared.view.Binding.{Binding}
use Rattle.pt_heap.specs.declared.object.Object.{Object}
use Rattle.pt_heap.specs.declared.object.Object.TheVariants as object
use Rattle.pt_heap.specs.Entries.{Entry}
use Rattle.pt_bind.specs.declared.arguments.Args.{Args}
use Rattle.pt_content.specs.pt_attrs.Look.{object_of}
use Rattle.pt_content.specs.Operands.{text_of}
use Rattle.pt_prims.specs.Spreads.{are_named}

abbrev pub items_in : Option Object → List Value
items_in (Some (object.Tuple vs)) = vs
items_in o = []

abbrev pub text_or_none : Option (List ℕ) → List ℕ
text_or_none (Some t) = t
text_or_none None = []

abbrev pub entry_argument : List Object → Entry → Binding
entry_argument h e = record { name = text_or_none (text_of h e.first); value = e.value }

abbrev pub named_in : List Object → Option Object → List Binding
named_in h (Some (object.Dict es)) = map (entry_argument h) es
named_in h o = []

abbrev pub plain_argument : List Object → Role → Value → List Value
plain_argument h T.positional v = v ∷ []
plain_argument h T.spread v = items_in (object_of h v)
plain_argument h r v = []

abbrev pub named_argument : List Object → Role → Value → List Binding
named_argument h (T.named x) v = record { name = x; value = v } ∷ []
named_argument h T.spread_named v = named_in h (object_of h v)
named_argument h r v = []

abbrev pub plain_arguments : List Object → List Role → List Value → List Value
plain_arguments h (r ∷ rs) (v ∷ vs) = plain_argument h r v ++ plain_arguments h rs vs
plain_arguments h _ _ = []

abbrev pub named_arguments : List Object → List Role → List Value → List Binding
named_arguments h (r ∷ rs) (v ∷ vs) = named_argument h r v ++ named_arguments h rs vs
named_arguments h _ _ = []

abbrev pub arguments : List Object → List Role → List Value → Args
arguments h rs vs = record { plain = plain_arguments h rs vs; named = named_arguments h rs vs }

-- what is spread is a tuple, or a dictionary whose keys are texts, as `*e` and `**e` give them
abbrev pub is_tuple : Option Object → Bool
is_tuple (Some (object.Tuple vs)) = true
is_tuple o = false

abbrev pub is_named_dict : List Object → Option Object → Bool
is_named_dict h (Some (object.Dict es)) = are_named h es
is_named_dict h o = false

abbrev pub is_argument : List Object → Role → Value → Bool
is_argument h T.spread v = is_tuple (object_of h v)
is_argument h T.spread_named v = is_named_dict h (object_of h v)
is_argument h r v = true

abbrev pub are_arguments : List Object → List Role → List Value → Bool
are_arguments h (r ∷ rs) (v ∷ vs) = is_argument h r v && are_arguments h rs vs
are_arguments h _ _ = true
