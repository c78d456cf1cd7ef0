-- Whether a value is in another (Language Reference 6.10.2).
use Rattle.std.specs.Prelude.{ℕ, false, List, [], ◌∷◌, Option, Some, None, codes, is_some, if◌then◌else◌}
use Rattle.std.specs.Str.{chars}
use Rattle.pt_base.specs.declared.what.What.TheVariants as what
use Rattle.pt_heap.specs.declared.value.Value.{Value}
use Rattle.pt_heap.specs.declared.object.Object.{Object}
use Rattle.pt_heap.specs.declared.object.Object.TheVariants as object
use Rattle.pt_heap.specs.declared.object.Range.{Range}
use Rattle.pt_heap.specs.declared.object.Part.{Part}
use Rattle.pt_heap.specs.declared.object.Part.TheVariants.{Keys, Values, Items}
use Rattle.pt_heap.specs.Entries.{Entry, found}
use Rattle.pt_strs.specs.Cut.{place_of}
use Rattle.pt_content.specs.pt_attrs.Look.{object_of}
use Rattle.pt_content.specs.declared.answer.Helper.TheVariants.{InOf}
use Rattle.pt_content.specs.declared.class.TheConstants.{RECURSION_ERROR, TYPE_ERROR}
use Rattle.pt_content.specs.declared.content.Content.{Content}
use Rattle.pt_content.specs.declared.content.Content.TheVariants as content
use Rattle.pt_content.specs.declared.operand.Operand.{Operand}
use Rattle.pt_content.specs.declared.operand.Operand.TheVariants.{Number, Instance}
use Rattle.pt_content.specs.Operands.{operand_of, text_of}
use Rattle.pt_content.specs.TypeErrors.{bad_argument}
use Rattle.pt_views.specs.pt_mappings.declared.keyed.Keyed.{Keyed}
use Rattle.pt_views.specs.pt_mappings.declared.keyed.Keyed.TheVariants as keyed
use Rattle.pt_views.specs.pt_mappings.Keyed.{key_in}
use Rattle.pt_views.specs.pt_mappings.Items.{has_key_content}
use Rattle.pt_views.specs.Cursors.{dict_at}
use Rattle.pt_views.specs.pt_sets.Members.{has_item_content}
use Rattle.pt_views.specs.pt_sequences.Ranges.{has_integer}
use Rattle.pt_reprs.specs.Reached.{need_help}
use Rattle.pt_reprs.specs.Shown.{shown}
use Rattle.pt_comparisons.specs.declared.equality.Equality.{Equality}
use Rattle.pt_comparisons.specs.declared.equality.Equality.TheVariants.{Told, Deep, Feature}
use Rattle.pt_comparisons.specs.Truths.{truth_value}
use Rattle.pt_comparisons.specs.Equalities.{any_equal, equality}

abbrev pub equality_answer : Equality → Content
equality_answer (Told b) = truth_value b
equality_answer Deep = content.Raise RECURSION_ERROR (codes "too many activations")
equality_answer Feature = content.Outside what.Feature

-- a text is a part of another; no other value is
abbrev pub in_text : Option (List ℕ) → List ℕ → Content
in_text (Some part) t = truth_value (is_some (place_of (chars part) (chars t)))
in_text None t = bad_argument TYPE_ERROR

-- the method of an instance isn't asked yet
abbrev pub in_range : Operand → Range → Content
in_range (Number z) r = truth_value (has_integer r z)
in_range Instance r = content.Outside what.Feature
in_range k r = truth_value false

-- a helper looks where an instance of a script's class is reached
abbrev pub among : List Object → (sought container : Value) → List Value → Content
among h a b vs = if need_help h (a ∷ b ∷ []) then content.Help InOf false else equality_answer (any_equal h a vs)

abbrev pub pair_in : Option Object → Option (Value × Value)
pair_in (Some (object.Tuple (k ∷ v ∷ []))) = Some (k, v)
pair_in o = None

abbrev pub behind_key : List Object → Value → Option Value → Content
behind_key h v (Some w) = equality_answer (equality h w v)
behind_key h v None = truth_value false

-- a key and a value that is equal to the one behind it
abbrev pub pair_by : List Object → List Entry → Value → Keyed → Content
pair_by h es v (keyed.Key k) = behind_key h v (found k es)
pair_by h es v (keyed.Refused c) = c

abbrev pub in_pairs : List Object → List Entry → Option (Value × Value) → Content
in_pairs h es (Some (k, v)) = pair_by h es v (key_in h k)
in_pairs h es None = truth_value false

abbrev pub in_part : List Object → (sought : Value) → Part → List Entry → Content
in_part h a Keys es = has_key_content h es a
in_part h a Values es = equality_answer (any_equal h a (shown Values es))
in_part h a Items es = in_pairs h es (pair_in (object_of h a))

-- a helper looks where an instance of a script's class is reached
abbrev pub in_view : List Object → (sought : Value) → Part → Option (List Entry) → Content
in_view h a p (Some es) = if need_help h (a ∷ shown p es) then content.Help InOf false else in_part h a p es
in_view h a p None = truth_value false

-- what is no container is a helper's matter
abbrev pub contained : List Object → (sought container : Value) → Option Object → Content
contained h a b (Some (object.Str t)) = in_text (text_of h a) t
contained h a b (Some (object.Range r)) = in_range (operand_of h a) r
contained h a b (Some (object.List vs)) = among h a b vs
contained h a b (Some (object.Tuple vs)) = among h a b vs
contained h a b (Some (object.Dict es)) = has_key_content h es a
contained h a b (Some (object.Set es)) = has_item_content h es a
contained h a b (Some (object.View v)) = in_view h a v.part (dict_at h v.dict)
contained h a b o = content.Help InOf false

-- `a in b`
abbrev pub membership_content : List Object → (sought container : Value) → Content
membership_content h a b = contained h a b (object_of h b)
