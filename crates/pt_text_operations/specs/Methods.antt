-- What calls of the methods of texts give (Library Reference, "String Methods").
use Rattle.std.specs.Prelude.{ℕ, ℤ, pos, negsuc, Bool, true, false, List, [], ◌∷◌, Option, Some, None}
use Rattle.std.specs.Option.{option_map}
use Rattle.std.specs.Str.{chars}
use Rattle.pt_base.specs.declared.what.What.TheVariants.{Feature}
use Rattle.pt_heap.specs.declared.value.Value.{Value}
use Rattle.pt_heap.specs.declared.value.Value.TheVariants as value
use Rattle.pt_heap.specs.declared.object.Object.{Object}
use Rattle.pt_heap.specs.declared.object.Object.TheVariants as object
use Rattle.pt_strs.specs.Answer.{within}
use Rattle.pt_strs.specs.Cut.{place_of}
use Rattle.pt_strs.specs.Replace.{replaced}
use Rattle.pt_strs.specs.Strip.{stripped}
use Rattle.pt_strs.specs.Words.{split_by}
use Rattle.pt_content.specs.pt_attrs.Look.{object_of}
use Rattle.pt_content.specs.declared.answer.Helper.TheVariants.{JoinOf}
use Rattle.pt_content.specs.declared.class.TheConstants.{TYPE_ERROR}
use Rattle.pt_content.specs.declared.content.Content.{Content}
use Rattle.pt_content.specs.declared.content.Content.TheVariants as content
use Rattle.pt_content.specs.declared.method_name.MethodName.{MethodName}
use Rattle.pt_content.specs.declared.method_name.MethodName.TheVariants as method
use Rattle.pt_content.specs.Operands.{text_of}
use Rattle.pt_content.specs.TypeErrors.{bad_argument}
use Rattle.pt_text_operations.specs.Answers.{answered, joined_content}
use Rattle.pt_text_operations.specs.declared.ends.End.TheVariants.{Front, Back}
use Rattle.pt_text_operations.specs.Ends.{ends_content, occurrences}
use Rattle.pt_text_operations.specs.Lists.{listed_if}

-- a list or tuple is joined; of another value the helper makes a list first
abbrev pub join_by : List Object → (sep : List ℕ) → Option Object → Content
join_by h sep (Some (object.List vs)) = joined_content h sep vs
join_by h sep (Some (object.Tuple vs)) = joined_content h sep vs
join_by h sep o = content.Help JoinOf false

-- a text, or None, which stands for blanks
abbrev pub text_or_blanks : List Object → Value → Option (Option (List ℕ))
text_or_blanks h value.None = Some None
text_or_blanks h v = option_map Some (text_of h v)

abbrev pub split_at : List Object → (text : List ℕ) → (sep : Option (Option (List ℕ))) → Content
split_at h t (Some sep) = listed_if h (split_by (option_map chars sep) (chars t))
split_at h t None = bad_argument TYPE_ERROR

abbrev pub split_content : List Object → (text : List ℕ) → List Value → Content
split_content h t [] = split_at h t (Some None)
split_content h t (v ∷ []) = split_at h t (text_or_blanks h v)
split_content h t vs = content.Outside Feature

abbrev pub stripped_of : (left right : Bool) → (text : List ℕ) → (set : Option (Option (List ℕ))) → Content
stripped_of left right t (Some set) = answered (within (stripped (option_map chars set) left right (chars t)))
stripped_of left right t None = bad_argument TYPE_ERROR

abbrev pub strip_content : (left right : Bool) → List Object → (text : List ℕ) → List Value → Content
strip_content left right h t [] = stripped_of left right t (Some None)
strip_content left right h t (v ∷ []) = stripped_of left right t (text_or_blanks h v)
strip_content left right h t vs = content.Outside Feature

abbrev pub replaced_by : (text : List ℕ) → (old new : Option (List ℕ)) → Content
replaced_by t (Some old) (Some new) = answered (within (replaced (chars old) (chars new) (chars t)))
replaced_by t old new = bad_argument TYPE_ERROR

abbrev pub integer : ℤ → Content
integer z = content.Value (value.Int z)

-- the place, or -1
abbrev pub place_or_none : Option ℕ → Content
place_or_none (Some n) = integer (pos n)
place_or_none None = integer (negsuc 0)

abbrev pub find_by : (text : List ℕ) → (part : Option (List ℕ)) → Content
find_by t (Some part) = place_or_none (place_of (chars part) (chars t))
find_by t None = bad_argument TYPE_ERROR

abbrev pub count_by : (text : List ℕ) → (part : Option (List ℕ)) → Content
count_by t (Some part) = integer (pos (occurrences (chars part) (chars t)))
count_by t None = bad_argument TYPE_ERROR

-- a row for each method; of another number of arguments, and of names that texts don't have, there is none
abbrev pub text_method_content : MethodName → List Object → (text : List ℕ) → (args : List Value) → Content
text_method_content method.Join h t (v ∷ []) = join_by h t (object_of h v)
text_method_content method.Split h t vs = split_content h t vs
text_method_content method.Strip h t vs = strip_content true true h t vs
text_method_content method.Lstrip h t vs = strip_content true false h t vs
text_method_content method.Rstrip h t vs = strip_content false true h t vs
text_method_content method.Replace h t (old ∷ new ∷ []) = replaced_by t (text_of h old) (text_of h new)
text_method_content method.Find h t (v ∷ []) = find_by t (text_of h v)
text_method_content method.Startswith h t (v ∷ []) = ends_content Front h t v
text_method_content method.Endswith h t (v ∷ []) = ends_content Back h t v
text_method_content method.Count h t (v ∷ []) = count_by t (text_of h v)
text_method_content m h t vs = content.Outside Feature
