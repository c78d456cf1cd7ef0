-- What calls of builtin functions and classes give (Library Reference, "Built-in Functions"; "Built-in Types").
use Rattle.std.specs.Prelude.{ℕ, ℤ, pos, negsuc, ◌&&◌, Bool, true, false, List, [], ◌∷◌, Option, Some, None, nat_lt, nat_le, slice_get, codes, is_some, if◌then◌else◌}
use Rattle.std.specs.Char.{encode_utf8}
use Rattle.std.specs.Str.{chars}
use Rattle.pt_base.specs.declared.operators.BinOp.TheVariants.{FloorDiv, Mod}
use Rattle.pt_base.specs.declared.operators.UnOp.TheVariants.{Plus, Minus}
use Rattle.pt_base.specs.declared.what.What.TheVariants.{Feature, Surrogate}
use Rattle.pt_heap.specs.declared.value.Value.{Value}
use Rattle.pt_heap.specs.declared.value.Value.TheVariants as value
use Rattle.pt_heap.specs.declared.object.Object.{Object}
use Rattle.pt_heap.specs.declared.object.Object.TheVariants as object
use Rattle.pt_heap.specs.declared.object.Part.{Part}
use Rattle.pt_heap.specs.declared.object.Part.TheVariants.{Keys, Values, Items}
use Rattle.pt_ints.specs.declared.answer.IntAns.{IntAns}
use Rattle.pt_ints.specs.declared.answer.IntAns.TheVariants as integer
use Rattle.pt_ints.specs.Answer.{binary_answer, unary_answer}
use Rattle.pt_content.specs.pt_attrs.Look.{object_of}
use Rattle.pt_content.specs.Changes.{added}
use Rattle.pt_content.specs.declared.answer.Helper.TheVariants.{NextOf, NextOrOf}
use Rattle.pt_content.specs.declared.answer.PrimAns.TheVariants as answer
use Rattle.pt_content.specs.declared.class.TheConstants.{TYPE_ERROR, VALUE_ERROR}
use Rattle.pt_content.specs.declared.content.Content.{Content}
use Rattle.pt_content.specs.declared.content.Content.TheVariants as content
use Rattle.pt_content.specs.declared.function.Function.{Function}
use Rattle.pt_content.specs.declared.function.Function.TheVariants as function
use Rattle.pt_content.specs.declared.operand.Operand.{Operand}
use Rattle.pt_content.specs.declared.operand.Operand.TheVariants.{Number, Instance}
use Rattle.pt_content.specs.Operands.{operand_of, text_of}
use Rattle.pt_content.specs.TypeErrors.{bad_argument}
use Rattle.pt_methods.specs.pt_views.Cursors.{iterator_content, next_content}
use Rattle.pt_methods.specs.pt_sequences.Displays.{tuple_content}
use Rattle.pt_methods.specs.pt_sequences.Lengths.{length_content}
use Rattle.pt_methods.specs.pt_sequences.Ranges.{range_content}
use Rattle.pt_methods.specs.pt_reprs.Texts.{new_text, print_content, repr_content, str_content}
use Rattle.pt_prims.specs.declared.calls.TheConstants.{STOP_ITERATION, SYSTEM_EXIT}
use Rattle.pt_prims.specs.Arithmetic.{integer_content}
use Rattle.pt_prims.specs.AttributeCalls.{call_getattr, has_attribute}
use Rattle.pt_prims.specs.Classes.{is_of_classes, subclass_by}
use Rattle.pt_prims.specs.Hidden.{is_of, join_items, make_set, make_tuple, refill, sort_items}
use Rattle.pt_prims.specs.IntegerTexts.{text_integer}
use Rattle.pt_special_methods.specs.Containers.{dots_of, wrap}
use Rattle.pt_special_methods.specs.Given.{length_given, text_given, truth_given, write_by}
use Rattle.pt_special_methods.specs.Instances.{get_name, has_name, holds_instance, is_error, method_of}
use Rattle.pt_special_methods.specs.Refusals.{refuse}
use Rattle.pt_methods.specs.pt_reprs.Reached.{parts_of}
use Rattle.pt_methods.specs.pt_reprs.Reprs.{repr_pieces}
use Rattle.pt_methods.specs.pt_reprs.Texts.{text_content}
use Rattle.pt_methods.specs.pt_sequences.Displays.{list_content}
use Rattle.pt_methods.specs.pt_comparisons.Truths.{truth_content, truth_value}

-- `abs`
abbrev pub magnitude : ℤ → IntAns
magnitude (pos n) = unary_answer Plus (pos n)
magnitude (negsuc n) = unary_answer Minus (negsuc n)

abbrev pub magnitude_by : Operand → Content
magnitude_by (Number z) = integer_content (magnitude z)
magnitude_by k = bad_argument TYPE_ERROR

-- `divmod`: a quotient and a remainder, or what keeps the quotient from being there
abbrev pub quotient_and_remainder : IntAns → IntAns → Content
quotient_and_remainder (integer.Value q) (integer.Value r) = tuple_content (value.Int q ∷ value.Int r ∷ [])
quotient_and_remainder (integer.Value q) r = integer_content r
quotient_and_remainder q r = integer_content q

abbrev pub division_by : Operand → Operand → Content
division_by (Number a) (Number b) = quotient_and_remainder (binary_answer FloorDiv a b) (binary_answer Mod a b)
division_by k l = bad_argument TYPE_ERROR

-- `ord`: of a text with one character
abbrev pub code_of : List ℕ → Content
code_of (c ∷ []) = content.Value (value.Int (pos c))
code_of cs = bad_argument VALUE_ERROR

abbrev pub code_by : Option (List ℕ) → Content
code_by (Some t) = code_of (chars t)
code_by None = bad_argument TYPE_ERROR

-- `chr`: below 0x110000; a half of a surrogate pair, from 0xd800 and below 0xe000, is no character of a text
abbrev pub char_of : ℕ → Content
char_of n =
    if nat_le 1114112 n then bad_argument VALUE_ERROR
    else (if nat_le 55296 n && nat_lt n 57344 then content.Outside Surrogate else new_text (encode_utf8 n))

abbrev pub char_by : Operand → Content
char_by (Number (pos n)) = char_of n
char_by (Number (negsuc n)) = bad_argument VALUE_ERROR
char_by k = bad_argument TYPE_ERROR

-- `int`: of a number, and of a text
abbrev pub integer_by : Operand → Option (List ℕ) → Content
integer_by (Number z) t = content.Value (value.Int z)
integer_by k (Some t) = text_integer t
integer_by k None = bad_argument TYPE_ERROR

-- `callable`: an instance is by its class
abbrev pub callable_by : Operand → (called : Bool) → Option Object → Content
callable_by Instance b o = truth_value b
callable_by k b (Some (object.Function f)) = truth_value true
callable_by k b (Some (object.Method m)) = truth_value true
callable_by k b (Some (object.Builtin f)) = truth_value true
callable_by k b (Some (object.Class c)) = truth_value true
callable_by k b o = truth_value false

-- the place of a class of builtin values
abbrev pub builtin_class : (place : ℕ) → Value
builtin_class n = value.Obj (record { 0 = n })

abbrev pub view_class : Part → Value
view_class Keys = builtin_class 22
view_class Values = builtin_class 23
view_class Items = builtin_class 24

-- a function that is written in Python is a builtin one
abbrev pub function_class : (hidden : Bool) → Value
function_class true = builtin_class 16
function_class false = builtin_class 14

abbrev pub class_of_object : Option Object → Value
class_of_object (Some (object.Str t)) = builtin_class 4
class_of_object (Some (object.List vs)) = builtin_class 5
class_of_object (Some (object.Tuple vs)) = builtin_class 6
class_of_object (Some (object.Set es)) = builtin_class 7
class_of_object (Some (object.Dict es)) = builtin_class 8
class_of_object (Some (object.Range r)) = builtin_class 9
class_of_object (Some (object.Slice s)) = builtin_class 10
class_of_object (Some (object.Function f)) = function_class f.hidden
class_of_object (Some (object.Method m)) = builtin_class 15
class_of_object (Some (object.Builtin b)) = builtin_class 16
class_of_object (Some (object.Generator n)) = builtin_class 17
class_of_object (Some (object.Frame f)) = builtin_class 18
class_of_object (Some (object.CodeRef b g)) = builtin_class 19
class_of_object (Some (object.Module m)) = builtin_class 20
class_of_object (Some (object.Super s)) = builtin_class 21
class_of_object (Some (object.View v)) = view_class v.part
class_of_object (Some (object.Cursor c)) = builtin_class 25
class_of_object (Some (object.Class c)) = builtin_class 1
class_of_object (Some (object.Instance x)) = value.Obj x.class
class_of_object (Some (object.Error x)) = value.Obj x.class
class_of_object None = builtin_class 0

-- `type` of one value
abbrev pub class_of : List Object → Value → Value
class_of h (value.Bool b) = builtin_class 3
class_of h (value.Int z) = builtin_class 2
class_of h value.None = builtin_class 11
class_of h value.Ellipsis = builtin_class 12
class_of h value.NotImplemented = builtin_class 13
class_of h (value.Obj id) = class_of_object (slice_get h id.0)

-- `next` raises where there is no item, or gives another value
abbrev pub or_raise : Content → Content
or_raise (content.Changed c answer.End) = content.Changed c (answer.Raise STOP_ITERATION None)
or_raise c = c

abbrev pub or_default : (default : Value) → Content → Content
or_default v (content.Changed c answer.End) = content.Changed c (answer.Value v)
or_default v (content.Help NextOf inverted) = content.Help NextOrOf inverted
or_default v c = c

-- those that take an argument or none, and those that take one or two
abbrev pub call_next : List Value → List Object → Content
call_next (a ∷ []) h = or_raise (next_content h a)
call_next (a ∷ default ∷ []) h = or_default default (next_content h a)
call_next vs h = content.Outside Feature

abbrev pub call_int : List Value → List Object → Content
call_int [] h = content.Value (value.Int (pos 0))
call_int (a ∷ []) h = integer_by (operand_of h a) (text_of h a)
call_int vs h = content.Outside Feature

abbrev pub call_bool : List Value → List Object → Content
call_bool [] h = truth_value false
call_bool (a ∷ []) h = truth_content h a
call_bool vs h = content.Outside Feature

abbrev pub call_str : List Value → List Object → Content
call_str [] h = new_text []
call_str (a ∷ []) h = str_content h a
call_str vs h = content.Outside Feature

-- `sys.exit` raises an exception of its argument; None is as none (Library Reference, `sys.exit`)
abbrev pub exits_with : (status : Option Value) → Content
exits_with o = content.Changed (added []) (answer.Raise SYSTEM_EXIT o)

abbrev pub status_in : Value → Option Value
status_in value.None = None
status_in v = Some v

abbrev pub call_exit : List Value → Content
call_exit [] = exits_with None
call_exit (a ∷ []) = exits_with (status_in a)
call_exit vs = content.Outside Feature

-- what functions that are written in Python ask: a row for each; of other numbers of arguments there is none
abbrev pub hidden_content : Function → List Value → List Object → Content
hidden_content function.MakeTuple vs h = make_tuple vs h
hidden_content function.MakeSet vs h = make_set vs
hidden_content function.IsOf vs h = is_of vs h
hidden_content function.JoinItems vs h = join_items vs h
hidden_content function.SortItems vs h = sort_items vs h
hidden_content function.Refill vs h = refill vs h
hidden_content function.HasName vs h = has_name vs h
hidden_content function.GetName vs h = get_name vs h
hidden_content function.Refuse vs h = refuse vs h
hidden_content function.IsError (a ∷ []) h = truth_value (is_error (object_of h a))
hidden_content function.HoldsInstance (a ∷ []) h = truth_value (holds_instance h a)
hidden_content function.PlainRepr (a ∷ []) h = text_content (repr_pieces h a)
hidden_content function.Dots (a ∷ []) h = new_text (dots_of (object_of h a))
hidden_content function.Parts (a ∷ []) h = list_content (parts_of h a)
hidden_content function.Wrap vs h = wrap vs h
hidden_content function.TextGiven (a ∷ []) h = text_given a (text_of h a)
hidden_content function.TruthGiven (a ∷ []) h = truth_given a
hidden_content function.LengthGiven (a ∷ []) h = length_given (operand_of h a)
hidden_content function.Write (a ∷ []) h = write_by (text_of h a)
hidden_content f vs h = content.Outside Feature

-- the same of builtin functions and classes
abbrev pub builtin_content : Function → List Value → List Object → Content
builtin_content function.Print (separator ∷ end ∷ vs) h = print_content h separator end vs
builtin_content function.Len (a ∷ []) h = length_content h a
builtin_content function.Repr (a ∷ []) h = repr_content h a
builtin_content function.Isinstance (a ∷ classes ∷ []) h = is_of_classes h (class_of h a) classes
builtin_content function.Issubclass (a ∷ classes ∷ []) h = subclass_by h a classes
builtin_content function.Iter (a ∷ []) h = iterator_content h a
builtin_content function.Next vs h = call_next vs h
builtin_content function.Abs (a ∷ []) h = magnitude_by (operand_of h a)
builtin_content function.Divmod (a ∷ b ∷ []) h = division_by (operand_of h a) (operand_of h b)
builtin_content function.Ord (a ∷ []) h = code_by (text_of h a)
builtin_content function.Chr (a ∷ []) h = char_by (operand_of h a)
builtin_content function.Hasattr (a ∷ name ∷ []) h = has_attribute h a (text_of h name)
builtin_content function.Getattr vs h = call_getattr vs h
builtin_content function.Callable (a ∷ []) h = callable_by (operand_of h a) (is_some (method_of h a (codes "__call__"))) (object_of h a)
builtin_content function.Exit vs h = call_exit vs
builtin_content function.Type (a ∷ []) h = content.Value (class_of h a)
builtin_content function.Int vs h = call_int vs h
builtin_content function.Bool vs h = call_bool vs h
builtin_content function.Str vs h = call_str vs h
builtin_content function.Range vs h = range_content h vs
builtin_content f vs h = content.Outside Feature

abbrev pub is_hidden : Function → Bool
is_hidden function.MakeTuple = true
is_hidden function.MakeSet = true
is_hidden function.IsOf = true
is_hidden function.JoinItems = true
is_hidden function.SortItems = true
is_hidden function.Refill = true
is_hidden function.HasName = true
is_hidden function.GetName = true
is_hidden function.Refuse = true
is_hidden function.IsError = true
is_hidden function.HoldsInstance = true
is_hidden function.PlainRepr = true
is_hidden function.Dots = true
is_hidden function.Parts = true
is_hidden function.Wrap = true
is_hidden function.TextGiven = true
is_hidden function.TruthGiven = true
is_hidden function.LengthGiven = true
is_hidden function.Write = true
is_hidden f = false

abbrev pub call_content : Function → List Value → List Object → Content
call_content f vs h = if is_hidden f then hidden_content f vs h else builtin_content f vs h
