-- What `str`, `repr` and `print` give of values (Library Reference, "Built-in Functions", "Text Sequence Type", "Built-in Exceptions").
use Rattle.std.specs.Prelude.{ℕ, zero, suc, Bool, true, false, List, [], ◌∷◌, ◌++◌, Option, Some, None, Result, Ok, Err, codes, nat_eq, if◌then◌else◌}
use Rattle.pt_base.specs.declared.numbers.ObjId.{ObjId}
use Rattle.pt_base.specs.declared.what.What.TheVariants as what
use Rattle.pt_heap.specs.declared.value.Value.{Value}
use Rattle.pt_heap.specs.declared.value.Value.TheVariants as value
use Rattle.pt_heap.specs.declared.object.Error.{Error as ErrorObject}
use Rattle.pt_heap.specs.declared.object.Object.{Object}
use Rattle.pt_heap.specs.declared.object.Object.TheVariants as object
use Rattle.pt_content.specs.pt_attrs.Look.{object_of}
use Rattle.pt_strs.specs.Answer.{length_limit}
use Rattle.pt_content.specs.declared.answer.Helper.{Helper}
use Rattle.pt_content.specs.declared.answer.Helper.TheVariants.{PrintOf, ReprOf, StrOf}
use Rattle.pt_content.specs.declared.class.TheConstants.{RECURSION_ERROR, TYPE_ERROR}
use Rattle.pt_content.specs.declared.content.Content.{Content}
use Rattle.pt_content.specs.declared.content.Content.TheVariants as content
use Rattle.pt_content.specs.declared.content.NewObject.TheVariants as new
use Rattle.pt_content.specs.Operands.{text_of}
use Rattle.pt_content.specs.TypeErrors.{bad_argument}
use Rattle.pt_reprs.specs.declared.writer.WriteErr.{WriteErr}
use Rattle.pt_reprs.specs.declared.writer.WriteErr.TheVariants.{Deep, Length, Feature}
use Rattle.pt_reprs.specs.Pieces.{Piece, written}
use Rattle.pt_reprs.specs.Reached.{needs_help, need_help}
use Rattle.pt_reprs.specs.Reprs.{depth_limit, repr_pieces, tuple_pieces}
use Rattle.pt_reprs.specs.declared.texts.TheConstants.{KEY_ERROR}

-- a text that was written, or what kept it from that
abbrev pub by_text : (List ℕ → Content) → Result (List ℕ) WriteErr → Content
by_text make (Ok t) = make t
by_text make (Err Deep) = content.Raise RECURSION_ERROR (codes "too many activations")
by_text make (Err Length) = content.Outside what.Length
by_text make (Err Feature) = content.Outside what.Feature

abbrev pub new_text : List ℕ → Content
new_text t = content.New (new.Text t)

abbrev pub text_content : List Piece → Content
text_content ps = by_text new_text (written length_limit ps)

-- `repr`
abbrev pub repr_content : List Object → Value → Content
repr_content h v = if needs_help h v then content.Help ReprOf false else text_content (repr_pieces h v)

-- `str` of an exception: nothing without arguments, that of a single one, and else the tuple of them; of a KeyError it is the `repr` of its key
abbrev pub args_pieces : List Object → (str : Value → List Piece) → (of_key : Bool) → List Value → List Piece
args_pieces h str of_key [] = []
args_pieces h str true (v ∷ []) = repr_pieces h v
args_pieces h str false (v ∷ []) = str v
args_pieces h str of_key vs = tuple_pieces h vs

abbrev pub is_key_error : (class : ObjId) → Bool
is_key_error c = nat_eq c.0 KEY_ERROR.0

-- a text is its own
abbrev pub object_text : List Object → (error : ErrorObject → List Piece) → Value → Option Object → List Piece
object_text h error v (Some (object.Str t)) = Ok t ∷ []
object_text h error v (Some (object.Error x)) = error x
object_text h error v o = repr_pieces h v

-- in so many exceptions that stand inside one another, it among them
unfoldable pub error_within : List Object → (depth : ℕ) → ErrorObject → List Piece
error_within h zero x = Err Deep ∷ []
error_within h (suc depth) x = args_pieces h (λ v. object_text h (error_within h depth) v (object_of h v)) (is_key_error x.class) x.args

abbrev pub error_pieces : List Object → ErrorObject → List Piece
error_pieces h x = error_within h depth_limit x

abbrev pub str_pieces : List Object → Value → List Piece
str_pieces h v = object_text h (error_pieces h) v (object_of h v)

abbrev pub error_content : List Object → ErrorObject → Content
error_content h x = if need_help h x.args then content.Help StrOf false else text_content (error_pieces h x)

-- `str`
abbrev pub str_by : List Object → Value → Option (List ℕ) → Content
str_by h v (Some t) = content.Value v
str_by h v None = if needs_help h v then content.Help StrOf false else text_content (str_pieces h v)

abbrev pub str_content : List Object → Value → Content
str_content h v = str_by h v (text_of h v)

-- each behind a separator
abbrev pub behind_separators : List Object → (separator : List ℕ) → List Value → List Piece
behind_separators h separator [] = []
behind_separators h separator (v ∷ vs) = Ok separator ∷ (str_pieces h v ++ behind_separators h separator vs)

abbrev pub between_separators : List Object → (separator : List ℕ) → List Value → List Piece
between_separators h separator [] = []
between_separators h separator (v ∷ vs) = str_pieces h v ++ behind_separators h separator vs

abbrev pub printed : List Object → (separator end : List ℕ) → List Value → Content
printed h separator end vs =
    if need_help h vs then content.Help PrintOf false
    else by_text content.Print (written length_limit (between_separators h separator vs ++ Ok end ∷ []))

-- `sep` and `end` are texts, or None for the usual one
abbrev pub text_or : (usual : List ℕ) → List Object → Value → Option (List ℕ)
text_or usual h value.None = Some usual
text_or usual h v = text_of h v

abbrev pub printed_between : List Object → (separator end : Option (List ℕ)) → List Value → Content
printed_between h (Some separator) (Some end) vs = printed h separator end vs
printed_between h separator end vs = bad_argument TYPE_ERROR

-- `print`, of a separator, an end and then values
abbrev pub print_content : List Object → (separator end : Value) → List Value → Content
print_content h separator end vs = printed_between h (text_or (codes " ") h separator) (text_or (10 ∷ []) h end) vs
