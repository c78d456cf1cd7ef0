-- The text of a replacement field, and of an f-string (Language Reference 2.4.3; Library Reference, `format`, "Format Specification
-- Mini-Language").
use Rattle.std.specs.Prelude.{ℕ, List, [], Option, Some, None}
use Rattle.std.specs.Str.{chars}
use Rattle.pt_tree.specs.declared.expression.Conversion.{Conversion}
use Rattle.pt_tree.specs.declared.expression.Conversion.TheVariants.{Repr}
use Rattle.pt_heap.specs.declared.value.Value.{Value}
use Rattle.pt_heap.specs.declared.value.Value.TheVariants as value
use Rattle.pt_heap.specs.declared.object.Object.{Object}
use Rattle.pt_formats.specs.declared.value.FormatValue.{FormatValue}
use Rattle.pt_formats.specs.declared.value.FormatValue.TheVariants.{Int, Str}
use Rattle.pt_formats.specs.Layout.{formatted}
use Rattle.pt_formats.specs.Spec.{spec_of}
use Rattle.pt_content.specs.declared.class.TheConstants.{TYPE_ERROR}
use Rattle.pt_content.specs.declared.content.Content.{Content}
use Rattle.pt_content.specs.declared.content.Content.TheVariants as content
use Rattle.pt_content.specs.declared.content.NewObject.TheVariants as new
use Rattle.pt_content.specs.declared.operand.Operand.{Operand}
use Rattle.pt_content.specs.declared.operand.Operand.TheVariants.{Number}
use Rattle.pt_content.specs.Operands.{operand_of, text_of}
use Rattle.pt_content.specs.TypeErrors.{bad_argument}
use Rattle.pt_reprs.specs.Texts.{repr_content, str_content}
use Rattle.pt_text_operations.specs.Answers.{answered, joined_content}

-- `!r` takes the `repr` of a value, `!s` and no conversion its `str`; where a method of a script is to be asked for that, the text that
-- it gives is laid out by the spec
abbrev pub converted : Option Conversion → List Object → Value → Content
converted (Some Repr) h v = repr_content h v
converted c h v = str_content h v

abbrev pub laid_out : (spec : List ℕ) → FormatValue → Content
laid_out spec v = answered (formatted v (spec_of (chars spec)))

abbrev pub laid_text : (spec : List ℕ) → Option (List ℕ) → Content → Content
laid_text spec (Some t) c = laid_out spec (Str t)
laid_text spec None c = c

-- the text that a value was converted to, laid out; what has no text stays as it is
abbrev pub laid_content : List Object → (spec : List ℕ) → Content → Content
laid_content h spec (content.Value v) = laid_text spec (text_of h v) (content.Value v)
laid_content h spec (content.New (new.Text t)) = laid_out spec (Str t)
laid_content h spec c = c

-- an integer, and a truth value as one, is laid out as a number where it isn't converted
abbrev pub specified : Option Conversion → List Object → Value → (spec : List ℕ) → Operand → Content
specified None h v spec (Number z) = laid_out spec (Int z)
specified c h v spec k = laid_content h spec (converted c h v)

-- an empty spec is as none
abbrev pub format_by : Option Conversion → List Object → Value → (spec : List ℕ) → Content
format_by c h v [] = converted c h v
format_by c h v spec = specified c h v spec (operand_of h v)

abbrev pub format_if : Option Conversion → List Object → Value → (spec : Option (List ℕ)) → Content
format_if c h v (Some spec) = format_by c h v spec
format_if c h v None = bad_argument TYPE_ERROR

-- a value by a spec, which is a text, or None where a field has none
abbrev pub format_content : Option Conversion → List Object → (value spec : Value) → Content
format_content c h v value.None = converted c h v
format_content c h v spec = format_if c h v (text_of h spec)

-- the parts of an f-string, one behind the other
abbrev pub join_content : List Object → (parts : List Value) → Content
join_content h vs = joined_content h [] vs
