-- What calls on texts give (Library Reference, "Text Sequence Type"): a new text of the characters that are answered, or what keeps it
-- from being there.
use Rattle.std.specs.Prelude.{ℕ, List, [], ◌∷◌, Option, Some, None, Result, Ok, Err, map, encode_utf8_all}
use Rattle.std.specs.Str.{chars}
use Rattle.pt_base.specs.declared.what.What.TheVariants as what
use Rattle.pt_heap.specs.declared.value.Value.{Value}
use Rattle.pt_heap.specs.declared.object.Object.{Object}
use Rattle.pt_strs.specs.declared.error.StrErr.{StrErr}
use Rattle.pt_strs.specs.declared.error.StrErr.TheVariants.{Length, Format}
use Rattle.pt_strs.specs.Answer.{within}
use Rattle.pt_strs.specs.Join.{joined}
use Rattle.pt_content.specs.declared.class.TheConstants.{TYPE_ERROR, VALUE_ERROR}
use Rattle.pt_content.specs.declared.content.Content.{Content}
use Rattle.pt_content.specs.declared.content.Content.TheVariants as content
use Rattle.pt_content.specs.declared.content.NewObject.TheVariants as new
use Rattle.pt_content.specs.Operands.{text_of}
use Rattle.pt_content.specs.TypeErrors.{bad_argument}

-- what is too long, or laid out by a spec that isn't listed, leaves the profile; an empty separator is a wrong text
abbrev pub refused : StrErr → Content
refused Length = content.Outside what.Length
refused Format = content.Outside what.Format
refused e = bad_argument VALUE_ERROR

abbrev pub answered : Result (List ℕ) StrErr → Content
answered (Ok cs) = content.New (new.Text (encode_utf8_all cs))
answered (Err e) = refused e

-- one text more
abbrev pub with_text : Option (List ℕ) → Option (List (List ℕ)) → Option (List (List ℕ))
with_text (Some t) (Some ts) = Some (t ∷ ts)
with_text t ts = None

-- the texts that values are, if each is one
abbrev pub texts_of : List Object → List Value → Option (List (List ℕ))
texts_of h [] = Some []
texts_of h (v ∷ vs) = with_text (text_of h v) (texts_of h vs)

abbrev pub joined_by : (sep : List ℕ) → Option (List (List ℕ)) → Content
joined_by sep (Some ts) = answered (within (joined (chars sep) (map chars ts)))
joined_by sep None = bad_argument TYPE_ERROR

-- values with a text between them, if each is a text
abbrev pub joined_content : List Object → (sep : List ℕ) → List Value → Content
joined_content h sep vs = joined_by sep (texts_of h vs)
