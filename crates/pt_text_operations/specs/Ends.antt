-- Whether a part stands at an end of a text, and how often it stands in it (Library Reference, `str.startswith`, `str.endswith`,
-- `str.count`).
use Rattle.std.specs.Prelude.{ℕ, ◌-◌, Bool, true, false, List, [], ◌∷◌, Option, Some, None, length, reverse, if◌then◌else◌}
use Rattle.std.specs.Str.{chars}
use Rattle.pt_heap.specs.declared.value.Value.{Value}
use Rattle.pt_heap.specs.declared.value.Value.TheVariants as value
use Rattle.pt_heap.specs.declared.object.Object.{Object}
use Rattle.pt_heap.specs.declared.object.Object.TheVariants as object
use Rattle.pt_strs.specs.Cut.{begins_with}
use Rattle.pt_strs.specs.Replace.{around}
use Rattle.pt_content.specs.pt_attrs.Look.{object_of}
use Rattle.pt_content.specs.declared.class.TheConstants.{TYPE_ERROR}
use Rattle.pt_content.specs.declared.content.Content.{Content}
use Rattle.pt_content.specs.declared.content.Content.TheVariants as content
use Rattle.pt_content.specs.Operands.{text_of}
use Rattle.pt_content.specs.TypeErrors.{bad_argument}
use Rattle.pt_text_operations.specs.declared.ends.End.{End}
use Rattle.pt_text_operations.specs.declared.ends.End.TheVariants.{Front, Back}

abbrev pub stands_at : End → (part : List ℕ) → List ℕ → Bool
stands_at Front part cs = begins_with cs part
stands_at Back part cs = begins_with (reverse cs) (reverse part)

abbrev pub truth : Bool → Content
truth b = content.Value (value.Bool b)

abbrev pub or_later : End → (cs : List ℕ) → (part : Option (List ℕ)) → (later : Content) → Content
or_later end cs (Some t) later = if stands_at end (chars t) cs then truth true else later
or_later end cs None later = bad_argument TYPE_ERROR

-- whether one of some parts stands there; those behind the first that does aren't looked at
abbrev pub one_stands : End → List Object → (cs : List ℕ) → (parts : List Value) → Content
one_stands end h cs [] = truth false
one_stands end h cs (v ∷ vs) = or_later end cs (text_of h v) (one_stands end h cs vs)

-- `startswith` and `endswith`, of a text, or of a tuple of texts
abbrev pub ends_by : End → List Object → (cs : List ℕ) → Value → Option Object → Content
ends_by end h cs v (Some (object.Tuple vs)) = one_stands end h cs vs
ends_by end h cs v o = one_stands end h cs (v ∷ [])

abbrev pub ends_content : End → List Object → (text : List ℕ) → Value → Content
ends_content end h t v = ends_by end h (chars t) v (object_of h v)

-- how often a part stands in a text, behind one another; an empty part stands before each character and at the end
abbrev pub occurrences : (part : List ℕ) → List ℕ → ℕ
occurrences part cs = length (around part cs) - 1
