-- What is raised where special methods don't take operands (Language Reference 3.3.8, 6.10; Library Reference, "Built-in Functions", `iter`, `len`,
-- `next`).
use Rattle.std.specs.Prelude.{Bool, ◌||◌, ℕ, List, [], ◌∷◌, Option, Some, None, codes, if◌then◌else◌}
use Rattle.std.specs.Str.{bytes_eq}
use Rattle.pt_base.specs.declared.what.What.TheVariants.{Feature}
use Rattle.pt_heap.specs.declared.value.Value.{Value}
use Rattle.pt_heap.specs.declared.object.Object.{Object}
use Rattle.pt_content.specs.Classes.{class_name}
use Rattle.pt_content.specs.TypeErrors.{error_of_two, sentence, use_type_error}
use Rattle.pt_content.specs.declared.class.TheConstants.{TYPE_ERROR}
use Rattle.pt_content.specs.declared.content.Content.{Content}
use Rattle.pt_content.specs.declared.content.Content.TheVariants as content
use Rattle.pt_content.specs.Operands.{text_of}

abbrev pub is_order : (sign : List ℕ) → Bool
is_order s = bytes_eq s (codes "<") || (bytes_eq s (codes "<=") || (bytes_eq s (codes ">") || bytes_eq s (codes ">=")))

-- what an operator says of two operands; those of order say it otherwise
abbrev pub operands_refused : (sign : List ℕ) → (first second : List ℕ) → Content
operands_refused s a b =
    if is_order s then error_of_two (codes "'") s (codes "' not supported between instances of '") a b
    else error_of_two (codes "unsupported operand type(s) for ") s (codes ": '") a b

abbrev pub no_length : List Object → Value → Content
no_length h a = content.Raise TYPE_ERROR (sentence (codes "object of type '" ∷ class_name h a ∷ codes "' has no len()" ∷ []))

-- `iter`, `next` and `len` speak of the first operand alone
abbrev pub refused_by : (sign : List ℕ) → List Object → Value → Value → Content
refused_by s h a b =
    if bytes_eq s (codes "iter") then use_type_error h a (codes "iterable")
    else (if bytes_eq s (codes "next") then use_type_error h a (codes "an iterator")
    else (if bytes_eq s (codes "len") then no_length h a
    else operands_refused s (class_name h a) (class_name h b)))

abbrev pub refused : (sign : Option (List ℕ)) → List Object → Value → Value → Content
refused (Some s) h a b = refused_by s h a b
refused None h a b = content.Outside Feature

abbrev pub refuse : List Value → List Object → Content
refuse (sign ∷ a ∷ b ∷ []) h = refused (text_of h sign) h a b
refuse vs h = content.Outside Feature
