-- What special methods gave, if they may, and what is written (Language Reference 3.3.1, 3.3.7).
use Rattle.std.specs.Prelude.{ℕ, pos, negsuc, List, Option, Some, None}
use Rattle.pt_base.specs.declared.what.What.TheVariants.{Feature}
use Rattle.pt_heap.specs.declared.value.Value.{Value}
use Rattle.pt_heap.specs.declared.value.Value.TheVariants as value
use Rattle.pt_content.specs.TypeErrors.{bad_argument}
use Rattle.pt_content.specs.declared.class.TheConstants.{TYPE_ERROR, VALUE_ERROR}
use Rattle.pt_content.specs.declared.content.Content.{Content}
use Rattle.pt_content.specs.declared.content.Content.TheVariants as content
use Rattle.pt_content.specs.declared.operand.Operand.{Operand}
use Rattle.pt_content.specs.declared.operand.Operand.TheVariants.{Number}

abbrev pub text_given : Value → Option (List ℕ) → Content
text_given v (Some t) = content.Value v
text_given v None = bad_argument TYPE_ERROR

abbrev pub truth_given : Value → Content
truth_given (value.Bool b) = content.Value (value.Bool b)
truth_given v = bad_argument TYPE_ERROR

abbrev pub length_given : Operand → Content
length_given (Number (pos n)) = content.Value (value.Int (pos n))
length_given (Number (negsuc n)) = bad_argument VALUE_ERROR
length_given k = bad_argument TYPE_ERROR

abbrev pub write_by : Option (List ℕ) → Content
write_by (Some t) = content.Print t
write_by None = content.Outside Feature
