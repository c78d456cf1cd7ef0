-- Which values are true (Library Reference, "Truth Value Testing"; Language Reference 6.11).
use Rattle.std.specs.Prelude.{ℕ, ℤ, pos, zero, Bool, true, false, not, List, ◌∷◌, Option, Some, None, nat_eq}
use Rattle.pt_heap.specs.declared.value.Value.{Value}
use Rattle.pt_heap.specs.declared.value.Value.TheVariants as value
use Rattle.pt_heap.specs.declared.object.Object.{Object}
use Rattle.pt_content.specs.declared.operand.Operand.{Operand}
use Rattle.pt_content.specs.declared.operand.Operand.TheVariants as operand
use Rattle.pt_content.specs.declared.answer.Helper.TheVariants.{TruthOf}
use Rattle.pt_content.specs.declared.content.Content.{Content}
use Rattle.pt_content.specs.declared.content.Content.TheVariants as content
use Rattle.pt_content.specs.Operands.{operand_of, text_of}
use Rattle.pt_views.specs.pt_sequences.Lengths.{length_of}

abbrev pub truth_value : Bool → Content
truth_value b = content.Value (value.Bool b)

-- what isn't so: the other truth value, also of what a helper is asked
abbrev pub turned : Content → Content
turned (content.Value (value.Bool b)) = truth_value (not b)
turned (content.Help helper inverted) = content.Help helper (not inverted)
turned c = c

abbrev pub is_zero : ℤ → Bool
is_zero (pos zero) = true
is_zero _ = false

abbrev pub is_empty : Option (List ℕ) → Bool
is_empty (Some (c ∷ cs)) = false
is_empty _ = true

-- a container without items isn't true; a slice and an exception have none to be counted
abbrev pub has_items : Option ℕ → Bool
has_items (Some n) = not (nat_eq n 0)
has_items None = true

-- numbers but 0, texts with characters, containers with items
abbrev pub truth_by : List Object → Value → Operand → Content
truth_by h value.None k = truth_value false
truth_by h v (operand.Number z) = truth_value (not (is_zero z))
truth_by h v operand.Text = truth_value (not (is_empty (text_of h v)))
truth_by h v operand.Instance = content.Help TruthOf false
truth_by h v operand.Compound = truth_value (has_items (length_of h v))
truth_by h v operand.Plain = truth_value true

abbrev pub truth_content : List Object → Value → Content
truth_content h v = truth_by h v (operand_of h v)

-- `not`
abbrev pub inverse_content : List Object → Value → Content
inverse_content h v = turned (truth_content h v)
