-- What is shown of an expression in a frame.
use Rattle.std.specs.Prelude.{ℕ, List, [], ◌++◌, Option, Some, None, Ok, Err, codes, slice_get}
use Rattle.pt_base.specs.declared.what.What.{What}
use Rattle.pt_base.specs.declared.what.What.TheVariants.{Feature}
use Rattle.pt_base.specs.Words.{word_of}
use Rattle.pt_tree.specs.Syntax.{Exp}
use Rattle.pt_heap.specs.declared.value.Value.{Value}
use Rattle.pt_heap.specs.declared.object.Object.{Object}
use Rattle.pt_heap.specs.declared.view.Binding.{Binding}
use Rattle.pt_heap.specs.declared.view.ViewFrame.{ViewFrame}
use Rattle.pt_content.specs.declared.content.Content.{Content}
use Rattle.pt_content.specs.declared.content.Content.TheVariants as content
use Rattle.pt_content.specs.declared.content.NewObject.TheVariants as new
use Rattle.pt_reprs.specs.Texts.{repr_content}
use Rattle.pt_eval.specs.declared.no_value.NoValue.{NoValue}
use Rattle.pt_eval.specs.declared.no_value.NoValue.TheVariants as none
use Rattle.pt_eval.specs.declared.answer.EvalAns.{EvalAns}
use Rattle.pt_eval.specs.declared.answer.EvalAns.TheVariants.{Shown, Raise, Refused}
use Rattle.pt_eval.specs.Steps.{Came, gives, and_then}
use Rattle.pt_eval.specs.NoValues.{raised}
use Rattle.pt_eval.specs.Evaluation.{evaluated, truth_of}

-- a limit, or what the language doesn't have here
abbrev pub outside_text : What → List ℕ
outside_text what = codes "Outside: " ++ word_of what

abbrev pub no_value : NoValue → EvalAns
no_value (none.Raised t) = Raise t
no_value (none.Outside what) = Raise (outside_text what)
no_value none.Refused = Refused

-- the text of a value, which is no object
abbrev pub shown_text : Content → List Object → Came (List ℕ)
shown_text (content.New (new.Text t)) h = gives t h
shown_text (content.Raise class t) h = Err (raised h class t)
shown_text (content.Help helper inverted) h = Err none.Refused
shown_text (content.Outside what) h = Err (none.Outside what)
shown_text c h = Err (none.Outside Feature)

unfoldable pub repr_of : Value → List Object → Came (List ℕ)
repr_of v h = shown_text (repr_content h v) h

-- a value by its `repr`, and whether it is true
abbrev pub shown : Value → List Object → Came EvalAns
shown v h = and_then (repr_of v h) (λ t g. and_then (truth_of v g) (λ is. gives (Shown t is)))

abbrev pub answered : Came EvalAns → EvalAns
answered (Ok (a, h)) = a
answered (Err e) = no_value e

module _ (locals globals : List Binding) where
  abbrev pub whole : Exp → List Object → Came EvalAns
  whole e h = and_then (evaluated locals globals e h) shown

  abbrev pub answer : Exp → List Object → EvalAns
  answer e h = answered (whole e h)

-- the names that are bound in a frame, if it is there
abbrev pub locals_in : Option ViewFrame → List Binding
locals_in (Some f) = f.locals
locals_in None = []

abbrev pub locals_at : List ViewFrame → (frame : ℕ) → List Binding
locals_at fs n = locals_in (slice_get fs n)
