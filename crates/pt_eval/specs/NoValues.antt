-- Why an evaluation gives no value, and what is told of that.
use Rattle.std.specs.Prelude.{ℕ, List, [], ◌∷◌, Option, None, false, codes}
use Rattle.pt_base.specs.declared.numbers.ObjId.{ObjId}
use Rattle.pt_heap.specs.declared.value.Value.{Value}
use Rattle.pt_heap.specs.declared.object.Error.{Error as ErrorObject}
use Rattle.pt_heap.specs.declared.object.Object.{Object}
use Rattle.pt_content.specs.declared.content.Content.{Content}
use Rattle.pt_content.specs.declared.content.Content.TheVariants as content
use Rattle.pt_content.specs.declared.content.NewObject.TheVariants as new
use Rattle.pt_content.specs.Classes.{name_at}
use Rattle.pt_content.specs.TypeErrors.{sentence}
use Rattle.pt_reprs.specs.Texts.{error_content}
use Rattle.pt_builtins.specs.pt_host.Primitives.{arguments_of}
use Rattle.pt_eval.specs.declared.no_value.NoValue.{NoValue}
use Rattle.pt_eval.specs.declared.no_value.NoValue.TheVariants.{Raised}

-- an exception by its class and its text, or by its class alone where that is empty
abbrev pub exception_text : (class text : List ℕ) → List ℕ
exception_text class [] = class
exception_text class (c ∷ cs) = sentence (class ∷ codes ": " ∷ (c ∷ cs) ∷ [])

-- of a class that stands in a heap
abbrev pub raised : List Object → (class : ObjId) → (text : List ℕ) → NoValue
raised h class t = Raised (exception_text (name_at h class) t)

-- an exception that is no object, since nothing handles it
abbrev pub error_of : (class : ObjId) → Option Value → ErrorObject
error_of class argument = record {
  class = class;
  args = arguments_of argument;
  cause = None;
  context = None;
  hides_context = false;
  trace = [];
  names = [];
}

-- the text that is given, none where a method of a script would be asked or no text is there
abbrev pub given_text : Content → List ℕ
given_text (content.New (new.Text t)) = t
given_text c = []

-- with its argument, if it has one
abbrev pub raised_with : List Object → (class : ObjId) → Option Value → NoValue
raised_with h class argument = raised h class (given_text (error_content h (error_of class argument)))
