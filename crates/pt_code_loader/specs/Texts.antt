-- The texts of a code's constants, each once, and the values of its constants, of which those of texts are objects.
use Rattle.std.specs.Prelude.{◌≡◌, List, [], ◌∷◌, map}
use Rattle.std.specs.List.{flat_map}
use Rattle.std.specs.Str.{bytes_eq}
use Rattle.pt_tree.specs.Syntax.{Name}
use Rattle.pt_heap.specs.declared.value.Value.{Value}
use Rattle.pt_code.specs.declared.Const.{Const}
use Rattle.pt_code.specs.declared.Const.TheVariants as const
use Rattle.pt_code.specs.declared.Code.{Code}
use Rattle.sem_code.specs.slots.BlockObject.{text_in, constant_of}
use Rattle.pt_assembler.specs.Tables.{kept}
use Rattle.pt_code_tables.specs.pt_builtins.pt_host.Answers.{constant_value}
use Rattle.pt_code_tables.specs.pt_builtins.pt_host.World.{Program}

abbrev pub text_of : (texts : List Name) → Const → List Name
text_of texts (const.Text t) = text_in texts t.0 ∷ []
text_of texts k = []

-- texts behind others, each where it isn't there yet
abbrev pub kept_texts : List Name → List Name → List Name
kept_texts ts [] = ts
kept_texts ts (x ∷ xs) = kept_texts (kept (bytes_eq x) x ts) xs

abbrev pub texts_among : (texts : List Name) → List Const → List Name
texts_among texts ks = kept_texts [] (flat_map (text_of texts) ks)

abbrev pub constant_texts : Code → List Name
constant_texts c = texts_among c.texts c.constants

-- those of the prelude, and then those of a code that aren't among them
abbrev pub program_texts : (prelude code : Code) → List Name
program_texts p c = kept_texts (constant_texts p) (flat_map (text_of c.texts) c.constants)

abbrev pub values_in : (texts : List Name) → List Const → Program → List Value
values_in texts ks program = map (λ k. constant_value program (constant_of texts k)) ks

-- where these are the texts of the program's constants
abbrev pub AreValues : (texts : List Name) → List Const → (of_constants : List Name) → List Value → Type 0
AreValues texts ks ts vs = (program : Program) → program.texts ≡ ts → vs ≡ values_in texts ks program
