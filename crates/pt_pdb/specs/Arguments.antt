-- The parameters of a frame (Library Reference, "pdb": args).
use Rattle.std.specs.Prelude.{ℕ, Bool, List, [], ◌∷◌, codes, if◌then◌else◌}
use Rattle.std.specs.List.{concat, flat_map, list_any}
use Rattle.std.specs.Str.{bytes_eq}
use Rattle.pt_heap.specs.declared.view.Binding.{Binding}
use Rattle.pt_heap.specs.declared.view.ViewFrame.{ViewFrame}

abbrev pub is_bound : (name : List ℕ) → List Binding → Bool
is_bound name locals = list_any (λ b. bytes_eq b.name name) locals

-- by what `p` answers to a name
abbrev pub argument_text : (answer : List ℕ → List ℕ) → List Binding → (name : List ℕ) → List ℕ
argument_text answer locals name = if is_bound name locals then concat (name ∷ codes " = " ∷ answer name ∷ codes "\n" ∷ []) else []

abbrev pub arguments_text : (answer : List ℕ → List ℕ) → ViewFrame → List ℕ
arguments_text answer f = flat_map (argument_text answer f.locals) f.params
