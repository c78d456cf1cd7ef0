-- What the names of a block begin with, by the values of its parameters (Language Reference 4.2.2, 6.3.4).
use Rattle.std.specs.Prelude.{ℕ, ◌+◌, List, [], ◌∷◌, map, Option, None, if◌then◌else◌}
use Rattle.pt_tree.specs.Syntax.{Name}
use Rattle.pt_heap.specs.declared.value.Value.{Value}
use Rattle.pt_names.specs.Names.{name_value}
use Rattle.pt_bind.specs.NameSets.{is_among}
use Rattle.pt_moves.specs.sem_rows.pt_host.Calls.{parameters_given}
use Rattle.pt_code_facts.specs.declared.facts.BlockFacts.{BlockFacts}

-- the first local names are those of the parameters
abbrev pub parameter_value : (locals : List Name) → List (Option Value) → Name → Option Value
parameter_value xs vs x = name_value x (parameters_given xs vs)

-- a parameter that has a cell has its value there
abbrev pub first_value_of : BlockFacts → List (Option Value) → Name → Option Value
first_value_of facts vs x = if is_among facts.cells x then None else parameter_value facts.locals vs x

abbrev pub first_values_of : BlockFacts → List (Option Value) → List Name → List (Option Value)
first_values_of facts vs xs = map (first_value_of facts vs) xs

-- the cells that are made hold the values of parameters
abbrev pub given_cells : BlockFacts → List (Option Value) → List Name → List (Option Value)
given_cells facts vs xs = map (parameter_value facts.locals vs) xs

-- a number for each name, one after the other
abbrev pub numbers_from : (first : ℕ) → List Name → List ℕ
numbers_from n [] = []
numbers_from n (x ∷ xs) = n ∷ numbers_from (n + 1) xs
