use Rattle.std.proofs.Common.{refl}
use Rattle.pt_scopes.specs.Places.{◌⨾◌, nothing, mention, block, comprehension, in_function, in_generator, in_class, in_comprehension}
use Rattle.sem_names.proofs.laws.names_in_small_scripts.Goals as goal

pub returns-clause-cell : goal.returns-clause-cell
unfolding ◌⨾◌ nothing mention block comprehension in_function in_generator in_class in_comprehension
returns-clause-cell c = refl

pub returns-clause-free : goal.returns-clause-free
unfolding ◌⨾◌ nothing mention block comprehension in_function in_generator in_class in_comprehension
returns-clause-free c = refl

pub returns-clause-passed : goal.returns-clause-passed
unfolding ◌⨾◌ nothing mention block comprehension in_function in_generator in_class in_comprehension
returns-clause-passed c = refl

pub returns-clause-comprehension : goal.returns-clause-comprehension
unfolding ◌⨾◌ nothing mention block comprehension in_function in_generator in_class in_comprehension
returns-clause-comprehension c = refl

pub returns-clause-lambda : goal.returns-clause-lambda
unfolding ◌⨾◌ nothing mention block comprehension in_function in_generator in_class in_comprehension
returns-clause-lambda c = refl

pub returns-clause-parameter : goal.returns-clause-parameter
unfolding ◌⨾◌ nothing mention block comprehension in_function in_generator in_class in_comprehension
returns-clause-parameter c = refl

pub returns-clause-class : goal.returns-clause-class
unfolding ◌⨾◌ nothing mention block comprehension in_function in_generator in_class in_comprehension
returns-clause-class c = refl

pub returns-clause-method : goal.returns-clause-method
unfolding ◌⨾◌ nothing mention block comprehension in_function in_generator in_class in_comprehension
returns-clause-method c = refl

pub returns-clause-class_cell : goal.returns-clause-class_cell
unfolding ◌⨾◌ nothing mention block comprehension in_function in_generator in_class in_comprehension
returns-clause-class_cell c = refl

pub returns-clause-private : goal.returns-clause-private
unfolding ◌⨾◌ nothing mention block comprehension in_function in_generator in_class in_comprehension
returns-clause-private c = refl
