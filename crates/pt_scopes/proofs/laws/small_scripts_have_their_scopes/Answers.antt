use Rattle.std.proofs.Common.{refl}
use Rattle.pt_scopes.specs.Places.{◌⨾◌, nothing, mention, block, comprehension, in_function, in_generator, in_class, in_comprehension}
use Rattle.pt_scopes.proofs.laws.small_scripts_have_their_scopes.Goals as goal

pub returns-clause-cell : goal.returns-clause-cell
unfolding ◌⨾◌ nothing mention block comprehension in_function in_generator in_class in_comprehension
returns-clause-cell c = refl

pub returns-clause-free : goal.returns-clause-free
unfolding ◌⨾◌ nothing mention block comprehension in_function in_generator in_class in_comprehension
returns-clause-free c = refl

pub returns-clause-module : goal.returns-clause-module
unfolding ◌⨾◌ nothing mention block comprehension in_function in_generator in_class in_comprehension
returns-clause-module c = refl

pub returns-clause-local : goal.returns-clause-local
unfolding ◌⨾◌ nothing mention block comprehension in_function in_generator in_class in_comprehension
returns-clause-local c = refl

pub returns-clause-unbound : goal.returns-clause-unbound
unfolding ◌⨾◌ nothing mention block comprehension in_function in_generator in_class in_comprehension
returns-clause-unbound c = refl

pub returns-clause-no_block : goal.returns-clause-no_block
unfolding ◌⨾◌ nothing mention block comprehension in_function in_generator in_class in_comprehension
returns-clause-no_block c = refl

pub returns-clause-passed : goal.returns-clause-passed
unfolding ◌⨾◌ nothing mention block comprehension in_function in_generator in_class in_comprehension
returns-clause-passed c = refl

pub returns-clause-passed_cell : goal.returns-clause-passed_cell
unfolding ◌⨾◌ nothing mention block comprehension in_function in_generator in_class in_comprehension
returns-clause-passed_cell c = refl

pub returns-clause-class : goal.returns-clause-class
unfolding ◌⨾◌ nothing mention block comprehension in_function in_generator in_class in_comprehension
returns-clause-class c = refl

pub returns-clause-method : goal.returns-clause-method
unfolding ◌⨾◌ nothing mention block comprehension in_function in_generator in_class in_comprehension
returns-clause-method c = refl

pub returns-clause-class_comprehension : goal.returns-clause-class_comprehension
unfolding ◌⨾◌ nothing mention block comprehension in_function in_generator in_class in_comprehension
returns-clause-class_comprehension c = refl

pub returns-clause-around_class : goal.returns-clause-around_class
unfolding ◌⨾◌ nothing mention block comprehension in_function in_generator in_class in_comprehension
returns-clause-around_class c = refl

pub returns-clause-comprehension : goal.returns-clause-comprehension
unfolding ◌⨾◌ nothing mention block comprehension in_function in_generator in_class in_comprehension
returns-clause-comprehension c = refl

pub returns-clause-lambda : goal.returns-clause-lambda
unfolding ◌⨾◌ nothing mention block comprehension in_function in_generator in_class in_comprehension
returns-clause-lambda c = refl

pub returns-clause-global : goal.returns-clause-global
unfolding ◌⨾◌ nothing mention block comprehension in_function in_generator in_class in_comprehension
returns-clause-global c = refl

pub returns-clause-not_captured : goal.returns-clause-not_captured
unfolding ◌⨾◌ nothing mention block comprehension in_function in_generator in_class in_comprehension
returns-clause-not_captured c = refl

pub returns-clause-nonlocal : goal.returns-clause-nonlocal
unfolding ◌⨾◌ nothing mention block comprehension in_function in_generator in_class in_comprehension
returns-clause-nonlocal c = refl

pub returns-clause-bound_inside : goal.returns-clause-bound_inside
unfolding ◌⨾◌ nothing mention block comprehension in_function in_generator in_class in_comprehension
returns-clause-bound_inside c = refl

pub returns-clause-private : goal.returns-clause-private
unfolding ◌⨾◌ nothing mention block comprehension in_function in_generator in_class in_comprehension
returns-clause-private c = refl
