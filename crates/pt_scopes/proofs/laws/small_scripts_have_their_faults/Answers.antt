use Rattle.std.proofs.Common.{refl}
use Rattle.pt_scopes.specs.Places.{◌⨾◌, nothing, mention, block, comprehension, in_function, in_generator, in_class, in_comprehension}
use Rattle.pt_scopes.proofs.laws.small_scripts_have_their_faults.Goals as goal

pub returns-clause-none : goal.returns-clause-none
unfolding ◌⨾◌ nothing mention block comprehension in_function in_generator in_class in_comprehension
returns-clause-none c = refl

pub returns-clause-no_binding : goal.returns-clause-no_binding
unfolding ◌⨾◌ nothing mention block comprehension in_function in_generator in_class in_comprehension
returns-clause-no_binding c = refl

pub returns-clause-twice : goal.returns-clause-twice
unfolding ◌⨾◌ nothing mention block comprehension in_function in_generator in_class in_comprehension
returns-clause-twice c = refl

pub returns-clause-late : goal.returns-clause-late
unfolding ◌⨾◌ nothing mention block comprehension in_function in_generator in_class in_comprehension
returns-clause-late c = refl

pub returns-clause-late_comprehension : goal.returns-clause-late_comprehension
unfolding ◌⨾◌ nothing mention block comprehension in_function in_generator in_class in_comprehension
returns-clause-late_comprehension c = refl

pub returns-clause-misplaced : goal.returns-clause-misplaced
unfolding ◌⨾◌ nothing mention block comprehension in_function in_generator in_class in_comprehension
returns-clause-misplaced c = refl

pub returns-clause-yielded : goal.returns-clause-yielded
unfolding ◌⨾◌ nothing mention block comprehension in_function in_generator in_class in_comprehension
returns-clause-yielded c = refl
