use Rattle.std.proofs.Common.{refl}
use Rattle.pt_scopes.specs.Places.{◌⨾◌, nothing, mention, block, comprehension, in_function, in_generator, in_class, in_comprehension}
use Rattle.sem_names.proofs.laws.names_in_a_class.Goals as goal

pub returns-clause-own : goal.returns-clause-own
unfolding ◌⨾◌ nothing mention block comprehension in_function in_generator in_class in_comprehension
returns-clause-own c = refl

pub returns-clause-within : goal.returns-clause-within
unfolding ◌⨾◌ nothing mention block comprehension in_function in_generator in_class in_comprehension
returns-clause-within c = refl

pub returns-clause-target : goal.returns-clause-target
unfolding ◌⨾◌ nothing mention block comprehension in_function in_generator in_class in_comprehension
returns-clause-target c = refl
