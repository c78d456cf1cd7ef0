-- The states of a generator and how it is resumed (Language Reference 6.2.9 "Yield expressions", 6.2.9.1 "Generator-iterator
-- methods"; PEP 342).
use Rattle.std.specs.Prelude.{Bool, true, false, Result, Ok, Err, if◌then◌else◌}
use Rattle.pt_heap.specs.declared.value.Value.TheVariants.{None}
use Rattle.pt_gen.specs.declared.generator.How.{How}
use Rattle.pt_gen.specs.declared.generator.How.TheVariants.{Send}
use Rattle.pt_gen.specs.declared.generator.GenErr.{GenErr}
use Rattle.pt_gen.specs.declared.generator.GenErr.TheVariants as err
use Rattle.pt_gen.specs.declared.generator.GenState.{GenState}
use Rattle.pt_gen.specs.declared.generator.GenState.TheVariants as state
use Rattle.pt_gen.specs.declared.generator.Generator.{Generator}
use Rattle.pt_gen.specs.declared.generator.Generator.TheVariants.{Fresh, Suspended, Running, Finished}

-- a value other than None is sent
abbrev pub sends_value : How → Bool
sends_value (Send None) = false
sends_value (Send v) = true
sends_value _ = false

abbrev pub state_of : {A : Type 0} → Generator A → GenState
state_of (Fresh a) = state.Fresh
state_of (Suspended a) = state.Suspended
state_of Running = state.Running
state_of Finished = state.Finished

-- what a resumption hands out: the activation, unless the generator runs or has finished, or is sent a value before it has
-- begun
abbrev pub resumption : {A : Type 0} → How → Generator A → Result A GenErr
resumption how (Fresh a) = if sends_value how then Err err.SendEarly else Ok a
resumption how (Suspended a) = Ok a
resumption how Running = Err err.Running
resumption how Finished = Err err.Done
