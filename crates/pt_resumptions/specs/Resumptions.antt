-- What comes of having a generator go on, by its state (Language Reference 6.2.9.1,
-- "Generator-iterator methods"): only `throw` and `close` finish one that hasn't started, and go no
-- further.
use Rattle.std.specs.Prelude.{if◌then◌else◌}
use Rattle.pt_heap.specs.declared.value.Value.TheVariants as value
use Rattle.pt_gen.specs.declared.generator.How.{How}
use Rattle.pt_gen.specs.declared.generator.How.TheVariants.{Next, Send, Throw, Close}
use Rattle.pt_gen.specs.declared.generator.GenState.{GenState}
use Rattle.pt_gen.specs.declared.generator.GenState.TheVariants.{Fresh, Suspended, Running, Finished}
use Rattle.pt_gen.specs.States.{sends_value}
use Rattle.pt_resumptions.specs.declared.resumption.Resumption.{Resumption}
use Rattle.pt_resumptions.specs.declared.resumption.Resumption.TheVariants as by
use Rattle.pt_resumptions.specs.declared.resumption.Obstacle.TheVariants as obstacle

abbrev pub resumption : GenState → How → Resumption
resumption Fresh (Throw v) = by.ThrowsBack v
resumption Fresh Close = by.NothingToClose
resumption Fresh how = if sends_value how then by.Cannot obstacle.Fresh else by.Starts
resumption Suspended Next = by.GoesOn value.None
resumption Suspended (Send v) = by.GoesOn v
resumption Suspended (Throw v) = by.Throws v
resumption Suspended Close = by.Closes
resumption Running how = by.Cannot obstacle.Running
resumption Finished (Throw v) = by.ThrowsBack v
resumption Finished Close = by.NothingToClose
resumption Finished how = by.Cannot obstacle.Finished
