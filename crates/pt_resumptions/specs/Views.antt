-- Generators, and how they go on, as a run sees them.
use Rattle.pt_heap.specs.declared.value.Value.{Value}
use Rattle.pt_gen.specs.declared.generator.How.{How}
use Rattle.pt_gen.specs.declared.generator.How.TheVariants.{Next, Send, Throw, Close}
use Rattle.pt_gen.specs.declared.generator.GenState.{GenState}
use Rattle.pt_gen.specs.declared.generator.GenState.TheVariants.{Fresh, Suspended, Running, Finished}
use Rattle.sem_run.specs.run.Host as run
use Rattle.sem_run.specs.run.State.{Generator, fresh, suspended, running, finished}
use Rattle.pt_resumptions.specs.declared.resumption.Obstacle.{Obstacle}
use Rattle.pt_resumptions.specs.declared.resumption.Obstacle.TheVariants as obstacle

abbrev pub how_view : How → run.How Value
how_view Next = run.by_next
how_view (Send v) = run.by_send v
how_view (Throw v) = run.by_throw v
how_view Close = run.by_close

abbrev pub obstacle_view : Obstacle → run.Obstacle
obstacle_view obstacle.Running = run.is_running
obstacle_view obstacle.Fresh = run.is_fresh
obstacle_view obstacle.Finished = run.is_finished

abbrev pub state_of : {S N : Type 0} → Generator S N Value → GenState
state_of (fresh a) = Fresh
state_of (suspended a y) = Suspended
state_of running = Running
state_of finished = Finished
