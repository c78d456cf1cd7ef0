-- What is asked of the place behind statements, as code has it.
use Rattle.sem_compile.specs.stm_pieces.Needed as needed
use Rattle.pt_exits.specs.declared.behind.Behind.{Behind}
use Rattle.pt_exits.specs.declared.behind.Behind.TheVariants as behind

abbrev pub asked : Behind → needed.Behind
asked behind.Needed = needed.needed
asked behind.Free = needed.free
asked behind.Reached = needed.reached
