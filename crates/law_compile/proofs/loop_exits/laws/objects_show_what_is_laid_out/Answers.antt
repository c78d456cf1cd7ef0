use Rattle.law_compile.proofs.loop_exits.Reached.{blocks_are_shown}
use Rattle.law_compile.proofs.loop_exits.laws.objects_show_what_is_laid_out.Goals as goal

pub returns : goal.returns
returns g c = blocks_are_shown
