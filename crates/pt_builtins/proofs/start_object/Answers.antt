use Rattle.std.proofs.Common.{◌<◌, arith}
use Rattle.pt_builtins.proofs.start_object.Goals as goal

pub overflow_cast-result : goal.overflow_cast-result
overflow_cast-result c = let h : c.in-Some.place < 85 = c.in-Some.ensures.within in omega (arith, h)
