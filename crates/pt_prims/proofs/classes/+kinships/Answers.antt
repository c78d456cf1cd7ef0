use Rattle.std.proofs.Common.{◌∙◌, ap, sym, arith}
use Rattle.pt_prims.specs.Classes.{tuple_kinship}
use Rattle.pt_prims.proofs.KinshipLemmas.{deep, one-less}
use Rattle.pt_prims.proofs.classes.+kinships.Goals as goal

pub tuple_kinship-returns-then-depth-eq0 : goal.tuple_kinship-returns-then-depth-eq0
tuple_kinship-returns-then-depth-eq0 t c =
    sym (ap (λ d. tuple_kinship c.args.heap.now d c.args.class c.args.values.now) c.if-depth-eq0.true ∙ deep c.args.heap.now c.args.class c.args.values.now)

pub tuple_kinship-returns : goal.tuple_kinship-returns
tuple_kinship-returns t c =
    c.kinship_of_any.ensures ∙ sym (one-less c.args.heap.now c.args.depth c.args.class c.args.values.now (omega (arith, c.if-depth-eq0.false)))
