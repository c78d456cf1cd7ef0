use Rattle.std.proofs.Common.{subst}
use Rattle.std.proofs.lemmas.Result.{IfOk-weaker}
use Rattle.pt_sizes.specs.Flow.{Tells}
use Rattle.pt_sizes.specs.Search.{body_of}
use Rattle.pt_partial_sizes.proofs.Cutting.{tells}
use Rattle.pt_partial_sizes.proofs.cut.sizes_below.Goals as goal

pub returns : goal.returns
returns c = IfOk-weaker c.sizes_of.result _ _
    (λ s t. tells (body_of c.args.places.items c.args.rows.now c.args.first) c.args.limit
    c.cut_places.new.places.items c.cut_places.ensures s
    (subst (λ rows. Tells (body_of c.cut_places.new.places.items rows c.args.first) s) c.in_ok-rows.ensures t))
    c.sizes_of.ensures
