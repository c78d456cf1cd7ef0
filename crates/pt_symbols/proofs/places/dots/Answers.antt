use Rattle.std.proofs.Common.{◌∙◌}
use Rattle.pt_symbols.proofs.PlaceLemmas.{dots_step}
use Rattle.pt_symbols.proofs.places.dots.Goals as goal

pub loop-left-preserved : goal.loop-left-preserved
loop-left-preserved c =
    dots_step c.loop-left.left c.args.places.now.regions c.loop-left.at c.in-Some.around c.loop-left.text c.push_str.new.self c.loop-left-test.true c.in-Some.ensures
    c.in_ok-push_str-in-Some.ensures.ok
    ∙ c.loop-left.invariant
