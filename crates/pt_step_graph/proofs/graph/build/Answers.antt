use Rattle.std.proofs.Common.{◌≡◌, ◌∙◌, ap, refl, subst, arith, length, map}
use Rattle.pt_sizes.specs.Waiting.{Index, level_of, levels_of}
use Rattle.pt_step_graph.specs.Graph.{bundles_of, width}
use Rattle.pt_step_graph.proofs.Lists.{bundles_length}
use Rattle.pt_step_graph.proofs.graph.build.Goals as goal

pub returns : goal.returns
returns c =
    let levels = levels_of c.in_ok-waiting.waiting.levels in
    let n : c.len.result ≡ length c.args.exits.items = omega (arith, c.len.ensures) in
    let wide : c.in_ok-width.field-0 ≡ width levels = c.in_ok-width.ensures ∙ ap (λ ls. width (map level_of ls)) c.deref.ensures.value in
    let count : length (bundles_of c.args.bundles) ≡ length c.args.bundles.items = bundles_length c.args.bundles.items in
    record {
      exits = refl;
      bundles = refl;
      rows = subst (λ k. Index c.args.rows.now k levels) n c.in_ok-waiting.ensures;
      size = omega (arith, c.in_ok-size.ensures, c.in_ok-first.ensures, wide, count, c.len-2.ensures, c.len-3.ensures);
    }
