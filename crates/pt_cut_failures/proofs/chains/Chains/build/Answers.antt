use Rattle.std.proofs.Common.{map, ◌∙◌, subst}
use Rattle.pt_sizes.specs.Waiting.{Index, level_of, levels_of}
use Rattle.pt_cut_failures.specs.Chains.{LaidLevels, starts_of}
use Rattle.pt_cut_failures.proofs.chains.Chains.build.Goals as goal

pub returns : goal.returns
returns c =
    let laid = subst (λ ls. LaidLevels c.new-links.result.items c.lay_levels.new.links.items (map level_of ls) (starts_of c.in_ok-starts.starts)) c.deref-2.ensures.value c.in_ok-starts.ensures in
    record {
      index = subst (λ rs. Index rs c.args.count (levels_of c.in_ok-waiting.waiting.levels)) (c.deref.ensures.value ∙ c.in_ok-numbered.ensures) c.in_ok-waiting.ensures;
      stands = laid.stands;
    }
