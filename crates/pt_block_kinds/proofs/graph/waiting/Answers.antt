use Rattle.std.proofs.Common.{length, map, sym, ap, ◌∙◌, subst, eqb-true}
use Rattle.pt_sizes.specs.Waiting.{Index, level_of, levels_of}
use Rattle.pt_block_kinds.proofs.Laying.{laid, none_laid}
use Rattle.pt_block_kinds.proofs.graph.waiting.Goals as goal

pub returns-then-is_empty : goal.returns-then-is_empty
returns-then-is_empty c =
    none_laid c.args.rows.now c.args.count (levels_of c.new.result)
    (eqb-true (length c.args.rows.now) 0 (sym c.is_empty.ensures ∙ c.if-is_empty.true)) (ap (map level_of) c.new.ensures.items)

pub returns : goal.returns
returns c =
    laid c.args.rows.now c.args.count (levels_of c.in_ok-waiting.waiting.levels)
    (subst (λ rows. Index rows c.args.count (levels_of c.in_ok-waiting.waiting.levels)) (c.deref.ensures.value ∙ c.in_ok-numbered.ensures) c.in_ok-waiting.ensures)
