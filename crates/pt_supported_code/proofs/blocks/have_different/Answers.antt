use Rattle.std.proofs.Common.{◌≡◌, ◌++◌, ◌∙◌, map, ap, subst, nat_eq}
use Rattle.std.specs.Prelude.{Decides}
use Rattle.std.specs.List.{IsDistinct}
use Rattle.pt_instr.specs.declared.TextNo.{TextNo}
use Rattle.pt_standing.specs.Texts.{id_at}
use Rattle.pt_supported_code.proofs.NameLemmas.{names_tell}
use Rattle.pt_supported_code.proofs.blocks.have_different.Goals as goal

pub returns : goal.returns
returns c code are there =
    let ids = c.args.ids.now in
    let names = c.args.names.now in
    let counted = map (λ (x : TextNo). id_at ids x.0) names in
    let added : c.add_ids.new.to ≡ c.new-numbers.result ++ counted = c.in_ok-add_ids.ensures in
    let made = c.as_slice.ensures ∙ (added ∙ ap (λ ns. ns ++ counted) c.new-numbers.ensures) in
    names_tell code.texts ids are names there c.in_ok-different.different
    (subst (λ ns. Decides c.in_ok-different.different (IsDistinct nat_eq ns)) made c.in_ok-different.ensures)
