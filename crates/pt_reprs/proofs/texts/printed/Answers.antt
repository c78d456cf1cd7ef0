use Rattle.std.proofs.Common.{◌≡◌, ◌∙◌, [], ◌∷◌, ◌++◌, Ok, Err, ap, subst, sym}
use Rattle.pt_content.specs.declared.content.Content.TheVariants as content
use Rattle.pt_reprs.specs.Pieces.{with_pieces, Writes}
use Rattle.pt_reprs.specs.Texts.{between_separators, printed}
use Rattle.pt_reprs.proofs.TextLemmas.{says, printed-refused}
use Rattle.pt_reprs.proofs.texts.printed.Goals as goal

pub returns-in-Err-Refused : goal.returns-in-Err-Refused
returns-in-Err-Refused c =
    let h = c.args.heap.now in
    let s = c.args.separator.now in
    let n = c.args.end.now in
    let vs = c.args.values.now in
    let ps = between_separators h s vs ++ Ok n ∷ [] in
    let e = c.in-Err-Refused.error in
    let stopped : with_pieces ps c.new-writer.result ≡ Err e = subst (λ f. Writes c.new-writer.result c.push_all.new.writer (Err f) ps) c.in-Err-Refused.field-0-is c.in-Err-Refused.ensures in
    says c.unwritten.result e content.Print (printed h s n vs)
    (printed-refused h s n vs e (sym c.in_ok-need_help.ensures ∙ c.if-branch.false) (ap (with_pieces ps) (sym c.new-writer.ensures) ∙ stopped)) c.unwritten.ensures
