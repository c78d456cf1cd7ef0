use Rattle.std.proofs.Common.{◌≡◌, ◌∙◌, [], Err, ap, subst, sym}
use Rattle.pt_strs.specs.Answer.{length_limit}
use Rattle.pt_reprs.specs.Pieces.{with_pieces, writer, Writes}
use Rattle.pt_reprs.specs.Texts.{new_text, str_pieces, text_content}
use Rattle.pt_reprs.proofs.TextLemmas.{says, text-refused}
use Rattle.pt_reprs.proofs.texts.str_text.Goals as goal

pub returns-in-Err-Refused : goal.returns-in-Err-Refused
returns-in-Err-Refused c =
    let ps = str_pieces c.args.heap.now c.args.value in
    let e = c.in-Err-Refused.error in
    let stopped : with_pieces ps c.new-writer.result ≡ Err e = subst (λ f. Writes c.new-writer.result c.push_text.new.writer (Err f) ps) c.in-Err-Refused.field-0-is c.in-Err-Refused.ensures in
    says c.unwritten.result e new_text (text_content ps) (text-refused ps e (ap (with_pieces ps) (sym c.new-writer.ensures) ∙ stopped)) c.unwritten.ensures
