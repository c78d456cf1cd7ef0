use Rattle.std.proofs.Common.{◌≡◌, ◌∙◌, Err, ap, subst, sym}
use Rattle.pt_content.specs.pt_attrs.Look.{object_of}
use Rattle.pt_reprs.specs.Pieces.{with_pieces, Writes}
use Rattle.pt_reprs.specs.Texts.{new_text, text_content}
use Rattle.pt_reprs.proofs.TextLemmas.{says, text-refused}
use Rattle.pt_special_methods.specs.Containers.{wrapped}
use Rattle.pt_special_methods.proofs.containers.wrapped_text.Goals as goal

pub returns-in-Err-Refused : goal.returns-in-Err-Refused
returns-in-Err-Refused c =
    let h = c.args.heap.now in
    let ps = wrapped h (object_of h c.args.value) c.args.texts.now in
    let e = c.in-Err-Refused.error in
    let stopped : with_pieces ps c.new-writer.result ≡ Err e = subst (λ f. Writes c.new-writer.result c.push_wrapped.new.writer (Err f) ps) c.in-Err-Refused.field-0-is c.in-Err-Refused.ensures in
    says c.unwritten.result e new_text (text_content ps) (text-refused ps e (ap (with_pieces ps) (sym c.new-writer.ensures) ∙ stopped)) c.unwritten.ensures
