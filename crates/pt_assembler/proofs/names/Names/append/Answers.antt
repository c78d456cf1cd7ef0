use Rattle.std.proofs.Common.{◌≡◌, ◌∙◌, ap, sym, [], ◌∷◌, ◌++◌, length, cond, Some, nat_cmp, is_eq, rules}
use Rattle.std.specs.BTreeMap.{get}
use Rattle.pt_instr.specs.declared.TextNo.{TextNo}
use Rattle.pt_assembler.specs.Tables.{found_in, is_text}
use Rattle.pt_assembler.proofs.FoundLemmas.{finds_more}
use Rattle.pt_assembler.proofs.TableLemmas.{text_decides, text_by_number}
use Rattle.pt_assembler.proofs.names.Names.append.Goals as goal

pub invariant_of-self-in-Ok : goal.invariant_of-self-in-Ok
invariant_of-self-in-Ok c =
    let text = c.args.text in
    let items = c.args.self.now in
    let old = c.self.inside.numbers in
    let new = c.insert.new.self in
    let pushed : c.push.new.self ≡ items ++ text ∷ [] = c.in_ok-push.ensures.ok ∙ ap (λ l. l ++ text ∷ []) c.self.view_is in
    let number : c.in_ok-number.number ≡ length items = search rules in
    let finds = λ (x : TextNo). c.self.invariant x ∙ ap (found_in (is_text x)) c.self.view_is in
    let updates = λ (x : TextNo). c.in-Ok.ensures.updates.0 x.0 ∙ ap (λ n. cond (is_eq (nat_cmp text.0 x.0)) (Some n) (get nat_cmp old x.0)) number in
    λ x. finds_more is_text text_decides (λ (y : TextNo). get nat_cmp old y.0) (λ (y : TextNo). get nat_cmp new y.0) text items finds (finds text ∙ c.requires)
    (λ (y : TextNo). is_eq (nat_cmp text.0 y.0)) (text_by_number text) updates x ∙ ap (found_in (is_text x)) (sym pushed)
