use Rattle.std.proofs.Common.{◌≡◌, ◌∙◌, ap, sym, [], ◌∷◌, ◌++◌, length, Some, rules, if◌then◌else◌}
use Rattle.pt_code.specs.declared.Const.{Const}
use Rattle.pt_assembler.specs.Tables.{found_in, is_const, known_in}
use Rattle.pt_assembler.proofs.FoundLemmas.{finds_more}
use Rattle.pt_assembler.proofs.TableLemmas.{const_decides}
use Rattle.pt_assembler.proofs.constants.Constants.append.Goals as goal

pub invariant_of-self-in-Ok : goal.invariant_of-self-in-Ok
invariant_of-self-in-Ok c =
    let constant = c.args.constant in
    let items = c.args.self.now in
    let old = c.self.inside.numbers in
    let new = c.set.new.self in
    let pushed : c.push.new.self ≡ items ++ constant ∷ [] = c.in_ok-push.ensures.ok ∙ ap (λ l. l ++ constant ∷ []) c.self.view_is in
    let number : c.in_ok-number.number ≡ length items = search rules in
    let finds = λ (k : Const). c.self.invariant k ∙ ap (found_in (is_const k)) c.self.view_is in
    let updates = λ (k : Const). c.in-Ok.ensures.ok k ∙ ap (λ n. if is_const constant k then Some n else known_in old k) number in
    λ k. finds_more is_const const_decides (known_in old) (known_in new) constant items finds (finds constant ∙ c.requires) (is_const constant)
    (const_decides constant) updates k ∙ ap (found_in (is_const k)) (sym pushed)
