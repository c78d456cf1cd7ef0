use Rattle.std.proofs.Common.{◌∙◌, subst, arith, [], length, refl}
use Rattle.std.proofs.lemmas.List.{get_or_read_under}
use Rattle.pt_standing.specs.Texts.{IdGiven}
use Rattle.pt_standing.proofs.IdLemmas.{are_ids, knows_more}
use Rattle.pt_standing.proofs.ids.ids_of.Goals as goal

pub loop-number-preserved : goal.loop-number-preserved
loop-number-preserved c = knows_more c.args.texts.now c.loop-number.number c.loop-number.known c.id_of.new.known c.loop-number.ids.items c.in_ok-id.id
    c.loop-number.invariant (subst (λ t. IdGiven c.loop-number.known c.id_of.new.known t c.loop-number.number c.in_ok-id.id)
    (c.as_str.ensures ∙ get_or_read_under c.args.texts.now c.loop-number.number (length c.args.texts.now) c.index-texts-number.result [] c.index-texts-number.is c.loop-number-test.true refl) c.in_ok-id.ensures)
    _ c.in_ok-push.ensures.items

pub returns : goal.returns
returns c = are_ids c.args.texts.now c.loop-number.known c.loop-number.ids.items c.loop-number.number (omega (arith, c.loop-number-test.false, c.loop-number.auto.number-end)) c.loop-number.invariant
