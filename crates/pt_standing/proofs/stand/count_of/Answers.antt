use Rattle.std.proofs.Common.{◌∙◌, ap, sym, length, [], rules}
use Rattle.std.proofs.lemmas.List.{length-map}
use Rattle.std.proofs.lemmas.Option.{get_or_from_slice_get}
use Rattle.pt_standing.specs.Texts.{text_at}
use Rattle.pt_standing.proofs.PairLemmas.{unlisted}
use Rattle.pt_standing.proofs.stand.count_of.Goals as goal

pub returns-in-None : goal.returns-in-None
returns-in-None c = sym (length-map _ (text_at c.args.code.now.texts) ∙ ap length (unlisted c.args.code.now.lists c.args.list.0 [] (search rules)))

pub returns-in-Some : goal.returns-in-Some
returns-in-Some c = c.len.ensures ∙ sym (length-map _ (text_at c.args.code.now.texts) ∙ ap length (get_or_from_slice_get c.args.code.now.lists c.args.list.0 c.in-Some.list.now [] (search rules)))
