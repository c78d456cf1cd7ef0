use Rattle.std.proofs.Common.{rules, ◌≡◌, ◌∙◌, false, map, string_bytes, codes}
use Rattle.pt_words.proofs.ReaderLemmas.{are_regular, irregular, uses_are_asked, values_are, answered}
use Rattle.pt_words.proofs.reader.parse.Goals as goal

pub returns-then-not-are_regular : goal.returns-then-not-are_regular
returns-then-not-are_regular c u =
    let irregular_words : are_regular c.args.words.now ≡ false = search rules in
    irregular c.args.words.now irregular_words

pub returns : goal.returns
returns c =
    let m = c.in_ok-matches.matches in
    let u = c.in_ok-matches.ensures in
    let files = values_are m (codes "files") u.sorted.files u.are_uses.files c.get_strs.result _ c.unwrap_or-files.result
    (search rules) c.unwrap_or-files.ensures c.get_strs.ensures in
    let steps = values_are m (codes "steps") u.sorted.steps u.are_uses.steps c.get_strs-2.result _ c.unwrap_or-steps.result
    (search rules) c.unwrap_or-steps.ensures c.get_strs-2.ensures in
    let is = c.line.ensures
    ∙ uses_are_asked (map string_bytes c.args.words.now) m u _ _ _ _ files steps c.get_count-events.ensures.value
    c.get_count-stats.ensures.value in
    rw c.ok_or.ensures.value (answered (map string_bytes c.args.words.now) c.line.result is)
