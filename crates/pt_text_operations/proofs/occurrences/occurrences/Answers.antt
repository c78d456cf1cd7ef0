use Rattle.std.proofs.Common.{◌≡◌, ◌∙◌, ◌+◌, length, ap, sym, arith}
use Rattle.std.specs.Str.{chars}
use Rattle.std.proofs.lemmas.List.{nil_from_length}
use Rattle.pt_text_operations.specs.Ends.{occurrences}
use Rattle.pt_text_operations.proofs.CountLemmas.{count-empty}
use Rattle.pt_text_operations.proofs.occurrences.occurrences.Goals as goal

pub returns-then-char_count-eq0-clause-value : goal.returns-then-char_count-eq0-clause-value
returns-then-char_count-eq0-clause-value c =
    let part = chars c.args.part.now in
    let text = chars c.args.text.now in
    let zero : length part ≡ 0 = omega (arith, c.char_count.ensures, c.if-char_count-eq0.true) in
    ap (λ n. n + 1) c.char_count-then-char_count-eq0.ensures ∙ sym (count-empty text) ∙ ap (λ p. occurrences p text) (sym (nil_from_length part zero))
