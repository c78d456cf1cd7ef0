use Rattle.std.proofs.Common.{◌≡◌, ◌∙◌, ◌*◌, [], Ok, length, ap, sym, arith}
use Rattle.std.specs.Str.{chars}
use Rattle.std.proofs.lemmas.Int.{to_z-of_z}
use Rattle.std.proofs.lemmas.List.{nil_from_length}
use Rattle.std.proofs.lemmas.Str.{chars-nil}
use Rattle.pt_strs.specs.Answer.{within}
use Rattle.pt_strs.specs.Join.{copies, turns_of}
use Rattle.pt_strs.proofs.AnswerLemmas.{within-short, within-long}
use Rattle.pt_strs.proofs.JoinLemmas.{copies-nil, length-copies}
use Rattle.pt_strs.proofs.repetition.repeat.Goals as goal

pub returns-then-size-eq0 : goal.returns-then-size-eq0
returns-then-size-eq0 c =
    let none : chars c.args.text.now ≡ [] = nil_from_length _ (omega (arith, c.char_count-size.ensures, ap (λ l. length (chars l)) c.as_str.ensures, c.if-size-eq0.true)) in
    ap (λ l. within (copies (turns_of c.args.count) l)) none ∙ ap within (copies-nil (turns_of c.args.count)) ∙ ap Ok (sym (ap chars c.new.ensures ∙ chars-nil))

pub returns-then-saturating_mul : goal.returns-then-saturating_mul
returns-then-saturating_mul c =
    let n = turns_of c.args.count in
    let cs = chars c.args.text.now in
    let turns : c.turns-count.result ≡ n = c.turns-count.ensures ∙ ap turns_of (to_z-of_z _ c.args.count c.ranges.count) in
    let product : c.turns-count.result * c.char_count-size.result ≡ length (copies n cs) =
    ap (λ m. m * c.char_count-size.result) turns ∙ ap (λ s. n * s) (c.char_count-size.ensures ∙ ap (λ l. length (chars l)) c.as_str.ensures) ∙ sym (length-copies n cs) in
    within-long (copies n cs) (omega (arith, product, c.saturating_mul.ensures, c.if-saturating_mul.true))

pub returns : goal.returns
returns c =
    let n = turns_of c.args.count in
    let cs = chars c.args.text.now in
    let turns : c.turns-count.result ≡ n = c.turns-count.ensures ∙ ap turns_of (to_z-of_z _ c.args.count c.ranges.count) in
    let product : c.turns-count.result * c.char_count-size.result ≡ length (copies n cs) =
    ap (λ m. m * c.char_count-size.result) turns ∙ ap (λ s. n * s) (c.char_count-size.ensures ∙ ap (λ l. length (chars l)) c.as_str.ensures) ∙ sym (length-copies n cs) in
    let made = c.in_ok-copies.ensures ∙ ap (λ m. copies m (chars c.as_str-2.result.now)) turns ∙ ap (λ l. copies n (chars l)) c.as_str-2.ensures in
    within-short (copies n cs) (omega (arith, product, c.saturating_mul.ensures, c.if-saturating_mul.false)) ∙ ap Ok (sym made)
