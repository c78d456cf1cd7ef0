use Rattle.std.proofs.Common.{◌≡◌, ◌≢◌, ◌∙◌, ◌++◌, ◌∷◌, [], true, length, map, ap, sym, append_assoc, arith}
use Rattle.std.specs.Str.{chars}
use Rattle.std.proofs.lemmas.List.{append-nil, append_cancel_right}
use Rattle.pt_strs.specs.Answer.{are_within}
use Rattle.pt_strs.specs.Blank.{is_blank}
use Rattle.pt_strs.specs.Strip.{front, without_front}
use Rattle.pt_strs.specs.Words.{words}
use Rattle.pt_strs.proofs.AnswerLemmas.{refused-so, taken, all-fit}
use Rattle.pt_strs.proofs.StripLemmas.{vis, front-rest, without-twice, words-blanks, first-word}
use Rattle.pt_strs.proofs.parts.words.Goals as goal

pub loop-rest-init : goal.loop-rest-init
loop-rest-init c =
    let e = c.without_front-rest.ensures in
    record {
      whole = ap (λ l. map chars l ++ words c.without_front-rest.result) c.new-words.ensures ∙ ap words (e ∙ ap (without_front is_blank) c.new.ensures) ∙ words-blanks (chars c.args.text.now);
      fits = ap (λ l. are_within (map chars l)) c.new-words.ensures;
      begins = ap (without_front is_blank) e ∙ without-twice is_blank c.new.result ∙ sym e;
    }

pub until-requires : goal.until-requires
until-requires c =
    let rest = c.loop-rest.rest in
    (front vis rest, sym (front-rest vis rest) ∙ ap (λ l. front vis rest ++ l) (sym c.without_front-behind.ensures))

pub returns-in_err-word : goal.returns-in_err-word
returns-in_err-word c =
    let rest = c.loop-rest.rest in
    let inv = c.loop-rest.invariant in
    let done = map chars c.loop-rest.words in
    let some : rest ≢ [] = λ e. let t : c.is_empty.result ≡ true = c.is_empty.ensures.1 e in cc in
    let first = first-word rest some inv.begins in
    let behind = c.without_front-behind.ensures in
    let word : chars c.until.result.now ≡ front vis rest = append_cancel_right _ _ c.without_front-behind.result (sym c.until.ensures ∙ sym (front-rest vis rest) ∙ ap (λ l. front vis rest ++ l) (sym behind)) in
    let W = words (without_front is_blank (without_front vis rest)) in
    refused-so c.from_residual.result _ c.from_residual.ensures done _ W _ (ap (λ x. done ++ x ∷ W) word ∙ ap (λ l. done ++ l) (sym first.is) ∙ inv.whole) c.in_err-word.ensures

pub loop-rest-smaller : goal.loop-rest-smaller
loop-rest-smaller c =
    let rest = c.loop-rest.rest in
    let some : rest ≢ [] = λ e. let t : c.is_empty.result ≡ true = c.is_empty.ensures.1 e in cc in
    let first = first-word rest some c.loop-rest.invariant.begins in
    omega (arith, first.shorter, ap length (c.without_front-rest-in-loop-rest.ensures ∙ ap (without_front is_blank) c.without_front-behind.ensures))

pub loop-rest-preserved : goal.loop-rest-preserved
loop-rest-preserved c =
    let rest = c.loop-rest.rest in
    let inv = c.loop-rest.invariant in
    let done = map chars c.loop-rest.words in
    let some : rest ≢ [] = λ e. let t : c.is_empty.result ≡ true = c.is_empty.ensures.1 e in cc in
    let first = first-word rest some inv.begins in
    let behind = c.without_front-behind.ensures in
    let x = chars c.until.result.now in
    let word : x ≡ front vis rest = append_cancel_right _ _ c.without_front-behind.result (sym c.until.ensures ∙ sym (front-rest vis rest) ∙ ap (λ l. front vis rest ++ l) (sym behind)) in
    let next = c.without_front-rest-in-loop-rest.result in
    let is : next ≡ without_front is_blank (without_front vis rest) = c.without_front-rest-in-loop-rest.ensures ∙ ap (without_front is_blank) behind in
    let one = taken c.loop-rest.words x _ _ c.in_ok-word.ensures c.in_ok-push.ensures.ok in
    record {
      whole = ap (λ l. l ++ words next) one.same ∙ append_assoc done (x ∷ []) (words next) ∙ ap (λ l. done ++ x ∷ words l) is ∙ ap (λ y. done ++ y ∷ words (without_front is_blank (without_front vis rest))) word ∙ ap (λ l. done ++ l) (sym first.is) ∙ inv.whole;
      fits = one.fits inv.fits;
      begins = ap (without_front is_blank) is ∙ without-twice is_blank (without_front vis rest) ∙ sym is;
    }

pub returns : goal.returns
returns c =
    let inv = c.loop-rest.invariant in
    let done = map chars c.loop-rest.words in
    let none = c.is_empty.ensures.0 c.loop-rest-test.false in
    all-fit c.loop-rest.words _ (sym (append-nil done) ∙ ap (λ l. done ++ words l) (sym none) ∙ inv.whole) inv.fits
