use Rattle.std.proofs.Common.{◌≡◌, ◌∙◌, length, reverse, ap, subst}
use Rattle.std.specs.Str.{chars}
use Rattle.pt_strs.specs.Answer.{within, Answers}
use Rattle.pt_strs.specs.Slice.{place, behind, bound, between, every, strided}
use Rattle.pt_strs.proofs.subscript.slice.Goals as goal

pub returns-in-Forward : goal.returns-in-Forward
returns-in-Forward c =
    let cs = chars c.args.text.now in
    let text = c.as_str-text.ensures in
    let count : c.char_count-count.result ≡ length cs = c.char_count-count.ensures ∙ ap (λ l. length (chars l)) text in
    let from = c.place_or-from.ensures ∙ ap (λ n. bound (place n) 0 c.args.start) count in
    let to = c.place_or-to.ensures ∙ ap (λ n. bound (place n) n c.args.stop) count in
    let F = bound (place (length cs)) 0 c.args.start in
    let T = bound (place (length cs)) (length cs) c.args.stop in
    let seen = chars c.as_str-text.result.now in
    let middle : c.middle.result ≡ between F T cs = c.middle.ensures ∙ ap (λ f. between f c.place_or-to.result seen) from ∙ ap (λ t. between F t seen) to ∙ ap (λ l. between F T (chars l)) text in
    let whole = ap (λ l. every c.in-Forward.between 0 l) middle ∙ ap (λ s. strided s c.args.start c.args.stop cs) c.in-Forward.ensures.value in
    subst (λ l. Answers c.picked.result (within l)) whole c.picked.ensures

pub returns-in-Back : goal.returns-in-Back
returns-in-Back c =
    let cs = chars c.args.text.now in
    let text = c.as_str-text.ensures in
    let count : c.char_count-count.result ≡ length cs = c.char_count-count.ensures ∙ ap (λ l. length (chars l)) text in
    let from = c.behind_or-from.ensures ∙ ap (λ n. bound (behind n) 0 c.args.stop) count in
    let to = c.behind_or-to.ensures ∙ ap (λ n. bound (behind n) n c.args.start) count in
    let F = bound (behind (length cs)) 0 c.args.stop in
    let T = bound (behind (length cs)) (length cs) c.args.start in
    let seen = chars c.as_str-text.result.now in
    let middle : c.middle-in-Back.result ≡ between F T cs = c.middle-in-Back.ensures ∙ ap (λ f. between f c.behind_or-to.result seen) from ∙ ap (λ t. between F t seen) to ∙ ap (λ l. between F T (chars l)) text in
    let whole = ap (λ l. every c.in-Back.between 0 (reverse l)) middle ∙ ap (λ s. strided s c.args.start c.args.stop cs) c.in-Back.ensures.value in
    subst (λ l. Answers c.picked_back.result (within l)) whole c.picked_back.ensures
