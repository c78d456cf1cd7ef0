use Rattle.std.proofs.Common.{rules, ◌≡◌, ◌∙◌, None, ap, sym}
use Rattle.std.specs.Prelude.{slice_get, slice_set}
use Rattle.pt_cover.specs.Tallies.{changed_at, line_place, lines_of, one_line_more}
use Rattle.pt_cover.proofs.ListLemmas.{changed-got, changed-none}
use Rattle.pt_cover.proofs.line_counts.begin.Goals as goal

pub returns-in-Some : goal.returns-in-Some
returns-in-Some c =
    let rows = c.args.rows.now in
    let at_is : c.place-at.result ≡ line_place (lines_of c.args.rows.now) c.args.line = search rules in
    c.set.ensures ∙ ap (slice_set rows c.place-at.result) c.begun_again-more.ensures
    ∙ changed-got rows c.place-at.result one_line_more c.in-Some.row.now (sym c.in-Some.ensures.value)
    ∙ ap (λ k. changed_at rows k one_line_more) at_is

pub returns-in_default : goal.returns-in_default
returns-in_default c =
    let at_is : c.place-at.result ≡ line_place (lines_of c.args.rows.now) c.args.line = search rules in
    let none : slice_get c.args.rows.now c.place-at.result ≡ None = search rules in
    changed-none c.args.rows.now c.place-at.result one_line_more none ∙ ap (λ k. changed_at c.args.rows.now k one_line_more) at_is
