use Rattle.std.proofs.Common.{◌≡◌, List, [], ◌∷◌, ◌++◌, map, ◌∙◌, ap, arith}
use Rattle.pt_wide.specs.declared.expression.WideExpr.{WideExpr}
use Rattle.pt_wide.specs.Fold.{exp_of}
use Rattle.pt_readers.proofs.Readers.{carries_all}
use Rattle.pt_readers.proofs.Exits.{fails_at, goes_on, carried_all}
use Rattle.pt_grammar.specs.ReadViews.{listed_read}
use Rattle.pt_grammar.proofs.Items.{items_first}
use Rattle.pt_expr.proofs.reader.Reader.several.Goals as goal

pub returns-in_err-first : goal.returns-in_err-first
returns-in_err-first c = fails_at _ _ _ _ _ _ c.from_residual.ensures.1 carries_all (items_first c.args.part c.args.room) c.in_err-first.ensures

pub more_items-requires : goal.more_items-requires
more_items-requires c =
    let f = c.in_ok-first.ensures in
    let e = exp_of c.in_ok-first.first.tree in
    let i : map exp_of c.in_ok-items.items.items ≡ e ∷ [] = c.in_ok-items.ensures ∙ ap (λ (u : List WideExpr). map exp_of u ++ (e ∷ [])) c.new.ensures in
    record { some = c.requires.some; few = omega (arith, c.requires.few); fits = rw i (omega (arith, f.fits.0), omega (arith, f.fits.1), omega arith); stops = rw i (λ m. (f.stops, m)) }

pub returns : goal.returns
returns c =
    let e = exp_of c.in_ok-first.first.tree in
    let i : map exp_of c.in_ok-items.items.items ≡ e ∷ [] = c.in_ok-items.ensures ∙ ap (λ (u : List WideExpr). map exp_of u ++ (e ∷ [])) c.new.ensures in
    carried_all listed_read _ _ (goes_on carries_all (items_first c.args.part c.args.room) c.in_ok-first.ensures) (rw i at c.more_items.ensures)
