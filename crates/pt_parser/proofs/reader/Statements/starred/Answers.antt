use Rattle.std.proofs.Common.{◌≡◌, ◌≤◌, ◌<◌, ◌∙◌, refl, sym, ap, subst, map, [], ◌∷◌, ◌++◌, true, false, length, arith}
use Rattle.pt_wide.specs.Syntax as S
use Rattle.pt_wide.specs.Fold.{exp_of, all_of}
use Rattle.pt_readers.specs.Reading.{next_of}
use Rattle.pt_readers.proofs.Readers.{carries_all}
use Rattle.pt_readers.proofs.Exits.{fails_at, goes_on, shift_on}
use Rattle.pt_grammar.specs.declared.part.Part.TheVariants.{Whole}
use Rattle.pt_grammar.specs.Lexemes.{line_at}
use Rattle.pt_grammar.specs.Parts.{FitsItems, StopsItems}
use Rattle.pt_grammar.specs.ReadViews.{listed_read}
use Rattle.pt_grammar.proofs.Items.{count_length, items_grow, stops_last}
use Rattle.pt_parser.specs.WithLeft.{only, what_is_held}
use Rattle.pt_parser.proofs.Tokens.{sign_next}
use Rattle.pt_parser.proofs.Chains.{is_found}
use Rattle.pt_parser.proofs.HeldReaders.{star_over, star_shifts, starred_binds, tuple_binds, close_binds, within_tuple}
use Rattle.pt_parser.proofs.reader.Statements.starred.Goals as goal

pub returns-then-before-ge-MAX_DEPTH : goal.returns-then-before-ge-MAX_DEPTH
returns-then-before-ge-MAX_DEPTH c = star_over c.args.line.0 c.args.start.0 (map exp_of c.args.before.items) _ _ (sign_next _ c.requires.star) c.requires.fits (λ f n. omega (arith, f.0, c.if-before-ge-MAX_DEPTH.true, c.args.before.exact))

pub returns-then-count-ge-MAX_ITEMS : goal.returns-then-count-ge-MAX_ITEMS
returns-then-count-ge-MAX_ITEMS c = star_over c.args.line.0 c.args.start.0 (map exp_of c.args.before.items) _ _ (sign_next _ c.requires.star) c.requires.fits (λ f n. omega (arith, n, count_length exp_of c.args.before.items, c.len-count.ensures, c.if-count-ge-MAX_ITEMS.true))

pub returns-in_err-value : goal.returns-in_err-value
returns-in_err-value c = fails_at _ _ _ _ _ _ c.from_residual.ensures.1 (shift_on carries_all (star_shifts c.args.line.0 c.args.start.0 (map exp_of c.args.before.items) _) (sign_next _ c.requires.star) c.skip.ensures) (starred_binds c.args.line.0 c.args.start.0 (map exp_of c.args.before.items) (line_at (next_of c.args.self.now)) (within_tuple c.args.line.0 c.args.start.0 (map exp_of c.args.before.items) c.requires.fits (omega (arith, c.if-before-ge-MAX_DEPTH.false, c.args.before.exact)) (omega (arith, count_length exp_of c.args.before.items, c.len-count.ensures, c.if-count-ge-MAX_ITEMS.false))) (omega (arith, count_length exp_of c.args.before.items, c.len-count.ensures, c.if-count-ge-MAX_ITEMS.false))) c.in_err-value.ensures

pub rest_of_tuple-requires-clause-fits : goal.rest_of_tuple-requires-clause-fits
rest_of_tuple-requires-clause-fits c = let h : map exp_of c.in_ok-all.all.items ≡ ((map exp_of c.args.before.items) ++ ((S.starred (line_at (next_of c.args.self.now)) (exp_of c.in_ok-value.value.tree)) ∷ [])) = rw (c.in_ok-all.ensures, c.in_ok-item.ensures, c.line-at.ensures) refl in
    subst (FitsItems 499) (sym h) (items_grow 499 (map exp_of c.args.before.items) (S.starred (line_at (next_of c.args.self.now)) (exp_of c.in_ok-value.value.tree)) (within_tuple c.args.line.0 c.args.start.0 (map exp_of c.args.before.items) c.requires.fits (omega (arith, c.if-before-ge-MAX_DEPTH.false, c.args.before.exact)) (omega (arith, count_length exp_of c.args.before.items, c.len-count.ensures, c.if-count-ge-MAX_ITEMS.false))) (omega (arith, count_length exp_of c.args.before.items, c.len-count.ensures, c.if-count-ge-MAX_ITEMS.false)) c.in_ok-value.ensures.fits)

pub rest_of_tuple-requires-clause-stops : goal.rest_of_tuple-requires-clause-stops
rest_of_tuple-requires-clause-stops c = let h : map exp_of c.in_ok-all.all.items ≡ ((map exp_of c.args.before.items) ++ ((S.starred (line_at (next_of c.args.self.now)) (exp_of c.in_ok-value.value.tree)) ∷ [])) = rw (c.in_ok-all.ensures, c.in_ok-item.ensures, c.line-at.ensures) refl in
    λ n. subst (λ u. StopsItems Whole false u (next_of c.operand.new.self)) (sym h) (stops_last Whole (map exp_of c.args.before.items) (S.starred (line_at (next_of c.args.self.now)) (exp_of c.in_ok-value.value.tree)) (next_of c.operand.new.self) c.in_ok-value.ensures.stops n)

pub returns-in_err-listed : goal.returns-in_err-listed
returns-in_err-listed c = let h : map exp_of c.in_ok-all.all.items ≡ ((map exp_of c.args.before.items) ++ ((S.starred (line_at (next_of c.args.self.now)) (exp_of c.in_ok-value.value.tree)) ∷ [])) = rw (c.in_ok-all.ensures, c.in_ok-item.ensures, c.line-at.ensures) refl in
    fails_at _ _ _ _ _ _ c.from_residual-in_err-listed.ensures.1 (goes_on (shift_on carries_all (star_shifts c.args.line.0 c.args.start.0 (map exp_of c.args.before.items) _) (sign_next _ c.requires.star) c.skip.ensures) (starred_binds c.args.line.0 c.args.start.0 (map exp_of c.args.before.items) (line_at (next_of c.args.self.now)) (within_tuple c.args.line.0 c.args.start.0 (map exp_of c.args.before.items) c.requires.fits (omega (arith, c.if-before-ge-MAX_DEPTH.false, c.args.before.exact)) (omega (arith, count_length exp_of c.args.before.items, c.len-count.ensures, c.if-count-ge-MAX_ITEMS.false))) (omega (arith, count_length exp_of c.args.before.items, c.len-count.ensures, c.if-count-ge-MAX_ITEMS.false))) c.in_ok-value.ensures) (tuple_binds c.args.line.0 c.args.start.0 ((map exp_of c.args.before.items) ++ ((S.starred (line_at (next_of c.args.self.now)) (exp_of c.in_ok-value.value.tree)) ∷ []))) (rw h at c.in_err-listed.ensures)

pub returns-in_err-expect : goal.returns-in_err-expect
returns-in_err-expect c = let h : map exp_of c.in_ok-all.all.items ≡ ((map exp_of c.args.before.items) ++ ((S.starred (line_at (next_of c.args.self.now)) (exp_of c.in_ok-value.value.tree)) ∷ [])) = rw (c.in_ok-all.ensures, c.in_ok-item.ensures, c.line-at.ensures) refl in
    fails_at _ _ _ _ _ _ c.from_residual-in_err-expect.ensures.1 (goes_on (goes_on (shift_on carries_all (star_shifts c.args.line.0 c.args.start.0 (map exp_of c.args.before.items) _) (sign_next _ c.requires.star) c.skip.ensures) (starred_binds c.args.line.0 c.args.start.0 (map exp_of c.args.before.items) (line_at (next_of c.args.self.now)) (within_tuple c.args.line.0 c.args.start.0 (map exp_of c.args.before.items) c.requires.fits (omega (arith, c.if-before-ge-MAX_DEPTH.false, c.args.before.exact)) (omega (arith, count_length exp_of c.args.before.items, c.len-count.ensures, c.if-count-ge-MAX_ITEMS.false))) (omega (arith, count_length exp_of c.args.before.items, c.len-count.ensures, c.if-count-ge-MAX_ITEMS.false))) c.in_ok-value.ensures) (tuple_binds c.args.line.0 c.args.start.0 ((map exp_of c.args.before.items) ++ ((S.starred (line_at (next_of c.args.self.now)) (exp_of c.in_ok-value.value.tree)) ∷ []))) (rw h at c.in_ok-listed.ensures)) (close_binds c.args.line.0 c.args.start.0 (listed_read c.in_ok-listed.listed) c.in_ok-listed.ensures.fits) c.in_err-expect.ensures

pub returns : goal.returns
returns c = let h : map exp_of c.in_ok-all.all.items ≡ ((map exp_of c.args.before.items) ++ ((S.starred (line_at (next_of c.args.self.now)) (exp_of c.in_ok-value.value.tree)) ∷ [])) = rw (c.in_ok-all.ensures, c.in_ok-item.ensures, c.line-at.ensures) refl in let f = c.in_ok-listed.ensures.fits in
    rw (c.in_ok-atom.ensures, c.in_ok-inside.ensures) ((goes_on (goes_on (goes_on (shift_on carries_all (star_shifts c.args.line.0 c.args.start.0 (map exp_of c.args.before.items) _) (sign_next _ c.requires.star) c.skip.ensures) (starred_binds c.args.line.0 c.args.start.0 (map exp_of c.args.before.items) (line_at (next_of c.args.self.now)) (within_tuple c.args.line.0 c.args.start.0 (map exp_of c.args.before.items) c.requires.fits (omega (arith, c.if-before-ge-MAX_DEPTH.false, c.args.before.exact)) (omega (arith, count_length exp_of c.args.before.items, c.len-count.ensures, c.if-count-ge-MAX_ITEMS.false))) (omega (arith, count_length exp_of c.args.before.items, c.len-count.ensures, c.if-count-ge-MAX_ITEMS.false))) c.in_ok-value.ensures) (tuple_binds c.args.line.0 c.args.start.0 ((map exp_of c.args.before.items) ++ ((S.starred (line_at (next_of c.args.self.now)) (exp_of c.in_ok-value.value.tree)) ∷ []))) (rw h at c.in_ok-listed.ensures)) (close_binds c.args.line.0 c.args.start.0 (listed_read c.in_ok-listed.listed) c.in_ok-listed.ensures.fits) c.in_ok-expect.ensures).found _ _
    (is_found (what_is_held c.args.line.0) (only (S.parenthesized c.args.line.0 (S.tuple c.args.start.0 (all_of (map exp_of c.in_ok-listed.listed.items.items))))) _ tt (omega (arith, f.0), omega (arith, f.1, f.2))))
