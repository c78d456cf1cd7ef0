use Rattle.std.proofs.Common.{◌≤◌, ◌<◌, ◌∷◌, length, arith, sym, subst}
use Rattle.std.proofs.lemmas.Result.{err_from_is_err_and}
use Rattle.pt_lexer.specs.Progress.{ReadsLine}
use Rattle.pt_lexer.proofs.FirstLemmas.{begin_again, refused_column, refused_depth, refused_words, words_line, indented_at, misplaced_at}
use Rattle.pt_lexer.proofs.lexer.Lexer.full_line.Goals as goal

pub returns-in_err-turn-clause-read : goal.returns-in_err-turn-clause-read
returns-in_err-turn-clause-read c =
    let p = err_from_is_err_and c.from_residual.result c.from_residual.ensures.1 in
    rw (p.1, p.2) (refused_column _ c.in_err-turn.field-0.0 c.requires.begins (misplaced_at (c.args.self.now.columns.inner ∷ c.args.self.now.columns.outer) _ _ c.args.spot.line c.in_err-turn.field-0.0 c.column_of.ensures c.in_err-turn.ensures))

pub too_deep-requires : goal.too_deep-requires
too_deep-requires c = record { begins = begin_again c.requires.begins }

pub returns-then-len-gt-MAX_BLOCKS-clause-read : goal.returns-then-len-gt-MAX_BLOCKS-clause-read
returns-then-len-gt-MAX_BLOCKS-clause-read c =
    let l : 101 < length (c.turn.new.self.inner ∷ c.turn.new.self.outer) = omega (arith, c.len.ensures) in
    refused_depth c.too_deep.result c.requires.begins (indented_at c.column_of.ensures c.in_ok-turn.ensures) l c.too_deep.ensures

pub returns-in_err-stop-clause-read : goal.returns-in_err-stop-clause-read
returns-in_err-stop-clause-read c =
    let l : length (c.turn.new.self.inner ∷ c.turn.new.self.outer) ≤ 101 = omega (arith, c.len.ensures) in
    let p = err_from_is_err_and c.from_residual-in_err-stop.result c.from_residual-in_err-stop.ensures.1 in
    rw (p.1, p.2) (refused_words c.in_err-stop.field-0.0 c.requires.begins (indented_at c.column_of.ensures c.in_ok-turn.ensures) l c.in_err-stop.ensures.read)

pub returns-clause-read : goal.returns-clause-read
returns-clause-read c =
    let l : length (c.turn.new.self.inner ∷ c.turn.new.self.outer) ≤ 101 = omega (arith, c.len.ensures) in
    subst (λ x. ReadsLine c.args.self.now.end (c.args.self.now.columns.inner ∷ c.args.self.now.columns.outer) (x.inner ∷ x.outer) c.args.text.now c.in_ok-stop.rest.now c.args.self.now.tokens c.push.new.self)
    (sym c.in_ok-stop.ensures.columns)
    (words_line c.requires.begins (indented_at c.column_of.ensures c.in_ok-turn.ensures) l c.in_ok-stop.ensures.read c.token_at.ensures c.in_ok-push.ensures.ok)
