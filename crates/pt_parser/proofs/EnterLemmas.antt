-- How what is left of a `with` goes on.
use Rattle.std.proofs.Common.{◌≡◌, ℕ, List, [], ◌∷◌, ◌++◌, Option, Some, Bool, true, false, refl, sym, subst}
use Rattle.pt_wide.specs.Syntax as S
use Rattle.pt_wide.specs.Syntax.{Stm}
use Rattle.pt_wide.specs.StatementFold.{stms_from}
use Rattle.pt_readers.specs.Reading.{next_of, Within}
use Rattle.pt_readers.proofs.Readers.{Binds, Shifts, left}
use Rattle.pt_grammar.specs.declared.sign.Sign.TheVariants.{Mark as mark, Keyword as keyword}
use Rattle.pt_grammar.specs.declared.sign.Mark.TheVariants.{Colon}
use Rattle.pt_grammar.specs.declared.sign.Keyword.TheVariants.{With}
use Rattle.pt_grammar.specs.Lexemes.{Lexeme, sign}
use Rattle.pt_parser.specs.Forms.{Reads, Is, is, Then, the}
use Rattle.pt_parser.specs.Limits.{FitsItems, FitsStm}
use Rattle.pt_parser.specs.With.{OneItem, items_from, WithItems, FitsItem}
use Rattle.pt_parser.specs.Grammar.{Compound, with_so, Suite, Entering}
use Rattle.pt_parser.specs.Parts.{Clear, Each, FitsBlock, with_items, a_compound, a_last}
use Rattle.pt_parser.proofs.Chains.{Ready, ready_is, within_one, within_two, chain}
use Rattle.pt_parser.proofs.BlockLemmas.{last_ready, suite_next}

pub items_fit : (xs : List OneItem) → Each FitsItem xs → FitsItems (items_from xs)
items_fit [] f = tt
items_fit (x ∷ xs) f = (f.0.0, f.0.1, items_fit xs f.1)

fit_items : (xs : List OneItem) → FitsItems (items_from xs) → Each FitsItem xs
fit_items [] f = tt
fit_items (x ∷ xs) f = ((f.0, f.1), fit_items xs f.2)

pub with_shifts : (l : ℕ) → Shifts (sign l (keyword With)) (left a_compound (Entering l)) a_compound
with_shifts l = record { intro = λ ts s rest k. into k; inv = λ ts s rest k n. (out k, n); stop = λ s o n. n; up = λ s f. f; down = λ s f. f }
  where
    into : {ts rest : List Lexeme} {s : Stm} → Entering l ts s rest → Compound (sign l (keyword With) ∷ ts) s rest
    into {ts = ts} (xs, m1, q, (body, m2, (k, m3, the e, b), is)) = with_so (subst (λ t. WithItems ts xs (sign k t ∷ m3)) e q) b

    out : {ts rest : List Lexeme} {s : Stm} → Compound (sign l (keyword With) ∷ ts) s rest → Entering l ts s rest
    out (with_so q b) = (_, _, q, (_, _, (_, _, the refl, b), is))

abbrev pub WithBody : ℕ → List OneItem → Reads Stm
WithBody l xs = Then Suite (λ body. Is (S.with l (items_from xs) (stms_from body)))

pub with_binds : (l : ℕ) → Binds with_items (WithBody l) (left a_compound (Entering l))
with_binds l = chain a_compound with_items (WithBody l) record {
  apart = λ xs mid s rest k n. suite_next k.2;
  down = λ xs mid s rest k f. down xs k f;
  ready = λ over xs f. ready over xs f;
}
  where
    down : (xs : List OneItem) {mid rest : List Lexeme} {s : Stm} → WithBody l xs mid s rest → FitsStm s → Each FitsItem xs
    down xs (body, m2, b, is) f = fit_items xs f.0

    ready : (over : Bool) (xs : List OneItem) → Within (Each FitsItem) over xs → Ready FitsStm over (WithBody l xs)
    ready over xs f = let r = last_ready over in record {
      word = r.word;
      done = S.with l (items_from xs) (stms_from r.done);
      fits = within_two (Each FitsItem) FitsBlock FitsStm over xs r.done (S.with l (items_from xs) (stms_from r.done)) (λ f g. (items_fit xs f, g)) f r.fits;
      reads = λ z. (_, _, r.reads z, is);
    }

pub with_body : (l : ℕ) (xs : List OneItem) → Each FitsItem xs → Binds a_last (λ body. Is (S.with l (items_from xs) (stms_from body))) (left a_compound (WithBody l xs))
with_body l xs f = chain a_compound a_last (λ body. Is (S.with l (items_from xs) (stms_from body))) record {
  apart = λ body mid s rest k n. apart body k n;
  down = λ body mid s rest k g. down body k g;
  ready = λ over body g. ready_is FitsStm over _ (within_one FitsBlock FitsStm over body (S.with l (items_from xs) (stms_from body)) (λ g. (items_fit xs f, g)) g);
}
  where
    apart : (body : List Stm) {mid rest : List Lexeme} {s : Stm} → Is (S.with l (items_from xs) (stms_from body)) mid s rest → Clear (next_of rest) → Clear (next_of mid)
    apart body is n = n

    down : (body : List Stm) {mid rest : List Lexeme} {s : Stm} → Is (S.with l (items_from xs) (stms_from body)) mid s rest → FitsStm s → FitsBlock body
    down body is g = g.1
