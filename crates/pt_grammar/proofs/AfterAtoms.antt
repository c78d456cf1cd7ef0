-- What is left of expressions behind the atom with which they begin, level by level.
use Rattle.std.proofs.Common.{◌≡◌, ℕ, zero, suc, List, [], sym, subst, arith}
use Rattle.pt_wide.specs.Syntax.{Exp}
use Rattle.pt_readers.specs.Reading.{next_of, Part, Carries}
use Rattle.pt_readers.proofs.Readers.{Binds, left, narrow_carries}
use Rattle.pt_base.specs.declared.operators.BinOp.TheVariants.{Pow}
use Rattle.pt_wide.specs.declared.expression.WideBinOp.TheVariants.{Plain}
use Rattle.pt_grammar.specs.declared.sign.Sign.TheVariants.{Operator, Word as word}
use Rattle.pt_grammar.specs.declared.sign.Word.TheVariants.{And, Or, If}
use Rattle.pt_grammar.specs.Lexemes.{Lexeme}
use Rattle.pt_grammar.specs.Grammar.{Trailed, Raised, not_raised, raised, Operated, operated_end, operated_more, Compared, compared_end, compared_more, Conjoined, conjoined_end, conjoined_more, Disjoined, disjoined_end, disjoined_more, Choice, no_choice, choice}
use Rattle.pt_grammar.specs.Parts.{Stops, ends_in_text, a_primary, a_power, a_binary, comparisons, a_conjunction, a_disjunction, a_negation, an_expr}
use Rattle.pt_grammar.specs.Behind.{Then}
use Rattle.pt_grammar.specs.BehindAtom.{OfPower, OfBinary, of_power, of_binary, OfComparisons, OfConjunction, OfDisjunction, OfExpr}
use Rattle.pt_grammar.proofs.Ranks.{apart_of}
use Rattle.pt_grammar.proofs.OperatorRanks.{rank_small}
use Rattle.pt_grammar.proofs.Factors.{power_binds}
use Rattle.pt_grammar.proofs.Levels.{binary_binds}
use Rattle.pt_grammar.proofs.Relations.{chain_binds, comparing_rank}
use Rattle.pt_grammar.proofs.Chains.{conjunction_binds, disjunction_binds}
use Rattle.pt_grammar.proofs.Choices.{expr_binds}

-- What is left of a first part, and then what follows it.
pub behind_binds : {T A B : Type 0} {Q : Part T B} {K : B → List T → A → List T → Type 0} {P : Part T A} (L : List T → B → List T → Type 0) → Binds Q K P
    → ((y : B) (mid : List T) (x : A) (rest : List T) → K y mid x rest → P.stops x (next_of rest) → Q.stops y (next_of mid))
    → Binds (left Q L) K (left P (Then L K))
behind_binds L b stops = record {
  intro = λ ts y mid x rest q k. (y, mid, q, k);
  inv = λ ts x rest k s. (k.0, k.1, k.2, stops k.0 k.1 x rest k.3 s, k.3);
  down = b.down;
  finish = b.finish;
  extend = b.extend;
}

pub after_trailers : (d : ℕ) (a : Exp) → Binds (left (a_primary d) (Trailed a)) Raised (left (a_power d) (OfPower a))
after_trailers d a = behind_binds (Trailed a) (power_binds d) (λ y mid x rest k s. stops k s)
  where
    stops : {mid rest : List Lexeme} {y x : Exp} → Raised y mid x rest → Stops 1 x (next_of rest) → Stops 0 y (next_of mid)
    stops not_raised s = (omega (arith, s.0), s.1)
    stops {y = y} (raised {l = l} k) s = (omega arith, apart_of (ends_in_text y) l (Operator (Plain Pow)) (omega arith))

pub of_factors : (m d : ℕ) (a : Exp) → m ≡ zero → (ts : List Lexeme) → Carries (left (a_binary m d) (OfBinary m a)) ts (left (a_power d) (OfPower a)) ts
of_factors m d a h ts = subst (λ v. Carries (left (a_binary v d) (OfBinary v a)) ts (left (a_power d) (OfPower a)) ts) (sym h)
    (narrow_carries record { into = λ more x rest k. of_power k; out = λ more x rest i k s. (out k, s); stop = λ x o s. s; up = λ x f. f; down = λ x f. f })
  where
    out : {more rest : List Lexeme} {x : Exp} → OfBinary zero a more x rest → OfPower a more x rest
    out (of_power k) = k

pub after_operands : (m n d : ℕ) (a : Exp) → m ≡ suc n → Binds (left (a_binary n d) (OfBinary n a)) (Operated n) (left (a_binary m d) (OfBinary m a))
after_operands m n d a h = let b = binary_binds m n d h in record {
  intro = λ ts y mid x rest q k. subst (λ v. OfBinary v a ts x rest) (sym h) (of_binary q k);
  inv = λ ts x rest k s. out (subst (λ v. OfBinary v a ts x rest) h k) (subst (λ v. Stops (suc v) x (next_of rest)) h s);
  down = b.down;
  finish = b.finish;
  extend = b.extend;
}
  where
    stops : {mid rest : List Lexeme} {y x : Exp} → Operated n y mid x rest → Stops (suc (suc n)) x (next_of rest) → Stops (suc n) y (next_of mid)
    stops operated_end s = (omega (arith, s.0), s.1)
    stops {y = y} (operated_more {l = l} {o = o} e q k) s = (omega arith, apart_of (ends_in_text y) l (Operator o) (omega (arith, rank_small o)))

    out : {ts rest : List Lexeme} {x : Exp} → OfBinary (suc n) a ts x rest → Stops (suc (suc n)) x (next_of rest)
        → (y : Exp) × (mid : List Lexeme) × OfBinary n a ts y mid × Stops (suc n) y (next_of mid) × Operated n y mid x rest
    out (of_binary q k) s = (_, _, q, stops k s, k)

pub after_numbers : (d : ℕ) (a : Exp) → Binds (left (a_binary 6 d) (OfBinary 6 a)) (λ e. Compared e []) (left (comparisons d) (OfComparisons a))
after_numbers d a = behind_binds (OfBinary 6 a) (chain_binds d) (λ y mid x rest k s. stops k s)
  where
    stops : {mid rest : List Lexeme} {y x : Exp} → Compared y [] mid x rest → Stops 8 x (next_of rest) → Stops 7 y (next_of mid)
    stops compared_end s = (omega (arith, s.0), s.1)
    stops {y = y} (compared_more {l = l} {s = t} q k) s = (omega (arith, comparing_rank q), apart_of (ends_in_text y) l t (omega (arith, comparing_rank q)))

pub after_comparisons : (d : ℕ) (a : Exp) → Binds (left (a_negation d) (OfComparisons a)) (λ e. Conjoined e []) (left (a_conjunction d) (OfConjunction a))
after_comparisons d a = behind_binds (OfComparisons a) (conjunction_binds d) (λ y mid x rest k s. stops k s)
  where
    stops : {mid rest : List Lexeme} {y x : Exp} → Conjoined y [] mid x rest → Stops 9 x (next_of rest) → Stops 8 y (next_of mid)
    stops conjoined_end s = (omega (arith, s.0), s.1)
    stops {y = y} (conjoined_more {l = l} q k) s = (omega arith, apart_of (ends_in_text y) l (word And) (omega arith))

pub after_conjunction : (d : ℕ) (a : Exp) → Binds (left (a_conjunction d) (OfConjunction a)) (λ e. Disjoined e []) (left (a_disjunction d) (OfDisjunction a))
after_conjunction d a = behind_binds (OfConjunction a) (disjunction_binds d) (λ y mid x rest k s. stops k s)
  where
    stops : {mid rest : List Lexeme} {y x : Exp} → Disjoined y [] mid x rest → Stops 10 x (next_of rest) → Stops 9 y (next_of mid)
    stops disjoined_end s = (omega (arith, s.0), s.1)
    stops {y = y} (disjoined_more {l = l} q k) s = (omega arith, apart_of (ends_in_text y) l (word Or) (omega arith))

pub after_disjunction : (d : ℕ) (a : Exp) → Binds (left (a_disjunction d) (OfDisjunction a)) Choice (left (an_expr d) (OfExpr a))
after_disjunction d a = behind_binds (OfDisjunction a) (expr_binds d) (λ y mid x rest k s. stops k s)
  where
    stops : {mid rest : List Lexeme} {y x : Exp} → Choice y mid x rest → Stops 11 x (next_of rest) → Stops 10 y (next_of mid)
    stops no_choice s = (omega (arith, s.0), s.1)
    stops {y = y} (choice {l = l} k) s = (omega arith, apart_of (ends_in_text y) l (word If) (omega arith))
