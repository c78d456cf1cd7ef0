-- From what the reader of statements answers to what is answered of the tokens.
use Rattle.std.proofs.Common.{◌≡◌, List, [], ◌∷◌, length, Result, Ok, Err, subst, refl, arith}
use Rattle.pt_wide.specs.Syntax.{Stm}
use Rattle.pt_readers.specs.Reading.{Found}
use Rattle.pt_readers.specs.Settled.{Settled}
use Rattle.pt_readers.specs.Whole.{Tells}
use Rattle.pt_readers.specs.declared.halt.Halt.{Halt}
use Rattle.pt_readers.proofs.Wholes.{settled_tells}
use Rattle.pt_grammar.specs.Lexemes.{Lexeme}
use Rattle.pt_parser.specs.Script.{a_script}

pub ok_told : (ts us rest : List Lexeme) (ss : List Stm) → us ≡ ts → Found a_script us ss rest → Tells a_script ts rest (Ok ss)
ok_told ts us rest ss h f = settled_tells a_script (λ x. tt) (λ (x : List Stm). x) ts rest (Ok ss) (subst (λ u. Found a_script u ss rest) h f)

pub err_told : {X : Type 0} (see : X → List Stm) (ts us rest : List Lexeme) (r : Result X Halt) (e : Halt) → us ≡ ts → r ≡ Err e → Settled a_script see us rest r → Tells a_script ts rest (Err e)
err_told see ts us rest r e h k s = settled_tells a_script (λ x. tt) see ts rest (Err e) (subst (λ u. Settled a_script see u rest (Err e)) h (subst (Settled a_script see us rest) k s))

pub no_length : (ts : List Lexeme) → length ts ≡ 0 → ts ≡ []
no_length [] h = refl
no_length (t ∷ ts) h = absurd (omega (arith, h))
