-- From what a reader answers to what is answered of the tokens.
use Rattle.std.proofs.Common.{◌≡◌, Bool, true, false, List, None, Result, Ok, Err, subst, arith}
use Rattle.pt_wide.specs.Syntax.{Exp}
use Rattle.pt_readers.specs.Reading as R
use Rattle.pt_readers.specs.Settled.{Settled}
use Rattle.pt_readers.specs.Whole.{Tells}
use Rattle.pt_readers.specs.declared.halt.Halt.{Halt}
use Rattle.pt_readers.proofs.Wholes.{settled_tells}
use Rattle.pt_grammar.specs.declared.part.Part.{Part}
use Rattle.pt_grammar.specs.declared.part.Part.TheVariants.{Whole, Target}
use Rattle.pt_grammar.specs.Lexemes.{Lexeme}
use Rattle.pt_grammar.specs.Parts.{Apart, ends_in_text}
use Rattle.pt_expr.specs.Answers.{part_of}

apart_none : (e : Exp) → Apart (ends_in_text e) None
apart_none e = none (ends_in_text e)
  where
    none : (b : Bool) → Apart b None
    none true = tt
    none false = tt

pub stops_at_end : (p : Part) (e : Exp) → R.Part.stops (part_of p) e None
stops_at_end Whole e = (omega arith, apart_none e)
stops_at_end Target e = (omega arith, apart_none e)

pub ok_told : (p : Part) (ts us rest : List Lexeme) (e : Exp) → us ≡ ts → R.Found (part_of p) us e rest → Tells (part_of p) ts rest (Ok e)
ok_told p ts us rest e h f = settled_tells (part_of p) (stops_at_end p) (λ (x : Exp). x) ts rest (Ok e) (subst (λ u. R.Found (part_of p) u e rest) h f)

pub err_told : {X : Type 0} (see : X → Exp) (p : Part) (ts us rest : List Lexeme) (r : Result X Halt) (e : Halt) → us ≡ ts → r ≡ Err e → Settled (part_of p) see us rest r → Tells (part_of p) ts rest (Err e)
err_told see p ts us rest r e h k s = settled_tells (part_of p) (stops_at_end p) see ts rest (Err e) (subst (λ u. Settled (part_of p) see u rest (Err e)) h (subst (Settled (part_of p) see us rest) k s))
