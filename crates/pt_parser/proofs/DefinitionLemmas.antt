-- How what is left of a function, of a class and of decorators goes on.
use Rattle.std.proofs.Common.{◌≡◌, ◌≢◌, ℕ, List, [], ◌∷◌, ◌++◌, Option, Some, None, Bool, true, false, inl, inr, refl, sym, ◌∙◌, ap, subst, arith}
use Rattle.pt_tree.specs.Syntax.{Name}
use Rattle.pt_wide.specs.Syntax as S
use Rattle.pt_wide.specs.Syntax.{Exp, Opt, Decorators, Stm}
use Rattle.pt_wide.specs.StatementFold.{stms_from}
use Rattle.pt_readers.specs.Reading.{next_of, behind, Part, Alike, Found, Refused, Carries, Within}
use Rattle.pt_readers.proofs.Readers.{Binds, Shifts, Narrows, left, bad_refused, narrow_carries, then_on}
use Rattle.pt_grammar.specs.declared.sign.Sign.{Sign}
use Rattle.pt_grammar.specs.declared.sign.Sign.TheVariants.{Mark as mark, Keyword as keyword, Layout as layout}
use Rattle.pt_grammar.specs.declared.sign.Mark.TheVariants.{Open, Close, Colon, Arrow}
use Rattle.pt_grammar.specs.declared.sign.Keyword.TheVariants.{Class, Def, Pass}
use Rattle.pt_grammar.specs.declared.sign.Layout.TheVariants.{Newline}
use Rattle.pt_grammar.specs.Lexemes.{Lexeme, name, sign, sign_at}
use Rattle.pt_grammar.specs.Nodes.{params_of, no_parameters}
use Rattle.pt_parser.specs.Forms.{Reads, Is, is, Then, The, the, Identifier, identifier, closed, an_identifier, an_optional}
use Rattle.pt_parser.specs.Simple.{an_expression, keyword_statement}
use Rattle.pt_parser.specs.Headings.{at_sign, OneDecorator, decorators_from, Decorated, OneSignature, signature_of, Signature, OneBases, bases_of, BehindOpen, Bases, no_bases, bases}
use Rattle.pt_parser.specs.Grammar.{Block, on_line, Suite, Compound, def_so, class_so, with_decorators, Definition, of_function, of_class, FunctionDef, function, ClassDef, a_class, ClassBody, Decoration}
use Rattle.pt_parser.specs.Limits.{FitsArgs, FitsDecorators, FitsStm}
use Rattle.pt_parser.specs.Parts.{Clear, Each, FitsBlock, FitsDecorator, some_decorators, a_signature, some_bases, a_last, a_compound}
use Rattle.pt_parser.proofs.Tokens.{not_sign}
use Rattle.pt_parser.proofs.Chains.{Ready, ready_is, ready_then, within_all, within_one, within_two, Follows, chain}
use Rattle.pt_parser.proofs.Follow.{follow_at, expr_follow}
use Rattle.pt_parser.proofs.BlockLemmas.{suite_next, last_ready}

-- the limits of decorators
pub each_decorators : (ds : List OneDecorator) → FitsDecorators (decorators_from ds) → Each FitsDecorator ds
each_decorators [] f = tt
each_decorators (d ∷ ds) f = (f.0, each_decorators ds f.1)

pub decorators_fit : (ds : List OneDecorator) → Each FitsDecorator ds → FitsDecorators (decorators_from ds)
decorators_fit [] f = tt
decorators_fit (d ∷ ds) f = (f.0, decorators_fit ds f.1)

-- a function
colon_not_arrow : mark Colon ≢ mark Arrow
colon_not_arrow h = cc

colon_stops : (r : Opt) (o : Option Lexeme) → sign_at o ≡ Some (mark Colon) → (an_optional (mark Arrow) an_expression).stops r o
colon_stops S.absent o e = λ h. let k : Some (mark Colon) ≡ Some (mark Arrow) = sym e ∙ h in colon_not_arrow cc
colon_stops (S.given a) o e = expr_follow a o (follow_at o e tt)

abbrev pub FunctionBody : ℕ → List OneDecorator → ℕ → OneSignature → Reads Stm
FunctionBody l ds m h = Then Suite (λ body. Is (S.def l (decorators_from ds) m h.name (params_of h.parameters) h.returns (stms_from body)))

pub function_opens : (l : ℕ) (ds : List OneDecorator) (m : ℕ) (ts : List Lexeme) → Narrows ts (left a_compound (Then Signature (FunctionBody l ds m))) (left a_compound (FunctionDef l ds m))
function_opens l ds m ts = record { into = λ more s rest k. into k; out = λ more s rest a k n. (out k, n); stop = λ s o n. n; up = λ s f. f; down = λ s f. f }
  where
    into : {more rest : List Lexeme} {s : Stm} → Then Signature (FunctionBody l ds m) more s rest → FunctionDef l ds m more s rest
    into {more = more} (h, m1, q, (body, m2, (k, m3, the e, b), is)) = function (subst (λ t. Signature more h (sign k t ∷ m3)) e q) b

    out : {more rest : List Lexeme} {s : Stm} → FunctionDef l ds m more s rest → Then Signature (FunctionBody l ds m) more s rest
    out (function q b) = (_, _, q, (_, _, (_, _, the refl, b), is))

module _ (l : ℕ) (ds : List OneDecorator) (m : ℕ) (f : Each FitsDecorator ds) where
  function_ready : (over : Bool) (h : OneSignature) → Within a_signature.fits over h → Ready FitsStm over (FunctionBody l ds m h)
  function_ready over h g = ready_then FitsStm over a_last (λ body. Is (S.def l (decorators_from ds) m h.name (params_of h.parameters) h.returns (stms_from body))) (last_ready over)
      (λ body b. ready_is FitsStm over _ (within_two a_signature.fits FitsBlock FitsStm over h body (S.def l (decorators_from ds) m h.name (params_of h.parameters) h.returns (stms_from body))
      (λ g b. (decorators_fit ds f, g.0, g.1, b)) g b))

  pub function_signature : Binds a_signature (FunctionBody l ds m) (left a_compound (Then Signature (FunctionBody l ds m)))
  function_signature = chain a_compound a_signature (FunctionBody l ds m) record {
    apart = λ h mid s rest k n. colon_stops h.returns _ (suite_next k.2);
    down = λ h mid s rest k g. down h k g;
    ready = λ over h g. function_ready over h g;
  }
    where
      down : (h : OneSignature) {mid rest : List Lexeme} {s : Stm} → FunctionBody l ds m h mid s rest → FitsStm s → a_signature.fits h
      down h (body, m2, b, is) g = (g.1, g.2)

  pub function_body : (h : OneSignature) → a_signature.fits h
      → Binds a_last (λ body. Is (S.def l (decorators_from ds) m h.name (params_of h.parameters) h.returns (stms_from body))) (left a_compound (FunctionBody l ds m h))
  function_body h g = chain a_compound a_last (λ body. Is (S.def l (decorators_from ds) m h.name (params_of h.parameters) h.returns (stms_from body))) record {
    apart = λ body mid s rest k n. apart body k n;
    down = λ body mid s rest k b. down body k b;
    ready = λ over body b. ready_is FitsStm over _ (within_one FitsBlock FitsStm over body (S.def l (decorators_from ds) m h.name (params_of h.parameters) h.returns (stms_from body))
        (λ b. (decorators_fit ds f, g.0, g.1, b)) b);
  }
    where
      apart : (body : List Stm) {mid rest : List Lexeme} {s : Stm} → Is (S.def l (decorators_from ds) m h.name (params_of h.parameters) h.returns (stms_from body)) mid s rest
          → Clear (next_of rest) → Clear (next_of mid)
      apart body is n = n

      down : (body : List Stm) {mid rest : List Lexeme} {s : Stm} → Is (S.def l (decorators_from ds) m h.name (params_of h.parameters) h.returns (stms_from body)) mid s rest → FitsStm s → FitsBlock body
      down body is b = b.3

-- a class
abbrev pub ClassBases : ℕ → List OneDecorator → ℕ → Name → Reads Stm
ClassBases l ds m x = Then Bases (ClassBody l ds m x)

abbrev pub ClassArgs : ℕ → List OneDecorator → ℕ → Name → Reads Stm
ClassArgs l ds m x = Then BehindOpen (ClassBody l ds m x)

pub class_opens : (l : ℕ) (ds : List OneDecorator) (m : ℕ) (ts : List Lexeme) → Narrows ts (left a_compound (Then Identifier (ClassBases l ds m))) (left a_compound (ClassDef l ds m))
class_opens l ds m ts = record { into = λ more s rest k. into k; out = λ more s rest a k n. (out k, n); stop = λ s o n. n; up = λ s f. f; down = λ s f. f }
  where
    into : {more rest : List Lexeme} {s : Stm} → Then Identifier (ClassBases l ds m) more s rest → ClassDef l ds m more s rest
    into {more = more} (x, m1, i, (c, m2, q, (body, m4, (k, m3, the e, b), is))) = a_class i (subst (λ t. Bases m1 c (sign k t ∷ m3)) e q) b

    out : {more rest : List Lexeme} {s : Stm} → ClassDef l ds m more s rest → Then Identifier (ClassBases l ds m) more s rest
    out (a_class i q b) = (_, _, i, (_, _, q, (_, _, (_, _, the refl, b), is)))

pub no_args_fit : FitsArgs S.no_args
no_args_fit = (omega arith, omega arith, omega arith)

module _ (l : ℕ) (ds : List OneDecorator) (m : ℕ) (f : Each FitsDecorator ds) where
  abbrev one_class : Name → OneBases → List Stm → Stm
  one_class x c body = S.class l (decorators_from ds) m x c.arguments c.trailing_comma (stms_from body)

  class_ready : (over : Bool) (x : Name) (c : OneBases) → Within some_bases.fits over c → Ready FitsStm over (ClassBody l ds m x c)
  class_ready over x c g = ready_then FitsStm over a_last (λ body. Is (one_class x c body)) (last_ready over)
      (λ body b. ready_is FitsStm over _ (within_two some_bases.fits FitsBlock FitsStm over c body (one_class x c body) (λ g b. (decorators_fit ds f, g, b)) g b))

  bases_ready : (over : Bool) (x : Name) → Ready FitsStm over (ClassBases l ds m x)
  bases_ready over x = let none = bases_of S.no_args false in let r = class_ready over x none (within_all some_bases.fits over none no_args_fit) in
      record { word = r.word; done = r.done; fits = r.fits; reads = λ z. (none, r.word ++ z, no_bases, r.reads z) }

  pub class_name : Binds an_identifier (ClassBases l ds m) (left a_compound (Then Identifier (ClassBases l ds m)))
  class_name = chain a_compound an_identifier (ClassBases l ds m) record { apart = λ x mid s rest k n. tt; down = λ x mid s rest k g. tt; ready = λ over x g. bases_ready over x }

  pub class_bases : (x : Name) → Binds some_bases (ClassBody l ds m x) (left a_compound (ClassArgs l ds m x))
  class_bases x = chain a_compound some_bases (ClassBody l ds m x) record {
    apart = λ c mid s rest k n. tt;
    down = λ c mid s rest k g. down k g;
    ready = λ over c g. class_ready over x c g;
  }
    where
      down : {c : OneBases} {mid rest : List Lexeme} {s : Stm} → ClassBody l ds m x c mid s rest → FitsStm s → FitsArgs c.arguments
      down (body, m2, b, is) g = g.1

  pub class_block : (x : Name) (c : OneBases) → FitsArgs c.arguments → Binds a_last (λ body. Is (S.class l (decorators_from ds) m x c.arguments c.trailing_comma (stms_from body))) (left a_compound (ClassBody l ds m x c))
  class_block x c g = chain a_compound a_last (λ body. Is (one_class x c body)) record {
    apart = λ body mid s rest k n. apart body k n;
    down = λ body mid s rest k b. down body k b;
    ready = λ over body b. ready_is FitsStm over _ (within_one FitsBlock FitsStm over body (one_class x c body) (λ b. (decorators_fit ds f, g, b)) b);
  }
    where
      apart : (body : List Stm) {mid rest : List Lexeme} {s : Stm} → Is (one_class x c body) mid s rest → Clear (next_of rest) → Clear (next_of mid)
      apart body is n = n

      down : (body : List Stm) {mid rest : List Lexeme} {s : Stm} → Is (one_class x c body) mid s rest → FitsStm s → FitsBlock body
      down body is b = b.2

pub bases_shifts : (l : ℕ) (ds : List OneDecorator) (m : ℕ) (x : Name) (k : ℕ) → Shifts (sign k (mark Open)) (left a_compound (ClassArgs l ds m x)) (left a_compound (ClassBases l ds m x))
bases_shifts l ds m x k = record { intro = λ ts s rest q. into q; inv = λ ts s rest q n. (out q, n); stop = λ s o n. n; up = λ s f. f; down = λ s f. f }
  where
    into : {ts rest : List Lexeme} {s : Stm} → ClassArgs l ds m x ts s rest → ClassBases l ds m x (sign k (mark Open) ∷ ts) s rest
    into (c, mid, q, b) = (c, mid, bases q, b)

    clash : {A : Type 0} → Some (mark Open) ≡ Some (mark Colon) → A
    clash h = cc

    out : {ts rest : List Lexeme} {s : Stm} → ClassBases l ds m x (sign k (mark Open) ∷ ts) s rest → ClassArgs l ds m x ts s rest
    out (c, mid, no_bases, b) = clash (suite_next b.2)
    out (c, mid, bases q, b) = (c, mid, q, b)

pub bases_none : (l : ℕ) (ds : List OneDecorator) (m : ℕ) (x : Name) (ts : List Lexeme) → sign_at (next_of ts) ≢ Some (mark Open)
    → Narrows ts (left a_compound (ClassBody l ds m x (bases_of S.no_args false))) (left a_compound (ClassBases l ds m x))
bases_none l ds m x ts n = record { into = λ more s rest k. (bases_of S.no_args false, more, no_bases, k); out = λ more s rest a k o. (out (not_sign ts a n) k, o); stop = λ s o k. k; up = λ s f. f; down = λ s f. f }
  where
    out : {more rest : List Lexeme} {s : Stm} → sign_at (next_of more) ≢ Some (mark Open) → ClassBases l ds m x more s rest → ClassBody l ds m x (bases_of S.no_args false) more s rest
    out o (c, mid, no_bases, b) = b
    out o (c, mid, bases q, b) = absurd (o refl)

pub bases_carries : {P : Part Lexeme Stm} {ts mid rest : List Lexeme} (l : ℕ) (ds : List OneDecorator) (m : ℕ) (x : Name) → Carries P ts (left a_compound (ClassBases l ds m x)) mid
    → (sign_at (next_of mid) ≢ Some (mark Open)) × (rest ≡ mid) → Carries P ts (left a_compound (ClassBody l ds m x (bases_of S.no_args false))) rest
bases_carries {P} {ts} {mid} l ds m x c n = subst (λ u. Carries P ts (left a_compound (ClassBody l ds m x (bases_of S.no_args false))) u) (sym n.1) (then_on c (narrow_carries (bases_none l ds m x mid n.0)))

-- at their first words
pub def_shifts : (l : ℕ) → Shifts (sign l (keyword Def)) (left a_compound (FunctionDef l [] l)) a_compound
def_shifts l = record { intro = λ ts s rest k. def_so k; inv = λ ts s rest k n. (out k, n); stop = λ s o n. n; up = λ s f. f; down = λ s f. f }
  where
    out : {ts rest : List Lexeme} {s : Stm} → Compound (sign l (keyword Def) ∷ ts) s rest → FunctionDef l [] l ts s rest
    out (def_so k) = k

pub class_shifts : (l : ℕ) → Shifts (sign l (keyword Class)) (left a_compound (ClassDef l [] l)) a_compound
class_shifts l = record { intro = λ ts s rest k. class_so k; inv = λ ts s rest k n. (out k, n); stop = λ s o n. n; up = λ s f. f; down = λ s f. f }
  where
    out : {ts rest : List Lexeme} {s : Stm} → Compound (sign l (keyword Class) ∷ ts) s rest → ClassDef l [] l ts s rest
    out (class_so k) = k

pub decoration_shifts : (l : ℕ) → Shifts (sign l at_sign) (left a_compound (Decoration l)) a_compound
decoration_shifts l = record { intro = λ ts s rest k. with_decorators k.2 k.3; inv = λ ts s rest k n. (out k, n); stop = λ s o n. n; up = λ s f. f; down = λ s f. f }
  where
    out : {ts rest : List Lexeme} {s : Stm} → Compound (sign l at_sign ∷ ts) s rest → Decoration l ts s rest
    out (with_decorators d k) = (_, _, d, k)

-- behind decorators
pub function_shifts : (l m : ℕ) (ds : List OneDecorator) → Shifts (sign m (keyword Def)) (left a_compound (FunctionDef l ds m)) (left a_compound (Definition l ds))
function_shifts l m ds = record { intro = λ ts s rest k. of_function k; inv = λ ts s rest k n. (out k, n); stop = λ s o n. n; up = λ s f. f; down = λ s f. f }
  where
    out : {ts rest : List Lexeme} {s : Stm} → Definition l ds (sign m (keyword Def) ∷ ts) s rest → FunctionDef l ds m ts s rest
    out (of_function k) = k

pub class_behind : (l m : ℕ) (ds : List OneDecorator) → Shifts (sign m (keyword Class)) (left a_compound (ClassDef l ds m)) (left a_compound (Definition l ds))
class_behind l m ds = record { intro = λ ts s rest k. of_class k; inv = λ ts s rest k n. (out k, n); stop = λ s o n. n; up = λ s f. f; down = λ s f. f }
  where
    out : {ts rest : List Lexeme} {s : Stm} → Definition l ds (sign m (keyword Class) ∷ ts) s rest → ClassDef l ds m ts s rest
    out (of_class k) = k

definition_next : {l : ℕ} {ds : List OneDecorator} {s : Stm} {ts rest : List Lexeme} → Definition l ds ts s rest → sign_at (next_of ts) ≢ Some at_sign
definition_next (of_function k) h = cc
definition_next (of_class k) h = cc

definition_keeps : {l : ℕ} {ds : List OneDecorator} {s : Stm} {ts rest : List Lexeme} → Definition l ds ts s rest → FitsStm s → Each FitsDecorator ds
definition_keeps {ds = ds} (of_function (function q b)) f = each_decorators ds f.0
definition_keeps {ds = ds} (of_class (a_class i q b)) f = each_decorators ds f.0

abbrev some_class : (l : ℕ) (ds : List OneDecorator) → Stm
some_class l ds = S.class l (decorators_from ds) 0 [] S.no_args false (stms_from (S.pass 0 ∷ []))

abbrev class_word : List Lexeme
class_word = sign 0 (keyword Class) ∷ (name 0 [] ∷ (sign 0 (mark Colon) ∷ (sign 0 (keyword Pass) ∷ (sign 0 (layout Newline) ∷ []))))

definition_ready : (over : Bool) (l : ℕ) (ds : List OneDecorator) → Within (Each FitsDecorator) over ds → Ready FitsStm over (Definition l ds)
definition_ready over l ds f = record {
  word = class_word;
  done = some_class l ds;
  fits = within_one (Each FitsDecorator) FitsStm over ds (some_class l ds) (λ f. (decorators_fit ds f, no_args_fit, (tt, tt))) f;
  reads = λ z. of_class (a_class identifier no_bases (on_line (_, _, keyword_statement is, closed refl)));
}

pub decoration_binds : (l : ℕ) → Binds (some_decorators l) (λ ds. Definition l ds) (left a_compound (Decoration l))
decoration_binds l = chain a_compound (some_decorators l) (λ ds. Definition l ds) record {
  apart = λ ds mid s rest k n. definition_next k;
  down = λ ds mid s rest k f. definition_keeps k f;
  ready = λ over ds f. definition_ready over l ds f;
}

pub definition_bad : (l : ℕ) (ds : List OneDecorator) (ts : List Lexeme) → Each FitsDecorator ds → sign_at (next_of ts) ≢ Some (keyword Def) → sign_at (next_of ts) ≢ Some (keyword Class)
    → Refused (left a_compound (Definition l ds)) false ts ts
definition_bad l ds ts f m n = let r = definition_ready true l ds f in
    bad_refused (left a_compound (Definition l ds)) ts (λ more a s rest k o. out (not_sign ts a m) (not_sign ts a n) k) r.word r.done r.fits r.reads
  where
    out : {more rest : List Lexeme} {s : Stm} → sign_at (next_of more) ≢ Some (keyword Def) → sign_at (next_of more) ≢ Some (keyword Class) → Definition l ds more s rest → ⊥
    out a b (of_function k) = a refl
    out a b (of_class k) = b refl
