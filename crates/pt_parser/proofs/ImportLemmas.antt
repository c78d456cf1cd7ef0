-- How what is left of an import goes on.
use Rattle.std.proofs.Common.{◌≡◌, ◌≢◌, ℕ, suc, ◌+◌, List, [], ◌∷◌, ◌++◌, Option, Some, None, Bool, true, false, inl, inr, refl, sym, ◌∙◌, ap, subst, arith}
use Rattle.pt_tree.specs.Syntax.{Name}
use Rattle.pt_tree.specs.declared.statement.Alias.{Alias}
use Rattle.pt_wide.specs.Syntax as S
use Rattle.pt_wide.specs.Syntax.{Stm}
use Rattle.pt_base.specs.declared.operators.BinOp.TheVariants.{Mul}
use Rattle.pt_wide.specs.declared.expression.WideBinOp.TheVariants.{Plain}
use Rattle.pt_readers.specs.Reading.{next_of, behind, Part, Alike, Found, Refused, Carries, Within}
use Rattle.pt_readers.proofs.Readers.{Binds, Shifts, Narrows, left, nothing_found, narrow_carries}
use Rattle.pt_grammar.specs.declared.sign.Sign.{Sign}
use Rattle.pt_grammar.specs.declared.sign.Sign.TheVariants.{Operator, Singleton as singleton, Mark as mark, Word as word, Keyword as keyword}
use Rattle.pt_grammar.specs.declared.sign.Singleton.TheVariants.{Ellipsis}
use Rattle.pt_grammar.specs.declared.sign.Mark.TheVariants.{Open, Close, Dot}
use Rattle.pt_grammar.specs.declared.sign.Keyword.TheVariants.{As, Import}
use Rattle.pt_grammar.specs.Lexemes.{Lexeme, name, sign, sign_at}
use Rattle.pt_parser.specs.Forms.{Reads, Is, is, Then, The, the, Identifier, identifier, Separated, no_more, UpTo, a_sign, an_identifier}
use Rattle.pt_parser.specs.Simple.{comma, Renamed, not_renamed, renamed, Aliased, Imports, Imported, star, listed, enclosed, Dotted, no_dot, dot, dots, ImportedFrom}
use Rattle.pt_parser.specs.Limits.{FitsStm}
use Rattle.pt_parser.specs.Parts.{IsEnd, Each, an_alias, StopsAlias, a_list, an_enclosure, imported, dots_in, some_dots, a_simple}
use Rattle.pt_parser.proofs.Tokens.{sign_next, not_sign}
use Rattle.pt_parser.proofs.Chains.{Ready, ready_is, ready_then, within_all, Follows, chain, is_found, identifier_ready}
use Rattle.pt_parser.proofs.Ends.{end_not, ending, Listable}
use Rattle.pt_parser.proofs.UpTo.{Closable}

abbrev pub as_it_is : Name → Alias
as_it_is x = record { name = x; alias = None }

abbrev pub named_as : Name → Name → Alias
named_as x y = record { name = x; alias = Some y }

-- behind the name
abbrev pub AsTail : Name → Reads Alias
AsTail x = Then Renamed (λ a. Is record { name = x; alias = a })

abbrev pub NewName : Name → Reads Alias
NewName x = Then Identifier (λ y. Is (named_as x y))

as_ready : (over : Bool) (x : Name) → Ready an_alias.fits over (AsTail x)
as_ready over x = record { word = []; done = as_it_is x; fits = within_all an_alias.fits over (as_it_is x) tt; reads = λ z. (None, z, not_renamed, is) }

pub alias_name : Binds an_identifier AsTail an_alias
alias_name = chain an_alias an_identifier AsTail record { apart = λ x mid a rest k n. tt; down = λ x mid a rest k f. tt; ready = λ over x f. as_ready over x }

pub alias_alone : (x : Name) (ts : List Lexeme) → sign_at (next_of ts) ≢ Some (keyword As) → Found (left an_alias (AsTail x)) ts (as_it_is x) ts
alias_alone x ts n = nothing_found (left an_alias (AsTail x)) ts (as_it_is x) (λ more. (None, more, not_renamed, is)) (λ h. n) tt (λ more a y rest k m. out (not_sign ts a n) k)
  where
    out : {more rest : List Lexeme} {y : Alias} → sign_at (next_of more) ≢ Some (keyword As) → AsTail x more y rest → (y ≡ as_it_is x) × (rest ≡ more)
    out m (None, mid, not_renamed, is) = (refl, refl)
    out m (Some z, mid, renamed i, k) = absurd (m refl)

pub as_shifts : (x : Name) (l : ℕ) → Shifts (sign l (keyword As)) (left an_alias (NewName x)) (left an_alias (AsTail x))
as_shifts x l = record { intro = λ ts a rest k. into k; inv = λ ts a rest k n. (out k n, n); stop = λ a o n. n; up = λ a f. f; down = λ a f. f }
  where
    into : {ts rest : List Lexeme} {a : Alias} → NewName x ts a rest → AsTail x (sign l (keyword As) ∷ ts) a rest
    into (y, mid, i, k) = (Some y, mid, renamed i, k)

    out : {ts rest : List Lexeme} {a : Alias} → AsTail x (sign l (keyword As) ∷ ts) a rest → StopsAlias a (next_of rest) → NewName x ts a rest
    out (None, mid, not_renamed, is) n = absurd (n refl refl)
    out (Some y, mid, renamed i, k) n = (y, mid, i, k)

pub new_name : (x : Name) → Binds an_identifier (λ y. Is (named_as x y)) (left an_alias (NewName x))
new_name x = chain an_alias an_identifier (λ y. Is (named_as x y)) record {
  apart = λ y mid a rest k n. tt;
  down = λ y mid a rest k f. tt;
  ready = λ over y f. ready_is an_alias.fits over (named_as x y) (within_all an_alias.fits over (named_as x y) tt);
}

pub alias_ready : (over : Bool) → Ready an_alias.fits over an_alias.reads
alias_ready over = ready_then an_alias.fits over an_identifier AsTail (identifier_ready over) (λ x f. as_ready over x)

pub aliases_listable : Listable an_alias
aliases_listable = record { ends = λ a o e h. end_not o e (λ k. cc) (λ k. cc); goes = λ a l h k. cc; fits = λ a. tt; ready = alias_ready false }

pub aliases_closable : Closable comma (mark Close) an_alias
aliases_closable = record {
  differ = λ h. cc;
  at_sign = λ a l h k. cc;
  at_close = λ a l h k. cc;
  begins = λ ts a rest k. begins k;
  ready = alias_ready;
}
  where
    named : {ts rest : List Lexeme} {x : Name} → Identifier ts x rest → sign_at (next_of ts) ≢ Some (mark Close)
    named identifier h = cc

    begins : {ts rest : List Lexeme} {a : Alias} → Aliased ts a rest → sign_at (next_of ts) ≢ Some (mark Close)
    begins (x, mid, i, k) = named i

-- from "import" on
abbrev pub NamesTail : ℕ → ℕ → Name → Reads Stm
NamesTail l n x = Then Imported (λ xs. Is (S.import_from l n x xs))

abbrev pub WordTail : ℕ → ℕ → Name → Reads Stm
WordTail l n x = Then (The (keyword Import)) (λ m. NamesTail l n x)

abbrev pub OriginTail : ℕ → ℕ → Reads Stm
OriginTail l n = Then Identifier (λ x. WordTail l n x)

names_ready : (over : Bool) (l n : ℕ) (x : Name) → Ready FitsStm over (NamesTail l n x)
names_ready over l n x = record {
  word = sign 0 (Operator (Plain Mul)) ∷ [];
  done = S.import_from l n x None;
  fits = within_all FitsStm over (S.import_from l n x None) tt;
  reads = λ z. (None, z, star, is);
}

word_ready : (over : Bool) (l n : ℕ) (x : Name) → Ready FitsStm over (WordTail l n x)
word_ready over l n x = ready_then FitsStm over (a_sign (keyword Import)) (λ m. NamesTail l n x)
    record { word = sign 0 (keyword Import) ∷ []; done = 0; fits = within_all (a_sign (keyword Import)).fits over 0 tt; reads = λ z. the refl } (λ m f. names_ready over l n x)

pub dots_binds : (l : ℕ) → Binds (some_dots 0) (OriginTail l) (left a_simple (ImportedFrom l))
dots_binds l = chain a_simple (some_dots 0) (OriginTail l) record {
  apart = λ n mid s rest k e. apart k.2;
  down = λ n mid s rest k f. tt;
  ready = λ over n f. ready_then FitsStm over an_identifier (λ x. WordTail l n x) (identifier_ready over) (λ x g. word_ready over l n x);
}
  where
    apart : {x : Name} {ts rest : List Lexeme} → Identifier ts x rest → dots_in (sign_at (next_of ts)) ≡ 0
    apart identifier = refl

pub origin_binds : (l n : ℕ) → Binds an_identifier (λ x. WordTail l n x) (left a_simple (OriginTail l n))
origin_binds l n = chain a_simple an_identifier (λ x. WordTail l n x) record { apart = λ x mid s rest k e. tt; down = λ x mid s rest k f. tt; ready = λ over x f. word_ready over l n x }

pub word_binds : (l n : ℕ) (x : Name) → Binds (a_sign (keyword Import)) (λ m. NamesTail l n x) (left a_simple (WordTail l n x))
word_binds l n x = chain a_simple (a_sign (keyword Import)) (λ m. NamesTail l n x) record { apart = λ m mid s rest k e. tt; down = λ m mid s rest k f. tt; ready = λ over m f. names_ready over l n x }

pub imported_binds : (l n : ℕ) (x : Name) → Binds imported (λ xs. Is (S.import_from l n x xs)) (left a_simple (NamesTail l n x))
imported_binds l n x = chain a_simple imported (λ xs. Is (S.import_from l n x xs)) record {
  apart = λ xs mid s rest k e. apart k e;
  down = λ xs mid s rest k f. tt;
  ready = λ over xs f. ready_is FitsStm over (S.import_from l n x xs) (within_all FitsStm over (S.import_from l n x xs) tt);
}
  where
    apart : {xs : Option (List Alias)} {s : Stm} {ts rest : List Lexeme} → Is (S.import_from l n x xs) ts s rest → IsEnd (next_of rest) → IsEnd (next_of ts)
    apart is e = e

-- a sign with dots
pub dots_shifts : (n : ℕ) (t : Lexeme) (k : ℕ) → dots_in (sign_at (Some t)) ≡ suc k → Shifts t (left (some_dots 0) (Dotted (n + suc k))) (left (some_dots 0) (Dotted n))
dots_shifts n t k h = record { intro = λ ts m rest d. into t k h d; inv = λ ts m rest d e. (out t k h d e, e); stop = λ m o e. e; up = λ m f. f; down = λ m f. f }
  where
    into : {m : ℕ} {ts rest : List Lexeme} (t : Lexeme) (k : ℕ) → dots_in (sign_at (Some t)) ≡ suc k → Dotted (n + suc k) ts m rest → Dotted n (t ∷ ts) m rest
    into {m} {ts} {rest} (sign l (mark Dot)) k h d = let e : k ≡ 0 = omega (arith, h) in dot (subst (λ u. Dotted (n + suc u) ts m rest) e d)
    into {m} {ts} {rest} (sign l (singleton Ellipsis)) k h d = let e : k ≡ 2 = omega (arith, h) in dots (subst (λ u. Dotted (n + suc u) ts m rest) e d)
    into _ k h d = absurd (omega (arith, h))

    out : {m : ℕ} {ts rest : List Lexeme} (t : Lexeme) (k : ℕ) → dots_in (sign_at (Some t)) ≡ suc k → Dotted n (t ∷ ts) m rest → dots_in (sign_at (next_of rest)) ≡ 0 → Dotted (n + suc k) ts m rest
    out t k h no_dot e = absurd (omega (arith, h, e))
    out {m} {ts} {rest} (sign l (mark Dot)) k h (dot d) e = let g : 0 ≡ k = omega (arith, h) in subst (λ u. Dotted (n + suc u) ts m rest) g d
    out {m} {ts} {rest} (sign l (singleton Ellipsis)) k h (dots d) e = let g : 2 ≡ k = omega (arith, h) in subst (λ u. Dotted (n + suc u) ts m rest) g d

pub dots_end : (n : ℕ) (ts : List Lexeme) → dots_in (sign_at (next_of ts)) ≡ 0 → Found (left (some_dots 0) (Dotted n)) ts n ts
dots_end n ts h = nothing_found (left (some_dots 0) (Dotted n)) ts n (λ more. no_dot) h tt (λ more a m rest d e. out a d)
  where
    no1 : suc 0 ≡ 0 → ⊥
    no1 e = cc

    no3 : suc 2 ≡ 0 → ⊥
    no3 e = cc

    out : {m : ℕ} {more rest : List Lexeme} → Alike more ts → Dotted n more m rest → (m ≡ n) × (rest ≡ more)
    out a no_dot = (refl, refl)
    out (inl e) (dot d) = absurd (no1 (ap (λ o. dots_in (sign_at o)) e ∙ h))
    out (inl e) (dots d) = absurd (no3 (ap (λ o. dots_in (sign_at o)) e ∙ h))
    out (inr e) (dot d) = cc
    out (inr e) (dots d) = cc

name_first : {x : Name} {ts rest : List Lexeme} → Identifier ts x rest → sign_at (next_of ts) ≡ None
name_first identifier = refl

some_none : {s : Sign} → Some s ≡ None → ⊥
some_none h = cc

-- no sign is a name
pub name_no_sign : {l : ℕ} {s : Sign} {x : Name} {ts rest : List Lexeme} → Identifier (sign l s ∷ ts) x rest → ⊥
name_no_sign i = some_none (name_first i)

-- "*"
pub star_shifts : (l : ℕ) → Shifts (sign l (Operator (Plain Mul))) (ending (λ xs. Unit {0}) (Is None)) imported
star_shifts l = record { intro = λ ts xs rest i. into i; inv = λ ts xs rest k n. (out k, n); stop = λ xs o n. n; up = λ xs f. f; down = λ xs f. f }
  where
    into : {ts rest : List Lexeme} {xs : Option (List Alias)} → Is None ts xs rest → Imported (sign l (Operator (Plain Mul)) ∷ ts) xs rest
    into is = star

    out : {ts rest : List Lexeme} {xs : Option (List Alias)} → Imported (sign l (Operator (Plain Mul)) ∷ ts) xs rest → Is None ts xs rest
    out star = is
    out (listed (a, mid, (x, mid2, i, k), m)) = absurd (name_no_sign i)

-- "(" imps [ "," ] ")"
abbrev pub Enclosed : Reads (Option (List Alias))
Enclosed = Then an_enclosure.reads (λ xs. Is (Some xs))

pub open_shifts : (l : ℕ) → Shifts (sign l (mark Open)) (ending (λ xs. Unit {0}) Enclosed) imported
open_shifts l = record { intro = λ ts xs rest k. into k; inv = λ ts xs rest k n. (out k, n); stop = λ xs o n. n; up = λ xs f. f; down = λ xs f. f }
  where
    into : {ts rest : List Lexeme} {xs : Option (List Alias)} → Enclosed ts xs rest → Imported (sign l (mark Open) ∷ ts) xs rest
    into (ys, mid, k, is) = enclosed k

    out : {ts rest : List Lexeme} {xs : Option (List Alias)} → Imported (sign l (mark Open) ∷ ts) xs rest → Enclosed ts xs rest
    out (enclosed k) = (_, _, k, is)
    out (listed (a, mid, (x, mid2, i, k), m)) = absurd (name_no_sign i)

each_alias : (xs : List Alias) → Each an_alias.fits xs
each_alias [] = tt
each_alias (x ∷ xs) = (tt, each_alias xs)

pub enclosure_binds : Binds an_enclosure (λ xs. Is (Some xs)) (ending (λ xs. Unit {0}) Enclosed)
enclosure_binds = chain imported an_enclosure (λ xs. Is (Some xs)) record {
  apart = λ xs mid y rest k n. tt;
  down = λ xs mid y rest k f. each_alias xs;
  ready = λ over xs f. ready_is (λ ys. Unit {0}) over (Some xs) (within_all (λ ys. Unit {0}) over (Some xs) tt);
}

-- imps
abbrev pub Listed : Reads (Option (List Alias))
Listed = Then (a_list an_alias).reads (λ xs. Is (Some xs))

pub listed_narrows : (ts : List Lexeme) → sign_at (next_of ts) ≢ Some (Operator (Plain Mul)) → sign_at (next_of ts) ≢ Some (mark Open) → Narrows ts (ending (λ xs. Unit {0}) Listed) imported
listed_narrows ts m n = record { into = λ more xs rest k. into k; out = λ more xs rest a k e. (out (not_sign ts a m) (not_sign ts a n) k, e); stop = λ xs o e. e; up = λ xs f. f; down = λ xs f. f }
  where
    into : {more rest : List Lexeme} {xs : Option (List Alias)} → Listed more xs rest → Imported more xs rest
    into (ys, mid, k, is) = listed k

    out : {more rest : List Lexeme} {xs : Option (List Alias)} → sign_at (next_of more) ≢ Some (Operator (Plain Mul)) → sign_at (next_of more) ≢ Some (mark Open)
        → Imported more xs rest → Listed more xs rest
    out a b star = absurd (a refl)
    out a b (listed k) = (_, _, k, is)
    out a b (enclosed k) = absurd (b refl)

pub listed_some : Binds (a_list an_alias) (λ xs. Is (Some xs)) (ending (λ xs. Unit {0}) Listed)
listed_some = chain imported (a_list an_alias) (λ xs. Is (Some xs)) record {
  apart = λ xs mid y rest k n. apart k n;
  down = λ xs mid y rest k f. tt;
  ready = λ over xs f. ready_is (λ ys. Unit {0}) over (Some xs) (within_all (λ ys. Unit {0}) over (Some xs) tt);
}
  where
    apart : {xs : List Alias} {ts rest : List Lexeme} {y : Option (List Alias)} → Is (Some xs) ts y rest → IsEnd (next_of rest) → IsEnd (next_of ts)
    apart is n = n

-- where neither a star nor a parenthesis was taken
pub listed_carries : {ts mid rest : List Lexeme} → (sign_at (next_of ts) ≢ Some (Operator (Plain Mul))) × (mid ≡ ts) → (sign_at (next_of mid) ≢ Some (mark Open)) × (rest ≡ mid)
    → Carries imported ts (ending (λ xs. Unit {0}) Listed) rest
listed_carries {ts} m n = subst (λ u. Carries imported ts (ending (λ xs. Unit {0}) Listed) u) (sym (n.1 ∙ m.1))
    (narrow_carries (listed_narrows ts m.0 (subst (λ u. sign_at (next_of u) ≢ Some (mark Open)) m.1 n.0)))
