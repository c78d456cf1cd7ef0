-- How parts begin, and the shortest of each.
use Rattle.std.proofs.Common.{◌≡◌, ◌≢◌, ℕ, zero, suc, ◌<◌, List, [], ◌∷◌, Option, Some, None, inl, inr, ◌⊎◌, refl, sym, ◌∙◌, ap, subst, arith}
use Rattle.pt_wide.specs.Syntax as S
use Rattle.pt_wide.specs.Syntax.{Exp}
use Rattle.pt_wide.specs.Measure.{depth_exp}
use Rattle.pt_readers.specs.Reading.{next_of, Alike}
use Rattle.pt_grammar.specs.declared.sign.Sign.{Sign}
use Rattle.pt_grammar.specs.declared.sign.Sign.TheVariants.{Singleton as singleton, Mark as mark, Word as word, Layout as layout}
use Rattle.pt_grammar.specs.declared.sign.Mark.TheVariants.{Open, OpenBracket, OpenBrace}
use Rattle.pt_grammar.specs.declared.sign.Word.TheVariants.{Not, Lambda}
use Rattle.pt_grammar.specs.declared.sign.Layout.TheVariants.{FStart}
use Rattle.pt_grammar.specs.Lexemes.{Lexeme, name, int, str, sign}
use Rattle.pt_grammar.specs.Signs.{unary_at}
use Rattle.pt_grammar.specs.Grammar.{Expr, expr, no_choice, Disjunction, disjunction, disjoined_end, Conjunction, conjunction, conjoined_end, Negation, comparison, Comparisons, comparisons, compared_end, Binary, factor, binary, operated_end, Factor, unary, no_unary, Power, power, not_raised, Primary, primary, trailed_end, Atom, a_name, an_int, a_string, an_f_string, a_singleton, in_parentheses, no_tuple, a_generator, no_list, a_list, a_list_comprehension, no_dict, a_dict, a_dict_comprehension, a_set, a_set_comprehension, not_so, lambda}
use Rattle.pt_grammar.specs.Parts.{Fits}

-- a name, with which each part can be read
abbrev pub some_name : Lexeme
some_name = name 0 []

abbrev pub some_exp : Exp
some_exp = S.name 0 []

pub fits_name : (d : ℕ) → 0 < d → Fits d some_exp
fits_name d h = (omega arith, omega arith)

pub depth_some : (e : Exp) → 0 < depth_exp e
depth_some (S.parenthesized l e) = depth_some e
depth_some (S.starred l e) = depth_some e
depth_some _ = omega arith

pub name_atom : {z : List Lexeme} → Atom (some_name ∷ z) some_exp z
name_atom = a_name

pub name_primary : {z : List Lexeme} → Primary (some_name ∷ z) some_exp z
name_primary = primary a_name trailed_end

pub name_power : {z : List Lexeme} → Power (some_name ∷ z) some_exp z
name_power = power name_primary not_raised

pub name_factor : {z : List Lexeme} → Factor (some_name ∷ z) some_exp z
name_factor = no_unary name_power

pub name_binary : (n : ℕ) {z : List Lexeme} → Binary n (some_name ∷ z) some_exp z
name_binary zero = factor name_factor
name_binary (suc n) = binary (name_binary n) operated_end

pub name_comparisons : {z : List Lexeme} → Comparisons (some_name ∷ z) some_exp z
name_comparisons = comparisons (name_binary 6) compared_end

pub name_negation : {z : List Lexeme} → Negation (some_name ∷ z) some_exp z
name_negation = comparison name_comparisons

pub name_conjunction : {z : List Lexeme} → Conjunction (some_name ∷ z) some_exp z
name_conjunction = conjunction name_negation conjoined_end

pub name_disjunction : {z : List Lexeme} → Disjunction (some_name ∷ z) some_exp z
name_disjunction = disjunction name_conjunction disjoined_end

pub name_expr : {z : List Lexeme} → Expr (some_name ∷ z) some_exp z
name_expr = expr name_disjunction no_choice

abbrev pub BeginsAtomSign : Sign → Type 0
BeginsAtomSign (singleton k) = Unit {0}
BeginsAtomSign (mark Open) = Unit {0}
BeginsAtomSign (mark OpenBracket) = Unit {0}
BeginsAtomSign (mark OpenBrace) = Unit {0}
BeginsAtomSign (layout FStart) = Unit {0}
BeginsAtomSign _ = ⊥

abbrev pub BeginsAtom : Option Lexeme → Type 0
BeginsAtom (Some (name l x)) = Unit {0}
BeginsAtom (Some (int l n)) = Unit {0}
BeginsAtom (Some (str l x)) = Unit {0}
BeginsAtom (Some (sign l s)) = BeginsAtomSign s
BeginsAtom _ = ⊥

abbrev pub BeginsFactor : Option Lexeme → Type 0
BeginsFactor next = BeginsAtom next ⊎ (unary_at next ≢ None)

pub atom_begins : {ts rest : List Lexeme} {e : Exp} → Atom ts e rest → BeginsAtom (next_of ts)
atom_begins a_name = tt
atom_begins an_int = tt
atom_begins a_singleton = tt
atom_begins (a_string q) = tt
atom_begins (an_f_string p q) = tt
atom_begins (in_parentheses e) = tt
atom_begins no_tuple = tt
atom_begins (a_generator e c) = tt
atom_begins no_list = tt
atom_begins (a_list e) = tt
atom_begins (a_list_comprehension e c) = tt
atom_begins no_dict = tt
atom_begins (a_dict e) = tt
atom_begins (a_dict_comprehension e c) = tt
atom_begins (a_set e) = tt
atom_begins (a_set_comprehension e c) = tt

pub primary_begins : {ts rest : List Lexeme} {e : Exp} → Primary ts e rest → BeginsAtom (next_of ts)
primary_begins (primary a k) = atom_begins a

pub power_begins : {ts rest : List Lexeme} {e : Exp} → Power ts e rest → BeginsAtom (next_of ts)
power_begins (power a r) = primary_begins a

pub factor_begins : {ts rest : List Lexeme} {e : Exp} → Factor ts e rest → BeginsFactor (next_of ts)
factor_begins (unary {o = o} h f) = inr (λ e. let k : Some o ≡ None = sym h ∙ e in cc)
factor_begins (no_unary p) = inl (power_begins p)

pub binary_begins : {n : ℕ} {ts rest : List Lexeme} {e : Exp} → Binary n ts e rest → BeginsFactor (next_of ts)
binary_begins (factor f) = factor_begins f
binary_begins (binary a k) = binary_begins a

pub comparisons_begin : {ts rest : List Lexeme} {e : Exp} → Comparisons ts e rest → BeginsFactor (next_of ts)
comparisons_begin (comparisons a k) = binary_begins a

-- what begins an atom does nothing before a value
pub atom_not_unary : (next : Option Lexeme) → BeginsAtom next → unary_at next ≡ None
atom_not_unary (Some (sign l (singleton k))) b = refl
atom_not_unary (Some (sign l (mark Open))) b = refl
atom_not_unary (Some (sign l (mark OpenBracket))) b = refl
atom_not_unary (Some (sign l (mark OpenBrace))) b = refl
atom_not_unary (Some (sign l (layout FStart))) b = refl
atom_not_unary (Some (sign l _)) b = absurd b
atom_not_unary _ b = refl

pub not_no_factor : (l : ℕ) → BeginsFactor (Some (sign l (word Not))) → ⊥
not_no_factor l (inl b) = b
not_no_factor l (inr n) = n refl

-- how a part begins that looks alike
pub alike_begins : (F : Option Lexeme → Type 0) → (F None → ⊥) → (more ts : List Lexeme) → Alike more ts → F (next_of more) → F (next_of ts)
alike_begins F n more ts (inl e) b = subst F e b
alike_begins F n more ts (inr e) b = absurd (n (subst F (ap next_of e) b))

pub negation_begins : {ts rest : List Lexeme} {e : Exp} → Negation ts e rest → BeginsFactor (next_of ts) ⊎ ((l : ℕ) × (next_of ts ≡ Some (sign l (word Not))))
negation_begins (not_so {l = l} k) = inr (l, refl)
negation_begins (comparison k) = inl (comparisons_begin k)

pub disjunction_begins : {ts rest : List Lexeme} {e : Exp} → Disjunction ts e rest → BeginsFactor (next_of ts) ⊎ ((l : ℕ) × (next_of ts ≡ Some (sign l (word Not))))
disjunction_begins (disjunction (conjunction k a) b) = negation_begins k

abbrev pub BeginsExpr : Option Lexeme → Type 0
BeginsExpr next = (BeginsFactor next ⊎ ((l : ℕ) × (next ≡ Some (sign l (word Not))))) ⊎ ((l : ℕ) × (next ≡ Some (sign l (word Lambda))))

pub expr_begins : {ts rest : List Lexeme} {e : Exp} → Expr ts e rest → BeginsExpr (next_of ts)
expr_begins (expr k c) = inl (disjunction_begins k)
expr_begins (lambda {l = l} p k) = inr (l, refl)
