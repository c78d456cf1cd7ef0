-- The first node that isn't supported, of the parts of lists as code walks them.
use Rattle.std.proofs.Common.{◌≡◌, ℕ, List, [], ◌∷◌, Option, Some, None, refl, sym, ap, ◌∙◌}
use Rattle.std.specs.Option.{option_or}
use Rattle.pt_tree.specs.declared.expression.Argument.{Argument}
use Rattle.pt_tree.specs.declared.expression.Argument.TheOpen as node
use Rattle.pt_tree.specs.declared.expression.Comparison.{Comparison}
use Rattle.pt_tree.specs.declared.expression.Entry.{Entry}
use Rattle.pt_tree.specs.declared.expression.Parameter.{Parameter}
use Rattle.pt_tree.specs.declared.expression.Piece.{Piece}
use Rattle.pt_tree.specs.Syntax as S
use Rattle.pt_tree.specs.Syntax.{Args, Clauses, Entries, Exp, Links, Formals, Pieces}
use Rattle.pt_tree.specs.Fold.{Argument-P, ClauseOf, Piece-P, all_of, argument_of, argument_plain, clauses_of, conditions_of, entry_of, exp_of, formal_of, link_of, piece_of, piece_plain}
use Rattle.pt_tree.proofs.Folds.{argument_of-is, opened-Argument, opened-Piece, entry_of-parts, formal_of-parts, link_of-parts, piece_of-is}
use Rattle.pt_supported.specs.Built.{unbuilt_all, unbuilt_args, unbuilt_clauses, unbuilt_entries, unbuilt_exp, unbuilt_formals, unbuilt_links, unbuilt_pieces, unbuilt_target}

pub or-assoc : (a b c : Option ℕ) → option_or (option_or a b) c ≡ option_or a (option_or b c)
or-assoc None b c = refl
or-assoc (Some l) b c = refl

pub or-none : (a : Option ℕ) → option_or a None ≡ a
or-none None = refl
or-none (Some l) = refl

argument-first : (a : Argument-P) (r : Args) → unbuilt_args (argument_plain a r) ≡ option_or (unbuilt_args (argument_plain a S.no_args)) (unbuilt_args r)
argument-first (node.Positional e) r = simp or-none
argument-first (node.Named x e) r = simp or-none
argument-first (node.Spread e) r = simp or-none
argument-first (node.SpreadNamed e) r = simp or-none

pub arguments-first : (a : Argument) (r : Args) → unbuilt_args (argument_of a r) ≡ option_or (unbuilt_args (argument_of a S.no_args)) (unbuilt_args r)
arguments-first a r = rw (argument_of-is a) (argument-first (opened-Argument a) r)

piece-first : (p : Piece-P) (r : Pieces) → unbuilt_pieces (piece_plain p r) ≡ option_or (unbuilt_pieces (piece_plain p S.no_pieces)) (unbuilt_pieces r)
piece-first (node.Literal l t) r = refl
piece-first (node.Field l e c spec) r = simp (or-assoc, or-none)

pub pieces-first : (p : Piece) (r : Pieces) → unbuilt_pieces (piece_of p r) ≡ option_or (unbuilt_pieces (piece_of p S.no_pieces)) (unbuilt_pieces r)
pieces-first p r = rw (piece_of-is p) (piece-first (opened-Piece p) r)

pub entries-first : (e : Entry) (r : Entries)
    → unbuilt_entries (entry_of e r) ≡ option_or (unbuilt_exp (exp_of e.key)) (option_or (unbuilt_exp (exp_of e.value)) (unbuilt_entries r))
entries-first e r = ap unbuilt_entries (entry_of-parts e r)

pub links-first : (c : Comparison) (r : Links) → unbuilt_links (link_of c r) ≡ option_or (unbuilt_exp (exp_of c.right)) (unbuilt_links r)
links-first c r = ap unbuilt_links (link_of-parts c r)

pub formals-first : (p : Parameter) (r : Formals) → unbuilt_formals (formal_of p r) ≡ option_or (unbuilt_formals (formal_of p S.no_formals)) (unbuilt_formals r)
formals-first p r = simp (formal_of-parts p, or-assoc, or-none)

-- the conditions of a clause, and what stands behind them
pub conditions-first : (es : List Exp) (cs : Clauses) → unbuilt_clauses (conditions_of es cs) ≡ option_or (unbuilt_all (all_of es)) (unbuilt_clauses cs)
conditions-first [] cs = refl
conditions-first (e ∷ es) cs =
    ap (option_or (unbuilt_exp e)) (conditions-first es cs) ∙ sym (or-assoc (unbuilt_exp e) (unbuilt_all (all_of es)) (unbuilt_clauses cs))

-- a clause by itself
pub clause-is : (c : ClauseOf)
    → unbuilt_clauses (clauses_of (c ∷ [])) ≡ option_or (unbuilt_target c.target) (option_or (unbuilt_exp c.iterable) (unbuilt_all (all_of c.conditions)))
clause-is c =
    ap (λ o. option_or (unbuilt_target c.target) (option_or (unbuilt_exp c.iterable) o))
    (conditions-first c.conditions S.no_clauses ∙ or-none (unbuilt_all (all_of c.conditions)))

-- and with those behind it
pub clauses-first : (c : ClauseOf) (cs : List ClauseOf)
    → unbuilt_clauses (clauses_of (c ∷ cs)) ≡ option_or (unbuilt_clauses (clauses_of (c ∷ []))) (unbuilt_clauses (clauses_of cs))
clauses-first c cs =
    let t = unbuilt_target c.target in
    let i = unbuilt_exp c.iterable in
    let es = unbuilt_all (all_of c.conditions) in
    let rest = unbuilt_clauses (clauses_of cs) in
    ap (λ o. option_or t (option_or i o)) (conditions-first c.conditions (clauses_of cs))
    ∙ (ap (option_or t) (sym (or-assoc i es rest)) ∙ sym (or-assoc t (option_or i es) rest)) ∙ ap (λ o. option_or o rest) (sym (clause-is c))
