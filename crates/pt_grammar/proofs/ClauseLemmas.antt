-- Clauses of comprehensions as nodes.
use Rattle.std.proofs.Common.{◌≡◌, List, [], ◌∷◌, ◌++◌, map, reverse, refl, sym, ◌∙◌, ap, append_assoc}
use Rattle.std.proofs.lemmas.List.{reverse-append, reverse-reverse}
use Rattle.pt_tree.specs.Fold.{chained}
use Rattle.pt_wide.specs.declared.expression.WideClause.{WideClause, out-WideClause}
use Rattle.pt_wide.specs.Syntax as S
use Rattle.pt_wide.specs.Fold.{exp_of, all_of, clause_of}
use Rattle.pt_wide.proofs.Folds.{clause_of-parts}
use Rattle.pt_grammar.specs.Nodes.{clauses_of}
use Rattle.pt_grammar.specs.Views.{clauses_in}

pub clauses_same : (cs : List WideClause) → chained S.no_clauses (map clause_of cs) ≡ clauses_of (clauses_in cs)
clauses_same [] = refl
clauses_same (c ∷ cs) = clause_of-parts c _
    ∙ ap (λ r. S.for_each (out-WideClause c).line.0 (exp_of (out-WideClause c).target) (exp_of (out-WideClause c).iterable) (all_of (map exp_of (out-WideClause c).conditions)) r) (clauses_same cs)

-- the first, and those behind it
pub clauses_apart : (c d : WideClause) (cs all : List WideClause) → c ≡ d → d ∷ cs ≡ all → clause_of c (chained S.no_clauses (map clause_of cs)) ≡ clauses_of (clauses_in all)
clauses_apart c d cs all e h = ap (λ u. clause_of u (chained S.no_clauses (map clause_of cs))) e ∙ clauses_same (d ∷ cs) ∙ ap (λ u. clauses_of (clauses_in u)) h

-- one more that is turned
pub turn_one : {A : Type 0} (turned left : List A) (x : A) → turned ++ reverse (left ++ (x ∷ [])) ≡ (turned ++ (x ∷ [])) ++ reverse left
turn_one turned left x = ap (λ u. turned ++ u) (reverse-append left (x ∷ [])) ∙ sym (append_assoc turned (x ∷ []) (reverse left))

pub first_is : {A : Type 0} (all turned left rest : List A) (x : A) → turned ≡ reverse all → turned ≡ left ++ (x ∷ []) → rest ≡ reverse left → x ∷ rest ≡ all
first_is all turned left rest x e h k = ap (λ u. x ∷ u) k ∙ sym (reverse-append left (x ∷ [])) ∙ ap reverse (sym h ∙ e) ∙ reverse-reverse all
