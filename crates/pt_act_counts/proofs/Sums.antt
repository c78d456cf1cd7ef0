-- Sizes of parts that stand in front of others.
use Rattle.std.proofs.Common.{◌≡◌, ◌∙◌, ℕ, ◌+◌, ◌<◌, ◌≤◌, List, [], ◌∷◌, length, map, refl, ap, arith}
use Rattle.pt_tree.specs.declared.expression.Argument.{Argument}
use Rattle.pt_tree.specs.declared.expression.Piece.{Piece}
use Rattle.pt_tree.specs.declared.expression.Argument.TheOpen as open_node
use Rattle.pt_tree.specs.Syntax as S
use Rattle.pt_tree.specs.Syntax.{Exp, Opt, Place, Pieces, Args, Clauses, Items}
use Rattle.pt_tree.specs.Fold.{Argument-P, Piece-P, argument_of, argument_plain, chained, conditions_of, piece_of, piece_plain}
use Rattle.pt_tree.specs.Sizes.{args_size, clauses_size, items_size, joins, pieces_size, size, stm_size}
use Rattle.pt_tree.proofs.Folds.{argument_of-is, opened-Argument, piece_of-is, opened-Piece, clause_of-parts}
use Rattle.pt_act_counts.specs.Parts.{annotated_size, conditions_size}

pub conditions-first : (es : List Exp) (cs : Clauses) → clauses_size (conditions_of es cs) ≡ conditions_size es + clauses_size cs
conditions-first [] cs = omega arith
conditions-first (e ∷ es) cs = ap (λ n. size e + 1 + n) (conditions-first es cs) ∙ omega arith

argument-plain : (a : Argument-P) (r : Args) → args_size (argument_plain a r) ≡ args_size (argument_plain a S.no_args) + args_size r
argument-plain (open_node.Positional e) r = omega arith
argument-plain (open_node.Named x e) r = omega arith
argument-plain (open_node.Spread e) r = omega arith
argument-plain (open_node.SpreadNamed e) r = omega arith

pub argument-first : (a : Argument) (r : Args) → args_size (argument_of a r) ≡ args_size (argument_of a S.no_args) + args_size r
argument-first a r = rw (argument_of-is a) (argument-plain (opened-Argument a) r)

piece-plain : (p : Piece-P) (r : Pieces) → pieces_size (piece_plain p r) ≡ pieces_size (piece_plain p S.no_pieces) + pieces_size r
piece-plain (open_node.Literal l t) r = omega arith
piece-plain (open_node.Field l e c ps) r = omega arith

pub piece-first : (p : Piece) (r : Pieces) → pieces_size (piece_of p r) ≡ pieces_size (piece_of p S.no_pieces) + pieces_size r
piece-first p r = rw (piece_of-is p) (piece-plain (opened-Piece p) r)

join-one : (p : Piece-P) → joins (piece_plain p S.no_pieces) ≡ 0
join-one (open_node.Literal l t) = refl
join-one (open_node.Field l e c ps) = refl

join-more : (p q : Piece-P) (r : Pieces) → joins (piece_plain p (piece_plain q r)) ≡ 1
join-more (open_node.Literal l t) (open_node.Literal m u) r = refl
join-more (open_node.Literal l t) (open_node.Field m d k qs) r = refl
join-more (open_node.Field l e c ps) (open_node.Literal m u) r = refl
join-more (open_node.Field l e c ps) (open_node.Field m d k qs) r = refl

pub joins-several : (ps : List Piece) → 1 < length ps → joins (chained S.no_pieces (map piece_of ps)) ≡ 1
joins-several [] many = absurd (omega arith)
joins-several (p ∷ []) many = absurd (omega arith)
joins-several (p ∷ q ∷ ps) many = rw (piece_of-is p, piece_of-is q) (join-more (opened-Piece p) (opened-Piece q) (chained S.no_pieces (map piece_of ps)))

pub joins-single : (ps : List Piece) → length ps ≤ 1 → joins (chained S.no_pieces (map piece_of ps)) ≡ 0
joins-single [] few = refl
joins-single (p ∷ []) few = rw (piece_of-is p) (join-one (opened-Piece p))
joins-single (p ∷ q ∷ ps) few = absurd (omega arith)

-- what stands inside counts for itself
pub items-around : (is : Items) (k : ℕ) → items_size is k ≡ items_size is 0 + k
items-around S.no_items k = omega arith
items-around (S.with_item l e t is) k =
    let inner : items_size is k ≡ items_size is 0 + k = items-around is k in omega arith

pub annotated-is : (l : ℕ) (p : Place) (a : Exp) (v : Opt) → stm_size (S.annotated l p a v) ≡ annotated_size p v
annotated-is l p a S.absent = refl
annotated-is l p a (S.given e) = refl

pub ruleset clauses = (conditions-first, clause_of-parts)

pub ruleset pieces = (piece-first)

pub ruleset several_joins = (joins-several, joins-single)

pub ruleset arguments = (argument-first)

pub ruleset statements = (items-around, annotated-is)

pub ruleset items = (items-around)
