-- How the blocks of lists are put together.
use Rattle.std.proofs.Common.{◌≡◌, List, [], ◌∷◌, ◌++◌, map, refl, append_assoc}
use Rattle.std.proofs.lemmas.List.{append-nil}
use Rattle.pt_tree.specs.declared.expression.Argument.{Argument}
use Rattle.pt_tree.specs.declared.expression.Argument.TheOpen as open_node
use Rattle.pt_tree.specs.declared.expression.Piece.{Piece}
use Rattle.pt_tree.specs.Syntax as S
use Rattle.pt_tree.specs.Syntax.{Name, Exp, Clauses, Pieces, Args}
use Rattle.pt_tree.specs.Fold.{Piece-P, Argument-P, piece_plain, argument_plain, all_of, argument_of, conditions_of, piece_of}
use Rattle.pt_tree.specs.Blocks.{Block, blocks_all, blocks_args, blocks_clauses, blocks_pieces, inside_class}
use Rattle.pt_blocks.specs.Visits.{without_class, behind_blocks}
use Rattle.pt_tree.proofs.Folds.{argument_of-is, opened-Argument, opened-Piece, piece_of-is}

pub blocks_clauses-conditions : (es : List Exp) (cs : Clauses) → blocks_clauses (conditions_of es cs) ≡ blocks_all (all_of es) ++ blocks_clauses cs
blocks_clauses-conditions [] cs = refl
blocks_clauses-conditions (e ∷ es) cs = simp (blocks_clauses-conditions es cs, append_assoc)

piece-first : (p : Piece-P) (r : Pieces) → blocks_pieces (piece_plain p r) ≡ blocks_pieces (piece_plain p S.no_pieces) ++ blocks_pieces r
piece-first (open_node.Literal l t) r = refl
piece-first (open_node.Field l e c ps) r = simp append_assoc

pub blocks_pieces-first : (p : Piece) (r : Pieces) → blocks_pieces (piece_of p r) ≡ blocks_pieces (piece_of p S.no_pieces) ++ blocks_pieces r
blocks_pieces-first p r = rw (piece_of-is p) (piece-first (opened-Piece p) r)

argument-first : (a : Argument-P) (r : Args) → blocks_args (argument_plain a r) ≡ blocks_args (argument_plain a S.no_args) ++ blocks_args r
argument-first (open_node.Positional e) r = simp append_assoc
argument-first (open_node.Named x e) r = simp append_assoc
argument-first (open_node.Spread e) r = simp append_assoc
argument-first (open_node.SpreadNamed e) r = simp append_assoc

pub blocks_args-first : (a : Argument) (r : Args) → blocks_args (argument_of a r) ≡ blocks_args (argument_of a S.no_args) ++ blocks_args r
blocks_args-first a r = rw (argument_of-is a) (argument-first (opened-Argument a) r)

pub behind_blocks-append : {S : Type 0} (f : Block → S → S) (bs cs : List Block) (s : S) → behind_blocks f (bs ++ cs) s ≡ behind_blocks f cs (behind_blocks f bs s)
behind_blocks-append f [] cs s = refl
behind_blocks-append f (b ∷ bs) cs s = behind_blocks-append f bs cs (f (without_class b) s)

-- the class around a block isn't told
pub behind_blocks-inside_class : {S : Type 0} (f : Block → S → S) (x : Name) (bs : List Block) (s : S) → behind_blocks f (map (inside_class x) bs) s ≡ behind_blocks f bs s
behind_blocks-inside_class f x [] s = refl
behind_blocks-inside_class f x (b ∷ bs) s = behind_blocks-inside_class f x bs (f (without_class b) s)

pub ruleset blocks = (append_assoc, append-nil, behind_blocks-append, blocks_clauses-conditions, blocks_pieces-first, blocks_args-first, behind_blocks-inside_class)
