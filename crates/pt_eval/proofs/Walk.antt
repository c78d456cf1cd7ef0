-- Where the parts of lists run other code, as code walks them.
use Rattle.std.proofs.Common.{◌≡◌, ℕ, List, [], ◌∷◌, ◌++◌, Option, Some, None, refl, ap}
use Rattle.std.specs.Option.{option_or}
use Rattle.pt_tree.specs.declared.expression.Argument.TheOpen as node
use Rattle.pt_tree.specs.declared.expression.Comparison.{Comparison}
use Rattle.pt_tree.specs.declared.expression.Entry.{Entry}
use Rattle.pt_tree.specs.declared.expression.Piece.{Piece}
use Rattle.pt_tree.specs.Syntax as S
use Rattle.pt_tree.specs.Syntax.{Entries, Links, Pieces}
use Rattle.pt_tree.specs.Fold.{Piece-P, entry_of, exp_of, link_of, piece_of, piece_plain}
use Rattle.pt_tree.proofs.Folds.{opened-Piece, entry_of-parts, link_of-parts, piece_of-is}
use Rattle.pt_heap.specs.declared.value.Value.{Value}
use Rattle.pt_heap.specs.declared.object.Object.{Object}
use Rattle.pt_heap.specs.declared.view.Binding.{Binding}
use Rattle.pt_eval.specs.Steps.{and_then}
use Rattle.pt_eval.specs.Evaluation.{text_of, texts_of}
use Rattle.pt_eval.specs.Purity.{run_in, run_in_entries, run_in_links, run_in_pieces}

pub or-assoc : (a b c : Option ℕ) → option_or (option_or a b) c ≡ option_or a (option_or b c)
or-assoc None b c = refl
or-assoc (Some l) b c = refl

pub or-none : (a : Option ℕ) → option_or a None ≡ a
or-none None = refl
or-none (Some l) = refl

piece-first : (p : Piece-P) (r : Pieces) → run_in_pieces (piece_plain p r) ≡ option_or (run_in_pieces (piece_plain p S.no_pieces)) (run_in_pieces r)
piece-first (node.Literal l t) r = refl
piece-first (node.Field l e c spec) r = simp (or-assoc, or-none)

pub pieces-first : (p : Piece) (r : Pieces) → run_in_pieces (piece_of p r) ≡ option_or (run_in_pieces (piece_of p S.no_pieces)) (run_in_pieces r)
pieces-first p r = rw (piece_of-is p) (piece-first (opened-Piece p) r)

pub entries-first : (e : Entry) (r : Entries) → run_in_entries (entry_of e r) ≡ option_or (run_in (exp_of e.key)) (option_or (run_in (exp_of e.value)) (run_in_entries r))
entries-first e r = ap run_in_entries (entry_of-parts e r)

pub links-first : (c : Comparison) (r : Links) → run_in_links (link_of c r) ≡ option_or (run_in (exp_of c.right)) (run_in_links r)
links-first c r = ap run_in_links (link_of-parts c r)

-- the texts of parts, one behind the other
module _ (locals globals : List Binding) where
  piece-next : (p : Piece-P) (r : Pieces) (ts : List Value) (h : List Object)
      → texts_of locals globals (piece_plain p r) ts h ≡ and_then (text_of locals globals (piece_plain p S.no_pieces) h) (λ t. texts_of locals globals r (ts ++ t ∷ []))
  piece-next (node.Literal l t) r ts h = refl
  piece-next (node.Field l e c spec) r ts h = refl

  pub pieces-next : (p : Piece) (r : Pieces) (ts : List Value) (h : List Object)
      → texts_of locals globals (piece_of p r) ts h ≡ and_then (text_of locals globals (piece_of p S.no_pieces) h) (λ t. texts_of locals globals r (ts ++ t ∷ []))
  pieces-next p r ts h = rw (piece_of-is p) (piece-next (opened-Piece p) r ts h)
