-- Texts one behind the other, and the limits of parts of strings.
use Rattle.std.proofs.Common.{◌≡◌, ◌≢◌, ℕ, max, List, [], ◌∷◌, ◌++◌, refl, ap, append_assoc, append-nil, arith}
use Rattle.pt_tree.specs.Fold.{chained}
use Rattle.pt_wide.specs.Syntax as S
use Rattle.pt_wide.specs.Syntax.{Pieces}
use Rattle.pt_wide.specs.Measure.{depth_pieces, width_pieces}
use Rattle.pt_grammar.specs.Nodes.{OnePiece, text, field, text_before, pieces_of, all_text}
use Rattle.pt_grammar.specs.Joining.{NoText}

pub chained_snoc : {A : Type 0} (r : A) (fs : List (A → A)) (f : A → A) → chained r (fs ++ (f ∷ [])) ≡ chained (f r) fs
chained_snoc r [] f = refl
chained_snoc r (g ∷ fs) f = ap g (chained_snoc r fs f)

pub texts_join : (l m : ℕ) (t u : List ℕ) (r : Pieces) → text_before l t (text_before m u r) ≡ text_before l (t ++ u) r
texts_join l m t u (S.literal k v r) = rw append_assoc refl
texts_join l m t [] S.no_pieces = rw append-nil refl
texts_join l m [] (c ∷ u) S.no_pieces = refl
texts_join l m (d ∷ t) (c ∷ u) S.no_pieces = refl
texts_join l m t [] (S.field k e c s r) = rw append-nil refl
texts_join l m [] (c ∷ u) (S.field k e b s r) = refl
texts_join l m (d ∷ t) (c ∷ u) (S.field k e b s r) = refl

-- where no text follows
pub no_text_left : (l : ℕ) (r : List OnePiece) → NoText r → text_before l [] (pieces_of r) ≡ pieces_of r
no_text_left l [] n = refl
no_text_left l (text m t ∷ r) n = absurd n
no_text_left l (field m e c s ∷ r) n = refl

pub text_left : (l : ℕ) (t : List ℕ) (r : List OnePiece) → NoText r → t ≢ [] → text_before l t (pieces_of r) ≡ S.literal l t (pieces_of r)
text_left l [] r n h = absurd (h refl)
text_left l (c ∷ t) [] n h = refl
text_left l (c ∷ t) (text m u ∷ r) n h = absurd n
text_left l (c ∷ t) (field m e d s ∷ r) n h = refl

depth_text : (l : ℕ) (t : List ℕ) (r : Pieces) → depth_pieces (text_before l t r) ≡ depth_pieces r
depth_text l t (S.literal m u r) = refl
depth_text l [] S.no_pieces = refl
depth_text l (c ∷ t) S.no_pieces = refl
depth_text l [] (S.field m e d s r) = refl
depth_text l (c ∷ t) (S.field m e d s r) = refl

pub depth_pieces_snoc : (ps : List OnePiece) (p : OnePiece) → depth_pieces (pieces_of (ps ++ (p ∷ []))) ≡ max (depth_pieces (pieces_of ps)) (depth_pieces (pieces_of (p ∷ [])))
depth_pieces_snoc [] p = omega arith
depth_pieces_snoc (text l t ∷ ps) p = omega (arith, depth_pieces_snoc ps p, depth_text l t (pieces_of (ps ++ (p ∷ []))), depth_text l t (pieces_of ps))
depth_pieces_snoc (field l e c s ∷ ps) p = omega (arith, depth_pieces_snoc ps p)

width_text : (l : ℕ) (t : List ℕ) (r : Pieces) → width_pieces (text_before l t r) ≡ width_pieces r
width_text l t (S.literal m u r) = refl
width_text l [] S.no_pieces = refl
width_text l (c ∷ t) S.no_pieces = refl
width_text l [] (S.field m e d s r) = refl
width_text l (c ∷ t) (S.field m e d s r) = refl

pub width_pieces_snoc : (ps : List OnePiece) (p : OnePiece) → width_pieces (pieces_of (ps ++ (p ∷ []))) ≡ max (width_pieces (pieces_of ps)) (width_pieces (pieces_of (p ∷ [])))
width_pieces_snoc [] p = omega arith
width_pieces_snoc (text l t ∷ ps) p = omega (arith, width_pieces_snoc ps p, width_text l t (pieces_of (ps ++ (p ∷ []))), width_text l t (pieces_of ps))
width_pieces_snoc (field l e c s ∷ ps) p = omega (arith, width_pieces_snoc ps p)

-- text alone is no node
pub depth_of_text : (l : ℕ) (t : List ℕ) → depth_pieces (pieces_of (text l t ∷ [])) ≡ 0
depth_of_text l t = depth_text l t S.no_pieces

pub width_of_text : (l : ℕ) (t : List ℕ) → width_pieces (pieces_of (text l t ∷ [])) ≡ 0
width_of_text l t = width_text l t S.no_pieces

pub text_snoc : (ps : List OnePiece) (p : OnePiece) → all_text (ps ++ (p ∷ [])) ≡ all_text ps ++ all_text (p ∷ [])
text_snoc [] p = refl
text_snoc (text m u ∷ ps) p = rw (text_snoc ps p, append_assoc) refl
text_snoc (field m e c s ∷ ps) p = text_snoc ps p
