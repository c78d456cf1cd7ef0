-- How the acts of lists are put together.
use Rattle.std.proofs.Common.{◌≡◌, ℕ, ◌<◌, ◌≤◌, List, [], ◌∷◌, ◌++◌, length, map, refl, sym, ap, append_assoc, ◌∙◌, arith, ◌+◌, ◌-◌, get_or, take}
use Rattle.std.proofs.lemmas.Grind.{take_at_read}
use Rattle.std.specs.Prelude.{Result, OnOk, Some, None, true, slice_get, slice_set}
use Rattle.std.proofs.lemmas.Option.{slice_get_past}
use Rattle.std.proofs.Math.Seq.{set-append_seam}
use Rattle.pt_tree.specs.declared.statement.Decorator.{Decorator}
use Rattle.pt_tree.specs.declared.statement.WithItem.{WithItem}
use Rattle.pt_tree.specs.StatementFold.{decorators_of, items_of}
use Rattle.std.proofs.lemmas.List.{append-nil}
use Rattle.std.proofs.lemmas.Result.{on_ok_weaker}
use Rattle.pt_tree.specs.declared.act.ActRow.{ActRow}
use Rattle.pt_tree.specs.declared.act.ActKind.TheVariants as A
use Rattle.pt_tree.specs.Syntax as S
use Rattle.pt_tree.specs.Syntax.{Exp, Clauses, Pieces, Args, Items}
use Rattle.pt_tree.specs.declared.expression.Argument.{Argument}
use Rattle.pt_tree.specs.declared.expression.Argument.TheOpen as open_node
use Rattle.pt_tree.specs.declared.expression.Piece.{Piece}
use Rattle.pt_tree.proofs.Folds.{piece_of-is, opened-Piece, argument_of-is, opened-Argument}
use Rattle.pt_tree.specs.Fold.{Piece-P, Argument-P, piece_plain, argument_plain, piece_of, argument_of, conditions_of, chained}
use Rattle.pt_tree.specs.Acts.{act, acts_join, acts_args, acts_clauses, acts_decorator_calls, again, acts_items, acts_pieces}
use Rattle.pt_acts.specs.Parts.{acts_conditions, acts_entered, acts_left}

pub acts_clauses-conditions : (l : ℕ) (es : List Exp) (cs : Clauses) → acts_clauses l (conditions_of es cs) ≡ acts_conditions l es ++ acts_clauses l cs
acts_clauses-conditions l [] cs = refl
acts_clauses-conditions l (e ∷ es) cs = simp (acts_clauses-conditions l es cs, append_assoc)

-- what is put behind the rows that are there
pub put_behind : {T E : Type 0} (r : Result T E) (new old all rows : List ActRow) → OnOk r (new ≡ old ++ rows) → old ++ rows ≡ all → OnOk r (new ≡ all)
put_behind r new old all rows put is = on_ok_weaker {Q = new ≡ all} r (λ (e : new ≡ old ++ rows). e ∙ is) put

piece-first : (p : Piece-P) (r : Pieces) → acts_pieces (piece_plain p r) ≡ acts_pieces (piece_plain p S.no_pieces) ++ acts_pieces r
piece-first (open_node.Literal l t) r = refl
piece-first (open_node.Field l e c ps) r = simp append_assoc

-- a part and those behind it
pub acts_pieces-first : (p : Piece) (r : Pieces) → acts_pieces (piece_of p r) ≡ acts_pieces (piece_of p S.no_pieces) ++ acts_pieces r
acts_pieces-first p r = rw (piece_of-is p) (piece-first (opened-Piece p) r)

argument-first : (l : ℕ) (a : Argument-P) (r : Args) → acts_args l (argument_plain a r) ≡ acts_args l (argument_plain a S.no_args) ++ acts_args l r
argument-first l (open_node.Positional e) r = simp append_assoc
argument-first l (open_node.Named x e) r = simp append_assoc
argument-first l (open_node.Spread e) r = simp append_assoc
argument-first l (open_node.SpreadNamed e) r = simp append_assoc

pub acts_args-first : (l : ℕ) (a : Argument) (r : Args) → acts_args l (argument_of a r) ≡ acts_args l (argument_of a S.no_args) ++ acts_args l r
acts_args-first l a r = rw (argument_of-is a) (argument-first l (opened-Argument a) r)

join-one : (l : ℕ) (p : Piece-P) → acts_join l (piece_plain p S.no_pieces) ≡ []
join-one l (open_node.Literal k t) = refl
join-one l (open_node.Field k e c ps) = refl

join-more : (l : ℕ) (p q : Piece-P) (r : Pieces) → acts_join l (piece_plain p (piece_plain q r)) ≡ act A.Join l
join-more l (open_node.Literal k t) (open_node.Literal k2 t2) r = refl
join-more l (open_node.Literal k t) (open_node.Field k2 e2 c2 ps2) r = refl
join-more l (open_node.Field k e c ps) (open_node.Literal k2 t2) r = refl
join-more l (open_node.Field k e c ps) (open_node.Field k2 e2 c2 ps2) r = refl

pub join-several : (l : ℕ) (ps : List Piece) → 1 < length ps → acts_join l (chained S.no_pieces (map piece_of ps)) ≡ act A.Join l
join-several l [] many = absurd (omega arith)
join-several l (p ∷ []) many = absurd (omega arith)
join-several l (p ∷ q ∷ ps) many = rw (piece_of-is p, piece_of-is q) (join-more l (opened-Piece p) (opened-Piece q) (chained S.no_pieces (map piece_of ps)))

pub join-single : (l : ℕ) (ps : List Piece) → length ps ≤ 1 → acts_join l (chained S.no_pieces (map piece_of ps)) ≡ []
join-single l [] few = refl
join-single l (p ∷ []) few = rw (piece_of-is p) (join-one l (opened-Piece p))
join-single l (p ∷ q ∷ ps) few = absurd (omega arith)

pub ruleset joins = (join-several, join-single, append-nil)

pub ruleset rows = (append_assoc, append-nil, acts_clauses-conditions, acts_pieces-first, acts_args-first)

pub acts_items-parts : (is : Items) (k : List ActRow) → acts_items is k ≡ acts_entered is ++ k ++ acts_left is
acts_items-parts S.no_items k = sym (append-nil k)
acts_items-parts (S.with_item l e t is) k = simp (acts_items-parts is k, append_assoc)

pub ruleset statements = (append_assoc, append-nil, acts_items-parts)

row-at : (before : List ActRow) (r : ActRow) (rs : List ActRow) → slice_get (before ++ r ∷ rs) (length before) ≡ Some r
row-at [] r rs = refl
row-at (b ∷ bs) r rs = row-at bs r rs

none-at : (before : List ActRow) → slice_get (before ++ []) (length before) ≡ None
none-at before = rw (append-nil before) (slice_get_past before (length before) (omega arith))

marked-at : (before test : List ActRow) (row : ActRow) → Some row ≡ slice_get (before ++ test) (length before) → slice_set (before ++ test) (length before) (record { kind = row.kind; line = row.line; again = true }) ≡ before ++ again test
marked-at before [] row is = let none : slice_get (before ++ []) (length before) ≡ None = none-at before in absurd (cc)
marked-at before (r ∷ rs) row is = let same : row ≡ r = (let found : slice_get (before ++ r ∷ rs) (length before) ≡ Some r = row-at before r rs in cc) in rw same (set-append_seam before r rs _)

-- the first row of a test is marked
pub marked : (rows before test : List ActRow) (at : ℕ) (row : ActRow) → rows ≡ before ++ test → at ≡ length before → Some row ≡ slice_get rows at → slice_set rows at (record { kind = row.kind; line = row.line; again = true }) ≡ before ++ again test
marked rows before test at row is place found = rw (is, place) (marked-at before test row (rw (is, place) at found))

pub not-marked : (rows before test : List ActRow) (at : ℕ) → rows ≡ before ++ test → at ≡ length before → None ≡ slice_get rows at → rows ≡ before ++ again test
not-marked rows before [] at is place none = is
not-marked rows before (r ∷ rs) at is place none = let found : slice_get (before ++ r ∷ rs) (length before) ≡ Some r = row-at before r rs in absurd (cc)

pub acts_decorator_calls-last : (ds : List Decorator) (d : Decorator) → acts_decorator_calls (decorators_of (ds ++ d ∷ [])) ≡ act A.Call d.line.0 ++ acts_decorator_calls (decorators_of ds)
acts_decorator_calls-last [] d = refl
acts_decorator_calls-last (e ∷ ds) d = rw (acts_decorator_calls-last ds d) refl

pub acts_left-last : (is : List WithItem) (i : WithItem) → acts_left (items_of (is ++ i ∷ [])) ≡ act A.Exit i.line.0 ++ acts_left (items_of is)
acts_left-last [] i = refl
acts_left-last (j ∷ is) i = rw (acts_left-last is i) refl

-- the last of the first `n` items
pub decorator-taken : (ds : List Decorator) (n : ℕ) (d : Decorator) → 0 < n → n ≤ length ds → d ≡ get_or ds (n - 1) d → acts_decorator_calls (decorators_of (take n ds)) ≡ act A.Call d.line.0 ++ acts_decorator_calls (decorators_of (take (n - 1) ds))
decorator-taken ds n d some within at_n =
    let step : n ≡ (n - 1) + 1 = omega arith in
    let cut : take ((n - 1) + 1) ds ≡ take (n - 1) ds ++ get_or ds (n - 1) d ∷ [] = (take_at_read ds (n - 1) d (omega arith)).1 in
    ap (λ (k : ℕ). acts_decorator_calls (decorators_of (take k ds))) step ∙ ap (λ (ys : List Decorator). acts_decorator_calls (decorators_of ys)) cut ∙ ap (λ (y : Decorator). acts_decorator_calls (decorators_of (take (n - 1) ds ++ y ∷ []))) (sym at_n) ∙ acts_decorator_calls-last (take (n - 1) ds) d

pub item-taken : (is : List WithItem) (n : ℕ) (i : WithItem) → 0 < n → n ≤ length is → i ≡ get_or is (n - 1) i → acts_left (items_of (take n is)) ≡ act A.Exit i.line.0 ++ acts_left (items_of (take (n - 1) is))
item-taken is n i some within at_n =
    let step : n ≡ (n - 1) + 1 = omega arith in
    let cut : take ((n - 1) + 1) is ≡ take (n - 1) is ++ get_or is (n - 1) i ∷ [] = (take_at_read is (n - 1) i (omega arith)).1 in
    ap (λ (k : ℕ). acts_left (items_of (take k is))) step ∙ ap (λ (ys : List WithItem). acts_left (items_of ys)) cut ∙ ap (λ (y : WithItem). acts_left (items_of (take (n - 1) is ++ y ∷ []))) (sym at_n) ∙ acts_left-last (take (n - 1) is) i
