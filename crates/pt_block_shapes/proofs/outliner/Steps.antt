-- What has been met behind each part of a script.
use Rattle.std.proofs.Common.{◌≡◌, ℕ, ◌+◌, ◌<◌, ◌≤◌, Bool, true, false, if◌then◌else◌, List, [], ◌∷◌, ◌++◌, length, map, refl, ap, sym, ◌∙◌, append_assoc, arith}
use Rattle.std.specs.Prelude.{None, OnOk, Result}
use Rattle.std.proofs.lemmas.List.{append-nil}
use Rattle.std.proofs.lemmas.Result.{on_ok_weaker}
use Rattle.sem_names.specs.declared.block_shape.BlockShape.{BlockShape}
use Rattle.sem_names.specs.Nexts.{next_if}
use Rattle.pt_block_shapes.specs.outliner.Outline.{Outline, Part, ◌⨾◌, a_block, a_comprehension, acts, behind, beginning, evaluated_first, in_comprehension, in_generator, inside, listed, nothing, numbered, unevaluated}
use Rattle.pt_block_shapes.specs.outliner.Parts.{item_count, outline_body, outline_clauses, outline_conditions, outline_exp, outline_stm, outline_stms, unless_docstring}
use Rattle.pt_block_shapes.specs.outliner.Docstrings.{is_docstring}
use Rattle.pt_tree.specs.declared.expression.Piece.{Piece}
use Rattle.pt_tree.specs.declared.expression.Argument.TheOpen as open_node
use Rattle.pt_tree.specs.declared.statement.Decorator.{Decorator}
use Rattle.pt_tree.specs.declared.statement.WithItem.{WithItem}
use Rattle.pt_tree.proofs.Folds.{opened-Piece, piece_of-is}
use Rattle.pt_tree.specs.Fold.{Piece-P, chained, conditions_of, piece_of, piece_plain}
use Rattle.pt_tree.specs.Sizes.{decorator_calls, joins}
use Rattle.pt_tree.specs.StatementFold.{decorators_of, items_of}
use Rattle.pt_tree.specs.Syntax as S
use Rattle.pt_tree.specs.Syntax.{Clauses, Exp, Name, Pieces, Stm, Stms}

pub behind-nothing : (o : Outline) → behind o nothing ≡ o
unfolding behind nothing beginning
behind-nothing o = λ i. record { blocks = append-nil o.blocks i; nexts = append-nil o.nexts i; act = o.act }

pub behind-both : (o : Outline) (f g : Part) → behind o (f ⨾ g) ≡ behind (behind o f) g
unfolding behind ◌⨾◌
behind-both o f g =
    let p = f o.act in
    let q = g p.act in
    sym (λ i. record { blocks = append_assoc o.blocks p.blocks q.blocks i; nexts = append_assoc o.nexts p.nexts q.nexts i; act = q.act })

pub behind-first : (o : Outline) (f g : Part)
    → behind o (evaluated_first f g) ≡ listed (behind (numbered o (behind (beginning o.act) f).act) g) (behind (beginning o.act) f)
unfolding behind evaluated_first listed numbered beginning
behind-first o f g =
    let p = f o.act in
    let q = g p.act in
    sym (λ i. record { blocks = append_assoc o.blocks q.blocks p.blocks i; nexts = append_assoc o.nexts q.nexts p.nexts i; act = q.act })

pub behind-inside : (o : Outline) (m : ℕ) (f : Part) → behind o (inside m f) ≡ numbered (behind (numbered o m) f) o.act
unfolding behind inside numbered
behind-inside o m f = refl

pub behind-unevaluated : (o : Outline) (f : Part) → behind o (unevaluated f) ≡ numbered (behind o f) o.act
unfolding behind unevaluated numbered
behind-unevaluated o f = refl

pub behind-no_acts : (o : Outline) → behind o (acts 0) ≡ o
unfolding behind acts beginning
behind-no_acts o =
    let none : o.act + 0 ≡ o.act = omega arith in
    λ i. record { blocks = append-nil o.blocks i; nexts = append-nil o.nexts i; act = none i }

pub behind-conditions : (u : Bool) (c : Name) (es : List Exp) (cs : Clauses) (o : Outline)
    → behind o (outline_clauses u c (conditions_of es cs)) ≡ behind (behind o (outline_conditions u c es)) (outline_clauses u c cs)
behind-conditions u c [] cs o = ap (λ (p : Outline). behind p (outline_clauses u c cs)) (sym (behind-nothing o))
behind-conditions u c (e ∷ es) cs o =
    behind-both o (outline_exp u c e) (acts 1 ⨾ outline_clauses u c (conditions_of es cs))
    ∙ behind-both (behind o (outline_exp u c e)) (acts 1) (outline_clauses u c (conditions_of es cs))
    ∙ behind-conditions u c es cs (behind (behind o (outline_exp u c e)) (acts 1))
    ∙ ap (λ (p : Outline). behind p (outline_clauses u c cs))
    (sym (behind-both o (outline_exp u c e) (acts 1 ⨾ outline_conditions u c es) ∙ behind-both (behind o (outline_exp u c e)) (acts 1) (outline_conditions u c es)))

-- what is put together in code

pub beginning-is : (n : ℕ) → beginning n ≡ record { blocks = []; nexts = []; act = n }
unfolding beginning
beginning-is n = refl

pub beginning-act : (n : ℕ) → (beginning n).act ≡ n
unfolding beginning
beginning-act n = refl

pub numbered-is : (o : Outline) (n : ℕ) → numbered o n ≡ record { blocks = o.blocks; nexts = o.nexts; act = n }
unfolding numbered
numbered-is o n = refl

pub listed-is : (o p : Outline) → listed o p ≡ record { blocks = o.blocks ++ p.blocks; nexts = o.nexts ++ p.nexts; act = o.act }
unfolding listed
listed-is o p = refl

pub behind-acts : (o : Outline) (k : ℕ) → behind o (acts k) ≡ record { blocks = o.blocks; nexts = o.nexts; act = o.act + k }
unfolding behind acts beginning
behind-acts o k = λ i. record { blocks = append-nil o.blocks i; nexts = append-nil o.nexts i; act = o.act + k }

pub behind-block : (o : Outline) (b : BlockShape) → behind o (a_block b) ≡ record { blocks = o.blocks ++ b ∷ []; nexts = o.nexts ++ None ∷ []; act = o.act }
unfolding behind a_block
behind-block o b = refl

pub behind-region : (o : Outline) (u : Bool) (m : ℕ) → behind o (a_comprehension u m) ≡ record { blocks = o.blocks; nexts = o.nexts ++ next_if u m ∷ []; act = o.act }
unfolding behind a_comprehension
behind-region o u m = λ i. record { blocks = append-nil o.blocks i; nexts = o.nexts ++ next_if u m ∷ []; act = o.act }

pub ruleset steps = (beginning-is, numbered-is, listed-is, behind-acts, behind-block, behind-region)

-- comprehensions and generator expressions, of which the parts are aside

all-listed : {A : Type 0} (o x m t i c : List A) → o ++ ((((x ++ m) ++ t) ++ i) ++ c) ≡ ((((o ++ x) ++ m) ++ t) ++ i) ++ c
all-listed o x m t i c = simp append_assoc

behind-beginning : (n : ℕ) (f : Part) → behind (beginning n) f ≡ f n
unfolding behind beginning
behind-beginning n f = refl

comprehension-is : (o : Outline) (u : Bool) (f g h k : Part) (i t c m : Outline) → i ≡ (f ⨾ acts 2) o.act → t ≡ g (i.act + 1) → c ≡ h t.act → m ≡ k c.act
    → numbered (listed (listed (listed (listed (behind o (a_comprehension u i.act)) m) t) i) c) m.act ≡ behind o (in_comprehension u f g h k)
unfolding behind listed numbered a_comprehension in_comprehension
comprehension-is o u f g h k i t c m is_i is_t is_c is_m =
    let at_t = is_t ∙ ap (λ (p : Outline). g (p.act + 1)) is_i in
    let at_c = is_c ∙ ap (λ (p : Outline). h p.act) at_t in
    let at_m = is_m ∙ ap (λ (p : Outline). k p.act) at_c in
    (λ j. numbered (listed (listed (listed (listed (behind o (a_comprehension u (is_i j).act)) (at_m j)) (at_t j)) (is_i j)) (at_c j)) (at_m j).act)
    ∙ (λ j.
    let i = (f ⨾ acts 2) o.act in
    let t = g (i.act + 1) in
    let c = h t.act in
    let m = k c.act in
    record {
      blocks = sym (all-listed o.blocks [] m.blocks t.blocks i.blocks c.blocks) j;
      nexts = sym (all-listed o.nexts (next_if u i.act ∷ []) m.nexts t.nexts i.nexts c.nexts) j;
      act = m.act;
    })

generator-is : (o : Outline) (b : BlockShape) (f g h k : Part) (i t c m : Outline) → i ≡ (f ⨾ acts 2) o.act → t ≡ g 1 → c ≡ h t.act → m ≡ k c.act
    → numbered (listed (listed (listed (listed (behind o (a_block b)) m) t) i) c) i.act ≡ behind o (in_generator b f g h k)
unfolding behind listed numbered a_block in_generator
generator-is o b f g h k i t c m is_i is_t is_c is_m =
    let at_c = is_c ∙ ap (λ (p : Outline). h p.act) is_t in
    let at_m = is_m ∙ ap (λ (p : Outline). k p.act) at_c in
    (λ j. numbered (listed (listed (listed (listed (behind o (a_block b)) (at_m j)) (is_t j)) (is_i j)) (at_c j)) (is_i j).act)
    ∙ (λ j.
    let i = (f ⨾ acts 2) o.act in
    let t = g 1 in
    let c = h t.act in
    let m = k c.act in
    record {
      blocks = sym (all-listed o.blocks (b ∷ []) m.blocks t.blocks i.blocks c.blocks) j;
      nexts = sym (all-listed o.nexts (None ∷ []) m.nexts t.nexts i.nexts c.nexts) j;
      act = i.act;
    })

pub comprehension-told : (o p : Outline) (u : Bool) (f g h k : Part) (i t c m : Outline) → i ≡ behind (beginning o.act) (f ⨾ acts 2)
    → t ≡ behind (beginning (i.act + 1)) g → c ≡ behind (beginning t.act) h → m ≡ behind (beginning c.act) k
    → p ≡ numbered (listed (listed (listed (listed (behind o (a_comprehension u i.act)) m) t) i) c) m.act
    → p ≡ behind o (in_comprehension u f g h k)
comprehension-told o p u f g h k i t c m is_i is_t is_c is_m is =
    is
    ∙ comprehension-is o u f g h k i t c m (is_i ∙ behind-beginning o.act (f ⨾ acts 2)) (is_t ∙ behind-beginning (i.act + 1) g) (is_c ∙ behind-beginning t.act h)
    (is_m ∙ behind-beginning c.act k)

pub generator-told : (o p : Outline) (b : BlockShape) (f g h k : Part) (i t c m : Outline) → i ≡ behind (beginning o.act) (f ⨾ acts 2)
    → t ≡ behind (beginning 1) g → c ≡ behind (beginning t.act) h → m ≡ behind (beginning c.act) k
    → p ≡ numbered (listed (listed (listed (listed (behind o (a_block b)) m) t) i) c) i.act
    → p ≡ behind o (in_generator b f g h k)
generator-told o p b f g h k i t c m is_i is_t is_c is_m is =
    is
    ∙ generator-is o b f g h k i t c m (is_i ∙ behind-beginning o.act (f ⨾ acts 2)) (is_t ∙ behind-beginning 1 g) (is_c ∙ behind-beginning t.act h)
    (is_m ∙ behind-beginning c.act k)

-- a part that is evaluated first is aside
pub first-told : (o p q r : Outline) (f g : Part) (n : ℕ) → p ≡ behind (beginning o.act) f → n ≡ p.act → q ≡ behind (numbered o n) g → r ≡ listed q p
    → r ≡ behind o (evaluated_first f g)
first-told o p q r f g n is_p is_n is_q is_r =
    is_r
    ∙ ap (λ (s : Outline). listed s p) is_q
    ∙ ap (λ (k : ℕ). listed (behind (numbered o k) g) p) is_n
    ∙ ap (λ (s : Outline). listed (behind (numbered o s.act) g) s) is_p
    ∙ sym (behind-first o f g)

pub ruleset parts = (behind-nothing, behind-both, behind-first, behind-inside, behind-unevaluated, behind-no_acts, behind-conditions)

-- what a call puts behind where it succeeds is the whole
pub put : {T E : Type 0} (r : Result T E) (new mid all : Outline) → OnOk r (new ≡ mid) → mid ≡ all → OnOk r (new ≡ all)
put r new mid all told same = on_ok_weaker {Q = new ≡ all} r (λ (e : new ≡ mid). e ∙ same) told

pub clauses-told : (u : Bool) (c : Name) (es : List Exp) (cs : Clauses) (n : ℕ) (tests all : Outline) → tests ≡ behind (beginning n) (outline_conditions u c es)
    → all ≡ behind tests (outline_clauses u c cs) → all ≡ behind (beginning n) (outline_clauses u c (conditions_of es cs))
clauses-told u c es cs n tests all is_t is_a =
    is_a ∙ ap (λ (o : Outline). behind o (outline_clauses u c cs)) is_t ∙ sym (behind-conditions u c es cs (beginning n))

-- the body of a function

pub body-docstring : (o : Outline) (c : Name) (s : Stm) (ss : Stms) → true ≡ is_docstring s → behind o (outline_body c (S.more s ss)) ≡ behind o (outline_stms c ss)
body-docstring o c s ss is =
    behind-both o (unless_docstring s (outline_stm c s)) (outline_stms c ss)
    ∙ ap (λ (b : Bool). behind (behind o (if b then nothing else outline_stm c s)) (outline_stms c ss)) (sym is)
    ∙ ap (λ (p : Outline). behind p (outline_stms c ss)) (behind-nothing o)

pub body-other : (o : Outline) (c : Name) (s : Stm) (ss : Stms) → false ≡ is_docstring s
    → behind o (outline_body c (S.more s ss)) ≡ behind o (outline_stms c (S.more s ss))
body-other o c s ss is =
    behind-both o (unless_docstring s (outline_stm c s)) (outline_stms c ss)
    ∙ ap (λ (b : Bool). behind (behind o (if b then nothing else outline_stm c s)) (outline_stms c ss)) (sym is)
    ∙ sym (behind-both o (outline_stm c s) (outline_stms c ss))

-- the acts at the end of decorators, and of a `with`

pub decorators-counted : (ds : List Decorator) → length ds ≡ decorator_calls (decorators_of ds)
decorators-counted [] = refl
decorators-counted (d ∷ ds) = let rest = decorators-counted ds in omega arith

pub items-counted : (is : List WithItem) → length is ≡ item_count (items_of is)
items-counted [] = refl
items-counted (i ∷ is) = let rest = items-counted is in omega arith

join-one : (p : Piece-P) → joins (piece_plain p S.no_pieces) ≡ 0
join-one (open_node.Literal k t) = refl
join-one (open_node.Field k e c ps) = refl

join-more : (p q : Piece-P) (r : Pieces) → joins (piece_plain p (piece_plain q r)) ≡ 1
join-more (open_node.Literal k t) (open_node.Literal k2 t2) r = refl
join-more (open_node.Literal k t) (open_node.Field k2 e2 c2 ps2) r = refl
join-more (open_node.Field k e c ps) (open_node.Literal k2 t2) r = refl
join-more (open_node.Field k e c ps) (open_node.Field k2 e2 c2 ps2) r = refl

pub join-several : (ps : List Piece) → 1 < length ps → joins (chained S.no_pieces (map piece_of ps)) ≡ 1
join-several [] many = absurd (omega arith)
join-several (p ∷ []) many = absurd (omega arith)
join-several (p ∷ q ∷ ps) many = rw (piece_of-is p, piece_of-is q) (join-more (opened-Piece p) (opened-Piece q) (chained S.no_pieces (map piece_of ps)))

pub join-single : (ps : List Piece) → length ps ≤ 1 → joins (chained S.no_pieces (map piece_of ps)) ≡ 0
join-single [] few = refl
join-single (p ∷ []) few = rw (piece_of-is p) (join-one (opened-Piece p))
join-single (p ∷ q ∷ ps) few = absurd (omega arith)

pub ruleset joined = (join-several, join-single, behind-no_acts)
