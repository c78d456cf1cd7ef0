-- The outlines of statements and of scripts tell their blocks, their first Nexts and their sizes.
use Rattle.std.proofs.Common.{◌≡◌, ℕ, ◌+◌, Bool, true, false, cond, List, [], ◌∷◌, ◌++◌, length, map, refl, ap, sym, ◌∙◌, append_assoc, arith, if◌then◌else◌}
use Rattle.std.specs.Prelude.{Option, None, Some, codes}
use Rattle.std.proofs.lemmas.List.{append-nil}
use Rattle.sem_names.specs.declared.block_shape.BlockShape.{BlockShape}
use Rattle.sem_names.specs.Nexts.{behind_items, nexts_body, nexts_branches, nexts_decorators, nexts_handlers, nexts_items, nexts_opt, nexts_opt_target, nexts_params, nexts_script, nexts_stm, nexts_stms}
use Rattle.sem_names.specs.Script.{shape_in}
use Rattle.pt_block_shapes.specs.outliner.Outline.{Part, ◌⨾◌, acts, behind, beginning, inside, nothing}
use Rattle.pt_block_shapes.specs.outliner.Parts.{item_count, outline_body, outline_branches, outline_handlers, outline_items, outline_opt_target, outline_script, outline_stm, outline_stms, unless_docstring}
use Rattle.pt_block_shapes.proofs.outliner.ExpressionLaws.{tells-all_deleted, tells-decorators, tells-exp, tells-opt, tells-params, tells-place, tells-target, tells-targets}
use Rattle.pt_block_shapes.proofs.outliner.Tells.{Tells, before_acts, behind_acts, both, ending, first, four, listing, no_part, not_evaluated, numbering, one_block, some_acts, three, within}
use Rattle.pt_tree.specs.Blocks.{Block, blocks_branches, blocks_handlers, blocks_items, blocks_opt_target, blocks_place, blocks_script, blocks_stm, blocks_stms, first_line_of, first_statement, inside_class, is_text, no_params, of_class, of_function, of_module}
use Rattle.pt_tree.specs.Sizes.{branches_size, decorator_calls, decorators_size, handlers_size, items_size, opt_target_size, size, stm_size, stms_size, stored_by}
use Rattle.pt_tree.specs.Syntax as S
use Rattle.pt_tree.specs.Syntax.{Branches, Decorators, Handlers, Items, Name, Opt, Params, Stm, Stms, Tgt}

-- acts behind the first of three parts
three_acts : {c : Name} {f g h : Part} {bs cs ds : List Block} {ns ms ls : ℕ → List (Option ℕ)} {e d b : ℕ → ℕ} (k : ℕ) → Tells c f bs ns e → Tells c g cs ms d
    → Tells c h ds ls b
    → Tells c (f ⨾ acts k ⨾ g ⨾ h) (bs ++ cs ++ ds) (λ n. ns n ++ ms (e n + k) ++ ls (d (e n + k))) (λ n. b (d (e n + k)))
three_acts {c} {f} {g} {h} {bs} {cs} {ds} {ns} {ms} {ls} {e} {d} {b} k one other third =
    listing
    (numbering (both one (behind_acts k (both other third))) (λ n. sym (append_assoc (ns n) (ms (e n + k)) (ls (d (e n + k))))))
    (sym (append_assoc bs cs ds))

handled : {c : Name} {f g h : Part} {bs cs ds : List Block} {ns ms ls : ℕ → List (Option ℕ)} {e d b : ℕ → ℕ} (k : ℕ) → Tells c f bs ns e → Tells c g cs ms d
    → Tells c h ds ls b
    → Tells c (f ⨾ acts 1 ⨾ acts k ⨾ g ⨾ h) (bs ++ cs ++ ds) (λ n. ns n ++ ms (e n + 1 + k) ++ ls (d (e n + 1 + k))) (λ n. b (d (e n + 1 + k)))
handled {c} {f} {g} {h} {bs} {cs} {ds} {ns} {ms} {ls} {e} {d} {b} k one other third =
    listing
    (numbering (both one (behind_acts 1 (behind_acts k (both other third)))) (λ n. sym (append_assoc (ns n) (ms (e n + 1 + k)) (ls (d (e n + 1 + k))))))
    (sym (append_assoc bs cs ds))

tells-opt_target : (c : Name) (t : Option Tgt) → Tells c (outline_opt_target c t) (blocks_opt_target t) (nexts_opt_target t) (λ n. n + opt_target_size t)
tells-opt_target c None = ending no_part (λ n. omega arith)
tells-opt_target c (Some t) = tells-target true c t

tells-items : (c : Name) (is : Items) → Tells c (outline_items c is) (blocks_items is) (nexts_items is) (λ n. behind_items is n)
tells-items c S.no_items = no_part
tells-items c (S.with_item l e t r) = three_acts 1 (tells-exp true c e) (tells-opt_target c t) (tells-items c r)

-- the acts of a `with`: those of its items and of its body, and an exit for each item
with-size : (is : Items) (n k : ℕ) → behind_items is n + k + item_count is ≡ n + items_size is k
with-size S.no_items n k = omega arith
with-size (S.with_item l e t r) n k = let rest = with-size r (n + size e + 1 + opt_target_size t) k in omega arith

with-tells : (c : Name) (is : Items) (body : Stms) (l : ℕ) → Tells c (outline_stms c body) (blocks_stms body) (nexts_stms body) (λ n. n + stms_size body)
    → Tells c (outline_stm c (S.with l is body)) (blocks_stm (S.with l is body)) (nexts_stm (S.with l is body)) (λ n. n + stm_size (S.with l is body))
with-tells c is body l told = ending (both (tells-items c is) (before_acts (item_count is) told)) (λ n. with-size is n (stms_size body))

before_acts_twice : {c : Name} {f : Part} {bs : List Block} {ns : ℕ → List (Option ℕ)} {e : ℕ → ℕ} (k : ℕ) → Tells c f bs ns e
    → Tells c (f ⨾ acts k ⨾ acts 2) bs ns (λ n. e n + k + 2)
before_acts_twice {c} {f} {bs} {ns} {e} k told =
    listing (numbering (both told (behind_acts k (some_acts 2))) (λ n. append-nil (ns n))) (append-nil bs)

def-tells : (c : Name) (ds : Decorators) (dl b : ℕ) (x : Name) (ps : Params) (r : Opt) (body : Stms) (l : ℕ)
    → Tells c (inside 0 (outline_body c body)) (blocks_stms body) (λ n. nexts_body body) (λ n. n)
    → Tells c (outline_stm c (S.def l ds dl b x ps r body)) (blocks_stm (S.def l ds dl b x ps r body)) (nexts_stm (S.def l ds dl b x ps r body))
    (λ n. n + stm_size (S.def l ds dl b x ps r body))
def-tells c ds dl b x ps r body l told =
    ending
    (numbering
    (four (tells-decorators c ds) (one_block (record { name = x; first_line = first_line_of ds dl; class = None; params = ps; code = of_function body }))
    (tells-params true c ps) (before_acts_twice (decorator_calls ds) told))
    (λ n. ap (λ (ns : List (Option ℕ)). ns ++ nexts_body body) (append_assoc (nexts_decorators ds n) (None ∷ []) (nexts_params true ps (n + decorators_size ds)))))
    (λ n. omega arith)

-- a class is around its own body
class-around : (c x : Name) (bs : List Block) → map (shape_in c) (map (inside_class x) bs) ≡ map (shape_in x) bs
class-around c x [] = refl
class-around c x (b ∷ bs) = ap (λ (ss : List BlockShape). shape_in x b ∷ ss) (class-around c x bs)

in_class : (c x : Name) {f : Part} {bs : List Block} {ns : ℕ → List (Option ℕ)} {e : ℕ → ℕ} → Tells x f bs ns e → Tells c f (map (inside_class x) bs) ns e
in_class c x {f} {bs} {ns} {e} told = record {
  at = λ n. told.at n ∙ ap (λ (ss : List BlockShape). record { blocks = ss; nexts = ns n; act = e n }) (sym (class-around c x bs));
}

class-tells : (c : Name) (ds : Decorators) (cl b : ℕ) (x : Name) (base : Opt) (body : Stms) (l : ℕ)
    → Tells x (outline_stms x body) (blocks_stms body) (nexts_stms body) (λ n. n + stms_size body)
    → Tells c (outline_stm c (S.class l ds cl b x base body)) (blocks_stm (S.class l ds cl b x base body)) (nexts_stm (S.class l ds cl b x base body))
    (λ n. n + stm_size (S.class l ds cl b x base body))
class-tells c ds cl b x base body l told =
    ending
    (numbering
    (four (tells-decorators c ds) (one_block (record { name = x; first_line = first_line_of ds cl; class = Some x; params = no_params; code = of_class body }))
    (tells-opt true c base) (before_acts_twice (decorator_calls ds) (within 0 (in_class c x told))))
    (λ n. ap (λ (ns : List (Option ℕ)). ns ++ nexts_stms body 0) (append_assoc (nexts_decorators ds n) (None ∷ []) (nexts_opt true base (n + decorators_size ds)))))
    (λ n. omega arith)

none-before : (k : ℕ) → 0 + k ≡ k
none-before k = omega arith

-- a documentation string has no acts where it is the first statement of a function
first-tells : (c : Name) (s : Stm) → Tells c (outline_stm c s) (blocks_stm s) (nexts_stm s) (λ n. n + stm_size s)
    → Tells c (unless_docstring s (outline_stm c s)) (blocks_stm s) (nexts_stm s) (λ n. n + stm_size (first_statement s))
first-tells c (S.expr l (S.constant k t)) told = by (is_text t)
  where
    by : (b : Bool) → Tells c (if b then nothing else outline_stm c (S.expr l (S.constant k t))) [] (λ n. [])
        (λ n. n + stm_size (cond b (S.docstring l) (S.expr l (S.constant k t))))
    by true = ending no_part (λ n. omega arith)
    by false = told
first-tells c s told = told

mutual
  pub tells-stm : (c : Name) (s : Stm) → Tells c (outline_stm c s) (blocks_stm s) (nexts_stm s) (λ n. n + stm_size s)
  tells-stm c (S.expr l e) = ending (before_acts 1 (tells-exp true c e)) (λ n. omega arith)
  tells-stm c (S.assign l ts e) = ending (first (tells-exp true c e) (tells-targets true c ts)) (λ n. omega arith)
  tells-stm c (S.augmented l p o e) = ending (both (tells-place true c p) (before_acts 2 (tells-exp true c e))) (λ n. omega arith)
  tells-stm c (S.annotated l p a S.absent) = listing (ending (before_acts 1 (not_evaluated (tells-place false c p))) (λ n. omega arith)) (sym (append-nil (blocks_place p)))
  tells-stm c (S.annotated l p a (S.given e)) = ending (first (tells-exp true c e) (tells-place true c p)) (λ n. omega arith)
  tells-stm c (S.assert l e m) = ending (both (tells-exp true c e) (behind_acts 1 (before_acts 1 (tells-opt true c m)))) (λ n. omega arith)
  tells-stm c (S.pass l) = some_acts 1
  tells-stm c (S.del l ts) = tells-all_deleted c ts
  tells-stm c (S.return l v) = ending (before_acts 1 (tells-opt true c v)) (λ n. omega arith)
  tells-stm c (S.raise l e f) = ending (both (tells-exp true c e) (before_acts 1 (tells-opt true c f))) (λ n. omega arith)
  tells-stm c (S.raise_again l) = some_acts 1
  tells-stm c (S.break l) = some_acts 1
  tells-stm c (S.continue l) = some_acts 1
  tells-stm c (S.import l xs) = ending (behind_acts (length xs) (some_acts (length xs))) (λ n. omega arith)
  tells-stm c (S.import_from l m xs) = ending (behind_acts 1 (behind_acts (length xs) (some_acts (length xs)))) (λ n. omega arith)
  tells-stm c (S.global l xs) = ending no_part (λ n. omega arith)
  tells-stm c (S.nonlocal l xs) = ending no_part (λ n. omega arith)
  tells-stm c (S.choice l bs els) = ending (both (tells-branches c bs) (tells-stms c els)) (λ n. omega arith)
  tells-stm c (S.while l e body els) = ending (three_acts 1 (tells-exp true c e) (tells-stms c body) (tells-stms c els)) (λ n. omega arith)
  tells-stm c (S.for l t it body els) = ending (three (first (before_acts 2 (tells-exp true c it)) (tells-target true c t)) (tells-stms c body) (tells-stms c els)) (λ n. omega arith)
  tells-stm c (S.try l body hs els fin) = ending (behind_acts 1 (four (tells-stms c body) (tells-handlers c hs) (tells-stms c els) (tells-stms c fin))) (λ n. omega arith)
  tells-stm c (S.with l is body) = with-tells c is body l (tells-stms c body)
  tells-stm c (S.def l ds dl b x ps r body) = def-tells c ds dl b x ps r body l (tells-body c body)
  tells-stm c (S.class l ds cl b x base body) = class-tells c ds cl b x base body l (tells-stms x body)
  tells-stm c (S.docstring l) = ending no_part (λ n. omega arith)

  pub tells-stms : (c : Name) (ss : Stms) → Tells c (outline_stms c ss) (blocks_stms ss) (nexts_stms ss) (λ n. n + stms_size ss)
  tells-stms c S.none = ending no_part (λ n. omega arith)
  tells-stms c (S.more s ss) = ending (both (tells-stm c s) (tells-stms c ss)) (λ n. omega arith)

  pub tells-branches : (c : Name) (bs : Branches) → Tells c (outline_branches c bs) (blocks_branches bs) (nexts_branches bs) (λ n. n + branches_size bs)
  tells-branches c S.no_branches = ending no_part (λ n. omega arith)
  tells-branches c (S.branch l e body r) = ending (three_acts 1 (tells-exp true c e) (tells-stms c body) (tells-branches c r)) (λ n. omega arith)

  pub tells-handlers : (c : Name) (hs : Handlers) → Tells c (outline_handlers c hs) (blocks_handlers hs) (nexts_handlers hs) (λ n. n + handlers_size hs)
  tells-handlers c S.no_handlers = ending no_part (λ n. omega arith)
  tells-handlers c (S.handler l e x body r) = ending (handled (stored_by x) (tells-opt true c e) (tells-stms c body) (tells-handlers c r)) (λ n. omega arith)

  tells-body : (c : Name) (ss : Stms) → Tells c (inside 0 (outline_body c ss)) (blocks_stms ss) (λ n. nexts_body ss) (λ n. n)
  tells-body c S.none = within 0 no_part
  tells-body c (S.more s ss) =
      numbering (within 0 (both (first-tells c s (tells-stm c s)) (tells-stms c ss))) (λ n. ap (λ (k : ℕ). nexts_stm s 0 ++ nexts_stms ss k) (none-before (stm_size (first_statement s))))

-- the module is the first block
pub script-tells : (ss : Stms) → outline_script ss ≡ record { blocks = map (shape_in []) (blocks_script ss); nexts = nexts_script ss; act = stms_size ss }
unfolding behind beginning
script-tells ss =
    let told = both (one_block (record { name = codes "<module>"; first_line = 1; class = None; params = no_params; code = of_module ss })) (tells-stms [] ss) in
    told.at 0 ∙ ap (λ (k : ℕ). record { blocks = map (shape_in []) (blocks_script ss); nexts = nexts_script ss; act = k }) (none-before (stms_size ss))
