-- Refinement of statements in one pass makes what the definitions of trees and of faults say.
use Rattle.std.proofs.Common.{◌≡◌, ℕ, ◌+◌, zero, suc, Bool, true, false, List, [], ◌∷◌, ◌++◌, append_assoc, sym, ap, Option, Some, None, arith}
use Rattle.std.proofs.lemmas.List.{append-nil}
use Rattle.std.specs.Prelude.{if◌then◌else◌, Result}
use Rattle.pt_tree.specs.declared.statement.Alias.{Alias}
use Rattle.pt_refine_expr.specs.declared.stars.Stars.TheVariants.{Never, Inside}
use Rattle.pt_tree.specs.Syntax as T
use Rattle.pt_wide.specs.Syntax as W
use Rattle.pt_wide.specs.Syntax.{Exp, Exps, Opt, Args, Decorators, Items, Stm, Stms, Branches, Handlers}
use Rattle.pt_refine_expr.specs.Blocks.{blocks_exp, blocks_all, blocks_opt, blocks_args, blocks_params}
use Rattle.pt_refine_expr.specs.StatementBlocks.{blocks_decorators, blocks_items, blocks_stm, blocks_stms, blocks_branches, blocks_handlers}
use Rattle.pt_refine_expr.specs.Faults.{Fault, bad_target, excluded, faults_exp, faults_args, faults_opt, faults_place}
use Rattle.pt_refine_expr.specs.StatementFaults.{args_line, faults_as, faults_assigned, faults_base, faults_branches, faults_decorators, faults_group, faults_handlers, faults_items, faults_origin, faults_stm, faults_stms, is_base}
use Rattle.pt_refine_expr.specs.Narrow.{narrow_place}
use Rattle.pt_refine_expr.specs.StatementNarrow.{narrow_as, narrow_assigned, narrow_base, narrow_branches, narrow_decorators, narrow_from, narrow_handlers, narrow_items, narrow_stm, narrow_stms}
use Rattle.pt_refine_expr.specs.Refine.{refine_exp, refine_opt, refine_params, refine_place}
use Rattle.pt_refine_expr.specs.StatementRefine.{refine_as, refine_assigned, refine_base, refine_branches, refine_decorators, refine_from, refine_handlers, refine_items, refine_stm, refine_stms, where_plain}
use Rattle.pt_refine_expr.specs.StatementRefine as R
use Rattle.pt_refine_expr.specs.Steps.{Step, behind, four, start, stop, three, uncounted}
use Rattle.pt_refine_expr.specs.Targets.{exp_line}
use Rattle.pt_refine_expr.specs.Ways as way
use Rattle.pt_refine_expr.specs.Agreement.{Agrees, whole, faulty}
use Rattle.pt_refine_expr.proofs.Agreement.{agrees-made, agrees-both, agrees-three, agrees-four, agrees-uncounted, counted, listed}
use Rattle.pt_refine_expr.proofs.OnePass.{agrees-exp, agrees-opt, agrees-params, agrees-target, agrees-targets}

pub agrees-place : (n : ℕ) (e : Exp) → Agrees (faults_place e) (narrow_place n e) (n + blocks_exp e) (refine_place e n)
agrees-place n (W.name l x) = counted (whole (T.name_at l x) n) (omega arith)
agrees-place n (W.attribute l a x) = agrees-made (λ o. T.attribute_at l o x) (agrees-exp n a)
agrees-place n (W.item l a i) = counted (agrees-both (T.item_at l) (refine_exp i) (agrees-exp n a) (agrees-exp _ i)) (omega arith)
agrees-place n e = faulty (bad_target (exp_line e)) [] _

agrees-assigned : (n : ℕ) (ts : Exps) → Agrees (faults_assigned ts) (narrow_assigned n ts) (n + blocks_all ts) (refine_assigned ts n)
agrees-assigned n W.no_exps = counted (whole T.no_targets n) (omega arith)
agrees-assigned n (W.more_exps t ts) = counted (agrees-both T.more_targets (refine_assigned ts) (agrees-target n Inside t) (agrees-assigned (n + blocks_exp t) ts)) (omega arith)

agrees-as : (n : ℕ) (t : Opt) → Agrees (faults_as t) (narrow_as n t) (n + blocks_opt t) (refine_as t n)
agrees-as n W.absent = counted (whole None n) (omega arith)
agrees-as n (W.given t) = agrees-made Some (agrees-target n Never t)

agrees-from : (n l dots : ℕ) (m : T.Name) (xs : Option (List Alias)) → Agrees (faults_origin l dots xs) (narrow_from l dots m xs) n (refine_from l dots m xs n)
agrees-from n l zero m None = faulty (excluded l) [] n
agrees-from n l zero m (Some xs) = whole (T.import_from l m xs) n
agrees-from n l (suc d) m xs = faulty (excluded l) [] n

-- a part that may stand, or a fault in its place
agrees-kept : {A : Type 0} {fs : List Fault} {o : Option A} {m n : ℕ} (b : Bool) (f : Fault) (s : Step A) →
    Agrees fs o m (s n) → Agrees ((if b then [] else f ∷ []) ++ fs) (if b then o else None) m ((if b then s else stop f) n)
agrees-kept true f s a = a
agrees-kept {fs = fs} {m = m} false f s a = faulty f fs m

agrees-base : (n : ℕ) (args : Args) (comma : Bool) → Agrees (faults_base args comma ++ faults_args args) (narrow_base n args comma) (n + blocks_args args) (refine_base args comma n)
agrees-base n W.no_args comma = counted (whole T.absent n) (omega arith)
agrees-base n (W.positional e W.no_args) true = faulty (excluded (exp_line e)) (faults_args (W.positional e W.no_args)) _
agrees-base n (W.positional e W.no_args) false = counted (agrees-kept {n = n} (is_base (W.positional e W.no_args) false) (excluded (exp_line e)) (R.only_base (W.positional e W.no_args))
    (listed (agrees-made T.given (agrees-exp n e)) (sym (append-nil (faults_exp e))))) (omega arith)
agrees-base n args comma = faulty (excluded (args_line args)) (faults_args args) _

agrees-decorators : (n : ℕ) (ds : Decorators) → Agrees (faults_decorators ds) (narrow_decorators n ds) (n + blocks_decorators ds) (refine_decorators ds n)
agrees-decorators n W.no_decorators = counted (whole T.no_decorators n) (omega arith)
agrees-decorators n (W.decorator l e r) = counted (agrees-both (T.decorator l) (refine_decorators r) (agrees-exp n e) (agrees-decorators (n + blocks_exp e) r)) (omega arith)

agrees-items : (n : ℕ) (is : Items) → Agrees (faults_items is) (narrow_items n is) (n + blocks_items is) (refine_items is n)
agrees-items n W.no_items = counted (whole T.no_items n) (omega arith)
agrees-items n (W.with_item l e t r) = counted (agrees-three (T.with_item l) (refine_as t) (refine_items r) (agrees-exp n e) (agrees-as _ t) (agrees-items (n + blocks_exp e + blocks_opt t) r)) (omega arith)

agrees-group : {A : Type 0} {o : Option A} {m n : ℕ} (as' bs cs : List Fault) (l : ℕ) (star : Bool) (s : Step A) →
    Agrees (as' ++ bs ++ cs) o m (s n) → Agrees (faults_group l star ++ as' ++ bs ++ cs) (if star then None else o) m (where_plain l star s n)
agrees-group {m = m} as' bs cs l true s a = faulty (excluded l) (as' ++ bs ++ cs) m
agrees-group as' bs cs l false s a = a

-- a part behind whose first a block starts
module _ {A B C D E : Type 0} (f : A → ℕ → B → C → D → E) (t : Step B) (u : Step C) (v : Step D) where
  agrees-started : {fs gs hs is : List Fault} {o : Option A} {p : Option B} {q : Option C} {x : Option D} {m k j i : ℕ} {r : Result (A × ℕ) Fault} →
      Agrees fs o m r → Agrees gs p k (t (1 + m)) → Agrees hs q j (u k) → Agrees is x i (v j) →
      Agrees (fs ++ gs ++ hs ++ is) (way.four (λ a. f a m) o p q x) i (behind (λ a. four (f a) start t u v) r)
  agrees-started (whole a m) w y z = agrees-three (f a m) u v w y z
  agrees-started {gs = gs} {hs = hs} {is = is} {i = i} (faulty e es m) w y z = faulty e (es ++ gs ++ hs ++ is) i

module _ {A B C D : Type 0} (f : A → ℕ → B → C → D) (t : Step B) (u : Step C) where
  agrees-begun : {fs gs hs : List Fault} {o : Option A} {p : Option B} {q : Option C} {m k j : ℕ} {r : Result (A × ℕ) Fault} →
      Agrees fs o m r → Agrees gs p k (t (1 + m)) → Agrees hs q j (u k) →
      Agrees (fs ++ gs ++ hs) (way.three (λ a. f a m) o p q) j (behind (λ a. three (f a) start t u) r)
  agrees-begun (whole a m) w y = agrees-both (f a m) u w y
  agrees-begun {gs = gs} {hs = hs} {j = j} (faulty e es m) w y = faulty e (es ++ gs ++ hs) j

-- the faults of a class with its arguments, which are those of one base
base-inside : (a b c d : List Fault) → a ++ (b ++ c) ++ d ≡ a ++ b ++ c ++ d
base-inside a b c d = ap (λ x. x ++ d) (sym (append_assoc a b c))

mutual
  pub agrees-stm : (n : ℕ) (s : Stm) → Agrees (faults_stm s) (narrow_stm n s) (n + blocks_stm s) (refine_stm s n)
  agrees-stm n (W.assign l W.no_exps e) = counted (agrees-made (T.expr l) (agrees-exp n e)) (omega arith)
  agrees-stm n (W.assign l (W.more_exps t ts) e) = counted (agrees-both (T.assign l) (refine_exp e) (agrees-assigned n (W.more_exps t ts)) (agrees-exp _ e)) (omega arith)
  agrees-stm n (W.augmented l t o e) = counted (agrees-both (λ p. T.augmented l p o) (refine_exp e) (agrees-place n t) (agrees-exp _ e)) (omega arith)
  agrees-stm n (W.annotated l t a v) = counted (agrees-three (T.annotated l) (uncounted (refine_exp a)) (refine_opt v) (agrees-place n t) (agrees-uncounted (n + blocks_exp t) (agrees-exp _ a)) (agrees-opt _ v)) (omega arith)
  agrees-stm n (W.assert l c m) = counted (agrees-both (T.assert l) (refine_opt m) (agrees-exp n c) (agrees-opt _ m)) (omega arith)
  agrees-stm n (W.pass l) = counted (whole (T.pass l) n) (omega arith)
  agrees-stm n (W.del l ts) = agrees-made (T.del l) (agrees-targets n Never ts)
  agrees-stm n (W.return l v) = agrees-made (T.return l) (agrees-opt n v)
  agrees-stm n (W.raise l e c) = counted (agrees-both (T.raise l) (refine_opt c) (agrees-exp n e) (agrees-opt _ c)) (omega arith)
  agrees-stm n (W.raise_again l) = counted (whole (T.raise_again l) n) (omega arith)
  agrees-stm n (W.break l) = counted (whole (T.break l) n) (omega arith)
  agrees-stm n (W.continue l) = counted (whole (T.continue l) n) (omega arith)
  agrees-stm n (W.import l xs) = counted (whole (T.import l xs) n) (omega arith)
  agrees-stm n (W.import_from l dots m xs) = counted (agrees-from n l dots m xs) (omega arith)
  agrees-stm n (W.global l xs) = counted (whole (T.global l xs) n) (omega arith)
  agrees-stm n (W.nonlocal l xs) = counted (whole (T.nonlocal l xs) n) (omega arith)
  agrees-stm n (W.choice l bs els) = counted (agrees-both (T.choice l) (refine_stms els) (agrees-branches n bs) (agrees-stms _ els)) (omega arith)
  agrees-stm n (W.while l c body els) = counted (agrees-three (T.while l) (refine_stms body) (refine_stms els) (agrees-exp n c) (agrees-stms _ body) (agrees-stms _ els)) (omega arith)
  agrees-stm n (W.for l t it body els) = counted (agrees-four (T.for l) (refine_exp it) (refine_stms body) (refine_stms els) (agrees-target n Inside t) (agrees-exp _ it) (agrees-stms _ body) (agrees-stms _ els)) (omega arith)
  agrees-stm n (W.try l body hs els fin) = counted (agrees-four (T.try l) (refine_handlers hs) (refine_stms els) (refine_stms fin) (agrees-stms n body) (agrees-handlers _ hs) (agrees-stms _ els) (agrees-stms _ fin)) (omega arith)
  agrees-stm n (W.with l is body) = counted (agrees-both (T.with l) (refine_stms body) (agrees-items n is) (agrees-stms _ body)) (omega arith)
  agrees-stm n (W.def l ds dl x ps r body) = counted (agrees-started (λ es b. T.def l es dl b x) (refine_params ps) (uncounted (refine_opt r)) (refine_stms body) (agrees-decorators n ds)
      (agrees-params (1 + (n + blocks_decorators ds)) ps) (agrees-uncounted (1 + (n + blocks_decorators ds) + blocks_params ps) (agrees-opt _ r)) (agrees-stms _ body)) (omega arith)
  agrees-stm n (W.class l ds cl x args comma body) = counted (listed (agrees-begun (λ es b. T.class l es cl b x) (refine_base args comma) (refine_stms body) (agrees-decorators n ds)
      (agrees-base (1 + (n + blocks_decorators ds)) args comma) (agrees-stms _ body)) (base-inside (faults_decorators ds) (faults_base args comma) (faults_args args) (faults_stms body))) (omega arith)

  pub agrees-stms : (n : ℕ) (ss : Stms) → Agrees (faults_stms ss) (narrow_stms n ss) (n + blocks_stms ss) (refine_stms ss n)
  agrees-stms n W.none = counted (whole T.none n) (omega arith)
  agrees-stms n (W.more s ss) = counted (agrees-both T.more (refine_stms ss) (agrees-stm n s) (agrees-stms _ ss)) (omega arith)

  agrees-branches : (n : ℕ) (bs : Branches) → Agrees (faults_branches bs) (narrow_branches n bs) (n + blocks_branches bs) (refine_branches bs n)
  agrees-branches n W.no_branches = counted (whole T.no_branches n) (omega arith)
  agrees-branches n (W.branch l c body r) = counted (agrees-three (T.branch l) (refine_stms body) (refine_branches r) (agrees-exp n c) (agrees-stms _ body) (agrees-branches _ r)) (omega arith)

  agrees-handlers : (n : ℕ) (hs : Handlers) → Agrees (faults_handlers hs) (narrow_handlers n hs) (n + blocks_handlers hs) (refine_handlers hs n)
  agrees-handlers n W.no_handlers = counted (whole T.no_handlers n) (omega arith)
  agrees-handlers n (W.handler l star c x body r) = counted (agrees-group {n = n} (faults_opt c) (faults_stms body) (faults_handlers r) l star (three (λ d. T.handler l d x) (refine_opt c) (refine_stms body) (refine_handlers r))
      (agrees-three (λ d. T.handler l d x) (refine_stms body) (refine_handlers r) (agrees-opt n c) (agrees-stms _ body) (agrees-handlers _ r))) (omega arith)
