-- Refinement in one pass makes what the definitions of trees and of faults say: the tree of the language with its blocks counted, or the
-- first fault.
use Rattle.std.proofs.Common.{◌≡◌, ℕ, ◌+◌, Bool, true, false, List, [], ◌∷◌, ◌++◌, append_assoc, refl, ap, Option, Some, None, arith}
use Rattle.std.specs.Prelude.{option_map, if◌then◌else◌}
use Rattle.pt_wide.specs.declared.expression.Comprehension.TheVariants as form
use Rattle.pt_wide.specs.declared.expression.WideBinOp.{WideBinOp}
use Rattle.pt_wide.specs.declared.expression.WideBinOp.TheVariants as operator
use Rattle.pt_refine_expr.specs.declared.stars.Stars.{Stars}
use Rattle.pt_refine_expr.specs.declared.stars.Stars.TheVariants.{Never, Inside, Here}
use Rattle.pt_tree.specs.Syntax as T
use Rattle.pt_wide.specs.Syntax as W
use Rattle.pt_wide.specs.Syntax.{Exp, Exps, Opt, Pieces, Entry, Entries, Links, Args, Clauses, Params, Formals}
use Rattle.pt_refine_expr.specs.Blocks.{blocks_exp, blocks_all, blocks_opt, blocks_pieces, blocks_entry, blocks_entries, blocks_links, blocks_args, blocks_clauses, blocks_params, blocks_formals}
use Rattle.pt_refine_expr.specs.Faults.{Fault, bad_target, excluded, faults_exp, faults_all, faults_opt, faults_pieces, faults_entry, faults_entries, faults_links, faults_args, faults_clauses, faults_params, faults_formals, faults_operator, faults_target, faults_targets}
use Rattle.pt_refine_expr.specs.Narrow.{clause, comprehension, entry, generator, made, narrow_exp, narrow_all, narrow_opt, narrow_operator, narrow_pieces, narrow_pair, narrow_entries, narrow_links, narrow_args, narrow_clauses, narrow_params, narrow_formals, narrow_target, narrow_targets, pair}
use Rattle.pt_refine_expr.specs.Refine as R
use Rattle.pt_refine_expr.specs.Refine.{head, put, refine_exp, refine_all, refine_opt, refine_operator, refine_pieces, refine_pair, refine_entries, refine_links, refine_args, refine_clauses, refine_params, refine_formals, refine_target, refine_targets}
use Rattle.pt_refine_expr.specs.Steps.{Step, stop, three}
use Rattle.pt_refine_expr.specs.Targets.{alone, opened, behind_item, are_targets, is_inside_target, exp_line}
use Rattle.pt_refine_expr.specs.Ways as way
use Rattle.pt_refine_expr.specs.Agreement.{Agrees, whole, faulty}
use Rattle.pt_refine_expr.proofs.Agreement.{agrees-made, agrees-both, agrees-three, agrees-either, agrees-stopped, agrees-uncounted, counted, listed, narrowed}

agrees-operator : (n l : ℕ) (o : WideBinOp) → Agrees (faults_operator l o) (narrow_operator o) n (refine_operator l o n)
agrees-operator n l (operator.Plain o) = whole o n
agrees-operator n l operator.MatMul = faulty (excluded l) [] n

comprehension-three : {A : Type 0} (l fl : ℕ) (f : A → T.Made) (o : Option A) (a : Option T.Tgt) (b : Option T.Exp) (c : Option T.Exps) (d : Option T.Clauses) →
    way.three (λ x. R.comprehension l (f x)) o (way.three (head fl) a b c) d ≡ comprehension l (option_map f o) (way.four (clause fl) a b c d)
comprehension-three l fl f None a b c d = refl
comprehension-three l fl f (Some m) None b c d = refl
comprehension-three l fl f (Some m) (Some a) None c d = refl
comprehension-three l fl f (Some m) (Some a) (Some b) None d = refl
comprehension-three l fl f (Some m) (Some a) (Some b) (Some c) None = refl
comprehension-three l fl f (Some m) (Some a) (Some b) (Some c) (Some d) = refl

generator-three : (l n fl : ℕ) (o : Option T.Exp) (a : Option T.Tgt) (b : Option T.Exp) (c : Option T.Exps) (d : Option T.Clauses) →
    way.three (R.generator l n) o (way.three (head fl) a b c) d ≡ generator l n o (way.four (clause fl) a b c d)
generator-three l n fl None a b c d = refl
generator-three l n fl (Some m) None b c d = refl
generator-three l n fl (Some m) (Some a) None c d = refl
generator-three l n fl (Some m) (Some a) (Some b) None d = refl
generator-three l n fl (Some m) (Some a) (Some b) (Some c) None = refl
generator-three l n fl (Some m) (Some a) (Some b) (Some c) (Some d) = refl

clause-both : (fl : ℕ) (a : Option T.Tgt) (b : Option T.Exp) (c : Option T.Exps) (d : Option T.Clauses) →
    way.both put (way.three (head fl) a b c) d ≡ way.four (clause fl) a b c d
clause-both fl None b c d = refl
clause-both fl (Some a) None c d = refl
clause-both fl (Some a) (Some b) None d = refl
clause-both fl (Some a) (Some b) (Some c) None = refl
clause-both fl (Some a) (Some b) (Some c) (Some d) = refl

none-made : (l : ℕ) (o : Option T.Made) → None ≡ comprehension l o (Some T.no_clauses)
none-made l None = refl
none-made l (Some m) = refl

none-generated : (l b : ℕ) (o : Option T.Exp) → None ≡ generator l b o (Some T.no_clauses)
none-generated l b None = refl
none-generated l b (Some e) = refl

behind-slash : (a : List Fault) (f : Fault) (b c : List Fault) → a ++ (f ∷ (b ++ c)) ≡ a ++ (f ∷ []) ++ b ++ c
behind-slash [] f b c = refl
behind-slash (e ∷ a) f b c = ap (λ x. e ∷ x) (behind-slash a f b c)

module _ (fl : ℕ) (t : Step T.Tgt) (i : Step T.Exp) (c : Step T.Exps) (r : Step T.Clauses) {ts is cs rs : List Fault} {ot : Option T.Tgt} {oi : Option T.Exp} {oc : Option T.Exps} {or : Option T.Clauses} {m k j h g : ℕ} where
  agrees-comprehension : {A : Type 0} (l n : ℕ) (f : A → T.Made) (e : Step A) {es : List Fault} {oe : Option A} →
      Agrees es oe m (e n) → Agrees ts ot k (t m) → Agrees is oi j (i k) → Agrees cs oc h (c j) → Agrees rs or g (r h) →
      Agrees (es ++ (ts ++ is ++ cs ++ rs)) (comprehension l (option_map f oe) (way.four (clause fl) ot oi oc or)) g (three (λ x. R.comprehension l (f x)) e (three (head fl) t i c) r n)
  agrees-comprehension l n f e {es = es} {oe = oe} ae at' ai ac ar =
      listed (narrowed (agrees-three (λ x. R.comprehension l (f x)) (three (head fl) t i c) r ae (agrees-three (head fl) i c at' ai ac) ar) (comprehension-three l fl f oe ot oi oc or)) (append_assoc es (ts ++ is ++ cs) rs)

  agrees-generator : (l n : ℕ) (e : Step T.Exp) {es : List Fault} {oe : Option T.Exp} →
      Agrees es oe m (e (1 + n)) → Agrees ts ot k (t m) → Agrees is oi j (i k) → Agrees cs oc h (c j) → Agrees rs or g (r h) →
      Agrees (es ++ (ts ++ is ++ cs ++ rs)) (generator l n oe (way.four (clause fl) ot oi oc or)) g (three (R.generator l n) e (three (head fl) t i c) r (1 + n))
  agrees-generator l n e {es = es} {oe = oe} ae at' ai ac ar =
      listed (narrowed (agrees-three (R.generator l n) (three (head fl) t i c) r ae (agrees-three (head fl) i c at' ai ac) ar) (generator-three l n fl oe ot oi oc or)) (append_assoc es (ts ++ is ++ cs) rs)

opened-alone : (s : Stars) → opened (alone s) ≡ opened s
opened-alone Never = refl
opened-alone Inside = refl
opened-alone Here = refl

-- parentheses round a tuple in a target's place
agrees-grouped : {A : Type 0} {fs : List Fault} {o : Option A} {m n : ℕ} (b : Bool) (f g : Fault) (s : Step A) →
    Agrees fs o m (s n) → Agrees (if b then (if b then fs else g ∷ []) else f ∷ []) (if b then o else None) m ((if b then s else stop f) n)
agrees-grouped true f g s a = a
agrees-grouped {m = m} false f g s a = faulty f [] m

mutual
  pub agrees-exp : (n : ℕ) (e : Exp) → Agrees (faults_exp e) (narrow_exp n e) (n + blocks_exp e) (refine_exp e n)
  agrees-exp n (W.constant l k) = counted (whole (T.constant l k) n) (omega arith)
  agrees-exp n (W.name l x) = counted (whole (T.name l x) n) (omega arith)
  agrees-exp n (W.joined l ps) = agrees-made (T.joined l) (agrees-pieces n ps)
  agrees-exp n (W.parenthesized l (W.tuple m es)) = agrees-made (T.tuple l) (agrees-all n es)
  agrees-exp n (W.parenthesized l (W.comprehension m form.Generator e W.no_clauses)) =
      narrowed (faulty (excluded m) (faults_exp e ++ []) _) (none-generated l n (narrow_exp (1 + n) e))
  agrees-exp n (W.parenthesized l (W.comprehension m form.Generator e (W.for_each fl t it cs r))) = counted (agrees-generator fl (refine_target Inside t) (refine_exp it) (refine_all cs) (refine_clauses r) l n (refine_exp e)
      (agrees-exp (1 + n) e) (agrees-target _ Inside t) (agrees-exp _ it) (agrees-all _ cs) (agrees-clauses _ r)) (omega arith)
  agrees-exp n (W.parenthesized l (W.comprehension m form.List e cs)) = agrees-exp n (W.comprehension m form.List e cs)
  agrees-exp n (W.parenthesized l (W.comprehension m form.Set e cs)) = agrees-exp n (W.comprehension m form.Set e cs)
  agrees-exp n (W.parenthesized l e) = agrees-exp n e
  agrees-exp n (W.starred l e) = faulty (excluded l) (faults_exp e) _
  agrees-exp n (W.tuple l es) = agrees-made (T.tuple l) (agrees-all n es)
  agrees-exp n (W.list l es) = agrees-made (T.list l) (agrees-all n es)
  agrees-exp n (W.set l es) = agrees-made (T.set l) (agrees-all n es)
  agrees-exp n (W.dict l es) = agrees-made (T.dict l) (agrees-entries n es)
  agrees-exp n (W.attribute l a x) = agrees-made (λ o. T.attribute l o x) (agrees-exp n a)
  agrees-exp n (W.item l a i) = counted (agrees-both (T.item l) (refine_exp i) (agrees-exp n a) (agrees-exp _ i)) (omega arith)
  agrees-exp n (W.slice l a b c) = counted (agrees-three (T.slice l) (refine_opt b) (refine_opt c) (agrees-opt n a) (agrees-opt _ b) (agrees-opt _ c)) (omega arith)
  agrees-exp n (W.unary l o a) = agrees-made (T.unary l o) (agrees-exp n a)
  agrees-exp n (W.not_of l a) = agrees-made (T.not_of l) (agrees-exp n a)
  agrees-exp n (W.binary l o a b) = counted (agrees-three (T.binary l) (refine_exp a) (refine_exp b) (agrees-operator n l o) (agrees-exp n a) (agrees-exp _ b)) (omega arith)
  agrees-exp n (W.compare l a o b r) = counted (agrees-three (λ x y. T.compare l x o y) (refine_exp b) (refine_links r) (agrees-exp n a) (agrees-exp _ b) (agrees-links _ r)) (omega arith)
  agrees-exp n (W.and l a es) = counted (agrees-both (T.and l) (refine_all es) (agrees-exp n a) (agrees-all _ es)) (omega arith)
  agrees-exp n (W.or l a es) = counted (agrees-both (T.or l) (refine_all es) (agrees-exp n a) (agrees-all _ es)) (omega arith)
  agrees-exp n (W.conditional l c a b) = counted (agrees-three (λ x y. T.conditional l y x) (refine_exp c) (refine_exp b) (agrees-exp n a) (agrees-exp _ c) (agrees-exp _ b)) (omega arith)
  agrees-exp n (W.call l f args) = counted (agrees-both (T.call l) (refine_args args) (agrees-exp n f) (agrees-args _ args)) (omega arith)
  agrees-exp n (W.lambda l ps e) = counted (agrees-both (T.lambda l n) (refine_exp e) (agrees-params (1 + n) ps) (agrees-exp _ e)) (omega arith)
  agrees-exp n (W.comprehension l form.List e W.no_clauses) = narrowed (faulty (excluded l) (faults_exp e ++ []) _) (none-made l (option_map T.a_list (narrow_exp n e)))
  agrees-exp n (W.comprehension l form.Set e W.no_clauses) = narrowed (faulty (excluded l) (faults_exp e ++ []) _) (none-made l (option_map T.a_set (narrow_exp n e)))
  agrees-exp n (W.comprehension l form.Generator e W.no_clauses) = narrowed (faulty (excluded l) (faults_exp e ++ []) _) (none-generated l n (narrow_exp (1 + n) e))
  agrees-exp n (W.comprehension l form.List e (W.for_each fl t it cs r)) = counted (agrees-comprehension fl (refine_target Inside t) (refine_exp it) (refine_all cs) (refine_clauses r) l n T.a_list (refine_exp e)
      (agrees-exp n e) (agrees-target _ Inside t) (agrees-exp _ it) (agrees-all _ cs) (agrees-clauses _ r)) (omega arith)
  agrees-exp n (W.comprehension l form.Set e (W.for_each fl t it cs r)) = counted (agrees-comprehension fl (refine_target Inside t) (refine_exp it) (refine_all cs) (refine_clauses r) l n T.a_set (refine_exp e)
      (agrees-exp n e) (agrees-target _ Inside t) (agrees-exp _ it) (agrees-all _ cs) (agrees-clauses _ r)) (omega arith)
  agrees-exp n (W.comprehension l form.Generator e (W.for_each fl t it cs r)) = counted (agrees-generator fl (refine_target Inside t) (refine_exp it) (refine_all cs) (refine_clauses r) l n (refine_exp e)
      (agrees-exp (1 + n) e) (agrees-target _ Inside t) (agrees-exp _ it) (agrees-all _ cs) (agrees-clauses _ r)) (omega arith)
  agrees-exp n (W.dict_comprehension l g W.no_clauses) = narrowed (faulty (excluded l) (faults_entry g ++ []) _) (none-made l (option_map made (narrow_pair n g)))
  agrees-exp n (W.dict_comprehension l g (W.for_each fl t it cs r)) = counted (agrees-comprehension fl (refine_target Inside t) (refine_exp it) (refine_all cs) (refine_clauses r) l n R.of_pair (refine_pair g)
      (agrees-pair n g) (agrees-target _ Inside t) (agrees-exp _ it) (agrees-all _ cs) (agrees-clauses _ r)) (omega arith)
  agrees-exp n (W.yield l v) = agrees-made (T.yield l) (agrees-opt n v)
  agrees-exp n (W.yield_from l e) = agrees-made (T.yield_from l) (agrees-exp n e)

  agrees-all : (n : ℕ) (es : Exps) → Agrees (faults_all es) (narrow_all n es) (n + blocks_all es) (refine_all es n)
  agrees-all n W.no_exps = counted (whole T.no_exps n) (omega arith)
  agrees-all n (W.more_exps e es) = counted (agrees-both T.more_exps (refine_all es) (agrees-exp n e) (agrees-all _ es)) (omega arith)

  pub agrees-opt : (n : ℕ) (o : Opt) → Agrees (faults_opt o) (narrow_opt n o) (n + blocks_opt o) (refine_opt o n)
  agrees-opt n W.absent = counted (whole T.absent n) (omega arith)
  agrees-opt n (W.given e) = agrees-made T.given (agrees-exp n e)

  agrees-pieces : (n : ℕ) (ps : Pieces) → Agrees (faults_pieces ps) (narrow_pieces n ps) (n + blocks_pieces ps) (refine_pieces ps n)
  agrees-pieces n W.no_pieces = counted (whole T.no_pieces n) (omega arith)
  agrees-pieces n (W.literal l t r) = agrees-made (T.literal l t) (agrees-pieces n r)
  agrees-pieces n (W.field l e c ps r) = counted (agrees-three (λ x. T.field l x c) (refine_pieces ps) (refine_pieces r) (agrees-exp n e) (agrees-pieces _ ps) (agrees-pieces _ r)) (omega arith)

  agrees-pair : (n : ℕ) (g : Entry) → Agrees (faults_entry g) (narrow_pair n g) (n + blocks_entry g) (refine_pair g n)
  agrees-pair n (W.pair k v) = counted (agrees-both pair (refine_exp v) (agrees-exp n k) (agrees-exp _ v)) (omega arith)
  agrees-pair n (W.spread_entry l e) = faulty (excluded l) (faults_exp e) _

  agrees-entries : (n : ℕ) (es : Entries) → Agrees (faults_entries es) (narrow_entries n es) (n + blocks_entries es) (refine_entries es n)
  agrees-entries n W.no_entries = counted (whole T.no_entries n) (omega arith)
  agrees-entries n (W.more_entries g r) = counted (agrees-both entry (refine_entries r) (agrees-pair n g) (agrees-entries _ r)) (omega arith)

  agrees-links : (n : ℕ) (ls : Links) → Agrees (faults_links ls) (narrow_links n ls) (n + blocks_links ls) (refine_links ls n)
  agrees-links n W.no_links = counted (whole T.no_links n) (omega arith)
  agrees-links n (W.link o b r) = counted (agrees-both (T.link o) (refine_links r) (agrees-exp n b) (agrees-links _ r)) (omega arith)

  pub agrees-args : (n : ℕ) (xs : Args) → Agrees (faults_args xs) (narrow_args n xs) (n + blocks_args xs) (refine_args xs n)
  agrees-args n W.no_args = counted (whole T.no_args n) (omega arith)
  agrees-args n (W.positional e r) = counted (agrees-both T.positional (refine_args r) (agrees-exp n e) (agrees-args _ r)) (omega arith)
  agrees-args n (W.named l x e r) = counted (agrees-both (T.named x) (refine_args r) (agrees-exp n e) (agrees-args _ r)) (omega arith)
  agrees-args n (W.spread l e r) = counted (agrees-both T.spread (refine_args r) (agrees-exp n e) (agrees-args _ r)) (omega arith)
  agrees-args n (W.spread_named l e r) = counted (agrees-both T.spread_named (refine_args r) (agrees-exp n e) (agrees-args _ r)) (omega arith)

  agrees-clauses : (n : ℕ) (cs : Clauses) → Agrees (faults_clauses cs) (narrow_clauses n cs) (n + blocks_clauses cs) (refine_clauses cs n)
  agrees-clauses n W.no_clauses = counted (whole T.no_clauses n) (omega arith)
  agrees-clauses n (W.for_each l t it cs r) = counted (narrowed (agrees-both put (refine_clauses r)
      (agrees-three (head l) (refine_exp it) (refine_all cs) (agrees-target n Inside t) (agrees-exp _ it) (agrees-all _ cs)) (agrees-clauses _ r))
      (clause-both l (narrow_target n Inside t) (narrow_exp (n + blocks_exp t) it) (narrow_all (n + blocks_exp t + blocks_exp it) cs) (narrow_clauses (n + blocks_exp t + blocks_exp it + blocks_all cs) r))) (omega arith)

  pub agrees-params : (n : ℕ) (ps : Params) → Agrees (faults_params ps) (narrow_params n ps) (n + blocks_params ps) (refine_params ps n)
  agrees-params n (W.parameters W.no_formals None ps s ks d) = counted (agrees-both (λ qs js. T.parameters qs s js d) (refine_formals ks) (agrees-formals n ps) (agrees-formals _ ks)) (omega arith)
  agrees-params n (W.parameters W.no_formals (Some l) ps s ks d) = faulty (excluded l) (faults_formals ps ++ faults_formals ks) _
  agrees-params n (W.parameters (W.formal l x a e r) None ps s ks d) =
      listed (agrees-stopped (excluded l) (faults_formals ps ++ faults_formals ks) _ (agrees-formals n (W.formal l x a e r))) (behind-slash (faults_formals (W.formal l x a e r)) (excluded l) (faults_formals ps) (faults_formals ks))
  agrees-params n (W.parameters (W.formal l x a e r) (Some m) ps s ks d) =
      listed (agrees-stopped (excluded m) (faults_formals ps ++ faults_formals ks) _ (agrees-formals n (W.formal l x a e r))) (behind-slash (faults_formals (W.formal l x a e r)) (excluded m) (faults_formals ps) (faults_formals ks))

  agrees-formals : (n : ℕ) (ps : Formals) → Agrees (faults_formals ps) (narrow_formals n ps) (n + blocks_formals ps) (refine_formals ps n)
  agrees-formals n W.no_formals = counted (whole T.no_formals n) (omega arith)
  agrees-formals n (W.formal l x a d r) = counted (agrees-three (T.formal l x) (refine_opt d) (refine_formals r) (agrees-uncounted n (agrees-opt n a)) (agrees-opt n d) (agrees-formals _ r)) (omega arith)

  pub agrees-target : (n : ℕ) (s : Stars) (e : Exp) → Agrees (faults_target s e) (narrow_target n s e) (n + blocks_exp e) (refine_target s e n)
  agrees-target n s (W.name l x) = counted (whole (T.single (T.name_at l x)) n) (omega arith)
  agrees-target n s (W.attribute l a x) = agrees-made (λ o. T.single (T.attribute_at l o x)) (agrees-exp n a)
  agrees-target n s (W.item l a i) = counted (agrees-both (λ o j. T.single (T.item_at l o j)) (refine_exp i) (agrees-exp n a) (agrees-exp _ i)) (omega arith)
  agrees-target n s (W.tuple l es) = agrees-either (are_targets es) (bad_target l) _ (agrees-made (T.several l T.as_tuple) (agrees-targets n (opened s) es))
  agrees-target n s (W.list l es) = agrees-either (are_targets es) (bad_target l) _ (agrees-made (T.several l T.as_list) (agrees-targets n (opened s) es))
  agrees-target n s (W.parenthesized l (W.tuple m es)) = agrees-grouped (are_targets es) (bad_target l) (bad_target m) _
      (narrowed (agrees-made (T.several l T.as_tuple) (agrees-targets n (opened (alone s)) es)) (ap (λ u. option_map (T.several l T.as_tuple) (narrow_targets n u es)) (opened-alone s)))
  agrees-target n s (W.parenthesized l e) = agrees-either {n = n} (is_inside_target e) (bad_target l) (refine_target (alone s) e) (agrees-target n (alone s) e)
  agrees-target n Never (W.starred l e) = faulty (bad_target l) (faults_target Never e) _
  agrees-target n Inside (W.starred l e) = faulty (bad_target l) (faults_target Inside e) _
  agrees-target n Here (W.starred l e) = agrees-made (T.starred l) (agrees-target n Inside e)
  agrees-target n s e = faulty (bad_target (exp_line e)) [] _

  pub agrees-targets : (n : ℕ) (s : Stars) (es : Exps) → Agrees (faults_targets s es) (narrow_targets n s es) (n + blocks_all es) (refine_targets s es n)
  agrees-targets n s W.no_exps = counted (whole T.no_targets n) (omega arith)
  agrees-targets n s (W.more_exps e es) = counted (agrees-both T.more_targets (refine_targets (behind_item s e) es) (agrees-target n s e) (agrees-targets _ (behind_item s e) es)) (omega arith)
