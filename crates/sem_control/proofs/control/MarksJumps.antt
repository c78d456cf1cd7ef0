-- Behind a jump the acts of what goes on stand too.
use Rattle.std.proofs.Common.{◌≡◌, ℕ, ◌+◌, List, [], ◌∷◌, ◌++◌, Option, Some, None, refl, sym, ap, ◌∙◌, subst, arith}
use Rattle.pt_tree.specs.Syntax as S
use Rattle.pt_tree.specs.Syntax.{Opt, Items, Stm, Stms, Branches, Handlers, none, more}
use Rattle.pt_tree.specs.Sizes.{size, opt_size, target_size, stm_size, stms_size}
use Rattle.pt_tree.specs.Blocks as B
use Rattle.pt_tree.specs.Blocks.{Code, acts_of_code, function_body}
use Rattle.sem_control.specs.control.Turn.{Around}
use Rattle.sem_control.specs.control.Frames as F
use Rattle.sem_control.specs.control.Frames.{raise, normal, by, Frame, Nest, Way, Control}
use Rattle.sem_control.specs.control.Bases.{way_base}
use Rattle.sem_control.specs.control.Numbers.{tested_body, behind_body, for_body, for_else, try_handlers, try_else, try_finally, handler_body}
use Rattle.sem_control.specs.control.Completions.{complete}
use Rattle.sem_control.specs.control.Control.{go}
use Rattle.sem_control.specs.control.Jump.{kept, parts, Verdict, permitted, no_statement, into_block, out_of_finally, verdict, Shape, shape, Target, with_name, body_at, within_items, behind_branches, starts_in, starts, branch_starts, handler_starts, starts_of, on_line, filled, refused, lands, at_target, by_verdict, by_target, jump}
use Rattle.sem_control.specs.control.Reached.{IsRow, Reaches}
use Rattle.sem_control.proofs.control.JumpLemmas.{Each, each_append, each_on_line, jump_lands}
use Rattle.sem_control.proofs.control.MarksTree.{Numbering, Opt_in, Name_in, Items_in, Stm_in, Stms_in, Branches_in, Handlers_in}
use Rattle.sem_control.proofs.control.MarksFrames.{Shape_in, Way_in}
use Rattle.sem_control.proofs.control.MarksBases.{way_base_in}
use Rattle.sem_control.proofs.control.MarksCompletions.{complete_in}
use Rattle.sem_control.proofs.control.MarksControl.{go_in}
use Rattle.sem_control.proofs.control.MarksLaw.{reaches_in, by_rows, next_row, Code_in, code_by_rows}

module _ (R : Numbering) where
  -- where a part ends
  opt_end : (o : Opt) (n : ℕ) (End : ℕ → Type 0) → Opt_in R o n End → End (n + opt_size o)
  opt_end S.absent n End h = let same : n ≡ n + 0 = omega arith in subst End same h
  opt_end (S.given e) n End h = h.1

module _ (R : Shape → Numbering) where
  name_end : (l : ℕ) (x : Option S.Name) (n : ℕ) (s : Shape) (End : ℕ → Shape → Type 0)
      → Name_in R l x n s End → End (handler_body n x) (with_name x (F.handling n tt ∷ s))
  name_end l None n s End h = h
  name_end l (Some x) n s End h = h.1

  branches_end : (bs : Branches) (n : ℕ) (s : Shape) (End : ℕ → Type 0) → Branches_in R bs n s End → End (behind_branches bs n)
  branches_end S.no_branches n s End h = h
  branches_end (S.branch l c body r) n s End h = branches_end r (n + size c + 1 + stms_size body) s End h.3

  -- the body of a `with`, and the exits around it
  items_end : (is : Items) (k : ℕ) (Body : ℕ → Shape → Type 0) (n : ℕ) (s : Shape) → Items_in R is k Body n s → Shape_in R s
      → Body (body_at is n) (within_items is k n s) × Shape_in R (within_items is k n s)
  items_end S.no_items k Body n s h hs = (h, hs)
  items_end (S.with_item l e None r) k Body n s (he, h, (hr, hx)) hs = items_end r k Body (n + size e + 1) _ hr (hx, hs)
  items_end (S.with_item l e (Some t) r) k Body n s (he, h, (ht, (hr, hx))) hs = items_end r k Body (n + size e + 1 + target_size t) _ hr (hx, hs)

  -- a target, and where it lies
  abbrev Stands : Target → Type 0
  Stands t = Stms_in R t.ss t.n t.within × Shape_in R t.within

  both : (ts us : List Target) → Each Stands ts → Each Stands us → Each Stands (ts ++ us)
  both ts us h g = each_append Stands ts us h g

  name_around : (x : Option S.Name) (s : Shape) → Shape_in R s → Shape_in R (with_name x s)
  name_around None s h = h
  name_around (Some x) s h = (tt, h)

  mutual
    in_stand : (st : Stm) (n : ℕ) (s : Shape) → Stm_in R st n s → Shape_in R s → Each Stands (starts_in st n s)
    in_stand (S.choice l bs els) n s h hs =
        both (branch_starts bs n s) _ (branches_stand bs els n s h hs) (stand els (behind_branches bs n) s (branches_end bs n s _ h) hs)
    in_stand (S.while l c body els) n s (hc, a, h, hb, he) hs =
        both (starts body (tested_body n c) (F.looping l n c body els ∷ s)) _ (stand body (tested_body n c) _ hb ((hc, a, h, hb, he), hs))
        (stand els (behind_body n c body) s he hs)
    in_stand (S.for l t it body els) n s (hi, h₁, h₂, a, ht, hb, he) hs =
        let m = n + size it + 1 in
        both (starts body (for_body m t) (F.iterating l m tt t body els ∷ s)) _ (stand body (for_body m t) _ hb ((h₂, a, ht, hb, he), hs))
        (stand els (for_else m t body) s he hs)
    in_stand (S.try l body hds els fin) n s (h, hb, hh, he, hf) hs =
        let f = try_finally n body hds els in
        let around : Shape = F.ensuring n f fin ∷ s in
        both (starts body (n + 1) (F.guarded (try_handlers n body) hds els ∷ around)) _ (stand body (n + 1) _ hb ((hh, he), (hf, hs)))
        (both (handler_starts hds (try_handlers n body) around) _ (handlers_stand (try_handlers n body) hds (try_handlers n body) around hh (hf, hs))
        (both (starts els (try_else n body hds) around) _ (stand els (try_else n body hds) around he (hf, hs)) (stand fin f _ hf (tt, hs))))
    in_stand (S.with l is body) n s h hs =
        let u = items_end is (stms_size body) _ n s h hs in stand body (body_at is n) (within_items is (stms_size body) n s) u.0 u.1
    in_stand st n s h hs = tt

    stand : (ss : Stms) (n : ℕ) (s : Shape) → Stms_in R ss n s → Shape_in R s → Each Stands (starts ss n s)
    stand none n s h hs = tt
    stand (more st ss) n s (h, hr) hs =
        (((h, hr), hs), both (starts_in st n (F.rest (n + stm_size st) ss ∷ s)) _ (in_stand st n _ h (hr, hs)) (stand ss (n + stm_size st) s hr hs))

    branches_stand : (bs : Branches) (els : Stms) (n : ℕ) (s : Shape) → Branches_in R bs n s (λ m. Stms_in R els m s) → Shape_in R s
        → Each Stands (branch_starts bs n s)
    branches_stand S.no_branches els n s h hs = tt
    branches_stand (S.branch l c body r) els n s (hc, h, hb, hr) hs =
        both (starts body (tested_body n c) s) _ (stand body (tested_body n c) s hb hs) (branches_stand r els (behind_body n c body) s hr hs)

    handlers_stand : (k : ℕ) (hds : Handlers) (n : ℕ) (s : Shape) → Handlers_in R k hds n s → Shape_in R s → Each Stands (handler_starts hds n s)
    handlers_stand k S.no_handlers n s h hs = tt
    handlers_stand k (S.handler l c x body r) n s h hs =
        let m = n + opt_size c in
        let u = opt_end (R (F.testing k tt ∷ s)) c n _ h in
        let v = name_end l x m s _ u.1 in
        both (starts body (handler_body m x) (with_name x (F.handling m tt ∷ s))) _
        (stand body (handler_body m x) _ v.0 (name_around x (F.handling m tt ∷ s) (tt, hs))) (handlers_stand k r (handler_body m x + stms_size body) s v.1 hs)

-- where the acts of a block stand, so do those of each statement of it that can be a target
pub starts_stand : (R : Shape → Numbering) (code : Code) → Code_in R code → Each (Stands R) (starts_of code)
starts_stand R (B.of_module ss) h = stand R ss 0 [] h tt
starts_stand R (B.of_function ss) h = stand R (function_body ss) 0 [] h tt
starts_stand R (B.of_class ss) h = stand R ss 0 [] h tt
starts_stand R (B.of_lambda l e) h = tt
starts_stand R (B.of_generator l e k t cs) h = tt

module _ {V : Type 0} where
  not_landed : (v : Verdict) (k : Way V) → refused v ≡ lands k → ⊥
  not_landed v k e = cc

  landed : (j k : Way V) → lands j ≡ lands k → j ≡ k
  landed j k e = cc

  nest_of : (s r : Nest V) (o : Option (Nest V)) → o ≡ Some s → o ≡ Some r → s ≡ r
  nest_of s r o e f = cc

module _ (R : Shape → Numbering) (code : Code) (there : Code_in R code) {V : Type 0} (line : ℕ) (p : Nest V) where
  lands_in : (t : Target) (k : Way V) (o : Option (Nest V)) → on_line line (starts_of code) ≡ Some t → verdict (parts p) (parts t.within) ≡ permitted
      → filled t.within (kept p) ≡ o → at_target t o ≡ lands k → Way_in R k
  lands_in t k (Some s) is ok fills e =
      let r = jump_lands code line p t is ok in
      let stands = each_on_line (Stands R) line (starts_of code) t (starts_stand R code there) is in
      let same : r.nest ≡ s = nest_of r.nest s _ r.filled_so fills in
      let shaped : t.within ≡ shape s = sym r.shaped ∙ ap shape same in
      let h = subst (λ u. Stms_in R t.ss t.n u × Shape_in R u) shaped stands in
      subst (λ u. Way_in R u) (landed _ k e) h
  lands_in t k None is ok fills e = absurd (not_landed into_block k e)

  judged_in : (t : Target) (k : Way V) (v : Verdict) → on_line line (starts_of code) ≡ Some t → verdict (parts p) (parts t.within) ≡ v
      → by_verdict v t p ≡ lands k → Way_in R k
  judged_in t k permitted is ok e = lands_in t k (filled t.within (kept p)) is ok refl e
  judged_in t k no_statement is ok e = absurd (not_landed _ k e)
  judged_in t k into_block is ok e = absurd (not_landed _ k e)
  judged_in t k out_of_finally is ok e = absurd (not_landed _ k e)

  target_in : (o : Option Target) (k : Way V) → on_line line (starts_of code) ≡ o → by_target o p ≡ lands k → Way_in R k
  target_in (Some t) k is e = judged_in t k (verdict (parts p) (parts t.within)) is refl e
  target_in None k is e = absurd (not_landed _ k e)

  pub jump_in : (k : Way V) → jump code p line ≡ lands k → Way_in R k
  jump_in k e = target_in (on_line line (starts_of code)) k refl e

pub marks_behind_jumps : {V : Type 0} (block : Around V) (code : Code) (p : Nest V) (line : ℕ) (k : Way V) (d : Control V)
    → jump code p line ≡ lands k → Reaches block (go block k) d → IsRow (acts_of_code code) block d
marks_behind_jumps block code p line k d jumped reached =
    let R = by_rows (acts_of_code code) in
    next_row (acts_of_code code) block d
    (reaches_in R block _ d (go_in R block k (jump_in R code (code_by_rows code) line p k jumped)) reached)

pub marks_behind_raises : {V : Type 0} (block : Around V) (code : Code) (p : Nest V) (line : ℕ) (k : Way V) (v : V) (d : Control V)
    → jump code p line ≡ lands k → Reaches block (complete block (by (raise v)) (way_base k)) d → IsRow (acts_of_code code) block d
marks_behind_raises block code p line k v d jumped reached =
    let R = by_rows (acts_of_code code) in
    let h = way_base_in R k (jump_in R code (code_by_rows code) line p k jumped) in
    next_row (acts_of_code code) block d (reaches_in R block _ d (complete_in R block (by (raise v)) (way_base k) h) reached)
