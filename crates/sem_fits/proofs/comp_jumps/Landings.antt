-- Each statement stands in the code of its block, and code goes on there.
use Rattle.std.proofs.Common.{◌≡◌, ℕ, ◌+◌, List, [], ◌∷◌, ◌++◌, Option, Some, None, refl, subst, ◌∙◌, arith}
use Rattle.std.specs.Prelude.{Contains}
use Rattle.pt_tree.specs.Syntax as S
use Rattle.pt_tree.specs.Syntax.{Name, Exp, Opt, Tgt, Stm, Stms, Branches, Handlers, Items, none, more}
use Rattle.pt_tree.specs.Sizes.{size, target_size, items_size, stm_size, stms_size, handlers_size}
use Rattle.pt_tree.specs.Blocks.{Code}
use Rattle.pt_ranges.specs.declared.handlers.Handler.{Handler}
use Rattle.pt_code.specs.declared.Start.{Start}
use Rattle.pt_instr.specs.declared.Instr.TheVariants as instr
use Rattle.sem_control.specs.control.Turn.{Around}
use Rattle.sem_control.specs.control.Frames as F
use Rattle.sem_control.specs.control.Frames.{Nest, Way}
use Rattle.sem_control.specs.control.Numbers.{tested_body, behind_body, for_body, for_else, try_handlers, try_else, try_finally, handler_body}
use Rattle.sem_control.specs.control.Jump as jumps
use Rattle.sem_control.specs.control.Jump.{Shape, shape, Target, Verdict, permitted, no_statement, into_block, out_of_finally, verdict, parts, kept, filled, with_name, body_at, within_items, behind_branches, starts, starts_in, branch_starts, handler_starts, starts_of, statements_of, on_line, at_target, by_verdict, by_target, jump, lands}
use Rattle.sem_control.proofs.control.JumpLemmas.{Each, each_append, each_on_line}
use Rattle.sem_code.specs.slots.Slots.{Slots}
use Rattle.sem_code.specs.slots.CodeObject.{CodeObject}
use Rattle.sem_code.specs.comp_expr.Places.{◌⨾◌, Stores}
use Rattle.sem_code.specs.comp.Surroundings.{Surroundings, outermost, in_while, in_for, deeper, under, TakesAll, TakesRaises}
use Rattle.sem_code.specs.comp.Places.{Deletes, Act_in, Null_in, Move_in, While_at, For_at, Guarded_at, Handled_at, Items_at, Stm_at, All_at, Branches_at, Handlers_at, Block_at}
use Rattle.sem_code.specs.comp.Law as law
use Rattle.sem_code.specs.comp.Law.{Nest_on, Way_on, Comes}
use Rattle.sem_code.proofs.comp.Steps.{ways_go_on}
use Rattle.sem_fits.specs.comp_jumps.Filled.{Filled, of_none, of_rest, of_looping, of_iterating, of_guarded, of_handling, of_naming, of_ensuring, of_ending, of_withing, Stands}
use Rattle.sem_fits.specs.comp_jumps.Law.{StatementsStand, Landing, JumpsLand, NestsAreFilled}

module _ {V : Type 0} (block : Around V) (code : CodeObject V) (table : List Start) where
  -- where a nest of a shape goes on
  abbrev On : Shape → List Surroundings → Surroundings → ℕ → Type 0
  On sh xs x q = (s : Nest V) (σ : Slots V) → Filled code sh xs s σ → Nest_on block code s x σ q

  abbrev All_stand : List Target → Type 0
  All_stand ts = Each (Stands block code table) ts

  both : (ts us : List Target) → All_stand ts → All_stand us → All_stand (ts ++ us)
  both ts us h g = each_append (Stands block code table) ts us h g

  rest_on : (n : ℕ) (ss : Stms) (sh : Shape) (xs : List Surroundings) (x : Surroundings) (p q : ℕ) → All_at block code ss n x p q → On sh xs x q
      → On (F.rest n ss ∷ sh) xs x p
  rest_on n ss sh xs x p q h g _ _ (of_rest _ _ _ _ s σ f) = law.at_rest n ss s x σ p q h (g s σ f)

  looping_on : (l n : ℕ) (c : Exp) (body els : Stms) (sh : Shape) (xs : List Surroundings) (x : Surroundings) (first next other end : ℕ)
      → While_at block code l n c (All_at block code body (tested_body n c)) (All_at block code els (behind_body n c body) x) x first next other end
      → On sh xs x end → On (F.looping l n c body els ∷ sh) xs (in_while next end x) next
  looping_on l n c body els sh xs x first next other end h g _ _ (of_looping _ _ _ _ _ _ _ s σ f) =
      law.at_looping l n c body els s x σ first next other end h (g s σ f)

  iterating_on : (l n : ℕ) (t : Tgt) (body els : Stms) (sh : Shape) (xs : List Surroundings) (x : Surroundings) (first next other end : ℕ)
      → For_at block code l n t (All_at block code body (for_body n t)) (All_at block code els (for_else n t body) x) x first next other end
      → On sh xs x end → On (F.iterating l n tt t body els ∷ sh) xs (in_for next end x) next
  iterating_on l n t body els sh xs x first next other end h g _ _ (of_iterating _ _ i _ _ _ _ _ s σ f) =
      law.at_iterating l n i t body els s x σ first next other end h (g s σ f)

  unguarded_on : (n : ℕ) (els : Stms) (sh : Shape) (xs : List Surroundings) (x : Surroundings) (p q : ℕ)
      → All_at block code els (n + handlers_size S.no_handlers) x p q → On sh xs x q → On (F.guarded n S.no_handlers els ∷ sh) xs x p
  unguarded_on n els sh xs x p q h g _ _ (of_guarded _ _ _ _ _ s σ f) = law.at_unguarded n els s x σ p q h (g s σ f)

  jump_on : (sh : Shape) (xs : List Surroundings) (x : Surroundings) (p m q : ℕ) → Move_in block code x (instr.Jump (record { 0 = q })) p m → On sh xs x q
      → On sh xs x p
  jump_on sh xs x p m q h g s σ f = law.nest_behind_jump s x σ p m q h (g s σ f)

  withing_on : (l n : ℕ) (sh : Shape) (xs : List Surroundings) (x : Surroundings) (row : Handler) (p end : ℕ)
      → TakesAll row (deeper x) → Move_in block code (under row x) instr.Normal p row.target.0
      → (Act_in block code x instr.Exit n l ⨾ Move_in block code x instr.EndFinally) row.target.0 end → On sh xs x end
      → On (F.withing l n tt ∷ sh) xs (under row (deeper x)) p
  withing_on l n sh xs x row p end ta hn hx g _ _ (of_withing _ _ w _ _ s σ f) = law.at_withing l n w s x σ row p end ta hn hx (g s σ f)

  handling_on : (n : ℕ) (sh : Shape) (xs : List Surroundings) (x : Surroundings) (p q : ℕ) → Move_in block code x instr.EndHandler p q → On sh xs x q
      → On (F.handling n tt ∷ sh) xs (deeper x) p
  handling_on n sh xs x p q h g _ _ (of_handling _ e _ _ s σ f) = law.at_handling n e s x σ p q h (g s σ f)

  naming_on : (y : Name) (n : ℕ) (sh : Shape) (xs : List Surroundings) (x : Surroundings) (row : Handler) (p q : ℕ)
      → TakesAll row (deeper x) → Move_in block code (under row (deeper x)) instr.Normal p row.target.0
      → (Null_in block code (deeper x) ⨾ Stores block code x.rows (block.variable [] y) None ⨾ Deletes block code x.rows (block.variable [] y) None
      ⨾ Move_in block code (deeper x) instr.EndFinally) row.target.0 q → On (F.handling n tt ∷ sh) xs (deeper x) q
      → On (F.naming y ∷ F.handling n tt ∷ sh) xs (under row (deeper x)) p
  naming_on y n sh xs x row p q ta hn h g _ _ (of_naming _ _ _ s σ f) = law.at_naming y s (deeper x) σ row p q ta hn h (g s σ f)

  unensured_on : (tried n : ℕ) (sh : Shape) (xs : List Surroundings) (x : Surroundings) (p : ℕ) → On sh xs x p → On (F.ensuring tried n none ∷ sh) xs x p
  unensured_on tried n sh xs x p g _ _ (of_ensuring _ _ _ _ _ s σ f) = law.at_unensured tried n s x σ p (g s σ f)

  ensured_on : (tried n : ℕ) (st : Stm) (ss : Stms) (sh : Shape) (xs : List Surroundings) (x : Surroundings) (row : Handler) (p q end : ℕ)
      → TakesAll row x → Move_in block code (under row x) instr.Normal p row.target.0 → All_at block code (more st ss) n (deeper x) row.target.0 q
      → Move_in block code x instr.EndFinally q end → On sh xs x end → On (F.ensuring tried n (more st ss) ∷ sh) xs (under row x) p
  ensured_on tried n st ss sh xs x row p q end ta hn hp he g _ _ (of_ensuring _ _ _ _ _ s σ f) =
      law.at_ensured tried n st ss s x σ row p q end ta hn hp he (g s σ f)

  ending_on : (tried : ℕ) (sh : Shape) (xs : List Surroundings) (x : Surroundings) (p q : ℕ) → Move_in block code x instr.EndFinally p q → On sh xs x q
      → On (F.ending tried F.normal ∷ sh) (x ∷ xs) (deeper x) p
  ending_on tried sh xs x p q h g _ _ (of_ending _ held _ _ _ s σ m f) = law.at_ending tried held s x σ p q m h (g s σ f)

  guarded_on : (l n : ℕ) (c : Opt) (y : Option Name) (body : Stms) (r : Handlers) (els : Stms) (sh : Shape) (xs : List Surroundings) (x : Surroundings) (row : Handler)
      (p q behind end : ℕ) → TakesRaises row x → All_at block code els (n + handlers_size (S.handler l c y body r)) x p q
      → Move_in block code x (instr.Jump (record { 0 = end })) q behind → Handlers_at block code (S.handler l c y body r) n end x row.target.0 → On sh xs x end
      → On (F.guarded n (S.handler l c y body r) els ∷ sh) xs (under row x) p
  guarded_on l n c y body r els sh xs x row p q behind end tr he hj hh g _ _ (of_guarded _ _ _ _ _ s σ f) =
      law.at_guarded l n c y body r els s x σ row p q behind end tr he hj hh (g s σ f)

  -- the body of a `with`, behind all its items
  record Inner (is : Items) (body : (n : ℕ) → Surroundings → ℕ → ℕ → Type 0) (k n : ℕ) (sh : Shape) (xs : List Surroundings) (x : Surroundings) : Type 0 where
    inner : Surroundings
    from : ℕ
    to : ℕ
    same_starts : inner.starts ≡ x.starts
    stands : body (body_at is n) inner from to
    goes : On (within_items is k n sh) xs inner to

  items_inner : (is : Items) (body : (n : ℕ) → Surroundings → ℕ → ℕ → Type 0) (k n : ℕ) (sh : Shape) (xs : List Surroundings) (x : Surroundings) (p q : ℕ)
      → Items_at block code is body k n x p q → On sh xs x q → Inner is body k n sh xs x
  items_inner S.no_items body k n sh xs x p q h g = record { inner = x; from = p; to = q; same_starts = refl; stands = h; goes = g }
  items_inner (S.with_item l e None r) body k n sh xs x p q (row, ta, (m, he, (m1, hen, (m2, ht, (m3, hr, hn)))), hx) g =
      let i = items_inner r body k (n + size e + 1) (F.withing l (n + size e + 1 + items_size r k) tt ∷ sh) xs (under row (deeper x)) m2 m3 hr
      (withing_on l (n + size e + 1 + items_size r k) sh xs x row m3 q ta hn hx g) in
      record { inner = i.inner; from = i.from; to = i.to; same_starts = i.same_starts; stands = i.stands; goes = i.goes }
  items_inner (S.with_item l e (Some t) r) body k n sh xs x p q (row, ta, (m, he, (m1, hen, (m2, ht, (m3, hr, hn)))), hx) g =
      let i = items_inner r body k (n + size e + 1 + target_size t) (F.withing l (n + size e + 1 + target_size t + items_size r k) tt ∷ sh) xs (under row (deeper x)) m2 m3 hr
      (withing_on l (n + size e + 1 + target_size t + items_size r k) sh xs x row m3 q ta hn hx g) in
      record { inner = i.inner; from = i.from; to = i.to; same_starts = i.same_starts; stands = i.stands; goes = i.goes }

  -- an `else` behind an `if` and each `elif`
  otherwise : (bs : Branches) (els : Stms) (n : ℕ) (x : Surroundings) (p q : ℕ) → Branches_at block code bs (λ m. All_at block code els m x) n x p q
      → (r : ℕ) × All_at block code els (behind_branches bs n) x r q
  otherwise S.no_branches els n x p q h = (p, h)
  otherwise (S.branch l c body r) els n x p q (other, hb, hr) = otherwise r els (behind_body n c body) x other q hr

  -- that the statements of a list stand, wherever its code does
  abbrev Stood : Stms → Type 0
  Stood ss = (n : ℕ) (sh : Shape) (xs : List Surroundings) (x : Surroundings) (p q : ℕ) → x.starts ≡ table → All_at block code ss n x p q → On sh xs x q
      → All_stand (starts ss n sh)

  abbrev Handlers_stood : Handlers → Type 0
  Handlers_stood hs = (n : ℕ) (sh : Shape) (xs : List Surroundings) (x : Surroundings) (p end : ℕ) → x.starts ≡ table → Handlers_at block code hs n end x p
      → On sh xs x end → All_stand (handler_starts hs n sh)

  -- a `try` with its handlers, and more behind it
  guarded_stand : (body : Stms) (hs : Handlers) (els : Stms) (n : ℕ) (sh : Shape) (ts : List Target) (xs : List Surroundings) (x : Surroundings) (p q : ℕ)
      → Stood body → Handlers_stood hs → Stood els → x.starts ≡ table
      → Guarded_at block code hs (All_at block code body (n + 1)) (All_at block code els (try_handlers n body + handlers_size hs))
      (Handlers_at block code hs (try_handlers n body)) x p q
      → On sh xs x q → All_stand ts
      → All_stand (starts body (n + 1) (F.guarded (try_handlers n body) hs els ∷ sh) ++ (handler_starts hs (try_handlers n body) sh ++ (starts els (try_else n body hs) sh ++ ts)))
  guarded_stand body S.no_handlers els n sh ts xs x p q rb rh re e (m, hb, he) g a =
      both (starts body (n + 1) (F.guarded (try_handlers n body) S.no_handlers els ∷ sh)) _
      (rb (n + 1) _ xs x p m e hb (unguarded_on (try_handlers n body) els sh xs x m q he g))
      (both (starts els (try_else n body S.no_handlers) sh) ts (re (try_else n body S.no_handlers) sh xs x m q e he g) a)
  guarded_stand body (S.handler l c y b r) els n sh ts xs x p q rb rh re e (row, behind, tr, (m, hb, (m1, he, hj)), hh) g a =
      both (starts body (n + 1) (F.guarded (try_handlers n body) (S.handler l c y b r) els ∷ sh)) _
      (rb (n + 1) _ xs (under row x) p m e hb (guarded_on l (try_handlers n body) c y b r els sh xs x row m m1 behind q tr he hj hh g))
      (both (handler_starts (S.handler l c y b r) (try_handlers n body) sh) _ (rh (try_handlers n body) sh xs x row.target.0 q e hh g)
      (both (starts els (try_else n body (S.handler l c y b r)) sh) ts
      (re (try_else n body (S.handler l c y b r)) sh xs x m m1 e he (jump_on sh xs x m1 behind q hj g)) a))

  handled_stand : (l n : ℕ) (y : Option Name) (body : Stms) (sh : Shape) (xs : List Surroundings) (x : Surroundings) (p q end : ℕ) → Stood body
      → x.starts ≡ table → Handled_at block code l n y (All_at block code body) end x p q → On sh xs x end
      → All_stand (starts body (handler_body n y) (with_name y (F.handling n tt ∷ sh)))
  handled_stand l n None body sh xs x p q end rb e (m, hc, (m1, hp, (m2, hb, (m3, he, hj)))) g =
      rb (n + 1) (F.handling n tt ∷ sh) xs (deeper x) m1 m2 e hb (handling_on n sh xs x m2 m3 he (jump_on sh xs x m3 q end hj g))
  handled_stand l n (Some y) body sh xs x p q end rb e (row, ta, (m, hc, (m1, hst, (m2, hb, hno))), (m3, hn, (m4, hs, (m5, hd, (m6, hf, (m7, he, hj)))))) g =
      rb (n + 1 + 1) (F.naming y ∷ F.handling n tt ∷ sh) xs (under row (deeper x)) m1 m2 e hb
      (naming_on y n sh xs x row m2 m6 ta hno (m3, hn, (m4, hs, (m5, hd, hf))) (handling_on n sh xs x m6 m7 he (jump_on sh xs x m7 q end hj g)))

  mutual
    stm_stands : (st : Stm) (n : ℕ) (sh : Shape) (xs : List Surroundings) (x : Surroundings) (p q : ℕ) → x.starts ≡ table → Stm_at block code st n x p q
        → On sh xs x q → All_stand (starts_in st n sh)
    stm_stands (S.choice l bs els) n sh xs x p q e h g =
        let o = otherwise bs els n x p q h in
        both (branch_starts bs n sh) _ (branches_stand bs els n sh xs x p q e h g) (all_stand els (behind_branches bs n) sh xs x o.0 q e o.1 g)
    stm_stands (S.while l c body els) n sh xs x p q e (first, next, other, hc, w) g =
        both (starts body (tested_body n c) (F.looping l n c body els ∷ sh)) _
        (all_stand body (tested_body n c) (F.looping l n c body els ∷ sh) xs (in_while next q x) first next e w.2
        (looping_on l n c body els sh xs x first next other q w g))
        (all_stand els (behind_body n c body) sh xs x other q e w.4 g)
    stm_stands (S.for l t it body els) n sh xs x p q e (first, next, other, hi, w) g =
        let m = n + size it + 1 in
        both (starts body (for_body m t) (F.iterating l m tt t body els ∷ sh)) _
        (all_stand body (for_body m t) (F.iterating l m tt t body els ∷ sh) xs (in_for next q x) w.2.0 next e w.2.2
        (iterating_on l m t body els sh xs x first next other q w g))
        (all_stand els (for_else m t body) sh xs x other q e w.4 g)
    stm_stands (S.try l body hs els none) n sh xs x p q e (m, hn, h) g =
        let f = try_finally n body hs els in
        guarded_stand body hs els n (F.ensuring n f none ∷ sh) [] xs x m q (all_stand body) (handlers_stand hs) (all_stand els) e h
        (unensured_on n f sh xs x q g) tt
    stm_stands (S.try l body hs els (more st ss)) n sh xs x p q e (m, hn, (row, ta, (m1, hg, hno), (m2, hp, he))) g =
        let f = try_finally n body hs els in
        guarded_stand body hs els n (F.ensuring n f (more st ss) ∷ sh) (starts (more st ss) f (F.ending n F.normal ∷ sh)) xs (under row x) m m1 (all_stand body)
        (handlers_stand hs) (all_stand els) e hg
        (ensured_on n f st ss sh xs x row m1 m2 q ta hno hp he g)
        (all_stand (more st ss) f (F.ending n F.normal ∷ sh) (x ∷ xs) (deeper x) row.target.0 m2 e hp (ending_on n sh xs x m2 q he g))
    stm_stands (S.with l is body) n sh xs x p q e h g =
        let i = items_inner is (All_at block code body) (stms_size body) n sh xs x p q h g in
        all_stand body (body_at is n) (within_items is (stms_size body) n sh) xs i.inner i.from i.to (i.same_starts ∙ e) i.stands i.goes
    stm_stands st n sh xs x p q e h g = tt

    all_stand : (ss : Stms) (n : ℕ) (sh : Shape) (xs : List Surroundings) (x : Surroundings) (p q : ℕ) → x.starts ≡ table → All_at block code ss n x p q
        → On sh xs x q → All_stand (starts ss n sh)
    all_stand none n sh xs x p q e h g = tt
    all_stand (more st ss) n sh xs x p q e (hst, (m, hs, (m', h, hr))) g = (
      record {
        place = p;
        surroundings = x;
        endings = xs;
        listed = subst (λ l. Contains l (record { pc = record { 0 = p }; line = record { 0 = jumps.starts_on st } })) e hst;
        goes_on = λ s σ f. law.at_stms n (more st ss) s x σ p q (hst, (m, hs, (m', h, hr))) (g s σ f);
      },
      both (starts_in st n (F.rest (n + stm_size st) ss ∷ sh)) _
          (stm_stands st n (F.rest (n + stm_size st) ss ∷ sh) xs x m m' e h (rest_on (n + stm_size st) ss sh xs x m' q hr g))
          (all_stand ss (n + stm_size st) sh xs x m' q e hr g),
    )

    branches_stand : (bs : Branches) (els : Stms) (n : ℕ) (sh : Shape) (xs : List Surroundings) (x : Surroundings) (p q : ℕ) → x.starts ≡ table
        → Branches_at block code bs (λ m. All_at block code els m x) n x p q → On sh xs x q → All_stand (branch_starts bs n sh)
    branches_stand S.no_branches els n sh xs x p q e h g = tt
    branches_stand (S.branch l c body r) els n sh xs x p q e (other, (m, hc, (m1, hj, (m2, hb, hend))), hr) g =
        both (starts body (tested_body n c) sh) _ (all_stand body (tested_body n c) sh xs x m1 m2 e hb (jump_on sh xs x m2 other q hend g))
        (branches_stand r els (behind_body n c body) sh xs x other q e hr g)

    handlers_stand : (hs : Handlers) (n : ℕ) (sh : Shape) (xs : List Surroundings) (x : Surroundings) (p end : ℕ) → x.starts ≡ table
        → Handlers_at block code hs n end x p → On sh xs x end → All_stand (handler_starts hs n sh)
    handlers_stand S.no_handlers n sh xs x p end e h g = tt
    handlers_stand (S.handler l S.absent y body r) n sh xs x p end e (other, (m, hn, (m1, hm, (m2, hs, hh))), hr) g =
        let same : n ≡ n + 0 = omega arith in
        subst (λ k. All_stand (starts body (handler_body k y) (with_name y (F.handling k tt ∷ sh)) ++ handler_starts r (handler_body k y + stms_size body) sh)) same
        (both (starts body (handler_body n y) (with_name y (F.handling n tt ∷ sh))) _ (handled_stand l n y body sh xs x m2 other end (all_stand body) e hh g)
        (handlers_stand r (handler_body n y + stms_size body) sh xs x other end e hr g))
    handlers_stand (S.handler l (S.given c) y body r) n sh xs x p end e (other, (m, hc, (m1, hm, (m2, hs, hh))), hr) g =
        both (starts body (handler_body (n + size c) y) (with_name y (F.handling (n + size c) tt ∷ sh))) _
        (handled_stand l (n + size c) y body sh xs x m2 other end (all_stand body) e hh g)
        (handlers_stand r (handler_body (n + size c) y + stms_size body) sh xs x other end e hr g)

module _ {V : Type 0} (block : Around V) (code : CodeObject V) where
  ended : (table : List Start) (p q : ℕ) → (Null_in block code (outermost table) ⨾ Move_in block code (outermost table) instr.Return) p q
      → On block code table [] [] (outermost table) p
  ended table p q h _ _ of_none = law.at_end table p q h

  pub statements_stand : StatementsStand block code
  statements_stand c table (end, behind, h, hr) line t e =
      each_on_line (Stands block code table) line (starts_of c) t
      (all_stand block code table (statements_of c) 0 [] [] (outermost table) 0 end refl h (ended table end behind hr)) e

  landed : (c : Code) (table : List Start) → Block_at block code table (statements_of c) → (place : Nest V) (line : ℕ) (k : Way V) (t : Target)
      → on_line line (starts_of c) ≡ Some t → (o : Option (Nest V)) → at_target t o ≡ lands k → Landing block code c table line k
  landed c table b place line k t first None e = absurd cc
  landed c table b place line k t first (Some s) e =
      let is : F.stms t.n t.ss s ≡ k = cc in
      let stands = statements_stand c table b line t first in
      subst (λ k. Landing block code c table line k) is (record {
        target = t;
        first = first;
        stands = stands;
        comes = λ σ f. ways_go_on block code (F.stms t.n t.ss s) stands.surroundings σ stands.place (stands.goes_on s σ f);
      })

  by_its_verdict : (c : Code) (table : List Start) → Block_at block code table (statements_of c) → (place : Nest V) (line : ℕ) (k : Way V) (t : Target)
      → on_line line (starts_of c) ≡ Some t → (v : Verdict) → by_verdict v t place ≡ lands k → Landing block code c table line k
  by_its_verdict c table b place line k t first permitted e = landed c table b place line k t first (filled t.within (kept place)) e
  by_its_verdict c table b place line k t first no_statement e = absurd cc
  by_its_verdict c table b place line k t first into_block e = absurd cc
  by_its_verdict c table b place line k t first out_of_finally e = absurd cc

  by_its_target : (c : Code) (table : List Start) → Block_at block code table (statements_of c) → (place : Nest V) (line : ℕ) (k : Way V) (o : Option Target)
      → on_line line (starts_of c) ≡ o → by_target o place ≡ lands k → Landing block code c table line k
  by_its_target c table b place line k None first e = absurd cc
  by_its_target c table b place line k (Some t) first e = by_its_verdict c table b place line k t first (verdict (parts place) (parts t.within)) e

  pub jumps_land : JumpsLand block code
  jumps_land c table b place line k e = by_its_target c table b place line k (on_line line (starts_of c)) refl e

  pub nests_are_filled : NestsAreFilled block code
  nests_are_filled _ _ _ _ (law.at_end table p q h) = ([], of_none)
  nests_are_filled _ _ _ _ (law.at_rest n ss s x σ p q h g) = let r = nests_are_filled s x σ q g in (r.0, of_rest n ss _ _ s σ r.1)
  nests_are_filled _ _ _ _ (law.at_looping l n c body els s x σ first next other end h g) =
      let r = nests_are_filled s x σ end g in (r.0, of_looping l n c body els _ _ s σ r.1)
  nests_are_filled _ _ _ _ (law.at_iterating l n i t body els s x σ first next other end h g) =
      let r = nests_are_filled s x σ end g in (r.0, of_iterating l n i t body els _ _ s σ r.1)
  nests_are_filled _ _ _ _ (law.at_unguarded n els s x σ p q h g) = let r = nests_are_filled s x σ q g in (r.0, of_guarded n S.no_handlers els _ _ s σ r.1)
  nests_are_filled _ _ _ _ (law.at_guarded l n c y body r els s x σ row p q behind end ta h hj hh g) =
      let f = nests_are_filled s x σ end g in (f.0, of_guarded n (S.handler l c y body r) els _ _ s σ f.1)
  nests_are_filled _ _ _ _ (law.at_unensured tried n s x σ p g) = let r = nests_are_filled s x σ p g in (r.0, of_ensuring tried n none _ _ s σ r.1)
  nests_are_filled _ _ _ _ (law.at_ensured tried n st ss s x σ row p q end ta hn hp he g) =
      let r = nests_are_filled s x σ end g in (r.0, of_ensuring tried n (more st ss) _ _ s σ r.1)
  nests_are_filled _ _ _ _ (law.at_ending tried held s x σ p q m h g) =
      let r = nests_are_filled s x σ q g in (x ∷ r.0, of_ending tried held x _ _ s σ m r.1)
  nests_are_filled _ _ _ _ (law.at_handling n e s x σ p q h g) = let r = nests_are_filled s x σ q g in (r.0, of_handling n e _ _ s σ r.1)
  nests_are_filled _ _ _ _ (law.at_naming y s x σ row p q ta hn h g) = let r = nests_are_filled s x σ q g in (r.0, of_naming y _ _ s σ r.1)
  nests_are_filled _ _ _ _ (law.at_withing l n w s x σ row p end ta hn h g) = let r = nests_are_filled s x σ end g in (r.0, of_withing l n w _ _ s σ r.1)
  nests_are_filled _ _ _ _ (law.nest_behind_jump s x σ p m q h g) = nests_are_filled s x σ q g
