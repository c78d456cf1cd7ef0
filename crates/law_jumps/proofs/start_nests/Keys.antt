-- The loop of each `finally` part of a block is told once.
use Rattle.std.proofs.Common.{◌≡◌, ℕ, ◌+◌, false, if◌then◌else◌, nat_eq, List, [], ◌∷◌, ◌++◌, Option, Some, None, refl, sym, ap, ◌∙◌, subst, arith}
use Rattle.std.proofs.lemmas.Bool.{eq-eqb}
use Rattle.pt_tree.specs.Syntax as S
use Rattle.pt_tree.specs.Syntax.{Items, Stm, Stms, Branches, Handlers, none, more}
use Rattle.pt_tree.specs.Sizes.{size, target_size, stm_size, stms_size}
use Rattle.sem_control.specs.control.Turn.{Around}
use Rattle.sem_control.specs.control.Numbers.{tested_body, behind_body, for_body, for_else, try_handlers, try_else, try_finally, handler_body}
use Rattle.sem_control.specs.control.Jump as J
use Rattle.sem_control.specs.control.Jump.{Part, for_part, with_part, tests_part, handler_part, finally_part, exit_part, same, body_at}
use Rattle.sem_control.specs.control.ClosedParts.{tests_of, finally_of, item_parts, parts_in, parts_of, branch_parts, handler_parts, Apart_from, All_apart}
use Rattle.sem_control.proofs.control.PartsApart.{parts_apart}
use Rattle.sem_code.specs.comp.Surroundings.{Surroundings}
use Rattle.sem_code.specs.comp.Surroundings as around_statement
use Rattle.sem_compile.specs.stm_pieces.Needed.{Behind, free}
use Rattle.law_jumps.specs.start_nests.Loops.{PartLoop, within_loop, ending_in, finally_loop, loops_of_items, loops_in, loops_of_all, loops_of_branches, loops_of_handlers}

abbrev numbers : List PartLoop → List ℕ
numbers [] = []
numbers (s ∷ ss) = s.tried ∷ numbers ss

-- the numbers of the `finally` parts among parts
abbrev finals : List Part → List ℕ
finals [] = []
finals (finally_part t ∷ ps) = t ∷ finals ps
finals (for_part n ∷ ps) = finals ps
finals (with_part n ∷ ps) = finals ps
finals (tests_part n ∷ ps) = finals ps
finals (handler_part n ∷ ps) = finals ps
finals (exit_part n ∷ ps) = finals ps

numbers_both : (ss us : List PartLoop) → numbers (ss ++ us) ≡ numbers ss ++ numbers us
numbers_both [] us = refl
numbers_both (s ∷ ss) us = ap (λ z. s.tried ∷ z) (numbers_both ss us)

finals_both : (ps qs : List Part) → finals (ps ++ qs) ≡ finals ps ++ finals qs
finals_both [] qs = refl
finals_both (finally_part t ∷ ps) qs = ap (λ z. t ∷ z) (finals_both ps qs)
finals_both (for_part n ∷ ps) qs = finals_both ps qs
finals_both (with_part n ∷ ps) qs = finals_both ps qs
finals_both (tests_part n ∷ ps) qs = finals_both ps qs
finals_both (handler_part n ∷ ps) qs = finals_both ps qs
finals_both (exit_part n ∷ ps) qs = finals_both ps qs

joined : (ss us : List PartLoop) (ps qs : List Part) → numbers ss ≡ finals ps → numbers us ≡ finals qs → numbers (ss ++ us) ≡ finals (ps ++ qs)
joined ss us ps qs e f = numbers_both ss us ∙ (ap (λ z. z ++ numbers us) e ∙ (ap (λ z. finals ps ++ z) f ∙ sym (finals_both ps qs)))

finally_numbers : (fin : Stms) (n : ℕ) (o : Option around_statement.Loop) → numbers (finally_loop fin n o) ≡ finals (finally_of fin n)
finally_numbers none n o = refl
finally_numbers (more st ss) n o = refl

tests_none : (hs : Handlers) (n : ℕ) (ps : List Part) → finals (tests_of hs n ++ ps) ≡ finals ps
tests_none S.no_handlers n ps = refl
tests_none (S.handler l c x body r) n ps = refl

module _ {V : Type 0} (around : Around V) (next : ℕ → ℕ) where
  items_numbers : (is : Items) (k n d p : ℕ) (inside : (depth from : ℕ) → List PartLoop) (ps : List Part) → ((d p : ℕ) → numbers (inside d p) ≡ finals ps)
      → numbers (loops_of_items around next is n d p inside) ≡ finals (item_parts is k n ps)
  items_numbers S.no_items k n d p inside ps f = f d p
  items_numbers (S.with_item l e None r) k n d p inside ps f = items_numbers r k (n + size e + 1) _ _ inside ps f
  items_numbers (S.with_item l e (Some t) r) k n d p inside ps f = items_numbers r k (n + size e + 1 + target_size t) _ _ inside ps f

  mutual
    stm_numbers : (st : Stm) (n : ℕ) (b : Behind) (d : ℕ) (o : Option around_statement.Loop) (p : ℕ) → numbers (loops_in around next st n b d o p)
        ≡ finals (parts_in st n)
    stm_numbers (S.choice l bs els) n b d o p =
        joined (loops_of_branches around next bs n d o p) _ (branch_parts bs n) (parts_of els (J.behind_branches bs n)) (branches_numbers bs n d o p)
        (all_numbers els (J.behind_branches bs n) _ d o _)
    stm_numbers (S.while l c body els) n b d o p =
        joined (loops_of_all around next body (tested_body n c) _ d _ _) _ (parts_of body (tested_body n c)) (parts_of els (behind_body n c body))
        (all_numbers body (tested_body n c) _ d _ _) (all_numbers els (behind_body n c body) _ d o _)
    stm_numbers (S.for l t it body els) n b d o p =
        joined (loops_of_all around next body (for_body (n + size it + 1) t) _ _ _ _) _ (parts_of body (for_body (n + size it + 1) t))
        (parts_of els (for_else (n + size it + 1) t body))
        (all_numbers body (for_body (n + size it + 1) t) _ _ _ _) (all_numbers els (for_else (n + size it + 1) t body) _ d o _)
    stm_numbers (S.try l body hs els fin) n b d o p =
        joined (finally_loop fin n o) _ (finally_of fin n)
        (parts_of body (n + 1) ++ (tests_of hs (try_handlers n body)
        ++ (handler_parts hs (try_handlers n body) ++ (parts_of els (try_else n body hs) ++ parts_of fin (try_finally n body hs els)))))
        (finally_numbers fin n o)
        (joined (loops_of_all around next body (n + 1) _ d o _) _ (parts_of body (n + 1))
        (tests_of hs (try_handlers n body) ++ (handler_parts hs (try_handlers n body)
        ++ (parts_of els (try_else n body hs) ++ parts_of fin (try_finally n body hs els))))
        (all_numbers body (n + 1) _ d o _)
        (joined (loops_of_handlers around next hs (try_handlers n body) d o _) _ (handler_parts hs (try_handlers n body))
        (parts_of els (try_else n body hs) ++ parts_of fin (try_finally n body hs els)) (handlers_numbers hs (try_handlers n body) d o _)
        (joined (loops_of_all around next els (try_else n body hs) _ d o _) _ (parts_of els (try_else n body hs)) (parts_of fin (try_finally n body hs els))
        (all_numbers els (try_else n body hs) _ d o _) (all_numbers fin (try_finally n body hs els) _ _ o _))
        ∙ sym (tests_none hs (try_handlers n body) (handler_parts hs (try_handlers n body)
        ++ (parts_of els (try_else n body hs) ++ parts_of fin (try_finally n body hs els))))))
    stm_numbers (S.with l is body) n b d o p =
        items_numbers is (stms_size body) n d p (λ e q. loops_of_all around next body (body_at is n) free e o q) (parts_of body (body_at is n))
        (λ e q. all_numbers body (body_at is n) free e o q)
    stm_numbers st n b d o p = refl

    pub all_numbers : (ss : Stms) (n : ℕ) (b : Behind) (d : ℕ) (o : Option around_statement.Loop) (p : ℕ) → numbers (loops_of_all around next ss n b d o p)
        ≡ finals (parts_of ss n)
    all_numbers none n b d o p = refl
    all_numbers (more st ss) n b d o p =
        joined (loops_in around next st n _ d o _) _ (parts_in st n) (parts_of ss (n + stm_size st)) (stm_numbers st n _ d o _)
        (all_numbers ss (n + stm_size st) b d o _)

    branches_numbers : (bs : Branches) (n d : ℕ) (o : Option around_statement.Loop) (p : ℕ) → numbers (loops_of_branches around next bs n d o p)
        ≡ finals (branch_parts bs n)
    branches_numbers S.no_branches n d o p = refl
    branches_numbers (S.branch l c body r) n d o p =
        joined (loops_of_all around next body (tested_body n c) free d o _) _ (parts_of body (tested_body n c)) (branch_parts r (behind_body n c body))
        (all_numbers body (tested_body n c) free d o _) (branches_numbers r (behind_body n c body) d o _)

    handlers_numbers : (hs : Handlers) (n d : ℕ) (o : Option around_statement.Loop) (p : ℕ) → numbers (loops_of_handlers around next hs n d o p)
        ≡ finals (handler_parts hs n)
    handlers_numbers S.no_handlers n d o p = refl
    handlers_numbers (S.handler l S.absent y body r) n d o p =
        let same_number : n ≡ n + 0 = omega arith in
        subst (λ k. numbers (loops_of_handlers around next (S.handler l S.absent y body r) n d o p)
        ≡ finals (parts_of body (handler_body k y) ++ handler_parts r (handler_body k y + stms_size body)))
        same_number (joined (loops_of_all around next body (handler_body n y) free (d + 1) o _) _ (parts_of body (handler_body n y))
        (handler_parts r (handler_body n y + stms_size body))
        (all_numbers body (handler_body n y) free (d + 1) o _) (handlers_numbers r (handler_body n y + stms_size body) d o _))
    handlers_numbers (S.handler l (S.given c) y body r) n d o p =
        joined (loops_of_all around next body (handler_body (n + size c) y) free (d + 1) o _) _ (parts_of body (handler_body (n + size c) y))
        (handler_parts r (handler_body (n + size c) y + stms_size body))
        (all_numbers body (handler_body (n + size c) y) free (d + 1) o _) (handlers_numbers r (handler_body (n + size c) y + stms_size body) d o _)

-- no number stands there twice

abbrev Other : ℕ → List ℕ → Type 0
Other t [] = Unit {0}
Other t (u ∷ us) = (nat_eq t u ≡ false) × Other t us

abbrev Different : List ℕ → Type 0
Different [] = Unit {0}
Different (t ∷ ts) = Other t ts × Different ts

other : (t : ℕ) (ps : List Part) → Apart_from (finally_part t) ps → Other t (finals ps)
other t [] a = tt
other t (finally_part u ∷ ps) a = (a.0, other t ps a.1)
other t (for_part n ∷ ps) a = other t ps a.1
other t (with_part n ∷ ps) a = other t ps a.1
other t (tests_part n ∷ ps) a = other t ps a.1
other t (handler_part n ∷ ps) a = other t ps a.1
other t (exit_part n ∷ ps) a = other t ps a.1

different : (ps : List Part) → All_apart ps → Different (finals ps)
different [] a = tt
different (finally_part t ∷ ps) a = (other t ps a.0, different ps a.1)
different (for_part n ∷ ps) a = different ps a.1
different (with_part n ∷ ps) a = different ps a.1
different (tests_part n ∷ ps) a = different ps a.1
different (handler_part n ∷ ps) a = different ps a.1
different (exit_part n ∷ ps) a = different ps a.1

abbrev Told_by : (ℕ → Surroundings) → List PartLoop → Type 0
Told_by f [] = Unit {0}
Told_by f (s ∷ ss) = (f s.tried ≡ within_loop s.loop) × Told_by f ss

further : (s : PartLoop) (ss us : List PartLoop) → Other s.tried (numbers us) → Told_by (ending_in ss) us → Told_by (ending_in (s ∷ ss)) us
further s ss [] a t = tt
further s ss (u ∷ us) (e, a) (h, t) = (ap (λ z. if z then within_loop s.loop else ending_in ss u.tried) e ∙ h, further s ss us a t)

each_told : (ss : List PartLoop) → Different (numbers ss) → Told_by (ending_in ss) ss
each_told [] a = tt
each_told (s ∷ ss) (a, b) = (ap (λ z. if z then within_loop s.loop else ending_in ss s.tried) (eq-eqb s.tried s.tried refl), further s ss ss a (each_told ss b))

pub block_told : {V : Type 0} (around : Around V) (next : ℕ → ℕ) (ss : Stms)
    → Told_by (ending_in (loops_of_all around next ss 0 free 0 None 0)) (loops_of_all around next ss 0 free 0 None 0)
block_told around next ss =
    each_told (loops_of_all around next ss 0 free 0 None 0) (subst Different (sym (all_numbers around next ss 0 free 0 None 0))
    (different (parts_of ss 0) (parts_apart ss)))
