-- The loop of each `finally` part of a block is told once, and statements stand in their loops.
use Rattle.std.proofs.Common.{◌≡◌, ℕ, ◌+◌, Bool, true, false, ◌||◌, if◌then◌else◌, nat_eq, List, [], ◌∷◌, ◌++◌, Option, Some, None, refl, sym, ap, ◌∙◌, subst, arith}
use Rattle.std.proofs.lemmas.Bool.{eq-eqb}
use Rattle.pt_tree.specs.Syntax as S
use Rattle.pt_tree.specs.Syntax.{Items, Stm, Stms, Branches, Handlers, none, more}
use Rattle.pt_tree.specs.Sizes.{size, target_size, stm_size, stms_size}
use Rattle.pt_tree.specs.Blocks.{Code}
use Rattle.sem_control.specs.control.Numbers.{tested_body, behind_body, for_body, for_else, try_handlers, try_else, try_finally, handler_body}
use Rattle.sem_control.specs.control.Jump as J
use Rattle.sem_control.specs.control.Jump.{Part, for_part, with_part, tests_part, handler_part, finally_part, exit_part, body_at, statements_of}
use Rattle.sem_control.specs.control.ClosedParts.{tests_of, finally_of, item_parts, parts_in, parts_of, branch_parts, handler_parts, Apart_from, All_apart}
use Rattle.sem_control.proofs.control.PartsApart.{parts_apart}
use Rattle.pt_assembler.specs.declared.operation.Exit.{Exit}
use Rattle.pt_assembler.specs.declared.operation.Exit.TheVariants.{Break, Continue}
use Rattle.sem_compile.specs.stm_pieces.Needed.{exits, some_exits, some_branch_exits, some_handler_exits}
use Rattle.law_pieces.specs.held_exits.Bodies.{Body, a_body, exits_in, PartBody, body_in, finally_body, bodies_in, bodies_of_all, bodies_of_branches, bodies_of_handlers, bodies_of_code}
use Rattle.law_pieces.specs.held_exits.Laws.{ExitsInLoops}
use Rattle.law_pieces.proofs.held_exits.Fits.{Ensured, Stm_fits, Stms_fit, Branches_fit, Handlers_fit}

abbrev numbers : List PartBody → List ℕ
numbers [] = []
numbers (s ∷ ss) = s.tried ∷ numbers ss

-- the numbers of the `finally` parts among parts
abbrev finals : List Part → List ℕ
finals [] = []
finals (finally_part t ∷ ps) = t ∷ finals ps
finals (for_part n ∷ ps) = finals ps
finals (with_part n ∷ ps) = finals ps
finals (tests_part n ∷ ps) = finals ps
finals (handler_part n ∷ ps) = finals ps
finals (exit_part n ∷ ps) = finals ps

numbers_both : (ss us : List PartBody) → numbers (ss ++ us) ≡ numbers ss ++ numbers us
numbers_both [] us = refl
numbers_both (s ∷ ss) us = ap (λ z. s.tried ∷ z) (numbers_both ss us)

finals_both : (ps qs : List Part) → finals (ps ++ qs) ≡ finals ps ++ finals qs
finals_both [] qs = refl
finals_both (finally_part t ∷ ps) qs = ap (λ z. t ∷ z) (finals_both ps qs)
finals_both (for_part n ∷ ps) qs = finals_both ps qs
finals_both (with_part n ∷ ps) qs = finals_both ps qs
finals_both (tests_part n ∷ ps) qs = finals_both ps qs
finals_both (handler_part n ∷ ps) qs = finals_both ps qs
finals_both (exit_part n ∷ ps) qs = finals_both ps qs

beside : (ss us : List PartBody) (ps qs : List Part) → numbers ss ≡ finals ps → numbers us ≡ finals qs → numbers (ss ++ us) ≡ finals (ps ++ qs)
beside ss us ps qs e f = numbers_both ss us ∙ (ap (λ z. z ++ numbers us) e ∙ (ap (λ z. finals ps ++ z) f ∙ sym (finals_both ps qs)))

finally_numbers : (fin : Stms) (n : ℕ) (o : Option Body) → numbers (finally_body fin n o) ≡ finals (finally_of fin n)
finally_numbers none n o = refl
finally_numbers (more st ss) n o = refl

tests_none : (hs : Handlers) (n : ℕ) (ps : List Part) → finals (tests_of hs n ++ ps) ≡ finals ps
tests_none S.no_handlers n ps = refl
tests_none (S.handler l c x body r) n ps = refl

items_none : (is : Items) (k n : ℕ) (ps : List Part) → finals (item_parts is k n ps) ≡ finals ps
items_none S.no_items k n ps = refl
items_none (S.with_item l e None r) k n ps = items_none r k (n + size e + 1) ps
items_none (S.with_item l e (Some t) r) k n ps = items_none r k (n + size e + 1 + target_size t) ps

mutual
  stm_numbers : (st : Stm) (n : ℕ) (o : Option Body) → numbers (bodies_in st n o) ≡ finals (parts_in st n)
  stm_numbers (S.choice l bs els) n o =
      beside (bodies_of_branches bs n o) _ (branch_parts bs n) (parts_of els (J.behind_branches bs n)) (branches_numbers bs n o)
      (all_numbers els (J.behind_branches bs n) o)
  stm_numbers (S.while l c body els) n o =
      beside (bodies_of_all body (tested_body n c) _) _ (parts_of body (tested_body n c)) (parts_of els (behind_body n c body))
      (all_numbers body (tested_body n c) _) (all_numbers els (behind_body n c body) o)
  stm_numbers (S.for l t it body els) n o =
      beside (bodies_of_all body (for_body (n + size it + 1) t) _) _ (parts_of body (for_body (n + size it + 1) t))
      (parts_of els (for_else (n + size it + 1) t body))
      (all_numbers body (for_body (n + size it + 1) t) _) (all_numbers els (for_else (n + size it + 1) t body) o)
  stm_numbers (S.try l body hs els fin) n o =
      beside (finally_body fin n o) _ (finally_of fin n)
      (parts_of body (n + 1) ++ (tests_of hs (try_handlers n body)
      ++ (handler_parts hs (try_handlers n body) ++ (parts_of els (try_else n body hs) ++ parts_of fin (try_finally n body hs els)))))
      (finally_numbers fin n o)
      (beside (bodies_of_all body (n + 1) o) _ (parts_of body (n + 1))
      (tests_of hs (try_handlers n body) ++ (handler_parts hs (try_handlers n body)
      ++ (parts_of els (try_else n body hs) ++ parts_of fin (try_finally n body hs els))))
      (all_numbers body (n + 1) o)
      (beside (bodies_of_handlers hs (try_handlers n body) o) _ (handler_parts hs (try_handlers n body))
      (parts_of els (try_else n body hs) ++ parts_of fin (try_finally n body hs els)) (handlers_numbers hs (try_handlers n body) o)
      (beside (bodies_of_all els (try_else n body hs) o) _ (parts_of els (try_else n body hs)) (parts_of fin (try_finally n body hs els))
      (all_numbers els (try_else n body hs) o) (all_numbers fin (try_finally n body hs els) o))
      ∙ sym (tests_none hs (try_handlers n body) (handler_parts hs (try_handlers n body)
      ++ (parts_of els (try_else n body hs) ++ parts_of fin (try_finally n body hs els))))))
  stm_numbers (S.with l is body) n o = all_numbers body (body_at is n) o ∙ sym (items_none is (stms_size body) n (parts_of body (body_at is n)))
  stm_numbers st n o = refl

  all_numbers : (ss : Stms) (n : ℕ) (o : Option Body) → numbers (bodies_of_all ss n o) ≡ finals (parts_of ss n)
  all_numbers none n o = refl
  all_numbers (more st ss) n o =
      beside (bodies_in st n o) _ (parts_in st n) (parts_of ss (n + stm_size st)) (stm_numbers st n o) (all_numbers ss (n + stm_size st) o)

  branches_numbers : (bs : Branches) (n : ℕ) (o : Option Body) → numbers (bodies_of_branches bs n o) ≡ finals (branch_parts bs n)
  branches_numbers S.no_branches n o = refl
  branches_numbers (S.branch l c body r) n o =
      beside (bodies_of_all body (tested_body n c) o) _ (parts_of body (tested_body n c)) (branch_parts r (behind_body n c body))
      (all_numbers body (tested_body n c) o) (branches_numbers r (behind_body n c body) o)

  handlers_numbers : (hs : Handlers) (n : ℕ) (o : Option Body) → numbers (bodies_of_handlers hs n o) ≡ finals (handler_parts hs n)
  handlers_numbers S.no_handlers n o = refl
  handlers_numbers (S.handler l S.absent y body r) n o =
      let same_number : n ≡ n + 0 = omega arith in
      subst (λ k. numbers (bodies_of_handlers (S.handler l S.absent y body r) n o)
      ≡ finals (parts_of body (handler_body k y) ++ handler_parts r (handler_body k y + stms_size body)))
      same_number (beside (bodies_of_all body (handler_body n y) o) _ (parts_of body (handler_body n y))
      (handler_parts r (handler_body n y + stms_size body))
      (all_numbers body (handler_body n y) o) (handlers_numbers r (handler_body n y + stms_size body) o))
  handlers_numbers (S.handler l (S.given c) y body r) n o =
      beside (bodies_of_all body (handler_body (n + size c) y) o) _ (parts_of body (handler_body (n + size c) y))
      (handler_parts r (handler_body (n + size c) y + stms_size body))
      (all_numbers body (handler_body (n + size c) y) o) (handlers_numbers r (handler_body (n + size c) y + stms_size body) o)

-- no number stands there twice

abbrev Other : ℕ → List ℕ → Type 0
Other t [] = Unit {0}
Other t (u ∷ us) = (nat_eq t u ≡ false) × Other t us

abbrev Different : List ℕ → Type 0
Different [] = Unit {0}
Different (t ∷ ts) = Other t ts × Different ts

other : (t : ℕ) (ps : List Part) → Apart_from (finally_part t) ps → Other t (finals ps)
other t [] a = tt
other t (finally_part u ∷ ps) a = (a.0, other t ps a.1)
other t (for_part n ∷ ps) a = other t ps a.1
other t (with_part n ∷ ps) a = other t ps a.1
other t (tests_part n ∷ ps) a = other t ps a.1
other t (handler_part n ∷ ps) a = other t ps a.1
other t (exit_part n ∷ ps) a = other t ps a.1

different : (ps : List Part) → All_apart ps → Different (finals ps)
different [] a = tt
different (finally_part t ∷ ps) a = (other t ps a.0, different ps a.1)
different (for_part n ∷ ps) a = different ps a.1
different (with_part n ∷ ps) a = different ps a.1
different (tests_part n ∷ ps) a = different ps a.1
different (handler_part n ∷ ps) a = different ps a.1
different (exit_part n ∷ ps) a = different ps a.1

abbrev Told_by : (ℕ → Option Body) → List PartBody → Type 0
Told_by f [] = Unit {0}
Told_by f (s ∷ ss) = (f s.tried ≡ s.body) × Told_by f ss

further : (s : PartBody) (ss us : List PartBody) → Other s.tried (numbers us) → Told_by (body_in ss) us → Told_by (body_in (s ∷ ss)) us
further s ss [] a t = tt
further s ss (u ∷ us) (e, a) (h, t) = (ap (λ z. if z then s.body else body_in ss u.tried) e ∙ h, further s ss us a t)

each_told : (ss : List PartBody) → Different (numbers ss) → Told_by (body_in ss) ss
each_told [] a = tt
each_told (s ∷ ss) (a, b) = (ap (λ z. if z then s.body else body_in ss s.tried) (eq-eqb s.tried s.tried refl), further s ss ss a (each_told ss b))

-- statements of which the table tells stand in their loops

or_left : (a b : Bool) → a ≡ true → (a || b) ≡ true
or_left true b e = refl
or_left false b e = absurd cc

or_right : (a b : Bool) → b ≡ true → (a || b) ≡ true
or_right true b e = refl
or_right false b e = e

told_front : (f : ℕ → Option Body) (ss us : List PartBody) → Told_by f (ss ++ us) → Told_by f ss
told_front f [] us h = tt
told_front f (s ∷ ss) us h = (h.0, told_front f ss us h.1)

told_back : (f : ℕ → Option Body) (ss us : List PartBody) → Told_by f (ss ++ us) → Told_by f us
told_back f [] us h = h
told_back f (s ∷ ss) us h = told_back f ss us h.1

-- a `break` and a `continue` are those of the loop around
abbrev Lead_out : (Exit → Bool) → Option Body → Type 0
Lead_out f o = (e : Exit) → f e ≡ true → exits_in e o ≡ true

module _ (f : ℕ → Option Body) where
  ensured : (fin : Stms) (n : ℕ) (o : Option Body) → Told_by f (finally_body fin n o) → Ensured f fin n o
  ensured none n o t = tt
  ensured (more st ss) n o t = t.0

  mutual
    stm_fits : (st : Stm) (n : ℕ) (o : Option Body) → Told_by f (bodies_in st n o) → Lead_out (λ e. exits e st) o → Stm_fits f st n o
    stm_fits (S.break l) n o t u = u Break refl
    stm_fits (S.continue l) n o t u = u Continue refl
    stm_fits (S.choice l bs els) n o t u =
        (branches_fit bs n o (told_front f _ _ t) (λ e h. u e (or_left _ _ h)), all_fit els (J.behind_branches bs n) o (told_back f (bodies_of_branches bs n o) _ t) (λ e h. u e (or_right _ _ h)))
    stm_fits (S.while l c body els) n o t u =
        let b = Some (a_body (tested_body n c) body) in
        (all_fit body (tested_body n c) b (told_front f _ _ t) (λ e h. h), all_fit els (behind_body n c body) o (told_back f (bodies_of_all body (tested_body n c) b) _ t) u)
    stm_fits (S.for l x it body els) n o t u =
        let m = for_body (n + size it + 1) x in
        let b = Some (a_body m body) in
        (all_fit body m b (told_front f _ _ t) (λ e h. h), all_fit els (for_else (n + size it + 1) x body) o (told_back f (bodies_of_all body m b) _ t) u)
    stm_fits (S.try l body hs els fin) n o t u =
        let t1 = told_back f (finally_body fin n o) _ t in
        let t2 = told_back f (bodies_of_all body (n + 1) o) _ t1 in
        let t3 = told_back f (bodies_of_handlers hs (try_handlers n body) o) _ t2 in (
          ensured fin n o (told_front f _ _ t),
          all_fit body (n + 1) o (told_front f _ _ t1) (λ e h. u e (or_left _ _ h)),
          handlers_fit hs (try_handlers n body) o (told_front f _ _ t2) (λ e h. u e (or_right (some_exits e body) _ (or_left _ _ h))),
          all_fit els (try_else n body hs) o (told_front f _ _ t3) (λ e h. u e (or_right (some_exits e body) _ (or_right (some_handler_exits e hs) _ (or_left _ _ h)))),
          all_fit fin (try_finally n body hs els) o (told_back f (bodies_of_all els (try_else n body hs) o) _ t3)
              (λ e h. u e (or_right (some_exits e body) _ (or_right (some_handler_exits e hs) _ (or_right (some_exits e els) _ h)))),
        )
    stm_fits (S.with l is body) n o t u = all_fit body (body_at is n) o t u
    stm_fits st n o t u = tt

    all_fit : (ss : Stms) (n : ℕ) (o : Option Body) → Told_by f (bodies_of_all ss n o) → Lead_out (λ e. some_exits e ss) o → Stms_fit f ss n o
    all_fit none n o t u = tt
    all_fit (more st ss) n o t u =
        (stm_fits st n o (told_front f _ _ t) (λ e h. u e (or_left _ _ h)), all_fit ss (n + stm_size st) o (told_back f (bodies_in st n o) _ t) (λ e h. u e (or_right (exits e st) _ h)))

    branches_fit : (bs : Branches) (n : ℕ) (o : Option Body) → Told_by f (bodies_of_branches bs n o) → Lead_out (λ e. some_branch_exits e bs) o → Branches_fit f bs n o
    branches_fit S.no_branches n o t u = tt
    branches_fit (S.branch l c body r) n o t u = (
      all_fit body (tested_body n c) o (told_front f _ _ t) (λ e h. u e (or_left _ _ h)),
      branches_fit r (behind_body n c body) o (told_back f (bodies_of_all body (tested_body n c) o) _ t) (λ e h. u e (or_right (some_exits e body) _ h)),
    )

    handlers_fit : (hs : Handlers) (n : ℕ) (o : Option Body) → Told_by f (bodies_of_handlers hs n o) → Lead_out (λ e. some_handler_exits e hs) o → Handlers_fit f hs n o
    handlers_fit S.no_handlers n o t u = tt
    handlers_fit (S.handler l S.absent x body r) n o t u = (
      all_fit body (handler_body n x) o (told_front f _ _ t) (λ e h. u e (or_left _ _ h)),
      handlers_fit r (handler_body n x + stms_size body) o (told_back f (bodies_of_all body (handler_body n x) o) _ t) (λ e h. u e (or_right (some_exits e body) _ h)),
    )
    handlers_fit (S.handler l (S.given c) x body r) n o t u = (
      all_fit body (handler_body (n + size c) x) o (told_front f _ _ t) (λ e h. u e (or_left _ _ h)),
      handlers_fit r (handler_body (n + size c) x + stms_size body) o (told_back f (bodies_of_all body (handler_body (n + size c) x) o) _ t)
          (λ e h. u e (or_right (some_exits e body) _ h)),
    )

nowhere : (ss : Stms) → ((e : Exit) → some_exits e ss ≡ false) → Lead_out (λ e. some_exits e ss) None
nowhere ss f e h = sym (f e) ∙ h

pub code_fits : (c : Code) → ExitsInLoops c → Stms_fit (bodies_of_code c) (statements_of c) 0 None
code_fits c f =
    let ss = statements_of c in
    all_fit (bodies_of_code c) ss 0 None (each_told (bodies_of_all ss 0 None) (subst Different (sym (all_numbers ss 0 None)) (different (parts_of ss 0) (parts_apart ss)))) (nowhere ss f)
