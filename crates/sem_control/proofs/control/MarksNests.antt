-- What is said of each act of a block in the nest that the tree gives it is said of each act that
-- control comes to, in the nest where it is.
use Rattle.std.proofs.Common.{◌≡◌, ℕ, ◌+◌, ◌<◌, ◌≤◌, List, [], ◌∷◌, length, Option, Some, None, refl, subst, arith}
use Rattle.pt_tree.specs.declared.act.ActRow.{ActRow}
use Rattle.pt_tree.specs.declared.act.ActKind.{ActKind}
use Rattle.pt_tree.specs.declared.act.ActKind.TheVariants as K
use Rattle.pt_tree.specs.Syntax as S
use Rattle.pt_tree.specs.Syntax.{Name, Exp, Opt, Tgt, Items, Stm, Stms, Branches, Handlers, none, more}
use Rattle.pt_tree.specs.Sizes.{size, opt_size, target_size, items_size, stm_size, stms_size}
use Rattle.pt_tree.specs.Acts.{act, acts_exp, acts_target, acts_stm}
use Rattle.pt_tree.specs.Blocks as B
use Rattle.pt_tree.specs.Blocks.{Code, acts_of_code, function_body}
use Rattle.pt_tree.proofs.Counts.{count_exp, count_target, count_stm}
use Rattle.sem_control.specs.control.Turn as T
use Rattle.sem_control.specs.control.Turn.{Mark, Around, Ask, Answer, Reply}
use Rattle.sem_control.specs.control.Frames as F
use Rattle.sem_control.specs.control.Frames.{raise, by, Nest, Way, Control}
use Rattle.sem_control.specs.control.Bases.{way_base}
use Rattle.sem_control.specs.control.Numbers.{tested_body, behind_body, for_body, for_else, try_handlers, try_else, try_finally, handler_body}
use Rattle.sem_control.specs.control.Control.{nest_at, turn}
use Rattle.sem_control.specs.control.Jump.{Shape, shape, with_name, behind_branches}
use Rattle.sem_control.specs.control.Reached.{Reaches}
use Rattle.sem_control.specs.control.Laws.{GoesInNests, StartsInNests, LandsInNests, RaisesInNests}
use Rattle.sem_control.specs.control.Nests.{Each_says, Stm_says, Stms_say, Branches_say, Handlers_say, Items_say, Code_says, Turn_says, Next_says}
use Rattle.sem_control.proofs.control.MarksTree.{Numbering, Exp_in, Opt_in, Target_in, Name_in, Items_in, Stm_in, Stms_in, Branches_in, Handlers_in}
use Rattle.sem_control.proofs.control.MarksFrames.{Marked, Control_in}
use Rattle.sem_control.proofs.control.MarksBases.{way_base_in}
use Rattle.sem_control.proofs.control.MarksCompletions.{complete_in}
use Rattle.sem_control.proofs.control.MarksControl.{go_in}
use Rattle.sem_control.proofs.control.MarksPaths.{reaches_then}
use Rattle.sem_control.proofs.control.MarksRows.{is_said, Holds, numbering, single_said, each_said}
use Rattle.sem_control.proofs.control.MarksActs.{exp_in, target_in}
use Rattle.sem_control.proofs.control.MarksBlocks.{simple_in}
use Rattle.sem_control.proofs.control.MarksLaw.{reaches_in, Code_in, start_code_in, lambda_in, generator_in}
use Rattle.sem_control.proofs.control.MarksJumps.{jump_in}

module _ (Says : Shape → (act : ℕ) → Type 0) where
  -- the acts are numbered by what is said of them
  abbrev pub by_says : Shape → Numbering
  by_says s = numbering (is_said (Says s))

  -- from what is said of each act of a range
  exp_said : (e : Exp) (n m : ℕ) (s : Shape) → n + size e ≤ m → Each_says Says s n m
      → Exp_in (by_says s) e n
  exp_said e n m s fits h =
      let many : n + length (acts_exp e) ≡ n + size e = omega (arith, count_exp e) in
      exp_in (is_said (Says s)) e n
      (each_said (Says s) (acts_exp e) n (n + size e) many
      (λ k low high. let below : k < m = omega (arith, fits, high) in h k low below))

  target_said : (t : Tgt) (l n m : ℕ) (s : Shape) → l ≤ n → n + target_size t ≤ m
      → Each_says Says s l m → Target_in (by_says s) t n
  target_said t l n m s from fits h =
      let many : n + length (acts_target t) ≡ n + target_size t = omega (arith, count_target t) in
      target_in (is_said (Says s)) t n
      (each_said (Says s) (acts_target t) n (n + target_size t) many
      (λ k low high.
      let above : l ≤ k = omega (arith, from, low) in
      let below : k < m = omega (arith, fits, high) in h k above below))

  one_said : (k : ActKind) (l n : ℕ) (s : Shape) → Says s n → (by_says s).is k l n
  one_said k l n s h =
      let many : n + 1 ≡ n + 1 = refl in
      each_said (Says s) (act k l) n (n + 1) many
      (λ j low high. let same : n ≡ j = omega (arith, low, high) in subst (Says s) same h)

  at_said : (k : ActKind) (l n a b : ℕ) (s : Shape) → a ≤ n → n < b → Each_says Says s a b
      → (by_says s).is k l n
  at_said k l n a b s low high h = one_said k l n s (h n low high)

  name_said : (l : ℕ) (x : Option Name) (n : ℕ) (s : Shape) (End : ℕ → Shape → Type 0)
      → Each_says Says (F.handling n tt ∷ s) (n + 1) (handler_body n x)
      → End (handler_body n x) (with_name x (F.handling n tt ∷ s)) → Name_in by_says l x n s End
  name_said l None n s End h g = g
  name_said l (Some x) n s End h g =
      (at_said K.Store l (n + 1) (n + 1) (n + 1 + 1) _ (omega arith) (omega arith) h, g)

  -- the class of a handler, if it has one, in front of its Match
  class_said : (c : Opt) (n : ℕ) (s : Shape) (End : ℕ → Type 0)
      → Each_says Says s n (n + opt_size c + 1) → End (n + opt_size c) → Opt_in (by_says s) c n End
  class_said S.absent n s End h g = let same : n + 0 ≡ n = omega arith in subst End same g
  class_said (S.given e) n s End h g = (exp_said e n (n + size e + 1) s (omega arith) h, g)

  items_said : (is : Items) (k : ℕ) (Inside Body : ℕ → Shape → Type 0)
      → ((m : ℕ) (u : Shape) → Inside m u → Body m u)
      → (n : ℕ) (s : Shape) → Items_say Says is k Inside n s → Items_in by_says is k Body n s
  items_said S.no_items k Inside Body to n s h = to n s h
  items_said (S.with_item l e None r) k Inside Body to n s (h, hr, hx) =
      let m = n + size e + 1 in (
        exp_said e n m s (omega arith) h,
        at_said K.Enter l (n + size e) n m s (omega arith) (omega arith) h,
        (items_said r k Inside Body to m _ hr, one_said K.Exit l (m + items_size r k) _ hx),
      )
  items_said (S.with_item l e (Some t) r) k Inside Body to n s (h, ht, hr, hx) =
      let m = n + size e + 1 in
      let o = m + target_size t in (
        exp_said e n m s (omega arith) h,
        at_said K.Enter l (n + size e) n m s (omega arith) (omega arith) h,
        (
          target_said t m m o _ (omega arith) (omega arith) ht,
          (items_said r k Inside Body to o _ hr, one_said K.Exit l (o + items_size r k) _ hx),
        ),
      )

  mutual
    stm_said : (st : Stm) (n : ℕ) (s : Shape) → Stm_says Says st n s → Stm_in by_says st n s
    stm_said (S.choice l bs els) n s (h, he) =
        branches_said bs els n s h (stms_said els (behind_branches bs n) s he)
    stm_said (S.while l c body els) n s (h, hb, he) = (
      exp_said c n (tested_body n c) s (omega arith) h,
      tt,
      at_said K.Branch l (n + size c) n (tested_body n c) s (omega arith) (omega arith) h,
      stms_said body (tested_body n c) _ hb,
      stms_said els (behind_body n c body) s he,
    )
    stm_said (S.for l t it body els) n s (h, ht, hb, he) =
        let m = n + size it + 1 in (
          exp_said it n m s (omega arith) h,
          at_said K.Iter l (n + size it) n m s (omega arith) (omega arith) h,
          at_said K.Next l m m (for_body m t) _ (omega arith) (omega arith) ht,
          tt,
          target_said t m (m + 1) (for_body m t) _ (omega arith) (omega arith) ht,
          stms_said body (for_body m t) _ hb,
          stms_said els (for_else m t body) s he,
        )
    stm_said (S.try l body hds els fin) n s (h, hb, hh, he, hf) = (
      one_said K.Try l n s h,
      stms_said body (n + 1) _ hb,
      handlers_said (try_handlers n body) hds (try_handlers n body) _ hh,
      stms_said els (try_else n body hds) _ he,
      stms_said fin (try_finally n body hds els) _ hf,
    )
    stm_said (S.with l is body) n s h =
        items_said is (stms_size body) _ _ (λ m u g. stms_said body m u g) n s h
    stm_said st n s h =
        let many : n + length (acts_stm st) ≡ n + stm_size st = omega (arith, count_stm st) in
        simple_in (is_said (Says s)) st n
        (each_said (Says s) (acts_stm st) n (n + stm_size st) many h)

    stms_said : (ss : Stms) (n : ℕ) (s : Shape) → Stms_say Says ss n s → Stms_in by_says ss n s
    stms_said none n s h = tt
    stms_said (more st ss) n s (h, hs) = (stm_said st n _ h, stms_said ss (n + stm_size st) s hs)

    branches_said : (bs : Branches) (els : Stms) (n : ℕ) (s : Shape) → Branches_say Says bs n s
        → Stms_in by_says els (behind_branches bs n) s
        → Branches_in by_says bs n s (λ m. Stms_in by_says els m s)
    branches_said S.no_branches els n s h g = g
    branches_said (S.branch l c body r) els n s (h, hb, hr) g = (
      exp_said c n (tested_body n c) s (omega arith) h,
      at_said K.Branch l (n + size c) n (tested_body n c) s (omega arith) (omega arith) h,
      stms_said body (tested_body n c) s hb,
      branches_said r els (behind_body n c body) s hr g,
    )

    handlers_said : (f : ℕ) (hds : Handlers) (n : ℕ) (s : Shape)
        → Handlers_say Says f hds n s → Handlers_in by_says f hds n s
    handlers_said f S.no_handlers n s h = tt
    handlers_said f (S.handler l c x body r) n s (h, hn, hb, hr) =
        let m = n + opt_size c in
        let u : Shape = F.testing f tt ∷ s in
        let o = handler_body m x + stms_size body in
        class_said c n u _ h (
          at_said K.Match l m n (m + 1) u (omega arith) (omega arith) h,
          name_said l x m s _ hn
              (stms_said body (handler_body m x) _ hb, handlers_said f r o s hr),
        )

  all_said : (xs : List ActRow) → Each_says Says [] 0 (length xs) → Holds (is_said (Says [])) 0 xs
  all_said xs h =
      let many : 0 + length xs ≡ length xs = omega arith in
      each_said (Says []) xs 0 (length xs) many h

  code_said : (code : Code) → Code_says Says code → Code_in by_says code
  code_said (B.of_module ss) h = stms_said ss 0 [] h
  code_said (B.of_function ss) h = stms_said (function_body ss) 0 [] h
  code_said (B.of_class ss) h = stms_said ss 0 [] h
  code_said (B.of_lambda l e) h =
      lambda_in (is_said (Says [])) l e (all_said (acts_of_code (B.of_lambda l e)) h)
  code_said (B.of_generator l e k t cs) h =
      generator_in (is_said (Says [])) l e k t cs
      (all_said (acts_of_code (B.of_generator l e k t cs)) h)

  marked_says : (k : ActKind) (m : Mark) (s : Shape) → Marked (by_says s) m k → Says s m.act
  marked_says k m s h = single_said (Says s) k m.line m.act h.0

  next_said : {V : Type 0} (block : Around V) (c : Control V)
      → Control_in by_says c → Next_says Says block c
  next_said block (F.for_value m a w) h = marked_says _ m _ h.0
  next_said block (F.for_deed m a k s) h = marked_says _ m _ h.0
  next_said block (F.for_leave m a s) h = marked_says _ m _ h.0
  next_said block (F.for_throw m a s) h = marked_says _ m _ h.0
  next_said block (F.for_truth m a t f s) h = marked_says _ m _ h.0
  next_said block (F.for_iter m v o) h = marked_says _ m _ h.0
  next_said block (F.for_item m i n t k f) h = marked_says _ m _ h.0
  next_said block (F.for_entry m v l n t is body s) h = marked_says _ m _ h.0
  next_said block (F.for_unpack m v n ts k s) h = marked_says _ m _ h.0
  next_said block (F.for_delegate m i r w) h = marked_says _ m _ h.0
  next_said block (F.silent_value a w) h = tt
  next_said block (F.silent_deed a k s) h = tt
  next_said block (F.noting a k s) h = tt
  next_said block (F.closed e) h = tt

  module _ {V : Type 0} (block : Around V) (code : Code) where
    pub acts_in_nests : (first : V) → StartsInNests Says code block first
    acts_in_nests first h d r =
        let begins = start_code_in by_says block code first (code_said code h) in
        next_said block d (reaches_in by_says block _ d begins r)

    pub acts_behind_jumps_in_nests : (p : Nest V) (line : ℕ) → LandsInNests Says code block p line
    acts_behind_jumps_in_nests p line h k jumped d r =
        let lands = jump_in by_says code (code_said code h) line p k jumped in
        next_said block d (reaches_in by_says block _ d (go_in by_says block k lands) r)

    pub acts_behind_raises_in_nests : (p : Nest V) (line : ℕ) → RaisesInNests Says code block p line
    acts_behind_raises_in_nests p line h k v jumped d r =
        let lands = jump_in by_says code (code_said code h) line p k jumped in
        let there = way_base_in by_says k lands in
        let goes = complete_in by_says block (by (raise v)) (way_base k) there in
        next_said block d (reaches_in by_says block _ d goes r)

  -- of an act that is next, and of what comes behind
  pub act_said : {V : Type 0} (block : Around V) (c : Control V) (m : Mark) (a : Ask V)
      (k : Reply V (Answer V a) → Control V) → turn block c ≡ T.act (Some m) a k
      → Next_says Says block c → Says (shape (nest_at c)) m.act
  act_said block c m a k e h = subst (λ t. Turn_says Says (shape (nest_at c)) t) e h

  pub goes_behind : {V : Type 0} (block : Around V) (c d : Control V)
      → GoesInNests Says block c → Reaches block c d → GoesInNests Says block d
  goes_behind block c d h r e q = h e (reaches_then block r q)
