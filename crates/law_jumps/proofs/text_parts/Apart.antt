-- Statements on their lines: the starts of handlers share no line with those of an `else` part, and no part is empty that code needs.
use Rattle.std.proofs.Common.{◌≡◌, ℕ, ◌+◌, ◌≤◌, Bool, true, false, if◌then◌else◌, cond, nat_eq, List, [], ◌∷◌, ◌++◌, Some, None, refl, sym, ap, ◌∙◌, arith, eqb-true}
use Rattle.pt_tree.specs.Syntax as S
use Rattle.pt_tree.specs.Syntax.{Exp, Stm, Stms, Branches, Handlers, none, more}
use Rattle.pt_tree.specs.Sizes.{size, opt_size, stm_size, stms_size}
use Rattle.pt_tree.specs.Blocks as B
use Rattle.pt_tree.specs.Blocks.{Code, is_string, first_statement, function_body}
use Rattle.sem_control.specs.control.Frames.{normal, rest, looping, iterating, guarded, handling, ensuring, ending}
use Rattle.sem_control.specs.control.Numbers.{tested_body, behind_body, for_body, for_else, try_handlers, try_else, try_finally, handler_body}
use Rattle.sem_control.specs.control.Jump.{Shape, Target, starts_on, with_name, body_at, within_items, behind_branches, starts, starts_in, branch_starts, handler_starts, on_line}
use Rattle.sem_control.proofs.control.JumpLemmas.{Each, each_append, each_on_line}
use Rattle.law_compile.specs.loop_exits.Parts.{HasParts, AllHaveParts, BranchesHaveParts, HandlersHaveParts, CodeHasParts}
use Rattle.law_parts.specs.part_slots.Text.{Grammatical, All_grammatical, Branches_grammatical, Handlers_grammatical, Share_no_line, Else_apart, All_else_apart, Branches_else_apart, Handlers_else_apart, Code_grammatical, Code_else_apart}
use Rattle.law_front.specs.statement_lines.OnLines.{IsBetween}
use Rattle.law_jumps.specs.text_parts.OnLines.{StmOnLines, StmsOnLines, BranchesOnLines, HandlersOnLines, CodeOnLines}

-- ---- lines of starts

abbrev Between : (from to : ℕ) → List Target → Type 0
Between a z ts = Each (λ (t : Target). IsBetween a z t.line) ts

two : (a z : ℕ) (ts us : List Target) → Between a z ts → Between a z us → Between a z (ts ++ us)
two a z ts us h g = each_append (λ (t : Target). IsBetween a z t.line) ts us h g

wider : {a b y z : ℕ} (ts : List Target) → b ≤ a → y ≤ z → Between a y ts → Between b z ts
wider [] p q h = tt
wider (t ∷ ts) p q h = (let u = (h.0).0 in let v = (h.0).1 in (omega (arith, p, u), omega (arith, q, v)), wider ts p q h.1)

starts_between : {a z : ℕ} (st : Stm) → StmOnLines a z st → IsBetween a z (starts_on st)
starts_between (S.expr l e) h = h
starts_between (S.assign l ts e) h = h
starts_between (S.augmented l p o e) h = h
starts_between (S.annotated l p e v) h = h
starts_between (S.assert l c m) h = h
starts_between (S.pass l) h = h
starts_between (S.del l ts) h = h
starts_between (S.return l v) h = h
starts_between (S.raise l e c) h = h
starts_between (S.raise_again l) h = h
starts_between (S.break l) h = h
starts_between (S.continue l) h = h
starts_between (S.import l xs) h = h
starts_between (S.import_from l m xs) h = h
starts_between (S.global l xs) h = h
starts_between (S.nonlocal l xs) h = h
starts_between (S.choice l bs els) h = h.0
starts_between (S.while l c body els) h = h.0
starts_between (S.for l t it body els) h = h.0
starts_between (S.try l body hs els fin) h = h.0
starts_between (S.with l is body) h = h.0
starts_between (S.def l ds k b x ps r body) h = h.0
starts_between (S.class l ds k b x base body) h = h.0
starts_between (S.docstring l) h = h

mutual
  stm_between : (a z : ℕ) (st : Stm) (n : ℕ) (s : Shape) → StmOnLines a z st → Between a z (starts_in st n s)
  stm_between a z (S.choice l bs els) n s h = two a z (branch_starts bs n s) (starts els (behind_branches bs n) s) (branches_between a z bs n s h.2)
      (all_between a z els (behind_branches bs n) s h.3)
  stm_between a z (S.while l c body els) n s h =
      two a z (starts body (tested_body n c) (looping l n c body els ∷ s)) (starts els (behind_body n c body) s)
      (all_between a z body (tested_body n c) (looping l n c body els ∷ s) h.1) (all_between a z els (behind_body n c body) s h.2)
  stm_between a z (S.for l t it body els) n s h =
      two a z (starts body (for_body (n + size it + 1) t) (iterating l (n + size it + 1) tt t body els ∷ s)) (starts els (for_else (n + size it + 1) t body) s)
      (all_between a z body (for_body (n + size it + 1) t) (iterating l (n + size it + 1) tt t body els ∷ s) h.1)
      (all_between a z els (for_else (n + size it + 1) t body) s h.2)
  stm_between a z (S.try l body hs els fin) n s h =
      let f = try_finally n body hs els in
      let r : Shape = ensuring n f fin ∷ s in
      let m = h.2 in
      let low = m.1 in
      let high = m.2 in
      let in_handlers = handler_starts hs (try_handlers n body) r in
      let in_else = starts els (try_else n body hs) r in
      let in_finally = starts fin f (ending n normal ∷ s) in
      two a z (starts body (n + 1) (guarded (try_handlers n body) hs els ∷ r)) (in_handlers ++ (in_else ++ in_finally))
      (all_between a z body (n + 1) (guarded (try_handlers n body) hs els ∷ r) h.1)
      (two a z in_handlers (in_else ++ in_finally) (wider in_handlers (omega arith) high (handlers_between a m.0 hs (try_handlers n body) r m.3))
      (two a z in_else in_finally (wider in_else low (omega arith) (all_between m.0 z els (try_else n body hs) r m.4))
      (all_between a z fin f (ending n normal ∷ s) h.3)))
  stm_between a z (S.with l is body) n s h = all_between a z body (body_at is n) (within_items is (stms_size body) n s) h.1
  stm_between a z st n s h = tt

  all_between : (a z : ℕ) (ss : Stms) (n : ℕ) (s : Shape) → StmsOnLines a z ss → Between a z (starts ss n s)
  all_between a z none n s h = tt
  all_between a z (more st ss) n s h = (
    starts_between st h.0,
    two a z (starts_in st n (rest (n + stm_size st) ss ∷ s)) (starts ss (n + stm_size st) s) (stm_between a z st n (rest (n + stm_size st) ss ∷ s) h.0)
        (all_between a z ss (n + stm_size st) s h.1),
  )

  branches_between : (a z : ℕ) (bs : Branches) (n : ℕ) (s : Shape) → BranchesOnLines a z bs → Between a z (branch_starts bs n s)
  branches_between a z S.no_branches n s h = tt
  branches_between a z (S.branch l c body r) n s h =
      two a z (starts body (tested_body n c) s) (branch_starts r (behind_body n c body) s) (all_between a z body (tested_body n c) s h.0)
      (branches_between a z r (behind_body n c body) s h.1)

  handlers_between : (a z : ℕ) (hs : Handlers) (n : ℕ) (s : Shape) → HandlersOnLines a z hs → Between a z (handler_starts hs n s)
  handlers_between a z S.no_handlers n s h = tt
  handlers_between a z (S.handler l c x body r) n s h =
      let k = handler_body (n + opt_size c) x in
      two a z (starts body k (with_name x (handling (n + opt_size c) tt ∷ s))) (handler_starts r (k + stms_size body) s)
      (all_between a z body k (with_name x (handling (n + opt_size c) tt ∷ s)) h.0) (handlers_between a z r (k + stms_size body) s h.1)

-- ---- the starts of handlers and of an `else` part

line_of : (line : ℕ) (ts : List Target) (t : Target) → on_line line ts ≡ Some t → t.line ≡ line
line_of line [] t e = let no : None ≡ Some t = e in cc
line_of line (u ∷ us) t e = by (nat_eq u.line line) refl (line_of line us t) e
  where
    by : (s : Bool) → nat_eq u.line line ≡ s → (on_line line us ≡ Some t → t.line ≡ line) → (if s then Some u else on_line line us) ≡ Some t → t.line ≡ line
    by true f k g = let same : u ≡ t = (let there : Some u ≡ Some t = g in cc) in ap (λ (z : Target). z.line) (sym same) ∙ eqb-true u.line line f
    by false f k g = k g

on_its_line : {a z : ℕ} (line : ℕ) (ts : List Target) (t : Target) → Between a z ts → on_line line ts ≡ Some t → IsBetween a z line
on_its_line {a} {z} line ts t h e =
    let b = each_on_line (λ (t : Target). IsBetween a z t.line) line ts t h e in
    let same = line_of line ts t e in
    let p = b.0 in
    let q = b.1 in
    (omega (arith, same, p), omega (arith, same, q))

share_none : (a m z : ℕ) (ts us : List Target) → Between a m ts → Between m z us → Share_no_line ts us
share_none a m z ts us h g line t u e f =
    let p = on_its_line line ts t h e in
    let q = on_its_line line us u g f in
    let x = p.1 in
    let y = q.0 in
    omega (arith, x, y)

mutual
  stm_apart : (a z : ℕ) (st : Stm) (n : ℕ) (s : Shape) → StmOnLines a z st → Else_apart st n s
  stm_apart a z (S.choice l bs els) n s h = (branches_apart a z bs n s h.2, all_apart a z els (behind_branches bs n) s h.3)
  stm_apart a z (S.while l c body els) n s h = (
    all_apart a z body (tested_body n c) (looping l n c body els ∷ s) h.1,
    all_apart a z els
        (behind_body n c body) s h.2,
  )
  stm_apart a z (S.for l t it body els) n s h = (
    all_apart a z body (for_body (n + size it + 1) t) (iterating l (n + size it + 1) tt t body els ∷ s) h.1,
    all_apart a z els (for_else (n + size it + 1) t body) s h.2,
  )
  stm_apart a z (S.try l body hs els fin) n s h =
      let f = try_finally n body hs els in
      let r : Shape = ensuring n f fin ∷ s in
      let m = h.2 in (
        share_none a m.0 z (handler_starts hs (try_handlers n body) r) (starts els (try_else n body hs) r)
            (handlers_between a m.0 hs (try_handlers n body) r m.3)
            (all_between m.0 z els (try_else n body hs) r m.4),
        all_apart a z body (n + 1) (guarded (try_handlers n body) hs els ∷ r) h.1,
        handlers_apart a m.0 hs (try_handlers n body) r m.3,
        all_apart m.0 z els (try_else n body hs) r m.4,
        all_apart a z fin f (ending n normal ∷ s) h.3,
      )
  stm_apart a z (S.with l is body) n s h = all_apart a z body (body_at is n) (within_items is (stms_size body) n s) h.1
  stm_apart a z st n s h = tt

  all_apart : (a z : ℕ) (ss : Stms) (n : ℕ) (s : Shape) → StmsOnLines a z ss → All_else_apart ss n s
  all_apart a z none n s h = tt
  all_apart a z (more st ss) n s h = (stm_apart a z st n (rest (n + stm_size st) ss ∷ s) h.0, all_apart a z ss (n + stm_size st) s h.1)

  branches_apart : (a z : ℕ) (bs : Branches) (n : ℕ) (s : Shape) → BranchesOnLines a z bs → Branches_else_apart bs n s
  branches_apart a z S.no_branches n s h = tt
  branches_apart a z (S.branch l c body r) n s h = (all_apart a z body (tested_body n c) s h.0, branches_apart a z r (behind_body n c body) s h.1)

  handlers_apart : (a z : ℕ) (hs : Handlers) (n : ℕ) (s : Shape) → HandlersOnLines a z hs → Handlers_else_apart hs n s
  handlers_apart a z S.no_handlers n s h = tt
  handlers_apart a z (S.handler l c x body r) n s h =
      let k = handler_body (n + opt_size c) x in
      (all_apart a z body k (with_name x (handling (n + opt_size c) tt ∷ s)) h.0, handlers_apart a z r (k + stms_size body) s h.1)

-- ---- parts that aren't empty

mutual
  stm_grammatical : (a z : ℕ) (st : Stm) → HasParts st → StmOnLines a z st → Grammatical st
  stm_grammatical a z (S.choice l S.no_branches els) g h = absurd h.1
  stm_grammatical a z (S.choice l (S.branch k c body r) els) g h =
      (all_grammatical a z body (g.0).0 (h.2).0, branches_grammatical a z r (g.0).1 (h.2).1, all_grammatical a z els g.1 h.3)
  stm_grammatical a z (S.while l c body els) g h = (all_grammatical a z body g.0 h.1, all_grammatical a z els g.1 h.2)
  stm_grammatical a z (S.for l t it body els) g h = (all_grammatical a z body g.0 h.1, all_grammatical a z els g.1 h.2)
  stm_grammatical a z (S.try l none hs els fin) g h = absurd g.0
  stm_grammatical a z (S.try l (more st ss) hs els fin) g h =
      let m = h.2 in (
        stm_grammatical a z st (g.1).0 (h.1).0,
        all_grammatical a z ss (g.1).1 (h.1).1,
        handlers_grammatical a m.0 hs g.2 m.3,
        all_grammatical m.0 z els g.3 m.4,
        all_grammatical a z fin g.4 h.3,
      )
  stm_grammatical a z (S.with l S.no_items body) g h = absurd g.0
  stm_grammatical a z (S.with l (S.with_item k e t r) body) g h = all_grammatical a z body g.1 h.1
  stm_grammatical a z st g h = tt

  all_grammatical : (a z : ℕ) (ss : Stms) → AllHaveParts ss → StmsOnLines a z ss → All_grammatical ss
  all_grammatical a z none g h = tt
  all_grammatical a z (more st ss) g h = (stm_grammatical a z st g.0 h.0, all_grammatical a z ss g.1 h.1)

  branches_grammatical : (a z : ℕ) (bs : Branches) → BranchesHaveParts bs → BranchesOnLines a z bs → Branches_grammatical bs
  branches_grammatical a z S.no_branches g h = tt
  branches_grammatical a z (S.branch l c body r) g h = (all_grammatical a z body g.0 h.0, branches_grammatical a z r g.1 h.1)

  handlers_grammatical : (a z : ℕ) (hs : Handlers) → HandlersHaveParts hs → HandlersOnLines a z hs → Handlers_grammatical hs
  handlers_grammatical a z S.no_handlers g h = tt
  handlers_grammatical a z (S.handler l c x body r) g h = (all_grammatical a z body g.0 h.0, handlers_grammatical a z r g.1 h.1)

-- ---- what a block runs

docstring_on_lines : {a z : ℕ} (l : ℕ) (e : Exp) → IsBetween a z l → StmOnLines a z (first_statement (S.expr l e))
docstring_on_lines {a} {z} l e h = by (is_string e)
  where
    by : (b : Bool) → StmOnLines a z (cond b (S.docstring l) (S.expr l e))
    by true = h
    by false = h

first_on_lines : (a z : ℕ) (st : Stm) → StmOnLines a z st → StmOnLines a z (first_statement st)
first_on_lines a z (S.expr l e) h = docstring_on_lines l e h
first_on_lines a z st h = h

body_on_lines : (a z : ℕ) (ss : Stms) → StmsOnLines a z ss → StmsOnLines a z (function_body ss)
body_on_lines a z none h = tt
body_on_lines a z (more st ss) h = (first_on_lines a z st h.0, h.1)

pub code_apart : (c : Code) → CodeOnLines c → Code_else_apart c
code_apart (B.of_module ss) h = all_apart h.0 h.1 ss 0 [] h.2
code_apart (B.of_function ss) h = all_apart h.0 h.1 (function_body ss) 0 [] (body_on_lines h.0 h.1 ss h.2)
code_apart (B.of_class ss) h = all_apart h.0 h.1 ss 0 [] h.2
code_apart (B.of_lambda l e) h = tt
code_apart (B.of_generator l e k t cs) h = tt

pub code_grammatical : (c : Code) → CodeHasParts c → CodeOnLines c → Code_grammatical c
code_grammatical (B.of_module ss) g h = all_grammatical h.0 h.1 ss g h.2
code_grammatical (B.of_function ss) g h = all_grammatical h.0 h.1 (function_body ss) g (body_on_lines h.0 h.1 ss h.2)
code_grammatical (B.of_class ss) g h = all_grammatical h.0 h.1 ss g h.2
code_grammatical (B.of_lambda l e) g h = tt
code_grammatical (B.of_generator l e k t cs) g h = tt
