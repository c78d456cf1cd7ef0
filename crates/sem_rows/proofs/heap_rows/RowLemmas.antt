-- Where asks and moves of code lead, whether they are acts or not.
use Rattle.std.proofs.Common.{◌≡◌, ◌∙◌, Bool, Option, Some, None, refl, ap}
use Rattle.std.specs.Prelude.{option_map, List}
use Rattle.pt_ranges.specs.declared.lines.ActMark.{ActMark}
use Rattle.pt_heap.specs.declared.value.Value.{Value}
use Rattle.pt_code.specs.View.{Ins}
use Rattle.sem_control.specs.control.Turn as T
use Rattle.sem_control.specs.control.Turn.{Ask, Answer, Deed, Operation, Reply, Variable}
use Rattle.sem_code.specs.slots.Slots as S
use Rattle.sem_code.specs.slots.Slots.{Slots, State}
use Rattle.sem_code.specs.slots.CodeObject.{CodeObject}
use Rattle.sem_code.specs.slots.Steps.{mark_of, unmarked, after, asks, gives, does}
use Rattle.sem_code.specs.slots.Landing.{land}
use Rattle.sem_run.specs.run.Host as H
use Rattle.sem_run.specs.run.Host.{Here, Callee, Finding}
use Rattle.sem_run.specs.run.State.{OpenAsk}
use Rattle.pt_host.specs.World.{Stores, Program, Allotted}
use Rattle.pt_host.specs.Trees.{Tree, raise_with}
use Rattle.pt_host.specs.HeapHost.{heap_host}
use Rattle.pt_host.specs.Answers.{answers, seeks, deeds, operate, branch}
use Rattle.sem_run.specs.transitions.Transitions.{by_answer, by_finding, of_ask, with_ask}
use Rattle.sem_run.specs.transitions.Successors.{successor, to, behind_print, behind_request}
use Rattle.sem_rows.specs.heap_rows.Leads.{IsAnswered, by_tree, found, giving, behind}
use Rattle.sem_rows.specs.heap_rows.Laws.{reached, AsksLead, MovesLead, LeavesLead, DiscardsLead}

-- what was found is the reply
module _ (code : CodeObject Value) (i : Ins) (ss : Slots Value) (b : Bool) (c : Option (Callee Value)) where
  abbrev open_ask : (a : Ask Value) → (Answer Value a → State Value) → OpenAsk (State Value) Value
  open_ask a next = record { ask = a; next = after code i ss next; is_act = b; callee = c }

  finding_leads : (a : Ask Value) (next : Answer Value a → State Value) (x : Finding Value a) (st : Stores) → IsAnswered a
      → successor (by_finding a (after code i ss next) (open_ask a next) x st) ≡ to (found a next x) st
  finding_leads (T.seek a) next x st w = refl
  finding_leads (T.deed a) next x st w = refl
  finding_leads (T.leave a) next x st w = refl
  finding_leads (T.throw a) next x st w = refl
  finding_leads (T.test a) next x st w = refl
  finding_leads (T.iter_of a) next x st w = refl
  finding_leads (T.next_of a) next (H.an_item v) st w = refl
  finding_leads (T.next_of a) next (H.no_item e) st w = refl
  finding_leads (T.enter a) next x st w = refl
  finding_leads (T.unpack a n s) next x st w = refl
  finding_leads (T.delegate a r) next x st w = absurd w

  tree_leads : (a : Ask Value) (next : Answer Value a → State Value) (t : Tree (Finding Value a)) → IsAnswered a
      → successor (by_answer (open_ask a next) t) ≡ by_tree code i (found a next) ss t
  tree_leads a next (H.answer x st) w = finding_leads a next x st w
  tree_leads a next (H.raise v st) w = refl
  tree_leads a next (H.print t f) w = ap (λ x. behind_print t x) (tree_leads a next f w)
  tree_leads a next (H.leave what) w = refl
  tree_leads a next (H.request r st k) w = λ j. behind_request r st (λ x st1. tree_leads a next (k x st1) w j)

-- what arises arises alike, whatever would have been given
pub raises_alike : {A : Type 0} (code : CodeObject Value) (i : Ins) (next : A → State Value) (ss : Slots Value) (o : Allotted) (st : Stores)
    → by_tree code i (giving code i ss) ss (raise_with {A = Value} o st) ≡ by_tree code i next ss (raise_with {A = A} o st)
raises_alike code i next ss (H.made v k) st = refl
raises_alike code i next ss (H.beyond what) st = refl

module _ (program : Program) (code : CodeObject Value) (i : Ins) (h : Here Value) (st : Stores) where
  -- the host is asked
  host_answers : (a : Ask Value) (k : Reply Value (Answer Value a) → State Value) (q : OpenAsk (State Value) Value) → IsAnswered a
      → of_ask (heap_host program) a k q h st ≡ by_answer (with_ask a k q) (answers program a h st)
  host_answers (T.seek (T.const x)) k q w = refl
  host_answers (T.seek (T.load x)) k q w = refl
  host_answers (T.seek (T.operate o vs)) k q w = refl
  host_answers (T.seek (T.yielding v)) k q w = absurd w
  host_answers (T.seek (T.cell_of x)) k q w = refl
  host_answers (T.deed a) k q w = refl
  host_answers (T.leave a) k q w = refl
  host_answers (T.throw a) k q w = refl
  host_answers (T.test a) k q w = refl
  host_answers (T.iter_of a) k q w = refl
  host_answers (T.next_of a) k q w = refl
  host_answers (T.enter a) k q w = refl
  host_answers (T.unpack a n s) k q w = refl
  host_answers (T.delegate a r) k q w = absurd w

  -- an ask, whatever its mark
  pub ask_leads : (m : Option ActMark) (a : Ask Value) (next : Answer Value a → State Value) (ss : Slots Value) → IsAnswered a
      → reached program code i h st (T.act (option_map mark_of m) a (after code i ss next)) ≡ by_tree code i (found a next) ss (answers program a h st)
  ask_leads None a next ss w = ap successor (host_answers a (after code i ss next) _ w) ∙ tree_leads code i ss _ _ a next (answers program a h st) w
  ask_leads (Some m) a next ss w = ap successor (host_answers a (after code i ss next) _ w) ∙ tree_leads code i ss _ _ a next (answers program a h st) w

  pub asks_lead : AsksLead program code i h st
  asks_lead a next ss w = ask_leads i.mark a next ss w

  -- of values, names, cells, what is done, and tests
  pub operations_lead : (o : Operation) (vs : List Value) (ss : Slots Value)
      → reached program code i h st (gives code i (T.operate o vs) ss) ≡ by_tree code i (giving code i ss) ss (operate program o vs h st)
  operations_lead o vs ss = asks_lead (T.seek (T.operate o vs)) (giving code i ss) ss tt

  pub loads_lead : (x : Variable) (ss : Slots Value)
      → reached program code i h st (gives code i (T.load x) ss) ≡ by_tree code i (giving code i ss) ss (seeks program (T.load x) h st)
  loads_lead x ss = asks_lead (T.seek (T.load x)) (giving code i ss) ss tt

  pub cells_lead : (x : Variable) (next : Value → State Value) (ss : Slots Value)
      → reached program code i h st (asks code i (T.seek (T.cell_of x)) ss next) ≡ by_tree code i next ss (seeks program (T.cell_of x) h st)
  cells_lead x next ss = asks_lead (T.seek (T.cell_of x)) next ss tt

  pub deeds_lead : (d : Deed Value) (ss : Slots Value) → reached program code i h st (does code i d ss) ≡ by_tree code i (behind code i ss) ss (deeds program d h st)
  deeds_lead d ss = asks_lead (T.deed d) (behind code i ss) ss tt

  pub test_leads : (m : Option ActMark) (v : Value) (next : Bool → State Value) (ss : Slots Value)
      → reached program code i h st (T.act (option_map mark_of m) (T.test (T.branch v)) (after code i ss next)) ≡ by_tree code i next ss (branch program v h st)
  test_leads m v next ss = ask_leads m (T.test (T.branch v)) next ss tt

  pub branches_lead : (v : Value) (next : Bool → State Value) (ss : Slots Value)
      → reached program code i h st (asks code i (T.test (T.branch v)) ss next) ≡ by_tree code i next ss (branch program v h st)
  branches_lead v next ss = test_leads i.mark v next ss

  pub moves_lead : MovesLead program code i h st
  moves_lead s ss = by_mark i.mark
    where
      by_mark : (m : Option ActMark) → reached program code i h st (unmarked m s (T.act (option_map mark_of m) (T.deed T.nothing) (after code i ss (λ u. s)))) ≡ to s st
      by_mark None = refl
      by_mark (Some m) = refl

  pub leaves_lead : LeavesLead program code i h st
  leaves_lead l a ss = by_mark i.mark
    where
      by_mark : (m : Option ActMark)
          → reached program code i h st (unmarked m (land code i.rows a ss) (T.act (option_map mark_of m) (T.leave l) (after code i ss (λ u. land code i.rows a ss))))
          ≡ to (land code i.rows a ss) st
      by_mark None = refl
      by_mark (Some m) = refl

  pub discards_lead : DiscardsLead program code i h st
  discards_lead v ss = by_mark i.mark
    where
      by_mark : (m : Option ActMark)
          → reached program code i h st (unmarked m (S.on i.next ss) (T.act (option_map mark_of m) (T.deed (T.discard v)) (after code i ss (behind code i ss))))
          ≡ to (S.on i.next ss) st
      by_mark None = refl
      by_mark (Some m) = refl
