-- What begins in a run leads where the transition of its turn does.
use Rattle.std.proofs.Common.{◌≡◌, ◌∙◌, ℕ, [], ◌∷◌, Bool, true, false, Option, Some, None, refl, sym, ap, subst}
use Rattle.std.specs.Prelude.{nat_lt, map, if◌then◌else◌}
use Rattle.sem_control.specs.control.Turn as T
use Rattle.sem_control.specs.control.Turn.{Ask, Answer, Reply, gave, left_by, Turn, Mark}
use Rattle.sem_control.specs.control.Events as E
use Rattle.sem_code.specs.slots.Slots as S
use Rattle.sem_code.specs.slots.Machine.{here}
use Rattle.sem_code.specs.slots.Instructions.{perform}
use Rattle.sem_run.specs.run.Machine.{Machine}
use Rattle.sem_run.specs.run.Host as H
use Rattle.sem_run.specs.run.Host.{Host, Here, Store, Answering, Finding, Callee}
use Rattle.sem_run.specs.run.State.{OpenAsk, State}
use Rattle.sem_run.specs.run.Events as Told
use Rattle.sem_run.specs.run.Step.{step, by_phase, begin_turn, act_with, events_before, callee_of, happening, take_unit}
use Rattle.sem_run.specs.run.Outcome as O
use Rattle.sem_run.specs.transitions.Transitions.{by_answer, by_finding, of_open_ask, transition}
use Rattle.sem_run.specs.transitions.Successors.{successor, behind_print, behind_request}
use Rattle.sem_code_machine.specs.rows.Rows.{row}
use Rattle.sem_code_machine.specs.rows.Runs.{Begins, moves, asks, notes, ends_block, wants_unit, lacks, RowsBegin}

module _ {S N V W : Type 0} (host : Host N V W) where
  -- where an ask leads doesn't depend on what is told of it
  finding_leads : (a : Ask V) (k : Reply V (Answer V a) → S) (p q : OpenAsk S V) (v : Finding V a) (st : Store N W)
      → successor (by_finding a k p v st) ≡ successor (by_finding a k q v st)
  finding_leads (T.next_of i) k p q (H.an_item v) st = refl
  finding_leads (T.next_of i) k p q (H.no_item e) st = refl
  finding_leads (T.delegate i r) k p q (H.passes_on v) st = refl
  finding_leads (T.delegate i r) k p q (H.ends_with v) st = refl
  finding_leads (T.seek a) k p q v st = refl
  finding_leads (T.deed a) k p q v st = refl
  finding_leads (T.leave a) k p q v st = refl
  finding_leads (T.throw a) k p q v st = refl
  finding_leads (T.test a) k p q v st = refl
  finding_leads (T.iter_of a) k p q v st = refl
  finding_leads (T.enter a) k p q v st = refl
  finding_leads (T.unpack a n t) k p q v st = refl

  module _ (a : Ask V) (k : Reply V (Answer V a) → S) (b c : Bool) (x y : Option (Callee V)) where
    answer_leads : (t : Answering N V W (Finding V a))
        → successor (by_answer (record { ask = a; next = k; is_act = b; callee = x }) t) ≡ successor (by_answer (record { ask = a; next = k; is_act = c; callee = y }) t)
    answer_leads (H.answer v st) = finding_leads a k (record { ask = a; next = k; is_act = b; callee = x }) (record { ask = a; next = k; is_act = c; callee = y }) v st
    answer_leads (H.raise v st) = refl
    answer_leads (H.print t f) = ap (λ s. behind_print t s) (answer_leads f)
    answer_leads (H.leave what) = refl
    answer_leads (H.request r st f) = λ j. behind_request r st (λ z st1. answer_leads (f z st1) j)

  ask_leads : (a : Ask V) (k : Reply V (Answer V a) → S) (b c : Bool) (x y : Option (Callee V)) (h : Here V) (st : Store N W)
      → successor (of_open_ask host (record { ask = a; next = k; is_act = b; callee = x }) h st) ≡ successor (of_open_ask host (record { ask = a; next = k; is_act = c; callee = y }) h st)
  ask_leads (T.seek (T.yielding v)) k b c x y h st = refl
  ask_leads (T.seek (T.const z)) k b c x y h st = answer_leads (T.seek (T.const z)) k b c x y (host.answers (T.seek (T.const z)) h st)
  ask_leads (T.seek (T.load z)) k b c x y h st = answer_leads (T.seek (T.load z)) k b c x y (host.answers (T.seek (T.load z)) h st)
  ask_leads (T.seek (T.operate o vs)) k b c x y h st = answer_leads (T.seek (T.operate o vs)) k b c x y (host.answers (T.seek (T.operate o vs)) h st)
  ask_leads (T.seek (T.cell_of z)) k b c x y h st = answer_leads (T.seek (T.cell_of z)) k b c x y (host.answers (T.seek (T.cell_of z)) h st)
  ask_leads (T.deed d) k b c x y h st = answer_leads (T.deed d) k b c x y (host.answers (T.deed d) h st)
  ask_leads (T.leave l) k b c x y h st = answer_leads (T.leave l) k b c x y (host.answers (T.leave l) h st)
  ask_leads (T.throw t) k b c x y h st = answer_leads (T.throw t) k b c x y (host.answers (T.throw t) h st)
  ask_leads (T.test t) k b c x y h st = answer_leads (T.test t) k b c x y (host.answers (T.test t) h st)
  ask_leads (T.iter_of v) k b c x y h st = answer_leads (T.iter_of v) k b c x y (host.answers (T.iter_of v) h st)
  ask_leads (T.next_of i) k b c x y h st = answer_leads (T.next_of i) k b c x y (host.answers (T.next_of i) h st)
  ask_leads (T.enter v) k b c x y h st = answer_leads (T.enter v) k b c x y (host.answers (T.enter v) h st)
  ask_leads (T.unpack v m t) k b c x y h st = answer_leads (T.unpack v m t) k b c x y (host.answers (T.unpack v m t) h st)
  ask_leads (T.delegate i r) k b c x y h st = answer_leads (T.delegate i r) k b c x y (host.answers (T.delegate i r) h st)

  module _ (machine : Machine S V) (n : ℕ) (s : State S N V W) where
    act_begins : (m : Mark) (a : Ask V) (k : Reply V (Answer V a) → S)
        → Begins host (λ h st. successor (transition host (T.act (Some m) a k) h st)) s (begin_turn machine host n (T.act (Some m) a k) s)
    act_begins m a k = by (nat_lt s.units n)
      where
        c : Option (Callee V)
        c = callee_of host a s.world

        by : (t : Bool) → Begins host (λ h st. successor (transition host (T.act (Some m) a k) h st)) s
            (if t then O.goes (O.begins s.here.frame.block m ∷ []) (act_with machine host m a k c s) else O.ends O.spent)
        by true = asks (record { ask = a; next = k; is_act = true; callee = c }) (events_before machine host m a k c s) (O.begins s.here.frame.block m ∷ []) (take_unit machine host m s)
            (λ h st. ask_leads a k true true (callee_of host a st.world) c h st)
        by false = wants_unit

    turn_begins : (t : Turn S V) → Begins host (λ h st. successor (transition host t h st)) s (begin_turn machine host n t s)
    turn_begins (T.act (Some m) a k) = act_begins m a k
    turn_begins (T.act None a k) = asks (record { ask = a; next = k; is_act = false; callee = None }) [] [] s (λ h st. refl)
    turn_begins (T.note a k) = notes a k (map (happening 0 host.null None) (E.at_note a)) (λ h st. refl)
    turn_begins (T.move c) = moves c (λ h st. refl)
    turn_begins (T.over (gave v)) = ends_block (gave v) (Told.returns v ∷ []) (λ h st. refl)
    turn_begins (T.over (left_by v)) = ends_block (left_by v) (Told.unwinds v ∷ []) (λ h st. refl)
    turn_begins T.stuck = lacks (λ h st. refl)

module _ {N V W : Type 0} (machine : Machine (S.State V) V) (host : Host N V W) (n : ℕ) where
  pub rows_begin : RowsBegin machine host n
  rows_begin code s pc i ss turns is_on stands runs = subst (λ x. Begins host (row host code pc i ss) s x) (sym stepped) (turn_begins host machine n s (perform code pc i i.instr ss))
    where
      stepped : step machine host n s ≡ begin_turn machine host n (perform code pc i i.instr ss) s
      stepped = ap (λ p. by_phase machine host n p s) turns
          ∙ ap (λ t. begin_turn machine host n t s) (ap (λ c. machine.turn s.here.frame.block c) is_on ∙ (runs ∙ ap (λ o. here code pc o ss) stands))
