-- How an instruction goes on. A mark makes an act of what is asked. What asks for nothing is a move; with a mark it is an act that asks for nothing.
use Rattle.std.specs.Prelude.{ℕ, ◌∷◌, Bool, Option, Some, None, option_map, if◌then◌else◌}
use Rattle.pt_ranges.specs.declared.lines.ActMark.{ActMark}
use Rattle.pt_tree.specs.declared.expression.Constant.{Constant}
use Rattle.pt_tree.specs.declared.expression.Constant.TheVariants as constant
use Rattle.pt_code.specs.View.{Ins}
use Rattle.sem_control.specs.control.Turn as T
use Rattle.sem_control.specs.control.Turn.{Mark, mark, Operation, Seek, Deed, Leave, Throw, Test, Ask, Answer, Delegated, returned, resumed, Reply, got, raised, Turn, act, move}
use Rattle.sem_code.specs.slots.Slots.{Abrupt, raise, Completion, normal, by, value, iterator, Slots, State, on, thrown_to, reraises}
use Rattle.sem_code.specs.slots.CodeObject.{CodeObject}
use Rattle.sem_code.specs.slots.Landing.{land}

abbrev pub mark_of : ActMark → Mark
mark_of m = mark m.act.0 m.line.0 m.again

-- a move where there is no mark
abbrev pub unmarked : {V : Type 0} → Option ActMark → State V → Turn (State V) V → Turn (State V) V
unmarked None s t = move s
unmarked (Some m) s t = t

-- where a test drops what it has tested, and where it leaves that
abbrev pub dropped : {V : Type 0} → (pc : ℕ) → V → Slots V → State V
dropped pc v ss = on pc ss

abbrev pub kept : {V : Type 0} → (pc : ℕ) → V → Slots V → State V
kept pc v ss = on pc (value v ∷ ss)

module _ {V : Type 0} (code : CodeObject V) where
  -- an answer is used, and a raise lands
  abbrev pub after : {A : Type 0} → Ins → Slots V → (A → State V) → Reply V A → State V
  after i ss next (got a) = next a
  after i ss next (raised v) = land code i.rows (raise v) ss

  abbrev pub asks : Ins → (a : Ask V) → Slots V → (Answer V a → State V) → Turn (State V) V
  asks i a ss next = act (option_map mark_of i.mark) a (after i ss next)

  -- a value is given; something is done; something is raised. The slots are those below what is taken
  abbrev pub gives : Ins → Seek V → Slots V → Turn (State V) V
  gives i a ss = asks i (T.seek a) ss (λ v. on i.next (value v ∷ ss))

  abbrev pub does : Ins → Deed V → Slots V → Turn (State V) V
  does i d ss = asks i (T.deed d) ss (λ u. on i.next ss)

  abbrev pub throws : Ins → Throw V → Slots V → Turn (State V) V
  throws i t ss = asks i (T.throw t) ss (λ x. elim x [ ])

  abbrev pub goes : Ins → State V → Slots V → Turn (State V) V
  goes i s ss = unmarked i.mark s (asks i (T.deed T.nothing) ss (λ u. s))

  -- a block or a part of it is left (7.6, 7.9, 7.10)
  abbrev pub leaves : Ins → Leave V → Abrupt V → Slots V → Turn (State V) V
  leaves i a by_it ss = unmarked i.mark (land code i.rows by_it ss) (asks i (T.leave a) ss (λ u. land code i.rows by_it ss))

  -- None, True and False are known: without a mark they aren't asked for
  abbrev pub known : Constant → Option V
  known constant.None = Some code.null
  known (constant.Bool b) = Some (code.truth b)
  known k = None

  abbrev pub gives_known : Ins → Constant → Option V → Slots V → Turn (State V) V
  gives_known i k (Some v) ss = unmarked i.mark (on i.next (value v ∷ ss)) (gives i (T.const k) ss)
  gives_known i k None ss = gives i (T.const k) ss

  -- a truth decides, with the slots on either side; one that is known needn't be asked for without a mark
  abbrev pub decided : Bool → (if_true if_false : V → Slots V → State V) → V → Slots V → State V
  decided b on_true on_false v ss = if b then on_true v ss else on_false v ss

  abbrev pub branches : Ins → Option Bool → (if_true if_false : V → Slots V → State V) → V → Slots V → Turn (State V) V
  branches i (Some b) on_true on_false v ss = unmarked i.mark (decided b on_true on_false v ss)
      (asks i (T.test (T.branch v)) ss (λ b. decided b on_true on_false v ss))
  branches i None on_true on_false v ss = asks i (T.test (T.branch v)) ss (λ b. decided b on_true on_false v ss)

  -- the next item, above its iterator (8.3)
  abbrev pub with_item : Ins → (at_end : ℕ) → (iterator : V) → Slots V → Option V → State V
  with_item i to it ss (Some v) = on i.next (value v ∷ iterator it ∷ ss)
  with_item i to it ss None = on to ss

  -- a delegation stays at its place until its iterator ends (6.2.9); `sent` is the slot above that
  abbrev pub delegated : (pc : ℕ) → Ins → (iterator sent : V) → Slots V → Delegated V → State V
  delegated pc i it u ss (returned v) = on i.next (value v ∷ ss)
  delegated pc i it u ss (resumed (got v)) = on pc (value v ∷ iterator it ∷ ss)
  delegated pc i it u ss (resumed (raised e)) = thrown_to pc e (value u ∷ iterator it ∷ ss)

  abbrev pub delegates : (pc : ℕ) → Ins → Reply V V → (iterator sent : V) → Slots V → Turn (State V) V
  delegates pc i r it u ss = asks i (T.delegate it r) ss (delegated pc i it u ss)

  -- what was held goes on, a raise by itself (8.4.4)
  abbrev pub lets_go : Ins → Completion V → Slots V → Turn (State V) V
  lets_go i normal ss = goes i (on i.next ss) ss
  lets_go i (by (raise e)) ss = goes i (reraises e i.rows ss) ss
  lets_go i (by a) ss = goes i (land code i.rows a ss) ss
