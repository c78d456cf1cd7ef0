-- Where a turn without an act leads: ahead, back to where an act is near, back by a jump that was held, or out of the block.
use Rattle.std.proofs.Common.{◌≡◌, ◌≤◌, ◌<◌, ◌-◌, inl, inr, ℕ, zero, suc, Bool, true, false, if◌then◌else◌, List, [], ◌∷◌, length, drop, Option, Some, None, refl, subst, option_map, arith}
use Rattle.pt_ranges.specs.declared.lines.ActMark.{ActMark}
use Rattle.pt_ranges.specs.declared.handlers.Handler.{Handler}
use Rattle.pt_tree.specs.declared.expression.Constant.{Constant}
use Rattle.pt_base.specs.declared.numbers.Pc.{Pc}
use Rattle.pt_instr.specs.declared.SlotNo.{SlotNo}
use Rattle.pt_instr.specs.declared.TextNo.{TextNo}
use Rattle.pt_instr.specs.declared.Instr.{Instr}
use Rattle.pt_instr.specs.declared.Instr.TheVariants as instr
use Rattle.pt_code.specs.View.{Ins}
use Rattle.sem_control.specs.control.Turn.{Mark, End, Turn, act, note, move, over, stuck}
use Rattle.sem_code.specs.slots.Slots.{Abrupt, raise, return, jump_to, normal, by, Slot, value, cell, iterator, exception, pending, exit, Slots, State, on, reraises, off}
use Rattle.sem_code.specs.slots.CodeObject.{CodeObject}
use Rattle.sem_code.specs.slots.Landing.{cut, takes, held_by, land}
use Rattle.sem_code.specs.slots.Steps.{mark_of, dropped, gives_known, branches}
use Rattle.sem_code.specs.slots.Instructions.{perform}
use Rattle.sem_code.specs.slots.Machine.{turn}
use Rattle.sem_code.specs.slots.Needs.{Begins}
use Rattle.sem_code.specs.slots.Destinations.{passes}
use Rattle.sem_code.specs.slots.Stretches.{ins}
use Rattle.sem_code.proofs.slots.MarkLaw.{begins_at}
use Rattle.sem_code.specs.silent_turns.Ahead.{IsStraight, AllTargets, AllAhead, NearAct, LeadsOn}
use Rattle.sem_code.specs.silent_turns.Laws.{IsAtRest}

-- how many jumps are held
abbrev pub held : {V : Type 0} → Slots V → ℕ
held [] = 0
held (pending (by (jump_to t)) ∷ ss) = suc (held ss)
held (s ∷ ss) = held ss

-- where it is held too
abbrev with_held : {V : Type 0} → Abrupt V → ℕ → ℕ
with_held (jump_to t) n = suc n
with_held a n = n

at_most : (n : ℕ) → n ≤ n
at_most n = omega arith

module _ {V : Type 0} where
  pub held_few : (ss : Slots V) → held ss ≤ length ss
  held_few [] = at_most 0
  held_few (pending (by (jump_to t)) ∷ ss) = let n = held_few ss in omega (arith, n)
  held_few (pending (by (raise v)) ∷ ss) = let n = held_few ss in omega (arith, n)
  held_few (pending (by (return v)) ∷ ss) = let n = held_few ss in omega (arith, n)
  held_few (pending normal ∷ ss) = let n = held_few ss in omega (arith, n)
  held_few (value v ∷ ss) = let n = held_few ss in omega (arith, n)
  held_few (cell v ∷ ss) = let n = held_few ss in omega (arith, n)
  held_few (iterator v ∷ ss) = let n = held_few ss in omega (arith, n)
  held_few (exception v ∷ ss) = let n = held_few ss in omega (arith, n)
  held_few (exit v ∷ ss) = let n = held_few ss in omega (arith, n)

  more_with : (s : Slot V) (ss : Slots V) (n : ℕ) → n ≤ held ss → n ≤ held (s ∷ ss)
  more_with (pending (by (jump_to t))) ss n h = omega (arith, h)
  more_with (pending (by (raise v))) ss n h = h
  more_with (pending (by (return v))) ss n h = h
  more_with (pending normal) ss n h = h
  more_with (value v) ss n h = h
  more_with (cell v) ss n h = h
  more_with (iterator v) ss n h = h
  more_with (exception v) ss n h = h
  more_with (exit v) ss n h = h

  dropped_few : (n : ℕ) (ss : Slots V) → held (drop n ss) ≤ held ss
  dropped_few zero ss = at_most (held ss)
  dropped_few (suc n) [] = at_most 0
  dropped_few (suc n) (s ∷ ss) = more_with s ss (held (drop n ss)) (dropped_few n ss)

  cut_few : (d : ℕ) (ss : Slots V) → held (cut d ss) ≤ held ss
  cut_few d ss = dropped_few (length ss - d) ss

  -- what a row holds
  held_slot : (b : Bool) (a : Abrupt V) (ss : Slots V) → held (held_by b a ∷ ss) ≤ with_held a (held ss)
  held_slot false (raise v) ss = at_most (held ss)
  held_slot false (return v) ss = at_most (held ss)
  held_slot false (jump_to t) ss = at_most (suc (held ss))
  held_slot true (raise v) ss = at_most (held ss)
  held_slot true (return v) ss = at_most (held ss)
  held_slot true (jump_to t) ss = at_most (suc (held ss))

  more_held : (a : Abrupt V) (m n : ℕ) → m ≤ n → with_held a m ≤ with_held a n
  more_held (raise v) m n h = h
  more_held (return v) m n h = h
  more_held (jump_to t) m n h = omega (arith, h)

  -- Where a completion lands: at the target of a row, at the place of a jump, or nowhere.
  pub data Lands (P : ℕ → Type 0) (j : ℕ) : State V → Type 0 where
    at_target : (q : ℕ) (ss : Slots V) → P q → held ss ≤ j → Lands P j (on q ss)
    at_end : (e : End V) → Lands P j (off e)
    let_go : (q : ℕ) (ss : Slots V) → held ss < j → Lands P j (on q ss)

  -- a raise goes nowhere else
  pub data Caught (P : ℕ → Type 0) (j : ℕ) : State V → Type 0 where
    by_row : (q : ℕ) (ss : Slots V) → P q → held ss ≤ j → Caught P j (on q ss)
    by_none : (e : End V) → Caught P j (off e)

module _ {V : Type 0} (code : CodeObject V) where
  pub raise_lands : (P : ℕ → Type 0) (rows : List Handler) (v : V) (ss : Slots V) → AllTargets P rows → Caught P (held ss) (land code rows (raise v) ss)
  raise_lands P [] v ss h = by_none _
  raise_lands P (row ∷ rows) v ss h =
      let few = held_slot row.always (raise v) (cut row.depth ss) in
      let fewer = cut_few row.depth ss in by_row row.target.0 _ h.0 (omega (arith, few, fewer))

  lands : (P : ℕ → Type 0) (rows : List Handler) (a : Abrupt V) (ss : Slots V) → AllTargets P rows → Lands P (with_held a (held ss)) (land code rows a ss)
  lands P [] (raise v) ss h = at_end _
  lands P [] (return v) ss h = at_end _
  lands P [] (jump_to t) ss h = let few = cut_few (code.depth_at t) ss in let_go t _ (omega (arith, few))
  lands P (row ∷ rows) a ss h = by_taken (takes row a) (lands P rows a ss h.1)
    where
      by_taken : (t : Bool) → Lands P (with_held a (held ss)) (land code rows a ss)
          → Lands P (with_held a (held ss)) (if t then on row.target.0 (held_by row.always a ∷ cut row.depth ss) else land code rows a ss)
      by_taken true others =
          let few = held_slot row.always a (cut row.depth ss) in
          let fewer = more_held a (held (cut row.depth ss)) (held ss) (cut_few row.depth ss) in at_target row.target.0 _ h.0 (omega (arith, few, fewer))
      by_taken false others = others

  -- A turn at a place: it is at rest, or passed on the way behind.
  pub data Straight (next j : ℕ) : Turn (State V) V → Type 0 where
    rests : (t : Turn (State V) V) → passes code t ≡ None → IsAtRest t → Straight next j t
    goes_on : (t : Turn (State V) V) (ss : Slots V) → passes code t ≡ Some (on next ss) → held ss ≤ j → Straight next j t

  -- or it leads elsewhere
  pub data Way (pc j : ℕ) : State V → Type 0 where
    ahead : (q : ℕ) (ss : Slots V) → pc < q → held ss ≤ j → Way pc j (on q ss)
    back : (rows : List Handler) (q : ℕ) (ss : Slots V) → NearAct code rows q → held ss ≤ j → Way pc j (on q ss)
    lets_go_back : (q : ℕ) (ss : Slots V) → held ss < j → Way pc j (on q ss)
    raising : (e : V) (rows : List Handler) (ss : Slots V) → AllAhead pc rows → held ss ≤ j → Way pc j (reraises e rows ss)
    ended : (e : End V) → Way pc j (off e)

  pub data Step (pc j : ℕ) : Turn (State V) V → Type 0 where
    stays : (t : Turn (State V) V) → passes code t ≡ None → IsAtRest t → Step pc j t
    goes : (t : Turn (State V) V) (u : State V) → passes code t ≡ Some u → Way pc j u → Step pc j t

  module _ (pc n : ℕ) (rows : List Handler) where
    abbrev at : Instr → Ins
    at j = ins j None n rows

    is_stuck : (j : ℕ) → Straight n j stuck
    is_stuck j = rests stuck refl tt

    const_straight : (k : Constant) (o : Option V) (j : Instr) (ss : Slots V) → Straight n (held ss) (gives_known code (at j) k o ss)
    const_straight k None j ss = goes_on _ _ refl (at_most (held ss))
    const_straight k (Some v) j ss = goes_on _ _ refl (at_most (held ss))

    set_local : (x : SlotNo) (ss : Slots V) → Straight n (held ss) (perform code pc (at (instr.SetLocal x)) (instr.SetLocal x) ss)
    set_local x (value v ∷ ss) = goes_on _ _ refl (at_most (held ss))
    set_local x ss = is_stuck (held ss)

    set_cell : (x : SlotNo) (ss : Slots V) → Straight n (held ss) (perform code pc (at (instr.SetCell x)) (instr.SetCell x) ss)
    set_cell x (value v ∷ ss) = goes_on _ _ refl (at_most (held ss))
    set_cell x ss = is_stuck (held ss)

    set_global : (x : TextNo) (ss : Slots V) → Straight n (held ss) (perform code pc (at (instr.SetGlobal x)) (instr.SetGlobal x) ss)
    set_global x (value v ∷ ss) = goes_on _ _ refl (at_most (held ss))
    set_global x ss = is_stuck (held ss)

    set_name : (x : TextNo) (ss : Slots V) → Straight n (held ss) (perform code pc (at (instr.SetName x)) (instr.SetName x) ss)
    set_name x (value v ∷ ss) = goes_on _ _ refl (at_most (held ss))
    set_name x ss = is_stuck (held ss)

    pop : (ss : Slots V) → Straight n (held ss) (perform code pc (at instr.Pop) instr.Pop ss)
    pop (value v ∷ ss) = goes_on _ _ refl (at_most (held ss))
    pop ss = is_stuck (held ss)

    copy : (ss : Slots V) → Straight n (held ss) (perform code pc (at instr.Copy) instr.Copy ss)
    copy (value v ∷ ss) = goes_on _ _ refl (at_most (held ss))
    copy ss = is_stuck (held ss)

    copy_two : (ss : Slots V) → Straight n (held ss) (perform code pc (at instr.Copy2) instr.Copy2 ss)
    copy_two (value b ∷ value a ∷ ss) = goes_on _ _ refl (at_most (held ss))
    copy_two ss = is_stuck (held ss)

    swap : (ss : Slots V) → Straight n (held ss) (perform code pc (at instr.Swap) instr.Swap ss)
    swap (value b ∷ value a ∷ ss) = goes_on _ _ refl (at_most (held ss))
    swap (value b ∷ iterator a ∷ ss) = goes_on _ _ refl (at_most (held ss))
    swap ss = is_stuck (held ss)

    rotate : (ss : Slots V) → Straight n (held ss) (perform code pc (at instr.Rot3) instr.Rot3 ss)
    rotate (value c ∷ value b ∷ value a ∷ ss) = goes_on _ _ refl (at_most (held ss))
    rotate ss = is_stuck (held ss)

    caught : (ss : Slots V) → Straight n (held ss) (perform code pc (at instr.Caught) instr.Caught ss)
    caught (exception e ∷ ss) = goes_on _ _ refl (at_most (held ss))
    caught ss = is_stuck (held ss)

    end_handler : (ss : Slots V) → Straight n (held ss) (perform code pc (at instr.EndHandler) instr.EndHandler ss)
    end_handler (exception e ∷ ss) = goes_on _ _ refl (at_most (held ss))
    end_handler ss = is_stuck (held ss)

    pub straight : (j : Instr) (ss : Slots V) → IsStraight j → Straight n (held ss) (perform code pc (at j) j ss)
    straight instr.Nop ss h = goes_on _ _ refl (at_most (held ss))
    straight (instr.Const k) ss h = const_straight _ _ (instr.Const k) ss
    straight (instr.SetLocal x) ss h = set_local x ss
    straight (instr.DelLocal x) ss h = goes_on _ _ refl (at_most (held ss))
    straight (instr.FreshLocal x) ss h = goes_on _ _ refl (at_most (held ss))
    straight (instr.SetCell x) ss h = set_cell x ss
    straight (instr.DelCell x) ss h = goes_on _ _ refl (at_most (held ss))
    straight (instr.FreshCell x) ss h = goes_on _ _ refl (at_most (held ss))
    straight (instr.PushCell x) ss h = goes_on _ _ refl (at_most (held ss))
    straight (instr.SetGlobal t) ss h = set_global t ss
    straight (instr.DelGlobal t) ss h = goes_on _ _ refl (at_most (held ss))
    straight (instr.SetName t) ss h = set_name t ss
    straight (instr.DelName t) ss h = goes_on _ _ refl (at_most (held ss))
    straight instr.Pop ss h = pop ss
    straight instr.Copy ss h = copy ss
    straight instr.Copy2 ss h = copy_two ss
    straight instr.Swap ss h = swap ss
    straight instr.Rot3 ss h = rotate ss
    straight instr.Caught ss h = caught ss
    straight instr.EndHandler ss h = end_handler ss
    straight instr.Normal ss h = goes_on _ _ refl (at_most (held ss))
    straight j ss h = absurd h

    module _ (next : pc < n) (rows_ahead : AllAhead pc rows) where
      is_straight : (j : ℕ) (t : Turn (State V) V) → Straight n j t → Step pc j t
      is_straight j _ (rests t e r) = stays t e r
      is_straight j _ (goes_on t ss e f) = goes t (on n ss) e (ahead n ss next f)

      moved : (j : ℕ) (s : State V) → Way pc j s → Step pc j (move s)
      moved j s w = goes (move s) s refl w

      nowhere : (j : ℕ) → Step pc j stuck
      nowhere j = stays stuck refl tt

      landed : (j : ℕ) (s : State V) → Lands (λ q. pc < q) j s → Way pc j s
      landed j _ (at_target q ss h f) = ahead q ss h f
      landed j _ (at_end e) = ended e
      landed j _ (let_go q ss f) = lets_go_back q ss f

      returned : (ss : Slots V) → Step pc (held ss) (perform code pc (at instr.Return) instr.Return ss)
      returned (value v ∷ ss) = moved _ _ (landed _ _ (lands (λ q. pc < q) rows (return v) ss rows_ahead))
      returned ss = nowhere (held ss)

      rethrown : (ss : Slots V) → Step pc (held ss) (perform code pc (at instr.Rethrow) instr.Rethrow ss)
      rethrown (exception e ∷ ss) = moved _ _ (raising e rows ss rows_ahead (at_most (held ss)))
      rethrown ss = nowhere (held ss)

      end_finally : (ss : Slots V) → Step pc (held ss) (perform code pc (at instr.EndFinally) instr.EndFinally ss)
      end_finally (pending normal ∷ ss) = moved _ _ (ahead n ss next (at_most (held ss)))
      end_finally (pending (by (raise e)) ∷ ss) = moved _ _ (raising e rows ss rows_ahead (at_most (held ss)))
      end_finally (pending (by (return v)) ∷ ss) = moved _ _ (landed _ _ (lands (λ q. pc < q) rows (return v) ss rows_ahead))
      end_finally (pending (by (jump_to t)) ∷ ss) = moved _ _ (landed _ _ (lands (λ q. pc < q) rows (jump_to t) ss rows_ahead))
      end_finally ss = nowhere (held ss)

      jumped : (t : Pc) (ss : Slots V) → LeadsOn code pc rows (instr.Jump t) → Step pc (held ss) (perform code pc (at (instr.Jump t)) (instr.Jump t) ss)
      jumped t ss (inl h) = moved _ _ (ahead t.0 ss h (at_most (held ss)))
      jumped t ss (inr h) = moved _ _ (back rows t.0 ss h (at_most (held ss)))

      decided : (t : Pc) (o : Option Bool) (v : V) (ss : Slots V) → pc < t.0
          → Step pc (held ss) (branches code (at (instr.JumpUnless t)) o (dropped n) (dropped t.0) v ss)
      decided t None v ss h = stays _ refl tt
      decided t (Some true) v ss h = moved _ _ (ahead n ss next (at_most (held ss)))
      decided t (Some false) v ss h = moved _ _ (ahead t.0 ss h (at_most (held ss)))

      tested : (t : Pc) (ss : Slots V) → pc < t.0 → Step pc (held ss) (perform code pc (at (instr.JumpUnless t)) (instr.JumpUnless t) ss)
      tested t (value v ∷ ss) h = decided t (code.is_truth v) v ss h
      tested t ss h = nowhere (held ss)

      pub silent : (j : Instr) (ss : Slots V) → LeadsOn code pc rows j → Step pc (held ss) (perform code pc (at j) j ss)
      silent instr.Return ss h = returned ss
      silent instr.Rethrow ss h = rethrown ss
      silent instr.EndFinally ss h = end_finally ss
      silent (instr.Jump t) ss h = jumped t ss h
      silent (instr.JumpUnless t) ss h = tested t ss h
      silent j ss h = is_straight _ _ (straight j ss h)

  -- where a mark stands, what is next is an act
  at_mark : (m : Mark) (t : Turn (State V) V) → Begins (Some m) t → (passes code t ≡ None) × IsAtRest t
  at_mark m (act (Some k) a next) h = (refl, tt)
  at_mark m (act None a next) h = absurd cc
  at_mark m (move s) h = absurd cc
  at_mark m (note a next) h = absurd h
  at_mark m (over e) h = absurd h
  at_mark m stuck h = (refl, tt)

  pub marked : (pc : ℕ) (i : Ins) (m : ActMark) (ss : Slots V) → code.at pc ≡ Some i → i.mark ≡ Some m
      → (passes code (turn code (on pc ss)) ≡ None) × IsAtRest (turn code (on pc ss))
  marked pc i m ss e f =
      at_mark (mark_of m) (turn code (on pc ss)) (subst (λ o. Begins (option_map mark_of o) (turn code (on pc ss))) f (begins_at code pc i ss e))

  -- what has no mark, by its other parts
  pub unmarked_is : (i : Ins) → i.mark ≡ None → i ≡ ins i.instr None i.next i.rows
  unmarked_is i e = rw (← e)
