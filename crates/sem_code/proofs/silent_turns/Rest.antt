-- Code that goes ahead comes to rest from each state.
use Rattle.std.proofs.Common.{◌≡◌, ◌≤◌, ◌<◌, ◌+◌, ◌*◌, ℕ, zero, suc, List, [], ◌∷◌, length, Option, Some, None, refl, sym, ap, ◌∙◌, subst, arith}
use Rattle.std.proofs.Math.Nat.{suc-mul}
use Rattle.pt_ranges.specs.declared.lines.ActMark.{ActMark}
use Rattle.pt_ranges.specs.declared.handlers.Handler.{Handler}
use Rattle.pt_code.specs.View.{Ins}
use Rattle.sem_control.specs.control.Turn as T
use Rattle.sem_control.specs.control.Turn.{Mark, Answer, Reply, Turn, act}
use Rattle.sem_code.specs.slots.Slots.{raise, Slots, State, on, thrown_to, reraises, off}
use Rattle.sem_code.specs.slots.CodeObject.{CodeObject}
use Rattle.sem_code.specs.slots.Landing.{land}
use Rattle.sem_code.specs.slots.Instructions.{perform}
use Rattle.sem_code.specs.slots.Machine.{turn, here, thrown_here}
use Rattle.sem_code.specs.slots.Destinations.{passes, unhindered}
use Rattle.sem_code.specs.slots.Stretches.{ins}
use Rattle.sem_code.specs.slots.Slots as S
use Rattle.sem_code.specs.silent_turns.Ahead as A
use Rattle.sem_code.specs.silent_turns.Ahead.{AllTargets, NearAct, GoesAhead, turns_to_act}
use Rattle.sem_code.specs.silent_turns.Laws.{IsAtRest, ComesToRest}
use Rattle.sem_code.proofs.silent_turns.Turns as turns
use Rattle.sem_code.proofs.silent_turns.Turns.{held, held_few, Caught, raise_lands, Straight, straight, Way, Step, silent, marked, unmarked_is}

-- two turns for each place that is still ahead, and one for each on a way to a near act; and all of that once more for each jump that is held
abbrev rounds : (size held : ℕ) → ℕ
rounds size zero = size
rounds size (suc j) = rounds size j + (size + size)

abbrev turns_from : (size held ahead : ℕ) → ℕ
turns_from size j k = k + k + rounds size j

least_round : (size j : ℕ) → size ≤ rounds size j
least_round size zero = omega arith
least_round size (suc j) = let n = least_round size j in omega (arith, n)

rounds_are : (size j : ℕ) → rounds size j ≡ size + j * (2 * size)
rounds_are size zero = omega arith
rounds_are size (suc j) = let e = rounds_are size j in let f = suc-mul j (2 * size) in omega (arith, e, f)

module _ {V : Type 0} (code : CodeObject V) where
  -- within so many turns nothing is left to be passed
  data Settles : ℕ → State V → Type 0 where
    at_rest : (n : ℕ) (s : State V) → passes code (turn code s) ≡ None → IsAtRest (turn code s) → Settles n s
    one_on : (n : ℕ) (s u : State V) → passes code (turn code s) ≡ Some u → Settles n u → Settles (suc n) s

  within_more : (n m : ℕ) (s : State V) → Settles n s → n ≤ m → Settles m s
  within_more _ m _ (at_rest n s e r) h = at_rest m s e r
  within_more _ zero _ (one_on n s u e i) h = absurd (let none : ⊥ = omega (arith, h) in none)
  within_more _ (suc m) _ (one_on n s u e i) h = one_on m s u e (within_more n m u i (omega (arith, h)))

  settled : (n : ℕ) (s : State V) → Settles n s → IsAtRest (turn code (unhindered code n s))
  settled zero _ (at_rest k s e r) = r
  settled (suc n) _ (at_rest k s e r) = rw e (settled n s (at_rest n s e r))
  settled (suc n) _ (one_on k s u e i) = rw e (settled n u i)

  module _ (size : ℕ) (goes : GoesAhead code size) where
    -- where no instruction stands
    nothing : (n pc : ℕ) (ss : Slots V) → code.at pc ≡ None → Settles n (on pc ss)
    nothing n pc ss e = at_rest n (on pc ss) (ap (λ o. passes code (here code pc o ss)) e) (subst (λ o. IsAtRest (here code pc o ss)) (sym e) tt)

    act_there : (n pc : ℕ) (i : Ins) (m : ActMark) (ss : Slots V) → code.at pc ≡ Some i → i.mark ≡ Some m → Settles n (on pc ss)
    act_there n pc i m ss e f = let h = marked code pc i m ss e f in at_rest n (on pc ss) h.0 h.1

    -- the turn where an instruction stands without a mark
    turn_is : (pc : ℕ) (i : Ins) (ss : Slots V) → code.at pc ≡ Some i → i.mark ≡ None
        → turn code (on pc ss) ≡ perform code pc (ins i.instr None i.next i.rows) i.instr ss
    turn_is pc i ss e f = ap (λ o. here code pc o ss) e ∙ ap (λ j. perform code pc j i.instr ss) (unmarked_is code i f)

    near : (rows : List Handler) (k pc : ℕ) (ss : Slots V) → NearAct code rows pc → size ≤ pc + k → Settles k (on pc ss)
    near rows k _ ss (A.there pc i m e f) h = act_there k pc i m ss e f
    near rows zero _ ss (A.behind pc i e f s r l n) h = let within = goes.inside pc i e in absurd (let none : ⊥ = omega (arith, within, h) in none)
    near rows (suc k) _ ss (A.behind pc i e f s r l n) h =
        by (turn code (on pc ss)) refl (λ us. near rows k i.next us n (omega (arith, l, h)))
        (subst (Straight code i.next (held ss)) (sym (turn_is pc i ss e f)) (straight code pc i.next i.rows i.instr ss s))
      where
        by : (t : Turn (State V) V) → turn code (on pc ss) ≡ t → ((us : Slots V) → Settles k (on i.next us)) → Straight code i.next (held ss) t
            → Settles (suc k) (on pc ss)
        by _ g more (turns.rests t p r) = at_rest (suc k) (on pc ss) (ap (λ t. passes code t) g ∙ p) (subst (λ t. IsAtRest t) (sym g) r)
        by _ g more (turns.goes_on t us p q) = one_on k (on pc ss) (on i.next us) (ap (λ t. passes code t) g ∙ p) (more us)

    abbrev SettlesAhead : (j : ℕ) → Type 0
    SettlesAhead j = (k pc : ℕ) (ss : Slots V) → held ss ≤ j → size ≤ pc + k → Settles (turns_from size j k) (on pc ss)

    abbrev WithFewer : (j : ℕ) → Type 0
    WithFewer zero = Unit {0}
    WithFewer (suc j) = SettlesAhead j

    -- a raise that goes on is a note, behind which it lands
    raised_on : (P : ℕ → Type 0) (n : ℕ) (e : V) (rows : List Handler) (ss : Slots V) → AllTargets P rows
        → ((q : ℕ) (us : Slots V) → P q → held us ≤ held ss → Settles n (on q us)) → Settles (suc n) (reraises e rows ss)
    raised_on P n e rows ss h f = one_on n (reraises e rows ss) (land code rows (raise e) ss) refl (by _ (raise_lands code P rows e ss h))
      where
        by : (s : State V) → Caught P (held ss) s → Settles n s
        by _ (turns.by_row q us p l) = f q us p l
        by _ (turns.by_none v) = at_rest n (off v) refl tt

    -- some turns more
    on_way : (j k pc : ℕ) → WithFewer j → ((q : ℕ) (us : Slots V) → held us ≤ j → size ≤ q + k → Settles (turns_from size j k) (on q us))
        → size ≤ pc + suc k → (l : ℕ) → l ≤ j → (u : State V) → Way code pc l u → Settles (k + suc k + rounds size j) u
    on_way j k pc fewer nearer h l f _ (turns.ahead q ss p g) = within_more _ _ _ (nearer q ss (omega (arith, f, g)) (omega (arith, p, h))) (omega arith)
    on_way j k pc fewer nearer h l f _ (turns.back rows q ss p g) =
        let some = least_round size j in within_more size _ _ (near rows size q ss p (omega arith)) (omega (arith, some))
    on_way zero k pc fewer nearer h l f _ (turns.lets_go_back q ss g) = absurd (let none : ⊥ = omega (arith, f, g) in none)
    on_way (suc j) k pc fewer nearer h l f _ (turns.lets_go_back q ss g) = within_more _ _ _ (fewer size q ss (omega (arith, f, g)) (omega arith)) (omega arith)
    on_way j k pc fewer nearer h l f _ (turns.raising e rows ss p g) =
        within_more _ _ _ (raised_on (λ q. pc < q) (turns_from size j k) e rows ss p (λ q us p i. nearer q us (omega (arith, f, g, i)) (omega (arith, p, h)))) (omega arith)
    on_way j k pc fewer nearer h l f _ (turns.ended e) = at_rest _ (off e) refl tt

    -- from a place, given that it is so from those ahead
    one_place : (j k pc : ℕ) (ss : Slots V) → WithFewer j → ((q : ℕ) (us : Slots V) → held us ≤ j → size ≤ q + k → Settles (turns_from size j k) (on q us))
        → held ss ≤ j → size ≤ pc + suc k → Settles (turns_from size j (suc k)) (on pc ss)
    one_place j k pc ss fewer nearer f h = by (code.at pc) refl
      where
        passing : (t : Turn (State V) V) → turn code (on pc ss) ≡ t → Step code pc (held ss) t → Settles (turns_from size j (suc k)) (on pc ss)
        passing _ g (turns.stays t p r) = at_rest _ (on pc ss) (ap (λ t. passes code t) g ∙ p) (subst (λ t. IsAtRest t) (sym g) r)
        passing _ g (turns.goes t u p w) =
            within_more _ _ _ (one_on (k + suc k + rounds size j) (on pc ss) u (ap (λ t. passes code t) g ∙ p) (on_way j k pc fewer nearer h (held ss) f u w)) (omega arith)

        unmarked : (i : Ins) → code.at pc ≡ Some i → i.mark ≡ None → Settles (turns_from size j (suc k)) (on pc ss)
        unmarked i e g =
            let a = goes.onward pc i e g in
            passing (turn code (on pc ss)) refl (subst (Step code pc (held ss)) (sym (turn_is pc i ss e g)) (silent code pc i.next i.rows a.next a.rows i.instr ss a.leads))

        by_mark : (i : Ins) (o : Option ActMark) → code.at pc ≡ Some i → i.mark ≡ o → Settles (turns_from size j (suc k)) (on pc ss)
        by_mark i None e g = unmarked i e g
        by_mark i (Some m) e g = act_there _ pc i m ss e g

        by : (o : Option Ins) → code.at pc ≡ o → Settles (turns_from size j (suc k)) (on pc ss)
        by None e = nothing _ pc ss e
        by (Some i) e = by_mark i i.mark e refl

    no_place : (n pc : ℕ) (ss : Slots V) → size ≤ pc + zero → Settles n (on pc ss)
    no_place n pc ss h = by (code.at pc) refl
      where
        by : (o : Option Ins) → code.at pc ≡ o → Settles n (on pc ss)
        by None e = nothing n pc ss e
        by (Some i) e = let within = goes.inside pc i e in absurd (let none : ⊥ = omega (arith, within, h) in none)

    settles_at : (j : ℕ) → WithFewer j → SettlesAhead j
    settles_at j fewer zero pc ss f h = no_place _ pc ss h
    settles_at j fewer (suc k) pc ss f h = one_place j k pc ss fewer (λ q us. settles_at j fewer k q us) f h

    settles : (j : ℕ) → SettlesAhead j
    settles zero = settles_at zero tt
    settles (suc j) = settles_at (suc j) (settles j)

    all_targets : (rows : List Handler) → AllTargets (λ q. Unit {0}) rows
    all_targets [] = tt
    all_targets (row ∷ rows) = (tt, all_targets rows)

    -- a delegation to which a raise is sent asks for that
    sent_rests : (m : Option Mark) (it : V) (r : Reply V V) (k : Reply V (Answer V (T.delegate it r)) → State V)
        → (passes code (act m (T.delegate it r) k) ≡ None) × IsAtRest (act m (T.delegate it r) k)
    sent_rests None it r k = (refl, tt)
    sent_rests (Some m) it r k = (refl, tt)

    sent : (pc : ℕ) (e : V) (o : Option Ins) (ss : Slots V) → (passes code (thrown_here code pc o e ss) ≡ None) × IsAtRest (thrown_here code pc o e ss)
    sent pc e None ss = (refl, tt)
    sent pc e (Some i) (S.value v ∷ S.iterator it ∷ ss) = sent_rests _ _ _ _
    sent pc e (Some i) ss = (refl, tt)

    from_state : (s : State V) → Settles (turns_to_act size s) s
    from_state (on pc ss) =
        let few = held_few ss in
        let same = rounds_are size (length ss) in
        within_more _ _ _ (settles (length ss) size pc ss few (omega arith)) (omega (arith, same))
    from_state (thrown_to pc e ss) = let h = sent pc e (code.at pc) ss in at_rest _ _ h.0 h.1
    from_state (reraises e rows ss) =
        let few = held_few ss in
        let same = rounds_are size (length ss) in
        within_more _ _ _ (raised_on (λ q. Unit {0}) (turns_from size (length ss) size) e rows ss (all_targets rows)
        (λ q us p l. settles (length ss) size q us (omega (arith, few, l)) (omega arith))) (omega (arith, same))
    from_state (off e) = at_rest _ (off e) refl tt

pub comes_to_rest : {V : Type 0} (code : CodeObject V) (size : ℕ) → ComesToRest code size
comes_to_rest code size goes s = settled code (turns_to_act size s) s (from_state code size goes s)
