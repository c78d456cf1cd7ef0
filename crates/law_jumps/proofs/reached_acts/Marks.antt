-- What is said of an act of control in its nest is said of the act that begins at the place of
-- code.
use Rattle.std.proofs.Common.{◌≡◌, ℕ, true, [], ◌∷◌, Option, Some, None, refl, sym, ap, ◌∙◌, subst}
use Rattle.std.proofs.lemmas.Bool.{false≢true}
use Rattle.std.specs.Prelude.{option_map}
use Rattle.pt_ranges.specs.declared.lines.ActMark.{ActMark}
use Rattle.pt_code.specs.View.{Ins}
use Rattle.sem_control.specs.control.Turn as T
use Rattle.sem_control.specs.control.Turn.{Mark, Ask, Answer, Reply, Turn}
use Rattle.sem_control.specs.control.Frames.{Nest, Way, Control}
use Rattle.sem_control.specs.control.Bases.{way_base}
use Rattle.sem_control.specs.control.Control as control
use Rattle.sem_control.specs.control.Control.{nest_at}
use Rattle.sem_control.specs.control.Jump.{Shape, shape, jump, lands}
use Rattle.sem_control.specs.control.Nests.{Code_says, Turn_says}
use Rattle.sem_control.specs.control.Laws.{GoesInNests}
use Rattle.sem_control.specs.control.Reached.{Leads, here, then}
use Rattle.sem_control.proofs.control.MarksNests.{acts_in_nests, acts_behind_jumps_in_nests, acts_behind_raises_in_nests, goes_behind}
use Rattle.sem_code.specs.slots.Slots.{value, iterator, Slots, State, on, thrown_to, reraises, off}
use Rattle.sem_code.specs.slots.CodeObject.{CodeObject}
use Rattle.sem_code.specs.slots.Needs.{Begins}
use Rattle.sem_code.specs.slots.Steps.{mark_of}
use Rattle.sem_code.specs.slots.Machine as slots
use Rattle.sem_code.proofs.slots.MarkLaw.{begins_at}
use Rattle.sem_code.specs.comp.Law as comp
use Rattle.sem_code.specs.comp.Law.{Same}
use Rattle.sem_code.proofs.comp.Steps as steps
use Rattle.sem_run.specs.run.Machine.{BlockId, is_act}
use Rattle.sem_run.specs.run.Source.{Source}
use Rattle.law_code_runs.specs.code_run.CodeMachine.{Place, CodeSource, place_of}
use Rattle.law_code_runs.specs.code_run.Reached as R
use Rattle.law_code_runs.specs.code_run.Reached.{Reached, Landed}
use Rattle.law_jumps.specs.reached_acts.Laws.{ActBegins, SaidAct, AtAct, ActsAreSaid}

module _ {V : Type 0} (object : CodeObject V) where
  -- an act with this mark is next
  abbrev Marked : {S : Type 0} → Mark → Turn S V → Type 0
  Marked m (T.act n a k) = n ≡ Some m
  Marked m t = ⊥

  not_some : {A : Type 0} {x : A} → None ≡ Some x → ⊥
  not_some e = cc

  some_of : {A : Type 0} {x y : A} → Some x ≡ Some y → x ≡ y
  some_of e = cc

  -- an instruction's mark is that of the act which is next
  number_of : (o : Option ActMark) (m : Mark) → option_map mark_of o ≡ Some m
      → (k : ActMark) × (o ≡ Some k) × (m.act ≡ k.act.0)
  number_of None m e = absurd (not_some e)
  number_of (Some k) m e = (k, refl, ap (λ (n : Mark). n.act) (sym (some_of e)))

  begun : {S : Type 0} (o : Option Mark) (m : Mark) (t : Turn S V) → Begins o t → Marked m t
      → o ≡ Some m
  begun o m (T.act n a k) h e = sym h ∙ e
  begun o m (T.note a k) h e = absurd e
  begun o m (T.move s) h e = absurd e
  begun o m (T.over v) h e = absurd e
  begun o m T.stuck h e = absurd e

  begins_so : (i : Ins) (pc : ℕ) (m : Mark) → object.at pc ≡ Some i
      → option_map mark_of i.mark ≡ Some m
      → ActBegins object m.act pc
  begins_so i pc m there e =
      let k = number_of i.mark m e in
      record { ins = i; there = there; mark = k.0; marked = k.1; number = k.2 }

  -- at the place where code is, or where a raise is sent to a delegation
  at_place : (pc : ℕ) (ss : Slots V) (m : Mark) (o : Option Ins) → object.at pc ≡ o
      → Marked m (slots.turn object (on pc ss)) → ActBegins object m.act pc
  at_place pc ss m (Some i) there e =
      begins_so i pc m there (begun _ m _ (begins_at object pc i ss there) e)
  at_place pc ss m None there e = absurd (subst (λ o. Marked m (slots.here object pc o ss)) there e)

  sent : (pc : ℕ) (v : V) (ss : Slots V) (m : Mark) (i : Ins)
      → Marked m (slots.thrown_here object pc (Some i) v ss) → option_map mark_of i.mark ≡ Some m
  sent pc v (value u ∷ iterator it ∷ ss) m i e = e
  sent pc v [] m i e = absurd e
  sent pc v (value u ∷ []) m i e = absurd e
  sent pc v (s ∷ ss) m i e = absurd e

  at_delegation : (pc : ℕ) (v : V) (ss : Slots V) (m : Mark) (o : Option Ins) → object.at pc ≡ o
      → Marked m (slots.turn object (thrown_to pc v ss)) → ActBegins object m.act pc
  at_delegation pc v ss m (Some i) there e =
      begins_so i pc m there
      (sent pc v ss m i (subst (λ o. Marked m (slots.thrown_here object pc o v ss)) there e))
  at_delegation pc v ss m None there e =
      absurd (subst (λ o. Marked m (slots.thrown_here object pc o v ss)) there e)

  pub act_begins : (t : State V) (p : Place V) (m : Mark) → place_of t ≡ Some p
      → Marked m (slots.turn object t) → ActBegins object m.act p.pc
  act_begins (on pc ss) p m e h =
      subst (λ (q : Place V). ActBegins object m.act q.pc) (some_of e)
      (at_place pc ss m (object.at pc) refl h)
  act_begins (thrown_to pc v ss) p m e h =
      subst (λ (q : Place V). ActBegins object m.act q.pc) (some_of e)
      (at_delegation pc v ss m (object.at pc) refl h)
  act_begins (reraises v rows ss) p m e h = absurd (not_some e)
  act_begins (off v) p m e h = absurd (not_some e)

module _ {V : Type 0} (source : Source V) (code : CodeSource V) (b : BlockId) where
  -- one act is next in control and in code
  both : (x : Turn (Control V) V) (y : Turn (State V) V)
      → Same (source.around b) (code.object b) x y
      → is_act x ≡ true → (m : Mark) × Marked (code.object b) m x × Marked (code.object b) m y
  both _ _ (comp.same_act (Some m) a k l h) e = (m, refl, refl)
  both _ _ (comp.same_act None a k l h) e = absurd (false≢true e)
  both _ _ (comp.same_note a k l h) e = absurd (false≢true e)
  both _ _ (comp.same_over v) e = absurd (false≢true e)

  -- so it begins at the place of code
  pub act_at : (c : Control V) (t : State V) (p : Place V) → AtAct source code b c t p
      → (m : Mark) × Marked (code.object b) m (control.turn (source.around b) c)
      × ActBegins (code.object b) m.act p.pc
  act_at c t p h =
      let u = both _ _ (steps.follows (source.around b) (code.object b) c t h.alike) h.acts in
      (u.0, u.1, act_begins (code.object b) t p u.0 h.placed u.2)

module _ (Says : Shape → (act : ℕ) → Type 0) {V : Type 0} (source : Source V) (code : CodeSource V)
    (b : BlockId)
    (says : Code_says Says (source.code b)) where
  abbrev Goes : Control V → Type 0
  Goes c = GoesInNests Says (source.around b) c

  goes_by : (c d : Control V) → Goes c → Leads (control.turn (source.around b) c) d → Goes d
  goes_by c d h leads = goes_behind Says (source.around b) c d h (then here leads)

  -- control has jumped there
  jumped : (k : Way V) (p : Place V) → Landed source code b k p
      → (s : Nest V) × (line : ℕ) × (jump (source.code b) s line ≡ lands k)
  jumped _ _ (R.from_act c t p q k line h a e f g i j) = (nest_at c, line, i)
  jumped _ _ (R.from_landing j k p q line l i e) = (way_base j, line, i)

  goes : (c : Control V) (t : State V) → Reached source code b c t → Goes c
  goes _ _ (R.begins i) = acts_in_nests Says (source.around b) (source.code b) _ says
  goes _ _ (R.moves c t u h e) = goes c t h
  goes _ _ (R.by_reply c t m a k l h e f r) =
      goes_by c (k r) (goes c t h) (subst (λ x. Leads x (k r)) (sym e) (r, refl))
  goes _ _ (R.by_note c t a k l h e f r) =
      goes_by c (k r) (goes c t h) (subst (λ x. Leads x (k r)) (sym e) (r, refl))
  goes _ _ (R.goes_on k p l) =
      let j = jumped k p l in
      acts_behind_jumps_in_nests Says (source.around b) (source.code b) j.0 j.1 says k j.2
  goes _ _ (R.raises k p l v) =
      let j = jumped k p l in
      acts_behind_raises_in_nests Says (source.around b) (source.code b) j.0 j.1 says k v j.2

  said_of : (s : Shape) (m : Mark) (t : Turn (Control V) V) → Turn_says Says s t
      → Marked (code.object b) m t → Says s m.act
  said_of s m (T.act (Some n) a k) h e =
      subst (λ (x : Mark). Says s x.act) (some_of (code.object b) e) h
  said_of s m (T.act None a k) h e = absurd (not_some (code.object b) e)
  said_of s m (T.note a k) h e = absurd e
  said_of s m (T.move c) h e = absurd e
  said_of s m (T.over v) h e = absurd e
  said_of s m T.stuck h e = absurd e

  said_at : (c : Control V) (t : State V) (p : Place V) → AtAct source code b c t p
      → SaidAct Says (code.object b) (shape (nest_at c)) p.pc
  said_at c t p h =
      let u = act_at source code b c t p h in
      let said = said_of (shape (nest_at c)) u.0 _ (goes c t h.reached c here) u.1 in
      record { act = u.0.act; begins = u.2; said = said }

pub acts_are_said : (Says : Shape → (act : ℕ)
    → Type 0) {V : Type 0} (source : Source V) (code : CodeSource V) (b : BlockId)
    → ActsAreSaid source code b Says
acts_are_said Says source code b says c t p h = said_at Says source code b says c t p h
