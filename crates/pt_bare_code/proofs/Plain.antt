-- Blocks that give no value on: their control asks nothing to which a host gives a value on, so bare runs of it are never stuck.
use Rattle.std.proofs.Common.{◌≡◌, ℕ, List, Bool, true, false, Some, refl, sym, ap, ◌∙◌, subst}
use Rattle.std.specs.Prelude.{slice_get}
use Rattle.std.specs.List.{list_any}
use Rattle.std.proofs.lemmas.List.Folds.{list_any_at}
use Rattle.std.proofs.lemmas.Option.{slice_get_within, get_or_from_slice_get}
use Rattle.pt_tree.specs.declared.act.ActRow.{ActRow}
use Rattle.pt_tree.specs.declared.act.ActKind.{ActKind}
use Rattle.pt_tree.specs.declared.act.ActKind.TheVariants as K
use Rattle.pt_tree.specs.Blocks.{acts_of_code}
use Rattle.sem_control.specs.control.Turn as T
use Rattle.sem_control.specs.control.Turn.{Mark, Around, Turn}
use Rattle.sem_control.specs.control.Frames as F
use Rattle.sem_control.specs.control.Frames.{Control}
use Rattle.sem_control.specs.control.Control as control
use Rattle.sem_control.specs.control.Reached.{IsFor, IsRow, Leads, Reaches, here, then, start_code}
use Rattle.sem_control.proofs.control.MarksLaw.{marks_are_rows}
use Rattle.pt_ranges.specs.declared.handlers.Handler.{Handler}
use Rattle.sem_code.specs.slots.Slots.{State, Slots}
use Rattle.sem_code.specs.slots.CodeObject.{CodeObject}
use Rattle.sem_code.specs.comp_expr.Law as expressions
use Rattle.sem_code.specs.comp.Law as comp
use Rattle.sem_code.proofs.comp.Steps as steps
use Rattle.sem_run.specs.run.Machine.{BlockId, Machine, turn_in}
use Rattle.sem_run.specs.run.Host.{Host}
use Rattle.sem_run.specs.run.Source as source_of
use Rattle.sem_run.specs.run.Source.{Source, or_null}
use Rattle.pt_bare_runs.specs.Laws.{AsksPlainly, TurnStays, GivesNothingOn, OpensOnly, NeverStuck}
use Rattle.pt_bare_runs.proofs.NeverStuck.{never_stuck}
use Rattle.law_code_runs.proofs.code_run.Following.{begin_by}
use Rattle.sem_code_machine.specs.code_machine.CodeBlocks as code_of
use Rattle.sem_code_machine.specs.code_machine.CodeBlocks.{CodeBlocks}
use Rattle.pt_bare_code.specs.Law.{HaveTheirCode, NoneGivesOn}
use Rattle.pt_bare_code.proofs.Coded.{is_stuck_nowhere_else}

-- the kinds of acts by which a block gives values on, as `yields` has them
abbrev gives_on : ActKind → Bool
gives_on K.Yield = true
gives_on K.Delegate = true
gives_on k = false

-- a row that gives a value on is one of a block that does
given_on : (rows : List ActRow) (n : ℕ) (r : ActRow) → slice_get rows n ≡ Some r → gives_on r.kind ≡ true → list_any (λ x. gives_on x.kind) rows ≡ true
given_on rows n r e g =
    list_any_at (λ x. gives_on x.kind) rows n r (slice_get_within rows n r e) (ap (λ x. gives_on x.kind) (get_or_from_slice_get rows n r r e) ∙ g)

-- a turn to whose ask no host gives a value on
abbrev Plainly : {S V : Type 0} → Turn S V → Type 0
Plainly (T.act m a k) = AsksPlainly a
Plainly (T.note a k) = Unit {0}
Plainly (T.move c) = Unit {0}
Plainly (T.over e) = Unit {0}
Plainly T.stuck = Unit {0}

-- what is asked without a mark, for a value
abbrev SilentPlainly : {V : Type 0} → Control V → Type 0
SilentPlainly (F.silent_value a w) = AsksPlainly (T.seek a)
SilentPlainly c = Unit {0}

abbrev AsksDeed : {S V : Type 0} → Turn S V → Bool
AsksDeed (T.act m (T.deed d) k) = true
AsksDeed t = false

module _ {V : Type 0} (block : Around V) (rows : List ActRow) (none : list_any (λ r. gives_on r.kind) rows ≡ false) where
  none_gives : {A : Type 0} (k : ActKind) (m : Mark) (r : ActRow) → slice_get rows m.act ≡ Some r → IsFor r (Some k) m → gives_on k ≡ true → A
  none_gives k m r e is g =
      let same : Some k ≡ Some r.kind = is.same_kind in
      let kinds : k ≡ r.kind = cc in
      let h : true ≡ false = sym (given_on rows m.act r e (subst (λ z. gives_on z ≡ true) kinds g)) ∙ none in absurd cc

  plainly : (c : Control V) → IsRow rows block c → SilentPlainly c → Plainly (control.turn block c)
  plainly (F.for_value m (T.yielding v) w) (row, e, is) s = none_gives K.Yield m row e is refl
  plainly (F.for_value m (T.const k) w) h s = tt
  plainly (F.for_value m (T.load x) w) h s = tt
  plainly (F.for_value m (T.operate o vs) w) h s = tt
  plainly (F.for_value m (T.cell_of x) w) h s = tt
  plainly (F.for_deed m a k t) h s = tt
  plainly (F.for_leave m a t) h s = tt
  plainly (F.for_throw m a t) h s = tt
  plainly (F.for_truth m a t f u) h s = tt
  plainly (F.for_iter m v o) h s = tt
  plainly (F.for_item m i n t k f) h s = tt
  plainly (F.for_entry m v l n t is body u) h s = tt
  plainly (F.for_unpack m v n ts k t) h s = tt
  plainly (F.for_delegate m i r w) (row, e, is) s = none_gives K.Delegate m row e is refl
  plainly (F.silent_value a w) h s = s
  plainly (F.silent_deed a k t) h s = tt
  plainly (F.noting a k t) h s = tt
  plainly (F.closed v) h s = tt

module _ {V : Type 0} (block : Around V) (code : CodeObject V) where
  -- a deed is no value
  by_deed : (c : Control V) → AsksDeed (control.turn block c) ≡ true → SilentPlainly c
  by_deed (F.silent_value a w) e = absurd cc
  by_deed c e = tt

  -- without a mark code asks for cells alone
  silent_within : (rows : List Handler) (outer : expressions.Outer V) (σ : Slots V) (p : ℕ) (c : Control V) (t : State V)
      → expressions.Match block code rows outer σ p c t → SilentPlainly c
  silent_within rows outer σ p _ _ (expressions.m_value m a w t i ss ts q e er o k) = tt
  silent_within rows outer σ p _ _ (expressions.m_cell x l n g op lower cs vs before xs w t i ss ts p1 q e er o u h f k) = tt
  silent_within rows outer σ p _ _ (expressions.m_truth m v t f s st i ts next e er h ht hf) = tt
  silent_within rows outer σ p c _ (expressions.m_deed m d k s t i ts u _ e ec en ea er h hk) = by_deed c (ap AsksDeed ec)
  silent_within rows outer σ p _ _ (expressions.m_item m it n tg k f t i ss q q' to e er en ht hk hf h) = tt
  silent_within rows outer σ p _ _ (expressions.m_unpack m v n ts k t i ss q q' e er hts hk h) = tt
  silent_within rows outer σ p _ _ (expressions.m_iter m v o t i ss q e er k) = tt
  silent_within rows outer σ p _ _ (expressions.m_delegate l n it u r w t ss p1 q h e er k) = tt

  silent : (c : Control V) (t : State V) → comp.Match block code c t → SilentPlainly c
  silent _ _ (comp.m_within outer rows σ p c t b m) = silent_within rows outer σ p c t m
  silent _ _ (comp.m_deed m d k s x t i τ u c e ec er up g h a en) = by_deed c (ap AsksDeed ec)
  silent _ _ (comp.m_leave m a s x t i τ e er up may g b) = tt
  silent _ _ (comp.m_throw m a s x t i τ e er up g b) = tt
  silent _ _ (comp.m_truth m a k f s x t i τ next e er up g ht hf b) = tt
  silent _ _ (comp.m_iter m v l n tg body els s x t i σ q first next other end' e er up hn h g b) = tt
  silent _ _ (comp.m_next m it l n tg body els s x t i σ first next other end' e er up hl h g b) = tt
  silent _ _ (comp.m_entry m v l n tg is body s x t i σ row q end' e er up a h hx g b) = tt
  silent _ _ (comp.m_note v s x rows τ e g b) = tt
  silent _ _ (comp.m_over e) = tt

  matched : (c : Control V) (t : State V) → comp.Comes block code c t → (u : State V) × comp.Match block code c u
  matched _ _ (comp.there c t m) = (t, m)
  matched _ _ (comp.moves c t u e h) = matched c u h

module _ {V : Type 0} (source : Source V) (code : CodeBlocks V) (of : HaveTheirCode source code) (none : NoneGivesOn source) where
  abbrev Script : Machine (source_of.Position V) V
  Script = source_of.machine source

  -- states of control to which replies lead from the beginning of a block, and for which code stands
  data Within (b : BlockId) : source_of.Position V → Type 0 where
    within : (i : V) (c : Control V) (t : State V) → Reaches (source.around b) (start_code (source.around b) (source.code b) i) c
        → comp.Comes (source.around b) (code.object b) c t → Within b (source_of.at c)

  stays : (b : BlockId) (i : V) (c : Control V) → Reaches (source.around b) (start_code (source.around b) (source.code b) i) c
      → (x : Turn (Control V) V) (y : Turn (State V) V) → comp.Same (source.around b) (code.object b) x y → control.turn (source.around b) c ≡ x → Plainly x
      → TurnStays (Within b) (turn_in source_of.at x)
  stays b i c r _ _ (comp.same_act m a k k' h) e p =
      (p, λ q. within i (k q) (k' q) (then r (subst (λ z. Leads z (k q)) (sym e) (q, refl))) (h q))
  stays b i c r _ _ (comp.same_note a k k' h) e p = λ q. within i (k q) (k' q) (then r (subst (λ z. Leads z (k q)) (sym e) (q, refl))) (h q)
  stays b i c r _ _ (comp.same_over v) e p = tt

  turns : (b : BlockId) (p : source_of.Position V) → Within b p → TurnStays (Within b) (Script.turn b p)
  turns b _ (within i c t r h) =
      let m = matched (source.around b) (code.object b) c t h in
      stays b i c r _ _ (steps.follows (source.around b) (code.object b) c m.0 m.1) refl
      (plainly (source.around b) (acts_of_code (source.code b)) (none b) c (marks_are_rows (source.around b) (source.code b) i c r)
      (silent (source.around b) (code.object b) c m.0 m.1))

  gives_nothing : GivesNothingOn Script Within
  gives_nothing = record {
    starts = λ b i. within (or_null (source.around b).null i) _ _ here (begin_by (source.around b) (code.object b) (code.iterates b) (source.code b) i (of b));
    turns = turns;
  }

module _ {N V W : Type 0} where
  pub never_stuck_where_nothing_is_given_on : (source : Source V) (code : CodeBlocks V) → HaveTheirCode source code → NoneGivesOn source
      → (host : Host N V W) → OpensOnly host → (n : ℕ) (block : BlockId) (names : N) (world : W) → NeverStuck (code_of.machine code) host n block names world
  never_stuck_where_nothing_is_given_on source code of none host opens n block names world =
      is_stuck_nowhere_else source code of host n block names world
      (never_stuck (Script source code of none) host n (Within source code of none) (gives_nothing source code of none) opens block names world)
