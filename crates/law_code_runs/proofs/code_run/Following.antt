-- The code of a script's blocks follows their control, as machines of runs do.
use Rattle.std.proofs.Common.{◌≡◌, ℕ, Bool, true, false, Option, Some, None, refl, sym, ap, ◌∙◌, subst, if◌then◌else◌}
use Rattle.pt_tree.specs.Blocks as B
use Rattle.pt_tree.specs.Blocks.{Code, function_body}
use Rattle.sem_control.specs.control.Turn as T
use Rattle.sem_control.specs.control.Turn.{Around, Turn}
use Rattle.sem_control.specs.control.Frames as F
use Rattle.sem_control.specs.control.Frames.{Control}
use Rattle.sem_control.specs.control.Bases.{way_base}
use Rattle.sem_control.specs.control.Control as control
use Rattle.sem_control.specs.control.Jump as J
use Rattle.sem_control.specs.control.Reached.{start_code}
use Rattle.sem_code.specs.slots.Slots.{State, on, thrown_to, reraises, off}
use Rattle.sem_code.specs.slots.CodeObject.{CodeObject}
use Rattle.sem_code.specs.slots.Machine as slots
use Rattle.sem_code.specs.comp_expr.Law.{active_at}
use Rattle.sem_code.specs.comp.Law as comp
use Rattle.sem_code.specs.comp.Law.{Match}
use Rattle.sem_code.proofs.comp.Steps as steps
use Rattle.sem_run.specs.run.Machine as M
use Rattle.sem_run.specs.run.Machine.{BlockId, is_act, turn_in}
use Rattle.sem_run.specs.run.Host.{Host}
use Rattle.sem_run.specs.run.Run.{Debugger}
use Rattle.sem_run.specs.run.Laws.{HaveTheSameRuns}
use Rattle.sem_run.specs.run.Source as source_of
use Rattle.sem_run.specs.run.Source.{Source, or_null, begins_act}
use Rattle.sem_run.specs.run.Follows as follows
use Rattle.sem_run.specs.run.Follows.{BehindReply, SameTurn, same_act, same_note, same_end, SameJump, AtLine, Follows}
use Rattle.sem_run.proofs.run.Runs.{have_the_same_runs}
use Rattle.law_code_runs.specs.code_run.CodeMachine as code_of
use Rattle.law_code_runs.specs.code_run.CodeMachine.{Place, CodeSource, place_of}
use Rattle.law_code_runs.specs.code_run.Reached as R
use Rattle.law_code_runs.specs.code_run.Reached.{Reached}
use Rattle.law_code_runs.specs.code_run.Parts.{HasClosedParts, KnowsActs}
use Rattle.law_code_runs.specs.code_run.Law.{Of, IsCodeOf, Script, Coded}
use Rattle.law_code_runs.proofs.code_run.Beginnings.{start_context}
use Rattle.law_code_runs.proofs.code_run.States.{At, at_match, Near, comes_near, Lands, at_landing, Stands, at_turn, at_start, behind_jump}
use Rattle.law_code_runs.proofs.code_run.Jumps.{jumps_alike}
use Rattle.law_code_runs.proofs.code_run.Leads.{same_destination}

module _ {V : Type 0} (source : Source V) (code : CodeSource V) (knows : (b : BlockId) → KnowsActs source code b) where
  -- behind a reply states that stand for each other, and the same act next
  behind : (b : BlockId) (c : Control V) (t : State V) → Reached source code b c t → comp.Comes (source.around b) (code.object b) c t
      → BehindReply (Script source code) (Coded source code) (At source code) b (source_of.at c) (code_of.at t)
  behind b c t r h = record { nears = comes_near source code b c t r h; same_next = same_destination source code b (knows b) c t r h }

  same : (b : BlockId) (c : Control V) (t : State V) → Reached source code b c t → (x : Turn (Control V) V) (y : Turn (State V) V)
      → comp.Same (source.around b) (code.object b) x y → control.turn (source.around b) c ≡ x → slots.turn (code.object b) t ≡ y
      → SameTurn (Script source code) (Coded source code) (At source code) b (turn_in source_of.at x) (turn_in code_of.at y)
  same b c t d _ _ (comp.same_act m a k k' h) e f = same_act m a _ _ (λ r. behind b _ _ (R.by_reply c t m a k k' d e f r) (h r))
  same b c t d _ _ (comp.same_note a k k' h) e f = same_note a _ _ (λ r. comes_near source code b _ _ (R.by_note c t a k k' d e f r) (h r))
  same b c t d _ _ (comp.same_over v) e f = same_end v

  turns : (b : BlockId) (p : source_of.Position V) (q : code_of.Position V) → At source code b p q
      → SameTurn (Script source code) (Coded source code) (At source code) b ((Script source code).turn b p) ((Coded source code).turn b q)
  turns b _ _ (at_match c t m d) = same b c t d _ _ (steps.follows (source.around b) (code.object b) c t m) refl refl

module _ {V : Type 0} (around : Around V) (object : CodeObject V) where
  abbrev pub start_of : Bool → Option V → State V
  start_of g i = if g then slots.start_generator (or_null object.null i) else slots.start

  abbrev pub Begins : Control V → State V → Type 0
  Begins c t = comp.Comes around object c t

  -- a block begins in code as it does in control
  pub begin_by : (g : Bool) (c : Code) (i : Option V) → Of around object g c → Begins (start_code around c (or_null around.null i)) (start_of g i)
  begin_by g (B.of_module ss) i (e, starts, h) =
      subst (λ z. Begins (control.start around ss) (start_of z i)) (sym e) (steps.blocks_begin around object starts ss h)
  begin_by g (B.of_function ss) i (e, starts, h) =
      subst (λ z. Begins (control.start around (function_body ss)) (start_of z i)) (sym e) (steps.blocks_begin around object starts (function_body ss) h)
  begin_by g (B.of_class ss) i (e, starts, h) =
      subst (λ z. Begins (control.start around ss) (start_of z i)) (sym e) (steps.blocks_begin around object starts ss h)
  begin_by g (B.of_lambda l e) i (f, h) =
      subst (λ z. Begins (control.start_lambda around l e) (start_of z i)) (sym f) (steps.lambdas_begin around object l e h)
  begin_by g (B.of_generator l e k t cs) i (f, n, h) =
      subst (λ z. Begins (control.start_generator around l e k t cs (or_null around.null i)) (start_of z i)) (sym f)
      (subst (λ v. Begins (control.start_generator around l e k t cs (or_null around.null i)) (slots.start_generator (or_null v i))) (sym n)
      (steps.generators_begin around object l e k t cs (or_null around.null i) h))

  -- with nothing active
  nothing_active : (g : Bool) (i : Option V) → active_at (start_of g i) ≡ None
  nothing_active true i = refl
  nothing_active false i = refl

-- where an act begins, a jump is asked for from a place
module _ {V : Type 0} (around : Around V) (object : CodeObject V) where
  act_begins : (c : Control V) → is_act (control.turn around c) ≡ true → begins_act c ≡ true
  act_begins (F.for_value m a w) e = refl
  act_begins (F.for_deed m a k s) e = refl
  act_begins (F.for_leave m a s) e = refl
  act_begins (F.for_throw m a s) e = refl
  act_begins (F.for_truth m a t f s) e = refl
  act_begins (F.for_iter m v o) e = refl
  act_begins (F.for_item m i n t k f) e = refl
  act_begins (F.for_entry m v l n t is body s) e = refl
  act_begins (F.for_unpack m v n ts k s) e = refl
  act_begins (F.for_delegate m i r w) e = refl
  act_begins (F.silent_value a w) e = absurd cc
  act_begins (F.silent_deed a k s) e = absurd cc
  act_begins (F.noting a k s) e = absurd cc
  act_begins (F.closed v) e = absurd cc

  both_act : (x : Turn (Control V) V) (y : Turn (State V) V) → comp.Same around object x y → is_act x ≡ true → is_act y ≡ true
  both_act _ _ (comp.same_act (Some m) a k k' h) e = refl
  both_act _ _ (comp.same_act None a k k' h) e = e
  both_act _ _ (comp.same_note a k k' h) e = e
  both_act _ _ (comp.same_over v) e = e

  act_place : (t : State V) → is_act (slots.turn object t) ≡ true → (p : Place V) × (place_of t ≡ Some p)
  act_place (on pc ss) e = (record { pc = pc; slots = ss }, refl)
  act_place (thrown_to pc v ss) e = (record { pc = pc; slots = ss }, refl)
  act_place (reraises v rows ss) e = absurd cc
  act_place (off v) e = absurd cc

module _ {V : Type 0} (source : Source V) (code : CodeSource V) (of : IsCodeOf source code) (has : (b : BlockId) → HasClosedParts source code b)
    (knows : (b : BlockId) → KnowsActs source code b) where
  abbrev Alike : BlockId → source_of.Position V → code_of.Position V → ℕ → Type 0
  Alike b p q l = SameJump (Script source code) (Coded source code) (At source code) (Lands source code has) b ((Script source code).jump b p l) ((Coded source code).jump b q l)

  stands : (b : BlockId) (p : source_of.Position V) (q : code_of.Position V) → At source code b p q → Stands source code has b p q
  stands b _ _ (at_match c t m r) = at_turn c t m

  begins : (b : BlockId) (i : Option V) → Near source code b ((Script source code).start b i) ((Coded source code).start b i)
  begins b i = comes_near source code b _ _ (R.begins i) (begin_by (source.around b) (code.object b) (code.iterates b) (source.code b) i (of b))

  same_active : (b : BlockId) (p : source_of.Position V) (q : code_of.Position V) → Stands source code has b p q
      → (Script source code).active p ≡ (Coded source code).active q
  same_active b _ _ (at_turn c t m) = sym (steps.active_alike (source.around b) (code.object b) c t m)
  same_active b _ _ (at_start i) =
      start_context (source.around b) (source.code b) (or_null (source.around b).null i)
      ∙ sym (nothing_active (source.around b) (code.object b) (code.iterates b) i)
  same_active b _ _ (behind_jump _ _ (at_landing k p d h a)) = sym a

  -- from an act
  from_place : (b : BlockId) (c : Control V) (t : State V) (l : ℕ) → Match (source.around b) (code.object b) c t → Reached source code b c t
      → is_act (control.turn (source.around b) c) ≡ true → is_act (slots.turn (code.object b) t) ≡ true → (p : Place V) → place_of t ≡ Some p
      → Alike b (source_of.at c) (code_of.at t) l
  from_place b c t l m r e f p g =
      let here = jumps_alike source code has b (control.nest_at c) p ((has b).acts c t p r m e g) l (λ k q i j. R.from_act c t p q k l r m e f g i j) in
      let one : (Script source code).jump b (source_of.at c) l ≡ source_of.jump_of source b (J.jump (source.code b) (control.nest_at c) l) =
      ap (λ a. if a then source_of.jump_of source b (J.jump (source.code b) (control.nest_at c) l) else M.refuses M.not_at_line) (act_begins (source.around b) (code.object b) c e) in
      let two : (Coded source code).jump b (code_of.at t) l ≡ code_of.landing code b (code.jump b p l) =
      ap (λ a. if a then code_of.jump_from code b (place_of t) l else M.refuses M.not_at_line) f ∙ ap (λ o. code_of.jump_from code b o l) g in
      subst (λ z. SameJump (Script source code) (Coded source code) (At source code) (Lands source code has) b z ((Coded source code).jump b (code_of.at t) l)) (sym one)
      (subst (λ z. SameJump (Script source code) (Coded source code) (At source code) (Lands source code has) b (source_of.jump_of source b (J.jump (source.code b) (control.nest_at c) l)) z) (sym two) here)

  from_act : (b : BlockId) (p : source_of.Position V) (q : code_of.Position V) (l : ℕ) → At source code b p q → is_act ((Script source code).turn b p) ≡ true → Alike b p q l
  from_act b _ _ l (at_match c t m r) e =
      let f = of_turn source_of.at (control.turn (source.around b) c) e in
      let g = both_act (source.around b) (code.object b) _ _ (steps.follows (source.around b) (code.object b) c t m) f in
      let p = act_place (source.around b) (code.object b) t g in
      from_place b c t l m r f g p.0 p.1
    where
      of_turn : (i : Control V → source_of.Position V) (x : Turn (Control V) V) → is_act (turn_in i x) ≡ true → is_act x ≡ true
      of_turn i (T.act (Some m) a k) h = refl
      of_turn i (T.act None a k) h = h
      of_turn i (T.note a k) h = h
      of_turn i (T.move d) h = h
      of_turn i (T.over v) h = h
      of_turn i T.stuck h = h

  from_landing : (b : BlockId) (p : source_of.Position V) (q : code_of.Position V) (l : ℕ) → Lands source code has b p q → Alike b p q l
  from_landing b _ _ l (at_landing k p d h a) = jumps_alike source code has b (way_base k) p h l (λ j q i g. R.from_landing k j p q l d i g)

  jumps : (b : BlockId) (p : source_of.Position V) (q : code_of.Position V) (l : ℕ) → AtLine (Script source code) (Coded source code) (At source code) (Lands source code has) b p q
      → Alike b p q l
  jumps b _ _ l (follows.at_act p q h e) = from_act b p q l h e
  jumps b _ _ l (follows.at_landing p q h) = from_landing b p q l h

  pub code_follows : Follows (Script source code) (Coded source code) (At source code) (Stands source code has) (Lands source code has)
  code_follows = record {
    turns = turns source code knows;
    stands = stands;
    landings = λ b p q h. behind_jump p q h;
    starts = λ b i. at_start i;
    begins = begins;
    active = same_active;
    jumps = jumps;
  }

module _ {D N V W : Type 0} where
  pub has_the_runs : (source : Source V) (code : CodeSource V) → IsCodeOf source code → ((b : BlockId) → HasClosedParts source code b) → ((b : BlockId) → KnowsActs source code b)
      → (host : Host N V W) (ask : Debugger D N V W) (n : ℕ) (block : BlockId) (names : N) (world : W) (d : D)
      → HaveTheSameRuns (source_of.machine source) (code_of.machine code) host ask n block names world d
  has_the_runs source code of has knows host ask n block names world d =
      have_the_same_runs (Script source code) (Coded source code) (At source code) (Stands source code has) (Lands source code has) (code_follows source code of has knows)
      host ask n block names world d
