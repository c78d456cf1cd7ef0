-- Each loop of a block has an act: where none begins steps go ahead, or back to where one is near.
use Rattle.std.proofs.Common.{◌≡◌, ◌≤◌, ◌<◌, ◌-◌, ◌⊎◌, inl, inr, ℕ, zero, suc, Bool, true, false, cond, if◌then◌else◌, List, [], ◌∷◌, ◌++◌, length, map, filter, Contains, Option, Some, None, refl, sym, ap, ◌∙◌, subst, arith}
use Rattle.pt_tree.specs.Blocks.{Code}
use Rattle.pt_base.specs.declared.numbers.Pc.{Pc}
use Rattle.pt_instr.specs.declared.Instr.{Instr}
use Rattle.pt_instr.specs.declared.Instr.TheVariants as instr
use Rattle.pt_instr.specs.declared.effects.Effect.{Effect}
use Rattle.pt_instr.specs.Effects.{Kinds, effect_of}
use Rattle.pt_ranges.specs.declared.handlers.Handler.{Handler}
use Rattle.pt_code.specs.View.{Ins}
use Rattle.pt_code.specs.declared.Start.{Start}
use Rattle.sem_control.specs.control.Turn.{Around}
use Rattle.sem_code.specs.slots.CodeObject.{CodeObject}
use Rattle.pt_assembler.specs.PieceAt.{Piece_at}
use Rattle.sem_fits.specs.fits.Block.{Links, Block, effect, kinds_at_start}
use Rattle.sem_fits.specs.fits.Steps.{Step, step, steps_of, by_instruction, by_handlers, onward, aside, again, is_within, landing, target_of, has_enough}
use Rattle.sem_fits.specs.fits.Leaves as L
use Rattle.sem_fits.specs.fits.Leaves.{Departs, Goes}
use Rattle.sem_fits.specs.fits.Fits as fits
use Rattle.sem_fits.specs.fits.Fits.{Unmarked, Silent, SilentLoop}
use Rattle.law_operands.specs.law_files.sem_compile.stm_pieces.Names.{TakesCells, Code_named}
use Rattle.law_operands.specs.law_files.sem_compile.stm_pieces.Laws.{outermost, slots_of}
use Rattle.law_operands.specs.law_files.sem_compile.stm_pieces.StmPiece.{code_piece}
use Rattle.law_pieces.specs.piece_kinds.Walk.{Known, StackMap, kinds_of}
use Rattle.law_pieces.specs.piece_kinds.Table.{Rises, Table, slot_of, IsTableOf}
use Rattle.law_pieces.specs.piece_kinds.Exits.{LeadsBelow}
use Rattle.law_pieces.specs.piece_kinds.Laws.{table_of}
use Rattle.law_pieces.proofs.piece_kinds.ListLemmas.{length_kinds}
use Rattle.law_pieces.proofs.piece_kinds.PieceLaw.{not_both, is_some_of}
use Rattle.law_pieces.proofs.piece_kinds.Finds.{Finds}
use Rattle.law_pieces.proofs.piece_kinds.OriginLaw.{has_kinds}
use Rattle.law_pieces.proofs.piece_kinds.TableLaw.{found_at}
use Rattle.law_typed_pieces.specs.typed_pieces.Laws.{first_slots}
use Rattle.law_typed_pieces.proofs.typed_pieces.Tables.{Ready, all_ready, have_tables}
use Rattle.sem_code.specs.silent_turns.Ahead as A
use Rattle.sem_code.specs.silent_turns.Ahead.{IsStraight, AllTargets, AllAhead, NearAct, LeadsOn, GoesAhead}
use Rattle.law_pieces.specs.forward_pieces.Laws.{InOrder}
use Rattle.law_pieces.proofs.forward_pieces.Places.{pieces_go_ahead}
use Rattle.law_pieces.proofs.forward_pieces.Statements.{pieces_go_forward}
use Rattle.law_typed_pieces.specs.silent_loops.Laws.{BlocksHaveActsInLoops, HeldJumpsLeadAhead}
use Rattle.law_typed_pieces.proofs.silent_loops.Held.{held_ahead}
use Rattle.law_typed_pieces.proofs.silent_loops.Holding.{uppermost, may_be}

-- the ways on from an instruction, each with a property
module _ (P : ℕ → Type 0) where
  abbrev AllSteps : List Step → Type 0
  AllSteps [] = Unit {0}
  AllSteps (s ∷ ss) = P s.to × AllSteps ss

  one_of : (ss : List Step) (r : ℕ) (ks : Kinds) (k : ℕ) → AllSteps ss → Contains ss (step r ks k) → P r
  one_of [] r ks k h (n, l, e) = absurd (let f : ⊥ = omega (arith, l) in f)
  one_of (s ∷ ss) r ks k (h, hs) (zero, l, e) = subst (λ (z : Step). P z.to) e h
  one_of (s ∷ ss) r ks k (h, hs) (suc n, l, e) = one_of ss r ks k hs (n, omega (arith, l), e)

  both_of : (ss ts : List Step) → AllSteps ss → AllSteps ts → AllSteps (ss ++ ts)
  both_of [] ts h f = f
  both_of (s ∷ ss) ts (h, hs) f = (h, both_of ss ts hs f)

  onward_all : (e : Effect) (ks : Kinds) (next : ℕ) (o : Option Kinds) → P next → AllSteps (onward e ks next o)
  onward_all e ks next None h = tt
  onward_all e ks next (Some g) h = (h, tt)

  aside_all : (e : Effect) (ks : Kinds) (t : Option ℕ) (o : Option Kinds) → ((n : ℕ) → t ≡ Some n → P n) → AllSteps (aside e ks t o)
  aside_all e ks (Some n) (Some g) h = (h n refl, tt)
  aside_all e ks (Some n) None h = tt
  aside_all e ks None o h = tt

  again_none : (e : Effect) (ks : Kinds) (pc : ℕ) → e.again ≡ false → AllSteps (again e ks pc)
  again_none e ks pc f = subst (λ t. AllSteps (if t then step pc ks (length ks) ∷ [] else [])) (sym f) tt

  handlers_all : (e : Effect) (ks : Kinds) (rows : List Handler) → AllTargets P rows → AllSteps (by_handlers e ks rows)
  handlers_all e ks [] h = tt
  handlers_all e ks (row ∷ rows) (h, hs) = by (is_within e ks row) (handlers_all e ks rows hs)
    where
      by : (t : Bool) → AllSteps (by_handlers e ks rows) → AllSteps (map (landing ks) (cond t (row ∷ filter (is_within e ks) rows) (filter (is_within e ks) rows)))
      by true f = (h, f)
      by false f = f

  steps_all : (links : Links) (pc : ℕ) (ks : Kinds) (i : Ins) → P i.next → ((n : ℕ) → target_of i.instr ≡ Some n → P n)
      → (let e = effect links i.instr in e.again) ≡ false → AllTargets P i.rows → AllSteps (steps_of links pc ks (Some i))
  steps_all links pc ks i next target never rows =
      both_of (by_instruction (effect links i.instr) ks pc i) (by_handlers (effect links i.instr) ks i.rows)
      (by (has_enough (effect links i.instr) ks)) (handlers_all (effect links i.instr) ks i.rows rows)
    where
      by : (t : Bool) → let e = effect links i.instr in
          AllSteps (if t then onward e ks i.next e.gives ++ (aside e ks (target_of i.instr) e.aside ++ again e ks pc) else [])
      by true = let e = effect links i.instr in both_of (onward e ks i.next e.gives) _ (onward_all e ks i.next e.gives next)
          (both_of (aside e ks (target_of i.instr) e.aside) _ (aside_all e ks (target_of i.instr) e.aside target) (again_none e ks pc never))
      by false = tt

all_targets : (P Q : ℕ → Type 0) (rows : List Handler) → ((n : ℕ) → P n → Q n) → AllTargets P rows → AllTargets Q rows
all_targets P Q [] f h = tt
all_targets P Q (row ∷ rows) f (h, hs) = (f row.target.0 h, all_targets P Q rows f hs)

straight_alone : (links : Links) (j : Instr) → IsStraight j → (let e = effect links j in e.again) ≡ false
unfolding effect_of
straight_alone links instr.Delegate h = absurd h
straight_alone links j h = refl

straight_target : {A : Type 0} (j : Instr) (n : ℕ) → IsStraight j → target_of j ≡ Some n → A
straight_target (instr.Next t) n h e = absurd h
straight_target (instr.Jump t) n h e = absurd h
straight_target (instr.JumpIf t) n h e = absurd h
straight_target (instr.JumpUnless t) n h e = absurd h
straight_target (instr.JumpIfKeep t) n h e = absurd h
straight_target (instr.JumpUnlessKeep t) n h e = absurd h
straight_target j n h e = not_both (sym e)

join : {b : Block} {q r s : ℕ} → Silent b q r → Silent b r s → Silent b q s
join w (fits.once u g) = fits.more w u g
join w (fits.more v u g) = fits.more (join w v) u g

module _ {V : Type 0} (code : CodeObject V) (b : Block) (same : (pc : ℕ) → code.at pc ≡ b.at pc) (goes : GoesAhead code b.size)
    (leaves : (t q : ℕ) (rows : List Handler) (ks : Kinds) → Departs b b.size t q rows ks → Unmarked b q → q < t) where
  -- a step without an act: ahead, or by a jump back to where an act is near
  data Edge (q : ℕ) (i : Ins) : ℕ → Type 0 where
    ahead : (r : ℕ) → q < r → Edge q i r
    back : (t : Pc) → i.instr ≡ instr.Jump t → NearAct code i.rows t.0 → Edge q i t.0

  leads_alone : (q : ℕ) (rows : List Handler) (j : Instr) → LeadsOn code q rows j → (let e = effect b.links j in e.again) ≡ false
  unfolding effect_of
  leads_alone q rows instr.Delegate h = absurd h
  leads_alone q rows j h = refl

  leads_to : (q : ℕ) (i : Ins) (j : Instr) (n : ℕ) → i.instr ≡ j → LeadsOn code q i.rows j → target_of j ≡ Some n → Edge q i n
  leads_to q i (instr.Jump t) n e (inl h) f = ahead n (subst (λ m. q < m) (is_some_of f) h)
  leads_to q i (instr.Jump t) n e (inr h) f = subst (Edge q i) (is_some_of f) (back t e h)
  leads_to q i (instr.JumpUnless t) n e h f = ahead n (subst (λ m. q < m) (is_some_of f) h)
  leads_to q i (instr.Next t) n e h f = absurd h
  leads_to q i (instr.JumpIf t) n e h f = absurd h
  leads_to q i (instr.JumpIfKeep t) n e h f = absurd h
  leads_to q i (instr.JumpUnlessKeep t) n e h f = absurd h
  leads_to q i j n e h f = not_both (sym f)

  there : {q : ℕ} (u : Unmarked b q) → code.at q ≡ Some u.ins
  there {q} u = same q ∙ u.stands

  edge : {q r k : ℕ} → Goes b b.size q r k → (u : Unmarked b q) → Edge q u.ins r
  edge (L.by_row {q = q} {r = r} {k = k} {i = i} {ks = ks} {ls = ls} h c e) u =
      let a = goes.onward q u.ins (there u) u.silent in
      one_of (Edge q u.ins) (steps_of b.links q ks (Some u.ins)) r ls k
      (steps_all (Edge q u.ins) b.links q ks u.ins (ahead u.ins.next a.next) (λ n f. leads_to q u.ins u.ins.instr n refl a.leads f)
      (leads_alone q u.ins.rows u.ins.instr a.leads) (all_targets (λ m. q < m) (Edge q u.ins) u.ins.rows (λ m l. ahead m l) a.rows))
      (subst (λ o. Contains (steps_of b.links q ks o) (step r ls k)) u.stands c)
  edge (L.by_leave {q = q} {t = t} {rows = rows} {ks = ks} d g) u = ahead t (leaves t q rows ks d u)

  -- from where an act is near: on to it, or by a handler row
  abbrev Nearer : (Q : ℕ) → List Handler → ℕ → Type 0
  Nearer Q rows r = NearAct code rows r ⊎ (Q < r)

  straight_departs : {t q : ℕ} {rows : List Handler} {ks : Kinds} → Departs b b.size t q rows ks → (i : Ins) → b.at q ≡ Some i → IsStraight i.instr → ⊥
  straight_departs (L.leaves h e) i f s = subst IsStraight (ap (λ (j : Ins). j.instr) (is_some_of (sym f ∙ h.stands)) ∙ e) s
  straight_departs (L.let_go h e v) i f s = subst IsStraight (ap (λ (j : Ins). j.instr) (is_some_of (sym f ∙ h.stands)) ∙ e) s

  chain : {q r k : ℕ} → Goes b b.size q r k → (u : Unmarked b q) → (Q : ℕ) (rows : List Handler) → AllAhead Q rows → NearAct code rows q → Nearer Q rows r
  chain g u Q rows a (A.there q i m e f) =
      absurd (no_mark m (sym u.silent ∙ (ap (λ (j : Ins). j.mark) (sym (is_some_of (sym e ∙ there u))) ∙ f)))
    where
      no_mark : {B : Type 0} (m : B) → None ≡ Some m → ⊥
      no_mark m z = cc
  chain (L.by_row {r = r} {k = k} {ks = ks} {ls = ls} h c z) u Q rows a (A.behind q i e f s w l n) =
      one_of (Nearer Q rows) (steps_of b.links q ks (Some i)) r ls k
      (steps_all (Nearer Q rows) b.links q ks i (inl n) (λ m y. straight_target i.instr m s y) (straight_alone b.links i.instr s)
      (subst (AllTargets (Nearer Q rows)) (sym w) (all_targets (λ m. Q < m) (Nearer Q rows) rows (λ m y. inr y) a)))
      (subst (λ o. Contains (steps_of b.links q ks o) (step r ls k)) (sym (same q) ∙ e) c)
  chain (L.by_leave d g) u Q rows a (A.behind q i e f s w l n) = absurd (straight_departs d i (sym (same q) ∙ e) s)

  -- where a walk has come: beyond its beginning, or back by a jump to where an act is near
  data Comes (q r : ℕ) : Type 0 where
    beyond : q < r → Comes q r
    near : (Q : ℕ) (i : Ins) (t : Pc) → code.at Q ≡ Some i → i.mark ≡ None → i.instr ≡ instr.Jump t → q ≤ Q → (q ≡ Q) ⊎ Silent b q Q → Silent b Q r
        → NearAct code i.rows r → AllAhead Q i.rows → Comes q r

  first_step : {q r k : ℕ} (u : Unmarked b q) (g : Goes b b.size q r k) → Edge q u.ins r → Comes q r
  first_step u g (ahead r l) = beyond l
  first_step {q} u g (back t e n) = let a = goes.onward q u.ins (there u) u.silent in near q u.ins t (there u) u.silent e (omega arith) (inl refl) (fits.once u g) n a.rows

  next_step : {q r s k : ℕ} → Silent b q r → (u : Unmarked b r) (g : Goes b b.size r s k) → q < r → Edge r u.ins s → Comes q s
  next_step w u g l (ahead s m) = beyond (omega (arith, l, m))
  next_step {r = r} w u g l (back t e n) =
      let a = goes.onward r u.ins (there u) u.silent in near r u.ins t (there u) u.silent e (omega (arith, l)) (inr w) (fits.once u g) n a.rows

  nearer_step : {q r s k : ℕ} (u : Unmarked b r) (g : Goes b b.size r s k) (Q : ℕ) (i : Ins) (t : Pc) → code.at Q ≡ Some i → i.mark ≡ None
      → i.instr ≡ instr.Jump t → q ≤ Q → (q ≡ Q) ⊎ Silent b q Q → Silent b Q r → AllAhead Q i.rows → Nearer Q i.rows s → Comes q s
  nearer_step u g Q i t e f j l w v a (inl n) = near Q i t e f j l w (fits.more v u g) n a
  nearer_step u g Q i t e f j l w v a (inr m) = beyond (omega (arith, l, m))

  comes : {q r : ℕ} → Silent b q r → Comes q r
  comes (fits.once u g) = first_step u g (edge g u)
  comes (fits.more {q = q} {r = r} {s = s} {k = k} w u g) = by (comes w)
    where
      by : Comes q r → Comes q s
      by (beyond l) = next_step w u g l (edge g u)
      by (near Q i t e f j l v y n a) = nearer_step u g Q i t e f j l v y a (chain g u Q i.rows a n)

  -- no walk without an act comes back to a jump
  jump_not_near : (Q : ℕ) (i : Ins) (t : Pc) (rows : List Handler) → code.at Q ≡ Some i → i.mark ≡ None → i.instr ≡ instr.Jump t → NearAct code rows Q → ⊥
  jump_not_near Q i t rows e f j (A.there _ k m g h) = no_mark m (sym f ∙ (ap (λ (z : Ins). z.mark) (is_some_of (sym e ∙ g)) ∙ h))
    where
      no_mark : {B : Type 0} (m : B) → None ≡ Some m → ⊥
      no_mark m z = cc
  jump_not_near Q i t rows e f j (A.behind _ k g h s w l n) = subst IsStraight (ap (λ (z : Ins). z.instr) (is_some_of (sym g ∙ e)) ∙ j) s

  not_back : (Q : ℕ) (i : Ins) (t : Pc) → code.at Q ≡ Some i → i.mark ≡ None → i.instr ≡ instr.Jump t → Comes Q Q → ⊥
  not_back Q i t e f j (beyond l) = omega (arith, l)
  not_back Q i t e f j (near R k u g h y l v w n a) = jump_not_near Q i t k.rows e f j n

  no_loop : (pc : ℕ) → Comes pc pc → ⊥
  no_loop pc (beyond l) = omega (arith, l)
  no_loop pc (near Q i t e f j l (inl h) w n a) = not_back Q i t e f j (subst (λ z. Comes Q z) h (comes w))
  no_loop pc (near Q i t e f j l (inr v) w n a) = not_back Q i t e f j (comes (join w v))

module _ {A V : Type 0} (around : Around A) (c : Code) (code : CodeObject V) (starts : List Start) (b : Block) (cells : TakesCells around)
    (captures : (n : ℕ) → b.links.captures n ≡ length (around.captured n)) (named : Code_named around c) (same : (pc : ℕ) → code.at pc ≡ b.at pc)
    (order : InOrder code b.size) (stands : Piece_at code starts (code_piece around c) [] (outermost (slots_of c)) 0 b.size)
    (begins : kinds_at_start b.kind ≡ kinds_of (first_slots c)) where
  rises : Rises b
  rises q i h = order.rises q i (same q ∙ h)

  abbrev at : Table
  at = table_of b (code_piece around c) (first_slots c)

  ready : Ready code starts b (code_piece around c) (first_slots c)
  ready = all_ready around c code starts b cells captures named same rises stands begins

  table : IsTableOf b at
  table = have_tables around c code starts b cells captures named same rises stands begins

  found : (q : ℕ) (ks : StackMap) → at q ≡ Some ks → Finds b at (LeadsBelow at) [] [] q ks
  found = found_at code b starts (code_piece around c) (first_slots c) same rises ready.stands (ready.whole).typed (ready.whole).ends ready.exits

  goes : GoesAhead code b.size
  goes = pieces_go_ahead code starts (code_piece around c) (slots_of c) b.size (pieces_go_forward around c) order stands

  -- a jump that is held leads ahead from where it is let go
  pub leaves : (t q : ℕ) (rows : List Handler) (ks : Kinds) → Departs b b.size t q rows ks → Unmarked b q → q < t
  leaves t q _ _ (L.leaves {i = i} h f) u =
      let a = goes.onward q u.ins (same q ∙ u.stands) u.silent in
      absurd (subst (λ z. LeadsOn code q u.ins.rows z) (ap (λ (j : Ins). j.instr) (is_some_of (sym u.stands ∙ h.stands)) ∙ f) a.leads)
  leaves t q _ _ (L.let_go {i = i} {ks = ks} h f v) u =
      let p = has_kinds b at table.first table.start table.kinds table.agrees h.gets in
      let is : u.ins ≡ i = is_some_of (sym u.stands ∙ h.stands) in
      let w = held_ahead code starts b same rises order q i (same q ∙ h.stands) (ap (λ (j : Ins). j.mark) (sym is) ∙ u.silent) f (code_piece around c)
      (outermost (slots_of c)) (first_slots c) stands (pieces_go_forward around c) (ready.whole).typed (order.inside q i (same q ∙ h.stands)) p.slots p.there in
      let m = may_be b at table found v in
      let many : length ks ≡ length p.slots = ap length (sym p.kinds) ∙ length_kinds p.slots in
      let more = ap length w.is in
      let top : w.top ≡ m.slot = is_some_of (sym (ap (λ o. slot_of o (length ks - 1)) (p.there ∙ ap (λ zs. Some zs) w.is)
      ∙ uppermost w.top w.below (length ks - 1) (omega (arith, many, more))) ∙ m.is) in
      let x = m.exit in
      subst (λ n. q < n) (sym x.1) (w.ahead m.loop (ap (λ (k : Known). k.loop) top ∙ m.holds) x.0)

  pub acts_in_loops : (pc : ℕ) → SilentLoop b pc → ⊥
  acts_in_loops pc loop = no_loop code b same goes leaves pc (comes code b same goes leaves loop)

pub blocks_have_acts_in_loops : {A V : Type 0} → BlocksHaveActsInLoops A V
blocks_have_acts_in_loops around c code starts b cells captures named same order stands begins =
    acts_in_loops around c code starts b cells captures named same order stands begins

pub held_jumps_lead_ahead : {A V : Type 0} → HeldJumpsLeadAhead A V
held_jumps_lead_ahead around c code starts b cells captures named same order stands begins =
    leaves around c code starts b cells captures named same order stands begins
