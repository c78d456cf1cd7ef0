-- The act that comes next in control comes next in code that stands for it, behind the same notes and unmarked asks.
use Rattle.std.proofs.Common.{◌≡◌, ◌⊎◌, inl, inr, ℕ, zero, suc, false, [], ◌∷◌, Some, None, refl, sym, ap, subst, ◌∙◌, length}
use Rattle.pt_tree.specs.Blocks.{acts_of_code}
use Rattle.sem_control.specs.control.Turn as T
use Rattle.sem_control.specs.control.Turn.{Mark, mark, Around, Seek, Deed, Ask, Answer, Reply, got, raised, End, Turn}
use Rattle.sem_control.specs.control.Frames as F
use Rattle.sem_control.specs.control.Frames.{Control}
use Rattle.sem_control.specs.control.Bases.{way_base}
use Rattle.sem_control.specs.control.Control as control
use Rattle.sem_control.specs.control.Control.{go, make_anew, most_silent, unhindered}
use Rattle.sem_control.specs.control.Expressions.{begin_operation}
use Rattle.sem_control.specs.control.Events as E
use Rattle.sem_control.specs.control.Laws.{IsActOrEnd, ComesToAct}
use Rattle.sem_control.specs.control.Reached.{Leads}
use Rattle.sem_control.proofs.control.NextActs.{behind_starts, behind_ways, behind_replies}
use Rattle.sem_code.specs.slots.Slots.{State}
use Rattle.sem_code.specs.slots.CodeObject.{CodeObject}
use Rattle.sem_code.specs.slots.Machine as slots
use Rattle.sem_code.specs.slots.Destinations as D
use Rattle.sem_code.specs.slots.Destinations.{passes}
use Rattle.sem_code.specs.comp.Law as comp
use Rattle.sem_code.specs.comp.Law.{Comes, Same, same_act, same_note, same_over}
use Rattle.sem_code.proofs.comp.Steps as steps
use Rattle.sem_run.specs.run.Machine.{BlockId}
use Rattle.sem_run.specs.run.Source.{Source, number_or_all}
use Rattle.law_code_runs.specs.code_run.CodeMachine.{CodeSource}
use Rattle.law_code_runs.specs.code_run.Reached as R
use Rattle.law_code_runs.specs.code_run.Reached.{Reached}
use Rattle.law_code_runs.specs.code_run.Parts.{KnowsActs}

-- acts with the same mark, or ends
data Alike {S R V : Type 0} : Turn S V → Turn R V → Type 0 where
  same_mark : (m : Mark) (a : Ask V) (k : Reply V (Answer V a) → S) (b : Ask V) (l : Reply V (Answer V b) → R)
      → Alike (T.act (Some m) a k) (T.act (Some m) b l)
  both_end : (e f : End V) → Alike (T.over e) (T.over f)

-- another ask with the same mark
marked_so : {S R V : Type 0} (m : Mark) (a c : Ask V) (k : Reply V (Answer V a) → S) (l : Reply V (Answer V c) → S) (y : Turn R V)
    → Alike (T.act (Some m) a k) y → Alike (T.act (Some m) c l) y
marked_so m a c k l _ (same_mark _ _ _ b i) = same_mark m c l b i

module _ {V : Type 0} (block : Around V) (code : CodeObject V) where
  abbrev ahead : ℕ → State V → State V
  ahead n t = D.unhindered code n t

  -- what a turn passes, and what it doesn't
  ahead_one : (t : State V) (y : Turn (State V) V) (u : State V) → slots.turn code t ≡ y → passes code y ≡ Some u → ahead 1 t ≡ u
  ahead_one t y u e p = rw (e, p)

  ahead_none : (t : State V) (y : Turn (State V) V) → slots.turn code t ≡ y → passes code y ≡ None → ahead 1 t ≡ t
  ahead_none t y e p = rw (e, p)

  stays : (n : ℕ) (t : State V) (y : Turn (State V) V) → slots.turn code t ≡ y → passes code y ≡ None → slots.turn code (ahead n t) ≡ y
  stays zero t y e p = e
  stays (suc n) t y e p = ap (λ u. slots.turn code (ahead n u)) (ahead_none t y e p) ∙ stays n t y e p

  abbrev Comes_to : Turn (State V) V → Type 0
  Comes_to y = IsActOrEnd y

  -- both come to the same act, or to the end, within so many turns each
  abbrev Leads_alike : ℕ → Type 0
  Leads_alike n = (m : ℕ) (c : Control V) (t : State V) → Comes block code c t → IsActOrEnd (control.turn block (unhindered block c m))
      → IsActOrEnd (slots.turn code (ahead n t)) → Alike (control.turn block (unhindered block c m)) (slots.turn code (ahead n t))

  abbrev With_fewer : ℕ → Type 0
  With_fewer zero = Unit {0}
  With_fewer (suc n) = Leads_alike n

  -- a turn that is passed
  passed : (n : ℕ) → With_fewer n → (t u : State V) (y : Turn (State V) V) → slots.turn code t ≡ y → (IsActOrEnd y → ⊥) → passes code y ≡ Some u
      → (m : ℕ) (c : Control V) → Comes block code c u → IsActOrEnd (control.turn block (unhindered block c m)) → IsActOrEnd (slots.turn code (ahead n t))
      → Alike (control.turn block (unhindered block c m)) (slots.turn code (ahead n t))
  passed zero r t u y e f p m c h i j = absurd (f (subst Comes_to e j))
  passed (suc n) r t u y e f p m c h i j =
      let s = ahead_one t y u e p in
      subst (λ z. Alike (control.turn block (unhindered block c m)) (slots.turn code (ahead n z))) (sym s)
      (r m c u h i (subst (λ z. IsActOrEnd (slots.turn code (ahead n z))) s j))

  -- one that isn't, and is no act
  held_up : {A : Type 0} (n : ℕ) (t : State V) (y : Turn (State V) V) → slots.turn code t ≡ y → (IsActOrEnd y → ⊥) → passes code y ≡ None
      → IsActOrEnd (slots.turn code (ahead n t)) → A
  held_up n t y e f p j = absurd (f (subst Comes_to (stays n t y e p) j))

  -- an act
  acts : (n : ℕ) (t : State V) (m : Mark) (a b : Ask V) (k : Reply V (Answer V a) → Control V) (l : Reply V (Answer V b) → State V)
      → slots.turn code t ≡ T.act (Some m) b l → Alike (T.act (Some m) a k) (slots.turn code (ahead n t))
  acts n t m a b k l e = subst (λ y. Alike (T.act (Some m) a k) y) (sym (stays n t _ e refl)) (same_mark m a k b l)

  ends : (n : ℕ) (t : State V) (e f : End V) → slots.turn code t ≡ T.over f → Alike {S = Control V} (T.over e) (slots.turn code (ahead n t))
  ends n t e f h = subst (λ y. Alike {S = Control V} (T.over e) y) (sym (stays n t _ h refl)) (both_end e f)

  -- unmarked asks
  seek_passes : (a : Seek V) (k : Reply V V → State V) → (passes code (T.act None (T.seek a) k) ≡ Some (k (got code.null))) ⊎ (passes code (T.act None (T.seek a) k) ≡ None)
  seek_passes (T.const c) k = inl refl
  seek_passes (T.cell_of x) k = inl refl
  seek_passes a k = inr refl

  deed_passes : (a : Deed V) (k : Reply V (Unit {0}) → State V) → (passes code (T.act None (T.deed a) k) ≡ Some (k (got tt))) ⊎ (passes code (T.act None (T.deed a) k) ≡ None)
  deed_passes (T.store x v) k = inl refl
  deed_passes (T.delete x) k = inl refl
  deed_passes (T.fresh x) k = inl refl
  deed_passes a k = inr refl

  by_seek : (n : ℕ) → With_fewer n → (t : State V) (a : Seek V) (l : Reply V V → State V) → slots.turn code t ≡ T.act None (T.seek a) l
      → (passes code (T.act None (T.seek a) l) ≡ Some (l (got code.null))) ⊎ (passes code (T.act None (T.seek a) l) ≡ None)
      → (m : ℕ) (c : Control V) → Comes block code c (l (got code.null)) → IsActOrEnd (control.turn block (unhindered block c m))
      → IsActOrEnd (slots.turn code (ahead n t)) → Alike (control.turn block (unhindered block c m)) (slots.turn code (ahead n t))
  by_seek n r t a l e (inl p) m c h i j = passed n r t _ _ e (λ x. x) p m c h i j
  by_seek n r t a l e (inr p) m c h i j = held_up n t _ e (λ x. x) p j

  by_deed : (n : ℕ) → With_fewer n → (t : State V) (a : Deed V) (l : Reply V (Unit {0}) → State V) → slots.turn code t ≡ T.act None (T.deed a) l
      → (passes code (T.act None (T.deed a) l) ≡ Some (l (got tt))) ⊎ (passes code (T.act None (T.deed a) l) ≡ None)
      → (m : ℕ) (c : Control V) → Comes block code c (l (got tt)) → IsActOrEnd (control.turn block (unhindered block c m))
      → IsActOrEnd (slots.turn code (ahead n t)) → Alike (control.turn block (unhindered block c m)) (slots.turn code (ahead n t))
  by_deed n r t a l e (inl p) m c h i j = passed n r t _ _ e (λ x. x) p m c h i j
  by_deed n r t a l e (inr p) m c h i j = held_up n t _ e (λ x. x) p j

  from_match : (n : ℕ) → With_fewer n → (m : ℕ) (c : Control V) (t : State V) (y : Turn (State V) V) → Same block code (control.turn block c) y → slots.turn code t ≡ y
      → IsActOrEnd (control.turn block (unhindered block c m)) → IsActOrEnd (slots.turn code (ahead n t))
      → Alike (control.turn block (unhindered block c m)) (slots.turn code (ahead n t))
  from_match n r m (F.for_value k a w) t _ (same_act _ _ _ l h) e i j = acts n t k _ _ _ l e
  from_match n r m (F.for_deed k a w s) t _ (same_act _ _ _ l h) e i j = acts n t k _ _ _ l e
  from_match n r m (F.for_leave k a s) t _ (same_act _ _ _ l h) e i j = acts n t k _ _ _ l e
  from_match n r m (F.for_throw k a s) t _ (same_act _ _ _ l h) e i j = acts n t k _ _ _ l e
  from_match n r m (F.for_truth k a w f s) t _ (same_act _ _ _ l h) e i j = acts n t k _ _ _ l e
  from_match n r m (F.for_iter k v o) t _ (same_act _ _ _ l h) e i j = acts n t k _ _ _ l e
  from_match n r m (F.for_item k it q g w f) t _ (same_act _ _ _ l h) e i j = acts n t k _ _ _ l e
  from_match n r m (F.for_entry k v p q g is body s) t _ (same_act _ _ _ l h) e i j = acts n t k _ _ _ l e
  from_match n r m (F.for_unpack k v q ts w s) t _ (same_act _ _ _ l h) e i j = acts n t k _ _ _ l e
  from_match n r m (F.for_delegate k it q w) t _ (same_act _ _ _ l h) e i j = acts n t k _ _ _ l e
  from_match n r m (F.silent_value a (F.celled p q g op before [] w)) t _ (same_act _ _ _ l h) e i j =
      marked_so (mark q p g) _ _ _ _ _ (by_seek n r t a l e (seek_passes a l) m (begin_operation block [] p q g op (code.null ∷ before) w) (h (got code.null)) tt j)
  from_match n r m (F.silent_value a (F.celled p q g op before (x ∷ xs) w)) t _ (same_act _ _ _ l h) e i j =
      marked_so (mark q p g) _ _ _ _ _ (by_seek n r t a l e (seek_passes a l) m (begin_operation block (x ∷ xs) p q g op (code.null ∷ before) w) (h (got code.null)) tt j)
  from_match n r m (F.silent_value a w) t _ (same_act _ _ _ l h) e i j = absurd i
  from_match n r m (F.silent_deed a (F.made_anew [] p q it g cs o) s) t _ (same_act _ _ _ l h) e i j =
      by_deed n r t a l e (deed_passes a l) m (make_anew [] p q it g cs o) (h (got tt)) i j
  from_match n r m (F.silent_deed a (F.made_anew (x ∷ xs) p q it g cs o) s) t _ (same_act _ _ _ l h) e i j =
      by_deed n r t a l e (deed_passes a l) m (make_anew (x ∷ xs) p q it g cs o) (h (got tt)) i j
  from_match n r zero (F.silent_deed a k s) t _ (same_act _ _ _ l h) e i j = absurd i
  from_match n r (suc m) (F.silent_deed a k s) t _ (same_act _ _ _ l h) e i j = by_deed n r t a l e (deed_passes a l) m (go block k) (h (got tt)) i j
  from_match n r zero (F.noting a k s) t _ (same_note _ _ l h) e i j = absurd i
  from_match n r (suc m) (F.noting a k s) t _ (same_note _ _ l h) e i j = passed n r t _ _ e (λ x. x) refl m (go block k) (h (got tt)) i j
  from_match n r m (F.closed v) t _ (same_over _) e i j = ends n t v v e

  leads_by : (n : ℕ) → With_fewer n → Leads_alike n
  leads_by n r m _ _ (comp.there c t h) i j = from_match n r m c t _ (steps.follows block code c t h) refl i j
  leads_by n r m _ _ (comp.moves c t u e h) i j = passed n r t u (T.move u) e (λ x. x) refl m c h i j

  leads_alike : (n : ℕ) → Leads_alike n
  leads_alike zero = leads_by zero tt
  leads_alike (suc n) = leads_by (suc n) (leads_alike n)

  -- the numbers of both
  numbered : (n : ℕ) (c : Control V) (t : State V) (x : Turn (Control V) V) (y : Turn (State V) V) → Alike x y
      → control.turn block (unhindered block c (most_silent block c)) ≡ x → slots.turn code (ahead n t) ≡ y → E.destination block c ≡ D.destination code n t
  numbered n c t _ _ (same_mark m a k b l) e f = rw (e, f)
  numbered n c t _ _ (both_end v w) e f = rw (e, f)

  pub same_number : (n : ℕ) (c : Control V) (t : State V) → Comes block code c t → ComesToAct block c → IsActOrEnd (slots.turn code (ahead n t))
      → E.destination block c ≡ D.destination code n t
  same_number n c t h i j = numbered n c t _ _ (leads_alike n (most_silent block c) c t h i j) refl refl

module _ {V : Type 0} (source : Source V) (code : CodeSource V) (b : BlockId) where
  reached_acts : (c : Control V) (t : State V) → Reached source code b c t → ComesToAct (source.around b) c
  reached_acts _ _ (R.begins i) = behind_starts (source.around b) (source.code b) _
  reached_acts _ _ (R.moves c t u h e) = reached_acts c t h
  reached_acts _ _ (R.by_reply c t m a k l h e f r) = behind_replies (source.around b) c (k r) (subst (λ x. Leads x (k r)) (sym e) (r, refl))
  reached_acts _ _ (R.by_note c t a k l h e f r) = behind_replies (source.around b) c (k r) (subst (λ x. Leads x (k r)) (sym e) (r, refl))
  reached_acts _ _ (R.goes_on k p h) = behind_ways (source.around b) k
  reached_acts _ _ (R.raises k p h v) =
      behind_replies (source.around b) (F.for_deed (mark 0 0 false) T.nothing (F.finished (way_base k)) (way_base k)) _ (raised v, refl)

  -- so the act that comes next, or the end, has the same number
  pub same_destination : KnowsActs source code b → (c : Control V) (t : State V) → Reached source code b c t → Comes (source.around b) (code.object b) c t
      → number_or_all (length (acts_of_code (source.code b))) (E.destination (source.around b) c) ≡ number_or_all (code.acts b) (D.destination (code.object b) (code.most_turns b t) t)
  same_destination knows c t r h =
      ap (λ n. number_or_all n (E.destination (source.around b) c)) knows.same_count
      ∙ ap (number_or_all (code.acts b)) (same_number (source.around b) (code.object b) (code.most_turns b t) c t h (reached_acts c t r) (knows.enough c t r h))
