-- Slots that have the kinds of their places: where a block begins, behind a turn, and where a raise
-- lands.
use Rattle.std.proofs.Common.{◌≡◌, ℕ, ◌-◌, ◌≤◌, List, [], ◌∷◌, length, drop, reverse, Some, None, refl, sym, ap, ◌∙◌, subst, arith}
use Rattle.std.specs.Prelude.{Contains}
use Rattle.std.proofs.lemmas.List.{drop-drop, length-drop}
use Rattle.std.proofs.lemmas.Bool.{leb-true}
use Rattle.pt_instr.specs.Effects.{Kinds}
use Rattle.pt_ranges.specs.declared.handlers.Handler.{Handler}
use Rattle.pt_code.specs.View.{Ins}
use Rattle.sem_control.specs.control.Turn.{Turn, got}
use Rattle.sem_code.specs.slots.Slots.{raise, Slots, State, on, thrown_to, reraises, off}
use Rattle.sem_code.specs.slots.CodeObject.{CodeObject}
use Rattle.sem_code.specs.slots.Landing.{cut, land}
use Rattle.sem_code.specs.slots.Machine as slots
use Rattle.sem_fits.specs.fits.Block.{Block, effect, kinds_at_start}
use Rattle.sem_fits.specs.fits.Steps.{spared}
use Rattle.sem_fits.specs.fits.Places as P
use Rattle.sem_fits.specs.fits.Places.{Reached as Reached_place}
use Rattle.sem_fits.specs.fits.Fits.{Fits}
use Rattle.sem_fits.specs.fits.Laws as laws
use Rattle.sem_fits.specs.fits.Laws.{Runs, Stack, At, Rising, Sound, GoesOn}
use Rattle.sem_fits.proofs.fits.Ways.{place_of as standing, first, within}
use Rattle.sem_fits.proofs.fits.SlotLaw.{slots_fit, cut_stack}
use Rattle.pt_bare_code.specs.law_code_runs.code_run.CodeMachine.{Place, place_of, raised_under, raised_at}

not_some : {A : Type 0} {x : A} → None ≡ Some x → ⊥
not_some e = cc

some_of : {A : Type 0} {x y : A} → Some x ≡ Some y → x ≡ y
some_of e = cc

-- the lowest of the lowest slots
cut_again : {V : Type 0} (d k : ℕ) (ss : Slots V) → d ≤ k → cut d (cut k ss) ≡ cut d ss
cut_again d k ss fits =
    drop-drop (length (cut k ss) - d) (length ss - k) ss
    ∙ ap (λ n. drop n ss) (let e = length-drop (length ss - k) ss in omega (arith, e, fits))

module _ {V : Type 0} (object : CodeObject V) (block : Block) (runs : Runs object block)
    (fits : Fits block) where
  pub goes_on : (t : State V) (x : Turn (State V) V) → Sound block t → slots.turn object t ≡ x
      → GoesOn block x
  goes_on t x sound e = subst (GoesOn block) e (slots_fit object block runs fits t sound)

  -- a raise at a place finds the same slots above those that its instruction takes, and below them
  land_low : (rows : List Handler) (k : ℕ) (v : V) (ss : Slots V) → ((row : Handler)
      → Contains rows row → row.depth ≤ k)
      → land object rows (raise v) (cut k ss) ≡ land object rows (raise v) ss
  land_low [] k v ss deep = refl
  land_low (row ∷ rows) k v ss deep = rw (cut_again row.depth k ss (deep row (first row rows)))

  raised_there : (pc : ℕ) (ss : Slots V) (v : V) (i : Ins) (ks : Kinds)
      → Reached_place block block.size pc i ks → Stack block pc (reverse ks) ss
      → Sound block (land object i.rows (raise v) ss)
  raised_there pc ss v i ks reached stack =
      let k = spared (effect block.links i.instr) ks in
      let low = cut_stack block pc k ks ss stack in
      let rising : Rising block i.rows (cut k ss) =
      record { pc = pc; ins = i; kinds = ks; reached = reached; under = refl; stack = low } in
      let lands : Sound block (land object i.rows (raise v) (cut k ss)) =
      slots_fit object block runs fits (reraises v i.rows (cut k ss)) rising (got tt) in
      subst (λ t. Sound block t)
      (land_low i.rows k v ss
      (λ row c. leb-true row.depth k (within block fits pc i ks reached row c))) lands

  pub raised : (p : Place V) (v : V) → At block p.pc p.slots → Sound block (raised_at object p v)
  raised p v a =
      let (i, there) = standing a.gets in
      let reached : Reached_place block block.size p.pc i a.kinds =
      record { gets = a.gets; low = runs.inside p.pc i there; stands = there } in
      subst (λ o. Sound block (raised_under object o p.slots v)) (sym (runs.at p.pc ∙ there))
      (raised_there p.pc p.slots v i a.kinds reached a.stack)

module _ {V : Type 0} (block : Block) where
  pub starts_sound : (t : State V) → laws.Starts block t → Sound block t
  starts_sound _ (laws.empty i e k) =
      record {
        kinds = kinds_at_start block.kind;
        gets = P.start i e;
        stack = record { kinds = ap reverse (sym k); holds = tt };
      }
  starts_sound _ (laws.iterating i e k v) =
      record {
        kinds = kinds_at_start block.kind;
        gets = P.start i e;
        stack = record { kinds = ap reverse (sym k); holds = (tt, tt) };
      }

  -- the slots at a place
  pub at_place : (t : State V) (p : Place V) → Sound block t → place_of t ≡ Some p
      → At block p.pc p.slots
  at_place (on pc ss) p s e = subst (λ (q : Place V). At block q.pc q.slots) (some_of e) s
  at_place (thrown_to pc v ss) p s e =
      subst (λ (q : Place V). At block q.pc q.slots) (some_of e) s.here
  at_place (reraises v rows ss) p s e = absurd (not_some e)
  at_place (off v) p s e = absurd (not_some e)
