-- The slots in common of two places tell of a jump what the closed parts around both tell.
use Rattle.std.proofs.Common.{◌≡◌, inl, inr, ℕ, Bool, true, false, not, ◌&&◌, ◌||◌, List, [], ◌∷◌, length, Some, refl, sym, ap, subst, ◌∙◌, if◌then◌else◌}
use Rattle.std.specs.List.{list_any}
use Rattle.std.proofs.lemmas.Bool.{eq-eqb}
use Rattle.pt_instr.specs.declared.kinds.Kind.TheVariants as kind
use Rattle.pt_instr.specs.Effects.{Kinds}
use Rattle.sem_control.specs.control.Jump as control
use Rattle.sem_control.specs.control.Jump.{Part, for_part, with_part, tests_part, handler_part, finally_part, exit_part, is_final, same, has, verdict}
use Rattle.sem_control.proofs.control.JumpLemmas.{same_part}
use Rattle.sem_fits.specs.fits.Block.{Block}
use Rattle.sem_fits.specs.fits.Places.{Gets}
use Rattle.sem_fits.specs.fits.Leaves.{Common}
use Rattle.sem_fits.specs.fits.Fits.{IsLeast}
use Rattle.sem_fits.specs.fits.Jumps as J
use Rattle.sem_fits.specs.fits.Jumps.{Starts, ThroughFinally, Jumps}
use Rattle.sem_fits.specs.comp_jumps.Parts.{kind_of_part, Lies, Begins, Fills, Told_apart, answer_of}
use Rattle.sem_fits.specs.comp_jumps.Law.{JumpsByParts}

pub same_itself : (q : Part) → same q q ≡ true
same_itself (for_part n) = eq-eqb n n refl
same_itself (with_part n) = eq-eqb n n refl
same_itself (tests_part n) = eq-eqb n n refl
same_itself (handler_part n) = eq-eqb n n refl
same_itself (finally_part n) = eq-eqb n n refl
same_itself (exit_part n) = eq-eqb n n refl

final_kind : (q : Part) → is_final q ≡ true → kind_of_part q ≡ kind.Pending
final_kind (finally_part n) e = refl
final_kind (exit_part n) e = refl
final_kind q e = absurd cc

or_true : (a b : Bool) → a ≡ true → (a || b) ≡ true
or_true true b e = refl
or_true false b e = absurd cc

or_other : (a b : Bool) → b ≡ true → (a || b) ≡ true
or_other true b e = refl
or_other false b e = e

not_other : (a b : Bool) → (a || b) ≡ false → (a ≡ false) × (b ≡ false)
not_other true b e = absurd cc
not_other false b e = (refl, e)

of_both : (a b : Bool) → (a && not b) ≡ true → (a ≡ true) × (b ≡ false)
of_both true true e = absurd cc
of_both true false e = (refl, refl)
of_both false b e = absurd cc

pub of_other : (a b : Bool) → (a && not b) ≡ false → a ≡ true → b ≡ true
of_other true true e h = refl
of_other true false e h = absurd cc
of_other false b e h = absurd cc

pub of_not : (b : Bool) → not b ≡ false → b ≡ true
of_not true e = refl
of_not false e = absurd cc

is_not : (b : Bool) → not b ≡ true → b ≡ false
is_not true e = absurd cc
is_not false e = refl

-- a part that lies there is among the parts, and one that is among them lies somewhere
pub lies_has : (ps : List Part) (d : ℕ) (q : Part) → Lies d q ps → has ps q ≡ true
lies_has [] d q h = absurd h
lies_has (p ∷ ps) d q (inl h) = or_true _ _ h.1
lies_has (p ∷ ps) d q (inr h) = or_other (same q p) _ (lies_has ps d q h)

pub has_lies : (ps : List Part) (q : Part) → has ps q ≡ true → (d : ℕ) × Lies d q ps
has_lies [] q e = absurd cc
has_lies (p ∷ ps) q e = by_first (same q p) refl (has_lies ps q) e
  where
    by_first : (b : Bool) → same q p ≡ b → (has ps q ≡ true → (d : ℕ) × Lies d q ps) → (b || has ps q) ≡ true → (d : ℕ) × Lies d q (p ∷ ps)
    by_first true is f h = (length ps, inl (refl, is))
    by_first false is f h = let r = f h in (r.0, inr r.1)

some_lies : (f : Part → Bool) (ps : List Part) → list_any f ps ≡ true → (q : Part) × (d : ℕ) × Lies d q ps × (f q ≡ true)
some_lies f [] e = absurd cc
some_lies f (p ∷ ps) e = by_first (f p) refl (some_lies f ps) e
  where
    by_first : (b : Bool) → f p ≡ b → (list_any f ps ≡ true → (q : Part) × (d : ℕ) × Lies d q ps × (f q ≡ true)) → (b || list_any f ps) ≡ true
        → (q : Part) × (d : ℕ) × Lies d q (p ∷ ps) × (f q ≡ true)
    by_first true is g h = (p, length ps, inl (refl, same_itself p), is)
    by_first false is g h = let r = g h in (r.0, r.1, inr r.2, r.3)

pub none_lies : (f : Part → Bool) (ps : List Part) → list_any f ps ≡ false → (d : ℕ) (q : Part) → Lies d q ps → f q ≡ false
none_lies f [] e d q h = absurd h
none_lies f (p ∷ ps) e d q (inl h) = ap f (same_part q p h.1) ∙ (not_other (f p) _ e).0
none_lies f (p ∷ ps) e d q (inr h) = none_lies f ps (not_other (f p) _ e).1 d q h

-- a truth is not another
apart : {b : Bool} → b ≡ false → b ≡ true → ⊥
apart e h = cc

module _ (b : Block) (from to line : ℕ) (ks ls : Kinds) (ps ts : List Part) (least : IsLeast (Starts b line) to) (gets : Gets b b.size to ls)
    (begins : Begins ks ps) (fills : Fills ls ts) (told : Told_apart b from to ps ts) where
  abbrev left_part : Part → Bool
  left_part q = is_final q && not (has ts q)

  abbrev entered_part : Part → Bool
  entered_part q = is_final q && not (has ps q)

  -- a part that lies around both is one slot
  in_both : (d : ℕ) (q : Part) → Lies d q ps → has ts q ≡ true → Common b b.size d from to
  in_both d q h e =
      let r = has_lies ts q e in
      told.together d q h (subst (λ k. Lies k q ts) (sym (told.level d r.0 q h r.1)) r.1)

  around_both : (d : ℕ) (q : Part) → Lies d q ts → has ps q ≡ true → Common b b.size d from to
  around_both d q h e =
      let r = has_lies ps q e in
      told.together d q (subst (λ k. Lies k q ps) (told.level r.0 d q r.1 h) r.1) h

  not_through : list_any left_part ps ≡ false → list_any entered_part ts ≡ false → ThroughFinally b from to ks ls → ⊥
  not_through l e (J.left d is c) =
      let r = begins.pending d is in c (in_both d r.0 r.1 (of_other _ _ (none_lies left_part ps l d r.0 r.1) r.2))
  not_through l e (J.entered d is c) =
      let r = fills.begins.pending d is in c (around_both d r.0 r.1 (of_other _ _ (none_lies entered_part ts e d r.0 r.1) r.2))

  by_truths : (l e n : Bool) → list_any left_part ps ≡ l → list_any entered_part ts ≡ e → list_any (λ q. not (has ps q)) ts ≡ n
      → Jumps b from ks line (answer_of (if l || e then control.out_of_finally else if n then control.into_block else control.permitted) to (length ls))
  by_truths true e n hl he hn =
      let r = some_lies left_part ps hl in
      let f = of_both _ _ r.3 in
      J.through to ls least gets (J.left r.1 (begins.each r.1 r.0 r.2 ∙ ap Some (final_kind r.0 f.0))
      (λ c. apart f.1 (lies_has ts r.1 r.0 (told.stays r.1 r.0 c r.2))))
  by_truths false true n hl he hn =
      let r = some_lies entered_part ts he in
      let f = of_both _ _ r.3 in
      J.through to ls least gets (J.entered r.1 (fills.begins.each r.1 r.0 r.2 ∙ ap Some (final_kind r.0 f.0))
      (λ c. apart f.1 (lies_has ps r.1 r.0 (told.stayed r.1 r.0 c r.2))))
  by_truths false false true hl he hn =
      let r = some_lies (λ q. not (has ps q)) ts hn in
      J.enters to ls least gets (not_through hl he) (record {
        slot = r.1;
        kind = kind_of_part r.0;
        is = fills.begins.each r.1 r.0 r.2;
        apart = λ c. apart (is_not _ r.3) (lies_has ps r.1 r.0 (told.stayed r.1 r.0 c r.2));
      })
  by_truths false false false hl he hn = J.goes to ls least gets (not_through hl he) (λ d lt.
      let r = fills.all d lt in around_both d r.0 r.1 (of_not _ (none_lies (λ q. not (has ps q)) ts hn d r.0 r.1)))

pub jumps_by_parts : (b : Block) → JumpsByParts b
jumps_by_parts b from to line ks ls ps ts least gets begins fills told =
    by_truths b from to line ks ls ps ts least gets begins fills told (list_any (λ q. is_final q && not (has ts q)) ps) (list_any (λ q. is_final q && not (has ps q)) ts)
    (list_any (λ q. not (has ps q)) ts) refl refl refl
