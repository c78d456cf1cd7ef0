-- What is answered to commands on breakpoints.
use Rattle.std.proofs.Common.{◌≡◌, ◌+◌, ℕ, Bool, true, false, cond, List, Option, Some, None, Result, Ok, Err, refl, sym, ap, ◌∙◌, subst}
use Rattle.pt_base.specs.declared.numbers.Line.{Line}
use Rattle.pt_bdb.specs.declared.breaks.BreakErr.{BreakErr}
use Rattle.pt_bdb.specs.declared.breaks.BreakErr.TheVariants.{NoCode}
use Rattle.pt_bdb.specs.declared.row.BreakRow.{BreakRow}
use Rattle.pt_bdb.specs.Breakpoints.{IsSetError, Table, has_code, new_row, with_new}
use Rattle.pt_pdb.specs.declared.answer.BreakAnswer.{BreakAnswer}
use Rattle.pt_pdb.specs.declared.answer.BreakAnswer.TheVariants as break
use Rattle.pt_break_commands.specs.BreakCommands.{set_answer, told_of, with_set}

-- one has the number, or none has it
pub told_some : (n : ℕ) (told : BreakRow → BreakAnswer) (o : Option BreakRow) (row : BreakRow) → Some row ≡ o → told row ≡ told_of n told o
told_some n told o row e = ap (told_of n told) e

pub told_none : (n : ℕ) (told : BreakRow → BreakAnswer) (o : Option BreakRow) → None ≡ o → break.NoBreakpoint n ≡ told_of n told o
told_none n told o e = ap (told_of n told) e

-- a breakpoint is set exactly where an act stands on the line
pub code_there : (line : Line) (t : Bool) (n : ℕ) → (Ok n ≡ Err (NoCode line) → t ≡ false) × (t ≡ false → Ok n ≡ Err (NoCode line)) → t ≡ true
code_there line true n h = refl
code_there line false n h = let none = h.1 refl in absurd cc

abbrev pub failed : BreakErr → Result ℕ BreakErr
failed e = Err e

pub no_code : (line other : Line) (e : BreakErr) (t : Bool) → e ≡ NoCode other → IsSetError line e
    → (failed e ≡ failed (NoCode line) → t ≡ false) × (t ≡ false → failed e ≡ failed (NoCode line)) → t ≡ false
no_code line other e t is only h =
    let same : other ≡ line = subst (IsSetError line) is only in
    h.0 (ap failed (is ∙ ap (λ (l : Line). NoCode l) same))

module _ (t : Table) (line : Line) where
  pub set_told : (n : ℕ) → has_code t line ≡ true → n ≡ t.last + 1 → break.Set n line ≡ set_answer t line
  set_told n there is = ap (λ k. break.Set k line) is ∙ sym (ap (λ b. cond b (break.Set (t.last + 1) line) (break.NoCode line)) there)

  pub none_told : has_code t line ≡ false → break.NoCode line ≡ set_answer t line
  none_told none = sym (ap (λ b. cond b (break.Set (t.last + 1) line) (break.NoCode line)) none)

  module _ (temporary : Bool) (condition : Option (List ℕ)) where
    pub set_there : (new : Table) → has_code t line ≡ true → new ≡ with_new (new_row line temporary condition) t → new ≡ with_set line temporary condition t
    set_there new there is = is ∙ sym (ap (λ b. cond b (with_new (new_row line temporary condition) t) t) there)

    pub none_set : (new : Table) → has_code t line ≡ false → new ≡ t → new ≡ with_set line temporary condition t
    none_set new none is = is ∙ sym (ap (λ b. cond b (with_new (new_row line temporary condition) t) t) none)
