-- From the answer for a text over the prelude to that for a text, and to the answer to words.
use Rattle.std.proofs.Common.{◌≡◌, ◌∙◌, ◌⊎◌, ℕ, List, Option, Some, None, Result, Ok, Err, IfOk, IfErr, inl, inr, refl, sym, ap, subst}
use Rattle.std.specs.Prelude.{◌≤◌, IfSome, option_map}
use Rattle.std.specs.declared.string.String.{String}
use Rattle.std.specs.declared.alloc.Global.{Global}
use Rattle.pt_base.specs.Taken.{Pieces}
use Rattle.pt_base.specs.Told.{Told, IsWhole}
use Rattle.sem_run.specs.run.Run.{Write}
use Rattle.pt_heap.specs.declared.value.Value.{Value}
use Rattle.pt_host.specs.World.{World}
use Rattle.pt_bare_runs.specs.Strides as bare
use Rattle.pt_bare_runs.specs.Strides.{Ending}
use Rattle.pt_sinks.specs.Writing.{Took, TookFront}
use Rattle.pt_base.specs.Told.Told.{Holds}
use Rattle.pt_sinks.specs.declared.writing.Out.{Out}
use Rattle.pt_sinks.specs.declared.writing.Out.TheVariants as out
use Rattle.pt_sinks.specs.declared.writing.WriteErr.{WriteErr}
use Rattle.pt_sinks.specs.declared.writing.WriteErr.TheVariants as error
use Rattle.pt_tree.specs.Syntax.{Stms}
use Rattle.pt_prelude.specs.declared.source.TheConstants.{PRELUDE}
use Rattle.pt_generated.specs.Script.{script_of}
use Rattle.pt_words.specs.Words.{Asked, most_functions}
use Rattle.pt_words.specs.declared.line.Command.{Command}
use Rattle.pt_words.specs.declared.line.Command.TheVariants as command
use Rattle.pt_prog.specs.Limits.{limit_of, script_limit}
use Rattle.pt_prog.specs.declared.end.End.{End}
use Rattle.pt_prog.specs.declared.end.End.TheVariants as end
use Rattle.pt_prog.specs.LogText.{Text, final}
use Rattle.pt_prog.specs.RunEnds.{ended}
use Rattle.pt_prog.specs.Answer.{BrokeOffFor, BrokeOffOver, IsAnswer, IsAnswerFor, IsAnswerOver, IsBuilt, IsCodeAnswer, IsEndFor, IsNoPrelude, IsTextOf, IsTold, WroteAllFor, WroteAllOver, Wrote, asked_for, end_of, made_by, of_no_prelude, of_no_text, of_its_text, of_prelude, of_text, bad_code, unbuilt_code, ran_code, of_code, refused, unbuilt, ran, wrote_code, no_prelude, over, refused_prelude, unbuilt_prelude, usage, read_fault, too_long}

-- an answer is neither a fault of a write nor want of memory
abbrev IsOrdinary : End → Type 0
IsOrdinary (end.WriteFault which) = ⊥
IsOrdinary end.Memory = ⊥
IsOrdinary e = Unit {0}

ordinary_end : (n : ℕ) (e : Ending Value World) → IsOrdinary (end_of n e)
ordinary_end n bare.done = tt
ordinary_end n (bare.exited status text) = tt
ordinary_end n (bare.raised v w) = tt
ordinary_end n bare.spent = tt
ordinary_end n (bare.outside_at what line) = tt

module _ (prelude : Stms) where
  ordinary_code : (a : Asked) (bytes : Text) (e : End) (ws : List Write) → IsCodeAnswer prelude a bytes e ws → IsOrdinary e
  ordinary_code a bytes e ws (bad_code error r is w) = subst IsOrdinary (sym is) tt
  ordinary_code a bytes e ws (unbuilt_code line r is w) = subst IsOrdinary (sym is) tt
  ordinary_code a bytes e ws (ran_code c o k ready r runs is w) = subst IsOrdinary (sym is) (ordinary_end a.steps o.ending)

  ordinary_over : (a : Asked) (text : Text) (e : End) (ws : List Write) → IsAnswerOver prelude a text e ws → IsOrdinary e
  ordinary_over a text e ws (of_code r x) = ordinary_code a text e ws x
  ordinary_over a text e ws (refused error n r is w) = subst IsOrdinary (sym is) tt
  ordinary_over a text e ws (unbuilt line r u is w) = subst IsOrdinary (sym is) tt
  ordinary_over a text e ws (ran ss o k r b runs code is w) = subst IsOrdinary (sym is) (ordinary_end a.steps o.ending)
  ordinary_over a text e ws (wrote_code lines r l is w) = subst IsOrdinary (sym is) tt

ordinary_none : (e : End) → IsNoPrelude e → IsOrdinary e
ordinary_none e (refused_prelude error r is) = subst IsOrdinary (sym is) tt
ordinary_none e (unbuilt_prelude line u is) = subst IsOrdinary (sym is) tt

ordinary_for : (a : Asked) (text : Text) (e : End) (ws : List Write) → IsAnswerFor a text e ws → IsOrdinary e
ordinary_for a text e ws (no_prelude n w) = ordinary_none e n
ordinary_for a text e ws (over prelude is x) = ordinary_over prelude a text e ws x

ordinary : (misread : Type 0) (words : List (String Global)) (told : Text → Told) (e : End) (ws : List Write) → IsAnswer misread words told e ws → IsOrdinary e
ordinary misread words told e ws (usage n is w) = subst IsOrdinary (sym is) tt
ordinary misread words told e ws (read_fault a n r m is w) = subst IsOrdinary (sym is) tt
ordinary misread words told e ws (too_long a n r l is w) = subst IsOrdinary (sym is) tt
ordinary misread words told e ws (of_text a text t i) = ordinary_for a text e ws i

module _ (misread : Type 0) (words : List (String Global)) (told : Text → Told) (out_old out_new log_old log_new : Pieces → Pieces → Type 0) where
  abbrev WroteBy : End → Type 0
  WroteBy e = Wrote out_old out_new log_old log_new misread words told e

  -- all of an answer was written
  wrote_all : (e : End) (ws : List Write) → IsAnswer misread words told e ws → Took out_old out_new log_old log_new ws → WroteBy e
  wrote_all (end.WriteFault which) ws i t = absurd (ordinary misread words told (end.WriteFault which) ws i)
  wrote_all end.Memory ws i t = absurd (ordinary misread words told end.Memory ws i)
  wrote_all end.Done ws i t = record { writes = ws; is_answer = i; took = t }
  wrote_all (end.Exited code) ws i t = record { writes = ws; is_answer = i; took = t }
  wrote_all end.Raised ws i t = record { writes = ws; is_answer = i; took = t }
  wrote_all (end.Spent acts) ws i t = record { writes = ws; is_answer = i; took = t }
  wrote_all (end.Outside what line) ws i t = record { writes = ws; is_answer = i; took = t }
  wrote_all end.Usage ws i t = record { writes = ws; is_answer = i; took = t }
  wrote_all (end.BadCode error) ws i t = record { writes = ws; is_answer = i; took = t }
  wrote_all (end.Refused error) ws i t = record { writes = ws; is_answer = i; took = t }
  wrote_all (end.TooLong which) ws i t = record { writes = ws; is_answer = i; took = t }
  wrote_all end.ReadFault ws i t = record { writes = ws; is_answer = i; took = t }
  wrote_all (end.Unbuilt line) ws i t = record { writes = ws; is_answer = i; took = t }

  -- where no text is read, the end's final text is all
  pub no_text : (r : Result End WriteErr) (e : End) (ws : List Write) → IsAnswer misread words told e ws
      → IfOk r (λ x. (x ≡ e) × Took out_old out_new log_old log_new ws) → IfErr r (λ why. TookFront out_old out_new log_old log_new why ws) → WroteBy (ended r)
  no_text (Ok x) e ws i t f = wrote_all x ws (subst (λ y. IsAnswer misread words told y ws) (sym t.0) i) t.1
  no_text (Err (error.Failed which)) e ws i t f = of_no_text e ws i f
  no_text (Err error.Memory) e ws i t f = inr (of_no_text e ws i f)

  module _ (a : Asked) (text : Text) (is : IsTextOf words told a text) where
    pub its_text : (r : Result End WriteErr) → IfOk r (WroteAllFor out_old out_new log_old log_new a text)
        → IfErr r (BrokeOffFor out_old out_new log_old log_new a text) → WroteBy (ended r)
    its_text (Ok e) t f = wrote_all e t.writes (of_text a text is t.is_answer) t.took
    its_text (Err (error.Failed which)) t f = of_its_text a text is f
    its_text (Err error.Memory) t (inl f) = inl f
    its_text (Err error.Memory) t (inr f) = inr (of_its_text a text is f)

-- the prelude is taken first
module _ (a : Asked) (text : Text) (out_old out_new log_old log_new : Pieces → Pieces → Type 0) where
  module _ (prelude : Stms) (is : IsBuilt PRELUDE.now prelude) where
    pub all_for : (r : Result End WriteErr) → IfOk r (WroteAllOver out_old out_new log_old log_new prelude a text)
        → IfOk r (WroteAllFor out_old out_new log_old log_new a text)
    all_for (Ok e) t = record { writes = t.writes; is_answer = over prelude is t.is_answer; took = t.took }
    all_for (Err e) t = tt

    pub broke_off_for : (r : Result End WriteErr) → IfErr r (BrokeOffOver out_old out_new log_old log_new prelude a text)
        → IfErr r (BrokeOffFor out_old out_new log_old log_new a text)
    broke_off_for (Ok e) f = tt
    broke_off_for (Err (error.Failed which)) f = of_prelude prelude is f
    broke_off_for (Err error.Memory) (inl f) = inl f
    broke_off_for (Err error.Memory) (inr f) = inr (of_prelude prelude is f)

  module _ (e : End) (none : IsNoPrelude e) where
    pub none_for : (r : Result End WriteErr) → IfOk r (λ x. (x ≡ e) × Took out_old out_new log_old log_new (final e))
        → IfOk r (WroteAllFor out_old out_new log_old log_new a text)
    none_for (Ok x) t = record { writes = final e; is_answer = subst (λ y. IsAnswerFor a text y (final e)) (sym t.0) (no_prelude none refl); took = t.1 }
    none_for (Err x) t = tt

    pub none_broke_off_for : (r : Result End WriteErr) → IfErr r (λ why. TookFront out_old out_new log_old log_new why (final e))
        → IfErr r (BrokeOffFor out_old out_new log_old log_new a text)
    none_broke_off_for (Ok x) f = tt
    none_broke_off_for (Err (error.Failed which)) f = of_no_prelude e none f
    none_broke_off_for (Err error.Memory) f = inr (of_no_prelude e none f)

-- where no write failed, the end is the one that the text says
module _ (a : Asked) (text : Text) (out_old out_new log_old log_new : Pieces → Pieces → Type 0) where
  pub end_said : (r : Result End WriteErr) → IfOk r (WroteAllFor out_old out_new log_old log_new a text)
      → ((which : _) → r ≡ Err (error.Failed which) → ⊥) → IsEndFor a text (ended r) ⊎ (ended r ≡ end.Memory)
  end_said (Ok e) t never = inl (t.writes, t.is_answer)
  end_said (Err (error.Failed which)) t never = absurd (never which refl)
  end_said (Err error.Memory) t never = inr refl

-- only want of memory and a fault of the log come in place of a final text
pub final_only : (r : Result End WriteErr) (e : End) (P : End → Type 0) → IfOk r (λ x. (x ≡ e) × P x) → (r ≡ Err (error.Failed out.Out) → ⊥)
    → (ended r ≡ e) ⊎ ((ended r ≡ end.WriteFault out.Log) ⊎ (ended r ≡ end.Memory))
final_only (Ok x) e P t only = inl t.0
final_only (Err (error.Failed out.Out)) e P t only = absurd (only refl)
final_only (Err (error.Failed out.Log)) e P t only = inr (inl refl)
final_only (Err error.Memory) e P t only = inr (inr refl)

pub no_fault : (r : Result End WriteErr) → (r ≡ Err (error.Failed out.Out) → ⊥) → (r ≡ Err (error.Failed out.Log) → ⊥) → (which : Out) → r ≡ Err (error.Failed which) → ⊥
no_fault r a b out.Out = a
no_fault r a b out.Log = b

-- a text that is told is the one that was read
module _ (words : List (String Global)) (told : Text → Told) (b : Asked) (asked : asked_for words ≡ Some b) where
  same_asked : (a : Asked) → asked_for words ≡ Some a → b ≡ a
  same_asked a is = cc

  module _ (bytes : Text) (reads : made_by b.command ≡ None) (whole : IsWhole (told b.script) bytes) where
    same_text : (a : Asked) (text : Text) → b ≡ a → IsTold (made_by a.command) (told a.script) (limit_of a.command) text → bytes ≡ text
    same_text a text same holds =
        let of_file : made_by a.command ≡ None = ap (λ c. made_by c.command) (sym same) ∙ reads in
        let held = (subst (λ m. IsTold m (told a.script) (limit_of a.command) text) of_file holds).0 in
        let read : IsWhole (Holds text) bytes = subst (λ t. IsWhole t bytes) (ap (λ c. told c.script) same ∙ held) whole in
        sym read

    pub complete : (e : End) → IsEndFor b bytes e ⊎ (e ≡ end.Memory) → (a : Asked) (text : Text) → asked_for words ≡ Some a
        → IsTold (made_by a.command) (told a.script) (limit_of a.command) text → IsEndFor a text e ⊎ (e ≡ end.Memory)
    complete e said a text is holds =
        let same = same_asked a is in
        let read = same_text a text same holds in
        elim said [ inl s ↦ inl (subst (λ t. IsEndFor a t e) read (subst (λ c. IsEndFor c bytes e) same s)) | inr m ↦ inr m ]

  -- and so is one that the command makes
  pub made_complete : (script : Text) → made_by b.command ≡ Some script → (e : End) → IsEndFor b script e ⊎ (e ≡ end.Memory) → (a : Asked) (text : Text)
      → asked_for words ≡ Some a → IsTold (made_by a.command) (told a.script) (limit_of a.command) text → IsEndFor a text e ⊎ (e ≡ end.Memory)
  made_complete script makes e said a text is holds =
      let same = same_asked a is in
      let made : made_by a.command ≡ Some script = ap (λ c. made_by c.command) (sym same) ∙ makes in
      let it : text ≡ script = subst (λ m. IsTold m (told a.script) (limit_of a.command) text) made holds in
      elim said [ inl s ↦ inl (subst (λ t. IsEndFor a t e) (sym it) (subst (λ c. IsEndFor c script e) same s)) | inr m ↦ inr m ]

-- where a command makes a script, its file would be one of a script
pub made_limit : (c : Command) (script : Text) → made_by c ≡ Some script → limit_of c ≡ script_limit
made_limit command.Run script m = absurd (let no : None ≡ Some script = m in cc)
made_limit command.Trace script m = absurd (let no : None ≡ Some script = m in cc)
made_limit command.Dis script m = absurd (let no : None ≡ Some script = m in cc)
made_limit command.Build script m = absurd (let no : None ≡ Some script = m in cc)
made_limit command.Exec script m = absurd (let no : None ≡ Some script = m in cc)
made_limit command.Cover script m = absurd (let no : None ≡ Some script = m in cc)
made_limit command.Profile script m = absurd (let no : None ≡ Some script = m in cc)
made_limit (command.Gen count) script m = refl

-- whether a command makes a script, as it is told by the number of its functions
module _ (c : Command) (o : Option ℕ) (tells : option_map script_of o ≡ made_by c) where
  pub reads_file : o ≡ None → made_by c ≡ None
  reads_file none = sym tells ∙ ap (λ m. option_map script_of m) none

  pub makes_script : (count : ℕ) → o ≡ Some count → made_by c ≡ Some (script_of count)
  makes_script count some = sym tells ∙ ap (λ m. option_map script_of m) some

pub count_within : (o : Option ℕ) (count : ℕ) → IfSome o (λ n. n ≤ most_functions) → o ≡ Some count → count ≤ most_functions
count_within o count within some = subst (λ m. IfSome m (λ n. n ≤ most_functions)) some within
