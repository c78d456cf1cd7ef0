-- The line of the log for an event in a block of a name is no beginning of a line of another one.
use Rattle.std.proofs.Common.{◌≡◌, ◌∙◌, true, false, List, [], Option, Some, None, refl, sym, subst}
use Rattle.std.specs.Prelude.{◌++◌, ◌∷◌, codes}
use Rattle.std.specs.List.{list_any}
use Rattle.std.specs.Fmt.{decimal}
use Rattle.std.specs.Str.{bytes_eq}
use Rattle.std.proofs.lemmas.Bool.{false≢true}
use Rattle.pt_heap.specs.declared.value.Value.{Value}
use Rattle.sem_run.specs.run.Events as told
use Rattle.sem_run.specs.run.Events.{Happening, Event, TraceKind, trace_kind}
use Rattle.pt_host.specs.World.{World}
use Rattle.pt_host.specs.LogLines.{class_behind, log_text}
use Rattle.pt_cover.specs.Pieces.{Text, kind_of, name_of, is_line}
use Rattle.law_reports.specs.Named.{IsOneLine}
use Rattle.law_reports.proofs.LineTexts.{line-name, no-line}

module _ (name : Text) (e : Event Value) (w : World) (names : List Text) (one : IsOneLine name) (among : list_any (bytes_eq name) names ≡ true) where
  abbrev text : Happening Value → Option TraceKind → Text
  text h k = log_text k name (record e { what = h }) w

  abbrev behind : Happening Value → Text
  behind h = decimal e.line ++ (codes " " ++ (name ++ (class_behind w.heap h ++ (10 ∷ []))))

  abbrev IsNamed : Text → Type 0
  IsNamed t = is_line (kind_of t) ≡ true → list_any (bytes_eq (name_of t)) names ≡ true

  other : (t : Text) → is_line (kind_of t) ≡ false → IsNamed t
  other t apart is = absurd (false≢true (sym apart ∙ is))

  a_call : (h : Happening Value) → IsNamed (text h (Some told.a_call))
  a_call h = other (text h (Some told.a_call)) (no-line (codes "call") (behind h) (refl, (refl, (refl, (refl, tt)))) (refl, (refl, (refl, (refl, tt)))) refl)

  a_return : (h : Happening Value) → IsNamed (text h (Some told.a_return))
  a_return h =
      other (text h (Some told.a_return))
      (no-line (codes "return") (behind h) (refl, (refl, (refl, (refl, (refl, (refl, tt)))))) (refl, (refl, (refl, (refl, (refl, (refl, tt)))))) refl)

  an_exception : (h : Happening Value) → IsNamed (text h (Some told.an_exception))
  an_exception h =
      other (text h (Some told.an_exception))
      (no-line (codes "exception") (behind h) (refl, (refl, (refl, (refl, (refl, (refl, (refl, (refl, (refl, tt)))))))))
      (refl, (refl, (refl, (refl, (refl, (refl, (refl, (refl, (refl, tt))))))))) refl)

  nothing : (h : Happening Value) → IsNamed (text h None)
  nothing h = other [] refl

  by_kind : (h : Happening Value) → IsNamed (text h (trace_kind h))
  by_kind told.starts = a_call told.starts
  by_kind told.resumes = a_call told.resumes
  by_kind (told.returns v) = a_return (told.returns v)
  by_kind (told.yields v) = a_return (told.yields v)
  by_kind (told.throws v) = a_call (told.throws v)
  by_kind (told.unwinds v) = a_return (told.unwinds v)
  by_kind (told.calls f a) = nothing (told.calls f a)
  by_kind (told.returns_from f a) = nothing (told.returns_from f a)
  by_kind (told.raises_from f a) = nothing (told.raises_from f a)
  by_kind (told.line j) = λ is. subst (λ x. list_any (bytes_eq x) names ≡ true) (sym (line-name e.line name one)) among
  by_kind (told.jumps d) = nothing (told.jumps d)
  by_kind (told.branches d) = nothing (told.branches d)
  by_kind (told.raises v) = an_exception (told.raises v)
  by_kind (told.raises_again v) = nothing (told.raises_again v)
  by_kind (told.handled v) = nothing (told.handled v)
  by_kind (told.stops v) = nothing (told.stops v)

  pub text_named : IsNamed (log_text (trace_kind e.what) name e w)
  text_named = by_kind e.what
