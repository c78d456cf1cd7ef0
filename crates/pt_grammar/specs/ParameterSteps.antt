-- A list of parameters, step by step (Language Reference 8.7).
use Rattle.std.specs.Prelude.{◌≡◌, ℕ, List, [], Option, Some, None, Bool, true, Result, Ok, Err}
use Rattle.pt_tree.specs.declared.expression.NamedParameter.{NamedParameter}
use Rattle.pt_wide.specs.Syntax as S
use Rattle.pt_wide.specs.Syntax.{Opt}
use Rattle.pt_readers.specs.Reading.{Part, Carries}
use Rattle.pt_readers.specs.Settled.{Fails}
use Rattle.pt_readers.specs.declared.halt.Halt.{Halt}
use Rattle.pt_grammar.specs.declared.sign.Sign.TheVariants.{Mark as mark}
use Rattle.pt_grammar.specs.declared.sign.Mark.TheVariants.{Colon}
use Rattle.pt_grammar.specs.Lexemes.{Lexeme, name, sign_at}
use Rattle.pt_grammar.specs.Signs.{ends_parameters, of_conditional}
use Rattle.pt_grammar.specs.Grammar.{Parameter, MoreParameters, Annotation}
use Rattle.pt_grammar.specs.Nodes.{OneParameter, Gathered, gathered, is_allowed, params_of, allows_star, allows_double_star}
use Rattle.pt_grammar.specs.Parts.{FitsParams, FitsOpt, Stops}

-- A reader that makes one step stands where what is left of a part is another one.
abbrev pub Steps : {T A X : Type 0} → Part T A → (X → Part T A) → List T → List T → Result X Halt → Type 0
Steps P next ts rest (Ok x) = Carries P ts (next x) rest
Steps P next ts rest (Err e) = Fails P ts rest e

-- where a parameter may stand, behind these
pub data NextParameters : Bool → Gathered → List Lexeme → Gathered → List Lexeme → Type 0 where
  no_next : {b : Bool} {g : Gathered} {ts : List Lexeme} → NextParameters b g ts g ts
  one_next : {b : Bool} {g h : Gathered} {p : OneParameter} {ts mid rest : List Lexeme} → is_allowed g p ≡ true → Parameter b ts p mid
      → MoreParameters b (gathered g p) mid h rest → NextParameters b g ts h rest

abbrev pub next_parameters : (annotated : Bool) → ℕ → Gathered → Part Lexeme Gathered
next_parameters b d g = record { reads = NextParameters b g; stops = λ h next. ends_parameters b next ≡ true; fits = λ h. FitsParams d (params_of h) }

-- behind one
abbrev pub more_parameters : (annotated : Bool) → ℕ → Gathered → Part Lexeme Gathered
more_parameters b d g = record { reads = MoreParameters b g; stops = λ h next. ends_parameters b next ≡ true; fits = λ h. FitsParams d (params_of h) }

-- only what has come is there
pub record Sound (g : Gathered) : Type 0 where
  pub no_slash : g.slash ≡ None → g.positional_only ≡ []
  pub no_star : allows_star g.stage ≡ true → g.star ≡ None
  pub no_double_star : allows_double_star g.stage ≡ true → g.double_star ≡ None

-- what is read so far, within the limits
pub record Held (d : ℕ) (g : Gathered) : Type 0 where
  pub sound : Sound g
  pub fits : FitsParams d (params_of g)

-- the name that is next
abbrev pub NameNext : Option Lexeme → Option NamedParameter → Type 0
NameNext next None = (l : ℕ) (x : List ℕ) → next ≡ Some (name l x) → ⊥
NameNext next (Some p) = next ≡ Some (name p.line.0 p.name)

abbrev pub StopsAnnotation : (annotated : Bool) → Opt → Option Lexeme → Type 0
StopsAnnotation b (S.given e) next = Stops of_conditional e next
StopsAnnotation true S.absent next = sign_at next ≡ Some (mark Colon) → ⊥
StopsAnnotation b S.absent next = Unit {0}

abbrev pub an_annotation : (annotated : Bool) → ℕ → Part Lexeme Opt
an_annotation b d = record { reads = Annotation b; stops = StopsAnnotation b; fits = FitsOpt d }
