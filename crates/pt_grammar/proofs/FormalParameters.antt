-- Parameters that a named argument may reach, with annotations and defaults.
use Rattle.std.proofs.Common.{◌≡◌, ◌≢◌, ℕ, ◌≤◌, ◌<◌, Bool, true, false, List, [], ◌∷◌, Option, Some, inl, inr, ◌⊎◌, refl, sym, ◌∙◌, ap, subst, arith}
use Rattle.pt_wide.specs.Syntax as S
use Rattle.pt_wide.specs.Syntax.{Exp, Opt}
use Rattle.pt_readers.specs.Reading.{next_of, Alike, Found, Refused, Carries}
use Rattle.pt_readers.proofs.Readers.{Binds, Shifts, Just, left, nothing_found, bad_refused, narrow_carries}
use Rattle.pt_readers.proofs.Pieces.{Made, made, made_binds}
use Rattle.pt_grammar.specs.declared.sign.Sign.TheVariants.{Mark as mark}
use Rattle.pt_grammar.specs.declared.sign.Mark.TheVariants.{Close, Comma, Colon, Assign}
use Rattle.pt_grammar.specs.Lexemes.{Lexeme, name, sign, sign_at}
use Rattle.pt_grammar.specs.Signs.{ends_parameters}
use Rattle.pt_grammar.specs.Grammar.{Expr, MoreParameters, parameters_end, parameters_comma, Parameter, a_formal, Annotation, no_annotation, Default, no_default, a_default}
use Rattle.pt_grammar.specs.Grammar as G
use Rattle.pt_grammar.specs.Nodes.{Formal, OneParameter, formal, slash, bare_star, star, double_star, Stage, plain, defaulted, keyword_only, over, Gathered, gathered, is_allowed, allows_formal, allows_double_star, has_default, params_of}
use Rattle.pt_grammar.specs.Parts as P
use Rattle.pt_grammar.specs.Parts.{FitsParams, FitsOpt, Fits, Stops, Apart, ends_in_text, an_expr}
use Rattle.pt_grammar.specs.ParameterSteps.{NextParameters, no_next, one_next, next_parameters, more_parameters, Held, StopsAnnotation, an_annotation}
use Rattle.pt_grammar.proofs.Atoms.{apart_mark}
use Rattle.pt_grammar.proofs.Begins.{some_name, some_exp, name_expr}
use Rattle.pt_grammar.proofs.ParameterSizes.{number, counted, held_more, fits_one, shrinks, sound_more}
use Rattle.pt_grammar.proofs.ParameterLists.{BeginsWith, not_both, assign_open, next_bad, next_over}

abbrev pub a_formal_of : ℕ → List ℕ → Opt → Opt → OneParameter
a_formal_of l x a d = formal record { line = l; name = x; annotation = a; default = d }

-- with a default it may come wherever one may
pub allowed_default : (s : Stage) (f : Formal) → allows_double_star s ≡ true → has_default f ≡ true → allows_formal s f ≡ true
allowed_default plain f h k = refl
allowed_default defaulted f h k = k
allowed_default keyword_only f h k = refl
allowed_default over f h k = h

pub formal_bad : (b : Bool) (d : ℕ) (g : Gathered) (l : ℕ) (x : List ℕ) (ts : List Lexeme) → next_of ts ≡ Some (name l x) → allows_double_star g.stage ≡ false → FitsParams d (params_of g)
    → Refused (next_parameters b d g) false ts ts
formal_bad b d g l x ts e n fits = next_bad b d g ts (ap (λ o. ends_parameters b o) e) (λ p h q. out p (subst (λ o. BeginsWith o p) e h) q) fits
  where
    none : (s : Stage) (f : Formal) → allows_double_star s ≡ false → allows_formal s f ≡ true → ⊥
    none plain f h k = cc
    none defaulted f h k = cc
    none keyword_only f h k = cc
    none over f h k = cc

    out : (p : OneParameter) → BeginsWith (Some (name l x)) p → is_allowed g p ≡ true → ⊥
    out (formal f) h q = none g.stage f n q
    out (slash m) h q = h
    out bare_star h q = h
    out (star p) h q = h
    out (double_star p) h q = h

pub formal_over : (b : Bool) (d : ℕ) (g : Gathered) (l : ℕ) (x : List ℕ) (ts : List Lexeme) → next_of ts ≡ Some (name l x) → allows_double_star g.stage ≡ true → Held d g → 4096 ≤ number g
    → Refused (next_parameters b d g) true ts ts
formal_over b d g l x ts e q held full =
    next_over b d g (name l x) ts e refl held (λ p h. one p h) full (sign 0 (mark Assign) ∷ (some_name ∷ [])) (a_formal_of l x S.absent (S.given some_exp)) (allowed_default g.stage _ q refl)
    (λ z. a_formal no_annotation (a_default name_expr))
  where
    one : (p : OneParameter) → BeginsWith (Some (name l x)) p → counted p ≡ 1
    one (formal f) h = refl
    one (slash m) h = absurd h
    one bare_star h = absurd h
    one (star p) h = absurd h
    one (double_star p) h = absurd h

-- what follows the name
pub data Named (b : Bool) (g : Gathered) (l : ℕ) (x : List ℕ) : List Lexeme → Gathered → List Lexeme → Type 0 where
  named : {a d : Opt} {ts us mid rest : List Lexeme} {h : Gathered} → is_allowed g (a_formal_of l x a d) ≡ true → Annotation b ts a us → Default us d mid
      → MoreParameters b (gathered g (a_formal_of l x a d)) mid h rest → Named b g l x ts h rest

-- what follows the annotation
pub data Annotated (b : Bool) (g : Gathered) (l : ℕ) (x : List ℕ) (a : Opt) : List Lexeme → Gathered → List Lexeme → Type 0 where
  annotated : {d : Opt} {ts mid rest : List Lexeme} {h : Gathered} → is_allowed g (a_formal_of l x a d) ≡ true → Default ts d mid
      → MoreParameters b (gathered g (a_formal_of l x a d)) mid h rest → Annotated b g l x a ts h rest

-- what follows "="
pub data Defaulted (b : Bool) (g : Gathered) (l : ℕ) (x : List ℕ) (a : Opt) : List Lexeme → Gathered → List Lexeme → Type 0 where
  is_defaulted : {e : Exp} {ts mid rest : List Lexeme} {h : Gathered} → Expr ts e mid → MoreParameters b (gathered g (a_formal_of l x a (S.given e))) mid h rest
      → Defaulted b g l x a ts h rest

pub formal_shifts : (b : Bool) (d : ℕ) (g : Gathered) (l : ℕ) (x : List ℕ) → Shifts (name l x) (left (P.some_parameters b d) (Named b g l x)) (next_parameters b d g)
formal_shifts b d g l x = record { intro = λ ts y rest k. into k; inv = λ ts y rest k s. (out k s, s); stop = λ y o s. s; up = λ y f. f; down = λ y f. f }
  where
    into : {ts rest : List Lexeme} {y : Gathered} → Named b g l x ts y rest → NextParameters b g (name l x ∷ ts) y rest
    into (named q a e k) = one_next q (a_formal a e) k

    out : {ts rest : List Lexeme} {y : Gathered} → NextParameters b g (name l x ∷ ts) y rest → ends_parameters b (next_of rest) ≡ true → Named b g l x ts y rest
    out no_next s = absurd (not_both s refl)
    out (one_next q (a_formal a e) k) s = named q a e k

-- what may stand behind an annotation or a default
After : Bool → Option Lexeme → Type 0
After b next = (ends_parameters b next ≡ true) ⊎ ((l : ℕ) × ((next ≡ Some (sign l (mark Comma))) ⊎ (next ≡ Some (sign l (mark Assign)))))

behind_one : {b : Bool} {g h : Gathered} {ts rest : List Lexeme} → MoreParameters b g ts h rest → ends_parameters b (next_of rest) ≡ true → After b (next_of ts)
unfolding After
behind_one parameters_end s = inl s
behind_one (parameters_comma {l = l}) s = inr (l, inl refl)
behind_one (G.more_parameters {l = l} q p k) s = inr (l, inl refl)

behind_annotation : {b : Bool} {g h : Gathered} {d : Opt} {ts mid rest : List Lexeme} → Default ts d mid → MoreParameters b g mid h rest → ends_parameters b (next_of rest) ≡ true → After b (next_of ts)
unfolding After
behind_annotation no_default k s = behind_one k s
behind_annotation (a_default {l = l} e) k s = inr (l, inr refl)

closed_stops : (b : Bool) (e : Exp) (next : Option Lexeme) → ends_parameters b next ≡ true → Stops 11 e next
closed_stops true e (Some (sign l (mark Close))) h = (omega arith, apart_mark (ends_in_text e) l Close)
closed_stops false e (Some (sign l (mark Colon))) h = (omega arith, apart_mark (ends_in_text e) l Colon)
closed_stops _ e _ h = absurd (cc)

after_stops : (b : Bool) (e : Exp) (next : Option Lexeme) → After b next → Stops 11 e next
unfolding After
after_stops b e next (inl h) = closed_stops b e next h
after_stops b e next (inr (l, inl h)) = subst (λ o. Stops 11 e o) (sym h) (omega arith, apart_mark (ends_in_text e) l Comma)
after_stops b e next (inr (l, inr h)) = subst (λ o. Stops 11 e o) (sym h) (omega arith, apart_mark (ends_in_text e) l Assign)

no_colon : (next : Option Lexeme) → After true next → sign_at next ≡ Some (mark Colon) → ⊥
unfolding After
no_colon next (inl h) e = closed next h e
  where
    closed : (next : Option Lexeme) → ends_parameters true next ≡ true → sign_at next ≡ Some (mark Colon) → ⊥
    closed (Some (sign l (mark Close))) h e = cc
    closed (Some (sign l (mark Colon))) h e = cc
    closed (Some (sign l s)) h e = cc
    closed _ h e = cc
no_colon next (inr (l, inl h)) e = let k = sym (ap sign_at h) ∙ e in cc
no_colon next (inr (l, inr h)) e = let k = sym (ap sign_at h) ∙ e in cc

annotation_stops : (b : Bool) (a : Opt) (next : Option Lexeme) → After b next → StopsAnnotation b a next
annotation_stops b (S.given e) next h = after_stops b e next h
annotation_stops true S.absent next h = no_colon next h
annotation_stops false S.absent next h = tt

opt_fits : (d : ℕ) (g : Gathered) (l : ℕ) (x : List ℕ) (a e : Opt) → Held d g → is_allowed g (a_formal_of l x a e) ≡ true → number g < 4096 → FitsOpt d a → FitsOpt d e → Held d (gathered g (a_formal_of l x a e))
opt_fits d g l x a e held q n f k = held_more d g (a_formal_of l x a e) held q (omega arith) (omega (arith, f.0, k.0)) (omega (arith, f.1, k.1))

pub formal_held : (d : ℕ) (g : Gathered) (l : ℕ) (x : List ℕ) (a e : Opt) → Held d g → is_allowed g (a_formal_of l x a e) ≡ true → number g < 4096 → FitsOpt d a → FitsOpt d e → Held d (gathered g (a_formal_of l x a e))
formal_held d g l x a e held q n f k = opt_fits d g l x a e held q n f k

-- the name, its annotation, and then perhaps a default
pub annotation_binds : (b : Bool) (d : ℕ) (g : Gathered) (l : ℕ) (x : List ℕ) → 0 < d → Held d g → allows_double_star g.stage ≡ true → number g < 4096
    → Binds (an_annotation b d) (λ a. Annotated b g l x a) (left (P.some_parameters b d) (Named b g l x))
annotation_binds b d g l x room held q n = record {
  intro = λ ts y mid z rest a k. into a k;
  inv = λ ts z rest k s. out k s;
  down = λ y mid z rest k f. part k f;
  finish = λ y f. (sign 0 (mark Assign) ∷ (some_name ∷ []), gathered g (a_formal_of l x y (S.given some_exp)), (formal_held d g l x y (S.given some_exp) held (free y) n f (omega arith, omega arith)).fits, λ z. annotated (free y) (a_default name_expr) parameters_end);
  extend = λ y. (sign 0 (mark Assign) ∷ (some_name ∷ []), gathered g (a_formal_of l x y (S.given some_exp)), λ z. annotated (free y) (a_default name_expr) parameters_end);
}
  where
    free : (y : Opt) → is_allowed g (a_formal_of l x y (S.given some_exp)) ≡ true
    free y = allowed_default g.stage _ q refl

    into : {ts mid rest : List Lexeme} {y : Opt} {z : Gathered} → Annotation b ts y mid → Annotated b g l x y mid z rest → Named b g l x ts z rest
    into a (annotated r e k) = named r a e k

    out : {ts rest : List Lexeme} {z : Gathered} → Named b g l x ts z rest → ends_parameters b (next_of rest) ≡ true
        → (y : Opt) × (mid : List Lexeme) × Annotation b ts y mid × StopsAnnotation b y (next_of mid) × Annotated b g l x y mid z rest
    out (named {a = a} {us = us} r y e k) s = (a, us, y, annotation_stops b a (next_of us) (behind_annotation e k s), annotated r e k)

    part : {mid rest : List Lexeme} {y : Opt} {z : Gathered} → Annotated b g l x y mid z rest → FitsParams d (params_of z) → FitsOpt d y
    part {y = y} (annotated {d = e} r m k) f =
        let h = fits_one d g (a_formal_of l x y e) held.sound r (shrinks d (sound_more g (a_formal_of l x y e) held.sound r) k f) in (omega (arith, h.1), omega (arith, h.2))

pub assign_shifts : (b : Bool) (d : ℕ) (g : Gathered) (l : ℕ) (x : List ℕ) (a : Opt) (m : ℕ) → allows_double_star g.stage ≡ true
    → Shifts (sign m (mark Assign)) (left (P.some_parameters b d) (Defaulted b g l x a)) (left (P.some_parameters b d) (Annotated b g l x a))
assign_shifts b d g l x a m q = record { intro = λ ts y rest k. into k; inv = λ ts y rest k s. (out k s, s); stop = λ y o s. s; up = λ y f. f; down = λ y f. f }
  where
    into : {ts rest : List Lexeme} {y : Gathered} → Defaulted b g l x a ts y rest → Annotated b g l x a (sign m (mark Assign) ∷ ts) y rest
    into (is_defaulted e k) = annotated (allowed_default g.stage _ q refl) (a_default e) k

    out : {ts rest : List Lexeme} {y : Gathered} → Annotated b g l x a (sign m (mark Assign) ∷ ts) y rest → ends_parameters b (next_of rest) ≡ true → Defaulted b g l x a ts y rest
    out (annotated r (a_default e) k) s = is_defaulted e k
    out (annotated r no_default parameters_end) s = absurd (not_both s (assign_open b m))

pub default_binds : (b : Bool) (d : ℕ) (g : Gathered) (l : ℕ) (x : List ℕ) (a : Opt) → Held d g → allows_double_star g.stage ≡ true → number g < 4096 → FitsOpt d a
    → Binds (an_expr d) (λ e. MoreParameters b (gathered g (a_formal_of l x a (S.given e)))) (left (P.some_parameters b d) (Defaulted b g l x a))
default_binds b d g l x a held q n fits = record {
  intro = λ ts y mid z rest e k. is_defaulted e k;
  inv = λ ts z rest k s. out k s;
  down = λ y mid z rest k f. part y k f;
  finish = λ y f. ([], gathered g (a_formal_of l x a (S.given y)), (formal_held d g l x a (S.given y) held (free y) n fits f).fits, λ z. parameters_end);
  extend = λ y. ([], gathered g (a_formal_of l x a (S.given y)), λ z. parameters_end);
}
  where
    free : (y : Exp) → is_allowed g (a_formal_of l x a (S.given y)) ≡ true
    free y = allowed_default g.stage _ q refl

    out : {ts rest : List Lexeme} {z : Gathered} → Defaulted b g l x a ts z rest → ends_parameters b (next_of rest) ≡ true
        → (y : Exp) × (mid : List Lexeme) × Expr ts y mid × Stops 11 y (next_of mid) × MoreParameters b (gathered g (a_formal_of l x a (S.given y))) mid z rest
    out (is_defaulted {e = y} {mid = mid} e k) s = (y, mid, e, after_stops b y (next_of mid) (behind_one k s), k)

    part : {mid rest : List Lexeme} (y : Exp) {z : Gathered} → MoreParameters b (gathered g (a_formal_of l x a (S.given y))) mid z rest → FitsParams d (params_of z) → Fits d y
    part y k f =
        let h = fits_one d g (a_formal_of l x a (S.given y)) held.sound (free y) (shrinks d (sound_more g (a_formal_of l x a (S.given y)) held.sound (free y)) k f) in (omega (arith, h.1), omega (arith, h.2))

-- a default is missing
pub default_bad : (b : Bool) (d : ℕ) (g : Gathered) (l : ℕ) (x : List ℕ) (a : Opt) (ts : List Lexeme) → sign_at (next_of ts) ≢ Some (mark Assign) → g.stage ≡ defaulted → 0 < d → Held d g → number g < 4096 → FitsOpt d a
    → Refused (left (P.some_parameters b d) (Annotated b g l x a)) false ts ts
default_bad b d g l x a ts n e room held few fits =
    bad_refused (left (P.some_parameters b d) (Annotated b g l x a)) ts (λ more i y rest k s. out i k) (sign 0 (mark Assign) ∷ (some_name ∷ [])) (gathered g (a_formal_of l x a (S.given some_exp)))
    (formal_held d g l x a (S.given some_exp) held free few fits (omega arith, omega arith)).fits (λ z. annotated free (a_default name_expr) parameters_end)
  where
    free : is_allowed g (a_formal_of l x a (S.given some_exp)) ≡ true
    free = allowed_default g.stage _ (ap allows_double_star e) refl

    out : {more rest : List Lexeme} {y : Gathered} → Alike more ts → Annotated b g l x a more y rest → ⊥
    out i (annotated r no_default k) = let h = sym r ∙ ap (λ (s : Stage). allows_formal s record { line = l; name = x; annotation = a; default = S.absent }) e in cc
    out (inl i) (annotated r (a_default k) m) = n (sym (ap sign_at i))
    out (inr i) (annotated r (a_default k) m) = cc

pub allowed_plain : (s : Stage) (f : Formal) → allows_double_star s ≡ true → s ≢ defaulted → allows_formal s f ≡ true
allowed_plain plain f h n = refl
allowed_plain defaulted f h n = absurd (n refl)
allowed_plain keyword_only f h n = refl
allowed_plain over f h n = h

-- there is none, and needs to be none
pub undefaulted_carries : (b : Bool) (d : ℕ) (g : Gathered) (l : ℕ) (x : List ℕ) (a : Opt) (ts : List Lexeme) → sign_at (next_of ts) ≢ Some (mark Assign) → is_allowed g (a_formal_of l x a S.absent) ≡ true
    → Carries (left (P.some_parameters b d) (Annotated b g l x a)) ts (more_parameters b d (gathered g (a_formal_of l x a S.absent))) ts
undefaulted_carries b d g l x a ts n q = narrow_carries record { into = λ more y rest k. annotated q no_default k; out = λ more y rest i k s. (out i k, s); stop = λ y o s. s; up = λ y f. f; down = λ y f. f }
  where
    out : {more rest : List Lexeme} {y : Gathered} → Alike more ts → Annotated b g l x a more y rest → MoreParameters b (gathered g (a_formal_of l x a S.absent)) more y rest
    out i (annotated r no_default k) = k
    out (inl i) (annotated r (a_default k) m) = absurd (n (sym (ap sign_at i)))
    out (inr i) (annotated r (a_default k) m) = cc

-- annotations
pub none_found : (b : Bool) (d : ℕ) (ts : List Lexeme) → b ≡ false → Found (an_annotation b d) ts S.absent ts
none_found true d ts h = absurd (cc)
none_found false d ts h = nothing_found (an_annotation false d) ts S.absent (λ more. no_annotation) tt (omega arith, omega arith) (λ more a x' rest' k m. out k)
  where
    out : {more rest' : List Lexeme} {x' : Opt} → Annotation false more x' rest' → (x' ≡ S.absent) × (rest' ≡ more)
    out no_annotation = (refl, refl)

pub absent_found : (b : Bool) (d : ℕ) (ts : List Lexeme) → b ≡ true → sign_at (next_of ts) ≢ Some (mark Colon) → Found (an_annotation b d) ts S.absent ts
absent_found false d ts h n = absurd (cc)
absent_found true d ts h n = nothing_found (an_annotation true d) ts S.absent (λ more. no_annotation) n (omega arith, omega arith) (λ more a x' rest' k m. out a k)
  where
    out : {more rest' : List Lexeme} {x' : Opt} → Alike more ts → Annotation true more x' rest' → (x' ≡ S.absent) × (rest' ≡ more)
    out a no_annotation = (refl, refl)
    out (inl e) (G.an_annotation k) = absurd (n (sym (ap sign_at e)))
    out (inr e) (G.an_annotation k) = cc

pub colon_shifts : (b : Bool) (d l : ℕ) → b ≡ true → Shifts (sign l (mark Colon)) (left (an_annotation b d) (Made (an_expr d) S.given)) (an_annotation b d)
colon_shifts false d l h = absurd (cc)
colon_shifts true d l h = record { intro = λ ts x rest k. into k; inv = λ ts x rest k s. (out k s, s); stop = λ x o s. s; up = λ x f. f; down = λ x f. f }
  where
    into : {ts rest : List Lexeme} {x : Opt} → Made (an_expr d) S.given ts x rest → Annotation true (sign l (mark Colon) ∷ ts) x rest
    into (made k) = G.an_annotation k

    out : {ts rest : List Lexeme} {x : Opt} → Annotation true (sign l (mark Colon) ∷ ts) x rest → StopsAnnotation true x (next_of rest) → Made (an_expr d) S.given ts x rest
    out no_annotation s = absurd (s refl)
    out (G.an_annotation k) s = made k

pub value_binds : (b : Bool) (d : ℕ) → Binds (an_expr d) (λ e. Just (S.given e)) (left (an_annotation b d) (Made (an_expr d) S.given))
value_binds b d = made_binds (an_annotation b d) (an_expr d) S.given (λ e o s. s) (λ e f. f) (λ e f. f)
