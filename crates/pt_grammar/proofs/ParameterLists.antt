-- Parameters one by one, and what stands between them.
use Rattle.std.proofs.Common.{◌≡◌, ◌≢◌, ℕ, ◌≤◌, ◌<◌, Bool, true, false, List, [], ◌∷◌, ◌++◌, Option, Some, None, inl, inr, refl, sym, ◌∙◌, ap, subst, arith}
use Rattle.pt_base.specs.declared.operators.BinOp.TheVariants.{Mul, Div, Pow}
use Rattle.pt_tree.specs.declared.expression.NamedParameter.{NamedParameter}
use Rattle.pt_wide.specs.declared.expression.WideBinOp.{WideBinOp}
use Rattle.pt_wide.specs.declared.expression.WideBinOp.TheVariants.{Plain}
use Rattle.pt_readers.specs.Reading.{next_of, Alike, Found, Refused, Carries}
use Rattle.pt_readers.proofs.Readers.{Shifts, left, nothing_found, bad_refused, narrow_carries}
use Rattle.pt_readers.proofs.Exits.{over_refused_at}
use Rattle.pt_grammar.specs.declared.sign.Sign.TheVariants.{Operator, Mark as mark}
use Rattle.pt_grammar.specs.declared.sign.Mark.TheVariants.{Comma, Assign}
use Rattle.pt_grammar.specs.Lexemes.{Lexeme, name, sign, sign_at}
use Rattle.pt_grammar.specs.Signs.{ends_parameters, closes_parameters}
use Rattle.pt_grammar.specs.Grammar.{Parameters, no_parameter, some_parameters, MoreParameters, parameters_end, parameters_comma, Parameter, a_formal, a_slash, a_bare_star, a_star, a_double_star}
use Rattle.pt_grammar.specs.Grammar as G
use Rattle.pt_grammar.specs.Nodes.{OneParameter, formal, slash, bare_star, star, double_star, Gathered, no_parameters, gathered, is_allowed, allows_star, allows_double_star, named_parameter, params_of}
use Rattle.pt_grammar.specs.Parts as P
use Rattle.pt_grammar.specs.Parts.{FitsParams}
use Rattle.pt_grammar.specs.ParameterSteps.{NextParameters, no_next, one_next, next_parameters, more_parameters, Held, NameNext}
use Rattle.pt_grammar.proofs.Begins.{some_name}
use Rattle.pt_grammar.proofs.ParameterSizes.{number, counted, held_more, fits_one, shrinks, sound_more}

-- What parameters begin with.
abbrev pub BeginsWith : Option Lexeme → OneParameter → Type 0
BeginsWith (Some (name l x)) (formal f) = Unit {0}
BeginsWith (Some (sign l (Operator (Plain Div)))) (slash m) = Unit {0}
BeginsWith (Some (sign l (Operator (Plain Mul)))) bare_star = Unit {0}
BeginsWith (Some (sign l (Operator (Plain Mul)))) (star p) = Unit {0}
BeginsWith (Some (sign l (Operator (Plain Pow)))) (double_star p) = Unit {0}
BeginsWith _ p = ⊥

pub parameter_begins : {b : Bool} {ts mid : List Lexeme} {p : OneParameter} → Parameter b ts p mid → BeginsWith (next_of ts) p
parameter_begins (a_formal a d) = tt
parameter_begins a_slash = tt
parameter_begins a_bare_star = tt
parameter_begins a_star = tt
parameter_begins a_double_star = tt

no_operator : (b : Bool) (o : WideBinOp) → closes_parameters b (Operator o) ≡ false
no_operator true o = refl
no_operator false o = refl

begins_open : {b : Bool} {ts mid : List Lexeme} {p : OneParameter} → Parameter b ts p mid → ends_parameters b (next_of ts) ≡ false
begins_open (a_formal a d) = refl
begins_open {b = b} a_slash = no_operator b (Plain Div)
begins_open {b = b} a_bare_star = no_operator b (Plain Mul)
begins_open {b = b} a_star = no_operator b (Plain Mul)
begins_open {b = b} a_double_star = no_operator b (Plain Pow)

pub comma_open : (b : Bool) (l : ℕ) → ends_parameters b (Some (sign l (mark Comma))) ≡ false
comma_open true l = refl
comma_open false l = refl

pub assign_open : (b : Bool) (l : ℕ) → ends_parameters b (Some (sign l (mark Assign))) ≡ false
assign_open true l = refl
assign_open false l = refl

pub not_both : {b : Bool} → b ≡ true → b ≡ false → ⊥
not_both h k = let e = sym h ∙ k in cc

-- nothing that looks like these tokens is closed where they aren't
pub open_alike : (b : Bool) (ts more : List Lexeme) → Alike more ts → ends_parameters b (next_of ts) ≡ false → ends_parameters b (next_of more) ≡ true → ⊥
open_alike b ts more (inl e) n c = not_both (sym (ap (λ o. ends_parameters b o) e) ∙ c) n
open_alike b ts more (inr e) n c = not_both (sym (ap (λ us. ends_parameters b (next_of us)) e) ∙ c) refl

-- the first parameter
pub parameters_start : (b : Bool) (d : ℕ) (ts : List Lexeme) → Carries (P.some_parameters b d) ts (next_parameters b d no_parameters) ts
parameters_start b d ts = narrow_carries record { into = λ more x rest k. into k; out = λ more x rest a k s. (out k, s); stop = λ x o s. s; up = λ x f. f; down = λ x f. f }
  where
    into : {more rest : List Lexeme} {x : Gathered} → NextParameters b no_parameters more x rest → Parameters b more x rest
    into no_next = no_parameter
    into (one_next q p k) = some_parameters q p k

    out : {more rest : List Lexeme} {x : Gathered} → Parameters b more x rest → NextParameters b no_parameters more x rest
    out no_parameter = no_next
    out (some_parameters q p k) = one_next q p k

-- what closes them is next
pub next_found : (b : Bool) (d : ℕ) (g : Gathered) (ts : List Lexeme) → ends_parameters b (next_of ts) ≡ true → FitsParams d (params_of g) → Found (next_parameters b d g) ts g ts
next_found b d g ts c fits = nothing_found (next_parameters b d g) ts g (λ more. no_next) c fits (λ more a x' rest' k m. out a k)
  where
    out : {more rest' : List Lexeme} {x' : Gathered} → Alike more ts → NextParameters b g more x' rest' → (x' ≡ g) × (rest' ≡ more)
    out a no_next = (refl, refl)
    out (inl e) (one_next q p k) = absurd (not_both (ap (λ o. ends_parameters b o) e ∙ c) (begins_open p))
    out (inr e) (one_next {p = p} q k m) = absurd (subst (λ us. BeginsWith (next_of us) p) e (parameter_begins k))

pub more_found : (b : Bool) (d : ℕ) (g : Gathered) (ts : List Lexeme) → ends_parameters b (next_of ts) ≡ true → FitsParams d (params_of g) → Found (more_parameters b d g) ts g ts
more_found b d g ts c fits = nothing_found (more_parameters b d g) ts g (λ more. parameters_end) c fits (λ more a x' rest' k m. out a k)
  where
    no_comma : {l : ℕ} {us : List Lexeme} → Alike (sign l (mark Comma) ∷ us) ts → ⊥
    no_comma {l} (inl e) = not_both (ap (λ o. ends_parameters b o) e ∙ c) (comma_open b l)
    no_comma (inr e) = cc

    out : {more rest' : List Lexeme} {x' : Gathered} → Alike more ts → MoreParameters b g more x' rest' → (x' ≡ g) × (rest' ≡ more)
    out a parameters_end = (refl, refl)
    out a parameters_comma = absurd (no_comma a)
    out a (G.more_parameters q p k) = absurd (no_comma a)

-- neither what closes them nor a comma is next
pub more_bad : (b : Bool) (d : ℕ) (g : Gathered) (ts : List Lexeme) → ends_parameters b (next_of ts) ≡ false → sign_at (next_of ts) ≢ Some (mark Comma) → FitsParams d (params_of g)
    → Refused (more_parameters b d g) false ts ts
more_bad b d g ts c n fits = bad_refused (more_parameters b d g) ts (λ more a x' rest' k s. out a k s) [] g fits (λ z. parameters_end)
  where
    no_comma : {l : ℕ} {us : List Lexeme} → Alike (sign l (mark Comma) ∷ us) ts → ⊥
    no_comma (inl e) = n (sym (ap sign_at e))
    no_comma (inr e) = cc

    out : {more rest' : List Lexeme} {x' : Gathered} → Alike more ts → MoreParameters b g more x' rest' → ends_parameters b (next_of rest') ≡ true → ⊥
    out {more = more} a parameters_end s = open_alike b ts more a c s
    out a parameters_comma s = no_comma a
    out a (G.more_parameters q p k) s = no_comma a

pub comma_shifts : (b : Bool) (d : ℕ) (g : Gathered) (l : ℕ) → Shifts (sign l (mark Comma)) (next_parameters b d g) (more_parameters b d g)
comma_shifts b d g l = record { intro = λ ts x rest k. into k; inv = λ ts x rest k s. (out k s, s); stop = λ x o s. s; up = λ x f. f; down = λ x f. f }
  where
    into : {ts rest : List Lexeme} {x : Gathered} → NextParameters b g ts x rest → MoreParameters b g (sign l (mark Comma) ∷ ts) x rest
    into no_next = parameters_comma
    into (one_next q p k) = G.more_parameters q p k

    out : {ts rest : List Lexeme} {x : Gathered} → MoreParameters b g (sign l (mark Comma) ∷ ts) x rest → ends_parameters b (next_of rest) ≡ true → NextParameters b g ts x rest
    out parameters_end s = absurd (not_both s (comma_open b l))
    out parameters_comma s = no_next
    out (G.more_parameters q p k) s = one_next q p k

-- no parameter that may come begins with the next token
pub next_bad : (b : Bool) (d : ℕ) (g : Gathered) (ts : List Lexeme) → ends_parameters b (next_of ts) ≡ false → ((p : OneParameter) → BeginsWith (next_of ts) p → is_allowed g p ≡ true → ⊥)
    → FitsParams d (params_of g) → Refused (next_parameters b d g) false ts ts
next_bad b d g ts c n fits = bad_refused (next_parameters b d g) ts (λ more a x' rest' k s. out a k s) [] g fits (λ z. no_next)
  where
    out : {more rest' : List Lexeme} {x' : Gathered} → Alike more ts → NextParameters b g more x' rest' → ends_parameters b (next_of rest') ≡ true → ⊥
    out {more = more} a no_next s = open_alike b ts more a c s
    out (inl e) (one_next {p = p} q k m) s = n p (subst (λ o. BeginsWith o p) e (parameter_begins k)) q
    out (inr e) (one_next {p = p} q k m) s = subst (λ us. BeginsWith (next_of us) p) e (parameter_begins k)

-- one that begins with the next token is one too many
pub next_over : (b : Bool) (d : ℕ) (g : Gathered) (t : Lexeme) (ts : List Lexeme) → next_of ts ≡ Some t → ends_parameters b (Some t) ≡ false → Held d g
    → ((p : OneParameter) → BeginsWith (Some t) p → counted p ≡ 1) → 4096 ≤ number g
    → (w : List Lexeme) (p : OneParameter) → is_allowed g p ≡ true → ((z : List Lexeme) → Parameter b (t ∷ (w ++ z)) p z) → Refused (next_parameters b d g) true ts ts
next_over b d g t ts e c held one full w p q far =
    over_refused_at (next_parameters b d g) t ts e (λ more x' rest' k s f. out k s f) w (gathered g p) (λ z. one_next q (far z) parameters_end) [] g held.fits (λ z. no_next)
  where
    out : {more rest' : List Lexeme} {x' : Gathered} → NextParameters b g (t ∷ more) x' rest' → ends_parameters b (next_of rest') ≡ true → FitsParams d (params_of x') → ⊥
    out no_next s f = not_both s c
    out (one_next {p = p} q k m) s f =
        let h = fits_one d g p held.sound q (shrinks d (sound_more g p held.sound q) m f) in
        omega (arith, one p (parameter_begins k), h.0)

-- `/`
pub slash_bad : (b : Bool) (d : ℕ) (g : Gathered) (l : ℕ) (ts : List Lexeme) → next_of ts ≡ Some (sign l (Operator (Plain Div))) → is_allowed g (slash 0) ≡ false → FitsParams d (params_of g)
    → Refused (next_parameters b d g) false ts ts
slash_bad b d g l ts e n fits = next_bad b d g ts (ap (λ o. ends_parameters b o) e ∙ no_operator b (Plain Div)) (λ p h q. out p (subst (λ o. BeginsWith o p) e h) q) fits
  where
    out : (p : OneParameter) → BeginsWith (Some (sign l (Operator (Plain Div)))) p → is_allowed g p ≡ true → ⊥
    out (slash m) h q = not_both q n
    out (formal f) h q = h
    out bare_star h q = h
    out (star p) h q = h
    out (double_star p) h q = h

pub slash_shifts : (b : Bool) (d : ℕ) (g : Gathered) (l : ℕ) → is_allowed g (slash l) ≡ true → Shifts (sign l (Operator (Plain Div))) (more_parameters b d (gathered g (slash l))) (next_parameters b d g)
slash_shifts b d g l q = record { intro = λ ts x rest k. one_next q a_slash k; inv = λ ts x rest k s. (out k s, s); stop = λ x o s. s; up = λ x f. f; down = λ x f. f }
  where
    out : {ts rest : List Lexeme} {x : Gathered} → NextParameters b g (sign l (Operator (Plain Div)) ∷ ts) x rest → ends_parameters b (next_of rest) ≡ true → MoreParameters b (gathered g (slash l)) ts x rest
    out no_next s = absurd (not_both s (no_operator b (Plain Div)))
    out (one_next q a_slash k) s = k

pub slash_held : (d : ℕ) (g : Gathered) (l : ℕ) → is_allowed g (slash l) ≡ true → Held d g → Held d (gathered g (slash l))
slash_held d g l q held = held_more d g (slash l) held q (omega (arith, held.fits.1)) (omega arith) (omega arith)

-- what follows `*`
pub data Starred (b : Bool) (g : Gathered) : List Lexeme → Gathered → List Lexeme → Type 0 where
  alone : {ts rest : List Lexeme} {h : Gathered} → MoreParameters b (gathered g bare_star) ts h rest → Starred b g ts h rest
  with_name : {m : ℕ} {x : List ℕ} {ts rest : List Lexeme} {h : Gathered} → MoreParameters b (gathered g (star (named_parameter m x))) ts h rest → Starred b g (name m x ∷ ts) h rest

pub star_bad : (b : Bool) (d : ℕ) (g : Gathered) (l : ℕ) (ts : List Lexeme) → next_of ts ≡ Some (sign l (Operator (Plain Mul))) → allows_star g.stage ≡ false → FitsParams d (params_of g)
    → Refused (next_parameters b d g) false ts ts
star_bad b d g l ts e n fits = next_bad b d g ts (ap (λ o. ends_parameters b o) e ∙ no_operator b (Plain Mul)) (λ p h q. out p (subst (λ o. BeginsWith o p) e h) q) fits
  where
    out : (p : OneParameter) → BeginsWith (Some (sign l (Operator (Plain Mul)))) p → is_allowed g p ≡ true → ⊥
    out (slash m) h q = h
    out (formal f) h q = h
    out bare_star h q = not_both q n
    out (star p) h q = not_both q n
    out (double_star p) h q = h

pub star_shifts : (b : Bool) (d : ℕ) (g : Gathered) (l : ℕ) → allows_star g.stage ≡ true → Shifts (sign l (Operator (Plain Mul))) (left (P.some_parameters b d) (Starred b g)) (next_parameters b d g)
star_shifts b d g l q = record { intro = λ ts x rest k. into k; inv = λ ts x rest k s. (out k s, s); stop = λ x o s. s; up = λ x f. f; down = λ x f. f }
  where
    into : {ts rest : List Lexeme} {x : Gathered} → Starred b g ts x rest → NextParameters b g (sign l (Operator (Plain Mul)) ∷ ts) x rest
    into (alone k) = one_next q a_bare_star k
    into (with_name k) = one_next q a_star k

    out : {ts rest : List Lexeme} {x : Gathered} → NextParameters b g (sign l (Operator (Plain Mul)) ∷ ts) x rest → ends_parameters b (next_of rest) ≡ true → Starred b g ts x rest
    out no_next s = absurd (not_both s (no_operator b (Plain Mul)))
    out (one_next q a_bare_star k) s = alone k
    out (one_next q a_star k) s = with_name k

pub bare_star_held : (d : ℕ) (g : Gathered) → allows_star g.stage ≡ true → Held d g → Held d (gathered g bare_star)
bare_star_held d g q held = held_more d g bare_star held q (omega (arith, held.fits.1)) (omega arith) (omega arith)

pub star_held : (d : ℕ) (g : Gathered) (p : NamedParameter) → allows_star g.stage ≡ true → number g < 4096 → Held d g → Held d (gathered g (star p))
star_held d g p q n held = held_more d g (star p) held q (omega arith) (omega arith) (omega arith)

-- no name is next
pub alone_carries : (b : Bool) (d : ℕ) (g : Gathered) (ts : List Lexeme) → NameNext (next_of ts) None → Carries (left (P.some_parameters b d) (Starred b g)) ts (more_parameters b d (gathered g bare_star)) ts
alone_carries b d g ts n = narrow_carries record { into = λ more x rest k. alone k; out = λ more x rest a k s. (out a k, s); stop = λ x o s. s; up = λ x f. f; down = λ x f. f }
  where
    out : {more rest : List Lexeme} {x : Gathered} → Alike more ts → Starred b g more x rest → MoreParameters b (gathered g bare_star) more x rest
    out a (alone k) = k
    out (inl e) (with_name {m = m} {x = x} k) = absurd (n m x (sym e))
    out (inr e) (with_name k) = cc

name_alone : (b : Bool) {g h : Gathered} {m : ℕ} {x : List ℕ} {ts rest : List Lexeme} → MoreParameters b g (name m x ∷ ts) h rest → ends_parameters b (next_of rest) ≡ true → ⊥
name_alone b parameters_end s = not_both s refl

pub name_shifts : (b : Bool) (d : ℕ) (g : Gathered) (m : ℕ) (x : List ℕ) → Shifts (name m x) (more_parameters b d (gathered g (star (named_parameter m x)))) (left (P.some_parameters b d) (Starred b g))
name_shifts b d g m x = record { intro = λ ts y rest k. with_name k; inv = λ ts y rest k s. (out k s, s); stop = λ y o s. s; up = λ y f. f; down = λ y f. f }
  where
    out : {ts rest : List Lexeme} {y : Gathered} → Starred b g (name m x ∷ ts) y rest → ends_parameters b (next_of rest) ≡ true → MoreParameters b (gathered g (star (named_parameter m x))) ts y rest
    out (alone k) s = absurd (name_alone b k s)
    out (with_name k) s = k

pub star_over : (b : Bool) (d : ℕ) (g : Gathered) (m : ℕ) (x : List ℕ) (ts : List Lexeme) → next_of ts ≡ Some (name m x) → Held d g → allows_star g.stage ≡ true → 4096 ≤ number g
    → Refused (left (P.some_parameters b d) (Starred b g)) true ts ts
star_over b d g m x ts e held q full =
    over_refused_at (left (P.some_parameters b d) (Starred b g)) (name m x) ts e (λ more x' rest' k s f. out k s f) [] (gathered g (star (named_parameter m x))) (λ z. with_name parameters_end)
    [] (gathered g bare_star) (bare_star_held d g q held).fits (λ z. alone parameters_end)
  where
    out : {more rest' : List Lexeme} {x' : Gathered} → Starred b g (name m x ∷ more) x' rest' → ends_parameters b (next_of rest') ≡ true → FitsParams d (params_of x') → ⊥
    out (alone k) s f = name_alone b k s
    out (with_name k) s f =
        let h = fits_one d g (star (named_parameter m x)) held.sound q (shrinks d (sound_more g (star (named_parameter m x)) held.sound q) k f) in
        omega (arith, h.0)

-- what follows `**`
pub data Doubled (b : Bool) (g : Gathered) : List Lexeme → Gathered → List Lexeme → Type 0 where
  doubled : {m : ℕ} {x : List ℕ} {ts rest : List Lexeme} {h : Gathered} → MoreParameters b (gathered g (double_star (named_parameter m x))) ts h rest → Doubled b g (name m x ∷ ts) h rest

pub double_bad : (b : Bool) (d : ℕ) (g : Gathered) (l : ℕ) (ts : List Lexeme) → next_of ts ≡ Some (sign l (Operator (Plain Pow))) → allows_double_star g.stage ≡ false → FitsParams d (params_of g)
    → Refused (next_parameters b d g) false ts ts
double_bad b d g l ts e n fits = next_bad b d g ts (ap (λ o. ends_parameters b o) e ∙ no_operator b (Plain Pow)) (λ p h q. out p (subst (λ o. BeginsWith o p) e h) q) fits
  where
    out : (p : OneParameter) → BeginsWith (Some (sign l (Operator (Plain Pow)))) p → is_allowed g p ≡ true → ⊥
    out (slash m) h q = h
    out (formal f) h q = h
    out bare_star h q = h
    out (star p) h q = h
    out (double_star p) h q = not_both q n

pub double_over : (b : Bool) (d : ℕ) (g : Gathered) (l : ℕ) (ts : List Lexeme) → next_of ts ≡ Some (sign l (Operator (Plain Pow))) → allows_double_star g.stage ≡ true → Held d g → 4096 ≤ number g
    → Refused (next_parameters b d g) true ts ts
double_over b d g l ts e q held full =
    next_over b d g (sign l (Operator (Plain Pow))) ts e (no_operator b (Plain Pow)) held (λ p h. one p h) full (some_name ∷ []) (double_star (named_parameter 0 [])) q (λ z. a_double_star)
  where
    one : (p : OneParameter) → BeginsWith (Some (sign l (Operator (Plain Pow)))) p → counted p ≡ 1
    one (slash m) h = absurd h
    one (formal f) h = absurd h
    one bare_star h = absurd h
    one (star p) h = absurd h
    one (double_star p) h = refl

pub double_shifts : (b : Bool) (d : ℕ) (g : Gathered) (l : ℕ) → allows_double_star g.stage ≡ true → Shifts (sign l (Operator (Plain Pow))) (left (P.some_parameters b d) (Doubled b g)) (next_parameters b d g)
double_shifts b d g l q = record { intro = λ ts x rest k. into k; inv = λ ts x rest k s. (out k s, s); stop = λ x o s. s; up = λ x f. f; down = λ x f. f }
  where
    into : {ts rest : List Lexeme} {x : Gathered} → Doubled b g ts x rest → NextParameters b g (sign l (Operator (Plain Pow)) ∷ ts) x rest
    into (doubled k) = one_next q a_double_star k

    out : {ts rest : List Lexeme} {x : Gathered} → NextParameters b g (sign l (Operator (Plain Pow)) ∷ ts) x rest → ends_parameters b (next_of rest) ≡ true → Doubled b g ts x rest
    out no_next s = absurd (not_both s (no_operator b (Plain Pow)))
    out (one_next q a_double_star k) s = doubled k

pub double_held : (d : ℕ) (g : Gathered) (p : NamedParameter) → allows_double_star g.stage ≡ true → number g < 4096 → Held d g → Held d (gathered g (double_star p))
double_held d g p q n held = held_more d g (double_star p) held q (omega arith) (omega arith) (omega arith)

pub doubled_bad : (b : Bool) (d : ℕ) (g : Gathered) (ts : List Lexeme) → NameNext (next_of ts) None → allows_double_star g.stage ≡ true → number g < 4096 → Held d g
    → Refused (left (P.some_parameters b d) (Doubled b g)) false ts ts
doubled_bad b d g ts n q few held =
    bad_refused (left (P.some_parameters b d) (Doubled b g)) ts (λ more a x' rest' k s. out a k) (some_name ∷ []) (gathered g (double_star (named_parameter 0 []))) (double_held d g (named_parameter 0 []) q few held).fits
    (λ z. doubled parameters_end)
  where
    out : {more rest' : List Lexeme} {x' : Gathered} → Alike more ts → Doubled b g more x' rest' → ⊥
    out (inl e) (doubled {m = m} {x = x} k) = n m x (sym e)
    out (inr e) (doubled k) = cc

pub doubled_shifts : (b : Bool) (d : ℕ) (g : Gathered) (m : ℕ) (x : List ℕ) → Shifts (name m x) (more_parameters b d (gathered g (double_star (named_parameter m x)))) (left (P.some_parameters b d) (Doubled b g))
doubled_shifts b d g m x = record { intro = λ ts y rest k. doubled k; inv = λ ts y rest k s. (out k, s); stop = λ y o s. s; up = λ y f. f; down = λ y f. f }
  where
    out : {ts rest : List Lexeme} {y : Gathered} → Doubled b g (name m x ∷ ts) y rest → MoreParameters b (gathered g (double_star (named_parameter m x))) ts y rest
    out (doubled k) = k

-- nothing begins here
pub nothing_begins : (next : Option Lexeme) → NameNext next None → sign_at next ≢ Some (Operator (Plain Div)) → sign_at next ≢ Some (Operator (Plain Mul)) → sign_at next ≢ Some (Operator (Plain Pow))
    → (p : OneParameter) → BeginsWith next p → ⊥
nothing_begins (Some (name l x)) n a b c (formal f) h = n l x refl
nothing_begins (Some (sign l (Operator (Plain Div)))) n a b c p h = a refl
nothing_begins (Some (sign l (Operator (Plain Mul)))) n a b c p h = b refl
nothing_begins (Some (sign l (Operator (Plain Pow)))) n a b c p h = c refl
nothing_begins _ n a b c p h = h
