-- Single tokens, and what need not be there.
use Rattle.std.proofs.Common.{◌≡◌, ◌≢◌, ℕ, List, [], ◌∷◌, ◌++◌, Option, Some, None, true, false, inl, inr, refl, sym, ◌∙◌, ap, subst}
use Rattle.pt_wide.specs.Syntax.{Exp, Opt, absent, given}
use Rattle.pt_readers.specs.Reading.{next_of, behind, Part, Alike, Found, Refused, Carries}
use Rattle.pt_readers.proofs.Readers.{Binds, Shifts, left, Just, nothing_found, bad_refused}
use Rattle.pt_readers.proofs.Exits.{found_at, at_next}
use Rattle.pt_readers.proofs.Pieces.{Made, made, made_binds}
use Rattle.pt_grammar.specs.declared.sign.Sign.{Sign}
use Rattle.pt_grammar.specs.Lexemes.{Lexeme, name, int, str, f_text, sign, unknown, sign_of, sign_at, line_at}
use Rattle.pt_parser.specs.Forms.{The, the, Identifier, identifier, Optional, left_out, written, a_sign, an_identifier, StopsOptional, FitsOptional, an_optional}

some_sign : {s : Sign} (t : Lexeme) → sign_of t ≡ Some s → Some t ≡ Some (sign (line_at (Some t)) s)
some_sign (sign l u) h = cc
some_sign (name l x) h = cc
some_sign (int l n) h = cc
some_sign (str l x) h = cc
some_sign (f_text l x) h = cc
some_sign (unknown l) h = cc

-- the next token, where it is this sign
pub sign_next : {s : Sign} (ts : List Lexeme) → sign_at (next_of ts) ≡ Some s → next_of ts ≡ Some (sign (line_at (next_of ts)) s)
sign_next [] h = cc
sign_next (t ∷ ts) h = some_sign t h

-- no list that looks the same begins with this sign
pub not_sign : {s : Sign} {more : List Lexeme} (ts : List Lexeme) → Alike more ts → sign_at (next_of ts) ≢ Some s → sign_at (next_of more) ≢ Some s
not_sign ts (inl e) n k = n (sym (ap sign_at e) ∙ k)
not_sign {s} ts (inr e) n k = let h : sign_at (next_of []) ≡ Some s = subst (λ u. sign_at (next_of u) ≡ Some s) e k in cc

pub sign_found : {s : Sign} {l : ℕ} {rest : List Lexeme} (ts : List Lexeme) → sign_at (next_of ts) ≡ Some s → l ≡ line_at (next_of ts) → rest ≡ behind ts → Found (a_sign s) ts l rest
sign_found {s} {l} {rest} ts h e k = subst (λ u. Found (a_sign s) ts u rest) (sym e) (subst (λ u. Found (a_sign s) ts (line_at (next_of ts)) u) (sym k)
    (found_at (at_next ts (sign_next ts h)) record { front = sign _ s ∷ []; whole = refl; reads = λ more. the refl; stops = tt; fits = tt; only = λ more a x' rest' i n. out i }))
  where
    out : {m x' : ℕ} {more rest' : List Lexeme} → The s (sign m s ∷ more) x' rest' → (x' ≡ m) × (rest' ≡ more)
    out (the e) = (refl, refl)

pub sign_bad : {s : Sign} (ts : List Lexeme) → sign_at (next_of ts) ≢ Some s → Refused (a_sign s) false ts ts
sign_bad {s} ts n = bad_refused (a_sign s) ts (λ more a x' rest' i k. out (not_sign _ a n) i) (sign 0 s ∷ []) 0 tt (λ z. the refl)
  where
    out : {x' : ℕ} {more rest' : List Lexeme} → sign_at (next_of more) ≢ Some s → The s more x' rest' → ⊥
    out m (the e) = m (ap (λ u. Some u) e)

pub identifier_found : {l : ℕ} {x : List ℕ} {rest : List Lexeme} (ts : List Lexeme) → next_of ts ≡ Some (name l x) → rest ≡ behind ts → Found an_identifier ts x rest
identifier_found {l} {x} {rest} ts h k = subst (λ u. Found an_identifier ts x u) (sym k)
    (found_at (at_next ts h) record { front = name l x ∷ []; whole = refl; reads = λ more. identifier; stops = tt; fits = tt; only = λ more a x' rest' i n. out i })
  where
    out : {y : List ℕ} {more rest' : List Lexeme} → Identifier (name l x ∷ more) y rest' → (y ≡ x) × (rest' ≡ more)
    out identifier = (refl, refl)

pub identifier_bad : (ts : List Lexeme) → ((l : ℕ) (x : List ℕ) → next_of ts ≢ Some (name l x)) → Refused an_identifier false ts ts
identifier_bad ts n = bad_refused an_identifier ts (λ more a x' rest' i k. out a i) (name 0 [] ∷ []) [] tt (λ z. identifier)
  where
    out : {x' : List ℕ} {more rest' : List Lexeme} → Alike more ts → Identifier more x' rest' → ⊥
    out (inl e) identifier = n _ _ (sym e)
    out (inr e) identifier = cc

module _ (s : Sign) (Q : Part Lexeme Exp) where
  pub left_out_found : (ts : List Lexeme) → sign_at (next_of ts) ≢ Some s → Found (an_optional s Q) ts absent ts
  left_out_found ts n = nothing_found (an_optional s Q) ts absent (λ more. left_out) n tt (λ more a x' rest' k m. out (not_sign _ a n) k)
    where
      out : {x' : Opt} {more rest' : List Lexeme} → sign_at (next_of more) ≢ Some s → Optional s Q.reads more x' rest' → (x' ≡ absent) × (rest' ≡ more)
      out m left_out = (refl, refl)
      out m (written e q) = absurd (m (ap (λ u. Some u) e))

  pub written_shifts : (l : ℕ) → Shifts (sign l s) (left (an_optional s Q) (Made Q given)) (an_optional s Q)
  written_shifts l = record { intro = λ ts x rest k. into k; inv = λ ts x rest k n. (out k n, n); stop = λ x o n. n; up = λ x f. f; down = λ x f. f }
    where
      into : {ts rest : List Lexeme} {x : Opt} → Made Q given ts x rest → Optional s Q.reads (sign l s ∷ ts) x rest
      into (made q) = written refl q

      out : {ts rest : List Lexeme} {x : Opt} → Optional s Q.reads (sign l s ∷ ts) x rest → StopsOptional s Q.stops x (next_of rest) → Made Q given ts x rest
      out left_out n = absurd (n refl)
      out (written e q) n = made q

  pub given_binds : Binds Q (λ e. Just (given e)) (left (an_optional s Q) (Made Q given))
  given_binds = made_binds (an_optional s Q) Q given (λ e o n. n) (λ e f. f) (λ e f. f)
