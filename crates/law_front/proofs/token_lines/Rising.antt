-- Lines that rise from a line on rise from each earlier one, and so do those behind a token.
use Rattle.std.proofs.Common.{◌≡◌, ℕ, suc, ◌≤◌, Bool, true, false, List, [], ◌∷◌, refl, sym, ap, ◌∙◌, subst, arith, if◌then◌else◌}
use Rattle.std.proofs.lemmas.Bool.{true≢false}
use Rattle.pt_grammar.specs.Lexemes.{Lexeme, line_of_lexeme}
use Rattle.law_front.specs.token_lines.Rising.{is_between, is_newline, LinesRise}

pub earlier_rise : {b c : ℕ} (ts : List Lexeme) → b ≤ c → LinesRise c ts → LinesRise b ts
earlier_rise [] h r = tt
earlier_rise {b} {c} (t ∷ ts) h r = by (is_between t) refl (λ g. earlier_rise ts h g)
  where
    by : (x : Bool) → is_between t ≡ x → (LinesRise c ts → LinesRise b ts) → LinesRise b (t ∷ ts)
    by true e f = (
      λ g. absurd (true≢false (sym e ∙ g)),
      subst (λ n. LinesRise n ts) (sym (ap (λ x. if x then b else if is_newline t then suc (line_of_lexeme t) else line_of_lexeme t) e))
          (f (subst (λ n. LinesRise n ts) (ap (λ x. if x then c else if is_newline t then suc (line_of_lexeme t) else line_of_lexeme t) e) r.1)),
    )
    by false e f = (
      λ g. (let k = r.0 g in omega (arith, h, k)),
      subst (λ n. LinesRise n ts) (ap (λ x. if x then c else if is_newline t then suc (line_of_lexeme t) else line_of_lexeme t) e
          ∙ sym (ap (λ x. if x then b else if is_newline t then suc (line_of_lexeme t) else line_of_lexeme t) e)) r.1,
    )

first_rise : {b : ℕ} (t : Lexeme) (ts : List Lexeme) → is_between t ≡ false → LinesRise b (t ∷ ts) → LinesRise (line_of_lexeme t) ts
first_rise {b} t ts e r = by (is_newline t) refl
  where
    by : (x : Bool) → is_newline t ≡ x → LinesRise (line_of_lexeme t) ts
    by true f = earlier_rise ts (omega arith)
        (subst (λ n. LinesRise n ts) (ap (λ x. if x then b else if is_newline t then suc (line_of_lexeme t) else line_of_lexeme t) e
        ∙ ap (λ x. if x then suc (line_of_lexeme t) else line_of_lexeme t) f) r.1)
    by false f =
        subst (λ n. LinesRise n ts) (ap (λ x. if x then b else if is_newline t then suc (line_of_lexeme t) else line_of_lexeme t) e
        ∙ ap (λ x. if x then suc (line_of_lexeme t) else line_of_lexeme t) f) r.1

tail_rise : {b : ℕ} (t : Lexeme) (ts : List Lexeme) → LinesRise b (t ∷ ts) → LinesRise b ts
tail_rise {b} t ts r = by (is_between t) refl
  where
    by : (x : Bool) → is_between t ≡ x → LinesRise b ts
    by true e = subst (λ n. LinesRise n ts) (ap (λ x. if x then b else if is_newline t then suc (line_of_lexeme t) else line_of_lexeme t) e) r.1
    by false e = earlier_rise ts (r.0 e) (first_rise t ts e r)

-- the same, of tokens from a line on
pub record Rises (least : ℕ) (ts : List Lexeme) : Type 0 where
  pub rise : LinesRise least ts

pub earlier : {b c : ℕ} {ts : List Lexeme} → b ≤ c → Rises c ts → Rises b ts
earlier {ts = ts} h r = record { rise = earlier_rise ts h r.rise }

-- behind a token that isn't between lines
pub first : {b : ℕ} {t : Lexeme} {ts : List Lexeme} → is_between t ≡ false → Rises b (t ∷ ts) → (b ≤ line_of_lexeme t) × Rises (line_of_lexeme t) ts
first {t = t} {ts = ts} e r = (r.rise.0 e, record { rise = first_rise t ts e r.rise })

pub tail : {b : ℕ} {t : Lexeme} {ts : List Lexeme} → Rises b (t ∷ ts) → Rises b ts
tail {t = t} {ts = ts} r = record { rise = tail_rise t ts r.rise }
