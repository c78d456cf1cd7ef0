-- What stands in the parentheses of a class: its arguments, and what comes before their ")".
use Rattle.std.proofs.Common.{◌≡◌, ◌↔◌, ℕ, ◌-◌, List, [], ◌∷◌, ◌++◌, Option, Some, Bool, true, false, IsTrue, refl, sym, ◌∙◌, ap, subst, arith, append_assoc, length, take, drop, length-append}
use Rattle.std.proofs.Math.Seq.{take-append_seam}
use Rattle.std.proofs.lemmas.List.{length-map, take-map, drop-map}
use Rattle.pt_literals.specs.declared.token.Token.{Token}
use Rattle.pt_wide.specs.Syntax.{Args}
use Rattle.pt_readers.specs.declared.halt.Halt.{Halt}
use Rattle.pt_readers.specs.declared.halt.Halt.TheVariants.{Unexpected, Limit, Memory}
use Rattle.pt_readers.specs.Reading.{next_of, Found, Refused, Within}
use Rattle.pt_readers.specs.Settled.{Fails}
use Rattle.pt_grammar.specs.declared.sign.Sign.{Sign}
use Rattle.pt_grammar.specs.declared.sign.Sign.TheVariants.{Mark as mark}
use Rattle.pt_grammar.specs.declared.sign.Mark.TheVariants.{Comma}
use Rattle.pt_grammar.specs.Lexemes.{Lexeme, lexeme_of, lexemes, sign_at}
use Rattle.pt_parser.specs.Headings.{argument_list, OneBases, bases_of, is_comma, comma_before_last, tokens_before, BehindOpen, behind_open}
use Rattle.pt_parser.specs.Parts.{some_bases}

pub tokens_in_front : (front more : List Lexeme) → tokens_before (front ++ more) more ≡ front
tokens_in_front front more =
    let n : length (front ++ more) - length more ≡ length front = omega (arith, length-append front more) in
    ap (λ k. take k (front ++ more)) n ∙ take-append_seam front more

-- a comma, as the code tells it
comma_told : (o : Option Sign) (b : Bool) → IsTrue b ↔ (o ≡ Some (mark Comma)) → b ≡ is_comma o
comma_told (Some (mark Comma)) true e = refl
comma_told (Some (mark Comma)) false e = let k = e.1 refl in cc
comma_told o true e = let k = e.0 refl in cc
comma_told o false e = refl

pub last_told : (tokens : List Token) (at : ℕ) (ts : List Lexeme) (b : Bool) → at ≡ length tokens - 2 → ts ≡ lexemes (drop at tokens)
    → IsTrue b ↔ (sign_at (next_of ts) ≡ Some (mark Comma)) → b ≡ comma_before_last (lexemes tokens)
last_told tokens at ts b h k e =
    let n : at ≡ length (lexemes tokens) - 2 = h ∙ ap (λ n. n - 2) (sym (length-map tokens lexeme_of)) in
    let same : ts ≡ drop (length (lexemes tokens) - 2) (lexemes tokens) = k ∙ sym (drop-map lexeme_of at tokens) ∙ ap (λ n. drop n (lexemes tokens)) n in
    comma_told (sign_at (next_of ts)) b e ∙ ap (λ u. is_comma (sign_at (next_of u))) same

-- the tokens that a reader went past, where so many are left
pub passed_tokens : (tokens : List Token) (ts rest : List Lexeme) (left : ℕ) → lexemes tokens ≡ ts → left ≡ length rest
    → lexemes (take (length tokens - left) tokens) ≡ tokens_before ts rest
passed_tokens tokens ts rest left h k =
    let n : length tokens - left ≡ length (lexemes tokens) - length rest = ap (λ m. length tokens - m) k ∙ ap (λ m. m - length rest) (sym (length-map tokens lexeme_of)) in
    sym (take-map lexeme_of (length tokens - left) tokens) ∙ ap (λ m. take m (lexemes tokens)) n ∙ ap (λ u. take (length u - length rest) u) h

-- the arguments, with the comma that these tokens say
abbrev pub bases_at : List Lexeme → Args → OneBases
bases_at front args = bases_of args (comma_before_last front)

bases_read : (front more : List Lexeme) (args : Args) → argument_list.reads (front ++ more) args more → BehindOpen (front ++ more) (bases_at front args) more
bases_read front more args q = subst (λ u. BehindOpen (front ++ more) (bases_at u args) more) (tokens_in_front front more) (behind_open q)

bases_out : {ts rest : List Lexeme} {b : OneBases} → BehindOpen ts b rest → argument_list.reads ts b.arguments rest × (b ≡ bases_at (tokens_before ts rest) b.arguments)
bases_out (behind_open q) = (q, refl)

bases_found : (ts rest : List Lexeme) (args : Args) → Found argument_list ts args rest → Found some_bases ts (bases_at (tokens_before ts rest) args) rest
bases_found ts rest args f = record {
  front = f.front;
  whole = f.whole;
  reads = λ more. subst (λ u. BehindOpen (f.front ++ more) (bases_at u args) more) same (bases_read f.front more args (f.reads more));
  stops = tt;
  fits = f.fits;
  only = λ more h b' rest' k s.
      let i = bases_out k in
      let o = f.only more h b'.arguments rest' i.0 tt in
      (i.1 ∙ ap (λ u. bases_at (tokens_before (f.front ++ more) u) b'.arguments) o.1 ∙ ap (λ u. bases_at u b'.arguments) (tokens_in_front f.front more ∙ same) ∙ ap (λ a. bases_at (tokens_before ts rest) a) o.0, o.1);
}
  where
    same : f.front ≡ tokens_before ts rest
    same = sym (tokens_in_front f.front rest) ∙ ap (λ u. tokens_before u rest) (sym f.whole)

pub bases_told : {ts rest : List Lexeme} {args : Args} (b : Bool) → b ≡ comma_before_last (tokens_before ts rest) → Found argument_list ts args rest → Found some_bases ts (bases_of args b) rest
bases_told {ts} {rest} {args} b h f = subst (λ u. Found some_bases ts (bases_of args u) rest) (sym h) (bases_found ts rest args f)

within_bases : (over : Bool) (b : OneBases) → Within some_bases.fits over b → Within argument_list.fits over b.arguments
within_bases true b w = w
within_bases false b w = tt

bases_refused : (over : Bool) (ts rest : List Lexeme) → Refused argument_list over ts rest → Refused some_bases over ts rest
bases_refused over ts rest f = record {
  front = f.front;
  whole = f.whole;
  dead = λ more h b' rest' k s w. f.dead more h b'.arguments rest' (bases_out k).0 tt (within_bases over b' w);
  beyond = λ o.
      let v = f.beyond o in
      (v.0, v.1, v.2, bases_at (f.front ++ (v.0 ∷ v.1)) v.3, λ z. joined (v.0 ∷ v.1) v.3 z (v.4 z));
  completion = f.completion;
  completed = bases_at (f.front ++ f.completion) f.completed;
  fits = f.fits;
  completes = λ z. joined f.completion f.completed z (f.completes z);
}
  where
    joined : (w : List Lexeme) (args : Args) (z : List Lexeme) → argument_list.reads (f.front ++ (w ++ z)) args z → BehindOpen (f.front ++ (w ++ z)) (bases_at (f.front ++ w) args) z
    joined w args z q =
        let e : (f.front ++ w) ++ z ≡ f.front ++ (w ++ z) = append_assoc f.front w z in
        subst (λ u. BehindOpen u (bases_at (f.front ++ w) args) z) e (bases_read (f.front ++ w) z args (subst (λ u. argument_list.reads u args z) (sym e) q))

pub bases_fail : (ts rest : List Lexeme) (e : Halt) → Fails argument_list ts rest e → Fails some_bases ts rest e
bases_fail ts rest Unexpected f = bases_refused false ts rest f
bases_fail ts rest Limit f = bases_refused true ts rest f
bases_fail ts rest Memory f = tt
