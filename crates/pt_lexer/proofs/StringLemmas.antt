-- Parts of strings, piece by piece.
use Rattle.std.proofs.Common.{◌≡◌, ℕ, ◌<◌, List, [], ◌∷◌, ◌++◌, Some, None, refl, sym, ◌∙◌, ap, subst, length, append_assoc, append-nil, encode_utf8_all}
use Rattle.std.proofs.lemmas.Str.{encodes-append}
use Rattle.pt_literals.specs.declared.modes.Part.{Part}
use Rattle.pt_literals.specs.declared.source.Spot.{Spot}
use Rattle.pt_literals.specs.declared.source.TextEnd.{TextEnd}
use Rattle.pt_literals.specs.declared.strings.Chars.{Chars}
use Rattle.pt_literals.specs.declared.token.LexErr.{LexErr}
use Rattle.pt_literals.specs.Strings.{listed, takes, fails, piece, ends, Inside, closed, more}
use Rattle.pt_lexer.specs.Faults.{broken_off, InsideFails, at_text_end, here, behind}
use Rattle.pt_lexer.specs.Progress.{StringRead, InString, EndsInside, IsSpoilt}
use Rattle.pt_lexer.proofs.LiteralLemmas.{piece_behind, behind_shorter}

pub string_read : {end : TextEnd} {p : Part} {text rest ss after : List Spot} {s : Spot} {value x : List ℕ} → InString end p text rest value → rest ≡ s ∷ ss → ends p s ss ≡ Some after → x ≡ value → StringRead p text x after
string_read {p = p} {after = after} i r c e = record {
  chars = i.front;
  written = e ∙ i.written;
  inside = rw append-nil at (i.reads [] after (subst (λ y. Inside p y [] after) (sym r) (closed c)));
}

pub string_ends : {end : TextEnd} {p : Part} {text rest : List Spot} {value : List ℕ} → InString end p text rest value → rest ≡ [] → EndsInside end p text
string_ends {end} {p} {text} {rest} i r line = i.fails line (broken_off end line) end.at (subst (λ x. InsideFails end line p x (broken_off end line) end.at) (sym r) at_text_end)

pub string_spoilt : {end : TextEnd} {p : Part} {text rest ss : List Spot} {s : Spot} {value : List ℕ} (e : LexErr) → InString end p text rest value → rest ≡ s ∷ ss → ends p s ss ≡ None → piece p s ss ≡ fails e
    → IsSpoilt end p text e
string_spoilt {end} {p} {text} {rest} {ss} {s} e i r c q = (s.at, λ line. i.fails line e s.at (subst (λ x. InsideFails end line p x e s.at) (sym r) (here c q)))

pub string_more : {end : TextEnd} {p : Part} {text rest ss mid : List Spot} {s : Spot} {value new : List ℕ} {cs : Chars} → InString end p text rest value → rest ≡ s ∷ ss → ends p s ss ≡ None → piece p s ss ≡ takes cs mid
    → new ≡ value ++ encode_utf8_all (listed cs) → InString end p text mid new
string_more {end} {p} {text} {rest} {ss} {mid} {s} {value} {new} {cs} i r c q e = record {
  front = i.front ++ listed cs;
  written = e ∙ (ap (λ x. x ++ encode_utf8_all (listed cs)) i.written ∙ sym (encodes-append i.front (listed cs)));
  reads = λ vs rest' j. rw append_assoc (i.reads (listed cs ++ vs) rest' (subst (λ x. Inside p x (listed cs ++ vs) rest') (sym r) (more c q j refl)));
  fails = λ line f at j. i.fails line f at (subst (λ x. InsideFails end line p x f at) (sym r) (behind c q j));
}

pub string_shorter : {rest ss mid : List Spot} {s : Spot} {cs : Chars} (p : Part) → rest ≡ s ∷ ss → piece p s ss ≡ takes cs mid → length mid < length rest
string_shorter {rest} {ss} {mid} {s} p r q = subst (λ x. length mid < length x) (sym r) (behind_shorter (piece_behind p s ss q))
