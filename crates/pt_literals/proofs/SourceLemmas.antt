-- The places of a text's characters, one after another.
use Rattle.std.proofs.Common.{◌≡◌, ℕ, suc, ◌+◌, ◌≤◌, ◌<◌, List, [], ◌∷◌, ◌++◌, Bool, true, false, refl, sym, ◌∙◌, ap, arith, length, drop, get_or, append_assoc, append-nil, length-append, add-one, encode_utf8, encode_utf8_all}
use Rattle.std.specs.Prelude.{if◌then◌else◌}
use Rattle.std.specs.Char.{len_utf8}
use Rattle.std.proofs.Math.Seq.{drop-cons}
use Rattle.std.proofs.lemmas.List.{drop_all}
use Rattle.std.proofs.lemmas.Str.{length-encode, length-le-encodes}
use Rattle.pt_literals.specs.declared.source.Spot.{Spot}
use Rattle.pt_literals.specs.declared.source.TextEnd.{TextEnd}
use Rattle.pt_literals.specs.Source.{begins_line, line_at, placed, end_behind}

-- the next character
pub next_char : (cs : List ℕ) (n m c : ℕ) → (n < length cs) × (c ≡ get_or cs n c) → m ≡ n + 1 → drop n cs ≡ c ∷ drop m cs
next_char cs n m c t e = drop-cons cs n c t.0 ∙ (ap (λ x. x ∷ drop (suc n) cs) (sym t.1) ∙ ap (λ k. c ∷ drop k cs) (sym (e ∙ add-one n)))

pub placed_more : (cs : List ℕ) (n m c at to line below before : ℕ) (spots new all : List Spot) → drop n cs ≡ c ∷ drop m cs → below ≡ line_at line before c → to ≡ at + len_utf8 c
    → new ≡ spots ++ record { at = at; line = record { 0 = below }; char = c } ∷ [] → spots ++ placed at line before (drop n cs) ≡ all → new ++ placed to below c (drop m cs) ≡ all
placed_more cs n m c at to line below before spots new all e l t k h =
    rw (k, append_assoc, t, l) (sym (ap (λ x. spots ++ placed at line before x) e) ∙ h)

pub end_more : (cs : List ℕ) (n m c at to line below before : ℕ) (all : Bool → TextEnd) → drop n cs ≡ c ∷ drop m cs → below ≡ line_at line before c → to ≡ at + len_utf8 c
    → ((whole : Bool) → end_behind at line before (drop n cs) whole ≡ all whole) → (whole : Bool) → end_behind to below c (drop m cs) whole ≡ all whole
end_more cs n m c at to line below before all e l t h whole = rw (t, l) (sym (ap (λ x. end_behind at line before x whole) e) ∙ h whole)

pub at_more : (cs : List ℕ) (n m c at to total : ℕ) → drop n cs ≡ c ∷ drop m cs → to ≡ at + len_utf8 c → at + length (encode_utf8_all (drop n cs)) ≡ total → to + length (encode_utf8_all (drop m cs)) ≡ total
at_more cs n m c at to total e t h =
    let l : length (encode_utf8_all (drop n cs)) ≡ len_utf8 c + length (encode_utf8_all (drop m cs)) =
    ap (λ x. length (encode_utf8_all x)) e ∙ (length-append (encode_utf8 c) (encode_utf8_all (drop m cs)) ∙ ap (λ x. x + length (encode_utf8_all (drop m cs))) (length-encode c)) in
    omega arith

one_at_most : (b : Bool) (line : ℕ) → (if b then line + 1 else line) ≤ line + 1
one_at_most true line = omega arith
one_at_most false line = omega arith

pub line_near : (line before c : ℕ) → line_at line before c ≤ line + 1
line_near line before c = one_at_most (begins_line before c) line

pub few_chars : (cs : List ℕ) (text : List ℕ) → encode_utf8_all cs ≡ text → length cs ≤ length text
few_chars cs text e = let h = length-le-encodes cs in let k = ap length e in omega arith

pub all_placed : (cs : List ℕ) (n at line before : ℕ) (spots all : List Spot) → n ≡ length cs → spots ++ placed at line before (drop n cs) ≡ all → spots ≡ all
all_placed cs n at line before spots all e h = sym (append-nil spots) ∙ (sym (ap (λ x. spots ++ placed at line before x) (drop_all n cs (omega arith))) ∙ h)

pub end_placed : (cs : List ℕ) (n at line below before : ℕ) (whole : Bool) (all : TextEnd) → n ≡ length cs → below ≡ line_at line before 0 → end_behind at line before (drop n cs) whole ≡ all
    → record { at = at; line = record { 0 = below }; is_whole = whole } ≡ all
end_placed cs n at line below before whole all e l h =
    ap (λ x. record { at = at; line = record { 0 = x }; is_whole = whole }) l ∙ (sym (ap (λ x. end_behind at line before x whole) (drop_all n cs (omega arith))) ∙ h)

pub length-placed : (at line before : ℕ) (cs : List ℕ) → length (placed at line before cs) ≡ length cs
length-placed at line before [] = refl
length-placed at line before (c ∷ cs) = ap suc (length-placed (at + len_utf8 c) (line_at line before c) c cs)
