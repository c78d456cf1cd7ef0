-- Blocks and whole codes are read as they are spelled.
use Rattle.std.proofs.Common.{◌≡◌, ℕ, suc, ◌-◌, ◌<◌, true, false, cond, List, [], ◌∷◌, ◌++◌, length, Ok, Err, refl, sym, ap, subst, ◌∙◌, append_assoc, append-nil, arith}
use Rattle.std.specs.Prelude.{nat_lt, nat_le, nat_eq}
use Rattle.std.specs.List.{flat_map, AllByRecursion}
use Rattle.std.proofs.lemmas.Bool.{eqb-true}
use Rattle.std.proofs.lemmas.Bool.Decides.{nat_tests}
use Rattle.std.proofs.lemmas.List.{nil_from_length}
use Rattle.std.proofs.lemmas.List.Concat.{flat_map-cons}
use Rattle.pt_ranges.specs.declared.lines.ActMark.{ActMark}
use Rattle.pt_ranges.specs.declared.handlers.Handler.{Handler}
use Rattle.pt_instr.specs.declared.TextNo.{TextNo}
use Rattle.pt_code.specs.declared.Const.{Const}
use Rattle.pt_code.specs.declared.BlockKind.{BlockKind}
use Rattle.pt_code.specs.declared.Rest.{Rest}
use Rattle.pt_code.specs.declared.Start.{Start}
use Rattle.pt_code.specs.declared.CodeBlock.{CodeBlock}
use Rattle.pt_code.specs.declared.Code.{Code}
use Rattle.pt_code.specs.declared.parts.Bad.TheVariants as bad
use Rattle.pt_code.specs.declared.parts.Within.{Within}
use Rattle.pt_code.specs.declared.parts.Signature.{Signature}
use Rattle.pt_code.specs.declared.parts.Names.{Names}
use Rattle.pt_code.specs.declared.parts.Tables.{Tables}
use Rattle.pt_code.specs.File.{number, listed, text, constant, kind_byte, flags, named, mark, handler, start, signature_of, names_of, tables_of, signature, names, tables, block, magic, file, IsNumber, IsBelow, AreListed, IsText, NamesText, IsConstant, IsMark, IsHandler, IsStart, stands_first, may_count, parameter_count, may_be_free, IsSignature, AreNames, AreInstructions, AreTables, naming, IsBlock, inside, AreBlocks, HasFile}
use Rattle.pt_code.specs.Reading.{Read, ◌>>=◌, both, kept, number_at, below_at, byte_at, list_at, counted_at, items_at, text_at, name_at, const_at, kind_at, rest_at, mark_at, handler_at, start_at, signature_at, names_at, tables_at, instructions_at, block_at, blocks_at, fields_at, behind_byte, behind_version, behind_magic, code_of}
use Rattle.pt_code.proofs.Codecs.{AreBytes, Takes, takes_then, bind_ok, guard_ok, ok_is, IsCodec, both_codec, made_codec, kept_codec, list_codec, counted_codec as counted_list_codec, items_codec, number_codec, below_codec, text_codec}
use Rattle.pt_code.proofs.FieldLaws.{number_then, name_codec, constant_codec, kind_codec, rest_codec, mark_codec, handler_codec, start_codec}
use Rattle.pt_code.proofs.InstructionLaws.{instructions_codec, size_codec}

count_codec : (kind : BlockKind) → IsCodec (λ n. IsNumber n × (may_count kind n ≡ true)) number (kept (may_count kind) number_at)
count_codec kind = kept_codec IsNumber number (may_count kind) number_at number_codec

abbrev Taken : BlockKind → Rest × ℕ → Type 0
Taken kind p = (Unit {0} × (may_count kind (flags p.0) ≡ true)) × (IsNumber p.1 × (may_count kind p.1 ≡ true))

abbrev taken : Rest × ℕ → List ℕ
taken p = (flags p.0 ∷ []) ++ number p.1

abbrev taken_at : BlockKind → List ℕ → Read (Rest × ℕ)
taken_at kind = both (kept (λ r. may_count kind (flags r)) rest_at) λ _. kept (may_count kind) number_at

taken_codec : (kind : BlockKind) → IsCodec (Taken kind) taken (taken_at kind)
taken_codec kind =
    both_codec (λ r. Unit {0} × (may_count kind (flags r) ≡ true)) (λ _ n. IsNumber n × (may_count kind n ≡ true)) (λ r. flags r ∷ []) number (kept (λ r. may_count kind (flags r)) rest_at) (λ _. kept (may_count kind) number_at)
    (kept_codec (λ _. Unit {0}) (λ r. flags r ∷ []) (λ r. may_count kind (flags r)) rest_at rest_codec) (λ _ _. count_codec kind)

abbrev Counted : BlockKind → ℕ × (Rest × ℕ) → Type 0
Counted kind p = (IsNumber p.0 × (may_count kind p.0 ≡ true)) × Taken kind p.1

counted_codec : (kind : BlockKind) → IsCodec (Counted kind) (λ p. number p.0 ++ taken p.1) (both (kept (may_count kind) number_at) λ _. taken_at kind)
counted_codec kind =
    both_codec (λ n. IsNumber n × (may_count kind n ≡ true)) (λ _. Taken kind) number taken (kept (may_count kind) number_at) (λ _. taken_at kind) (count_codec kind) (λ _ _. taken_codec kind)

abbrev kinded_at : Within → List ℕ → Read (BlockKind × (ℕ × (ℕ × (Rest × ℕ))))
kinded_at within = both (kept (stands_first within.first) kind_at) λ kind. both number_at λ _. both (kept (may_count kind) number_at) λ _. taken_at kind

abbrev Kinded : Within → BlockKind × (ℕ × (ℕ × (Rest × ℕ))) → Type 0
Kinded within p = (Unit {0} × (stands_first within.first p.0 ≡ true)) × (IsNumber p.1.0 × Counted p.0 p.1.1)

abbrev kinded : BlockKind × (ℕ × (ℕ × (Rest × ℕ))) → List ℕ
kinded p = (kind_byte p.0 ∷ []) ++ (number p.1.0 ++ (number p.1.1.0 ++ taken p.1.1.1))

kinded_codec : (within : Within) → IsCodec (Kinded within) kinded (kinded_at within)
kinded_codec within =
    both_codec (λ k. Unit {0} × (stands_first within.first k ≡ true)) (λ k p. IsNumber p.0 × Counted k p.1) (λ k. kind_byte k ∷ []) (λ p. number p.0 ++ (number p.1.0 ++ taken p.1.1))
    (kept (stands_first within.first) kind_at) (λ kind. both number_at λ _. both (kept (may_count kind) number_at) λ _. taken_at kind)
    (kept_codec (λ _. Unit {0}) (λ k. kind_byte k ∷ []) (stands_first within.first) kind_at kind_codec)
    (λ kind _. number_then (Counted kind) (λ p. number p.0 ++ taken p.1) (both (kept (may_count kind) number_at) λ _. taken_at kind) (counted_codec kind))

abbrev spell_signature : Signature → List ℕ
spell_signature s = named s.name ++ ((kind_byte s.kind ∷ []) ++ (number s.first_line.0 ++ (number s.parameters ++ ((flags s.rest ∷ []) ++ number s.keyword_only))))

signature_codec : (within : Within) → IsCodec (IsSignature within) spell_signature (signature_at within)
unfolding signature_at
signature_codec within =
    made_codec {A = TextNo × (BlockKind × (ℕ × (ℕ × (Rest × ℕ))))} {B = Signature} (λ p. NamesText within.texts p.0 × Kinded within p.1) (λ p. named p.0 ++ kinded p.1)
    (λ s. record { name = s.0; kind = s.1.0; first_line = record { 0 = s.1.1.0 }; parameters = s.1.1.1.0; rest = s.1.1.1.1.0; keyword_only = s.1.1.1.1.1 })
    (λ s. (s.name, (s.kind, (s.first_line.0, (s.parameters, (s.rest, s.keyword_only))))))
    (both (name_at within.texts) λ _. kinded_at within) (λ s. refl) (λ p. refl)
    (both_codec (NamesText within.texts) (λ _. Kinded within) named kinded (name_at within.texts) (λ _. kinded_at within) (name_codec within.texts) (λ _ _. kinded_codec within))

texts_codec : (texts : ℕ) → IsCodec (AreListed (NamesText texts)) (listed named) (list_at (name_at texts))
texts_codec texts = list_codec (NamesText texts) named (name_at texts) (name_codec texts)

abbrev spell_names : Names → List ℕ
spell_names n = listed named n.locals ++ (listed named n.cells ++ listed named n.free)

names_codec : (within : Within) (s : Signature) → IsCodec (AreNames within s) spell_names (names_at within s)
unfolding names_at
names_codec within s =
    made_codec {A = List TextNo × (List TextNo × List TextNo)} {B = Names}
    (λ p. (AreListed (NamesText within.texts) p.0 × (nat_le (parameter_count s) (length p.0) ≡ true)) × (AreListed (NamesText within.texts) p.1.0 × (AreListed (NamesText within.texts) p.1.1 × (may_be_free s.kind (length p.1.1) ≡ true))))
    (λ p. listed named p.0 ++ (listed named p.1.0 ++ listed named p.1.1))
    (λ n. record { locals = n.0; cells = n.1.0; free = n.1.1 }) (λ n. (n.locals, (n.cells, n.free)))
    (both (counted_at (nat_le (parameter_count s)) (name_at within.texts)) λ _. both (list_at (name_at within.texts)) λ _. counted_at (may_be_free s.kind) (name_at within.texts)) (λ n. refl) (λ p. refl)
    (both_codec (λ l. AreListed (NamesText within.texts) l × (nat_le (parameter_count s) (length l) ≡ true)) (λ _ p. AreListed (NamesText within.texts) p.0 × (AreListed (NamesText within.texts) p.1 × (may_be_free s.kind (length p.1) ≡ true)))
    (listed named) (λ p. listed named p.0 ++ listed named p.1) (counted_at (nat_le (parameter_count s)) (name_at within.texts)) (λ _. both (list_at (name_at within.texts)) λ _. counted_at (may_be_free s.kind) (name_at within.texts))
    (counted_list_codec (NamesText within.texts) named (name_at within.texts) (nat_le (parameter_count s)) (name_codec within.texts))
    (λ _ _. both_codec (AreListed (NamesText within.texts)) (λ _ l. AreListed (NamesText within.texts) l × (may_be_free s.kind (length l) ≡ true)) (listed named) (listed named) (list_at (name_at within.texts)) (λ _. counted_at (may_be_free s.kind) (name_at within.texts))
    (texts_codec within.texts) (λ _ _. counted_list_codec (NamesText within.texts) named (name_at within.texts) (may_be_free s.kind) (name_codec within.texts))))

abbrev spell_tables : Tables → List ℕ
spell_tables t = listed mark t.marks ++ (listed handler t.handlers ++ listed start t.starts)

tables_codec : IsCodec AreTables spell_tables tables_at
unfolding tables_at
tables_codec =
    made_codec {A = List ActMark × (List Handler × List Start)} {B = Tables} (λ p. AreListed IsMark p.0 × (AreListed IsHandler p.1.0 × AreListed IsStart p.1.1)) (λ p. listed mark p.0 ++ (listed handler p.1.0 ++ listed start p.1.1))
    (λ t. record { marks = t.0; handlers = t.1.0; starts = t.1.1 }) (λ t. (t.marks, (t.handlers, t.starts)))
    (both (list_at mark_at) λ _. both (list_at handler_at) λ _. list_at start_at) (λ t. refl) (λ p. refl)
    (both_codec (AreListed IsMark) (λ _ p. AreListed IsHandler p.0 × AreListed IsStart p.1) (listed mark) (λ p. listed handler p.0 ++ listed start p.1) (list_at mark_at) (λ _. both (list_at handler_at) λ _. list_at start_at)
    (list_codec IsMark mark mark_at mark_codec)
    (λ _ _. both_codec (AreListed IsHandler) (λ _. AreListed IsStart) (listed handler) (listed start) (list_at handler_at) (λ _. list_at start_at) (list_codec IsHandler handler handler_at handler_codec) (λ _ _. list_codec IsStart start start_at start_codec)))

pub block_codec : (within : Within) → IsCodec (IsBlock within) block (block_at within)
unfolding block_at block signature names tables
block_codec within =
    made_codec {A = Signature × (Names × (List ℕ × Tables))} {B = CodeBlock}
    (λ p. IsSignature within p.0 × (AreNames within p.0 p.1.0 × (AreInstructions (naming within p.1.0) p.1.1.0 × AreTables p.1.1.1)))
    (λ p. spell_signature p.0 ++ (spell_names p.1.0 ++ (text p.1.1.0 ++ spell_tables p.1.1.1)))
    (λ b. record { name = b.0.name; kind = b.0.kind; first_line = b.0.first_line; parameters = b.0.parameters; rest = b.0.rest; keyword_only = b.0.keyword_only; locals = b.1.0.locals; cells = b.1.0.cells; free = b.1.0.free; instructions = b.1.1.0; marks = b.1.1.1.marks; handlers = b.1.1.1.handlers; starts = b.1.1.1.starts })
    (λ b. (signature_of b, (names_of b, (b.instructions, tables_of b))))
    (both (signature_at within) λ s. both (names_at within s) λ n. both (instructions_at (naming within n)) λ _. tables_at) (λ b. refl) (λ p. refl)
    (both_codec (IsSignature within) (λ s p. AreNames within s p.0 × (AreInstructions (naming within p.0) p.1.0 × AreTables p.1.1)) spell_signature (λ p. spell_names p.0 ++ (text p.1.0 ++ spell_tables p.1.1))
    (signature_at within) (λ s. both (names_at within s) λ n. both (instructions_at (naming within n)) λ _. tables_at) (signature_codec within)
    (λ s _. both_codec (AreNames within s) (λ n p. AreInstructions (naming within n) p.0 × AreTables p.1) spell_names (λ p. text p.0 ++ spell_tables p.1) (names_at within s) (λ n. both (instructions_at (naming within n)) λ _. tables_at) (names_codec within s)
    (λ n _. both_codec (AreInstructions (naming within n)) (λ _. AreTables) text spell_tables (instructions_at (naming within n)) (λ _. tables_at) (instructions_codec (naming within n)) (λ _ _. tables_codec))))

above_zero : (n : ℕ) → nat_lt 0 n ≡ true → 0 < n
above_zero n e = grind (arith, nat_tests)

one_less : (n : ℕ) → suc n - 1 ≡ n
one_less n = omega arith

is_above : (n : ℕ) → nat_lt 0 (suc n) ≡ true
is_above n = grind (arith, nat_tests)

blocks_take : (texts constants lists : ℕ) (bytes : List ℕ) (x : List CodeBlock) (rest : List ℕ) → AreBytes bytes → blocks_at texts constants lists bytes ≡ Ok (x, rest) → Takes bytes (listed block x) rest × AreBlocks texts constants lists x
unfolding blocks_at
blocks_take texts constants lists bytes x rest fits e =
    let a = bind_ok (kept (nat_lt 0) number_at bytes) (λ count. block_at (inside texts constants lists count.0 true) count.1 >>= λ first. items_at (block_at (inside texts constants lists count.0 false)) (count.0 - 1) first.1 >>= λ more. Ok (first.0 ∷ more.0, more.1)) (x, rest) e in
    let b = bind_ok (block_at (inside texts constants lists a.0.0 true) a.0.1) (λ first. items_at (block_at (inside texts constants lists a.0.0 false)) (a.0.0 - 1) first.1 >>= λ more. Ok (first.0 ∷ more.0, more.1)) (x, rest) a.2 in
    let c = bind_ok (items_at (block_at (inside texts constants lists a.0.0 false)) (a.0.0 - 1) b.0.1) (λ more. Ok (b.0.0 ∷ more.0, more.1)) (x, rest) b.2 in
    let one = size_codec.takes bytes a.0.0 a.0.1 fits a.1 in
    let two = (block_codec (inside texts constants lists a.0.0 true)).takes a.0.1 b.0.0 b.0.1 one.0.rest_fits b.1 in
    let three = (items_codec (IsBlock (inside texts constants lists a.0.0 false)) block (block_at (inside texts constants lists a.0.0 false)) (block_codec (inside texts constants lists a.0.0 false)) (a.0.0 - 1)).takes b.0.1 c.0.0 c.0.1 two.0.rest_fits c.1 in
    let some = above_zero a.0.0 one.1.1 in
    let len : suc (length c.0.0) ≡ a.0.0 = omega (arith, three.1.0) in
    let behind = takes_then a.0.1 (block b.0.0) b.0.1 (flat_map block c.0.0) c.0.1 two.0 three.0 in
    let together : Takes bytes (number a.0.0 ++ flat_map block (b.0.0 ∷ c.0.0)) c.0.1 = rw flat_map-cons (takes_then bytes (number a.0.0) a.0.1 (block b.0.0 ++ flat_map block c.0.0) c.0.1 one.0 behind) in
    let found : List CodeBlock × List ℕ = (b.0.0 ∷ c.0.0, c.0.1) in
    let whole = subst (λ (k : ℕ). Takes bytes (number k ++ flat_map block (b.0.0 ∷ c.0.0)) c.0.1 × (IsNumber k × IsBlock (inside texts constants lists k true) b.0.0 × AllByRecursion (IsBlock (inside texts constants lists k false)) c.0.0)) (sym len) (together, (one.1.0, two.1, three.1.1)) in
    subst (λ (y : List CodeBlock × List ℕ). Takes bytes (listed block y.0) y.1 × AreBlocks texts constants lists y.0) (ok_is found (x, rest) c.2) whole

blocks_again : (texts constants lists : ℕ) (x : List CodeBlock) (rest : List ℕ) → AreBlocks texts constants lists x → blocks_at texts constants lists (listed block x ++ rest) ≡ Ok (x, rest)
unfolding blocks_at
blocks_again texts constants lists [] rest w = absurd w
blocks_again texts constants lists (b ∷ bs) rest w =
    let count = suc (length bs) in
    let regrouped : listed block (b ∷ bs) ++ rest ≡ number count ++ (block b ++ (flat_map block bs ++ rest)) =
    append_assoc (number count) (flat_map block (b ∷ bs)) rest ∙ ap (λ (l : List ℕ). number count ++ (l ++ rest)) (flat_map-cons block b bs) ∙ ap (λ (l : List ℕ). number count ++ l) (append_assoc (block b) (flat_map block bs) rest) in
    ap (blocks_at texts constants lists) regrouped
    ∙ rw (
      size_codec.again count (block b ++ (flat_map block bs ++ rest)) (w.0, is_above (length bs)),
      (block_codec (inside texts constants lists count true)).again b (flat_map block bs ++ rest) w.1,
      one_less (length bs),
      (items_codec (IsBlock (inside texts constants lists count false)) block (block_at (inside texts constants lists count false)) (block_codec (inside texts constants lists count false)) (length bs)).again bs rest (refl, w.2),
    ) refl

blocks_codec : (texts constants lists : ℕ) → IsCodec (AreBlocks texts constants lists) (listed block) (blocks_at texts constants lists)
blocks_codec texts constants lists = record { takes = blocks_take texts constants lists; again = blocks_again texts constants lists }

abbrev spell_fields : Code → List ℕ
spell_fields c = listed text c.texts ++ (listed constant c.constants ++ (listed (listed number) c.lists ++ listed block c.blocks))

fields_codec : IsCodec HasFile spell_fields fields_at
unfolding fields_at
fields_codec =
    made_codec {A = List (List ℕ) × (List Const × (List (List ℕ) × List CodeBlock))} {B = Code}
    (λ p. AreListed IsText p.0 × (AreListed (IsConstant (length p.0)) p.1.0 × (AreListed (AreListed (IsBelow (length p.0))) p.1.1.0 × AreBlocks (length p.0) (length p.1.0) (length p.1.1.0) p.1.1.1)))
    (λ p. listed text p.0 ++ (listed constant p.1.0 ++ (listed (listed number) p.1.1.0 ++ listed block p.1.1.1)))
    (λ c. record { texts = c.0; constants = c.1.0; lists = c.1.1.0; blocks = c.1.1.1 }) (λ c. (c.texts, (c.constants, (c.lists, c.blocks))))
    (both (list_at text_at) λ ts. both (list_at (const_at (length ts))) λ ks. both (list_at (list_at (below_at (length ts)))) λ ls. blocks_at (length ts) (length ks) (length ls)) (λ c. refl) (λ p. refl)
    (both_codec (AreListed IsText) (λ ts p. AreListed (IsConstant (length ts)) p.0 × (AreListed (AreListed (IsBelow (length ts))) p.1.0 × AreBlocks (length ts) (length p.0) (length p.1.0) p.1.1)) (listed text) (λ p. listed constant p.0 ++ (listed (listed number) p.1.0 ++ listed block p.1.1))
    (list_at text_at) (λ ts. both (list_at (const_at (length ts))) λ ks. both (list_at (list_at (below_at (length ts)))) λ ls. blocks_at (length ts) (length ks) (length ls))
    (list_codec IsText text text_at text_codec)
    (λ ts _. both_codec (AreListed (IsConstant (length ts))) (λ ks p. AreListed (AreListed (IsBelow (length ts))) p.0 × AreBlocks (length ts) (length ks) (length p.0) p.1) (listed constant) (λ p. listed (listed number) p.0 ++ listed block p.1)
    (list_at (const_at (length ts))) (λ ks. both (list_at (list_at (below_at (length ts)))) λ ls. blocks_at (length ts) (length ks) (length ls))
    (list_codec (IsConstant (length ts)) constant (const_at (length ts)) (constant_codec (length ts)))
    (λ ks _. both_codec (AreListed (AreListed (IsBelow (length ts)))) (λ ls. AreBlocks (length ts) (length ks) (length ls)) (listed (listed number)) (listed block)
    (list_at (list_at (below_at (length ts)))) (λ ls. blocks_at (length ts) (length ks) (length ls))
    (list_codec (AreListed (IsBelow (length ts))) (listed number) (list_at (below_at (length ts))) (list_codec (IsBelow (length ts)) number (below_at (length ts)) (below_codec (length ts))))
    (λ ls _. blocks_codec (length ts) (length ks) (length ls)))))

-- ---- the head of a file

byte_behind : (expected : ℕ) (bytes rest : List ℕ) → behind_byte expected bytes ≡ Ok rest → bytes ≡ expected ∷ rest
unfolding behind_byte byte_at
byte_behind expected [] rest e = absurd cc
byte_behind expected (b ∷ bytes) rest e =
    let g = guard_ok (nat_eq b expected) bad.Magic bytes rest e in
    let same : b ≡ expected = eqb-true _ _ g.0 in
    λ k. same k ∷ g.1 k

version_behind : (bytes rest : List ℕ) → behind_version bytes ≡ Ok rest → bytes ≡ 1 ∷ rest
unfolding behind_version byte_at
version_behind [] rest e = absurd cc
version_behind (b ∷ bytes) rest e =
    let g = guard_ok (nat_eq b 1) (bad.Version b) bytes rest e in
    let same : b ≡ 1 = eqb-true _ _ g.0 in
    λ k. same k ∷ g.1 k

magic_behind : (bytes rest : List ℕ) → behind_magic bytes ≡ Ok rest → bytes ≡ magic ++ rest
unfolding behind_magic
magic_behind bytes rest e =
    let d = bind_ok (behind_byte 0x50 bytes >>= behind_byte 0x54 >>= behind_byte 0x43 >>= behind_byte 0x46) behind_version rest e in
    let c = bind_ok (behind_byte 0x50 bytes >>= behind_byte 0x54 >>= behind_byte 0x43) (behind_byte 0x46) d.0 d.1 in
    let b = bind_ok (behind_byte 0x50 bytes >>= behind_byte 0x54) (behind_byte 0x43) c.0 c.1 in
    let a = bind_ok (behind_byte 0x50 bytes) (behind_byte 0x54) b.0 b.1 in
    byte_behind 0x50 bytes a.0 a.1 ∙ ap (λ (l : List ℕ). 0x50 ∷ l) (byte_behind 0x54 a.0 b.0 a.2 ∙ ap (λ (l : List ℕ). 0x54 ∷ l) (byte_behind 0x43 b.0 c.0 b.2 ∙ ap (λ (l : List ℕ). 0x43 ∷ l) (byte_behind 0x46 c.0 d.0 c.2 ∙ ap (λ (l : List ℕ). 0x46 ∷ l) (version_behind d.0 rest d.2))))

magic_again : (rest : List ℕ) → behind_magic (magic ++ rest) ≡ Ok rest
unfolding behind_magic behind_byte behind_version byte_at
magic_again rest = refl

fields_are : (rest : List ℕ) → AreBytes (magic ++ rest) → AreBytes rest
fields_are rest are i = are (suc (suc (suc (suc (suc i)))))

-- what is read is spelled so
pub code_is : (bytes : List ℕ) (c : Code) → AreBytes bytes → code_of bytes ≡ Ok c → (bytes ≡ file c) × HasFile c
unfolding code_of file
code_is bytes c fits e =
    let a = bind_ok (behind_magic bytes) (λ fields. fields_at fields >>= λ f. cond (nat_eq (length f.1) 0) (Ok f.0) (Err (bad.Trailing (length f.1)))) c e in
    let b = bind_ok (fields_at a.0) (λ f. cond (nat_eq (length f.1) 0) (Ok f.0) (Err (bad.Trailing (length f.1)))) c a.2 in
    let g = guard_ok (nat_eq (length b.0.1) 0) (bad.Trailing (length b.0.1)) b.0.0 c b.2 in
    let head = magic_behind bytes a.0 a.1 in
    let one = fields_codec.takes a.0 b.0.0 b.0.1 (fields_are a.0 (subst AreBytes head fits)) b.1 in
    let nothing : b.0.1 ≡ [] = nil_from_length b.0.1 (eqb-true _ _ g.0) in
    let body : a.0 ≡ spell_fields b.0.0 = one.0.parts ∙ ap (λ (l : List ℕ). spell_fields b.0.0 ++ l) nothing ∙ append-nil (spell_fields b.0.0) in
    subst (λ (d : Code). (bytes ≡ magic ++ spell_fields d) × HasFile d) g.1 (head ∙ ap (λ (l : List ℕ). magic ++ l) body, one.1)

-- what is spelled is read
pub code_again : (c : Code) → HasFile c → code_of (file c) ≡ Ok c
unfolding code_of file
code_again c has =
    let body : fields_at (spell_fields c) ≡ Ok (c, []) = ap fields_at (sym (append-nil (spell_fields c))) ∙ fields_codec.again c [] has in
    rw (magic_again (spell_fields c), body) refl
