-- A block that is whole is the next one of the code.
use Rattle.std.proofs.Common.{◌≡◌, [], Result, Ok, Err, refl, ap, ◌∙◌}
use Rattle.std.specs.Prelude.{OnOk}
use Rattle.pt_tree.specs.Blocks.{Block}
use Rattle.pt_instr.specs.declared.TextNo.{TextNo}
use Rattle.pt_code.specs.declared.BlockKind.{BlockKind}
use Rattle.pt_assembler.specs.declared.image.Heading.{Heading}
use Rattle.pt_assembler.specs.Layout.{Written, layout}
use Rattle.law_files.specs.sem_compile.stm_pieces.Laws.{slots_of}
use Rattle.law_files.specs.sem_compile.stm_pieces.StmPiece.{code_piece}
use Rattle.law_files.specs.sem_compile.compile.ScriptCode.{heading, kind_of}
use Rattle.pt_expr_forms.specs.Behind.{known}
use Rattle.pt_compile.specs.declared.open_block.OpenBlock.{OpenBlock}
use Rattle.pt_compile.specs.PartialCode.{PartialCode, IsOpen, with_block, with_layout}

pub whole_block : (k : Block) (c d e : PartialCode) (b : OpenBlock) (w : Written) (h : Heading) → IsOpen c k.name k.params (slots_of k.code) b
    → d.naming ≡ c.naming → d.blocks ≡ c.blocks → w ≡ layout (code_piece (known b.names) k.code) [] b.writer → h ≡ heading b.name k
    → e ≡ with_layout h w d → e ≡ with_block k c
unfolding with_block
whole_block k c d e b w h is_open naming blocks is_code is_heading is_with =
    is_with ∙ rw (is_heading, is_code, is_open.name, is_open.writer, is_open.names, is_open.number, naming, blocks) refl

pub of_kind : (h : Heading) (t : TextNo) (k : Block) (q : BlockKind) → q ≡ kind_of k.code → h ≡ record (heading t k) { kind = q } → h ≡ heading t k
of_kind h t k q is_kind is_heading = is_heading ∙ ap (λ r. record (heading t k) { kind = r }) is_kind

pub on_ok : {A E P Q : Type 0} (r : Result A E) → OnOk r P → (P → Q) → OnOk r Q
on_ok (Ok a) p f = f p
on_ok (Err e) p f = tt
