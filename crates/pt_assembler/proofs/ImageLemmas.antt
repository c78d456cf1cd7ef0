-- The bytes and marks that are put one after the other are those of all instructions.
use Rattle.std.proofs.Common.{◌≡◌, ◌+◌, List, [], ◌∷◌, ◌++◌, map, length, flat_map, sym, ap, ◌∙◌, append_assoc, append-nil, length-append}
use Rattle.std.proofs.lemmas.List.Concat.{flat_map-cons}
use Rattle.pt_instr.specs.Encoding.{encoding}
use Rattle.pt_assembler.specs.declared.operation.Placed.{Placed}
use Rattle.pt_assembler.specs.declared.image.Image.{Image}
use Rattle.pt_assembler.specs.Layout.{Written, width, instr_in, mark_at, listed, marks_from, image_with, image_on, no_image, bytes_of}
use Rattle.pt_assembler.proofs.Shown.{width_in}

bytes_on : (w : Written) (ps : List Placed) (im : Image) → (image_on w ps im).instructions ≡ im.instructions ++ flat_map encoding (map (λ p. instr_in w p.operation) ps)
bytes_on w [] im = sym (append-nil im.instructions)
bytes_on w (p ∷ ps) im =
    bytes_on w ps (image_with w im p)
    ∙ append_assoc im.instructions (encoding (instr_in w p.operation)) (flat_map encoding (map (λ p. instr_in w p.operation) ps))
    ∙ ap (λ l. im.instructions ++ l) (sym (flat_map-cons encoding (instr_in w p.operation) (map (λ p. instr_in w p.operation) ps)))

marks_on : (w : Written) (ps : List Placed) (im : Image) → (image_on w ps im).marks ≡ im.marks ++ marks_from (length im.instructions) ps
marks_on w [] im = sym (append-nil im.marks)
marks_on w (p ∷ ps) im =
    let behind : length (im.instructions ++ encoding (instr_in w p.operation)) ≡ length im.instructions + width p.operation =
    length-append im.instructions (encoding (instr_in w p.operation)) ∙ ap (λ n. length im.instructions + n) (width_in w p.operation) in
    marks_on w ps (image_with w im p)
    ∙ ap (λ n. (im.marks ++ listed (mark_at (length im.instructions) p.act)) ++ marks_from n ps) behind
    ∙ append_assoc im.marks (listed (mark_at (length im.instructions) p.act)) (marks_from (length im.instructions + width p.operation) ps)

pub image_is : (w : Written) (im : Image) → im ≡ image_on w w.instrs no_image
    → (im.instructions ≡ bytes_of w) × (im.marks ≡ marks_from 0 w.instrs)
image_is w im e = (
  ap (λ (i : Image). i.instructions) e ∙ bytes_on w w.instrs no_image,
  ap (λ (i : Image). i.marks) e ∙ marks_on w w.instrs no_image,
)
