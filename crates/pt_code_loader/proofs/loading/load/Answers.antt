use Rattle.std.proofs.Common.{◌+◌, ◌<◌, ◌^◌, length, subst}
use Rattle.std.specs.List.{AllByRecursion}
use Rattle.pt_code.specs.declared.CodeBlock.{CodeBlock}
use Rattle.pt_code_loader.proofs.loading.load.Goals as goal

pub returns-clause-room : goal.returns-clause-room
returns-clause-room c = (
  subst (AllByRecursion (λ (b : CodeBlock). length b.cells + length b.free < 2 ^ 32)) c.as_slice.ensures c.in_ok-have_room.ensures,
  subst (AllByRecursion (λ (b : CodeBlock). length b.cells + length b.free < 2 ^ 32)) c.as_slice-2.ensures c.in_ok-have_room-2.ensures,
)
