use Rattle.std.proofs.Common.{◌≡◌, ◌++◌, drop}
use Rattle.pt_pdb.specs.Positions.{frames_text}
use Rattle.pt_pdb.proofs.position.push_frames.Given as goal

abbrev pub invariant-loop-i : goal.invariant-loop-i
invariant-loop-i l =
    l.out.items ++ frames_text l.file l.lines l.chosen l.i (drop l.i l.frames)
    ≡ l.fn.out.items ++ frames_text l.file l.lines l.chosen 0 l.frames
