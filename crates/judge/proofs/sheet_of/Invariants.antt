use Rattle.drawing.specs.Files.{candidate_of}
use Rattle.words.specs.Sheet.{Sheet}
use Rattle.judge.proofs.sheet_of.Given as goal

abbrev pub invariant-loop-i : goal.invariant-loop-i
invariant-loop-i l = Sheet l.i (candidate_of l.drawing.file.now).acts (candidate_of l.drawing.file.now).places l.sheet
