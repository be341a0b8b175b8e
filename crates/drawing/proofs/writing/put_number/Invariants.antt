use Rattle.std.proofs.Common.{◌≡◌, ◌-◌}
use Rattle.page.specs.Pens.{penned}
use Rattle.drawing.specs.Files.{le}
use Rattle.drawing.proofs.writing.put_number.Given as goal

-- what is left of the number, in the bytes that are left, makes the same page as the whole
abbrev pub invariant-loop : goal.invariant-loop
invariant-loop l = penned l.initial.pen (le l.width l.x) ≡ penned l.pen (le (l.width - l.counter) l.rest)
