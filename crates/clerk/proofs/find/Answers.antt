-- A length that is told fits.
use Rattle.std.proofs.Common.{rules}
use Rattle.drawing.specs.Files.{candidate_of}
use Rattle.completer.specs.Completes.{complete_check}
use Rattle.completer.specs.Laws.Completing.{made_fits}
use Rattle.clerk.proofs.find.Goals as goal

pub slice_bounds-write_all-end : goal.slice_bounds-write_all-end
slice_bounds-write_all-end g c =
    let file = c.args.file.now in
    let fits = made_fits (complete_check file) (candidate_of file) c.args.budget _ c.in-Ok-Made.judged c.in-Ok-Made.length (rw (c.in-Ok-Made.is, c.in-Ok-Made.field-0-is) at c.complete.ensures.value) in
    search rules
