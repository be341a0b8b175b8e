use Rattle.slow.proofs.serial.is_due.Goals as goal

pub returns-in-Passed : goal.returns-in-Passed
returns-in-Passed c = rw (c.in-Passed.is, c.fits.ensures, c.has_fence.ensures)
