use Rattle.face.proofs.ruling_numbers.Goals as goal

pub returns : goal.returns
returns c = rw c.given.ensures
