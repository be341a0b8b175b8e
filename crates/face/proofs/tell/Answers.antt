use native.Mathlib.Omega.{arith}
use lib.ListN.{length-take}
use Rattle.face.proofs.tell.Goals as goal

pub copy_from_slice-requires : goal.copy_from_slice-requires
copy_from_slice-requires c = omega (arith, length-take 12 c.args.answer.now, c.numbers.type_inv)
