-- `sheet_of`: the first i actions are noted. Assumes nothing.
use mathlib.Core.Path.{◌≡◌, refl, sym}
use native.Mathlib.Omega.{arith}
use Rattle.words.specs.Laws.Sheet.{sheet_none}
use Rattle.second.proofs.sheet_of.Goals as goal

pub loop-i-init : goal.loop-i-init
loop-i-init c = (omega arith, sheet_none _ _ _)

pub loop-i-preserved : goal.loop-i-preserved
loop-i-preserved c =
    let l = c.loop-i in (
      omega arith,
      c.enter.ensures.noted c.args.list c.args.places.now l.invariant.1 refl (sym c.place_kind-q.ensures) (c.requires.1 l.i c.loop-i-test.true),
    )

pub returns : goal.returns
returns c =
    let e : c.loop-i.i ≡ c.args.n = omega arith in
    rw (← e) c.loop-i.invariant.1
