use Rattle.text.specs.Laws.Walks.{read_start, read_go, read_done}
use Rattle.text.proofs.parts.read.Goals as goal

pub loop-i-init : goal.loop-i-init
loop-i-init g c = λ read step d told none. read_start none

pub loop-i-preserved : goal.loop-i-preserved
loop-i-preserved g c = λ read step d told none.
    let l = c.loop-i in
    let this = told l.i l.next c.line-x.result c.line-x.ensures in
    read_go (l.invariant read step d told none) c.loop-i-test.true c.requires.few this.0 this.1

pub returns : goal.returns
returns g c = λ read step d told none. read_done (c.loop-i.invariant read step d told none) c.loop-i-test.false
