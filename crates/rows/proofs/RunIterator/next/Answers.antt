use Rattle.std.proofs.Common.{rules, refl}
use Rattle.rows.proofs.Laws.Parts.{ran_none, ran_takes}
use Rattle.rows.proofs.Laws.Turns.{turn_less}
use Rattle.rows.proofs.RunIterator.next.Goals as goal

pub returns-then-word-eq0-clause-steps : goal.returns-then-word-eq0-clause-steps
returns-then-word-eq0-clause-steps c = (ran_none _ c.requires c.if-word-eq0.true, refl)

pub returns-clause-steps : goal.returns-clause-steps
returns-clause-steps c = ran_takes c.args.self.now c.requires (search rules) c.if-word-eq0.false

pub returns-clause-goes : goal.returns-clause-goes
returns-clause-goes c =
    let less = turn_less (ran_takes c.args.self.now c.requires (search rules) c.if-word-eq0.false) in
    search rules
