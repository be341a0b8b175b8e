-- `gather`: what is gathered so far is what the list's first actions come to. Assumes nothing.
use Rattle.std.proofs.Common.{◌≡◌, length, ap, sym, ◌∙◌, set, arith}
use Rattle.lists.specs.Lists.{action_at, gathered, how_many}
use Rattle.lists.proofs.Laws.Stands.{gathered_is, gathered_next, gathered_stands, many_least}
use Rattle.lists.proofs.gather.Goals as goal

pub loop-i-init : goal.loop-i-init
unfolding gathered
loop-i-init c = c.no_actions-list.ensures

pub loop-i-preserved : goal.loop-i-preserved
loop-i-preserved c =
    let l = c.loop-i in
    ap (λ list. set list l.i (action_at c.args.acts.now l.i)) l.invariant ∙ sym (gathered_next c.args.acts.now l.i)

pub returns-clause-gathers : goal.returns-clause-gathers
returns-clause-gathers c =
    let acts = c.args.acts.now in
    let all : c.loop-i.i ≡ how_many (length acts) = (omega arith) ∙ c.min-i-end.ensures ∙ many_least (length acts) in
    rw (c.loop-i.invariant, all) (sym (gathered_is acts (how_many (length acts))))

pub returns-clause-stands : goal.returns-clause-stands
returns-clause-stands c =
    let acts = c.args.acts.now in
    let all : c.loop-i.i ≡ how_many (length acts) = (omega arith) ∙ c.min-i-end.ensures ∙ many_least (length acts) in
    rw (c.loop-i.invariant, all, ← gathered_is acts (how_many (length acts))) (gathered_stands acts)
