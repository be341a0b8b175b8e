-- `candidates::draw`: refused with no room, else the relations go to the front of the store. Assumes nothing.
use mathlib.Core.Path.{sym, ◌∙◌}
use borrow.Author.Rules.{rules}
use borrow.Author.Tests.{leb-true}
use Rattle.drawing.specs.Laws.Passed.{only_if}
use Rattle.machine.specs.Code.{state_of}
use Rattle.machine.specs.Laws.Rows.{draws_front}
use Rattle.machine.proofs.candidates.draw.Goals as goal

pub returns : goal.returns
returns c =
    draws_front (state_of c.args.m) c.args.store.now c.put_relations.new.store (leb-true _ _ (only_if _ _ _ _ (sym c.unless.ensures ∙ c.in_ok-unless.was)).0) (search rules) c.put_relations.ensures
