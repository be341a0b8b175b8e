-- `save_with`: the candidate is drawn and listed, and the writer's answer is the machine's. Assumes nothing.
use mathlib.Core.Path.{sym}
use lib.Seq.{length-take-le}
use borrow.Author.Rules.{rules}
use Rattle.machine.specs.Code.{led_to}
use Rattle.console.specs.Laws.Calls.{drawn_passed, listed_places, drawn_saved}
use Rattle.console.proofs.save_with.Goals as goal

pub returns-in_err-draw : goal.returns-in_err-draw
returns-in_err-draw c = absurd (drawn_passed _ _ _ _ c.draw.ensures c.requires _ c.in_err-draw.was)

pub slice_bounds-places-end : goal.slice_bounds-places-end
slice_bounds-places-end c = listed_places _ (led_to c.args.m) _ c.list-x.ensures

pub slice_bounds-save_first-end : goal.slice_bounds-save_first-end
slice_bounds-save_first-end c = sym (length-take-le _ _ (listed_places _ (led_to c.args.m) _ c.list-x.ensures))

pub returns : goal.returns
returns c =
    drawn_saved _ (led_to c.args.m) _ c.requires _ _ c.draw.ensures
    (λ i. search rules) _ c.list-x.ensures _ _ _
    c.save_first.ensures
