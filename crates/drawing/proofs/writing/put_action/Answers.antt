use Rattle.std.proofs.Common.{append_assoc}
use Rattle.page.specs.Laws.Pens.{penned_then}
use Rattle.drawing.specs.Files.{head_of, action_record}
use Rattle.drawing.proofs.writing.put_action.Goals as goal

-- found alone, but not with half the limits
pub returns : goal.returns
unfolding head_of action_record
returns c =
    simp (
      c.put_number-7.ensures,
      c.put_number-6.ensures,
      c.put_number-5.ensures,
      c.put_number-4.ensures,
      c.put_number-3.ensures,
      c.put_number-2.ensures,
      c.put_number.ensures,
      c.put_head.ensures,
      c.order.ensures,
      c.number.ensures,
      penned_then,
      append_assoc,
    )
