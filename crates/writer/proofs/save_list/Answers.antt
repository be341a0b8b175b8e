-- `save_list`: the check, the room, then the file. Assumes nothing.
use borrow.Author.Rules.{rules}
use mathlib.Core.Path.{sym, ◌∙◌}
use native.Mathlib.Omega.{arith}
use Rattle.std.specs.Prelude.{◌≡◌, Err}
use Rattle.page.specs.Laws.Pens.{pens}
use Rattle.lists.proofs.Laws.Taken.{counted_sized}
use Rattle.writer.specs.Laws.Saving.{save_refused, save_short, save_written}
use Rattle.writer.proofs.Owned.{owned_values}
use Rattle.writer.proofs.save_list.Goals as goal

pub returns-in_err-check : goal.returns-in_err-check
returns-in_err-check c =
    let told : c.from_residual.result ≡ Err c.in_err-check.field-0.0 = search rules in
    rw told (save_refused _ _ c.gather-g.ensures.stands _ _ _ _ _ _ _ _ _ (sym c.check.ensures ∙ c.in_err-check.was))

pub file_length-length-requires : goal.file_length-length-requires
file_length-length-requires c =
    let z = counted_sized _ _ _ _ _ _ _ _ (sym c.check.ensures ∙ c.in_ok-check.was) in
    (z.few_actions, z.few_places)

pub returns-then-out-length : goal.returns-then-out-length
returns-then-out-length c =
    save_short _ _ c.gather-g.ensures.stands _ _ _ _ _ _ _ (sym c.check.ensures ∙ c.in_ok-check.was) (omega (arith, c.file_length-length.ensures, c.if-out-length.true))

pub put_file-requires : goal.put_file-requires
put_file-requires c =
    let z = counted_sized _ _ _ _ _ _ _ _ (sym c.check.ensures ∙ c.in_ok-check.was) in
    (z.few_actions, omega (arith, z.store_room))

pub returns : goal.returns
returns c =
    save_written _ _ c.gather-g.ensures.stands _ _ _ _ _ _ _ (sym c.check.ensures ∙ c.in_ok-check.was) _ c.put_file.new.pen.at _
    (λ i. (c.type_inv.store i).fits)
    (owned_values c.gather-g.result _ c.gather-g.type_inv)
    c.file_length-length.ensures
    (omega (arith, c.if-out-length.false))
    (grind (arith, pens))
