use Rattle.std.proofs.Common.{◌∙◌}
use Rattle.words.proofs.Sheet.{sheet_more}
use Rattle.words.proofs.enter.Goals as goal

pub returns-clause-noted : goal.returns-clause-noted
returns-clause-noted c =
    let a = c.args in
    let words = c.words_of-words in
    let place = c.place_bit in
    let thread = c.one_bit in
    sheet_more a.a a.x a.q words.result place.result thread.result a.sheet.now c.put_note-5.new.sheet c.requires
    (λ k b l.
    c.put_note-5.ensures k b l
    ∙ rw (
      c.put_note-4.ensures k b l,
      c.put_note-3.ensures k b l,
      c.put_note-2.ensures k b l,
      c.put_note.ensures k b l,
    ))
    words.ensures place.ensures thread.ensures
