-- `text_of_good`: what is offered is the text of the file's candidate. Assumes nothing.
use Rattle.std.proofs.Common.{arith}
use Rattle.drawing.proofs.Laws.Good.{good_taken}
use Rattle.translator.specs.Laws.Translating.{text_saved}
use Rattle.translator.proofs.text_of_good.Goals as goal

pub fill-requires : goal.fill-requires
fill-requires c =
    let h = c.args.head in
    let g = good_taken c.args.file.now h.edition h.n h.t h.p c.requires.0 in
    (g.actions, g.places, omega (arith, g.size), omega (arith, c.requires.1))

pub written_text-requires : goal.written_text-requires
written_text-requires c =
    let h = c.args.head in
    let g = good_taken c.args.file.now h.edition h.n h.t h.p c.requires.0 in
    (g.actions, g.places, omega (arith, g.size))

pub returns : goal.returns
returns c =
    let h = c.args.head in
    rw c.ok_or.ensures.value (text_saved c.args.file.now h.edition h.n h.t h.p c.requires.0 _ _ c.fill.ensures _ _ _ c.written_text.ensures)
