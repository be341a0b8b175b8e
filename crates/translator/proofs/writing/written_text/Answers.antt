use Rattle.std.proofs.Common.{rules}
use Rattle.translator.specs.Translates.{text_from}
use Rattle.translator.proofs.writing.written_text.Goals as goal

pub returns : goal.returns
returns c =
    let h = c.args.head in
    c.offer.ensures (text_from c.args.file.now c.args.store.now h.edition h.n h.t h.p) (λ p q w. search rules)
