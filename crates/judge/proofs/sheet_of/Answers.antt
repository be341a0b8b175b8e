use Rattle.std.proofs.Common.{◌≡◌, sym, ap, arith}
use Rattle.model.specs.declared.Header.{Header}
use Rattle.drawing.proofs.Laws.Opened.{opened}
use Rattle.words.specs.Laws.Sheet.{small_ok}
use Rattle.judge.proofs.sheet_of.Goals as goal

pub loop-i-preserved : goal.loop-i-preserved
loop-i-preserved c =
    let d = c.args.drawing in
    let g = opened _ _ d.good in
    let kind = rw c.places-places.ensures at c.place_kind.ensures in
    c.enter.ensures.noted _ _ c.loop-i.invariant (sym c.action-x.ensures.value) (sym kind)
    (small_ok d.head.t d.head.p _ (omega (arith, g.threads)) g.places c.action-x.ensures.kept)

pub returns : goal.returns
returns c =
    let whole : c.loop-i.i ≡ c.args.drawing.head.n = omega (arith, ap (λ (h : Header). h.n) c.head-i-end.ensures.value) in
    rw (← whole) c.loop-i.invariant
