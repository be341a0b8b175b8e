use Rattle.std.proofs.Common.{◌≡◌, Ok, ◌∙◌, rules, arith}
use Rattle.drawing.specs.Files.{check_of}
use Rattle.drawing.proofs.Laws.Opened.{opened, opened_given}
use Rattle.drawing.proofs.drawn.Drawing.fill.Goals as goal

pub fill-requires : goal.fill-requires
fill-requires c =
    let good : check_of c.args.self.now.file.now ≡ Ok c.args.self.now.head = search rules in
    let g = opened _ _ good in
    (g.actions, g.places, omega (arith, g.size), c.requires)

pub returns : goal.returns
returns c =
    let good : check_of c.args.self.now.file.now ≡ Ok c.args.self.now.head = search rules in
    λ j. c.fill.ensures j ∙ opened_given _ _ good j _
