use Rattle.std.proofs.Common.{◌≡◌, Ok, ◌∙◌, rules, arith}
use Rattle.drawing.specs.Files.{check_of}
use Rattle.drawing.proofs.Laws.Opened.{opened, opened_actions}
use Rattle.drawing.proofs.drawn.Drawing.actions.Goals as goal

pub actions-requires : goal.actions-requires
actions-requires c =
    let good : check_of c.args.self.now.file.now ≡ Ok c.args.self.now.head = search rules in
    let g = opened _ _ good in
    (g.actions, g.places, omega (arith, g.size))

pub returns : goal.returns
returns c =
    let good : check_of c.args.self.now.file.now ≡ Ok c.args.self.now.head = search rules in
    c.actions.ensures ∙ opened_actions _ _ good
