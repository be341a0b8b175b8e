use Rattle.std.proofs.Common.{◌≡◌, Ok, ◌∙◌, rules, arith}
use Rattle.drawing.specs.Files.{check_of}
use Rattle.drawing.proofs.Laws.Opened.{opened, opened_action, opened_kept}
use Rattle.drawing.proofs.drawn.Drawing.action.Goals as goal

pub action_at-requires : goal.action_at-requires
action_at-requires c =
    let good : check_of c.args.self.now.file.now ≡ Ok c.args.self.now.head = search rules in
    let g = opened _ _ good in
    (g.places, omega (arith, g.actions), omega (arith, g.size))

pub returns : goal.returns
returns c =
    let good : check_of c.args.self.now.file.now ≡ Ok c.args.self.now.head = search rules in
    record {
      value = c.action_at.ensures ∙ opened_action _ _ good _ c.requires;
      kept = rw c.action_at.ensures (opened_kept _ _ good _ c.requires);
    }
