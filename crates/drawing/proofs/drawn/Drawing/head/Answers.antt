use Rattle.std.proofs.Common.{◌≡◌, Ok, refl, rules}
use Rattle.drawing.specs.Files.{check_of}
use Rattle.drawing.proofs.Laws.Opened.{opened_heads}
use Rattle.drawing.proofs.drawn.Drawing.head.Goals as goal

pub returns : goal.returns
returns c =
    let good : check_of c.args.self.now.file.now ≡ Ok c.args.self.now.head = search rules in
    record { value = refl; heads = opened_heads _ _ good }
