use Rattle.std.proofs.Common.{◌≡◌, Ok, rules, arith}
use Rattle.drawing.specs.Files.{check_of}
use Rattle.drawing.proofs.Laws.Opened.{opened, opened_places}
use Rattle.drawing.proofs.drawn.Drawing.places.Goals as goal

pub overflow_add-result : goal.overflow_add-result
overflow_add-result c =
    let good : check_of c.args.self.now.file.now ≡ Ok c.args.self.now.head = search rules in
    omega (arith, (opened _ _ good).places)

pub slice_bounds-result-end : goal.slice_bounds-result-end
slice_bounds-result-end c =
    let good : check_of c.args.self.now.file.now ≡ Ok c.args.self.now.head = search rules in
    omega (arith, (opened _ _ good).size)

pub returns : goal.returns
returns c =
    let good : check_of c.args.self.now.file.now ≡ Ok c.args.self.now.head = search rules in
    opened_places _ _ good
