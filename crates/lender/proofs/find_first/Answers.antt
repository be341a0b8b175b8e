-- `find_first`: no more than all are lent. Assumes nothing.
use Rattle.std.proofs.Common.{rules, length, ◌≡◌}
use Rattle.model.specs.Limits.{most_actions}
use Rattle.lender.proofs.Lent.{first_min}
use Rattle.lender.proofs.find_first.Goals as goal

pub returns : goal.returns
returns c =
    let all : length c.args.list ≡ most_actions = search rules in
    rw (c.min.ensures, first_min c.args.k c.args.list all) at c.find_list.ensures
