use Rattle.order.proofs.Steps.{strong_is}
use Rattle.rows.specs.Numbers.{size, has, held}
use Rattle.order.proofs.is_strong.Goals as goal

pub returns : goal.returns
returns c =
    rw (
      c.is_empty.ensures,
      c.before-2.ensures,
      c.or.ensures,
      c.minus-unfit.ensures,
      c.load-fences.ensures,
    ) (strong_is c.args.n size (held c.args.d.now) (has c.args.these) (has c.args.those) c.requires)
