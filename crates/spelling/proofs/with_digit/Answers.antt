use Rattle.std.proofs.Common.{arith}
use Rattle.spelling.specs.Laws.Steps.{longer_digit}
use Rattle.spelling.proofs.with_digit.Goals as goal

pub overflow_sub-result : goal.overflow_sub-result
overflow_sub-result c = omega (arith, longer_digit _ _ c.requires)

pub overflow_mul-result : goal.overflow_mul-result
overflow_mul-result c = omega (arith, longer_digit _ _ c.requires)

pub overflow_add-result : goal.overflow_add-result
overflow_add-result c = omega (arith, longer_digit _ _ c.requires)
