-- What `report_on` tells is sent.
use Rattle.std.proofs.Common.{rules}
use Rattle.clerk.specs.Laws.Numbers.{roomy}
use Rattle.clerk.proofs.report.Goals as goal

pub send-requires : goal.send-requires
send-requires g c = (search rules, roomy c.report_on-written.ensures.roomy (search rules))
