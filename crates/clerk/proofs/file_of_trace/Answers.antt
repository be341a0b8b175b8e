-- A refusal of the form or of the machine is told, else what is saved where the steps lead.
use Rattle.std.proofs.Common.{sym, ◌∙◌}
use Rattle.clerk.specs.Laws.Traces.{begun_bad, begun_good, trace_refused, made_refused, made_saved}
use Rattle.clerk.proofs.file_of_trace.Goals as goal

pub returns-in-Err-clause-told : goal.returns-in-Err-clause-told
returns-in-Err-clause-told g c =
    let r = c.in-Err.refusal in
    trace_refused _ r.reason r.at (begun_bad _ r.reason r.at (sym c.begin.ensures ∙ c.in-Err.is)) _

pub returns-in-Err-make-clause-told : goal.returns-in-Err-make-clause-told
returns-in-Err-make-clause-told g c =
    let b = c.in-Ok.begun in
    let r = c.in-Err-make.refusal in
    let began = begun_good _ b.t b.p b.at (sym c.begin.ensures ∙ c.in-Ok.is) in
    trace_refused _ r.reason r.at (made_refused began c.make.ensures r c.in-Err-make.is) _

pub returns-in_ok-m-in-Ok-make-clause-told : goal.returns-in_ok-m-in-Ok-make-clause-told
returns-in_ok-m-in-Ok-make-clause-told g c =
    let b = c.in-Ok.begun in
    let began = begun_good _ b.t b.p b.at (sym c.begin.ensures ∙ c.in-Ok.is) in
    made_saved began c.make.ensures c.in-Ok-make.made c.in-Ok-make.is _ c.in_ok-m-in-Ok-make.ensures.runs _ _ _ c.save.ensures
