-- Reports of the model's drawings.
use Rattle.std.specs.Prelude.{◌≡◌, refl}
use Rattle.rows.specs.Numbers.{joined}
use Rattle.model.specs.Drawings.{computing, C, D, K, gap_in_sb}
use Rattle.page.specs.Lines.{ascii, digits, decimal, ending, lines}
use Rattle.report.specs.Report.{verdict_line, judged_text, refused_text, report_of}

-- D's report, whole
pub report_D : report_of D ≡ ascii "consistent\nfound 0 0 1\ndata 2 5\nno order\n"
unfolding computing digits decimal ending lines joined verdict_line judged_text report_of
report_D = refl

-- a failed rule: the races are reported, and no order
pub report_C : report_of C ≡ ascii "inconsistent 19 5 5\nfound 0 0 1\ndata 2 5\nno order\n"
unfolding computing digits decimal ending lines joined verdict_line judged_text report_of
report_C = refl

-- a failed rule that names a middle
pub report_gap : report_of gap_in_sb ≡ ascii "inconsistent 4 0 4 2\nfound 0 0 0\nno order\n"
unfolding computing digits decimal ending lines joined verdict_line judged_text report_of
report_gap = refl

-- an order
pub report_K : report_of K ≡ ascii "consistent\nfound 0 0 0\norder 1 0\n"
unfolding computing digits decimal ending lines joined verdict_line judged_text report_of
report_K = refl

-- a refusal
pub report_refused : refused_text 3 12 ≡ ascii "refused 3 12\n"
unfolding digits decimal ending refused_text
report_refused = refl
