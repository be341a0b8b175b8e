-- What malformed input is answered: one numbered refusal with its position.
use Rattle.std.specs.Prelude.{ℕ, Result, Ok, Err}
use Rattle.model.specs.declared.Judged.{Judged}
use Rattle.model.specs.declared.Header.{Header}
use Rattle.model.specs.declared.refusals.Refusal.{Refusal}
use Rattle.model.specs.declared.refusals.Reason.{Reason}
use Rattle.model.specs.declared.refusals.Reason.TheVariants.{EndsEarly, WrongKind, WrongLength, UnknownEdition, AboveLimit, BadField, BadColumn, BytesAfterEnd, ShortBuffer, OwnThread, NotEmpty, BadLine, NotTraced, OutOfLimit, TooManyActions, WrongQueue}

-- the paper's numbers
abbrev pub number : Reason → ℕ
number EndsEarly = 1
number WrongKind = 2
number WrongLength = 3
number UnknownEdition = 4
number AboveLimit = 5
number BadField = 6
number BadColumn = 7
number BytesAfterEnd = 8
number ShortBuffer = 9
number OwnThread = 11
number NotEmpty = 12
number BadLine = 13
number NotTraced = 14
number OutOfLimit = 15
number TooManyActions = 16
number WrongQueue = 17

-- a refusal, in place of any answer
abbrev pub Refused : {A : Type 0} → Reason → ℕ → Result A Refusal
Refused k at = Err (record { reason = k; at = at })

-- what a part of a check finds: it passed, or a refusal
abbrev pub Walk : Type 0
Walk = Result (Unit {0}) Refusal

abbrev pub Passed : Walk
Passed = Ok tt

-- what a whole check finds: edition, N, T and P, or a refusal
abbrev pub Checked : Type 0
Checked = Result Header Refusal

abbrev pub Good : ℕ → ℕ → ℕ → ℕ → Checked
Good e n t p = Ok (record { edition = e; n = n; t = t; p = p })

-- the answer to a candidate: taken, with verdict, counts and the order's part, or a refusal
abbrev pub Answer : Type 0
Answer = Result Judged Refusal

-- what is written into a lent buffer: its length, or a refusal
abbrev pub Saved : Type 0
Saved = Result ℕ Refusal
