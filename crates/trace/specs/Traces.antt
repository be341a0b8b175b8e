-- The text of a trace: its lines, what each is read as, the steps of a text, and its check. Definitions only.
-- As in a text drawing a line is read liberally, and taken exactly if it is, byte for byte, the line that would be written of what was read.
use Rattle.trace.specs.Reads.{Begun, Good}
use Rattle.std.specs.Prelude.{ℕ, zero, suc, ◌+◌, Bool, true, cond, ◌&&◌, ◌||◌, List, [], ◌∷◌, ◌++◌, ltb, leb, eqb, length, Ok, Err}
use Rattle.model.specs.Actions.{kind_number, order_in}
use Rattle.model.specs.Candidates.{Candidate}
use Rattle.page.specs.Lines.{ascii, space, newline, decimal, line, lines}
use Rattle.model.specs.declared.refusals.Reason.TheVariants.{ShortBuffer, BadLine, OutOfLimit}
use Rattle.model.specs.Refusals.{Passed, Refused, Walk}
use Rattle.drawing.specs.Files.{kind_of, then, file_of}
use Rattle.spelling.specs.declared.Number.{Number}
use Rattle.spelling.specs.Spelling.{kind_word, order_word, has_place, has_order, has_written, part, stands, word_end, field_at, clipped, kind_at, order_at}
use Rattle.machine.specs.declared.Step.{Step}
use Rattle.machine.specs.declared.Step.TheVariants.{Does, Drains}
use Rattle.machine.specs.Machine.{machine_ok, start, run, candidate}

-- ---- the lines

-- `machine T P`,
abbrev pub machine_line : ℕ → ℕ → List ℕ
machine_line t p = line (ascii "machine") (t ∷ p ∷ [])

-- then a line a step, such as `astore 1 0 release 5`: as in a text drawing, without its value read; or `drain 1`; one space between words, newline after each
unfoldable pub step_line : Step → List ℕ
step_line (Does what thread place written) =
    let k = kind_number what in
    kind_word k ++ (part true thread ++ (part (has_place k) place ++ (order_word (order_in what) ++ (part (has_written k) written ++ (newline ∷ [])))))
step_line (Drains thread) = line (ascii "drain") (thread ∷ [])

-- ---- what a line is read as

-- Every number is of 32 bits: a larger one is read as 0, so that its line isn't the one that would be written.
abbrev pub number_limit : ℕ
number_limit = 4294967296

abbrev pub value_in : Number → ℕ
value_in x = clipped number_limit x.value

-- the numbers of the first line, which follow the 7 bytes of its word
abbrev pub threads_number : List ℕ → Number
threads_number s = field_at s true 0 7

abbrev pub places_number : List ℕ → Number
places_number s = field_at s true 0 (threads_number s).next

abbrev pub threads_in : List ℕ → ℕ
threads_in s = value_in (threads_number s)

abbrev pub places_in : List ℕ → ℕ
places_in s = value_in (places_number s)

abbrev pub first_line : List ℕ → List ℕ
first_line s = machine_line (threads_in s) (places_in s)

-- the drain whose line stands at q
abbrev pub drain_read : List ℕ → ℕ → Step
drain_read s q = Drains (value_in (field_at s true 0 (q + 5)))

-- the action whose line stands at q
unfoldable pub action_read : List ℕ → ℕ → Step
action_read s q =
    let k = kind_at s q in
    let thread = field_at s true 0 (word_end s q (kind_word k)) in
    let place = field_at s (has_place k) 0 thread.next in
    let o = cond (has_order k) (order_at s place.next) 0 in
    let written = field_at s (has_written k) 0 (word_end s place.next (order_word o)) in
    Does (kind_of k o) (value_in thread) (value_in place) (value_in written)

unfoldable pub step_read : List ℕ → ℕ → Step
step_read s q = cond (stands s q (ascii "drain")) (drain_read s q) (action_read s q)

-- where the line that stands at q ends; q itself where none does
abbrev pub line_end : List ℕ → ℕ → ℕ
line_end s q = word_end s q (step_line (step_read s q))

-- ---- the steps of a text

-- those of at most k lines, from q on
unfoldable pub steps_from : ℕ → List ℕ → ℕ → List Step
steps_from zero s q = []
steps_from (suc k) s q = cond (ltb q (length s)) (step_read s q ∷ steps_from k s (line_end s q)) []

-- all of them: no line is empty
abbrev pub steps_in : List ℕ → List Step
steps_in s = steps_from (length s) s (length (first_line s))

-- ---- the text of steps

-- a step that its line shows whole: its numbers are of 32 bits, and 0 where the kind has none
unfoldable pub spelled : Step → Bool
spelled (Does what thread place written) =
    let k = kind_number what in
    ltb thread number_limit && (ltb place number_limit && (ltb written number_limit && ((has_place k || eqb place 0) && (has_written k || eqb written 0))))
spelled (Drains thread) = ltb thread number_limit

unfoldable pub all_spelled : List Step → Bool
all_spelled [] = true
all_spelled (x ∷ l) = spelled x && all_spelled l

-- the first line, and the lines of the steps
abbrev pub text_of : ℕ → ℕ → List Step → List ℕ
text_of t p l = machine_line t p ++ lines step_line l

-- ---- the check: 13 at the first byte of the first line of another form; then 15 at 0 for a machine beyond the limits

-- What is longer is of another form from the line on that passes here:
abbrev pub longest_trace : ℕ
longest_trace = 1048576

-- so one byte more of any text decides the answer to it.
abbrev pub trace_room : ℕ
trace_room = longest_trace + 1

abbrev pub formed : Bool → ℕ → Walk
formed ok q = cond ok Passed (Refused BadLine q)

-- the line at q is a step's
unfoldable pub line_test : List ℕ → ℕ → Walk
line_test s q = formed (ltb q (line_end s q) && leb (line_end s q) longest_trace) q

-- so are at most k lines, from q on
unfoldable pub lines_check : ℕ → List ℕ → ℕ → Walk
lines_check zero s q = Passed
lines_check (suc k) s q = cond (ltb q (length s)) (then (line_test s q) (lines_check k s (line_end s q))) Passed

-- every line is of its form
unfoldable pub form_check : List ℕ → Walk
form_check s = then (formed (stands s 0 (first_line s)) 0) (lines_check (length s) s (length (first_line s)))

-- and the machine within its limits
unfoldable pub trace_check : List ℕ → Walk
trace_check s = then (form_check s) (cond (machine_ok (threads_in s) (places_in s)) Passed (Refused OutOfLimit 0))

-- what is told of a text that was checked: T and P, and where its steps begin
abbrev pub begun : Walk → List ℕ → Begun
begun (Ok _) s = Good (threads_in s) (places_in s) (length (first_line s))
begun (Err r) s = Err r

-- ---- what a trace comes to

-- the candidate of the machine's state after all steps
abbrev pub traced : List ℕ → Candidate
traced s = candidate (run (start (threads_in s) (places_in s)) (steps_in s))

-- its file: what the check finds of the text, and last of all 9 if the file won't fit
abbrev pub traced_check : List ℕ → ℕ → Walk
traced_check s room = then (trace_check s) (cond (ltb room (length (file_of (traced s)))) (Refused ShortBuffer 0) Passed)

-- each refused step is told as `step 4 refused 17 0`
abbrev pub refused_step : ℕ → ℕ → List ℕ
refused_step count k = ascii "step" ++ ((space ∷ decimal count) ++ line (ascii " refused") (k ∷ 0 ∷ []))
