-- How long the lines of a trace are.
use Rattle.std.specs.Prelude.{ℕ, ◌+◌, ◌^◌, ◌<◌, ◌≤◌, true, [], ◌∷◌, ◌≡◌, length}
use Rattle.std.proofs.Common.{arith, length-append}
use Rattle.model.specs.declared.ActionKind.{ActionKind}
use Rattle.model.specs.Actions.{kind_number, order_in}
use Rattle.page.specs.Lines.{ending}
use Rattle.page.specs.Laws.Lengths.{decimal_length, ending_more}
use Rattle.spelling.specs.Spelling.{kind_word, order_word, has_place, has_written, part}
use Rattle.spelling.proofs.Laws.Lengths.{kind_short, order_short, part_short}
use Rattle.machine.specs.declared.Step.{Step}
use Rattle.machine.specs.declared.Step.TheVariants.{Does, Drains}
use Rattle.trace.specs.Traces.{machine_line, step_line}

-- the first line of numbers of 64 bits
pub first_short : (t p : ℕ) → t < 2 ^ 64 → p < 2 ^ 64 → length (machine_line t p) ≤ 56
unfolding ending
first_short t p a b = omega (arith, ending_more 20 t (p ∷ []) (decimal_length 19 t (omega arith)), ending_more 20 p [] (decimal_length 19 p (omega arith)))

-- the first line is never empty
pub first_some : (t p : ℕ) → 0 < length (machine_line t p)
first_some t p = omega arith

-- the line of an action, part by part
does_parts : (what : ActionKind) (thread place written : ℕ)
    → length (step_line (Does what thread place written)) ≡ length (kind_word (kind_number what)) + (length (part true thread) + (length (part (has_place (kind_number what)) place) + (length (order_word (order_in what)) + (length (part (has_written (kind_number what)) written) + 1))))
unfolding step_line
does_parts what thread place written = simp length-append

-- the line of an action of numbers of 64 bits
pub does_short : (what : ActionKind) (thread place written : ℕ) → thread < 2 ^ 64 → place < 2 ^ 64 → written < 2 ^ 64 → length (step_line (Does what thread place written)) ≤ 88
does_short what thread place written a b c =
    let k = kind_number what in
    omega (arith, does_parts what thread place written, kind_short k, order_short (order_in what), part_short 19 true thread (omega arith), part_short 19 (has_place k) place (omega arith), part_short 19 (has_written k) written (omega arith))

-- the line of a drain of a number of 64 bits
pub drains_short : (thread : ℕ) → thread < 2 ^ 64 → length (step_line (Drains thread)) ≤ 88
unfolding step_line ending
drains_short thread a = omega (arith, ending_more 20 thread [] (decimal_length 19 thread (omega arith)))

-- no line of a step is empty
pub step_some : (x : Step) → 0 < length (step_line x)
unfolding step_line
step_some (Does what thread place written) = omega (arith, does_parts what thread place written)
step_some (Drains thread) = omega arith
