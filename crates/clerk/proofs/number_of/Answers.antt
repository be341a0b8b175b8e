-- What is left to read, after the value so far, is the whole answer.
use Rattle.std.proofs.Common.{rules, ◌≡◌, ◌<◌, length, ⊎_elim, inl, inr, sym, ◌∙◌, arith}
use Rattle.clerk.specs.Laws.Numbers.{nothing_read, reading_starts, digit_read, stray_read, too_large, all_read}
use Rattle.clerk.proofs.number_of.Goals as goal

pub returns-then-is_empty : goal.returns-then-is_empty
returns-then-is_empty c = let e : length c.args.text.now ≡ 0 = search rules in sym (nothing_read c.args.text.now e)

pub loop-b-init : goal.loop-b-init
loop-b-init c = let e : 0 < length c.args.text.now = search rules in reading_starts c.args.text.now e

pub returns-then-b-lt48 : goal.returns-then-b-lt48
returns-then-b-lt48 c =
    let stray = stray_read c.loop-b.value c.args.text.now c.loop-b.b-index (omega arith) in
    sym (c.loop-b.invariant ∙ ⊎_elim (λ low. stray (inl low)) (λ high. stray (inr high.1)) c.then-b-lt48.either)

-- the byte is a digit
pub returns-then-digit-value : goal.returns-then-digit-value
returns-then-digit-value c =
    let read = digit_read c.loop-b.value c.args.text.now c.loop-b.b-index (omega arith) (omega arith) (omega arith) in
    sym (c.loop-b.invariant ∙ read ∙ too_large _ _ (omega arith))

pub loop-b-preserved : goal.loop-b-preserved
loop-b-preserved c = c.loop-b.invariant ∙ digit_read c.loop-b.value c.args.text.now c.loop-b.b-index (omega arith) (omega arith) (omega arith)

pub returns : goal.returns
returns c = sym (c.loop-b.invariant ∙ all_read c.loop-b.value c.args.text.now c.loop-b.b-index (omega arith) (omega arith))
