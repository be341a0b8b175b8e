-- Builds that know more editions or fewer: what each answers to a file of an edition that the other knows or doesn't.
use Rattle.std.specs.Prelude.{ℕ, ◌<◌, ◌≤◌, ◌≡◌, true, List, leb}
use Rattle.std.proofs.Common.{◌∙◌, arith, leb-true, le-leb}
use Rattle.std.proofs.lemmas.Bool.{lt-leb}
use Rattle.rows.specs.Laws.Truth.{both_true}
use Rattle.model.specs.Candidates.{edition_ok}
use Rattle.model.specs.declared.refusals.Reason.TheVariants.{UnknownEdition}
use Rattle.model.specs.Refusals.{Good, Passed, Refused}
use Rattle.drawing.specs.Files.{edition_in, header_check, edition_check, check_by}
use Rattle.drawing.specs.Laws.Passed.{both_pass, Headed, header_headed, header_limited}
use Rattle.drawing.proofs.Laws.Good.{good_passed}
use Rattle.drawing.proofs.Laws.Passes.{head_passes}

-- ---- an edition that a build doesn't know

-- A build that knows the editions up to `newest` answers 4 at 0 to every file whose first record is there and whose edition is above it.
pub newer_refused : (newest : ℕ) (s : List ℕ) → Headed s 0 1 8 → newest < edition_in s → check_by newest s ≡ Refused UnknownEdition 0
unfolding check_by header_check edition_check
newer_refused newest s head above =
    rw (head_passes s 0 1 8 head, le-leb 1 (edition_in s) (omega arith), lt-leb (edition_in s) newest above)

-- the first record of a file that a build takes
taken_header : (newest : ℕ) (s : List ℕ) (e n t p : ℕ) → check_by newest s ≡ Good e n t p → (header_check newest s ≡ Passed) × (edition_in s ≡ e)
taken_header newest s e n t p good =
    let w = good_passed newest s e n t p good in
    ((both_pass (header_check newest s) _ w.0).0, w.1)

-- so to every file that another build takes as one of a newer edition
pub older_build : (older newer : ℕ) (s : List ℕ) (e n t p : ℕ) → older < e → check_by newer s ≡ Good e n t p → check_by older s ≡ Refused UnknownEdition 0
older_build older newer s e n t p above good =
    let h = taken_header newer s e n t p good in
    newer_refused older s (header_headed newer s h.0) (rw h.1 above)

-- A reader of the old build must still answer 4 to an edition 2 file.
pub old_build : (s : List ℕ) (n t p : ℕ) → check_by 2 s ≡ Good 2 n t p → check_by 1 s ≡ Refused UnknownEdition 0
old_build s n t p good = older_build 1 2 s 2 n t p (omega arith) good

-- ---- an edition that both know

-- whatever they answer, it is the same
pub both_know : (one other : ℕ) (s : List ℕ) → edition_ok one (edition_in s) ≡ true → edition_ok other (edition_in s) ≡ true → check_by one s ≡ check_by other s
unfolding check_by header_check edition_check
both_know one other s known also = rw (known, also)

-- so a file of edition 1 is answered as by the old build
pub first_edition : (s : List ℕ) → edition_in s ≡ 1 → check_by 1 s ≡ check_by 2 s
first_edition s first = both_know 1 2 s (rw first) (rw first)

-- and what a build takes, every newer one takes as the same
pub newer_build : (older newer : ℕ) (s : List ℕ) (e n t p : ℕ) → older ≤ newer → check_by older s ≡ Good e n t p → check_by newer s ≡ Good e n t p
newer_build older newer s e n t p newest good =
    let known = (header_limited older s (taken_header older s e n t p good).0).edition in
    let bounds = both_true (leb 1 (edition_in s)) (leb (edition_in s) older) known in
    let below = leb-true (edition_in s) older bounds.1 in
    both_know newer older s (rw (bounds.0, le-leb (edition_in s) newer (omega arith))) known ∙ good
