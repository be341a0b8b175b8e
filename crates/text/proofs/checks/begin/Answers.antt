-- `checks::begin`: first line, places and actions, each part's answer. Assumes nothing.
use borrow.Author.Rules.{rules}
use mathlib.Core.Path.{◌≡◌, sym, ◌∙◌}
use lib.ListN.{length}
use Rattle.model.specs.Refusals.{Passed}
use Rattle.drawing.specs.Files.{walks}
use Rattle.spelling.specs.Spelling.{header, word_end, actions_in, places_in}
use Rattle.text.specs.Texts.{place_place, edge_place, first_check, place_check, action_check}
use Rattle.text.specs.Laws.Begins.{first_missing, first_beyond, first_passed, place_bad, action_bad, all_passed}
use Rattle.text.specs.Laws.Walks.{reached_at}
use Rattle.text.proofs.checks.begin.Goals as goal

pub returns-in_err-unless : goal.returns-in_err-unless
returns-in_err-unless c =
    rw (first_missing c.args.s.now (rw c.first_line-line.ensures at (sym c.unless.ensures ∙ c.in_err-unless.was))) (search rules)

pub returns-in_err-unless-2 : goal.returns-in_err-unless-2
returns-in_err-unless-2 c =
    let line = c.first_line-line.ensures in
    rw (first_beyond c.args.s.now (rw (c.within_limits.ensures, line) at (sym c.unless-2.ensures ∙ c.in_err-unless-2.was))) (search rules)

pub returns-in_err-first : goal.returns-in_err-first
returns-in_err-first c =
    let passed : let s = c.args.s.now in (first_check s ≡ Passed) × (word_end s 0 (header s) ≡ length (header s)) =
    let line = c.first_line-line.ensures in
    first_passed _ (rw line at (sym c.unless.ensures ∙ c.in_ok-unless.was)) (rw (c.within_limits.ensures, line) at (sym c.unless-2.ensures ∙ c.in_ok-unless-2.was)) in
    rw (place_bad _ passed.0 (rw (c.first_line-line.ensures, passed.1) at (sym c.places.ensures ∙ c.in_err-first.was))) (search rules)

pub returns-in_err-edges : goal.returns-in_err-edges
returns-in_err-edges c =
    let passed : let s = c.args.s.now in (first_check s ≡ Passed) × (word_end s 0 (header s) ≡ length (header s)) =
    let line = c.first_line-line.ensures in
    first_passed _ (rw line at (sym c.unless.ensures ∙ c.in_ok-unless.was)) (rw (c.within_limits.ensures, line) at (sym c.unless-2.ensures ∙ c.in_ok-unless-2.was)) in
    let placed : let s = c.args.s.now in (walks (place_check s) 0 (places_in s) ≡ Passed) × (c.in_ok-first.first ≡ place_place s (places_in s)) =
    reached_at _ _ _ (rw (c.first_line-line.ensures, passed.1) at (sym c.places.ensures ∙ c.in_ok-first.was)) in
    rw (action_bad _ passed.0 placed.0 (rw (c.first_line-line.ensures, placed.1) at (sym c.actions.ensures ∙ c.in_err-edges.was))) (search rules)

pub returns : goal.returns
returns c =
    let passed : let s = c.args.s.now in (first_check s ≡ Passed) × (word_end s 0 (header s) ≡ length (header s)) =
    let line = c.first_line-line.ensures in
    first_passed _ (rw line at (sym c.unless.ensures ∙ c.in_ok-unless.was)) (rw (c.within_limits.ensures, line) at (sym c.unless-2.ensures ∙ c.in_ok-unless-2.was)) in
    let placed : let s = c.args.s.now in (walks (place_check s) 0 (places_in s) ≡ Passed) × (c.in_ok-first.first ≡ place_place s (places_in s)) =
    reached_at _ _ _ (rw (c.first_line-line.ensures, passed.1) at (sym c.places.ensures ∙ c.in_ok-first.was)) in
    let acted : let s = c.args.s.now in (walks (action_check s) 0 (actions_in s) ≡ Passed) × (c.in_ok-edges.edges ≡ edge_place s) =
    reached_at _ _ _ (rw (c.first_line-line.ensures, placed.1) at (sym c.actions.ensures ∙ c.in_ok-edges.was)) in
    rw (c.first_line-line.ensures, passed.1, placed.1, acted.1, all_passed _ passed.0 placed.0 acted.0)
