-- A text is refused by 13 where its first bad or missing line starts.
use Rattle.std.specs.Prelude.{ℕ, zero, suc, ◌+◌, ◌<◌, ◌≤◌, ◌&&◌, List, ◌≡◌, leb, length}
use Rattle.std.proofs.Common.{⊎_elim, ◌∙◌, eq-or-lt_of_le, arith}
use Rattle.std.proofs.Math.Path.{sym, ap, subst}
use Rattle.std.proofs.lemmas.Bool.{lt-leb}
use Rattle.rows.specs.Laws.Truth.{both_true, not_both, is_false}
use Rattle.model.specs.Candidates.{action_ok}
use Rattle.model.specs.declared.refusals.Reason.{Reason}
use Rattle.model.specs.declared.refusals.Reason.TheVariants.{BadLine}
use Rattle.model.specs.Refusals.{Passed, Refused, Walk}
use Rattle.drawing.specs.Files.{walks}
use Rattle.spelling.specs.Spelling.{action_line, stands, edition_in, actions_in, threads_in, places_in, header, place_at, action_read}
use Rattle.text.specs.Texts.{text_of, place_place, action_place, end_place, fine, limits_ok, first_check, place_test, place_check, action_test, action_check, end_test, begin_check, lines_check}
use Rattle.text.specs.FirstBad.{NoFirst, NoPlace, NoAction, NoEdge, BadFirst, BadPlace, BadAction, BadEdge, BadRest, FirstBad}
use Rattle.text.proofs.Laws.Taken.{place_limited, values_limited}
use Rattle.text.proofs.Laws.Again.{places_read, places_pass, actions_read, lines_read}
use Rattle.text.proofs.Laws.Candidates.{text_check_lem}

-- a walk is refused at the first of its parts that doesn't pass
walks_refused : (f : ℕ → Walk) (i m j : ℕ) (k : Reason) (q : ℕ) → i ≤ j → j < i + m → ((h : ℕ) → h < j → f h ≡ Passed) → f j ≡ Refused k q → walks f i m ≡ Refused k q
unfolding walks
walks_refused f i zero j k q l b before here = absurd (let z : ⊥ = omega arith in z)
walks_refused f i (suc m) j k q l b before here =
    ⊎_elim
    (λ (e : i ≡ j). rw (e, here))
    (λ (e : i < j). rw (before i e) (walks_refused f (i + 1) m j k q (omega arith) (omega arith) before here))
    (eq-or-lt_of_le l)

-- ---- a line that is missing fails its test

no_first_passes : (s : List ℕ) → NoFirst s 0 → first_check s ≡ Refused BadLine 0
unfolding first_check
no_first_passes s missing =
    rw (is_false (stands s 0 (header s) && limits_ok (edition_in s) (actions_in s) (threads_in s) (places_in s)) (λ t.
    let (stood, limits) = both_true (stands s 0 (header s)) _ t in
    not_both stood (missing (edition_in s) (actions_in s) (threads_in s) (places_in s) limits)))

no_place_passes : (s : List ℕ) (q : ℕ) → NoPlace s q → place_test s q ≡ Refused BadLine q
unfolding place_test
no_place_passes s q missing = rw (missing (place_at s q) (place_limited s q))

no_action_passes : (s : List ℕ) (t p q : ℕ) → NoAction t p s q → action_test s t p q ≡ Refused BadLine q
unfolding action_test
no_action_passes s t p q missing =
    rw (is_false (stands s q (action_line (action_read s q)) && action_ok t p (action_read s q)) (λ h.
    let (stood, kept) = both_true (stands s q (action_line (action_read s q))) _ h in
    not_both stood (missing (action_read s q) kept (values_limited s q))))

-- ---- the first bad line

module _ (s : List ℕ) (q : ℕ) where
  bad_first : BadFirst s q → lines_check s ≡ Refused BadLine q
  unfolding lines_check begin_check
  bad_first bad =
      let missing = subst (NoFirst s) bad.at bad.missing in
      rw (no_first_passes s missing, bad.at)

  bad_place : BadPlace s q → lines_check s ≡ Refused BadLine q
  unfolding lines_check begin_check
  bad_place bad =
      let read = places_read s bad.e bad.n bad.t bad.p bad.place bad.i bad.limits bad.places bad.begins.is in
      let here : place_place s bad.i ≡ q = read.at ∙ sym bad.begins.at in
      let fails : place_check s bad.i ≡ Refused BadLine q = ap (place_test s) here ∙ no_place_passes s q bad.missing in
      let places = walks_refused (place_check s) 0 (places_in s) bad.i BadLine q (omega arith) (omega (arith, bad.fewer, read.first.places_is)) read.pass fails in
      rw (read.first.passes, places)

  bad_action : BadAction s q → lines_check s ≡ Refused BadLine q
  unfolding lines_check begin_check
  bad_action bad =
      let read = actions_read s bad.e bad.n bad.t bad.p bad.place bad.act bad.i bad.limits bad.places bad.actions bad.begins.is in
      let first = read.places.first in
      let here : action_place s bad.i ≡ q = read.at ∙ sym bad.begins.at in
      let missing = rw (sym first.threads_is, sym first.places_is) at bad.missing in
      let fails : action_check s bad.i ≡ Refused BadLine q = ap (action_test s (threads_in s) (places_in s)) here ∙ no_action_passes s (threads_in s) (places_in s) q missing in
      let actions = walks_refused (action_check s) 0 (actions_in s) bad.i BadLine q (omega arith) (omega (arith, bad.fewer, first.actions_is)) read.pass fails in
      rw (first.passes, places_pass s bad.e bad.n bad.t bad.p bad.place read.places, actions)

  bad_edge : BadEdge s q → lines_check s ≡ Refused BadLine q
  unfolding lines_check end_test
  bad_edge bad =
      let missing = subst (NoEdge bad.n bad.act bad.r s) bad.begins.at bad.missing in
      let read = lines_read s bad.e bad.n bad.t bad.p bad.place bad.act bad.r bad.lined bad.begins.is missing in
      let here : end_place s ≡ q = read.at ∙ sym bad.begins.at in
      rw (read.passes, here, bad.endless)

  bad_rest : BadRest s q → lines_check s ≡ Refused BadLine q
  bad_rest bad =
      let here : length (text_of bad.X) ≡ q = sym bad.begins.at in
      text_check_lem bad.X bad.fileable s bad.begins.is
      ∙ ap (λ (x : ℕ). fine (leb (length s) x) x) here
      ∙ rw (lt-leb (length s) q bad.more)

pub bad_refused : (s : List ℕ) (q : ℕ) → FirstBad s q → lines_check s ≡ Refused BadLine q
bad_refused s q = ⊎_elim (bad_first s q) (⊎_elim (bad_place s q) (⊎_elim (bad_action s q) (⊎_elim (bad_edge s q) (bad_rest s q))))
