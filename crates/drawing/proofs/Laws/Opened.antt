-- What an open drawing gives is its candidate's.
use mathlib.Core.Path.{fun_ext}
use Rattle.std.specs.Prelude.{ℕ, ◌+◌, ◌-◌, ◌<◌, ◌≤◌, ◌≡◌, refl, true, cond, List, [], Ok, ltb, get_or, length, take, drop}
use Rattle.std.proofs.Common.{sym, ap, ◌∙◌, ⊎_elim, lt-ltb, le-ltb}
use native.Mathlib.Omega.{arith}
use Rattle.std.proofs.Math.ListN.{get_or-eq_default}
use Rattle.rows.specs.Laws.Truth.{lt_or_le}
use Rattle.rows.specs.Numbers.{rel, listed}
use Rattle.rows.specs.Sets.{Rel}
use Rattle.model.specs.Actions.{no_action}
use Rattle.model.specs.Candidates.{Candidate, action_ok, given}
use Rattle.model.specs.Limits.{most_actions, given_relations}
use Rattle.model.specs.declared.Header.{Header}
use Rattle.drawing.specs.Open.{Heads}
use Rattle.drawing.specs.Files.{place_bytes, action_at, action_of, action_no, rows_of, candidate_with, candidate_of, check_of}
use Rattle.drawing.proofs.Laws.Good.{Taken, good_taken, good_candidate}
use Rattle.drawing.proofs.Laws.Formed.{acts_at, acts_length, given_at, places_at, places_length, places_lent}

module _ (s : List ℕ) (h : Header) (good : check_of s ≡ Ok h) where
  pub opened : Taken s h.edition h.n h.t h.p
  opened = good_taken s h.edition h.n h.t h.p good

  pub opened_heads : Heads (candidate_of s) h
  unfolding candidate_with
  opened_heads =
      let g = opened in
      rw (good_candidate s h.edition h.n h.t h.p g) (record { edition = refl; n = refl; t = refl; p = refl; actions = g.actions; threads = g.threads; places = g.places })

  pub opened_places : take (place_bytes + h.p - place_bytes) (drop place_bytes s) ≡ (candidate_of s).places
  opened_places = sym (places_lent s h.edition h.n h.t h.p opened)

  pub opened_action : (i : ℕ) → i < h.n → action_of s (action_at h.p i) ≡ get_or (candidate_of s).acts i no_action
  opened_action i l = rw (good_candidate s h.edition h.n h.t h.p opened) (sym (acts_at s h.edition h.n h.t h.p i l))

  pub opened_kept : (i : ℕ) → i < h.n → action_ok h.t h.p (action_of s (action_at h.p i)) ≡ true
  opened_kept i l = (opened.action i l).kept

  -- past its actions there are none
  opened_at : (i : ℕ) → action_no s h.n h.p i ≡ get_or (candidate_of s).acts i no_action
  unfolding action_no
  opened_at i =
      let X = candidate_with s h.edition h.n h.t h.p in
      ⊎_elim
      (λ (l : i < h.n). rw (lt-ltb i h.n l) (opened_action i l))
      (λ (l : h.n ≤ i).
      let past : length X.acts ≤ i = omega (arith, acts_length s h.edition h.n h.t h.p opened) in
      rw (le-ltb i h.n l, good_candidate s h.edition h.n h.t h.p opened) (sym (get_or-eq_default X.acts no_action past)))
      (lt_or_le i h.n)

  pub opened_actions : listed most_actions (action_no s h.n h.p) ≡ listed most_actions (λ i. get_or (candidate_of s).acts i no_action)
  opened_actions = ap (listed most_actions) (fun_ext opened_at)

  pub opened_given : (j : ℕ) (old : Rel) → cond (ltb j given_relations) (rel (rows_of s h.n h.p j)) old ≡ cond (ltb j given_relations) (rel (get_or (given (candidate_of s)) j [])) old
  opened_given j old = ⊎_elim
      (λ (l : j < given_relations). ap (λ (r : List ℕ). cond (ltb j given_relations) (rel r) old) (sym (given_at s h.edition h.n h.t h.p j l) ∙ ap (λ (X : Candidate). get_or (given X) j []) (sym (good_candidate s h.edition h.n h.t h.p opened))))
      (λ (l : given_relations ≤ j). rw (le-ltb j given_relations l))
      (lt_or_le j given_relations)

  -- a store that was filled with its relations holds their rows
  pub opened_filled : (old new : ℕ → Rel) → ((j : ℕ) → new j ≡ cond (ltb j given_relations) (rel (get_or (given (candidate_of s)) j [])) (old j)) → (j : ℕ) → new j ≡ cond (ltb j given_relations) (rel (rows_of s h.n h.p j)) (old j)
  opened_filled old new filled j = filled j ∙ sym (opened_given j (old j))

  -- its place bytes, one by one
  pub opened_places_length : length (candidate_of s).places ≡ h.p
  opened_places_length = rw (good_candidate s h.edition h.n h.t h.p opened) (places_length s h.edition h.n h.t h.p opened)

  pub opened_place : (i : ℕ) → i < h.p → get_or (candidate_of s).places i 0 ≡ get_or s (place_bytes + i) 0
  opened_place i l = rw (good_candidate s h.edition h.n h.t h.p opened) (places_at s h.edition h.n h.t h.p i l)
