-- What is read of a text whose lines passed, up to its edges, is within the limits: its candidate can be held by a file.
use Rattle.std.specs.Prelude.{ℕ, ◌<◌, ◌≤◌, Bool, true, false, cond, ◌&&◌, ◌||◌, List, ◌≡◌, refl, ltb, leb}
use Rattle.std.proofs.Math.Bool.{not}
use Rattle.std.proofs.Common.{sym, ◌∙◌, arith, eq-eqb, eqb-true, leb-true}
use Rattle.std.proofs.Math.Path.{ap}
use Rattle.std.proofs.Math.Dec.{eqb}
use Rattle.std.proofs.lemmas.Bool.{not-true}
use Rattle.rows.specs.Numbers.{rel}
use Rattle.rows.specs.Laws.Truth.{both_true, and_1, is_false, not_both}
use Rattle.rows.specs.Laws.Lists.{listed_length}
use Rattle.rows.proofs.Laws.Quantifiers.{any_none}
use Rattle.model.specs.declared.Action.{Action}
use Rattle.model.specs.Limits.{newest_edition, most_actions, most_threads, most_places}
use Rattle.model.specs.Candidates.{Candidate, action_in, reads, writes, is_fence, edition_ok, place_ok, values_ok, action_ok, place_byte_ok, to_others, Values}
use Rattle.model.specs.Laws.Formed.{Parts, parts_formed, rows_formed}
use Rattle.model.specs.Refusals.{Passed}
use Rattle.drawing.specs.Files.{Fileable}
use Rattle.drawing.specs.Laws.Fits.{action_fits}
use Rattle.drawing.specs.Laws.Passed.{both_pass}
use Rattle.spelling.specs.Spelling.{place_line, stands, edition_in, actions_in, threads_in, places_in, place_at, action_read}
use Rattle.spelling.specs.Laws.Actions.{Fitted}
use Rattle.spelling.specs.Laws.Scans.{clipped_below}
use Rattle.text.specs.Texts.{edge_taken, place_place, action_place, read_place, read_action, bars, read_edge, candidate_in, limits_ok, begin_check, lines_check}
use Rattle.text.specs.FirstBad.{Lined}
use Rattle.text.proofs.Laws.Sound.{first_passed, action_passed, begin_parts, given_in, place_in, action_in_lem, edge_in}

-- ---- what a line is read as is within its limits

pub record Limited (e n t p : ℕ) : Type 0 where
  pub edition : edition_ok newest_edition e ≡ true
  pub actions : n ≤ most_actions
  pub threads : t ≤ most_threads
  pub places : p ≤ most_places

pub limited : (e n t p : ℕ) → limits_ok e n t p ≡ true → Limited e n t p
unfolding limits_ok
limited e n t p h =
    let (edition, h) = both_true (edition_ok newest_edition e) _ h in
    let (actions, h) = both_true (leb n most_actions) _ h in
    let (threads, places) = both_true (leb t most_threads) _ h in
    record {
      edition = edition;
      actions = leb-true n most_actions actions;
      threads = leb-true t most_threads threads;
      places = leb-true p most_places places;
    }

pub place_limited : (s : List ℕ) (q : ℕ) → place_byte_ok (place_at s q) ≡ true
unfolding place_at
place_limited s q = go (stands s q (place_line 0)) (stands s q (place_line 1))
  where
    go : (a b : Bool) → place_byte_ok (cond a 0 (cond b 1 2)) ≡ true
    go true b = refl
    go false true = refl
    go false false = refl

pub values_limited : (s : List ℕ) (q : ℕ) → Values (action_read s q)
unfolding action_read
values_limited s q = (clipped_below 4294967296 _ (omega arith), clipped_below 4294967296 _ (omega arith))

-- an action that keeps the rules fits its line
absent : (has : Bool) (v : ℕ) → (has || eqb v 0) ≡ true → has ≡ false → v ≡ 0
absent true v e z = not_both refl z
absent false v e z = eqb-true v 0 e

fence_place : (fence : Bool) (v p : ℕ) → cond fence (eqb v 65535) (ltb v p) ≡ true → not fence ≡ false → v ≡ 65535
fence_place true v p e z = eqb-true v 65535 e
fence_place false v p e z = not_both refl z

pub kept_fitted : (t p : ℕ) (x : Action) → t ≤ most_threads → p ≤ most_places → action_ok t p x ≡ true → Values x → Fitted x
unfolding action_ok
kept_fitted t p x ht hp e v =
    let fits = action_fits t p x ht hp e v in
    let (of, values) = both_true (ltb x.thread t && place_ok p x) (values_ok x) e in
    let (read, written) = both_true (reads x || eqb x.read 0) (writes x || eqb x.written 0) values in
    record {
      thread_fits = fits.thread;
      place_fits = fits.place;
      no_place = fence_place (is_fence x) x.place p (both_true (ltb x.thread t) (place_ok p x) of).1;
      read_fits = fits.read;
      no_read = absent (reads x) x.read read;
      written_fits = fits.written;
      no_written = absent (writes x) x.written written;
    }

-- an edge that is taken isn't barred
edge_free : (s : List ℕ) (k a b : ℕ) → read_edge s k a b ≡ true → bars s k a b ≡ false
unfolding edge_taken
edge_free s k a b t = not-true (bars s k a b) (and_1 (not (bars s k a b)) _ t)

pub begun_lined : (s : List ℕ) → begin_check s ≡ Passed → Lined (edition_in s) (actions_in s) (threads_in s) (places_in s) (read_place s) (read_action s) (read_edge s)
begun_lined s e =
    let b = begin_parts s e in
    record {
      limits = (first_passed s b.first).1;
      places = λ j l. place_limited s (place_place s j);
      actions = λ j l. ((action_passed s j (b.action j l)).1, values_limited s (action_place s j));
      free = λ k a b hk ha hb t. edge_free s k a b t;
    }

-- ---- its candidate

module _ (s : List ℕ) (h : Lined (edition_in s) (actions_in s) (threads_in s) (places_in s) (read_place s) (read_action s) (read_edge s)) where
  abbrev X : Candidate
  X = candidate_in s

  abbrev n : ℕ
  n = actions_in s

  within : Limited (edition_in s) n (threads_in s) (places_in s)
  within = limited (edition_in s) n (threads_in s) (places_in s) h.limits

  -- asw joins different threads
  apart : (a b : ℕ) → a < n → b < n → rel X.asw a b ≡ true → eqb (action_in X b).thread (action_in X a).thread ≡ true → ⊥
  apart a b la lb edge same =
      let e : (action_in X b).thread ≡ (action_in X a).thread = eqb-true _ _ same in
      let f : (read_action s a).thread ≡ (read_action s b).thread = rw (sym (action_in_lem s a la), sym (action_in_lem s b lb)) (sym e) in
      not_both (eq-eqb (read_action s a).thread (read_action s b).thread f) (h.free 1 a b (omega arith) la lb (sym (edge_in s 1 a b (omega arith) la lb) ∙ edge))

  others : (a : ℕ) → a < n → to_others n (action_in X) (rel X.asw a) a ≡ true
  unfolding to_others
  others a la =
      ap not (any_none n (λ b. rel X.asw a b && eqb (action_in X b).thread (action_in X a).thread)
      (λ b lb. is_false _ (λ t. let (edge, same) = both_true (rel X.asw a b) _ t in apart a b la lb edge same)))

  formed : Parts X
  unfolding candidate_in
  formed =
      record {
        edition = within.edition;
        bytes = listed_length (read_place s) (places_in s);
        byte = λ i l. rw (place_in s i l) (h.places i l);
        actions = listed_length (read_action s) n;
        action = λ i l. rw (action_in_lem s i l) (h.actions i l).0;
        rows = λ k l. rw (given_in s k l) (rows_formed n (read_edge s k));
        others = others;
      }

  lined_fileable : Fileable X
  unfolding candidate_in
  lined_fileable =
      record {
        within = record { actions = within.actions; threads = within.threads; places = within.places };
        valued = record { each = λ i l. rw (action_in_lem s i l) (h.actions i l).1 };
        formed = parts_formed X formed;
      }

pub begun_fileable : (s : List ℕ) → begin_check s ≡ Passed → Fileable (candidate_in s)
begun_fileable s e = lined_fileable s (begun_lined s e)

pub text_fileable : (s : List ℕ) → lines_check s ≡ Passed → Fileable (candidate_in s)
unfolding lines_check
text_fileable s e = begun_fileable s (both_pass (begin_check s) _ e).0
