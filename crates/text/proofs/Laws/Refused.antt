-- A text that is refused is refused by 13, where its first bad or missing line starts.
use Rattle.std.specs.Prelude.{ℕ, zero, suc, ◌+◌, ◌<◌, ◌≤◌, Bool, false, ◌&&◌, List, ◌++◌, ◌≡◌, refl, leb, Ok, Err}
use Rattle.std.proofs.Math.Bool.{true}
use Rattle.std.proofs.Math.Logic.{inl, inr}
use Rattle.std.proofs.Common.{⊎_elim, sym, subst, ◌∙◌, le_refl, eq-or-lt_of_le, arith, leb-false, ltb-true}
use Rattle.std.proofs.Math.ListN.{length}
use Rattle.rows.specs.Sets.{Rel}
use Rattle.rows.specs.Laws.Truth.{and_both, is_false, not_both}
use Rattle.model.specs.declared.Action.{Action}
use Rattle.model.specs.Limits.{most_actions, most_threads, most_places, given_relations}
use Rattle.model.specs.Candidates.{action_ok}
use Rattle.model.specs.declared.refusals.Reason.{Reason}
use Rattle.model.specs.declared.refusals.Reason.TheVariants.{BadLine}
use Rattle.model.proofs.Laws.Refusals.{given_not_refused, same_refused}
use Rattle.model.specs.Refusals.{Passed, Refused, Walk}
use Rattle.drawing.specs.Files.{then, walks}
use Rattle.drawing.specs.Laws.Fits.{edition_known}
use Rattle.drawing.specs.Laws.Passed.{only_if}
use Rattle.spelling.specs.Spelling.{header_line, place_line, action_line, edge_line, end_line, turn, stands, edition_in, actions_in, threads_in, places_in, header, place_at, action_read}
use Rattle.spelling.specs.Laws.Stands.{starts_split, stands_split}
use Rattle.spelling.specs.Laws.First.{header_read, place_read}
use Rattle.spelling.specs.Laws.Actions.{action_read_lem}
use Rattle.text.specs.Texts.{along, edge_step, row_step, rows_step, relation_step, edge_taken, barred, place_place, action_place, edge_place, read_place, read_action, read_edge, end_place, candidate_in, fine, limits_ok, first_check, place_test, place_check, action_test, action_check, end_test, begin_check, lines_check}
use Rattle.text.specs.FirstBad.{NoFirst, NoPlace, NoAction, Past, NoEdge, BadFirst, BadPlace, BadAction, BadEdge, BadRest, FirstBad}
use Rattle.text.specs.Laws.Standing.{begins_with, along_stays}
use Rattle.text.proofs.Laws.Sound.{first_passed, action_passed, each_passed, places_stand, actions_stand, lines_in, lines_stand, text_stands, candidate_text}
use Rattle.text.proofs.Laws.Taken.{limited, place_limited, values_limited, kept_fitted, begun_lined, begun_fileable}

-- ---- where a check stops

passed_not_refused : (k : Reason) (q : ℕ) → Passed ≡ Refused k q → ⊥
passed_not_refused k q e = given_not_refused tt _ e

-- one part was refused, or it passed and the next was
then_refused : {C : Type 0} (v w : Walk) (k : Reason) (q : ℕ) → (v ≡ Refused k q → C) → (v ≡ Passed → w ≡ Refused k q → C) → then v w ≡ Refused k q → C
then_refused (Ok _) w k q stop next e = next refl e
then_refused (Err r) w k q stop next e = stop e

-- a test that failed is refused by 13 where it stands
fine_refused : (P : ℕ → Type 0) (ok : Bool) (at : ℕ) (k : Reason) (q : ℕ) → (ok ≡ false → P at) → fine ok at ≡ Refused k q → (k ≡ BadLine) × P q
fine_refused P true at k q bad e = absurd (passed_not_refused k q e)
fine_refused P false at k q bad e = let same = same_refused BadLine k at q e in (sym same.0, subst P same.1 (bad refl))

-- a walk from i on was refused at its first part that didn't pass
record Stops (f : ℕ → Walk) (i m : ℕ) (k : Reason) (q : ℕ) : Type 0 where
  at : ℕ
  from : i ≤ at
  below : at < i + m
  refused : f at ≡ Refused k q
  before : (j : ℕ) → i ≤ j → j < at → f j ≡ Passed

walks_stop : (f : ℕ → Walk) (i m : ℕ) (k : Reason) (q : ℕ) → walks f i m ≡ Refused k q → Stops f i m k q
unfolding walks
walks_stop f i zero k q e = absurd (passed_not_refused k q e)
walks_stop f i (suc m) k q e =
    then_refused (f i) (walks f (i + 1) m) k q
    (λ here. record { at = i; from = le_refl i; below = omega arith; refused = here; before = λ j l b. absurd (omega arith) })
    (λ passed later. let r = walks_stop f (i + 1) m k q later in
    record {
      at = r.at;
      from = omega (arith, r.from);
      below = omega (arith, r.below);
      refused = r.refused;
      before = λ j l b. ⊎_elim (λ (z : i ≡ j). rw (sym z) passed) (λ (z : i < j). r.before j (omega arith) b) (eq-or-lt_of_le l);
    })
    e

-- ---- a line that stood there would have been read, and have passed

no_first : (s : List ℕ) → (stands s 0 (header s) && limits_ok (edition_in s) (actions_in s) (threads_in s) (places_in s)) ≡ false → NoFirst s 0
no_first s bad e n t p ok = is_false _ (λ there.
    let l = limited e n t p ok in
    let (same_e, same_n, same_t, same_p) = header_read s e n t p _ (omega (arith, edition_known e l.edition)) (omega (arith, l.actions)) (omega (arith, l.threads)) (omega (arith, l.places)) (starts_split (header_line e n t p) s there) in
    not_both (rw (same_e, same_n, same_t, same_p) (and_both there ok)) bad)

no_place : (s : List ℕ) (q : ℕ) → stands s q (place_line (place_at s q)) ≡ false → NoPlace s q
no_place s q bad k ok = is_false _ (λ there.
    let same = place_read s q _ k (ltb-true k 3 ok) (stands_split s q (place_line k) there) in
    not_both (rw same there) bad)

no_action_lem : (t p : ℕ) → t ≤ most_threads → p ≤ most_places → (s : List ℕ) (q : ℕ) → (stands s q (action_line (action_read s q)) && action_ok t p (action_read s q)) ≡ false → NoAction t p s q
no_action_lem t p ht hp s q bad x ok values = is_false _ (λ there.
    let same = action_read_lem s q _ x (kept_fitted t p x ht hp ok values) (stands_split s q (action_line x) there) in
    not_both (rw same (and_both there ok)) bad)

-- ---- edges: from the turn of one on, after all that were taken, the place is that of the end

module _ (s : List ℕ) (n : ℕ) (bars : ℕ → Rel) (q : ℕ) where
  abbrev taken : ℕ → Rel
  taken = edge_taken s n bars q

  -- where relation k begins, where row a of it does, and where b has its turn
  abbrev relation_place : ℕ → ℕ
  relation_place k = along (relation_step s n bars) q k

  abbrev row_place : ℕ → ℕ → ℕ
  row_place k a = rows_step s n bars k (relation_place k) a

  abbrev turn_place : ℕ → ℕ → ℕ → ℕ
  turn_place k a b = along (edge_step s (bars k a) k a) (row_place k a) b

  row_stays : (k a b : ℕ) → b ≤ n → ((d : ℕ) → b ≤ d → d < n → taken k a d ≡ false) → row_step s n (bars k a) k a (row_place k a) ≡ turn_place k a b
  unfolding edge_taken edge_step
  row_stays k a b l none = along_stays (edge_step s (bars k a) k a) (row_place k a) b n l (λ d i j. rw (none d i j))

  rows_stay : (k a : ℕ) → a ≤ n → ((c d : ℕ) → a ≤ c → c < n → d < n → taken k c d ≡ false) → relation_step s n bars k (relation_place k) ≡ row_place k a
  unfolding along
  rows_stay k a l none =
      along_stays (λ c. row_step s n (bars k c) k c) (relation_place k) a n l
      (λ c i j. row_stays k c 0 (omega arith) (λ d h m. none c d i j m))

  relations_stay : (k : ℕ) → k ≤ given_relations → ((j c d : ℕ) → k ≤ j → j < given_relations → c < n → d < n → taken j c d ≡ false) → relation_place given_relations ≡ relation_place k
  unfolding along
  relations_stay k l none =
      along_stays (relation_step s n bars) q k given_relations l
      (λ j i h. rows_stay j 0 (omega arith) (λ c d m x y. none j c d i h x y))

  module _ (few : n ≤ most_actions) (k a b : ℕ) (hk : k < given_relations) (ha : a < n) (hb : b < n) (past : Past n taken k a b) where
    none_later : (j c d : ℕ) → j < given_relations → c < n → d < n → turn k a b ≤ turn j c d → taken j c d ≡ false
    none_later j c d hj hc hd later = is_false _ (λ t. omega (arith, later, past j c d hj hc hd t))

    turn_is_end : relation_place given_relations ≡ turn_place k a b
    unfolding along
    turn_is_end =
        relations_stay (suc k) hk (λ j c d i hj hc hd. none_later j c d hj hc hd (omega arith))
        ∙ rows_stay k (suc a) ha (λ c d i hc hd. none_later k c d hk hc hd (omega arith))
        ∙ row_stays k a b (omega arith) (λ d i hd. none_later k a d hk ha hd (omega arith))

    -- so it would have been taken at its turn
    not_there : bars k a b ≡ false → stands s (relation_place given_relations) (edge_line k a b) ≡ false
    unfolding edge_taken
    not_there free = is_false _ (λ there.
        let here : stands s (turn_place k a b) (edge_line k a b) ≡ true = rw (sym turn_is_end) there in
        let t : taken k a b ≡ true = rw free here in
        omega (arith, past k a b hk ha hb t))

no_edge : (s : List ℕ) (n : ℕ) (act : ℕ → Action) (q : ℕ) → n ≤ most_actions → NoEdge n act (edge_taken s n (barred act) q) s (along (relation_step s n (barred act)) q given_relations)
no_edge s n act q few k a b hk ha hb free past = not_there s n (barred act) q few k a b hk ha hb past free

-- ---- the first bad line, by where the check stops

module _ (s : List ℕ) where
  abbrev first_fine : Bool
  first_fine = stands s 0 (header s) && limits_ok (edition_in s) (actions_in s) (threads_in s) (places_in s)

  abbrev place_fine : ℕ → Bool
  place_fine i = stands s (place_place s i) (place_line (read_place s i))

  abbrev action_fine : ℕ → Bool
  action_fine i = stands s (action_place s i) (action_line (read_action s i)) && action_ok (threads_in s) (places_in s) (read_action s i)

  bad_first : first_fine ≡ false → BadFirst s 0
  bad_first bad = record { at = refl; missing = no_first s bad }

  module _ (first : first_check s ≡ Passed) where
    bad_place : (i : ℕ) → i < places_in s → ((j : ℕ) → j < i → place_check s j ≡ Passed) → place_fine i ≡ false → BadPlace s (place_place s i)
    bad_place i fewer before bad =
        record {
          e = edition_in s;
          n = actions_in s;
          t = threads_in s;
          p = places_in s;
          place = read_place s;
          i = i;
          limits = (first_passed s first).1;
          places = λ j l. place_limited s (place_place s j);
          fewer = fewer;
          begins = begins_with s _ (place_place s i) (places_stand s first i before);
          missing = no_place s (place_place s i) bad;
        }

    bad_action : ((j : ℕ) → j < places_in s → place_check s j ≡ Passed) → (i : ℕ) → i < actions_in s → ((j : ℕ) → j < i → action_check s j ≡ Passed) → action_fine i ≡ false → BadAction s (action_place s i)
    bad_action places i fewer before bad =
        let l = limited (edition_in s) (actions_in s) (threads_in s) (places_in s) (first_passed s first).1 in
        record {
          e = edition_in s;
          n = actions_in s;
          t = threads_in s;
          p = places_in s;
          place = read_place s;
          act = read_action s;
          i = i;
          limits = (first_passed s first).1;
          places = λ j h. place_limited s (place_place s j);
          actions = λ j h. ((action_passed s j (before j h)).1, values_limited s (action_place s j));
          fewer = fewer;
          begins = begins_with s _ (action_place s i) (actions_stand s first places i before);
          missing = no_action_lem (threads_in s) (places_in s) l.threads l.places s (action_place s i) bad;
        }

  module _ (begun : begin_check s ≡ Passed) where
    bad_edge : stands s (end_place s) end_line ≡ false → BadEdge s (end_place s)
    bad_edge bad =
        let lined = begun_lined s begun in
        let l = limited (edition_in s) (actions_in s) (threads_in s) (places_in s) lined.limits in
        record {
          e = edition_in s;
          n = actions_in s;
          t = threads_in s;
          p = places_in s;
          place = read_place s;
          act = read_action s;
          r = read_edge s;
          lined = lined;
          begins = begins_with s (lines_in s) (end_place s) (lines_stand s begun);
          missing = no_edge s (actions_in s) (read_action s) (edge_place s) l.actions;
          endless = bad;
        }

    bad_rest : stands s (end_place s) end_line ≡ true → leb (length s) (end_place s + length end_line) ≡ false → BadRest s (end_place s + length end_line)
    bad_rest last bad =
        let after = end_place s + length end_line in
        record {
          X = candidate_in s;
          fileable = begun_fileable s begun;
          begins = rw (candidate_text s) (begins_with s (lines_in s ++ end_line) after (text_stands s begun last));
          more = leb-false (length s) after bad;
        }

  -- ---- the whole check

  module _ (k : Reason) (q : ℕ) where
    abbrev Told : Type 0
    Told = (k ≡ BadLine) × FirstBad s q

    told_first : first_check s ≡ Refused k q → Told
    unfolding first_check
    told_first = fine_refused (FirstBad s) first_fine 0 k q (λ bad. inl (bad_first bad))

    told_place : first_check s ≡ Passed → walks (place_check s) 0 (places_in s) ≡ Refused k q → Told
    unfolding place_test
    told_place first e =
        let r = walks_stop (place_check s) 0 (places_in s) k q e in
        fine_refused (FirstBad s) (place_fine r.at) (place_place s r.at) k q
        (λ bad. inr (inl (bad_place first r.at (omega (arith, r.below)) (λ j l. r.before j (omega arith) l) bad)))
        r.refused

    told_action : first_check s ≡ Passed → walks (place_check s) 0 (places_in s) ≡ Passed → walks (action_check s) 0 (actions_in s) ≡ Refused k q → Told
    unfolding action_test
    told_action first places e =
        let r = walks_stop (action_check s) 0 (actions_in s) k q e in
        fine_refused (FirstBad s) (action_fine r.at) (action_place s r.at) k q
        (λ bad. inr (inr (inl (bad_action first (each_passed (place_check s) (places_in s) places) r.at (omega (arith, r.below)) (λ j l. r.before j (omega arith) l) bad))))
        r.refused

    told_begin : begin_check s ≡ Refused k q → Told
    unfolding begin_check
    told_begin =
        then_refused (first_check s) _ k q told_first λ first.
        then_refused (walks (place_check s) 0 (places_in s)) _ k q (told_place first) (told_action first)

    told_end : begin_check s ≡ Passed → end_test s (end_place s) ≡ Refused k q → Told
    unfolding end_test
    told_end begun =
        let at = end_place s in
        let after = at + length end_line in
        then_refused (fine (stands s at end_line) at) _ k q
        (fine_refused (FirstBad s) (stands s at end_line) at k q (λ bad. inr (inr (inr (inl (bad_edge begun bad))))))
        (λ last. fine_refused (FirstBad s) (leb (length s) after) after k q (λ bad. inr (inr (inr (inr (bad_rest begun (only_if _ _ _ _ last).0 bad))))))

pub refused_first : (s : List ℕ) (k : Reason) (q : ℕ) → lines_check s ≡ Refused k q → (k ≡ BadLine) × FirstBad s q
unfolding lines_check
refused_first s k q = then_refused (begin_check s) _ k q (told_begin s k q) (told_end s k q)
