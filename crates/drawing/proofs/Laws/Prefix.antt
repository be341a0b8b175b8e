-- The check looks at no more than `fileRoom` bytes: a file and as many of its first bytes have the same answer.
use Prim.Native.Nat.{ℕ, zero, suc, ◌+◌, ◌*◌, ◌<◌, ◌≤◌, min}
use Rattle.std.specs.Prelude.{◌≡◌, Bool, true, false, List, length, get_or, take, ltb, Ok, Err}
use Rattle.std.proofs.Math.Path.{refl}
use Rattle.std.proofs.Common.{ap, arith, length-take, get_or-take, lt-ltb, le-ltb, ltb-true, ltb-false}
use Rattle.std.proofs.Math.Nat.{mul-le-mul}
use Rattle.model.specs.Limits.{newest_edition, most_actions, most_places, given_relations}
use Rattle.model.specs.Laws.Others.{others_ext}
use Rattle.rows.specs.Numbers.{bit}
use Rattle.model.specs.Refusals.{Passed, Walk}
use Rattle.drawing.specs.Files.{le_at, edition_in, actions_in, threads_in, places_in, place_bytes, action_at, row_bytes, rows_length, relation_at, row_at, row_in, end_at, action_of, recorded, then, walks, head_check, edition_check, limits_check, header_check, place_check, places_check, fields_ok, action_check, actions_check, row_check, start_check, starts_check, relation_check, relations_check, end_check, records_check, answer, longest_file, file_room, check_by, check_of}
use Rattle.drawing.specs.Laws.Passed.{header_limited}
use Rattle.drawing.specs.Laws.Sizes.{row_inside, rows_most}

-- parts that agree make the same walk
pub walks_same : (f g : ℕ → Walk) (i m : ℕ) → ((j : ℕ) → j < i + m → f j ≡ g j) → walks f i m ≡ walks g i m
unfolding walks
walks_same f g i zero h = refl
walks_same f g i (suc m) h = rw (h i (omega arith), walks_same f g (i + 1) m (λ j l. h j (omega arith)))

-- what follows a part matters only where the part passes
pub then_same : (w x y : Walk) → (w ≡ Passed → x ≡ y) → then w x ≡ then w y
then_same (Ok _) x y h = h refl
then_same (Err r) x y h = refl

module _ (s u : List ℕ) (same : (i : ℕ) → i < file_room → get_or s i 0 ≡ get_or u i 0) (below : (x : ℕ) → x ≤ longest_file → ltb (length s) x ≡ ltb (length u) x) (above : (x : ℕ) → x ≤ longest_file → ltb x (length s) ≡ ltb x (length u)) where
  le_same : (p w : ℕ) → p + w ≤ file_room → le_at s p w ≡ le_at u p w
  unfolding le_at
  le_same p zero h = refl
  le_same p (suc w) h = rw (same p (omega arith), le_same (p + 1) w (omega arith))

  head_same : (at kind len : ℕ) → at + 4 + len ≤ longest_file → head_check s at kind len ≡ head_check u at kind len
  unfolding head_check
  head_same at kind len h = rw (below (at + 4) (omega arith), below (at + 4 + len) (omega arith), le_same (at + 2) 2 (omega arith), le_same at 2 (omega arith))

  header_same : (newest : ℕ) → header_check newest s ≡ header_check newest u
  unfolding header_check edition_check limits_check
  header_same newest = rw (head_same 0 1 8 (omega arith), le_same 4 2 (omega arith), le_same 6 2 (omega arith), le_same 8 2 (omega arith), le_same 10 2 (omega arith))

  places_same : (p : ℕ) → p ≤ most_places → places_check s p ≡ places_check u p
  unfolding places_check place_check
  places_same p h =
      rw (head_same 12 2 p (omega arith), walks_same (place_check s) (place_check u) 0 p (λ j l. rw (same (place_bytes + j) (omega arith))))

  action_of_same : (at : ℕ) → at + 20 ≤ longest_file → action_of s at ≡ action_of u at
  unfolding action_of
  action_of_same at h =
      rw (same (at + 4) (omega arith), same (at + 5) (omega arith), le_same (at + 6) 2 (omega arith), le_same (at + 8) 2 (omega arith), le_same (at + 12) 4 (omega arith), le_same (at + 16) 4 (omega arith))

  action_same : (t p at : ℕ) → at + 20 ≤ longest_file → action_check s t p at ≡ action_check u t p at
  unfolding action_check fields_ok
  action_same t p at h =
      rw (head_same at 3 16 (omega arith), same (at + 4) (omega arith), same (at + 5) (omega arith), le_same (at + 10) 2 (omega arith), action_of_same at h)

  actions_same : (n t p : ℕ) → n ≤ most_actions → p ≤ most_places → actions_check s n t p ≡ actions_check u n t p
  unfolding actions_check
  actions_same n t p hn hp =
      walks_same (λ i. action_check s t p (action_at p i)) (λ i. action_check u t p (action_at p i)) 0 n (λ j l. action_same t p (action_at p j) (omega arith))

  row_same : (n at a : ℕ) → row_at n at n ≤ longest_file → a < n → row_in s n at a ≡ row_in u n at a
  row_same n at a h l = le_same (row_at n at a) (row_bytes n) (omega (arith, row_inside n a n l))

  start_same : (n p at a : ℕ) → n ≤ most_actions → p ≤ most_places → row_at n at n ≤ longest_file → a < n → start_check s n p at a ≡ start_check u n p at a
  unfolding start_check
  start_same n p at a hn hp h l =
      rw (others_ext n (recorded s p) (recorded u p) (bit (row_in s n at a)) (bit (row_in u n at a)) a l (λ i m. action_of_same (action_at p i) (omega arith)) (ap bit (row_same n at a h l)))

  starts_same : (n p at k : ℕ) → n ≤ most_actions → p ≤ most_places → row_at n at n ≤ longest_file → starts_check s n p at k ≡ starts_check u n p at k
  unfolding starts_check
  starts_same n p at k hn hp h = rw (walks_same (start_check s n p at) (start_check u n p at) 0 n (λ a l. start_same n p at a hn hp h (omega arith)))

  relation_same : (n p at k : ℕ) → n ≤ most_actions → p ≤ most_places → row_at n at n ≤ longest_file → relation_check s n p at k ≡ relation_check u n p at k
  unfolding relation_check row_check
  relation_same n p at k hn hp h =
      rw (head_same at 4 (2 + rows_length n n) (omega arith), le_same (at + 4) 2 (omega arith), walks_same (row_check s n at) (row_check u n at) 0 n (λ a l. rw (row_same n at a h (omega arith))), starts_same n p at k hn hp h)

  relations_same : (n p : ℕ) → n ≤ most_actions → p ≤ most_places → relations_check s n p ≡ relations_check u n p
  unfolding relations_check
  relations_same n p hn hp =
      walks_same (λ k. relation_check s n p (relation_at n p k) k) (λ k. relation_check u n p (relation_at n p k) k) 0 given_relations
      (λ k l.
      let most = rows_most n n in
      let near : (6 + rows_length n n) * k ≤ (6 + 16 * most_actions) * 6 = mul-le-mul {n₂ = 6 + 16 * most_actions} {m₂ = 6} (omega arith) (omega arith) in
      relation_same n p (relation_at n p k) k hn hp (omega arith))

  end_same : (at : ℕ) → at + 4 ≤ longest_file → end_check s at ≡ end_check u at
  unfolding end_check
  end_same at h = rw (head_same at 5 0 (omega arith), above (at + 4) h)

  records_same : (n t p : ℕ) → n ≤ most_actions → p ≤ most_places → records_check s n t p ≡ records_check u n t p
  unfolding records_check
  records_same n t p hn hp = rw (places_same p hp, actions_same n t p hn hp, relations_same n p hn hp, end_same (end_at n p) (omega (arith, rows_most n n)))

  check_same : (newest : ℕ) → check_by newest s ≡ check_by newest u
  unfolding check_by
  check_same newest =
      rw (le_same 4 2 (omega arith), le_same 6 2 (omega arith), le_same 8 2 (omega arith), le_same 10 2 (omega arith), header_same newest)
      (ap (λ (w : Walk). answer w (edition_in u) (actions_in u) (threads_in u) (places_in u)) (then_same (header_check newest u) _ _ (λ e.
      let l = header_limited newest u e in
      records_same (actions_in u) (threads_in u) (places_in u) l.actions l.places)))

-- the least of `fileRoom` and a length compares with a number up to `longestFile` as the length does
min_under : (k x : ℕ) → x ≤ longest_file → (b : Bool) → ltb k x ≡ b → ltb (min file_room k) x ≡ b
min_under k x h true e = let l = ltb-true k x e in lt-ltb (min file_room k) x (omega arith)
min_under k x h false e = let l = ltb-false k x e in le-ltb (min file_room k) x (omega arith)

min_over : (k x : ℕ) → x ≤ longest_file → (b : Bool) → ltb x k ≡ b → ltb x (min file_room k) ≡ b
min_over k x h true e = let l = ltb-true x k e in lt-ltb x (min file_room k) (omega arith)
min_over k x h false e = let l = ltb-false x k e in le-ltb x (min file_room k) (omega arith)

-- what a program reads into `fileRoom` bytes is enough
pub check_prefix : (s : List ℕ) → check_of (take file_room s) ≡ check_of s
check_prefix s =
    check_same (take file_room s) s (λ i h. get_or-take file_room s i 0 h)
    (λ x h. rw length-take (min_under (length s) x h (ltb (length s) x) refl))
    (λ x h. rw length-take (min_over (length s) x h (ltb x (length s)) refl)) newest_edition
