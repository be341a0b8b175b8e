-- What the check tells of a list that is taken: its candidate is well-formed, and its relations are those in the store. And the other way: such a list is taken.
use Rattle.std.specs.Prelude.{ℕ, ◌+◌, ◌*◌, ◌/◌, ◌%◌, ◌^◌, ◌<◌, ◌≤◌, true, ◌≡◌, ltb, eqb, length, get_or}
use mathlib.Core.List.{List, []}
use Rattle.std.proofs.Common.{⊎_elim, ◌∙◌, div-lt_iff_lt-mul, arith, pow_pos}
use Rattle.std.proofs.Math.Path.{sym, ap, fun_ext}
use Rattle.std.proofs.Math.ListN.{get_or-eq_default}
use Rattle.std.proofs.Math.Pow.{high}
use borrow.Author.Tests.{lt-ltb, le-ltb, eq-eqb, eqb-true, ltb-true, ltb-false}
use Rattle.rows.specs.Sets.{Set, Rel}
use Rattle.rows.specs.Numbers.{bit, listed, rel, width, digit, wide, size, area, held}
use Rattle.rows.proofs.Laws.Bits.{bit_zero}
use Rattle.rows.proofs.Laws.Parts.{held_out, Words, held_halves, held_number}
use Rattle.rows.proofs.Laws.Quantifiers.{all_in}
use Rattle.rows.specs.Laws.Lists.{listed_length, listed_at}
use Rattle.rows.specs.Laws.Truth.{lt_or_le}
use Rattle.model.specs.Limits.{newest_edition, most_actions, most_threads, most_places, given_relations, given_length, store_length}
use Rattle.model.specs.declared.Action.{Action}
use Rattle.model.specs.Candidates.{given, edition_ok, place_byte_ok, action_ok, rows_ok, to_others, well_formed}
use Rattle.model.specs.Laws.Formed.{parts, parts_formed}
use Rattle.model.specs.Refusals.{Passed}
use Rattle.drawing.specs.Files.{walks}
use Rattle.drawing.specs.Laws.Fits.{row_low as rows_low}
use Rattle.drawing.specs.Laws.Passed.{unless, only_if, both_pass, each_pass, walks_pass}
use Rattle.lists.specs.Lists.{action_at, sizes_check, place_check, action_check, number_limit, number_check, start_check, content_check, counted_check, list_check, row_in, rows_in, list_candidate}
use Rattle.lists.specs.Laws.Columns.{digits_low, low_digits, columns_of, limit_is}

-- 9, 4, 5 and 3 do not hold
pub record Sized (c q e n t p store : ℕ) : Type 0 where
  pub store_room : store_length ≤ store
  pub edition : edition_ok newest_edition e ≡ true
  pub few_actions : n ≤ most_actions
  pub few_threads : t ≤ most_threads
  pub few_places : p ≤ most_places
  pub actions : c ≡ n
  pub bytes : q ≡ p

pub sized : (c q e n t p store : ℕ) → sizes_check c q e n t p store ≡ Passed → Sized c q e n t p store
unfolding sizes_check
sized c q e n t p store passed =
    let a = unless (ltb store store_length) _ _ _ passed in
    let b = only_if (edition_ok newest_edition e) _ _ _ a.1 in
    let d = unless (ltb most_actions n) _ _ _ b.1 in
    let f = unless (ltb most_threads t) _ _ _ d.1 in
    let g = unless (ltb most_places p) _ _ _ f.1 in
    let h = only_if (eqb c n) _ _ _ g.1 in
    let i = only_if (eqb q p) _ _ _ h.1 in
    record {
      store_room = ltb-false store store_length a.0;
      edition = b.0;
      few_actions = ltb-false most_actions n d.0;
      few_threads = ltb-false most_threads t f.0;
      few_places = ltb-false most_places p g.0;
      actions = eqb-true c n h.0;
      bytes = eqb-true q p i.0;
    }

-- nor do 6, 7 and 11
pub record Sound (acts : List Action) (places store : List ℕ) (n t p : ℕ) : Type 0 where
  pub place : (i : ℕ) → i < p → place_byte_ok (get_or places i 0) ≡ true
  pub action : (i : ℕ) → i < n → action_ok t p (action_at acts i) ≡ true
  pub number : (i : ℕ) → i < given_length → ltb (get_or store i 0) (number_limit n i) ≡ true
  pub others : (a : ℕ) → a < n → to_others n (action_at acts) (held store 1 a) a ≡ true

pub sound : (acts : List Action) (places store : List ℕ) (n t p : ℕ) → content_check acts places store n t p ≡ Passed → Sound acts places store n t p
unfolding content_check place_check action_check number_check start_check
sound acts places store n t p e =
    let a = both_pass (walks (place_check places) 0 p) _ e in
    let b = both_pass (walks (action_check acts t p) 0 n) _ a.1 in
    let d = both_pass (walks (number_check store n) 0 given_length) _ b.1 in
    record {
      place = λ i l. (only_if (place_byte_ok (get_or places i 0)) _ _ _ (each_pass (place_check places) 0 p a.0 i (omega arith) (omega arith))).0;
      action = λ i l. (only_if (action_ok t p (action_at acts i)) _ _ _ (each_pass (action_check acts t p) 0 n b.0 i (omega arith) (omega arith))).0;
      number = λ i l. (only_if (ltb (get_or store i 0) (number_limit n i)) _ _ _ (each_pass (number_check store n) 0 given_length d.0 i (omega arith) (omega arith))).0;
      others = λ a l. (only_if (to_others n (action_at acts) (held store 1 a) a) _ _ _ (each_pass (start_check acts store n) 0 n d.1 a (omega arith) (omega arith))).0;
    }

pub counted_sized : (acts : List Action) (c : ℕ) (places : List ℕ) (e n t p : ℕ) (store : List ℕ) → counted_check acts c places e n t p store ≡ Passed → Sized c (length places) e n t p (length store)
unfolding counted_check
counted_sized acts c places e n t p store passed = sized c (length places) e n t p (length store) (both_pass (sizes_check c (length places) e n t p (length store)) _ passed).0

pub counted_sound : (acts : List Action) (c : ℕ) (places : List ℕ) (e n t p : ℕ) (store : List ℕ) → counted_check acts c places e n t p store ≡ Passed → Sound acts places store n t p
unfolding counted_check
counted_sound acts c places e n t p store passed = sound acts places store n t p (both_pass (sizes_check c (length places) e n t p (length store)) _ passed).1

-- ---- the other way: a list that is Sized and Sound is taken

-- 9, 4, 5 and 3
sized_passes : (c q e n t p store : ℕ) → Sized c q e n t p store → sizes_check c q e n t p store ≡ Passed
unfolding sizes_check
sized_passes c q e n t p store g =
    rw
    (le-ltb store store_length g.store_room, g.edition, le-ltb most_actions n g.few_actions, le-ltb most_threads t g.few_threads, le-ltb most_places p g.few_places, eq-eqb c n g.actions, eq-eqb q p g.bytes)

-- 6, 7 and 11
sound_passes : (acts : List Action) (places store : List ℕ) (n t p : ℕ) → Sound acts places store n t p → content_check acts places store n t p ≡ Passed
unfolding content_check place_check action_check number_check start_check
sound_passes acts places store n t p g =
    rw
    (walks_pass (place_check places) 0 p (λ i l. rw (g.place i (omega arith))), walks_pass (action_check acts t p) 0 n (λ i l. rw (g.action i (omega arith))), walks_pass (number_check store n) 0 given_length (λ i l. rw (g.number i (omega arith))))
    (walks_pass (start_check acts store n) 0 n (λ a l. rw (g.others a (omega arith))))

-- all of it
pub counted_passes : (acts : List Action) (c : ℕ) (places : List ℕ) (e n t p : ℕ) (store : List ℕ) → Sized c (length places) e n t p (length store) → Sound acts places store n t p → counted_check acts c places e n t p store ≡ Passed
unfolding counted_check
counted_passes acts c places e n t p store g h =
    rw (sized_passes c (length places) e n t p (length store) g) (sound_passes acts places store n t p h)

-- ---- the candidate

-- rows from N on are zero
abbrev pub Clear : List ℕ → ℕ → Type 0
Clear store n = (k a : ℕ) → k < given_relations → n ≤ a → a < size → row_in store k a ≡ 0

module _ (acts : List Action) (places store : List ℕ) (e n t p : ℕ) where
  pub given_rows : (k : ℕ) → k < given_relations → get_or (given (list_candidate acts places e n t p store)) k [] ≡ rows_in store n k
  unfolding list_candidate listed
  given_rows k l = listed_at (rows_in store n) given_relations k [] l

-- a row of two numbers of 64 bits
pub row_bits : (store : List ℕ) → Words store → (k a : ℕ) → row_in store k a < 2 ^ size
row_bits store words k a =
    let half : row_in store k a / 2 ^ width < 2 ^ width = rw (high _ width (words (area * k + wide * a))) (words (area * k + wide * a + 1)) in
    (div-lt_iff_lt-mul (pow_pos width)).0 half

module _ (store : List ℕ) (words : Words store) (room : store_length ≤ length store) where
  -- its bits are what the store holds
  pub row_held : (k a : ℕ) → k < given_relations → a < size → held store k a ≡ bit (row_in store k a)
  row_held k a l m = held_halves store words k a m (omega arith)

  -- number i is half i % area % wide of row i % area / wide of relation i / area
  number_digit : (i : ℕ) → i < given_length → get_or store i 0 ≡ digit (bit (row_in store (i / area) (i % area / wide))) (i % area % wide)
  number_digit i l = held_number store words i (omega arith) ∙ ap (λ (s : Set). digit s (i % area % wide)) (row_held (i / area) (i % area / wide) (omega arith) (omega arith))

-- where rows from N on are zero, relations 0 to 6 in the store are the candidate's
module _ (acts : List Action) (places store : List ℕ) (e n t p : ℕ) (few : n ≤ most_actions) (words : Words store) (room : store_length ≤ length store) (clear : Clear store n) where
  held_clear : (k : ℕ) → k < given_relations → held store k ≡ rel (get_or (given (list_candidate acts places e n t p store)) k [])
  held_clear k l =
      (fun_ext λ a. ⊎_elim
      (λ (m : a < n). row_held store words room k a l (omega arith) ∙ ap bit (sym (listed_at (row_in store k) n a 0 m)))
      (λ (m : n ≤ a).
      let none : get_or (rows_in store n k) a 0 ≡ 0 = get_or-eq_default (rows_in store n k) 0 (rw (listed_length (row_in store k) n) m) in
      ⊎_elim
      (λ (h : a < size). row_held store words room k a l h ∙ ap bit (clear k a l m h ∙ sym none))
      (λ (h : size ≤ a). held_out store k a h ∙ sym (ap bit none ∙ fun_ext bit_zero))
      (lt_or_le a size))
      (lt_or_le a n))
      ∙ ap rel (sym (given_rows acts places store e n t p k l))

  -- so is the row of asw that 11 looks at
  others_held : (a : ℕ) → to_others n (action_at acts) (held store 1 a) a ≡ to_others n (action_at acts) (rel (rows_in store n 1) a) a
  unfolding list_candidate
  others_held a = ap (λ (r : Rel). to_others n (action_at acts) (r a) a) (held_clear 1 (omega arith))

module _ (acts : List Action) (places store : List ℕ) (e n t p : ℕ) (few : n ≤ most_actions) (words : Words store) (room : store_length ≤ length store) (good : Sound acts places store n t p) where
  row_limited : (k a : ℕ) → k < given_relations → a < size → row_in store k a < 2 ^ columns_of n a
  row_limited k a l m =
      low_digits (columns_of n a) (row_in store k a) (row_bits store words k a) (λ h b.
      let i = area * k + wide * a + h in
      let part : i / area ≡ k = omega arith in
      let row : i % area / wide ≡ a = omega arith in
      let half : i % area % wide ≡ h = omega arith in
      rw (number_digit store words room i (omega arith), limit_is n i, part, row, half) at (ltb-true (get_or store i 0) (number_limit n i) (good.number i (omega arith))))

  row_low : (k a : ℕ) → k < given_relations → a < n → row_in store k a < 2 ^ n
  row_low k a l m = rw (lt-ltb a n m) at (row_limited k a l (omega arith))

  row_none : Clear store n
  row_none k a l m h = let z = rw (le-ltb a n m) at (row_limited k a l h) in omega arith

  pub held_given : (k : ℕ) → k < given_relations → held store k ≡ rel (get_or (given (list_candidate acts places e n t p store)) k [])
  held_given = held_clear acts places store e n t p few words room row_none

  rows_formed : (k : ℕ) → k < given_relations → rows_ok n (rows_in store n k) ≡ true
  rows_formed k l =
      rw (eq-eqb _ _ (listed_length (row_in store k) n))
      (all_in n (λ a. ltb (get_or (rows_in store n k) a 0) (2 ^ n)) (λ a m. rw (listed_at (row_in store k) n a 0 m) (lt-ltb _ _ (row_low k a l m))))

  -- a candidate that is taken is well-formed
  list_formed : edition_ok newest_edition e ≡ true → length acts ≡ n → length places ≡ p → well_formed (list_candidate acts places e n t p store) ≡ true
  unfolding list_candidate
  list_formed ee ea ep =
      parts_formed (list_candidate acts places e n t p store)
      (record {
        edition = ee;
        bytes = ep;
        byte = good.place;
        actions = ea;
        action = good.action;
        rows = λ k l. rw (given_rows acts places store e n t p k l) (rows_formed k l);
        others = λ a l. sym (others_held acts places store e n t p few words room row_none a) ∙ good.others a l;
      })

-- a list that passed the check is a well-formed candidate
pub counted_formed : (acts : List Action) (places : List ℕ) (e n t p : ℕ) (store : List ℕ) → Words store → list_check acts places e n t p store ≡ Passed → well_formed (list_candidate acts places e n t p store) ≡ true
counted_formed acts places e n t p store words passed =
    let y = counted_sized acts (length acts) places e n t p store passed in
    list_formed acts places store e n t p y.few_actions words y.store_room (counted_sound acts (length acts) places e n t p store passed) y.edition y.actions y.bytes

-- ---- the other way: a well-formed candidate, handed in with zero rows from N on, is Sound

-- one of the editions, lists as long as N and P say, and Sound
pub record Proper (acts : List Action) (places store : List ℕ) (e n t p : ℕ) : Type 0 where
  pub edition : edition_ok newest_edition e ≡ true
  pub actions : length acts ≡ n
  pub bytes : length places ≡ p
  pub sound : Sound acts places store n t p

module _ (acts : List Action) (places store : List ℕ) (e n t p : ℕ) (words : Words store) (room : store_length ≤ length store) (clear : Clear store n) where
  limited_row : (k a : ℕ) → k < given_relations → a < size → rows_ok n (rows_in store n k) ≡ true → row_in store k a < 2 ^ columns_of n a
  limited_row k a l m r =
      ⊎_elim
      (λ (h : a < n). rw (lt-ltb a n h) (ltb-true (row_in store k a) (2 ^ n) (rw (listed_at (row_in store k) n a 0 h) at (rows_low n (rows_in store n k) r a h))))
      (λ (h : n ≤ a). rw (le-ltb a n h, clear k a l h m) (omega arith))
      (lt_or_le a n)

  limited_number : (i : ℕ) → i < given_length → rows_ok n (rows_in store n (i / area)) ≡ true → get_or store i 0 < number_limit n i
  limited_number i l r =
      let k = i / area in
      let a = i % area / wide in
      rw (number_digit store words room i l, limit_is n i) (digits_low (columns_of n a) (row_in store k a) (i % area % wide) (limited_row k a (omega arith) (omega arith) r))

  pub formed_proper : n ≤ most_actions → well_formed (list_candidate acts places e n t p store) ≡ true → Proper acts places store e n t p
  unfolding list_candidate
  formed_proper few w =
      let f = parts (list_candidate acts places e n t p store) w in
      record {
        edition = f.edition;
        actions = f.actions;
        bytes = f.bytes;
        sound =
            record {
              place = f.byte;
              action = f.action;
              number = λ i l. lt-ltb _ _ (limited_number i l (rw (given_rows acts places store e n t p (i / area) (omega arith)) at (f.rows (i / area) (omega arith))));
              others = λ a l. others_held acts places store e n t p few words room clear a ∙ f.others a l;
            };
      }
