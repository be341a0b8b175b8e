-- What the judge and the writer say of a machine: its candidate is drawn and listed, handed to them, and taken.
use Rattle.std.specs.Prelude.{ℕ, ◌-◌, ◌<◌, ◌≤◌, true, List, ◌++◌, ◌≡◌, refl, ltb, length, take, drop, Err}
use Rattle.std.proofs.Common.{⊎_elim, sym, ap, ◌∙◌, arith, drop-drop, lt-ltb, le-ltb}
use Rattle.rows.proofs.Laws.Parts.{Words}
use Rattle.rows.specs.Laws.Truth.{lt_or_le, true_T, or_1, or_2}
use Rattle.model.specs.Limits.{given_length, store_length, order_length}
use Rattle.model.specs.Judge.{judged_of}
use Rattle.model.specs.Store.{store_of}
use Rattle.model.specs.declared.refusals.Refusal.{Refusal}
use Rattle.model.specs.declared.refusals.Reason.TheVariants.{ShortBuffer}
use Rattle.model.specs.Refusals.{Answer, Passed, Refused, Saved, Walk}
use Rattle.model.proofs.Laws.Refusals.{given_not_refused}
use Rattle.drawing.specs.Files.{short_of, Fileable}
use Rattle.lists.proofs.Laws.Handed.{Handed, handed_taken, held_handed}
use Rattle.second.specs.Door.{door_check, Answers, Door}
use Rattle.second.specs.Laws.Settled.{taken_answers, refused_answers}
use Rattle.writer.specs.Saves.{Save}
use Rattle.writer.specs.Laws.Saving.{saved_handed}
use Rattle.machine.specs.declared.Listed.{Listed}
use Rattle.machine.specs.Machine.{State, Reached, candidate}
use Rattle.machine.specs.Code.{Lists, Draws}
use Rattle.console.specs.Consoles.{JudgesMachine, SavesMachine}
use Rattle.console.specs.Laws.Formed.{led_fileable}

-- ---- too little room

-- 9 at 0, and what was lent is as it was
judge_short : (σ : State) (s o : List ℕ) → short_of (length s) (length o) ≡ true → JudgesMachine σ s o (Refused ShortBuffer 0) s o
judge_short σ s o short = rw short (refused_answers (candidate σ) ShortBuffer 0 s o)

-- where the order buffer is too short
pub order_short : (σ : State) (s o : List ℕ) → length o < order_length → JudgesMachine σ s o (Refused ShortBuffer 0) s o
order_short σ s o l = judge_short σ s o (or_2 (ltb (length s) store_length) (lt-ltb (length o) order_length l))

-- ---- what the draw says of the room

module _ (σ : State) (s : List ℕ) (w : Walk) (s' : List ℕ) (drawn : Draws σ s w s') where
  -- a refusal is the judge's: the store is too short
  pub store_short : (r : Refusal) → w ≡ Err r → (o : List ℕ) → JudgesMachine σ s o (Err r) s' o
  store_short r refused o = ⊎_elim
      (λ (l : length s < store_length).
      let short = lt-ltb (length s) store_length l in
      let told : Err r ≡ Refused ShortBuffer 0 = sym refused ∙ rw short at drawn.answer in
      let same : ◌≡◌ {A = Refusal} r (record { reason = ShortBuffer; at = 0 }) = cc in
      rw (same, drawn.kept l) (judge_short σ s o (or_1 (ltb (length o) order_length) short)))
      (λ (l : store_length ≤ length s).
      absurd (given_not_refused tt r (sym (sym refused ∙ rw (le-ltb (length s) store_length l) at drawn.answer))))
      (lt_or_le (length s) store_length)

  -- what was drawn had room
  pub drawn_room : w ≡ Passed → store_length ≤ length s
  drawn_room passed = ⊎_elim
      (λ (l : length s < store_length).
      absurd (given_not_refused tt _ (sym passed ∙ rw (lt-ltb (length s) store_length l) at drawn.answer)))
      (λ (l : store_length ≤ length s). l)
      (lt_or_le (length s) store_length)

  -- where there is room nothing is refused
  pub drawn_passed : store_length ≤ length s → (r : Refusal) → w ≡ Err r → ⊥
  drawn_passed room r refused = given_not_refused tt r (sym (rw (le-ltb (length s) store_length room) at drawn.answer) ∙ refused)

  -- numbers beyond the store's own are as they were
  drawn_beyond : drop store_length s' ≡ drop store_length s
  drawn_beyond =
      let k = store_length - given_length in
      sym (drop-drop k given_length s') ∙ ap (drop k) drawn.beyond ∙ drop-drop k given_length s

-- ---- with room

-- the listed actions are as many as are lent
pub listed_acts : (σ : State) → ∥ Reached σ ∥₁ → (x : Listed) → Lists σ x → x.head.n ≤ length x.acts
unfolding candidate
listed_acts σ reached x listed = omega (arith, listed.n, listed.actions, (led_fileable σ reached).within.actions)

-- so are the place bytes
pub listed_places : (σ : State) → ∥ Reached σ ∥₁ → (x : Listed) → Lists σ x → x.head.p ≤ length x.places
unfolding candidate
listed_places σ reached x listed = omega (arith, listed.p, listed.bytes, (led_fileable σ reached).within.places)

module _ (σ : State) (reached : ∥ Reached σ ∥₁) (s : List ℕ) (room : store_length ≤ length s) (w : Walk) (s' : List ℕ) (drawn : Draws σ s w s') (words : Words s') (x : Listed) (listed : Lists σ x) where
  -- a file can hold the candidate
  fileable : Fileable (candidate σ)
  fileable = led_fileable σ reached

  -- what was drawn and listed is the candidate
  pub drawn_handed : Handed (candidate σ) (take x.head.n x.acts) (take x.head.p x.places) x.head.edition x.head.n x.head.t x.head.p s'
  unfolding candidate
  drawn_handed =
      rw (listed.acts, listed.places, listed.edition, listed.n, listed.t, listed.p) (held_handed (candidate σ) fileable s' words (rw drawn.size room) (drawn.relations room))

  module _ (o : List ℕ) (order_room : order_length ≤ length o) where
    -- the second door takes it
    pub door_passed : door_check (take x.head.n x.acts) (take x.head.p x.places) x.head.edition x.head.n x.head.t x.head.p s' o ≡ Passed
    unfolding door_check
    door_passed = rw (le-ltb (length o) order_length order_room) (handed_taken (candidate σ) _ _ _ _ _ _ s' fileable.within fileable.formed drawn_handed)

    -- and its answer is the judge's
    pub drawn_judged : (r : Answer) (s'' o'' : List ℕ) → Door (take x.head.n x.acts) (take x.head.p x.places) x.head.edition x.head.n x.head.t x.head.p s' o r s'' o'' → JudgesMachine σ s o r s'' o''
    drawn_judged r s'' o'' door =
        let told : Answers Passed (candidate σ) s' o r s'' o'' = rw (door_passed, drawn_handed.same) at door in
        rw (le-ltb (length s) store_length room, le-ltb (length o) order_length order_room, told.answer)
        (taken_answers (candidate σ) (true_T fileable.formed) s o (judged_of (candidate σ)) s'' o'' refl (told.store ∙ ap (λ (l : List ℕ). store_of (candidate σ) ++ l) (drawn_beyond σ s w s' drawn)) told.order)

  -- the writer writes its file
  pub drawn_saved : (o : List ℕ) (r : Saved) (o' : List ℕ) → Save (take x.head.n x.acts) (take x.head.p x.places) x.head.edition x.head.n x.head.t x.head.p s' o r o' → SavesMachine σ o r o'
  drawn_saved o r o' told = saved_handed (candidate σ) _ _ _ _ _ _ s' fileable drawn_handed o r o' told
