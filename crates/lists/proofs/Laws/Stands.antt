-- What was gathered of a list stands for it: the check and the book read the actions below N alone.
use Rattle.model.specs.Actions.{no_action}
use Rattle.rows.specs.Laws.Truth.{lt_or_le, top}
use Rattle.rows.specs.Laws.Lists.{listed_length}
use native.Mathlib.Numerals.{add-one}
use Rattle.std.specs.Prelude.{ℕ, ◌+◌, ◌<◌, ◌≤◌, List, ◌≡◌, refl, length, zero, suc, set, min}
use Rattle.std.proofs.Common.{arith, ⊎_elim, sym, ap, ◌∙◌, length-set, get_or-set_same, get_or-set_other, lt-ltb, le-ltb}
use Rattle.rows.specs.Numbers.{held}
use Rattle.model.specs.Limits.{most_actions}
use Rattle.model.specs.declared.Action.{Action}
use Rattle.model.specs.Candidates.{to_others}
use Rattle.model.specs.Laws.Others.{others_ext}
use Rattle.drawing.proofs.Laws.Prefix.{walks_same, then_same}
use Rattle.lists.specs.declared.Gathered.{Gathered}
use Rattle.lists.specs.Lists.{action_at, Stands, sizes_check, action_check, start_check, content_check, counted_check, list_check, with_action, gathered, how_many}
use Rattle.lists.proofs.Laws.Taken.{sized}

content_same : (acts list : List Action) (places store : List ℕ) (n t p : ℕ) → ((i : ℕ) → i < n → action_at list i ≡ action_at acts i) → content_check list places store n t p ≡ content_check acts places store n t p
unfolding content_check action_check start_check
content_same acts list places store n t p h =
    let others : (a : ℕ) → a < n → to_others n (action_at list) (held store 1 a) a ≡ to_others n (action_at acts) (held store 1 a) a = λ a l. others_ext n (action_at list) (action_at acts) (held store 1 a) (held store 1 a) a l h refl in
    rw
    (walks_same (action_check list t p) (action_check acts t p) 0 n (λ j l. rw (h j (omega arith))), walks_same (start_check list store n) (start_check acts store n) 0 n (λ a l. rw (others a (omega arith))))

module _ (acts : List Action) (g : Gathered) (stands : Stands acts g) (places : List ℕ) (e n t p : ℕ) (store : List ℕ) where
  -- the action numbers below N have the list's actions, where N is the list's length and within its limit
  pub same_acts : g.count ≡ n → n ≤ most_actions → (i : ℕ) → i < n → action_at g.list i ≡ action_at acts i
  same_acts all few i l = stands.same i (omega arith) (omega arith)

  pub counted_same : counted_check g.list g.count places e n t p store ≡ list_check acts places e n t p store
  unfolding counted_check
  counted_same =
      rw stands.count
      (then_same (sizes_check g.count (length places) e n t p (length store)) _ _
      (λ passed. let z = sized g.count (length places) e n t p (length store) passed in content_same acts g.list places store n t p (same_acts z.actions z.few_actions)))

-- ---- what was gathered

gathered_length : (acts : List Action) (m : ℕ) → length (gathered acts m).list ≡ most_actions
unfolding gathered with_action
gathered_length acts zero = listed_length (λ _. no_action) most_actions
gathered_length acts (suc m) = length-set (gathered acts m).list m (action_at acts m) ∙ gathered_length acts m

gathered_at : (acts : List Action) (m i : ℕ) → m ≤ most_actions → i < m → action_at (gathered acts m).list i ≡ action_at acts i
unfolding gathered with_action
gathered_at acts zero i few l = absurd (let z : ⊥ = omega arith in z)
gathered_at acts (suc m) i few l =
    ⊎_elim
    (λ (e : i ≡ m). rw e (get_or-set_same (gathered acts m).list m (action_at acts m) no_action (omega (arith, gathered_length acts m))))
    (λ (h : i < m). get_or-set_other (gathered acts m).list m i (action_at acts m) no_action (λ e. omega arith) ∙ gathered_at acts m i (omega arith) h)
    (top i m l)

-- all of c, or the most, stand for c
many_low : (c i : ℕ) → i < most_actions → i < c → i < how_many c
unfolding how_many
many_low c i l m = ⊎_elim (λ (h : c < most_actions). rw (lt-ltb c most_actions h) m) (λ (h : most_actions ≤ c). rw (le-ltb c most_actions h) l) (lt_or_le c most_actions)

many_few : (c : ℕ) → how_many c ≤ most_actions
unfolding how_many
many_few c = ⊎_elim (λ (h : c < most_actions). rw (lt-ltb c most_actions h) (omega arith)) (λ (h : most_actions ≤ c). rw (le-ltb c most_actions h) (omega arith)) (lt_or_le c most_actions)

-- one action more
pub gathered_next : (acts : List Action) (i : ℕ) → (gathered acts (i + 1)).list ≡ set (gathered acts i).list i (action_at acts i)
unfolding gathered with_action
gathered_next acts i = rw (add-one i)

-- the lesser of c and the most
pub many_least : (c : ℕ) → min c most_actions ≡ how_many c
unfolding how_many
many_least c = ⊎_elim (λ (l : c < most_actions). rw (lt-ltb c most_actions l) (omega arith)) (λ (l : most_actions ≤ c). rw (le-ltb c most_actions l) (omega arith)) (lt_or_le c most_actions)

gathered_count : (acts : List Action) (m : ℕ) → (gathered acts m).count ≡ length acts
unfolding gathered with_action
gathered_count acts zero = refl
gathered_count acts (suc m) = gathered_count acts m

-- what was gathered is its list, and how many there are
pub gathered_is : (acts : List Action) (m : ℕ) → gathered acts m ≡ record { list = (gathered acts m).list; count = length acts }
gathered_is acts m = ap (λ (c : ℕ). record (gathered acts m) { count = c }) (gathered_count acts m)

pub gathered_stands : (acts : List Action) → Stands acts (gathered acts (how_many (length acts)))
gathered_stands acts =
    let n = how_many (length acts) in
    record {
      count = sym (gathered_count acts n);
      same = λ i l m. gathered_at acts n i (many_few (length acts)) (many_low (length acts) i l (rw (gathered_count acts n) at m));
    }
