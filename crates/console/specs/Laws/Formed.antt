-- The candidate of every state that the machine reaches is one that a file can hold, with at most 64 actions.
use Prim.Native.Nat.{ℕ, zero, suc, ◌<◌, ◌≤◌}
use Rattle.std.specs.Prelude.{Bool, ◌&&◌, ◌||◌, [], ◌∷◌, ◌≡◌, refl, T, leb, get_or}
use native.Mathlib.Bridge.{le_prop}
use mathlib.Core.HLevel.{×_prop}
use mathlib.Core.Bool.{Bool-set}
use Rattle.std.proofs.Math.Logic.{∥∥₁_elim}
use Rattle.std.proofs.Math.Bool.{true, not, cond}
use Rattle.std.proofs.Common.{sym, ◌∙◌, subst, arith, eqb→eq}
use Rattle.std.proofs.Math.Path.{ap}
use Rattle.std.proofs.Math.Dec.{eqb, ltb}
use borrow.Author.Tests.{eqb-true, lt-ltb, leb-true}
use Rattle.rows.specs.Sets.{never}
use Rattle.rows.specs.Numbers.{rel}
use Rattle.rows.specs.Laws.Lists.{listed_at, listed_length}
use Rattle.rows.proofs.Laws.Bits.{rows_bit}
use Rattle.rows.specs.Laws.Truth.{T_true, true_T, both_true, and_both, and_l, and_r, is_false, neqb_e}
use Rattle.rows.proofs.Laws.Quantifiers.{any_none}
use Rattle.model.specs.declared.Action.{Action}
use Rattle.model.specs.Actions.{no_action}
use Rattle.model.specs.Limits.{most_threads, most_places, given_relations}
use Rattle.model.specs.Candidates.{Candidate, among, given, action_in, action_ok, rows_ok, to_others}
use Rattle.model.specs.Laws.Formed.{Parts, parts_formed, rows_formed}
use Rattle.drawing.specs.Files.{Fileable}
use Rattle.machine.specs.Machine.{most_traced, State, machine_ok, Reached, thread_at, sb_of, asw_of, rf_of, mo_of, candidate}
use Rattle.console.specs.Laws.Kept.{by_kind, read_kinds, write_kinds, Clock, Kept}
use Rattle.console.specs.Laws.Runs.{reached_kept}

module _ (σ : State) (κ : Clock) (K : Kept σ κ) where
  -- its candidate
  abbrev X : Candidate
  X = candidate σ

  -- action a is the state's
  action_is : (a : ℕ) → a < σ.n → action_in X a ≡ σ.act a
  unfolding candidate
  action_is a l = listed_at σ.act σ.n a no_action l

  -- each has its thread, its place and no absent value
  action_ok_lem : (a : ℕ) → a < σ.n → action_ok σ.t σ.p (σ.act a) ≡ true
  unfolding action_ok
  action_ok_lem a l =
      let G = K.good a l in
      let x : Action = σ.act a in
      let place : ltb x.place σ.p ≡ true = lt-ltb x.place σ.p G.place_lt in
      and_both
      (and_both
      (lt-ltb x.thread σ.t G.thread_lt)
      (by_kind (λ m. cond (among m (8 ∷ [])) (eqb x.place 65535) (ltb x.place σ.p) ≡ true) place place place x.what G.takes))
      (and_both
      (subst (λ (t : Bool). (t || eqb x.read 0) ≡ true) (read_kinds x.what G.takes) (T_true _ G.read_ok))
      (subst (λ (t : Bool). (t || eqb x.written 0) ≡ true) (write_kinds x.what G.takes) (T_true _ G.written_ok)))

  -- each given relation has its rows
  rows_ok_lem : (k : ℕ) → k < given_relations → rows_ok σ.n (get_or (given X) k []) ≡ true
  unfolding candidate
  rows_ok_lem zero l = rows_formed σ.n (sb_of σ)
  rows_ok_lem (suc zero) l = rows_formed σ.n (asw_of σ)
  rows_ok_lem (suc (suc zero)) l = rows_formed σ.n never
  rows_ok_lem (suc (suc (suc zero))) l = rows_formed σ.n never
  rows_ok_lem (suc (suc (suc (suc zero)))) l = rows_formed σ.n (rf_of σ)
  rows_ok_lem (suc (suc (suc (suc (suc zero))))) l = rows_formed σ.n never
  rows_ok_lem (suc (suc (suc (suc (suc (suc zero)))))) l = rows_formed σ.n (mo_of σ)
  rows_ok_lem (suc (suc (suc (suc (suc (suc (suc k))))))) l = absurd (omega arith)

  -- asw goes from thread 0 to another
  apart : (a b : ℕ) → T (asw_of σ a b) → thread_at σ b ≡ thread_at σ a → ⊥
  apart a b t e =
      let za : T (eqb (thread_at σ a) 0) = search (and_l, and_r) in
      let zb : T (not (eqb (thread_at σ b) 0)) = search (and_l, and_r) in
      neqb_e (thread_at σ b) 0 zb (e ∙ eqb→eq (thread_at σ a) 0 za)

  -- asw as it is drawn
  asw_is : (a b : ℕ) → a < σ.n → b < σ.n → rel X.asw a b ≡ asw_of σ a b
  unfolding candidate
  asw_is a b la lb = rows_bit σ.n (asw_of σ) a b la lb

  -- so no edge of it stays in a thread
  others : (a : ℕ) → a < σ.n → to_others σ.n (action_in X) (rel X.asw a) a ≡ true
  unfolding to_others
  others a la =
      ap not (any_none σ.n (λ b. rel X.asw a b && eqb (action_in X b).thread (action_in X a).thread)
      (λ b lb. is_false _ (λ t. let (edge, same) = both_true (rel X.asw a b) _ t in inner b lb edge (eqb-true _ _ same))))
    where
      inner : (b : ℕ) → b < σ.n → rel X.asw a b ≡ true → (action_in X b).thread ≡ (action_in X a).thread → ⊥
      inner b lb edge same =
          apart a b (true_T (sym (asw_is a b la lb) ∙ edge)) (sym (ap (λ (x : Action). x.thread) (action_is b lb)) ∙ same ∙ ap (λ (x : Action). x.thread) (action_is a la))

  -- all parts of a well-formed candidate
  parts_are : Parts X
  unfolding candidate
  parts_are =
      let two : ℕ = 2 in
      record {
        edition = refl;
        bytes = listed_length (λ (i : ℕ). two) σ.p;
        byte = λ i l. rw (listed_at (λ (i : ℕ). two) σ.p i 0 l) refl;
        actions = listed_length σ.act σ.n;
        action = λ a l. rw (action_is a l) (action_ok_lem a l);
        rows = rows_ok_lem;
        others = others;
      }

  -- and within the limits
  kept_fileable : machine_ok σ.t σ.p ≡ true → Fileable X
  unfolding candidate machine_ok
  kept_fileable e =
      let (threads, places) = both_true (leb σ.t most_threads) (leb σ.p most_places) e in
      record {
        within = record { actions = omega (arith, K.few); threads = leb-true σ.t most_threads threads; places = leb-true σ.p most_places places };
        valued = record { each = λ a l. rw (action_is a l) (K.good a l).values };
        formed = parts_formed X parts_are;
      }

-- The candidate of every state that is reached can be held by a file.
pub reached_fileable : (σ : State) → Reached σ → Fileable (candidate σ)
reached_fileable σ r = let (κ, K) = reached_kept σ r in kept_fileable σ κ K r.limits

-- A candidate can be held in one way at most.
Fileable-prop : (X : Candidate) → IsProp (Fileable X)
Fileable-prop X a b i =
    record {
      within =
          record {
            actions = le_prop a.within.actions b.within.actions i;
            threads = le_prop a.within.threads b.within.threads i;
            places = le_prop a.within.places b.within.places i;
          };
      valued = record { each = λ k l. ×_prop le_prop le_prop (a.valued.each k l) (b.valued.each k l) i };
      formed = Bool-set _ _ a.formed b.formed i;
    }

-- So it can be where some trace leads to the state, whichever it is.
pub led_fileable : (σ : State) → ∥ Reached σ ∥₁ → Fileable (candidate σ)
led_fileable σ r = ∥∥₁_elim r (Fileable-prop (candidate σ)) (reached_fileable σ)

-- It has at most 64 actions.
pub reached_few : (σ : State) → Reached σ → σ.n ≤ most_traced
reached_few σ r = let (κ, K) = reached_kept σ r in K.few
