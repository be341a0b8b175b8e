-- What the rules below 27 that both editions have come to, where they hold.
use Rattle.std.specs.Prelude.{ℕ, ◌<◌, not, ◌&&◌, T, eqb}
use Rattle.std.proofs.Common.{sym, ⊎_elim, T_not, eqb→eq}
use Rattle.std.proofs.Math.Dec.{not_T}
use Rattle.rows.specs.Laws.Truth.{same_T, and_l, and_r, and_i, neqb_e}
use Rattle.model.specs.Model.{Book, Mo, of_atomic, writes_of, place_mo}
use Rattle.model.specs.Laws.Filled.{Filled}
use Rattle.model.specs.Laws.Placing.{Placing}
use Rattle.model.specs.Laws.Holds.{Holds, mo_ends, writes_sym, place_one_way, mo_either, one_source}
use Rattle.model.proofs.Laws.Cycles.{acyclic}
use Rattle.rules.specs.Promises.{Settled}

module _ (n : ℕ) (ρ : Book) where
  -- ---- mo orders the writes of an atomic place

  module _ (P : Placing n ρ) (ok13 : Holds n ρ 13) (ok14 : Holds n ρ 14) where
    mo_place : (a b : ℕ) → a < n → b < n → T (Mo n ρ a b) → T (place_mo n ρ a b)
    mo_place a b la lb t = let ends = mo_ends n ρ ok13 a b la lb t in let there : T (of_atomic n ρ a b) = search (and_l, and_r) in search (and_i)

    before_e : (a b : ℕ) → a < n → b < n → T (Mo n ρ b a) → T (writes_of n ρ a b && not (eqb b a) && not (Mo n ρ a b))
    before_e a b la lb t =
        let ends = mo_ends n ρ ok13 b a lb la t in
        let inside : T (writes_of n ρ a b) = writes_sym n ρ P b a (search (and_l, and_r)) in
        let apart : T (not (eqb b a)) = not_T (eqb b a) λ e. neqb_e a b (and_l (not (eqb a b)) (writes_of n ρ b a) ends) (sym (eqb→eq b a e)) in
        let after : T (not (Mo n ρ a b)) = not_T (Mo n ρ a b) λ u. place_one_way n ρ ok14 a b la lb (mo_place a b la lb u) (mo_place b a lb la t) in
        search (and_i)

    before_i : (a b : ℕ) → a < n → b < n → T (writes_of n ρ a b && not (eqb b a) && not (Mo n ρ a b)) → T (Mo n ρ b a)
    before_i a b la lb t =
        let inside : T (writes_of n ρ a b) = search (and_l, and_r) in
        let apart : T (not (eqb b a)) = search (and_l, and_r) in
        let after : T (not (Mo n ρ a b)) = search (and_l, and_r) in
        ⊎_elim (λ u. absurd (T_not (Mo n ρ a b) after u)) (λ u. u) (mo_either n ρ ok14 P a b la lb (λ e. neqb_e b a apart (sym e)) inside)

  pub settled : Filled n ρ → Placing n ρ → Holds n ρ 4 → Holds n ρ 9 → Holds n ρ 13 → Holds n ρ 14 → Holds n ρ 18 → Settled n ρ
  settled F P ok4 ok9 ok13 ok14 ok18 =
      record {
        acyclic = acyclic n ρ ok4 F ok9;
        earlier = λ a b la lb. same_T _ _ (before_e P ok13 ok14 a b la lb) (before_i P ok13 ok14 a b la lb);
        one_source = one_source n ρ ok18;
      }
