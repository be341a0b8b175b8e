-- `checks::number`: no bit from column b on is: below 2 to the b. Assumes nothing.
use Prim.Native.Nat.{ℕ, ◌<◌, ◌/◌, ◌^◌}
use mathlib.Core.Path.{◌≡◌, refl}
use mathlib.Core.Bool.{Bool, true, false}
use native.Mathlib.Nat.{lt-div-mul-add, div-eq_of_lt}
use native.Mathlib.Omega.{arith}
use lib.Dec.{ltb}
use lib.ListN.{get_or}
use lib.Pow.{pow_pos}
use borrow.Author.Tests.{lt-ltb, ltb-true}
use Rattle.lists.specs.Lists.{number_check}
use Rattle.lists.proofs.checks.number.Goals as goal
use Rattle.lists.proofs.checks.number.Goals.{else-b-ne-WIDTH-via-then-b-ne-WIDTH+else-store-i-ne0, else-b-ne-WIDTH-via-else-b-ne-WIDTH}

below : (b x : ℕ) → x / 2 ^ b ≡ 0 → x < 2 ^ b
below b x e = let l = lt-div-mul-add {a = x} {b = 2 ^ b} (pow_pos b) in omega (arith, rw e at l)

not_below : (b x : ℕ) → (x / 2 ^ b ≡ 0 → ⊥) → (t : Bool) → ltb x (2 ^ b) ≡ t → t ≡ false
not_below b x h true e = absurd (h (div-eq_of_lt (ltb-true x (2 ^ b) e)))
not_below b x h false e = refl

pub returns-then-store-i-ne0 : goal.returns-then-store-i-ne0
unfolding number_check
returns-then-store-i-ne0 c =
    rw (← c.bits-b.ensures.1, not_below c.bits-b.result (get_or c.args.store.now c.args.i 0) c.if-store-i-ne0.true _ refl)

pub returns : goal.returns
unfolding number_check
returns c =
    let a = c.args in
    let low : get_or a.store.now a.i 0 < 2 ^ c.bits-b.result =
    elim c.else-b-ne-WIDTH.branch [
      | else-b-ne-WIDTH-via-then-b-ne-WIDTH+else-store-i-ne0 w ↦ below c.bits-b.result _ w.if-store-i-ne0.false
      | else-b-ne-WIDTH-via-else-b-ne-WIDTH w ↦ rw w.if-b-ne-WIDTH.false (c.type_inv.store a.i).fits
    ] in
    rw (← c.bits-b.ensures.1, lt-ltb _ _ low)
