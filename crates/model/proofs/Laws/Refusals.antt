-- Answers that are equal are refused alike, and none is both given and refused.
use Rattle.std.specs.Prelude.{ℕ, ◌≡◌, Result, Ok, Err}
use Rattle.std.proofs.Math.Path.{ap}
use native.Mathlib.Omega.{arith}
use Rattle.model.specs.declared.Header.{Header}
use Rattle.model.specs.declared.refusals.Refusal.{Refusal}
use Rattle.model.specs.declared.refusals.Reason.{Reason}
use Rattle.model.specs.Refusals.{Refused, Good}

-- what is given is not refused
pub given_not_refused : {A : Type 0} (x : A) (r : Refusal) → ◌≡◌ {A = Result A Refusal} (Ok x) (Err r) → ⊥
given_not_refused x r e = let z : ◌≡◌ {A = ℕ} 0 1 = cc in omega arith

-- the same is given
pub same_given : {A : Type 0} (x y : A) → ◌≡◌ {A = Result A Refusal} (Ok x) (Ok y) → x ≡ y
same_given x y e = cc

-- the same refusal
pub same_refused : {A : Type 0} (k j : Reason) (a b : ℕ) → ◌≡◌ {A = Result A Refusal} (Refused k a) (Refused j b) → (k ≡ j) × (a ≡ b)
same_refused k j a b e =
    let f : ◌≡◌ {A = Refusal} (record { reason = k; at = a }) (record { reason = j; at = b }) = cc in
    (ap (λ (r : Refusal). r.reason) f, ap (λ (r : Refusal). r.at) f)

-- the same edition, N, T and P
pub same_good : (e n t p d m v q : ℕ) → Good e n t p ≡ Good d m v q → (e ≡ d) × (n ≡ m) × (t ≡ v) × (p ≡ q)
same_good e n t p d m v q same =
    let f : ◌≡◌ {A = Header} (record { edition = e; n = n; t = t; p = p }) (record { edition = d; n = m; t = v; p = q }) = cc in
    (ap (λ (h : Header). h.edition) f, ap (λ (h : Header). h.n) f, ap (λ (h : Header). h.t) f, ap (λ (h : Header). h.p) f)
