-- What loops over the lines of a text need, once for places and actions.
use Prim.Native.Nat.{ℕ, suc, ◌+◌, ◌-◌, ◌<◌, ◌≤◌, zero-le}
use Rattle.std.specs.Prelude.{cond, List, ◌≡◌, refl, ltb, set, Ok, Err}
use Rattle.std.proofs.Common.{sym, ◌∙◌, add-one, lt-ltb, le-ltb}
use Rattle.std.proofs.Math.Path.{ap, fun_ext}
use native.Mathlib.Omega.{arith}
use Rattle.rows.specs.Laws.Lists.{listed_change}
use Rattle.rows.specs.Laws.Truth.{same_lt}
use Rattle.rows.specs.Numbers.{listed}
use Rattle.model.specs.declared.refusals.Refusal.{Refusal}
use Rattle.model.specs.Refusals.{Passed, Walk}
use Rattle.drawing.specs.Files.{walks}
use Rattle.text.specs.Texts.{along, reached}

-- ---- what is told of lines that were checked

pub reached_at : (w : Walk) (q z : ℕ) → reached w q ≡ Ok z → (w ≡ Passed) × (z ≡ q)
reached_at (Ok _) q z e = (refl, (cc))
reached_at (Err r) q z e = let y : ◌≡◌ {A = ℕ} 0 1 = cc in absurd (let x : ⊥ = omega arith in x)

pub reached_bad : (w : Walk) (q : ℕ) (r : Refusal) → reached w q ≡ Err r → w ≡ Err r
reached_bad (Ok _) q r e = let y : ◌≡◌ {A = ℕ} 0 1 = cc in absurd (let x : ⊥ = omega arith in x)
reached_bad (Err s) q r e = cc

-- ---- one line more

pub along_none : (step : ℕ → ℕ → ℕ) (q : ℕ) → q ≡ along step q 0
unfolding along
along_none step q = refl

pub along_more : (step : ℕ → ℕ → ℕ) (q m z : ℕ) → z ≡ along step q m → step m z ≡ along step q (m + 1)
unfolding along
along_more step q m z e = ap (step m) e ∙ ap (along step q) (sym (add-one m))

-- ---- n lines tested, line i where it stands after i steps: those from i on decide

-- the test of line i
abbrev here : (ℕ → Walk) → (ℕ → ℕ → ℕ) → ℕ → ℕ → Walk
here test step at i = test (along step at i)

-- i lines passed, and the next one stands at q
pub record Walking (test : ℕ → Walk) (step : ℕ → ℕ → ℕ) (at n i q : ℕ) : Type 0 where
  pub few : i ≤ n
  pub next : q ≡ along step at i
  pub due : walks (here test step at) 0 n ≡ walks (here test step at) i (n - i)

pub walk_start : {test : ℕ → Walk} {step : ℕ → ℕ → ℕ} {at n : ℕ} → Walking test step at n 0 at
walk_start {step = step} {at = at} {n = n} = record { few = zero-le; next = along_none step at; due = let e : n - 0 ≡ n = omega arith in rw e }

module _ {test : ℕ → Walk} {step : ℕ → ℕ → ℕ} {at n i q : ℕ} (l : Walking test step at n i q) where
  pub walk_go : {z : ℕ} → i < n → reached (test q) (step i q) ≡ Ok z → Walking test step at n (i + 1) z
  unfolding walks
  walk_go {z} h r =
      let p = reached_at (test q) (step i q) z r in
      let e : here test step at i ≡ Passed = rw (sym l.next) p.0 in
      let m : n - i ≡ suc (n - (i + 1)) = omega arith in
      record { few = omega arith; next = p.1 ∙ along_more step at i q l.next; due = l.due ∙ rw m (rw e) }

  pub walk_stop : {r : Refusal} → i < n → reached (test q) (step i q) ≡ Err r → reached (walks (here test step at) 0 n) (along step at n) ≡ Err r
  unfolding walks
  walk_stop {r} h b =
      let e : here test step at i ≡ Err r = rw (sym l.next) (reached_bad (test q) (step i q) r b) in
      let m : n - i ≡ suc (n - (i + 1)) = omega arith in
      rw (l.due, m, e)

  pub walk_done : n ≤ i → reached (walks (here test step at) 0 n) (along step at n) ≡ Ok q
  unfolding walks
  walk_done h =
      let e : i ≡ n = omega (arith, l.few) in
      let m : n - i ≡ 0 = omega arith in
      rw (l.due, m) (ap Ok (sym (l.next ∙ ap (along step at) e)))

-- ---- n lines read into a list of `most`, line i where it stands after i steps: d is listed where none is read

-- the first m of them
abbrev pub first : {A : Type 0} → (ℕ → A) → A → (ℕ → ℕ → ℕ) → ℕ → ℕ → ℕ → A
first read d step at m i = cond (ltb i m) (read (along step at i)) d

-- i lines are read, and the next one stands at q
pub record Reading {A : Type 0} (read : ℕ → A) (d : A) (step : ℕ → ℕ → ℕ) (at most n i q : ℕ) (list : List A) : Type 0 where
  pub few : i ≤ n
  pub next : q ≡ along step at i
  pub is : list ≡ listed most (first read d step at i)

pub read_start : {A : Type 0} {read : ℕ → A} {d : A} {step : ℕ → ℕ → ℕ} {at most n : ℕ} {list : List A} → list ≡ listed most (λ _. d) → Reading read d step at most n 0 at list
read_start {step = step} {at = at} {most = most} e = record { few = zero-le; next = along_none step at; is = e ∙ ap (listed most) (fun_ext λ i. sym (rw (le-ltb i 0 zero-le))) }

module _ {A : Type 0} {read : ℕ → A} {d : A} {step : ℕ → ℕ → ℕ} {at most n i q : ℕ} {list : List A} (l : Reading read d step at most n i q list) where
  pub read_go : {x : A} {z : ℕ} → i < n → n ≤ most → x ≡ read q → z ≡ step i q → Reading read d step at most n (i + 1) z (set list i x)
  read_go {x} {z} h m e f =
      let this : x ≡ first read d step at (i + 1) i = rw (lt-ltb i (i + 1) (omega arith)) (e ∙ ap read l.next) in
      record {
        few = omega arith;
        next = f ∙ along_more step at i q l.next;
        is = rw (l.is, this) (listed_change (first read d step at i) (first read d step at (i + 1)) most i (omega arith) (λ j ne. rw (same_lt j i j (i + 1) (λ k. omega arith) (λ k. omega arith))));
      }

  pub read_done : n ≤ i → list ≡ listed most (first read d step at n)
  read_done h = let e : i ≡ n = omega (arith, l.few) in l.is ∙ ap (λ (m : ℕ). listed most (first read d step at m)) e
