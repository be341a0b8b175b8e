-- A text is measured first, and written where it fits.
use Rattle.std.specs.Prelude.{ℕ, ◌+◌, ◌<◌, ◌≤◌, Bool, true, false, List, ◌++◌, ◌⊎◌, ◌≡◌, refl, length, take, drop, None, Some}
use Rattle.std.specs.Borrow.{MutBor}
use Rattle.std.proofs.Math.Bool.{and-false}
use Rattle.std.proofs.Common.{inl, inr, ⊎_elim, ap, ◌∙◌, arith, le-leb}
use Rattle.std.proofs.lemmas.Bool.{lt-leb}
use Rattle.std.proofs.Math.Seq.{take-append_seam}
use Rattle.rows.specs.Laws.Truth.{lt_or_le}
use Rattle.page.specs.Page.{Page, page, write, Wrote, whole, Offered}
use Rattle.page.specs.Pens.{started, penned}
use Rattle.page.specs.declared.Pen.{Pen}
use Rattle.page.specs.Laws.Pages.{write_fits, write_over, wrote_whole}
use Rattle.page.specs.Laws.Pens.{pens}

module _ (t l : List ℕ) where
  pub offered_over : (given : Bool) → length l < length t → Offered given t l l None
  offered_over given over = let no : whole given t l ≡ false = rw (lt-leb (length t) (length l) over) (and-false given) in record { answer = rw no; buffer = rw no }

  pub measured : {p q : Page} → Wrote (length l + 1) p t q → p.at ≡ 0 → ((length l < length t) × (q.at ≡ length l + 1)) ⊎ ((length t ≤ length l) × (q.at ≡ length t))
  measured {p} {q} w z = ⊎_elim
      (λ (over : length l < length t). inl (over, ap (λ (x : Page). x.at) w.is ∙ write_over (length l + 1) p t (omega arith) (omega arith)))
      (λ (fits : length t ≤ length l). inr (fits, ap (λ (x : Page). x.at) (w.is ∙ write_fits (length l + 1) p t (omega arith)) ∙ omega arith))
      (lt_or_le (length l) (length t))

  pub offered_short : {p : Page} {m : List ℕ} {k : ℕ} (given : Bool) → Wrote (length l + 1) p t (page m k) → p.at ≡ 0 → k ≡ length l + 1 → Offered given t l l None
  offered_short given w z full = ⊎_elim (λ x. offered_over given x.0) (λ x. absurd (omega arith)) (measured w z)

  pub offered_whole : {p : Page} {m l' : List ℕ} {k k' : ℕ} → Wrote (length l + 1) p t (page m k) → p.at ≡ 0 → (k ≡ length l + 1 → ⊥) → Wrote (length l + 1) (page l 0) t (page l' k') → Offered true t l l' (Some k)
  offered_whole {k = k} w z room e = ⊎_elim
      (λ x. absurd (room x.1))
      (λ (x : (length t ≤ length l) × (k ≡ length t)). let fits = le-leb (length t) (length l) x.0 in
      record {
        answer = rw fits (ap (λ (n : ℕ). Some n) x.1);
        buffer = rw fits (wrote_whole e x.0 (omega (arith, x.0))).0;
      })
      (measured w z)

-- ---- a pen at the start of a buffer

pub penned_at : (p : Pen) (t : List ℕ) → p.at ≡ 0 → ((length t ≤ p.most) × ((penned p t).at ≡ length t)) ⊎ ((p.most < length t) × ((penned p t).at ≡ p.most))
unfolding penned
penned_at p t z = ⊎_elim
    (λ (over : p.most < length t). inr (over, write_over p.most (page p.out.now p.at) t (omega arith) (omega arith)))
    (λ (fits : length t ≤ p.most). inl (fits, ap (λ (x : Page). x.at) (write_fits p.most (page p.out.now p.at) t (omega arith)) ∙ omega arith))
    (lt_or_le p.most (length t))

pub penned_whole : (p : Pen) (t : List ℕ) → p.at ≡ 0 → length t ≤ length p.out.now → length t ≤ p.most → (penned p t).out.now ≡ t ++ drop (length t) p.out.now
unfolding penned
penned_whole p t z fits within =
    let q : Page = write p.most (page p.out.now 0) t in
    let w : Wrote p.most (page p.out.now 0) t (page q.bytes q.at) = record { is = refl } in
    rw z (wrote_whole w fits within).0

-- a text that fits is what it wrote
pub written_all : (p : Pen) (t : List ℕ) → p.at ≡ 0 → length t ≤ p.most → p.most ≤ length p.out.now → take (penned p t).at (penned p t).out.now ≡ t
written_all p t z fits room =
    let whole = penned_whole p t z (omega arith) fits in
    let place : (penned p t).at ≡ length t = ⊎_elim (λ (x : (length t ≤ p.most) × ((penned p t).at ≡ length t)). x.1) (λ (x : (p.most < length t) × ((penned p t).at ≡ p.most)). absurd (omega arith)) (penned_at p t z) in
    rw (whole, place) (take-append_seam t (drop (length t) p.out.now))

-- so it is where the pen began at the start of a buffer
pub written_front : {out : MutBor (List ℕ)} {most : ℕ} {p q : Pen} {t : List ℕ} → p ≡ started out most → q ≡ penned p t → length t ≤ most → most ≤ length out.now → take q.at q.out.now ≡ t
written_front {out} {most} {p} {q} {t} begun wrote fits room = rw (wrote, begun) (written_all (started out most) t refl fits room)

-- ---- what was offered

pub offered_none : (given : Bool) (t l : List ℕ) → given ≡ false ⊎ length l < length t → Offered given t l l None
offered_none given t l h = ⊎_elim (λ (e : given ≡ false). rw e (record { answer = refl; buffer = refl })) (λ (over : length l < length t). offered_over t l given over) h

pub offered_all : (given : Bool) (t l m : List ℕ) (k : ℕ) → given ≡ true → length t ≤ length l → m ≡ t ++ drop (length t) l → k ≡ length t → Offered given t l m (Some k)
offered_all given t l m k g h stands e = let fits = le-leb (length t) (length l) h in rw (g) (record { answer = rw fits (ap (λ (n : ℕ). Some n) e); buffer = rw fits stands })

-- what `grind` needs, to prove a function that measures a text first, and writes it whole or not at all
pub ruleset measures = (pens, penned_at, penned_whole, offered_none, offered_all, le-leb, lt-leb)
