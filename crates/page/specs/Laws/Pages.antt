-- Laws of bytes written one by one.
use Rattle.std.specs.Prelude.{ℕ, suc, ◌+◌, ◌<◌, ◌≤◌, Bool, true, false, cond, List, [], ◌∷◌, ◌++◌, ◌≡◌, refl, ltb, length, set, drop, take, get_or}
use Rattle.std.proofs.Common.{⊎_elim, sym, ap, ◌∙◌, zero-add, add-one, arith, length-set, lt-ltb, le-ltb}
use Rattle.std.proofs.lemmas.List.Edits.{sets, sets-eq}
use Rattle.std.proofs.lemmas.List.{take_more}
use Rattle.std.proofs.Math.Seq.{set_out}
use Rattle.page.specs.Page.{Page, page, stamp, write, Wrote}
use Rattle.rows.specs.Laws.Truth.{lt_or_le}

-- ---- one byte

pub stamp_in : (most : ℕ) (l : List ℕ) (at b : ℕ) → at < most → page (set l at b) (at + 1) ≡ stamp most (page l at) b
unfolding stamp
stamp_in most l at b h = rw (lt-ltb at most h)

pub stamp_past : (most : ℕ) (l : List ℕ) (at b : ℕ) → at < most → length l ≤ at → page l (at + 1) ≡ stamp most (page l at) b
stamp_past most l at b h past = ap (λ (m : List ℕ). page m (at + 1)) (sym (set_out l at b past)) ∙ stamp_in most l at b h

pub stamp_full : (most : ℕ) (l : List ℕ) (at b : ℕ) → most ≤ at → page l at ≡ stamp most (page l at) b
unfolding stamp
stamp_full most l at b h = rw (le-ltb at most h)

stamp_length : (most : ℕ) (p : Page) (b : ℕ) → length (stamp most p b).bytes ≡ length p.bytes
unfolding stamp
stamp_length most p b = go (ltb p.at most)
  where
    go : (t : Bool) → length (cond t (page (set p.bytes p.at b) (p.at + 1)) p).bytes ≡ length p.bytes
    go true = length-set p.bytes p.at b
    go false = refl

-- ---- one text after another

pub write_append : (most : ℕ) (p : Page) (v w : List ℕ) → write most p (v ++ w) ≡ write most (write most p v) w
unfolding write
write_append most p [] w = refl
write_append most p (b ∷ v) w = write_append most (stamp most p b) v w

-- one byte more of a word
pub write_next : (most : ℕ) (p : Page) (word : List ℕ) (i : ℕ) {q : Page} → i < length word → q ≡ stamp most (write most p (take i word)) (get_or word i 0) → q ≡ write most p (take (i + 1) word)
unfolding write
write_next most p word i l e = e ∙ rw (take_more word i 0 l) (sym (write_append most p (take i word) (get_or word i 0 ∷ [])))

pub wrote_then : {most : ℕ} {p q s : Page} {v w : List ℕ} → Wrote most p v q → Wrote most q w s → Wrote most p (v ++ w) s
wrote_then {most} {p} {q} {s} {v} {w} e f = record { is = f.is ∙ rw e.is (sym (write_append most p v w)) }

pub wrote_nothing : (most : ℕ) (p : Page) → Wrote most p [] p
unfolding write
wrote_nothing most p = record { is = refl }

pub wrote_byte : {most : ℕ} {p q : Page} (b : ℕ) → q ≡ stamp most p b → Wrote most p (b ∷ []) q
unfolding write
wrote_byte b e = record { is = e }

-- ---- a text as far as it was written: what is left, from page q on, makes the same page as the whole from page p on

pub record Going (most : ℕ) (p : Page) (text : List ℕ) (q : Page) (left : List ℕ) : Type 0 where
  pub is : write most p text ≡ write most q left

pub going_start : (most : ℕ) (p : Page) (text : List ℕ) → Going most p text p text
going_start most p text = record { is = refl }

pub going_on : {most : ℕ} {p q s : Page} {text v left : List ℕ} → Going most p text q (v ++ left) → Wrote most q v s → Going most p text s left
going_on {most} {p} {q} {s} {text} {v} {left} g e = record { is = g.is ∙ write_append most q v left ∙ ap (λ (x : Page). write most x left) (sym e.is) }

pub going_end : {most : ℕ} {p q s : Page} {text left : List ℕ} → Going most p text q left → Wrote most q left s → Wrote most p text s
going_end g e = record { is = e.is ∙ sym g.is }

-- ---- the buffer keeps its length

write_length : (most : ℕ) (p : Page) (w : List ℕ) → length (write most p w).bytes ≡ length p.bytes
unfolding write
write_length most p [] = refl
write_length most p (b ∷ w) = write_length most (stamp most p b) w ∙ stamp_length most p b

pub same_buffer : {most : ℕ} {p q : Page} {w : List ℕ} → Wrote most p w q → length q.bytes ≡ length p.bytes
same_buffer {most} {p} {q} {w} e = ap (λ (x : Page). length x.bytes) e.is ∙ write_length most p w

pub going_buffer : {most : ℕ} {p q : Page} {text left : List ℕ} → Going most p text q left → length q.bytes ≡ length p.bytes
going_buffer {most} {p} {q} {text} {left} g =
    sym (write_length most q left) ∙ ap (λ (x : Page). length x.bytes) (sym g.is) ∙ write_length most p text

-- ---- where the text ends

pub write_fits : (most : ℕ) (p : Page) (w : List ℕ) → p.at + length w ≤ most → write most p w ≡ page (sets p.bytes p.at w) (p.at + length w)
unfolding write
write_fits most p [] h = let e : p.at ≡ p.at + 0 = omega arith in ap (page p.bytes) e
write_fits most p (b ∷ w) h =
    let q : Page = page (set p.bytes p.at b) (suc p.at) in
    let e : suc p.at + length w ≡ p.at + suc (length w) = omega arith in
    ap (λ (x : Page). write most x w) (sym (stamp_in most p.bytes p.at b (omega arith)) ∙ ap (page (set p.bytes p.at b)) (add-one p.at))
    ∙ write_fits most q w (omega arith)
    ∙ ap (page (sets p.bytes p.at (b ∷ w))) e

pub write_over : (most : ℕ) (p : Page) (w : List ℕ) → p.at ≤ most → most ≤ p.at + length w → (write most p w).at ≡ most
unfolding write
write_over most p [] h over = omega arith
write_over most p (b ∷ w) h over =
    ⊎_elim
    (λ (in_place : p.at < most). let q : Page = page (set p.bytes p.at b) (p.at + 1) in
    ap (λ (x : Page). (write most x w).at) (sym (stamp_in most p.bytes p.at b in_place)) ∙ write_over most q w (omega arith) (omega arith))
    (λ (full : most ≤ p.at). ap (λ (x : Page). (write most x w).at) (sym (stamp_full most p.bytes p.at b full)) ∙ write_over most p w h (omega arith))
    (lt_or_le p.at most)

-- a text that fits, from the start of a buffer: it stands at the front, the rest is kept, and the place after it is its length
pub wrote_whole : {most k : ℕ} {t l l' : List ℕ} → Wrote most (page l 0) t (page l' k) → length t ≤ length l → length t ≤ most → (l' ≡ t ++ drop (length t) l) × (k ≡ length t)
wrote_whole {most} {k} {t} {l} {l'} w fits within =
    let e : page l' k ≡ page (sets l 0 t) (0 + length t) = w.is ∙ write_fits most (page l 0) t (omega arith) in
    (ap (λ (q : Page). q.bytes) e ∙ sets-eq t l 0 (omega arith) ∙ rw (zero-add), ap (λ (q : Page). q.at) e ∙ zero-add (length t))
