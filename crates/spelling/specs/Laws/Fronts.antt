-- A text that was written from the start of a buffer, and fits, stands in front.
use Rattle.std.specs.Prelude.{ℕ, ◌≤◌, List, ◌≡◌, length, take, drop}
use Rattle.std.proofs.Common.{sym, ap, ◌∙◌, arith, length-append}
use Rattle.std.proofs.Math.Seq.{take-append_seam}
use Rattle.page.specs.Page.{page, Wrote}
use Rattle.page.specs.Laws.Pages.{wrote_whole}

-- the text t is the first k bytes of l
pub record Front (t l : List ℕ) (k : ℕ) : Type 0 where
  pub is : take k l ≡ t
  pub long : k ≡ length (take k l)
  pub fits : k ≤ length l

pub wrote_front : {most k : ℕ} {t l l' : List ℕ} → Wrote most (page l 0) t (page l' k) → length t ≤ most → most ≤ length l → Front t l' k
wrote_front {most} {k} {t} {l} {l'} w short room =
    let whole = wrote_whole w (omega arith) short in
    let is : take k l' ≡ t = rw (whole.0, whole.1) (take-append_seam t (drop (length t) l)) in
    record {
      is = is;
      long = whole.1 ∙ ap length (sym is);
      fits = omega (arith, whole.1, ap length whole.0 ∙ length-append t (drop (length t) l));
    }
