-- What the book depends on: the actions below n, and relations 0 to 6.
use Rattle.std.specs.Prelude.{ℕ, ◌<◌, List, ◌≡◌, get_or}
use Rattle.std.proofs.Common.{ap, lit<}
use Rattle.std.proofs.Math.Path.{fun_ext}
use Rattle.rows.specs.Sets.{Rel}
use Rattle.rows.specs.Laws.Sets.{before_ext, within_ext}
use Rattle.model.specs.Actions.{no_action}
use Rattle.model.specs.Words.{word, word_rows, place_rows, thread_rows, value_rows, book_from}
use Rattle.model.specs.declared.Action.{Action}

-- the actions below n
pub book_acts : (n : ℕ) (acts others : List Action) (places : List ℕ) (σ : ℕ → Rel) → ((a : ℕ) → a < n → get_or acts a no_action ≡ get_or others a no_action) → book_from n acts places σ ≡ book_from n others places σ
unfolding book_from
book_acts n acts others places σ h =
    let words : word_rows n acts places ≡ word_rows n others places = fun_ext λ w. before_ext n _ _ (λ a l. ap (λ (x : Action). word w x (get_or places x.place 3)) (h a l)) in
    let place : place_rows n acts places ≡ place_rows n others places = within_ext n _ _ (λ a b l m. rw (h a l, h b m)) in
    let thread : thread_rows n acts places ≡ thread_rows n others places = within_ext n _ _ (λ a b l m. rw (h a l, h b m)) in
    let value : value_rows n acts places ≡ value_rows n others places = within_ext n _ _ (λ a b l m. rw (h a l, h b m)) in
    fun_ext λ k. rw (words, place, thread, value)

-- relations 0 to 6
pub book_given : (n : ℕ) (acts : List Action) (places : List ℕ) (σ τ : ℕ → Rel) → ((k : ℕ) → k < 7 → σ k ≡ τ k) → book_from n acts places σ ≡ book_from n acts places τ
unfolding book_from
book_given n acts places σ τ h = fun_ext λ k. rw (h 0 (lit< tt), h 1 (lit< tt), h 2 (lit< tt), h 3 (lit< tt), h 4 (lit< tt), h 5 (lit< tt), h 6 (lit< tt))
