-- One byte more than the longest text has decides the answer to any text.
use Rattle.std.specs.Prelude.{ℕ, zero, suc, ◌<◌, ◌≤◌, true, false, List, [], ◌∷◌, ◌≡◌, refl, eqb, length, take, drop}
use Rattle.std.proofs.Common.{inl, inr, ⊎_elim, arith, length-take-le, take_all}
use Rattle.rows.specs.Laws.Truth.{both_true, and_both, not_both, is_false, lt_or_le}
use Rattle.spelling.specs.Spelling.{header_line, place_line, action_line, edge_line, end_line, starts, stands}
use Rattle.text.specs.Texts.{text_of, text_room}
use Rattle.text.proofs.Laws.Longest.{places_length, actions_length, lines_length, text_length}
use Rattle.text.specs.FirstBad.{Begins, BadFirst, BadPlace, BadAction, BadEdge, BadRest, FirstBad}

-- ---- what stands in the front of a text

-- what begins the front begins the whole
starts_front : (u s : List ℕ) (m : ℕ) → starts u (take m s) ≡ true → starts u s ≡ true
unfolding starts
starts_front [] s m e = refl
starts_front (x ∷ u) [] zero e = e
starts_front (x ∷ u) [] (suc m) e = e
starts_front (x ∷ u) (y ∷ s) zero e = not_both e refl
starts_front (x ∷ u) (y ∷ s) (suc m) e =
    let h = both_true (eqb x y) (starts u (take m s)) e in
    and_both h.0 (starts_front u s m h.1)

-- and what stands in it at q stands there in the whole
stands_front : (u s : List ℕ) (m q : ℕ) → stands (take m s) q u ≡ true → stands s q u ≡ true
stands_front u s m zero e = starts_front u s m e
stands_front u [] zero (suc q) e = e
stands_front u [] (suc m) (suc q) e = e
stands_front u (y ∷ s) zero (suc q) e = starts_front u (drop q s) 0 e
stands_front u (y ∷ s) (suc m) (suc q) e = stands_front u s m q e

missing_front : (u s : List ℕ) (m q : ℕ) → stands s q u ≡ false → stands (take m s) q u ≡ false
missing_front u s m q e = is_false (stands (take m s) q u) (λ h. not_both (stands_front u s m q h) e)

-- what begins the whole begins its front, if it isn't longer
front_starts : (u s : List ℕ) (m : ℕ) → length u ≤ m → starts u s ≡ true → starts u (take m s) ≡ true
unfolding starts
front_starts [] s m l e = refl
front_starts (x ∷ u) [] m l e = not_both e refl
front_starts (x ∷ u) (y ∷ s) zero l e = absurd (omega arith)
front_starts (x ∷ u) (y ∷ s) (suc m) l e =
    let h = both_true (eqb x y) (starts u s) e in
    and_both h.0 (front_starts u s m (omega arith) h.1)

begins_front : (u s : List ℕ) (q m : ℕ) → length u ≤ m → Begins u s q → Begins u (take m s) q
begins_front u s q m l b = record { is = front_starts u s m l b.is; at = b.at }

longer_front : (s : List ℕ) (m q : ℕ) → q < m → q < length s → q < length (take m s)
longer_front s m q in_front in_text = ⊎_elim
    (λ (l : m < length s). rw (length-take-le m s (omega arith)) in_front)
    (λ (l : length s ≤ m). rw (take_all m s l) in_text)
    (lt_or_le m (length s))

-- ---- the first bad line is in the front

module _ (s : List ℕ) (q : ℕ) where
  abbrev front : List ℕ
  front = take text_room s

  first_front_lem : BadFirst s q → BadFirst front q
  first_front_lem b = record { at = b.at; missing = λ e n t p ok. missing_front (header_line e n t p) s text_room q (b.missing e n t p ok) }

  place_front : BadPlace s q → BadPlace front q
  place_front b =
      let few = places_length b.e b.n b.t b.p b.limits b.place b.i (omega (arith, b.fewer)) in
      record {
        e = b.e;
        n = b.n;
        t = b.t;
        p = b.p;
        place = b.place;
        i = b.i;
        limits = b.limits;
        places = b.places;
        fewer = b.fewer;
        begins = begins_front _ s q text_room (omega (arith, few)) b.begins;
        missing = λ k ok. missing_front (place_line k) s text_room q (b.missing k ok);
      }

  action_front : BadAction s q → BadAction front q
  action_front b =
      let few = actions_length b.e b.n b.t b.p b.limits b.place b.act b.i (omega (arith, b.fewer)) b.actions in
      record {
        e = b.e;
        n = b.n;
        t = b.t;
        p = b.p;
        place = b.place;
        act = b.act;
        i = b.i;
        limits = b.limits;
        places = b.places;
        actions = b.actions;
        fewer = b.fewer;
        begins = begins_front _ s q text_room (omega (arith, few)) b.begins;
        missing = λ x ok fits. missing_front (action_line x) s text_room q (b.missing x ok fits);
      }

  edge_front : BadEdge s q → BadEdge front q
  edge_front b =
      let few = lines_length b.e b.n b.t b.p b.lined.limits b.place b.act b.r b.lined.actions in
      record {
        e = b.e;
        n = b.n;
        t = b.t;
        p = b.p;
        place = b.place;
        act = b.act;
        r = b.r;
        lined = b.lined;
        begins = begins_front _ s q text_room (omega (arith, few)) b.begins;
        missing = λ k a c hk ha hc free past. missing_front (edge_line k a c) s text_room q (b.missing k a c hk ha hc free past);
        endless = missing_front end_line s text_room q b.endless;
      }

  rest_front : BadRest s q → BadRest front q
  rest_front b =
      let few = text_length b.X b.fileable in
      record {
        X = b.X;
        fileable = b.fileable;
        begins = begins_front (text_of b.X) s q text_room (omega (arith, few)) b.begins;
        more = longer_front s text_room q (omega (arith, few, b.begins.at)) b.more;
      }

  pub bad_front : FirstBad s q → FirstBad front q
  bad_front =
      ⊎_elim (λ b. inl (first_front_lem b))
      (⊎_elim (λ b. inr (inl (place_front b)))
      (⊎_elim (λ b. inr (inr (inl (action_front b))))
      (⊎_elim (λ b. inr (inr (inr (inl (edge_front b))))) (λ b. inr (inr (inr (inr (rest_front b))))))))
