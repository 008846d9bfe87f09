-- End theorems on replies: in a layout in order the first match is the highest-ranked match among the entries held, wherever they stand.
-- So a reply is a function of the set of entries held, and equal sets give equal replies.
use Rattle.std.specs.Prelude.{◌≡◌, refl, Bool, true, ◌&&◌, ◌↔◌, ◌⊎◌, List, ℕ, ◌<◌, ◌≤◌, get_or}
use Rattle.std.proofs.Common.{sym, ap, ◌∙◌, true≢false, arith, lt-ltb, le-ltb}
use Rattle.std.proofs.Math.Bool.{false}
use Rattle.std.proofs.Math.Logic.◌⊎◌.{inl, inr}
use Rattle.std.proofs.Math.Option.{Option, none, some}
use Rattle.std.proofs.Math.Nat.{zero-add}
use Rattle.std.proofs.Math.Decide.{ℕ_discrete, dec_lt}
use Rattle.std.proofs.Math.ListN.{length}
use Rattle.search.specs.Search.{Least}
use Rattle.search.specs.SearchLaws.{least_law, and_both, and_left, and_right, decided}
use Rattle.layout.specs.Order.{Laws, InOrder, precedes}
use Rattle.layout.specs.Held.{Held, Coherent}
use Rattle.layout.specs.Replies.{ConflictOrAlike, Highest, reply, Answers, first_match}

module _ {S : Type 0} (empty : S) (occupied matches : S → Bool) where
  pub first_match_law : (t : List S) → Least (λ i. occupied (get_or t i empty) && matches (get_or t i empty)) 0 (length t) (first_match empty occupied matches t)
  unfolding first_match
  first_match_law t = rw zero-add at (least_law (λ i. occupied (get_or t i empty) && matches (get_or t i empty)) (length t) 0)

  -- there is a match exactly when an entry held matches
  pub match_held : (t : List S) → (first_match empty occupied matches t < length t) ↔ ((x : S) × Held empty occupied t x × (matches x ≡ true))
  match_held t = (forth, back)
    where
      f : Least (λ i. occupied (get_or t i empty) && matches (get_or t i empty)) 0 (length t) (first_match empty occupied matches t)
      f = first_match_law t

      forth : first_match empty occupied matches t < length t → (x : S) × Held empty occupied t x × (matches x ≡ true)
      forth h =
          let x : S = get_or t (first_match empty occupied matches t) empty in
          (x, (and_left (occupied x) (matches x) (f.hit h), (first_match empty occupied matches t, h, refl)), and_right (occupied x) (matches x) (f.hit h))

      back : (x : S) × Held empty occupied t x × (matches x ≡ true) → first_match empty occupied matches t < length t
      back (x, (o, (i, b, e)), m) = pick (dec_lt (first_match empty occupied matches t) (length t))
        where
          here : occupied (get_or t i empty) && matches (get_or t i empty) ≡ true
          here = rw e (and_both (occupied x) (matches x) o m)

          pick : Dec (first_match empty occupied matches t < length t) → first_match empty occupied matches t < length t
          pick (yes h) = h
          pick (no h) = absurd (true≢false (sym here ∙ f.before i (omega arith) (omega arith)))

  -- an entry held that matches stands at the first match or after it
  pub held_after : (t : List S) (i : ℕ) → i < length t → occupied (get_or t i empty) ≡ true → matches (get_or t i empty) ≡ true → first_match empty occupied matches t ≤ i
  held_after t i b o m = pick (dec_lt i (first_match empty occupied matches t))
    where
      pick : Dec (i < first_match empty occupied matches t) → first_match empty occupied matches t ≤ i
      pick (yes h) = absurd (true≢false (sym (and_both (occupied (get_or t i empty)) (matches (get_or t i empty)) o m) ∙ (first_match_law t).before i (omega arith) h))
      pick (no h) = omega arith

module _
    {S : Type 0} {empty : S} {occupied : S → Bool} {same misordered : S → S → Bool} (laws : Laws empty occupied same misordered)
    (matches : S → Bool) (t : List S) (ordered : InOrder empty misordered t) where
  -- the first match before any entry held that matches is in order
  first_before : first_match empty occupied matches t < length t → (y : S) → Held empty occupied t y → matches y ≡ true
      → misordered (get_or t (first_match empty occupied matches t) empty) y ≡ false
  first_before h y (o, (i, b, e)) m = pick (ℕ_discrete (first_match empty occupied matches t) i)
    where
      pick : Dec (first_match empty occupied matches t ≡ i) → misordered (get_or t (first_match empty occupied matches t) empty) y ≡ false
      pick (yes d) = rw (d, e) (laws.misordered_same y y (laws.same_self y o))
      pick (no d) =
          let l : first_match empty occupied matches t ≤ i = held_after empty occupied matches t i b (rw e o) (rw e m) in
          rw e at (ordered (first_match empty occupied matches t) i (omega arith) b)

  -- the first match is a highest-ranked match among the entries held
  pub first_highest : first_match empty occupied matches t < length t
      → Highest misordered matches (Held empty occupied t) (get_or t (first_match empty occupied matches t) empty)
  first_highest h =
      let first : S = get_or t (first_match empty occupied matches t) empty in
      let both : occupied first && matches first ≡ true = (first_match_law empty occupied matches t).hit h in
      record {
        member = (and_left (occupied first) (matches first) both, (first_match empty occupied matches t, h, refl));
        matched = and_right (occupied first) (matches first) both;
        unsurpassed = λ y w m. rw (first_before h y w m);
      }

  module _
      {O : Type 0} (observed : S → O) (coherent : Coherent empty same t)
      (tell : ConflictOrAlike occupied same misordered matches observed) where
    -- each highest-ranked match among the entries held is observed as the first match is
    pub highest_observed : first_match empty occupied matches t < length t → (x : S) → Highest misordered matches (Held empty occupied t) x
        → observed x ≡ observed (get_or t (first_match empty occupied matches t) empty)
    highest_observed h x w = pick (decided (same x first))
      where
        at : ℕ
        at = first_match empty occupied matches t

        first : S
        first = get_or t at empty

        top : Highest misordered matches (Held empty occupied t) first
        top = first_highest h

        above : misordered x first ≡ true → precedes misordered first x ≡ true
        above e = rw (e, first_before h x w.member w.matched)

        apart : ((misordered x first ≡ true) ⊎ (misordered first x ≡ true)) ⊎ (observed x ≡ observed first) → observed x ≡ observed first
        apart (inr e) = e
        apart (inl (inl e)) = absurd (true≢false (sym (above e) ∙ w.unsurpassed first top.member top.matched))
        apart (inl (inr e)) = absurd (true≢false (sym e ∙ first_before h x w.member w.matched))

        equal : (i : ℕ) → i < length t → get_or t i empty ≡ x → same x first ≡ true → x ≡ first
        equal i b e s = sym e ∙ coherent i at b h (rw e s)

        pick : (same x first ≡ true) ⊎ (same x first ≡ false) → observed x ≡ observed first
        pick (inl s) = ap observed (equal w.member.1.0 w.member.1.1 w.member.1.2 s)
        pick (inr s) = apart (tell x first w.member.0 top.member.0 w.matched top.matched s)

    -- the layout's reply is the one that the set of its entries gives
    pub reply_answers : Answers misordered matches observed (Held empty occupied t) (reply empty occupied matches observed t)
    unfolding reply
    reply_answers = pick (dec_lt (first_match empty occupied matches t) (length t))
      where
        pick : Dec (first_match empty occupied matches t < length t)
            → Answers misordered matches observed (Held empty occupied t) (reply empty occupied matches observed t)
        pick (yes h) = rw (lt-ltb _ _ h) (get_or t (first_match empty occupied matches t) empty, first_highest h, refl)
        pick (no h) = rw (le-ltb (first_match empty occupied matches t) (length t) (omega arith)) (λ x w. miss x w (decided (matches x)))
          where
            miss : (x : S) → Held empty occupied t x → (matches x ≡ true) ⊎ (matches x ≡ false) → matches x ≡ false
            miss x w (inl m) = absurd (h ((match_held empty occupied matches t).1 (x, w, m)))
            miss x w (inr m) = m

    -- and that set gives no other
    pub answers_reply : (o : Option O) → Answers misordered matches observed (Held empty occupied t) o → o ≡ reply empty occupied matches observed t
    unfolding reply
    answers_reply none a = pick (dec_lt (first_match empty occupied matches t) (length t))
      where
        pick : Dec (first_match empty occupied matches t < length t) → none ≡ reply empty occupied matches observed t
        pick (yes h) = let r = (match_held empty occupied matches t).0 h in absurd (true≢false (sym r.2 ∙ a r.0 r.1))
        pick (no h) = rw (le-ltb (first_match empty occupied matches t) (length t) (omega arith))
    answers_reply (some o) (x, w, e) =
        let h : first_match empty occupied matches t < length t = (match_held empty occupied matches t).1 (x, w.member, w.matched) in
        rw (lt-ltb _ _ h, ← e, highest_observed h x w)

-- a set of rules that answers does so wherever an equal set does
pub answers_equal : {S O : Type 0} (misordered : S → S → Bool) (matches : S → Bool) (observed : S → O) (rules others : S → Type 0)
    → ((x : S) → rules x ↔ others x) → (o : Option O) → Answers misordered matches observed rules o → Answers misordered matches observed others o
answers_equal misordered matches observed rules others f none a = λ x w. a x ((f x).1 w)
answers_equal misordered matches observed rules others f (some o) (x, w, e) =
    (x, record { member = (f x).0 w.member; matched = w.matched; unsurpassed = λ y v. w.unsurpassed y ((f y).1 v) }, e)

-- hence equal sets of entries give equal replies
pub equal_replies :
    {S O : Type 0} {empty : S} {occupied : S → Bool} {same misordered : S → S → Bool} → Laws empty occupied same misordered
    → (matches : S → Bool) (observed : S → O) → ConflictOrAlike occupied same misordered matches observed
    → (t u : List S) → InOrder empty misordered t → InOrder empty misordered u → Coherent empty same t → Coherent empty same u
    → ((x : S) → Held empty occupied t x ↔ Held empty occupied u x)
    → reply empty occupied matches observed t ≡ reply empty occupied matches observed u
equal_replies {S} {O} {empty} {occupied} {same} {misordered} laws matches observed tell t u ot ou ct cu f =
    answers_reply laws matches u ou observed cu tell (reply empty occupied matches observed t)
    (answers_equal misordered matches observed (Held empty occupied t) (Held empty occupied u) f (reply empty occupied matches observed t)
    (reply_answers laws matches t ot observed ct tell))
