-- Laws on rising indices: a list of rising indices that hits each index of the test is that list.
use Rattle.std.specs.Prelude.{◌≡◌, refl, Bool, true, false, cond, ◌⊎◌, get_or}
use Rattle.std.proofs.Common.{sym, ◌∙◌, true≢false, add-one, length-append}
use Rattle.std.proofs.Math.Path.{ap, ap₂}
use Rattle.std.proofs.Math.Logic.◌⊎◌.{inl, inr}
use mathlib.Core.List.{List, [], ◌∷◌, ◌++◌, append-nil}
use Prim.Native.Nat.{ℕ, zero, suc, ◌+◌, ◌≤◌, ◌<◌}
use Rattle.std.proofs.Math.Decide.{dec_lt, ℕ_discrete}
use native.Mathlib.Omega.{arith}
use Rattle.std.proofs.Math.ListN.{length, get_or-append}
use Rattle.std.proofs.lemmas.List.{get_or_at}
use Rattle.search.specs.SearchLaws.{decided, below_suc}
use Rattle.records.specs.Record.{listed}
use Rattle.image.specs.Indices.{index, indices}

module _ (p : ℕ → Bool) where
  pub indices_yes : (n : ℕ) → p n ≡ true → indices p (suc n) ≡ indices p n ++ (n ∷ [])
  unfolding indices
  indices_yes n t = rw t

  pub indices_no : (n : ℕ) → p n ≡ false → indices p (suc n) ≡ indices p n
  unfolding indices
  indices_no n t = (rw t) ∙ append-nil (indices p n)

  count_yes : (n : ℕ) → p n ≡ true → length (indices p (suc n)) ≡ suc (length (indices p n))
  count_yes n t = ap length (indices_yes n t) ∙ (let e = length-append (indices p n) (n ∷ []) in omega arith)

  count_no : (n : ℕ) → p n ≡ false → length (indices p (suc n)) ≡ length (indices p n)
  count_no n t = ap length (indices_no n t)

  -- a loop that counts them
  pub count_more : {c : ℕ} (n : ℕ) → c ≡ length (indices p n) → p n ≡ true → c + 1 ≡ length (indices p (n + 1))
  count_more n e t = rw (add-one n) (let f = count_yes n t in omega arith)

  pub count_same : {c : ℕ} (n : ℕ) → c ≡ length (indices p n) → p n ≡ false → c ≡ length (indices p (n + 1))
  count_same n e t = rw (add-one n) (e ∙ sym (count_no n t))

  -- at most n
  pub count_high : (n : ℕ) → length (indices p n) ≤ n
  unfolding indices
  count_high zero = omega arith
  count_high (suc n) = pick (decided (p n)) (count_high n)
    where
      pick : (p n ≡ true) ⊎ (p n ≡ false) → length (indices p n) ≤ n → length (indices p (suc n)) ≤ suc n
      pick (inl t) h = let e = count_yes n t in omega arith
      pick (inr t) h = let e = count_no n t in omega arith

  -- going on leaves those that were found
  pub index_kept : (n k : ℕ) → k < length (indices p n) → index p (suc n) k ≡ index p n k
  unfolding indices
  index_kept n k h = get_or-append (indices p n) (cond (p n) (n ∷ []) []) 0 k h

  -- the index at which the test holds next comes next
  pub index_next : (n : ℕ) → p n ≡ true → index p (suc n) (length (indices p n)) ≡ n
  index_next n t = ap (λ (l : List ℕ). get_or l (length (indices p n)) 0) (indices_yes n t) ∙ get_or_at (indices p n) n [] 0 (length (indices p n)) refl

  -- each of them is below n, and the test holds there
  pub index_hit : (n k : ℕ) → k < length (indices p n) → (index p n k < n) × (p (index p n k) ≡ true)
  index_hit zero k h = absurd (let e = count_high 0 in omega arith)
  index_hit (suc n) k h = pick (decided (p n)) (dec_lt k (length (indices p n))) (index_hit n k)
    where
      pick : (p n ≡ true) ⊎ (p n ≡ false) → Dec (k < length (indices p n))
          → (k < length (indices p n) → (index p n k < n) × (p (index p n k) ≡ true)) → (index p (suc n) k < suc n) × (p (index p (suc n) k) ≡ true)
      pick d (yes l) old = let r = old l in let e = index_kept n k l in (omega (arith, r.0), ap p e ∙ r.1)
      pick (inl t) (no l) old =
          let last : k ≡ length (indices p n) = (let e = count_yes n t in omega arith) in
          let e : index p (suc n) k ≡ n = ap (index p (suc n)) last ∙ index_next n t in
          (omega arith, ap p e ∙ t)
      pick (inr t) (no l) old = absurd (let e = count_no n t in omega arith)

  -- and they rise
  pub index_rises : (n j k : ℕ) → j < k → k < length (indices p n) → index p n j < index p n k
  index_rises zero j k l h = absurd (let e = count_high 0 in omega arith)
  index_rises (suc n) j k l h = pick (decided (p n)) (dec_lt k (length (indices p n))) (index_rises n j k l)
    where
      pick : (p n ≡ true) ⊎ (p n ≡ false) → Dec (k < length (indices p n)) → (k < length (indices p n) → index p n j < index p n k)
          → index p (suc n) j < index p (suc n) k
      pick d (yes r) old = let a = index_kept n j (omega arith) in let b = index_kept n k r in let c = old r in omega arith
      pick (inl t) (no r) old =
          let last : k ≡ length (indices p n) = (let e = count_yes n t in omega arith) in
          let e : index p (suc n) k ≡ n = ap (index p (suc n)) last ∙ index_next n t in
          let a = index_kept n j (omega arith) in
          let b = index_hit n j (omega arith) in
          omega (arith, b.0)
      pick (inr t) (no r) old = absurd (let e = count_no n t in omega arith)

  -- fewer indices, and as many as stand before an index at which the test holds
  pub index_at : (n i : ℕ) → i < n → p i ≡ true → (length (indices p i) < length (indices p n)) × (index p n (length (indices p i)) ≡ i)
  index_at zero i h t = absurd (omega arith)
  index_at (suc n) i h t = pick (ℕ_discrete i n) (decided (p n)) (λ l. index_at n i l t)
    where
      more : (p n ≡ true) ⊎ (p n ≡ false) → length (indices p n) ≤ length (indices p (suc n))
      more (inl t) = let e = count_yes n t in omega arith
      more (inr t) = let e = count_no n t in omega arith

      pick : Dec (i ≡ n) → (p n ≡ true) ⊎ (p n ≡ false)
          → (i < n → (length (indices p i) < length (indices p n)) × (index p n (length (indices p i)) ≡ i))
          → (length (indices p i) < length (indices p (suc n))) × (index p (suc n) (length (indices p i)) ≡ i)
      pick (yes e) d old =
          let u : p n ≡ true = ap p (sym e) ∙ t in
          let f : length (indices p i) ≡ length (indices p n) = ap (λ (m : ℕ). length (indices p m)) e in
          (let c = count_yes n u in omega arith, ap (index p (suc n)) f ∙ (index_next n u ∙ sym e))
      pick (no e) d old =
          let r = old (omega arith) in
          (let m = more d in omega (arith, r.0), index_kept n (length (indices p i)) r.0 ∙ r.1)

  -- a rising row of indices, below n, that are just those at which the test holds
  module _ (g : ℕ → ℕ) (e : ℕ) (rises : (j k : ℕ) → j < k → k < e → g j < g k) (hits : (k : ℕ) → k < e → p (g k) ≡ true)
      (all : (i : ℕ) → p i ≡ true → (k : ℕ) × (k < e) × (g k ≡ i)) where
    -- below m stand the first k of the row
    record Reached (m : ℕ) : Type 0 where
      count : ℕ
      few : count ≤ e
      same : indices p m ≡ listed count g
      before : (j : ℕ) → j < count → g j < m
      after : (j : ℕ) → count ≤ j → j < e → m ≤ g j

    not_before : {m : ℕ} (r : Reached m) (k : ℕ) → g k ≡ m → r.count ≤ k
    not_before r k f = pick (dec_lt k r.count)
      where
        pick : Dec (k < r.count) → r.count ≤ k
        pick (yes l) = absurd (let b = r.before k l in omega arith)
        pick (no l) = omega arith

    few_after : {m : ℕ} (r : Reached m) (k : ℕ) → k < e → g k ≡ m → k ≤ r.count
    few_after r k h f = pick (dec_lt r.count k)
      where
        pick : Dec (r.count < k) → k ≤ r.count
        pick (yes l) = absurd (let a = r.after r.count (omega arith) (omega arith) in let b = rises r.count k l h in omega arith)
        pick (no l) = omega arith

    differs : {m : ℕ} (j : ℕ) → j < e → p m ≡ false → g j ≡ m → ⊥
    differs j h f same = true≢false (sym (hits j h) ∙ (ap p same ∙ f))

    reached : (m : ℕ) → Reached m
    unfolding indices listed
    reached zero = record { count = 0; few = omega arith; same = refl; before = λ j h. absurd (omega arith); after = λ j l h. omega arith }
    reached (suc m) = pick (decided (p m)) (reached m)
      where
        pick : (p m ≡ true) ⊎ (p m ≡ false) → Reached m → Reached (suc m)
        pick (inl t) r =
            let found = all m t in
            let at : found.0 ≡ r.count = omega (arith, few_after r found.0 found.1 found.2, not_before r found.0 found.2) in
            let here : g r.count ≡ m = ap g (sym at) ∙ found.2 in
            let room : r.count < e = omega (arith, found.1) in record {
              count = suc r.count;
              few = room;
              same = indices_yes m t ∙ ap₂ (λ (l : List ℕ) (i : ℕ). l ++ (i ∷ [])) r.same (sym here);
              before = below_suc (λ (j : ℕ). g j < suc m) r.count (λ j h. let b = r.before j h in omega arith) (omega arith);
              after = λ j l h. let a = rises r.count j l h in omega arith;
            }
        pick (inr t) r = record {
          count = r.count;
          few = r.few;
          same = indices_no m t ∙ r.same;
          before = λ j h. let b = r.before j h in omega arith;
          after = λ j l h. let a = r.after j l h in let d = differs j h t in omega (arith, d);
        }

    -- so the row is the list
    pub indices_row : (n : ℕ) → ((k : ℕ) → k < e → g k < n) → indices p n ≡ listed e g
    indices_row n below = let r = reached n in r.same ∙ ap (λ (k : ℕ). listed k g) (whole r (dec_lt r.count e))
      where
        whole : (r : Reached n) → Dec (r.count < e) → r.count ≡ e
        whole r (yes l) = absurd (let a = r.after r.count (omega arith) l in let b = below r.count l in omega arith)
        whole r (no l) = let f = r.few in omega arith
