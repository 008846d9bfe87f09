-- End theorems on bytes: a number and its bytes are each other's, for any number of bytes; parts of parts, of pieces and of what is stored.
-- One law for fields of every size, cited wherever a field is read or written.
use Rattle.std.specs.Prelude.{◌≡◌, refl, List, [], ◌∷◌, ◌++◌, length, get_or, set, take, drop}
use Rattle.std.proofs.Math.Path.{sym, ap}
use Rattle.std.proofs.Common.{ap₂, ◌∙◌, append_assoc, append-nil, div-add-mod', add-zero, pow-suc, div-lt_iff_lt-mul, add_assoc, zero-add, zero-mul, mod-lt, add-suc, mul_assoc, add-one, length-drop, take-append-drop, length-take-le, take-suc, get_or-drop, get_or-take, take_at, drop_at, take-add, drop-drop, take-take, take_all}
use Prim.Native.Nat.{ℕ, zero, suc, ◌+◌, ◌-◌, ◌*◌, ◌/◌, ◌%◌, ◌^◌, ◌≤◌, ◌<◌}
use Rattle.std.proofs.Math.Nat.{pow-zero, pow-le-pow_right, mul-le-mul_right, suc-mul}
use native.Mathlib.Omega.{arith}
use Rattle.std.proofs.Math.Decide.{dec_lt}
use Rattle.std.proofs.Math.Arith.{digits_div, digits_mod, digits_lt}
use Rattle.std.proofs.Math.ListN.{length-append}
use Rattle.std.proofs.lemmas.List.{get_or_at, take-append-le, drop-append-le, take-set-le, set_split}
use Rattle.std.proofs.Math.Seq.{append_snoc, take-append-add, drop-append-add, take-nil}
use Rattle.image.specs.Bytes.{bytes_of, number_at, part, store, pieces, Bytes}

pub length_bytes : (k n : ℕ) → length (bytes_of k n) ≡ k
unfolding bytes_of
length_bytes zero n = refl
length_bytes (suc k) n = length-append (bytes_of k (n / 256)) (n % 256 ∷ []) ∙ (let e = length_bytes k (n / 256) in omega arith)

-- what is made of a number's bytes is bytes
pub append_in_bytes : (b c : List ℕ) → Bytes b → Bytes c → Bytes (b ++ c)
append_in_bytes [] c left right i = right i
append_in_bytes (x ∷ b) c left right zero = left 0
append_in_bytes (x ∷ b) c left right (suc i) = append_in_bytes b c (λ j. left (suc j)) right i

pub number_in_bytes : (k n : ℕ) → Bytes (bytes_of k n)
unfolding bytes_of
number_in_bytes zero n = λ i. omega arith
number_in_bytes (suc k) n = append_in_bytes (bytes_of k (n / 256)) (n % 256 ∷ []) (number_in_bytes k (n / 256)) last
  where
    last : Bytes (n % 256 ∷ [])
    last zero = mod-lt n (omega arith)
    last (suc i) = omega arith

pub pieces_in_bytes : (f : ℕ → List ℕ) (n : ℕ) → ((k : ℕ) → Bytes (f k)) → Bytes (pieces f n)
unfolding pieces
pieces_in_bytes f zero each = λ i. omega arith
pieces_in_bytes f (suc n) each = append_in_bytes (pieces f n) (f n) (pieces_in_bytes f n each) (each n)

-- a number reads its own bytes alone
pub number_cong : (k : ℕ) (b c : List ℕ) (at to : ℕ) → ((j : ℕ) → j < k → get_or b (at + j) 0 ≡ get_or c (to + j) 0) → number_at b at k ≡ number_at c to k
unfolding number_at
number_cong zero b c at to h = refl
number_cong (suc k) b c at to h = ap₂ (λ (n d : ℕ). n * 256 + d) (number_cong k b c at to (λ j l. h j (omega arith))) (h k (omega arith))

-- the bytes of a number read as that number
pub number_bytes : (k n : ℕ) (rest : List ℕ) → n < 256 ^ k → number_at (bytes_of k n ++ rest) 0 k ≡ n
unfolding number_at bytes_of
number_bytes zero n rest h = let z : n < 1 = rw (pow-zero 256) at h in omega arith
number_bytes (suc k) n rest h =
    let upper : n / 256 < 256 ^ k = (div-lt_iff_lt-mul {k = 256} (omega arith)).1 (rw (pow-suc 256 k) at h) in
    let whole = append_assoc (bytes_of k (n / 256)) (n % 256 ∷ []) rest in
    ap₂ (λ (m d : ℕ). m * 256 + d)
    (ap (λ (b : List ℕ). number_at b 0 k) whole ∙ number_bytes k (n / 256) (n % 256 ∷ rest) upper)
    (ap (λ (b : List ℕ). get_or b (0 + k) 0) whole ∙ get_or_at (bytes_of k (n / 256)) (n % 256) rest 0 (0 + k) (length_bytes k (n / 256) ∙ sym (zero-add k)))
    ∙ div-add-mod' n 256

-- a number in two parts
number_parts : (b : List ℕ) (at k m : ℕ) → number_at b at (k + m) ≡ number_at b at k * 256 ^ m + number_at b (at + k) m
unfolding number_at
number_parts b at k zero = ap (number_at b at) (add-zero k) ∙ rw (pow-zero 256) (omega arith)
number_parts b at k (suc m) =
    let place : at + (k + m) ≡ at + k + m = omega arith in
    let rest = number_parts b at k m in
    let power : number_at b at k * 256 ^ suc m ≡ number_at b at k * 256 ^ m * 256 =
    ap (λ (n : ℕ). number_at b at k * n) (pow-suc 256 m) ∙ sym (mul_assoc (number_at b at k) (256 ^ m) 256) in
    ap (number_at b at) (add-suc k m) ∙ (ap₂ (λ (n d : ℕ). n * 256 + d) rest (ap (λ (n : ℕ). get_or b n 0) place) ∙ omega (arith, power))

-- eight bytes in halves, and four
pub number_halves : (b : List ℕ) (at : ℕ) → number_at b at 8 ≡ number_at b at 4 * 4294967296 + number_at b (at + 4) 4
number_halves b at = number_parts b at 4 4

pub number_quarters : (b : List ℕ) (at : ℕ) → number_at b at 4 ≡ number_at b at 2 * 65536 + number_at b (at + 2) 2
number_quarters b at = number_parts b at 2 2

pub number_small : (k : ℕ) (b : List ℕ) (at : ℕ) → Bytes b → number_at b at k < 256 ^ k
unfolding number_at
number_small zero b at h = rw (pow-zero 256) (omega arith)
number_small (suc k) b at h = rw (pow-suc 256 k) (digits_lt (number_small k b at h) (h (at + k)))

-- the part at an offset, one byte longer
part_suc : (b : List ℕ) (at k : ℕ) → at + suc k ≤ length b → part b at (suc k) ≡ part b at k ++ (get_or b (at + k) 0 ∷ [])
part_suc b at k h =
    take-suc (drop at b) k 0 (let l = length-drop at b in omega arith) ∙ ap (λ (d : ℕ). part b at k ++ (d ∷ [])) (get_or-drop at b k 0)

-- and a number that was read has the bytes that were read
pub bytes_number : (k : ℕ) (b : List ℕ) (at : ℕ) → Bytes b → at + k ≤ length b → bytes_of k (number_at b at k) ≡ part b at k
unfolding number_at bytes_of
bytes_number zero b at h l = refl
bytes_number (suc k) b at h l =
    ap₂ (λ (n d : ℕ). bytes_of k n ++ (d ∷ [])) (digits_div (number_at b at k) (h (at + k))) (digits_mod (number_at b at k) (h (at + k)))
    ∙ (ap (λ (front : List ℕ). front ++ (get_or b (at + k) 0 ∷ [])) (bytes_number k b at h (omega arith)) ∙ sym (part_suc b at k l))

-- parts
pub part_add : (b : List ℕ) (at n m : ℕ) → part b at (n + m) ≡ part b at n ++ part b (at + n) m
part_add b at n m = take-add n m (drop at b) ∙ ap (λ (rest : List ℕ). part b at n ++ take m rest) (drop-drop n at b)

pub part_left : (a b : List ℕ) (at n : ℕ) → at + n ≤ length a → part (a ++ b) at n ≡ part a at n
part_left a b at n h =
    ap (take n) (drop-append-le at a b (omega arith))
    ∙ take-append-le n (drop at a) b (let l = length-drop at a in omega arith)

pub part_right : (a b : List ℕ) (size at n : ℕ) → length a ≡ size → part (a ++ b) (size + at) n ≡ part b at n
part_right a b size at n e = ap (take n) (ap (λ (s : ℕ). drop (s + at) (a ++ b)) (sym e) ∙ drop-append-add a b at)

pub part_whole : (a : List ℕ) (n : ℕ) → length a ≡ n → part a 0 n ≡ a
part_whole a n e = take_all n a (omega arith)

pub part_part : (b : List ℕ) (at n to m : ℕ) → to + m ≤ n → part (part b at n) to m ≡ part b (at + to) m
part_part b at n to m h = drop_part (drop at b) n to m h ∙ ap (take m) (drop-drop to at b)
  where
    drop_part : (l : List ℕ) (n to m : ℕ) → to + m ≤ n → take m (drop to (take n l)) ≡ take m (drop to l)
    drop_part l n zero m h = take-take m n l (omega arith)
    drop_part [] n (suc to) m h = ap (λ (l : List ℕ). take m (drop (suc to) l)) (take-nil n)
    drop_part (x ∷ l) zero (suc to) m h = absurd (omega arith)
    drop_part (x ∷ l) (suc n) (suc to) m h = drop_part l n to m (omega arith)

-- a number whose bytes stand at an offset is the number there
pub number_at_lem : (k n : ℕ) (b : List ℕ) (at : ℕ) → n < 256 ^ k → part b at k ≡ bytes_of k n → number_at b at k ≡ n
number_at_lem k n b at h e =
    number_cong k b (bytes_of k n ++ []) at 0 (λ j l. sym (get_or-drop at b j 0) ∙ (sym (get_or-take k (drop at b) j 0 l) ∙ (ap (λ (p : List ℕ). get_or p j 0) (e ∙ sym (append-nil (bytes_of k n)))
    ∙ ap (λ (i : ℕ). get_or (bytes_of k n ++ []) i 0) (sym (zero-add j)))))
    ∙ number_bytes k n [] h

-- pieces of one length
module _ (f : ℕ → List ℕ) (size : ℕ) (sized : (k : ℕ) → length (f k) ≡ size) where
  pub pieces_length : (n : ℕ) → length (pieces f n) ≡ n * size
  unfolding pieces
  pieces_length zero = sym (zero-mul size)
  pieces_length (suc n) = length-append (pieces f n) (f n) ∙ (ap₂ ◌+◌ (pieces_length n) (sized n) ∙ sym (suc-mul n size))

  pub piece_at : (n k : ℕ) → k < n → part (pieces f n) (k * size) size ≡ f k
  unfolding pieces
  piece_at zero k h = absurd (omega arith)
  piece_at (suc n) k h = pick (dec_lt k n) (piece_at n k)
    where
      pick : Dec (k < n) → (k < n → part (pieces f n) (k * size) size ≡ f k) → part (pieces f n ++ f n) (k * size) size ≡ f k
      pick (yes l) back =
          part_left (pieces f n) (f n) (k * size) size (let e = pieces_length n in omega (arith, mul-le-mul_right size l, suc-mul k size))
          ∙ back l
      pick (no l) back =
          let same : k ≡ n = omega arith in
          ap (λ (i : ℕ). part (pieces f n ++ f n) i size) (ap (λ (i : ℕ). i * size) same ∙ sym (add-zero (n * size)))
          ∙ (part_right (pieces f n) (f n) (n * size) 0 size (pieces_length n) ∙ (part_whole (f n) size (sized n) ∙ ap f (sym same)))

-- the pieces of a part
pub part_pieces : (b : List ℕ) (at size n : ℕ) → part b at (n * size) ≡ pieces (λ k. part b (at + k * size) size) n
unfolding pieces
part_pieces b at size zero = ap (λ (k : ℕ). part b at k) (zero-mul size)
part_pieces b at size (suc n) =
    ap (λ (k : ℕ). part b at k) (suc-mul n size)
    ∙ (part_add b at (n * size) size ∙ ap (λ (front : List ℕ). front ++ part b (at + n * size) size) (part_pieces b at size n))

pub pieces_cong : {f g : ℕ → List ℕ} (n : ℕ) → ((k : ℕ) → k < n → f k ≡ g k) → pieces f n ≡ pieces g n
unfolding pieces
pieces_cong zero h = refl
pieces_cong (suc n) h = ap₂ ◌++◌ (pieces_cong n (λ k l. h k (omega arith))) (h n (omega arith))

-- what is stored
pub store_length : (b : List ℕ) (at : ℕ) (bytes : List ℕ) → at + length bytes ≤ length b → length (store b at bytes) ≡ length b
unfolding store
store_length b at bytes h =
    length-append (take at b ++ bytes) (drop (at + length bytes) b)
    ∙ (let front = length-append (take at b) bytes in
    let start = length-take-le at b (omega arith) in
    let rest = length-drop (at + length bytes) b in
    omega arith)

front_length : (b : List ℕ) (at : ℕ) (bytes : List ℕ) → at ≤ length b → length (take at b ++ bytes) ≡ at + length bytes
front_length b at bytes h = length-append (take at b) bytes ∙ (let start = length-take-le at b h in omega arith)

pub store_none : (b : List ℕ) (at : ℕ) → store b at [] ≡ b
unfolding store
store_none b at =
    ap₂ ◌++◌ (append-nil (take at b)) (ap (λ (n : ℕ). drop n b) (add-zero at)) ∙ take-append-drop at b

-- one behind the other is both in one
pub store_next : (b : List ℕ) (at next : ℕ) (bytes more : List ℕ) → at ≤ length b → next ≡ at + length bytes
    → store (store b at bytes) next more ≡ store b at (bytes ++ more)
unfolding store
store_next b at next bytes more h e =
    rw e
    (ap₂ (λ (front rest : List ℕ). front ++ more ++ rest)
    (take_at (take at b ++ bytes) (drop (at + length bytes) b) (at + length bytes) (front_length b at bytes h))
    rest
    ∙ ap₂ (λ (front back : List ℕ). front ++ back) (append_assoc (take at b) bytes more) refl)
  where
    rest : drop (at + length bytes + length more) (take at b ++ bytes ++ drop (at + length bytes) b) ≡ drop (at + length (bytes ++ more)) b
    rest =
        ap (λ (n : ℕ). drop (n + length more) (take at b ++ bytes ++ drop (at + length bytes) b)) (sym (front_length b at bytes h))
        ∙ (drop-append-add (take at b ++ bytes) (drop (at + length bytes) b) (length more)
        ∙ (drop-drop (length more) (at + length bytes) b
        ∙ ap (λ (n : ℕ). drop n b) (add_assoc at (length bytes) (length more) ∙ ap (λ (n : ℕ). at + n) (sym (length-append bytes more)))))

pub store_then : (b : List ℕ) (at next : ℕ) (bytes more : List ℕ) {c d : List ℕ} → at ≤ length b → next ≡ at + length bytes
    → c ≡ store b at bytes → d ≡ store c next more → d ≡ store b at (bytes ++ more)
store_then b at next bytes more h e f g = g ∙ (ap (λ (x : List ℕ). store x next more) f ∙ store_next b at next bytes more h e)

-- one element stored
pub store_one : (b : List ℕ) (at n : ℕ) → at < length b → set b at n ≡ store b at (n ∷ [])
unfolding store
store_one b at n h =
    set_split b at n h
    ∙ (sym (append_snoc (take at b) n (drop (suc at) b)) ∙ ap (λ (i : ℕ). take at b ++ (n ∷ []) ++ drop i b) (sym (add-one at)))

-- stores at places apart may be made in either order
pub store_swap : (b : List ℕ) (at to : ℕ) (bytes more : List ℕ) → at + length bytes ≤ to → to + length more ≤ length b
    → store (store b to more) at bytes ≡ store (store b at bytes) to more
unfolding store
store_swap b at to bytes more apart fits =
    ap₂ (λ (front back : List ℕ). front ++ bytes ++ back) start (drop-append-le after (whole ++ more) rest (omega (arith, size, length-append whole more))
    ∙ ap (λ (back : List ℕ). back ++ rest) (drop-append-le after whole more (omega (arith, size)) ∙ ap (λ (back : List ℕ). back ++ more) middle))
    ∙ (sym (append_assoc (take at b ++ bytes) (gap ++ more) rest)
    ∙ (ap (λ (front : List ℕ). front ++ rest) (sym (append_assoc (take at b ++ bytes) gap more))
    ∙ sym (ap₂ (λ (front back : List ℕ). front ++ more ++ back) front back)))
  where
    after : ℕ
    after = at + length bytes

    whole : List ℕ
    whole = take to b

    rest : List ℕ
    rest = drop (to + length more) b

    gap : List ℕ
    gap = take (to - after) (drop after b)

    size : length whole ≡ to
    size = length-take-le to b (omega arith)

    split : to ≡ after + (to - after)
    split = omega arith

    start : take at (whole ++ more ++ rest) ≡ take at b
    start =
        take-append-le at (whole ++ more) rest (omega (arith, size, length-append whole more))
        ∙ (take-append-le at whole more (omega (arith, size)) ∙ take-take at to b (omega arith))

    middle : drop after whole ≡ gap
    middle =
        ap (drop after) (ap (λ (n : ℕ). take n b) split ∙ take-add after (to - after) b)
        ∙ drop_at (take after b) gap after (length-take-le after b (omega arith))

    front : take to (take at b ++ bytes ++ drop after b) ≡ take at b ++ bytes ++ gap
    front =
        ap (λ (n : ℕ). take n (take at b ++ bytes ++ drop after b)) (split ∙ ap (λ (n : ℕ). n + (to - after)) (sym (front_length b at bytes (omega arith))))
        ∙ take-append-add (take at b ++ bytes) (drop after b) (to - after)

    back : drop (to + length more) (take at b ++ bytes ++ drop after b) ≡ rest
    back =
        let far : to + length more ≡ after + (to - after + length more) = omega arith in
        ap (λ (n : ℕ). drop n (take at b ++ bytes ++ drop after b)) (far ∙ ap (λ (n : ℕ). n + (to - after + length more)) (sym (front_length b at bytes (omega arith))))
        ∙ (drop-append-add (take at b ++ bytes) (drop after b) (to - after + length more)
        ∙ (drop-drop (to - after + length more) after b ∙ ap (λ (n : ℕ). drop n b) (sym far)))

-- the loop of a writer: the last byte first, then those before it
pub store_last : (b : List ℕ) (at k n : ℕ) → at + suc k ≤ length b → store (set b (at + k) (n % 256)) at (bytes_of k (n / 256)) ≡ store b at (bytes_of (suc k) n)
unfolding store bytes_of
store_last b at k n h =
    ap₂ (λ (front back : List ℕ). front ++ bytes_of k (n / 256) ++ back) (take-set-le at b (at + k) (n % 256) (omega arith)) last
    ∙ (sym (append_snoc (take at b ++ bytes_of k (n / 256)) (n % 256) (drop (suc (at + k)) b))
    ∙ ap₂ ◌++◌ (append_assoc (take at b) (bytes_of k (n / 256)) (n % 256 ∷ [])) (ap (λ (i : ℕ). drop i b) (sym size)))
  where
    last : drop (at + length (bytes_of k (n / 256))) (set b (at + k) (n % 256)) ≡ n % 256 ∷ drop (suc (at + k)) b
    last =
        ap₂ drop (ap (λ (i : ℕ). at + i) (length_bytes k (n / 256))) (set_split b (at + k) (n % 256) (omega arith))
        ∙ drop_at (take (at + k) b) (n % 256 ∷ drop (suc (at + k)) b) (at + k) (length-take-le (at + k) b (omega arith))

    size : at + length (bytes_of k (n / 256) ++ (n % 256 ∷ [])) ≡ suc (at + k)
    size = let e = length-append (bytes_of k (n / 256)) (n % 256 ∷ []) in let f = length_bytes k (n / 256) in omega arith

-- the loop of a reader: a number of fewer than 8 bytes and one byte more fit 64 bits
pub digit_room : {n k d : ℕ} → n < 256 ^ k → k < 8 → d < 256 → n * 256 + d < 18446744073709551616
digit_room {n} {k} {d} h l r =
    let next : n * 256 + d < 256 ^ suc k = rw (pow-suc 256 k) (digits_lt h r) in
    let top : 256 ^ suc k ≤ 256 ^ 8 = pow-le-pow_right (omega arith) l in
    omega arith
