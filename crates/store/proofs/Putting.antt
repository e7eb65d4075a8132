-- Bytes that are put into words, one after the other.
use Rattle.std.proofs.Common.{◌≡◌, ℕ, zero, suc, ◌+◌, ◌-◌, ◌*◌, ◌/◌, ◌%◌, ◌^◌, ◌<◌, ◌≤◌, min, List, [], ◌∷◌, ◌++◌, length, get_or, take, drop, set, sym, refl, ap, ◌∙◌, inl, inr, add-zero, pow-suc, arith, length-set, take-append-drop, get_or-set_other, get_or-set_same, take_at, drop-set-lt, take-add, drop_at}
use lib.Seq.{paste}
use Rattle.std.proofs.lemmas.List.{set_past, take_more, drop_more, length-take-le, append_assoc, take_all, take_more_set}
use Rattle.std.proofs.lemmas.List.Edits.{paste_none}
use Rattle.std.proofs.lemmas.Bool.{cases_lt, cases_eq}
use Rattle.store.specs.Words.{bytes_of, unpacked, with_byte, put_byte, put_bytes, over}
use Rattle.store.proofs.Packing.{set_is, length_bytes, length_unpacked, bytes_below, put_lt, unpacked_set, word_of}

pub length_put : (ws : List ℕ) (i b : ℕ) → length (put_byte ws i b) ≡ length ws
unfolding put_byte
length_put ws i b = length-set ws (i / 8) (with_byte (get_or ws (i / 8) 0) (i % 8) b)

pub length_puts : (ws : List ℕ) (i : ℕ) (bs : List ℕ) → length (put_bytes ws i bs) ≡ length ws
unfolding put_bytes
length_puts ws i [] = refl
length_puts ws i (b ∷ bs) = length_puts (put_byte ws i b) (i + 1) bs ∙ length_put ws i b

pub put_past : (ws : List ℕ) (i b : ℕ) → 8 * length ws ≤ i → put_byte ws i b ≡ ws
unfolding put_byte
put_past ws i b h = set_past ws (i / 8) (with_byte (get_or ws (i / 8) 0) (i % 8) b) (omega arith)

pub puts_past : (ws : List ℕ) (i : ℕ) (bs : List ℕ) → 8 * length ws ≤ i → put_bytes ws i bs ≡ ws
unfolding put_bytes
puts_past ws i [] h = refl
puts_past ws i (b ∷ bs) h = ap (λ x. put_bytes x (i + 1) bs) (put_past ws i b h) ∙ puts_past ws (i + 1) bs (omega arith)

pub puts_none : (ws : List ℕ) (i : ℕ) → put_bytes ws i [] ≡ ws
unfolding put_bytes
puts_none ws i = refl

pub puts_one : (ws : List ℕ) (i b : ℕ) → put_bytes ws i (b ∷ []) ≡ put_byte ws i b
unfolding put_bytes
puts_one ws i b = refl

pub puts_append : (ws : List ℕ) (i : ℕ) (xs bs : List ℕ) → put_bytes ws i (xs ++ bs) ≡ put_bytes (put_bytes ws i xs) (i + length xs) bs
unfolding put_bytes
puts_append ws i [] bs = rw add-zero
puts_append ws i (a ∷ xs) bs =
    let e : i + 1 + length xs ≡ i + suc (length xs) = omega arith in
    puts_append (put_byte ws i a) (i + 1) xs bs ∙ ap (λ k. put_bytes (put_bytes (put_byte ws i a) (i + 1) xs) k bs) e

-- one byte more of those that are put
pub puts_more : (ws : List ℕ) (i : ℕ) (bs : List ℕ) (j : ℕ) → j < length bs → put_bytes ws i (take (j + 1) bs) ≡ put_byte (put_bytes ws i (take j bs)) (i + j) (get_or bs j 0)
puts_more ws i bs j h =
    ap (put_bytes ws i) (take_more bs j 0 h) ∙ puts_append ws i (take j bs) (get_or bs j 0 ∷ [])
    ∙ ap (λ k. put_bytes (put_bytes ws i (take j bs)) (i + k) (get_or bs j 0 ∷ [])) (length-take-le j bs (omega arith))
    ∙ puts_one (put_bytes ws i (take j bs)) (i + j) (get_or bs j 0)

-- those that have no room change nothing
pub puts_cut : (ws : List ℕ) (i : ℕ) (bs : List ℕ) (n : ℕ) → n ≤ length bs → 8 * length ws ≤ i + n → put_bytes ws i (take n bs) ≡ put_bytes ws i bs
puts_cut ws i bs n h k =
    sym (ap (put_bytes ws i) (sym (take-append-drop n bs)) ∙ puts_append ws i (take n bs) (drop n bs)
    ∙ puts_past (put_bytes ws i (take n bs)) (i + length (take n bs)) (drop n bs) (omega (arith, length_puts ws i (take n bs), length-take-le n bs h)))

pub puts_all : (ws : List ℕ) (i : ℕ) (bs : List ℕ) (n : ℕ) → n ≡ min (length bs) (8 * length ws - i) → put_bytes ws i (take n bs) ≡ put_bytes ws i bs
puts_all ws i bs n e =
    elim (cases_lt (length bs) (8 * length ws - i)) [
      | inl h ↦ ap (put_bytes ws i) (take_all n bs (omega arith))
      | inr h ↦ puts_cut ws i bs n (omega arith) (omega arith)
    ]

over_none : (d : List ℕ) (at : ℕ) (s : List ℕ) (n : ℕ) → n ≡ 0 → paste d at s n ≡ d
over_none d at s n e = rw e (sym (paste_none d at s))

pub over_set : (d : List ℕ) (at b : ℕ) (bs : List ℕ) → over (set d at b) (at + 1) bs ≡ over d at (b ∷ bs)
over_set d at b bs =
    elim (cases_lt at (length d)) [
      | inr h ↦ rw (set_past d at b h) (over_none d (at + 1) bs (min (length bs) (length d - (at + 1))) (omega arith) ∙ sym (over_none d at (b ∷ bs) (min (suc (length bs)) (length d - at)) (omega arith)))
      | inl h ↦
          let n : ℕ = min (length bs) (length d - (at + 1)) in
          let e : min (suc (length bs)) (length d - at) ≡ suc n = omega arith in
          let f : at + 1 + n ≡ at + suc n = omega arith in
          let g : length (set d at b) ≡ length d = length-set d at b in
          let p : take (at + 1) (set d at b) ≡ take at d ++ (b ∷ []) = take_more_set d at b h in
          let q : drop (at + 1 + n) (set d at b) ≡ drop (at + 1 + n) d = drop-set-lt (at + 1 + n) d at b (omega arith) in
          rw (g, e) (ap (λ x. x ++ take n bs ++ drop (at + 1 + n) (set d at b)) p
          ∙ ap (λ x. take at d ++ (b ∷ []) ++ take n bs ++ x) (q ∙ ap (λ k. drop k d) f)
          ∙ ap (λ x. x ++ drop (at + suc n) d) (append_assoc (take at d) (b ∷ []) (take n bs)))
    ]

pub over_nothing : (d : List ℕ) (at : ℕ) → over d at [] ≡ d
over_nothing d at = over_none d at [] (min 0 (length d - at)) (omega arith)

-- in the words' bytes, they are put over what was there

pub put_set : (ws : List ℕ) (i b : ℕ) → b < 256 → unpacked (put_byte ws i b) ≡ set (unpacked ws) i b
put_set ws i b l =
    elim (cases_lt i (8 * length ws)) [
      | inl h ↦ set_is ws i b h l
      | inr h ↦ ap unpacked (put_past ws i b h) ∙ sym (set_past (unpacked ws) i b (omega (arith, length_unpacked ws)))
    ]

pub puts_over : (ws : List ℕ) (i : ℕ) (bs : List ℕ) → ((k : ℕ) → get_or bs k 0 < 256) → unpacked (put_bytes ws i bs) ≡ over (unpacked ws) i bs
unfolding put_bytes
puts_over ws i [] f = sym (over_nothing (unpacked ws) i)
puts_over ws i (b ∷ bs) f =
    puts_over (put_byte ws i b) (i + 1) bs (λ k. f (suc k)) ∙ ap (λ x. over x (i + 1) bs) (put_set ws i b (f 0)) ∙ over_set (unpacked ws) i b bs

-- whole words

abbrev pub Words : List ℕ → Type 0
Words ws = (i : ℕ) → get_or ws i 0 < 18446744073709551616

bytes_same : (k x y : ℕ) → x < 256 ^ k → y < 256 ^ k → bytes_of k x ≡ bytes_of k y → x ≡ y
unfolding bytes_of
bytes_same zero x y h l e = omega arith
bytes_same (suc k) x y h l e =
    let p : 256 ^ suc k ≡ 256 ^ k * 256 = pow-suc 256 k in
    let f : x % 256 ≡ y % 256 = ap (λ t. get_or t 0 0) e in
    let g : x / 256 ≡ y / 256 = bytes_same k (x / 256) (y / 256) (omega arith) (omega arith) (ap (drop 1) e) in
    omega arith

-- words are known by their bytes
pub words_same : (xs ys : List ℕ) → length xs ≡ length ys → Words xs → Words ys → unpacked xs ≡ unpacked ys → xs ≡ ys
unfolding unpacked
words_same [] [] n f g e = refl
words_same [] (y ∷ ys) n f g e = absurd (omega arith)
words_same (x ∷ xs) [] n f g e = absurd (omega arith)
words_same (x ∷ xs) (y ∷ ys) n f g e =
    let p : bytes_of 8 x ≡ bytes_of 8 y = sym (take_at (bytes_of 8 x) (unpacked xs) 8 (length_bytes 8 x)) ∙ ap (take 8) e ∙ take_at (bytes_of 8 y) (unpacked ys) 8 (length_bytes 8 y) in
    let q : unpacked xs ≡ unpacked ys = sym (drop_at (bytes_of 8 x) (unpacked xs) 8 (length_bytes 8 x)) ∙ ap (drop 8) e ∙ drop_at (bytes_of 8 y) (unpacked ys) 8 (length_bytes 8 y) in
    let a : x ≡ y = bytes_same 8 x y (f 0) (g 0) p in
    let b : xs ≡ ys = words_same xs ys (omega arith) (λ i. f (suc i)) (λ i. g (suc i)) q in
    ap (λ t. t ∷ xs) a ∙ ap (λ t. y ∷ t) b

pub set_fits : (ws : List ℕ) (i v : ℕ) → Words ws → v < 18446744073709551616 → Words (set ws i v)
set_fits ws i v f h j =
    elim (cases_lt i (length ws)) [
      | inr l ↦ rw (set_past ws i v l) (f j)
      | inl l ↦ elim (cases_eq j i) [
        | inl e ↦ rw (e, get_or-set_same ws i v 0 l) h
        | inr e ↦ rw (get_or-set_other ws i j v 0 e) (f j)
      ]
    ]

pub put_fits : (ws : List ℕ) (i b : ℕ) → Words ws → b < 256 → Words (put_byte ws i b)
unfolding put_byte
put_fits ws i b f h = set_fits ws (i / 8) (with_byte (get_or ws (i / 8) 0) (i % 8) b) f (put_lt 8 (i % 8) (get_or ws (i / 8) 0) b (omega arith) h (f (i / 8)))

pub puts_fits : (ws : List ℕ) (i : ℕ) (bs : List ℕ) → Words ws → ((k : ℕ) → get_or bs k 0 < 256) → Words (put_bytes ws i bs)
unfolding put_bytes
puts_fits ws i [] f h = f
puts_fits ws i (b ∷ bs) f h = puts_fits (put_byte ws i b) (i + 1) bs (put_fits ws i b f (h 0)) (λ k. h (suc k))

-- eight bytes that are a word
puts_word : (ws : List ℕ) (q v : ℕ) → Words ws → q < length ws → v < 18446744073709551616 → put_bytes ws (8 * q) (bytes_of 8 v) ≡ set ws q v
puts_word ws q v f h l =
    let n : min (length (bytes_of 8 v)) (length (unpacked ws) - 8 * q) ≡ 8 = omega (arith, length_bytes 8 v, length_unpacked ws) in
    words_same (put_bytes ws (8 * q) (bytes_of 8 v)) (set ws q v) (length_puts ws (8 * q) (bytes_of 8 v) ∙ sym (length-set ws q v))
    (puts_fits ws (8 * q) (bytes_of 8 v) f (bytes_below 8 v)) (set_fits ws q v f l)
    (puts_over ws (8 * q) (bytes_of 8 v) (bytes_below 8 v) ∙ ap (paste (unpacked ws) (8 * q) (bytes_of 8 v)) n ∙ sym (unpacked_set ws q v h))

-- one word more of those that are put
pub words_more : (ws : List ℕ) (q : ℕ) (bs : List ℕ) (i v : ℕ) (us : List ℕ) → us ≡ put_bytes ws (8 * q) (take (8 * i) bs) → Words us → q + i < length ws → 8 * i + 8 ≤ length bs → v < 18446744073709551616 →
    bytes_of 8 v ≡ take 8 (drop (8 * i) bs) → set us (q + i) v ≡ put_bytes ws (8 * q) (take (8 * (i + 1)) bs)
words_more ws q bs i v us inv f h l fv e =
    let n : 8 * (i + 1) ≡ 8 * i + 8 = omega arith in
    let m : 8 * q + 8 * i ≡ 8 * (q + i) = omega arith in
    sym (ap (λ k. put_bytes ws (8 * q) (take k bs)) n
    ∙ ap (put_bytes ws (8 * q)) (take-add (8 * i) 8 bs)
    ∙ puts_append ws (8 * q) (take (8 * i) bs) (take 8 (drop (8 * i) bs))
    ∙ ap (λ k. put_bytes (put_bytes ws (8 * q) (take (8 * i) bs)) (8 * q + k) (take 8 (drop (8 * i) bs))) (length-take-le (8 * i) bs (omega arith))
    ∙ ap (λ k. put_bytes (put_bytes ws (8 * q) (take (8 * i) bs)) k (take 8 (drop (8 * i) bs))) m
    ∙ ap (λ x. put_bytes x (8 * (q + i)) (take 8 (drop (8 * i) bs))) (sym inv)
    ∙ ap (put_bytes us (8 * (q + i))) (sym e)
    ∙ puts_word us (q + i) v f (omega (arith, ap length inv, length_puts ws (8 * q) (take (8 * i) bs))) fv)

pub eight : (xs : List ℕ) (k : ℕ) → k + 8 ≤ length xs →
    get_or xs k 0 ∷ get_or xs (k + 1) 0 ∷ get_or xs (k + 2) 0 ∷ get_or xs (k + 3) 0 ∷ get_or xs (k + 4) 0 ∷ get_or xs (k + 5) 0 ∷ get_or xs (k + 6) 0 ∷ get_or xs (k + 7) 0 ∷ [] ≡ take 8 (drop k xs)
eight xs k h =
    let e₂ : (k + 1) + 1 ≡ k + 2 = omega arith in
    let e₃ : (k + 2) + 1 ≡ k + 3 = omega arith in
    let e₄ : (k + 3) + 1 ≡ k + 4 = omega arith in
    let e₅ : (k + 4) + 1 ≡ k + 5 = omega arith in
    let e₆ : (k + 5) + 1 ≡ k + 6 = omega arith in
    let e₇ : (k + 6) + 1 ≡ k + 7 = omega arith in
    rw (drop_more xs k 0 (omega arith), drop_more xs (k + 1) 0 (omega arith), e₂, drop_more xs (k + 2) 0 (omega arith), e₃, drop_more xs (k + 3) 0 (omega arith), e₄, drop_more xs (k + 4) 0 (omega arith), e₅, drop_more xs (k + 5) 0 (omega arith), e₆, drop_more xs (k + 6) 0 (omega arith), e₇, drop_more xs (k + 7) 0 (omega arith))

-- two parts, and three, one after the other

pub two_put : (ws us vs : List ℕ) (to : ℕ) (bs : List ℕ) (h w d : ℕ) → d ≡ h + w → d ≤ length bs →
    us ≡ put_bytes ws to (take h bs) → vs ≡ put_bytes us (to + h) (take w (drop h bs)) → vs ≡ put_bytes ws to (take d bs)
two_put ws us vs to bs h w d e l p q =
    q ∙ ap (λ x. put_bytes x (to + h) (take w (drop h bs))) p
    ∙ ap (λ k. put_bytes (put_bytes ws to (take h bs)) (to + k) (take w (drop h bs))) (sym (length-take-le h bs (omega arith)))
    ∙ sym (puts_append ws to (take h bs) (take w (drop h bs)))
    ∙ ap (put_bytes ws to) (sym (take-add h w bs) ∙ ap (λ k. take k bs) (sym e))

pub three_parts : (ws us vs ts : List ℕ) (to : ℕ) (bs : List ℕ) (h w d n : ℕ) → d ≡ h + w → d ≤ n → n ≤ length bs →
    us ≡ put_bytes ws to (take h bs) → vs ≡ put_bytes us (to + h) (take w (drop h bs)) → ts ≡ put_bytes vs (to + d) (take (n - d) (drop d bs)) → ts ≡ put_bytes ws to (take n bs)
three_parts ws us vs ts to bs h w d n e l m p q r =
    two_put ws vs ts to bs d (n - d) n (omega arith) m (two_put ws us vs to bs h w d e (omega arith) p q) r

-- eight bytes that were read one by one, as a word
pub eight_read : (xs : List ℕ) (k a b c d e f g h v : ℕ) → k + 8 ≤ length xs →
    a ≡ get_or xs k 0 → b ≡ get_or xs (k + 1) 0 → c ≡ get_or xs (k + 2) 0 → d ≡ get_or xs (k + 3) 0 → e ≡ get_or xs (k + 4) 0 → f ≡ get_or xs (k + 5) 0 → g ≡ get_or xs (k + 6) 0 → h ≡ get_or xs (k + 7) 0 →
    a < 256 → b < 256 → c < 256 → d < 256 → e < 256 → f < 256 → g < 256 → h < 256 →
    v ≡ a + b * 256 + c * 65536 + d * 16777216 + e * 4294967296 + f * 1099511627776 + g * 281474976710656 + h * 72057594037927936 →
    bytes_of 8 v ≡ take 8 (drop k xs)
eight_read xs k a b c d e f g h v l p₀ p₁ p₂ p₃ p₄ p₅ p₆ p₇ q₀ q₁ q₂ q₃ q₄ q₅ q₆ q₇ s =
    let same : a ∷ b ∷ c ∷ d ∷ e ∷ f ∷ g ∷ h ∷ [] ≡ get_or xs k 0 ∷ get_or xs (k + 1) 0 ∷ get_or xs (k + 2) 0 ∷ get_or xs (k + 3) 0 ∷ get_or xs (k + 4) 0 ∷ get_or xs (k + 5) 0 ∷ get_or xs (k + 6) 0 ∷ get_or xs (k + 7) 0 ∷ [] = cc in
    ap (bytes_of 8) s ∙ word_of a b c d e f g h q₀ q₁ q₂ q₃ q₄ q₅ q₆ q₇ ∙ same ∙ eight xs k l

-- the same, where they lie in a chunk
pub chunk_read : (xs ys : List ℕ) (k v : ℕ) → ys ≡ take 8 (drop k xs) → k + 8 ≤ length xs → ((i : ℕ) → get_or xs i 0 < 256) →
    v ≡ get_or ys 0 0 + get_or ys 1 0 * 256 + get_or ys 2 0 * 65536 + get_or ys 3 0 * 16777216 + get_or ys 4 0 * 4294967296 + get_or ys 5 0 * 1099511627776 + get_or ys 6 0 * 281474976710656 + get_or ys 7 0 * 72057594037927936 →
    bytes_of 8 v ≡ take 8 (drop k xs)
chunk_read xs ys k v e l f s =
    let sum : List ℕ → ℕ = λ x. get_or x 0 0 + get_or x 1 0 * 256 + get_or x 2 0 * 65536 + get_or x 3 0 * 16777216 + get_or x 4 0 * 4294967296 + get_or x 5 0 * 1099511627776 + get_or x 6 0 * 281474976710656 + get_or x 7 0 * 72057594037927936 in
    eight_read xs k (get_or xs k 0) (get_or xs (k + 1) 0) (get_or xs (k + 2) 0) (get_or xs (k + 3) 0) (get_or xs (k + 4) 0) (get_or xs (k + 5) 0) (get_or xs (k + 6) 0) (get_or xs (k + 7) 0) v l
    refl refl refl refl refl refl refl refl (f k) (f (k + 1)) (f (k + 2)) (f (k + 3)) (f (k + 4)) (f (k + 5)) (f (k + 6)) (f (k + 7))
    (s ∙ ap sum (e ∙ sym (eight xs k l)))

-- words that are put where a byte's place is whole, or none
pub words_placed : (us vs : List ℕ) (at q k : ℕ) (bs : List ℕ) → vs ≡ put_bytes us (8 * q) (take (8 * k) bs) → (0 < k → 8 * q ≡ at) → vs ≡ put_bytes us at (take (8 * k) bs)
words_placed us vs at q k bs e f =
    elim (cases_eq k 0) [
      | inl z ↦ e ∙ (rw z (puts_none us (8 * q) ∙ sym (puts_none us at)))
      | inr z ↦ e ∙ ap (λ x. put_bytes us x (take (8 * k) bs)) (f (omega arith))
    ]
