-- Short texts: known by their words and lengths, and made from bytes.
use Rattle.std.proofs.Common.{◌≡◌, ℕ, zero, suc, ◌+◌, ◌*◌, ◌/◌, ◌%◌, ◌^◌, ◌<◌, ◌≤◌, min, List, [], ◌∷◌, ◌++◌, length, get_or, take, drop, sym, refl, ap, ◌∙◌, subst, length-take, mod-eq_of_lt, pow-suc, arith}
use native.Mathlib.Bridge.{le_prop}
use Rattle.std.proofs.Math.Seq.{drop-nil}
use Rattle.std.proofs.lemmas.List.{take_all}
use Rattle.store.specs.declared.short.Short.{Short}
use Rattle.store.specs.Words.{bytes_of, over}
use Rattle.store.specs.Short.{low_short, packed, short_of, Read}
use Rattle.store.proofs.Packing.{bytes_below}
use Rattle.store.proofs.Putting.{eight}

-- what is known of a short text has one proof
short_at : (b : Short) (f : b.len ≤ 8) (c : b.word < 256 ^ b.len) → ◌≡◌ {A = Short} (record { word = b.word; len = b.len; few = f; clean = c }) b
short_at b f c = λ i. record { word = b.word; len = b.len; few = le_prop f b.few i; clean = le_prop c b.clean i }

pub short_same : (a b : Short) → a.word ≡ b.word → a.len ≡ b.len → a ≡ b
short_same a b p q =
    let F : ℕ → ℕ → Type 0 = λ w l. (f : l ≤ 8) (c : w < 256 ^ l) → ◌≡◌ {A = Short} (record { word = w; len = l; few = f; clean = c }) b in
    subst (λ l. F a.word l) (sym q) (subst (λ w. F w b.len) (sym p) (short_at b)) a.few a.clean

pub low_len : (w n : ℕ) → n ≤ 8 → (low_short w n).len ≡ n
unfolding low_short
low_len w n h = omega arith

pub low_word : (w n : ℕ) → n ≤ 8 → (low_short w n).word ≡ w % 256 ^ n
unfolding low_short
low_word w n h = let e : min n 8 ≡ n = omega arith in rw e

-- the bytes of a number from its bytes

pub packed_bound : (bs : List ℕ) → ((i : ℕ) → get_or bs i 0 < 256) → packed bs < 256 ^ length bs
unfolding packed
packed_bound [] f = omega arith
packed_bound (b ∷ bs) f = rw (pow-suc 256 (length bs)) (omega (arith, f 0, packed_bound bs (λ i. f (suc i))))

pub packed_bytes : (bs : List ℕ) → ((i : ℕ) → get_or bs i 0 < 256) → bytes_of (length bs) (packed bs) ≡ bs
unfolding packed bytes_of
packed_bytes [] f = refl
packed_bytes (b ∷ bs) f =
    let l : b < 256 = f 0 in
    let e : (b + 256 * packed bs) % 256 ≡ b = omega arith in
    let g : (b + 256 * packed bs) / 256 ≡ packed bs = omega arith in
    rw (e, g) (ap (λ t. b ∷ t) (packed_bytes bs (λ i. f (suc i))))

-- a row of eight bytes, as a word
pub row_read : (row : List ℕ) (v : ℕ) → length row ≡ 8 → ((i : ℕ) → get_or row i 0 < 256) →
    v ≡ get_or row 0 0 + get_or row 1 0 * 256 + get_or row 2 0 * 65536 + get_or row 3 0 * 16777216 + get_or row 4 0 * 4294967296 + get_or row 5 0 * 1099511627776 + get_or row 6 0 * 281474976710656 + get_or row 7 0 * 72057594037927936 →
    Read row v
unfolding packed
row_read row v l f s =
    let e : get_or row 0 0 ∷ get_or row 1 0 ∷ get_or row 2 0 ∷ get_or row 3 0 ∷ get_or row 4 0 ∷ get_or row 5 0 ∷ get_or row 6 0 ∷ get_or row 7 0 ∷ [] ≡ row = eight row 0 (omega arith) ∙ take_all 8 row (omega arith) in
    record { word = s ∙ (omega arith) ∙ ap packed e; below = f }

-- bytes that were copied into a row of zeros

abbrev pub zeros : List ℕ
zeros = 0 ∷ 0 ∷ 0 ∷ 0 ∷ 0 ∷ 0 ∷ 0 ∷ 0 ∷ []

padded : (bs : List ℕ) → over zeros 0 bs ≡ take 8 bs ++ drop (length (take 8 bs)) zeros
padded [] = refl
padded (a ∷ []) = refl
padded (a ∷ b ∷ []) = refl
padded (a ∷ b ∷ c ∷ []) = refl
padded (a ∷ b ∷ c ∷ d ∷ []) = refl
padded (a ∷ b ∷ c ∷ d ∷ e ∷ []) = refl
padded (a ∷ b ∷ c ∷ d ∷ e ∷ f ∷ []) = refl
padded (a ∷ b ∷ c ∷ d ∷ e ∷ f ∷ g ∷ []) = refl
padded (a ∷ b ∷ c ∷ d ∷ e ∷ f ∷ g ∷ h ∷ bs) = let n : min (length (a ∷ b ∷ c ∷ d ∷ e ∷ f ∷ g ∷ h ∷ bs)) 8 ≡ 8 = omega arith in rw n refl

-- eight bytes that were read one by one, with 0 behind the last, are such a row
pub eight_reads : (bs : List ℕ) →
    get_or bs 0 0 ∷ get_or bs 1 0 ∷ get_or bs 2 0 ∷ get_or bs 3 0 ∷ get_or bs 4 0 ∷ get_or bs 5 0 ∷ get_or bs 6 0 ∷ get_or bs 7 0 ∷ [] ≡ over zeros 0 bs
eight_reads [] = refl
eight_reads (a ∷ []) = refl
eight_reads (a ∷ b ∷ []) = refl
eight_reads (a ∷ b ∷ c ∷ []) = refl
eight_reads (a ∷ b ∷ c ∷ d ∷ []) = refl
eight_reads (a ∷ b ∷ c ∷ d ∷ e ∷ []) = refl
eight_reads (a ∷ b ∷ c ∷ d ∷ e ∷ f ∷ []) = refl
eight_reads (a ∷ b ∷ c ∷ d ∷ e ∷ f ∷ g ∷ []) = refl
eight_reads (a ∷ b ∷ c ∷ d ∷ e ∷ f ∷ g ∷ h ∷ bs) = let n : min (length (a ∷ b ∷ c ∷ d ∷ e ∷ f ∷ g ∷ h ∷ bs)) 8 ≡ 8 = omega arith in rw n refl

packed_zeros : (xs zs : List ℕ) → packed zs ≡ 0 → packed (xs ++ zs) ≡ packed xs
unfolding packed
packed_zeros [] zs e = e
packed_zeros (x ∷ xs) zs e = ap (λ k. x + 256 * k) (packed_zeros xs zs e)

below_front : (xs zs : List ℕ) → ((i : ℕ) → get_or (xs ++ zs) i 0 < 256) → (i : ℕ) → get_or xs i 0 < 256
below_front [] zs f i = omega arith
below_front (x ∷ xs) zs f zero = f 0
below_front (x ∷ xs) zs f (suc i) = below_front xs zs (λ k. f (suc k)) i

no_more : (k : ℕ) → packed (drop k zeros) ≡ 0
unfolding packed
no_more zero = refl
no_more (suc zero) = refl
no_more (suc (suc zero)) = refl
no_more (suc (suc (suc zero))) = refl
no_more (suc (suc (suc (suc zero)))) = refl
no_more (suc (suc (suc (suc (suc zero))))) = refl
no_more (suc (suc (suc (suc (suc (suc zero)))))) = refl
no_more (suc (suc (suc (suc (suc (suc (suc zero))))))) = refl
no_more (suc (suc (suc (suc (suc (suc (suc (suc k)))))))) = ap packed (drop-nil k)

-- a row of zeros that has the first eight bytes, as a word
pub first_read : (bs row : List ℕ) (v : ℕ) → Read row v → row ≡ over zeros 0 bs → Read (take 8 bs) v
first_read bs row v r e = record {
  word = r.word ∙ ap packed (e ∙ padded bs) ∙ packed_zeros (take 8 bs) (drop (length (take 8 bs)) zeros) (no_more (length (take 8 bs)));
  below = below_front (take 8 bs) (drop (length (take 8 bs)) zeros) (λ i. subst (λ x. get_or x i 0 < 256) (e ∙ padded bs) (r.below i));
}

first_below : (bs : List ℕ) (v : ℕ) → Read (take 8 bs) v → v < 256 ^ min (length bs) 8
first_below bs v t =
    let n : length (take 8 bs) ≡ min (length bs) 8 = length-take 8 bs ∙ (omega arith) in
    subst (λ x. x < 256 ^ min (length bs) 8) (sym t.word) (subst (λ k. packed (take 8 bs) < 256 ^ k) n (packed_bound (take 8 bs) t.below))

-- a number that has room in so many bytes comes back from them
pub word_back : (k w : ℕ) → w < 256 ^ k → packed (bytes_of k w) ≡ w
unfolding packed bytes_of
word_back zero w h = omega arith
word_back (suc k) w h =
    let p : 256 ^ suc k ≡ 256 ^ k * 256 = pow-suc 256 k in
    let l : w / 256 < 256 ^ k = omega arith in
    let e = word_back k (w / 256) l in
    ap (λ t. w % 256 + 256 * t) e ∙ omega arith

-- a word whose bytes are the first eight
pub whole_read : (bs : List ℕ) (w : ℕ) → w < 256 ^ 8 → bytes_of 8 w ≡ take 8 bs → Read (take 8 bs) w
whole_read bs w h e = record { word = sym (word_back 8 w h) ∙ ap packed e; below = λ i. subst (λ x. get_or x i 0 < 256) e (bytes_below 8 w i) }

-- and so the word, with as many bytes as there are, is the short text of the bytes

pub read_clean : (bs : List ℕ) (v n : ℕ) → Read (take 8 bs) v → n ≡ min (length bs) 8 → v < 256 ^ n
read_clean bs v n t l = subst (λ k. v < 256 ^ k) (sym l) (first_below bs v t)

pub read_bytes : (bs : List ℕ) (v n : ℕ) → Read (take 8 bs) v → n ≡ min (length bs) 8 → bytes_of n v ≡ take 8 bs
read_bytes bs v n t l =
    let k : n ≡ length (take 8 bs) = omega (arith, length-take 8 bs) in
    ap (λ x. bytes_of n x) t.word ∙ ap (λ x. bytes_of x (packed (take 8 bs))) k ∙ packed_bytes (take 8 bs) t.below

pub read_short : (bs : List ℕ) (s : Short) → Read (take 8 bs) s.word → s.len ≡ min (length bs) 8 → s ≡ short_of bs
unfolding low_short
read_short bs s t l =
    short_same s (short_of bs) (sym (mod-eq_of_lt (first_below bs s.word t)) ∙ ap (λ x. x % 256 ^ min (length bs) 8) t.word) l

-- eight reads of at most eight bytes, as a word

row_below : (a b c d e f g h : ℕ) → a < 256 → b < 256 → c < 256 → d < 256 → e < 256 → f < 256 → g < 256 → h < 256 → (i : ℕ) →
    get_or (a ∷ b ∷ c ∷ d ∷ e ∷ f ∷ g ∷ h ∷ []) i 0 < 256
row_below a b c d e f g h p₀ p₁ p₂ p₃ p₄ p₅ p₆ p₇ zero = p₀
row_below a b c d e f g h p₀ p₁ p₂ p₃ p₄ p₅ p₆ p₇ (suc zero) = p₁
row_below a b c d e f g h p₀ p₁ p₂ p₃ p₄ p₅ p₆ p₇ (suc (suc zero)) = p₂
row_below a b c d e f g h p₀ p₁ p₂ p₃ p₄ p₅ p₆ p₇ (suc (suc (suc zero))) = p₃
row_below a b c d e f g h p₀ p₁ p₂ p₃ p₄ p₅ p₆ p₇ (suc (suc (suc (suc zero)))) = p₄
row_below a b c d e f g h p₀ p₁ p₂ p₃ p₄ p₅ p₆ p₇ (suc (suc (suc (suc (suc zero))))) = p₅
row_below a b c d e f g h p₀ p₁ p₂ p₃ p₄ p₅ p₆ p₇ (suc (suc (suc (suc (suc (suc zero)))))) = p₆
row_below a b c d e f g h p₀ p₁ p₂ p₃ p₄ p₅ p₆ p₇ (suc (suc (suc (suc (suc (suc (suc zero))))))) = p₇
row_below a b c d e f g h p₀ p₁ p₂ p₃ p₄ p₅ p₆ p₇ (suc (suc (suc (suc (suc (suc (suc (suc i)))))))) = omega arith

pub reads : (bs : List ℕ) (v a b c d e f g h : ℕ) → length bs ≤ 8 →
    a ≡ get_or bs 0 0 → b ≡ get_or bs 1 0 → c ≡ get_or bs 2 0 → d ≡ get_or bs 3 0 → e ≡ get_or bs 4 0 → f ≡ get_or bs 5 0 → g ≡ get_or bs 6 0 → h ≡ get_or bs 7 0 →
    a < 256 → b < 256 → c < 256 → d < 256 → e < 256 → f < 256 → g < 256 → h < 256 →
    v ≡ a + b * 256 + c * 65536 + d * 16777216 + e * 4294967296 + f * 1099511627776 + g * 281474976710656 + h * 72057594037927936 → Read bs v
reads bs v a b c d e f g h l p₀ p₁ p₂ p₃ p₄ p₅ p₆ p₇ q₀ q₁ q₂ q₃ q₄ q₅ q₆ q₇ s =
    let row : List ℕ = a ∷ b ∷ c ∷ d ∷ e ∷ f ∷ g ∷ h ∷ [] in
    let same : row ≡ get_or bs 0 0 ∷ get_or bs 1 0 ∷ get_or bs 2 0 ∷ get_or bs 3 0 ∷ get_or bs 4 0 ∷ get_or bs 5 0 ∷ get_or bs 6 0 ∷ get_or bs 7 0 ∷ [] = cc in
    let r : Read row v = row_read row v refl (row_below a b c d e f g h q₀ q₁ q₂ q₃ q₄ q₅ q₆ q₇) s in
    subst (λ x. Read x v) (take_all 8 bs l) (first_read bs row v r (same ∙ eight_reads bs))

-- the short text of bytes

pub short_len : (bs : List ℕ) → length bs ≤ 8 → (short_of bs).len ≡ length bs
short_len bs h = low_len (packed (take 8 bs)) (length bs) h

pub short_word : (bs : List ℕ) → length bs ≤ 8 → ((i : ℕ) → get_or bs i 0 < 256) → (short_of bs).word ≡ packed bs
short_word bs h f =
    low_word (packed (take 8 bs)) (length bs) h ∙ ap (λ x. packed x % 256 ^ length bs) (take_all 8 bs h) ∙ mod-eq_of_lt (packed_bound bs f)

pub short_bytes : (bs : List ℕ) → length bs ≤ 8 → ((i : ℕ) → get_or bs i 0 < 256) → bytes_of (short_of bs).len (short_of bs).word ≡ bs
short_bytes bs h f = ap (λ n. bytes_of n (short_of bs).word) (short_len bs h) ∙ ap (bytes_of (length bs)) (short_word bs h f) ∙ packed_bytes bs f
