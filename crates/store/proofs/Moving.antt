-- Bytes that are moved within words: what is read was not yet written.
use Rattle.std.proofs.Common.{◌≡◌, ℕ, zero, suc, ◌+◌, ◌-◌, ◌*◌, ◌<◌, ◌≤◌, min, ◌≢◌, ◌⊎◌, List, [], ◌∷◌, ◌++◌, length, get_or, take, drop, set, sym, refl, ap, ◌∙◌, inl, inr, arith, length-drop, length-take, get_or-drop, get_or-set_other, get_or-take, drop-drop, take_at, ext_get_or, take-add, drop_at}
use lib.Seq.{paste, take-paste, set_comm, drop-append-le}
use Rattle.std.proofs.lemmas.List.{drop_more, drop-take, take-take, take_all, get_or_past, length-take-le}
use Rattle.std.proofs.lemmas.Bool.{cases_lt}
use Rattle.store.specs.Words.{bytes_of, unpacked, put_byte, put_bytes, window}
use Rattle.store.proofs.Packing.{length_bytes, length_unpacked, unpacked_below, window_cut}
use Rattle.store.proofs.Putting.{Words, words_same, length_put, length_puts, put_set, put_fits, two_put, three_parts, words_placed, puts_all, puts_over, puts_past}

pub length_window : (f n : ℕ) (ws : List ℕ) → f + n ≤ 8 * length ws → length (window f n ws) ≡ n
length_window f n ws h = length-take-le n (drop f (unpacked ws)) (omega (arith, length-drop f (unpacked ws), length_unpacked ws))

pub get_d_window : (f n : ℕ) (ws : List ℕ) (k : ℕ) → k < n → get_or (window f n ws) k 0 ≡ get_or (unpacked ws) (f + k) 0
get_d_window f n ws k h = get_or-take n (drop f (unpacked ws)) k 0 h ∙ get_or-drop f (unpacked ws) k 0

pub window_below : (f n : ℕ) (ws : List ℕ) (k : ℕ) → get_or (window f n ws) k 0 < 256
window_below f n ws k =
    elim (cases_lt k n) [
      | inl h ↦ rw (get_d_window f n ws k h) (unpacked_below ws (f + k))
      | inr h ↦ rw (get_or_past (window f n ws) k 0 (omega (arith, length-take n (drop f (unpacked ws))))) (omega arith)
    ]

put_kept : (ws : List ℕ) (i b j : ℕ) → b < 256 → j ≢ i → get_or (unpacked (put_byte ws i b)) j 0 ≡ get_or (unpacked ws) j 0
put_kept ws i b j l n = ap (λ x. get_or x j 0) (put_set ws i b l) ∙ get_or-set_other (unpacked ws) i j b 0 n

pub byte_kept : (ws : List ℕ) (i : ℕ) (bs : List ℕ) (j : ℕ) → ((k : ℕ) → get_or bs k 0 < 256) → (j < i) ⊎ (i + length bs ≤ j) → get_or (unpacked (put_bytes ws i bs)) j 0 ≡ get_or (unpacked ws) j 0
unfolding put_bytes
byte_kept ws i [] j f o = refl
byte_kept ws i (b ∷ bs) j f (inl h) = byte_kept (put_byte ws i b) (i + 1) bs j (λ k. f (suc k)) (inl (omega arith)) ∙ put_kept ws i b j (f 0) (omega arith)
byte_kept ws i (b ∷ bs) j f (inr h) = byte_kept (put_byte ws i b) (i + 1) bs j (λ k. f (suc k)) (inr (omega arith)) ∙ put_kept ws i b j (f 0) (omega arith)

either_place : (i n f m k : ℕ) → (i + n ≤ f) ⊎ (f + m ≤ i) → k < m → (f + k < i) ⊎ (i + n ≤ f + k)
either_place i n f m k (inl h) l = inr (omega arith)
either_place i n f m k (inr h) l = inl (omega arith)

pub window_kept : (ws : List ℕ) (i : ℕ) (bs : List ℕ) (f m : ℕ) → ((k : ℕ) → get_or bs k 0 < 256) → (i + length bs ≤ f) ⊎ (f + m ≤ i) → window f m (put_bytes ws i bs) ≡ window f m ws
window_kept ws i bs f m b o =
    let us : List ℕ = put_bytes ws i bs in
    let n = length_puts ws i bs in
    let p : length (window f m us) ≡ min m (8 * length ws - f) = omega (arith, length-take m (drop f (unpacked us)), length-drop f (unpacked us), length_unpacked us) in
    let q : length (window f m ws) ≡ min m (8 * length ws - f) = omega (arith, length-take m (drop f (unpacked ws)), length-drop f (unpacked ws), length_unpacked ws) in
    ext_get_or 0 (window f m us) (window f m ws) (p ∙ sym q)
    (λ k l. get_d_window f m us k (omega arith) ∙ byte_kept ws i bs (f + k) b (either_place i (length bs) f m k o (omega arith)) ∙ sym (get_d_window f m ws k (omega arith)))

-- part of a window is one too
pub window_part : (ws : List ℕ) (f n h w : ℕ) → h + w ≤ n → take w (drop h (window f n ws)) ≡ window (f + h) w ws
window_part ws f n h w l =
    let e : n ≡ h + (n - h) = omega arith in
    ap (λ x. take w (drop h (take x (drop f (unpacked ws))))) e
    ∙ ap (take w) (drop-take h (n - h) (drop f (unpacked ws)))
    ∙ take-take w (n - h) (drop h (drop f (unpacked ws))) (omega arith)
    ∙ ap (take w) (drop-drop h f (unpacked ws))

pub window_front : (ws : List ℕ) (f n h : ℕ) → h ≤ n → take h (window f n ws) ≡ window f h ws
window_front ws f n h l = take-take h n (drop f (unpacked ws)) l

-- writes in different places can go in either order

put_swap : (ws : List ℕ) (i j a b : ℕ) → Words ws → a < 256 → b < 256 → i ≢ j → put_byte (put_byte ws i a) j b ≡ put_byte (put_byte ws j b) i a
put_swap ws i j a b f p q n =
    words_same (put_byte (put_byte ws i a) j b) (put_byte (put_byte ws j b) i a)
    (length_put (put_byte ws i a) j b ∙ length_put ws i a ∙ sym (length_put (put_byte ws j b) i a ∙ length_put ws j b))
    (put_fits (put_byte ws i a) j b (put_fits ws i a f p) q) (put_fits (put_byte ws j b) i a (put_fits ws j b f q) p)
    (put_set (put_byte ws i a) j b q ∙ ap (λ x. set x j b) (put_set ws i a p) ∙ set_comm (unpacked ws) i j a b n
    ∙ sym (put_set (put_byte ws j b) i a p ∙ ap (λ x. set x i a) (put_set ws j b q)))

puts_swap : (ws : List ℕ) (i : ℕ) (bs : List ℕ) (j b : ℕ) → Words ws → ((k : ℕ) → get_or bs k 0 < 256) → b < 256 → j < i → put_byte (put_bytes ws i bs) j b ≡ put_bytes (put_byte ws j b) i bs
unfolding put_bytes
puts_swap ws i [] j b f g l h = refl
puts_swap ws i (a ∷ bs) j b f g l h =
    puts_swap (put_byte ws i a) (i + 1) bs j b (put_fits ws i a f (g 0)) (λ k. g (suc k)) l (omega arith)
    ∙ ap (λ x. put_bytes x (i + 1) bs) (put_swap ws i j a b f (g 0) l (omega arith))

getD_dropped : (bs : List ℕ) (i : ℕ) → ((k : ℕ) → get_or bs k 0 < 256) → (k : ℕ) → get_or (drop i bs) k 0 < 256
getD_dropped bs i f k = rw (get_or-drop i bs k 0) (f (i + k))

-- one byte more, from the end
pub puts_before : (ws : List ℕ) (to : ℕ) (bs : List ℕ) (i : ℕ) → Words ws → ((k : ℕ) → get_or bs k 0 < 256) → i < length bs →
    put_byte (put_bytes ws (to + (i + 1)) (drop (i + 1) bs)) (to + i) (get_or bs i 0) ≡ put_bytes ws (to + i) (drop i bs)
unfolding put_bytes
puts_before ws to bs i f g h =
    let e : to + (i + 1) ≡ to + i + 1 = omega arith in
    puts_swap ws (to + (i + 1)) (drop (i + 1) bs) (to + i) (get_or bs i 0) f (getD_dropped bs (i + 1) g) (g i) (omega arith)
    ∙ ap (λ k. put_bytes (put_byte ws (to + i) (get_or bs i 0)) k (drop (i + 1) bs)) e
    ∙ ap (put_bytes ws (to + i)) (sym (drop_more bs i 0 h))

-- the eight bytes from any place on, of two words

pub whole_word : (ws : List ℕ) (q : ℕ) → q < length ws → bytes_of 8 (get_or ws q 0) ≡ window (8 * q) 8 ws
unfolding unpacked
whole_word [] q h = absurd (omega arith)
whole_word (w ∷ ws) zero h = sym (take_at (bytes_of 8 w) (unpacked ws) 8 (length_bytes 8 w))
whole_word (w ∷ ws) (suc q) h =
    let e : 8 * suc q ≡ 8 + 8 * q = omega arith in
    whole_word ws q (omega arith)
    ∙ ap (take 8) (sym (ap (λ k. drop k (bytes_of 8 w ++ unpacked ws)) e ∙ sym (drop-drop (8 * q) 8 (bytes_of 8 w ++ unpacked ws)) ∙ ap (drop (8 * q)) (drop_at (bytes_of 8 w) (unpacked ws) 8 (length_bytes 8 w))))

pub two_words : (ws : List ℕ) (q r : ℕ) → r < 8 → q + 1 < length ws → drop r (bytes_of 8 (get_or ws q 0)) ++ take r (bytes_of 8 (get_or ws (q + 1) 0)) ≡ window (8 * q + r) 8 ws
two_words ws q r h l =
    let u : List ℕ = unpacked ws in
    let e : r + (8 - r) ≡ 8 = omega arith in
    let f : (8 - r) + r ≡ 8 = omega arith in
    let g : (8 * q + r) + (8 - r) ≡ 8 * (q + 1) = omega arith in
    ap (λ x. drop r x ++ take r (bytes_of 8 (get_or ws (q + 1) 0))) (whole_word ws q (omega arith) ∙ ap (λ k. take k (drop (8 * q) u)) (sym e))
    ∙ ap (λ x. x ++ take r (bytes_of 8 (get_or ws (q + 1) 0))) (drop-take r (8 - r) (drop (8 * q) u) ∙ ap (take (8 - r)) (drop-drop r (8 * q) u))
    ∙ ap (λ x. take (8 - r) (drop (8 * q + r) u) ++ take r x) (whole_word ws (q + 1) l)
    ∙ ap (λ x. take (8 - r) (drop (8 * q + r) u) ++ x) (take-take r 8 (drop (8 * (q + 1)) u) (omega arith) ∙ ap (take r) (ap (λ k. drop k u) (sym g) ∙ sym (drop-drop (8 - r) (8 * q + r) u)))
    ∙ sym (take-add (8 - r) r (drop (8 * q + r) u))
    ∙ ap (λ k. take k (drop (8 * q + r) u)) f

-- what is read next was not yet written

front_below : (f n : ℕ) (ws : List ℕ) (i k : ℕ) → i ≤ n → get_or (take i (window f n ws)) k 0 < 256
front_below f n ws i k h = rw (window_front ws f n i h) (window_below f i ws k)

-- a place that is ahead of those that were written
before_or_behind : (f t i k : ℕ) → (t ≤ f) ⊎ (f + k ≤ t) → i < k → (f + i < t) ⊎ (t + i ≤ f + i)
before_or_behind f t i k (inl h) l = inr (omega arith)
before_or_behind f t i k (inr h) l = inl (omega arith)

pub byte_ahead : (ws : List ℕ) (f t n i : ℕ) → i < n → f + n ≤ 8 * length ws → (t ≤ f) ⊎ (f + n ≤ t) →
    get_or (unpacked (put_bytes ws t (take i (window f n ws)))) (f + i) 0 ≡ get_or (window f n ws) i 0
byte_ahead ws f t n i h l o =
    let b = length-take-le i (window f n ws) (omega (arith, length_window f n ws l)) in
    byte_kept ws t (take i (window f n ws)) (f + i) (λ k. front_below f n ws i k (omega arith)) (elim (before_or_behind f t i n o h) [ inl x ↦ inl x | inr x ↦ inr (omega arith) ])
    ∙ sym (get_d_window f n ws i h)

pub word_ahead : (ws : List ℕ) (f t n i : ℕ) → i + 8 ≤ n → f + n ≤ 8 * length ws → (t ≤ f) ⊎ (f + n ≤ t) →
    window (f + i) 8 (put_bytes ws t (take i (window f n ws))) ≡ take 8 (drop i (window f n ws))
word_ahead ws f t n i h l o =
    let b = length-take-le i (window f n ws) (omega (arith, length_window f n ws l)) in
    window_kept ws t (take i (window f n ws)) (f + i) 8 (λ k. front_below f n ws i k (omega arith)) (elim o [ inl x ↦ inl (omega arith) | inr x ↦ inr (omega arith) ])
    ∙ sym (window_part ws f n i 8 h)

-- from the end
pub byte_below : (ws : List ℕ) (f t n i : ℕ) → i < n → f ≤ t → f + n ≤ 8 * length ws →
    get_or (unpacked (put_bytes ws (t + (i + 1)) (drop (i + 1) (window f n ws)))) (f + i) 0 ≡ get_or (window f n ws) i 0
byte_below ws f t n i h o l =
    byte_kept ws (t + (i + 1)) (drop (i + 1) (window f n ws)) (f + i) (getD_dropped (window f n ws) (i + 1) (window_below f n ws)) (inl (omega arith))
    ∙ sym (get_d_window f n ws i h)

-- three parts, one after the other
pub moved_parts : (ws us vs ts : List ℕ) (f t h w d n : ℕ) → d ≡ h + w → d ≤ n → f + n ≤ 8 * length ws → (t ≤ f) ⊎ (f + n ≤ t) →
    us ≡ put_bytes ws t (window f h ws) → vs ≡ put_bytes us (t + h) (window (f + h) w us) → ts ≡ put_bytes vs (t + d) (window (f + d) (n - d) vs) →
    ts ≡ put_bytes ws t (window f n ws)
moved_parts ws us vs ts f t h w d n e l m o p q r =
    let bs : List ℕ = window f n ws in
    let lh = length_window f h ws (omega arith) in
    let ld = length_window f d ws (omega arith) in
    let keep : (k : ℕ) (xs : List ℕ) (j : ℕ) → k ≤ n → length (window f k ws) ≡ k → xs ≡ put_bytes ws t (window f k ws) → k + j ≤ n → window (f + k) j xs ≡ take j (drop k bs)
    = λ k xs j a b g c. ap (window (f + k) j) g
    ∙ window_kept ws t (window f k ws) (f + k) j (window_below f k ws) (elim o [ inl x ↦ inl (omega arith) | inr x ↦ inr (omega arith) ])
    ∙ sym (window_part ws f n k j c) in
    let p' : us ≡ put_bytes ws t (take h bs) = p ∙ ap (put_bytes ws t) (sym (window_front ws f n h (omega arith))) in
    let q' : vs ≡ put_bytes us (t + h) (take w (drop h bs)) = q ∙ ap (put_bytes us (t + h)) (keep h us w (omega arith) lh p (omega arith)) in
    let v : vs ≡ put_bytes ws t (window f d ws) = two_put ws us vs t bs h w d e (omega (arith, length_window f n ws m)) p' q' ∙ ap (put_bytes ws t) (window_front ws f n d l) in
    let r' : ts ≡ put_bytes vs (t + d) (take (n - d) (drop d bs)) = r ∙ ap (put_bytes vs (t + d)) (keep d vs (n - d) l ld v (omega arith)) in
    three_parts ws us vs ts t bs h w d n e l (omega (arith, length_window f n ws m)) p' q' r'
    ∙ ap (put_bytes ws t) (window_front ws f n n (omega arith))

-- words that are moved where a byte's place is whole, or none
pub moved_words : (us vs : List ℕ) (at q k f : ℕ) → vs ≡ put_bytes us (8 * q) (window f (8 * k) us) → (0 < k → 8 * q ≡ at) → vs ≡ put_bytes us at (window f (8 * k) us)
moved_words us vs at q k f e g = words_placed us vs at q k (drop f (unpacked us)) e g

-- bytes that are cut to where the words end
pub moved_cut : (ws : List ℕ) (f n t b z k : ℕ) → b ≡ min f (8 * length ws) → z ≡ min n (8 * length ws - b) → k ≡ min z (8 * length ws - t) →
    put_bytes ws t (window b k ws) ≡ put_bytes ws t (window f n ws)
moved_cut ws f n t b z k p q r =
    let l = length_window b z ws (omega arith) in
    ap (put_bytes ws t) (sym (window_front ws b z k (omega arith))) ∙ puts_all ws t (window b z ws) k (omega arith) ∙ ap (put_bytes ws t) (window_cut ws f n b z p q)

-- what is put behind a window makes it longer
pub window_append : (ws : List ℕ) (f n : ℕ) (bs : List ℕ) → ((k : ℕ) → get_or bs k 0 < 256) → f + n + length bs ≤ 8 * length ws →
    window f (n + length bs) (put_bytes ws (f + n) bs) ≡ window f n ws ++ bs
window_append ws f n bs b h =
    let us : List ℕ = put_bytes ws (f + n) bs in
    let m : ℕ = length bs in
    let u = length_unpacked ws in
    let c : min (length bs) (length (unpacked ws) - (f + n)) ≡ m = omega arith in
    let o : unpacked us ≡ paste (unpacked ws) (f + n) bs m = puts_over ws (f + n) bs b ∙ ap (paste (unpacked ws) (f + n) bs) c in
    let t : take (f + n + m) (unpacked us) ≡ take (f + n) (unpacked ws) ++ bs =
    ap (take (f + n + m)) o ∙ take-paste (unpacked ws) (f + n) bs m (omega arith) (omega arith) ∙ ap (λ x. take (f + n) (unpacked ws) ++ x) (take_all m bs (omega arith)) in
    let e : f + n + m ≡ f + (n + m) = omega arith in
    sym (drop-take f (n + m) (unpacked us))
    ∙ ap (λ k. drop f (take k (unpacked us))) (sym e)
    ∙ ap (drop f) t
    ∙ drop-append-le f (take (f + n) (unpacked ws)) bs (omega (arith, length-take-le (f + n) (unpacked ws) (omega arith)))
    ∙ ap (λ x. x ++ bs) (drop-take f n (unpacked ws))

-- bytes that are moved from any place to any other, as many as there are and have room
pub moved_within : (ws : List ℕ) (from to n f m t k : ℕ) → f ≡ min from (8 * length ws) → m ≡ min n (8 * length ws - f) → t ≡ min to (8 * length ws) → k ≡ min m (8 * length ws - t) →
    put_bytes ws t (window f k ws) ≡ put_bytes ws to (window from n ws)
moved_within ws from to n f m t k p q r s =
    let bs : List ℕ = window f m ws in
    let l : length bs ≡ m = length_window f m ws (omega arith) in
    ap (put_bytes ws t) (sym (window_front ws f m k (omega arith))) ∙ puts_all ws t bs k (omega arith)
    ∙ (elim (cases_lt to (8 * length ws)) [
      | inl h ↦ let e : t ≡ to = omega arith in ap (λ x. put_bytes ws x bs) e
      | inr h ↦ puts_past ws t bs (omega arith) ∙ sym (puts_past ws to bs h)
    ])
    ∙ ap (put_bytes ws to) (window_cut ws from n f m p q)
