-- Bytes of packed words that are copied in parts.
use Rattle.std.proofs.Common.{◌≡◌, ℕ, ◌+◌, ◌-◌, ◌*◌, ◌/◌, ◌%◌, ◌<◌, ◌≤◌, min, List, ◌++◌, length, get_or, take, drop, sym, ap, ◌∙◌, inl, inr, arith, length-drop, drop-drop, take-add}
use lib.Seq.{paste}
use Rattle.std.proofs.lemmas.List.{take-take, length-take-le}
use Rattle.std.proofs.lemmas.Bool.{cases_lt}
use Rattle.store.specs.Words.{bytes_of, unpacked, window, over}
use Rattle.store.proofs.Moving.{length_window, window_part, whole_word}
use Rattle.rows.proofs.Putting.{over_over}

-- one text right behind another
pub over_then : (d : List ℕ) (at : ℕ) (s t : List ℕ) (k : ℕ) → k ≡ at + length s → k ≤ length d → over (over d at s) k t ≡ over d at (s ++ t)
over_then d at s t k e h =
    let f : k ≡ at + min (length s) (length d - at) = omega arith in
    ap (λ x. over (over d at s) x t) f ∙ over_over d at s t

pub window_add : (ws : List ℕ) (f h m : ℕ) → window f (h + m) ws ≡ window f h ws ++ window (f + h) m ws
window_add ws f h m = take-add h m (drop f (unpacked ws)) ∙ ap (λ x. window f h ws ++ take m x) (drop-drop h f (unpacked ws))

-- a word more
pub word_more : (d : List ℕ) (at : ℕ) (ws : List ℕ) (q i : ℕ) → q + i < length ws → at + 8 * i ≤ length d →
    over (over d at (window (8 * q) (8 * i) ws)) (at + 8 * i) (bytes_of 8 (get_or ws (q + i) 0)) ≡ over d at (window (8 * q) (8 * (i + 1)) ws)
word_more d at ws q i h l =
    let e : 8 * i + 8 ≡ 8 * (i + 1) = omega arith in
    let f : 8 * (q + i) ≡ 8 * q + 8 * i = omega arith in
    let n : length (window (8 * q) (8 * i) ws) ≡ 8 * i = length_window (8 * q) (8 * i) ws (omega arith) in
    ap (over (over d at (window (8 * q) (8 * i) ws)) (at + 8 * i)) (whole_word ws (q + i) h ∙ ap (λ k. window k 8 ws) f)
    ∙ over_then d at (window (8 * q) (8 * i) ws) (window (8 * q + 8 * i) 8 ws) (at + 8 * i) (omega arith) l
    ∙ ap (over d at) (sym (window_add ws (8 * q) (8 * i) 8) ∙ ap (λ k. window (8 * q) k ws) e)

-- the words begin where the first bytes end, unless there are none
words_at : (ws : List ℕ) (k m : ℕ) → (k % 8 ≡ 0 → ⊥) → m ≡ 0 → window (8 * (k / 8)) (8 * m) ws ≡ window k (8 * m) ws
words_at ws k m h e = rw e

pub words_there : (ws : List ℕ) (f h n m : ℕ) → h ≡ min ((8 - f % 8) % 8) n → m ≡ (n - h) / 8 → window (8 * ((f + h) / 8)) (8 * m) ws ≡ window (f + h) (8 * m) ws
words_there ws f h n m e g =
    elim (cases_lt ((f + h) % 8) 1) [
      | inl l ↦ let k : 8 * ((f + h) / 8) ≡ f + h = omega arith in ap (λ x. window x (8 * m) ws) k
      | inr l ↦ let z : m ≡ 0 = omega arith in words_at ws (f + h) m (λ k. omega arith) z
    ]

-- bytes before words, words, and bytes behind them
pub three : (d : List ℕ) (at : ℕ) (ws : List ℕ) (f n h m : ℕ) (a b c : List ℕ) → f + n ≤ 8 * length ws → at + n ≤ length d → h + 8 * m ≤ n →
    a ≡ over d at (window f h ws) → b ≡ over a (at + h) (window (f + h) (8 * m) ws) → c ≡ over b (at + (h + 8 * m)) (window (f + (h + 8 * m)) (n - (h + 8 * m)) ws) →
    c ≡ over d at (window f n ws)
three d at ws f n h m a b c p q r x y z =
    let k : ℕ = h + 8 * m in
    let e : k + (n - k) ≡ n = omega arith in
    let lh : length (window f h ws) ≡ h = length_window f h ws (omega arith) in
    let lk : length (window f k ws) ≡ k = length_window f k ws (omega arith) in
    let b' : b ≡ over d at (window f k ws) =
    y ∙ ap (λ t. over t (at + h) (window (f + h) (8 * m) ws)) x
    ∙ over_then d at (window f h ws) (window (f + h) (8 * m) ws) (at + h) (omega arith) (omega arith)
    ∙ ap (over d at) (sym (window_add ws f h (8 * m))) in
    z ∙ ap (λ t. over t (at + k) (window (f + k) (n - k) ws)) b'
    ∙ over_then d at (window f k ws) (window (f + k) (n - k) ws) (at + k) (omega arith) (omega arith)
    ∙ ap (over d at) (sym (window_add ws f k (n - k)) ∙ ap (λ j. window f j ws) e)

-- as much as there is room for
over_cut : (d : List ℕ) (at : ℕ) (s : List ℕ) (n : ℕ) → n ≡ min (length s) (length d - at) → over d at (take n s) ≡ over d at s
over_cut d at s n e =
    let l : length (take n s) ≡ n = length-take-le n s (omega arith) in
    let f : min (length (take n s)) (length d - at) ≡ n = omega arith in
    ap (paste d at (take n s)) f ∙ ap (λ t. take at d ++ t ++ drop (at + n) d) (take-take n n s (omega arith)) ∙ ap (paste d at s) e

pub packed_copied : (d : List ℕ) (at : ℕ) (ws : List ℕ) (f l k n : ℕ) → f + l ≤ 8 * length ws → n ≡ min (l - k) (length d - at) → 0 < n →
    over d at (window (f + k) n ws) ≡ over d at (drop k (window f l ws))
packed_copied d at ws f l k n h e p =
    let w : length (window f l ws) ≡ l = length_window f l ws h in
    ap (over d at) (sym (window_part ws f l k n (omega arith))) ∙ over_cut d at (drop k (window f l ws)) n (omega (arith, length-drop k (window f l ws)))
