-- How long what is printed can be.
use Rattle.std.proofs.Common.{◌≡◌, ℕ, zero, suc, ◌+◌, ◌*◌, ◌/◌, ◌%◌, ◌≤◌, List, [], ◌∷◌, length, drop, ℤ, pos, negsuc, refl, ap, inl, inr, arith, length-append, length-drop, length-take, le-ltb, lt-ltb}
use Rattle.std.proofs.lemmas.Bool.{cases_lt}
use Rattle.language.specs.Text.{digits, as_text, joined, each}
use Rattle.store.specs.declared.cells.Value.{Value}
use Rattle.store.specs.declared.cells.Value.TheVariants.{Unset, Number, Text, Short as InShort}
use Rattle.store.specs.Numbers.{number}
use Rattle.store.specs.Words.{unpacked, window}
use Rattle.store.specs.Space.{Space, space, text_of, bytes_at, length_of}
use Rattle.store.specs.Values.{decoded, worth}
use Rattle.store.proofs.Packing.{length_bytes, length_unpacked}
use Rattle.regions.specs.Parts.{Parts, part, parts}
use Rattle.rows.specs.Rows.{run, worths}

digits_width : (k m : ℕ) (ds : List ℕ) → length (digits k m ds) ≤ k + length ds
unfolding digits
digits_width zero m ds = omega arith
digits_width (suc k) m ds =
    elim (cases_lt m 10) [
      | inl h ↦ rw (lt-ltb m 10 h) (omega arith)
      | inr h ↦ rw (le-ltb m 10 h) (omega (arith, digits_width k (m / 10) ((48 + m % 10) ∷ ds)))
    ]

number_width : (z : ℤ) → length (as_text (number z)) ≤ 21
unfolding as_text
number_width (pos n) = omega (arith, digits_width 20 n [])
number_width (negsuc n) = omega (arith, digits_width 20 (suc n) [])

window_width : (f n : ℕ) (ws : List ℕ) → length (window f n ws) ≤ 8 * length ws
window_width f n ws = omega (arith, length-take n (drop f (unpacked ws)), length-drop f (unpacked ws), length_unpacked ws)

-- no text is longer than the region of texts
value_width : (s : Space) (v : Value) → length s.heap ≤ 98304 → length (as_text (worth 77822 s v)) ≤ 786432
unfolding as_text text_of
value_width s Unset h = omega arith
value_width s (Number n) h = omega (arith, number_width n)
value_width s (InShort b) h = omega (arith, length_bytes b.len b.word, b.few)
value_width s (Text t) h = omega (arith, window_width (bytes_at 77822 s t.index) (length_of 77822 s t.index) s.heap)

joined_width : (s : Space) (vs : List Value) → length s.heap ≤ 98304 → length (joined (each as_text (each (worth 77822 s) vs))) ≤ 786433 * length vs
unfolding joined
joined_width s [] h = omega arith
joined_width s (v ∷ []) h = omega (arith, value_width s v h)
joined_width s (v ∷ w ∷ vs) h =
    let t : List ℕ = as_text (worth 77822 s v) in
    let r : List ℕ = joined (each as_text (each (worth 77822 s) (w ∷ vs))) in
    omega (arith, length-append t (32 ∷ r), value_width s v h, joined_width s (w ∷ vs) h)

run_length : (cs : List Value) (i n : ℕ) → length (run cs i n) ≡ n
unfolding run
run_length cs i zero = refl
run_length cs i (suc n) = ap (λ k. suc k) (run_length cs (suc i) n)

heap_width : (m : List ℕ) → length (parts m).texts.heap ≤ 98304
unfolding parts space
heap_width m = omega (arith, length-drop 20482 (part 94976 98304 m), length-take 98304 (drop 94976 m))

pub texts_width : (m : List ℕ) (i n : ℕ) → length (joined (each as_text (worths (parts m) i n))) ≤ 786433 * n
unfolding worths
texts_width m i n =
    let p : Parts = parts m in
    omega (arith, joined_width p.texts (run (decoded p.stack) i n) (heap_width m), run_length (decoded p.stack) i n)

pub line_width : (m : List ℕ) (f n : ℕ) → length (window f n (parts m).lines) ≤ 200704
unfolding parts
line_width m f n = omega (arith, window_width f n (part 69888 25088 m), length-take 25088 (drop 69888 m))
