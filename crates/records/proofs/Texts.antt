-- Words stay words: the region of texts, and cells.
use Rattle.std.proofs.Common.{◌≡◌, ℕ, zero, suc, ◌+◌, ◌-◌, ◌*◌, ◌%◌, ◌^◌, ◌<◌, ◌≤◌, min, Bool, true, false, cond, eqb, ltb, leb, List, [], ◌∷◌, ◌++◌, length, get_or, take, drop, set, Some, None, Option, sym, refl, ◌∙◌, subst, inl, inr, add-zero, pow-suc, arith, length-drop, length-set, length-take, w64, Fits, to_z}
use lib.Seq.{paste, length-paste}
use mir.Facts.{of_z-to_z}
use Rattle.std.proofs.lemmas.List.{get_or-take, get_or_past}
use Rattle.std.proofs.lemmas.Bool.{ltb-true, leb-true, cases_lt}
use Rattle.language.specs.Text.{pick}
use Rattle.store.specs.declared.texts.Handle.{Handle}
use Rattle.store.specs.declared.short.Short.{Short}
use Rattle.store.specs.declared.cells.Value.{Value}
use Rattle.store.specs.declared.cells.Value.TheVariants.{Unset, Number, Text, Short as InShort}
use Rattle.store.specs.Short.{low_short, short_of}
use Rattle.store.specs.Space.{Space, Given, handle_of, with_top, with_heap, with_free, put_word, put_entry, span, place, moved, step_of, slid, compacted, taken, tried, allocated, raised, freed, lowered, bytes_at, written}
use Rattle.store.specs.Values.{decode, decoded, kind_of, payload_of, saved, kept, let_go, Made, filled, made}
use Rattle.store.proofs.Putting.{set_fits, puts_fits, length_puts}
use Rattle.records.specs.Records.{InWords}
use Rattle.records.specs.Saving.{Word, TextsSo, SmallValue}
use Rattle.records.proofs.Saving.{words_both, words_back}

words_front : (n : ℕ) (xs : List ℕ) → InWords xs → (i : ℕ) → get_or (take n xs) i 0 < 18446744073709551616
words_front n xs h i =
    elim (cases_lt i n) [
      | inl l ↦ subst Word (sym (get_or-take n xs i 0 l)) (h i)
      | inr l ↦ subst Word (sym (get_or_past (take n xs) i 0 (omega (arith, length-take n xs)))) (omega arith)
    ]

-- VALUES

pow_grows : (n j : ℕ) → 256 ^ n ≤ 256 ^ (n + j)
pow_grows n zero = rw (add-zero n) (omega arith)
pow_grows n (suc j) =
    let e : n + suc j ≡ suc (n + j) = omega arith in
    rw (e, pow-suc 256 (n + j)) (omega (arith, pow_grows n j))

short_small : (b : Short) → Word b.word
short_small b =
    let e : b.len + (8 - b.len) ≡ 8 = omega (arith, b.few) in
    let g : 256 ^ b.len ≤ 256 ^ 8 = subst (λ k. 256 ^ b.len ≤ 256 ^ k) e (pow_grows b.len (8 - b.len)) in
    omega (arith, b.clean)

pub short_value : (b : Short) → SmallValue (InShort b)
short_value b = (omega (arith, b.few), short_small b)

pub word_number : (n : ℕ) → Word n → SmallValue (Number (to_z w64 n))
word_number n h = let f : Fits w64 n = record { fits = h } in (omega arith, subst Word (sym (of_z-to_z f)) h)

pub unset_value : SmallValue Unset
unset_value = (omega arith, omega arith)

pub text_value : (h : Handle) → Word h.index → SmallValue (Text h)
text_value h w = (omega arith, w)

value_pick : (t : Bool) (v w : Value) → SmallValue v → SmallValue w → SmallValue (pick t v w)
value_pick true v w a b = a
value_pick false v w a b = b

decode_small : (k p : ℕ) → Word p → SmallValue (decode k p)
unfolding decode
decode_small k p h =
    value_pick (eqb k 1) _ _ (word_number p h)
    (value_pick (eqb k 2) _ _ (text_value (handle_of p) h) (value_pick (leb 3 k) _ _ (value_pick (leb k 11) _ _ (short_value (low_short p (k - 3))) unset_value) unset_value))

pub decoded_small : (ws : List ℕ) (i : ℕ) → InWords ws → SmallValue (get_or (decoded ws) i Unset)
unfolding decoded
decoded_small [] i h = unset_value
decoded_small (k ∷ []) i h = unset_value
decoded_small (k ∷ p ∷ ws) zero h = decode_small k p (h 1)
decoded_small (k ∷ p ∷ ws) (suc i) h = decoded_small ws i (λ j. h (suc (suc j)))

pub saved_size : (ws : List ℕ) (i : ℕ) (v : Value) → length (saved ws i v) ≡ length ws
unfolding saved
saved_size ws i v = by (leb (2 * i + 2) (length ws))
  where
    by : (t : Bool) → length (pick t (set (set ws (2 * i) (kind_of v)) (2 * i + 1) (payload_of v)) ws) ≡ length ws
    by true = length-set (set ws (2 * i) (kind_of v)) (2 * i + 1) (payload_of v) ∙ length-set ws (2 * i) (kind_of v)
    by false = refl

pub saved_small : (ws : List ℕ) (i : ℕ) (v : Value) → InWords ws → SmallValue v → InWords (saved ws i v)
unfolding saved
saved_small ws i v h s = by (leb (2 * i + 2) (length ws))
  where
    by : (t : Bool) → InWords (pick t (set (set ws (2 * i) (kind_of v)) (2 * i + 1) (payload_of v)) ws)
    by true = set_fits (set ws (2 * i) (kind_of v)) (2 * i + 1) (payload_of v) (set_fits ws (2 * i) (kind_of v) h s.0) s.1
    by false = h

-- TEXTS

heap_set : (s : Space) (a v : ℕ) → TextsSo s → Word v → TextsSo (put_word s a v)
heap_set s a v h w =
    record { table_size = h.table_size; heap_size = length-set s.heap a v ∙ h.heap_size; top = h.top; free = h.free; in_table = h.in_table; in_heap = set_fits s.heap a v h.in_heap w }

entry_set : (s : Space) (a v : ℕ) → TextsSo s → Word v → TextsSo (put_entry s a v)
entry_set s a v h w =
    record { table_size = length-set s.table a v ∙ h.table_size; heap_size = h.heap_size; top = h.top; free = h.free; in_table = set_fits s.table a v h.in_table w; in_heap = h.in_heap }

top_set : (s : Space) (v : ℕ) → TextsSo s → Word v → TextsSo (with_top s v)
top_set s v h w = record { table_size = h.table_size; heap_size = h.heap_size; top = w; free = h.free; in_table = h.in_table; in_heap = h.in_heap }

free_set : (s : Space) (v : ℕ) → TextsSo s → Word v → TextsSo (with_free s v)
free_set s v h w = record { table_size = h.table_size; heap_size = h.heap_size; top = h.top; free = w; in_table = h.in_table; in_heap = h.in_heap }

moved_so : (s : Space) (from to n h : ℕ) → TextsSo s → to ≤ from → from + n ≤ 77822 → TextsSo (moved s from to n h)
moved_so s from to n h t l e =
    let d : List ℕ = paste s.heap to (drop from s.heap) n in
    let m : length (drop from s.heap) ≡ length s.heap - from = length-drop from s.heap in
    entry_set (with_heap s d) h to
    (record {
      table_size = t.table_size;
      heap_size = length-paste s.heap to (drop from s.heap) n (omega (arith, t.heap_size)) (omega (arith, t.heap_size)) ∙ t.heap_size;
      top = t.top;
      free = t.free;
      in_table = t.in_table;
      in_heap =
          words_both (take to s.heap ++ take n (drop from s.heap)) (drop (to + n) s.heap)
          (words_both (take to s.heap) (take n (drop from s.heap)) (words_front to s.heap t.in_heap) (words_front n (drop from s.heap) (words_back from s.heap t.in_heap)))
          (words_back (to + n) s.heap t.in_heap);
    }) (omega arith)

slid_so : (k e : ℕ) (s : Space) (from to : ℕ) → TextsSo s → to ≤ from → to ≤ 77822 → e ≤ 77822 → TextsSo (slid 20480 k e s from to)
unfolding slid
slid_so zero e s from to t a b c = top_set s to t (omega arith)
slid_so (suc k) e s from to t a b c =
    let n : ℕ = step_of e s from in
    let h : ℕ = get_or s.heap (from + 2) 0 in
    by (ltb from e) refl (ltb h 20480)
    (λ l. slid_so k e (moved s from to n h) (from + n) (to + n) (moved_so s from to n h t a (omega arith)) (omega arith) (omega arith) c)
    (slid_so k e s (from + n) to t (omega arith) b c)
  where
    by : (v : Bool) → ltb from e ≡ v → (u : Bool) →
        (from < e → TextsSo (slid 20480 k e (moved s from to (step_of e s from) (get_or s.heap (from + 2) 0)) (from + step_of e s from) (to + step_of e s from))) →
        TextsSo (slid 20480 k e s (from + step_of e s from) to) →
        TextsSo (cond v
        (cond u (slid 20480 k e (moved s from to (step_of e s from) (get_or s.heap (from + 2) 0)) (from + step_of e s from) (to + step_of e s from)) (slid 20480 k e s (from + step_of e s from) to))
        (with_top s to))
    by true q true x y = x (ltb-true from e q)
    by true q false x y = y
    by false q u x y = top_set s to t (omega arith)

compacted_so : (s : Space) → TextsSo s → TextsSo (compacted 20480 77822 s)
unfolding compacted
compacted_so s t = slid_so 77822 (min s.top 77822) s 0 0 t (omega arith) (omega arith) (omega arith)

taken_so : (s : Space) (n : ℕ) → TextsSo s → span n ≤ 77822 - s.top → TextsSo (taken s n)
unfolding taken
taken_so s n t l =
    record {
      table_size = length-set s.table s.free s.top ∙ t.table_size;
      heap_size = length-set (set (set s.heap s.top 1) (s.top + 1) n) (s.top + 2) s.free ∙ length-set (set s.heap s.top 1) (s.top + 1) n ∙ length-set s.heap s.top 1 ∙ t.heap_size;
      top = omega arith;
      free = t.in_table s.free;
      in_table = set_fits s.table s.free s.top t.in_table t.top;
      in_heap = set_fits (set (set s.heap s.top 1) (s.top + 1) n) (s.top + 2) s.free (set_fits (set s.heap s.top 1) (s.top + 1) n (set_fits s.heap s.top 1 t.in_heap (omega arith)) (omega arith)) t.free;
    }

-- a handle, if there is one
abbrev HandleSo : Option Handle → Type 0
HandleSo None = Unit {0}
HandleSo (Some h) = Word h.index

abbrev GivenSo : Given → Type 0
GivenSo g = TextsSo g.space × HandleSo g.handle

tried_so : (s : Space) (n : ℕ) → TextsSo s → GivenSo (tried 20480 77822 s n)
unfolding tried
tried_so s n t = by (ltb s.free 20480) (leb (span n) (77822 - s.top)) refl
  where
    by : (u v : Bool) → leb (span n) (77822 - s.top) ≡ v →
        GivenSo (cond u (cond v (record { space = taken s n; handle = Some (handle_of s.free) }) (record { space = s; handle = None })) (record { space = s; handle = None }))
    by true true e = (taken_so s n t (leb-true (span n) (77822 - s.top) e), t.free)
    by true false e = (t, tt)
    by false v e = (t, tt)

pub allocated_so : (s : Space) (n : ℕ) → TextsSo s → GivenSo (allocated 20480 77822 s n)
unfolding allocated
allocated_so s n t = by (leb (span n) (77822 - s.top))
  where
    by : (v : Bool) → GivenSo (cond v (tried 20480 77822 s n) (tried 20480 77822 (compacted 20480 77822 s) n))
    by true = tried_so s n t
    by false = tried_so (compacted 20480 77822 s) n (compacted_so s t)

raised_so : (s : Space) (h : ℕ) → TextsSo s → TextsSo (raised 77822 s h)
unfolding raised
raised_so s h t = heap_set s (place 77822 s h) ((get_or s.heap (place 77822 s h) 0 + 1) % 18446744073709551616) t (omega arith)

lowered_so : (s : Space) (h : ℕ) → TextsSo s → Word h → TextsSo (lowered 20480 77822 s h)
unfolding lowered freed
lowered_so s h t w = by (ltb 1 (get_or s.heap (place 77822 s h) 0))
  where
    by : (v : Bool) → TextsSo (cond v (put_word s (place 77822 s h) (get_or s.heap (place 77822 s h) 0 - 1)) (with_free (put_entry (put_word s (place 77822 s h + 2) 20480) h s.free) h))
    by true = heap_set s (place 77822 s h) (get_or s.heap (place 77822 s h) 0 - 1) t (omega (arith, t.in_heap (place 77822 s h)))
    by false =
        free_set (put_entry (put_word s (place 77822 s h + 2) 20480) h s.free) h
        (entry_set (put_word s (place 77822 s h + 2) 20480) h s.free (heap_set s (place 77822 s h + 2) 20480 t (omega arith)) t.free) w

pub written_so : (s : Space) (h at : ℕ) (bs : List ℕ) → TextsSo s → ((k : ℕ) → get_or bs k 0 < 256) → TextsSo (written 77822 s h at bs)
unfolding written
written_so s h at bs t b =
    record {
      table_size = t.table_size;
      heap_size = length_puts s.heap (bytes_at 77822 s h + at) bs ∙ t.heap_size;
      top = t.top;
      free = t.free;
      in_table = t.in_table;
      in_heap = puts_fits s.heap (bytes_at 77822 s h + at) bs t.in_heap b;
    }

pub kept_so : (s : Space) (v : Value) → TextsSo s → TextsSo (kept 77822 s v)
kept_so s Unset t = t
kept_so s (Number n) t = t
kept_so s (InShort b) t = t
kept_so s (Text h) t = raised_so s h.index t

pub let_go_so : (s : Space) (v : Value) → TextsSo s → SmallValue v → TextsSo (let_go 20480 77822 s v)
let_go_so s Unset t w = t
let_go_so s (Number n) t w = t
let_go_so s (InShort b) t w = t
let_go_so s (Text h) t w = lowered_so s h.index t w.1

-- a new text

abbrev pub ValueSo : Option Value → Type 0
ValueSo None = Unit {0}
ValueSo (Some v) = SmallValue v

abbrev pub MadeSo : Made → Type 0
MadeSo m = TextsSo m.space × ValueSo m.value

filled_so : (s : Space) (o : Option Handle) (bs : List ℕ) → TextsSo s → HandleSo o → ((k : ℕ) → get_or bs k 0 < 256) → MadeSo (filled 77822 s o bs)
filled_so s None bs t h b = (t, tt)
filled_so s (Some h) bs t w b = (written_so s h.index 0 bs t b, text_value h w)

pub made_so : (s : Space) (bs : List ℕ) → TextsSo s → ((k : ℕ) → get_or bs k 0 < 256) → MadeSo (made 20480 77822 s bs)
unfolding made
made_so s bs t b = by (leb (length bs) 8)
  where
    by : (v : Bool) → MadeSo (pick v (record { space = s; value = Some (InShort (short_of bs)) }) (filled 77822 (allocated 20480 77822 s (length bs)).space (allocated 20480 77822 s (length bs)).handle bs))
    by true = (t, short_value (short_of bs))
    by false = let g = allocated_so s (length bs) t in filled_so (allocated 20480 77822 s (length bs)).space (allocated 20480 77822 s (length bs)).handle bs g.0 g.1 b
