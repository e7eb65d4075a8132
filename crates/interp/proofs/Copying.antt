-- Bytes of the region of lines, copied into a text piece by piece.
use Rattle.std.proofs.Common.{◌≡◌, ℕ, ◌+◌, ◌-◌, ◌<◌, ◌≤◌, min, List, [], ◌∷◌, ◌++◌, length, take, drop, ℤ, Some, None, Option, sym, refl, ap, ◌∙◌, arith, length-drop, length-take, length-take-le, take-add, inl, inr, take_all}
use lib.Seq.{paste, take-append_seam}
use Rattle.std.proofs.lemmas.List.Edits.{paste_all}
use Rattle.std.proofs.lemmas.Bool.{cases_lt}
use Rattle.language.specs.Text.{number_of}
use Rattle.language.specs.Meaning.{field_number}
use Rattle.store.specs.declared.texts.Handle.{Handle}
use Rattle.store.specs.declared.short.Short.{Short}
use Rattle.store.specs.declared.cells.Value.{Value}
use Rattle.store.specs.declared.cells.Value.TheVariants.{Text as InText, Short as InShort}
use Rattle.store.specs.Numbers.{number}
use Rattle.store.specs.Words.{window, over, put_bytes, bytes_of}
use Rattle.store.specs.Space.{Space, Given, bytes_at, with_heap, written, allocated}
use Rattle.store.specs.Values.{filled, made}
use Rattle.store.proofs.Coding.{made_short, made_long}
use Rattle.store.proofs.Packing.{length_unpacked}
use Rattle.store.proofs.Putting.{puts_append}
use Rattle.store.proofs.Moving.{window_part}
use Rattle.regions.specs.Parts.{Parts, parts, with_texts}
use Rattle.store.specs.declared.place.Place.{Place}
use Rattle.regions.proofs.Regions.{lines_length}
use Rattle.interp.specs.declared.registers.Registers.{Registers}
use Rattle.interp.specs.Turns.{top_of, worth_in}
use Rattle.interp.specs.Fields.{field_place, bytes_in, put_new, field_put, field_by, field_got}
use Rattle.interp.proofs.Pieces.{short_is}

-- what a row holds that a text was copied to
pub chunk : (d bs row : List ℕ) (n : ℕ) → length bs ≤ length d → n ≡ min (length bs - 0) (length d - 0) → row ≡ over d 0 (drop 0 bs) → take (n - 0) row ≡ bs
chunk d bs row n h e f =
    let k : n - 0 ≡ length bs = omega arith in
    let m : min (length bs) (length d - 0) ≡ length bs = omega arith in
    ap (take (n - 0)) f ∙ ap (λ x. take x (over d 0 bs)) k ∙ ap (take (length bs)) (ap (paste d 0 bs) m ∙ paste_all d 0 bs (length bs) refl)
    ∙ take-append_seam bs (drop (0 + length bs) d)

pub window_size : (m : List ℕ) (f n : ℕ) → length m ≡ 262144 → length (window f n (parts m).lines) ≡ min n (200704 - f)
window_size m f n e =
    let l = lines_length m e in
    let u = length_unpacked (parts m).lines in
    simp (length-take, length-drop) (omega arith)

-- a piece behind those that were copied
pub copied_more : (s : Space) (ws : List ℕ) (h start len at k : ℕ) → at + k ≤ length (window start len ws) → at + k ≤ len →
    written 77822 (written 77822 s h 0 (take at (window start len ws))) h at (window (start + at) k ws) ≡ written 77822 s h 0 (take (at + k) (window start len ws))
unfolding written
copied_more s ws h start len at k f g =
    let bs : List ℕ = window start len ws in
    let e : take (at + k) bs ≡ take at bs ++ window (start + at) k ws = take-add at k bs ∙ ap (λ z. take at bs ++ z) (window_part ws start len at k g) in
    let l : bytes_at 77822 s h + 0 + length (take at bs) ≡ bytes_at 77822 s h + at = omega (arith, length-take-le at bs (omega arith)) in
    sym (ap (λ z. with_heap s (put_bytes s.heap (bytes_at 77822 s h + 0) z)) e
    ∙ ap (with_heap s) (puts_append s.heap (bytes_at 77822 s h + 0) (take at bs) (window (start + at) k ws)
    ∙ ap (λ i. put_bytes (put_bytes s.heap (bytes_at 77822 s h + 0) (take at bs)) i (window (start + at) k ws)) l))

pub grown : (p q q' : Parts) (h start len at k : ℕ) → q ≡ with_texts p (written 77822 p.texts h 0 (take at (window start len p.lines))) →
    q' ≡ with_texts q (written 77822 q.texts h at (window (start + at) k q.lines)) → at + k ≤ length (window start len p.lines) → at + k ≤ len →
    q' ≡ with_texts p (written 77822 p.texts h 0 (take (at + k) (window start len p.lines)))
grown p q q' h start len at k e f g i =
    f ∙ ap (λ x. with_texts x (written 77822 x.texts h at (window (start + at) k x.lines))) e ∙ ap (with_texts p) (copied_more p.texts p.lines h start len at k g i)

-- a new value, and where the regions are then
pub record LineMade (p q : Parts) (v : Option Value) (bs : List ℕ) : Type 0 where
  pub memory : q ≡ with_texts p (made 20480 77822 p.texts bs).space
  pub value : v ≡ (made 20480 77822 p.texts bs).value

pub line_short : (p : Parts) (bs : List ℕ) (b : Short) → length bs ≤ 8 → bytes_of b.len b.word ≡ bs → LineMade p p (Some (InShort b)) bs
line_short p bs b h e =
    let m = made_short 20480 77822 p.texts bs b h (short_is b bs e) in
    record { memory = ap (λ x. with_texts p x.space) m; value = ap (λ x. x.value) m }

abbrev given_as : Space → Option Handle → Given
given_as s h = record { space = s; handle = h }

line_made : (p q : Parts) (bs : List ℕ) (n : ℕ) (o : Option Handle) → n ≡ length bs → 8 < n → o ≡ (allocated 20480 77822 p.texts n).handle →
    q ≡ with_texts p (filled 77822 (allocated 20480 77822 p.texts n).space o bs).space → LineMade p q (filled 77822 (allocated 20480 77822 p.texts n).space o bs).value bs
line_made p q bs n o e h a f =
    let g : Given = given_as (allocated 20480 77822 p.texts n).space o in
    let m = made_long 20480 77822 p.texts bs n g e (omega arith) (ap (given_as (allocated 20480 77822 p.texts n).space) a) in
    record { memory = f ∙ ap (λ x. with_texts p x.space) m; value = ap (λ x. x.value) m }

pub line_long : (p q q' : Parts) (h : Handle) (start len n : ℕ) → n ≡ length (window start len p.lines) → 8 < n → q ≡ with_texts p (allocated 20480 77822 p.texts n).space →
    Some h ≡ (allocated 20480 77822 p.texts n).handle → q' ≡ with_texts q (written 77822 q.texts h.index 0 (window start len q.lines)) →
    LineMade p q' (Some (InText h)) (window start len p.lines)
line_long p q q' h start len n e l a b f =
    line_made p q' (window start len p.lines) n (Some h) e l b
    (f ∙ ap (λ x. with_texts x (written 77822 x.texts h.index 0 (window start len x.lines))) a)

pub line_none : (p q : Parts) (bs : List ℕ) (n : ℕ) → n ≡ length bs → 8 < n → q ≡ with_texts p (allocated 20480 77822 p.texts n).space →
    None ≡ (allocated 20480 77822 p.texts n).handle → LineMade p q None bs
line_none p q bs n e l a b = line_made p q bs n None e l b a

-- the field with a number

pub field_known : (p : Parts) (r : Registers) (v : Value) (m n : ℤ) (ks : List ℕ) → v ≡ top_of p r → m ≡ n → number n ≡ number_of (worth_in p v) → ks ≡ field_number (number m) →
    field_by p r ks ≡ field_got p r
unfolding field_got
field_known p r v m n ks e f g h = ap (field_by p r) (h ∙ ap field_number (ap number f ∙ g ∙ ap (λ x. number_of (worth_in p x)) e))

pub field_placed : (p q : Parts) (r : Registers) (k : ℕ) (place : Place) (o : Option Value) → place ≡ field_place p.fields r.line k →
    q ≡ with_texts p (made 20480 77822 p.texts (bytes_in p place)).space → o ≡ (made 20480 77822 p.texts (bytes_in p place)).value → put_new q r o ≡ field_by p r (k ∷ [])
field_placed p q r k place o e f g =
    ap (λ x. put_new x r o) f ∙ ap (put_new (with_texts p (made 20480 77822 p.texts (bytes_in p place)).space) r) g
    ∙ ap (λ x. field_put p r (made 20480 77822 p.texts (bytes_in p x))) e

-- a chunk more, of which the last may be short
pub taken_on : (at m n : ℕ) (w : List ℕ) → length w ≡ n → m ≡ min 64 (n - at) → take (at + m) w ≡ take (at + 64) w
taken_on at m n w l e =
    elim (cases_lt (n - at) 64) [
      | inl h ↦ take_all (at + m) w (omega arith) ∙ sym (take_all (at + 64) w (omega arith))
      | inr h ↦ let k : m ≡ 64 = omega arith in ap (λ x. take (at + x) w) k
    ]
