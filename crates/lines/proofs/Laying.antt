-- A line that is put together anew: once its gap is filled, it is the specification's line, with its fields.
use Rattle.std.proofs.Common.{◌≡◌, ℕ, zero, suc, ◌+◌, ◌-◌, ◌*◌, ◌<◌, ◌≤◌, min, max, Bool, true, false, leb, ◌⊎◌, List, [], ◌∷◌, ◌++◌, length, get_or, take, drop, Some, None, sym, refl, ap, ◌∙◌, subst, inl, inr, append_assoc, append-nil, add-zero, arith, length-append, length-drop, drop-drop, take-add}
use Rattle.std.proofs.lemmas.List.{take_at, drop_at, get_or_past, length-take-le}
use Rattle.std.proofs.lemmas.Bool.{cases_lt, cases_eq, lt-leb, le-leb, ltb-true, ltb-false}
use Rattle.language.specs.Text.{pick, each, flat, fields_from, joined}
use Rattle.language.specs.Meaning.{set_part, short}
use Rattle.store.specs.Words.{unpacked, window, put_byte, put_bytes}
use Rattle.store.proofs.Putting.{length_puts, puts_append, puts_one, puts_none}
use Rattle.store.proofs.Moving.{window_kept, window_below, window_part, window_front}
use Rattle.regions.specs.Parts.{Parts, with_fields, with_lines}
use Rattle.store.specs.declared.place.Place.{Place}
use Rattle.regions.specs.Places.{place_of}
use Rattle.lines.specs.declared.line.Line.{Line}
use Rattle.lines.specs.declared.building.Piece.{Piece}
use Rattle.lines.specs.Cutting.{recut_of}
use Rattle.lines.specs.Lines.{place, within, nth_place}
use Rattle.lines.specs.Scanning.{line_at}
use Rattle.lines.specs.Fields.{cut_out, places, noted, Sound, LineHolds}
use Rattle.lines.specs.Building.{buffer_of, gap, copied, piece_of, pieces, all_pieces, total, offsets, laid, laid_one, filled, built, after_built, with_text, after_line, line_of}
use Rattle.lines.specs.Laws.{InPlace, BuiltSo, RefusedSo, BuildSays}
use Rattle.lines.proofs.Places.{nth_none, nth_some}
use Rattle.lines.proofs.Pieces.{buffer_second, buffer_first, buffer_below, piece_gap, piece_copied}
use Rattle.lines.proofs.Cuts.{All, Inside, recut_count, getD_each, length_noted, places_noted, each_inside}
use Rattle.lines.proofs.Holding.{window_put, field_bytes, text_holds}

-- the specification's fields with one set

pub part_count : (m : ℕ) (ps : List (List ℕ)) (k : ℕ) (b : List ℕ) → 1 ≤ k → k ≤ m → length (set_part m ps k b) ≡ max (length ps) k
unfolding set_part
part_count zero ps k b h l = absurd (omega arith)
part_count (suc m) [] zero b h l = absurd (omega arith)
part_count (suc m) [] (suc zero) b h l = refl
part_count (suc m) [] (suc (suc k)) b h l = omega (arith, part_count m [] (suc k) b (omega arith) (omega arith))
part_count (suc m) (p ∷ ps) zero b h l = absurd (omega arith)
part_count (suc m) (p ∷ ps) (suc zero) b h l = omega arith
part_count (suc m) (p ∷ ps) (suc (suc k)) b h l = omega (arith, part_count m ps (suc k) b (omega arith) (omega arith))

pub part_set : (m : ℕ) (ps : List (List ℕ)) (k : ℕ) (b : List ℕ) → k < m → get_or (set_part m ps (suc k) b) k [] ≡ b
unfolding set_part
part_set zero ps k b l = absurd (omega arith)
part_set (suc m) [] zero b l = refl
part_set (suc m) [] (suc k) b l = part_set m [] k b (omega arith)
part_set (suc m) (p ∷ ps) zero b l = refl
part_set (suc m) (p ∷ ps) (suc k) b l = part_set m ps k b (omega arith)

pub part_other : (m : ℕ) (ps : List (List ℕ)) (k : ℕ) (b : List ℕ) (j : ℕ) → k < m → (j ≡ k → ⊥) → get_or (set_part m ps (suc k) b) j [] ≡ get_or ps j []
unfolding set_part
part_other zero ps k b j l n = absurd (omega arith)
part_other (suc m) [] zero b zero l n = absurd (n refl)
part_other (suc m) [] zero b (suc j) l n = refl
part_other (suc m) [] (suc k) b zero l n = refl
part_other (suc m) [] (suc k) b (suc j) l n = part_other m [] k b j (omega arith) (λ e. n (ap suc e))
part_other (suc m) (p ∷ ps) zero b zero l n = absurd (n refl)
part_other (suc m) (p ∷ ps) zero b (suc j) l n = refl
part_other (suc m) (p ∷ ps) (suc k) b zero l n = refl
part_other (suc m) (p ∷ ps) (suc k) b (suc j) l n = part_other m ps k b j (omega arith) (λ e. n (ap suc e))

-- texts of a list, from the ith on
seg : List (List ℕ) → ℕ → ℕ → List (List ℕ)
seg gs zero i = []
seg gs (suc k) i = get_or gs i [] ∷ seg gs k (i + 1)

seg_behind : (g : List ℕ) (gs : List (List ℕ)) (k i : ℕ) → seg (g ∷ gs) k (suc i) ≡ seg gs k i
unfolding seg
seg_behind g gs zero i = refl
seg_behind g gs (suc k) i =
    let e : suc i + 1 ≡ suc (i + 1) = omega arith in
    ap {B = List (List ℕ)} (λ x. get_or gs i [] ∷ x) (ap (seg (g ∷ gs) k) e ∙ seg_behind g gs k (i + 1))

seg_all : (gs : List (List ℕ)) → seg gs (length gs) 0 ≡ gs
unfolding seg
seg_all [] = refl
seg_all (g ∷ gs) = ap {B = List (List ℕ)} (λ x. g ∷ x) (seg_behind g gs (length gs) 0 ∙ seg_all gs)

seg_split : (gs : List (List ℕ)) (a b i : ℕ) → seg gs (a + b) i ≡ seg gs a i ++ seg gs b (i + a)
unfolding seg
seg_split gs zero b i = let e : 0 + b ≡ b = omega arith in ap (λ x. seg gs x i) e ∙ ap (seg gs b) (sym (add-zero i))
seg_split gs (suc a) b i =
    let e : suc a + b ≡ suc (a + b) = omega arith in
    let f : i + 1 + a ≡ i + suc a = omega arith in
    ap (λ x. seg gs x i) e ∙ ap {B = List (List ℕ)} (λ x. get_or gs i [] ∷ x) (seg_split gs a b (i + 1) ∙ ap (λ x. seg gs a (i + 1) ++ seg gs b x) f)

length_seg : (gs : List (List ℕ)) (k i : ℕ) → length (seg gs k i) ≡ k
unfolding seg
length_seg gs zero i = refl
length_seg gs (suc k) i = ap suc (length_seg gs k (i + 1))

pieces_split : (ws : List ℕ) (l : Line) (n k a b i : ℕ) → pieces ws l n k (a + b) i ≡ pieces ws l n k a i ++ pieces ws l n k b (i + a)
unfolding pieces
pieces_split ws l n k zero b i = let e : 0 + b ≡ b = omega arith in ap (λ x. pieces ws l n k x i) e ∙ ap (pieces ws l n k b) (sym (add-zero i))
pieces_split ws l n k (suc a) b i =
    let e : suc a + b ≡ suc (a + b) = omega arith in
    let f : i + 1 + a ≡ i + suc a = omega arith in
    ap (λ x. pieces ws l n k x i) e ∙ ap (λ x. piece_of ws l n k i ∷ x) (pieces_split ws l n k a b (i + 1) ∙ ap (λ x. pieces ws l n k a (i + 1) ++ pieces ws l n k b x) f)

-- texts with a blank behind each

abbrev row : List (List ℕ) → List ℕ
row gs = flat (λ g. g ++ 32 ∷ []) gs

row_append : (a b : List (List ℕ)) → row (a ++ b) ≡ row a ++ row b
row_append [] b = refl
row_append (g ∷ a) b = ap (λ x. (g ++ 32 ∷ []) ++ x) (row_append a b) ∙ sym (append_assoc (g ++ 32 ∷ []) (row a) (row b))

pub row_joined : (g : List ℕ) (gs : List (List ℕ)) → row (g ∷ gs) ≡ joined (g ∷ gs) ++ 32 ∷ []
unfolding joined
row_joined g [] = append-nil (g ++ 32 ∷ [])
row_joined g (h ∷ gs) =
    ap (λ x. (g ++ 32 ∷ []) ++ x) (row_joined h gs) ∙ append_assoc g (32 ∷ []) (joined (h ∷ gs) ++ 32 ∷ []) ∙ sym (append_assoc g (32 ∷ joined (h ∷ gs)) (32 ∷ []))

-- the places of the fields in it

offs : ℕ → List (List ℕ) → List Place
offs a [] = []
offs a (g ∷ gs) = place a (length g) ∷ offs (a + (length g + 1)) gs

length_offs : (a : ℕ) (gs : List (List ℕ)) → length (offs a gs) ≡ length gs
unfolding offs
length_offs a [] = refl
length_offs a (g ∷ gs) = ap suc (length_offs (a + (length g + 1)) gs)

length_row : (g : List ℕ) (gs : List (List ℕ)) → length (row (g ∷ gs)) ≡ (length g + 1) + length (row gs)
length_row g gs = omega (arith, length-append (g ++ 32 ∷ []) (row gs), length-append g (32 ∷ []))

offs_inside : (gs : List (List ℕ)) (a k : ℕ) → a + length (row gs) ≤ k + 1 → All (Inside k) (offs a gs)
unfolding offs
offs_inside [] a k h = tt
offs_inside (g ∷ gs) a k h = (omega (arith, length_row g gs), offs_inside gs (a + (length g + 1)) k (omega (arith, length_row g gs)))

offs_at : (a : List (List ℕ)) (g : List ℕ) (b : List (List ℕ)) (s : ℕ) (d : Place) → (get_or (offs s (a ++ g ∷ b)) (length a) d).start ≡ s + length (row a)
unfolding offs
offs_at [] g b s d = sym (add-zero s)
offs_at (x ∷ a) g b s d = offs_at a g b (s + (length x + 1)) d ∙ omega (arith, length_row x a)

cut_mid : (pre f post : List ℕ) (a n : ℕ) → a ≡ length pre → n ≡ length f → take n (drop a (pre ++ (f ++ post))) ≡ f
cut_mid pre f post a n e g = rw (drop_at pre (f ++ post) a (sym e)) (take_at f post n (sym g))

offs_cut : (gs : List (List ℕ)) (pre : List ℕ) (a : ℕ) → a ≡ length pre → each (cut_out (pre ++ joined gs)) (offs a gs) ≡ gs
unfolding joined offs
offs_cut [] pre a e = refl
offs_cut (f ∷ []) pre a e =
    ap (λ z. z ∷ []) (ap (λ z. take (length f) (drop a (pre ++ z))) (sym (append-nil f)) ∙ cut_mid pre f [] a (length f) e refl)
offs_cut (f ∷ g ∷ gs) pre a e =
    let ih = offs_cut (g ∷ gs) (pre ++ (f ++ 32 ∷ [])) (a + (length f + 1)) (omega (arith, e, length-append pre (f ++ 32 ∷ []), length-append f (32 ∷ []))) in
    let q : pre ++ (f ++ 32 ∷ joined (g ∷ gs)) ≡ (pre ++ (f ++ 32 ∷ [])) ++ joined (g ∷ gs) = ap (λ z. pre ++ z) (sym (append_assoc f (32 ∷ []) (joined (g ∷ gs)))) ∙ sym (append_assoc pre (f ++ 32 ∷ []) (joined (g ∷ gs))) in
    ap (λ z. z ∷ each (cut_out (pre ++ (f ++ 32 ∷ joined (g ∷ gs)))) (offs (a + (length f + 1)) (g ∷ gs))) (cut_mid pre f (32 ∷ joined (g ∷ gs)) a (length f) e refl)
    ∙ ap {B = List (List ℕ)} (λ z. f ∷ z) (ap (λ z. each (cut_out z) (offs (a + (length f + 1)) (g ∷ gs))) q ∙ ih)

-- pieces that have the room of these texts

Fit : List Piece → List (List ℕ) → Type 0
Fit [] [] = Unit {0}
Fit [] (g ∷ gs) = ⊥
Fit (x ∷ xs) [] = ⊥
Fit (x ∷ xs) (g ∷ gs) = (x.room ≡ length g) × Fit xs gs

fit_total : (xs : List Piece) (gs : List (List ℕ)) → Fit xs gs → total xs ≡ length (row gs)
unfolding Fit total
fit_total [] [] f = refl
fit_total [] (g ∷ gs) f = absurd f
fit_total (x ∷ xs) [] f = absurd f
fit_total (x ∷ xs) (g ∷ gs) f = omega (arith, f.0, fit_total xs gs f.1, length_row g gs)

fit_offs : (xs : List Piece) (gs : List (List ℕ)) (a : ℕ) → Fit xs gs → offsets a xs ≡ offs a gs
unfolding Fit offsets offs
fit_offs [] [] a f = refl
fit_offs [] (g ∷ gs) a f = absurd f
fit_offs (x ∷ xs) [] a f = absurd f
fit_offs (x ∷ xs) (g ∷ gs) a f = ap (λ n. place a n ∷ offsets (a + (n + 1)) xs) f.0 ∙ ap (λ z. place a (length g) ∷ z) (fit_offs xs gs (a + (length g + 1)) f.1)

fit_all : (ws : List ℕ) (l : Line) (n k : ℕ) (gs : List (List ℕ)) (m i : ℕ) → ((j : ℕ) → i ≤ j → j < i + m → (piece_of ws l n k j).room ≡ length (get_or gs j [])) → Fit (pieces ws l n k m i) (seg gs m i)
unfolding Fit pieces seg
fit_all ws l n k gs zero i f = tt
fit_all ws l n k gs (suc m) i f = (f i (omega arith) (omega arith), fit_all ws l n k gs m (i + 1) (λ j h t. f j (omega arith) (omega arith)))

-- what is laid down, seen by regions

lay_lines : List ℕ → ℕ → ℕ → List Piece → List ℕ
lay_lines ls b at [] = ls
lay_lines ls b at (x ∷ xs) = lay_lines (put_byte (put_bytes ls (b + at) (window x.from x.copy ls)) (b + at + x.room) 32) b (at + (x.room + 1)) xs

laid_lines : (xs : List Piece) (p : Parts) (b i at : ℕ) → (laid p b i at xs).lines ≡ lay_lines p.lines b at xs
unfolding laid lay_lines
laid_lines [] p b i at = refl
laid_lines (x ∷ xs) p b i at = laid_lines xs (laid_one p b i at x) b (i + 1) (at + (x.room + 1))

laid_fields : (xs : List Piece) (p : Parts) (b i at : ℕ) → (laid p b i at xs).fields ≡ noted p.fields i (offsets at xs)
unfolding laid noted offsets
laid_fields [] p b i at = refl
laid_fields (x ∷ xs) p b i at = laid_fields xs (laid_one p b i at x) b (i + 1) (at + (x.room + 1))

lay_append : (xs ys : List Piece) (ls : List ℕ) (b at : ℕ) → lay_lines ls b at (xs ++ ys) ≡ lay_lines (lay_lines ls b at xs) b (at + total xs) ys
unfolding lay_lines total
lay_append [] ys ls b at = ap (λ n. lay_lines ls b n ys) (sym (add-zero at))
lay_append (x ∷ xs) ys ls b at =
    let e : at + (x.room + 1) + total xs ≡ at + ((x.room + 1) + total xs) = omega arith in
    let us : List ℕ = put_byte (put_bytes ls (b + at) (window x.from x.copy ls)) (b + at + x.room) 32 in
    lay_append xs ys us b (at + (x.room + 1)) ∙ ap (λ n. lay_lines (lay_lines us b (at + (x.room + 1)) xs) b n ys) e

length_laid : (xs : List Piece) (ls : List ℕ) (b at : ℕ) → length (lay_lines ls b at xs) ≡ length ls
unfolding lay_lines
length_laid [] ls b at = refl
length_laid (x ∷ xs) ls b at =
    let us : List ℕ = put_bytes ls (b + at) (window x.from x.copy ls) in
    length_laid xs (put_byte us (b + at + x.room) 32) b (at + (x.room + 1)) ∙ ap length (sym (puts_one us (b + at + x.room) 32)) ∙ length_puts us (b + at + x.room) (32 ∷ []) ∙ length_puts ls (b + at) (window x.from x.copy ls)

-- a text whose bytes are the source's, and lie outside the buffer at b
record One (ls : List ℕ) (b : ℕ) (x : Piece) (g : List ℕ) : Type 0 where
  copy : x.copy ≡ length g
  room : x.room ≡ length g
  from : window x.from x.copy ls ≡ g
  apart : (x.from + x.copy ≤ b) ⊎ (b + 65536 ≤ x.from)

Lies : List ℕ → ℕ → List Piece → List (List ℕ) → Type 0
Lies ls b [] [] = Unit {0}
Lies ls b [] (g ∷ gs) = ⊥
Lies ls b (x ∷ xs) [] = ⊥
Lies ls b (x ∷ xs) (g ∷ gs) = One ls b x g × Lies ls b xs gs

lies_all : (ls ws : List ℕ) (b : ℕ) (l : Line) (n k : ℕ) (gs : List (List ℕ)) (m i : ℕ) → ((j : ℕ) → i ≤ j → j < i + m → One ls b (piece_of ws l n k j) (get_or gs j [])) → Lies ls b (pieces ws l n k m i) (seg gs m i)
unfolding Lies pieces seg
lies_all ls ws b l n k gs zero i f = tt
lies_all ls ws b l n k gs (suc m) i f = (f i (omega arith) (omega arith), lies_all ls ws b l n k gs m (i + 1) (λ j h t. f j (omega arith) (omega arith)))

-- writes inside the buffer leave it so

other_side : (f c b at n : ℕ) → (f + c ≤ b) ⊎ (b + 65536 ≤ f) → at + n ≤ 65536 → (b + at + n ≤ f) ⊎ (f + c ≤ b + at)
other_side f c b at n (inl h) l = inr (omega arith)
other_side f c b at n (inr h) l = inl (omega arith)

lies_kept : (ls us : List ℕ) (b : ℕ) (xs : List Piece) (gs : List (List ℕ)) → ((f c : ℕ) → (f + c ≤ b) ⊎ (b + 65536 ≤ f) → window f c us ≡ window f c ls) → Lies ls b xs gs → Lies us b xs gs
unfolding Lies
lies_kept ls us b [] [] w h = tt
lies_kept ls us b [] (g ∷ gs) w h = h
lies_kept ls us b (x ∷ xs) [] w h = h
lies_kept ls us b (x ∷ xs) (g ∷ gs) w h =
    let o = h.0 in
    (record { copy = o.copy; room = o.room; from = w x.from x.copy o.apart ∙ o.from; apart = o.apart }, lies_kept ls us b xs gs w h.1)

puts_kept : (ls : List ℕ) (b at : ℕ) (bs : List ℕ) → ((k : ℕ) → get_or bs k 0 < 256) → at + length bs ≤ 65536 → (f c : ℕ) → (f + c ≤ b) ⊎ (b + 65536 ≤ f) → window f c (put_bytes ls (b + at) bs) ≡ window f c ls
puts_kept ls b at bs y h f c o = window_kept ls (b + at) bs f c y (other_side f c b at (length bs) o h)

-- a text with a blank behind it
one_put : (ls : List ℕ) (b at : ℕ) (x : Piece) (g : List ℕ) → One ls b x g → put_byte (put_bytes ls (b + at) (window x.from x.copy ls)) (b + at + x.room) 32 ≡ put_bytes ls (b + at) (g ++ 32 ∷ [])
one_put ls b at x g o =
    ap (λ z. put_byte (put_bytes ls (b + at) z) (b + at + x.room) 32) o.from ∙ ap (λ n. put_byte (put_bytes ls (b + at) g) (b + at + n) 32) o.room
    ∙ sym (puts_one (put_bytes ls (b + at) g) (b + at + length g) 32) ∙ sym (puts_append ls (b + at) g (32 ∷ []))

blank_byte : (k : ℕ) → get_or (32 ∷ []) k 0 < 256
blank_byte zero = omega arith
blank_byte (suc k) = omega arith

bytes_of_both : (a b : List ℕ) → ((k : ℕ) → get_or a k 0 < 256) → ((k : ℕ) → get_or b k 0 < 256) → (k : ℕ) → get_or (a ++ b) k 0 < 256
bytes_of_both [] b f g k = g k
bytes_of_both (x ∷ a) b f g zero = f 0
bytes_of_both (x ∷ a) b f g (suc k) = bytes_of_both a b (λ j. f (suc j)) g k

one_bytes : (ls : List ℕ) (b : ℕ) (x : Piece) (g : List ℕ) → One ls b x g → (k : ℕ) → get_or (g ++ 32 ∷ []) k 0 < 256
one_bytes ls b x g o = bytes_of_both g (32 ∷ []) (λ k. subst (λ z. get_or z k 0 < 256) o.from (window_below x.from x.copy ls k)) blank_byte

window_split : (f a c : ℕ) (ws : List ℕ) → window f (a + c) ws ≡ window f a ws ++ window (f + a) c ws
window_split f a c ws = take-add a c (drop f (unpacked ws)) ∙ ap (λ z. window f a ws ++ take c z) (drop-drop a f (unpacked ws))

-- texts that are laid down leave the rest, and are there

lay_kept : (xs : List Piece) (gs : List (List ℕ)) (ls : List ℕ) (b at f c : ℕ) → Lies ls b xs gs → at + total xs ≤ 65536 → (f + c ≤ b + at) ⊎ (b + at + total xs ≤ f) → window f c (lay_lines ls b at xs) ≡ window f c ls
unfolding Lies lay_lines total
lay_kept [] [] ls b at f c h t o = refl
lay_kept [] (g ∷ gs) ls b at f c h t o = absurd h
lay_kept (x ∷ xs) [] ls b at f c h t o = absurd h
lay_kept (x ∷ xs) (g ∷ gs) ls b at f c h t o =
    let y : List ℕ = g ++ 32 ∷ [] in
    let us : List ℕ = put_bytes ls (b + at) y in
    let n : length y ≡ x.room + 1 = length-append g (32 ∷ []) ∙ ap (λ z. z + 1) (sym h.0.room) in
    let k = puts_kept ls b at y (one_bytes ls b x g h.0) (omega arith) in
    ap (λ z. window f c (lay_lines z b (at + (x.room + 1)) xs)) (one_put ls b at x g h.0)
    ∙ lay_kept xs gs us b (at + (x.room + 1)) f c (lies_kept ls us b xs gs k h.1) (omega arith) (elim o [ inl q ↦ inl (omega arith) | inr q ↦ inr (omega arith) ])
    ∙ window_kept ls (b + at) y f c (one_bytes ls b x g h.0) (elim o [ inl q ↦ inr q | inr q ↦ inl (omega arith) ])

lay_row : (xs : List Piece) (gs : List (List ℕ)) (ls : List ℕ) (b at : ℕ) → Lies ls b xs gs → at + total xs ≤ 65536 → b + 65536 ≤ 8 * length ls → window (b + at) (total xs) (lay_lines ls b at xs) ≡ row gs
unfolding Lies lay_lines total
lay_row [] [] ls b at h t s = refl
lay_row [] (g ∷ gs) ls b at h t s = absurd h
lay_row (x ∷ xs) [] ls b at h t s = absurd h
lay_row (x ∷ xs) (g ∷ gs) ls b at h t s =
    let y : List ℕ = g ++ 32 ∷ [] in
    let us : List ℕ = put_bytes ls (b + at) y in
    let n : length y ≡ x.room + 1 = length-append g (32 ∷ []) ∙ ap (λ z. z + 1) (sym h.0.room) in
    let k = puts_kept ls b at y (one_bytes ls b x g h.0) (omega arith) in
    let lies = lies_kept ls us b xs gs k h.1 in
    let vs : List ℕ = lay_lines us b (at + (x.room + 1)) xs in
    let e : b + at + (x.room + 1) ≡ b + (at + (x.room + 1)) = omega arith in
    ap (λ z. window (b + at) ((x.room + 1) + total xs) (lay_lines z b (at + (x.room + 1)) xs)) (one_put ls b at x g h.0)
    ∙ window_split (b + at) (x.room + 1) (total xs) vs
    ∙ ap (λ z. z ++ window (b + at + (x.room + 1)) (total xs) vs)
    (lay_kept xs gs us b (at + (x.room + 1)) (b + at) (x.room + 1) lies (omega arith) (inl (omega arith))
    ∙ ap (λ z. window (b + at) z us) (sym n) ∙ window_put ls (b + at) y (one_bytes ls b x g h.0) (omega arith))
    ∙ ap (λ z. y ++ z) (ap (λ z. window z (total xs) vs) e ∙ lay_row xs gs us b (at + (x.room + 1)) lies (omega arith) (omega (arith, length_puts ls (b + at) y)))

-- texts before and behind a gap, and the gap filled
module _ (ls : List ℕ) (b : ℕ) (xs ys : List Piece) (hs cs : List (List ℕ)) (v : List ℕ) (la : Lies ls b xs hs) (lc : Lies ls b ys cs) (vb : (k : ℕ) → get_or v k 0 < 256)
    (t : total xs + ((length v + 1) + total ys) ≤ 65536) (s : b + 65536 ≤ 8 * length ls) where
  abbrev o : ℕ
  o = total xs

  abbrev n : ℕ
  n = length v

  abbrev l₁ : List ℕ
  l₁ = lay_lines ls b 0 xs

  abbrev l₂ : List ℕ
  l₂ = put_bytes l₁ (b + (o + n)) (32 ∷ [])

  abbrev l₃ : List ℕ
  l₃ = lay_lines l₂ b (o + (n + 1)) ys

  abbrev end : List ℕ
  end = put_bytes l₃ (b + o) v

  laid_is : lay_lines ls b 0 (xs ++ gap (length v) ∷ ys) ≡ l₃
  unfolding lay_lines
  laid_is =
      let z : 0 + o ≡ o = omega arith in
      let i : b + o + n ≡ b + (o + n) = omega arith in
      lay_append xs (gap n ∷ ys) ls b 0 ∙ ap (λ k. lay_lines l₁ b k (gap n ∷ ys)) z
      ∙ ap (λ k. lay_lines (put_byte k (b + o + n) 32) b (o + (n + 1)) ys) (puts_none l₁ (b + o))
      ∙ ap (λ k. lay_lines (put_byte l₁ k 32) b (o + (n + 1)) ys) i
      ∙ ap (λ k. lay_lines k b (o + (n + 1)) ys) (sym (puts_one l₁ (b + (o + n)) 32))

  kept₁ : (f c : ℕ) → (f + c ≤ b) ⊎ (b + 65536 ≤ f) → window f c l₁ ≡ window f c ls
  kept₁ f c q = lay_kept xs hs ls b 0 f c la (omega arith) (elim q [ inl h ↦ inl (omega arith) | inr h ↦ inr (omega arith) ])

  lies₂ : Lies l₂ b ys cs
  lies₂ = lies_kept ls l₂ b ys cs (λ f c q. puts_kept l₁ b (o + n) (32 ∷ []) blank_byte (omega arith) f c q ∙ kept₁ f c q) lc

  size₂ : length l₂ ≡ length ls
  size₂ = length_puts l₁ (b + (o + n)) (32 ∷ []) ∙ length_laid xs ls b 0

  first : window b o end ≡ row hs
  first =
      window_kept l₃ (b + o) v b o vb (inr (omega arith))
      ∙ lay_kept ys cs l₂ b (o + (n + 1)) b o lies₂ (omega arith) (inl (omega arith))
      ∙ window_kept l₁ (b + (o + n)) (32 ∷ []) b o blank_byte (inr (omega arith))
      ∙ ap (λ k. window k o l₁) (sym (add-zero b)) ∙ lay_row xs hs ls b 0 la (omega arith) s

  second : window (b + o) n end ≡ v
  second = window_put l₃ (b + o) v vb (omega (arith, size₂, length_laid ys l₂ b (o + (n + 1))))

  third : window (b + o + n) 1 end ≡ 32 ∷ []
  third =
      let i : b + o + n ≡ b + (o + n) = omega arith in
      window_kept l₃ (b + o) v (b + o + n) 1 vb (inl (omega arith))
      ∙ lay_kept ys cs l₂ b (o + (n + 1)) (b + o + n) 1 lies₂ (omega arith) (inl (omega arith))
      ∙ ap (λ k. window k 1 l₂) i ∙ window_put l₁ (b + (o + n)) (32 ∷ []) blank_byte (omega (arith, length_laid xs ls b 0))

  fourth : window (b + o + (n + 1)) (total ys) end ≡ row cs
  fourth =
      let i : b + o + (n + 1) ≡ b + (o + (n + 1)) = omega arith in
      window_kept l₃ (b + o) v (b + o + (n + 1)) (total ys) vb (inl (omega arith))
      ∙ ap (λ k. window k (total ys) l₃) i ∙ lay_row ys cs l₂ b (o + (n + 1)) lies₂ (omega arith) (omega (arith, size₂))

  gap_row : window b (total xs + ((length v + 1) + total ys)) (put_bytes (lay_lines ls b 0 (xs ++ gap (length v) ∷ ys)) (b + total xs) v) ≡ row (hs ++ v ∷ cs)
  gap_row =
      ap (λ z. window b (o + ((n + 1) + total ys)) (put_bytes z (b + o) v)) laid_is
      ∙ window_split b o ((n + 1) + total ys) end
      ∙ ap (λ z. window b o end ++ z) (window_split (b + o) (n + 1) (total ys) end ∙ ap (λ z. z ++ window (b + o + (n + 1)) (total ys) end) (window_split (b + o) n 1 end))
      ∙ ap (λ z. z ++ ((window (b + o) n end ++ window (b + o + n) 1 end) ++ window (b + o + (n + 1)) (total ys) end)) first
      ∙ ap (λ z. row hs ++ ((z ++ window (b + o + n) 1 end) ++ window (b + o + (n + 1)) (total ys) end)) second
      ∙ ap (λ z. row hs ++ ((v ++ z) ++ window (b + o + (n + 1)) (total ys) end)) third
      ∙ ap (λ z. row hs ++ ((v ++ 32 ∷ []) ++ z)) fourth
      ∙ sym (row_append hs (v ∷ cs))

total_append : (xs ys : List Piece) → total (xs ++ ys) ≡ total xs + total ys
unfolding total
total_append [] ys = omega arith
total_append (x ∷ xs) ys = omega (arith, total_append xs ys)

gap_total : (n : ℕ) (ys : List Piece) → total (gap n ∷ ys) ≡ (n + 1) + total ys
unfolding total
gap_total n ys = refl

joined_row : (gs : List (List ℕ)) → 0 < length gs → row gs ≡ joined gs ++ 32 ∷ []
joined_row [] h = absurd (omega arith)
joined_row (g ∷ gs) h = row_joined g gs

-- the line's own pieces
module _ (p : Parts) (line : Line) (l : List ℕ) (fs : List (List ℕ)) (m : ℕ) (v : List ℕ) (k : Sound p) (h : LineHolds p line l fs) (at : InPlace line) (few : m < 1000) where
  abbrev gs : List (List ℕ)
  gs = set_part 1001 fs (suc m) v

  abbrev buf : ℕ
  buf = buffer_of line

  abbrev piece : ℕ → Piece
  piece j = piece_of p.fields line (suc m) (length v) j

  sides : (f c : ℕ) → line.place.start ≤ f → f + c ≤ line.place.start + line.place.len → (f + c ≤ buf) ⊎ (buf + 65536 ≤ f)
  sides f c q r =
      elim (cases_lt line.place.start 135168) [
        | inl a ↦ inl (omega (arith, buffer_second line a, at.before a))
        | inr a ↦ inr (omega (arith, buffer_first line a))
      ]

  old_piece : (j : ℕ) → j < length fs → One p.lines buf (copied (nth_place p.fields line (j + 1))) (get_or fs j [])
  old_piece j lt =
      let q : Place = place_of (get_or p.fields j 0) in
      let s : ℕ = line.place.start in
      let z : j + 1 - 1 ≡ j = omega arith in
      let i = h.inside j lt in
      let w = h.whole in
      let c : min (s + q.start) 18446744073709551615 ≡ s + q.start = omega (arith, at.within) in
      let e : nth_place p.fields line (j + 1) ≡ place (s + q.start) q.len =
      nth_some p.fields line (j + 1) (λ x. omega arith) (omega (arith, h.count)) ∙ ap (λ x. within s (place_of (get_or p.fields x 0))) z ∙ ap (λ x. place x q.len) c in
      let g : cut_out l q ≡ get_or fs j [] = field_bytes p line l fs j k h lt in
      let n : q.len ≡ length (get_or fs j []) = sym (length-take-le q.len (drop q.start l) (omega (arith, length-drop q.start l))) ∙ ap length g in
      subst (λ x. One p.lines buf (copied x) (get_or fs j [])) (sym e)
      (record {
        copy = n;
        room = n;
        from = sym (window_part p.lines s line.place.len q.start q.len (omega arith)) ∙ ap (λ x. take q.len (drop q.start x)) h.bytes ∙ g;
        apart = sides (s + q.start) q.len (omega arith) (omega arith);
      })

  no_piece : (j : ℕ) → length fs ≤ j → One p.lines buf (copied (nth_place p.fields line (j + 1))) (get_or fs j [])
  no_piece j ge =
      let e : [] ≡ get_or fs j [] = sym (get_or_past fs j [] ge) in
      subst (λ x. One p.lines buf (copied x) (get_or fs j [])) (sym (nth_none p.fields line (j + 1) (inr (omega (arith, h.count)))))
      (record { copy = ap length e; room = ap length e; from = e; apart = sides line.place.start 0 (omega arith) (omega arith) })

  one_piece : (j : ℕ) → (j ≡ m → ⊥) → One p.lines buf (piece j) (get_or gs j [])
  one_piece j n =
      subst (λ x. One p.lines buf x (get_or gs j [])) (sym (piece_copied p.fields line (suc m) (length v) j (λ e. n (omega arith))))
      (subst (One p.lines buf (copied (nth_place p.fields line (j + 1)))) (sym (part_other 1001 fs m v j (omega arith) n))
      (elim (cases_lt j (length fs)) [ inl lt ↦ old_piece j lt | inr ge ↦ no_piece j ge ]))

  any_room : (j : ℕ) → (piece j).room ≡ length (get_or gs j [])
  any_room j =
      elim (cases_eq j m) [
        | inl e ↦ ap (λ x. x.room) (piece_gap p.fields line (suc m) (length v) j (omega arith)) ∙ ap length (sym (ap (λ x. get_or gs x []) e ∙ part_set 1001 fs m v (omega arith)))
        | inr n ↦ (one_piece j n).room
      ]

  abbrev count : ℕ
  count = max line.fields (suc m)

  count_is : count ≡ length gs
  count_is = sym (part_count 1001 fs (suc m) v (omega arith) (omega arith) ∙ omega (arith, h.count))

  abbrev all : List Piece
  all = all_pieces p.fields line (suc m) (length v)

  fits : Fit all gs
  fits =
      subst (Fit all) (ap (λ x. seg gs x 0) count_is ∙ seg_all gs) (fit_all p.fields line (suc m) (length v) gs count 0 (λ j a b. any_room j))

  total_is : total all ≡ length (joined gs) + 1
  total_is = fit_total all gs fits ∙ ap length (joined_row gs (omega (arith, count_is))) ∙ length-append (joined gs) (32 ∷ [])

  -- before the gap, and behind it

  abbrev rest : ℕ
  rest = count - suc m

  abbrev ps : List Piece
  ps = pieces p.fields line (suc m) (length v) m 0

  abbrev qs : List Piece
  qs = pieces p.fields line (suc m) (length v) rest (m + 1)

  abbrev hs : List (List ℕ)
  hs = seg gs m 0

  abbrev cs : List (List ℕ)
  cs = seg gs rest (m + 1)

  all_is : all ≡ ps ++ gap (length v) ∷ qs
  unfolding pieces
  all_is =
      let e : count ≡ m + suc rest = omega arith in
      let z : 0 + m ≡ m = omega arith in
      ap (λ x. pieces p.fields line (suc m) (length v) x 0) e ∙ pieces_split p.fields line (suc m) (length v) m (suc rest) 0
      ∙ ap (λ x. ps ++ (piece x ∷ pieces p.fields line (suc m) (length v) rest (x + 1))) z
      ∙ ap (λ x. ps ++ (x ∷ qs)) (piece_gap p.fields line (suc m) (length v) m (omega arith))

  texts_are : gs ≡ hs ++ v ∷ cs
  unfolding seg
  texts_are =
      let e : length gs ≡ m + suc rest = omega (arith, count_is) in
      let z : 0 + m ≡ m = omega arith in
      sym (seg_all gs) ∙ ap (λ x. seg gs x 0) e ∙ seg_split gs m (suc rest) 0
      ∙ ap (λ x. hs ++ (get_or gs x [] ∷ seg gs rest (x + 1))) z
      ∙ ap (λ x. hs ++ (x ∷ cs)) (part_set 1001 fs m v (omega arith))

  before : Lies p.lines buf ps hs
  before = lies_all p.lines p.fields buf line (suc m) (length v) gs m 0 (λ j a b. one_piece j (λ e. omega arith))

  behind : Lies p.lines buf qs cs
  behind = lies_all p.lines p.fields buf line (suc m) (length v) gs rest (m + 1) (λ j a b. one_piece j (λ e. omega arith))

  total_split : total all ≡ total ps + ((length v + 1) + total qs)
  total_split = ap total all_is ∙ total_append ps (gap (length v) ∷ qs) ∙ ap (λ x. total ps + x) (gap_total (length v) qs)

  gap_at : total ps ≡ length (row hs)
  gap_at = fit_total ps hs (fit_all p.fields line (suc m) (length v) gs m 0 (λ j a b. any_room j))

  refused : short (joined gs) ≡ false → RefusedSo p line (suc m) v
  unfolding built after_built
  refused e =
      let f : leb (total all) 65536 ≡ false = lt-leb (total all) 65536 (omega (arith, total_is, ltb-false (length (joined gs)) 65536 e)) in
      record {
        told = ap (λ x. pick x (Some (line_at buf (total all - 1) count)) None) f;
        kept = ap (λ x. pick x (laid p buf 0 0 all) p) f;
      }

  abbrev new : Line
  new = line_at buf (length (joined gs)) (length gs)

  abbrev q : Parts
  q = laid p buf 0 0 all

  fields_are : q.fields ≡ noted p.fields 0 (offs 0 gs)
  fields_are = laid_fields all p buf 0 0 ∙ ap (noted p.fields 0) (fit_offs all gs 0 fits)

  lines_are : q.lines ≡ lay_lines p.lines buf 0 (ps ++ gap (length v) ∷ qs)
  lines_are = laid_lines all p buf 0 0 ∙ ap (lay_lines p.lines buf 0) all_is

  enough : length gs ≤ 16448
  enough = omega (arith, count_is, h.room, h.count)

  offs_in : All (Inside (length (joined gs))) (offs 0 gs)
  offs_in = offs_inside gs 0 (length (joined gs)) (omega (arith, total_is, fit_total all gs fits))

  places_are : length (joined gs) < 65536 → places (length gs) q.fields ≡ offs 0 gs
  places_are lt =
      let n = length_offs 0 gs in
      ap (places (length gs)) fields_are ∙ ap (λ x. places x (noted p.fields 0 (offs 0 gs))) (sym n)
      ∙ places_noted (offs 0 gs) p.fields (length (joined gs)) (omega arith) offs_in (omega (arith, enough, k.fields_room))

  fields_size : length q.fields ≡ 16448
  fields_size = ap length fields_are ∙ length_noted (offs 0 gs) p.fields 0 ∙ k.fields_room

  gap_place : length (joined gs) < 65536 → (nth_place q.fields new (suc m)).start ≡ buf + total ps
  gap_place lt =
      let d : Place = place 0 0 in
      let z : suc m - 1 ≡ m = omega arith in
      let e : (place_of (get_or q.fields m 0)).start ≡ total ps =
      ap (λ x. x.start) (sym (getD_each q.fields (length gs) m d (omega (arith, count_is)) (omega (arith, enough, fields_size))))
      ∙ ap (λ x. (get_or x m d).start) (places_are lt ∙ ap (offs 0) texts_are)
      ∙ ap (λ x. (get_or (offs 0 (hs ++ v ∷ cs)) x d).start) (sym (length_seg gs m 0))
      ∙ offs_at hs v cs 0 d ∙ omega (arith, gap_at) in
      ap (λ x. x.start) (nth_some q.fields new (suc m) (λ x. omega arith) (omega (arith, count_is)))
      ∙ ap (λ x. min (buf + (place_of (get_or q.fields x 0)).start) 18446744073709551615) z
      ∙ ap (λ x. min (buf + x) 18446744073709551615) e
      ∙ omega (arith, buffer_below line, total_split, total_is)

  abbrev full : List ℕ
  full = put_bytes q.lines (nth_place q.fields new (suc m)).start v

  bytes_are : ((j : ℕ) → get_or v j 0 < 256) → length (joined gs) < 65536 → window buf (length (joined gs)) full ≡ joined gs
  bytes_are vb lt =
      let w : ℕ = total ps + ((length v + 1) + total qs) in
      let e : full ≡ put_bytes (lay_lines p.lines buf 0 (ps ++ gap (length v) ∷ qs)) (buf + total ps) v =
      ap (λ x. put_bytes q.lines x v) (gap_place lt) ∙ ap (λ x. put_bytes x (buf + total ps) v) lines_are in
      let r : window buf w full ≡ joined gs ++ 32 ∷ [] =
      ap (window buf w) e ∙ gap_row p.lines buf ps qs hs cs v before behind vb (omega (arith, total_split, total_is)) (omega (arith, buffer_below line, k.lines_room)) ∙ ap row (sym texts_are)
      ∙ joined_row gs (omega (arith, count_is)) in
      sym (window_front full buf w (length (joined gs)) (omega (arith, total_split, total_is))) ∙ ap (take (length (joined gs))) r ∙ take_at (joined gs) (32 ∷ []) (length (joined gs)) refl

  new_holds : ((j : ℕ) → get_or v j 0 < 256) → length (joined gs) < 65536 → LineHolds (filled q new (suc m) v) new (joined gs) gs
  new_holds vb lt =
      let n = length_offs 0 gs in
      let o : places (length (offs 0 gs)) q.fields ≡ offs 0 gs = ap (λ x. places x q.fields) n ∙ places_are lt in
      record {
        bytes = bytes_are vb lt;
        whole = refl;
        count = refl;
        room = enough;
        inside = λ j a. each_inside (offs 0 gs) q.fields (length (joined gs)) j offs_in o (omega (arith, enough, fields_size)) (omega arith);
        parts = ap (each (cut_out (joined gs))) (places_are lt) ∙ offs_cut gs [] 0 refl;
      }

  built_so : ((j : ℕ) → get_or v j 0 < 256) → short (joined gs) ≡ true → BuiltSo p line (suc m) v gs
  unfolding built after_built
  built_so vb e =
      let lt : length (joined gs) < 65536 = ltb-true (length (joined gs)) 65536 e in
      let f : leb (total all) 65536 ≡ true = le-leb (total all) 65536 (omega (arith, total_is)) in
      let u : total all - 1 ≡ length (joined gs) = omega (arith, total_is) in
      record {
        told =
            ap (λ x. pick x (Some (line_at buf (total all - 1) count)) None) f ∙ ap (λ x. Some (line_at buf x count)) u
            ∙ ap (λ x. Some (line_at buf (length (joined gs)) x)) count_is;
        holds = subst (λ x. LineHolds (filled x new (suc m) v) new (joined gs) gs) (ap (λ x. pick x (laid p buf 0 0 all) p) (sym f)) (new_holds vb lt);
      }

pub build_says : (p : Parts) (line : Line) (l : List ℕ) (fs : List (List ℕ)) (n : ℕ) (v : List ℕ) → Sound p → LineHolds p line l fs → InPlace line → 1 ≤ n → n ≤ 1000 → ((k : ℕ) → get_or v k 0 < 256) →
    BuildSays p line n v (set_part 1001 fs n v) (short (joined (set_part 1001 fs n v)))
build_says p line l fs zero v k h at one few vb = absurd (omega arith)
build_says p line l fs (suc m) v k h at one few vb = by (short (joined (set_part 1001 fs (suc m) v))) refl
  where
    by : (t : Bool) → short (joined (set_part 1001 fs (suc m) v)) ≡ t → BuildSays p line (suc m) v (set_part 1001 fs (suc m) v) t
    by true e = built_so p line l fs m v k h at (omega arith) vb e
    by false e = refused p line l fs m v k h at (omega arith) e

-- bytes as a line of their own
pub line_right : (p : Parts) (line : Line) (v : List ℕ) → Sound p → ((k : ℕ) → get_or v k 0 < 256) → length v < 65536 → length (fields_from [] v) ≤ 16448 →
    LineHolds (after_line p line v) (line_of p line v) v (fields_from [] v)
unfolding after_line line_of with_text
line_right p line v k vb h r =
    let b : ℕ = buffer_of line in
    let ls : List ℕ = put_bytes p.lines b v in
    let w : window b (length v) ls ≡ v = window_put p.lines b v vb (omega (arith, buffer_below line, k.lines_room)) in
    let c : length (fields_from [] v) ≡ (recut_of p.fields (window b (length v) ls)).cut.fields = sym (ap (λ x. (recut_of p.fields x).cut.fields) w ∙ recut_count p.fields v (omega arith)) in
    subst (λ n. LineHolds (with_fields (with_lines p ls) (recut_of p.fields (window b (length v) ls)).words) (line_at b (length v) n) v (fields_from [] v)) c
    (subst (λ x. LineHolds (with_fields (with_lines p ls) (recut_of p.fields x).words) (line_at b (length v) (length (fields_from [] v))) v (fields_from [] v)) (sym w)
    (text_holds (with_lines p ls) p.fields v b k.fields_room w (omega arith) r))
