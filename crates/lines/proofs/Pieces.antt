-- The pieces of a line that is put together.
use Rattle.std.proofs.Common.{◌≡◌, ℕ, suc, ◌+◌, ◌-◌, ◌<◌, ◌≤◌, Bool, true, false, eqb, ltb, List, [], ◌∷◌, get_or, Some, None, Option, sym, refl, ap, ◌∙◌, inl, inr, arith}
use Rattle.std.proofs.lemmas.Bool.{cases_lt, lt-ltb, le-ltb, eq-eqb, ne_eqb}
use Rattle.language.specs.Text.{pick, or}
use Rattle.regions.specs.Parts.{Parts}
use Rattle.regions.specs.Places.{place_of}
use Rattle.lines.specs.declared.line.Line.{Line}
use Rattle.lines.specs.declared.building.Piece.{Piece}
use Rattle.lines.specs.Lines.{place, within, nth_place}
use Rattle.lines.specs.Building.{buffer_of, gap, copied, piece_of, pieces, total, laid, laid_one}

pub buffer_second : (l : Line) → l.place.start < 135168 → buffer_of l ≡ 135168
unfolding buffer_of
buffer_second l h = rw (lt-ltb l.place.start 135168 h)

pub buffer_first : (l : Line) → 135168 ≤ l.place.start → buffer_of l ≡ 69632
unfolding buffer_of
buffer_first l h = rw (le-ltb l.place.start 135168 h)

pub buffer_below : (l : Line) → buffer_of l ≤ 135168
buffer_below l = elim (cases_lt l.place.start 135168) [ inl h ↦ omega (arith, buffer_second l h) | inr h ↦ omega (arith, buffer_first l h) ]

pub piece_gap : (ws : List ℕ) (l : Line) (n k i : ℕ) → i + 1 ≡ n → piece_of ws l n k i ≡ gap k
unfolding piece_of
piece_gap ws l n k i e = rw (eq-eqb (i + 1) n e)

pub piece_copied : (ws : List ℕ) (l : Line) (n k i : ℕ) → (i + 1 ≡ n → ⊥) → piece_of ws l n k i ≡ copied (nth_place ws l (i + 1))
unfolding piece_of
piece_copied ws l n k i e = rw (ne_eqb (i + 1) n e)

same_place : (ws us : List ℕ) (l : Line) (i : ℕ) → get_or ws i 0 ≡ get_or us i 0 → nth_place ws l (i + 1) ≡ nth_place us l (i + 1)
unfolding nth_place
same_place ws us l i e =
    let z : i + 1 - 1 ≡ i = omega arith in
    ap (λ x. pick (or (eqb (i + 1) 0) (ltb l.fields (i + 1))) (place l.place.start 0) (within l.place.start (place_of x))) (ap (λ j. get_or ws j 0) z ∙ e ∙ ap (λ j. get_or us j 0) (sym z))

pub same_piece : (ws us : List ℕ) (l : Line) (n k i : ℕ) → get_or ws i 0 ≡ get_or us i 0 → piece_of ws l n k i ≡ piece_of us l n k i
unfolding piece_of
same_piece ws us l n k i e = ap (λ x. pick (eqb (i + 1) n) (gap k) (copied x)) (same_place ws us l i e)

pub pieces_turn : (ws : List ℕ) (l : Line) (n k m i : ℕ) → i < m → pieces ws l n k (m - i) i ≡ piece_of ws l n k i ∷ pieces ws l n k (m - (i + 1)) (i + 1)
unfolding pieces
pieces_turn ws l n k m i h = let e : m - i ≡ suc (m - (i + 1)) = omega arith in ap (λ j. pieces ws l n k j i) e

pub pieces_done : (ws : List ℕ) (l : Line) (n k m i : ℕ) → m ≤ i → pieces ws l n k (m - i) i ≡ []
unfolding pieces
pieces_done ws l n k m i h = let e : m - i ≡ 0 = omega arith in ap (λ j. pieces ws l n k j i) e

pub pieces_start : (ws : List ℕ) (l : Line) (n k m : ℕ) → pieces ws l n k m 0 ≡ pieces ws l n k (m - 0) 0
pieces_start ws l n k m = let e : m ≡ m - 0 = omega arith in ap (λ j. pieces ws l n k j 0) e

pub total_turn : (ws : List ℕ) (l : Line) (n k m i : ℕ) → i < m → total (pieces ws l n k (m - i) i) ≡ ((piece_of ws l n k i).room + 1) + total (pieces ws l n k (m - (i + 1)) (i + 1))
unfolding total
total_turn ws l n k m i h = ap total (pieces_turn ws l n k m i h)

pub total_done : (ws : List ℕ) (l : Line) (n k m i : ℕ) → m ≤ i → total (pieces ws l n k (m - i) i) ≡ 0
unfolding total
total_done ws l n k m i h = ap total (pieces_done ws l n k m i h)

pub laid_turn : (p q : Parts) (b i at : ℕ) (x : Piece) (ws : List ℕ) (l : Line) (n k m : ℕ) → i < m → x ≡ piece_of ws l n k i → q ≡ laid_one p b i at x →
    laid p b i at (pieces ws l n k (m - i) i) ≡ laid q b (i + 1) (at + (x.room + 1)) (pieces ws l n k (m - (i + 1)) (i + 1))
unfolding laid
laid_turn p q b i at x ws l n k m h e f =
    ap (laid p b i at) (pieces_turn ws l n k m i h ∙ ap (λ y. y ∷ pieces ws l n k (m - (i + 1)) (i + 1)) (sym e))
    ∙ ap (λ y. laid y b (i + 1) (at + (x.room + 1)) (pieces ws l n k (m - (i + 1)) (i + 1))) (sym f)

pub laid_done : (p : Parts) (b i at : ℕ) (ws : List ℕ) (l : Line) (n k m : ℕ) → m ≤ i → laid p b i at (pieces ws l n k (m - i) i) ≡ p
unfolding laid
laid_done p b i at ws l n k m h = ap (laid p b i at) (pieces_done ws l n k m i h)

-- a piece of those that have room in all
pub room_left : (ws us : List ℕ) (l : Line) (n k m i at : ℕ) (x : Piece) → i < m → x ≡ piece_of us l n k i → get_or us i 0 ≡ get_or ws i 0 →
    total (pieces ws l n k m 0) ≡ at + total (pieces ws l n k (m - i) i) → total (pieces ws l n k m 0) ≤ 65536 → at + x.room < 65536
room_left ws us l n k m i at x h e f t r = omega (arith, total_turn ws l n k m i h, ap (λ y. y.room) (e ∙ same_piece us ws l n k i f))

-- what an answer of a length says

pub none_then : (t : Bool) (x : ℕ) → ◌≡◌ {A = Option ℕ} (pick t (Some x) None) None → t ≡ false
none_then true x e = cc
none_then false x e = refl

pub some_then : (t : Bool) (x y : ℕ) → ◌≡◌ {A = Option ℕ} (pick t (Some x) None) (Some y) → (t ≡ true) × (x ≡ y)
some_then true x y e = (refl, cc)
some_then false x y e = (cc, cc)
