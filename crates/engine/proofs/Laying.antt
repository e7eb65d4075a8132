-- Texts that are laid into the region of lines, and lines that are made anew.
use Rattle.std.proofs.Common.{◌≡◌, ℕ, ◌+◌, ◌-◌, ◌<◌, ◌≤◌, min, Bool, true, false, eqb, ltb, leb, List, [], ◌∷◌, length, get_or, take, drop, ℤ, Some, None, sym, refl, ap, ◌∙◌, inl, inr, arith, length-drop, length-take, length-take-le, take_all, take-add}
use lib.Seq.{paste, take-paste}
use Rattle.std.proofs.lemmas.Bool.{cases_lt, eq-eqb, ne_eqb}
use Rattle.std.proofs.lemmas.List.{drop_all}
use Rattle.language.specs.Text.{pick, or, number_of, as_text, fields_from}
use Rattle.language.specs.Meaning.{field_number}
use Rattle.store.specs.declared.cells.Value.{Value}
use Rattle.store.specs.Numbers.{number}
use Rattle.store.specs.Values.{worth}
use Rattle.store.specs.Words.{over, put_bytes}
use Rattle.store.specs.Space.{space, text_of}
use Rattle.store.proofs.Packing.{length_unpacked}
use Rattle.store.proofs.Putting.{puts_append}
use Rattle.regions.specs.Parts.{Parts, part, parts, with_lines}
use Rattle.store.specs.declared.place.Place.{Place}
use Rattle.regions.specs.Places.{place_of}
use Rattle.regions.proofs.Regions.{part_length}
use Rattle.lines.specs.declared.line.Line.{Line}
use Rattle.lines.specs.Lines.{place, within, nth_place}
use Rattle.lines.specs.Building.{total, all_pieces, laid, built, after_built, filled, filled_if, after_set, buffer_of}
use Rattle.lines.proofs.Keeping.{built_texts}
use Rattle.interp.specs.declared.registers.Registers.{Registers}
use Rattle.interp.specs.Outcomes.{Refuse}
use Rattle.interp.specs.Turns.{says, top_of, under_of, worth_in}
use Rattle.interp.specs.Texts.{text_in}
use Rattle.engine.specs.Setting.{relined, line_set, nth_set_by, nth_set, field_set_by, field_set}

-- the first k of a list, or all that there are
pub take_most : (s : List ℕ) (k n : ℕ) → n ≡ min (length s) k → take n s ≡ take k s
take_most s k n e = elim (cases_lt (length s) k) [
  | inl h ↦ take_all n s (omega arith) ∙ sym (take_all k s (omega arith))
  | inr h ↦ let f : n ≡ k = omega arith in ap (λ x. take x s) f
]

-- what a row of 64 bytes holds that a text was copied to
pub chunk : (d bs row : List ℕ) (at n : ℕ) → length d ≡ 64 → n ≡ min (length bs - at) (length d - 0) → row ≡ over d 0 (drop at bs) → take (n - 0) row ≡ take 64 (drop at bs)
chunk d bs row at n l e f =
    let s : List ℕ = drop at bs in
    let m : length s ≡ length bs - at = length-drop at bs in
    let k : min (length s) (length d - 0) ≡ n = omega arith in
    let z : n - 0 ≡ 0 + n = omega arith in
    ap (take (n - 0)) (f ∙ ap (paste d 0 s) k) ∙ ap (λ x. take x (paste d 0 s n)) z ∙ take-paste d 0 s n (omega arith) (omega arith) ∙ take_most s 64 n (omega arith)

-- a piece of a text behind those that are there
pub laid_more : (p q q₁ : Parts) (h to at : ℕ) → q ≡ with_lines p (put_bytes p.lines to (take at (text_of 77822 p.texts h))) →
    q₁ ≡ with_lines q (put_bytes q.lines (to + at) (take 64 (drop at (text_of 77822 q.texts h)))) → at ≤ length (text_of 77822 p.texts h) →
    q₁ ≡ with_lines p (put_bytes p.lines to (take (at + 64) (text_of 77822 p.texts h)))
laid_more p q q₁ h to at e f i =
    let bs : List ℕ = text_of 77822 p.texts h in
    let b : to + length (take at bs) ≡ to + at = ap (λ n. to + n) (length-take-le at bs i) in
    f ∙ ap (λ x. with_lines x (put_bytes x.lines (to + at) (take 64 (drop at (text_of 77822 x.texts h))))) e
    ∙ sym (ap (λ z. with_lines p (put_bytes p.lines to z)) (take-add at 64 bs)
    ∙ ap (with_lines p) (puts_append p.lines to (take at bs) (take 64 (drop at bs)) ∙ ap (λ n. put_bytes (put_bytes p.lines to (take at bs)) n (take 64 (drop at bs))) b))

-- a text has no more bytes than the region of texts
pub text_most : (m : List ℕ) (h : ℕ) → length m ≡ 262144 → length (text_of 77822 (parts m).texts h) ≤ 622576
unfolding parts space text_of
text_most m h e =
    let l = part_length 94976 98304 m (omega arith) in
    let d = length-drop 20482 (part 94976 98304 m) in
    let u = length_unpacked (drop 20482 (part 94976 98304 m)) in
    simp (length-take, length-drop) (omega arith)

-- behind the last field there is none
pub all_counted : (bs : List ℕ) (n from : ℕ) → length (fields_from [] bs) ≡ n + length (fields_from [] (drop from bs)) → length bs ≤ from → n ≡ length (fields_from [] bs)
unfolding fields_from
all_counted bs n from e h =
    let f : length (fields_from [] (drop from bs)) ≡ 0 = ap (λ x. length (fields_from [] x)) (drop_all from bs h) in
    omega arith

-- a line that has no room isn't built
unbuilt : (p : Parts) (l : Line) (n k : ℕ) → built p l n k ≡ None → after_built p l n k ≡ p
unfolding built after_built
unbuilt p l n k e = by (leb (total (all_pieces p.fields l n k)) 65536) _ e
  where
    by : (b : Bool) (x : Line) → pick b (Some x) None ≡ None → pick b (laid p (buffer_of l) 0 0 (all_pieces p.fields l n k)) p ≡ p
    by true x e = let z : ◌≡◌ {A = ℕ} 0 1 = cc in absurd (omega arith)
    by false x e = refl

-- a field that is set, where the line has room

pub nth_some : (p q q₁ : Parts) (r : Registers) (k len : ℕ) (v : Value) (line : Line) (gap : Place) → len ≡ length (text_in p v) → q ≡ after_built p r.line k len →
    Some line ≡ built p r.line k len → gap ≡ nth_place q.fields line k → q₁ ≡ with_lines q (put_bytes q.lines gap.start (text_in q v)) →
    relined q₁ r line ≡ nth_set p r k (text_in p v)
unfolding nth_set after_set
nth_some p q q₁ r k len v line gap l e b g f =
    let t : List ℕ = text_in p v in
    let m : ℕ = length t in
    let d : q ≡ after_built p r.line k m = e ∙ ap (after_built p r.line k) l in
    let s : text_in q v ≡ t = ap (λ x. as_text (worth 77822 x v)) (ap (λ x. x.texts) e ∙ built_texts p r.line k len) in
    let x : q₁ ≡ filled q line k t = f ∙ ap (λ z. with_lines q (put_bytes q.lines z.start (text_in q v))) g ∙ ap (λ z. with_lines q (put_bytes q.lines (nth_place q.fields line k).start z)) s in
    ap (λ z. relined z r line) (x ∙ ap (λ z. filled z line k t) d)
    ∙ ap (λ o. nth_set_by p r (filled_if o (after_built p r.line k m) k t) o) (b ∙ ap (built p r.line k) l)

-- where it has none, nothing is changed
pub nth_none : (p q : Parts) (r : Registers) (k len : ℕ) (t : List ℕ) → len ≡ length t → q ≡ after_built p r.line k len → None ≡ built p r.line k len →
    says (Refuse 7) q r ≡ nth_set p r k t
unfolding nth_set
nth_none p q r k len t l e b =
    ap (λ x. says (Refuse 7) x r) (e ∙ unbuilt p r.line k len (sym b)) ∙ ap (nth_set_by p r (after_set p r.line k t)) (b ∙ ap (built p r.line k) l)

-- the field with a number
pub field_known : (p : Parts) (r : Registers) (u v : Value) (m n : ℤ) (ks : List ℕ) → u ≡ top_of p r → v ≡ under_of p r → m ≡ n → number n ≡ number_of (worth_in p u) →
    ks ≡ field_number (number m) → field_set_by p r (text_in p v) ks ≡ field_set p r
unfolding field_set
field_known p r u v m n ks e d f g h =
    ap (λ x. field_set_by p r (text_in p x) ks) d
    ∙ ap (field_set_by p r (text_in p (under_of p r))) (h ∙ ap field_number (ap number f ∙ g ∙ ap (λ x. number_of (worth_in p x)) e))

-- where the buffers and their fields are: far before the last number
pub buffer_near : (l : Line) → buffer_of l ≤ 135168
unfolding buffer_of
buffer_near l = by (ltb l.place.start 135168)
  where
    by : (b : Bool) → pick b 135168 69632 ≤ 135168
    by true = omega arith
    by false = omega arith

nth_near : (ws : List ℕ) (line : Line) (k : ℕ) → (nth_place ws line k).start ≤ line.place.start + 4294967296
unfolding nth_place place_of
nth_near ws line k = by (or (eqb k 0) (ltb line.fields k))
  where
    by : (b : Bool) → (pick b (place line.place.start 0) (within line.place.start (place_of (get_or ws (k - 1) 0)))).start ≤ line.place.start + 4294967296
    by true = omega arith
    by false = omega arith

built_near : (p : Parts) (l line : Line) (n k : ℕ) → Some line ≡ built p l n k → line.place.start ≤ 135168
unfolding built
built_near p l line n k e = by (leb (total (all_pieces p.fields l n k)) 65536) _ e (buffer_near l)
  where
    by : (b : Bool) (x : Line) → Some line ≡ pick b (Some x) None → x.place.start ≤ 135168 → line.place.start ≤ 135168
    by true x e h = let z : line.place.start ≡ x.place.start = cc in omega arith
    by false x e h = let z : ◌≡◌ {A = ℕ} 0 1 = cc in absurd (omega arith)

pub gap_near : (p : Parts) (ws : List ℕ) (l line : Line) (n k : ℕ) (gap : Place) → Some line ≡ built p l n k → gap ≡ nth_place ws line n → gap.start < 9223372036854775808
gap_near p ws l line n k gap e g = omega (arith, built_near p l line n k e, nth_near ws line n, ap (λ x. x.start) g)

pub set_zero : (p : Parts) (r : Registers) (t : List ℕ) (k : ℕ) → k ≡ 0 → line_set p r t ≡ field_set_by p r t (k ∷ [])
set_zero p r t k e = sym (ap (λ b. pick b (line_set p r t) (nth_set p r k t)) (eq-eqb k 0 e))

pub set_other : (p : Parts) (r : Registers) (t : List ℕ) (k : ℕ) → (k ≡ 0 → ⊥) → nth_set p r k t ≡ field_set_by p r t (k ∷ [])
set_other p r t k h = sym (ap (λ b. pick b (line_set p r t) (nth_set p r k t)) (ne_eqb k 0 h))
