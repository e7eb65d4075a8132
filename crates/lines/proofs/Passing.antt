-- A text that is cut byte by byte.
use Rattle.std.proofs.Common.{◌≡◌, ℕ, ◌+◌, ◌-◌, ◌<◌, ◌≤◌, min, true, false, List, ◌∷◌, length, get_or, drop, set, sym, ap, ◌∙◌, inl, inr, arith, length-drop, length-take}
use Rattle.std.proofs.lemmas.List.{drop_more, drop_all}
use Rattle.std.proofs.lemmas.Bool.{ne_eqb, cases_Bool, lt-ltb, le-ltb}
use Rattle.language.specs.Text.{pick, blank}
use Rattle.store.specs.Words.{unpacked, window}
use Rattle.store.proofs.Packing.{length_unpacked}
use Rattle.store.proofs.Moving.{get_d_window}
use Rattle.regions.specs.Parts.{Parts, with_fields}
use Rattle.regions.specs.Places.{place_word}
use Rattle.lines.specs.declared.cutting.Cut.{Cut}
use Rattle.lines.specs.Scanning.{scan_on}
use Rattle.lines.specs.Cutting.{Cuts, cuts_of, from_to, one_more, closed_words, closed_count, closed, pass_blank, pass_other, pass_byte, pass_all}

pub words_ended : (ws : List ℕ) (c : Cut) → c.since < c.at → closed_words ws c ≡ set ws c.fields (place_word (from_to c.since c.at))
unfolding closed_words
words_ended ws c h = rw (lt-ltb c.since c.at h)

pub count_ended : (c : Cut) → c.since < c.at → closed_count c ≡ one_more c.fields
unfolding closed_count
count_ended c h = rw (lt-ltb c.since c.at h)

pub words_kept : (ws : List ℕ) (c : Cut) → c.at ≤ c.since → closed_words ws c ≡ ws
unfolding closed_words
words_kept ws c h = rw (le-ltb c.since c.at h)

pub count_kept : (c : Cut) → c.at ≤ c.since → closed_count c ≡ c.fields
unfolding closed_count
count_kept c h = rw (le-ltb c.since c.at h)

-- how many bytes a window has
pub window_length : (f n : ℕ) (ws : List ℕ) → length ws ≡ 25088 → length (window f n ws) ≡ min n (200704 - f)
window_length f n ws e = omega (arith, length-take n (drop f (unpacked ws)), length-drop f (unpacked ws), length_unpacked ws)

pub passes_blank : (b : ℕ) (s : Cuts) → blank b ≡ true → pass_byte b s ≡ pass_blank s
unfolding pass_byte
passes_blank b s e = ap (λ t. pick t (pass_blank s) (pass_other s)) e

pub passes_other : (b : ℕ) (s : Cuts) → blank b ≡ false → pass_byte b s ≡ pass_other s
unfolding pass_byte
passes_other b s e = ap (λ t. pick t (pass_blank s) (pass_other s)) e

pub above_blank : (b : ℕ) → 32 < b → blank b ≡ false
above_blank b h = rw (ne_eqb b 32 (λ e. omega arith), ne_eqb b 9 (λ e. omega arith))

pub pass_at : (b : ℕ) (s : Cuts) → (pass_byte b s).cut.at ≡ s.cut.at + 1
pass_at b s = elim (cases_Bool (blank b)) [ inl e ↦ ap (λ x. x.cut.at) (passes_blank b s e) | inr e ↦ ap (λ x. x.cut.at) (passes_other b s e) ]

same_cuts : (s : Cuts) (ws : List ℕ) (c : Cut) → ws ≡ s.words → c ≡ s.cut → cuts_of ws c ≡ s
same_cuts s ws c p q = ap (λ x. cuts_of x c) p ∙ ap (cuts_of s.words) q

-- one turn: the byte at which the text was cut so far is passed
pub pass_turn : (w ws us : List ℕ) (c d : Cut) (b : ℕ) → c.at < length w → b ≡ get_or w c.at 0 → us ≡ (pass_byte b (cuts_of ws c)).words → d ≡ (pass_byte b (cuts_of ws c)).cut →
    pass_all (drop c.at w) (cuts_of ws c) ≡ pass_all (drop d.at w) (cuts_of us d)
unfolding pass_all
pass_turn w ws us c d b h e p q =
    let s : Cuts = cuts_of ws c in
    let f : c.at + 1 ≡ d.at = sym (ap (λ x. x.at) q ∙ pass_at b s) in
    ap (λ x. pass_all x s) (drop_more w c.at 0 h) ∙ ap (λ x. pass_all (drop (c.at + 1) w) (pass_byte x s)) (sym e)
    ∙ ap (λ n. pass_all (drop n w) (pass_byte b s)) f ∙ ap (pass_all (drop d.at w)) (sym (same_cuts (pass_byte b s) us d p q))

pub pass_end : (w : List ℕ) (s : Cuts) → length w ≤ s.cut.at → pass_all (drop s.cut.at w) s ≡ s
unfolding pass_all
pass_end w s h = ap (λ x. pass_all x s) (drop_all s.cut.at w h)

-- the same for a scan, which ends at byte 10

pub scan_turn : (w ws us : List ℕ) (c d : Cut) (b : ℕ) → c.at < length w → b ≡ get_or w c.at 0 → (b ≡ 10 → ⊥) → us ≡ (pass_byte b (cuts_of ws c)).words → d ≡ (pass_byte b (cuts_of ws c)).cut →
    scan_on (drop c.at w) (cuts_of ws c) ≡ scan_on (drop d.at w) (cuts_of us d)
unfolding scan_on
scan_turn w ws us c d b h e n p q =
    let s : Cuts = cuts_of ws c in
    let f : c.at + 1 ≡ d.at = sym (ap (λ x. x.at) q ∙ pass_at b s) in
    ap (λ x. scan_on x s) (drop_more w c.at 0 h ∙ ap (λ x. x ∷ drop (c.at + 1) w) (sym e))
    ∙ ap (λ t. pick t (record { found = true; cuts = closed s }) (scan_on (drop (c.at + 1) w) (pass_byte b s))) (ne_eqb b 10 n)
    ∙ ap (λ k. scan_on (drop k w) (pass_byte b s)) f ∙ ap (scan_on (drop d.at w)) (sym (same_cuts (pass_byte b s) us d p q))

pub scan_stop : (w : List ℕ) (s : Cuts) (b : ℕ) → s.cut.at < length w → b ≡ get_or w s.cut.at 0 → b ≡ 10 → scan_on (drop s.cut.at w) s ≡ record { found = true; cuts = closed s }
unfolding scan_on
scan_stop w s b h e n =
    ap (λ x. scan_on x s) (drop_more w s.cut.at 0 h ∙ ap (λ x. x ∷ drop (s.cut.at + 1) w) (sym e ∙ n))

pub scan_end : (w : List ℕ) (s : Cuts) → length w ≤ s.cut.at → scan_on (drop s.cut.at w) s ≡ record { found = false; cuts = s }
unfolding scan_on
scan_end w s h = ap (λ x. scan_on x s) (drop_all s.cut.at w h)

-- only the fields change
pub fields_only : (o p q : Parts) (x y : List ℕ) → p ≡ with_fields o x → q ≡ with_fields p y → q ≡ with_fields o q.fields
fields_only o p q x y e f = f ∙ ap (λ r. with_fields r y) e ∙ ap (with_fields o) (sym (ap (λ r. r.fields) f))

-- a byte of the text
pub byte_of : (ls ks : List ℕ) (f n i b : ℕ) → b ≡ get_or (unpacked ks) (f + i) 0 → ks ≡ ls → i < n → b ≡ get_or (window f n ls) i 0
byte_of ls ks f n i b e k h = e ∙ ap (λ x. get_or (unpacked x) (f + i) 0) k ∙ sym (get_d_window f n ls i h)
