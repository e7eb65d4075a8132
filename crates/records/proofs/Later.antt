-- What a pass over more bytes keeps: the fields that were noted before. So a scan may be made again from where it was, over words that have more.
use Rattle.std.proofs.Common.{◌≡◌, ℕ, zero, suc, ◌+◌, ◌<◌, ◌≤◌, eqb, List, [], ◌∷◌, length, get_or, take, set, sym, refl, ap, ◌∙◌, subst, inl, inr, arith, length-set, length-take}
use Rattle.std.proofs.lemmas.List.{get_or-set_same, get_or-set_other, set-get_or, set_past}
use Rattle.std.proofs.lemmas.Bool.{cases_lt, cases_Bool}
use Rattle.language.specs.Text.{blank}
use Rattle.store.proofs.Putting.{set_fits}
use Rattle.regions.specs.Parts.{Parts, with_fields}
use Rattle.regions.specs.Places.{place_word}
use Rattle.store.specs.declared.place.Place.{Place}
use Rattle.lines.specs.declared.cutting.Cut.{Cut}
use Rattle.lines.specs.Cutting.{Cuts, cuts_of, cut_of, fresh_cut, from_to, closed, closed_words, closed_count, pass_blank, pass_byte, pass_all, recut_of}
use Rattle.lines.specs.Scanning.{scan_on}
use Rattle.lines.specs.Laws.{ScannedSo}
use Rattle.records.specs.Records.{InWords}
use Rattle.lines.proofs.Passing.{words_ended, count_ended, words_kept, count_kept, passes_blank, passes_other}

-- t came of s: it has as many words, and the fields that s had
pub record Later (s t : Cuts) : Type 0 where
  pub size : length t.words ≡ length s.words
  pub more : s.cut.fields ≤ t.cut.fields
  pub same : (j : ℕ) → j < s.cut.fields → get_or t.words j 0 ≡ get_or s.words j 0
  pub in_words : InWords s.words → InWords t.words

later_same : (s : Cuts) → Later s s
later_same s = record { size = refl; more = omega arith; same = λ j h. refl; in_words = λ h. h }

pub later_trans : (s t u : Cuts) → Later s t → Later t u → Later s u
later_trans s t u a b =
    record {
      size = b.size ∙ a.size;
      more = omega (arith, a.more, b.more);
      same = λ j h. b.same j (omega (arith, a.more)) ∙ a.same j h;
      in_words = λ h. b.in_words (a.in_words h);
    }

-- a place is a word
pub word_small : (p : Place) → place_word p < 18446744073709551616
unfolding place_word
word_small p = omega arith

-- there are no more fields than bytes
abbrev Few : ℕ → Cuts → Type 0
Few n s = s.cut.fields + n < 18446744073709551615

-- a field that ends is noted behind the others
ends_later : (s : Cuts) (a b : ℕ) → Few 0 s → Later s (cuts_of (closed_words s.words s.cut) (cut_of a b (closed_count s.cut)))
ends_later s a b h =
    let c : Cut = s.cut in
    elim (cases_lt c.since c.at) [
      | inl lt ↦
          let w = words_ended s.words c lt in
          let k = count_ended c lt in
          record {
            size = ap length w ∙ length-set s.words c.fields _;
            more = omega (arith, k);
            same = λ j l. ap (λ x. get_or x j 0) w ∙ get_or-set_other s.words c.fields j _ 0 (λ e. omega arith);
            in_words = λ a. subst InWords (sym w) (set_fits s.words c.fields (place_word (from_to c.since c.at)) a (word_small (from_to c.since c.at)));
          }
      | inr ge ↦
          let w = words_kept s.words c ge in
          let k = count_kept c ge in
          record { size = ap length w; more = omega (arith, k); same = λ j l. ap (λ x. get_or x j 0) w; in_words = λ a. subst InWords (sym w) a }
    ]

pub closed_later : (s : Cuts) → Few 0 s → Later s (closed s)
closed_later s h = ends_later s s.cut.at s.cut.since h

count_few : (c : Cut) → closed_count c ≤ c.fields + 1
count_few c = elim (cases_lt c.since c.at) [ inl h ↦ omega (arith, count_ended c h) | inr h ↦ omega (arith, count_kept c h) ]

byte_later : (b : ℕ) (s : Cuts) → Few 0 s → Later s (pass_byte b s)
byte_later b s h =
    elim (cases_Bool (blank b)) [
      | inl e ↦ subst (Later s) (sym (passes_blank b s e)) (ends_later s (s.cut.at + 1) (s.cut.at + 1) h)
      | inr e ↦ subst (Later s) (sym (passes_other b s e)) (record { size = refl; more = omega arith; same = λ j l. refl; in_words = λ a. a })
    ]

byte_few : (b : ℕ) (s : Cuts) → (pass_byte b s).cut.fields ≤ s.cut.fields + 1
byte_few b s =
    elim (cases_Bool (blank b)) [
      | inl e ↦ omega (arith, ap (λ x. x.cut.fields) (passes_blank b s e), count_few s.cut)
      | inr e ↦ omega (arith, ap (λ x. x.cut.fields) (passes_other b s e))
    ]

pub pass_few : (a : List ℕ) (s : Cuts) → (pass_all a s).cut.fields ≤ s.cut.fields + length a
unfolding pass_all
pass_few [] s = omega arith
pass_few (b ∷ a) s = omega (arith, pass_few a (pass_byte b s), byte_few b s)

pub pass_later : (a : List ℕ) (s : Cuts) → Few (length a) s → Later s (pass_all a s)
unfolding pass_all
pass_later [] s h = later_same s
pass_later (b ∷ a) s h = later_trans s (pass_byte b s) (pass_all a (pass_byte b s)) (byte_later b s (omega arith)) (pass_later a (pass_byte b s) (omega (arith, byte_few b s)))

pub scan_later : (a : List ℕ) (s : Cuts) → Few (length a) s → Later s (scan_on a s).cuts
unfolding scan_on
scan_later [] s h = later_same s
scan_later (b ∷ a) s h =
    elim (cases_Bool (eqb b 10)) [
      | inl e ↦ rw e (closed_later s (omega arith))
      | inr e ↦ rw e (later_trans s (pass_byte b s) (scan_on a (pass_byte b s)).cuts (byte_later b s (omega arith)) (scan_later a (pass_byte b s) (omega (arith, byte_few b s))))
    ]

pub recut_fits : (ws l : List ℕ) → length l < 65536 → InWords ws → InWords (recut_of ws l).words
unfolding recut_of
recut_fits ws l h w =
    let s : Cuts = cuts_of ws fresh_cut in
    (closed_later (pass_all l s) (omega (arith, pass_few l s))).in_words ((pass_later l s (omega arith)).in_words w)

-- THE SAME PASS AGAIN, over words that have the fields already, changes nothing

-- words that have what t noted
pub record Has (ws : List ℕ) (t : Cuts) : Type 0 where
  pub size : length ws ≡ length t.words
  pub same : (j : ℕ) → j < t.cut.fields → get_or ws j 0 ≡ get_or t.words j 0

pub has_later : (s t : Cuts) → Later s t → Has t.words s
has_later s t a = record { size = a.size; same = a.same }

has_before : (ws : List ℕ) (s t : Cuts) → Later s t → Has ws t → Has ws s
has_before ws s t a b = record { size = b.size ∙ a.size; same = λ j h. b.same j (omega (arith, a.more)) ∙ a.same j h }

-- one field
ends_again : (ws : List ℕ) (s : Cuts) (a b : ℕ) → Few 0 s → Has ws (cuts_of (closed_words s.words s.cut) (cut_of a b (closed_count s.cut))) → closed_words ws s.cut ≡ ws
ends_again ws s a b f h =
    let c : Cut = s.cut in
    let x : ℕ = place_word (from_to c.since c.at) in
    elim (cases_lt c.since c.at) [
      | inl lt ↦
          let w = words_ended s.words c lt in
          let n : length ws ≡ length s.words = h.size ∙ ap length w ∙ length-set s.words c.fields x in
          words_ended ws c lt ∙
          elim (cases_lt c.fields (length ws)) [
            | inl in_side ↦
                let e : get_or ws c.fields 0 ≡ x =
                h.same c.fields (omega (arith, count_ended c lt)) ∙ ap (λ y. get_or y c.fields 0) w ∙ get_or-set_same s.words c.fields x 0 (omega arith) in
                ap (set ws c.fields) (sym e) ∙ set-get_or ws c.fields 0
            | inr past ↦ set_past ws c.fields x past
          ]
      | inr ge ↦ words_kept ws c ge
    ]

byte_again : (b : ℕ) (ws : List ℕ) (s : Cuts) → Few 0 s → Has ws (pass_byte b s) → pass_byte b (cuts_of ws s.cut) ≡ cuts_of ws (pass_byte b s).cut
byte_again b ws s f h =
    elim (cases_Bool (blank b)) [
      | inl e ↦
          passes_blank b (cuts_of ws s.cut) e
          ∙ ap (λ x. cuts_of x (pass_blank s).cut) (ends_again ws s (s.cut.at + 1) (s.cut.at + 1) f (subst (Has ws) (passes_blank b s e) h))
          ∙ ap (λ x. cuts_of ws x.cut) (sym (passes_blank b s e))
      | inr e ↦ passes_other b (cuts_of ws s.cut) e ∙ ap (λ x. cuts_of ws x.cut) (sym (passes_other b s e))
    ]

pub pass_again : (a ws : List ℕ) (s : Cuts) → Few (length a) s → Has ws (pass_all a s) → pass_all a (cuts_of ws s.cut) ≡ cuts_of ws (pass_all a s).cut
unfolding pass_all
pass_again [] ws s f h = refl
pass_again (b ∷ a) ws s f h =
    let s₁ : Cuts = pass_byte b s in
    let g : Few (length a) s₁ = omega (arith, byte_few b s) in
    ap (pass_all a) (byte_again b ws s (omega arith) (has_before ws s₁ (pass_all a s₁) (pass_later a s₁ g) h)) ∙ pass_again a ws s₁ g h

-- what was looked through stays so over words that have what was noted
pub still_so : (w : List ℕ) (p : Parts) (c : Cut) (ws : List ℕ) → length w < 18446744073709551615 → ScannedSo w p c → Has ws (cuts_of p.fields c) → length ws ≡ 16448 →
    ScannedSo w (with_fields p ws) c
still_so w p c ws l so h n =
    let a : List ℕ = take c.at w in
    let s : Cuts = cuts_of so.seed fresh_cut in
    let f : Few (length a) s = omega (arith, length-take c.at w) in
    record {
      seed = ws;
      room = n;
      inside = so.inside;
      none = so.none;
      is = ap (λ x. cuts_of ws x.cut) so.is ∙ sym (pass_again a ws s f (subst (Has ws) so.is h));
    }

-- there are no more fields than bytes
pub so_few : (w : List ℕ) (p : Parts) (c : Cut) → ScannedSo w p c → c.fields ≤ length w
so_few w p c so =
    omega (arith, ap (λ x. x.cut.fields) so.is, pass_few (take c.at w) (cuts_of so.seed fresh_cut), length-take c.at w)

-- a field begins before the place that is looked at
byte_since : (b : ℕ) (s : Cuts) → s.cut.since ≤ s.cut.at → (pass_byte b s).cut.since ≤ (pass_byte b s).cut.at
byte_since b s h =
    elim (cases_Bool (blank b)) [
      | inl e ↦ subst (λ x. x.cut.since ≤ x.cut.at) (sym (passes_blank b s e)) (omega arith)
      | inr e ↦ subst (λ x. x.cut.since ≤ x.cut.at) (sym (passes_other b s e)) (omega arith)
    ]

pass_since : (a : List ℕ) (s : Cuts) → s.cut.since ≤ s.cut.at → (pass_all a s).cut.since ≤ (pass_all a s).cut.at
unfolding pass_all
pass_since [] s h = h
pass_since (b ∷ a) s h = pass_since a (pass_byte b s) (byte_since b s h)

pub so_since : (w : List ℕ) (p : Parts) (c : Cut) → ScannedSo w p c → c.since ≤ c.at
so_since w p c so =
    subst (λ x. x.cut.since ≤ x.cut.at) (sym so.is) (pass_since (take c.at w) (cuts_of so.seed fresh_cut) (omega arith))

-- where nothing waits, nothing is looked through
pub so_none : (p : Parts) (c : Cut) → ScannedSo [] p c → c ≡ fresh_cut
unfolding pass_all
so_none p c so = ap (λ x. x.cut) so.is ∙ ap (λ x. (pass_all x (cuts_of so.seed fresh_cut)).cut) (take_none c.at)
  where
    take_none : (n : ℕ) → take {A = ℕ} n [] ≡ []
    take_none zero = refl
    take_none (suc n) = refl
