-- A scan writes only behind what was noted before it: so from the same place it can be made again.
use Rattle.std.proofs.Common.{◌≡◌, ℕ, ◌+◌, ◌≤◌, Bool, true, false, eqb, List, [], ◌∷◌, length, take, set, sym, refl, ap, ◌∙◌, subst, inl, inr, le_refl, arith, length-set}
use lib.Seq.{set_comm}
use Rattle.std.proofs.lemmas.List.{set_past}
use Rattle.std.proofs.lemmas.Bool.{cases_lt, cases_eq}
use Rattle.language.specs.Text.{pick, blank}
use Rattle.regions.specs.Parts.{Parts, with_fields}
use Rattle.regions.specs.Places.{place_word}
use Rattle.lines.specs.declared.cutting.Cut.{Cut}
use Rattle.lines.specs.Cutting.{Cuts, cuts_of, cut_of, fresh_cut, from_to, closed_words, closed_count, closed, pass_byte, pass_all}
use Rattle.lines.specs.Laws.{ScannedSo}
use Rattle.lines.specs.Scanning.{scan_on}
use Rattle.lines.proofs.Passing.{words_ended, count_ended, words_kept, count_kept, passes_blank, passes_other}

abbrev cap : ℕ
cap = 18446744073709551615

-- counts rise, up to the greatest
closed_rises : (c : Cut) → c.fields ≤ cap → (c.fields ≤ closed_count c) × (closed_count c ≤ cap)
closed_rises c l =
    elim (cases_lt c.since c.at) [
      | inl k ↦ rw (count_ended c k) (omega arith, omega arith)
      | inr k ↦ rw (count_kept c k) (le_refl c.fields, l)
    ]

byte_rises : (b : ℕ) (s : Cuts) → s.cut.fields ≤ cap → (s.cut.fields ≤ (pass_byte b s).cut.fields) × ((pass_byte b s).cut.fields ≤ cap)
byte_rises b s l = by (blank b) refl
  where
    by : (t : Bool) → blank b ≡ t → (s.cut.fields ≤ (pass_byte b s).cut.fields) × ((pass_byte b s).cut.fields ≤ cap)
    by true e = rw (passes_blank b s e) (closed_rises s.cut l)
    by false e = rw (passes_other b s e) (le_refl s.cut.fields, l)

all_rises : (bs : List ℕ) (s : Cuts) → s.cut.fields ≤ cap → (s.cut.fields ≤ (pass_all bs s).cut.fields) × ((pass_all bs s).cut.fields ≤ cap)
unfolding pass_all
all_rises [] s l = (le_refl s.cut.fields, l)
all_rises (b ∷ bs) s l =
    let x = byte_rises b s l in
    let y = all_rises bs (pass_byte b s) x.1 in
    (omega (arith, x.0, y.0), y.1)

-- lengths stay
closed_wide : (ws : List ℕ) (c : Cut) → length (closed_words ws c) ≡ length ws
closed_wide ws c =
    elim (cases_lt c.since c.at) [
      | inl k ↦ rw (words_ended ws c k) (length-set ws c.fields (place_word (from_to c.since c.at)))
      | inr k ↦ rw (words_kept ws c k)
    ]

byte_wide : (b : ℕ) (s : Cuts) → length (pass_byte b s).words ≡ length s.words
byte_wide b s = by (blank b) refl
  where
    by : (t : Bool) → blank b ≡ t → length (pass_byte b s).words ≡ length s.words
    by true e = rw (passes_blank b s e) (closed_wide s.words s.cut)
    by false e = rw (passes_other b s e)

-- a word behind all that is noted may be written before or after

closed_set : (ws : List ℕ) (c : Cut) (j x : ℕ) → length ws ≡ 16448 → c.fields ≤ cap → closed_count c ≤ j → closed_words (set ws j x) c ≡ set (closed_words ws c) j x
closed_set ws c j x w l h =
    elim (cases_lt c.since c.at) [
      | inr k ↦ rw (words_kept ws c k, words_kept (set ws j x) c k)
      | inl k ↦
          let y = place_word (from_to c.since c.at) in
          rw (words_ended ws c k, words_ended (set ws j x) c k) (elim (cases_eq j c.fields) [
            | inr n ↦ set_comm ws j c.fields x y n
            | inl n ↦
                let q = count_ended c k in
                let far : length ws ≤ j = omega (arith, q, h, n, w) in
                let far₁ : length ws ≤ c.fields = omega (arith, q, h, n, w) in
                rw (set_past ws j x far, set_past ws c.fields y far₁) (sym (set_past ws j x far))
          ])
    ]

byte_set : (b : ℕ) (ws : List ℕ) (c : Cut) (j x : ℕ) → length ws ≡ 16448 → c.fields ≤ cap → (pass_byte b (cuts_of ws c)).cut.fields ≤ j →
    pass_byte b (cuts_of (set ws j x) c) ≡ cuts_of (set (pass_byte b (cuts_of ws c)).words j x) (pass_byte b (cuts_of ws c)).cut
byte_set b ws c j x w l h = by (blank b) refl
  where
    by : (t : Bool) → blank b ≡ t → pass_byte b (cuts_of (set ws j x) c) ≡ cuts_of (set (pass_byte b (cuts_of ws c)).words j x) (pass_byte b (cuts_of ws c)).cut
    by true e =
        let k : closed_count c ≤ j = subst (λ s. s.cut.fields ≤ j) (passes_blank b (cuts_of ws c) e) h in
        rw (passes_blank b (cuts_of (set ws j x) c) e, passes_blank b (cuts_of ws c) e) (ap (λ v. cuts_of v (cut_of (c.at + 1) (c.at + 1) (closed_count c))) (closed_set ws c j x w l k))
    by false e = rw (passes_other b (cuts_of (set ws j x) c) e, passes_other b (cuts_of ws c) e)

all_set : (bs ws : List ℕ) (c : Cut) (j x : ℕ) → length ws ≡ 16448 → c.fields ≤ cap → (pass_all bs (cuts_of ws c)).cut.fields ≤ j →
    pass_all bs (cuts_of (set ws j x) c) ≡ cuts_of (set (pass_all bs (cuts_of ws c)).words j x) (pass_all bs (cuts_of ws c)).cut
unfolding pass_all
all_set [] ws c j x w l h = refl
all_set (b ∷ bs) ws c j x w l h =
    let s = pass_byte b (cuts_of ws c) in
    let y = byte_rises b (cuts_of ws c) l in
    let z = all_rises bs s y.1 in
    ap (pass_all bs) (byte_set b ws c j x w l (omega (arith, z.0, h)))
    ∙ all_set bs s.words s.cut j x (byte_wide b (cuts_of ws c) ∙ w) y.1 h

-- the words ws are as one pass over the front of w leaves them, with c noted so far
abbrev pub Kept : List ℕ → Cut → List ℕ → Type 0
Kept w c ws = (length ws ≡ 16448) × ((seed : List ℕ) × (length seed ≡ 16448) × (cuts_of ws c ≡ pass_all (take c.at w) (cuts_of seed fresh_cut)))

kept_cap : (w : List ℕ) (c : Cut) (ws : List ℕ) → Kept w c ws → c.fields ≤ cap
kept_cap w c ws (l, (seed, r, e)) = subst (λ s. s.cut.fields ≤ cap) (sym e) (all_rises (take c.at w) (cuts_of seed fresh_cut) (omega arith)).1

kept_set : (w : List ℕ) (c : Cut) (ws : List ℕ) (j x : ℕ) → c.fields ≤ j → Kept w c ws → Kept w c (set ws j x)
kept_set w c ws j x h (l, (seed, r, e)) =
    let bs = take c.at w in
    let k : (pass_all bs (cuts_of seed fresh_cut)).cut.fields ≤ j = subst (λ s. s.cut.fields ≤ j) e h in
    (length-set ws j x ∙ l, (set seed j x, length-set seed j x ∙ r, ap (λ s. cuts_of (set s.words j x) s.cut) e ∙ sym (all_set bs seed fresh_cut j x r (omega arith) k)))

kept_closed : (w : List ℕ) (c d : Cut) (ws : List ℕ) → c.fields ≤ d.fields → Kept w c ws → Kept w c (closed_words ws d)
kept_closed w c d ws h k =
    elim (cases_lt d.since d.at) [
      | inl l ↦ rw (words_ended ws d l) (kept_set w c ws d.fields (place_word (from_to d.since d.at)) h k)
      | inr l ↦ rw (words_kept ws d l) k
    ]

kept_byte : (w : List ℕ) (c : Cut) (b : ℕ) (s : Cuts) → c.fields ≤ s.cut.fields → Kept w c s.words → Kept w c (pass_byte b s).words
kept_byte w c b s h k = by (blank b) refl
  where
    by : (t : Bool) → blank b ≡ t → Kept w c (pass_byte b s).words
    by true e = rw (passes_blank b s e) (kept_closed w c s.cut s.words h k)
    by false e = rw (passes_other b s e) k

kept_scan : (w : List ℕ) (c : Cut) (bs : List ℕ) (s : Cuts) → c.fields ≤ s.cut.fields → s.cut.fields ≤ cap → Kept w c s.words → Kept w c (scan_on bs s).cuts.words
unfolding scan_on
kept_scan w c [] s h l k = k
kept_scan w c (b ∷ bs) s h l k =
    by (eqb b 10) (let y = byte_rises b s l in kept_scan w c bs (pass_byte b s) (omega (arith, y.0, h)) y.1 (kept_byte w c b s h k))
  where
    by : (t : Bool) → Kept w c (scan_on bs (pass_byte b s)).cuts.words → Kept w c (pick t (record { found = true; cuts = closed s }) (scan_on bs (pass_byte b s))).cuts.words
    by true r = kept_closed w c s.cut s.words h k
    by false r = r

scan_rises : (bs : List ℕ) (s : Cuts) → s.cut.fields ≤ cap → s.cut.fields ≤ (scan_on bs s).cuts.cut.fields
unfolding scan_on
scan_rises [] s l = le_refl s.cut.fields
scan_rises (b ∷ bs) s l = by (eqb b 10) (let y = byte_rises b s l in omega (arith, y.0, scan_rises bs (pass_byte b s) y.1))
  where
    by : (t : Bool) → s.cut.fields ≤ (scan_on bs (pass_byte b s)).cuts.cut.fields → s.cut.fields ≤ (pick t (record { found = true; cuts = closed s }) (scan_on bs (pass_byte b s))).cuts.cut.fields
    by true r = (closed_rises s.cut l).0
    by false r = r

module _ (w : List ℕ) (p : Parts) (c : Cut) (wide : length p.fields ≡ 16448) (S : ScannedSo w p c) where
  kept_so : Kept w c p.fields
  kept_so = (wide, (S.seed, S.room, S.is))

  so_kept : (ws : List ℕ) → Kept w c ws → ScannedSo w (with_fields p ws) c
  so_kept ws (l, (seed, r, e)) = record { seed = seed; room = r; inside = S.inside; none = S.none; is = e }

  -- after a scan from here, it is still as far as it was
  pub rescan : (bs : List ℕ) → (length (scan_on bs (cuts_of p.fields c)).cuts.words ≡ 16448) × ScannedSo w (with_fields p (scan_on bs (cuts_of p.fields c)).cuts.words) c
  rescan bs =
      let k = kept_scan w c bs (cuts_of p.fields c) (le_refl c.fields) (kept_cap w c p.fields kept_so) kept_so in
      (k.0, so_kept (scan_on bs (cuts_of p.fields c)).cuts.words k)

  -- and after a scan and the end of the last field
  pub rescan_last : (bs : List ℕ) (d : Cut) → (scan_on bs (cuts_of p.fields c)).cuts.cut ≡ d →
      (length (closed_words (scan_on bs (cuts_of p.fields c)).cuts.words d) ≡ 16448) × ScannedSo w (with_fields p (closed_words (scan_on bs (cuts_of p.fields c)).cuts.words d)) c
  rescan_last bs d e =
      let s = (scan_on bs (cuts_of p.fields c)).cuts in
      let k = kept_scan w c bs (cuts_of p.fields c) (le_refl c.fields) (kept_cap w c p.fields kept_so) kept_so in
      let h : c.fields ≤ d.fields = subst (λ y. c.fields ≤ y.fields) e (scan_rises bs (cuts_of p.fields c) (kept_cap w c p.fields kept_so)) in
      let f = kept_closed w c d s.words h k in
      (f.0, so_kept (closed_words s.words d) f)
