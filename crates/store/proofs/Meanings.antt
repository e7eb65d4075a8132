-- Values over a region of texts.
use Rattle.std.proofs.Common.{◌≡◌, ℕ, ◌+◌, ◌*◌, ◌<◌, ◌≤◌, ◌≢◌, ◌⊎◌, List, [], ◌∷◌, ◌++◌, length, get_or, sym, refl, ap, ◌∙◌, subst, inl, inr, arith}
use Rattle.std.proofs.lemmas.Bool.{cases_lt}
use Rattle.language.specs.Text.{text}
use Rattle.store.specs.declared.cells.Value.{Value}
use Rattle.store.specs.declared.cells.Value.TheVariants.{Unset, Number, Text, Short as InShort}
use Rattle.store.specs.Words.{over}
use Rattle.store.specs.Short.{short_of}
use Rattle.store.specs.Space.{Space, Given, handle_of, allocated, written}
use Rattle.store.specs.Model.{occ}
use Rattle.store.specs.Laws.{Texts, changed, Fresh, NoRoom, Crowded, NewByWords}
use Rattle.store.specs.Values.{decode, kind_of, payload_of, worth, held_by, kept, let_go, Made, made, filled}
use Rattle.store.specs.Worth.{meant, Plain, HeldIn, New, NoneNew, NoWords, MakesByWords, ValueLaws}
use Rattle.store.proofs.Basics.{is_same}
use Rattle.store.proofs.Reading.{over_whole}
use Rattle.store.proofs.Shorts.{short_bytes}
use Rattle.store.proofs.Coding.{decode_none, decode_text, number_back, short_back, made_short, made_long}
use Rattle.store.proofs.Faces.{faces, new_by_words, changed_same, changed_other}

back : (v : Value) → Plain v → decode (kind_of v) (payload_of v) ≡ v
back Unset p = decode_none 0 0 (inl (omega arith))
back (Number n) p = number_back n p
back (InShort b) p = short_back b
back (Text h) p = decode_text 2 h.index refl

held_one : (hs : List ℕ) (h : ℕ) → ((k : ℕ) → occ k (h ∷ []) ≤ occ k hs) → 1 ≤ occ h hs
held_one hs h f = omega (arith, f h, is_same h h refl)

module _ (T W : ℕ) where
  means : (s : Space) (hs : List ℕ) (said : ℕ → List ℕ) (v : Value) → Texts T W s hs said → HeldIn hs v → worth W s v ≡ meant said v
  means s hs said Unset t f = refl
  means s hs said (Number n) t f = refl
  means s hs said (InShort b) t f = refl
  means s hs said (Text h) t f = ap text ((faces T W).view s hs said h.index t (held_one hs h.index f))

  keeps : (s : Space) (hs : List ℕ) (said : ℕ → List ℕ) (v : Value) → Texts T W s hs said → HeldIn hs v → length hs + 1 < 18446744073709551616 → Texts T W (kept W s v) (held_by v ++ hs) said
  keeps s hs said Unset t f b = t
  keeps s hs said (Number n) t f b = t
  keeps s hs said (InShort x) t f b = t
  keeps s hs said (Text h) t f b = (faces T W).hold s hs said h.index t (held_one hs h.index f) b

  drops : (s : Space) (hs hs' : List ℕ) (said : ℕ → List ℕ) (v : Value) → Texts T W s hs said → ((k : ℕ) → occ k hs ≡ occ k (held_by v ++ hs')) → Texts T W (let_go T W s v) hs' said
  drops s hs hs' said Unset t f = (faces T W).reorder s hs hs' said t f
  drops s hs hs' said (Number n) t f = (faces T W).reorder s hs hs' said t f
  drops s hs hs' said (InShort x) t f = (faces T W).reorder s hs hs' said t f
  drops s hs hs' said (Text h) t f = (faces T W).release s hs hs' said h.index t f

  -- a longer text, from what was given
  long : (hs : List ℕ) (said : ℕ → List ℕ) (bs : List ℕ) (g : Given) → ((i : ℕ) → get_or bs i 0 < 256) → Fresh T W hs said (length bs) g → New T W hs said bs (filled W g.space g.handle bs)
  long hs said bs g b f =
      let h : ℕ = f.handle in
      let was : ℕ → List ℕ = changed said h f.was in
      let at : was h ≡ f.was = changed_same said h f.was h refl in
      let new : List ℕ = over (was h) 0 bs in
      let e : new ≡ bs = over_whole (was h) bs (ap length at ∙ f.size) in
      let t : Texts T W (written W g.space h 0 bs) (h ∷ hs) (changed was h new)
      = (faces T W).fill g.space (h ∷ hs) was h 0 bs f.texts (omega (arith, is_same h h refl)) (omega (arith, ap length at, f.size)) b in
      subst (λ x. New T W hs said bs (filled W g.space x bs)) (sym f.got) (record {
        value = Text (handle_of h);
        got = refl;
        says = changed was h new;
        texts = t;
        others = λ k l. let ne : k ≢ h = λ p. omega (arith, f.new, ap (λ x. occ x hs) p) in changed_other was h new k ne ∙ changed_other said h f.was k ne;
        means = ap text (changed_same was h new h refl ∙ e);
      })

  none_left : (hs : List ℕ) (said : ℕ → List ℕ) (bs : List ℕ) (g : Given) → NoRoom T W hs said (length bs) g → NoneNew T W hs said bs (filled W g.space g.handle bs)
  none_left hs said bs g n = subst (λ h. NoneNew T W hs said bs (filled W g.space h bs)) (sym n.got) (record { got = refl; full = n.full; texts = n.texts })

  no_words : (hs : List ℕ) (said : ℕ → List ℕ) (bs : List ℕ) (g : Given) → Crowded T W hs said (length bs) g → NoWords T W hs said bs (filled W g.space g.handle bs)
  no_words hs said bs g n = subst (λ h. NoWords T W hs said bs (filled W g.space h bs)) (sym n.got) (record { got = refl; full = n.full; texts = n.texts })

  -- a text by its length: short ones need no room
  made_by : (N : Made → Type 0) (s : Space) (hs : List ℕ) (said : ℕ → List ℕ) (bs : List ℕ) → Texts T W s hs said → ((i : ℕ) → get_or bs i 0 < 256) →
      (New T W hs said bs (filled W (allocated T W s (length bs)).space (allocated T W s (length bs)).handle bs) ⊎ N (filled W (allocated T W s (length bs)).space (allocated T W s (length bs)).handle bs)) →
      New T W hs said bs (made T W s bs) ⊎ N (made T W s bs)
  made_by N s hs said bs t b o =
      elim (cases_lt 8 (length bs)) [
        | inr l ↦ inl (subst (New T W hs said bs) (made_short T W s bs (short_of bs) l refl)
            (record { value = InShort (short_of bs); got = refl; says = said; texts = t; others = λ k m. refl; means = ap text (short_bytes bs l b) }))
        | inl l ↦ subst (λ m. New T W hs said bs m ⊎ N m) (made_long T W s bs (length bs) (allocated T W s (length bs)) refl l refl) o
      ]

  makes : (s : Space) (hs : List ℕ) (said : ℕ → List ℕ) (bs : List ℕ) → Texts T W s hs said → W ≤ 4 * T → ((i : ℕ) → get_or bs i 0 < 256) →
      New T W hs said bs (made T W s bs) ⊎ NoneNew T W hs said bs (made T W s bs)
  makes s hs said bs t w b =
      let g = allocated T W s (length bs) in
      made_by (NoneNew T W hs said bs) s hs said bs t b
      (elim ((faces T W).new s hs said (length bs) t w) [ inl f ↦ inl (long hs said bs g b f) | inr n ↦ inr (none_left hs said bs g n) ])

  pub makes_by_words : MakesByWords T W
  unfolding MakesByWords NewByWords
  makes_by_words s hs said bs t w b =
      let g = allocated T W s (length bs) in
      made_by (NoWords T W hs said bs) s hs said bs t b
      (elim (new_by_words T W s hs said (length bs) t w) [ inl f ↦ inl (long hs said bs g b f) | inr n ↦ inr (no_words hs said bs g n) ])

  pub value_laws : ValueLaws T W
  value_laws = record { back = back; means = means; keeps = keeps; drops = drops; makes = makes }
