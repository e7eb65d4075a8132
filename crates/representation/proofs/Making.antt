-- A new text comes into the hand, and is filled.
use Rattle.std.proofs.Common.{◌≡◌, ℕ, ◌+◌, ◌<◌, ◌≤◌, ◌⊎◌, List, [], ◌∷◌, ◌++◌, length, get_or, ℤ, pos, negsuc, Some, None, sym, refl, ap, ◌∙◌, subst, inl, inr, arith}
use Rattle.std.proofs.lemmas.Bool.{cases_eq, cases_lt}
use Rattle.language.specs.Text
use Rattle.language.specs.Text.{each, text, as_text}
use Rattle.language.specs.Meaning.{Bind}
use Rattle.store.specs.declared.cells.Value.{Value}
use Rattle.store.specs.declared.cells.Value.TheVariants.{Unset, Number, Text as InText, Short as InShort}
use Rattle.store.specs.Words.{over}
use Rattle.store.specs.Numbers.{number}
use Rattle.store.specs.Short.{short_of}
use Rattle.store.specs.Space.{Space, Given, span, handle_of, allocated, written}
use Rattle.store.specs.Model.{occ}
use Rattle.store.specs.Laws.{Texts, changed, spans, NewByWords}
use Rattle.store.specs.Values.{decoded, held_by, Made, made}
use Rattle.store.specs.Worth.{meant, Plain, MakesByWords}
use Rattle.store.proofs.Basics.{occ_append, is_same, is_other}
use Rattle.store.proofs.Coding.{made_short}
use Rattle.store.proofs.Faces.{faces, new_by_words, changed_same, changed_other}
use Rattle.store.proofs.Meanings.{value_laws, makes_by_words}
use Rattle.store.proofs.Reading.{filled}
use Rattle.regions.specs.Parts.{Parts, with_texts}
use Rattle.assembly.specs.Assembly.{Pool}
use Rattle.interp.specs.Turns.{worth_in}
use Rattle.representation.specs.Values.{stacked, holders, Holds}
use Rattle.representation.proofs.Cells.{held_member, meant_same, all_same}
use Rattle.representation.proofs.Moves.{occ_all, occ_hand, first_of, rest_of, retexts}

-- what a value that holds a text stands for
pub held_says : (says : ℕ → List ℕ) (v : Value) (k : ℕ) (bs : List ℕ) → 1 ≤ occ k (held_by v) → meant says v ≡ text bs → says k ≡ bs
unfolding as_text
held_says says Unset k bs l e = absurd (omega arith)
held_says says (Number z) k bs l e = absurd (omega arith)
held_says says (InShort b) k bs l e = absurd (omega arith)
held_says says (InText h) k bs l e =
    elim (cases_eq k h.index) [
      | inl q ↦ rw q (ap as_text e)
      | inr q ↦ absurd (omega (arith, is_other k h.index q))
    ]

abbrev Textual : Text.Value → Type 0
Textual (Text.plus k) = ⊥
Textual (Text.minus k) = ⊥
Textual (text c) = Unit {0}

number_not_text : (z : ℤ) (b : List ℕ) → number z ≡ text b → ⊥
number_not_text (pos k) b e = subst Textual (sym e) tt
number_not_text (negsuc k) b e = subst Textual (sym e) tt

text_plain : (says : ℕ → List ℕ) (v : Value) (b : List ℕ) → meant says v ≡ text b → Plain v
text_plain says Unset b e = tt
text_plain says (Number z) b e = absurd (number_not_text z b e)
text_plain says (InShort c) b e = tt
text_plain says (InText h) b e = tt

-- a text that lies in the heap is no short one
long_made : (x : Space) (b : List ℕ) (v : Value) (k : ℕ) → (made 20480 77822 x b).value ≡ Some v → 1 ≤ occ k (held_by v) → 9 ≤ length b
long_made x b v k e l =
    elim (cases_lt 8 (length b)) [
      | inl a ↦ a
      | inr a ↦
          let q : Some (InShort (short_of b)) ≡ Some v = ap (λ y. y.value) (made_short 20480 77822 x b (short_of b) a refl) ∙ e in
          let z : InShort (short_of b) ≡ v = cc in
          absurd (omega (arith, subst (λ y. 1 ≤ occ k (held_by y)) (sym z) l))
    ]

module _ {π : Pool} {hand : List Value} {ws : List Text.Value} {m : Parts} {n : ℕ} {us : List Text.Value} {bs : List Bind} where
  -- what memory has for a value that is held is what it stands for
  pub worth_held : (H : Holds π hand ws m n us bs) (v : Value) → ((k : ℕ) → occ k (held_by v) ≤ occ k (holders hand m n (length π))) → worth_in m v ≡ meant H.said v
  worth_held H v f = (value_laws 20480 77822).means m.texts (holders hand m n (length π)) H.said v H.texts f

  -- other texts with a new holder
  with_new : (H : Holds π hand ws m n us bs) (v : Value) (w : Text.Value) (x : Space) (says : ℕ → List ℕ) → Texts 20480 77822 x (held_by v ++ holders hand m n (length π)) says →
      ((k : ℕ) → 1 ≤ occ k (holders hand m n (length π)) → says k ≡ H.said k) → ((k : ℕ) → 1 ≤ occ k (held_by v) → 9 ≤ length (says k)) → meant says v ≡ w →
      Holds π (v ∷ hand) (w ∷ ws) (with_texts m x) n us bs
  with_new H v w x says t e f q =
      let hs = holders hand m n (length π) in
      let o : (k : ℕ) → occ k (held_by v ++ hs) ≡ occ k (holders (v ∷ hand) m n (length π))
      = λ k. omega (arith, occ_append k (held_by v) hs, occ_all k (v ∷ hand) m n (length π), occ_all k hand m n (length π), occ_hand k v hand) in
      record {
        said = says;
        texts = (faces 20480 77822).reorder x (held_by v ++ hs) (holders (v ∷ hand) m n (length π)) says t o;
        long = λ k l. elim (cases_lt 0 (occ k hs)) [
          | inl a ↦ subst (λ b. 9 ≤ length b) (sym (e k a)) (H.long k a)
          | inr a ↦ f k (omega (arith, o k, occ_append k (held_by v) hs))
        ];
        in_hand = rw (q, all_same H.said says hand (λ k l. e k (omega (arith, occ_all k hand m n (length π))))) (rw H.in_hand);
        on_stack = all_same H.said says (stacked m n) (λ k l. e k (omega (arith, occ_all k hand m n (length π)))) ∙ H.on_stack;
        in_slots = λ i l. meant_same H.said says (get_or (decoded m.slots) i Unset) (λ k z. e k (omega (arith, occ_all k hand m n (length π), held_member k (decoded m.slots) (length π) i l)))
            ∙ H.in_slots i l;
        stack_wide = H.stack_wide;
        slots_wide = H.slots_wide;
        deep = H.deep;
        few = H.few;
      }

  -- what comes of making a text: it is in the hand, or it would need more words than there are
  pub record MadeSo (H : Holds π hand ws m n us bs) (b : List ℕ) (x : Made) : Type 0 where
    pub value : Value
    pub got : x.value ≡ Some value
    pub plain : Plain value
    pub holds : Holds π (value ∷ hand) (text b ∷ ws) (with_texts m x.space) n us bs

  pub record Unmade (H : Holds π hand ws m n us bs) (b : List ℕ) (x : Made) : Type 0 where
    pub got : x.value ≡ None
    pub full : 77822 < spans H.said (holders hand m n (length π)) + span (length b)
    pub holds : Holds π hand ws (with_texts m x.space) n us bs

  -- a text of some bytes
  pub makes : (H : Holds π hand ws m n us bs) (b : List ℕ) → ((i : ℕ) → get_or b i 0 < 256) →
      MadeSo H b (made 20480 77822 m.texts b) ⊎ Unmade H b (made 20480 77822 m.texts b)
  unfolding MakesByWords
  makes H b f =
      let hs = holders hand m n (length π) in
      elim (makes_by_words 20480 77822 m.texts hs H.said b H.texts (omega arith) f) [
        | inr z ↦ inr (record { got = z.got; full = z.full; holds = retexts H (made 20480 77822 m.texts b).space H.said z.texts (λ k l. refl) })
        | inl z ↦ inl (record {
          value = z.value;
          got = z.got;
          plain = text_plain z.says z.value b z.means;
          holds = with_new H z.value (text b) (made 20480 77822 m.texts b).space z.says z.texts z.others
              (λ k l. rw (held_says z.says z.value k b l z.means) (long_made m.texts b z.value k z.got l)) z.means;
        })
      ]

  -- a new text of so many bytes, which are yet to be written, has one holder
  pub record Taken (H : Holds π hand ws m n us bs) (size : ℕ) (x : Given) : Type 0 where
    pub handle : ℕ
    pub got : x.handle ≡ Some (handle_of handle)
    pub alone : occ handle (holders hand m n (length π)) ≡ 0
    pub was : List ℕ
    pub size_is : length was ≡ size
    pub holds : Holds π (InText (handle_of handle) ∷ hand) (text was ∷ ws) (with_texts m x.space) n us bs

  pub record Untaken (H : Holds π hand ws m n us bs) (size : ℕ) (x : Given) : Type 0 where
    pub got : x.handle ≡ None
    pub full : 77822 < spans H.said (holders hand m n (length π)) + span size
    pub holds : Holds π hand ws (with_texts m x.space) n us bs

  pub takes_new : (H : Holds π hand ws m n us bs) (size : ℕ) → 9 ≤ size → Taken H size (allocated 20480 77822 m.texts size) ⊎ Untaken H size (allocated 20480 77822 m.texts size)
  unfolding NewByWords
  takes_new H size l =
      let hs = holders hand m n (length π) in
      elim (new_by_words 20480 77822 m.texts hs H.said size H.texts (omega arith)) [
        | inr z ↦ inr (record { got = z.got; full = z.full; holds = retexts H (allocated 20480 77822 m.texts size).space H.said z.texts (λ k l. refl) })
        | inl z ↦
            let h : ℕ = z.handle in
            let says : ℕ → List ℕ = changed H.said h z.was in
            let here : says h ≡ z.was = changed_same H.said h z.was h refl in
            inl (record {
              handle = h;
              got = z.got;
              alone = z.new;
              was = z.was;
              size_is = z.size;
              holds = with_new H (InText (handle_of h)) (text z.was) (allocated 20480 77822 m.texts size).space says z.texts
                  (λ k a. changed_other H.said h z.was k (λ q. omega (arith, z.new, ap (λ y. occ y hs) q)))
                  (λ k a. rw (held_says says (InText (handle_of h)) k z.was a (ap text here)) (omega (arith, z.size))) (ap text here);
            })
      ]

  -- bytes written into a text that only the hand holds
  pub fills : (h at : ℕ) (b q : List ℕ) → occ h (holders hand m n (length π)) ≡ 0 → at + length q ≤ length b → ((i : ℕ) → get_or q i 0 < 256) →
      Holds π (InText (handle_of h) ∷ hand) (text b ∷ ws) m n us bs →
      Holds π (InText (handle_of h) ∷ hand) (text (over b at q) ∷ ws) (with_texts m (written 77822 m.texts h at q)) n us bs
  fills h at b q z l f H =
      let all = holders (InText (handle_of h) ∷ hand) m n (length π) in
      let o : (k : ℕ) → occ k all ≡ occ k (h ∷ []) + occ k (holders hand m n (length π))
      = λ k. omega (arith, occ_all k (InText (handle_of h) ∷ hand) m n (length π), occ_all k hand m n (length π), occ_hand k (InText (handle_of h)) hand) in
      let here : H.said h ≡ b = held_says H.said (InText (handle_of h)) h b (omega (arith, is_same h h refl)) (ap first_of H.in_hand) in
      let says : ℕ → List ℕ = changed H.said h (over (H.said h) at q) in
      let there : says h ≡ over b at q = changed_same H.said h (over (H.said h) at q) h refl ∙ ap (λ y. over y at q) here in
      let t : Texts 20480 77822 (written 77822 m.texts h at q) all says
      = (faces 20480 77822).fill m.texts all H.said h at q H.texts (omega (arith, o h, is_same h h refl)) (omega (arith, ap length here)) f in
      let other : (k : ℕ) → 1 ≤ occ k (holders hand m n (length π)) → says k ≡ H.said k
      = λ k a. changed_other H.said h (over (H.said h) at q) k (λ y. omega (arith, z, ap (λ j. occ j (holders hand m n (length π))) y)) in
      record {
        said = says;
        texts = t;
        long = λ k a. elim (cases_eq k h) [
          | inl e ↦ rw (e, there) (omega (arith, filled.keeps b at q, ap length here, H.long h (omega (arith, o h, is_same h h refl))))
          | inr e ↦ rw (changed_other H.said h (over (H.said h) at q) k e) (H.long k a)
        ];
        in_hand = rw (there, all_same H.said says hand (λ k a. other k (omega (arith, occ_all k hand m n (length π))))) (rw (ap rest_of H.in_hand));
        on_stack = all_same H.said says (stacked m n) (λ k a. other k (omega (arith, occ_all k hand m n (length π)))) ∙ H.on_stack;
        in_slots = λ i a. meant_same H.said says (get_or (decoded m.slots) i Unset) (λ k y. other k (omega (arith, occ_all k hand m n (length π), held_member k (decoded m.slots) (length π) i a)))
            ∙ H.in_slots i a;
        stack_wide = H.stack_wide;
        slots_wide = H.slots_wide;
        deep = H.deep;
        few = H.few;
      }
