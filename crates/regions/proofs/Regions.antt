-- A region that was lent and changed, seen through the record of regions: that region is what it became, and the others are as they were.
use Rattle.std.proofs.Common.{◌≡◌, ℕ, ◌+◌, ◌-◌, ◌≤◌, Bool, true, false, leb, List, [], ◌∷◌, ◌++◌, length, take, drop, sym, refl, ap, ◌∙◌, arith, length-drop, take-append-drop, length-take-le, take_all, drop-drop}
use borrow.Rule.Slice.PartMut.{put_mid}
use Rattle.std.proofs.lemmas.Bool.{leb-true}
use Rattle.std.proofs.lemmas.Slice.{between-put_mid, between_is, take-put_mid_below, drop-put_mid}
use Rattle.language.specs.Text.{or}
use Rattle.store.specs.Space.{Space, space, region}
use Rattle.regions.specs.Parts.{Parts, part, parts, words_of, joined, with_registers, with_code, with_slots, with_stack, with_fields, with_lines, with_texts}

pub part_same : (a k : ℕ) (m s : List ℕ) → a ≤ length m → length s ≡ k → part a k (put_mid a k m s) ≡ s
part_same a k m s h l =
    let e : (a + k) - a ≡ k = omega arith in
    let f : length s ≡ (a + k) - a = omega arith in
    rw e at (between-put_mid a k m s (a + k) h f)

part_before : (a k b j : ℕ) (m s : List ℕ) → a + k ≤ b → b ≤ length m → part a k (put_mid b j m s) ≡ part a k m
part_before a k b j m s h l =
    let e : (a + k) - a ≡ k = omega arith in
    let x : part a k (put_mid b j m s) ≡ drop a (take (a + k) (put_mid b j m s)) = rw e at (between_is (put_mid b j m s) a (a + k)) in
    let y : part a k m ≡ drop a (take (a + k) m) = rw e at (between_is m a (a + k)) in
    x ∙ ap (drop a) (take-put_mid_below b j m s (a + k) h l) ∙ sym y

part_after : (a k b j : ℕ) (m s : List ℕ) → b + j ≤ a → b ≤ length m → length s ≡ j → part a k (put_mid b j m s) ≡ part a k m
part_after a k b j m s h l e = ap (take k) (drop-put_mid b j m s a h l e)

-- a part that lies before or behind what was lent; where the bounds are numerals, the test is computed
pub part_other : (a k : ℕ) (m s : List ℕ) → a ≤ length m → length s ≡ k → (b c : ℕ) → or (leb (b + c) a) (leb (a + k) b) ≡ true → part b c (put_mid a k m s) ≡ part b c m
part_other a k m s l e b c t = by (leb (b + c) a) refl t
  where
    by : (v : Bool) → leb (b + c) a ≡ v → or v (leb (a + k) b) ≡ true → part b c (put_mid a k m s) ≡ part b c m
    by true h i = part_before b c a k m s (leb-true (b + c) a h) l
    by false h i = part_after b c a k m s (leb-true (a + k) b i) l e

same_parts : {a a₁ b b₁ c c₁ d d₁ e e₁ f f₁ h h₁ : List ℕ} {g g₁ : Space} → a ≡ a₁ → b ≡ b₁ → c ≡ c₁ → d ≡ d₁ → e ≡ e₁ → f ≡ f₁ → g ≡ g₁ → h ≡ h₁ →
    ◌≡◌ {A = Parts} (record { registers = a; code = b; slots = c; stack = d; fields = e; lines = f; texts = g; rest = h })
    (record { registers = a₁; code = b₁; slots = c₁; stack = d₁; fields = e₁; lines = f₁; texts = g₁; rest = h₁ })
same_parts a₂ b₂ c₂ d₂ e₂ f₂ g₂ h₂ = cc

pub part_length : (a k : ℕ) (m : List ℕ) → a + k ≤ length m → length (part a k m) ≡ k
part_length a k m h = let e : k ≤ length (drop a m) = simp length-drop (omega arith) in length-take-le k (drop a m) e

-- each region in turn: it has become x
pub parts_registers : (m s : List ℕ) → length m ≡ 262144 → length s ≡ 64 → parts (put_mid 0 64 m s) ≡ with_registers (parts m) s
unfolding parts
parts_registers m s l e =
    let o = part_other 0 64 m s (omega arith) e in
    same_parts (part_same 0 64 m s (omega arith) e) (o 64 12352 refl) (o 12416 8192 refl) (o 20608 32832 refl) (o 53440 16448 refl) (o 69888 25088 refl) (ap region (o 94976 98304 refl)) (o 193280 68864 refl)

pub parts_code : (m s x : List ℕ) → length m ≡ 262144 → length s ≡ length (part 64 12352 m) → s ≡ x → parts (put_mid 64 12352 m s) ≡ with_code (parts m) x
unfolding parts
parts_code m s x l h p =
    let e : length s ≡ 12352 = h ∙ part_length 64 12352 m (omega arith) in
    let o = part_other 64 12352 m s (omega arith) e in
    same_parts (o 0 64 refl) (part_same 64 12352 m s (omega arith) e ∙ p) (o 12416 8192 refl) (o 20608 32832 refl) (o 53440 16448 refl) (o 69888 25088 refl) (ap region (o 94976 98304 refl)) (o 193280 68864 refl)

pub parts_slots : (m s x : List ℕ) → length m ≡ 262144 → length s ≡ length (part 12416 8192 m) → s ≡ x → parts (put_mid 12416 8192 m s) ≡ with_slots (parts m) x
unfolding parts
parts_slots m s x l h p =
    let e : length s ≡ 8192 = h ∙ part_length 12416 8192 m (omega arith) in
    let o = part_other 12416 8192 m s (omega arith) e in
    same_parts (o 0 64 refl) (o 64 12352 refl) (part_same 12416 8192 m s (omega arith) e ∙ p) (o 20608 32832 refl) (o 53440 16448 refl) (o 69888 25088 refl) (ap region (o 94976 98304 refl)) (o 193280 68864 refl)

pub parts_stack : (m s x : List ℕ) → length m ≡ 262144 → length s ≡ length (part 20608 32832 m) → s ≡ x → parts (put_mid 20608 32832 m s) ≡ with_stack (parts m) x
unfolding parts
parts_stack m s x l h p =
    let e : length s ≡ 32832 = h ∙ part_length 20608 32832 m (omega arith) in
    let o = part_other 20608 32832 m s (omega arith) e in
    same_parts (o 0 64 refl) (o 64 12352 refl) (o 12416 8192 refl) (part_same 20608 32832 m s (omega arith) e ∙ p) (o 53440 16448 refl) (o 69888 25088 refl) (ap region (o 94976 98304 refl)) (o 193280 68864 refl)

pub parts_fields : (m s x : List ℕ) → length m ≡ 262144 → length s ≡ length (part 53440 16448 m) → s ≡ x → parts (put_mid 53440 16448 m s) ≡ with_fields (parts m) x
unfolding parts
parts_fields m s x l h p =
    let e : length s ≡ 16448 = h ∙ part_length 53440 16448 m (omega arith) in
    let o = part_other 53440 16448 m s (omega arith) e in
    same_parts (o 0 64 refl) (o 64 12352 refl) (o 12416 8192 refl) (o 20608 32832 refl) (part_same 53440 16448 m s (omega arith) e ∙ p) (o 69888 25088 refl) (ap region (o 94976 98304 refl)) (o 193280 68864 refl)

pub parts_lines : (m s x : List ℕ) → length m ≡ 262144 → length s ≡ length (part 69888 25088 m) → s ≡ x → parts (put_mid 69888 25088 m s) ≡ with_lines (parts m) x
unfolding parts
parts_lines m s x l h p =
    let e : length s ≡ 25088 = h ∙ part_length 69888 25088 m (omega arith) in
    let o = part_other 69888 25088 m s (omega arith) e in
    same_parts (o 0 64 refl) (o 64 12352 refl) (o 12416 8192 refl) (o 20608 32832 refl) (o 53440 16448 refl) (part_same 69888 25088 m s (omega arith) e ∙ p) (ap region (o 94976 98304 refl)) (o 193280 68864 refl)

pub parts_texts : (m s : List ℕ) (x : Space) → length m ≡ 262144 → length s ≡ length (part 94976 98304 m) → region s ≡ x → parts (put_mid 94976 98304 m s) ≡ with_texts (parts m) x
unfolding parts
parts_texts m s x l h p =
    let e : length s ≡ 98304 = h ∙ part_length 94976 98304 m (omega arith) in
    let o = part_other 94976 98304 m s (omega arith) e in
    same_parts (o 0 64 refl) (o 64 12352 refl) (o 12416 8192 refl) (o 20608 32832 refl) (o 53440 16448 refl) (o 69888 25088 refl) (ap region (part_same 94976 98304 m s (omega arith) e) ∙ p) (o 193280 68864 refl)

-- a part and what comes after it
pub next_part : (a k b : ℕ) (m : List ℕ) → a + k ≡ b → part a k m ++ drop b m ≡ drop a m
next_part a k b m e = rw (← e, ← drop-drop k a m) (take-append-drop k (drop a m))

pub last_part : (a k : ℕ) (m : List ℕ) → length m ≡ a + k → part a k m ≡ drop a m
last_part a k m e = let h : length (drop a m) ≤ k = simp length-drop (omega arith) in take_all k (drop a m) h

-- a region of texts is its words
pub texts_words : (ws : List ℕ) → 2 ≤ length ws → words_of (region ws) ≡ ws
unfolding space
texts_words [] h = absurd (omega arith)
texts_words (a ∷ []) h = absurd (omega arith)
texts_words (a ∷ b ∷ ws) h = ap (λ z. a ∷ b ∷ z) (take-append-drop 20480 ws)

pub joined_parts : (m : List ℕ) → length m ≡ 262144 → joined (parts m) ≡ m
unfolding parts joined
joined_parts m e =
    ap (λ x. part 0 64 m ++ (part 64 12352 m ++ (part 12416 8192 m ++ (part 20608 32832 m ++ (part 53440 16448 m ++ (part 69888 25088 m ++ (x ++ part 193280 68864 m)))))))
    (texts_words (part 94976 98304 m) (omega (arith, part_length 94976 98304 m (omega arith))))
    ∙ ap (λ x. part 0 64 m ++ (part 64 12352 m ++ (part 12416 8192 m ++ (part 20608 32832 m ++ (part 53440 16448 m ++ (part 69888 25088 m ++ (part 94976 98304 m ++ x))))))) (last_part 193280 68864 m e)
    ∙ ap (λ x. part 0 64 m ++ (part 64 12352 m ++ (part 12416 8192 m ++ (part 20608 32832 m ++ (part 53440 16448 m ++ (part 69888 25088 m ++ x)))))) (next_part 94976 98304 193280 m refl)
    ∙ ap (λ x. part 0 64 m ++ (part 64 12352 m ++ (part 12416 8192 m ++ (part 20608 32832 m ++ (part 53440 16448 m ++ x))))) (next_part 69888 25088 94976 m refl)
    ∙ ap (λ x. part 0 64 m ++ (part 64 12352 m ++ (part 12416 8192 m ++ (part 20608 32832 m ++ x)))) (next_part 53440 16448 69888 m refl)
    ∙ ap (λ x. part 0 64 m ++ (part 64 12352 m ++ (part 12416 8192 m ++ x))) (next_part 20608 32832 53440 m refl)
    ∙ ap (λ x. part 0 64 m ++ (part 64 12352 m ++ x)) (next_part 12416 8192 20608 m refl)
    ∙ ap (λ x. part 0 64 m ++ x) (next_part 64 12352 12416 m refl)
    ∙ next_part 0 64 64 m refl

pub fields_length : (m : List ℕ) → length m ≡ 262144 → length (parts m).fields ≡ 16448
unfolding parts
fields_length m e = part_length 53440 16448 m (omega arith)

pub lines_length : (m : List ℕ) → length m ≡ 262144 → length (parts m).lines ≡ 25088
unfolding parts
lines_length m e = part_length 69888 25088 m (omega arith)
