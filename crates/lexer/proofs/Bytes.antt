-- Tokens by what they begin with.
use Rattle.std.proofs.Common.{◌≡◌, ℕ, zero, suc, ◌+◌, ◌-◌, ◌<◌, ◌≤◌, Bool, true, false, ◌&&◌, eqb, leb, List, [], ◌∷◌, length, get_or, take, drop, Some, sym, refl, ap, ◌∙◌, ap₂, arith, eqb-true, le-leb, leb-false, leb-true}
use Rattle.std.proofs.lemmas.List.{drop_more, drop_all, drop-drop, get_or-drop}
use Rattle.std.specs.List.{prefix_len}
use borrow.Author.Tests.{lt-leb, eqb-false}
use Rattle.lexer.proofs.Picks.{picked, left_out}
use Rattle.lexer.proofs.Words.{digits_length}
use Rattle.lexer.proofs.Numbers.{leading_digits}
use Rattle.language.specs.Text.{pick, or, any, every, digit, leading}
use Rattle.language.specs.Program.{word, number, quoted, sign, bad, tokens, gap, letter, word_part, after_word, digits_part, past_digits, past_line, quote_part, quote_ends, past_quote, pair_sign, a_sign, less_one}
use Rattle.lexer.specs.Ends.{pair_of, sign_of, QuoteEnded}
use Rattle.lexer.specs.Classes.{class_of}
use Rattle.lexer.specs.declared.tokens.Class.{Class}
use Rattle.lexer.specs.declared.tokens.Class.TheVariants.{Gap, Comment, Letter, Digit, Quote, Other}

abbrev choose : {A : Type 0} → Class → A → A → A → A → A → A → A
choose Gap a b c d e f = a
choose Comment a b c d e f = b
choose Letter a b c d e f = c
choose Digit a b c d e f = d
choose Quote a b c d e f = e
choose Other a b c d e f = f

chosen : {A : Type 0} (g h l d q : Bool) (a b c s e f : A) →
    pick g a (pick h b (pick l c (pick d s (pick q e f)))) ≡ choose (pick g Gap (pick h Comment (pick l Letter (pick d Digit (pick q Quote Other))))) a b c s e f
chosen true h l d q a b c s e f = refl
chosen false true l d q a b c s e f = refl
chosen false false true d q a b c s e f = refl
chosen false false false true q a b c s e f = refl
chosen false false false false true a b c s e f = refl
chosen false false false false false a b c s e f = refl

chosen_as : {A : Type 0} (g h l d q : Bool) (k : Class) (a b c s e f : A) → pick g Gap (pick h Comment (pick l Letter (pick d Digit (pick q Quote Other)))) ≡ k →
    pick g a (pick h b (pick l c (pick d s (pick q e f)))) ≡ choose k a b c s e f
chosen_as g h l d q k a b c s e f t = chosen g h l d q a b c s e f ∙ ap (λ x. choose x a b c s e f) t

-- the tokens from a byte of some class on
by_class : (m c : ℕ) (cs : List ℕ) (k : Class) → class_of c ≡ k → tokens (suc m) (c ∷ cs) ≡
    choose k (tokens m cs) (tokens m (past_line cs)) (word (word_part (c ∷ cs)) ∷ tokens m (after_word cs))
    (pick (leb (length (digits_part (c ∷ cs))) 18) (number (leading 0 (c ∷ cs)) ∷ tokens m (past_digits cs)) (bad ∷ []))
    (pick (quote_ends cs) (quoted (quote_part cs) ∷ tokens m (past_quote cs)) (bad ∷ []))
    (pick (eqb (pair_sign c cs) 0) (pick (a_sign c) (sign c ∷ tokens m cs) (bad ∷ [])) (sign (pair_sign c cs) ∷ tokens m (less_one cs)))
unfolding tokens
by_class m c cs k e = chosen_as (gap c) (eqb c 35) (letter c) (digit c) (eqb c 34) k _ _ _ _ _ _ e

-- which test holds of a class
is_letter : (g h l d q : Bool) → pick g Gap (pick h Comment (pick l Letter (pick d Digit (pick q Quote Other)))) ≡ Letter → l ≡ true
is_letter g h true d q e = refl
is_letter true h false d q e = let z : ◌≡◌ {A = ℕ} 0 1 = cc in absurd (omega arith)
is_letter false true false d q e = let z : ◌≡◌ {A = ℕ} 0 1 = cc in absurd (omega arith)
is_letter false false false true q e = let z : ◌≡◌ {A = ℕ} 0 1 = cc in absurd (omega arith)
is_letter false false false false true e = let z : ◌≡◌ {A = ℕ} 0 1 = cc in absurd (omega arith)
is_letter false false false false false e = let z : ◌≡◌ {A = ℕ} 0 1 = cc in absurd (omega arith)

is_digit : (g h l d q : Bool) → pick g Gap (pick h Comment (pick l Letter (pick d Digit (pick q Quote Other)))) ≡ Digit → d ≡ true
is_digit g h l true q e = refl
is_digit true h l false q e = let z : ◌≡◌ {A = ℕ} 0 1 = cc in absurd (omega arith)
is_digit false true l false q e = let z : ◌≡◌ {A = ℕ} 0 1 = cc in absurd (omega arith)
is_digit false false true false q e = let z : ◌≡◌ {A = ℕ} 0 1 = cc in absurd (omega arith)
is_digit false false false false true e = let z : ◌≡◌ {A = ℕ} 0 1 = cc in absurd (omega arith)
is_digit false false false false false e = let z : ◌≡◌ {A = ℕ} 0 1 = cc in absurd (omega arith)

pub gap_piece : (bs : List ℕ) (i m : ℕ) → i < length bs → class_of (get_or bs i 0) ≡ Gap → tokens (suc m) (drop i bs) ≡ tokens m (drop (i + 1) bs)
gap_piece bs i m h e = ap (λ l. tokens (suc m) l) (drop_more bs i 0 h) ∙ by_class m (get_or bs i 0) (drop (i + 1) bs) Gap e

pub comment_piece : (bs : List ℕ) (i m r : ℕ) → i < length bs → class_of (get_or bs i 0) ≡ Comment → drop r bs ≡ past_line (drop (i + 1) bs) → tokens (suc m) (drop i bs) ≡ tokens m (drop r bs)
comment_piece bs i m r h e p =
    ap (λ l. tokens (suc m) l) (drop_more bs i 0 h) ∙ by_class m (get_or bs i 0) (drop (i + 1) bs) Comment e ∙ ap (λ l. tokens m l) (sym p)

word_take : (cs : List ℕ) → word_part cs ≡ take (length (word_part cs)) cs
unfolding word_part
word_take [] = refl
word_take (c ∷ cs) = go (or (letter c) (digit c)) (word_take cs)
  where
    go : (b : Bool) → word_part cs ≡ take (length (word_part cs)) cs → pick b (c ∷ word_part cs) [] ≡ take (length (pick b (c ∷ word_part cs) [])) (c ∷ cs)
    go true h = ap (λ l. c ∷ l) h
    go false h = refl

word_drop : (cs : List ℕ) → after_word cs ≡ drop (length (word_part cs)) cs
unfolding word_part after_word
word_drop [] = refl
word_drop (c ∷ cs) = go (or (letter c) (digit c)) (word_drop cs)
  where
    go : (b : Bool) → after_word cs ≡ drop (length (word_part cs)) cs → pick b (after_word cs) (c ∷ cs) ≡ drop (length (pick b (c ∷ word_part cs) [])) (c ∷ cs)
    go true h = h
    go false h = refl

digits_drop : (cs : List ℕ) → past_digits cs ≡ drop (length (digits_part cs)) cs
unfolding digits_part past_digits
digits_drop [] = refl
digits_drop (c ∷ cs) = go (digit c) (digits_drop cs)
  where
    go : (b : Bool) → past_digits cs ≡ drop (length (digits_part cs)) cs → pick b (past_digits cs) (c ∷ cs) ≡ drop (length (pick b (c ∷ digits_part cs) [])) (c ∷ cs)
    go true h = h
    go false h = refl

pub word_piece : (bs : List ℕ) (i m to : ℕ) → i < length bs → class_of (get_or bs i 0) ≡ Letter → to ≡ i + 1 + length (word_part (drop (i + 1) bs)) → tokens (suc m) (drop i bs) ≡ word (take (to - i) (drop i bs)) ∷ tokens m (drop to bs)
unfolding word_part
word_piece bs i m to h e q =
    let c : ℕ = get_or bs i 0 in
    let cs : List ℕ = drop (i + 1) bs in
    let d : drop i bs ≡ c ∷ cs = drop_more bs i 0 h in
    let t : letter c ≡ true = is_letter (gap c) (eqb c 35) (letter c) (digit c) (eqb c 34) e in
    let w : word_part (c ∷ cs) ≡ c ∷ word_part cs = ap (λ b. pick (or b (digit c)) (c ∷ word_part cs) []) t in
    let n : suc (length (word_part cs)) ≡ to - i = omega arith in
    let a : after_word cs ≡ drop to bs = word_drop cs ∙ drop-drop (length (word_part cs)) (i + 1) bs ∙ ap (λ k. drop k bs) (sym q) in
    ap (λ l. tokens (suc m) l) d ∙ by_class m c cs Letter e
    ∙ ap₂ (λ x y. word x ∷ tokens m y) (w ∙ ap (λ l. c ∷ l) (word_take cs) ∙ ap₂ (λ k l. take k l) n (sym d)) a

-- what a digit begins: so many digits, of which at most 18 are a number
pub number_piece : (bs : List ℕ) (i m n : ℕ) → i < length bs → class_of (get_or bs i 0) ≡ Digit → n ≡ prefix_len digit (drop i bs) →
    (0 < n) × (tokens (suc m) (drop i bs) ≡ pick (leb n 18) (number (leading 0 (drop i bs)) ∷ tokens m (drop (i + n) bs)) (bad ∷ []))
unfolding digits_part
number_piece bs i m n h e q =
    let c : ℕ = get_or bs i 0 in
    let cs : List ℕ = drop (i + 1) bs in
    let d : drop i bs ≡ c ∷ cs = drop_more bs i 0 h in
    let t : digit c ≡ true = is_digit (gap c) (eqb c 35) (letter c) (digit c) (eqb c 34) e in
    let w : digits_part (c ∷ cs) ≡ c ∷ digits_part cs = ap (λ b. pick b (c ∷ digits_part cs) []) t in
    let l : length (digits_part (c ∷ cs)) ≡ n = ap (λ l. length (digits_part l)) (sym d) ∙ digits_length (drop i bs) ∙ sym q in
    let f : i + 1 + length (digits_part cs) ≡ i + n = omega (arith, ap length w) in
    let a : past_digits cs ≡ drop (i + n) bs = digits_drop cs ∙ drop-drop (length (digits_part cs)) (i + 1) bs ∙ ap (λ k. drop k bs) f in (
      omega (arith, ap length w),
      ap (λ l. tokens (suc m) l) d ∙ by_class m c cs Digit e ∙ ap (λ k. pick (leb k 18) (number (leading 0 (c ∷ cs)) ∷ tokens m (past_digits cs)) (bad ∷ [])) l
          ∙ ap₂ (λ x y. pick (leb n 18) (number x ∷ tokens m y) (bad ∷ [])) (ap (λ l. leading 0 l) (sym d)) a,
    )

pub short_number : (bs : List ℕ) (i m n v : ℕ) → i < length bs → class_of (get_or bs i 0) ≡ Digit → n ≡ prefix_len digit (drop i bs) → n ≤ 18 → v ≡ leading 0 (take n (drop i bs)) →
    tokens (suc m) (drop i bs) ≡ number v ∷ tokens m (drop (i + n) bs)
short_number bs i m n v h e q k f =
    let l : v ≡ leading 0 (drop i bs) = f ∙ ap (λ k. leading 0 (take k (drop i bs))) q ∙ leading_digits 0 (drop i bs) in
    (number_piece bs i m n h e q).1 ∙ picked (leb n 18) _ _ (le-leb n 18 k) ∙ ap (λ x. number x ∷ tokens m (drop (i + n) bs)) (sym l)

pub long_number : (bs : List ℕ) (i m n : ℕ) → i < length bs → class_of (get_or bs i 0) ≡ Digit → n ≡ prefix_len digit (drop i bs) → 18 < n → tokens (suc m) (drop i bs) ≡ bad ∷ []
long_number bs i m n h e q k = (number_piece bs i m n h e q).1 ∙ left_out (leb n 18) _ _ (lt-leb n 18 k)

pub open_piece : (bs : List ℕ) (i m : ℕ) → i < length bs → class_of (get_or bs i 0) ≡ Quote → quote_ends (drop (i + 1) bs) ≡ false → tokens (suc m) (drop i bs) ≡ bad ∷ []
open_piece bs i m h e q =
    let c : ℕ = get_or bs i 0 in
    let cs : List ℕ = drop (i + 1) bs in
    let d : drop i bs ≡ c ∷ cs = drop_more bs i 0 h in
    ap (λ l. tokens (suc m) l) d ∙ by_class m c cs Quote e ∙ ap (λ b. pick b (quoted (quote_part cs) ∷ tokens m (past_quote cs)) (bad ∷ [])) q

pub quote_piece : (bs : List ℕ) (i m r : ℕ) → i < length bs → class_of (get_or bs i 0) ≡ Quote → QuoteEnded bs (i + 1) (Some r) → tokens (suc m) (drop i bs) ≡ quoted (quote_part (drop (i + 1) bs)) ∷ tokens m (drop r bs)
quote_piece bs i m r h e q =
    let c : ℕ = get_or bs i 0 in
    let cs : List ℕ = drop (i + 1) bs in
    ap (λ l. tokens (suc m) l) (drop_more bs i 0 h) ∙ by_class m c cs Quote e ∙ ap (λ b. pick b (quoted (quote_part cs) ∷ tokens m (past_quote cs)) (bad ∷ [])) q.0
    ∙ ap (λ l. quoted (quote_part cs) ∷ tokens m l) (sym q.1)

and_false : (a : Bool) → (a && false) ≡ false
and_false true = refl
and_false false = refl

pair_is : (c : ℕ) (cs : List ℕ) → pair_sign c cs ≡ pair_of c (get_or cs 0 0)
unfolding pair_sign
pair_is c [] = refl
pair_is c (x ∷ xs) = refl

small_pick : (b : Bool) (x y n : ℕ) → x ≤ n → y ≤ n → pick b x y ≤ n
small_pick true x y n p q = p
small_pick false x y n p q = q

pair_small : (c d : ℕ) → pair_of c d ≤ 7
pair_small c d =
    small_pick (eqb c 61 && eqb d 61) 1 _ 7 (omega arith) (small_pick (eqb c 33 && eqb d 61) 2 _ 7 (omega arith) (small_pick (eqb c 60 && eqb d 61) 3 _ 7 (omega arith) (small_pick (eqb c 62 && eqb d 61) 4 _ 7 (omega arith) (small_pick (eqb c 38 && eqb d 38) 5 _ 7 (omega arith) (small_pick (eqb c 124 && eqb d 124) 6 _ 7 (omega arith) (small_pick (eqb c 33 && eqb d 126) 7 0 7 (omega arith) (omega arith)))))))

no_pair : (c : ℕ) → pair_of c 0 ≡ 0
no_pair c = simp and_false

sign_among : (c : ℕ) (ks : List ℕ) → any (eqb c) ks ≡ true → every (λ k. leb 33 k && leb k 126) ks ≡ true → (33 ≤ c) × (c ≤ 126)
sign_among c [] h e = let z : ◌≡◌ {A = ℕ} 0 1 = cc in absurd (omega arith)
sign_among c (k ∷ ks) h e = go (eqb c k) refl (leb 33 k) refl (leb k 126) refl (sign_among c ks) h e
  where
    go : (b : Bool) → eqb c k ≡ b → (x : Bool) → leb 33 k ≡ x → (y : Bool) → leb k 126 ≡ y → (any (eqb c) ks ≡ true → every (λ k. leb 33 k && leb k 126) ks ≡ true → (33 ≤ c) × (c ≤ 126)) →
        or b (any (eqb c) ks) ≡ true → ((x && y) && every (λ k. leb 33 k && leb k 126) ks) ≡ true → (33 ≤ c) × (c ≤ 126)
    go b t false u y v ih h e = let z : ◌≡◌ {A = ℕ} 0 1 = cc in absurd (omega arith)
    go b t true u false v ih h e = let z : ◌≡◌ {A = ℕ} 0 1 = cc in absurd (omega arith)
    go true t true u true v ih h e = omega (arith, eqb-true c k t, leb-true 33 k u, leb-true k 126 v)
    go false t true u true v ih h e = ih h e

a_sign_small : (c : ℕ) → a_sign c ≡ true → (33 ≤ c) × (c ≤ 126)
a_sign_small c h = sign_among c (33 ∷ 36 ∷ 37 ∷ 40 ∷ 41 ∷ 42 ∷ 43 ∷ 44 ∷ 45 ∷ 47 ∷ 59 ∷ 60 ∷ 61 ∷ 62 ∷ 91 ∷ 93 ∷ 123 ∷ 125 ∷ 126 ∷ []) h refl

less_drop : (bs : List ℕ) (i : ℕ) → less_one (drop (i + 1) bs) ≡ drop (i + 2) bs
less_drop bs i = go (drop (i + 1) bs) ∙ drop-drop 1 (i + 1) bs ∙ (let e : i + 1 + 1 ≡ i + 2 = omega arith in ap (λ k. drop k bs) e)
  where
    go : (l : List ℕ) → less_one l ≡ drop 1 l
    go [] = refl
    go (x ∷ l) = refl

-- what a sign's number says of the tokens
pub data Signed (bs : List ℕ) (i m s : ℕ) : Type 0 where
  no_sign : s ≡ 0 → tokens (suc m) (drop i bs) ≡ bad ∷ [] → Signed bs i m s
  two_bytes : 0 < s → s < 8 → i + 2 ≤ length bs → tokens (suc m) (drop i bs) ≡ sign s ∷ tokens m (drop (i + 2) bs) → Signed bs i m s
  one_byte : 8 ≤ s → s ≤ 126 → tokens (suc m) (drop i bs) ≡ sign s ∷ tokens m (drop (i + 1) bs) → Signed bs i m s

pub sign_piece : (bs : List ℕ) (i m s d : ℕ) → i < length bs → class_of (get_or bs i 0) ≡ Other → d ≡ get_or (drop (i + 1) bs) 0 0 → s ≡ sign_of (get_or bs i 0) d → Signed bs i m s
sign_piece bs i m s d h e q f = go (eqb p 0) refl (a_sign c) refl
  where
    c : ℕ
    c = get_or bs i 0

    cs : List ℕ
    cs = drop (i + 1) bs

    p : ℕ
    p = pair_of c d

    start : tokens (suc m) (drop i bs) ≡ pick (eqb p 0) (pick (a_sign c) (sign c ∷ tokens m cs) (bad ∷ [])) (sign p ∷ tokens m (less_one cs))
    start =
        ap (λ l. tokens (suc m) l) (drop_more bs i 0 h) ∙ by_class m c cs Other e
        ∙ ap (λ x. pick (eqb x 0) (pick (a_sign c) (sign c ∷ tokens m cs) (bad ∷ [])) (sign x ∷ tokens m (less_one cs))) (pair_is c cs ∙ ap (λ x. pair_of c x) (sym q))

    room : (p ≡ 0 → ⊥) → i + 2 ≤ length bs
    room n = there (leb (i + 2) (length bs)) refl
      where
        there : (b : Bool) → leb (i + 2) (length bs) ≡ b → i + 2 ≤ length bs
        there true t = leb-true (i + 2) (length bs) t
        there false t = absurd (n (ap (λ x. pair_of c x) (q ∙ ap (λ l. get_or l 0 0) (drop_all (i + 1) bs (omega (arith, leb-false (i + 2) (length bs) t)))) ∙ no_pair c))

    go : (b : Bool) → eqb p 0 ≡ b → (a : Bool) → a_sign c ≡ a → Signed bs i m s
    go true t true u =
        let v : s ≡ c = f ∙ picked (eqb p 0) _ _ t ∙ picked (a_sign c) _ _ u in
        let r = a_sign_small c u in
        one_byte (omega arith) (omega arith) (start ∙ picked (eqb p 0) _ _ t ∙ picked (a_sign c) _ _ u ∙ ap (λ x. sign x ∷ tokens m cs) (sym v))
    go true t false u = no_sign (f ∙ picked (eqb p 0) _ _ t ∙ left_out (a_sign c) _ _ u) (start ∙ picked (eqb p 0) _ _ t ∙ left_out (a_sign c) _ _ u)
    go false t a u =
        let v : s ≡ p = f ∙ left_out (eqb p 0) _ _ t in
        let n : p ≡ 0 → ⊥ = eqb-false p 0 t in
        let z = pair_small c d in
        two_bytes (omega arith) (omega arith) (room n) (start ∙ left_out (eqb p 0) _ _ t ∙ ap₂ (λ x l. sign x ∷ tokens m l) (sym v) (less_drop bs i))

pub behind_is : (bs : List ℕ) (i d : ℕ) → d ≡ get_or bs (i + 1) 0 → d ≡ get_or (drop (i + 1) bs) 0 0
behind_is bs i d e = let z : i + 1 + 0 ≡ i + 1 = omega arith in e ∙ sym (get_or-drop (i + 1) bs 0 0 ∙ ap (λ k. get_or bs k 0) z)

pub signed_none : (bs : List ℕ) (i m s : ℕ) → Signed bs i m s → s ≡ 0 → tokens (suc m) (drop i bs) ≡ bad ∷ []
signed_none bs i m s (no_sign z t) e = t
signed_none bs i m s (two_bytes a b r t) e = absurd (omega arith)
signed_none bs i m s (one_byte a b t) e = absurd (omega arith)

pub signed_two : (bs : List ℕ) (i m s : ℕ) → Signed bs i m s → (s ≡ 0 → ⊥) → s < 8 → (i + 2 ≤ length bs) × (tokens (suc m) (drop i bs) ≡ sign s ∷ tokens m (drop (i + 2) bs))
signed_two bs i m s (no_sign z t) n e = absurd (n z)
signed_two bs i m s (two_bytes a b r t) n e = (r, t)
signed_two bs i m s (one_byte a b t) n e = absurd (omega arith)

pub signed_one : (bs : List ℕ) (i m s : ℕ) → Signed bs i m s → 8 ≤ s → tokens (suc m) (drop i bs) ≡ sign s ∷ tokens m (drop (i + 1) bs)
signed_one bs i m s (no_sign z t) e = absurd (omega arith)
signed_one bs i m s (two_bytes a b r t) e = absurd (omega arith)
signed_one bs i m s (one_byte a b t) e = t

-- behind what is no token nothing is read
pub bad_piece : (bs : List ℕ) (i m : ℕ) → tokens (suc m) (drop i bs) ≡ bad ∷ [] → tokens (suc m) (drop i bs) ≡ bad ∷ tokens m (drop (length bs) bs)
unfolding tokens
bad_piece bs i m e = e ∙ ap (λ l. bad ∷ l) (sym (ap (λ l. tokens m l) (drop_all (length bs) bs (omega arith)) ∙ none_left m))
  where
    none_left : (k : ℕ) → tokens k [] ≡ []
    none_left zero = refl
    none_left (suc k) = refl
