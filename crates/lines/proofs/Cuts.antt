-- A text that is cut in one pass: the places that are noted are those of its fields.
use Rattle.std.proofs.Common.{◌≡◌, ℕ, zero, suc, ◌+◌, ◌-◌, ◌<◌, ◌≤◌, Bool, true, false, ltb, List, [], ◌∷◌, ◌++◌, length, get_or, take, drop, set, sym, refl, ap, ◌∙◌, subst, append_assoc, append-nil, add-zero, arith, length-append, length-set}
use Rattle.std.proofs.lemmas.List.{take_at, drop_at, take_more_set}
use Rattle.std.proofs.lemmas.Bool.{lt-ltb, le-ltb}
use Rattle.language.specs.Text.{pick, each, blank, fields_from}
use Rattle.store.specs.declared.place.Place.{Place}
use Rattle.regions.specs.Places.{place_word, place_of}
use Rattle.regions.proofs.Places.{come_back}
use Rattle.lines.specs.Cutting.{Cuts, cuts_of, cut_of, from_to, one_more, closed_words, closed_count, pass_blank, pass_other, pass_byte, pass_all, recut_of}
use Rattle.lines.specs.Fields.{cut_out, places, noted, places_from}

-- the words and the count in the end
abbrev ends : Cuts → List ℕ × ℕ
ends s = (closed_words s.words s.cut, closed_count s.cut)

module _ (ws : List ℕ) (i s n : ℕ) where
  last_ends : (t : Bool) → n < 18446744073709551615 →
      ◌≡◌ {A = List ℕ × ℕ} (pick t (set ws n (place_word (from_to s i))) ws, pick t (one_more n) n) (noted ws n (pick t (from_to s i ∷ []) []), n + length (pick t (from_to s i ∷ []) []))
  unfolding noted
  last_ends true h = let e : one_more n ≡ n + 1 = omega arith in ap (λ k. (set ws n (place_word (from_to s i)), k)) e
  last_ends false h = ap (λ k. (ws, k)) (sym (add-zero n))

  blank_ends : (cs : List ℕ) (ps : List Place) (t : Bool) → n < 18446744073709551615 →
      ends (pass_all cs (cuts_of (set ws n (place_word (from_to s i))) (cut_of (i + 1) (i + 1) (n + 1)))) ≡ (noted (set ws n (place_word (from_to s i))) (n + 1) ps, n + 1 + length ps) →
      ends (pass_all cs (cuts_of ws (cut_of (i + 1) (i + 1) n))) ≡ (noted ws n ps, n + length ps) →
      ends (pass_all cs (cuts_of (pick t (set ws n (place_word (from_to s i))) ws) (cut_of (i + 1) (i + 1) (pick t (one_more n) n)))) ≡ (noted ws n (pick t (from_to s i ∷ ps) ps), n + length (pick t (from_to s i ∷ ps) ps))
  unfolding noted
  blank_ends cs ps true h a b =
      let e : one_more n ≡ n + 1 = omega arith in
      let f : n + 1 + length ps ≡ n + suc (length ps) = omega arith in
      ap (λ k. ends (pass_all cs (cuts_of (set ws n (place_word (from_to s i))) (cut_of (i + 1) (i + 1) k)))) e ∙ a ∙ ap (λ k. (noted (set ws n (place_word (from_to s i))) (n + 1) ps, k)) f
  blank_ends cs ps false h a b = b

byte_ends : (cs : List ℕ) (x y : Cuts) (a b : List Place) (ws : List ℕ) (n : ℕ) (t : Bool) → ends (pass_all cs x) ≡ (noted ws n a, n + length a) → ends (pass_all cs y) ≡ (noted ws n b, n + length b) →
    ends (pass_all cs (pick t x y)) ≡ (noted ws n (pick t a b), n + length (pick t a b))
byte_ends cs x y a b ws n true p q = p
byte_ends cs x y a b ws n false p q = q

-- what is noted, and how many
pub pass_ends : (cs ws : List ℕ) (i s n : ℕ) → n + length cs < 18446744073709551615 → ends (pass_all cs (cuts_of ws (cut_of i s n))) ≡ (noted ws n (places_from i s cs), n + length (places_from i s cs))
unfolding pass_all pass_byte places_from closed_words closed_count
pass_ends [] ws i s n h = last_ends ws i s n (ltb s i) (omega arith)
pass_ends (c ∷ cs) ws i s n h =
    byte_ends cs (pass_blank (cuts_of ws (cut_of i s n))) (pass_other (cuts_of ws (cut_of i s n)))
    (pick (ltb s i) (from_to s i ∷ places_from (i + 1) (i + 1) cs) (places_from (i + 1) (i + 1) cs)) (places_from (i + 1) s cs) ws n (blank c)
    (blank_ends ws i s n cs (places_from (i + 1) (i + 1) cs) (ltb s i) (omega arith)
    (pass_ends cs (set ws n (place_word (from_to s i))) (i + 1) (i + 1) (n + 1) (omega arith)) (pass_ends cs ws (i + 1) (i + 1) n (omega arith)))
    (pass_ends cs ws (i + 1) s n (omega arith))

-- a text that stands in the middle
cut_mid : (pre f post : List ℕ) (a n : ℕ) → a ≡ length pre → n ≡ length f → take n (drop a (pre ++ (f ++ post))) ≡ f
cut_mid pre f post a n e g = rw (drop_at pre (f ++ post) a (sym e)) (take_at f post n (sym g))

-- one byte more of what goes on, or behind it

going : (pre f : List ℕ) (c : ℕ) (cs : List ℕ) → pre ++ (f ++ c ∷ cs) ≡ pre ++ ((f ++ c ∷ []) ++ cs)
going pre f c cs = ap (λ z. pre ++ z) (sym (append_assoc f (c ∷ []) cs))

behind : (pre f : List ℕ) (c : ℕ) (cs : List ℕ) → pre ++ (f ++ c ∷ cs) ≡ (pre ++ (f ++ c ∷ [])) ++ ([] ++ cs)
behind pre f c cs = going pre f c cs ∙ sym (append_assoc pre (f ++ c ∷ []) cs)

abbrev all_cut : List ℕ → List Place → List (List ℕ)
all_cut l ps = each (cut_out l) ps

-- the places are those of the fields
pub fields_cut : (cs pre f : List ℕ) (i s : ℕ) → s ≡ length pre → i ≡ length pre + length f → all_cut (pre ++ (f ++ cs)) (places_from i s cs) ≡ fields_from f cs
unfolding places_from fields_from
fields_cut [] pre [] i s e g = rw (le-ltb s i (omega arith))
fields_cut [] pre (x ∷ xs) i s e g = rw (lt-ltb s i (omega arith)) (ap (λ z. z ∷ []) (cut_mid pre (x ∷ xs) [] s (i - s) e (omega arith)))
fields_cut (c ∷ cs) pre [] i s e g =
    let l : i + 1 ≡ length (pre ++ c ∷ []) = omega (arith, length-append pre (c ∷ [])) in
    rw (le-ltb s i (omega arith)) (by (blank c) (fields_cut cs (pre ++ c ∷ []) [] (i + 1) (i + 1) l (omega arith)) (fields_cut cs pre (c ∷ []) (i + 1) s e (omega arith)))
  where
    by : (t : Bool) → all_cut ((pre ++ c ∷ []) ++ ([] ++ cs)) (places_from (i + 1) (i + 1) cs) ≡ fields_from [] cs → all_cut (pre ++ (c ∷ cs)) (places_from (i + 1) s cs) ≡ fields_from (c ∷ []) cs →
        all_cut (pre ++ (c ∷ cs)) (pick t (places_from (i + 1) (i + 1) cs) (places_from (i + 1) s cs)) ≡ pick t (fields_from [] cs) (fields_from (c ∷ []) cs)
    by true a b = ap (λ z. all_cut z (places_from (i + 1) (i + 1) cs)) (behind pre [] c cs) ∙ a
    by false a b = b
fields_cut (c ∷ cs) pre (x ∷ xs) i s e g =
    let k : length ((x ∷ xs) ++ c ∷ []) ≡ suc (length xs) + 1 = length-append (x ∷ xs) (c ∷ []) in
    let l : i + 1 ≡ length (pre ++ ((x ∷ xs) ++ c ∷ [])) = omega (arith, length-append pre ((x ∷ xs) ++ c ∷ [])) in
    rw (lt-ltb s i (omega arith)) (by (blank c) (fields_cut cs (pre ++ ((x ∷ xs) ++ c ∷ [])) [] (i + 1) (i + 1) l (omega arith)) (fields_cut cs pre ((x ∷ xs) ++ c ∷ []) (i + 1) s e (omega arith)))
  where
    by : (t : Bool) → all_cut ((pre ++ ((x ∷ xs) ++ c ∷ [])) ++ ([] ++ cs)) (places_from (i + 1) (i + 1) cs) ≡ fields_from [] cs →
        all_cut (pre ++ (((x ∷ xs) ++ c ∷ []) ++ cs)) (places_from (i + 1) s cs) ≡ fields_from ((x ∷ xs) ++ c ∷ []) cs →
        all_cut (pre ++ ((x ∷ xs) ++ c ∷ cs)) (pick t (from_to s i ∷ places_from (i + 1) (i + 1) cs) (places_from (i + 1) s cs)) ≡ pick t ((x ∷ xs) ∷ fields_from [] cs) (fields_from ((x ∷ xs) ++ c ∷ []) cs)
    by true a b =
        ap (λ z. z ∷ all_cut (pre ++ ((x ∷ xs) ++ c ∷ cs)) (places_from (i + 1) (i + 1) cs)) (cut_mid pre (x ∷ xs) (c ∷ cs) s (i - s) e (omega arith))
        ∙ ap {B = List (List ℕ)} (λ z. (x ∷ xs) ∷ z) (ap (λ z. all_cut z (places_from (i + 1) (i + 1) cs)) (behind pre (x ∷ xs) c cs) ∙ a)
    by false a b = ap (λ z. all_cut z (places_from (i + 1) s cs)) (going pre (x ∷ xs) c cs) ∙ b

-- all of them lie inside the text

abbrev pub All : (Place → Type 0) → List Place → Type 0
All P [] = Unit {0}
All P (p ∷ ps) = P p × All P ps

abbrev pub Inside : ℕ → Place → Type 0
Inside k p = p.start + p.len ≤ k

all_inside : (cs : List ℕ) (i s k : ℕ) → s ≤ i → i + length cs ≤ k → All (Inside k) (places_from i s cs)
unfolding places_from
all_inside [] i s k h l = by (ltb s i)
  where
    by : (t : Bool) → All (Inside k) (pick t (from_to s i ∷ []) [])
    by true = (omega arith, tt)
    by false = tt
all_inside (c ∷ cs) i s k h l = by (blank c) (ltb s i) (all_inside cs (i + 1) (i + 1) k (omega arith) (omega arith)) (all_inside cs (i + 1) s k (omega arith) (omega arith))
  where
    by : (t u : Bool) → All (Inside k) (places_from (i + 1) (i + 1) cs) → All (Inside k) (places_from (i + 1) s cs) →
        All (Inside k) (pick t (pick u (from_to s i ∷ places_from (i + 1) (i + 1) cs) (places_from (i + 1) (i + 1) cs)) (places_from (i + 1) s cs))
    by true true a b = (omega arith, a)
    by true false a b = a
    by false u a b = b

-- what is noted is read back

pub length_noted : (ps : List Place) (ws : List ℕ) (n : ℕ) → length (noted ws n ps) ≡ length ws
unfolding noted
length_noted [] ws n = refl
length_noted (p ∷ ps) ws n = length_noted ps (set ws n (place_word p)) (n + 1) ∙ length-set ws n (place_word p)

pub take_noted : (ps : List Place) (ws : List ℕ) (n : ℕ) → n + length ps ≤ length ws → take (n + length ps) (noted ws n ps) ≡ take n ws ++ each place_word ps
unfolding noted
take_noted [] ws n h = rw (add-zero n) (sym (append-nil (take n ws)))
take_noted (p ∷ ps) ws n h =
    let e : n + suc (length ps) ≡ n + 1 + length ps = omega arith in
    let l = length-set ws n (place_word p) in
    ap (λ k. take k (noted (set ws n (place_word p)) (n + 1) ps)) e
    ∙ take_noted ps (set ws n (place_word p)) (n + 1) (omega arith)
    ∙ ap (λ x. x ++ each place_word ps) (take_more_set ws n (place_word p) (omega arith))
    ∙ append_assoc (take n ws) (place_word p ∷ []) (each place_word ps)

come_back_all : (ps : List Place) (k : ℕ) → k < 4294967296 → All (Inside k) ps → each place_of (each place_word ps) ≡ ps
come_back_all [] k h a = refl
come_back_all (p ∷ ps) k h a =
    ap (λ x. x ∷ each place_of (each place_word ps)) (come_back p (omega (arith, a.0)) (omega (arith, a.0))) ∙ ap (λ x. p ∷ x) (come_back_all ps k h a.1)

pub places_noted : (ps : List Place) (ws : List ℕ) (k : ℕ) → k < 4294967296 → All (Inside k) ps → length ps ≤ length ws → places (length ps) (noted ws 0 ps) ≡ ps
places_noted ps ws k h a l =
    let e : 0 + length ps ≡ length ps = omega arith in
    ap (each place_of) (ap (λ n. take n (noted ws 0 ps)) (sym e) ∙ take_noted ps ws 0 (omega arith)) ∙ come_back_all ps k h a

-- each of them

pub getD_of_each : {A B : Type 0} (f : A → B) (xs : List A) (i : ℕ) (d : A) (e : B) → i < length xs → get_or (each f xs) i e ≡ f (get_or xs i d)
getD_of_each f [] i d e h = absurd (omega arith)
getD_of_each f (x ∷ xs) zero d e h = refl
getD_of_each f (x ∷ xs) (suc i) d e h = getD_of_each f xs i d e (omega arith)

pub getD_each : (ws : List ℕ) (n i : ℕ) (d : Place) → i < n → n ≤ length ws → get_or (places n ws) i d ≡ place_of (get_or ws i 0)
getD_each [] n i d h l = absurd (omega arith)
getD_each (w ∷ ws) zero i d h l = absurd (omega arith)
getD_each (w ∷ ws) (suc n) zero d h l = refl
getD_each (w ∷ ws) (suc n) (suc i) d h l = getD_each ws n i d (omega arith) (omega arith)

getD_all : (P : Place → Type 0) (ps : List Place) (i : ℕ) (d : Place) → i < length ps → All P ps → P (get_or ps i d)
getD_all P [] i d h a = absurd (omega arith)
getD_all P (p ∷ ps) zero d h a = a.0
getD_all P (p ∷ ps) (suc i) d h a = getD_all P ps i d (omega arith) a.1

pub each_inside : (ps : List Place) (ws : List ℕ) (k i : ℕ) → All (Inside k) ps → places (length ps) ws ≡ ps → length ps ≤ length ws → i < length ps → Inside k (place_of (get_or ws i 0))
each_inside ps ws k i a e l h =
    let d : Place = record { start = 0; len = 0 } in
    subst (Inside k) (ap (λ x. get_or x i d) (sym e) ∙ getD_each ws (length ps) i d h l) (getD_all (Inside k) ps i d h a)

pub length_each : {A B : Type 0} (f : A → B) (xs : List A) → length (each f xs) ≡ length xs
length_each f [] = refl
length_each f (x ∷ xs) = ap suc (length_each f xs)

-- a whole text

pub text_places : (l : List ℕ) → each (cut_out l) (places_from 0 0 l) ≡ fields_from [] l
text_places l = fields_cut l [] [] 0 0 refl refl

pub text_inside : (l : List ℕ) → All (Inside (length l)) (places_from 0 0 l)
text_inside l = all_inside l 0 0 (length l) (omega arith) (omega arith)

pub text_count : (l : List ℕ) → length (places_from 0 0 l) ≡ length (fields_from [] l)
text_count l = sym (length_each (cut_out l) (places_from 0 0 l)) ∙ ap length (text_places l)

pub recut_words : (ws l : List ℕ) → length l < 18446744073709551615 → (recut_of ws l).words ≡ noted ws 0 (places_from 0 0 l)
unfolding recut_of
recut_words ws l h = ap (λ x. x.0) (pass_ends l ws 0 0 0 (omega arith))

pub recut_count : (ws l : List ℕ) → length l < 18446744073709551615 → (recut_of ws l).cut.fields ≡ length (fields_from [] l)
unfolding recut_of
recut_count ws l h = ap (λ x. x.1) (pass_ends l ws 0 0 0 (omega arith)) ∙ omega (arith, text_count l)
