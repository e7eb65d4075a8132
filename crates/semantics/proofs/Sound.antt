-- What the meaning's operations make of sound values is sound: no text is longer than 65,535 bytes, no number beyond 2^62.
use Rattle.std.proofs.Common.{◌≡◌, ℕ, zero, suc, ◌+◌, ◌-◌, ◌/◌, ◌%◌, ◌<◌, ◌≤◌, Bool, true, false, ◌&&◌, eqb, ltb, leb, List, [], ◌∷◌, ◌++◌, length, take, drop, refl, ap, arith, length-append, ltb-true, lt-ltb}
use Rattle.std.proofs.lemmas.Bool.{and_parts}
use Rattle.language.specs.Text.{pick, every, each, limit, Value, plus, minus, text, Num, too_large, fine, within, digits, as_text, truth, negative, sum, opposite, product, quotient, Pattern, ends, greatest, byte_at, Swapped, swap_from, one_on, with_swap, fields_from, joined, blank, same, none_of}
use Rattle.language.specs.Meaning.{set_part, nth_part, place_in, pieces, pieces_at, first_full, cut_by, cut_from, capital, short}
use Rattle.semantics.specs.Invariants.{All, all_none, all_more, Sound, sound_plus, sound_minus, sound_text, SoundText}

-- bytes
abbrev byte : ℕ → Bool
byte c = ltb c 256

abbrev pub Bytes : List ℕ → Type 0
Bytes b = every (λ c. ltb c 256) b ≡ true

pub bytes_both : (xs ys : List ℕ) → Bytes xs → Bytes ys → Bytes (xs ++ ys)
bytes_both [] ys a b = b
bytes_both (x ∷ xs) ys a b = let t = and_parts (byte x) (every byte xs) a in rw t.0 (bytes_both xs ys t.1 b)

pub bytes_cons : (c : ℕ) (xs : List ℕ) → c < 256 → Bytes xs → Bytes (c ∷ xs)
bytes_cons c xs h b = rw (lt-ltb c 256 h) b

pub bytes_first : (xs ys : List ℕ) → Bytes (xs ++ ys) → Bytes xs
bytes_first [] ys a = refl
bytes_first (x ∷ xs) ys a = let t = and_parts (byte x) (every byte (xs ++ ys)) a in rw t.0 (bytes_first xs ys t.1)

bytes_take : (n : ℕ) (xs : List ℕ) → Bytes xs → Bytes (take n xs)
bytes_take zero xs a = refl
bytes_take (suc n) [] a = refl
bytes_take (suc n) (x ∷ xs) a = let t = and_parts (byte x) (every byte xs) a in rw t.0 (bytes_take n xs t.1)

bytes_drop : (n : ℕ) (xs : List ℕ) → Bytes xs → Bytes (drop n xs)
bytes_drop zero xs a = a
bytes_drop (suc n) [] a = a
bytes_drop (suc n) (x ∷ xs) a = bytes_drop n xs (and_parts (byte x) (every byte xs) a).1

take_length : (n : ℕ) (xs : List ℕ) → length (take n xs) ≤ length xs
take_length zero xs = omega arith
take_length (suc n) [] = omega arith
take_length (suc n) (x ∷ xs) = omega (arith, take_length n xs)

drop_length : (n : ℕ) (xs : List ℕ) → length (drop n xs) ≤ length xs
drop_length zero xs = omega arith
drop_length (suc n) [] = omega arith
drop_length (suc n) (x ∷ xs) = omega (arith, drop_length n xs)

pub no_bytes : SoundText []
no_bytes = record { small = omega arith; in_bytes = refl }

sound_take : (n : ℕ) {b : List ℕ} → SoundText b → SoundText (take n b)
sound_take n {b} s = record { small = omega (arith, s.small, take_length n b); in_bytes = bytes_take n b s.in_bytes }

sound_drop : (n : ℕ) {b : List ℕ} → SoundText b → SoundText (drop n b)
sound_drop n {b} s = record { small = omega (arith, s.small, drop_length n b); in_bytes = bytes_drop n b s.in_bytes }

pub pick_of : {A : Type 0} (P : A → Type 0) {x y : A} (b : Bool) → P x → P y → P (pick b x y)
pick_of P true x y = x
pick_of P false x y = y

pub few_pick : {A : Type 0} (b : Bool) (x y : List A) (n : ℕ) → length x ≤ n → length y ≤ n → length (pick b x y) ≤ n
few_pick true x y n p q = p
few_pick false x y n p q = q

-- a number's digits
digits_bytes : (k m : ℕ) (ds : List ℕ) → Bytes ds → Bytes (digits k m ds)
unfolding digits
digits_bytes zero m ds h = h
digits_bytes (suc k) m ds h = by_size (ltb m 10) refl (digits_bytes k (m / 10) ((48 + m % 10) ∷ ds) (bytes_cons (48 + m % 10) ds (omega arith) h))
  where
    by_size : (t : Bool) → ltb m 10 ≡ t → Bytes (digits k (m / 10) ((48 + m % 10) ∷ ds)) → Bytes (pick t ((48 + m) ∷ ds) (digits k (m / 10) ((48 + m % 10) ∷ ds)))
    by_size true e r = bytes_cons (48 + m) ds (omega (arith, ltb-true m 10 e)) h
    by_size false e r = r

digits_length : (k m : ℕ) (ds : List ℕ) → length (digits k m ds) ≤ k + length ds
unfolding digits
digits_length zero m ds = omega arith
digits_length (suc k) m ds =
    few_pick (ltb m 10) ((48 + m) ∷ ds) (digits k (m / 10) ((48 + m % 10) ∷ ds)) (suc k + length ds) (omega arith) (omega (arith, digits_length k (m / 10) ((48 + m % 10) ∷ ds)))

pub sound_as_text : {v : Value} → Sound v → SoundText (as_text v)
unfolding as_text
sound_as_text (sound_plus {n} h) = record { small = omega (arith, digits_length 20 n []); in_bytes = digits_bytes 20 n [] refl }
sound_as_text (sound_minus {n} h) = record { small = omega (arith, digits_length 20 (suc n) []); in_bytes = bytes_cons 45 (digits 20 (suc n) []) (omega arith) (digits_bytes 20 (suc n) [] refl) }
sound_as_text (sound_text s) = s

pub small_number : (n : ℕ) → n < 1000000 → Sound (plus n)
small_number n h = sound_plus (omega arith)

pub sound_truth : (b : Bool) → Sound (truth b)
sound_truth true = small_number 1 (omega arith)
sound_truth false = small_number 0 (omega arith)

-- numbers that are worked out
pub data Number : Value → Type 0 where
  a_plus : {n : ℕ} → Number (plus n)
  a_minus : {n : ℕ} → Number (minus n)

number_pick : {a b : Value} (c : Bool) → Number a → Number b → Number (pick c a b)
number_pick c x y = pick_of Number c x y

number_negative : (n : ℕ) → Number (negative n)
number_negative zero = a_plus
number_negative (suc n) = a_minus

pub number_sum : (a b : Value) → Number (sum a b)
unfolding sum
number_sum (plus a) (plus b) = a_plus
number_sum (plus a) (minus b) = number_pick (leb (suc b) a) a_plus a_minus
number_sum (plus a) (text b) = a_plus
number_sum (minus a) (plus b) = number_pick (leb (suc a) b) a_plus a_minus
number_sum (minus a) (minus b) = a_minus
number_sum (minus a) (text b) = a_minus
number_sum (text a) v = a_plus

pub number_opposite : (a : Value) → Number (opposite a)
unfolding opposite
number_opposite (plus n) = number_negative n
number_opposite (minus n) = a_plus
number_opposite (text b) = a_plus

pub number_product : (a b : Value) → Number (product a b)
unfolding product
number_product (plus a) (plus b) = a_plus
number_product (plus a) (minus b) = number_negative _
number_product (plus a) (text b) = a_plus
number_product (minus a) (plus b) = number_negative _
number_product (minus a) (minus b) = a_plus
number_product (minus a) (text b) = a_plus
number_product (text a) v = a_plus

pub number_quotient : (a b : Value) → Number (quotient a b)
unfolding quotient
number_quotient (plus a) (plus b) = a_plus
number_quotient (plus a) (minus b) = number_negative _
number_quotient (plus a) (text b) = a_plus
number_quotient (minus a) (plus b) = number_negative _
number_quotient (minus a) (minus b) = a_plus
number_quotient (minus a) (text b) = a_plus
number_quotient (text a) v = a_plus

-- within the limit, or too large
pub data SoundNumber : Num → Type 0 where
  beyond : SoundNumber too_large
  inside : {v : Value} → Sound v → SoundNumber (fine v)

pub sound_within : {v : Value} → Number v → SoundNumber (within v)
unfolding within
sound_within (a_plus {n}) = by_size (ltb n limit) refl
  where
    by_size : (t : Bool) → ltb n limit ≡ t → SoundNumber (pick t (fine (plus n)) too_large)
    by_size true e = inside (sound_plus (ltb-true n limit e))
    by_size false e = beyond
sound_within (a_minus {n}) = by_size (ltb n limit) refl
  where
    by_size : (t : Bool) → ltb n limit ≡ t → SoundNumber (pick t (fine (minus n)) too_large)
    by_size true e = inside (sound_minus (ltb-true n limit e))
    by_size false e = beyond

-- parts of texts, capitals, places in texts
pub sound_cut : (i n : Value) {b : List ℕ} → SoundText b → SoundText (cut_from i n b)
unfolding cut_from
sound_cut (plus i) (plus n) s = pick_of SoundText (eqb i 0) (sound_take (n - 1) s) (sound_take n (sound_drop (i - 1) s))
sound_cut (plus i) (minus n) s = no_bytes
sound_cut (plus i) (text t) s = no_bytes
sound_cut (minus i) (plus n) s = sound_take (n - (i + 2)) s
sound_cut (minus i) (minus n) s = no_bytes
sound_cut (minus i) (text t) s = no_bytes
sound_cut (text t) v s = no_bytes

capitals_length : (b : List ℕ) → length (each capital b) ≡ length b
capitals_length [] = refl
capitals_length (c ∷ b) = ap suc (capitals_length b)

capital_small : (c : ℕ) → c < 256 → capital c < 256
capital_small c h = pick_of (λ x. x < 256) (leb 97 c && leb c 122) (omega arith) h

capitals_bytes : (b : List ℕ) → Bytes b → Bytes (each capital b)
capitals_bytes [] h = refl
capitals_bytes (c ∷ b) h = let t = and_parts (byte c) (every byte b) h in bytes_cons (capital c) (each capital b) (capital_small c (ltb-true c 256 t.0)) (capitals_bytes b t.1)

pub sound_capitals : {b : List ℕ} → SoundText b → SoundText (each capital b)
sound_capitals {b} s = record { small = omega (arith, s.small, capitals_length b); in_bytes = capitals_bytes b s.in_bytes }

pub place_small : (n : ℕ) (t bs : List ℕ) (i : ℕ) → place_in n t bs i ≤ n + i
unfolding place_in
place_small zero t bs i = omega arith
place_small (suc n) t bs i = pick_of (λ x. x ≤ suc n + i) (same t (take (length t) bs)) (omega arith) (omega (arith, place_small n t (drop 1 bs) (suc i)))

-- a text that was tested
pub short_sound : {b : List ℕ} → short b ≡ true → Bytes b → SoundText b
short_sound {b} e h = record { small = ltb-true (length b) 65536 e; in_bytes = h }

-- fields: of a line, one of them, and one set
pub fields_sound : (f cs : List ℕ) → length f + length cs < 65536 → Bytes f → Bytes cs → All SoundText (fields_from f cs)
unfolding fields_from
fields_sound [] [] l a b = all_none
fields_sound (f ∷ fs) [] l a b = all_more (record { small = omega arith; in_bytes = a }) all_none
fields_sound [] (c ∷ cs) l a b =
    let t = and_parts (byte c) (every byte cs) b in
    pick_of (All SoundText) (blank c) (fields_sound [] cs (omega arith) refl t.1) (fields_sound (c ∷ []) cs (omega arith) (bytes_cons c [] (ltb-true c 256 t.0) refl) t.1)
fields_sound (f ∷ fs) (c ∷ cs) l a b =
    let t = and_parts (byte c) (every byte cs) b in
    pick_of (All SoundText) (blank c) (all_more (record { small = omega arith; in_bytes = a }) (fields_sound [] cs (omega arith) refl t.1))
    (fields_sound ((f ∷ fs) ++ c ∷ []) cs (omega (arith, length-append (f ∷ fs) (c ∷ []))) (bytes_both (f ∷ fs) (c ∷ []) a (bytes_cons c [] (ltb-true c 256 t.0) refl)) t.1)

pub fields_few : (f cs : List ℕ) → length (fields_from f cs) ≤ length f + length cs
unfolding fields_from
fields_few [] [] = omega arith
fields_few (f ∷ fs) [] = omega arith
fields_few [] (c ∷ cs) = few_pick (blank c) (fields_from [] cs) (fields_from (c ∷ []) cs) _ (omega (arith, fields_few [] cs)) (omega (arith, fields_few (c ∷ []) cs))
fields_few (f ∷ fs) (c ∷ cs) =
    few_pick (blank c) ((f ∷ fs) ∷ fields_from [] cs) (fields_from ((f ∷ fs) ++ c ∷ []) cs) _ (omega (arith, fields_few [] cs))
    (omega (arith, fields_few ((f ∷ fs) ++ c ∷ []) cs, length-append (f ∷ fs) (c ∷ [])))

pub joined_bytes : (ps : List (List ℕ)) → All SoundText ps → Bytes (joined ps)
unfolding joined
joined_bytes [] all_none = refl
joined_bytes (f ∷ []) (all_more s ss) = s.in_bytes
joined_bytes (f ∷ g ∷ ps) (all_more s ss) = bytes_both f (32 ∷ joined (g ∷ ps)) s.in_bytes (bytes_cons 32 (joined (g ∷ ps)) (omega arith) (joined_bytes (g ∷ ps) ss))

pub joined_few : (ps : List (List ℕ)) → length ps ≤ suc (length (joined ps))
unfolding joined
joined_few [] = omega arith
joined_few (f ∷ []) = omega arith
joined_few (f ∷ g ∷ ps) = omega (arith, joined_few (g ∷ ps), length-append f (32 ∷ joined (g ∷ ps)))

pub nth_sound : (ps : List (List ℕ)) (k : ℕ) → All SoundText ps → SoundText (nth_part ps k)
unfolding nth_part
nth_sound [] k all_none = no_bytes
nth_sound (p ∷ ps) zero (all_more s ss) = no_bytes
nth_sound (p ∷ ps) (suc zero) (all_more s ss) = s
nth_sound (p ∷ ps) (suc (suc k)) (all_more s ss) = nth_sound ps (suc k) ss

pub set_sound : (n : ℕ) (ps : List (List ℕ)) (k : ℕ) {b : List ℕ} → All SoundText ps → SoundText b → All SoundText (set_part n ps k b)
unfolding set_part
set_sound zero ps k s h = s
set_sound (suc n) [] zero s h = s
set_sound (suc n) [] (suc zero) s h = all_more h all_none
set_sound (suc n) [] (suc (suc k)) s h = all_more no_bytes (set_sound n [] (suc k) s h)
set_sound (suc n) (p ∷ ps) zero s h = s
set_sound (suc n) (p ∷ ps) (suc zero) (all_more s ss) h = all_more h ss
set_sound (suc n) (p ∷ ps) (suc (suc k)) (all_more s ss) h = all_more s (set_sound n ps (suc k) ss h)

-- pieces between matches
pieces_sound : (n : ℕ) (y : Pattern) (bs : List ℕ) (a : ℕ) → SoundText bs → All SoundText (pieces n y bs a)
unfolding pieces
pieces_sound zero y bs a s = all_more (sound_drop a s) all_none
pieces_sound (suc n) y bs a s = at_match (first_full bs y a (suc (length bs))) (λ j. pieces_sound n y bs j s)
  where
    at_match : (ks : List ℕ) → ((j : ℕ) → All SoundText (pieces n y bs j)) → All SoundText (pieces_at (λ j. pieces n y bs j) bs a ks)
    at_match [] r = all_more (sound_drop a s) all_none
    at_match (i ∷ []) r = all_more (sound_drop a s) all_none
    at_match (i ∷ j ∷ ks) r = all_more (sound_take (i - a) (sound_drop a s)) (r j)

pieces_few : (n : ℕ) (y : Pattern) (bs : List ℕ) (a : ℕ) → length (pieces n y bs a) ≤ suc n
unfolding pieces
pieces_few zero y bs a = omega arith
pieces_few (suc n) y bs a = at_match (first_full bs y a (suc (length bs))) (λ j. pieces_few n y bs j)
  where
    at_match : (ks : List ℕ) → ((j : ℕ) → length (pieces n y bs j) ≤ suc n) → length (pieces_at (λ j. pieces n y bs j) bs a ks) ≤ suc (suc n)
    at_match [] r = omega arith
    at_match (i ∷ []) r = omega arith
    at_match (i ∷ j ∷ ks) r = omega (arith, r j)

pub cut_by_sound : (y : Pattern) (b : List ℕ) → SoundText b → All SoundText (cut_by y b)
cut_by_sound y [] s = all_none
cut_by_sound y (c ∷ cs) s = pieces_sound (suc (length (c ∷ cs))) y (c ∷ cs) 0 s

pub cut_by_few : (y : Pattern) (b : List ℕ) → SoundText b → length (cut_by y b) < 100000
cut_by_few y [] s = omega arith
cut_by_few y (c ∷ cs) s = omega (arith, s.small, pieces_few (suc (length (c ∷ cs))) y (c ∷ cs) 0)

-- what is swapped
pub record FewSwaps (n : ℕ) (s : Swapped) : Type 0 where
  pub in_bytes : Bytes s.bytes
  pub few : s.times ≤ n

swaps_on : (n : ℕ) (bs : List ℕ) (i : ℕ) (s : Swapped) → Bytes bs → FewSwaps n s → FewSwaps n (one_on bs i s)
swaps_on n bs i s h r =
    pick_of (FewSwaps n) (ltb i (length bs)) (record { in_bytes = bytes_both (byte_at bs i) s.bytes (bytes_take 1 (drop i bs) (bytes_drop i bs h)) r.in_bytes; few = r.few })
    (record { in_bytes = refl; few = omega arith })

swaps_with : (n : ℕ) (t : List ℕ) (s : Swapped) → Bytes t → FewSwaps n s → FewSwaps (suc n) (with_swap t s)
swaps_with n t s h r = record { in_bytes = bytes_both t s.bytes h r.in_bytes; few = omega (arith, r.few) }

swaps_more : (n : ℕ) (s : Swapped) → FewSwaps n s → FewSwaps (suc n) s
swaps_more n s r = record { in_bytes = r.in_bytes; few = omega (arith, r.few) }

pub swaps_few : (n : ℕ) (bs : List ℕ) (y : Pattern) (t : List ℕ) (i : ℕ) (just : Bool) → Bytes bs → Bytes t → FewSwaps n (swap_from n bs y t i just)
unfolding swap_from
swaps_few zero bs y t i just a b = record { in_bytes = bytes_drop i bs a; few = omega arith }
swaps_few (suc n) bs y t i just a b =
    let on : FewSwaps n (one_on bs i (swap_from n bs y t (suc i) false)) = swaps_on n bs i _ a (swaps_few n bs y t (suc i) false a b) in
    pick_of (FewSwaps (suc n)) (none_of (ends bs y i)) (swaps_more n _ on)
    (pick_of (FewSwaps (suc n)) (eqb (greatest 0 (ends bs y i)) i) (pick_of (FewSwaps (suc n)) just (swaps_more n _ on) (swaps_with n t _ b on))
    (swaps_with n t _ b (swaps_few n bs y t (greatest 0 (ends bs y i)) true a b)))
