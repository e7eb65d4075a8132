-- Values that hold no text: nothing is held or let go with them, and numbers are seen at once.
use Rattle.std.proofs.Common.{◌≡◌, ℕ, ◌+◌, ◌-◌, ◌%◌, ◌^◌, ◌≤◌, Bool, true, not, ◌&&◌, List, take, ℤ, pos, Some, None, Option, sym, refl, ap, ◌∙◌, add-zero, arith}
use Rattle.language.specs.Text
use Rattle.language.specs.Text.{plus, text, truth, number_of, looks, less, less_number, alike, earlier, as_text, pick}
use Rattle.language.specs.Meaning.{State, got, reckon}
use Rattle.store.specs.Numbers.{number}
use Rattle.store.specs.Space.{Space}
use Rattle.store.specs.Words.{bytes_of, window}
use Rattle.store.specs.Values.{let_go}
use Rattle.store.specs.declared.cells.Value.{Value}
use Rattle.store.specs.declared.cells.Value.TheVariants.{Unset, Number, Text as InText, Short as InShort}
use Rattle.store.proofs.Merging.{kept, taken}
use Rattle.store.proofs.Moving.{window_part}
use Rattle.values.specs.declared.compare.Comparison.{Comparison}
use Rattle.values.specs.declared.compare.Comparison.TheVariants.{Equal, Unequal, Less, AtMost, Above, AtLeast}
use Rattle.values.specs.Texts.{plain}
use Rattle.values.specs.Compare.{operator, upwards, plain_number}
use Rattle.values.proofs.Comparing.{number_looks, number_itself}
use Rattle.values.proofs.Reading.{plainly}
use Rattle.regions.specs.Parts.{Parts, with_texts}
use Rattle.interp.specs.Outcomes.{On}
use Rattle.interp.specs.declared.registers.Registers.{Registers}
use Rattle.interp.specs.Turns.{says, placed, after, top_of, under_of, worth_in, holding, releasing, stacking, replaced_two}
use Rattle.interp.specs.Slots.{slot_of, slotting, kept_in}
use Rattle.interp.specs.Numbers.{Compares}

-- nothing is let go with such a value
abbrev pub Loose : Value → Type 0
Loose v = (s : Space) → let_go 20480 77822 s v ≡ s

-- a value over two of them is a value in place of them
pub covered : (p : Parts) (r : Registers) (x y v : Value) → x ≡ under_of p r → y ≡ top_of p r → Loose x → Loose y →
    says On (stacking p (r.depth - 2) v) (placed r (after r.pc) (r.depth - 2 + 1)) ≡ replaced_two p r v
unfolding replaced_two
covered p r x y v e f l m =
    ap (λ t. says On (stacking (with_texts p t) (r.depth - 2) v) (placed r (after r.pc) (r.depth - 2 + 1)))
    (sym (ap (λ z. let_go 20480 77822 z (under_of p r)) (ap (let_go 20480 77822 p.texts) (sym f) ∙ m p.texts)
    ∙ ap (let_go 20480 77822 p.texts) (sym e) ∙ l p.texts))

-- the two on top were let go by their values
pub released : (p q q' : Parts) (r : Registers) (x y v : Value) → x ≡ under_of p r → y ≡ top_of p r → q ≡ releasing p y → q' ≡ releasing q x →
    says On (stacking q' (r.depth - 2) v) (placed r (after r.pc) (r.depth - 2 + 1)) ≡ replaced_two p r v
unfolding replaced_two
released p q q' r x y v e f g h =
    ap (λ t. says On (stacking t (r.depth - 2) v) (placed r (after r.pc) (r.depth - 2 + 1)))
    (h ∙ ap (λ t. releasing t x) (g ∙ ap (releasing p) f) ∙ ap (releasing (releasing p (top_of p r))) e)

-- a number on top goes into a slot
pub number_saved : (p : Parts) (r : Registers) (i : ℕ) (v : Value) (z : ℤ) → v ≡ top_of p r → v ≡ Number z →
    says On (slotting (releasing p (slot_of p i)) i (Number z)) (placed r (after r.pc) r.depth) ≡ kept_in p r i
unfolding kept_in
number_saved p r i v z e f =
    ap (λ x. says On (slotting (releasing (holding p x) (slot_of p i)) i x) (placed r (after r.pc) r.depth)) (sym f ∙ e)

-- a value that is seen to be a number
pub record Seen (p : Parts) (v : Value) (z : ℤ) : Type 0 where
  pub like : looks (worth_in p v) ≡ true
  pub taken : number_of (worth_in p v) ≡ number z
  pub loose : Loose v

pub seen : (p : Parts) (v : Value) (z : ℤ) → Some z ≡ plain_number v → Seen p v z
seen p Unset z e = let w : ◌≡◌ {A = ℕ} 0 1 = cc in absurd (omega arith)
seen p (InText h) z e = let w : ◌≡◌ {A = ℕ} 0 1 = cc in absurd (omega arith)
seen p (Number n) z e =
    let f : n ≡ z = cc in
    record { like = number_looks n; taken = sym (number_itself n) ∙ ap number f; loose = λ s. refl }
seen p (InShort b) z e = by (plain (bytes_of b.len b.word)) refl e
  where
    by : (o : Option ℕ) → o ≡ plain (bytes_of b.len b.word) → Some z ≡ upwards o → Seen p (InShort b) z
    by None f g = let w : ◌≡◌ {A = ℕ} 0 1 = cc in absurd (omega arith)
    by (Some n) f g =
        let q = plainly (bytes_of b.len b.word) n f in
        let h : pos n ≡ z = cc in
        record { like = q.like; taken = q.taken ∙ ap number h; loose = λ s. refl }

-- what looks like a number is compared by what it is taken as

less_is : (v w : Text.Value) → looks v ≡ true → looks w ≡ true → less v w ≡ less_number (number_of v) (number_of w)
unfolding less
less_is v w e f = rw (e, f)

less_same : (v w : Text.Value) (m n : ℤ) → looks v ≡ true → looks w ≡ true → number_of v ≡ number m → number_of w ≡ number n → less (number m) (number n) ≡ less v w
less_same v w m n e f g h =
    less_is (number m) (number n) (number_looks m) (number_looks n)
    ∙ ap (λ x. less_number x (number_of (number n))) (sym (number_itself m) ∙ sym g) ∙ ap (less_number (number_of v)) (sym (number_itself n) ∙ sym h)
    ∙ sym (less_is v w e f)

alike_same : (v w x y : Text.Value) → less x y ≡ less v w → less y x ≡ less w v → alike x y ≡ alike v w
unfolding alike
alike_same v w x y e f = ap (λ b. not b && not (less y x)) e ∙ ap (λ b. not (less v w) && not b) f

reckons_same : (c : Comparison) (v w x y : Text.Value) (s : State) → less x y ≡ less v w → less y x ≡ less w v → reckon (operator c) x y s ≡ reckon (operator c) v w s
unfolding reckon
reckons_same Equal v w x y s e f = ap (λ b. got (truth b) s) (alike_same v w x y e f)
reckons_same Unequal v w x y s e f = ap (λ b. got (truth (not b)) s) (alike_same v w x y e f)
reckons_same Less v w x y s e f = ap (λ b. got (truth b) s) e
reckons_same AtMost v w x y s e f = ap (λ b. got (truth (not b)) s) f
reckons_same Above v w x y s e f = ap (λ b. got (truth b) s) f
reckons_same AtLeast v w x y s e f = ap (λ b. got (truth (not b)) s) e

pub compares_seen : (c : Comparison) (b : Bool) (p : Parts) (v w : Value) (m n : ℤ) → Seen p v m → Seen p w n → Compares c b (number m) (number n) → Compares c b (worth_in p v) (worth_in p w)
unfolding Compares
compares_seen c b p v w m n h k r s =
    r s ∙ reckons_same c (worth_in p v) (worth_in p w) (number m) (number n) s
    (less_same (worth_in p v) (worth_in p w) m n h.like k.like h.taken k.taken) (less_same (worth_in p w) (worth_in p v) n m k.like h.like k.taken h.taken)

-- the lowest bytes of a word that was read
pub read_at : (n w from : ℕ) (ws : List ℕ) → n ≤ 8 → bytes_of 8 w ≡ window from 8 ws → bytes_of n (w % 256 ^ n) ≡ window from n ws
read_at n w from ws h e =
    let f : n + (8 - n) ≡ 8 = omega arith in
    kept n w ∙ taken n (8 - n) w ∙ ap (λ k. take n (bytes_of k w)) f ∙ ap (take n) e ∙ window_part ws from 8 0 n (omega arith) ∙ ap (λ k. window k n ws) (add-zero from)
