-- Sets of bytes in a pattern, and atoms.
use Rattle.std.proofs.Common.{◌≡◌, ℕ, zero, suc, ◌<◌, ◌≤◌, Bool, true, false, ◌&&◌, eqb, List, [], ◌∷◌, ◌++◌, length, get_or, Some, None, Option, refl, ap, ◌∙◌, arith, ne_eqb}
use Rattle.language.specs.Text.{pick, none_of, Pattern, byte, at_start, at_end, Span}
use Rattle.language.specs.Program.{none, got, with_got, next_is, less_one, one_of, any_byte, spans, atom}
use Rattle.lexer.specs.Scanning.{from_on, span_on, SpanSays, SetEnds, AtomSays, PlainByte}
use Rattle.lexer.specs.declared.patterns.Meant.{Meant}
use Rattle.lexer.proofs.FuelPatterns.{SSpans}
use Rattle.lexer.proofs.Picks.{left_out}

-- the byte by itself, or a span
alone : (n : ℕ) (ss : List Span) (c : ℕ) (cs : List ℕ) → (next_is 45 cs && pick (next_is 93 (less_one cs)) false (pick (none_of (less_one cs)) false true)) ≡ false →
    (ts : List Span) × (span_on n ss c cs ≡ spans n ts false cs)
alone n ss c cs e = (ss ++ record { low = c; high = c } ∷ [], left_out _ _ _ e)

pub span_end : (n : ℕ) (ss : List Span) (c : ℕ) (cs : List ℕ) → cs ≡ [] → (ts : List Span) × (span_on n ss c cs ≡ spans n ts false cs)
span_end n ss c cs e = alone n ss c cs (rw e refl)

pub span_no_dash : (n : ℕ) (ss : List Span) (c d : ℕ) (cs ds : List ℕ) → cs ≡ d ∷ ds → (d ≡ 45 → ⊥) → (ts : List Span) × (span_on n ss c cs ≡ spans n ts false cs)
span_no_dash n ss c d cs ds e h = alone n ss c cs (rw (e, ne_eqb d 45 h) refl)

pub span_dash_end : (n : ℕ) (ss : List Span) (c d : ℕ) (cs ds : List ℕ) → cs ≡ d ∷ ds → ds ≡ [] → (ts : List Span) × (span_on n ss c cs ≡ spans n ts false cs)
span_dash_end n ss c d cs ds e h = alone n ss c cs (rw (e, h) (go (eqb d 45)))
  where
    go : (b : Bool) → (b && false) ≡ false
    go true = refl
    go false = refl

pub span_dash_last : (n : ℕ) (ss : List Span) (c d x : ℕ) (cs ds es : List ℕ) → cs ≡ d ∷ ds → ds ≡ x ∷ es → x ≡ 93 → (ts : List Span) × (span_on n ss c cs ≡ spans n ts false cs)
span_dash_last n ss c d x cs ds es e h k = alone n ss c cs (rw (e, h, k) (go (eqb d 45)))
  where
    go : (b : Bool) → (b && false) ≡ false
    go true = refl
    go false = refl

pub span_whole : (n : ℕ) (ss : List Span) (c d x : ℕ) (cs ds es : List ℕ) → cs ≡ d ∷ ds → d ≡ 45 → ds ≡ x ∷ es → (x ≡ 93 → ⊥) → (ts : List Span) × (span_on n ss c cs ≡ spans n ts false es)
span_whole n ss c d x cs ds es e f h k =
    (ss ++ record { low = c; high = x } ∷ [], rw (e, f, h, ne_eqb x 93 k) refl)

-- a set, byte by byte
pub set_on : (n : ℕ) (ss : List Span) (f : Bool) (c : ℕ) (cs : List ℕ) → length (c ∷ cs) ≤ n → (eqb c 93 && pick f false true) ≡ false → spans n ss f (c ∷ cs) ≡ span_on n ss c cs
unfolding spans
set_on n ss f c cs h e = SSpans n (suc n) ss f (c ∷ cs) h (omega arith) ∙ left_out _ _ _ e

pub set_done : (n : ℕ) (ss : List Span) (c : ℕ) (cs : List ℕ) → length (c ∷ cs) ≤ n → c ≡ 93 → spans n ss false (c ∷ cs) ≡ got ss cs
unfolding spans
set_done n ss c cs h e = SSpans n (suc n) ss false (c ∷ cs) h (omega arith) ∙ rw e refl

pub set_none : (n : ℕ) (ss : List Span) (f : Bool) → spans n ss f [] ≡ none
unfolding spans
set_none zero ss f = refl
set_none (suc n) ss f = refl

no_and : (b : Bool) → (b && false) ≡ false
no_and true = refl
no_and false = refl

-- so far in a set
pub record Far (bs : List ℕ) (from i : ℕ) : Type 0 where
  pub onward : from < i
  pub shorter : length (from_on bs i) ≤ length (from_on bs from)
  pub means : (n : ℕ) → length (from_on bs from) ≤ n → (ss : List Span) × (spans n [] true (from_on bs from) ≡ spans n ss false (from_on bs i))

pub far_first : (bs : List ℕ) (from c next i : ℕ) → from_on bs from ≡ c ∷ from_on bs next → from < next → SpanSays bs next i → Far bs from i
far_first bs from c next i e h s =
    let l : length (from_on bs from) ≡ suc (length (from_on bs next)) = ap length e in
    record {
      onward = omega (arith, s.onward);
      shorter = omega (arith, s.shorter);
      means = λ n k. let g = s.goes n [] c in (g.0, ap (λ l. spans n [] true l) e ∙ set_on n [] true c (from_on bs next) (omega arith) (no_and (eqb c 93)) ∙ g.1);
    }

pub far_on : (bs : List ℕ) (from j c next i : ℕ) → from_on bs j ≡ c ∷ from_on bs next → j < next → (c ≡ 93 → ⊥) → SpanSays bs next i → Far bs from j → Far bs from i
far_on bs from j c next i e h x s f =
    let l : length (from_on bs j) ≡ suc (length (from_on bs next)) = ap length e in
    record {
      onward = omega (arith, s.onward, f.onward);
      shorter = omega (arith, s.shorter, f.shorter);
      means = λ n k.
          let m = f.means n k in
          let g = s.goes n m.0 c in
          (g.0, m.1 ∙ ap (λ l. spans n m.0 false l) e ∙ set_on n m.0 false c (from_on bs next) (omega (arith, f.shorter)) (rw (ne_eqb c 93 x) refl) ∙ g.1);
    }

pub far_closed : (bs : List ℕ) (from j c next : ℕ) → from_on bs j ≡ c ∷ from_on bs next → c ≡ 93 → Far bs from j → (n : ℕ) → length (from_on bs from) ≤ n → (ss : List Span) × (spans n [] true (from_on bs from) ≡ got ss (from_on bs next))
far_closed bs from j c next e x f n k =
    let l : length (from_on bs j) ≡ suc (length (from_on bs next)) = ap length e in
    let m = f.means n k in (m.0, m.1 ∙ ap (λ l. spans n m.0 false l) e ∙ set_done n m.0 c (from_on bs next) (omega (arith, f.shorter)) x)

pub far_open : (bs : List ℕ) (from j : ℕ) → from_on bs j ≡ [] → Far bs from j → (n : ℕ) → length (from_on bs from) ≤ n → spans n [] true (from_on bs from) ≡ none
far_open bs from j e f n k = let m = f.means n k in m.1 ∙ ap (λ l. spans n m.0 false l) e ∙ set_none n m.0 false

-- atoms that are no brackets
atom_is : (n c : ℕ) (cs : List ℕ) → PlainByte c → atom (suc n) (c ∷ cs) ≡
    (pick (eqb c 46) (got any_byte cs) (pick (eqb c 94) (got at_start cs) (pick (eqb c 36) (got at_end cs)
    (pick (eqb c 92) (pick (none_of cs) none (got (one_of (get_or cs 0 0)) (less_one cs)))
    (pick (eqb c 91) (pick (next_is 94 cs) (with_got (spans n [] true (less_one cs)) (λ ss ds. got (byte ss false) ds)) (with_got (spans n [] true cs) (λ ss ds. got (byte ss true) ds)))
    (got (one_of c) cs))))))
unfolding atom
atom_is n c cs p = rw (ne_eqb c 42 p.not_star, ne_eqb c 43 p.not_plus, ne_eqb c 63 p.not_once, ne_eqb c 40 p.not_open) refl

pub atom_escaped : (n c d : ℕ) (cs ds : List ℕ) → PlainByte c → c ≡ 92 → cs ≡ d ∷ ds → atom (suc n) (c ∷ cs) ≡ got (one_of d) ds
atom_escaped n c d cs ds p e f = atom_is n c cs p ∙ rw (e, f) refl

pub atom_at_end : (n c : ℕ) (cs : List ℕ) → PlainByte c → c ≡ 92 → cs ≡ [] → atom (suc n) (c ∷ cs) ≡ none
atom_at_end n c cs p e f = atom_is n c cs p ∙ rw (e, f) refl

pub atom_other : (n c : ℕ) (cs : List ℕ) → PlainByte c → (c ≡ 92 → ⊥) → (c ≡ 91 → ⊥) → (q : Pattern) × (atom (suc n) (c ∷ cs) ≡ got q cs)
atom_other n c cs p e f = go (eqb c 46) (eqb c 94) (eqb c 36) (atom_is n c cs p)
  where
    go : (x y z : Bool) → atom (suc n) (c ∷ cs) ≡ (pick x (got any_byte cs) (pick y (got at_start cs) (pick z (got at_end cs)
        (pick (eqb c 92) (pick (none_of cs) none (got (one_of (get_or cs 0 0)) (less_one cs)))
        (pick (eqb c 91) (pick (next_is 94 cs) (with_got (spans n [] true (less_one cs)) (λ ss ds. got (byte ss false) ds)) (with_got (spans n [] true cs) (λ ss ds. got (byte ss true) ds)))
        (got (one_of c) cs)))))) → (q : Pattern) × (atom (suc n) (c ∷ cs) ≡ got q cs)
    go true y z h = (any_byte, h)
    go false true z h = (at_start, h)
    go false false true h = (at_end, h)
    go false false false h = (one_of c, h ∙ left_out _ _ _ (ne_eqb c 92 e) ∙ left_out _ _ _ (ne_eqb c 91 f))

pub atom_set_none : (n c : ℕ) (cs : List ℕ) → PlainByte c → c ≡ 91 → cs ≡ [] → atom (suc n) (c ∷ cs) ≡ none
unfolding spans
atom_set_none n c cs p e f = atom_is n c cs p ∙ rw (e, f) (ap (λ g. with_got g (λ ss ds. got (byte ss true) ds)) (set_none n [] true))

pub atom_set_not : (n c d : ℕ) (cs ds : List ℕ) → PlainByte c → c ≡ 91 → cs ≡ d ∷ ds → d ≡ 94 → atom (suc n) (c ∷ cs) ≡ with_got (spans n [] true ds) (λ ss es. got (byte ss false) es)
atom_set_not n c d cs ds p e f g = atom_is n c cs p ∙ rw (e, f, g) refl

pub atom_set : (n c d : ℕ) (cs ds : List ℕ) → PlainByte c → c ≡ 91 → cs ≡ d ∷ ds → (d ≡ 94 → ⊥) → atom (suc n) (c ∷ cs) ≡ with_got (spans n [] true cs) (λ ss es. got (byte ss true) es)
atom_set n c d cs ds p e f g = atom_is n c cs p ∙ rw e (left_out _ _ _ (ap (λ l. next_is 94 l) f ∙ ne_eqb d 94 g))

-- the byte [ is plain
pub bracket_plain : (c : ℕ) → c ≡ 91 → PlainByte c
bracket_plain c e = record { not_star = λ h. omega arith; not_plus = λ h. omega arith; not_once = λ h. omega arith; not_open = λ h. omega arith }

pub set_atom_not : (bs : List ℕ) (m d : Meant) (r : Option ℕ) → m.byte ≡ 91 → from_on bs m.next ≡ d.byte ∷ from_on bs d.next → m.next < d.next → d.byte ≡ 94 → SetEnds bs d.next r → AtomSays bs m r
set_atom_not bs m d (Some r) e f l g s =
    let k : length (from_on bs m.next) ≡ suc (length (from_on bs d.next)) = ap length f in (
      omega (arith, s.0),
      s.1,
      omega (arith, s.3),
      λ n h.
          let t = s.2 n (omega arith) in
          (byte t.0 false, atom_set_not n m.byte d.byte (from_on bs m.next) (from_on bs d.next) (bracket_plain m.byte e) e f g ∙ ap (λ x. with_got x (λ ss es. got (byte ss false) es)) t.1),
    )
set_atom_not bs m d None e f l g s = λ n h.
    let k : length (from_on bs m.next) ≡ suc (length (from_on bs d.next)) = ap length f in
    atom_set_not n m.byte d.byte (from_on bs m.next) (from_on bs d.next) (bracket_plain m.byte e) e f g ∙ ap (λ x. with_got x (λ ss es. got (byte ss false) es)) (s n (omega arith))

pub set_atom : (bs : List ℕ) (m d : Meant) (r : Option ℕ) → m.byte ≡ 91 → from_on bs m.next ≡ d.byte ∷ from_on bs d.next → (d.byte ≡ 94 → ⊥) → SetEnds bs m.next r → AtomSays bs m r
set_atom bs m d (Some r) e f g s = (
  omega (arith, s.0),
  s.1,
  omega (arith, s.3),
  λ n h.
      let t = s.2 n h in
      (byte t.0 true, atom_set n m.byte d.byte (from_on bs m.next) (from_on bs d.next) (bracket_plain m.byte e) e f g ∙ ap (λ x. with_got x (λ ss es. got (byte ss true) es)) t.1),
)
set_atom bs m d None e f g s = λ n h.
    atom_set n m.byte d.byte (from_on bs m.next) (from_on bs d.next) (bracket_plain m.byte e) e f g ∙ ap (λ x. with_got x (λ ss es. got (byte ss true) es)) (s n h)
