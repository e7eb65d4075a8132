-- A scan of a pattern goes on by a byte.
use Rattle.std.proofs.Common.{◌≡◌, ℕ, suc, ◌+◌, ◌-◌, ◌*◌, ◌≤◌, Bool, true, false, not, eqb, List, [], ◌∷◌, length, Some, None, sym, refl, ap, ◌∙◌, subst, arith, ne_eqb, eqb-true}
use Rattle.language.specs.Text.{or, none_of, Pattern, nothing}
use Rattle.language.specs.Program.{Got, none, got, with_got, pattern, atom, whole_pattern}
use Rattle.lexer.specs.Scanning.{a_mark, from_on, MeantIs, AtomSays, PlainByte, in_either, in_group, Means, Scans}
use Rattle.lexer.specs.declared.patterns.Meant.{Meant}
use Rattle.lexer.specs.declared.patterns.Scan.{Scan}
use Rattle.lexer.proofs.Closing.{pattern_is, settle, marked, atom_on, atom_fails, opens, bars, closes, never_opened, no_pattern, at_the_end}
use Rattle.lexer.proofs.Picks.{picked}

module _ (bs : List ℕ) (from : ℕ) (s : Scan) (c : Meant) (e : MeantIs bs s.at (Some c)) (x : Scans bs from s) where
  N : ℕ
  N = 4 * length (from_on bs from) + 4

  G : Got ℕ Pattern
  G = pattern (4 * length (from_on bs from) + 4) (from_on bs from)

  long : length (from_on bs s.at) ≡ suc (length (from_on bs c.next))
  long = ap length e.0

  here : Means (4 * length (from_on bs from) + 4) x.begun s.marks (c.byte ∷ from_on bs c.next) (pattern (4 * length (from_on bs from) + 4) (from_on bs from))
  here = subst (λ l. Means (4 * length (from_on bs from) + 4) x.begun s.marks l (pattern (4 * length (from_on bs from) + 4) (from_on bs from))) e.0 x.means

  plainly : a_mark c.byte ≡ false → Means (4 * length (from_on bs from) + 4) x.begun false (c.byte ∷ from_on bs c.next) (pattern (4 * length (from_on bs from) + 4) (from_on bs from))
  plainly t = settle (4 * length (from_on bs from) + 4) x.begun _ s.marks c.byte (from_on bs c.next) (omega (arith, long, x.shorter)) t here

  at_byte : (d : ℕ) → c.byte ≡ d → a_mark d ≡ false → Means (4 * length (from_on bs from) + 4) x.begun false (d ∷ from_on bs c.next) (pattern (4 * length (from_on bs from) + 4) (from_on bs from))
  at_byte d q t = subst (λ b. Means (4 * length (from_on bs from) + 4) x.begun false (b ∷ from_on bs c.next) (pattern (4 * length (from_on bs from) + 4) (from_on bs from))) q (plainly (ap a_mark q ∙ t))

  pub scan_open : c.byte ≡ 40 → Scans bs from (record { at = c.next; nested = s.nested + 1; marks = false })
  scan_open q =
      let m = at_byte 40 q refl in
      record { begun = in_group m.0 ∷ x.begun; nested_is = omega (arith, x.nested_is); shorter = omega (arith, long, x.shorter); inside = e.2; means = opens (4 * length (from_on bs from) + 4) x.begun _ (from_on bs c.next) (omega (arith, long, x.shorter)) m }

  pub scan_bar : c.byte ≡ 124 → Scans bs from (record { at = c.next; nested = s.nested; marks = false })
  scan_bar q =
      let m = at_byte 124 q refl in
      record { begun = in_either m.0 ∷ x.begun; nested_is = x.nested_is; shorter = omega (arith, long, x.shorter); inside = e.2; means = bars (4 * length (from_on bs from) + 4) x.begun _ (from_on bs c.next) (omega (arith, long, x.shorter)) m }

  pub scan_close : c.byte ≡ 41 → (s.nested ≡ 0 → ⊥) → Scans bs from (record { at = c.next; nested = s.nested - 1; marks = true })
  scan_close q n =
      let m = at_byte 41 q refl in
      let k = closes (4 * length (from_on bs from) + 4) x.begun _ (s.nested - 1) (from_on bs c.next) (omega (arith, long, x.shorter)) (omega (arith, x.nested_is)) m in
      record { begun = k.begun; nested_is = k.count; shorter = omega (arith, long, x.shorter); inside = e.2; means = k.means }

  pub scan_too_far : c.byte ≡ 41 → s.nested ≡ 0 → none_of (whole_pattern (pattern (4 * length (from_on bs from) + 4) (from_on bs from))) ≡ true
  scan_too_far q n = never_opened (4 * length (from_on bs from) + 4) x.begun _ (from_on bs c.next) (omega (arith, long, x.shorter)) (x.nested_is ∙ n) (at_byte 41 q refl)

  pub scan_mark : a_mark c.byte ≡ true → s.marks ≡ true → Scans bs from (record { at = c.next; nested = s.nested; marks = s.marks })
  scan_mark t q =
      record {
        begun = x.begun;
        nested_is = x.nested_is;
        shorter = omega (arith, long, x.shorter);
        inside = e.2;
        means = subst (λ b. Means (4 * length (from_on bs from) + 4) x.begun b (from_on bs c.next) (pattern (4 * length (from_on bs from) + 4) (from_on bs from))) (sym q) (marked (4 * length (from_on bs from) + 4) x.begun _ c.byte (from_on bs c.next) (omega (arith, long, x.shorter)) t
            (subst (λ b. Means (4 * length (from_on bs from) + 4) x.begun b (c.byte ∷ from_on bs c.next) (pattern (4 * length (from_on bs from) + 4) (from_on bs from))) q here));
      }

  no_atom : (n d : ℕ) (ds : List ℕ) → a_mark d ≡ true → atom (suc n) (d ∷ ds) ≡ none
  unfolding atom
  no_atom n d ds t = picked (a_mark d) _ _ t

  pub scan_no_mark : a_mark c.byte ≡ true → or (eqb c.byte 124) (eqb c.byte 41) ≡ false → s.marks ≡ false → none_of (whole_pattern (pattern (4 * length (from_on bs from) + 4) (from_on bs from))) ≡ true
  scan_no_mark t u q =
      no_pattern _ (atom_fails (4 * length (from_on bs from) + 4) x.begun _ c.byte (from_on bs c.next) (omega (arith, long, x.shorter)) u (no_atom _ c.byte (from_on bs c.next) t)
      (subst (λ b. Means (4 * length (from_on bs from) + 4) x.begun b (c.byte ∷ from_on bs c.next) (pattern (4 * length (from_on bs from) + 4) (from_on bs from))) q here))

  pub scan_atom : (r : ℕ) → a_mark c.byte ≡ false → or (eqb c.byte 124) (eqb c.byte 41) ≡ false → AtomSays bs c (Some r) → Scans bs from (record { at = r; nested = s.nested; marks = true })
  scan_atom r t u a =
      let p = a.3 (4 * length (from_on bs from) + 4) (omega (arith, long, x.shorter)) in
      record { begun = x.begun; nested_is = x.nested_is; shorter = omega (arith, long, x.shorter, a.2); inside = a.1; means = atom_on (4 * length (from_on bs from) + 4) x.begun _ c.byte (from_on bs c.next) p.0 (from_on bs r) (omega (arith, long, x.shorter)) u p.1 (plainly t) }

  pub scan_no_atom : a_mark c.byte ≡ false → or (eqb c.byte 124) (eqb c.byte 41) ≡ false → AtomSays bs c None → none_of (whole_pattern (pattern (4 * length (from_on bs from) + 4) (from_on bs from))) ≡ true
  scan_no_atom t u a =
      no_pattern _ (atom_fails (4 * length (from_on bs from) + 4) x.begun _ c.byte (from_on bs c.next) (omega (arith, long, x.shorter)) u (a (4 * length (from_on bs from) + 4) (omega (arith, long, x.shorter))) (plainly t))

pub is_a_mark : (c : ℕ) → PlainByte c → a_mark c ≡ false
is_a_mark c p = rw (ne_eqb c 42 p.not_star, ne_eqb c 43 p.not_plus, ne_eqb c 63 p.not_once) refl

mark_inside : (c : ℕ) → a_mark c ≡ true → or (eqb c 124) (eqb c 41) ≡ false
mark_inside c t = go (eqb c 42) refl (eqb c 43) refl (eqb c 63) refl t
  where
    at : (d : ℕ) → c ≡ d → (d ≡ 124 → ⊥) → (d ≡ 41 → ⊥) → or (eqb c 124) (eqb c 41) ≡ false
    at d e p q = rw (ne_eqb c 124 (λ h. p (sym e ∙ h)), ne_eqb c 41 (λ h. q (sym e ∙ h))) refl

    go : (x : Bool) → eqb c 42 ≡ x → (y : Bool) → eqb c 43 ≡ y → (z : Bool) → eqb c 63 ≡ z → or x (or y z) ≡ true → or (eqb c 124) (eqb c 41) ≡ false
    go true p y q z r h = at 42 (eqb-true c 42 p) (λ n. omega arith) (λ n. omega arith)
    go false p true q z r h = at 43 (eqb-true c 43 q) (λ n. omega arith) (λ n. omega arith)
    go false p false q true r h = at 63 (eqb-true c 63 r) (λ n. omega arith) (λ n. omega arith)
    go false p false q false r h = let z : ◌≡◌ {A = ℕ} 0 1 = cc in absurd (omega arith)

pub no_mark : (c : ℕ) → a_mark c ≡ true → or (eqb c 124) (eqb c 41) ≡ false
no_mark c t = mark_inside c t

pub plain_from : (c : ℕ) → a_mark c ≡ false → (c ≡ 40 → ⊥) → PlainByte c
plain_from c t n = record { not_star = λ e. clash (ap a_mark e); not_plus = λ e. clash (ap a_mark e); not_once = λ e. clash (ap a_mark e); not_open = n }
  where
    clash : a_mark c ≡ true → ⊥
    clash e = let z : ◌≡◌ {A = ℕ} 0 1 = cc in omega arith

pub is_inside : (c : ℕ) → (c ≡ 124 → ⊥) → (c ≡ 41 → ⊥) → or (eqb c 124) (eqb c 41) ≡ false
is_inside c p q = rw (ne_eqb c 124 p, ne_eqb c 41 q) refl

pub scan_start : (bs : List ℕ) (from : ℕ) → from ≤ length bs → Scans bs from (record { at = from; nested = 0; marks = false })
scan_start bs from h =
    record { begun = []; nested_is = refl; shorter = omega arith; inside = h; means = (nothing, pattern_is (4 * length (from_on bs from) + 4) [] (from_on bs from) (omega arith) ∙ only (pattern (4 * length (from_on bs from) + 4) (from_on bs from))) }
  where
    only : (g : Got ℕ Pattern) → with_got g (λ p es. got p es) ≡ g
    only none = refl
    only (got p es) = refl

pub scan_end : (bs : List ℕ) (from : ℕ) (s : Scan) → from_on bs s.at ≡ [] → Scans bs from s → eqb s.nested 0 ≡ not (none_of (whole_pattern (pattern (4 * length (from_on bs from) + 4) (from_on bs from))))
scan_end bs from s e x =
    ap (λ k. eqb k 0) (sym x.nested_is)
    ∙ at_the_end (4 * length (from_on bs from) + 4) x.begun _ s.marks (omega arith) (subst (λ l. Means (4 * length (from_on bs from) + 4) x.begun s.marks l (pattern (4 * length (from_on bs from) + 4) (from_on bs from))) e x.means)
