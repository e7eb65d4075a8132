-- The generator makes what is assembled: piece by piece, wherever a piece stands.
use Rattle.std.proofs.Common.{◌≡◌, ℕ, zero, suc, ◌+◌, Bool, true, false, not, ◌&&◌, eqb, leb, List, [], ◌∷◌, ◌++◌, length, sym, refl, ap, ◌∙◌, subst, append_assoc, append-nil, arith, length-append}
use Rattle.std.proofs.lemmas.Bool.{and_parts}
use Rattle.language.specs.Text.{pick, every, those, none_of, plus}
use Rattle.language.specs.Program.{Term, Terms, num, txt, var, item, field, un, bin, like, there, put_in, call, part, split, swap, no_terms, term_and, Deed, Deeds, value, print, when, while, each_key, next_line, exit, forget, give, no_deeds, deed_and, Rule, Fun, Program}
use Rattle.language.specs.Meaning.{of_kind, for_lines}
use Rattle.language.specs.Known.{plain_term, plain_terms, plain_deed, plain_deeds, core}
use Rattle.semantics.specs.Stack.{Instr, note_all, note_below, push_value, to_truth, jump, jump_if, jump_unless}
use Rattle.semantics.specs.Code.{Code, Calls, nothing_to_do, lone, ahead, seq, noted_code, decided_code, if_code, while_code, test_code, save_code, two_code, body_code, key_code, terms_code, term_code, print_code, deed_code, deeds_code, rule_code, rules_code, stage_code, calls_of, program_code}
use Rattle.semantics.specs.Code as code
use Rattle.assembly.specs.Assembly.{Op, op_load, op_truth, op_jump, op_jump_unless, literal, Pool, Jump, if_holds, unless_holds, jump_op, Shape, silent, constant, loads, saves, goes, does, outside, shape, is_silent, is_note, lean_place, pool_after, op_for, Made, translated, assemble, entries}
use Rattle.assembly.specs.Generator.{Piece, no_ops, lone_op, both, decided_ops, if_ops, while_ops, test_ops, two_ops, term_ops, place_ops, terms_ops, print_ops, deed_ops, deeds_ops, rule_ops, rules_ops, stage_ops, begin_ops, line_ops, end_ops, program_ops, program_starts}
use Rattle.assembly.specs.Laws.{Generates, Generated}
use Rattle.assembly.proofs.Pools.{no}
use Rattle.assembly.proofs.Correspondence.{lean_first}

abbrev made : List Op → Pool → Made
made os π = record { ops = os; pool = π }

-- one place on, or none for a note
abbrev on : Instr → ℕ → ℕ
on i k = pick (is_note i) k (suc k)

-- TRANSLATED CODE, one part after the other
translated_both : (to : ℕ → ℕ) (xs ys : List Instr) (π : Pool) →
    translated to (xs ++ ys) π ≡ made ((translated to xs π).ops ++ (translated to ys (translated to xs π).pool).ops) (translated to ys (translated to xs π).pool).pool
unfolding translated
translated_both to [] ys π = refl
translated_both to (x ∷ xs) ys π =
    let m = translated to xs (pool_after (shape x) π) in
    let n = translated to ys m.pool in
    ap (λ z. made (op_for to (shape x) π ++ z.ops) z.pool) (translated_both to xs ys (pool_after (shape x) π))
    ∙ ap (λ z. made z n.pool) (sym (append_assoc (op_for to (shape x) π) m.ops n.ops))

module _ (to : ℕ → ℕ) where
  -- `to` goes up along these instructions
  abbrev Rises : ℕ → List Instr → Type 0
  Rises p [] = Unit {0}
  Rises p (i ∷ is) = (to (suc p) ≡ on i (to p)) × Rises (suc p) is

  rises_first : (xs ys : List Instr) (p : ℕ) → Rises p (xs ++ ys) → Rises p xs
  rises_first [] ys p r = tt
  rises_first (x ∷ xs) ys p r = (r.0, rises_first xs ys (suc p) r.1)

  rises_second : (xs ys : List Instr) (p : ℕ) → Rises p (xs ++ ys) → Rises (length xs + p) ys
  rises_second [] ys p r = let e : p ≡ 0 + p = omega arith in subst (λ q. Rises q ys) e r
  rises_second (x ∷ xs) ys p r = let e : length xs + suc p ≡ suc (length xs) + p = omega arith in subst (λ q. Rises q ys) e (rises_second xs ys (suc p) r.1)

  -- instructions at p, whose lean place is k, with the pool π, give these operations and that pool
  record Gives (p k : ℕ) (is : List Instr) (π : Pool) (m : Made) : Type 0 where
    same : translated to is π ≡ m
    ends : to (length is + p) ≡ length m.ops + k

  gives_none : (p k : ℕ) (π : Pool) → to p ≡ k → Gives p k [] π (made [] π)
  unfolding translated
  gives_none p k π e = let z : 0 + p ≡ p = omega arith in record { same = refl; ends = ap to z ∙ e ∙ omega arith }

  gives_both : {p k : ℕ} {xs ys : List Instr} {π : Pool} {a b : Made} → Gives p k xs π a → Gives (length xs + p) (length a.ops + k) ys a.pool b → Gives p k (xs ++ ys) π (made (a.ops ++ b.ops) b.pool)
  gives_both {p} {k} {xs} {ys} {π} {a} {b} g h = record {
    same = translated_both to xs ys π ∙ ap (λ z. made (z.ops ++ (translated to ys z.pool).ops) (translated to ys z.pool).pool) g.same ∙ ap (λ z. made (a.ops ++ z.ops) z.pool) h.same;
    ends =
        let z : length (xs ++ ys) + p ≡ length ys + (length xs + p) = omega (arith, length-append xs ys) in
        let y : length b.ops + (length a.ops + k) ≡ length (a.ops ++ b.ops) + k = omega (arith, length-append a.ops b.ops) in
        ap to z ∙ h.ends ∙ y;
  }

  -- a note, and an instruction with its operation, before others
  gives_note : {p k : ℕ} {is : List Instr} {π : Pool} {m : Made} (i : Instr) → shape i ≡ silent → Gives (suc p) k is π m → Gives p k (i ∷ is) π m
  unfolding translated
  gives_note {p} {is} {π} i e g = record {
    same = ap (λ s. made (op_for to s π ++ (translated to is (pool_after s π)).ops) (translated to is (pool_after s π)).pool) e ∙ g.same;
    ends = let z : suc (length is) + p ≡ length is + suc p = omega arith in ap to z ∙ g.ends;
  }

  gives_ahead : {p k : ℕ} {is : List Instr} {π ρ : Pool} {m : Made} (i : Instr) (o : Op) → op_for to (shape i) π ≡ o ∷ [] → pool_after (shape i) π ≡ ρ → Gives (suc p) (suc k) is ρ m →
      Gives p k (i ∷ is) π (made (o ∷ m.ops) m.pool)
  unfolding translated
  gives_ahead {p} {k} {is} {π} {m} i o e f g = record {
    same =
        ap (λ z. made (op_for to (shape i) π ++ z.ops) z.pool) (ap (λ z. translated to is z) f ∙ g.same)
        ∙ ap (λ z. made (z ++ m.ops) m.pool) e;
    ends =
        let z : suc (length is) + p ≡ length is + suc p = omega arith in
        let y : length m.ops + suc k ≡ suc (length m.ops) + k = omega arith in
        ap to z ∙ g.ends ∙ y;
  }

-- CODE AND PIECES
record Matches (A : Code) (G : Piece) : Type 0 where
  at : (to : ℕ → ℕ) (p k : ℕ) (π : Pool) → Rises to p (A p) → to p ≡ k → Gives to p k (A p) π (G k π)

matches_none : Matches nothing_to_do no_ops
matches_none = record { at = λ to p k π r e. gives_none to p k π e }

-- an instruction that is neither note nor jump
abbrev still : Shape → Bool
still silent = false
still (constant v) = true
still (loads x) = true
still (saves x) = true
still (goes j q) = false
still (does o) = true
still outside = true

-- the place behind an instruction
behind : (to : ℕ → ℕ) (p k : ℕ) (i : Instr) (b : Bool) → is_note i ≡ b → to (suc p) ≡ on i (to p) → to p ≡ k → to (suc p) ≡ pick b k (suc k)
behind to p k i b h r e = r ∙ ap (λ c. pick c (to p) (suc (to p))) h ∙ ap (λ z. pick b z (suc z)) e

lone_gives : (to : ℕ → ℕ) (p k : ℕ) (π : Pool) (i : Instr) (s : Shape) → shape i ≡ s → still s ≡ true → to (suc p) ≡ on i (to p) → to p ≡ k → Gives to p k (i ∷ []) π (lone_op s k π)
lone_gives to p k π i s h t r e = by_shape s h t
  where
    alone : (o : Op) (ρ : Pool) → op_for to (shape i) π ≡ o ∷ [] → pool_after (shape i) π ≡ ρ → is_note i ≡ false → Gives to p k (i ∷ []) π (made (o ∷ []) ρ)
    alone o ρ f g n = gives_ahead to i o f g (gives_none to (suc p) (suc k) ρ (behind to p k i false n r e))

    by_shape : (s : Shape) → shape i ≡ s → still s ≡ true → Gives to p k (i ∷ []) π (lone_op s k π)
    by_shape silent h t = no t
    by_shape (constant v) h t = alone _ _ (ap (λ s. op_for to s π) h) (ap (λ s. pool_after s π) h) (ap is_silent h)
    by_shape (loads x) h t = alone _ _ (ap (λ s. op_for to s π) h) (ap (λ s. pool_after s π) h) (ap is_silent h)
    by_shape (saves x) h t = alone _ _ (ap (λ s. op_for to s π) h) (ap (λ s. pool_after s π) h) (ap is_silent h)
    by_shape (goes j q) h t = no t
    by_shape (does o) h t = alone _ _ (ap (λ s. op_for to s π) h) (ap (λ s. pool_after s π) h) (ap is_silent h)
    by_shape outside h t = alone _ _ (ap (λ s. op_for to s π) h) (ap (λ s. pool_after s π) h) (ap is_silent h)

matches_lone : (i : Instr) → still (shape i) ≡ true → Matches (lone i) (lone_op (shape i))
matches_lone i h = record { at = λ to p k π r e. lone_gives to p k π i (shape i) refl h r.0 e }

matches_seq : {A B : Code} {G H : Piece} → Matches A G → Matches B H → Matches (seq A B) (both G H)
matches_seq {A} {B} {G} a b = record {
  at = λ to p k π r e.
      let q = length (A p) + p in
      let g = a.at to p k π (rises_first to (A p) (B q) p r) e in
      gives_both to g (b.at to q (length (G k π).ops + k) (G k π).pool (rises_second to (A p) (B q) p r) g.ends);
}

matches_note : {A : Code} {G : Piece} (i : Instr) → shape i ≡ silent → Matches A G → Matches (ahead i A) G
matches_note i h a = record { at = λ to p k π r e. gives_note to i h (a.at to (suc p) k π r.1 (behind to p k i true (ap is_silent h) r.0 e)) }

matches_noted : {A : Code} {G : Piece} (d : ℕ) → Matches A G → Matches (noted_code d A) G
matches_noted {A} {G} d a = matches_note (note_all d) refl (record {
  at = λ to p k π r e.
      let q = length (A p) + p in
      let m = G k π in
      let g = a.at to p k π (rises_first to (A p) (note_below d ∷ []) p r) e in
      let l = rises_second to (A p) (note_below d ∷ []) p r in
      let h = gives_both to g (gives_note to (note_below d) refl (gives_none to (suc q) (length m.ops + k) m.pool (l.0 ∙ g.ends))) in
      subst (λ z. Gives to p k (A p ++ note_below d ∷ []) π (made z m.pool)) (append-nil m.ops) h;
})

matches_decided : {A B : Code} {G H : Piece} (i : ℕ → Instr) (j : Jump) (n : ℕ) → ((q : ℕ) → shape (i q) ≡ goes j q) → Matches A G → Matches B H → Matches (decided_code i (plus n) A B) (decided_ops j n G H)
matches_decided {A} {B} {G} {H} i j n h a b = record {
  at = λ to p k π r e.
      let q = length (A p) + p in
      let s = length (B (suc q)) + suc q in
      let f = to_truth ∷ jump (suc (suc (suc s))) ∷ push_value (plus n) ∷ [] in
      let u = G k π in
      let q' = length u.ops + k in
      let v = H (suc q') u.pool in
      let s' = length v.ops + suc q' in
      let ga = a.at to p k π (rises_first to (A p) (i (suc (suc s)) ∷ (B (suc q) ++ f)) p r) e in
      let r₁ = rises_second to (A p) (i (suc (suc s)) ∷ (B (suc q) ++ f)) p r in
      let gb = b.at to (suc q) (suc q') u.pool (rises_first to (B (suc q)) f (suc q) r₁.1) (behind to q q' (i (suc (suc s))) false (ap is_silent (h (suc (suc s)))) r₁.0 ga.ends) in
      let r₂ = rises_second to (B (suc q)) f (suc q) r₁.1 in
      let t₁ : to (suc s) ≡ suc s' = r₂.0 ∙ ap suc gb.ends in
      let t₂ : to (suc (suc s)) ≡ suc (suc s') = r₂.1.0 ∙ ap suc t₁ in
      let t₃ : to (suc (suc (suc s))) ≡ suc (suc (suc s')) = r₂.1.1.0 ∙ ap suc t₂ in
      let gf = gives_ahead to to_truth op_truth refl refl (gives_ahead to (jump (suc (suc (suc s)))) (op_jump (suc (suc (suc s')))) (ap (λ z. op_jump z ∷ []) t₃) refl
      (gives_ahead to (push_value (plus n)) (op_load (length v.pool)) refl refl (gives_none to (suc (suc (suc s))) (suc (suc (suc s'))) (v.pool ++ literal (plus n) ∷ []) t₃))) in
      gives_both to ga (gives_ahead to (i (suc (suc s))) (jump_op j (suc (suc s'))) (ap (λ z. op_for to z u.pool) (h (suc (suc s))) ∙ ap (λ z. jump_op j z ∷ []) t₂)
      (ap (λ z. pool_after z u.pool) (h (suc (suc s)))) (gives_both to gb gf));
}

matches_two : {A B : Code} {G H : Piece} (k : ℕ) → Matches A G → Matches B H → Matches (two_code k A B) (two_ops k G H)
unfolding two_code two_ops
matches_two zero a b = matches_decided jump_if if_holds 1 (λ q. refl) a b
matches_two (suc zero) a b = matches_decided jump_unless unless_holds 0 (λ q. refl) a b
matches_two (suc (suc k)) a b = matches_seq a (matches_seq b (matches_lone _ refl))

matches_if : {C A B : Code} {E G H : Piece} → Matches C E → Matches A G → Matches B H → Matches (if_code C A B) (if_ops E G H)
matches_if {C} {A} {B} {E} {G} {H} c a b = record {
  at = λ to p k π r e.
      let q = length (C p) + p in
      let s = length (A (suc q)) + suc q in
      let j = jump (length (B (suc s)) + suc s) ∷ B (suc s) in
      let w = E k π in
      let q' = length w.ops + k in
      let u = G (suc q') w.pool in
      let s' = length u.ops + suc q' in
      let gc = c.at to p k π (rises_first to (C p) (jump_unless (suc s) ∷ (A (suc q) ++ j)) p r) e in
      let r₁ = rises_second to (C p) (jump_unless (suc s) ∷ (A (suc q) ++ j)) p r in
      let ga = a.at to (suc q) (suc q') w.pool (rises_first to (A (suc q)) j (suc q) r₁.1) (r₁.0 ∙ ap suc gc.ends) in
      let r₂ = rises_second to (A (suc q)) j (suc q) r₁.1 in
      let t : to (suc s) ≡ suc s' = r₂.0 ∙ ap suc ga.ends in
      let gb = b.at to (suc s) (suc s') u.pool r₂.1 t in
      gives_both to gc (gives_ahead to (jump_unless (suc s)) (op_jump_unless (suc s')) (ap (λ z. op_jump_unless z ∷ []) t) refl
      (gives_both to ga (gives_ahead to (jump (length (B (suc s)) + suc s)) (op_jump (length (H (suc s') u.pool).ops + suc s')) (ap (λ z. op_jump z ∷ []) gb.ends) refl gb)));
}

matches_while : {C A : Code} {E G : Piece} (d : ℕ) → Matches C E → Matches A G → Matches (while_code d C A) (while_ops E G)
matches_while {C} {A} {E} {G} d c a = record {
  at = λ to p k π r e.
      let q = length (C p) + p in
      let s = length (A (suc q)) + suc q in
      let j = note_all d ∷ jump p ∷ [] in
      let w = E k π in
      let q' = length w.ops + k in
      let u = G (suc q') w.pool in
      let s' = length u.ops + suc q' in
      let gc = c.at to p k π (rises_first to (C p) (jump_unless (suc (suc s)) ∷ (A (suc q) ++ j)) p r) e in
      let r₁ = rises_second to (C p) (jump_unless (suc (suc s)) ∷ (A (suc q) ++ j)) p r in
      let ga = a.at to (suc q) (suc q') w.pool (rises_first to (A (suc q)) j (suc q) r₁.1) (r₁.0 ∙ ap suc gc.ends) in
      let r₂ = rises_second to (A (suc q)) j (suc q) r₁.1 in
      let t : to (suc (suc s)) ≡ suc s' = r₂.1.0 ∙ ap suc (r₂.0 ∙ ga.ends) in
      gives_both to gc (gives_ahead to (jump_unless (suc (suc s))) (op_jump_unless (suc s')) (ap (λ z. op_jump_unless z ∷ []) t) refl
      (gives_both to ga (gives_note to (note_all d) refl (gives_ahead to (jump p) (op_jump k) (ap (λ z. op_jump z ∷ []) e) refl (gives_none to (suc (suc s)) (suc s') u.pool t)))));
}

matches_test : {C A : Code} {E G : Piece} → Matches C E → Matches A G → Matches (test_code C A) (test_ops E G)
matches_test {C} {A} {E} {G} c a = record {
  at = λ to p k π r e.
      let q = length (C p) + p in
      let s = length (A (suc q)) + suc q in
      let w = E k π in
      let q' = length w.ops + k in
      let gc = c.at to p k π (rises_first to (C p) (jump_unless s ∷ A (suc q)) p r) e in
      let r₁ = rises_second to (C p) (jump_unless s ∷ A (suc q)) p r in
      let ga = a.at to (suc q) (suc q') w.pool r₁.1 (r₁.0 ∙ ap suc gc.ends) in
      gives_both to gc (gives_ahead to (jump_unless s) (op_jump_unless (length (G (suc q') w.pool).ops + suc q')) (ap (λ z. op_jump_unless z ∷ []) ga.ends) refl ga);
}

abbrev plain_rule : Rule → Bool
plain_rule u = plain_term u.test && plain_deeds u.deeds

-- TERMS, STATEMENTS, RULES of known programs
module _ (c : Calls) where
  mutual
    unfolding body_code plain_term term_ops

    body_matches : (t : Term) (d : ℕ) → plain_term t ≡ true → Matches (body_code c t d) (term_ops t)
    body_matches (num n) d h = matches_lone _ refl
    body_matches (txt b) d h = matches_lone _ refl
    body_matches (var x) d h = matches_lone _ refl
    body_matches (item x k) d h = no h
    body_matches (field k) d h = matches_seq (matches_noted _ (body_matches k _ h)) (matches_lone _ refl)
    body_matches (un k a) d h = matches_seq (matches_noted _ (body_matches a _ (and_parts (leb k 1) (plain_term a) h).1)) (matches_lone _ refl)
    body_matches (bin k a b) d h =
        let s = and_parts (not (eqb k 12)) (plain_term a && plain_term b) h in
        let t = and_parts (plain_term a) (plain_term b) s.1 in
        matches_two k (matches_noted _ (body_matches a _ t.0)) (matches_noted _ (body_matches b _ t.1))
    body_matches (like a y) d h = no h
    body_matches (there a x) d h = no h
    body_matches (put_in a b) d h = let t = and_parts (plain_term a) (plain_term b) h in matches_seq (matches_noted _ (body_matches b _ t.1)) (place_matches a d t.0)
    body_matches (call x ts) d h = no h
    body_matches (part a b k) d h = no h
    body_matches (split a x y) d h = no h
    body_matches (swap y a b) d h = no h

    place_matches : (t : Term) (d : ℕ) → plain_term t ≡ true → Matches (seq (key_code c t d) (lone (save_code t))) (place_ops t)
    place_matches (num n) d h = matches_lone _ refl
    place_matches (txt b) d h = matches_lone _ refl
    place_matches (var x) d h = matches_lone _ refl
    place_matches (item x k) d h = no h
    place_matches (field k) d h = matches_seq (matches_noted _ (body_matches k _ h)) (matches_lone _ refl)
    place_matches (un k a) d h = matches_lone _ refl
    place_matches (bin k a b) d h = matches_lone _ refl
    place_matches (like a y) d h = no h
    place_matches (there a x) d h = no h
    place_matches (put_in a b) d h = matches_lone _ refl
    place_matches (call x ts) d h = no h
    place_matches (part a b k) d h = no h
    place_matches (split a x y) d h = no h
    place_matches (swap y a b) d h = no h

  term_matches : (t : Term) (d : ℕ) → plain_term t ≡ true → Matches (term_code c t d) (term_ops t)
  term_matches t d h = matches_noted d (body_matches t d h)

  terms_match : (ts : Terms) (d : ℕ) → plain_terms ts ≡ true → Matches (terms_code c ts d) (terms_ops ts)
  unfolding terms_code terms_ops plain_terms
  terms_match no_terms d h = matches_none
  terms_match (term_and t ts) d h = let s = and_parts (plain_term t) (plain_terms ts) h in matches_seq (term_matches t d s.0) (terms_match ts d s.1)

  print_matches : (ts : Terms) (d : ℕ) → plain_terms ts ≡ true → Matches (print_code c ts d) (print_ops ts)
  unfolding print_code print_ops
  print_matches no_terms d h = matches_lone _ refl
  print_matches (term_and t ts) d h = matches_seq (terms_match (term_and t ts) d h) (matches_lone _ refl)

  mutual
    unfolding deed_code plain_deed deed_ops

    deed_matches : (e : Deed) (d : ℕ) → plain_deed e ≡ true → Matches (deed_code c e d) (deed_ops e)
    deed_matches (value t) d h = matches_seq (term_matches t d h) (matches_lone _ refl)
    deed_matches (print ts) d h = print_matches ts d h
    deed_matches (when t a b) d h =
        let s = and_parts (plain_term t) (plain_deeds a && plain_deeds b) h in
        let r = and_parts (plain_deeds a) (plain_deeds b) s.1 in
        matches_if (term_matches t d s.0) (deeds_match a _ r.0) (deeds_match b _ r.1)
    deed_matches (while t a) d h = let s = and_parts (plain_term t) (plain_deeds a) h in matches_while d (term_matches t d s.0) (deeds_match a _ s.1)
    deed_matches (each_key x y a) d h = no h
    deed_matches next_line d h = matches_lone _ refl
    deed_matches (exit t) d h = matches_seq (term_matches t d h) (matches_lone _ refl)
    deed_matches (forget x t) d h = no h
    deed_matches (give t) d h = no h

    deeds_match : (es : Deeds) (d : ℕ) → plain_deeds es ≡ true → Matches (deeds_code c es d) (deeds_ops es)
    deeds_match no_deeds d h = matches_note (note_all d) refl matches_none
    deeds_match (deed_and e es) d h = let s = and_parts (plain_deed e) (plain_deeds es) h in matches_note (note_all d) refl (matches_seq (deed_matches e d s.0) (deeds_match es d s.1))

  rule_matches : (b : Bool) (u : Rule) → plain_rule u ≡ true → Matches (rule_code c b u) (rule_ops b u)
  rule_matches true u h = let s = and_parts (plain_term u.test) (plain_deeds u.deeds) h in matches_test (term_matches u.test 0 s.0) (deeds_match u.deeds 0 s.1)
  rule_matches false u h = deeds_match u.deeds 0 (and_parts (plain_term u.test) (plain_deeds u.deeds) h).1

  rules_match : (us : List Rule) → every plain_rule us ≡ true → Matches (rules_code c us) (rules_ops us)
  unfolding rules_ops
  rules_match [] h = matches_none
  rules_match (u ∷ us) h = let s = and_parts (plain_rule u) (every plain_rule us) h in matches_seq (rule_matches (eqb u.kind 3) u s.0) (rules_match us s.1)

  stage_matches : (us : List Rule) → every plain_rule us ≡ true → Matches (stage_code c us) (stage_ops us)
  stage_matches us h = matches_seq (rules_match us h) (matches_lone _ refl)

-- some of the rules are as plain as all of them
every_those : {A : Type 0} (q r : A → Bool) (xs : List A) → every q xs ≡ true → every q (those r xs) ≡ true
every_those q r [] h = refl
every_those q r (x ∷ xs) h = let s = and_parts (q x) (every q xs) h in by_test (r x) s.0 (every_those q r xs s.1)
  where
    by_test : (b : Bool) → q x ≡ true → every q (those r xs) ≡ true → every q (pick b (x ∷ those r xs) (those r xs)) ≡ true
    by_test true f g = rw f g
    by_test false f g = g

-- LEAN PLACES go up along the code
rises_on : (f g : ℕ → ℕ) (b : Bool) → ((q : ℕ) → f (suc q) ≡ pick b (g q) (suc (g q))) → (is : List Instr) (p : ℕ) → Rises g p is → Rises f (suc p) is
rises_on f g b h [] p r = tt
rises_on f g b h (i ∷ is) p r =
    (h (suc p) ∙ ap (λ z. pick b z (suc z)) r.0 ∙ crossed b (is_note i) (g p) ∙ ap (λ z. on i z) (sym (h p)), rises_on f g b h is (suc p) r.1)
  where
    crossed : (b c : Bool) (k : ℕ) → pick b (pick c k (suc k)) (suc (pick c k (suc k))) ≡ pick c (pick b k (suc k)) (suc (pick b k (suc k)))
    crossed true true k = refl
    crossed true false k = refl
    crossed false true k = refl
    crossed false false k = refl

rises_lean : (is : List Instr) → Rises (lean_place is) 0 is
unfolding lean_place
rises_lean [] = tt
rises_lean (i ∷ is) = (ap (λ z. on i z) (lean_first is), rises_on (lean_place (i ∷ is)) (lean_place is) (is_note i) (λ q. refl) is 0 (rises_lean is))

-- WHOLE PROGRAMS without functions
abbrev of_rules : List Rule → Program
of_rules us = record { rules = us; funs = [] }

generated_rules : (us : List Rule) → every plain_rule us ≡ true → Generates (of_rules us)
unfolding assemble entries program_ops program_starts
generated_rules us h =
    let p = of_rules us in
    let c = calls_of [] in
    let x = stage_code c (of_kind 0 us) in
    let y = stage_code c (for_lines us) in
    let z = stage_code c (of_kind 1 us) in
    let e = code.entries p in
    let is = program_code p in
    let to = lean_place is in
    let r = rises_lean is in
    let a = begin_ops p in
    let b = line_ops p in
    let r₁ = rises_second to (x 0) (y e.at_line ++ z e.at_end) 0 r in
    let ga = (stage_matches c (of_kind 0 us) (every_those _ _ us h)).at to 0 0 [] (rises_first to (x 0) (y e.at_line ++ z e.at_end) 0 r) (lean_first is) in
    let t : to e.at_line ≡ length a.ops = ga.ends ∙ omega arith in
    let gb = (stage_matches c (for_lines us) (every_those _ _ us h)).at to e.at_line (length a.ops) a.pool (rises_first to (y e.at_line) (z e.at_end) e.at_line r₁) t in
    let gz = (stage_matches c (of_kind 1 us) (every_those _ _ us h)).at to e.at_end (length b.ops + length a.ops) b.pool (rises_second to (y e.at_line) (z e.at_end) e.at_line r₁) gb.ends in
    let n : length a.ops ≡ length a.ops + 0 = omega arith in
    let gy = subst (λ k. Gives to e.at_line k (y e.at_line ++ z e.at_end) a.pool (made (b.ops ++ (end_ops p).ops) (end_ops p).pool)) n (gives_both to gb gz) in
    record { same_code = (gives_both to ga gy).same; same_starts = λ i. record { at_begin = lean_first is i; at_line = t i; at_end = gb.ends i } }

pub generated : Generated
unfolding core
generated p h = let s = and_parts (none_of p.funs) (every plain_rule p.rules) h in by_functions p.funs s.0 (generated_rules p.rules s.1)
  where
    by_functions : (fs : List Fun) → none_of fs ≡ true → Generates (of_rules p.rules) → Generates (record { rules = p.rules; funs = fs })
    by_functions [] e g = g
    by_functions (f ∷ fs) e g = no e
