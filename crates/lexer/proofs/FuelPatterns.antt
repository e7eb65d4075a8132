-- The fuel of patterns is always enough, too: four for each byte, and four.
use Rattle.std.proofs.Common.{◌≡◌, ℕ, zero, suc, ◌+◌, ◌*◌, ◌<◌, ◌≤◌, Bool, true, false, ◌&&◌, eqb, List, [], ◌∷◌, length, refl, arith}
use Rattle.language.specs.Text.{pick, or, none_of, Pattern, nothing, both, either, Span}
use Rattle.language.specs.Program.{got, with_got, next_is, less_one, spans, repeated, pattern, row, marks, atom}
use Rattle.lexer.proofs.Picks.{pick_same}
use Rattle.lexer.proofs.Within.{Within, within_pick, within_more, after, then_same, then_only}

less_less : (cs : List ℕ) → length (less_one cs) ≤ length cs
less_less [] = omega arith
less_less (c ∷ cs) = omega arith

next_more : (d : ℕ) (cs : List ℕ) → next_is d cs ≡ true → length (less_one cs) < length cs
next_more d [] h = let z : ◌≡◌ {A = ℕ} 0 1 = cc in absurd (omega arith)
next_more d (c ∷ cs) h = omega arith

WSpans : (n : ℕ) (ss : List Span) (b : Bool) (cs : List ℕ) → Within (length cs) (spans n ss b cs)
unfolding spans
WSpans zero ss b cs = tt
WSpans (suc n) ss b [] = tt
WSpans (suc n) ss b (c ∷ cs) =
    within_pick (suc (length cs)) (eqb c 93 && pick b false true) _ _ (omega arith)
    (within_pick (suc (length cs)) (next_is 45 cs && pick (next_is 93 (less_one cs)) false (pick (none_of (less_one cs)) false true)) _ _
    (within_more _ (suc (length cs)) (spans n _ false (less_one (less_one cs))) (omega (arith, less_less cs, less_less (less_one cs))) (WSpans n _ false (less_one (less_one cs))))
    (within_more _ (suc (length cs)) (spans n _ false cs) (omega arith) (WSpans n _ false cs)))

pub SSpans : (n m : ℕ) (ss : List Span) (b : Bool) (cs : List ℕ) → length cs ≤ n → length cs ≤ m → spans n ss b cs ≡ spans m ss b cs
unfolding spans
SSpans zero zero ss b cs p q = refl
SSpans zero (suc m) ss b [] p q = refl
SSpans zero (suc m) ss b (c ∷ cs) p q = absurd (omega arith)
SSpans (suc n) zero ss b [] p q = refl
SSpans (suc n) zero ss b (c ∷ cs) p q = absurd (omega arith)
SSpans (suc n) (suc m) ss b [] p q = refl
SSpans (suc n) (suc m) ss b (c ∷ cs) p q =
    pick_same (eqb c 93 && pick b false true) refl
    (pick_same (next_is 45 cs && pick (next_is 93 (less_one cs)) false (pick (none_of (less_one cs)) false true))
    (SSpans n m _ false (less_one (less_one cs)) (omega (arith, less_less cs, less_less (less_one cs))) (omega (arith, less_less cs, less_less (less_one cs))))
    (SSpans n m _ false cs (omega arith) (omega arith)))

mutual
  unfolding pattern row marks atom

  WPattern : (n : ℕ) (cs : List ℕ) → Within (suc (length cs)) (pattern n cs)
  WPattern zero cs = tt
  WPattern (suc n) cs =
      after _ (row n nothing cs) _ (WRow n nothing cs) (λ p ds h. within_pick _ (next_is 124 ds) _ _
      (after _ (pattern n (less_one ds)) _ (WPattern n (less_one ds)) (λ q es k. omega (arith, less_less ds))) h)

  WRow : (n : ℕ) (p : Pattern) (cs : List ℕ) → Within (suc (length cs)) (row n p cs)
  WRow zero p cs = tt
  WRow (suc n) p [] = omega arith
  WRow (suc n) p (c ∷ cs) =
      within_pick _ (or (eqb c 124) (eqb c 41)) _ _ (omega arith)
      (after _ (atom n (c ∷ cs)) _ (WAtom n (c ∷ cs)) (λ q ds h. after _ (marks n q ds) _ (WMarks n q ds) (λ r es k. within_more _ _ (row n (both p r) es) (omega arith) (WRow n (both p r) es))))

  WMarks : (n : ℕ) (p : Pattern) (cs : List ℕ) → Within (suc (length cs)) (marks n p cs)
  WMarks zero p cs = tt
  WMarks (suc n) p [] = omega arith
  WMarks (suc n) p (c ∷ cs) = within_pick _ (or (eqb c 42) (or (eqb c 43) (eqb c 63))) _ _ (within_more _ _ (marks n (repeated c p) cs) (omega arith) (WMarks n (repeated c p) cs)) (omega arith)

  WAtom : (n : ℕ) (cs : List ℕ) → Within (length cs) (atom n cs)
  WAtom zero cs = tt
  WAtom (suc n) [] = tt
  WAtom (suc n) (c ∷ cs) =
      within_pick (suc (length cs)) (or (eqb c 42) (or (eqb c 43) (eqb c 63))) _ _ tt
      (within_pick (suc (length cs)) (eqb c 40) _ _ (after (suc (length cs)) (pattern n cs) _ (WPattern n cs) (λ p ds h. within_pick (suc (length cs)) (next_is 41 ds) _ _ (omega (arith, less_less ds)) tt))
      (within_pick (suc (length cs)) (eqb c 46) _ _ (omega arith) (within_pick (suc (length cs)) (eqb c 94) _ _ (omega arith) (within_pick (suc (length cs)) (eqb c 36) _ _ (omega arith)
      (within_pick (suc (length cs)) (eqb c 92) _ _ (within_pick (suc (length cs)) (none_of cs) _ _ tt (omega (arith, less_less cs)))
      (within_pick (suc (length cs)) (eqb c 91) _ _ (within_pick (suc (length cs)) (next_is 94 cs) _ _
      (after (suc (length cs)) (spans n [] true (less_one cs)) _ (WSpans n [] true (less_one cs)) (λ ss ds h. omega (arith, less_less cs)))
      (after (suc (length cs)) (spans n [] true cs) _ (WSpans n [] true cs) (λ ss ds h. omega arith)))
      (omega arith)))))))

bar_same : (n m k : ℕ) (p : Pattern) (ds : List ℕ) → length ds < suc k → ((es : List ℕ) → length es < k → pattern n es ≡ pattern m es) →
    pick (next_is 124 ds) (with_got (pattern n (less_one ds)) (λ q es. got (either p q) es)) (got p ds) ≡ pick (next_is 124 ds) (with_got (pattern m (less_one ds)) (λ q es. got (either p q) es)) (got p ds)
bar_same n m k p [] h r = refl
bar_same n m k p (d ∷ ds) h r = pick_same (eqb d 124) (then_only (pattern n ds) (pattern m ds) _ (r ds (omega arith))) refl

mutual
  unfolding pattern row marks atom

  pub SPattern : (n m : ℕ) (cs : List ℕ) → 4 * length cs + 3 ≤ n → 4 * length cs + 3 ≤ m → pattern n cs ≡ pattern m cs
  SPattern zero m cs p q = absurd (omega arith)
  SPattern (suc n) zero cs p q = absurd (omega arith)
  SPattern (suc n) (suc m) cs p q =
      then_same (row n nothing cs) _ _ _ (WRow n nothing cs) (SRow n m nothing cs (omega arith) (omega arith)) (λ r ds h. bar_same n m (length cs) r ds h (λ es k. SPattern n m es (omega arith) (omega arith)))

  pub SRow : (n m : ℕ) (p : Pattern) (cs : List ℕ) → 4 * length cs + 2 ≤ n → 4 * length cs + 2 ≤ m → row n p cs ≡ row m p cs
  SRow zero m p cs h k = absurd (omega arith)
  SRow (suc n) zero p cs h k = absurd (omega arith)
  SRow (suc n) (suc m) p [] h k = refl
  SRow (suc n) (suc m) p (c ∷ cs) h k =
      pick_same (or (eqb c 124) (eqb c 41)) refl
      (then_same (atom n (c ∷ cs)) _ _ _ (WAtom n (c ∷ cs)) (SAtom n m (c ∷ cs) (omega arith) (omega arith)) (λ q ds e.
      then_same (marks n q ds) _ _ _ (WMarks n q ds) (SMarks n m q ds (omega arith) (omega arith)) (λ r es f. SRow n m (both p r) es (omega arith) (omega arith))))

  pub SMarks : (n m : ℕ) (p : Pattern) (cs : List ℕ) → length cs + 1 ≤ n → length cs + 1 ≤ m → marks n p cs ≡ marks m p cs
  SMarks zero m p cs h k = absurd (omega arith)
  SMarks (suc n) zero p cs h k = absurd (omega arith)
  SMarks (suc n) (suc m) p [] h k = refl
  SMarks (suc n) (suc m) p (c ∷ cs) h k = pick_same (or (eqb c 42) (or (eqb c 43) (eqb c 63))) (SMarks n m (repeated c p) cs (omega arith) (omega arith)) refl

  pub SAtom : (n m : ℕ) (cs : List ℕ) → 4 * length cs + 1 ≤ n → 4 * length cs + 1 ≤ m → atom n cs ≡ atom m cs
  SAtom zero m cs h k = absurd (omega arith)
  SAtom (suc n) zero cs h k = absurd (omega arith)
  SAtom (suc n) (suc m) [] h k = refl
  SAtom (suc n) (suc m) (c ∷ cs) h k =
      pick_same (or (eqb c 42) (or (eqb c 43) (eqb c 63))) refl
      (pick_same (eqb c 40) (then_only (pattern n cs) (pattern m cs) _ (SPattern n m cs (omega arith) (omega arith)))
      (pick_same (eqb c 46) refl (pick_same (eqb c 94) refl (pick_same (eqb c 36) refl (pick_same (eqb c 92) refl
      (pick_same (eqb c 91) (pick_same (next_is 94 cs) (then_only (spans n [] true (less_one cs)) (spans m [] true (less_one cs)) _ (SSpans n m [] true (less_one cs) (omega (arith, less_less cs)) (omega (arith, less_less cs))))
      (then_only (spans n [] true cs) (spans m [] true cs) _ (SSpans n m [] true cs (omega arith) (omega arith)))) refl))))))
