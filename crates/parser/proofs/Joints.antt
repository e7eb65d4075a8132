-- What binds behind an operand, in memory.
use Rattle.std.proofs.Common.{◌≡◌, ℕ, zero, suc, ◌+◌, ◌-◌, ◌<◌, ◌≤◌, Bool, true, false, ◌&&◌, leb, List, [], ◌∷◌, Some, None, sym, refl, ap, ◌∙◌, ap₂, arith, le-leb, leb-true}
use Rattle.language.specs.Text.{pick, or, Pattern}
use Rattle.language.specs.Program
use Rattle.language.specs.Program.{Term, un, like, there, none, got, with_got, Reads, sees, sees_word, rest, pattern_here, name_of, w_in, compare_sign}
use Rattle.lexer.specs.Memory.{cell}
use Rattle.lexer.specs.Marks.{Seen}
use Rattle.lexer.specs.declared.tokens.Token.{Token}
use Rattle.parser.specs.declared.nodes.TermNode.{TermNode}
use Rattle.parser.specs.declared.frames.Frame.{Frame}
use Rattle.parser.specs.declared.frames.Spot.{Spot}
use Rattle.parser.specs.declared.frames.Turn.{Turn}
use Rattle.parser.specs.Nodes.{Tree, operator_number, a_place, term_of}
use Rattle.parser.specs.Levels.{Enough, level_of, tests, more}
use Rattle.parser.specs.Frames.{Begun, in_bin, in_set, low, before, behind, FrameSays, Behind, Ended, Room, effort, Pays, Pushed, Grown}
use Rattle.lexer.specs.Places.{fuel, toks}
use Rattle.parser.specs.Precedence.{level_at, operator_at, low_at, Binds, LikeSign}
use Rattle.lexer.proofs.Picks.{picked, left_out}
use Rattle.lexer.proofs.Reach.{rest_toks}
use Rattle.parser.proofs.Moves.{enough, failed_goes, pushed_goes, grown_goes, goes_after, place_is}
use Rattle.parser.proofs.Keeping.{stack_kept}
use Rattle.language.specs.Known.{plain_term}
use Rattle.parser.proofs.Climb.{chain_finds}
use Rattle.parser.proofs.Binding.{sets, ors_on, ands_on, compares_on, joins_on, sums_on, products_on, likes_on, none_binds}
use Rattle.parser.proofs.Precedences.{level_is, low_is, op_or, op_and, op_compare, op_add, op_multiply}

-- an operator between two sides
operator_on : (bs : List ℕ) (N : ℕ) (fs : List Begun) (h : ℕ) (a : Term) (t : Token) (us : List Program.Token) (k : ℕ) → Enough N us → Seen bs (Some t) us → low fs ≤ k → k < h → h ≤ 8 → level_of a us ≡ suc k →
    (k ≡ 0 → ⊥) → (k ≡ 3 → ⊥) → (k ≡ 5 → ⊥) → before N (in_bin k (operator_number (operator_at t)) a ∷ fs) (rest us) ≡ behind N fs h a us
operator_on bs N fs h a t us zero e x p q r l n₀ n₃ n₅ = absurd (n₀ refl)
operator_on bs N fs h a t us (suc zero) e x p q r l n₀ n₃ n₅ = ap (λ o. before N (in_bin 1 o a ∷ fs) (rest us)) (op_or bs a t us x l) ∙ ors_on N fs h a us e p q l
operator_on bs N fs h a t us (suc (suc zero)) e x p q r l n₀ n₃ n₅ = ap (λ o. before N (in_bin 2 o a ∷ fs) (rest us)) (op_and bs a t us x l) ∙ ands_on N fs h a us e p q l
operator_on bs N fs h a t us (suc (suc (suc zero))) e x p q r l n₀ n₃ n₅ = absurd (n₃ refl)
operator_on bs N fs h a t us (suc (suc (suc (suc zero)))) e x p q r l n₀ n₃ n₅ = ap (λ o. before N (in_bin 4 o a ∷ fs) (rest us)) (op_compare bs a t us x l) ∙ compares_on N fs h a us e p q l
operator_on bs N fs h a t us (suc (suc (suc (suc (suc zero))))) e x p q r l n₀ n₃ n₅ = absurd (n₅ refl)
operator_on bs N fs h a t us (suc (suc (suc (suc (suc (suc zero)))))) e x p q r l n₀ n₃ n₅ = ap (λ o. before N (in_bin 6 o a ∷ fs) (rest us)) (op_add bs a t us x l) ∙ sums_on N fs h a us e p q l
operator_on bs N fs h a t us (suc (suc (suc (suc (suc (suc (suc zero))))))) e x p q r l n₀ n₃ n₅ = ap (λ o. before N (in_bin 7 o a ∷ fs) (rest us)) (op_multiply bs a t us x l) ∙ products_on N fs h a us e p q l
operator_on bs N fs h a t us (suc (suc (suc (suc (suc (suc (suc (suc k)))))))) e x p q r l n₀ n₃ n₅ = absurd (omega arith)

-- what is known where a token binds
pub record Bound (bs : List ℕ) (s : Spot) (h l : ℕ) (a : Term) (fs : List Begun) : Type 0 where
  pub level : level_of a (toks bs s.place) ≡ l
  pub tight : low fs < l
  pub high : l ≤ h
  pub top : h ≤ 8

pub bound_here : (bs m : List ℕ) (s : Spot) (i h l : ℕ) (t : Token) (g : Reads Term) → Binds bs m s i h t l → (y : Behind bs m s i h g) → Bound bs s h l y.operand y.begun
bound_here bs m s i h l t g b y =
    record {
      level = level_is bs y.operand t (toks bs s.place) b.seen ∙ ap (level_at t) (sym (place_is bs m s.nodes i y.operand y.tree)) ∙ sym b.level_is;
      tight = omega (arith, low_is bs m s.nodes s.depth y.begun y.stack, b.tighter);
      high = b.within;
      top = y.high;
    }

module _ (bs m m₁ : List ℕ) (count : ℕ) (s : Spot) (i h l : ℕ) (t : Token) (room : Room count s.nodes 1 s) (b : Binds bs m s i h t l) where
  push_room : (k : ℕ) → s.place + k ≤ count → Room count s.nodes 0 (record { place = s.place + k; depth = s.depth + 1; nodes = s.nodes })
  push_room k q = record { within = q; few = room.few; frames = omega (arith, room.frames); low = room.low; grown = omega arith; nodes = omega (arith, room.nodes) }

  pub bind_set : (f : Frame) (r : Turn) → Pushed m m₁ s f 1 r → s.place + 1 ≤ count → l ≡ 1 → ((a : Term) → Tree bs m s.nodes i a → FrameSays bs m s.nodes f (in_set a)) →
      Pays bs m m₁ count s.nodes (effort count s + 3) (Behind bs m s i h) (Some r)
  bind_set f r w q e x =
      pushed_goes bs m m₁ count (effort count s + 3) (Behind bs m s i h) s f 1 r w (push_room 1 q) (omega arith) (λ g y.
      let z = bound_here bs m s i h l t g b y in (
        y.begun,
        in_set y.operand,
        y.stack,
        x y.operand y.tree,
        ap (λ us. before (fuel bs) (in_set y.operand ∷ y.begun) us) (sym (rest_toks bs s.place)) ∙ sets (fuel bs) y.begun h y.operand (toks bs s.place) (enough bs s.place) (omega (arith, z.tight)) (omega (arith, z.high)) (z.level ∙ e) ∙ y.means,
      ))

  pub bind_join : (f : Frame) (r : Turn) → Pushed m m₁ s f 0 r → l ≡ 6 → ((a : Term) → Tree bs m s.nodes i a → FrameSays bs m s.nodes f (in_bin 5 11 a)) →
      Pays bs m m₁ count s.nodes (effort count s + 3) (Behind bs m s i h) (Some r)
  bind_join f r w e x =
      pushed_goes bs m m₁ count (effort count s + 3) (Behind bs m s i h) s f 0 r w (push_room 0 (omega (arith, room.within))) (omega arith) (λ g y.
      let z = bound_here bs m s i h l t g b y in
      let p : s.place + 0 ≡ s.place = omega arith in (
        y.begun,
        in_bin 5 11 y.operand,
        y.stack,
        x y.operand y.tree,
        ap (λ k. before (fuel bs) (in_bin 5 11 y.operand ∷ y.begun) (toks bs k)) p ∙ joins_on (fuel bs) y.begun h y.operand (toks bs s.place) (enough bs s.place) (omega (arith, z.tight)) (omega (arith, z.high)) (z.level ∙ e) ∙ y.means,
      ))

  pub bind_operator : (f : Frame) (r : Turn) → Pushed m m₁ s f 1 r → s.place + 1 ≤ count → (l ≡ 1 → ⊥) → (l ≡ 4 → ⊥) → (l ≡ 6 → ⊥) →
      ((k : ℕ) (a : Term) → l ≡ suc k → k ≤ 7 → Tree bs m s.nodes i a → FrameSays bs m s.nodes f (in_bin k (operator_number (operator_at t)) a)) →
      Pays bs m m₁ count s.nodes (effort count s + 3) (Behind bs m s i h) (Some r)
  bind_operator f r w q n₁ n₄ n₆ x =
      pushed_goes bs m m₁ count (effort count s + 3) (Behind bs m s i h) s f 1 r w (push_room 1 q) (omega arith) (λ g y.
      let z = bound_here bs m s i h l t g b y in
      let k : ℕ = l - 1 in
      let e : l ≡ suc (l - 1) = omega (arith, z.tight) in (
        y.begun,
        in_bin (l - 1) (operator_number (operator_at t)) y.operand,
        y.stack,
        x (l - 1) y.operand e (omega (arith, z.high, z.top)) y.tree,
        ap (λ us. before (fuel bs) (in_bin (l - 1) (operator_number (operator_at t)) y.operand ∷ y.begun) us) (sym (rest_toks bs s.place))
            ∙ operator_on bs (fuel bs) y.begun h y.operand t (toks bs s.place) (l - 1) (enough bs s.place) b.seen (omega (arith, z.tight)) (omega (arith, z.high, e)) z.top (z.level ∙ e) (λ v. n₁ (omega arith)) (λ v. n₄ (omega arith)) (λ v. n₆ (omega arith)) ∙ y.means,
      ))

  -- ~ !~ and in
  pub bind_once : {A : Type 0} (x : TermNode) (p : Bool) (r : Turn) (u : A) (f : Term → A → Term) (get : List Program.Token → Reads A) → Grown m m₁ s x p 2 3 r → s.place + 2 ≤ count → l ≡ 4 →
      ((a : Term) → Tree bs m s.nodes i a → Tree bs m₁ (s.nodes + 1) s.nodes (f a u)) →
      ((a : Term) → level_of a (toks bs s.place) ≡ 4 → more (fuel bs) 3 a (toks bs s.place) ≡ with_got (get (toks bs (s.place + 1))) (λ v ws. got (f a v) ws)) →
      get (toks bs (s.place + 1)) ≡ got u (toks bs (s.place + 2)) → Pays bs m m₁ count s.nodes (effort count s + 3) (Behind bs m s i h) (Some r)
  bind_once x p r u f get w q e tr mo gt =
      grown_goes bs m m₁ count (effort count s + 3) (Behind bs m s i h) s x p 2 3 r w (omega arith)
      (record { within = q; few = room.few; frames = omega (arith, room.frames); low = room.low; grown = omega arith; nodes = omega (arith, room.nodes) }) (omega arith)
      (λ g y.
      let z = bound_here bs m s i h l t g b y in (
        y.begun,
        f y.operand u,
        y.stack,
        tr y.operand y.tree,
        sym (ap (λ v. with_got v (λ c ws. behind (fuel bs) y.begun 3 (f y.operand c) ws)) gt)
            ∙ likes_on (fuel bs) y.begun h y.operand (toks bs s.place) (enough bs s.place) (get (toks bs (s.place + 1))) (f y.operand) (omega (arith, z.tight)) (omega (arith, z.high)) (z.level ∙ e) (mo y.operand (z.level ∙ e)) ∙ y.means,
      ))

  pub bind_none : {A : Type 0} (f : Term → A → Term) (get : List Program.Token → Reads A) → l ≡ 4 →
      ((a : Term) → level_of a (toks bs s.place) ≡ 4 → more (fuel bs) 3 a (toks bs s.place) ≡ with_got (get (toks bs (s.place + 1))) (λ v ws. got (f a v) ws)) →
      get (toks bs (s.place + 1)) ≡ none → Pays bs m m count s.nodes (effort count s + 3) (Behind bs m s i h) None
  bind_none f get e mo gt =
      failed_goes bs m count s.nodes (effort count s + 3) (Behind bs m s i h) (λ g y.
      let z = bound_here bs m s i h l t g b y in
      sym (ap (λ v. with_got v (λ c ws. behind (fuel bs) y.begun 3 (f y.operand c) ws)) gt)
      ∙ likes_on (fuel bs) y.begun h y.operand (toks bs s.place) (enough bs s.place) (get (toks bs (s.place + 1))) (f y.operand) (omega (arith, z.tight)) (omega (arith, z.high)) (z.level ∙ e) (mo y.operand (z.level ∙ e)) ∙ y.means)

-- the same with a node more before it
pub bind_once_more : {A : Type 0} (bs m m₁ m₂ : List ℕ) (count : ℕ) (s : Spot) (i h l : ℕ) (t : Token) → Room count s.nodes 1 s → Binds bs m s i h t l → (x : TermNode) (p : Bool) (r : Turn) (u : A) (f : Term → A → Term) (get : List Program.Token → Reads A) →
    ((j : ℕ) → (j ≡ s.nodes → ⊥) → cell m₁ j ≡ cell m j) → Grown m₁ m₂ (record { place = s.place; depth = s.depth; nodes = s.nodes + 1 }) x p 2 3 r → s.place + 2 ≤ count → l ≡ 4 →
    ((a : Term) → Tree bs m s.nodes i a → Tree bs m₂ (s.nodes + 1 + 1) (s.nodes + 1) (f a u)) →
    ((a : Term) → level_of a (toks bs s.place) ≡ 4 → more (fuel bs) 3 a (toks bs s.place) ≡ with_got (get (toks bs (s.place + 1))) (λ v ws. got (f a v) ws)) →
    get (toks bs (s.place + 1)) ≡ got u (toks bs (s.place + 2)) → Pays bs m m₂ count s.nodes (effort count s + 3) (Behind bs m s i h) (Some r)
bind_once_more bs m m₁ m₂ count s i h l t room b x p r u f get o w q e tr mo gt =
    let s₁ : Spot = record { place = s.place; depth = s.depth; nodes = s.nodes + 1 } in
    goes_after bs m m₁ m₂ count s.nodes (s.nodes + 1) (effort count s + 3) (effort count s + 1) (Behind bs m s i h) (Behind bs m s i h) (Some r) (omega arith) room.low (omega arith) (λ j a c. o j (λ z. omega arith)) (λ g y. y)
    (grown_goes bs m₁ m₂ count (effort count s + 1) (Behind bs m s i h) s₁ x p 2 3 r w (omega arith)
    (record { within = q; few = room.few; frames = omega (arith, room.frames); low = omega (arith, room.low); grown = omega arith; nodes = omega (arith, room.nodes) }) (omega arith)
    (λ g y.
    let z = bound_here bs m s i h l t g b y in (
      y.begun,
      f y.operand u,
      stack_kept bs m m₁ s.nodes (s.nodes + 1) (λ j a c. o j (λ v. omega arith)) (omega arith) s.depth y.begun (λ k v. o (21120 + k) (λ v. omega (arith, room.nodes, room.within, room.few))) y.stack,
      tr y.operand y.tree,
      sym (ap (λ v. with_got v (λ c ws. behind (fuel bs) y.begun 3 (f y.operand c) ws)) gt)
          ∙ likes_on (fuel bs) y.begun h y.operand (toks bs s.place) (enough bs s.place) (get (toks bs (s.place + 1))) (f y.operand) (omega (arith, z.tight)) (omega (arith, z.high)) (z.level ∙ e) (mo y.operand (z.level ∙ e)) ∙ y.means,
    )))

pub not_plain : (a : Term) (p : Pattern) → false ≡ (leb 0 1 && plain_term (like a p))
unfolding plain_term
not_plain a p = refl

-- what ~ !~ and in go on with
like_more : (bs : List ℕ) (p : ℕ) → sees 126 (toks bs p) ≡ true → (a : Term) → level_of a (toks bs p) ≡ 4 → more (fuel bs) 3 a (toks bs p) ≡ with_got (pattern_here (toks bs (p + 1))) (λ x vs. got (like a x) vs)
like_more bs p t a l = picked (sees 126 (toks bs p)) _ _ t ∙ ap (λ us. with_got (pattern_here us) (λ x vs. got (like a x) vs)) (rest_toks bs p)

unlike_more : (bs : List ℕ) (p : ℕ) → sees 126 (toks bs p) ≡ false → sees 7 (toks bs p) ≡ true → (a : Term) → level_of a (toks bs p) ≡ 4 → more (fuel bs) 3 a (toks bs p) ≡ with_got (pattern_here (toks bs (p + 1))) (λ x vs. got (un 0 (like a x)) vs)
unlike_more bs p t u a l = left_out (sees 126 (toks bs p)) _ _ t ∙ picked (sees 7 (toks bs p)) _ _ u ∙ ap (λ us. with_got (pattern_here us) (λ x vs. got (un 0 (like a x)) vs)) (rest_toks bs p)

pub like_on : (bs : List ℕ) (p : ℕ) (b : Bool) → LikeSign (toks bs p) b → (a : Term) → level_of a (toks bs p) ≡ 4 →
    more (fuel bs) 3 a (toks bs p) ≡ with_got (pattern_here (toks bs (p + 1))) (λ x vs. got (pick b (un 0 (like a x)) (like a x)) vs)
like_on bs p false t a l = like_more bs p t a l
like_on bs p true t a l = unlike_more bs p t.0 t.1 a l

pub in_more : (bs : List ℕ) (p : ℕ) → sees 126 (toks bs p) ≡ false → sees 7 (toks bs p) ≡ false → (a : Term) → level_of a (toks bs p) ≡ 4 → more (fuel bs) 3 a (toks bs p) ≡ with_got (name_of (toks bs (p + 1))) (λ x vs. got (there a x) vs)
in_more bs p t u a l =
    left_out (sees 126 (toks bs p)) _ _ t ∙ left_out (sees 7 (toks bs p)) _ _ u ∙ picked (sees_word w_in (toks bs p)) _ _ v ∙ ap (λ us. with_got (name_of us) (λ x vs. got (there a x) vs)) (rest_toks bs p)
  where
    v : sees_word w_in (toks bs p) ≡ true
    v = sym (ap₂ (λ x y. or x (or y (sees_word w_in (toks bs p)))) t u) ∙ chain_finds 0 (tests a (toks bs p)) 3 l

-- whether something binds, from the test
and_both : (a b : Bool) → (a && b) ≡ true → (a ≡ true) × (b ≡ true)
and_both true b h = (refl, h)
and_both false b h = let z : ◌≡◌ {A = ℕ} 0 1 = cc in absurd (omega arith)

pub binds_from : (bs m : List ℕ) (s : Spot) (i h : ℕ) (t : Token) (l : ℕ) → Seen bs (Some t) (toks bs s.place) → l ≡ level_at t (a_place (term_of (cell m i))) → (leb (suc (low_at m s.depth)) l && leb l h) ≡ true → Binds bs m s i h t l
binds_from bs m s i h t l x e q =
    let y = and_both (leb (suc (low_at m s.depth)) l) (leb l h) q in
    record { seen = x; level_is = e; tighter = leb-true (suc (low_at m s.depth)) l y.0; within = leb-true l h y.1 }

pub ends_from : (bs m : List ℕ) (s : Spot) (i h : ℕ) (t : Token) (l : ℕ) (g : Reads Term) → Seen bs (Some t) (toks bs s.place) → l ≡ level_at t (a_place (term_of (cell m i))) → (leb (suc (low_at m s.depth)) l && leb l h) ≡ false →
    Behind bs m s i h g → Ended bs m s i g
ends_from bs m s i h t l g x e q y =
    let v : level_of y.operand (toks bs s.place) ≡ l = level_is bs y.operand t (toks bs s.place) x ∙ ap (level_at t) (sym (place_is bs m s.nodes i y.operand y.tree)) ∙ sym e in
    let w = low_is bs m s.nodes s.depth y.begun y.stack in
    record {
      begun = y.begun;
      operand = y.operand;
      stack = y.stack;
      tree = y.tree;
      means = none_binds (fuel bs) y.begun h y.operand (toks bs s.place) (enough bs s.place) (λ k a b z.
          let c₁ : leb (suc (low_at m s.depth)) l ≡ true = le-leb (suc (low_at m s.depth)) l (omega arith) in
          let c₂ : leb l h ≡ true = le-leb l h (omega arith) in
          let r : ◌≡◌ {A = Bool} true false = sym (ap₂ (λ a b. a && b) c₁ c₂) ∙ q in
          let u : ◌≡◌ {A = ℕ} 0 1 = cc in omega arith) ∙ y.means;
    }

-- behind the last token nothing binds
pub ends_last : (bs m : List ℕ) (s : Spot) (i h : ℕ) (g : Reads Term) → toks bs s.place ≡ [] → Behind bs m s i h g → Ended bs m s i g
unfolding compare_sign
ends_last bs m s i h g x y =
    let v : level_of y.operand (toks bs s.place) ≡ 0 = ap (level_of y.operand) x in
    record { begun = y.begun; operand = y.operand; stack = y.stack; tree = y.tree; means = none_binds (fuel bs) y.begun h y.operand (toks bs s.place) (enough bs s.place) (λ k a b z. omega arith) ∙ y.means }
