-- Turns of reading an expression, in memory: a frame more, a node more, a failure.
use Rattle.std.proofs.Common.{◌≡◌, ℕ, zero, suc, ◌+◌, ◌*◌, ◌<◌, ◌≤◌, Bool, true, false, not, ◌&&◌, eqb, leb, List, [], ◌∷◌, length, drop, Some, None, Option, sym, refl, ap, ◌∙◌, subst, arith}
use mir.Val.{bool_byte}
use Rattle.language.specs.Text.{Pattern}
use Rattle.language.specs.Program
use Rattle.language.specs.Program.{Term, num, txt, var, item, field, un, bin, like, there, put_in, call, part, split, swap, Terms, no_terms, term_and, none, Reads, cut_up, can_set}
use Rattle.language.specs.Known.{plain_term, plain_terms}
use Rattle.lexer.specs.Memory.{cell, Kept}
use Rattle.lexer.specs.declared.tokens.Name.{Name}
use Rattle.parser.specs.declared.nodes.Prefix.{Prefix}
use Rattle.parser.specs.declared.nodes.Operator.{Operator}
use Rattle.parser.specs.declared.nodes.TermNode.{TermNode}
use Rattle.parser.specs.declared.nodes.TermNode.TheVariants.{Number, Text, Variable, Item, Field, Unary, Binary, Like, There, Assign, Call, Part, Split, Swap}
use Rattle.parser.specs.declared.nodes.ListNode.TheVariants.{Empty, More as Longer}
use Rattle.parser.specs.declared.frames.Frame.{Frame}
use Rattle.parser.specs.declared.frames.Frame.TheVariants.{Infix, Prefixed, Dollar, Assigning, Group, Indexing, Measuring, IndexFirst, IndexSecond, PartFirst, PartSecond, PartThird, SplitFirst, SwapFirst, SwapSecond, Arguments}
use Rattle.parser.specs.declared.frames.Spot.{Spot}
use Rattle.parser.specs.declared.frames.Turn.{Turn}
use Rattle.parser.specs.declared.frames.Turn.TheVariants.{Operand, After, Done}
use Rattle.parser.specs.Nodes.{term_of, bit, operator_number, prefix_number, At, ListAt, Tree, Chain, TermsAt, Made, Listed, a_place}
use Rattle.lexer.specs.Places.{Named, QuotedAt, PatternAt, fuel, toks}
use Rattle.parser.specs.Levels.{Enough}
use Rattle.parser.specs.Frames.{Begun, joined_terms, low, before, behind, FrameSays, Stack, frame_of, Room, Roomy, effort, Falls, Spends, Pays, Pushed, Grown, frame_low}
use Rattle.parser.proofs.Keeping.{tree_kept, terms_kept, stack_kept, top_push}

-- TOKENS

drop_shorter : (ts : List Program.Token) (p : ℕ) → length (drop p ts) + p ≤ length ts + p
drop_shorter ts zero = omega arith
drop_shorter [] (suc p) = omega arith
drop_shorter (t ∷ ts) (suc p) = omega (arith, drop_shorter ts p)

pub enough : (bs : List ℕ) (p : ℕ) → Enough (fuel bs) (toks bs p)
enough bs p = omega (arith, drop_shorter (cut_up bs) p)

-- STACKS

pub frame_low_is : (bs m : List ℕ) (n : ℕ) (f : Frame) (g : Begun) (gs : List Begun) → FrameSays bs m n f g → (low (g ∷ gs) ≡ frame_low f) × (frame_low f ≤ 8)
unfolding FrameSays
frame_low_is bs m n (Infix l o i) g gs x = (ap (λ h. low (h ∷ gs)) x.5 ∙ sym x.2, let q = x.2 in let r = x.3 in omega arith)
frame_low_is bs m n (Prefixed p) g gs x = (ap (λ h. low (h ∷ gs)) x, omega arith)
frame_low_is bs m n Dollar g gs x = (ap (λ h. low (h ∷ gs)) x, omega arith)
frame_low_is bs m n (Assigning i) g gs x = (ap (λ h. low (h ∷ gs)) x.2, omega arith)
frame_low_is bs m n Group g gs x = (ap (λ h. low (h ∷ gs)) x, omega arith)
frame_low_is bs m n (Indexing v) g gs x = (ap (λ h. low (h ∷ gs)) x.2, omega arith)
frame_low_is bs m n (Measuring p) g gs x = (ap (λ h. low (h ∷ gs)) x.0, omega arith)
frame_low_is bs m n IndexFirst g gs x = (ap (λ h. low (h ∷ gs)) x, omega arith)
frame_low_is bs m n (IndexSecond i) g gs x = (ap (λ h. low (h ∷ gs)) x.2, omega arith)
frame_low_is bs m n PartFirst g gs x = (ap (λ h. low (h ∷ gs)) x, omega arith)
frame_low_is bs m n (PartSecond i) g gs x = (ap (λ h. low (h ∷ gs)) x.2, omega arith)
frame_low_is bs m n (PartThird i j) g gs x = (ap (λ h. low (h ∷ gs)) x.4, omega arith)
frame_low_is bs m n SplitFirst g gs x = (ap (λ h. low (h ∷ gs)) x, omega arith)
frame_low_is bs m n (SwapFirst q) g gs x = (ap (λ h. low (h ∷ gs)) x.2, omega arith)
frame_low_is bs m n (SwapSecond q i) g gs x = (ap (λ h. low (h ∷ gs)) x.4, omega arith)
frame_low_is bs m n (Arguments v i) g gs x = (ap (λ h. low (h ∷ gs)) x.4, omega arith)

pub low_fits : (bs m : List ℕ) (n d : ℕ) (fs : List Begun) → Stack bs m n d fs → low fs ≤ 8
unfolding Stack
low_fits bs m n zero [] x = omega arith
low_fits bs m n zero (f ∷ fs) x = absurd x
low_fits bs m n (suc d) [] x = absurd x
low_fits bs m n (suc d) (f ∷ fs) x = let y = frame_low_is bs m n (frame_of (cell m (21120 + d))) f fs x.0 in omega (arith, y.0, y.1)

-- TURNS

-- nothing was written
pub nothing_written : (n : ℕ) (m : List ℕ) → Kept 0 n m m
nothing_written n m j a b = refl

pub failed_goes : (bs m : List ℕ) (count n e : ℕ) (P : Reads Term → Type 0) → ((g : Reads Term) → P g → none ≡ g) → Pays bs m m count n e P None
failed_goes bs m count n e P h = record { goes = record { kept = nothing_written n m; room = tt; falls = tt; meets = h }; spends = tt }

pub pushed_goes : (bs m m₁ : List ℕ) (count e : ℕ) (P : Reads Term → Type 0) (s : Spot) (f : Frame) (k : ℕ) (r : Turn) → Pushed m m₁ s f k r →
    Room count s.nodes 0 (record { place = s.place + k; depth = s.depth + 1; nodes = s.nodes }) → effort count (record { place = s.place + k; depth = s.depth + 1; nodes = s.nodes }) < e →
    ((g : Reads Term) → P g → (fs : List Begun) × (b : Begun) × Stack bs m s.nodes s.depth fs × FrameSays bs m s.nodes f b × (before (fuel bs) (b ∷ fs) (toks bs (s.place + k)) ≡ g)) →
    Pays bs m m₁ count s.nodes e P (Some r)
pushed_goes bs m m₁ count e P s f k r w room falls h =
    subst (λ t. Pays bs m m₁ count s.nodes e P (Some t)) (sym w.is)
    (record {
      goes = record {
        kept = λ j a b. w.others j (λ z. omega (arith, room.nodes, room.within, room.few));
        room = room;
        falls = falls;
        meets = λ g p.
            let y = h g p in
            record { begun = y.1 ∷ y.0; stack = top_push bs m m₁ s.nodes s.depth f y.1 y.0 w.here w.others (omega (arith, room.nodes, room.within, room.few)) y.3 y.2; means = y.4 };
      };
      spends = omega (arith, falls);
    })

-- a node was written; only the state may say that the level is at most 8
pub grown_goes_high : (bs m m₁ : List ℕ) (count e : ℕ) (P : Reads Term → Type 0) (s : Spot) (x : TermNode) (b : Bool) (k h : ℕ) (r : Turn) → Grown m m₁ s x b k h r →
    Room count s.nodes 1 (record { place = s.place + k; depth = s.depth; nodes = s.nodes + 1 }) → effort count (record { place = s.place + k; depth = s.depth; nodes = s.nodes + 1 }) + 3 < e →
    ((g : Reads Term) → P g → (fs : List Begun) × (a : Term) × Stack bs m s.nodes s.depth fs × Tree bs m₁ (s.nodes + 1) s.nodes a × (h ≤ 8) × (behind (fuel bs) fs h a (toks bs (s.place + k)) ≡ g)) →
    Pays bs m m₁ count s.nodes e P (Some r)
grown_goes_high bs m m₁ count e P s x b k h r w room falls y =
    subst (λ t. Pays bs m m₁ count s.nodes e P (Some t)) (sym w.is)
    (record {
      goes = record {
        kept = λ j p q. w.made.others j (λ z. omega arith);
        room = room;
        falls = falls;
        meets = λ g p.
            let z = y g p in
            record {
              begun = z.0;
              operand = z.1;
              stack = stack_kept bs m m₁ s.nodes (s.nodes + 1) (λ j p q. w.made.others j (λ z. omega arith)) (omega arith) s.depth z.0 (λ i q. w.made.others (21120 + i) (λ z. omega (arith, room.nodes, room.within, room.few))) z.2;
              tree = z.3;
              high = z.4;
              means = z.5;
            };
      };
      spends = omega (arith, falls);
    })

pub grown_goes : (bs m m₁ : List ℕ) (count e : ℕ) (P : Reads Term → Type 0) (s : Spot) (x : TermNode) (b : Bool) (k h : ℕ) (r : Turn) → Grown m m₁ s x b k h r → h ≤ 8 →
    Room count s.nodes 1 (record { place = s.place + k; depth = s.depth; nodes = s.nodes + 1 }) → effort count (record { place = s.place + k; depth = s.depth; nodes = s.nodes + 1 }) + 3 < e →
    ((g : Reads Term) → P g → (fs : List Begun) × (a : Term) × Stack bs m s.nodes s.depth fs × Tree bs m₁ (s.nodes + 1) s.nodes a × (behind (fuel bs) fs h a (toks bs (s.place + k)) ≡ g)) →
    Pays bs m m₁ count s.nodes e P (Some r)
grown_goes bs m m₁ count e P s x b k h r w high room falls y = grown_goes_high bs m m₁ count e P s x b k h r w room falls (λ g p. let z = y g p in (z.0, z.1, z.2, z.3, high, z.4))

-- after something else was written
pub goes_after : (bs m m₁ m₂ : List ℕ) (count n n₁ e e₁ : ℕ) (P Q : Reads Term → Type 0) (r : Option Turn) → n ≤ n₁ → 8448 ≤ n → 2 * n₁ + e₁ ≤ 2 * n + e → Kept 0 n m m₁ → ((g : Reads Term) → P g → Q g) → Pays bs m₁ m₂ count n₁ e₁ Q r → Pays bs m m₂ count n e P r
goes_after bs m m₁ m₂ count n n₁ e e₁ P Q r l low paid k h x =
    record {
      goes = record { kept = λ j a b. x.goes.kept j a (omega arith) ∙ k j a b; room = less r x.goes.room; falls = falls r x.goes.falls; meets = λ g p. x.goes.meets g (h g p) };
      spends = spends r x.spends;
    }
  where
    falls : (t : Option Turn) → Falls count e₁ t → Falls count e t
    falls (Some (Operand s)) y = omega arith
    falls (Some (After s i h)) y = omega arith
    falls (Some (Done s i)) y = tt
    falls None y = tt

    spends : (t : Option Turn) → Spends count n₁ e₁ t → Spends count n e t
    spends (Some (Operand s)) y = omega arith
    spends (Some (After s i h)) y = omega arith
    spends (Some (Done s i)) y = omega arith
    spends None y = tt

    weaker : (extra : ℕ) (s : Spot) → Room count n₁ extra s → Room count n extra s
    weaker extra s y = record { within = y.within; few = y.few; frames = y.frames; low = low; grown = omega (arith, y.grown); nodes = y.nodes }

    less : (t : Option Turn) → Roomy count n₁ t → Roomy count n t
    less (Some (Operand s)) y = weaker 0 s y
    less (Some (After s i h)) y = weaker 1 s y
    less (Some (Done s i)) y = weaker 1 s y
    less None y = tt

-- NODES

pub bit_byte : (b : Bool) → bool_byte b ≡ bit b
bit_byte true = refl
bit_byte false = refl

pub bit_is : (b : Bool) → eqb (bit b) 1 ≡ b
bit_is true = refl
bit_is false = refl

pub plain_is : (bs m : List ℕ) (n i : ℕ) (a : Term) → Tree bs m n i a → eqb (cell m i).flag 1 ≡ plain_term a
unfolding Tree plain_term
plain_is bs m n i (num k) x = ap (λ f. eqb f 1) x.plain ∙ bit_is _
plain_is bs m n i (txt b) x = ap (λ f. eqb f 1) x.1.plain ∙ bit_is _
plain_is bs m n i (var v) x = ap (λ f. eqb f 1) x.1.plain ∙ bit_is _
plain_is bs m n i (item v a) x = ap (λ f. eqb f 1) x.2.plain ∙ bit_is _
plain_is bs m n i (field a) x = ap (λ f. eqb f 1) x.1.plain ∙ bit_is _
plain_is bs m n i (un o a) x = ap (λ f. eqb f 1) x.2.plain ∙ bit_is _
plain_is bs m n i (bin o a b) x = ap (λ f. eqb f 1) x.3.plain ∙ bit_is _
plain_is bs m n i (like a p) x = ap (λ f. eqb f 1) x.2.plain ∙ bit_is _
plain_is bs m n i (there a v) x = ap (λ f. eqb f 1) x.2.plain ∙ bit_is _
plain_is bs m n i (put_in a b) x = ap (λ f. eqb f 1) x.2.plain ∙ bit_is _
plain_is bs m n i (call v ts) x = ap (λ f. eqb f 1) x.3.plain ∙ bit_is _
plain_is bs m n i (part a b c) x = ap (λ f. eqb f 1) x.3.plain ∙ bit_is _
plain_is bs m n i (split a v p) x = ap (λ f. eqb f 1) x.3.plain ∙ bit_is _
plain_is bs m n i (swap p a b) x = ap (λ f. eqb f 1) x.3.plain ∙ bit_is _

pub place_is : (bs m : List ℕ) (n i : ℕ) (a : Term) → Tree bs m n i a → a_place (term_of (cell m i)) ≡ can_set a
unfolding Tree
place_is bs m n i (num k) x = ap a_place x.is
place_is bs m n i (txt b) x = ap a_place x.1.is
place_is bs m n i (var v) x = ap a_place x.1.is
place_is bs m n i (item v a) x = ap a_place x.2.is
place_is bs m n i (field a) x = ap a_place x.1.is
place_is bs m n i (un o a) x = ap a_place x.2.is
place_is bs m n i (bin o a b) x = ap a_place x.3.is
place_is bs m n i (like a p) x = ap a_place x.2.is
place_is bs m n i (there a v) x = ap a_place x.2.is
place_is bs m n i (put_in a b) x = ap a_place x.2.is
place_is bs m n i (call v ts) x = ap a_place x.3.is
place_is bs m n i (part a b c) x = ap a_place x.3.is
place_is bs m n i (split a v p) x = ap a_place x.3.is
place_is bs m n i (swap p a b) x = ap a_place x.3.is

-- the node that was written last, over parts that were there
module _ (bs m m₁ : List ℕ) (n : ℕ) (low : 8448 ≤ n) where
  node_at : (x : TermNode) (p q : Bool) → p ≡ q → Made m m₁ n x p → At m₁ (n + 1) n x q
  node_at x p q e w = record { low = low; below = omega arith; is = w.here; plain = w.plain ∙ ap bit e }

  part_at : (x : TermNode) (p : Bool) (i : ℕ) (a : Term) → Made m m₁ n x p → Tree bs m n i a → Tree bs m₁ (n + 1) i a
  part_at x p i a w t = tree_kept bs m m₁ n (n + 1) (λ j p q. w.others j (λ z. omega arith)) (omega arith) a i t

  pub made_num : (k : ℕ) → Made m m₁ n (Number k) true → Tree bs m₁ (n + 1) n (num k)
  unfolding Tree
  made_num k w = node_at _ true true refl w

  pub made_txt : (q : ℕ) (b : List ℕ) → QuotedAt bs q b → Made m m₁ n (Text q) true → Tree bs m₁ (n + 1) n (txt b)
  unfolding Tree
  made_txt q b x w = (q, node_at _ true true refl w, x)

  pub made_var : (v : Name) (x : List ℕ) → Named bs v x → Made m m₁ n (Variable v) true → Tree bs m₁ (n + 1) n (var x)
  unfolding Tree
  made_var v x y w = (v, node_at _ true true refl w, y)

  pub made_item : (v : Name) (i : ℕ) (x : List ℕ) (a : Term) → Named bs v x → Tree bs m n i a → Made m m₁ n (Item v i) false → Tree bs m₁ (n + 1) n (item x a)
  unfolding Tree
  made_item v i x a y t w = (v, i, node_at _ false false refl w, y, part_at _ false i a w t)

  pub made_field : (i : ℕ) (p : Bool) (a : Term) → p ≡ plain_term a → Tree bs m n i a → Made m m₁ n (Field i) p → Tree bs m₁ (n + 1) n (field a)
  unfolding Tree
  made_field i p a e t w = (i, node_at _ p _ e w, part_at _ p i a w t)

  pub made_un : (o : Prefix) (i : ℕ) (p : Bool) (a : Term) → p ≡ (leb (prefix_number o) 1 && plain_term a) → Tree bs m n i a → Made m m₁ n (Unary o i) p → Tree bs m₁ (n + 1) n (un (prefix_number o) a)
  unfolding Tree
  made_un o i p a e t w = (o, i, node_at _ p _ e w, refl, part_at _ p i a w t)

  pub made_bin : (o : Operator) (i j : ℕ) (p : Bool) (a b : Term) → p ≡ (not (eqb (operator_number o) 12) && (plain_term a && plain_term b)) → Tree bs m n i a → Tree bs m n j b → Made m m₁ n (Binary o i j) p → Tree bs m₁ (n + 1) n (bin (operator_number o) a b)
  unfolding Tree
  made_bin o i j p a b e t u w = (o, i, j, node_at _ p _ e w, refl, part_at _ p i a w t, part_at _ p j b w u)

  pub made_like : (i q : ℕ) (a : Term) (p : Pattern) → Tree bs m n i a → PatternAt bs q p → Made m m₁ n (Like i q) false → Tree bs m₁ (n + 1) n (like a p)
  unfolding Tree
  made_like i q a p t x w = (i, q, node_at _ false false refl w, part_at _ false i a w t, x)

  pub made_there : (i : ℕ) (v : Name) (a : Term) (x : List ℕ) → Tree bs m n i a → Named bs v x → Made m m₁ n (There i v) false → Tree bs m₁ (n + 1) n (there a x)
  unfolding Tree
  made_there i v a x t y w = (i, v, node_at _ false false refl w, part_at _ false i a w t, y)

  pub made_set : (i j : ℕ) (p : Bool) (a b : Term) → p ≡ (plain_term a && plain_term b) → Tree bs m n i a → Tree bs m n j b → Made m m₁ n (Assign i j) p → Tree bs m₁ (n + 1) n (put_in a b)
  unfolding Tree
  made_set i j p a b e t u w = (i, j, node_at _ p _ e w, part_at _ p i a w t, part_at _ p j b w u)

  pub made_call : (v : Name) (l : ℕ) (x : List ℕ) (ts : Terms) → Named bs v x → TermsAt bs m n l ts → Made m m₁ n (Call v l) false → Tree bs m₁ (n + 1) n (call x ts)
  unfolding Tree
  made_call v l x ts y t w =
      let u = terms_kept bs m m₁ n (n + 1) (λ j p q. w.others j (λ z. omega arith)) (omega arith) l ts t in
      (v, l, u.first, node_at _ false false refl w, y, u.empty, u.plain, u.chain)

  pub made_part : (i j k : ℕ) (a b c : Term) → Tree bs m n i a → Tree bs m n j b → Tree bs m n k c → Made m m₁ n (Part i j k) false → Tree bs m₁ (n + 1) n (part a b c)
  unfolding Tree
  made_part i j k a b c t u v w = (i, j, k, node_at _ false false refl w, part_at _ false i a w t, part_at _ false j b w u, part_at _ false k c w v)

  pub made_split : (i : ℕ) (v : Name) (q : ℕ) (a : Term) (x : List ℕ) (p : Pattern) → Tree bs m n i a → Named bs v x → PatternAt bs q p → Made m m₁ n (Split i v q) false → Tree bs m₁ (n + 1) n (split a x p)
  unfolding Tree
  made_split i v q a x p t y z w = (i, v, q, node_at _ false false refl w, part_at _ false i a w t, y, z)

  pub made_swap : (q i j : ℕ) (p : Pattern) (a b : Term) → PatternAt bs q p → Tree bs m n i a → Tree bs m n j b → Made m m₁ n (Swap q i j) false → Tree bs m₁ (n + 1) n (swap p a b)
  unfolding Tree
  made_swap q i j p a b x t u w = (q, i, j, node_at _ false false refl w, x, part_at _ false i a w t, part_at _ false j b w u)

  -- lists
  pub made_none : Listed m m₁ n Empty true → TermsAt bs m₁ (n + 1) n no_terms
  unfolding Chain plain_terms
  made_none w = record { first = n; empty = record { low = low; below = omega arith; is = w.here }; plain = w.plain; chain = refl }

  chain_more : (i e k : ℕ) (ts : Terms) (t : Term) → ListAt m₁ (n + 1) n (Longer i k) → Tree bs m₁ (n + 1) k t → Chain bs m₁ (n + 1) i e ts → Chain bs m₁ (n + 1) n e (joined_terms ts (term_and t no_terms))
  unfolding Chain joined_terms
  chain_more i e k no_terms t w x c = (n, k, subst (λ j. ListAt m₁ (n + 1) n (Longer j k)) c w, x, refl)
  chain_more i e k (term_and u ts) t w x c = (c.0, c.1, c.2, c.3, chain_more i c.0 k ts t w x c.4)

  plain_more : (ts : Terms) (t : Term) → plain_terms (joined_terms ts (term_and t no_terms)) ≡ (plain_terms ts && plain_term t)
  unfolding joined_terms plain_terms
  plain_more no_terms t = go (plain_term t)
    where
      go : (b : Bool) → (b && true) ≡ b
      go true = refl
      go false = refl
  plain_more (term_and u ts) t = ap (λ b. plain_term u && b) (plain_more ts t) ∙ go (plain_term u)
    where
      go : (b : Bool) → (b && (plain_terms ts && plain_term t)) ≡ ((b && plain_terms ts) && plain_term t)
      go true = refl
      go false = refl

  pub made_more : (i k : ℕ) (p : Bool) (ts : Terms) (t : Term) → p ≡ (plain_terms ts && plain_term t) → TermsAt bs m n i ts → Tree bs m n k t → Listed m m₁ n (Longer i k) p → TermsAt bs m₁ (n + 1) n (joined_terms ts (term_and t no_terms))
  made_more i k p ts t e x u w =
      let h : Kept 8448 n m m₁ = λ j p q. w.others j (λ z. omega arith) in
      let y = terms_kept bs m m₁ n (n + 1) h (omega arith) i ts x in
      record {
        first = y.first;
        empty = y.empty;
        plain = w.plain ∙ ap bit (e ∙ sym (plain_more ts t));
        chain = chain_more i y.first k ts t (record { low = low; below = omega arith; is = w.here }) (tree_kept bs m m₁ n (n + 1) h (omega arith) t k u) y.chain;
      }
