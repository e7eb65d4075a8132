-- What was begun ends, in memory.
use Rattle.std.proofs.Common.{◌≡◌, ℕ, suc, ◌+◌, ◌-◌, ◌<◌, ◌≤◌, Bool, true, false, ◌&&◌, eqb, leb, List, ◌∷◌, Some, None, Option, sym, refl, ap, ◌∙◌, subst, arith, eq-eqb, ne_eqb, eqb-true}
use borrow.Author.Tests.{eqb-false, lt-leb}
use Rattle.language.specs.Text.{pick, Pattern}
use Rattle.language.specs.Program.{Term, split, none, got, with_got, Reads, past, sees, name_of, pattern_here}
use Rattle.language.specs.Known.{plain_term}
use Rattle.parser.specs.declared.nodes.Prefix.{Prefix}
use Rattle.parser.specs.declared.nodes.TermNode.{TermNode}
use Rattle.parser.specs.declared.frames.Frame.{Frame}
use Rattle.parser.specs.declared.frames.Spot.{Spot}
use Rattle.parser.specs.declared.frames.Turn.{Turn}
use Rattle.parser.specs.Nodes.{Tree, Made, prefix_number}
use Rattle.lexer.specs.Places.{fuel, toks}
use Rattle.parser.specs.Frames.{Begun, in_split, high_of, before, behind, resume, FrameSays, Stack, Ended, Room, effort, Pays, Grown, Closing, Parting, OnTop}
use Rattle.parser.proofs.Keeping.{Top, top}
use Rattle.lexer.specs.Marks.{TokensIn}
use Rattle.lexer.proofs.Reach.{rest_toks, rest_three, sees_ahead}
use Rattle.parser.proofs.Moves.{failed_goes, pushed_goes, grown_goes, grown_goes_high}
use Rattle.parser.proofs.Operands.{past_is, past_none}

-- a closing sign, or a failure
pub close_goes : (bs m m₁ : List ℕ) (count e : ℕ) (P : Reads Term → Type 0) (s : Spot) (x : TermNode) (p : Bool) (c : ℕ) (r : Option Turn) → Closing m m₁ s x p r (sees c (toks bs s.place)) →
    (sees c (toks bs s.place) ≡ true → Room count s.nodes 1 (record { place = s.place + 1; depth = s.depth; nodes = s.nodes + 1 })) →
    (s.place + 1 ≤ count → effort count (record { place = s.place + 1; depth = s.depth; nodes = s.nodes + 1 }) + 3 < e) →
    ((g : Reads Term) → P g → (fs : List Begun) × (a : Term) × Stack bs m s.nodes s.depth fs × (Made m m₁ s.nodes x p → Tree bs m₁ (s.nodes + 1) s.nodes a) × (past c (toks bs s.place) (λ us. behind (fuel bs) fs 8 a us) ≡ g)) →
    Pays bs m m₁ count s.nodes e P r
close_goes bs m m₁ count e P s x p c r w room falls h = go (sees c (toks bs s.place)) refl w
  where
    go : (b : Bool) → sees c (toks bs s.place) ≡ b → Closing m m₁ s x p r b → Pays bs m m₁ count s.nodes e P r
    go true t v =
        subst (λ q. Pays bs m m₁ count s.nodes e P q) (sym v.1) (grown_goes bs m m₁ count e P s x p 1 8 v.0 v.2 (omega arith) (room t) (falls (room t).within) (λ g y.
        let z = h g y in
        (z.0, z.1, z.2, z.3 v.2.made, ap (λ us. behind (fuel bs) z.0 8 z.1 us) (sym (rest_toks bs s.place)) ∙ sym (past_is c (toks bs s.place) (λ us. behind (fuel bs) z.0 8 z.1 us) t) ∙ z.4)))
    go false t v =
        subst (λ q. Pays bs m q count s.nodes e P r) (sym v.1) (subst (λ q. Pays bs m m count s.nodes e P q) (sym v.0)
        (failed_goes bs m count s.nodes e P (λ g y. let z = h g y in sym (past_none c (toks bs s.place) (λ us. behind (fuel bs) z.0 8 z.1 us) t) ∙ z.4)))

-- a comma, or a failure
pub part_goes : (bs m m₁ : List ℕ) (count e : ℕ) (P : Reads Term → Type 0) (s : Spot) (f : Frame) (r : Option Turn) → Parting m m₁ s f r (sees 44 (toks bs s.place)) →
    (sees 44 (toks bs s.place) ≡ true → Room count s.nodes 0 (record { place = s.place + 1; depth = s.depth + 1; nodes = s.nodes })) →
    effort count (record { place = s.place + 1; depth = s.depth + 1; nodes = s.nodes }) < e →
    ((g : Reads Term) → P g → (fs : List Begun) × (b : Begun) × Stack bs m s.nodes s.depth fs × FrameSays bs m s.nodes f b × (past 44 (toks bs s.place) (λ us. before (fuel bs) (b ∷ fs) us) ≡ g)) →
    Pays bs m m₁ count s.nodes e P r
part_goes bs m m₁ count e P s f r w room falls h = go (sees 44 (toks bs s.place)) refl w
  where
    go : (b : Bool) → sees 44 (toks bs s.place) ≡ b → Parting m m₁ s f r b → Pays bs m m₁ count s.nodes e P r
    go true t v =
        subst (λ q. Pays bs m m₁ count s.nodes e P q) (sym v.1) (pushed_goes bs m m₁ count e P s f 1 v.0 v.2 (room t) falls (λ g y.
        let z = h g y in
        (z.0, z.1, z.2, z.3, ap (λ us. before (fuel bs) (z.1 ∷ z.0) us) (sym (rest_toks bs s.place)) ∙ sym (past_is 44 (toks bs s.place) (λ us. before (fuel bs) (z.1 ∷ z.0) us) t) ∙ z.4)))
    go false t v =
        subst (λ q. Pays bs m q count s.nodes e P r) (sym v.1) (subst (λ q. Pays bs m m count s.nodes e P q) (sym v.0)
        (failed_goes bs m count s.nodes e P (λ g y. let z = h g y in sym (past_none 44 (toks bs s.place) (λ us. before (fuel bs) (z.1 ∷ z.0) us) t) ∙ z.4)))

-- the frame on top of what ended
pub topmost : (bs m : List ℕ) (s : Spot) (i : ℕ) (f : Frame) (g : Reads Term) → OnTop m s f → (y : Ended bs m s i g) → Top bs m s.nodes (s.depth - 1) f y.begun
topmost bs m s i f g o y = top bs m s.nodes s.depth (s.depth - 1) f y.begun (let z = o.deep in omega arith) o.is y.stack

-- with what was begun last written out
pub resumed : (bs m : List ℕ) (s : Spot) (i : ℕ) (f : Frame) (g : Reads Term) (y : Ended bs m s i g) (t : Top bs m s.nodes (s.depth - 1) f y.begun) (b : Begun) → t.first ≡ b → resume (fuel bs) (b ∷ t.others) y.operand (toks bs s.place) ≡ g
resumed bs m s i f g y t b e = ap (λ fs. resume (fuel bs) fs y.operand (toks bs s.place)) (sym (t.is ∙ ap (λ x. x ∷ t.others) e)) ∙ y.means

pub high_is : (k l : ℕ) → l ≡ suc k → pick (eqb l 5) 4 l ≡ high_of k
high_is k l e = go (eqb k 4) refl
  where
    go : (b : Bool) → eqb k 4 ≡ b → pick (eqb l 5) 4 l ≡ high_of k
    go true t = let q : k ≡ 4 = eqb-true k 4 t in rw (eq-eqb l 5 (omega arith), t) refl
    go false t = let q : l ≡ 5 → ⊥ = λ z. eqb-false k 4 t (omega arith) in rw (ne_eqb l 5 q, t) e

pub high_small : (k : ℕ) → k ≤ 7 → high_of k ≤ 8
high_small k h = go (eqb k 4)
  where
    go : (b : Bool) → pick b 4 (suc k) ≤ 8
    go true = omega arith
    go false = omega arith

pub length_not_plain : (p : Prefix) (a : Term) → 2 ≤ prefix_number p → false ≡ (leb (prefix_number p) 1 && plain_term a)
length_not_plain p a h = ap (λ b. b && plain_term a) (sym (lt-leb (prefix_number p) 1 (omega arith)))

-- split, part by part
module _ (bs : List ℕ) (N : ℕ) (fs : List Begun) (a : Term) (p : ℕ) where
  pub split_comma : sees 44 (toks bs p) ≡ false → resume N (in_split ∷ fs) a (toks bs p) ≡ none
  unfolding resume
  split_comma t = past_none 44 (toks bs p) (λ vs. with_got (name_of vs) (λ x ws. past 44 ws (λ xs. with_got (pattern_here xs) (λ q ys. past 41 ys (λ zs. behind N fs 8 (split a x q) zs))))) t

  split_on : sees 44 (toks bs p) ≡ true → resume N (in_split ∷ fs) a (toks bs p) ≡ with_got (name_of (toks bs (p + 1))) (λ x ws. past 44 ws (λ xs. with_got (pattern_here xs) (λ q ys. past 41 ys (λ zs. behind N fs 8 (split a x q) zs))))
  unfolding resume
  split_on t = past_is 44 (toks bs p) (λ vs. with_got (name_of vs) (λ x ws. past 44 ws (λ xs. with_got (pattern_here xs) (λ q ys. past 41 ys (λ zs. behind N fs 8 (split a x q) zs))))) t ∙ ap (λ vs. with_got (name_of vs) (λ x ws. past 44 ws (λ xs. with_got (pattern_here xs) (λ q ys. past 41 ys (λ zs. behind N fs 8 (split a x q) zs))))) (rest_toks bs p)

  pub split_name : sees 44 (toks bs p) ≡ true → name_of (toks bs (p + 1)) ≡ none → resume N (in_split ∷ fs) a (toks bs p) ≡ none
  split_name t g = split_on t ∙ ap (λ h. with_got h (λ x ws. past 44 ws (λ xs. with_got (pattern_here xs) (λ q ys. past 41 ys (λ zs. behind N fs 8 (split a x q) zs))))) g

  named : (x : List ℕ) → sees 44 (toks bs p) ≡ true → name_of (toks bs (p + 1)) ≡ got x (toks bs (p + 2)) → resume N (in_split ∷ fs) a (toks bs p) ≡ past 44 (toks bs (p + 2)) (λ xs. with_got (pattern_here xs) (λ q ys. past 41 ys (λ zs. behind N fs 8 (split a x q) zs)))
  named x t g = split_on t ∙ ap (λ h. with_got h (λ x ws. past 44 ws (λ xs. with_got (pattern_here xs) (λ q ys. past 41 ys (λ zs. behind N fs 8 (split a x q) zs))))) g

  pub split_second : (x : List ℕ) → sees 44 (toks bs p) ≡ true → name_of (toks bs (p + 1)) ≡ got x (toks bs (p + 2)) → sees 44 (toks bs (p + 2)) ≡ false → resume N (in_split ∷ fs) a (toks bs p) ≡ none
  split_second x t g u = named x t g ∙ past_none 44 (toks bs (p + 2)) (λ xs. with_got (pattern_here xs) (λ q ys. past 41 ys (λ zs. behind N fs 8 (split a x q) zs))) u

  parted : (x : List ℕ) → sees 44 (toks bs p) ≡ true → name_of (toks bs (p + 1)) ≡ got x (toks bs (p + 2)) → sees 44 (toks bs (p + 2)) ≡ true → resume N (in_split ∷ fs) a (toks bs p) ≡ with_got (pattern_here (toks bs (p + 3))) (λ q ys. past 41 ys (λ zs. behind N fs 8 (split a x q) zs))
  parted x t g u = named x t g ∙ past_is 44 (toks bs (p + 2)) (λ xs. with_got (pattern_here xs) (λ q ys. past 41 ys (λ zs. behind N fs 8 (split a x q) zs))) u ∙ ap (λ xs. with_got (pattern_here xs) (λ q ys. past 41 ys (λ zs. behind N fs 8 (split a x q) zs))) (rest_three bs p)

  pub split_pattern : (x : List ℕ) → sees 44 (toks bs p) ≡ true → name_of (toks bs (p + 1)) ≡ got x (toks bs (p + 2)) → sees 44 (toks bs (p + 2)) ≡ true → pattern_here (toks bs (p + 3)) ≡ none → resume N (in_split ∷ fs) a (toks bs p) ≡ none
  split_pattern x t g u h = parted x t g u ∙ ap (λ k. with_got k (λ q ys. past 41 ys (λ zs. behind N fs 8 (split a x q) zs))) h

  pub split_all : (x : List ℕ) (q : Pattern) → sees 44 (toks bs p) ≡ true → name_of (toks bs (p + 1)) ≡ got x (toks bs (p + 2)) → sees 44 (toks bs (p + 2)) ≡ true → pattern_here (toks bs (p + 3)) ≡ got q (toks bs (p + 4)) →
      resume N (in_split ∷ fs) a (toks bs p) ≡ past 41 (toks bs (p + 4)) (λ zs. behind N fs 8 (split a x q) zs)
  split_all x q t g u h = parted x t g u ∙ ap (λ k. with_got k (λ q ys. past 41 ys (λ zs. behind N fs 8 (split a x q) zs))) h

-- the last frame ends with the operand that it waited for: what it then means is said of any frames below it
pub end_fail : (bs m : List ℕ) (count : ℕ) (s : Spot) (i : ℕ) (f : Frame) → OnTop m s f →
    ((a : Term) → Tree bs m s.nodes i a → (b : Begun) → FrameSays bs m s.nodes f b → (fs : List Begun) → none ≡ resume (fuel bs) (b ∷ fs) a (toks bs s.place)) →
    Pays bs m m count s.nodes (effort count s + 3) (Ended bs m s i) None
end_fail bs m count s i f o j =
    failed_goes bs m count s.nodes (effort count s + 3) (Ended bs m s i) (λ g y.
    let v = topmost bs m s i f g o y in j y.operand y.tree v.first v.says v.others ∙ resumed bs m s i f g y v v.first refl)

module _ (bs m m₁ : List ℕ) (count : ℕ) (s : Spot) (i : ℕ) (f : Frame) (k : TokensIn bs m count) (room : Room count s.nodes 1 s) (o : OnTop m s f) where
  -- by a node, with no token more
  pub end_grown : (x : TermNode) (p : Bool) (h : ℕ) (r : Turn) → Grown m m₁ (record { place = s.place; depth = s.depth - 1; nodes = s.nodes }) x p 0 h r →
      ((a : Term) → Tree bs m s.nodes i a → (b : Begun) → FrameSays bs m s.nodes f b →
      (t : Term) × (Made m m₁ s.nodes x p → Tree bs m₁ (s.nodes + 1) s.nodes t) × (h ≤ 8) × ((fs : List Begun) → behind (fuel bs) fs h t (toks bs s.place) ≡ resume (fuel bs) (b ∷ fs) a (toks bs s.place))) →
      Pays bs m m₁ count s.nodes (effort count s + 3) (Ended bs m s i) (Some r)
  end_grown x p h r w j =
      let d = o.deep in
      grown_goes_high bs m m₁ count (effort count s + 3) (Ended bs m s i) (record { place = s.place; depth = s.depth - 1; nodes = s.nodes }) x p 0 h r w
      (record { within = omega (arith, room.within); few = room.few; frames = omega (arith, room.frames); low = room.low; grown = omega arith; nodes = omega (arith, room.nodes) })
      (omega arith)
      (λ g y.
      let v = topmost bs m s i f g o y in
      let z = j y.operand y.tree v.first v.says in
      let e : s.place + 0 ≡ s.place = omega arith in
      (v.others, z.0, v.stack, z.1 w.made, z.2, ap (λ u. behind (fuel bs) v.others h z.0 (toks bs u)) e ∙ z.3 v.others ∙ resumed bs m s i f g y v v.first refl))

  -- by a node behind a sign at a place further on
  pub end_close_at : (p : ℕ) → s.place ≤ p → (x : TermNode) (c : ℕ) (r : Option Turn) → Closing m m₁ (record { place = p; depth = s.depth - 1; nodes = s.nodes }) x false r (sees c (toks bs p)) →
      ((a : Term) → Tree bs m s.nodes i a → (b : Begun) → FrameSays bs m s.nodes f b →
      (t : Term) × (Made m m₁ s.nodes x false → Tree bs m₁ (s.nodes + 1) s.nodes t) × ((fs : List Begun) → past c (toks bs p) (λ us. behind (fuel bs) fs 8 t us) ≡ resume (fuel bs) (b ∷ fs) a (toks bs s.place))) →
      Pays bs m m₁ count s.nodes (effort count s + 3) (Ended bs m s i) r
  end_close_at p q x c r w j =
      let d = o.deep in
      close_goes bs m m₁ count (effort count s + 3) (Ended bs m s i) (record { place = p; depth = s.depth - 1; nodes = s.nodes }) x false c r w
      (λ t. let a : p < count = sees_ahead bs m count p c k t in record { within = omega arith; few = room.few; frames = omega (arith, room.frames); low = room.low; grown = omega arith; nodes = omega (arith, room.nodes) })
      (λ t. omega arith)
      (λ g y.
      let v = topmost bs m s i f g o y in
      let z = j y.operand y.tree v.first v.says in
      (v.others, z.0, v.stack, z.1, z.2 v.others ∙ resumed bs m s i f g y v v.first refl))

  -- by a node behind the next sign
  pub end_close : (x : TermNode) (c : ℕ) (r : Option Turn) → Closing m m₁ (record { place = s.place; depth = s.depth - 1; nodes = s.nodes }) x false r (sees c (toks bs s.place)) →
      ((a : Term) → Tree bs m s.nodes i a → (b : Begun) → FrameSays bs m s.nodes f b →
      (t : Term) × (Made m m₁ s.nodes x false → Tree bs m₁ (s.nodes + 1) s.nodes t) × ((fs : List Begun) → past c (toks bs s.place) (λ us. behind (fuel bs) fs 8 t us) ≡ resume (fuel bs) (b ∷ fs) a (toks bs s.place))) →
      Pays bs m m₁ count s.nodes (effort count s + 3) (Ended bs m s i) r
  end_close x c r w j = end_close_at s.place (omega arith) x c r w j

  -- by another frame behind a comma
  pub end_part : (f₁ : Frame) (r : Option Turn) → Parting m m₁ (record { place = s.place; depth = s.depth - 1; nodes = s.nodes }) f₁ r (sees 44 (toks bs s.place)) →
      ((a : Term) → Tree bs m s.nodes i a → (b : Begun) → FrameSays bs m s.nodes f b →
      (b₁ : Begun) × FrameSays bs m s.nodes f₁ b₁ × ((fs : List Begun) → past 44 (toks bs s.place) (λ us. before (fuel bs) (b₁ ∷ fs) us) ≡ resume (fuel bs) (b ∷ fs) a (toks bs s.place))) →
      Pays bs m m₁ count s.nodes (effort count s + 3) (Ended bs m s i) r
  end_part f₁ r w j =
      let d = o.deep in
      part_goes bs m m₁ count (effort count s + 3) (Ended bs m s i) (record { place = s.place; depth = s.depth - 1; nodes = s.nodes }) f₁ r w
      (λ t. let a : s.place < count = sees_ahead bs m count s.place 44 k t in record { within = omega arith; few = room.few; frames = omega (arith, room.frames); low = room.low; grown = omega arith; nodes = omega (arith, room.nodes) })
      (omega arith)
      (λ g y.
      let v = topmost bs m s i f g o y in
      let z = j y.operand y.tree v.first v.says in
      (v.others, z.0, v.stack, z.1, z.2 v.others ∙ resumed bs m s i f g y v v.first refl))
